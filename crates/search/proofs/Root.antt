-- The root of an accepted record. Its pieces are the trees of two or more bonds: each is a fragment, no two meet, each fragment of two or more bonds lies in one;
-- and their number, their sizes, the root's index and its largest removed.
use mathlib.Core.Path.{◌≡◌, ◌∙◌, ap, refl}
use mathlib.Core.List.{List, [], ◌∷◌, Memᴰ as Mem}
use Prim.Native.Nat.{ℕ, ◌+◌, ◌-◌, ◌*◌, ◌≤◌, ◌^◌}
use native.Mathlib.Omega.{arith}
use lib.Bits.{and_self}
use lib.Dec.{leb}
use lib.ListN.{length}
use borrow.Author.Tests.{le-leb}
use Rattle.bitset.specs.Bits.{Sub, size}
use Rattle.bitset.proofs.Laws.{size_mono, size_first, sub_trans}
use Rattle.molecule.specs.Lists.{Bytes}
use Rattle.molecule.specs.Record.{bonds, all_bonds, atoms}
use Rattle.molecule.specs.Check.{accepted, check}
use Rattle.molecule.specs.Touch.{components}
use Rattle.molecule.specs.Connected.{Own, Connected, Apart}
use Rattle.molecule.proofs.Components.{own_all, all_own, components_connected, components_inside, components_self}
use Rattle.molecule.proofs.Perms.{keep_intro}
use Rattle.bounds.specs.Numbers.{sum_of, max_of}
use Rattle.bounds.specs.Inner.Removals.{Split, InOnePiece, PiecesWithin}
use Rattle.bounds.proofs.Numbers.{le_max, max_le, max_reached, mem_sum}
use Rattle.bounds.proofs.Steps.{less_split}
use Rattle.search.specs.State.{big_components, bond_trees, root_pieces, root_index}
use Rattle.search.proofs.Lists.{sum_big, count_two, split_count}
use Rattle.search.proofs.Parts.{few, components_split, big_is, big_covers, big_apart, big_size}
use Rattle.std.proofs.lemmas.List.{nil_from_length}
use Rattle.molecule.proofs.Whole.{all_connected}
use mathlib.Core.List.Memᴰ.{eq_of_singleton as mem_one}
use mathlib.Core.Bool.{true}
use mathlib.Core.List.Memᴰ.{head as m_head}

-- without bonds no set has a component, so there is no tree that has bonds, and the index is 0; this assumes nothing else
pub no_part : (r : Bytes) → bonds r ≡ 0 → (s : ℕ) → Sub s (all_bonds r) → components r s ≡ []
no_part r e s o = none (components r s) (components_connected r (omega arith) s (all_own r s o))
  where
    none : (l : List ℕ) → ((c : ℕ) → Mem c l → Connected r c × Sub c s) → l ≡ []
    none [] h = refl
    none (c ∷ l) h = let w = h c (m_head refl) in absurd (w.0.some (omega (arith, all_own r c (sub_trans c s (all_bonds r) w.1 o), ap (λ (n : ℕ). 2 ^ n) e)))

pub no_tree : (r : Bytes) → bonds r ≡ 0 → bond_trees r ≡ []
no_tree r e = no_part r e (all_bonds r) (and_self (all_bonds r))

pub no_index : (r : Bytes) → bonds r ≡ 0 → root_index r ≡ 0
no_index r e = ap (sum_of (λ (t : ℕ). size t - 1)) (no_tree r e)

module _ (r : Bytes) (ok : check r ≡ accepted) where
  whole : Sub (all_bonds r) (all_bonds r)
  whole = and_self (all_bonds r)

  own : Own r (all_bonds r)
  own = all_own r (all_bonds r) whole

  -- the trees are what all bonds fall into
  split : Split (all_bonds r) (bond_trees r)
  split = components_split r ok (all_bonds r) whole

  -- ---- its pieces

  pub root_is : (c : ℕ) → Mem c (root_pieces r) → Connected r c × Sub c (all_bonds r) × (2 ≤ size c)
  root_is = big_is r ok (all_bonds r) whole

  pub root_covers : (f : ℕ) → Connected r f → Own r f → 2 ≤ size f → InOnePiece f (root_pieces r)
  root_covers f k o l = big_covers r ok (all_bonds r) whole f k l (own_all r f o)

  pub pieces_own : (c : ℕ) → Mem c (root_pieces r) → Own r c × Connected r c
  pieces_own c i = let w = root_is c i in (all_own r c w.1, w.0)

  pub pieces_within : PiecesWithin (all_bonds r) (root_pieces r)
  pieces_within c i = (root_is c i).1

  pub root_apart : Apart (root_pieces r)
  root_apart = big_apart r ok (all_bonds r) whole

  -- ---- numbers

  -- the pieces have at most all bonds
  pub root_size : sum_of size (root_pieces r) ≤ bonds r
  root_size = omega (arith, big_size r ok (all_bonds r) whole, size_first (bonds r))

  -- so they are at most half as many, and 32
  pub root_half : 2 * length (root_pieces r) ≤ bonds r
  root_half = omega (arith, count_two (root_pieces r) (λ c i. (root_is c i).2), root_size)

  pub root_few : length (root_pieces r) ≤ 32
  root_few = omega (arith, root_half, few r ok)

  -- the root's index and the trees that have bonds are as many as the bonds
  pub root_count : root_index r + length (bond_trees r) ≡ bonds r
  root_count = split_count (bond_trees r) (all_bonds r) split ∙ size_first (bonds r)

  pub root_index_most : root_index r ≤ bonds r - 1
  root_index_most = omega (arith, less_split (bond_trees r) (all_bonds r) split, size_first (bonds r))

  -- it is the sum over its pieces too
  pub root_less : sum_of (λ (c : ℕ). size c - 1) (root_pieces r) ≡ root_index r
  unfolding big_components
  root_less = sum_big (bond_trees r)

  -- ---- the largest tree

  -- no fragment is larger
  pub root_most : (f : ℕ) → Connected r f → Own r f → size f ≤ max_of size (bond_trees r)
  root_most f k o =
      let w = components_inside r (few r ok) (all_bonds r) own f k (own_all r f o) in
      omega (arith, size_mono f w.0 w.2, le_max size (bond_trees r) w.0 w.1)

  pub root_largest : max_of size (bond_trees r) ≤ bonds r
  root_largest =
      max_le size (bond_trees r) (bonds r)
      (λ c i. omega (arith, size_mono c (all_bonds r) (components_connected r (few r ok) (all_bonds r) own c i).1, size_first (bonds r)))

  -- it is a piece, where it has two bonds or more
  pub root_widest : 2 ≤ max_of size (bond_trees r) → (p : ℕ) × Mem p (root_pieces r) × (size p ≡ max_of size (bond_trees r))
  unfolding big_components
  root_widest l =
      let w = max_reached size (bond_trees r) (omega arith) in
      (w.0, keep_intro (λ c. leb 2 (size c)) (bond_trees r) w.1 (le-leb 2 (size w.0) (omega (arith, w.2))), w.2)

  -- ---- one tree, and one bond or none

  -- up to one bond is no piece
  pub no_piece : bonds r ≤ 1 → root_pieces r ≡ []
  no_piece l = nil_from_length (root_pieces r) (omega (arith, root_half))

  module _ (one : atoms r ≡ bonds r + 1) where
    -- one tree has all bonds
    pub one_trees : 1 ≤ bonds r → bond_trees r ≡ all_bonds r ∷ []
    one_trees some = components_self r (few r ok) (all_bonds r) own (all_connected r ok one some)

    -- and is the only piece
    pub one_piece : 2 ≤ bonds r → root_pieces r ≡ all_bonds r ∷ []
    unfolding big_components
    one_piece l =
        let e : leb 2 (size (all_bonds r)) ≡ true = le-leb 2 (size (all_bonds r)) (omega (arith, size_first (bonds r))) in
        rw (one_trees (omega arith), e)

    pub piece_all : (x : ℕ) → Mem x (root_pieces r) → (2 ≤ bonds r) × (x ≡ all_bonds r)
    piece_all x i =
        let l : 2 ≤ bonds r = omega (arith, (root_is x i).2, mem_sum size (root_pieces r) x i, root_size) in
        (l, mem_one (rw (one_piece l) at i))
