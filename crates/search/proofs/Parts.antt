-- The components of two or more bonds, as letting go and removing take them: each is a fragment, no two meet, each fragment of the set lies in one, and their sizes. Of an accepted record.
use mathlib.Core.Path.{◌≡◌}
use mathlib.Core.Logic.{◌≢◌}
use mathlib.Core.List.{Memᴰ as Mem}
use Prim.Native.Nat.{ℕ, ◌-◌, ◌≤◌}
use native.Mathlib.Omega.{arith}
use lib.Dec.{leb}
use borrow.Author.Tests.{leb-true, le-leb}
use Rattle.bitset.specs.Bits.{Sub, size}
use Rattle.bitset.proofs.Laws.{size_mono, size_zero}
use Rattle.molecule.specs.Lists.{Bytes}
use Rattle.molecule.specs.Record.{bonds, all_bonds}
use Rattle.molecule.specs.Touch.{components}
use Rattle.molecule.specs.Check.{accepted, check}
use Rattle.molecule.specs.Connected.{Own, Connected, Apart}
use Rattle.molecule.proofs.Accepted.{accepted_formed}
use Rattle.molecule.proofs.Components.{all_own, components_connected, components_inside, components_apart, components_union}
use Rattle.molecule.proofs.Perms.{keep_mem, keep_intro}
use Rattle.bounds.specs.Numbers.{sum_of}
use Rattle.bounds.specs.Inner.Removals.{Split, InOnePiece}
use Rattle.bounds.proofs.Savings.{split_size}
use Rattle.bounds.proofs.Steps.{apart_big, split_of, less_split}
use Rattle.search.specs.State.{big_components}
use Rattle.search.proofs.Lists.{sum_filter}

module _ (r : Bytes) (ok : check r ≡ accepted) where
  -- an accepted record has 64 bonds at most
  pub few : bonds r ≤ 64
  few = (accepted_formed r ok).sized.few

  module _ (s : ℕ) (in_all : Sub s (all_bonds r)) where
    own : Own r s
    own = all_own r s in_all

    -- a set falls into its components: none is empty, no two meet, and together they are the set
    pub components_split : Split s (components r s)
    components_split =
        split_of (components r s) s
        (λ c m. let n : size c ≢ 0 = λ e. (components_connected r few s own c m).0.some (size_zero c e) in omega arith)
        (components_apart r few s own) (components_union r few s own)

    -- a big component is a connected part of two bonds or more
    pub big_is : (c : ℕ) → Mem c (big_components r s) → Connected r c × Sub c s × (2 ≤ size c)
    unfolding big_components
    big_is c i =
        let w = keep_mem (λ c. leb 2 (size c)) (components r s) i in
        let k = components_connected r few s own c w.0 in
        (k.0, k.1, leb-true 2 (size c) w.1)

    -- a fragment of two bonds or more lies in one of them
    pub big_covers : (f : ℕ) → Connected r f → 2 ≤ size f → Sub f s → InOnePiece f (big_components r s)
    unfolding big_components
    big_covers f k t q =
        let w = components_inside r few s own f k q in
        (w.0, keep_intro (λ c. leb 2 (size c)) (components r s) w.1 (le-leb 2 (size w.0) (omega (arith, size_mono f w.0 w.2))), w.2)

    -- no two of them meet
    pub big_apart : Apart (big_components r s)
    unfolding big_components
    big_apart = apart_big (components r s) (components_apart r few s own)

    -- together they have at most the bonds of s
    pub big_size : sum_of size (big_components r s) ≤ size s
    unfolding big_components
    big_size = omega (arith, sum_filter size (λ c. leb 2 (size c)) (components r s), split_size (components r s) s components_split)

    -- and so with one bond less of each
    pub big_less : sum_of (λ (c : ℕ). size c - 1) (big_components r s) ≤ size s - 1
    unfolding big_components
    big_less = omega (arith, sum_filter (λ (c : ℕ). size c - 1) (λ c. leb 2 (size c)) (components r s), less_split (components r s) s components_split)
