-- Document 01, 'Search': pathways. The test of a list of joins, and the joins that a trail gives (demand 3).
use Rattle.std.specs.Prelude.{◌≡◌, Bool, true, false, not, ◌&&◌, ◌||◌, ℕ, zero, suc, ◌+◌, ◌^◌, ◌≤◌, length, get_or, take, drop, leb, eqb}
use mathlib.Core.List.{List, [], ◌∷◌, ◌++◌, map, flat_map}
use Rattle.std.specs.Int.Bits.{bit_or}
use Rattle.bitset.specs.Bits.{size, members, diff, low, is_sub, is_disjoint, unions}
use Rattle.molecule.specs.Lists.{Bytes, first, pick, any, every}
use Rattle.molecule.specs.Record.{atoms, bonds, end_a, end_b, all_bonds}
use Rattle.molecule.specs.Touch.{components, connected}
use Rattle.canonize.specs.Strings.{same}
use Rattle.canonize.specs.Label.{label}
use Rattle.matches.specs.Table.{Pair, pair}
use Rattle.search.specs.State.{bond_trees, root_pieces, struck}

-- two fragments put together
pub record Join : Type 0 where
  pub left : ℕ
  pub right : ℕ

-- what a join makes
unfoldable pub union : Join → ℕ
union j = bit_or j.left j.right

-- the first element that passes the test, else d
abbrev pub find : (ℕ → Bool) → ℕ → List ℕ → ℕ
find p d [] = d
find p d (x ∷ xs) = pick (p x) x (find p d xs)

module _ (r : Bytes) where
  -- the atoms of the bonds of s, a set too: bit v is atom v
  unfoldable pub atoms_of : ℕ → ℕ
  atoms_of s = unions (λ i. bit_or (2 ^ end_a r i) (2 ^ end_b r i)) (members s)

  -- ---- the test

  -- a fragment: a connected set of bonds
  unfoldable pub is_fragment : ℕ → Bool
  is_fragment s = is_sub s (all_bonds r) && connected r s

  -- the label of one of the unions made
  unfoldable pub labelled : List ℕ → ℕ → Bool
  labelled made s = any (λ u. same (label r u) (label r s)) made

  -- a single bond, or the label of an earlier join's union
  unfoldable pub ready : List ℕ → ℕ → Bool
  ready made s = eqb (size s) 1 || labelled made s

  -- two sets with a common atom
  unfoldable pub meets : ℕ → ℕ → Bool
  meets s t = not (is_disjoint (atoms_of s) (atoms_of t))

  -- two disjoint fragments with a common atom, each ready
  unfoldable pub is_join : List ℕ → Join → Bool
  is_join made j =
      is_fragment j.left && is_fragment j.right && is_disjoint j.left j.right && meets j.left j.right
      && ready made j.left && ready made j.right

  -- a record of one tree: the last union is all bonds. One bond needs no join, and neither does a lone atom (document 02, 5/14)
  unfoldable pub whole_made : List ℕ → Bool
  whole_made [] = leb (bonds r) 1
  whole_made (u ∷ made) = eqb u (all_bonds r)

  -- a mixture: every tree of two or more bonds has the label of some join's union (document 02, 9/14)
  unfoldable pub trees_made : List ℕ → Bool
  trees_made made = every (labelled made) (root_pieces r)

  -- what is to be made is, one tree where a is n + 1
  unfoldable pub complete : List ℕ → Bool
  complete made = elim (eqb (atoms r) (bonds r + 1)) [ true ↦ whole_made made | false ↦ trees_made made ]

  -- each is a join after those whose unions are made, newest first; in the end it is complete
  unfoldable pub is_pathway_after : List ℕ → List Join → Bool
  is_pathway_after made [] = complete made
  is_pathway_after made (j ∷ js) = is_join made j && is_pathway_after (union j ∷ made) js

  -- nothing is made at first
  unfoldable pub is_pathway : List Join → Bool
  is_pathway js = is_pathway_after [] js

  -- demand 3: there is a pathway with exactly k joins
  pub record HasPathway (k : ℕ) : Type 0 where
    pub path : List Join
    pub is_one : is_pathway path ≡ true
    pub join_count : length path ≡ k

  -- k is the assembly index, the fewest joins of any pathway: one has exactly k, and none has fewer
  pub record IsFewest (k : ℕ) : Type 0 where
    pub reached : HasPathway k
    pub fewest : (js : List Join) → is_pathway js ≡ true → k ≤ length js

  -- ---- the joins of a series, single bonds kept as pieces

  -- from s on, always join the first of the parts that has an atom in common, f times
  unfoldable pub join_up : ℕ → ℕ → List ℕ → List Join
  join_up zero s parts = []
  join_up (suc f) s parts =
      let k : ℕ = first (λ i. meets s (get_or parts i 0)) (length parts) in
      record { left = s; right = get_or parts k 0 } ∷ join_up f (bit_or s (get_or parts k 0)) (take k parts ++ drop (suc k) parts)

  -- s and the parts put together
  unfoldable pub assemble : ℕ → List ℕ → List Join
  assemble s parts = join_up (length parts) s parts

  -- a piece grown from its lowest bond, one touching bond at a time, lowest first
  unfoldable pub grown : ℕ → List Join
  grown p = assemble (2 ^ low p) (map (λ b. 2 ^ b) (members (diff p (2 ^ low p))))

  module _ (ms : List Pair) where
    -- match m leaves the components without h1 and h2, single bonds too, and h1 as its own piece
    unfoldable pub split : List ℕ → ℕ → List ℕ
    split pieces m = flat_map (λ p. components r (diff p (struck ms m))) pieces ++ ((pair ms m).h1 ∷ [])

    -- the pieces of h1 and of h2 put together again from h1, from h2 and from what was left of them
    unfoldable pub rebuilt : List ℕ → ℕ → List Join
    rebuilt pieces m =
        let h1 : ℕ = (pair ms m).h1 in
        let h2 : ℕ = (pair ms m).h2 in
        let p1 : ℕ = find (is_sub h1) 0 pieces in
        let p2 : ℕ = find (is_sub h2) 0 pieces in
        elim (eqb p1 p2) [
          | true ↦ assemble h1 (h2 ∷ components r (diff p1 (struck ms m)))
          | false ↦ assemble h1 (components r (diff p1 h1)) ++ assemble h2 (components r (diff p2 h2))
        ]

    -- no removal left: each piece is grown; a removal first: the joins of the state after it, then its pieces
    unfoldable pub joins_from : List ℕ → List ℕ → List Join
    joins_from pieces [] = flat_map grown pieces
    joins_from pieces (m ∷ τ) = joins_from (split pieces m) τ ++ rebuilt pieces m

    -- the joins of a series from the root
    unfoldable pub joins : List ℕ → List Join
    joins τ = joins_from (bond_trees r) τ
