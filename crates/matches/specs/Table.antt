-- Document 01, 'Match table': candidates size by size, grouped by label; nodes, and matches in descending order.
use Rattle.std.specs.Prelude.{Bool, true, false, ◌&&◌, ◌||◌, List, [], ◌∷◌, ◌++◌, map, ℕ, zero, suc, ◌+◌, ◌^◌, min, max, length, get_or, drop, ltb, leb, eqb}
use Rattle.bitset.specs.Bits.{size, members, is_disjoint}
use Rattle.molecule.specs.Lists.{Bytes, first, list_from, any, fold, sort_by}
use Rattle.molecule.specs.Record.{bonds}
use Rattle.molecule.specs.Touch.{touching, around}
use Rattle.canonize.specs.Strings.{lex_le, same}
use Rattle.canonize.specs.Label.{label}

-- 'Match table': the candidates of one label, members in order found
pub record Group : Type 0 where
  pub key : Bytes
  pub sets : List ℕ

-- 'Match table': a match is (larger node, smaller node), by their numbers
pub record Match : Type 0 where
  pub larger : ℕ
  pub smaller : ℕ

-- the nodes by number; the matches; and for each size k, from 0 on, what row 9 compares with P:
-- the candidates of size k or the nodes of sizes 1 to k, whichever are more
pub record Table : Type 0 where
  pub nodes : List ℕ
  pub matches : List Match
  pub needs : List ℕ

-- a list with x at its end, unless x is there
unfoldable pub note : List ℕ → ℕ → List ℕ
note l x = elim (any (eqb x) l) [ true ↦ l | false ↦ l ++ (x ∷ []) ]

-- the number of node x
unfoldable pub number_of : List ℕ → ℕ → ℕ
number_of nodes x = first (λ k. eqb (get_or nodes k 0) x) (length nodes)

-- 'Match table': disjoint pairs are matches, and a member becomes a node when first matched, i before j
unfoldable pub meet : ℕ → Table → ℕ → Table
meet x t y = elim (is_disjoint x y) [
  | true ↦
      let nodes : List ℕ = note (note t.nodes x) y in
      let i : ℕ = number_of nodes x in
      let j : ℕ = number_of nodes y in
      record { nodes = nodes; matches = t.matches ++ (record { larger = max i j; smaller = min i j } ∷ []); needs = t.needs }
  | false ↦ t
]

-- 'Match table': in a group pairs i < j are tried in order
unfoldable pub pair_up : Table → List ℕ → Table
pair_up t [] = t
pair_up t (x ∷ xs) = pair_up (fold (meet x) t xs) xs

-- 'Match table': grouped by label, groups ascending: set x, whose label is l, goes to the end of its group
unfoldable pub place : List Group → ℕ → Bytes → List Group
place [] x l = record { key = l; sets = x ∷ [] } ∷ []
place (g ∷ gs) x l = elim (same l g.key) [
  | true ↦ record { key = l; sets = g.sets ++ (x ∷ []) } ∷ gs
  | false ↦ elim (lex_le l g.key) [
    | true ↦ record { key = l; sets = x ∷ [] } ∷ g ∷ gs
    | false ↦ g ∷ place gs x l
  ]
]

-- descending order of matches: by the larger node, then by the smaller
unfoldable pub not_below : Match → Match → Bool
not_below x y = ltb y.larger x.larger || (eqb x.larger y.larger && leb y.smaller x.smaller)

module _ (r : Bytes) where
  -- 'Match table': a parent extended by each touching bond in ascending order
  unfoldable pub extended : ℕ → List ℕ
  extended p = map (λ b. p + 2 ^ b) (members (around (touching r) p))

  -- 'Match table': new sets are candidates, in order found; so the one parent of each is the first that gives it
  unfoldable pub candidates : List ℕ → List ℕ
  candidates parents = fold (λ found p. fold note found (extended p)) [] parents

  -- 'Match table': they are grouped by label
  unfoldable pub groups : List ℕ → List Group
  groups found = fold (λ gs x. place gs x (label r x)) [] found

  -- one size more: its candidates are paired up group by group
  unfoldable pub extend : Table → List ℕ → Table
  extend t found =
      let u : Table = fold (λ t' g. pair_up t' g.sets) t (groups found) in
      record { nodes = u.nodes; matches = u.matches; needs = t.needs ++ (max (length found) (length u.nodes) ∷ []) }

  -- 'Match table': size by size, at most f of them, while there are parents; new nodes are the next parents
  unfoldable pub sizes : ℕ → Table → List ℕ → Table
  sizes zero t parents = t
  sizes (suc f) t [] = t
  sizes (suc f) t (p ∷ ps) =
      let u : Table = extend t (candidates (p ∷ ps)) in
      sizes f u (drop (length t.nodes) u.nodes)

  -- 'Match table': nodes 0 to n − 1 are the single bonds
  unfoldable pub singles : List ℕ
  singles = list_from (λ i. 2 ^ i) 0 (bonds r)

  -- 'Match table': first all singles are parents; matches sort descending and are numbered from 0
  unfoldable pub match_table : Table
  match_table =
      let t : Table = sizes (bonds r) (record { nodes = singles; matches = []; needs = 0 ∷ bonds r ∷ [] }) singles in
      record { nodes = t.nodes; matches = sort_by not_below t.matches; needs = t.needs }

-- the two fragments of a match: h1 is the larger node's, h2 the smaller's
pub record Pair : Type 0 where
  pub h1 : ℕ
  pub h2 : ℕ

-- the fragments of a table's matches, in the order of their numbers
unfoldable pub pairs_of : Table → List Pair
pairs_of t = map (λ m. record { h1 = get_or t.nodes m.larger 0; h2 = get_or t.nodes m.smaller 0 }) t.matches

-- match i, and its size: the bonds in h1
unfoldable pub pair : List Pair → ℕ → Pair
pair ms i = get_or ms i (record { h1 = 0; h2 = 0 })

unfoldable pub size_of : List Pair → ℕ → ℕ
size_of ms i = size (pair ms i).h1

-- the matches of a record
abbrev pub pairs : Bytes → List Pair
pairs r = pairs_of (match_table r)
