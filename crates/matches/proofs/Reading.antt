-- Records that read alike have one match table. Assumes nothing.
use mathlib.Core.Path.{◌≡◌, refl, sym, ap, ap₂, ◌∙◌}
use mathlib.Core.List.{List, [], ◌∷◌, map, Memᴰ as Mem}
use Prim.Native.Nat.{ℕ, zero, suc, ◌+◌, ◌^◌, ◌≤◌}
use native.Mathlib.Omega.{arith}
use lib.ListN.{length, drop}
use Rattle.bitset.specs.Bits.{members}
use Rattle.molecule.specs.Lists.{Bytes, fold, list_from, sort_by}
use Rattle.molecule.specs.Record.{bonds}
use Rattle.molecule.specs.Connected.{Own}
use Rattle.molecule.specs.Graph.{SameGraph}
use Rattle.molecule.proofs.Lists.{fold_same}
use Rattle.molecule.proofs.Graphs.{graph_back, around_alike, own_alike, fragment_alike}
use Rattle.canonize.specs.Label.{label}
use Rattle.canonize.specs.Unmarked.{ReadsUnmarked}
use Rattle.matches.specs.Table.{Table, note, place, not_below, extended, candidates, groups, extend, sizes, singles, match_table, pairs_of, pairs}
use Rattle.matches.specs.Reading.{ReadAlike}
use Rattle.matches.proofs.Sizes.{Node, candidates_node, Round, next, newest, round_next, start, start_round, unsorted}

module _ (r q : Bytes) (alike : ReadAlike r q) where
  -- to read alike goes both ways
  pub read_back : bonds r ≤ 64 → ReadAlike q r
  read_back few = record {
    graph = graph_back r q alike.graph;
    labels = λ s o k. let o' : Own r s = (own_alike r q alike.graph s).1 o in sym (alike.labels s o' ((fragment_alike r q alike.graph few s o').1 k));
  }

  -- ---- the match table

  extended_alike : (p : ℕ) → Own r p → extended r p ≡ extended q p
  unfolding extended
  extended_alike p o = ap (λ (s : ℕ). map (λ b. p + 2 ^ b) (members s)) (around_alike r q alike.graph p o)

  candidates_alike : (ps : List ℕ) → ((p : ℕ) → Mem p ps → Own r p) → candidates r ps ≡ candidates q ps
  unfolding candidates
  candidates_alike ps own = fold_same (λ found p. fold note found (extended r p)) (λ found p. fold note found (extended q p)) ps (λ p m found. ap (fold note found) (extended_alike p (own p m))) []

  groups_alike : (found : List ℕ) → ((x : ℕ) → Mem x found → label r x ≡ label q x) → groups r found ≡ groups q found
  unfolding groups
  groups_alike found h = fold_same (λ gs x. place gs x (label r x)) (λ gs x. place gs x (label q x)) found (λ x m gs. ap (place gs x) (h x m)) []

  extend_alike : (t : Table) (found : List ℕ) → ((x : ℕ) → Mem x found → label r x ≡ label q x) → extend r t found ≡ extend q t found
  unfolding extend
  extend_alike t found h = rw (groups_alike found h) refl

  -- the candidates of fragments are fragments, so their labels are the same
  next_alike : (k : ℕ) (t : Table) (ps : List ℕ) → ((p : ℕ) → Mem p ps → Node r k p) → next r t ps ≡ next q t ps
  next_alike k t ps young =
      extend_alike t (candidates r ps) (λ x m. let n = candidates_node r k ps young x m in alike.labels x n.own n.whole)
      ∙ ap (extend q t) (candidates_alike ps (λ p m. (young p m).own))

  sizes_alike : (f k : ℕ) (t : Table) (ps : List ℕ) → 1 ≤ k → Round r k t ps → sizes r f t ps ≡ sizes q f t ps
  unfolding sizes
  sizes_alike zero k t ps l h = refl
  sizes_alike (suc f) k t [] l h = refl
  sizes_alike (suc f) k t (p ∷ ps) l h =
      sizes_alike f (suc k) (next r t (p ∷ ps)) (newest r t (p ∷ ps)) (omega arith) (round_next r k t (p ∷ ps) l h)
      ∙ ap (λ (u : Table). sizes q f u (drop (length t.nodes) u.nodes)) (next_alike k t (p ∷ ps) h.young)

  singles_alike : singles r ≡ singles q
  unfolding singles
  singles_alike = ap (list_from (λ i. 2 ^ i) 0) alike.graph.count

  unsorted_alike : unsorted r ≡ unsorted q
  unsorted_alike =
      sizes_alike (bonds r) 1 (start r) (singles r) (omega arith) (start_round r)
      ∙ ap₂ (λ (n : ℕ) (l : List ℕ). sizes q n (record { nodes = l; matches = []; needs = 0 ∷ n ∷ [] }) l) alike.graph.count singles_alike

  -- the same nodes, matches and numbers for row 9
  pub match_table_alike : match_table r ≡ match_table q
  unfolding match_table
  match_table_alike = ap (λ (t : Table). record { nodes = t.nodes; matches = sort_by not_below t.matches; needs = t.needs }) unsorted_alike

  pub pairs_alike : pairs r ≡ pairs q
  pairs_alike = ap pairs_of match_table_alike

-- two records that read as one record without class bytes read alike
pub unmarked_alike : (q r p : Bytes) → bonds r ≤ 64 → ReadsUnmarked r q → ReadsUnmarked p q → ReadAlike r p
unmarked_alike q r p few a b = record {
  graph = same;
  labels = λ s o k. a.labels s o k ∙ sym (b.labels s ((own_alike r p same s).0 o) ((fragment_alike r p same few s o).0 k));
}
  where
    same : SameGraph r p
    same = record {
      count = a.count ∙ sym b.count;
      first_ends = λ i l. a.first_ends i l ∙ sym (b.first_ends i (omega (arith, a.count, b.count)));
      second_ends = λ i l. a.second_ends i l ∙ sym (b.second_ends i (omega (arith, a.count, b.count)));
    }
