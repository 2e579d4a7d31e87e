-- The laws of the match table that other crates cite, and those of its order that serve whoever builds it. Assumes nothing.
use mathlib.Core.Path.{◌≡◌, refl, sym, ap, subst, ◌∙◌}
use mathlib.Core.List.{List, [], ◌∷◌, ◌++◌, Memᴰ as Mem}
use Prim.Native.Nat.{ℕ, zero, suc, ◌*◌, ◌≤◌, ◌<◌}
use native.Mathlib.Omega.{arith}
use lib.Bits.{bit_or}
use lib.ListN.{length, get_or}
use Rattle.bitset.specs.Bits.{Sub, size}
use Rattle.bitset.proofs.Laws.{size_mono, size_disjoint, size_first}
use Rattle.bitset.proofs.Decide.{sets, v, or, sub}
use Rattle.molecule.specs.Lists.{Bytes}
use Rattle.molecule.specs.Record.{bonds, all_bonds}
use Rattle.molecule.specs.Check.{accepted, check}
use Rattle.molecule.specs.Connected.{Connected, Own}
use Rattle.molecule.proofs.Components.{own_all}
use Rattle.molecule.proofs.Lists.{Ordered}
use Rattle.molecule.proofs.Perms.{Distinct}
use Rattle.matches.specs.Table.{Table, Match, Pair, pair, size_of, pair_up, singles, match_table, pairs}
use Rattle.matches.specs.Rows.{table_answer}
use Rattle.matches.specs.Laws.{Twins, IsMatch, Laws}
use Rattle.matches.specs.Inner.Ranks.{Akin, Precedes}
use Rattle.matches.specs.Inner.Descending.{Starts}
use Rattle.matches.proofs.Sizes.{unsorted_sane}
use Rattle.matches.proofs.Listed.{sorted_distinct, matches_are, lone_needs, m1, m2}
use Rattle.matches.proofs.Complete.{m3, all_listed}
use Rattle.matches.proofs.Descending.{group_start, together, group_starts}
-- there are as many pairs as matches; rows 9 and 10
pub use Rattle.matches.proofs.Recorded.{recorded_front, pairs_length}
pub use Rattle.matches.proofs.RowLaws.{parts_over, pairs_over, all_fit, table_refused, table_fits}
-- sets by size and label, and the order of matches by them
pub use Rattle.matches.proofs.Ranks.{akin_sym, akin_trans, precedes_akin, akin_precedes, precedes_refl, precedes_both, smaller_before, before_size, Last, last_one, before_in, before_has, before_perm, before_fewer}
pub use Rattle.matches.proofs.Order.{MatchOf, firsts_order, seconds_order, twins_match}
-- records that read alike
pub use Rattle.matches.proofs.Reading.{read_back, unmarked_alike, match_table_alike, pairs_alike}
-- for whoever builds the table, as it grows and as it is written down
pub use Rattle.matches.proofs.Noting.{distinct_at}
pub use Rattle.matches.proofs.ByLabel.{before_differ, groups_every}
pub use Rattle.matches.proofs.Pairing.{Grows, grows_refl, pair_up_grows}
pub use Rattle.matches.proofs.Sizes.{Node, Round, next, newest, round_next, start, start_round, unsorted, sizes_grows, sizes_enough, last_parents, candidates_node, candidates_distinct, single_node}
pub use Rattle.matches.proofs.Listed.{nodes_are, needs_are, lone_matches}
pub use Rattle.matches.proofs.RowLaws.{need_stays}
pub use Rattle.matches.proofs.Descending.{countdown_has, descend_has, descending}
pub use Rattle.matches.proofs.Recorded.{table_recorded, starts_before, matches_in_lem, words_in}

-- ---- a record without bonds

-- no size needs room, and there is no match: neither row 9 nor row 10 turns it back
pub lone_fits : (r : Bytes) → bonds r ≡ 0 → (p words : ℕ) → table_answer (match_table r) p words ≡ accepted
lone_fits r lone p words = all_fit (match_table r) p words (rw (lone_needs r lone) need) (omega (arith, ap (λ (l : List Match). length l) (lone_matches r lone)))
  where
    need : (i : ℕ) → i < 2 → get_or (0 ∷ 0 ∷ []) i 0 ≤ p
    need zero h = omega arith
    need (suc zero) h = omega arith
    need (suc (suc i)) h = absurd (omega arith)

-- ---- what a search cites

-- M1, M2 and M3 hold of every accepted record's matches
pub table_laws : (r : Bytes) → check r ≡ accepted → Laws r (pairs r)
table_laws r ok = record { twins = m1 r; falls = m2 r; covers = m3 r ok }

-- every two twins are a match
pub complete : (r : Bytes) → check r ≡ accepted → (x y : ℕ) → Twins r x y → IsMatch (pairs r) x y
complete = all_listed

-- match m is the m-th of the list
pub pair_is : (ms : List Pair) (m : ℕ) → pair ms m ≡ get_or ms m (record { h1 = 0; h2 = 0 })
unfolding pair
pair_is ms m = refl

-- a match's size is that of either fragment
pub size_of_first : (ms : List Pair) (m : ℕ) → size (pair ms m).h1 ≡ size_of ms m
unfolding size_of
size_of_first ms m = refl

module _ (r : Bytes) (ms : List Pair) (M : Laws r ms) (m : ℕ) (is : m < length ms) where
  pub size_of_second : size (pair ms m).h2 ≡ size_of ms m
  size_of_second = sym (M.twins m is).same_size ∙ size_of_first ms m

  -- it is at least 2
  pub size_of_two : 2 ≤ size_of ms m
  size_of_two = omega (arith, (M.twins m is).big, size_of_first ms m)

  -- and at most half of the record's bonds
  pub size_of_half : 2 * size_of ms m ≤ bonds r
  size_of_half =
      let x : ℕ = (pair ms m).h1 in
      let y : ℕ = (pair ms m).h2 in
      let t = M.twins m is in
      let s : Sub (bit_or x y) (all_bonds r) =
      sets (sub (v 0) (v 2) ∷ sub (v 1) (v 2) ∷ []) (sub (or (v 0) (v 1)) (v 2)) (x ∷ y ∷ all_bonds r ∷ []) tt (own_all r x t.one_own) (own_all r y t.other_own) in
      omega (arith, size_mono (bit_or x y) (all_bonds r) s, size_first (bonds r), size_disjoint x y t.apart, size_of_first ms m, size_of_second)

-- ---- nodes and matches, for whoever builds the table

-- the nodes that a group adds come one after the other, and are sets of the group
pub group_nodes : (l : List ℕ) (t : Table) → Grows (λ x. Mem x l) t (pair_up t l)
group_nodes l t = pair_up_grows (λ x. Mem x l) l t (λ y m. m)

module _ (r : Bytes) where
  -- the single bonds are the first nodes
  pub nodes_first : (l : List ℕ) × ((match_table r).nodes ≡ singles r ++ l)
  nodes_first = let g = sizes_grows r (bonds r) 1 (start r) (singles r) (omega arith) (start_round r) in (g.new, subst (λ (k : List ℕ). k ≡ singles r ++ g.new) (sym (nodes_are r)) g.nodes_are)

  -- no node stands twice, and no match
  pub nodes_distinct : Distinct (match_table r).nodes
  nodes_distinct = subst Distinct (sym (nodes_are r)) (unsorted_sane r).distinct

  pub matches_distinct : Distinct (match_table r).matches
  matches_distinct = subst Distinct (sym (matches_are r)) (sorted_distinct r)

  -- nodes are fragments
  pub nodes_whole : (x : ℕ) → Mem x (match_table r).nodes → Connected r x × Own r x
  nodes_whole = subst (λ (l : List ℕ). (x : ℕ) → Mem x l → Connected r x × Own r x) (sym (nodes_are r)) (unsorted_sane r).whole

  -- nodes ascend by size and then by label
  pub nodes_ascend : Ordered (Precedes r) (match_table r).nodes
  nodes_ascend = subst (Ordered (Precedes r)) (sym (nodes_are r)) (unsorted_sane r).order

  -- so the nodes of a group are numbered one after the other, from its start
  pub nodes_together : (i j k : ℕ) → i ≤ j → j ≤ k → k < length (match_table r).nodes → Akin r (get_or (match_table r).nodes k 0) (get_or (match_table r).nodes i 0) → Akin r (get_or (match_table r).nodes k 0) (get_or (match_table r).nodes j 0)
  nodes_together = together r (match_table r).nodes nodes_ascend

  pub nodes_start : Starts r (match_table r).nodes (group_start r (match_table r).nodes)
  nodes_start = group_starts r (match_table r).nodes nodes_ascend
