-- Records of one tree, with one atom more than bonds: what is defined for mixtures is what document 01 says of one tree (specs/OneTree).
-- From two bonds on the root's one piece is all bonds. Up to one bond it has none, where document 01 has all bonds; but there is no match, so that nothing
-- but the memo's key depends on the pieces, and an answer leaves the memo out.
use mathlib.Core.Path.{◌≡◌, refl, sym, ap, ap₂, ◌∙◌}
use mathlib.Core.Bool.{Bool, true, false, ◌&&◌, ◌||◌}
use mathlib.Core.Logic.{◌⊎◌, inl, inr}
use mathlib.Core.List.{List, [], ◌∷◌, map, flat_map}
use Prim.Native.Nat.{ℕ, zero, suc, ◌+◌, ◌-◌, ◌^◌, ◌≤◌, ◌<◌}
use native.Mathlib.Omega.{arith}
use native.Mathlib.Decide.{dec_le, dec_lt}
use lib.Dec.{leb, ltb}
use lib.ListN.{length, length-map, get_or}
use borrow.Author.Tests.{le-ltb, ne_eqb, eq-eqb, le-leb}
use Rattle.std.specs.Prelude.{min}
use Rattle.std.proofs.lemmas.List.{nil_from_length}
use Rattle.bitset.specs.Bits.{size, diff, low, members, is_sub}
use Rattle.bitset.proofs.Bools.{two}
use Rattle.bitset.proofs.Laws.{members_size, size_mono, size_empty, size_first}
use Rattle.bitset.proofs.Members.{diff_sub}
use Rattle.molecule.specs.Lists.{Bytes, pick, fold, first}
use Rattle.molecule.specs.Record.{atoms, bonds, all_bonds}
use Rattle.molecule.specs.Check.{Answer, accepted, refused, check}
use Rattle.molecule.proofs.Lists.{numbers_none}
use Rattle.matches.specs.Table.{Pair, Table, pair, pairs, match_table}
use Rattle.matches.specs.Rows.{table_answer}
use Rattle.matches.proofs.Laws.{table_laws, size_of_two, size_of_half}
use Rattle.bounds.specs.Numbers.{max_of, ceil_log2}
use Rattle.bounds.specs.Bounds.{int_bound}
use Rattle.bounds.proofs.Bounds.{int_reached}
use Rattle.bounds.proofs.ChainLaws.{log_bound}
use Rattle.search.specs.Setting.{Setting, Room, memo_room, has_int, has_memo, has_matchable_edges}
use Rattle.search.specs.Trail.{no_removal}
use Rattle.search.specs.State.{State, bond_trees, root_pieces, root_index, root, struck, removable}
use Rattle.search.specs.Memo.{Entry, goes, full, remember, same_key, entry_of}
use Rattle.search.specs.Search.{Run, Outcome, int_stops, ask, tried, children, branch, lower, counted, visit, search}
use Rattle.search.specs.Series.{saved, allowed, allowed_from, series_from, all_series, series_score, least_of, least_score}
use Rattle.search.specs.Pathway.{Join, union, is_join, is_pathway, is_pathway_after, whole_made, joins, joins_from, split, rebuilt, grown, find}
use Rattle.search.specs.Answer.{scored, entry_answer, searched, score_answer}
use Rattle.search.specs.OneTree.{pieces_of_one, index_of_one, root_of_one, ends_in_all, is_pathway_of_one, allowed_of_one, score_of_one, least_of_one, joins_of_one, search_of_one, answer_of_one}
use Rattle.search.proofs.Root.{root_count, root_index_most, one_trees, one_piece, no_part, no_tree}
use Rattle.search.proofs.Starting.{by_bonds, search_some}
use Rattle.search.proofs.Least.{ask_off}
use Rattle.search.proofs.Tests.{complete_one}
use Rattle.search.proofs.Building.{assemble_length}
use Rattle.search.proofs.Score.{entry_says}

-- ---- without matches

-- no match can be removed
no_removable : (r : Bytes) (P : List ℕ) → removable r [] P 0 ≡ []
unfolding removable
no_removable r P = rw (numbers_none 0) refl

-- a state at the start, with any pieces
abbrev at_start : ℕ → ℕ → List ℕ → State
at_start index largest P = record { pieces = P; index = index; largest = largest; next = 0; trail = no_removal }

-- up to one bond
module _ (r : Bytes) (setting : Setting) (room best index largest : ℕ) (few : largest ≤ 1) (t : Table) where
  abbrev at : List ℕ → State
  at P = at_start index largest P

  -- k states entered, and an empty memo
  abbrev start : ℕ → Run
  start k = record { best = best; states = k; memo = [] }

  -- Int's J is 0
  stops : Bool
  stops = has_int setting && leb (best + 0) index

  no_int : (P : List ℕ) → int_stops r [] setting room (at P) best ≡ stops
  unfolding int_stops stops
  no_int P = ap (λ (j : ℕ). has_int setting && leb (best + j) index) (go (dec_lt 0 (int_bound ceil_log2 P largest)))
    where
      go : Dec (0 < int_bound ceil_log2 P largest) → int_bound ceil_log2 P largest ≡ 0
      go (yes h) = let w = int_reached ceil_log2 log_bound P largest h in absurd (omega (arith, w.1, w.2))
      go (no n) = omega arith

  -- the memo's first entry stops nothing
  first_entry : (P : List ℕ) → has_memo setting ≡ true → ask r [] setting room (at P) [] ≡ elim (ltb 0 room) [ true ↦ goes (entry_of r (at P) ∷ []) | false ↦ full ]
  unfolding ask remember
  first_entry P on = rw (on, le-ltb (first (λ i. same_key (entry_of r (at P)).key (get_or [] i (entry_of r (at P))).key) 0) 0 (omega arith), ask, remember) refl

  no_tried : (P : List ℕ) (k : ℕ) → tried r [] setting room (at P) [] k ≡ []
  unfolding tried
  no_tried P k = go (two (has_matchable_edges setting))
    where
      go : (has_matchable_edges setting ≡ true) ⊎ (has_matchable_edges setting ≡ false) → tried r [] setting room (at P) [] k ≡ []
      go (inl e) = rw (e, tried) refl
      go (inr e) = rw (e, tried) refl

  -- a state that goes on answers its own index
  no_child : (enter : State → Run → Outcome) (P : List ℕ) (run : Run) → searched t (branch r [] setting room enter (at P) run) ≡ scored index (length t.matches) run.states no_removal
  unfolding branch children lower searched
  no_child enter P run = rw (no_removable r P, no_tried P run.best) refl

  -- so what is answered does not depend on the pieces
  counted_same : (enter : State → Run → Outcome) (P Q : List ℕ) (k : ℕ) → searched t (counted r [] setting room enter (at P) (start k)) ≡ searched t (counted r [] setting room enter (at Q) (start k))
  unfolding counted searched
  counted_same enter P Q k = go (two stops) (two (has_memo setting)) (two (ltb 0 room))
    where
      onward : List Entry → Run
      onward memo = record { best = best; states = k; memo = memo }

      both : (m n : List Entry) → searched t (branch r [] setting room enter (at P) (onward m)) ≡ searched t (branch r [] setting room enter (at Q) (onward n))
      both m n = no_child enter P (onward m) ∙ sym (no_child enter Q (onward n))

      go : (stops ≡ true) ⊎ (stops ≡ false) → (has_memo setting ≡ true) ⊎ (has_memo setting ≡ false) → (ltb 0 room ≡ true) ⊎ (ltb 0 room ≡ false)
          → searched t (counted r [] setting room enter (at P) (start k)) ≡ searched t (counted r [] setting room enter (at Q) (start k))
      go (inl e) m f = rw (no_int P, no_int Q, e, counted) refl
      go (inr e) (inr off) f = rw (no_int P, no_int Q, e, ask_off r [] setting room off (at P) [], ask_off r [] setting room off (at Q) [], counted) (both [] [])
      go (inr e) (inl on) (inl some) =
          rw (no_int P, no_int Q, e, first_entry P on, first_entry Q on, some, counted) (both (entry_of r (at P) ∷ []) (entry_of r (at Q) ∷ []))
      go (inr e) (inl on) (inr none) = rw (no_int P, no_int Q, e, first_entry P on, first_entry Q on, none, counted) refl

  visit_same : (f : ℕ) (P Q : List ℕ) → searched t (visit r [] setting room f (at P) (start 0)) ≡ searched t (visit r [] setting room f (at Q) (start 0))
  unfolding visit
  visit_same zero P Q = refl
  visit_same (suc f) P Q = go (two (ltb 0 setting.budget))
    where
      go : (ltb 0 setting.budget ≡ true) ⊎ (ltb 0 setting.budget ≡ false)
          → searched t (visit r [] setting room (suc f) (at P) (start 0)) ≡ searched t (visit r [] setting room (suc f) (at Q) (start 0))
      go (inl e) = rw (e, visit) (counted_same (visit r [] setting room f) P Q 1)
      go (inr e) = rw (e, visit) refl

-- ---- pathways

module _ (r : Bytes) (one : atoms r ≡ bonds r + 1) where
  -- from the first union on
  ends_alike : (u : ℕ) (made : List ℕ) (js : List Join) → is_pathway_after r (u ∷ made) js ≡ ends_in_all r (u ∷ made) js
  unfolding is_pathway_after ends_in_all whole_made
  ends_alike u made [] = complete_one r (u ∷ made) one
  ends_alike u made (j ∷ js) = ap (λ (b : Bool). is_join r (u ∷ made) j && b) (ends_alike (union j) (u ∷ made) js)

  -- the same lists of joins are pathways. Assumes no more than the number of atoms
  pub one_pathway : (js : List Join) → is_pathway r js ≡ is_pathway_of_one r js
  unfolding is_pathway is_pathway_of_one is_pathway_after ends_in_all whole_made
  one_pathway [] = complete_one r [] one ∙ go (leb (bonds r) 1)
    where
      go : (b : Bool) → b ≡ ((b && true) || false)
      go true = refl
      go false = refl
  one_pathway (j ∷ js) =
      rw (ne_eqb (suc (length js)) 0 (λ e. omega arith))
      (ap (λ (b : Bool). is_join r [] j && b) (ends_alike (union j) [] js) ∙ go (leb (bonds r) 1) (is_join r [] j && ends_in_all r (union j ∷ []) js))
    where
      go : (b c : Bool) → c ≡ ((b && false) || c)
      go true c = refl
      go false c = refl

-- ---- the joins of a series, without bonds

-- the empty set as a piece is found where nothing is
find_zero : (p : ℕ → Bool) (x : ℕ) → x ≡ 0 → find p 0 (x ∷ []) ≡ find p 0 []
find_zero p x e = go (p x)
  where
    go : (b : Bool) → ◌≡◌ {A = ℕ} (pick b x 0) 0
    go true = e
    go false = refl

module _ (r : Bytes) where
  -- grown, it takes no join
  grown_none : grown r 0 ≡ []
  unfolding grown
  grown_none =
      let q : ℕ = diff 0 (2 ^ low 0) in
      nil_from_length (grown r 0)
      (omega (arith, assemble_length r (2 ^ low 0) (map (λ b. 2 ^ b) (members q)), length-map (members q) (λ b. 2 ^ b), members_size q 0, size_mono q 0 (diff_sub 0 (2 ^ low 0)), size_empty))

  -- so it gives the joins that no piece gives
  no_piece_joins : bonds r ≡ 0 → (ms : List Pair) (τ : List ℕ) → joins_from r ms [] τ ≡ joins_from r ms (pieces_of_one r) τ
  unfolding joins_from flat_map split rebuilt
  no_piece_joins z ms τ = go τ
    where
      e : all_bonds r ≡ 0
      e = ap (λ (n : ℕ). 2 ^ n - 1) z

      go : (τ : List ℕ) → joins_from r ms [] τ ≡ joins_from r ms (pieces_of_one r) τ
      go [] = rw (e, grown_none) refl
      go (m ∷ τ) =
          let d : ℕ = struck ms m in
          let one = find_zero (is_sub (pair ms m).h1) (all_bonds r) e in
          let other = find_zero (is_sub (pair ms m).h2) (all_bonds r) e in
          rw (no_part r z (diff (all_bonds r) d) (diff_sub (all_bonds r) d), one, other, joins_from, rebuilt) (rw one refl)

-- ---- an accepted record

module _ (r : Bytes) (ok : check r ≡ accepted) (one : atoms r ≡ bonds r + 1) where
  -- the root's index
  one_index : root_index r ≡ index_of_one r
  one_index = go (dec_le 1 (bonds r))
    where
      go : Dec (1 ≤ bonds r) → root_index r ≡ index_of_one r
      go (yes some) = omega (arith, root_count r ok, ap (λ (l : List ℕ). length l) (one_trees r ok one some))
      go (no none) = omega (arith, root_index_most r ok)

  -- a match has two fragments of two bonds or more
  no_match : bonds r ≤ 1 → pairs r ≡ []
  no_match l = nil_from_length (pairs r) (go (dec_lt 0 (length (pairs r))))
    where
      go : Dec (0 < length (pairs r)) → length (pairs r) ≡ 0
      go (yes h) = let M = table_laws r ok in absurd (omega (arith, size_of_half r (pairs r) M 0 h, size_of_two r (pairs r) M 0 h))
      go (no n) = omega arith

  -- so what depends on the pieces only where there are matches is the same from both roots
  by_pieces : {A : Type 0} (f : List Pair → List ℕ → A) → (bonds r ≤ 1 → (P Q : List ℕ) → f [] P ≡ f [] Q) → f (pairs r) (root_pieces r) ≡ f (pairs r) (pieces_of_one r)
  by_pieces {A = A} f same = go (dec_le 2 (bonds r))
    where
      go : Dec (2 ≤ bonds r) → f (pairs r) (root_pieces r) ≡ f (pairs r) (pieces_of_one r)
      go (yes l) = ap (f (pairs r)) (one_piece r ok one l)
      go (no n) = rw (no_match (omega arith)) (same (omega arith) (root_pieces r) (pieces_of_one r))

  -- ---- series

  -- the same series are allowed
  pub one_allowed : (τ : List ℕ) → allowed r (pairs r) τ ≡ allowed_of_one r (pairs r) τ
  unfolding allowed allowed_from allowed_of_one
  one_allowed τ = by_pieces (λ ms P. allowed_from r ms 0 P τ) (λ few P Q. none P Q τ)
    where
      none : (P Q τ : List ℕ) → allowed_from r [] 0 P τ ≡ allowed_from r [] 0 Q τ
      none P Q [] = refl
      none P Q (m ∷ τ) = rw (le-leb 0 m (omega arith), le-ltb m 0 (omega arith)) refl

  -- with the same scores
  pub one_score : (τ : List ℕ) → series_score r (pairs r) τ ≡ score_of_one r (pairs r) τ
  unfolding series_score
  one_score τ = ap (λ (n : ℕ). n - saved (pairs r) τ) one_index

  one_series : all_series r (pairs r) ≡ series_from r (pairs r) (bonds r) 0 (pieces_of_one r)
  unfolding all_series series_from flat_map
  one_series = by_pieces (λ ms P. series_from r ms (bonds r) 0 P) (λ few P Q. none (bonds r) P Q)
    where
      none : (f : ℕ) (P Q : List ℕ) → series_from r [] f 0 P ≡ series_from r [] f 0 Q
      none zero P Q = refl
      none (suc f) P Q = rw (no_removable r P, no_removable r Q) refl

  -- so the least is the same
  pub one_least : least_score r (pairs r) ≡ least_of_one r (pairs r)
  unfolding least_score least_of least_of_one
  one_least = folded (root_index r) (all_series r (pairs r)) ∙ ap₂ (fold (λ k τ. min k (score_of_one r (pairs r) τ))) one_index one_series
    where
      folded : (k : ℕ) (l : List (List ℕ)) → least_of r (pairs r) k l ≡ fold (λ k τ. min k (score_of_one r (pairs r) τ)) k l
      folded k [] = refl
      folded k (τ ∷ l) = folded (min k (series_score r (pairs r) τ)) l ∙ ap (λ (n : ℕ). fold (λ k τ. min k (score_of_one r (pairs r) τ)) (min k n) l) (one_score τ)

  -- a series gives the same joins, of whatever matches
  pub one_joins : (ms : List Pair) (τ : List ℕ) → joins r ms τ ≡ joins_of_one r ms τ
  unfolding joins joins_of_one
  one_joins ms τ = go (dec_le 1 (bonds r))
    where
      go : Dec (1 ≤ bonds r) → joins_from r ms (bond_trees r) τ ≡ joins_from r ms (pieces_of_one r) τ
      go (yes some) = ap (λ (P : List ℕ). joins_from r ms P τ) (one_trees r ok one some)
      go (no none) = let z : bonds r ≡ 0 = omega arith in rw (no_tree r z) (no_piece_joins r z ms τ)

  -- ---- the search

  one_largest : 1 ≤ bonds r → max_of size (bond_trees r) ≡ bonds r
  one_largest some = omega (arith, ap (λ (l : List ℕ). max_of size l) (one_trees r ok one some), size_first (bonds r))

  -- from two bonds on it starts from the same root, and so it is the same, its memo included
  pub one_root : 2 ≤ bonds r → (ms : List Pair) → root r ms ≡ root_of_one r
  unfolding root
  one_root l ms = rw (one_piece r ok one l, one_index, one_largest (omega arith), root) refl

  pub one_search : 2 ≤ bonds r → (ms : List Pair) (setting : Setting) (room : ℕ) → search r ms setting room ≡ search_of_one r ms setting room
  unfolding search_of_one
  one_search l ms setting room = search_some r ms setting room (omega arith) ∙ rw (ne_eqb (bonds r) 0 (λ e. omega arith), one_root l ms, one_index, search_of_one) refl

  -- of however many it gives the same index, number of states and trail, or the same row with its place
  pub one_searched : (t : Table) (setting : Setting) (room : ℕ) → searched t (search r (pairs r) setting room) ≡ searched t (search_of_one r (pairs r) setting room)
  unfolding root search_of_one
  one_searched t setting room =
      by_bonds r (pairs r) setting room (λ o. searched t o ≡ searched t (search_of_one r (pairs r) setting room))
      (λ none. rw (eq-eqb (bonds r) 0 none, one_index, search_of_one) refl)
      (λ some.
      rw (ne_eqb (bonds r) 0 (λ e. omega arith), one_index, one_largest some, search_of_one, root)
      (by_pieces
      (λ ms P. searched t (visit r ms setting room (bonds r) (at_start (index_of_one r) (bonds r) P) (record { best = index_of_one r; states = 0; memo = [] })))
      (λ few P Q. visit_same r setting room (index_of_one r) (index_of_one r) (bonds r) few t (bonds r) P Q)))

-- ---- score's answer

-- the whole answer is the same, for every record of bytes, accepted or not, every setting and every room
pub one_answer : (r : Bytes) → atoms r ≡ bonds r + 1 → (setting : Setting) (room : Room) → score_answer r setting room ≡ answer_of_one r setting room
unfolding score_answer answer_of_one
one_answer r one setting room = entry (entry_answer r setting room) refl
  where
    Whole : Type 0
    Whole = score_answer r setting room ≡ answer_of_one r setting room

    entry : (o : Answer) → entry_answer r setting room ≡ o → Whole
    entry (refused k p) e = rw (e, score_answer, answer_of_one) refl
    entry accepted e = table (table_answer (match_table r) room.p room.pairs) refl
      where
        table : (o : Answer) → table_answer (match_table r) room.p room.pairs ≡ o → Whole
        table (refused k p) f = rw (e, f, score_answer, answer_of_one) refl
        table accepted f = rw (e, f, score_answer, answer_of_one) (one_searched r (entry_says r setting room e).0 one (match_table r) setting (memo_room room.memo))
