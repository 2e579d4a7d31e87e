-- Records in which no tree has two bonds, so that the root has no piece. They have the empty series alone, whose score and so the least score is 0, and the
-- empty pathway alone. And document 02, 5/14: one without bonds is scored 0, with 0 matches, 0 states and an empty trail, whatever the budget and the tables.
-- Assumes only that check accepts it.
use mathlib.Core.Path.{◌≡◌, refl, ap, sym, ◌∙◌}
use mathlib.Core.Bool.{true}
use mathlib.Core.List.{List, [], ◌∷◌}
use Prim.Native.Nat.{ℕ, ◌-◌}
use native.Mathlib.Omega.{arith}
use lib.ListN.{length}
use Rattle.std.proofs.lemmas.List.{nil_from_length}
use Rattle.molecule.specs.Lists.{Bytes}
use Rattle.molecule.specs.Record.{bonds}
use Rattle.molecule.specs.Check.{accepted, check}
use Rattle.matches.specs.Table.{Match, pairs, pair}
use Rattle.matches.proofs.Laws.{table_laws, lone_matches, lone_fits}
use Rattle.search.specs.Setting.{Setting, Room, memo_room}
use Rattle.search.specs.Trail.{no_removal}
use Rattle.search.specs.Series.{allowed, allowed_from, series_score, least_score}
use Rattle.search.specs.Pathway.{Join, is_pathway, joins, union}
use Rattle.search.specs.Answer.{scored, entry_answer, searched, score_answer}
use Rattle.search.specs.Inner.Joining.{JoinsAfter}
use Rattle.search.proofs.Parts.{few}
use Rattle.search.proofs.Starting.{search_lone}
use Rattle.search.proofs.LeastScore.{least_score_lem}
use Rattle.search.proofs.Tests.{joins_of}
use mathlib.Core.List.Memᴰ.{not-nil}
use Rattle.search.specs.State.{root_pieces, root_index}
use Rattle.bitset.specs.Bits.{size}
use Rattle.bounds.specs.Numbers.{sum_of}
use Rattle.search.proofs.Root.{root_less, root_covers}
use Rattle.search.proofs.Refine.{allowed_allows}
use Rattle.search.proofs.Making.{join_falls}
use Rattle.search.proofs.Pathways.{series_pathway, series_length}
use Rattle.bounds.specs.Inner.Removals.{InOnePiece}

module _ (r : Bytes) (ok : check r ≡ accepted) (lone : root_pieces r ≡ []) where
  in_none : {A : Type 0} (h : ℕ) → InOnePiece h (root_pieces r) → A
  in_none h w = absurd (not-nil (rw lone at w.1))

  -- its index is 0
  pub lone_index : root_index r ≡ 0
  lone_index = sym (root_less r ok) ∙ ap (sum_of (λ (c : ℕ). size c - 1)) lone

  -- ---- series

  -- the fragments of a removal would lie in pieces, so there is none
  pub lone_series : (τ : List ℕ) → allowed r (pairs r) τ ≡ true → τ ≡ []
  unfolding allowed
  lone_series [] e = refl
  lone_series (m ∷ τ) e = in_none (pair (pairs r) m).h1 (allowed_allows r (pairs r) 0 (root_pieces r) (m ∷ τ) e).0.in1

  -- the empty series is allowed, as of every record
  pub lone_allowed : allowed r (pairs r) [] ≡ true
  unfolding allowed allowed_from
  lone_allowed = refl

  pub lone_series_score : series_score r (pairs r) [] ≡ 0
  unfolding series_score
  lone_series_score = omega (arith, lone_index)

  pub lone_least : least_score r (pairs r) ≡ 0
  lone_least = omega (arith, (least_score_lem r ok (pairs r) (table_laws r ok)).least [] lone_allowed, lone_series_score)

  -- ---- pathways

  -- the empty series yields the empty list
  pub lone_joins : joins r (pairs r) [] ≡ []
  lone_joins = nil_from_length (joins r (pairs r) []) (series_length r ok [] lone_allowed ∙ lone_series_score)

  -- it is a pathway
  pub lone_pathway : is_pathway r [] ≡ true
  lone_pathway = rw lone_joins at (series_pathway r ok [] lone_allowed)

  -- and there is no other: a join would make a fragment of two bonds or more
  pub lone_pathways : (js : List Join) → is_pathway r js ≡ true → js ≡ []
  unfolding is_pathway
  lone_pathways js e = no_join js (joins_of r (few r ok) [] js e).0
    where
      no_join : (js : List Join) → JoinsAfter r [] js → js ≡ []
      no_join [] h = refl
      no_join (j ∷ js) h =
          let f = join_falls r [] j h.0 in
          in_none (union j) (root_covers r ok (union j) f.whole f.own (omega (arith, f.sizes, f.left_some, f.right_some)))

-- ---- no bonds

module _ (r : Bytes) (ok : check r ≡ accepted) (lone : bonds r ≡ 0) where
  -- document 02's sentence: where rows 7 and 8 do not turn it back, it is scored so, whatever the budget and the tables
  pub lone_score : (setting : Setting) (room : Room) → entry_answer r setting room ≡ accepted → score_answer r setting room ≡ scored 0 0 0 no_removal
  unfolding score_answer searched
  lone_score setting room e =
      rw (e, lone_fits r lone room.p room.pairs, score_answer, search_lone r (pairs r) setting (memo_room room.memo) lone, searched)
      (ap (λ (l : List Match). scored 0 (length l) 0 no_removal) (lone_matches r lone))
