-- What document 01 says of a record of one tree, where document 02, 9/14 speaks of mixtures: all bonds are the root's one piece, and a pathway ends in all bonds.
-- What takes the start as a parameter is shared. For such records the answers are the same (proofs/OneTree.antt).
use Rattle.std.specs.Prelude.{Bool, true, false, ◌&&◌, ◌||◌, ℕ, ◌-◌, min, length, leb, eqb}
use mathlib.Core.List.{List, [], ◌∷◌}
use Rattle.molecule.specs.Lists.{Bytes, fold}
use Rattle.molecule.specs.Record.{bonds, all_bonds}
use Rattle.molecule.specs.Check.{accepted, refused}
use Rattle.matches.specs.Table.{Pair, Table, match_table, pairs_of}
use Rattle.matches.specs.Rows.{table_answer}
use Rattle.search.specs.Setting.{Setting, Room, memo_room}
use Rattle.search.specs.Trail.{no_removal}
use Rattle.search.specs.State.{State}
use Rattle.search.specs.Search.{Run, Outcome, answers, visit}
use Rattle.search.specs.Series.{saved, allowed_from, series_from}
use Rattle.search.specs.Pathway.{Join, union, is_join, joins_from}
use Rattle.search.specs.Answer.{ScoreAnswer, turned_back, entry_answer, searched}

module _ (r : Bytes) where
  -- the pieces at the start: all bonds as one
  abbrev pub pieces_of_one : List ℕ
  pieces_of_one = all_bonds r ∷ []

  -- the index at the start: bonds less one, and 0 without bonds (document 02, 5/14)
  abbrev pub index_of_one : ℕ
  index_of_one = bonds r - 1

  -- the root: largest removed n, last removed −1
  abbrev pub root_of_one : State
  root_of_one = record { pieces = pieces_of_one; index = index_of_one; largest = bonds r; next = 0; trail = no_removal }

  -- each is a join after those whose unions are made, newest first; a union is made, and the last is all bonds
  unfoldable pub ends_in_all : List ℕ → List Join → Bool
  ends_in_all [] [] = false
  ends_in_all (u ∷ made) [] = eqb u (all_bonds r)
  ends_in_all made (j ∷ js) = is_join r made j && ends_in_all (union j ∷ made) js

  -- a pathway: one bond needs no join, and neither does a lone atom (document 02, 5/14)
  unfoldable pub is_pathway_of_one : List Join → Bool
  is_pathway_of_one js = (leb (bonds r) 1 && eqb (length js) 0) || ends_in_all [] js

  module _ (ms : List Pair) where
    -- a series that is allowed from there
    unfoldable pub allowed_of_one : List ℕ → Bool
    allowed_of_one τ = allowed_from r ms 0 pieces_of_one τ

    -- its score
    abbrev pub score_of_one : List ℕ → ℕ
    score_of_one τ = index_of_one - saved ms τ

    -- the smallest score of all
    unfoldable pub least_of_one : ℕ
    least_of_one = fold (λ k τ. min k (score_of_one τ)) index_of_one (series_from r ms (bonds r) 0 pieces_of_one)

    -- the joins that a series gives
    unfoldable pub joins_of_one : List ℕ → List Join
    joins_of_one τ = joins_from r ms pieces_of_one τ

    -- the search, from the root; without bonds no state is entered (document 02, 5/14)
    unfoldable pub search_of_one : Setting → ℕ → Outcome
    search_of_one setting room =
        let start : Run = record { best = index_of_one; states = 0; memo = [] } in
        elim (eqb (bonds r) 0) [
          | true ↦ answers 0 no_removal start
          | false ↦ visit r ms setting room (bonds r) root_of_one start
        ]

-- score's answer: check's rows, 7 and 8, then 9 and 10 of the match table, then the search
unfoldable pub answer_of_one : Bytes → Setting → Room → ScoreAnswer
answer_of_one r setting room = elim (entry_answer r setting room) [
  | refused number place ↦ turned_back number place
  | accepted ↦
      let t : Table = match_table r in
      elim (table_answer t room.p room.pairs) [
        | refused number place ↦ turned_back number place
        | accepted ↦ searched t (search_of_one r (pairs_of t) setting (memo_room room.memo))
      ]
]
