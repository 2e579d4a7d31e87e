-- Document 01, 'Answers and turned-back records': the whole answer of score, every row in order, and the end contents of the trail and the four tables.
use Rattle.std.specs.Prelude.{◌≡◌, ◌⊎◌, Bool, true, false, ◌&&◌, ◌||◌, List, ℕ, ◌≤◌, length, replicate, ltb, leb}
use Rattle.molecule.specs.Lists.{Bytes}
use Rattle.molecule.specs.Check.{Answer, accepted, refused, row, check}
use Rattle.matches.specs.Table.{Table, match_table, pairs_of}
use Rattle.matches.specs.Rows.{table_answer}
use Rattle.search.specs.Setting.{Setting, Room, memo_room}
use Rattle.search.specs.Trail.{Trail, written}
use Rattle.search.specs.Search.{Outcome, answers, halts, search}

-- check's rows; 7: bounds over 3, or memo over 1; 8: trail under 64 numbers, or desk under 4,096 words
unfoldable pub entry_answer : Bytes → Setting → Room → Answer
entry_answer r setting room = elim (check r) [
  | refused number place ↦ refused number place
  | accepted ↦
      row 7 0 (ltb 3 setting.bounds || ltb 1 setting.memo)
      (row 8 0 (ltb room.trail 64 || ltb room.desk 4096) accepted)
]

-- index, matches, states and the trail; or a row before the tables are touched (1 to 8 and 15), or after (9 to 12)
pub data ScoreAnswer : Type 0 where
  scored : ℕ → ℕ → ℕ → Trail → ScoreAnswer
  turned_back : ℕ → ℕ → ScoreAnswer

-- rows 11 and 12 in the order the search meets them
unfoldable pub searched : Table → Outcome → ScoreAnswer
searched t (answers index trail run) = scored index (length t.matches) run.states trail
searched t (halts number place) = turned_back number place

-- score's answer: check's rows, 7 and 8, then 9 and 10 of the match table, then the search
unfoldable pub score_answer : Bytes → Setting → Room → ScoreAnswer
score_answer r setting room = elim (entry_answer r setting room) [
  | refused number place ↦ turned_back number place
  | accepted ↦
      let t : Table = match_table r in
      elim (table_answer t room.p room.pairs) [
        | refused number place ↦ turned_back number place
        | accepted ↦ searched t (search r (pairs_of t) setting (memo_room room.memo))
      ]
]

-- after a score the trail is written (document 02, 3/14), where turned back it is unchanged
unfoldable pub trail_after : ScoreAnswer → List ℕ → List ℕ
trail_after (scored index matches states trail) lent = written trail lent
trail_after (turned_back number place) lent = lent

-- rows 9 to 12 come once the tables are touched
abbrev pub is_late : ℕ → Bool
is_late number = leb 9 number && leb number 12

-- after a score, and after 9 to 12, every word of the four tables is zero; on 1 to 8 and 15 nothing changes
unfoldable pub table_after : ScoreAnswer → List ℕ → List ℕ
table_after (scored index matches states trail) words = replicate (length words) 0
table_after (turned_back number place) words = elim (is_late number) [ true ↦ replicate (length words) 0 | false ↦ words ]

-- a score, or row 11 with the budget, or row 12 with the memo on and a number of states within the budget
abbrev pub Finished : Setting → ScoreAnswer → Type 0
Finished setting (scored index matches states trail) = Unit {0}
Finished setting (turned_back number place) = ((number ≡ 11) × (place ≡ setting.budget)) ⊎ ((number ≡ 12) × (setting.memo ≡ 1) × (place ≤ setting.budget))
