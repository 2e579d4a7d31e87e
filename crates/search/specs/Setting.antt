-- Document 01, 'Record, setting, capacities': the setting of a search, and the room in what is lent to score.
use Rattle.std.specs.Prelude.{Bool, ◌||◌, ℕ, ◌/◌, eqb}
use Rattle.search.specs.declared.Setting as code

-- bounds (0 to 3), memo (0 or 1) and a 32-bit budget: the code's own struct (src/lib.rt)
abbrev pub Setting : Type 0
Setting = code.Setting

-- bounds 1 is Int, 2 is MatchableEdges, 3 both
abbrev pub has_int : Setting → Bool
has_int s = eqb s.bounds 1 || eqb s.bounds 3

abbrev pub has_matchable_edges : Setting → Bool
has_matchable_edges s = eqb s.bounds 2 || eqb s.bounds 3

-- memo 1 is CanonIndex
abbrev pub has_memo : Setting → Bool
has_memo s = eqb s.memo 1

-- the lengths of the trail, in numbers, and of pairs, memo and desk, in words; of parts it is P that counts
pub record Room : Type 0 where
  pub trail : ℕ
  pub p : ℕ
  pub pairs : ℕ
  pub memo : ℕ
  pub desk : ℕ

-- memo entries are length / 80, rounded down
abbrev pub memo_room : ℕ → ℕ
memo_room words = words / 80
