-- What `build` leaves in the lent pairs.
use Rattle.std.specs.Prelude.{List, ◌++◌, ℕ, length, drop}
use Rattle.molecule.specs.Lists.{Bytes}
use Rattle.molecule.specs.Check.{accepted, refused}
use Rattle.matches.specs.Table.{match_table}
use Rattle.matches.specs.Rows.{table_answer}
use Rattle.matches.specs.Inner.Written.{words_of}

-- the words of a record's matches, in descending order
unfoldable pub match_words : Bytes → List ℕ
match_words r = words_of (match_table r).nodes (match_table r).matches

-- for P: the words of the matches come first and later ones are untouched; turned back, pairs does not change
unfoldable pub pairs_after : Bytes → ℕ → List ℕ → List ℕ
pairs_after r p old = elim (table_answer (match_table r) p (length old)) [
  | accepted ↦ match_words r ++ drop (length (match_words r)) old
  | refused k place ↦ old
]
