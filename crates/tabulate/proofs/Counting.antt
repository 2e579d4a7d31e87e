-- count's answer, row by row, and the lent tables afterwards. Assumes nothing.
use Rattle.std.proofs.Common.{◌≡◌, ap, ◌∙◌, List, ℕ, ◌/◌, min, length, replicate}
use Rattle.molecule.specs.Lists.{Bytes}
use Rattle.molecule.specs.Check.{accepted, refused, check}
use Rattle.matches.specs.Rows.{capacity}
use Rattle.tabulate.specs.Built.{turned_back, build_answer}
use Rattle.tabulate.specs.Counted.{count_for, count_by, count_answer, table_after}

module _ (r : Bytes) where
  -- an accepted record: the table's answer, and zeros
  pub count_accepted_lem : check r ≡ accepted → (p pairs : ℕ) → count_for r p pairs ≡ build_answer r p pairs
  unfolding count_for
  count_accepted_lem ok p pairs = rw (ok, count_for)

  -- so many zeros, where the table had as many words
  pub cleared : check r ≡ accepted → (words : List ℕ) (n : ℕ) (now : List ℕ) → now ≡ replicate n 0 → n ≡ length words → now ≡ table_after r words
  unfolding table_after
  cleared ok words n now e same = rw (ok, table_after) (e ∙ ap (λ (k : ℕ). replicate k 0) same)

  -- turned back: the row, and what was lent as it was
  pub count_refused : (k place : ℕ) → check r ≡ refused k place → (p pairs : ℕ) → turned_back k place ≡ count_for r p pairs
  unfolding count_for
  count_refused k place e p pairs = rw (e, count_for)

  pub after_refused : (k place : ℕ) → check r ≡ refused k place → (words : List ℕ) → words ≡ table_after r words
  unfolding table_after
  after_refused k place e words = rw (e, table_after)

-- ---- document 02, 10/14: what is answered depends on the length of parts through P alone

-- two divisors and two lengths of parts that give one P give one count, or row and place
pub same_count : (r : Bytes) (each by parts others pairs : ℕ) → capacity each parts ≡ capacity by others → count_by each r parts pairs ≡ count_by by r others pairs
same_count r each by parts others pairs e = ap (λ (p : ℕ). count_for r p pairs) e

-- those of /16 among them
pub count_by_sixteen : (r : Bytes) (parts others pairs : ℕ) → parts / 12 ≡ others / 16 → count_answer r parts pairs ≡ count_by 16 r others pairs
count_by_sixteen r parts others pairs e = same_count r 12 16 parts others pairs (ap (λ (p : ℕ). min p 4294967295) e)
