-- The words of a record's matches, four a match, as rows. Of an accepted record.
use Rattle.std.proofs.Common.{◌≡◌, refl, sym, ap, ◌∙◌, List, [], ◌∷◌, ℕ, zero, suc, ◌+◌, ◌*◌, ◌/◌, ◌≤◌, ◌<◌, length, get_or, take, drop, arith, get_or-take, get_or-drop, length-take, length-take-le, length-drop}
use Rattle.std.specs.Simd.{first_chunks}
use Rattle.std.proofs.lemmas.Grind.{same_number_lists}
use Rattle.molecule.specs.Lists.{Bytes}
use Rattle.molecule.specs.Check.{check, accepted}
use Rattle.matches.specs.Table.{Pair, pair, pairs}
use Rattle.matches.specs.Inner.Written.{Recorded, four_words}
use Rattle.matches.proofs.Laws.{table_laws, pair_is, size_of_first, recorded_front}
use Rattle.state.specs.Inner.Scan.{AllRows, rows_of}
use Rattle.state.proofs.Scanning.{row_at, rows_long}
use Rattle.branch.proofs.Branching.{size_most}

-- the rows of an accepted record's matches are rows
pub all_rows : (r : Bytes) → check r ≡ accepted → AllRows (rows_of (pairs r))
all_rows r ok m h =
    let n : m < length (pairs r) = omega (arith, h, rows_long (pairs r)) in
    let t = (table_laws r ok).twins m n in
    rw (row_at (pairs r) m n) (record {
      first = t.one.some;
      second = t.other.some;
      both = refl;
      most = omega (arith, size_of_first (pairs r) m, size_most r ok m n);
    })

-- the words of match m of a list, by their places
abbrev At : List ℕ → List Pair → Type 0
At words ms = (m k : ℕ) → m < length ms → k < 4 → get_or words (4 * m + k) 0 ≡ get_or (four_words (pair ms m).h1 (pair ms m).h2) k 0

recorded_at : {words : List ℕ} {ms : List Pair} → Recorded words ms → At words ms
recorded_at {words} R m zero h l = ap (λ (j : ℕ). get_or words j 0) (omega arith) ∙ R.one m h
recorded_at R m (suc zero) h l = R.other m h
recorded_at R m (suc (suc zero)) h l = R.both m h
recorded_at {ms = ms} R m (suc (suc (suc zero))) h l = R.sized m h ∙ sym (size_of_first ms m)
recorded_at R m (suc (suc (suc (suc k)))) h l = absurd (omega (arith, l))

-- words that are so are the rows
rows_by : (ms : List Pair) (words : List ℕ) → length words ≡ 4 * length ms → At words ms → first_chunks 4 (length ms) words ≡ rows_of ms
rows_by [] words n h = refl
rows_by (p ∷ ms) words n h = rw (front, rows_by ms (drop 4 words) (omega (arith, n, length-drop 4 words)) rest) refl
  where
    front : take 4 words ≡ four_words p.h1 p.h2
    front =
        same_number_lists (take 4 words) (four_words p.h1 p.h2) (omega (arith, n, length-take 4 words))
        (λ k l. let g : k < 4 = omega (arith, l, n, length-take 4 words) in get_or-take 4 words k 0 g ∙ ap (λ (j : ℕ). get_or words j 0) (omega arith) ∙ h 0 k (omega arith) g ∙ ap (λ (q : Pair). get_or (four_words q.h1 q.h2) k 0) (pair_is (p ∷ ms) 0))

    rest : At (drop 4 words) ms
    rest m k l g = get_or-drop 4 words (4 * m + k) 0 ∙ ap (λ (j : ℕ). get_or words j 0) (omega arith) ∙ h (suc m) k (omega (arith, l)) g ∙ ap (λ (q : Pair). get_or (four_words q.h1 q.h2) k 0) (pair_is (p ∷ ms) (suc m) ∙ sym (pair_is ms m))

chunks_listed : (ms : List Pair) (words : List ℕ) → length words ≡ 4 * length ms → Recorded words ms → first_chunks 4 (length words / 4) words ≡ rows_of ms
chunks_listed ms words n R = let e : length words / 4 ≡ length ms = omega (arith, n) in rw e (rows_by ms words n (recorded_at R))

-- the n matches at the front of the words of pairs, as rows
pub front_listed : (r : Bytes) → check r ≡ accepted → (words : List ℕ) (n : ℕ) → Recorded words (pairs r) → n ≡ length (pairs r) → 4 * n ≤ length words
    → {rows : List (List ℕ)} → rows ≡ first_chunks 4 (length (take (4 * n) words) / 4) (take (4 * n) words) → (rows ≡ rows_of (pairs r)) × AllRows rows
front_listed r ok words n R e l f =
    let long : length (take (4 * n) words) ≡ 4 * length (pairs r) = omega (arith, length-take-le (4 * n) words l, e) in
    let listed = f ∙ chunks_listed (pairs r) (take (4 * n) words) long (recorded_front words (pairs r) (4 * n) (omega (arith, e)) R) in
    (listed, rw listed (all_rows r ok))
