-- What a scan answers: the lowest number that passes a test, where there is one.
use Rattle.std.specs.Prelude.{◌≡◌, Bool, true, false, ℕ, ◌<◌, Option, MatchOption}

-- no number below n passes the test, or the one that is answered is the lowest that does
abbrev pub IsLowest : (ℕ → Bool) → ℕ → Option ℕ → Type 0
IsLowest p n answer =
    MatchOption answer ((k : ℕ) → k < n → p k ≡ false)
    (λ i. (i < n) × (p i ≡ true) × ((k : ℕ) → k < i → p k ≡ false))
