-- What a trail or a table may hold before a call.
use Rattle.std.specs.Prelude.{ℕ, ◌<◌}

-- an element that some number above 0 is turned into
abbrev pub IsFromPositive : {T : Type 0} → (ℕ → T → Type 0) → T → Type 0
IsFromPositive from_gives x = (n : ℕ) × (0 < n) × from_gives n x
