-- A part of a list left with zeros.
use Rattle.std.specs.Prelude.{List, ◌++◌, ℕ, ◌-◌, take, drop, replicate}

-- the list with 0 at the places a to b - 1
unfoldable pub zero_part : List ℕ → ℕ → ℕ → List ℕ
zero_part l a b = take a l ++ (replicate (b - a) 0 ++ drop b l)
