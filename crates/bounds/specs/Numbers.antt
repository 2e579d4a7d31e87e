-- Sums, largest values and roundings that document 01 takes for granted.
use Rattle.std.specs.Prelude.{List, [], ◌∷◌, ℕ, ◌+◌, ◌-◌, ◌/◌, ◌^◌, max, leb}
use Rattle.molecule.specs.Lists.{first}

-- the sum of f over a list
abbrev pub sum_of : {A : Type 0} → (A → ℕ) → List A → ℕ
sum_of f [] = 0
sum_of f (x ∷ xs) = f x + sum_of f xs

-- the largest of f over a list, 0 for none
abbrev pub max_of : {A : Type 0} → (A → ℕ) → List A → ℕ
max_of f [] = 0
max_of f (x ∷ xs) = max (f x) (max_of f xs)

-- x / y rounded up
abbrev pub ceil_div : ℕ → ℕ → ℕ
ceil_div x y = (x + (y - 1)) / y

-- ceiling log2 t: the least e with t at most 2 ^ e
unfoldable pub ceil_log2 : ℕ → ℕ
ceil_log2 t = first (λ e. leb t (2 ^ e)) t
