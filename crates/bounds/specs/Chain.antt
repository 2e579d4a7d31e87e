-- Addition chains, and what a lower bound of their lengths is.
use Rattle.std.specs.Prelude.{◌≡◌, ◌⊎◌, ℕ, ◌+◌, ◌≤◌, length}
use mathlib.Core.List.{List, [], ◌∷◌, Memᴰ}

-- n is 1 or in the list
abbrev pub Known : List ℕ → ℕ → Type 0
Known L n = (n ≡ 1) ⊎ Memᴰ n L

-- x is a sum of two numbers that are 1 or in the list
pub record Sum (L : List ℕ) (x : ℕ) : Type 0 where
  pub left : ℕ
  pub right : ℕ
  pub left_known : Known L left
  pub right_known : Known L right
  pub is : x ≡ left + right

-- each entry is a sum of two numbers that are 1 or stand after it: the newest entry is first
abbrev pub Chain : List ℕ → Type 0
Chain [] = Unit {0}
Chain (x ∷ L) = Sum L x × Chain L

-- c k is at most the length of every chain that holds k
pub record LowerBound (c : ℕ → ℕ) : Type 0 where
  pub at_one : c 1 ≡ 0
  pub below : (L : List ℕ) (k : ℕ) → Chain L → Memᴰ k L → c k ≤ length L
