-- Document 02, 3/14: the trail, two parallel arrays, one after the other.
use Rattle.std.specs.Prelude.{List, [], ◌∷◌, ◌++◌, ℕ, ◌-◌, length, take, drop, replicate}
use Rattle.bounds.specs.Numbers.{sum_of}

-- match numbers, and fragment sizes
pub record Trail : Type 0 where
  pub numbers : List ℕ
  pub sizes : List ℕ

-- the sum of (size less one)
abbrev pub sizes_less_one : Trail → ℕ
sizes_less_one t = sum_of (λ k. k - 1) t.sizes

-- no removal
abbrev pub no_removal : Trail
no_removal = record { numbers = []; sizes = [] }

-- one removal more: of match m, whose fragments have k bonds
abbrev pub with_removal : Trail → ℕ → ℕ → Trail
with_removal t m k = record { numbers = t.numbers ++ (m ∷ []); sizes = t.sizes ++ (k ∷ []) }

-- an array of 32: k numbers, and zeros after k
abbrev pub array_of : List ℕ → List ℕ
array_of ns = ns ++ replicate (32 - length ns) 0

-- the trail that is lent, once the trail t is written: both arrays; numbers after the first 64 are untouched
abbrev pub written : Trail → List ℕ → List ℕ
written t lent = array_of t.numbers ++ (array_of t.sizes ++ drop 64 lent)

-- the trail of k removals that is read there
abbrev pub read : ℕ → List ℕ → Trail
read k lent = record { numbers = take k lent; sizes = take k (drop 32 lent) }
