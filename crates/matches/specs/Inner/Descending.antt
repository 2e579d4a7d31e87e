-- Matches in descending order, from the last node down, by where the groups of nodes start.
use Rattle.std.specs.Prelude.{◌↔◌, List, [], ◌∷◌, ◌++◌, map, ℕ, zero, suc, ◌+◌, ◌-◌, ◌≤◌, ◌<◌, length, get_or}
use Rattle.bitset.specs.Bits.{is_disjoint}
use Rattle.molecule.specs.Lists.{Bytes, filter}
use Rattle.matches.specs.Table.{Match}
use Rattle.matches.specs.Inner.Ranks.{Akin}

-- n numbers, down to k
abbrev pub countdown : ℕ → ℕ → List ℕ
countdown k zero = []
countdown k (suc n) = (k + n) ∷ countdown k n

-- x with each y of a list
abbrev pub with_each : ℕ → List ℕ → List Match
with_each x ys = map (λ (y : ℕ). record { larger = x; smaller = y }) ys

-- the matches of the nodes below n, from the last one down: x with those that `below` gives
abbrev pub descend : (ℕ → List ℕ) → ℕ → List Match
descend below zero = []
descend below (suc x) = with_each x (below x) ++ descend below x

-- the nodes below x in its group, from x − 1 down, that are disjoint from it
abbrev pub apart_below : List ℕ → (ℕ → ℕ) → ℕ → List ℕ
apart_below l start x = filter (λ y. is_disjoint (get_or l x 0) (get_or l y 0)) (countdown (start x) (x - start x))

-- start gives each node's group its first number: what is below x and not below start x is of x's group, and nothing else below x is
abbrev pub Starts : Bytes → List ℕ → (ℕ → ℕ) → Type 0
Starts r l start = (x : ℕ) → x < length l → (start x ≤ x) × ((y : ℕ) → y < x → (start x ≤ y) ↔ Akin r (get_or l x 0) (get_or l y 0))
