-- A set of numbers is the number whose digit i is set where i is a member. Membership is a number, 0 or 1, so that `omega` reasons about it.
-- Intersection is `bit_and` and union `bit_or` of `lib.Bits`, the set of i alone is `2 ^ i`, and the empty set is 0.
-- Every definition computes on a numeral of any size.
use Rattle.std.specs.Prelude.{◌≡◌, Bool, true, false, Option, None, Some, ℕ, zero, suc, ◌+◌, ◌-◌, ◌/◌, ◌%◌, ◌^◌, ◌<◌, eqb}
use mathlib.Core.List.{List, [], ◌∷◌, Memᴰ}
use Rattle.std.specs.Int.Bits.{bit_and, bit_or}
use Rattle.std.specs.Int.Count.{count_trailing_zeros}

-- 1 where i is a member of s, else 0; and as a test
unfoldable pub bit : ℕ → ℕ → ℕ
bit s i = s / 2 ^ i % 2

abbrev pub has : ℕ → ℕ → Bool
has s i = eqb (bit s i) 1

-- every member of s is one of t; no member of s is one of t
abbrev pub Sub : ℕ → ℕ → Type 0
Sub s t = bit_and s t ≡ s

abbrev pub Disjoint : ℕ → ℕ → Type 0
Disjoint s t = bit_and s t ≡ 0

-- the same as tests
abbrev pub is_sub : ℕ → ℕ → Bool
is_sub s t = eqb (bit_and s t) s

abbrev pub is_disjoint : ℕ → ℕ → Bool
is_disjoint s t = eqb (bit_and s t) 0

-- the members of s that are not in t
unfoldable pub diff : ℕ → ℕ → ℕ
diff s t = s - bit_and s t

-- how many members: the first argument is how many digits may be looked at
unfoldable pub size_in : ℕ → ℕ → ℕ
size_in zero n = zero
size_in (suc d) zero = zero
size_in (suc d) (suc n) = suc n % 2 + size_in d (suc n / 2)

unfoldable pub size : ℕ → ℕ
unfolding size_in
size n = size_in n n

-- the members in ascending order, each k more than its digit's place
unfoldable pub front : ℕ → ℕ → List ℕ → List ℕ
front zero k l = l
front (suc b) k l = k ∷ l

unfoldable pub members_in : ℕ → ℕ → ℕ → List ℕ
unfolding front
members_in zero k n = []
members_in (suc d) k zero = []
members_in (suc d) k (suc n) = front (suc n % 2) k (members_in d (suc k) (suc n / 2))

unfoldable pub members_from : ℕ → ℕ → List ℕ
unfolding members_in
members_from k n = members_in n k n

abbrev pub members : ℕ → List ℕ
members = members_from 0

-- the least member of a set of numbers below 64, and 64 for the empty set
abbrev pub low : ℕ → ℕ
low s = count_trailing_zeros 64 s

-- r is the least member of s; r is s without it
pub record Lowest (s r : ℕ) : Type 0 where
  pub is : r ≡ low s
  pub member : bit s r ≡ 1
  pub within : r < 64

pub record WithoutLowest (s r : ℕ) : Type 0 where
  pub is : r ≡ diff s (2 ^ low s)
  pub fewer : size r + 1 ≡ size s
  pub below : r < s

-- the next of a set's members, and the members left: none where it is empty, and else its least
abbrev pub NextMember : ℕ → Option ℕ → ℕ → Type 0
NextMember s None t = (s ≡ 0) × (t ≡ 0)
NextMember s (Some i) t = (0 < s) × (s < 2 ^ 64) × Lowest s i × WithoutLowest s t

-- the set of the numbers below n that pass the test
unfoldable pub set_of : (ℕ → Bool) → ℕ → ℕ
set_of p zero = 0
set_of p (suc n) = elim (p n) [ true ↦ 2 ^ n + set_of p n | false ↦ set_of p n ]

-- the union of f i over the i of a list
unfoldable pub unions : (ℕ → ℕ) → List ℕ → ℕ
unions f [] = 0
unions f (i ∷ l) = bit_or (f i) (unions f l)

-- each element is below all that follow it
abbrev pub Ascending : List ℕ → Type 0
Ascending [] = Unit {0}
Ascending (x ∷ l) = ((y : ℕ) → Memᴰ y l → x < y) × Ascending l
