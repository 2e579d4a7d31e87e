-- The candidates of one size as the lent table keeps them, in regions of p words: region 0 the nodes, 1 the candidates in order found, 2 for each
-- the one before it in its bucket, 3 the last of each bucket.
use Rattle.std.specs.Prelude.{◌≡◌, true, false, Option, Some, None, List, map, ℕ, zero, suc, ◌+◌, ◌*◌, ◌/◌, ◌%◌, ◌^◌, ◌≤◌, ◌<◌, length, get_or, eqb}
use Rattle.bitset.specs.Bits.{members}
use Rattle.molecule.specs.Lists.{fold}
use Rattle.molecule.specs.Touch.{around}
use Rattle.matches.specs.Table.{note}

-- the bucket of set x
unfoldable pub bucket_of : ℕ → ℕ → ℕ
bucket_of x p = x % 4294967291 * 2654435761 / 4294967296 % p

-- 1 more than the last index below n of the list whose set is in bucket h, and 0 for none
unfoldable pub last_in : List ℕ → ℕ → ℕ → ℕ → ℕ
last_in l p h zero = 0
last_in l p h (suc n) = elim (eqb (bucket_of (get_or l n 0) p) h) [ true ↦ suc n | false ↦ last_in l p h n ]

-- region 1 has the candidates l
pub record Enumerated (parts : List ℕ) (p : ℕ) (l : List ℕ) : Type 0 where
  pub fits : length l ≤ p
  pub sets : (i : ℕ) → i < length l → get_or parts (p + i) 0 ≡ get_or l i 0

-- the candidates l are in their buckets
pub record Bucketed (parts : List ℕ) (p : ℕ) (l : List ℕ) : Type 0 where
  pub some : 0 < p
  pub wide : 4 * p ≤ length parts
  pub listed : Enumerated parts p l
  pub before : (i : ℕ) → i < length l → get_or parts (2 * p + i) 0 ≡ last_in l p (bucket_of (get_or l i 0) p) i
  pub last : (h : ℕ) → h < p → get_or parts (3 * p + h) 0 ≡ last_in l p h (length l)

-- some candidates are, so many
abbrev pub Filled : List ℕ → ℕ → ℕ → Type 0
Filled parts p count = (l : List ℕ) × Bucketed parts p l × (length l ≡ count)

-- regions 0 and from 4 on are as they were
pub record Spared (old now : List ℕ) (p : ℕ) : Type 0 where
  pub long : length now ≡ length old
  pub nodes : (i : ℕ) → i < p → get_or now i 0 ≡ get_or old i 0
  pub rest : (i : ℕ) → 4 * p ≤ i → get_or now i 0 ≡ get_or old i 0

-- the answer where the candidates are to be l: how many there are, and then the table holds them; or None where they have no room
abbrev pub Collected : List ℕ → ℕ → List ℕ → Option ℕ → Type 0
Collected now p l (Some n) = Bucketed now p l × (length l ≡ n)
Collected now p l None = p < length l

-- the candidates l, and those that parent s gives, with near i the bonds next to bond i; and the same for each of a list of parents
unfoldable pub grown : (ℕ → ℕ) → List ℕ → ℕ → List ℕ
grown near l s = fold note l (map (λ b. s + 2 ^ b) (members (around near s)))

unfoldable pub grown_by : (ℕ → ℕ) → List ℕ → List ℕ → List ℕ
grown_by near l parents = fold (grown near) l parents
