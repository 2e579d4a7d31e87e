-- The laws of sets as numbers. Assumes nothing.
use mathlib.Core.Path.{◌≡◌, refl, sym, ap, ◌∙◌}
use mathlib.Core.Logic.{◌⊎◌, inl, inr, ◌≢◌, ⊎_elim}
use mathlib.Core.List.Memᴰ
use mathlib.Core.List.{List, [], ◌∷◌, Memᴰ}
use Prim.Native.Nat.{ℕ, zero, suc, ◌+◌, ◌-◌, ◌/◌, ◌%◌, ◌^◌, ◌≤◌, ◌<◌, min, max}
use native.Mathlib.Nat.{pow-suc, div-one, not-suc-le-zero, le_refl, add-zero, zero-sub, suc-add, add-suc, sub_self, sub-zero, zero-add, lt_of_not-le, div-eq_of_lt, lt_of_lt_of_le}
use native.Mathlib.Numerals.{one-add}
use native.Mathlib.Omega.{arith}
use native.Mathlib.Decide.{le_ind, ℕ_discrete}
use lib.Arith.{bin_ind, half_le}
use lib.Pow.{shr-shr, pow_pos, pow-lt, pow_mono}
use lib.Bits.{bit_and, bit_or, bit_xor, and_step, or_step, and_shr, or_shr, xor_shr, xor_add_and, and_le_l, and_comm, and_zero_r, and_self}
use lib.Dec.{lit<}
use lib.Count.{ones, ones_step, ones-ones, ones-le, count_trailing_zeros, under}
use lib.ListN.{length}
use Rattle.std.specs.Prelude.{Some}
use Rattle.bitset.specs.Bits.{bit, Sub, Disjoint, diff, size_in, size, front, members_in, members_from, members, low, unions, Ascending, Lowest, WithoutLowest, NextMember}

-- ---- a digit: the lowest, and the next

pub bit_zero : (s : ℕ) → bit s 0 ≡ s % 2
unfolding bit
bit_zero s = ap (λ (x : ℕ). x % 2) (div-one s)

pub bit_suc : (s i : ℕ) → bit s (suc i) ≡ bit (s / 2) i
unfolding bit
bit_suc s i = ap (λ (x : ℕ). s / 2 ^ x % 2) (sym (one-add i)) ∙ ap (λ (x : ℕ). x % 2) (sym (shr-shr s 1 i))

pub bit_le : (s i : ℕ) → bit s i ≤ 1
unfolding bit
bit_le s i = omega arith

-- ---- a digit of a result

pub bit-and : (s t i : ℕ) → bit (bit_and s t) i ≡ min (bit s i) (bit t i)
unfolding bit
bit-and s t i = rw (and_shr s t i) (omega (arith, and_step (s / 2 ^ i) (t / 2 ^ i)))

pub bit-or : (s t i : ℕ) → bit (bit_or s t) i ≡ max (bit s i) (bit t i)
unfolding bit
bit-or s t i = rw (or_shr s t i) (omega (arith, or_step (s / 2 ^ i) (t / 2 ^ i)))

pub bit-xor : (s t i : ℕ) → bit (bit_xor s t) i ≡ (bit s i + bit t i) % 2
unfolding bit
bit-xor s t i = rw (xor_shr s t i) (omega (arith, xor_add_and (s / 2 ^ i) (t / 2 ^ i)))

pub diff_half : (s t : ℕ) → diff s t / 2 ≡ diff (s / 2) (t / 2)
unfolding diff
diff_half s t = omega (arith, and_step s t, and_le_l (s / 2) (t / 2))

pub diff_low : (s t : ℕ) → diff s t % 2 ≡ s % 2 - t % 2
unfolding diff
diff_low s t = omega (arith, and_step s t, and_le_l (s / 2) (t / 2))

pub bit_diff : (s t i : ℕ) → bit (diff s t) i ≡ bit s i - bit t i
bit_diff s t zero = simp (bit_zero, diff_low)
bit_diff s t (suc i) = simp (bit_suc, diff_half) (bit_diff (s / 2) (t / 2) i)

pub bit_empty : (i : ℕ) → bit 0 i ≡ 0
bit_empty zero = bit_zero 0
bit_empty (suc i) = bit_suc 0 i ∙ bit_empty i

-- ---- the set of one number

pow_half : (i : ℕ) → 2 ^ suc i / 2 ≡ 2 ^ i
pow_half i = rw (pow-suc 2 i) (omega arith)

pub bit_one : (i : ℕ) → bit (2 ^ i) i ≡ 1
bit_one zero = bit_zero 1
bit_one (suc i) = simp (bit_suc, pow_half) (bit_one i)

pub bit_other : (i j : ℕ) → j ≢ i → bit (2 ^ i) j ≡ 0
bit_other zero zero h = absurd (h refl)
bit_other zero (suc j) h = bit_suc 1 j ∙ bit_empty j
bit_other (suc i) zero h = bit_zero (2 ^ suc i) ∙ rw (pow-suc 2 i) (omega arith)
bit_other (suc i) (suc j) h = simp (bit_suc, pow_half) (bit_other i j (λ e. h (ap suc e)))

-- ---- two sets with the same members are equal

half_lt : {s : ℕ} (k : ℕ) → s < 2 ^ suc k → s / 2 < 2 ^ k
half_lt k h = omega (arith, rw (pow-suc 2 k) at h)

pub ext : (k s t : ℕ) → s < 2 ^ k → t < 2 ^ k → ((i : ℕ) → i < k → bit s i ≡ bit t i) → s ≡ t
ext zero s t hs ht e = omega arith
ext (suc k) s t hs ht e =
    let low : s % 2 ≡ t % 2 = sym (bit_zero s) ∙ e 0 (omega arith) ∙ bit_zero t in
    let rest : s / 2 ≡ t / 2 = ext k (s / 2) (t / 2) (half_lt k hs) (half_lt k ht) (λ i h. sym (bit_suc s i) ∙ e (suc i) (omega arith) ∙ bit_suc t i) in
    omega arith

pub lt_pow : (n : ℕ) → n < 2 ^ n
lt_pow zero = lit< tt
lt_pow (suc n) = omega (arith, lt_pow n, pow-suc 2 n)

-- set algebra: `same (λ i. simp digits (omega arith))`
pub same : {s t : ℕ} → ((i : ℕ) → bit s i ≡ bit t i) → s ≡ t
same {s} {t} e = ext (s + t) s t (lt_of_lt_of_le (lt_pow s) (pow_mono (omega arith))) (lt_of_lt_of_le (lt_pow t) (pow_mono (omega arith))) (λ i h. e i)

pub ruleset digits = (bit-and, bit-or, bit-xor, bit_diff, bit_empty)

pub or_assoc : (a b c : ℕ) → bit_or (bit_or a b) c ≡ bit_or a (bit_or b c)
or_assoc a b c = same (λ i. simp digits (omega arith))

pub diff_diff : (a b c : ℕ) → diff (diff a b) c ≡ diff a (bit_or b c)
diff_diff a b c = same (λ i. simp digits (omega (arith, bit_le a i)))

-- ---- how many

more : (d n : ℕ) → n ≤ d → size_in (suc d) n ≡ size_in d n
unfolding size_in
more zero zero h = refl
more zero (suc n) h = absurd (not-suc-le-zero h)
more (suc d) zero h = refl
more (suc d) (suc n) h = ap (λ (x : ℕ). suc n % 2 + x) (more d (suc n / 2) (half_le h))

enough : (d n : ℕ) → n ≤ d → size_in d n ≡ size_in n n
unfolding size_in
enough d n h = le_ind (λ (m : ℕ). size_in m n ≡ size_in n n) refl (λ m k e. more m n k ∙ e) d h

pub size_step : (n : ℕ) → size n ≡ n % 2 + size (n / 2)
unfolding size
size_step zero = refl
size_step (suc n) = ap (λ (x : ℕ). suc n % 2 + x) (enough n (suc n / 2) (half_le (le_refl (suc n))))

-- what `u64::count_ones` gives
pub size_ones : (n : ℕ) → size n ≡ ones n
unfolding size ones
size_ones = bin_ind (λ (n : ℕ). size n ≡ ones n) refl (λ n ih. size_step n ∙ ap (λ (x : ℕ). n % 2 + x) ih ∙ sym (ones_step n))

pub size_le : (k n : ℕ) → n < 2 ^ k → size n ≤ k
size_le k n h = rw size_ones (ones-le k n h)

pub size_or : (s t : ℕ) → size (bit_or s t) + size (bit_and s t) ≡ size s + size t
unfolding size
size_or =
    bin_ind (λ (s : ℕ). (t : ℕ) → size (bit_or s t) + size (bit_and s t) ≡ size s + size t) (λ t. omega arith)
    (λ s ih t. rw (size_step (bit_or s t), size_step (bit_and s t), size_step s, size_step t, or_shr s t 1, and_shr s t 1) (omega (arith, ih (t / 2), or_step s t, and_step s t)))

pub size_diff : (s t : ℕ) → size (diff s t) + size (bit_and s t) ≡ size s
unfolding size diff
size_diff =
    bin_ind (λ (s : ℕ). (t : ℕ) → size (diff s t) + size (bit_and s t) ≡ size s) (λ t. refl)
    (λ s ih t. rw (size_step (diff s t), size_step (bit_and s t), size_step s, diff_half s t, diff_low s t, and_shr s t 1) (omega (arith, ih (t / 2), and_step s t)))

pub size_empty : size 0 ≡ 0
unfolding size
size_empty = refl

pub size_zero : (s : ℕ) → size s ≡ 0 → s ≡ 0
size_zero = bin_ind (λ (s : ℕ). size s ≡ 0 → s ≡ 0) (λ e. refl) (λ s ih e. let z : s / 2 ≡ 0 = ih (omega (arith, size_step s)) in omega (arith, size_step s))

-- ---- subsets

pub sub_bit : (s t i : ℕ) → Sub s t → bit s i ≤ bit t i
sub_bit s t i h = omega (arith, bit-and s t i, ap (λ (x : ℕ). bit x i) h)

pub bit_sub : (k s t : ℕ) → s < 2 ^ k → ((i : ℕ) → i < k → bit s i ≤ bit t i) → Sub s t
bit_sub k s t hs h = ext k (bit_and s t) s (omega (arith, and_le_l s t)) hs (λ i hi. omega (arith, bit-and s t i, h i hi))

pub sub_anti : (s t : ℕ) → Sub s t → Sub t s → s ≡ t
sub_anti s t p q = sym p ∙ and_comm s t ∙ q

pub size_mono : (s t : ℕ) → Sub s t → size s ≤ size t
size_mono s t h = omega (arith, size_diff t s, ap size (and_comm t s ∙ h))

-- a subset that is no smaller is the whole set
pub size_same : (s t : ℕ) → Sub s t → size t ≤ size s → s ≡ t
size_same s t h l =
    sub_anti s t h
    (let z : diff t s ≡ 0 = size_zero (diff t s) (omega (arith, size_diff t s, ap size (and_comm t s ∙ h))) in
    same (λ i. omega (arith, bit-and t s i, bit_diff t s i, ap (λ (x : ℕ). bit x i) z, bit_empty i)))

-- a digit that is set in a union is set in one of the two
pub or_cases : (s t i : ℕ) → bit (bit_or s t) i ≡ 1 → (bit s i ≡ 1) ⊎ (bit t i ≡ 1)
or_cases s t i h = go (bit s i) refl
  where
    go : (d : ℕ) → bit s i ≡ d → (bit s i ≡ 1) ⊎ (bit t i ≡ 1)
    go zero e = inr (omega (arith, bit-or s t i))
    go (suc d) e = inl (omega (arith, bit_le s i))

pub sub_or : (s t : ℕ) → Sub s (bit_or s t)
sub_or s t = same (λ i. simp digits (omega arith))

pub sub_trans : (s t u : ℕ) → Sub s t → Sub t u → Sub s u
sub_trans s t u h k = same (λ i. omega (arith, bit-and s u i, sub_bit s t i h, sub_bit t u i k))

pub size_minus : (s t : ℕ) → Sub t s → size (diff s t) + size t ≡ size s
size_minus s t h = omega (arith, size_diff s t, ap size (and_comm s t ∙ h))

pub size_disjoint : (s t : ℕ) → Disjoint s t → size (bit_or s t) ≡ size s + size t
unfolding size
size_disjoint s t h = omega (arith, size_or s t, ap size h)

-- ---- one member

pub diff_zero : (s : ℕ) → diff s 0 ≡ s
unfolding diff
diff_zero s = rw (and_zero_r s) (omega arith)

pub size_one : (i : ℕ) → size (2 ^ i) ≡ 1
unfolding size
size_one zero = refl
size_one (suc i) = size_step (2 ^ suc i) ∙ rw (pow_half i, size_one i, pow-suc 2 i) (omega arith)

-- a digit of 2 ^ i, by cases
pub one_cases : (i j : ℕ) → ((j ≡ i) × (bit (2 ^ i) j ≡ 1)) ⊎ ((j ≢ i) × (bit (2 ^ i) j ≡ 0))
one_cases i j = go (ℕ_discrete j i)
  where
    go : Dec (j ≡ i) → ((j ≡ i) × (bit (2 ^ i) j ≡ 1)) ⊎ ((j ≢ i) × (bit (2 ^ i) j ≡ 0))
    go (yes e) = inl (e, rw e (bit_one i))
    go (no n) = inr (n, bit_other i j n)

pub one_sub : (s i : ℕ) → bit s i ≡ 1 → Sub (2 ^ i) s
one_sub s i h =
    bit_sub (suc i) (2 ^ i) s (pow-lt (le_refl (suc i)))
    (λ j hj. ⊎_elim (λ w. let e : bit s j ≡ 1 = rw w.0 h in omega arith) (λ w. omega arith) (one_cases i j))

pub size_remove : (s i : ℕ) → bit s i ≡ 1 → size (diff s (2 ^ i)) + 1 ≡ size s
size_remove s i h = omega (arith, size_minus s (2 ^ i) (one_sub s i h), size_one i)

pub remove_add : (s i : ℕ) → bit s i ≡ 1 → diff s (2 ^ i) + 2 ^ i ≡ s
unfolding diff
remove_add s i h = omega (arith, and_comm s (2 ^ i) ∙ one_sub s i h, and_le_l s (2 ^ i))

-- ---- the least member

-- by the lowest digit
tz_cases : (k s : ℕ) → ((s % 2 ≡ 1) × (count_trailing_zeros (suc k) s ≡ 0)) ⊎ ((s % 2 ≡ 0) × (count_trailing_zeros (suc k) s ≡ suc (count_trailing_zeros k (s / 2))))
unfolding count_trailing_zeros
tz_cases k s = go (s % 2) refl (omega arith)
  where
    go : (d : ℕ) → s % 2 ≡ d → d < 2 → ((s % 2 ≡ 1) × (under (s % 2) (count_trailing_zeros k (s / 2)) ≡ 0)) ⊎ ((s % 2 ≡ 0) × (under (s % 2) (count_trailing_zeros k (s / 2)) ≡ suc (count_trailing_zeros k (s / 2))))
    go zero e h = inr (e, rw e)
    go (suc d) e h = inl (omega arith, rw e)

-- it is below k, it is a member, it is the only one up to there, and s & (s - 1) takes it away
pub low_lt : (k s : ℕ) → 0 < s → s < 2 ^ k → count_trailing_zeros k s < k
low_lt zero s p h = omega arith
low_lt (suc k) s p h = ⊎_elim (λ w. omega arith) (λ w. omega (arith, low_lt k (s / 2) (omega arith) (half_lt k h))) (tz_cases k s)

pub low_bit : (k s : ℕ) → 0 < s → s < 2 ^ k → bit s (count_trailing_zeros k s) ≡ 1
low_bit zero s p h = absurd (omega arith)
low_bit (suc k) s p h =
    ⊎_elim (λ w. rw (w.1, bit_zero) w.0) (λ w. rw (w.1, bit_suc) (low_bit k (s / 2) (omega arith) (half_lt k h))) (tz_cases k s)

pub low_least : (k s j : ℕ) → j < count_trailing_zeros k s → bit s j ≡ 0
unfolding count_trailing_zeros
low_least zero s j h = absurd (omega arith)
low_least (suc k) s zero h = ⊎_elim (λ w. absurd (omega arith)) (λ w. bit_zero s ∙ w.0) (tz_cases k s)
low_least (suc k) s (suc j) h =
    ⊎_elim (λ w. absurd (omega arith)) (λ w. bit_suc s j ∙ low_least k (s / 2) j (omega arith)) (tz_cases k s)

pub low_drop : (k s : ℕ) → 0 < s → s < 2 ^ k → bit_and s (s - 1) + 2 ^ count_trailing_zeros k s ≡ s
low_drop zero s p h = absurd (omega arith)
low_drop (suc k) s p h =
    ⊎_elim
    (λ w.
    let e : (s - 1) / 2 ≡ s / 2 = omega (arith, w.0) in
    omega (arith, and_step s (s - 1), ap (bit_and (s / 2)) e ∙ and_self (s / 2), ap (λ (x : ℕ). 2 ^ x) w.1))
    (λ w.
    let e : (s - 1) / 2 ≡ s / 2 - 1 = omega (arith, w.0) in
    omega (arith, and_step s (s - 1), ap (bit_and (s / 2)) e, low_drop k (s / 2) (omega (arith, w.0)) (half_lt k h), ap (λ (x : ℕ). 2 ^ x) w.1 ∙ pow-suc 2 (count_trailing_zeros k (s / 2))))
    (tz_cases k s)

-- ---- the members in order

mmore : (d k n : ℕ) → n ≤ d → members_in (suc d) k n ≡ members_in d k n
unfolding members_in
mmore zero k zero h = refl
mmore zero k (suc n) h = absurd (not-suc-le-zero h)
mmore (suc d) k zero h = refl
mmore (suc d) k (suc n) h = ap (front (suc n % 2) k) (mmore d (suc k) (suc n / 2) (half_le h))

menough : (d k n : ℕ) → n ≤ d → members_in d k n ≡ members_in n k n
menough d k n h = le_ind (λ (m : ℕ). members_in m k n ≡ members_in n k n) refl (λ m l e. mmore m k n l ∙ e) d h

pub members_step : (k n : ℕ) → members_from k n ≡ front (n % 2) k (members_from (suc k) (n / 2))
unfolding members_from
members_step k zero = refl
members_step k (suc n) = ap (front (suc n % 2) k) (menough n (suc k) (suc n / 2) (half_le (le_refl (suc n))))

pub members_low : (d k s : ℕ) → 0 < s → s < 2 ^ d → members_from k s ≡ (k + count_trailing_zeros d s) ∷ members_from k (diff s (2 ^ count_trailing_zeros d s))
unfolding front
members_low zero k s p h = absurd (omega arith)
members_low (suc d) k s p h =
    ⊎_elim
    (λ w. rw (w.1, members_step k s, w.0, members_step k (diff s 1), diff_low s 1, w.0, diff_half s 1, diff_zero (s / 2), add-zero))
    (λ w. rw (w.1, members_step k s, w.0, members_low d (suc k) (s / 2) (omega arith) (half_lt d h), members_step k (diff s (2 ^ suc (count_trailing_zeros d (s / 2)))), diff_low, w.0, zero-sub, diff_half, pow_half, suc-add, add-suc))
    (tz_cases d s)

-- ---- what the members are

front_length : (d k : ℕ) (l : List ℕ) → d < 2 → length (front d k l) ≡ d + length l
unfolding front
front_length zero k l h = omega arith
front_length (suc d) k l h = omega arith

pub members_size : (s k : ℕ) → length (members_from k s) ≡ size s
unfolding size members_from
members_size =
    bin_ind (λ (s : ℕ). (k : ℕ) → length (members_from k s) ≡ size s) (λ k. refl)
    (λ s ih k. rw members_step (omega (arith, front_length (s % 2) k (members_from (suc k) (s / 2)) (omega arith), ih (suc k), size_step s)))

front_cases : {i : ℕ} (d k : ℕ) (l : List ℕ) → d < 2 → Memᴰ i (front d k l) → ((i ≡ k) × (d ≡ 1)) ⊎ Memᴰ i l
unfolding front
front_cases zero k l h m = inr m
front_cases (suc d) k l h m = ⊎_elim (λ e. inl (e, omega arith)) (λ n. inr n) (Memᴰ.cases_cons m)

front_mem : {i : ℕ} (d k : ℕ) {l : List ℕ} → Memᴰ i l → Memᴰ i (front d k l)
unfolding front
front_mem zero k m = m
front_mem (suc d) k m = Memᴰ.tail m

-- a number is among the members just where its digit is set, and the members ascend
pub mem_bit : (s k i : ℕ) → Memᴰ i (members_from k s) → (k ≤ i) × (bit s (i - k) ≡ 1)
unfolding members_from
mem_bit =
    bin_ind (λ (s : ℕ). (k i : ℕ) → Memᴰ i (members_from k s) → (k ≤ i) × (bit s (i - k) ≡ 1)) (λ k i m. absurd (Memᴰ.not-nil m))
    (λ s ih k i m.
    ⊎_elim (λ w. (omega arith, rw (w.0, sub_self, bit_zero) w.1))
    (λ n. let r = ih (suc k) i n in let e : i - k ≡ suc (i - suc k) = omega arith in (omega arith, rw (e, bit_suc) r.1))
    (front_cases (s % 2) k (members_from (suc k) (s / 2)) (omega arith) (rw members_step at m)))

pub bit_mem : (i k s : ℕ) → bit s i ≡ 1 → Memᴰ (k + i) (members_from k s)
unfolding front
bit_mem zero k s h = rw (members_step, rw bit_zero at h) (Memᴰ.head (add-zero k))
bit_mem (suc i) k s h = rw (members_step, add-suc, ← suc-add) (front_mem (s % 2) k (bit_mem i (suc k) (s / 2) (rw bit_suc at h)))

pub members_ascend : (s k : ℕ) → Ascending (members_from k s)
unfolding members_from
members_ascend =
    bin_ind (λ (s : ℕ). (k : ℕ) → Ascending (members_from k s)) (λ k. tt)
    (λ s ih k. rw members_step (go (s % 2) k (members_from (suc k) (s / 2)) (λ i m. (mem_bit (s / 2) (suc k) i m).0) (ih (suc k))))
  where
    go : (d k : ℕ) (l : List ℕ) → ((i : ℕ) → Memᴰ i l → k < i) → Ascending l → Ascending (front d k l)
    go zero k l h a = a
    go (suc d) k l h a = (h, a)

-- ---- unions over a list

unions_member : (f : ℕ → ℕ) (i : ℕ) (l : List ℕ) (j : ℕ) → Memᴰ i l → bit (f i) j ≡ 1 → bit (unions f l) j ≡ 1
unfolding unions
unions_member f i l j (Memᴰ.head {x = x} {xs = xs} e) h = omega (arith, bit-or (f x) (unions f xs) j, ap (λ (n : ℕ). bit (f n) j) e, bit_le (f x) j, bit_le (unions f xs) j)
unions_member f i l j (Memᴰ.tail {x = x} {xs = xs} m) h = omega (arith, bit-or (f x) (unions f xs) j, unions_member f i xs j m h, bit_le (f x) j)

pub unions_one : (f : ℕ → ℕ) (l : List ℕ) (i j : ℕ) → Memᴰ i l → bit (f i) j ≡ 1 → bit (unions f l) j ≡ 1
unions_one f l i j m h = unions_member f i l j m h

pub unions_of : (f : ℕ → ℕ) (l : List ℕ) (j : ℕ) → bit (unions f l) j ≡ 1 → (i : ℕ) × Memᴰ i l × (bit (f i) j ≡ 1)
unfolding unions
unions_of f [] j h = absurd (omega (arith, bit_empty j))
unions_of f (i ∷ l) j h = go (bit (f i) j) refl (λ e. unions_of f l j (omega (arith, bit-or (f i) (unions f l) j, e, bit_le (unions f l) j)))
  where
    go : (d : ℕ) → bit (f i) j ≡ d → (bit (f i) j ≡ 0 → (i : ℕ) × Memᴰ i l × (bit (f i) j ≡ 1)) → (n : ℕ) × Memᴰ n (i ∷ l) × (bit (f n) j ≡ 1)
    go zero e r = let w = r e in (w.0, Memᴰ.tail w.1, w.2)
    go (suc d) e r = (i, Memᴰ.head refl, omega (arith, bit_le (f i) j))

-- over a set, by digits: a member of the union is in f i for a member i
pub union_one : (f : ℕ → ℕ) (s i j : ℕ) → bit s i ≡ 1 → bit (f i) j ≡ 1 → bit (unions f (members s)) j ≡ 1
union_one f s i j hs h = unions_one f (members s) i j (Memᴰ.cast (sym (zero-add i)) (bit_mem i 0 s hs)) h

pub union_of : (f : ℕ → ℕ) (s j : ℕ) → bit (unions f (members s)) j ≡ 1 → (i : ℕ) × (bit s i ≡ 1) × (bit (f i) j ≡ 1)
union_of f s j h = let w = unions_of f (members s) j h in (w.0, rw sub-zero at (mem_bit s 0 w.0 w.1).1, w.2)

-- ---- what the machine computes: `s & !t`, `s & (s - 1)`, and a word with its n low digits set

and_not_step : (s t n : ℕ) → n % 2 ≡ 1 - t % 2 → bit_and (s / 2) (n / 2) + bit_and (s / 2) (t / 2) ≡ s / 2 → bit_and s n + bit_and s t ≡ s
and_not_step s t n e ih = rw (and_step s n, and_step s t) (omega arith)

and_not_add : (k s t : ℕ) → s < 2 ^ k → t < 2 ^ k → bit_and s ((2 ^ k - 1) - t) + bit_and s t ≡ s
and_not_add zero s t hs ht = let e : s ≡ 0 = omega arith in rw e
and_not_add (suc k) s t hs ht =
    let e : ((2 ^ suc k - 1) - t) / 2 ≡ (2 ^ k - 1) - t / 2 = omega (arith, pow-suc 2 k) in
    and_not_step s t ((2 ^ suc k - 1) - t) (omega (arith, pow-suc 2 k)) (rw e (and_not_add k (s / 2) (t / 2) (half_lt k hs) (half_lt k ht)))

pub and_not : (k s t : ℕ) → s < 2 ^ k → t < 2 ^ k → bit_and s ((2 ^ k - 1) - t) ≡ diff s t
unfolding diff
and_not k s t hs ht = omega (arith, and_not_add k s t hs ht)

pub drop_low : (k s : ℕ) → 0 < s → s < 2 ^ k → bit_and s (s - 1) ≡ diff s (2 ^ count_trailing_zeros k s)
drop_low k s p h = omega (arith, low_drop k s p h, remove_add s (count_trailing_zeros k s) (low_bit k s p h))

pub lowest : (s : ℕ) → 0 < s → s < 2 ^ 64 → Lowest s (low s)
lowest s p h = record { is = refl; member = low_bit 64 s p h; within = low_lt 64 s p h }

pub without_lowest_lem : (s : ℕ) → 0 < s → s < 2 ^ 64 → WithoutLowest s (bit_and s (s - 1))
without_lowest_lem s p h = record {
  is = drop_low 64 s p h;
  fewer = rw (drop_low 64 s p h) (size_remove s (low s) (low_bit 64 s p h));
  below = omega (arith, low_drop 64 s p h, pow_pos (low s));
}

pub size_first : (n : ℕ) → size (2 ^ n - 1) ≡ n
size_first n = size_ones (2 ^ n - 1) ∙ ones-ones n

pub bit_first : (n i : ℕ) → i < n → bit (2 ^ n - 1) i ≡ 1
bit_first zero i h = absurd (omega arith)
bit_first (suc n) zero h = bit_zero (2 ^ suc n - 1) ∙ omega (arith, pow-suc 2 n, pow_pos n)
bit_first (suc n) (suc i) h = let e : (2 ^ suc n - 1) / 2 ≡ 2 ^ n - 1 = omega (arith, pow-suc 2 n, pow_pos n) in rw (bit_suc, e) (bit_first n i (omega arith))

-- no member is as large as k
pub bit_past : (k s i : ℕ) → s < 2 ^ k → k ≤ i → bit s i ≡ 0
unfolding bit
bit_past k s i hs h = rw (div-eq_of_lt (lt_of_lt_of_le hs (pow_mono h)))

pub member_lt : (k s i : ℕ) → s < 2 ^ k → bit s i ≡ 1 → i < k
member_lt k s i hs e = lt_of_not-le (λ l. let z = bit_past k s i hs l in omega arith)

-- ---- a loop over a set: `for i in ascending(s)`

-- what the loop meets next, and then: any function of the members takes a turn by `ap` of this
pub members_turn : (s i t : ℕ) → 0 < s → s < 2 ^ 64 → Lowest s i → WithoutLowest s t → members s ≡ i ∷ members t
members_turn s i t p h l w = rw (members_low 64 0 s p h, zero-add (low s), l.is, w.is)

-- the members by the iterator over them: its next, and then the others
pub next_members : (s i t : ℕ) → NextMember s (Some i) t → members s ≡ i ∷ members t
next_members s i t n = members_turn s i t n.0 n.1 n.2 n.3

pub members_done : (s : ℕ) → s ≡ 0 → members s ≡ []
unfolding members_from
members_done s e = ap members e

-- ---- unions, element by element

pub unions_none : (f : ℕ → ℕ) → unions f [] ≡ 0
unfolding unions
unions_none f = refl

pub unions_more : (f : ℕ → ℕ) (i : ℕ) (l : List ℕ) → unions f (i ∷ l) ≡ bit_or (f i) (unions f l)
unfolding unions
unions_more f i l = refl
