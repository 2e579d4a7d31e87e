-- The laws of the roundings, sums and largest values of specs/Numbers. Assumes nothing.
use mathlib.Core.Path.{◌≡◌, refl, sym, ap, ◌∙◌}
use mathlib.Core.Logic.{⊎_elim}
use mathlib.Core.Bool.{true≢false}
use mathlib.Core.List.Memᴰ
use mathlib.Core.List.{List, [], ◌∷◌, ◌++◌, Memᴰ, Permᴰ}
use Prim.Native.Nat.{ℕ, suc, ◌+◌, ◌-◌, ◌*◌, ◌/◌, ◌^◌, ◌≤◌, ◌<◌, max}
use native.Mathlib.Nat.{div-lt_iff_lt-mul, div-add-mod, mod-lt, mul-le-mul_right, lt_of_mul-lt-mul_left, pow-suc}
use native.Mathlib.Decide.{dec_lt, dec_le}
use native.Mathlib.Omega.{arith}
use lib.Count.{count_leading_zeros, leading_length}
use lib.Dec.{leb}
use lib.Pow.{pow_mono}
use borrow.Author.Tests.{leb-true, le-leb}
use Rattle.std.specs.Int.{div_ceil}
use Rattle.std.proofs.lemmas.Grind.{div_ceil_times}
use Rattle.bitset.proofs.Laws.{lt_pow}
use Rattle.molecule.specs.Lists.{first}
use Rattle.molecule.proofs.Scans.{first_le, first_hit, first_before}
use Rattle.bounds.specs.Numbers.{sum_of, max_of, ceil_div, ceil_log2}

-- ---- division rounded up: the least n with a ≤ b * n

-- it is at most every n with a ≤ b * n
pub ceil_le : (a b n : ℕ) → 0 < b → a ≤ b * n → ceil_div a b ≤ n
ceil_le a b n p h = let l : (a + (b - 1)) / b < suc n = (div-lt_iff_lt-mul p).1 (omega arith) in omega arith

-- and is one of these
pub le_ceil : (a b : ℕ) → 0 < b → a ≤ b * ceil_div a b
le_ceil a b p = omega (arith, div-add-mod (a + (b - 1)) b, mod-lt (a + (b - 1)) p)

-- it is never above a
pub ceil_small : (a b : ℕ) → 0 < b → ceil_div a b ≤ a
ceil_small a b p = ceil_le a b a p (omega (arith, mul-le-mul_right a p))

-- the library's division rounded up is the same
pub ceil_is : (a b : ℕ) → 0 < b → div_ceil a b ≡ ceil_div a b
ceil_is a b p =
    let w = div_ceil_times a b p in
    let high : ceil_div a b ≤ div_ceil a b = ceil_le a b (div_ceil a b) p (omega (arith, w.0)) in
    let low : div_ceil a b < ceil_div a b + 1 = lt_of_mul-lt-mul_left b (omega (arith, w.1, le_ceil a b p)) in
    omega arith

-- ---- ceiling log2: the least e with t ≤ 2 ^ e

-- it is one of these
pub log_le : (t : ℕ) → t ≤ 2 ^ ceil_log2 t
unfolding ceil_log2
log_le t = go (dec_lt (ceil_log2 t) t)
  where
    go : Dec (first (λ e. leb t (2 ^ e)) t < t) → t ≤ 2 ^ first (λ e. leb t (2 ^ e)) t
    go (yes l) = leb-true t (2 ^ first (λ e. leb t (2 ^ e)) t) (first_hit (λ e. leb t (2 ^ e)) t l)
    go (no n) = let e : first (λ e. leb t (2 ^ e)) t ≡ t = omega (arith, first_le (λ e. leb t (2 ^ e)) t) in rw e (omega (arith, lt_pow t))

-- and is at most every e with t ≤ 2 ^ e
pub log_least : (t e : ℕ) → t ≤ 2 ^ e → ceil_log2 t ≤ e
unfolding ceil_log2
log_least t e h = go (dec_lt e (first (λ e. leb t (2 ^ e)) t))
  where
    go : Dec (e < first (λ e. leb t (2 ^ e)) t) → first (λ e. leb t (2 ^ e)) t ≤ e
    go (yes l) = absurd (true≢false (sym (le-leb t (2 ^ e) h) ∙ first_before (λ e. leb t (2 ^ e)) t e l))
    go (no n) = omega arith

-- it is 0 up to 1
pub log_one : (t : ℕ) → t ≤ 1 → ceil_log2 t ≡ 0
log_one t h = omega (arith, log_least t 0 h)

-- the number of digits of t - 1
pub log_digits : (t : ℕ) → t < 2 ^ 32 → 32 - count_leading_zeros 32 (t - 1) ≡ ceil_log2 t
log_digits t l =
    let w = leading_length 32 (t - 1) (omega arith) in
    omega (arith, w.1, log_least t w.0 (omega (arith, w.2)), low w.0 w.3 (dec_lt (ceil_log2 t) w.0), log_one t)
  where
    low : (m : ℕ) → 2 ^ m ≤ 2 * (t - 1) + 1 → Dec (ceil_log2 t < m) → m ≤ ceil_log2 t
    low m h (yes a) = absurd (omega (arith, log_le t, lt_pow m, pow-suc 2 (ceil_log2 t), pow_mono {i = suc (ceil_log2 t)} {j = m} (omega arith)))
    low m h (no n) = omega arith

-- ---- sums over a list

-- over two lists, one after the other
pub sum_append : {A : Type 0} (f : A → ℕ) (l m : List A) → sum_of f (l ++ m) ≡ sum_of f l + sum_of f m
sum_append f [] m = omega arith
sum_append f (x ∷ l) m = omega (arith, sum_append f l m)

-- the order does not matter
pub sum_perm : {A : Type 0} (f : A → ℕ) {l m : List A} → Permᴰ l m → sum_of f l ≡ sum_of f m
sum_perm f Permᴰ.nil = refl
sum_perm f (Permᴰ.cons e d) = omega (arith, ap f e, sum_perm f d)
sum_perm f (Permᴰ.swap e g) = omega (arith, ap f e, ap f g)
sum_perm f (Permᴰ.trans d e) = sum_perm f d ∙ sum_perm f e

-- equal values have equal sums, smaller ones a smaller sum
pub sum_same : {A : Type 0} (f g : A → ℕ) (l : List A) → ((p : A) → Memᴰ p l → f p ≡ g p) → sum_of f l ≡ sum_of g l
sum_same f g [] h = refl
sum_same f g (p ∷ l) h = omega (arith, h p (Memᴰ.head refl), sum_same f g l (λ q i. h q (Memᴰ.tail i)))

pub sum_le : {A : Type 0} (f g : A → ℕ) (l : List A) → ((p : A) → Memᴰ p l → f p ≤ g p) → sum_of f l ≤ sum_of g l
sum_le f g [] h = omega arith
sum_le f g (p ∷ l) h = omega (arith, h p (Memᴰ.head refl), sum_le f g l (λ q i. h q (Memᴰ.tail i)))

-- a value is at most the sum
pub mem_sum : {A : Type 0} (f : A → ℕ) (l : List A) (p : A) → Memᴰ p l → f p ≤ sum_of f l
mem_sum f [] p i = absurd (Memᴰ.not-nil i)
mem_sum f (q ∷ l) p i = let r = mem_sum f l p in ⊎_elim (λ e. omega (arith, ap f e)) (λ t. omega (arith, r t)) (Memᴰ.cases_cons i)

-- ---- the largest value over a list: an upper bound, and the least one

-- no value is above it
pub le_max : {A : Type 0} (f : A → ℕ) (l : List A) (x : A) → Memᴰ x l → f x ≤ max_of f l
le_max f [] x i = absurd (Memᴰ.not-nil i)
le_max f (y ∷ l) x i = let r = le_max f l x in ⊎_elim (λ e. omega (arith, ap f e)) (λ t. omega (arith, r t)) (Memᴰ.cases_cons i)

-- it is at most what no value is above
pub max_le : {A : Type 0} (f : A → ℕ) (l : List A) (n : ℕ) → ((x : A) → Memᴰ x l → f x ≤ n) → max_of f l ≤ n
max_le f [] n h = omega arith
max_le f (x ∷ l) n h = omega (arith, h x (Memᴰ.head refl), max_le f l n (λ y i. h y (Memᴰ.tail i)))

-- and some element has it, where it is not 0
pub max_reached : {A : Type 0} (f : A → ℕ) (l : List A) → 0 < max_of f l → (x : A) × Memᴰ x l × (f x ≡ max_of f l)
max_reached f [] h = absurd (omega arith)
max_reached {A} f (x ∷ l) h = go (dec_le (max_of f l) (f x)) (max_reached f l)
  where
    go : Dec (max_of f l ≤ f x) → (0 < max_of f l → (y : A) × Memᴰ y l × (f y ≡ max_of f l)) → (y : A) × Memᴰ y (x ∷ l) × (f y ≡ max (f x) (max_of f l))
    go (yes le) r = (x, Memᴰ.head refl, omega arith)
    go (no n) r = let w = r (omega arith) in (w.0, Memᴰ.tail w.1, omega (arith, w.2))
