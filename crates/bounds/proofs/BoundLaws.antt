-- The laws of what T bonds save at most (specs/Saving), R of them in fragments of size k: B1, B2, B3. Assumes nothing.
-- One law carries all: the cost is the least n with T + n ≤ k * n + R / k (`cost_iff`); each other law is linear arithmetic from it.
use mathlib.Core.Path.{◌≡◌, refl, ap}
use mathlib.Core.Logic.{◌↔◌}
use Prim.Native.Nat.{ℕ, zero, suc, ◌+◌, ◌-◌, ◌*◌, ◌/◌, ◌%◌, ◌≤◌, ◌<◌}
use native.Mathlib.Nat.{le-div_iff_mul-le, div-add-mod, mod-lt, mul-div-le, mul-le-mul_left, le_of_mul-le-mul_left, div_self, lt_of_mul-lt-mul_left}
use native.Mathlib.Omega.{arith}
use Rattle.bounds.specs.Numbers.{ceil_div}
use Rattle.bounds.specs.Inner.Saving.{cost, saving}
use Rattle.bounds.proofs.Numbers.{ceil_le, le_ceil}

-- ---- the cost is the least n with T + n ≤ k * n + R / k

-- over k = m + 1 and q = R / k
cost_up : (m T q e n : ℕ) → T - suc m * q ≤ m * e → q + e ≤ n → T + n ≤ suc m * n + q
cost_up m T q e n h l = omega (arith, mul-le-mul_left m l)

-- and back
cost_down : (m T q n : ℕ) → suc m * q ≤ T → T + n ≤ suc m * n + q → 0 < m → (q ≤ n) × (T - suc m * q ≤ m * (n - q))
cost_down m T q n h l p =
    let a : q ≤ n = le_of_mul-le-mul_left {k = m} (omega arith) p in
    (a, go (n - q) (omega arith))
  where
    go : (d : ℕ) → n ≡ q + d → T - suc m * q ≤ m * d
    go d e = omega (arith, ap (λ (x : ℕ). m * x) e)

-- q parts of size k and n - q of size k - 1 hold T bonds just where T ≤ k * q + (k - 1) * (n - q), which is T + n ≤ k * n + q.
-- The rounding goes by `ceil_le` and `le_ceil`, the rest is linear in m * n
pub cost_iff : (k T R n : ℕ) → 2 ≤ k → R ≤ T → (cost k T R ≤ n) ↔ (T + n ≤ k * n + R / k)
unfolding cost
cost_iff zero T R n h l = absurd (omega arith)
cost_iff (suc m) T R n h l =
    let e : suc m - 1 ≡ m = omega arith in
    rw e (
      λ c. cost_up m T (R / suc m) (ceil_div (T - suc m * (R / suc m)) m) n (le_ceil (T - suc m * (R / suc m)) m (omega arith)) c,
      λ c. let w = cost_down m T (R / suc m) n (omega (arith, mul-div-le R (suc m))) c (omega arith) in
          omega (arith, w.0, ceil_le (T - suc m * (R / suc m)) m (n - R / suc m) (omega arith) w.1),
    )

module _ (k : ℕ) (two : 2 ≤ k) where
  -- T bonds do not cost more than T: neither subtraction in `saving` is cut short
  pub cost_self : (T R : ℕ) → R ≤ T → cost k T R ≤ T
  cost_self T R h = (cost_iff k T R T two h).1 (omega (arith, mul-le-mul_left T two))

  -- what is saved and what is left are all bonds
  pub saving_cost : (T R : ℕ) → R ≤ T → saving k T R + cost k T R ≡ T
  unfolding cost saving
  saving_cost T R h = omega (arith, cost_self T R h)

  -- the cost is one of the n of `cost_iff`
  pub cost_spec : (T R : ℕ) → R ≤ T → T + cost k T R ≤ k * cost k T R + R / k
  cost_spec T R h = (cost_iff k T R (cost k T R) two h).0 (omega arith)

  -- division grows
  pub div_mono : (R S : ℕ) → R ≤ S → R / k ≤ S / k
  div_mono R S h = (le-div_iff_mul-le {k = k} {x = R / k} {y = S} (omega arith)).1 (omega (arith, mul-div-le R k))

  -- and is superadditive
  pub div_add : (R S : ℕ) → R / k + S / k ≤ (R + S) / k
  div_add R S = (le-div_iff_mul-le {k = k} {x = R / k + S / k} {y = R + S} (omega arith)).1 (omega (arith, mul-div-le R k, mul-div-le S k))

  -- ---- B1: two sets of bonds save no more apart than together

  -- the costs
  pub cost_add : (T U R S : ℕ) → R ≤ T → S ≤ U → cost k (T + U) (R + S) ≤ cost k T R + cost k U S
  cost_add T U R S h g = (cost_iff k (T + U) (R + S) (cost k T R + cost k U S) two (omega arith)).1 (omega (arith, cost_spec T R h, cost_spec U S g, div_add R S))

  -- the sum of the two costs passes the test of `cost_iff` for the whole, as R / k + S / k is at most (R + S) / k
  pub saving_add : (T U R S : ℕ) → R ≤ T → S ≤ U → saving k T R + saving k U S ≤ saving k (T + U) (R + S)
  saving_add T U R S h g = omega (arith, cost_add T U R S h g, saving_cost T R h, saving_cost U S g, saving_cost (T + U) (R + S) (omega arith))

  -- ---- B2: few bonds, and growth

  -- some bonds cost something
  pub cost_pos : (T R : ℕ) → R ≤ T → 0 < T → 0 < cost k T R
  cost_pos T R h p = go (cost k T R) refl
    where
      go : (c : ℕ) → cost k T R ≡ c → 0 < c
      go zero e = omega (arith, (cost_iff k T R 0 two h).0 (omega arith), mul-div-le R k, mul-le-mul_left (R / k) two)
      go (suc c) e = omega arith

  -- fewer than k bonds save all but one
  pub saving_few : (T R : ℕ) → R ≤ T → 0 < T → T < k → saving k T R + 1 ≡ T
  saving_few T R h p l = omega (arith, saving_cost T R h, cost_pos T R h p, (cost_iff k T R 1 two h).1 (omega arith))

  -- and so do k bonds that are all in fragments of size k
  pub saving_full : saving k k k + 1 ≡ k
  saving_full = omega (arith, saving_cost k k (omega arith), cost_pos k k (omega arith) (omega arith), (cost_iff k k k 1 two (omega arith)).1 (omega (arith, div_self {n = k} (omega arith))))

  -- a single bond saves nothing
  pub saving_one : (R : ℕ) → R ≤ 1 → saving k 1 R ≡ 0
  saving_one R h = omega (arith, saving_few 1 R h (omega arith) (omega arith))

  -- nothing saves more than all
  pub saving_le : (T R : ℕ) → R ≤ T → saving k T R ≤ T
  saving_le T R h = omega (arith, saving_cost T R h)

  -- more bonds, and more of them in fragments of size k, save no less
  pub saving_grows : (T U R S : ℕ) → R ≤ T → S ≤ U → R ≤ S → T ≤ U → saving k T R ≤ saving k U S
  saving_grows T U R S h g a b =
      omega (arith, saving_cost T R h, saving_cost U S g, (cost_iff k U S (cost k T R + (U - T)) two g).1 (omega (arith, cost_spec T R h, div_mono R S a, mul-le-mul_left (U - T) two)))

  -- ---- B3: all bonds are in fragments of size k

  -- each full fragment is a part
  div_le_cost : (T R : ℕ) → R / k ≤ cost k T R
  unfolding cost
  div_le_cost T R = omega arith

  -- by the remainder of T by k
  all_low : (T a r n : ℕ) → k * a + r ≡ T → r < k → T ≤ k * n → n ≤ a + 1 → (T ≤ k * a → n ≤ a) → T + n ≤ k * n + a
  all_low T a zero n e l h g z = omega (arith, z (omega arith))
  all_low T a (suc r) n e l h g z =
      let b : a < n = lt_of_mul-lt-mul_left k (omega arith) in
      let c : n ≡ a + 1 = omega arith in
      omega (arith, ap (λ (x : ℕ). k * x) c)

  -- all bonds in fragments of size k cost T / k rounded up
  pub cost_all : (T : ℕ) → cost k T T ≡ ceil_div T k
  cost_all T = omega (arith, low, high)
    where
      low : cost k T T ≤ ceil_div T k
      low =
          (cost_iff k T T (ceil_div T k) two (omega arith)).1
          (all_low T (T / k) (T % k) (ceil_div T k) (div-add-mod T k) (mod-lt T (omega arith)) (le_ceil T k (omega arith))
          (ceil_le T k (T / k + 1) (omega arith) (omega (arith, div-add-mod T k, mod-lt T {m = k} (omega arith))))
          (λ h. ceil_le T k (T / k) (omega arith) h))

      high : ceil_div T k ≤ cost k T T
      high = ceil_le T k (cost k T T) (omega arith) (omega (arith, cost_spec T T (omega arith), div_le_cost T T))

  -- and save the rest
  pub saving_all : (T : ℕ) → saving k T T ≡ T - ceil_div T k
  saving_all T = omega (arith, saving_cost T T (omega arith), cost_all T)
