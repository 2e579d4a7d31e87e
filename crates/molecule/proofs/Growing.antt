-- Growing a set over a graph: `reach` is the least set that holds c and is closed, and `parts` takes such sets away one by one. Whatever near is. Assumes nothing.
use mathlib.Core.Path.{◌≡◌, refl, sym, ap, ◌∙◌}
use mathlib.Core.Logic.{◌⊎◌, inl, inr, ◌≢◌, ⊎_elim}
use mathlib.Core.Bool.{not, ◌&&◌}
use mathlib.Core.List.{List, [], ◌∷◌}
use Prim.Native.Nat.{ℕ, zero, suc, ◌^◌, ◌≤◌, ◌<◌}
use native.Mathlib.Omega.{arith}
use native.Mathlib.Nat.{lt_of_not-le}
use native.Mathlib.Decide.{ℕ_discrete}
use lib.Bits.{bit_and, bit_or, and_self, and_le_r}
use lib.Dec.{eqb}
use Rattle.bitset.specs.Bits.{bit, Sub, diff, size, members, low, unions}
use Rattle.bitset.proofs.Laws.{bit_le, bit-and, bit_diff, bit_one, sub_or, sub_trans, sub_anti, or_cases, union_one, union_of, size_same, size_mono, size_zero, size_diff, size_minus, size_one, one_sub, low_bit}
use Rattle.bitset.proofs.Members.{diff_sub, in_or_out, sub_of, sub_in, or_right_in, and_in, diff_in, not_empty}
use Rattle.bitset.proofs.Decide.{sets, v, less, or, sub}
use Rattle.molecule.specs.Touch.{around, grow, reach, parts_in, parts, is_part}
use Rattle.molecule.specs.Rounds.{grow_round}

module _ (near : ℕ → ℕ) where
  -- no bond of s outside c is next to one of c
  abbrev pub Closed : ℕ → ℕ → Type 0
  Closed s c = (x y : ℕ) → bit c x ≡ 1 → bit s y ≡ 1 → bit (near x) y ≡ 1 → bit c y ≡ 1

  pub around_has : (c x y : ℕ) → bit c x ≡ 1 → bit (near x) y ≡ 1 → bit c y ≡ 0 → bit (around near c) y ≡ 1
  unfolding around
  around_has c x y h t o = diff_in (unions near (members c)) c y (union_one near c x y h t) o

  pub around_in : (c y : ℕ) → bit (around near c) y ≡ 1 → (x : ℕ) × (bit c x ≡ 1) × (bit (near x) y ≡ 1) × (bit c y ≡ 0)
  unfolding around
  around_in c y h =
      let u : bit (unions near (members c)) y ≡ 1 = omega (arith, bit_diff (unions near (members c)) c y, bit_le (unions near (members c)) y) in
      let w = union_of near c y u in
      (w.0, w.1, w.2, omega (arith, bit_diff (unions near (members c)) c y, bit_le (unions near (members c)) y))

  -- ---- one round

  -- what is in the part after it: what was, and the bonds of s next to that
  pub round_in : (s c y : ℕ) → bit (grow_round near s c) y ≡ 1 → (bit c y ≡ 1) ⊎ ((x : ℕ) × (bit c x ≡ 1) × (bit (near x) y ≡ 1) × (bit s y ≡ 1))
  round_in s c y h = ⊎_elim (λ (e : bit c y ≡ 1). inl e)
      (λ (e : bit (bit_and s (around near c)) y ≡ 1).
      let w = around_in c y (omega (arith, bit-and s (around near c) y, bit_le (around near c) y)) in
      inr (w.0, w.1, w.2, omega (arith, bit-and s (around near c) y, bit_le s y)))
      (or_cases c (bit_and s (around near c)) y h)

  pub round_keeps : (s c : ℕ) → Sub c (grow_round near s c)
  round_keeps s c = sub_or c (bit_and s (around near c))

  pub round_has : (s c x y : ℕ) → bit c x ≡ 1 → bit (near x) y ≡ 1 → bit s y ≡ 1 → bit (grow_round near s c) y ≡ 1
  round_has s c x y h t k = ⊎_elim (λ (q : bit c y ≡ 1). sub_in c (grow_round near s c) (round_keeps s c) y q)
      (λ (q : bit c y ≡ 0). or_right_in c (bit_and s (around near c)) y (and_in s (around near c) y k (around_has c x y h t q))) (in_or_out c y)

  -- ---- so many rounds

  fixed_closed : (s c : ℕ) → grow_round near s c ≡ c → Closed s c
  fixed_closed s c e x y h k t = ap (λ (z : ℕ). bit z y) (sym e) ∙ round_has s c x y h t k

  fixed_grow : (s f c : ℕ) → grow_round near s c ≡ c → grow near s f c ≡ c
  unfolding grow
  fixed_grow s zero c e = refl
  fixed_grow s (suc f) c e = ap (grow near s f) e ∙ fixed_grow s f c e

  -- a round that is not the last takes a bond of s in
  round_less : (s c : ℕ) → grow_round near s c ≢ c → size (diff s (grow_round near s c)) < size (diff s c)
  round_less s c n =
      let more : ℕ = grow_round near s c in
      let q : Sub (diff s more) (diff s c) = sets (sub (v 1) (v 2) ∷ []) (sub (less (v 0) (v 2)) (less (v 0) (v 1))) (s ∷ c ∷ more ∷ []) tt (round_keeps s c) in
      lt_of_not-le (λ l.
      let e : diff s more ≡ diff s c = size_same (diff s more) (diff s c) q l in
      n (sym (sub_anti c more (round_keeps s c) (sub_of more c (λ i h. ⊎_elim (λ k. k)
      (λ w. omega (arith, w.3, bit_diff s c i, bit_diff s more i, h, ap (λ (z : ℕ). bit z i) e, bit_le c i))
      (round_in s c i h))))))

  pub grow_closed : (s f c : ℕ) → size (diff s c) ≤ f → Closed s (grow near s f c)
  unfolding grow
  grow_closed s zero c l =
      let e : diff s c ≡ 0 = size_zero (diff s c) (omega arith) in
      λ x y h k t.
      ⊎_elim (λ (q : bit c y ≡ 1). q) (λ (q : bit c y ≡ 0). absurd (not_empty (diff s c) y (diff_in s c y k q) e)) (in_or_out c y)
  grow_closed s (suc f) c l = go (ℕ_discrete (grow_round near s c) c) (grow_closed s f (grow_round near s c))
    where
      go : (d : Dec (grow_round near s c ≡ c)) → (size (diff s (grow_round near s c)) ≤ f → Closed s (grow near s f (grow_round near s c))) → Closed s (grow near s f (grow_round near s c))
      go (yes e) ih = rw (e, fixed_grow s f c e) (fixed_closed s c e)
      go (no n) ih = ih (omega (arith, round_less s c n))

  pub grow_has : (s f c : ℕ) → Sub c (grow near s f c)
  unfolding grow
  grow_has s zero c = and_self c
  grow_has s (suc f) c = sub_trans c (grow_round near s c) (grow near s f (grow_round near s c)) (round_keeps s c) (grow_has s f (grow_round near s c))

  pub grow_least : (s f c k : ℕ) → Sub c k → Closed s k → Sub (grow near s f c) k
  unfolding grow
  grow_least s zero c k q h = q
  grow_least s (suc f) c k q h = grow_least s f (grow_round near s c) k (sub_of (grow_round near s c) k (λ y m. ⊎_elim (λ e. sub_in c k q y e)
      (λ w. h w.0 y (sub_in c k q w.0 w.1) w.3 w.2)
      (round_in s c y m))) h

  -- the last of so many rounds
  pub grow_last : (s f c : ℕ) → grow near s (suc f) c ≡ grow_round near s (grow near s f c)
  unfolding grow
  grow_last s zero c = refl
  grow_last s (suc f) c = grow_last s f (grow_round near s c)

  -- reach holds c, is closed, and is the least such set
  pub reach_has : (s c : ℕ) → Sub c (reach near s c)
  unfolding reach
  reach_has s c = grow_has s (size s) c

  pub reach_closed : (s c : ℕ) → Closed s (reach near s c)
  unfolding reach
  reach_closed s c = grow_closed s (size s) c (omega (arith, size_diff s c))

  pub reach_least : (s c k : ℕ) → Sub c k → Closed s k → Sub (reach near s c) k
  unfolding reach
  reach_least s c k q h = grow_least s (size s) c k q h

  -- what is reached is in c or s
  pub reach_within : (s c : ℕ) → Sub (reach near s c) (bit_or c s)
  reach_within s c = reach_least s c (bit_or c s) (sub_or c s) (λ x y h k t. or_right_in c s y k)

-- what is around c depends on near at the bonds of c alone
around_half : (near far : ℕ → ℕ) (c : ℕ) → ((x : ℕ) → bit c x ≡ 1 → near x ≡ far x) → Sub (around near c) (around far c)
around_half near far c e = sub_of (around near c) (around far c)
    (λ y h.
    let w = around_in near c y h in
    around_has far c w.0 y w.1 (ap (λ (z : ℕ). bit z y) (sym (e w.0 w.1)) ∙ w.2) w.3)

pub around_same : (near far : ℕ → ℕ) (c : ℕ) → ((x : ℕ) → bit c x ≡ 1 → near x ≡ far x) → around near c ≡ around far c
around_same near far c e = sub_anti (around near c) (around far c) (around_half near far c e) (around_half far near c (λ x h. sym (e x h)))

-- what is reached depends on near at the bonds of c and s alone
half_same : (near far : ℕ → ℕ) (s c : ℕ) → ((x : ℕ) → bit (bit_or c s) x ≡ 1 → near x ≡ far x) → Sub (reach near s c) (reach far s c)
half_same near far s c e =
    reach_least near s c (reach far s c) (reach_has far s c)
    (λ x y h k t. reach_closed far s c x y h k (ap (λ (z : ℕ). bit z y) (sym (e x (sub_in (reach far s c) (bit_or c s) (reach_within far s c) x h))) ∙ t))

pub reach_same : (near far : ℕ → ℕ) (s c : ℕ) → ((x : ℕ) → bit (bit_or c s) x ≡ 1 → near x ≡ far x) → reach near s c ≡ reach far s c
reach_same near far s c e = sub_anti (reach near s c) (reach far s c) (half_same near far s c e) (half_same far near s c (λ x h. sym (e x h)))

-- ---- parts

-- a bond of s adds nothing to it
one_more : (s b : ℕ) → bit s b ≡ 1 → Sub (bit_or (2 ^ b) s) s
one_more s b h = sets (sub (v 0) (v 1) ∷ []) (sub (or (v 0) (v 1)) (v 1)) (2 ^ b ∷ s ∷ []) tt (one_sub s b h)

module _ (near : ℕ → ℕ) where
  -- from a bond of s: the bond itself, and bonds of s alone
  pub reach_one : (s b : ℕ) → bit (reach near s (2 ^ b)) b ≡ 1
  reach_one s b = sub_in (2 ^ b) (reach near s (2 ^ b)) (reach_has near s (2 ^ b)) b (bit_one b)

  pub reach_sub : (s b : ℕ) → bit s b ≡ 1 → Sub (reach near s (2 ^ b)) s
  reach_sub s b h = sub_trans (reach near s (2 ^ b)) (bit_or (2 ^ b) s) s (reach_within near s (2 ^ b)) (one_more s b h)

  -- the part of the lowest bond, and what is left without it
  abbrev pub lead : ℕ → ℕ
  lead s = reach near s (2 ^ low s)

  abbrev pub rest : ℕ → ℕ
  rest s = diff s (lead s)

  pub rest_word : (s : ℕ) → s < 2 ^ 64 → rest s < 2 ^ 64
  rest_word s w = omega (arith, and_le_r (rest s) s, diff_sub s (lead s))

  pub rest_less : (s : ℕ) → s ≢ 0 → s < 2 ^ 64 → size (rest s) < size s
  rest_less s n w =
      let one : size (2 ^ low s) ≤ size (lead s) = size_mono (2 ^ low s) (lead s) (reach_has near s (2 ^ low s)) in
      omega (arith, size_minus s (lead s) (reach_sub s (low s) (low_bit 64 s (omega arith) w)), size_one (low s))

  none_in : (f : ℕ) → parts_in near f 0 ≡ []
  unfolding parts_in
  none_in zero = refl
  none_in (suc f) = refl

  step_in : (f s : ℕ) → s ≢ 0 → parts_in near (suc f) s ≡ lead s ∷ parts_in near f (rest s)
  unfolding parts_in
  step_in f zero n = absurd (n refl)
  step_in f (suc s) n = refl

  -- as many parts as bonds are enough
  enough : (f g s : ℕ) → size s ≤ f → size s ≤ g → s < 2 ^ 64 → parts_in near f s ≡ parts_in near g s
  enough zero g s l m w = let e : s ≡ 0 = size_zero s (omega arith) in rw e (none_in zero ∙ sym (none_in g))
  enough (suc f) zero s l m w = let e : s ≡ 0 = size_zero s (omega arith) in rw e (none_in (suc f) ∙ sym (none_in zero))
  enough (suc f) (suc g) s l m w = go (ℕ_discrete s 0) (enough f g (rest s))
    where
      go : Dec (s ≡ 0) → (size (rest s) ≤ f → size (rest s) ≤ g → rest s < 2 ^ 64 → parts_in near f (rest s) ≡ parts_in near g (rest s)) → parts_in near (suc f) s ≡ parts_in near (suc g) s
      go (yes e) ih = rw e (none_in (suc f) ∙ sym (none_in (suc g)))
      go (no n) ih =
          let r : size (rest s) < size s = rest_less s n w in
          step_in f s n ∙ ap (λ (l : List ℕ). lead s ∷ l) (ih (omega arith) (omega arith) (rest_word s w)) ∙ sym (step_in g s n)

  pub parts_none : parts near 0 ≡ []
  unfolding parts
  parts_none = none_in (size 0)

  pub parts_step : (s : ℕ) → s ≢ 0 → s < 2 ^ 64 → parts near s ≡ reach near s (2 ^ low s) ∷ parts near (diff s (reach near s (2 ^ low s)))
  unfolding parts
  parts_step s n w =
      enough (size s) (suc (size s)) s (omega arith) (omega arith) w ∙ step_in (size s) s n
      ∙ ap (λ (l : List ℕ). lead s ∷ l) (enough (size s) (size (rest s)) (rest s) (omega (arith, rest_less s n w)) (omega arith) (rest_word s w))

  -- what holds of the empty set, and of s where it holds of the rest of s, holds of every set of bonds below 64
  pub parts_by : (P : ℕ → List ℕ → Type 0) → P 0 [] → ((s : ℕ) → s ≢ 0 → s < 2 ^ 64 → P (rest s) (parts near (rest s)) → P s (lead s ∷ parts near (rest s)))
      → (s : ℕ) → s < 2 ^ 64 → P s (parts near s)
  parts_by P base turn s = go (size s) s (omega arith)
    where
      go : (f s : ℕ) → size s ≤ f → s < 2 ^ 64 → P s (parts near s)
      go zero s l w = let e : s ≡ 0 = size_zero s (omega arith) in rw (e, parts_none) base
      go (suc f) s l w = or_step (ℕ_discrete s 0) (go f (rest s))
        where
          or_step : Dec (s ≡ 0) → (size (rest s) ≤ f → rest s < 2 ^ 64 → P (rest s) (parts near (rest s))) → P s (parts near s)
          or_step (yes e) ih = rw (e, parts_none) base
          or_step (no n) ih = rw (parts_step s n w) (turn s n w (ih (omega (arith, rest_less s n w)) (rest_word s w)))

-- the parts depend on near at the bonds of s alone
lead_same : (near far : ℕ → ℕ) (s : ℕ) → s ≢ 0 → s < 2 ^ 64 → ((x : ℕ) → bit s x ≡ 1 → near x ≡ far x) → lead near s ≡ lead far s
lead_same near far s n w e = reach_same near far s (2 ^ low s) (λ x h. e x (sub_in (bit_or (2 ^ low s) s) s (one_more s (low s) (low_bit 64 s (omega arith) w)) x h))

pub parts_same : (near far : ℕ → ℕ) (s : ℕ) → s < 2 ^ 64 → ((x : ℕ) → bit s x ≡ 1 → near x ≡ far x) → parts near s ≡ parts far s
parts_same near far = parts_by near (λ s l. ((x : ℕ) → bit s x ≡ 1 → near x ≡ far x) → l ≡ parts far s)
    (λ e. sym (parts_none far))
    (λ s n w ih e.
    let q : lead near s ≡ lead far s = lead_same near far s n w e in
    ap (λ (l : List ℕ). lead near s ∷ l) (ih (λ x h. e x (sub_in (rest near s) s (diff_sub s (lead near s)) x h))) ∙ rw (q, parts_step far s n w))

pub is_part_same : (near far : ℕ → ℕ) (s : ℕ) → s < 2 ^ 64 → ((x : ℕ) → bit s x ≡ 1 → near x ≡ far x) → is_part near s ≡ is_part far s
unfolding is_part
is_part_same near far s w e = go (ℕ_discrete s 0)
  where
    go : Dec (s ≡ 0) → is_part near s ≡ is_part far s
    go (yes z) = rw z
    go (no n) = ap (λ (c : ℕ). not (eqb s 0) && eqb c s) (lead_same near far s n w e)
