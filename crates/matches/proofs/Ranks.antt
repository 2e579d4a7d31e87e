-- The order of sets by size and then by label: it is total, and two sets of two bonds or more that it does not tell apart are akin. Assumes nothing.
use mathlib.Core.Path.{◌≡◌, refl, sym, ap, ◌∙◌}
use mathlib.Core.Logic.{◌⊎◌, inl, inr, ⊎_elim}
use mathlib.Core.Bool.{true, false, not, ◌&&◌, ◌||◌, true≢false}
use mathlib.Core.List.Memᴰ.{cases_cons as mem_cons}
use mathlib.Core.List.Memᴰ.{head as m_head}
use mathlib.Core.List.Memᴰ.{not-nil}
use mathlib.Core.List.Memᴰ.{tail as m_tail}
use mathlib.Core.List.{List, [], ◌∷◌, ◌++◌, Permᴰ as Perm, Memᴰ as Mem}
use Prim.Native.Nat.{ℕ, ◌≤◌, ◌<◌}
use native.Mathlib.Omega.{arith}
use native.Mathlib.Decide.{ℕ_discrete, dec_lt}
use lib.Dec.{ltb, eqb}
use lib.ListN.{length, length-append}
use borrow.Author.Tests.{ltb-true, lt-ltb, eqb-true, eq-eqb, not-true}
use Rattle.bitset.specs.Bits.{size}
use Rattle.bitset.proofs.Bools.{two, or_true, or_left, or_right, and_true}
use Rattle.molecule.specs.Lists.{Bytes, filter}
use Rattle.molecule.proofs.Perms.{mem_some, perm_length, keep_mem, keep_intro, keep_split}
use Rattle.canonize.specs.Strings.{lex_le}
use Rattle.canonize.specs.Label.{label}
use Rattle.canonize.proofs.Laws.{le_refl, le_trans, le_antisym, le_total}
use Rattle.matches.specs.Inner.Ranks.{Akin, Precedes, precedes, before}

module _ (r : Bytes) where
  pub akin_sym : (x y : ℕ) → Akin r x y → Akin r y x
  akin_sym x y a = record { big = omega (arith, a.big, a.sizes); sizes = sym a.sizes; labels = sym a.labels }

  pub akin_trans : (x y z : ℕ) → Akin r x y → Akin r y z → Akin r x z
  akin_trans x y z a b = record { big = a.big; sizes = a.sizes ∙ b.sizes; labels = a.labels ∙ b.labels }

  -- ---- the test and the statement

  pub precedes_of : (x y : ℕ) → precedes r x y ≡ true → Precedes r x y
  unfolding precedes
  precedes_of x y e = go (or_true (ltb (size x) (size y)) (eqb (size x) (size y) && (ltb (size x) 2 || lex_le (label r x) (label r y))) e)
    where
      late : 2 ≤ size x → (ltb (size x) 2 ≡ true) ⊎ (lex_le (label r x) (label r y) ≡ true) → lex_le (label r x) (label r y) ≡ true
      late b (inl h) = absurd (omega (arith, ltb-true (size x) 2 h))
      late b (inr h) = h

      go : (ltb (size x) (size y) ≡ true) ⊎ ((eqb (size x) (size y) && (ltb (size x) 2 || lex_le (label r x) (label r y))) ≡ true) → Precedes r x y
      go (inl h) = inl (ltb-true (size x) (size y) h)
      go (inr h) =
          let w = and_true (eqb (size x) (size y)) (ltb (size x) 2 || lex_le (label r x) (label r y)) h in
          inr (eqb-true (size x) (size y) w.0, λ b. late b (or_true (ltb (size x) 2) (lex_le (label r x) (label r y)) w.1))

  pub precedes_is : (x y : ℕ) → Precedes r x y → precedes r x y ≡ true
  unfolding precedes
  precedes_is x y (inl h) =
      or_left (ltb (size x) (size y)) (eqb (size x) (size y) && (ltb (size x) 2 || lex_le (label r x) (label r y))) (lt-ltb (size x) (size y) h)
  precedes_is x y (inr h) =
      or_right (ltb (size x) (size y)) (eqb (size x) (size y) && (ltb (size x) 2 || lex_le (label r x) (label r y)))
      (rw (eq-eqb (size x) (size y) h.0) (go (dec_lt (size x) 2)))
    where
      go : Dec (size x < 2) → (ltb (size x) 2 || lex_le (label r x) (label r y)) ≡ true
      go (yes l) = or_left (ltb (size x) 2) (lex_le (label r x) (label r y)) (lt-ltb (size x) 2 l)
      go (no l) = or_right (ltb (size x) 2) (lex_le (label r x) (label r y)) (h.1 (omega arith))

  -- ---- an order

  -- it looks at sizes and labels alone
  pub precedes_akin : (q x y : ℕ) → Akin r x y → precedes r q x ≡ precedes r q y
  unfolding precedes
  precedes_akin q x y a = rw (a.sizes, a.labels)

  pub akin_precedes : (x y q : ℕ) → Akin r x y → precedes r x q ≡ precedes r y q
  unfolding precedes
  akin_precedes x y q a = rw (a.sizes, a.labels)

  pub precedes_refl : (x : ℕ) → precedes r x x ≡ true
  precedes_refl x = precedes_is x x (inr (refl, λ b. le_refl (label r x)))

  total : (x y : ℕ) → Precedes r x y ⊎ Precedes r y x
  total x y = go (ℕ_discrete (size x) (size y)) (dec_lt (size x) (size y))
    where
      go : Dec (size x ≡ size y) → Dec (size x < size y) → Precedes r x y ⊎ Precedes r y x
      go (yes e) d = ⊎_elim (λ h. inl (inr (e, λ b. h))) (λ h. inr (inr (sym e, λ b. h))) (le_total (label r x) (label r y))
      go (no n) (yes l) = inl (inl l)
      go (no n) (no l) = inr (inl (omega arith))

  trans : (x y z : ℕ) → Precedes r x y → Precedes r y z → Precedes r x z
  trans x y z (inl a) (inl b) = inl (omega arith)
  trans x y z (inl a) (inr b) = inl (omega (arith, b.0))
  trans x y z (inr a) (inl b) = inl (omega (arith, a.0))
  trans x y z (inr a) (inr b) = inr (a.0 ∙ b.0, λ c. le_trans (label r x) (label r y) (label r z) (a.1 c) (b.1 (omega (arith, a.0))))

  -- neither comes after the other: they are akin
  pub precedes_both : (x y : ℕ) → 2 ≤ size x → precedes r x y ≡ true → precedes r y x ≡ true → Akin r x y
  precedes_both x y big e f = go (precedes_of x y e) (precedes_of y x f)
    where
      go : Precedes r x y → Precedes r y x → Akin r x y
      go (inl a) (inl b) = absurd (omega arith)
      go (inl a) (inr b) = absurd (omega (arith, b.0))
      go (inr a) (inl b) = absurd (omega (arith, a.0))
      go (inr a) (inr b) = record { big = big; sizes = a.0; labels = le_antisym (label r x) (label r y) (a.1 big) (b.1 (omega (arith, a.0))) }

  -- a smaller set comes strictly before
  pub smaller_before : (q x : ℕ) → size x < size q → precedes r q x ≡ false
  smaller_before q x l = go (two (precedes r q x))
    where
      never : Precedes r q x → ⊥
      never (inl h) = omega arith
      never (inr h) = omega (arith, h.0)

      go : (precedes r q x ≡ true) ⊎ (precedes r q x ≡ false) → precedes r q x ≡ false
      go (inl e) = absurd (never (precedes_of q x e))
      go (inr e) = e

  -- what comes strictly before is no larger
  pub before_size : (q x : ℕ) → precedes r q x ≡ false → size x ≤ size q
  before_size q x e = go (dec_lt (size q) (size x))
    where
      go : Dec (size q < size x) → size x ≤ size q
      go (yes l) = absurd (true≢false (sym (precedes_is q x (inl l)) ∙ e))
      go (no l) = omega arith

  -- ---- lists

  -- q is an element of the list after which none comes
  abbrev pub Last : List ℕ → ℕ → Type 0
  Last l q = Mem q l × ((y : ℕ) → Mem y l → precedes r y q ≡ true)

  -- a list that is not empty has one
  pub last_one : (x : ℕ) (l : List ℕ) → (q : ℕ) × Last (x ∷ l) q
  last_one x [] = (x, (m_head refl, λ y m. ⊎_elim (λ e. ap (λ (z : ℕ). precedes r z x) e ∙ precedes_refl x) (λ i. absurd (not-nil i)) (mem_cons m)))
  last_one x (y ∷ l) = go (last_one y l)
    where
      go : (q : ℕ) × Last (y ∷ l) q → (q : ℕ) × Last (x ∷ y ∷ l) q
      go w = pick (total x w.0)
        where
          pick : Precedes r x w.0 ⊎ Precedes r w.0 x → (q : ℕ) × Last (x ∷ y ∷ l) q
          pick (inl h) =
              (w.0, (m_tail w.1.0, λ z m. ⊎_elim (λ e. ap (λ (t : ℕ). precedes r t w.0) e ∙ precedes_is x w.0 h) (λ i. w.1.1 z i) (mem_cons m)))
          pick (inr h) =
              let from : (z : ℕ) → Mem z (y ∷ l) → precedes r z x ≡ true = λ z i. precedes_is z x (trans z w.0 x (precedes_of z w.0 (w.1.1 z i)) h) in
              (x, (m_head refl, λ z m. ⊎_elim (λ e. ap (λ (t : ℕ). precedes r t x) e ∙ precedes_refl x) (λ i. from z i) (mem_cons m)))

  -- what of a list comes strictly before q
  pub before_in : (q x : ℕ) (l : List ℕ) → Mem x (before r q l) → Mem x l × (precedes r q x ≡ false)
  unfolding before
  before_in q x l i = let w = keep_mem (λ x. not (precedes r q x)) l i in (w.0, not-true (precedes r q x) w.1)

  pub before_has : (q x : ℕ) (l : List ℕ) → Mem x l → precedes r q x ≡ false → Mem x (before r q l)
  unfolding before
  before_has q x l i e = keep_intro (λ x. not (precedes r q x)) l i (ap not e)

  -- with the others it is all
  pub before_perm : (q : ℕ) (l : List ℕ) → Perm l (before r q l ++ filter (precedes r q) l)
  unfolding before
  before_perm q l = keep_split (precedes r q) l

  -- it is less where one is not strictly before q
  pub before_fewer : (q x : ℕ) (l : List ℕ) → Mem x l → precedes r q x ≡ true → length (before r q l) < length l
  before_fewer q x l i e =
      let others : List ℕ = filter (precedes r q) l in
      omega (arith, perm_length (before_perm q l), length-append (before r q l) others, mem_some others (keep_intro (precedes r q) l i e))
