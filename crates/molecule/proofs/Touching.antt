-- Which bonds lie at an atom and which touch: two bonds of the record touch where they share an atom, each the other. Assumes nothing.
use mathlib.Core.Path.{◌≡◌, refl, sym, ap, ◌∙◌}
use mathlib.Core.Logic.{◌⊎◌, inl, inr, ◌≢◌, ⊎_elim}
use Prim.Native.Nat.{ℕ, ◌^◌, ◌<◌}
use native.Mathlib.Omega.{arith}
use lib.Bits.{bit_or}
use lib.Dec.{eqb}
use borrow.Author.Tests.{eqb-true, eq-eqb}
use Rattle.bitset.specs.Bits.{bit}
use Rattle.bitset.proofs.Bools.{or_true, or_left, or_right}
use Rattle.bitset.proofs.Laws.{bit_le, bit_diff, bit_one, bit_other, or_cases}
use Rattle.bitset.proofs.Members.{or_left_in, or_right_in, diff_in, set_of_in, set_of_has}
use Rattle.molecule.specs.Lists.{Bytes}
use Rattle.molecule.specs.Record.{bonds, end_a, end_b}
use Rattle.molecule.specs.Touch.{is_end, bonds_at, touching}
use Rattle.molecule.specs.Connected.{Touch}

module _ (r : Bytes) where
  -- atom v is an end of bond i
  abbrev pub EndOf : ℕ → ℕ → Type 0
  EndOf i v = (end_a r i ≡ v) ⊎ (end_b r i ≡ v)

  -- an end of i is one of j
  abbrev pub Share : ℕ → ℕ → Type 0
  Share i j = ((end_a r j ≡ end_a r i) ⊎ (end_b r j ≡ end_a r i)) ⊎ ((end_a r j ≡ end_b r i) ⊎ (end_b r j ≡ end_b r i))

  pub share_sym : (i j : ℕ) → Share i j → Share j i
  share_sym i j (inl (inl e)) = inl (inl (sym e))
  share_sym i j (inl (inr e)) = inr (inl (sym e))
  share_sym i j (inr (inl e)) = inl (inr (sym e))
  share_sym i j (inr (inr e)) = inr (inr (sym e))

  -- two bonds share an atom where one is an end of both
  pub ends_share : (i j v : ℕ) → EndOf i v → EndOf j v → Share i j
  ends_share i j v (inl e) (inl f) = inl (inl (f ∙ sym e))
  ends_share i j v (inl e) (inr f) = inl (inr (f ∙ sym e))
  ends_share i j v (inr e) (inl f) = inr (inl (f ∙ sym e))
  ends_share i j v (inr e) (inr f) = inr (inr (f ∙ sym e))

  pub share_ends : (i j : ℕ) → Share i j → (v : ℕ) × EndOf i v × EndOf j v
  share_ends i j (inl e) = (end_a r i, inl refl, e)
  share_ends i j (inr e) = (end_b r i, inr refl, e)

  pub at_in : (v j : ℕ) → bit (bonds_at r v) j ≡ 1 → (j < bonds r) × EndOf j v
  unfolding bonds_at is_end
  at_in v j h =
      let w = set_of_in (is_end r v) (bonds r) j h in
      (w.0, ⊎_elim (λ e. inl (eqb-true (end_a r j) v e)) (λ e. inr (eqb-true (end_b r j) v e)) (or_true (eqb (end_a r j) v) (eqb (end_b r j) v) w.1))

  pub at_has : (v j : ℕ) → j < bonds r → EndOf j v → bit (bonds_at r v) j ≡ 1
  unfolding bonds_at is_end
  at_has v j l (inl e) = set_of_has (is_end r v) (bonds r) j l (or_left (eqb (end_a r j) v) (eqb (end_b r j) v) (eq-eqb (end_a r j) v e))
  at_has v j l (inr e) = set_of_has (is_end r v) (bonds r) j l (or_right (eqb (end_a r j) v) (eqb (end_b r j) v) (eq-eqb (end_b r j) v e))

  -- the bonds at either end of i
  abbrev both : ℕ → ℕ
  both i = bit_or (bonds_at r (end_a r i)) (bonds_at r (end_b r i))

  pub touch_in : (i j : ℕ) → Touch r i j → (j ≢ i) × (j < bonds r) × Share i j
  unfolding touching
  touch_in i j h =
      let b : bit (both i) j ≡ 1 = omega (arith, bit_diff (both i) (2 ^ i) j, bit_le (both i) j) in
      let n : j ≢ i = λ e. omega (arith, bit_diff (both i) (2 ^ i) j, bit_one i, ap (bit (2 ^ i)) e, bit_le (both i) j) in
      ⊎_elim (λ w. let a = at_in (end_a r i) j w in (n, a.0, inl a.1)) (λ w. let a = at_in (end_b r i) j w in (n, a.0, inr a.1))
      (or_cases (bonds_at r (end_a r i)) (bonds_at r (end_b r i)) j b)

  pub touch_has : (i j : ℕ) → j ≢ i → j < bonds r → Share i j → Touch r i j
  unfolding touching
  touch_has i j n l h = diff_in (both i) (2 ^ i) j (go h) (bit_other i j n)
    where
      go : Share i j → bit (both i) j ≡ 1
      go (inl s) = or_left_in (bonds_at r (end_a r i)) (bonds_at r (end_b r i)) j (at_has (end_a r i) j l s)
      go (inr s) = or_right_in (bonds_at r (end_a r i)) (bonds_at r (end_b r i)) j (at_has (end_b r i) j l s)

  pub touch_sym : (i j : ℕ) → i < bonds r → Touch r i j → Touch r j i
  touch_sym i j l h = let w = touch_in i j h in touch_has j i (λ e. w.0 (sym e)) l (share_sym i j w.2)
