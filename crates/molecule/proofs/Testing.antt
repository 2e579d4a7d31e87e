-- Row 6's test as the program does it: by the bonds reached from one end, and those at the other. Assumes nothing.
use mathlib.Core.Path.{◌≡◌, sym, ap, ◌∙◌}
use mathlib.Core.Logic.{◌⊎◌, inl, inr}
use mathlib.Core.List.{[], ◌∷◌}
use mathlib.Core.Bool.{true, false, not, true≢false}
use Prim.Native.Nat.{ℕ, ◌^◌, ◌≤◌, ◌<◌}
use native.Mathlib.Omega.{arith}
use lib.Bits.{bit_and, bit_or}
use lib.Dec.{eqb}
use lib.Pow.{pow_mono, pow_pos}
use borrow.Author.Tests.{eqb-true, eqb-false}
use Rattle.bitset.specs.Bits.{Sub, is_disjoint}
use Rattle.bitset.proofs.Bools.{two}
use Rattle.bitset.proofs.Decide.{sets, v, and, or, sub, is, none}
use Rattle.molecule.specs.Lists.{Bytes}
use Rattle.molecule.specs.Record.{bonds, end_a, end_b}
use Rattle.molecule.specs.Touch.{reach, bonds_at, touching}
use Rattle.molecule.specs.Connected.{Own}
use Rattle.molecule.proofs.Growing.{reach_within}
use Rattle.molecule.proofs.Components.{own_sub, word_at, reach_words}
use Rattle.molecule.specs.Check.{below, closes}
use Rattle.molecule.specs.Tree.{Formed}
use Rattle.molecule.proofs.Walks.{below_lt}
use Rattle.molecule.proofs.Accepted.{ends_below, closes_walk, walk_closes}
use Rattle.molecule.proofs.ByBonds.{from, meets_walk, walk_meets}

module _ (r : Bytes) (f : Formed r) (i : ℕ) (l : i < bonds r) where
  tested : not (is_disjoint (bonds_at r (end_b r i)) (from r (below i) (end_a r i))) ≡ closes r i
  tested = go (two (closes r i)) (two (is_disjoint (bonds_at r (end_b r i)) (from r (below i) (end_a r i))))
    where
      both : ℕ
      both = bit_and (bonds_at r (end_b r i)) (from r (below i) (end_a r i))

      go : (closes r i ≡ true) ⊎ (closes r i ≡ false) → (is_disjoint (bonds_at r (end_b r i)) (from r (below i) (end_a r i)) ≡ true) ⊎ (is_disjoint (bonds_at r (end_b r i)) (from r (below i) (end_a r i)) ≡ false)
          → not (is_disjoint (bonds_at r (end_b r i)) (from r (below i) (end_a r i))) ≡ closes r i
      go (inl c) (inr d) = rw (c, d)
      go (inr c) (inl d) = rw (c, d)
      go (inl c) (inl d) = absurd (walk_meets r (below i) (λ j m. omega (arith, below_lt i j m)) (ends_below r f i (omega arith)) (end_a r i) (end_b r i) (λ e. (f.ends i l).2 (sym e)) (closes_walk r i c) (eqb-true both 0 d))
      go (inr c) (inr d) = absurd (true≢false (sym (walk_closes r f i l (meets_walk r (below i) (λ j m. omega (arith, below_lt i j m)) (ends_below r f i (omega arith)) (end_a r i) (end_b r i) (eqb-false both 0 d))) ∙ c))

  -- what is reached is lower, so of the bonds at the second end the lower ones are enough
  abbrev pub far : ℕ
  far = bit_and (below i) (bonds_at r (end_b r i))

  far_same : bit_and far (from r (below i) (end_a r i)) ≡ bit_and (bonds_at r (end_b r i)) (from r (below i) (end_a r i))
  far_same =
      let c : ℕ = bit_and (below i) (bonds_at r (end_a r i)) in
      let q : Sub (from r (below i) (end_a r i)) (bit_or c (below i)) = reach_within (touching r) (below i) c in
      sets (sub (v 0) (or (and (v 1) (v 2)) (v 1)) ∷ []) (is (and (and (v 1) (v 3)) (v 0)) (and (v 3) (v 0))) (from r (below i) (end_a r i) ∷ below i ∷ bonds_at r (end_a r i) ∷ bonds_at r (end_b r i) ∷ []) tt q

  pub tested_far : not (is_disjoint far (from r (below i) (end_a r i))) ≡ closes r i
  tested_far = ap (λ (n : ℕ). not (eqb n 0)) far_same ∙ tested

  -- where there are none it closes no ring
  pub tested_none : far ≡ 0 → false ≡ closes r i
  tested_none e =
      let z : bit_and far (from r (below i) (end_a r i)) ≡ 0 = sets (is (v 0) none ∷ []) (is (and (v 0) (v 1)) none) (far ∷ from r (below i) (end_a r i) ∷ []) tt e in
      sym (ap (λ (n : ℕ). not (eqb n 0)) z) ∙ tested_far

  below_own : Own r (below i)
  below_own = let h : 2 ^ i ≤ 2 ^ bonds r = pow_mono (omega arith) in omega (arith, pow_pos i)

  -- the same from the words
  pub from_words : reach (word_at r) (below i) (bit_and (below i) (bonds_at r (end_a r i))) ≡ from r (below i) (end_a r i)
  from_words = reach_words r f.sized.few (below i) (bit_and (below i) (bonds_at r (end_a r i))) below_own
      (own_sub r (bit_and (below i) (bonds_at r (end_a r i))) (below i) (sets [] (sub (and (v 0) (v 1)) (v 0)) (below i ∷ bonds_at r (end_a r i) ∷ []) tt) below_own)
