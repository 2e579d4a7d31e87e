-- No bond closes a ring with lower bonds: then without any one bond its ends are apart. Assumes nothing.
use mathlib.Core.Path.{◌≡◌, refl, sym}
use mathlib.Core.Logic.{◌⊎◌, inl, inr, ◌≢◌, ⊎_elim}
use Prim.Native.Nat.{ℕ, zero, suc, ◌^◌, ◌≤◌, ◌<◌}
use native.Mathlib.Omega.{arith}
use native.Mathlib.Decide.{ℕ_discrete}
use Rattle.bitset.specs.Bits.{bit, diff}
use Rattle.bitset.proofs.Laws.{bit_first, bit_other}
use Rattle.bitset.proofs.Members.{sub_of, diff_in, diff_sub}
use Rattle.molecule.specs.Lists.{Bytes}
use Rattle.molecule.specs.Record.{bonds, end_a, end_b, all_bonds}
use Rattle.molecule.specs.Tree.{Joins, Walk, stay, along}
use Rattle.molecule.proofs.Walks.{joins_sym}
use Rattle.molecule.specs.Check.{below}
use Rattle.molecule.proofs.Walks.{below_lt, out_of, walk_join, walk_sym, walk_wide, Over, walk_over}

module _ (r : Bytes) (n : ℕ) (free : (i : ℕ) → i < n → Walk r (below i) (end_a r i) (end_b r i) → ⊥) where
  -- the same, whichever end it is that the walk starts at
  pub either : (i x y : ℕ) → i < n → Joins r i x y → Walk r (below i) x y → ⊥
  either i x y l (inl e) p = free i l (rw (e.0, e.1) p)
  either i x y l (inr e) p = free i l (rw (e.0, e.1) (walk_sym r p))

  -- among the bonds below k no walk without bond i joins its ends: one with bond k - 1 would, turned around, close a ring at that bond
  splits_below : (k : ℕ) → k ≤ n → (i x y : ℕ) → i < k → Joins r i x y → Walk r (diff (below k) (2 ^ i)) x y → ⊥
  splits_below zero l i x y m j p = omega arith
  splits_below (suc k) l i x y m j p = go (ℕ_discrete i k) (splits_below k (omega arith) i x y)
    where
      s : ℕ
      s = diff (below k) (2 ^ i)

      last : (t : ℕ) → bit (diff (below (suc k)) (2 ^ i)) t ≡ 1 → (t ≡ k) ⊎ (bit s t ≡ 1)
      last t h = next (ℕ_discrete t k)
        where
          w : (bit (below (suc k)) t ≡ 1) × (t ≢ i)
          w = out_of (below (suc k)) i t h

          next : Dec (t ≡ k) → (t ≡ k) ⊎ (bit s t ≡ 1)
          next (yes e) = inl e
          next (no d) = inr (diff_in (below k) (2 ^ i) t (bit_first k t (omega (arith, below_lt (suc k) t w.0))) (bit_other i t w.1))

      go : Dec (i ≡ k) → (i < k → Joins r i x y → Walk r s x y → ⊥) → ⊥
      go (yes e) ih = either i x y (omega arith) j (walk_wide r (below i) (sub_of (diff (below (suc k)) (2 ^ i)) (below i)
          (λ t h. let w = out_of (below (suc k)) i t h in bit_first i t (omega (arith, below_lt (suc k) t w.0, w.1)))) p)
      go (no d) ih = ⊎_elim (ih (omega arith) j) turned (walk_over r s k last p)
        where
          wide : {u v : ℕ} → Walk r s u v → Walk r (below k) u v
          wide q = walk_wide r (below k) (diff_sub (below k) (2 ^ i)) q

          turned : Over r s k x y → ⊥
          turned o = either k o.near o.far (omega arith) o.joins
              (walk_join r (along i (walk_sym r (wide o.there)) (bit_first k i (omega arith)) j) (walk_sym r (wide o.on)))

  pub splits_all : (i : ℕ) → i < n → Walk r (diff (below n) (2 ^ i)) (end_a r i) (end_b r i) → ⊥
  splits_all i l p = splits_below n (omega arith) i (end_a r i) (end_b r i) l (inl (refl, refl)) p

-- where that is so of every bond, two that join the same pair are one
pub one_pair : (r : Bytes) → ((i : ℕ) → i < bonds r → Walk r (diff (all_bonds r) (2 ^ i)) (end_a r i) (end_b r i) → ⊥)
    → (i j u v : ℕ) → i < bonds r → j < bonds r → Joins r i u v → Joins r j u v → i ≡ j
one_pair r splits i j u v l m p q = go (ℕ_discrete j i)
  where
    same : Joins r i u v → Joins r j (end_a r i) (end_b r i)
    same (inl e) = rw (e.0, e.1) q
    same (inr e) = rw (e.0, e.1) (joins_sym r j u v q)

    go : Dec (j ≡ i) → i ≡ j
    go (yes e) = sym e
    go (no n) = absurd (splits i l (along j stay (diff_in (all_bonds r) (2 ^ i) j (bit_first (bonds r) j m) (bit_other i j n)) (same p)))
