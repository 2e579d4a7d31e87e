-- Walks: reached, turned around, and with one bond more. Assumes nothing.
use mathlib.Core.Path.{◌≡◌, sym, ap, ◌∙◌, subst}
use mathlib.Core.Logic.{◌⊎◌, inl, inr, ◌≢◌, ⊎_elim}
use Prim.Native.Nat.{ℕ, ◌^◌, ◌<◌}
use native.Mathlib.Omega.{arith}
use lib.Pow.{pow_pos}
use Rattle.bitset.specs.Bits.{bit, Sub, diff}
use Rattle.bitset.proofs.Laws.{bit_le, bit_diff, bit_one, member_lt}
use Rattle.bitset.proofs.Members.{sub_in}
use Rattle.molecule.specs.Lists.{Bytes}
use Rattle.molecule.specs.Tree.{Joins, Walk, stay, along}
use Rattle.molecule.specs.Check.{below}
use Rattle.molecule.proofs.Touching.{EndOf}

-- a bond below k is below k
pub below_lt : (k i : ℕ) → bit (below k) i ≡ 1 → i < k
below_lt k i h = member_lt k (below k) i (omega (arith, pow_pos k)) h

-- a set without i does not have i
pub out_of : (s i j : ℕ) → bit (diff s (2 ^ i)) j ≡ 1 → (bit s j ≡ 1) × (j ≢ i)
out_of s i j h = (
  omega (arith, bit_diff s (2 ^ i) j, bit_le s j),
  λ e. omega (arith, bit_diff s (2 ^ i) j, bit_le s j, bit_one i, ap (bit (2 ^ i)) e),
)

module _ (r : Bytes) where
  pub joins_sym : (i u v : ℕ) → Joins r i u v → Joins r i v u
  joins_sym i u v (inl e) = inr e
  joins_sym i u v (inr e) = inl e

  pub joins_end : (i u v : ℕ) → Joins r i u v → EndOf r i u
  joins_end i u v (inl e) = inl e.0
  joins_end i u v (inr e) = inr e.1

  -- no bond of s joins an atom of k and one outside it
  abbrev pub Shut : ℕ → ℕ → Type 0
  Shut s k = (i u v : ℕ) → bit s i ≡ 1 → Joins r i u v → bit k u ≡ 1 → bit k v ≡ 1

  pub walk_in : {s u v : ℕ} (k : ℕ) → Shut s k → bit k u ≡ 1 → Walk r s u v → bit k v ≡ 1
  walk_in k h m stay = m
  walk_in k h m (along {v = x} {w = y} i p b j) = h i x y b j (walk_in k h m p)

  pub walk_join : {s u v w : ℕ} → Walk r s u v → Walk r s v w → Walk r s u w
  walk_join p stay = p
  walk_join p (along i q h j) = along i (walk_join p q) h j

  pub walk_sym : {s u v : ℕ} → Walk r s u v → Walk r s v u
  walk_sym stay = stay
  walk_sym (along {v = x} {w = y} i p h j) = walk_join (along i stay h (joins_sym i x y j)) (walk_sym p)

  pub walk_wide : {s u v : ℕ} (t : ℕ) → Sub s t → Walk r s u v → Walk r t u v
  walk_wide t q stay = stay
  walk_wide {s} t q (along i p h j) = along i (walk_wide t q p) (sub_in s t q i h) j

  -- a bond joins one pair
  pub joins_same : (i u v x y : ℕ) → Joins r i u v → Joins r i x y → ((x ≡ u) × (y ≡ v)) ⊎ ((x ≡ v) × (y ≡ u))
  joins_same i u v x y (inl p) (inl q) = inl (sym q.0 ∙ p.0, sym q.1 ∙ p.1)
  joins_same i u v x y (inl p) (inr q) = inr (sym q.1 ∙ p.1, sym q.0 ∙ p.0)
  joins_same i u v x y (inr p) (inl q) = inr (sym q.0 ∙ p.0, sym q.1 ∙ p.1)
  joins_same i u v x y (inr p) (inr q) = inl (sym q.1 ∙ p.1, sym q.0 ∙ p.0)

  -- from u along bonds of s to one end of bond i, and from the other end to v
  pub record Over (s i u v : ℕ) : Type 0 where
    pub near : ℕ
    pub far : ℕ
    pub joins : Joins r i near far
    pub there : Walk r s u near
    pub on : Walk r s far v

  -- a walk along bonds of s and bond i does without bond i, or needs it only once
  pub walk_over : {t u v : ℕ} (s i : ℕ) → ((j : ℕ) → bit t j ≡ 1 → (j ≡ i) ⊎ (bit s j ≡ 1)) → Walk r t u v → Walk r s u v ⊎ Over s i u v
  walk_over s i h stay = inl stay
  walk_over {t} {u} {v} s i h (along {v = x} j p b q) = go (h j b) (walk_over s i h p)
    where
      again : Over s i u x → Joins r i x v → Walk r s u v ⊎ Over s i u v
      again o k = ⊎_elim
          (λ (e : (x ≡ o.near) × (v ≡ o.far)). inr (record { near = o.near; far = o.far; joins = o.joins; there = o.there; on = subst (Walk r s o.far) (sym e.1) stay }))
          (λ (e : (x ≡ o.far) × (v ≡ o.near)). inl (subst (Walk r s u) (sym e.1) o.there))
          (joins_same i o.near o.far x v o.joins k)

      go : (j ≡ i) ⊎ (bit s j ≡ 1) → Walk r s u x ⊎ Over s i u x → Walk r s u v ⊎ Over s i u v
      go (inl e) (inl w) = inr (record { near = x; far = v; joins = subst (λ (k : ℕ). Joins r k x v) e q; there = w; on = stay })
      go (inl e) (inr o) = again o (subst (λ (k : ℕ). Joins r k x v) e q)
      go (inr m) (inl w) = inl (along j w m q)
      go (inr m) (inr o) = inr (record { near = o.near; far = o.far; joins = o.joins; there = o.there; on = along j o.on m q })
