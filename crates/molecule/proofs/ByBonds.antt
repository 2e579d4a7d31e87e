-- A walk between two atoms by sets of bonds: a bond at one is reached, by steps between touching bonds, from the bonds at the other. Assumes nothing.
use mathlib.Core.Path.{◌≡◌, refl, sym, ap, ◌∙◌, subst}
use mathlib.Core.Logic.{◌⊎◌, inl, inr, ◌≢◌, ⊎_elim}
use mathlib.Core.Bool.{Bool}
use Prim.Native.Nat.{ℕ, ◌<◌}
use native.Mathlib.Omega.{arith}
use native.Mathlib.Decide.{ℕ_discrete}
use lib.Bits.{bit_and}
use borrow.Author.Tests.{eqb-true, eq-eqb}
use Rattle.bitset.specs.Bits.{bit, has, Sub, set_of}
use Rattle.bitset.proofs.Laws.{bit_le, bit-and}
use Rattle.bitset.proofs.Members.{sub_of, sub_in, and_in, some_member, not_empty, set_of_in, set_of_has}
use Rattle.molecule.specs.Lists.{Bytes}
use Rattle.molecule.specs.Record.{atoms, bonds, end_a, end_b}
use Rattle.molecule.specs.Touch.{reach, bonds_at, touching}
use Rattle.molecule.specs.Tree.{Walk, stay, along}
use Rattle.molecule.proofs.Growing.{reach_has, reach_closed, reach_least}
use Rattle.molecule.proofs.Touching.{EndOf, ends_share, at_in, at_has, touch_in, touch_has}
use Rattle.molecule.specs.Check.{reached}
use Rattle.molecule.proofs.Walks.{joins_sym, joins_end}
use Rattle.molecule.proofs.Reached.{reached_walk, reached_self, reached_closed}

-- a member of both
pub and_both : (s t i : ℕ) → bit (bit_and s t) i ≡ 1 → (bit s i ≡ 1) × (bit t i ≡ 1)
and_both s t i h = (omega (arith, bit-and s t i, bit_le s i), omega (arith, bit-and s t i, bit_le t i))

module _ (r : Bytes) where
  -- the bonds of s that are reached from those at atom u
  abbrev pub from : ℕ → ℕ → ℕ
  from s u = reach (touching r) s (bit_and s (bonds_at r u))

  module _ (s : ℕ) (own : (i : ℕ) → bit s i ≡ 1 → i < bonds r) (atom : (i : ℕ) → bit s i ≡ 1 → (end_a r i < atoms r) × (end_b r i < atoms r)) (u : ℕ) where
    -- where a walk ends there is a bond that is reached, unless it is at u itself
    walk_from : {v : ℕ} → Walk r s u v → (v ≡ u) ⊎ ((i : ℕ) × (bit (from s u) i ≡ 1) × EndOf r i v)
    walk_from stay = inl refl
    walk_from (along {v = x} {w = y} j p m q) = inr (j, go (walk_from p), joins_end r j y x (joins_sym r j x y q))
      where
        next : (i : ℕ) → bit (from s u) i ≡ 1 → EndOf r i x → Dec (j ≡ i) → bit (from s u) j ≡ 1
        next i h e (yes k) = ap (bit (from s u)) k ∙ h
        next i h e (no n) = reach_closed (touching r) s (bit_and s (bonds_at r u)) i j h m (touch_has r i j n (own j m) (ends_share r i j x e (joins_end r j x y q)))

        go : (x ≡ u) ⊎ ((i : ℕ) × (bit (from s u) i ≡ 1) × EndOf r i x) → bit (from s u) j ≡ 1
        go (inl e) = sub_in (bit_and s (bonds_at r u)) (from s u) (reach_has (touching r) s (bit_and s (bonds_at r u))) j
            (and_in s (bonds_at r u) j m (at_has r u j (own j m) (subst (EndOf r j) e (joins_end r j x y q))))
        go (inr w) = next w.0 w.1 w.2 (ℕ_discrete j w.0)

    -- the bonds of s whose first end a walk reaches
    abbrev first_end : ℕ → Bool
    first_end i = has (reached r s u) (end_a r i)

    abbrev inside : ℕ
    inside = bit_and s (set_of first_end (bonds r))

    inside_in : (i v : ℕ) → bit inside i ≡ 1 → EndOf r i v → (bit s i ≡ 1) × (bit (reached r s u) v ≡ 1)
    inside_in i v h e = (w.0, go e)
      where
        w : (bit s i ≡ 1) × (bit (set_of first_end (bonds r)) i ≡ 1)
        w = and_both s (set_of first_end (bonds r)) i h

        a : bit (reached r s u) (end_a r i) ≡ 1
        a = eqb-true (bit (reached r s u) (end_a r i)) 1 (set_of_in first_end (bonds r) i w.1).1

        go : EndOf r i v → bit (reached r s u) v ≡ 1
        go (inl q) = ap (bit (reached r s u)) (sym q) ∙ a
        go (inr q) = reached_closed r s atom u i (end_a r i) v w.0 (inl (refl, q)) a

    inside_has : (i v : ℕ) → bit s i ≡ 1 → EndOf r i v → bit (reached r s u) v ≡ 1 → bit inside i ≡ 1
    inside_has i v m e h = and_in s (set_of first_end (bonds r)) i m (set_of_has first_end (bonds r) i (own i m) (eq-eqb (bit (reached r s u) (end_a r i)) 1 (go e)))
      where
        go : EndOf r i v → bit (reached r s u) (end_a r i) ≡ 1
        go (inl q) = ap (bit (reached r s u)) q ∙ h
        go (inr q) = reached_closed r s atom u i v (end_a r i) m (inr (refl, q)) h

    from_inside : Sub (from s u) inside
    from_inside = reach_least (touching r) s (bit_and s (bonds_at r u)) inside
        (sub_of (bit_and s (bonds_at r u)) inside (λ i h. let w = and_both s (bonds_at r u) i h in inside_has i u w.0 (at_in r u i w.1).1 (reached_self r s atom u)))
        (λ x y hx hy t.
        let w = touch_in r x y t in
        ⊎_elim (λ e. inside_has y (end_a r x) hy e (inside_in x (end_a r x) hx (inl refl)).1)
        (λ e. inside_has y (end_b r x) hy e (inside_in x (end_b r x) hx (inr refl)).1) w.2)

    -- an atom with such a bond is reached by a walk; and one that is, apart from u, has such a bond
    pub meets_walk : (v : ℕ) → bit_and (bonds_at r v) (from s u) ≢ 0 → Walk r s u v
    meets_walk v n =
        let w = some_member (bit_and (bonds_at r v) (from s u)) n in
        let h = and_both (bonds_at r v) (from s u) w.0 w.1 in
        reached_walk r s u v (inside_in w.0 v (sub_in (from s u) inside from_inside w.0 h.1) (at_in r v w.0 h.0).1).1

    pub walk_meets : (v : ℕ) → v ≢ u → Walk r s u v → bit_and (bonds_at r v) (from s u) ≢ 0
    walk_meets v n p = go (walk_from p)
      where
        go : (v ≡ u) ⊎ ((i : ℕ) × (bit (from s u) i ≡ 1) × EndOf r i v) → bit_and (bonds_at r v) (from s u) ≢ 0
        go (inl e) = absurd (n e)
        go (inr w) =
            let m = and_both s (set_of first_end (bonds r)) w.0 (sub_in (from s u) inside from_inside w.0 w.1) in
            not_empty (bit_and (bonds_at r v) (from s u)) w.0 (and_in (bonds_at r v) (from s u) w.0 (at_has r v w.0 (own w.0 m.0) w.2) w.1)
