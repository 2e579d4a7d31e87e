-- The atoms that are reached from an atom along bonds of a set: those that walks end at. Assumes nothing.
use mathlib.Core.Path.{◌≡◌, refl, sym, ap, ◌∙◌, subst}
use mathlib.Core.Logic.{◌⊎◌, inl, inr, ⊎_elim}
use mathlib.Core.Bool.{true, false}
use Prim.Native.Nat.{ℕ, zero, suc, ◌-◌, ◌^◌, ◌<◌}
use native.Mathlib.Omega.{arith}
use lib.Bits.{bit_or}
use borrow.Author.Tests.{eqb-true, eq-eqb}
use Rattle.bitset.specs.Bits.{bit, has, members, unions}
use Rattle.bitset.proofs.Bools.{two}
use Rattle.bitset.proofs.Laws.{bit_one, bit_empty, bit_first, or_cases, sub_anti, union_one, union_of, size_first}
use Rattle.bitset.proofs.Members.{sub_of, sub_in, or_left_in, or_right_in, one_is}
use Rattle.molecule.specs.Lists.{Bytes}
use Rattle.molecule.specs.Record.{atoms, end_a, end_b}
use Rattle.molecule.specs.Touch.{grow, reach}
use Rattle.molecule.specs.Rounds.{grow_round}
use Rattle.molecule.specs.Check.{across}
use Rattle.molecule.specs.Tree.{Joins, Walk, stay, along}
use Rattle.molecule.proofs.Growing.{round_in, round_has, round_keeps, reach_has, reach_closed}
use Rattle.molecule.proofs.Walks.{Shut, walk_in}
use Rattle.molecule.specs.Check.{walk, reached}

-- b alone where a is in s
abbrev side : ℕ → ℕ → ℕ → ℕ
side s a b = elim (has s a) as (λ _. ℕ) [ true ↦ 2 ^ b | false ↦ 0 ]

side_in : (s a b y : ℕ) → bit (side s a b) y ≡ 1 → (bit s a ≡ 1) × (b ≡ y)
side_in s a b y h = go (two (has s a))
  where
    go : (has s a ≡ true) ⊎ (has s a ≡ false) → (bit s a ≡ 1) × (b ≡ y)
    go (inl e) = (eqb-true (bit s a) 1 e, sym (one_is b y (rw (e, side) at h)))
    go (inr e) = absurd (omega (arith, bit_empty y, rw (e, side) at h))

side_has : (s a b : ℕ) → bit s a ≡ 1 → bit (side s a b) b ≡ 1
side_has s a b h = rw (eq-eqb (bit s a) 1 h, side) (bit_one b)

module _ (r : Bytes) where
  -- ---- one step

  across_in : (s i y : ℕ) → bit (across r s i) y ≡ 1 → (x : ℕ) × (bit s x ≡ 1) × Joins r i x y
  unfolding across
  across_in s i y h = ⊎_elim
      (λ e. let w = side_in s (end_a r i) (end_b r i) y e in (end_a r i, w.0, inl (refl, w.1)))
      (λ e. let w = side_in s (end_b r i) (end_a r i) y e in (end_b r i, w.0, inr (w.1, refl)))
      (or_cases (side s (end_a r i) (end_b r i)) (side s (end_b r i) (end_a r i)) y h)

  across_has : (s i x y : ℕ) → bit s x ≡ 1 → Joins r i x y → bit (across r s i) y ≡ 1
  unfolding across
  across_has s i x y h (inl e) =
      subst (λ (z : ℕ). bit (across r s i) z ≡ 1) e.1
      (or_left_in (side s (end_a r i) (end_b r i)) (side s (end_b r i) (end_a r i)) (end_b r i) (side_has s (end_a r i) (end_b r i) (ap (bit s) e.0 ∙ h)))
  across_has s i x y h (inr e) =
      subst (λ (z : ℕ). bit (across r s i) z ≡ 1) e.0
      (or_right_in (side s (end_a r i) (end_b r i)) (side s (end_b r i) (end_a r i)) (end_a r i) (side_has s (end_b r i) (end_a r i) (ap (bit s) e.1 ∙ h)))

  module _ (b : ℕ) where
    -- the ends of bonds of b whose other end is in s
    abbrev over : ℕ → ℕ
    over s = unions (across r s) (members b)

    over_in : (s y : ℕ) → bit (over s) y ≡ 1 → (i x : ℕ) × (bit b i ≡ 1) × (bit s x ≡ 1) × Joins r i x y
    over_in s y h =
        let w = union_of (across r s) b y h in
        let u = across_in s w.0 y w.2 in
        (w.0, u.0, w.1, u.1, u.2)

    over_has : (s i x y : ℕ) → bit b i ≡ 1 → bit s x ≡ 1 → Joins r i x y → bit (over s) y ≡ 1
    over_has s i x y m h j = union_one (across r s) b i y m (across_has s i x y h j)

    -- ---- what is reached is where walks end

    walk_walks : (u f s : ℕ) → ((x : ℕ) → bit s x ≡ 1 → Walk r b u x) → (y : ℕ) → bit (walk r b f s) y ≡ 1 → Walk r b u y
    unfolding walk
    walk_walks u zero s h y m = h y m
    walk_walks u (suc f) s h y m = walk_walks u f (bit_or s (over s)) (λ x k. ⊎_elim (λ (e : bit s x ≡ 1). h x e)
        (λ (e : bit (over s) x ≡ 1). let w = over_in s x e in along w.0 (h w.1 w.3) w.2 w.4)
        (or_cases s (over s) x k)) y m

    pub reached_walk : (u v : ℕ) → bit (reached r b u) v ≡ 1 → Walk r b u v
    unfolding reached
    reached_walk u v h = walk_walks u (atoms r) (2 ^ u) (λ x k. subst (Walk r b u) (sym (one_is u x k)) stay) v h

    -- ---- the steps are those of growing a set of atoms over the graph of atoms

    -- the atoms next to atom v
    next_to : ℕ → ℕ
    next_to v = over (2 ^ v)

    next_in : (x y : ℕ) → bit (next_to x) y ≡ 1 → (i : ℕ) × (bit b i ≡ 1) × Joins r i x y
    unfolding next_to
    next_in x y h =
        let w = over_in (2 ^ x) y h in
        (w.0, w.2, subst (λ (z : ℕ). Joins r w.0 z y) (one_is x w.1 w.3) w.4)

    next_has : (i x y : ℕ) → bit b i ≡ 1 → Joins r i x y → bit (next_to x) y ≡ 1
    unfolding next_to
    next_has i x y m j = over_has (2 ^ x) i x y m (bit_one x) j

    abbrev all_atoms : ℕ
    all_atoms = 2 ^ atoms r - 1

    module _ (k : (i : ℕ) → bit b i ≡ 1 → (end_a r i < atoms r) × (end_b r i < atoms r)) where
      -- an end is an atom
      end_lt : (i u v : ℕ) → bit b i ≡ 1 → Joins r i u v → v < atoms r
      end_lt i u v m (inl e) = let w = k i m in omega (arith, e.1)
      end_lt i u v m (inr e) = let w = k i m in omega (arith, e.0)

      same_step : (s : ℕ) → bit_or s (over s) ≡ grow_round next_to all_atoms s
      same_step s = sub_anti (bit_or s (over s)) (grow_round next_to all_atoms s)
          (sub_of (bit_or s (over s)) (grow_round next_to all_atoms s) there)
          (sub_of (grow_round next_to all_atoms s) (bit_or s (over s)) back)
        where
          there : (y : ℕ) → bit (bit_or s (over s)) y ≡ 1 → bit (grow_round next_to all_atoms s) y ≡ 1
          there y h = ⊎_elim (λ (e : bit s y ≡ 1). sub_in s (grow_round next_to all_atoms s) (round_keeps next_to all_atoms s) y e)
              (λ (m : bit (over s) y ≡ 1).
              let w = over_in s y m in
              round_has next_to all_atoms s w.1 y w.3 (next_has w.0 w.1 y w.2 w.4) (bit_first (atoms r) y (end_lt w.0 w.1 y w.2 w.4)))
              (or_cases s (over s) y h)

          back : (y : ℕ) → bit (grow_round next_to all_atoms s) y ≡ 1 → bit (bit_or s (over s)) y ≡ 1
          back y h = ⊎_elim (λ e. or_left_in s (over s) y e)
              (λ w.
              let n = next_in w.0 y w.2 in
              or_right_in s (over s) y (over_has s n.0 w.0 y n.1 w.1 n.2))
              (round_in next_to all_atoms s y h)

      same_walk : (f s : ℕ) → walk r b f s ≡ grow next_to all_atoms f s
      unfolding walk grow
      same_walk zero s = refl
      same_walk (suc f) s = same_walk f (bit_or s (over s)) ∙ ap (grow next_to all_atoms f) (same_step s)

      same_reach : (u : ℕ) → reached r b u ≡ reach next_to all_atoms (2 ^ u)
      unfolding reached reach
      same_reach u = same_walk (atoms r) (2 ^ u) ∙ ap (λ (f : ℕ). grow next_to all_atoms f (2 ^ u)) (sym (size_first (atoms r)))

      -- ---- reached holds its atom, and no bond of b leads out of it

      pub reached_self : (u : ℕ) → bit (reached r b u) u ≡ 1
      reached_self u = rw (same_reach u) (sub_in (2 ^ u) (reach next_to all_atoms (2 ^ u)) (reach_has next_to all_atoms (2 ^ u)) u (bit_one u))

      pub reached_closed : (u : ℕ) → Shut r b (reached r b u)
      reached_closed u i x y m j h =
          rw (same_reach u) (reach_closed next_to all_atoms (2 ^ u) x y (rw (same_reach u) at h) (bit_first (atoms r) y (end_lt i x y m j)) (next_has i x y m j))

      pub walk_reached : (u v : ℕ) → Walk r b u v → bit (reached r b u) v ≡ 1
      walk_reached u v p = walk_in r (reached r b u) (reached_closed u) (reached_self u) p
