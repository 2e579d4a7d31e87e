-- A connected set of bonds of a forest has one atom more than bonds. Assumes nothing.
use mathlib.Core.Path.{◌≡◌, refl, sym, ap, ◌∙◌, subst}
use mathlib.Core.Logic.{inl, inr}
use mathlib.Core.Bool.{Bool, not}
use Prim.Native.Nat.{ℕ, ◌+◌, ◌-◌, ◌^◌, ◌<◌}
use native.Mathlib.Omega.{arith}
use lib.Bits.{bit_and}
use lib.Pow.{pow_pos}
use borrow.Author.Tests.{eqb-false, ne_eqb, not-true}
use Rattle.bitset.specs.Bits.{bit, Sub, is_disjoint, diff, size, set_of}
use Rattle.bitset.proofs.Laws.{bit_le, bit_diff, bit_first, bit_one, sub_anti, size_diff, size_minus, size_one, size_first, member_lt}
use Rattle.bitset.proofs.Members.{sub_of, and_in, diff_in, one_is, some_member, not_empty, set_of_in, set_of_has}
use Rattle.molecule.specs.Lists.{Bytes}
use Rattle.molecule.specs.Record.{atoms, bonds, end_a, all_bonds}
use Rattle.molecule.specs.Touch.{bonds_at}
use Rattle.molecule.specs.Connected.{Linked, here, step, Connected}
use Rattle.molecule.specs.Tree.{Walk, stay, along}
use Rattle.molecule.proofs.Touching.{EndOf, share_ends, at_in, at_has, touch_in}
use Rattle.molecule.specs.Tree.{Formed, Forest}
use Rattle.molecule.proofs.Walks.{joins_sym, joins_end, walk_join, walk_sym}
use Rattle.molecule.proofs.ByBonds.{and_both}
use Rattle.molecule.proofs.Counting.{set_lt, set_ends, lowest, lowest_in, lowest_has, leader, leader_one, counted}

module _ (r : Bytes) where
  -- ---- links of bonds and walks of atoms

  bond_walk : (s i u v : ℕ) → bit s i ≡ 1 → EndOf r i u → EndOf r i v → Walk r s u v
  bond_walk s i u v m (inl e) (inl f) = subst (Walk r s u) (sym e ∙ f) stay
  bond_walk s i u v m (inl e) (inr f) = along i stay m (inl (e, f))
  bond_walk s i u v m (inr e) (inl f) = along i stay m (inr (f, e))
  bond_walk s i u v m (inr e) (inr f) = subst (Walk r s u) (sym e ∙ f) stay

  -- where bonds are linked inside s, walks along s join their ends
  pub link_walk : {s b c : ℕ} → Linked r s b c → (u v : ℕ) → EndOf r b u → EndOf r c v → Walk r s u v
  link_walk {s} {b} (here h) u v e f = bond_walk s b u v h e f
  link_walk {s} (step {c = c} {d = d} l t h) u v e f =
      let w = share_ends r c d (touch_in r c d t).2 in
      walk_join r (link_walk l u w.0 e w.1) (bond_walk s d w.0 v h w.2 f)

  -- ---- the atoms of a set of bonds

  -- atom v has a bond of s
  abbrev is_touched : ℕ → ℕ → Bool
  is_touched s v = not (is_disjoint (bonds_at r v) s)

  abbrev pub touched : ℕ → ℕ
  touched s = set_of (is_touched s) (atoms r)

  pub touched_in : (s v : ℕ) → bit (touched s) v ≡ 1 → (i : ℕ) × (bit s i ≡ 1) × EndOf r i v
  touched_in s v h =
      let w = set_of_in (is_touched s) (atoms r) v h in
      let m = some_member (bit_and (bonds_at r v) s) (eqb-false (bit_and (bonds_at r v) s) 0 (not-true (is_disjoint (bonds_at r v) s) w.1)) in
      let b = and_both (bonds_at r v) s m.0 m.1 in
      (m.0, b.1, (at_in r v m.0 b.0).1)

  pub touched_has : (s v i : ℕ) → v < atoms r → i < bonds r → bit s i ≡ 1 → EndOf r i v → bit (touched s) v ≡ 1
  touched_has s v i l k m e = set_of_has (is_touched s) (atoms r) v l
      (ap not (ne_eqb (bit_and (bonds_at r v) s) 0 (not_empty (bit_and (bonds_at r v) s) i (and_in (bonds_at r v) s i (at_has r v i k e) m))))

  pub touched_lt : (s v : ℕ) → bit (touched s) v ≡ 1 → v < atoms r
  touched_lt s v h = (set_of_in (is_touched s) (atoms r) v h).0

  module _ (f : Formed r) (s : ℕ) (o : Sub s (all_bonds r)) where
    end_atom : (i v : ℕ) → bit s i ≡ 1 → EndOf r i v → bit (touched s) v ≡ 1
    end_atom i v m e = touched_has s v i (lt e) (set_lt r f s o i m) m e
      where
        lt : EndOf r i v → v < atoms r
        lt (inl q) = let w = set_ends r f s o i m in omega arith
        lt (inr q) = let w = set_ends r f s o i m in omega arith

    -- a walk leads from an atom of s to one, and from any other nowhere
    walk_to : {u v : ℕ} → Walk r s u v → bit (touched s) u ≡ 1 → bit (touched s) v ≡ 1
    walk_to stay h = h
    walk_to (along {v = x} {w = y} i p m j) h = end_atom i y m (joins_end r i y x (joins_sym r i x y j))

    walk_off : {u v : ℕ} → Walk r s u v → bit (touched s) v ≡ 0 → u ≡ v
    walk_off stay h = refl
    walk_off (along {v = x} {w = y} i p m j) h = absurd (omega (arith, end_atom i y m (joins_end r i y x (joins_sym r i x y j))))

    abbrev all_atoms : ℕ
    all_atoms = 2 ^ atoms r - 1

    -- an atom that s does not touch is a tree of its own
    off_same : diff (lowest r f s) (touched s) ≡ diff all_atoms (touched s)
    off_same = sub_anti (diff (lowest r f s) (touched s)) (diff all_atoms (touched s))
        (sub_of (diff (lowest r f s) (touched s)) (diff all_atoms (touched s)) (λ v h.
        let p = off_in (lowest r f s) v h in
        diff_in all_atoms (touched s) v (bit_first (atoms r) v (lowest_in r f s o v p.0).0) p.1))
        (sub_of (diff all_atoms (touched s)) (diff (lowest r f s) (touched s)) (λ v h.
        let p = off_in all_atoms v h in
        diff_in (lowest r f s) (touched s) v
        (lowest_has r f s o v (member_lt (atoms r) all_atoms v (omega (arith, pow_pos (atoms r))) p.0) (λ x q. omega (arith, walk_off (walk_sym r q) p.1))) p.1))
      where
        off_in : (a v : ℕ) → bit (diff a (touched s)) v ≡ 1 → (bit a v ≡ 1) × (bit (touched s) v ≡ 0)
        off_in a v h = (omega (arith, bit_diff a (touched s) v, bit_le a v), omega (arith, bit_diff a (touched s) v, bit_le a v))

    -- the atoms of a connected set are one tree
    on_one : Connected r s → (t : ℕ) × (bit_and (lowest r f s) (touched s) ≡ 2 ^ t)
    on_one k = go (leader r f s o (end_a r i) (set_ends r f s o i m).0)
      where
        i : ℕ
        i = (some_member s k.some).0

        m : bit s i ≡ 1
        m = (some_member s k.some).1

        go : (t : ℕ) × (bit (lowest r f s) t ≡ 1) × Walk r s t (end_a r i) → (t : ℕ) × (bit_and (lowest r f s) (touched s) ≡ 2 ^ t)
        go (t, h, p) = (
          t,
          sub_anti (bit_and (lowest r f s) (touched s)) (2 ^ t)
              (sub_of (bit_and (lowest r f s) (touched s)) (2 ^ t) (λ v b.
              let w = and_both (lowest r f s) (touched s) v b in
              let c = touched_in s v w.1 in
              let e : t ≡ v = leader_one r f s o t v h w.0 (walk_join r p (link_walk (k.linked i c.0 m c.1) (end_a r i) v (inl refl) c.2)) in
              subst (λ (x : ℕ). bit (2 ^ t) x ≡ 1) e (bit_one t)))
              (sub_of (2 ^ t) (bit_and (lowest r f s) (touched s)) (λ v b.
              let e : v ≡ t = one_is t v b in
              rw e (and_in (lowest r f s) (touched s) t h (walk_to (walk_sym r p) (end_atom i (end_a r i) m (inl refl)))))),
        )

  -- one atom more than bonds
  pub connected_count : Forest r → (s : ℕ) → Sub s (all_bonds r) → Connected r s → size (touched s) ≡ size s + 1
  connected_count t s o k =
      let f : Formed r = t.formed in
      let w = on_one f s o k in
      omega (
        arith,
        counted r f t.splits s o,
        size_diff (lowest r f s) (touched s),
        ap size w.1,
        size_one w.0,
        ap size (off_same f s o),
        size_minus (2 ^ atoms r - 1) (touched s) (sub_of (touched s) (2 ^ atoms r - 1) (λ v h. bit_first (atoms r) v (touched_lt s v h))),
        size_first (atoms r),
      )
