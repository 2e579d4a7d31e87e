-- Fragments of a record: the atoms of a set, sets with a common atom, and how connected sets come apart and go together.
-- Assumes 64 bonds or fewer where components are listed.
use mathlib.Core.Path.{◌≡◌, sym, ap, subst, ◌∙◌}
use mathlib.Core.Bool.{true, not}
use mathlib.Core.Logic.{◌⊎◌, inl, inr, ◌≢◌, ⊎_elim}
use mathlib.Core.List.{List, [], ◌∷◌, Memᴰ as Mem}
use Prim.Native.Nat.{ℕ, ◌^◌, ◌≤◌}
use native.Mathlib.Omega.{arith}
use lib.Bits.{bit_and, bit_or}
use lib.Dec.{eqb}
use borrow.Author.Tests.{eqb-false, ne_eqb, not-true}
use Rattle.bitset.specs.Bits.{bit, Sub, diff}
use Rattle.bitset.proofs.Laws.{bit_le, bit-and, bit_one, bit_diff, or_cases, sub_or, union_one, union_of}
use Rattle.bitset.proofs.Members.{in_or_out, sub_in, or_left_in, or_right_in, and_in, diff_sub, one_is, some_member, not_empty}
use Rattle.bitset.proofs.Decide.{sets, v as set, or, less, none, is, sub}
use Rattle.molecule.specs.Lists.{Bytes}
use Rattle.molecule.specs.Record.{bonds, end_a, end_b}
use Rattle.molecule.specs.Touch.{components}
use Rattle.molecule.specs.Connected.{Touch, Own, Linked, here, step, Connected}
use Rattle.molecule.proofs.Touching.{EndOf, Share, ends_share, share_ends, touch_in}
use Rattle.molecule.proofs.Components.{link_wide, link_join, link_sym, components_apart, components_union}
use Rattle.molecule.proofs.Whole.{share_link}
use Rattle.canonize.specs.Isomorphism.{AtomOf}
use Rattle.search.specs.Pathway.{atoms_of, meets}
use Rattle.search.specs.Inner.Joining.{Cover}
use Rattle.search.proofs.Covers.{cover_has, apart_cover}

module _ (r : Bytes) where
  -- ---- atoms

  -- the two ends of a bond, as a set of atoms
  abbrev ends_of : ℕ → ℕ
  ends_of i = bit_or (2 ^ end_a r i) (2 ^ end_b r i)

  -- the members of `atoms_of` are the atoms of the set
  pub atoms_in : (s v : ℕ) → bit (atoms_of r s) v ≡ 1 → AtomOf r s v
  unfolding atoms_of
  atoms_in s v h =
      let w = union_of ends_of s v h in
      (w.0, w.1, ⊎_elim (λ e. inl (sym (one_is (end_a r w.0) v e))) (λ e. inr (sym (one_is (end_b r w.0) v e))) (or_cases (2 ^ end_a r w.0) (2 ^ end_b r w.0) v w.2))

  pub atoms_has : (s v : ℕ) → AtomOf r s v → bit (atoms_of r s) v ≡ 1
  unfolding atoms_of
  atoms_has s v a = union_one ends_of s a.0 v a.1 (go a.2)
    where
      go : EndOf r a.0 v → bit (ends_of a.0) v ≡ 1
      go (inl e) = or_left_in (2 ^ end_a r a.0) (2 ^ end_b r a.0) v (subst (λ (x : ℕ). bit (2 ^ end_a r a.0) x ≡ 1) e (bit_one (end_a r a.0)))
      go (inr e) = or_right_in (2 ^ end_a r a.0) (2 ^ end_b r a.0) v (subst (λ (x : ℕ). bit (2 ^ end_b r a.0) x ≡ 1) e (bit_one (end_b r a.0)))

  -- two sets meet where a bond of the one shares an atom with a bond of the other
  pub meets_in : (s t : ℕ) → meets r s t ≡ true → (i j : ℕ) × (bit s i ≡ 1) × (bit t j ≡ 1) × Share r i j
  unfolding meets
  meets_in s t e =
      let a : ℕ = atoms_of r s in
      let b : ℕ = atoms_of r t in
      let w = some_member (bit_and a b) (eqb-false (bit_and a b) 0 (not-true (eqb (bit_and a b) 0) e)) in
      let x = atoms_in s w.0 (omega (arith, w.1, bit-and a b w.0, bit_le a w.0, bit_le b w.0)) in
      let y = atoms_in t w.0 (omega (arith, w.1, bit-and a b w.0, bit_le a w.0, bit_le b w.0)) in
      (x.0, y.0, x.1, y.1, ends_share r x.0 y.0 w.0 x.2 y.2)

  pub meets_has : (s t i j : ℕ) → bit s i ≡ 1 → bit t j ≡ 1 → Share r i j → meets r s t ≡ true
  unfolding meets
  meets_has s t i j hi hj h =
      let w = share_ends r i j h in
      let a : ℕ = atoms_of r s in
      let b : ℕ = atoms_of r t in
      ap not (ne_eqb (bit_and a b) 0 (not_empty (bit_and a b) w.0 (and_in a b w.0 (atoms_has s w.0 (i, hi, w.1)) (atoms_has t w.0 (j, hj, w.2)))))

  -- ---- links

  -- a link from inside s to outside it has a step that leaves s
  leaves : (s p : ℕ) {b c : ℕ} → Linked r p b c → bit s b ≡ 1 → bit s c ≡ 0 → (x y : ℕ) × (bit s x ≡ 1) × (bit s y ≡ 0) × (bit p y ≡ 1) × Touch r x y
  leaves s p (here h) hb hc = absurd (omega arith)
  leaves s p (step {c = c} {d = d} l t h) hb hd = ⊎_elim (λ e. (c, d, e, hd, h, t)) (λ e. leaves s p l hb e) (in_or_out s c)

  -- ---- connected sets

  -- one bond is connected
  pub single_connected : (i : ℕ) → Connected r (2 ^ i)
  single_connected i = record {
    some = not_empty (2 ^ i) i (bit_one i);
    linked = λ b c hb hc. let e : c ≡ b = one_is i c hc ∙ sym (one_is i b hb) in rw e (here hb);
  }

  -- two connected sets with a common atom have a connected union: each bond of the one is linked to each of the other through that atom
  pub union_connected : (s t : ℕ) → Own r (bit_or s t) → Connected r s → Connected r t → meets r s t ≡ true → Connected r (bit_or s t)
  union_connected s t o ks kt e = record {
    some = not_empty u w.0 (or_left_in s t w.0 w.2);
    linked = λ b c hb hc. go b c (or_cases s t b hb) (or_cases s t c hc);
  }
    where
      u : ℕ
      u = bit_or s t

      w : (i j : ℕ) × (bit s i ≡ 1) × (bit t j ≡ 1) × Share r i j
      w = meets_in s t e

      left : Sub s u
      left = sub_or s t

      right : Sub t u
      right = sets [] (sub (set 1) (or (set 0) (set 1))) (s ∷ t ∷ []) tt

      bridge : (b c : ℕ) → bit s b ≡ 1 → bit t c ≡ 1 → Linked r u b c
      bridge b c hb hc =
          link_join r (link_wide r u left (ks.linked b w.0 hb w.2))
          (link_join r (share_link r u w.0 w.1 o (or_left_in s t w.0 w.2) (or_right_in s t w.1 w.3) w.4) (link_wide r u right (kt.linked w.1 c w.3 hc)))

      go : (b c : ℕ) → (bit s b ≡ 1) ⊎ (bit t b ≡ 1) → (bit s c ≡ 1) ⊎ (bit t c ≡ 1) → Linked r u b c
      go b c (inl hb) (inl hc) = link_wide r u left (ks.linked b c hb hc)
      go b c (inl hb) (inr hc) = bridge b c hb hc
      go b c (inr hb) (inl hc) = link_sym r o (bridge c b hc hb)
      go b c (inr hb) (inr hc) = link_wide r u right (kt.linked b c hb hc)

  -- of the parts of what is left of a connected set, one has an atom in common with what is taken: a link from the one to the other has a step between them
  pub part_meets : (p s : ℕ) (l : List ℕ) → Connected r p → Sub s p → s ≢ 0 → s ≢ p → Cover (diff p s) l → (t : ℕ) × Mem t l × (meets r s t ≡ true)
  part_meets p s l k h some other c =
      let a = some_member s some in
      let d : diff p s ≢ 0 = λ e. other (sets (sub (set 1) (set 0) ∷ is (less (set 0) (set 1)) none ∷ []) (is (set 1) (set 0)) (p ∷ s ∷ []) tt h e) in
      let b = some_member (diff p s) d in
      let out : bit s b.0 ≡ 0 = omega (arith, b.1, bit_diff p s b.0, bit_le p b.0) in
      let w = leaves s p (k.linked a.0 b.0 (sub_in s p h a.0 a.1) (sub_in (diff p s) p (diff_sub p s) b.0 b.1)) a.1 out in
      let y : bit (diff p s) w.1 ≡ 1 = omega (arith, w.3, w.4, bit_diff p s w.1) in
      let t = cover_has (diff p s) w.1 l c y in
      (t.0, t.1, meets_has s t.0 w.0 w.1 w.2 t.2 (touch_in r w.0 w.1 w.5).2)

  -- ---- components

  module _ (few : bonds r ≤ 64) where
    -- they cover the set
    pub components_cover : (s : ℕ) → Own r s → Cover s (components r s)
    components_cover s o = apart_cover s (components r s) (components_apart r few s o) (components_union r few s o)
