-- Two connected sets of bonds, of accepted records, have equal labels exactly when they are isomorphic: the maps on lists and those on numbers give each other. Assumes nothing.
use mathlib.Core.Path.{◌≡◌, refl, sym, ap, ◌∙◌}
use mathlib.Core.Logic.{◌⊎◌, inl, inr, ◌↔◌}
use mathlib.Core.List.{Memᴰ as Mem}
use Prim.Native.Nat.{ℕ}
use native.Mathlib.Omega.{arith}
use Rattle.bitset.specs.Bits.{bit}
use Rattle.bitset.proofs.Laws.{member_lt}
use Rattle.bitset.proofs.Members.{in_or_out}
use Rattle.molecule.specs.Lists.{Bytes}
use Rattle.molecule.specs.Record.{bonds, end_a, end_b, code}
use Rattle.molecule.specs.Check.{accepted, check}
use Rattle.molecule.specs.Connected.{Own, Connected}
use Rattle.molecule.specs.Tree.{Joins}
use Rattle.molecule.proofs.Accepted.{accepted_forest}
use Rattle.canonize.specs.Fragment.{arcs}
use Rattle.canonize.specs.Label.{bonds_of, fragment, label}
use Rattle.canonize.specs.Isomorphism.{AtomOf, Isomorphism}
use Rattle.canonize.proofs.Fragments.{arc_has, arc_in, atom_in, atom_has, fragment_clean}
use Rattle.canonize.proofs.Marks.{own_equal, own_element, own_class}
use Rattle.canonize.proofs.Plain.{arc, Isomorphism as Alike, label_isomorphism}

-- ---- what a bond joins

-- the pairs a, b and c, d are one, in some order
abbrev pub Paired : ℕ → ℕ → ℕ → ℕ → Type 0
Paired a b c d = ((a ≡ c) × (b ≡ d)) ⊎ ((a ≡ d) × (b ≡ c))

-- a bond joins one pair of atoms only
pub joins_paired : (r : Bytes) (i a b c d : ℕ) → Joins r i a b → Joins r i c d → Paired a b c d
joins_paired r i a b c d (inl p) (inl q) = inl (sym p.0 ∙ q.0, sym p.1 ∙ q.1)
joins_paired r i a b c d (inl p) (inr q) = inr (sym p.0 ∙ q.0, sym p.1 ∙ q.1)
joins_paired r i a b c d (inr p) (inl q) = inr (sym p.1 ∙ q.1, sym p.0 ∙ q.0)
joins_paired r i a b c d (inr p) (inr q) = inl (sym p.1 ∙ q.1, sym p.0 ∙ q.0)

pub paired_joins : (r : Bytes) (i a b c d : ℕ) → Paired a b c d → Joins r i a b → Joins r i c d
paired_joins r i a b c d (inl p) (inl j) = inl (j.0 ∙ p.0, j.1 ∙ p.1)
paired_joins r i a b c d (inl p) (inr j) = inr (j.0 ∙ p.1, j.1 ∙ p.0)
paired_joins r i a b c d (inr p) (inl j) = inr (j.0 ∙ p.0, j.1 ∙ p.1)
paired_joins r i a b c d (inr p) (inr j) = inl (j.0 ∙ p.1, j.1 ∙ p.0)

-- a map takes a pair along, and one that is one to one takes it back
paired_back : (f : ℕ → ℕ) (P : ℕ → Type 0) → ((u v : ℕ) → P u → P v → f u ≡ f v → u ≡ v) → (a b c d : ℕ) → P a → P b → P c → P d → Paired (f a) (f b) (f c) (f d) → Paired a b c d
paired_back f P one a b c d pa pb pc pd (inl p) = inl (one a c pa pc p.0, one b d pb pd p.1)
paired_back f P one a b c d pa pb pc pd (inr p) = inr (one a d pa pd p.0, one b c pb pc p.1)

-- where the ends of i go to those of j, what i joins goes to what j joins
pub joins_map : (r q : Bytes) (f : ℕ → ℕ) (i j u v : ℕ) → Joins r i u v → Joins q j (f (end_a r i)) (f (end_b r i)) → Joins q j (f u) (f v)
joins_map r q f i j u v (inl p) k = rw (← p.0, ← p.1) k
joins_map r q f i j u v (inr p) (inl k) = inr (k.0 ∙ ap f p.0, k.1 ∙ ap f p.1)
joins_map r q f i j u v (inr p) (inr k) = inl (k.0 ∙ ap f p.1, k.1 ∙ ap f p.0)

-- by a map f of atoms, bond j of q is in t and the image of bond i of r
record Image (r q : Bytes) (t : ℕ) (f : ℕ → ℕ) (i j : ℕ) : Type 0 where
  member : bit t j ≡ 1
  codes : code q j ≡ code r i
  ends : Joins q j (f (end_a r i)) (f (end_b r i))

module _ (r q : Bytes) (s t : ℕ) (ar : check r ≡ accepted) (aq : check q ≡ accepted) (or : Own r s) (oq : Own q t) where
  -- ---- from lists to numbers

  module _ (w : Alike (fragment r s) (fragment q t)) where
    one_one : (u v : ℕ) → AtomOf r s u → AtomOf r s v → w.f u ≡ w.f v → u ≡ v
    one_one u v a b e = w.one_one u v (atom_has r s ar or a) (atom_has r s ar or b) e

    image : (i : ℕ) → bit s i ≡ 1 → (j : ℕ) × Image r q t w.f i j
    image i h =
        let m = (w.bonds (end_a r i) (end_b r i) (code r i) (atom_has r s ar or (i, h, inl refl)) (atom_has r s ar or (i, h, inr refl))).0 (arc_has r s i (end_a r i) (end_b r i) h (inl (refl, refl))) in
        let (j, k, p, c) = arc_in q t (arc (w.f (end_a r i)) (w.f (end_b r i)) (code r i)) m in
        (j, record { member = k; codes = c; ends = p })

    bond_by : (i : ℕ) → (bit s i ≡ 1) ⊎ (bit s i ≡ 0) → ℕ
    bond_by i (inl h) = (image i h).0
    bond_by i (inr h) = 0

    bond : ℕ → ℕ
    bond i = bond_by i (in_or_out s i)

    sent : (i : ℕ) → bit s i ≡ 1 → Image r q t w.f i (bond i)
    unfolding bond bond_by
    sent i h = go (in_or_out s i)
      where
        go : (d : (bit s i ≡ 1) ⊎ (bit s i ≡ 0)) → Image r q t w.f i (bond_by i d)
        go (inl k) = (image i k).1
        go (inr k) = absurd (omega arith)

    bond_onto : (j : ℕ) → bit t j ≡ 1 → (i : ℕ) × (bit s i ≡ 1) × (bond i ≡ j)
    bond_onto j h =
        let (u, mu, eu) = w.onto (end_a q j) (atom_has q t aq oq (j, h, inl refl)) in
        let (v, mv, ev) = w.onto (end_b q j) (atom_has q t aq oq (j, h, inr refl)) in
        let (i, k, p, c) = arc_in r s (arc u v (code q j)) ((w.bonds u v (code q j) mu mv).1 (arc_has q t j (w.f u) (w.f v) h (inl (sym eu, sym ev)))) in
        let z = sent i k in
        (i, k, (accepted_forest q aq).one (bond i) j (w.f u) (w.f v) (member_lt (bonds q) t (bond i) oq z.member) (member_lt (bonds q) t j oq h) (joins_map r q w.f i (bond i) u v p z.ends) (inl (sym eu, sym ev)))

    bond_one : (i j : ℕ) → bit s i ≡ 1 → bit s j ≡ 1 → bond i ≡ bond j → i ≡ j
    bond_one i j h k e =
        let a = sent i h in
        let b : Joins q (bond i) (w.f (end_a r j)) (w.f (end_b r j)) = rw e (sent j k).ends in
        let p = joins_paired q (bond i) (w.f (end_a r i)) (w.f (end_b r i)) (w.f (end_a r j)) (w.f (end_b r j)) a.ends b in
        let o = paired_back w.f (AtomOf r s) one_one (end_a r i) (end_b r i) (end_a r j) (end_b r j) (i, h, inl refl) (i, h, inr refl) (j, k, inl refl) (j, k, inr refl) p in
        (accepted_forest r ar).one i j (end_a r j) (end_b r j) (member_lt (bonds r) s i or h) (member_lt (bonds r) s j or k) (paired_joins r i (end_a r i) (end_b r i) (end_a r j) (end_b r j) o (inl (refl, refl))) (inl (refl, refl))

    from_lists : Isomorphism r s q t
    from_lists = record {
      atom = w.f;
      atom_into = λ v a. atom_in q t aq oq (w.into v (atom_has r s ar or a));
      atom_onto = λ v a. let (u, m, e) = w.onto v (atom_has q t aq oq a) in (u, atom_in r s ar or m, e);
      atom_one = one_one;
      bond = bond;
      bond_into = λ i h. (sent i h).member;
      bond_onto = bond_onto;
      bond_one = bond_one;
      elements = λ v a. own_element _ _ _ _ (w.kinds v (atom_has r s ar or a));
      classes = λ v a. own_class _ _ _ _ (w.kinds v (atom_has r s ar or a));
      codes = λ i h. (sent i h).codes;
      ends = λ i h. (sent i h).ends;
    }

  -- ---- from numbers to lists

  module _ (w : Isomorphism r s q t) where
    there : (u v c : ℕ) → Mem (arc u v c) (arcs (bonds_of r s)) → Mem (arc (w.atom u) (w.atom v) c) (arcs (bonds_of q t))
    there u v c m =
        let (i, h, p, e) = arc_in r s (arc u v c) m in
        rw (w.codes i h ∙ e) at (arc_has q t (w.bond i) (w.atom u) (w.atom v) (w.bond_into i h) (joins_map r q w.atom i (w.bond i) u v p (w.ends i h)))

    back : (u v c : ℕ) → AtomOf r s u → AtomOf r s v → Mem (arc (w.atom u) (w.atom v) c) (arcs (bonds_of q t)) → Mem (arc u v c) (arcs (bonds_of r s))
    back u v c a b m =
        let (j, h, p, e) = arc_in q t (arc (w.atom u) (w.atom v) c) m in
        let (i, k, g) = w.bond_onto j h in
        let o = joins_paired q (w.bond i) (w.atom (end_a r i)) (w.atom (end_b r i)) (w.atom u) (w.atom v) (w.ends i k) (rw g p) in
        let z = paired_back w.atom (AtomOf r s) w.atom_one (end_a r i) (end_b r i) u v (i, k, inl refl) (i, k, inr refl) a b o in
        rw (sym (w.codes i k) ∙ ap (code q) g ∙ e) at (arc_has r s i u v k (paired_joins r i (end_a r i) (end_b r i) u v z (inl (refl, refl))))

    to_lists : Alike (fragment r s) (fragment q t)
    to_lists = record {
      f = w.atom;
      into = λ v m. atom_has q t aq oq (w.atom_into v (atom_in r s ar or m));
      onto = λ v m. let (u, a, e) = w.atom_onto v (atom_in q t aq oq m) in (u, atom_has r s ar or a, e);
      one_one = λ u v m n. w.atom_one u v (atom_in r s ar or m) (atom_in r s ar or n);
      kinds = λ v m. own_equal _ _ _ _ (w.elements v (atom_in r s ar or m)) (w.classes v (atom_in r s ar or m));
      bonds = λ u v c m n. (there u v c, back u v c (atom_in r s ar or m) (atom_in r s ar or n));
    }

-- equal labels exactly where isomorphic
pub label_iff : (r q : Bytes) (s t : ℕ) → check r ≡ accepted → check q ≡ accepted → Own r s → Own q t → Connected r s → Connected q t → (label r s ≡ label q t) ↔ Isomorphism r s q t
unfolding label
label_iff r q s t ar aq or oq kr kq =
    let w = label_isomorphism (fragment r s) (fragment q t) (fragment_clean r s ar or kr) (fragment_clean q t aq oq kq) in
    (λ e. from_lists r q s t ar aq or oq (w.0 e), λ i. w.1 (to_lists r q s t ar aq or oq i))
