-- The fragment of a set of bonds of a record: its bonds, arcs and atoms by the set's members; of a connected set of an accepted record it is a clean tree. Assumes nothing.
use mathlib.Core.Path.{◌≡◌, refl, ap, ◌∙◌}
use mathlib.Core.Logic.{◌⊎◌, inl, inr}
use mathlib.Core.Bool.{Bool, true, false, not}
use mathlib.Core.List.Memᴰ.{map as mem_map}
use mathlib.Core.List.Memᴰ.{of_map as mem_of_map}
use mathlib.Core.List.{List, [], ◌∷◌, map, Memᴰ as Mem}
use Prim.Native.Nat.{ℕ, ◌<◌}
use native.Mathlib.Omega.{arith}
use lib.Dec.{eqb}
use lib.ListN.{length, length-map}
use Rattle.bitset.specs.Bits.{bit, size, members, Ascending}
use Rattle.bitset.proofs.Bools.{two}
use Rattle.bitset.proofs.Laws.{member_lt, members_size, members_ascend}
use Rattle.bitset.proofs.Members.{members_bit, bit_members}
use Rattle.molecule.specs.Lists.{Bytes, numbers_from}
use Rattle.molecule.specs.Record.{atoms, bonds, element, class, end_a, end_b, code}
use Rattle.molecule.specs.Check.{accepted, check}
use Rattle.molecule.specs.Connected.{Own, Connected}
use Rattle.molecule.specs.Tree.{Joins, Walk, stay, along, Forest}
use Rattle.molecule.proofs.Lists.{numbers_mem}
use Rattle.molecule.proofs.Perms.{Distinct, not_both, perm_length, keep_distinct, numbers_distinct}
use Rattle.molecule.proofs.Components.{own_all}
use Rattle.molecule.proofs.Accepted.{accepted_forest}
use Rattle.molecule.proofs.Fragmented.{link_walk, touched, touched_in, touched_has, connected_count}
use Rattle.canonize.specs.Fragment.{Bond, arcs, degree, turn}
use Rattle.canonize.specs.Label.{bond_of, bonds_of, fragment}
use Rattle.canonize.specs.Isomorphism.{AtomOf}
use Rattle.canonize.proofs.Rounds.{arcs_mem, arcs_turn}
use Rattle.canonize.proofs.Hanging.{Clean}
use Rattle.canonize.proofs.Marks.{own_small}
use Rattle.canonize.proofs.Parts.{arc_bond}
use Rattle.canonize.proofs.Choose.{touched_has as list_has, touched_in as list_in}
use Rattle.canonize.proofs.Plain.{arc, distinct_same}

-- members are different
ascending_distinct : (l : List ℕ) → Ascending l → Distinct l
ascending_distinct [] a = tt
ascending_distinct (x ∷ l) a = (λ m. omega (arith, a.0 x m), ascending_distinct l a.1)

-- ---- the bonds of a set, and their arcs: an arc joins what its bond joins

module _ (r : Bytes) where
  arc_by : (l : List ℕ) (i u v : ℕ) → Mem i l → Joins r i u v → Mem (arc u v (code r i)) (arcs (map (bond_of r) l))
  arc_by l i u v m (inl e) = rw (← e.0, ← e.1) (arcs_mem (map (bond_of r) l) (mem_map (bond_of r) m))
  arc_by l i u v m (inr e) = rw (← e.0, ← e.1) (arcs_turn (map (bond_of r) l) (arcs_mem (map (bond_of r) l) (mem_map (bond_of r) m)))

  module _ (s : ℕ) where
    pub fragment_bonds : length (fragment r s).bonds ≡ size s
    fragment_bonds = length-map (members s) (bond_of r) ∙ members_size s 0

    pub arc_has : (i u v : ℕ) → bit s i ≡ 1 → Joins r i u v → Mem (arc u v (code r i)) (arcs (bonds_of r s))
    arc_has i u v h j = arc_by (members s) i u v (bit_members s _ h) j

    pub arc_in : (x : Bond) → Mem x (arcs (bonds_of r s)) → (i : ℕ) × (bit s i ≡ 1) × Joins r i x.u x.v × (code r i ≡ x.code)
    arc_in x m = go (arc_bond (bonds_of r s) m)
      where
        go : Mem x (bonds_of r s) ⊎ Mem (turn x) (bonds_of r s) → (i : ℕ) × (bit s i ≡ 1) × Joins r i x.u x.v × (code r i ≡ x.code)
        go (inl n) = let (i, k, e) = mem_of_map (bond_of r) (members s) n in (i, members_bit s _ k, inl (ap (λ (b : Bond). b.u) e, ap (λ (b : Bond). b.v) e), ap (λ (b : Bond). b.code) e)
        go (inr n) = let (i, k, e) = mem_of_map (bond_of r) (members s) n in (i, members_bit s _ k, inr (ap (λ (b : Bond). b.u) e, ap (λ (b : Bond). b.v) e), ap (λ (b : Bond). b.code) e)

-- ---- a connected set of bonds of an accepted record

module _ (r : Bytes) (s : ℕ) (e : check r ≡ accepted) (o : Own r s) where
  forest : Forest r
  forest = accepted_forest r e

  set_lt : (i : ℕ) → bit s i ≡ 1 → i < bonds r
  set_lt i b = member_lt (bonds r) s i o b

  atom_lt : (v : ℕ) → AtomOf r s v → v < atoms r
  atom_lt v (i, b, w) = go w
    where
      go : (end_a r i ≡ v) ⊎ (end_b r i ≡ v) → v < atoms r
      go (inl q) = let h = forest.formed.ends i (set_lt i b) in omega (arith, h.0)
      go (inr q) = let h = forest.formed.ends i (set_lt i b) in omega (arith, h.1)

  -- the atoms of the fragment are those of the set
  pub atom_in : {v : ℕ} → Mem v (fragment r s).atoms → AtomOf r s v
  atom_in {v} m = let (x, k, h) = (list_in (bonds_of r s) (numbers_from 0 (atoms r)) m).1 in go x h (arc_in r s x k)
    where
      go : (x : Bond) → x.v ≡ v → (i : ℕ) × (bit s i ≡ 1) × Joins r i x.u x.v × (code r i ≡ x.code) → AtomOf r s v
      go x h (i, b, inl j, c) = (i, b, inr (j.1 ∙ h))
      go x h (i, b, inr j, c) = (i, b, inl (j.0 ∙ h))

  pub atom_has : {v : ℕ} → AtomOf r s v → Mem v (fragment r s).atoms
  atom_has {v} (i, b, w) = go w
    where
      in_list : Mem v (numbers_from 0 (atoms r))
      in_list = numbers_mem (atoms r) 0 v (omega arith) (omega (arith, atom_lt v (i, b, w)))

      go : (end_a r i ≡ v) ⊎ (end_b r i ≡ v) → Mem v (fragment r s).atoms
      go (inl q) = list_has (bonds_of r s) (numbers_from 0 (atoms r)) in_list (arc (end_b r i) (end_a r i) (code r i)) (arc_has r s i (end_b r i) (end_a r i) b (inr (refl, refl))) q
      go (inr q) = list_has (bonds_of r s) (numbers_from 0 (atoms r)) in_list (arc (end_a r i) (end_b r i) (code r i)) (arc_has r s i (end_a r i) (end_b r i) b (inl (refl, refl))) q

  -- the ends of an arc are atoms of the set
  arc_atoms : (x : Bond) → Mem x (arcs (bonds_of r s)) → AtomOf r s x.u × AtomOf r s x.v
  arc_atoms x m = go (arc_in r s x m)
    where
      go : (i : ℕ) × (bit s i ≡ 1) × Joins r i x.u x.v × (code r i ≡ x.code) → AtomOf r s x.u × AtomOf r s x.v
      go (i, b, inl j, c) = ((i, b, inl j.0), (i, b, inr j.1))
      go (i, b, inr j, c) = ((i, b, inr j.1), (i, b, inl j.0))

  atoms_distinct : Distinct (fragment r s).atoms
  atoms_distinct = keep_distinct (λ (n : ℕ). not (eqb (degree (arcs (bonds_of r s)) n) 0)) (numbers_from 0 (atoms r)) (numbers_distinct (atoms r) 0)

  -- as many as the set of them has members
  atom_count : length (fragment r s).atoms ≡ size (touched r s)
  atom_count =
      perm_length (distinct_same (fragment r s).atoms (members (touched r s)) atoms_distinct (ascending_distinct (members (touched r s)) (members_ascend (touched r s) 0))
      (λ v m. let a = atom_in m in bit_members (touched r s) v (touched_has r s v a.0 (atom_lt v a) (set_lt a.0 a.1) a.1 a.2))
      (λ v m. atom_has (touched_in r s v (members_bit (touched r s) v m))))
      ∙ members_size (touched r s) 0

  -- a walk from inside S to outside has a bond that leaves S
  leaves : (S : ℕ → Bool) {p q : ℕ} → Walk r s p q → S p ≡ true → S q ≡ false → (x : Bond) × Mem x (arcs (bonds_of r s)) × (S x.u ≡ true) × (S x.v ≡ false)
  leaves S stay g h = absurd (not_both g h)
  leaves S (along {v = v} {w = w} i p b j) g h = go (two (S v)) (λ z. leaves S p g z)
    where
      go : (S v ≡ true) ⊎ (S v ≡ false) → (S v ≡ false → (x : Bond) × Mem x (arcs (bonds_of r s)) × (S x.u ≡ true) × (S x.v ≡ false)) → (x : Bond) × Mem x (arcs (bonds_of r s)) × (S x.u ≡ true) × (S x.v ≡ false)
      go (inl z) f = (arc v w (code r i), arc_has r s i v w b j, z, h)
      go (inr z) f = f z

  -- it is a clean tree
  pub fragment_clean : Connected r s → Clean (fragment r s)
  fragment_clean k = record {
    tree = record {
      distinct = atoms_distinct;
      ends = λ x m. let w = arc_atoms x m in (atom_has w.0, atom_has w.1);
      count = omega (arith, atom_count, connected_count r forest s (own_all r s o) k, fragment_bonds r s);
      linked = λ S p q i j g h.
          let a = atom_in i in
          let b = atom_in j in
          leaves S (link_walk r (k.linked a.0 b.0 a.1 b.1) p q a.2 b.2) g h;
    };
    kinds = λ v m. let l = atom_lt v (atom_in m) in own_small (element r v) (class r v) (forest.elements v l) (forest.classes v l);
    codes = λ x m.
        let (i, b, j, c) = arc_in r s x m in
        let h = forest.codes i (set_lt i b) in
        omega (arith, h.0, h.1);
  }
