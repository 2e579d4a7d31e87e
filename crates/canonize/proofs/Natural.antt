-- The label of a fragment whose atoms all have class 1 is that of their element codes alone; and of a record with class bytes 1 put in, it is that of the
-- record without them. Assumes nothing.
use mathlib.Core.Path.{◌≡◌, sym, ap, ap₂, ◌∙◌}
use mathlib.Core.List.{[], ◌∷◌, map, Memᴰ as Mem}
use Prim.Native.Nat.{ℕ, ◌<◌}
use native.Mathlib.Omega.{arith}
use Rattle.std.proofs.lemmas.List.{map-id}
use Rattle.bitset.specs.Bits.{members}
use Rattle.molecule.specs.Lists.{Bytes, numbers_from}
use Rattle.molecule.specs.Record.{atoms, element, class}
use Rattle.molecule.specs.Check.{accepted, check}
use Rattle.molecule.specs.Connected.{Own, Connected}
use Rattle.molecule.specs.Unmarked.{HasUnmarkedLength, natural}
use Rattle.molecule.proofs.Lists.{numbers_bounds}
use Rattle.molecule.proofs.Natural.{natural_atoms, natural_bonds, natural_element, natural_class, natural_end_a, natural_end_b, natural_code}
use Rattle.molecule.proofs.Perms.{perm_eq}
use Rattle.canonize.specs.Fragment.{Bond, Frag, touched_by, label_of}
use Rattle.canonize.specs.Label.{bond_of, bonds_of, fragment, label}
use Rattle.canonize.specs.Isomorphism.{AtomOf}
use Rattle.canonize.specs.Unmarked.{with_kind, element_string, unmarked_bond, unmarked_label, ReadsUnmarked}
use Rattle.canonize.proofs.Peeling.{FormedFrag, label_of_joined}
use Rattle.canonize.proofs.Hanging.{Clean, clean_formed}
use Rattle.canonize.proofs.OnStrings.{label_document}
use Rattle.canonize.proofs.Choose.{touched_in}
use Rattle.canonize.proofs.Marks.{own_natural}
use Rattle.canonize.proofs.Fragments.{atom_in, fragment_clean}

-- own strings matter at the fragment's atoms alone
pub label_by_kind : (a : Frag) (kind : ℕ → Bytes) → Clean a → ((n : ℕ) → Mem n a.atoms → kind n ≡ a.kind n) → label_of a ≡ label_of (with_kind a kind)
label_by_kind a kind c h =
    let f : FormedFrag a = clean_formed a c in
    let g : FormedFrag (with_kind a kind) = record { distinct = f.distinct; ends = f.ends } in
    sym (label_document a)
    ∙ label_of_joined a (with_kind a kind) f g (record { f = λ n. n; onto = perm_eq (map-id a.atoms); kinds = h; bonds = perm_eq (map-id _) })
    ∙ label_document (with_kind a kind)

-- a fragment whose atoms all have class 1
pub label_by_elements : (r : Bytes) (s : ℕ) → check r ≡ accepted → Own r s → Connected r s → ((v : ℕ) → AtomOf r s v → class r v ≡ 1)
    → label r s ≡ label_of (with_kind (fragment r s) (element_string r))
unfolding label
label_by_elements r s ok o k h =
    label_by_kind (fragment r s) (element_string r) (fragment_clean r s ok o k) (λ v m. sym (own_natural (element r v) (class r v) (h v (atom_in r s ok o m))))

-- a record with class bytes 1 put in
module _ (q : Bytes) (s : ℕ) (right : HasUnmarkedLength q) (ok : check (natural q) ≡ accepted) (o : Own (natural q) s) (k : Connected (natural q) s) where
  same_bond : (i : ℕ) → bond_of (natural q) i ≡ unmarked_bond q i
  same_bond i = λ t. record { u = natural_end_a q right i t; v = natural_end_b q right i t; code = natural_code q right i t }

  in_range : (v : ℕ) → Mem v (fragment (natural q) s).atoms → v < atoms q
  in_range v m =
      let h = numbers_bounds (atoms (natural q)) 0 (touched_in (bonds_of (natural q) s) (numbers_from 0 (atoms (natural q))) m).0 in
      omega (arith, natural_atoms q right)

  same_kind : (v : ℕ) → Mem v (fragment (natural q) s).atoms → element_string q v ≡ (fragment (natural q) s).kind v
  same_kind v m =
      let h : v < atoms q = in_range v m in
      ap (λ (x : ℕ). x ∷ []) (sym (natural_element q right v h)) ∙ sym (own_natural (element (natural q) v) (class (natural q) v) (natural_class q right v h))

  pub natural_label : label (natural q) s ≡ unmarked_label q s
  unfolding label unmarked_label
  natural_label =
      label_by_kind (fragment (natural q) s) (element_string q) (fragment_clean (natural q) s ok o k) same_kind
      ∙ ap₂ (λ (bond : ℕ → Bond) (a : ℕ). label_of (record { atoms = touched_by (map bond (members s)) (numbers_from 0 a); bonds = map bond (members s); kind = element_string q }))
      (λ t i. same_bond i t) (natural_atoms q right)

-- and it reads as that record does
pub natural_reads : (q : Bytes) → HasUnmarkedLength q → check (natural q) ≡ accepted → ReadsUnmarked (natural q) q
natural_reads q right ok = record {
  count = natural_bonds q right;
  first_ends = λ i l. natural_end_a q right i;
  second_ends = λ i l. natural_end_b q right i;
  labels = λ s o k. natural_label q s right ok o k;
}
