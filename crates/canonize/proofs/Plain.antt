-- The isomorphism in the words of graph theory: a map of atoms, one to one and onto, that keeps elements, with p and q bonded by code c
-- exactly when their images are. On clean fragments it is the same as Joined.
use Rattle.bitset.proofs.Bools.{two, or_true, or_right}
use borrow.Author.Tests.{eqb-true}
use mathlib.Core.Path.{◌≡◌, refl, sym, ap, ap₂, ◌∙◌}
use mathlib.Core.Logic.{◌⊎◌, inl, inr, ◌↔◌}
use mathlib.Core.Bool.{Bool, true, false, ◌||◌}
use mathlib.Core.List.Memᴰ.{cast as mem_cast}
use mathlib.Core.List.Memᴰ.{head as m_head}
use mathlib.Core.List.Memᴰ.{map as mem_map}
use mathlib.Core.List.Memᴰ.{of_map as mem_of_map}
use mathlib.Core.List.Memᴰ.{tail as m_tail}
use mathlib.Core.List.Permᴰ.{cons as p_cons}
use mathlib.Core.List.Permᴰ.{nil as p_nil}
use mathlib.Core.List.Permᴰ.{symm as perm_sym}
use mathlib.Core.List.Permᴰ.{trans as p_trans}
use mathlib.Core.List.{List, [], ◌∷◌, map, Memᴰ as Mem, Permᴰ as Perm}
use Prim.Native.Nat.{ℕ, ◌+◌, ◌≤◌}
use native.Mathlib.Omega.{arith}
use lib.ListN.{length}
use lib.Dec.{eqb}
use Rattle.molecule.proofs.Perms.{perm_mem, out_perm, mem_out, mem_some, Distinct, distinct_perm, keep_mem, keep_intro, keep_distinct, eqb_yes, distinct_le}
use Rattle.canonize.specs.Fragment.{Bond, Frag, arcs, label_of, turn}
use Rattle.molecule.specs.Lists.{filter}
use Rattle.canonize.proofs.Peeling.{on_bond, both, Joined}
use Rattle.canonize.proofs.Rounds.{Treelike, arcs_turn}
use Rattle.canonize.proofs.Hanging.{Clean, label_iff}
use Rattle.canonize.proofs.Parts.{inside, inside_bound, arc_bond}
use Rattle.canonize.proofs.Facts.{distinct_image, joined_arc, joined_arc_onto, joined_injective}
use Rattle.canonize.proofs.OnStrings.{label_document}

-- two lists without repetition and with the same members
pub distinct_same : {A : Type 0} (k l : List A) → Distinct k → Distinct l → ((x : A) → Mem x k → Mem x l) → ((x : A) → Mem x l → Mem x k) → Perm k l
distinct_same [] [] d e f g = p_nil
distinct_same [] (y ∷ l) d e f g = elim (g y (m_head refl)) [ ]
distinct_same {A} (x ∷ k) l d e f g =
    let (r, o) = mem_out l (f x (m_head refl)) in
    let p : Perm (x ∷ r) l = out_perm o in
    let h : Distinct (x ∷ r) = distinct_perm (perm_sym p) e in
    p_trans (p_cons refl (distinct_same k r d.1 h.1 (λ y m. skip d.0 m (perm_mem (perm_sym p) (f y (m_tail m)))) (λ y m. skip h.0 m (g y (perm_mem p (m_tail m)))))) p
  where
    skip : {y : A} {s t : List A} → (Mem x s → ⊥) → Mem y s → Mem y (x ∷ t) → Mem y t
    skip n m (m_head q) = absurd (n (mem_cast (sym q) m))
    skip n m (m_tail q) = q

-- no set of atoms holds as many bonds as it has atoms
abbrev Sparse : List ℕ → List Bond → Type 0
Sparse ns bs = (A : ℕ → Bool) (p : ℕ) → Mem p ns → A p ≡ true → length (filter (inside A) bs) + 1 ≤ length (filter A ns)

tree_sparse : (ns : List ℕ) (bs : List Bond) → Treelike ns bs → Sparse ns bs
tree_sparse ns bs t A p m h = omega (arith, inside_bound ns bs t.distinct t.ends t.linked A p m h, t.count)

sparse_tail : (ns : List ℕ) (b : Bond) (bs : List Bond) → Sparse ns (b ∷ bs) → Sparse ns bs
sparse_tail ns b bs s A p m h = omega (arith, s A p m h, wider (two (inside A b)))
  where
    wider : (inside A b ≡ true) ⊎ (inside A b ≡ false) → length (filter (inside A) bs) ≤ length (filter (inside A) (b ∷ bs))
    wider (inl e) = rw e (omega arith)
    wider (inr e) = rw e (omega arith)

no_loop : (ns : List ℕ) (b : Bond) (bs : List Bond) → Distinct ns → Sparse ns (b ∷ bs) → Mem b.u ns → b.u ≡ b.v → ⊥
no_loop ns b bs d s m e =
    let A : ℕ → Bool = λ n. eqb n b.u in
    let h : inside A b ≡ true = ap₂ both (eqb_yes {a = b.u} refl) (eqb_yes (sym e)) in
    let few : length (filter A ns) ≤ 1 = distinct_le (filter A ns) (b.u ∷ []) (keep_distinct A ns d) (λ y k. m_head (eqb-true y b.u (keep_mem A ns k).1)) in
    let one : 1 ≤ length (filter (inside A) (b ∷ bs)) = rw h (omega arith) in
    omega (arith, s A b.u m (eqb_yes {a = b.u} refl))

no_parallel : (ns : List ℕ) (b : Bond) (bs : List Bond) → Distinct ns → Sparse ns (b ∷ bs) → Mem b.u ns → Mem b bs ⊎ Mem (turn b) bs → ⊥
no_parallel ns b bs d s m w =
    let A : ℕ → Bool = λ n. eqb n b.u || eqb n b.v in
    let at_u : A b.u ≡ true = ap (λ (z : Bool). z || eqb b.u b.v) (eqb_yes {a = b.u} refl) in
    let at_v : A b.v ≡ true = or_right (eqb b.v b.u) (eqb b.v b.v) (eqb_yes {a = b.v} refl) in
    let h : inside A b ≡ true = ap₂ both at_u at_v in
    let i : inside A (turn b) ≡ true = ap₂ both at_v at_u in
    let few : length (filter A ns) ≤ 2 = distinct_le (filter A ns) (b.u ∷ b.v ∷ []) (keep_distinct A ns d) (λ z k. in_two z (or_true (eqb z b.u) (eqb z b.v) (keep_mem A ns k).1)) in
    let one : 1 ≤ length (filter (inside A) bs) = some A h i w in
    let two : 2 ≤ length (filter (inside A) (b ∷ bs)) = rw h (omega arith) in
    omega (arith, s A b.u m at_u)
  where
    in_two : (z : ℕ) → (eqb z b.u ≡ true) ⊎ (eqb z b.v ≡ true) → Mem z (b.u ∷ b.v ∷ [])
    in_two z (inl q) = m_head (eqb-true z b.u q)
    in_two z (inr q) = m_tail (m_head (eqb-true z b.v q))

    some : (A : ℕ → Bool) → inside A b ≡ true → inside A (turn b) ≡ true → Mem b bs ⊎ Mem (turn b) bs → 1 ≤ length (filter (inside A) bs)
    some A h i (inl k) = mem_some (filter (inside A) bs) (keep_intro (inside A) bs k h)
    some A h i (inr k) = mem_some (filter (inside A) bs) (keep_intro (inside A) bs k i)

-- the arcs of a tree are different
arcs_distinct : (ns : List ℕ) (bs : List Bond) → Distinct ns → Sparse ns bs → ((x : Bond) → Mem x (arcs bs) → Mem x.u ns) → Distinct (arcs bs)
arcs_distinct ns [] d s e = tt
arcs_distinct ns (b ∷ bs) d s e =
    (first_one, ((λ m. no_parallel ns b bs d s (e b (m_head refl)) (arc_bond bs (arcs_turn bs m))), arcs_distinct ns bs d (sparse_tail ns b bs s) (λ x m. e x (m_tail (m_tail m)))))
  where
    first_one : Mem b (turn b ∷ arcs bs) → ⊥
    first_one (m_head q) = no_loop ns b bs d s (e b (m_head refl)) (ap (λ (z : Bond). z.u) q)
    first_one (m_tail m) = no_parallel ns b bs d s (e b (m_head refl)) (arc_bond bs m)

pub tree_arcs : (ns : List ℕ) (bs : List Bond) → Treelike ns bs → Distinct (arcs bs)
tree_arcs ns bs t = arcs_distinct ns bs t.distinct (tree_sparse ns bs t) (λ x m. (t.ends x m).0)

abbrev pub arc : ℕ → ℕ → ℕ → Bond
arc p q c = record { u = p; v = q; code = c }

pub record Isomorphism (a b : Frag) : Type 0 where
  pub f : ℕ → ℕ
  pub into : (n : ℕ) → Mem n a.atoms → Mem (f n) b.atoms
  pub onto : (m : ℕ) → Mem m b.atoms → (n : ℕ) × Mem n a.atoms × (f n ≡ m)
  pub one_one : (m n : ℕ) → Mem m a.atoms → Mem n a.atoms → f m ≡ f n → m ≡ n
  pub kinds : (n : ℕ) → Mem n a.atoms → b.kind (f n) ≡ a.kind n
  pub bonds : (p q c : ℕ) → Mem p a.atoms → Mem q a.atoms → Mem (arc p q c) (arcs a.bonds) ↔ Mem (arc (f p) (f q) c) (arcs b.bonds)

bond_path : (x y : Bond) → x.u ≡ y.u → x.v ≡ y.v → x.code ≡ y.code → x ≡ y
bond_path x y p q r = λ i. record { u = p i; v = q i; code = r i }

pub isomorphism_of_joined : (a b : Frag) → Clean a → Clean b → Joined a b → Isomorphism a b
isomorphism_of_joined a b k l j = record {
  f = j.f;
  into = λ n m. perm_mem j.onto (mem_map j.f m);
  onto = λ m i. mem_of_map j.f a.atoms (perm_mem (perm_sym j.onto) i);
  one_one = λ m n p q. joined_injective a b j l.tree.distinct p q;
  kinds = j.kinds;
  bonds = λ p q c i h. (λ m. joined_arc a b j (arc p q c) m, back p q c i h);
}
  where
    back : (p q c : ℕ) → Mem p a.atoms → Mem q a.atoms → Mem (arc (j.f p) (j.f q) c) (arcs b.bonds) → Mem (arc p q c) (arcs a.bonds)
    back p q c i h m =
        let (x, o, e) = joined_arc_onto a b j (arc (j.f p) (j.f q) c) m in
        let g = k.tree.ends x o in
        mem_cast (bond_path (arc p q c) x (joined_injective a b j l.tree.distinct i g.0 (sym (ap (λ (z : Bond). z.u) e))) (joined_injective a b j l.tree.distinct h g.1 (sym (ap (λ (z : Bond). z.v) e))) (sym (ap (λ (z : Bond). z.code) e))) o

pub joined_of_isomorphism : (a b : Frag) → Clean a → Clean b → Isomorphism a b → Joined a b
joined_of_isomorphism a b k l i = record {
  f = i.f;
  onto = distinct_same (map i.f a.atoms) b.atoms (distinct_image i.f a.atoms i.one_one k.tree.distinct) l.tree.distinct down up;
  kinds = i.kinds;
  bonds = distinct_same (map (on_bond i.f) (arcs a.bonds)) (arcs b.bonds) (distinct_image (on_bond i.f) (arcs a.bonds) same (tree_arcs a.atoms a.bonds k.tree)) (tree_arcs b.atoms b.bonds l.tree) arc_down arc_up;
}
  where
    down : (m : ℕ) → Mem m (map i.f a.atoms) → Mem m b.atoms
    down m h = let (n, o, e) = mem_of_map i.f a.atoms h in mem_cast (sym e) (i.into n o)

    up : (m : ℕ) → Mem m b.atoms → Mem m (map i.f a.atoms)
    up m h = let (n, o, e) = i.onto m h in mem_cast (sym e) (mem_map i.f o)

    same : (x y : Bond) → Mem x (arcs a.bonds) → Mem y (arcs a.bonds) → on_bond i.f x ≡ on_bond i.f y → x ≡ y
    same x y p q e =
        let g = k.tree.ends x p in
        let h = k.tree.ends y q in
        bond_path x y (i.one_one x.u y.u g.0 h.0 (ap (λ (z : Bond). z.u) e)) (i.one_one x.v y.v g.1 h.1 (ap (λ (z : Bond). z.v) e)) (ap (λ (z : Bond). z.code) e)

    arc_down : (y : Bond) → Mem y (map (on_bond i.f) (arcs a.bonds)) → Mem y (arcs b.bonds)
    arc_down y h =
        let (x, o, e) = mem_of_map (on_bond i.f) (arcs a.bonds) h in
        let g = k.tree.ends x o in
        mem_cast (sym e) ((i.bonds x.u x.v x.code g.0 g.1).0 o)

    arc_up : (y : Bond) → Mem y (arcs b.bonds) → Mem y (map (on_bond i.f) (arcs a.bonds))
    arc_up y h =
        let g = l.tree.ends y h in
        let (p, m, e) = i.onto y.u g.0 in
        let (q, n, d) = i.onto y.v g.1 in
        let path : arc (i.f p) (i.f q) y.code ≡ y = bond_path (arc (i.f p) (i.f q) y.code) y e d refl in
        mem_cast (sym path) (mem_map (on_bond i.f) ((i.bonds p q y.code m n).1 (mem_cast path h)))

-- equal labels exactly when the fragments are isomorphic
pub label_isomorphism : (a b : Frag) → Clean a → Clean b → (label_of a ≡ label_of b) ↔ Isomorphism a b
label_isomorphism a b k l =
    (λ e. isomorphism_of_joined a b k l ((label_iff a b k l).0 (label_document a ∙ e ∙ sym (label_document b))), λ i. sym (label_document a) ∙ (label_iff a b k l).1 (joined_of_isomorphism a b k l i) ∙ label_document b)
