-- What upper crates use: connected sets of bonds of a tree molecule have equal labels exactly when an isomorphism joins them; sizes and
-- lengths; the label sees neither order nor direction; an isomorphism carries every part along; how a tree is built.
use mathlib.Core.Path.{◌≡◌, refl, sym, ap, ◌∙◌}
use mathlib.Core.Logic.{◌⊎◌, inl, inr}
use mathlib.Core.List.Memᴰ.{cast as mem_cast}
use mathlib.Core.List.Memᴰ.{head as m_head}
use mathlib.Core.List.Memᴰ.{map as mem_map}
use mathlib.Core.List.Memᴰ.{of_map as mem_of_map}
use mathlib.Core.List.Memᴰ.{tail as m_tail}
use mathlib.Core.List.Permᴰ.{cons as p_cons}
use mathlib.Core.List.Permᴰ.{nil as p_nil}
use mathlib.Core.List.Permᴰ.{swap as p_swap}
use mathlib.Core.List.Permᴰ.{symm as perm_sym}
use mathlib.Core.List.Permᴰ.{trans as p_trans}
use mathlib.Core.List.{List, [], ◌∷◌, ◌++◌, map, Memᴰ as Mem, Permᴰ as Perm}
use Prim.Native.Nat.{ℕ, ◌+◌, ◌*◌}
use native.Mathlib.Omega.{arith}
use lib.ListN.{length, length-map}
use Rattle.molecule.proofs.Perms.{perm_length, perm_mem, Distinct, distinct_perm, map_distinct}
use Rattle.canonize.specs.Fragment.{Bond, Frag, arcs}
use Rattle.canonize.proofs.RoseTrees.{Kids, nil, kid, RoseTree, bonds_in, bonds, own_in, own_bytes, code_length, two_code_length}
use Rattle.canonize.proofs.Pairing.{atoms, all_items, items_length}
use Rattle.canonize.proofs.Marks.{own_of}
use Rattle.canonize.proofs.Peeling.{arcs_length, on_bond, tree_label, Joined}
use Rattle.canonize.proofs.Rounds.{to_bond}
use Rattle.canonize.proofs.Hanging.{CodesOf, Clean, Holds, Result, one_centre, two_centres, attach, result, joined_of_label}

-- lengths
holds_bonds : (t : RoseTree) (a : Frag) → Holds t a → bonds t ≡ length a.bonds
holds_bonds t a h = omega (arith, items_length t.atom t.kids, perm_length h.bonds, arcs_length (map to_bond (all_items t)), arcs_length a.bonds, length-map (all_items t) to_bond)

own_append : (kind : ℕ → List ℕ) (k l : List ℕ) → own_of kind (k ++ l) ≡ own_of kind k + own_of kind l
unfolding own_of
own_append kind [] l = omega arith
own_append kind (n ∷ k) l = omega (arith, own_append kind k l)

own_perm : (kind : ℕ → List ℕ) {k l : List ℕ} → Perm k l → own_of kind k ≡ own_of kind l
unfolding own_of
own_perm kind p_nil = refl
own_perm kind (p_cons e d) = omega (arith, ap (λ (n : ℕ). length (kind n)) e, own_perm kind d)
own_perm kind (p_swap e g) = omega (arith, ap (λ (n : ℕ). length (kind n)) e, ap (λ (n : ℕ). length (kind n)) g)
own_perm kind (p_trans d g) = own_perm kind d ∙ own_perm kind g

own_kids : (kind : ℕ → List ℕ) (k : Kids) → CodesOf kind k → own_in k ≡ own_of kind (atoms k)
unfolding own_in own_of
own_kids kind nil f = refl
own_kids kind (kid b a e u r) f = omega (arith, ap length f.0, own_kids kind u f.3, own_kids kind r f.4, own_append kind (atoms u) (atoms r))

holds_own : (t : RoseTree) (a : Frag) → Holds t a → own_bytes t ≡ own_of a.kind a.atoms
unfolding own_of
holds_own t a h = omega (arith, ap length h.root, own_kids a.kind t.kids h.fits, own_perm a.kind h.atoms)

-- five bytes for each bond, those of the own strings, and two or four
abbrev pub HasLength : Frag → ℕ → Type 0
HasLength a n = (n ≡ 5 * length a.bonds + own_of a.kind a.atoms + 2) ⊎ (n ≡ 5 * length a.bonds + own_of a.kind a.atoms + 4)

pub label_length : (a : Frag) → Clean a → HasLength a (length (tree_label a))
unfolding bonds_in own_in
label_length a c = go (result a c)
  where
    go : Result a (tree_label a) → HasLength a (length (tree_label a))
    go (one_centre t h e) = inl (omega (arith, ap length e, code_length t, holds_bonds t a h, holds_own t a h))
    go (two_centres n x y f g h k e) = inr (omega (arith, ap length e, two_code_length n x y, holds_bonds (attach n x y) a h, holds_own (attach n x y) a h))

pub label_size : (a b : Frag) → Clean a → Clean b → tree_label a ≡ tree_label b → length a.bonds ≡ length b.bonds
label_size a b c d e =
    let j = joined_of_label a b c d e in
    omega (arith, perm_length j.bonds, length-map (arcs a.bonds) (on_bond j.f), arcs_length a.bonds, arcs_length b.bonds)

-- isomorphisms carry parts along: the atoms ms and bonds s of a, and their images in b, have one label
pub joined_arc : (a b : Frag) (j : Joined a b) (x : Bond) → Mem x (arcs a.bonds) → Mem (on_bond j.f x) (arcs b.bonds)
joined_arc a b j x m = perm_mem j.bonds (mem_map (on_bond j.f) m)

pub joined_arc_onto : (a b : Frag) (j : Joined a b) (y : Bond) → Mem y (arcs b.bonds) → (x : Bond) × Mem x (arcs a.bonds) × (on_bond j.f x ≡ y)
joined_arc_onto a b j y m = mem_of_map (on_bond j.f) (arcs a.bonds) (perm_mem (perm_sym j.bonds) m)

pub joined_injective : (a b : Frag) (j : Joined a b) → Distinct b.atoms → {m n : ℕ} → Mem m a.atoms → Mem n a.atoms → j.f m ≡ j.f n → m ≡ n
joined_injective a b j d p q e = map_distinct j.f (distinct_perm (perm_sym j.onto) d) p q e

pub distinct_image : {A B : Type 0} (f : A → B) (ms : List A) → ((m n : A) → Mem m ms → Mem n ms → f m ≡ f n → m ≡ n) → Distinct ms → Distinct (map f ms)
distinct_image f [] i d = tt
distinct_image f (m ∷ ms) i d =
    (λ k. let (n, l, e) = mem_of_map f ms k in d.0 (mem_cast (i m n (m_head refl) (m_tail l) (sym e)) l), distinct_image f ms (λ x y p q. i x y (m_tail p) (m_tail q)) d.1)
