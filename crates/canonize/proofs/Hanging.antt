-- Two fragments that are trees have equal labels exactly when an isomorphism joins them.
use Rattle.bitset.proofs.Bools.{two}
use borrow.Author.Tests.{eqb-false, eqb-true}
use mathlib.Core.Path.{◌≡◌, refl, sym, ap, ap₂, subst, ◌∙◌}
use mathlib.Core.Logic.{◌⊎◌, inl, inr, ◌↔◌}
use mathlib.Core.Bool.{Bool, true, false, not}
use mathlib.Core.List.Memᴰ.{append_cases as mem_cases}
use mathlib.Core.List.Memᴰ.{append_left as mem_left}
use mathlib.Core.List.Memᴰ.{head as m_head}
use mathlib.Core.List.Memᴰ.{map as mem_map}
use mathlib.Core.List.Memᴰ.{of_map as mem_of_map}
use mathlib.Core.List.Memᴰ.{tail as m_tail}
use mathlib.Core.List.Permᴰ.{append_left as perm_left}
use mathlib.Core.List.Permᴰ.{append_right as perm_right}
use mathlib.Core.List.Permᴰ.{cons as p_cons}
use mathlib.Core.List.Permᴰ.{nil as p_nil}
use mathlib.Core.List.Permᴰ.{swap as p_swap}
use mathlib.Core.List.Permᴰ.{symm as perm_sym}
use mathlib.Core.List.Permᴰ.{trans as p_trans}
use mathlib.Core.List.{List, [], ◌∷◌, ◌++◌, map, append_assoc, append-nil, Memᴰ as Mem, Permᴰ as Perm}
use Prim.Native.Nat.{ℕ, zero, suc, ◌≤◌}
use native.Mathlib.Omega.{arith}
use lib.ListN.{length}
use lib.Dec.{eqb}
use Rattle.molecule.proofs.Perms.{not_both, perm_append, perm_exchange, perm_eq, perm_mem, Distinct, distinct_perm, perm_map, map-append, keep_mem, keep_split, eqb_yes, eqb_no}
use Rattle.canonize.specs.Fragment.{Bond, Frag, arcs, end_atom, more, to_ends, turn}
use Rattle.molecule.specs.Lists.{filter}
use Rattle.canonize.proofs.RoseTrees.{Kids, nil, kid, RoseTree, code, two_code, Code, SmallString, GoodKids, Good, pair, here, ◌≈◌, shape_of_code, shape_of_two, one_not_two}
use Rattle.canonize.proofs.Pairing.{Item, items, on_item, all_items, all_atoms, items_atoms, Iso, iso_of_shape, iso_atoms}
use Rattle.canonize.proofs.Sums.{flat, flat_perm}
use Rattle.canonize.proofs.Peeling.{on_bond, both, TreePeel, gather, tree_round, tree_peel, settle_more, settle_stop, tree_at, tree_two, tree_last, tree_start, tree_label, Joined, FormedFrag, label_of_joined}
use Rattle.canonize.proofs.Rounds.{Treelike, stay, going, below, to_item, to_bond, arcs_perm, arcs_append, arcs_cut, arcs_mem, ends_apart, ends_going, round_shorter, round_tree, round_items}

-- the own strings are those of the atoms, and no code is 0 or 255
abbrev pub CodesOf : (ℕ → List ℕ) → Kids → Type 0
CodesOf kind nil = Unit {0}
CodesOf kind (kid b a e u r) = (e ≡ kind a) × Code b × SmallString e × CodesOf kind u × CodesOf kind r

pub fits_good : (kind : ℕ → List ℕ) (k : Kids) → CodesOf kind k → GoodKids k
fits_good kind nil f = tt
fits_good kind (kid b a e u r) f = (f.1, f.2, fits_good kind u f.3, fits_good kind r f.4)

fits_item : (kind : ℕ → List ℕ) (p : ℕ) (k : Kids) {i : Item} → CodesOf kind k → Mem i (items p k) → i.kind ≡ kind i.atom
fits_item kind p nil {i = i} f x'' = elim x'' [ ]
fits_item kind p (kid b a e u r) f (m_head h) = ap (λ (j : Item). j.kind) h ∙ f.0 ∙ ap kind (sym (ap (λ (j : Item). j.atom) h))
fits_item kind p (kid b a e u r) {i} f (m_tail m) = go (mem_cases (items a u) m) (λ n. fits_item kind a u f.3 n) (λ n. fits_item kind p r f.4 n)
  where
    go : Mem i (items a u) ⊎ Mem i (items p r) → (Mem i (items a u) → i.kind ≡ kind i.atom) → (Mem i (items p r) → i.kind ≡ kind i.atom) → i.kind ≡ kind i.atom
    go (inl n) g h = g n
    go (inr n) g h = h n

gather_fits : (kind : ℕ → List ℕ) (T : ℕ → Kids) (xs : List Bond) (k : Kids) → ((n : ℕ) → CodesOf kind (T n)) → ((x : Bond) → Mem x xs → Code x.code × SmallString (kind x.v)) → CodesOf kind k → CodesOf kind (gather kind T xs k)
gather_fits kind T [] k f g h = h
gather_fits kind T (x ∷ xs) k f g h = let c = g x (m_head refl) in (refl, c.0, c.1, f x.v, gather_fits kind T xs k f (λ y m. g y (m_tail m)) h)

-- a fragment that is a tree, with own strings as they must be and bond codes that are neither 0 nor 255
pub record Clean (a : Frag) : Type 0 where
  pub tree : Treelike a.atoms a.bonds
  pub kinds : (n : ℕ) → Mem n a.atoms → SmallString (a.kind n)
  pub codes : (x : Bond) → Mem x (arcs a.bonds) → Code x.code

pub clean_formed : (a : Frag) → Clean a → FormedFrag a
clean_formed a c = record { distinct = c.tree.distinct; ends = c.tree.ends }

-- a rose tree holds a fragment: the same atoms, and each bond exactly once, between a parent and a child
pub record Holds (t : RoseTree) (a : Frag) : Type 0 where
  pub good : Good t
  pub root : t.kind ≡ a.kind t.atom
  pub fits : CodesOf a.kind t.kids
  pub atoms : Perm (all_atoms t) a.atoms
  pub bonds : Perm (arcs (map to_bond (all_items t))) (arcs a.bonds)

-- the same of the trees that hang under the atoms between rounds
pub record Hanging (a : Frag) (d : TreePeel) : Type 0 where
  pub tree : Treelike d.present d.left
  pub atoms : Perm (d.present ++ map (λ (i : Item). i.atom) (flat (below d.under) d.present)) a.atoms
  pub bonds : Perm (arcs (d.left ++ map to_bond (flat (below d.under) d.present))) (arcs a.bonds)
  pub fits : (n : ℕ) → CodesOf a.kind (d.under n)

back : (kind : ℕ → List ℕ) (xs : List Bond) → map to_bond (map (to_item kind) xs) ≡ xs
back kind [] = refl
back kind (x ∷ xs) = ap (λ (l : List Bond). x ∷ l) (back kind xs)

far : (kind : ℕ → List ℕ) (xs : List Bond) → map (λ (i : Item). i.atom) (map (to_item kind) xs) ≡ map (λ (x : Bond). x.v) xs
far kind [] = refl
far kind (x ∷ xs) = ap (λ (l : List ℕ). x.v ∷ l) (far kind xs)

pub start_hanging : (a : Frag) → Clean a → Hanging a (tree_start a)
start_hanging a c = record {
  tree = c.tree;
  atoms = p_trans (perm_left a.atoms (perm_eq (ap (map (λ (i : Item). i.atom)) (nothing a.atoms)))) (perm_eq (append-nil a.atoms));
  bonds = perm_eq (ap arcs (ap (λ (l : List Item). a.bonds ++ map to_bond l) (nothing a.atoms) ∙ append-nil a.bonds));
  fits = λ n. tt;
}
  where
    nothing : (ns : List ℕ) → flat (below (λ n. nil)) ns ≡ []
    nothing [] = refl
    nothing (n ∷ ns) = nothing ns

pub round_hanging : (a : Frag) (d : TreePeel) → Clean a → Hanging a d → more d.present ≡ true → Hanging a (tree_round a.kind d)
round_hanging a d c h m =
    let ns : List ℕ = d.present in
    let bs : List Bond = d.left in
    let E : ℕ → Bool = end_atom (arcs bs) in
    let X : List Bond = going E bs in
    let stays : List ℕ = filter (λ (n : ℕ). not (E n)) ns in
    let T : ℕ → Kids = d.under in
    let T₂ : ℕ → Kids = λ n. gather a.kind T (to_ends E n (arcs bs)) (T n) in
    let old : List Item = flat (below T) ns in
    let p : Perm (flat (below T₂) stays) (map (to_item a.kind) X ++ old) = round_items ns bs h.tree m a.kind T in
    let at₁ : Perm (map (λ (i : Item). i.atom) (flat (below T₂) stays)) (filter E ns ++ map (λ (i : Item). i.atom) old) =
    p_trans (perm_map (λ (i : Item). i.atom) p) (p_trans (perm_eq (map-append (λ (i : Item). i.atom) (map (to_item a.kind) X) old ∙ ap (λ (l : List ℕ). l ++ map (λ (i : Item). i.atom) old) (far a.kind X)))
    (perm_right (map (λ (i : Item). i.atom) old) (perm_sym (ends_going ns bs h.tree m)))) in
    let at₂ : Perm (stays ++ map (λ (i : Item). i.atom) (flat (below T₂) stays)) (ns ++ map (λ (i : Item). i.atom) old) =
    p_trans (perm_left stays at₁) (p_trans (perm_eq (sym (append_assoc stays (filter E ns) (map (λ (i : Item). i.atom) old)))) (perm_right (map (λ (i : Item). i.atom) old) (perm_sym (keep_split E ns)))) in
    let bo₁ : Perm (arcs (map to_bond (flat (below T₂) stays))) (arcs X ++ arcs (map to_bond old)) =
    p_trans (arcs_perm (perm_map to_bond p)) (perm_eq (ap arcs (map-append to_bond (map (to_item a.kind) X) old ∙ ap (λ (l : List Bond). l ++ map to_bond old) (back a.kind X)) ∙ arcs_append X (map to_bond old))) in
    let bo₂ : Perm (arcs (stay E bs ++ map to_bond (flat (below T₂) stays))) (arcs (bs ++ map to_bond old)) =
    p_trans (perm_eq (arcs_append (stay E bs) (map to_bond (flat (below T₂) stays)))) (p_trans (perm_left (arcs (stay E bs)) bo₁) (p_trans (perm_eq (sym (append_assoc (arcs (stay E bs)) (arcs X) (arcs (map to_bond old)))))
    (p_trans (perm_right (arcs (map to_bond old)) (perm_sym (arcs_cut E bs (λ b i. ends_apart ns bs h.tree m b (arcs_mem bs i))))) (perm_eq (sym (arcs_append bs (map to_bond old))))))) in
    record {
      tree = round_tree ns bs h.tree m;
      atoms = p_trans at₂ h.atoms;
      bonds = p_trans bo₂ h.bonds;
      fits = λ n. gather_fits a.kind T (to_ends E n (arcs bs)) (T n) h.fits (λ x i.
          let j = (keep_mem (λ (x : Bond). both (eqb x.u n) (E x.v)) (arcs bs) i).0 in (
            c.codes x (perm_mem h.bonds (rw (← (arcs_append bs (map to_bond old))) at (mem_left (arcs (map to_bond old)) j))),
            c.kinds x.v (perm_mem h.atoms (mem_left (map (λ (i : Item). i.atom) old) (h.tree.ends x j).1)),
          )) (h.fits n);
    }

pub settle_hanging : (a : Frag) → Clean a → (k : ℕ) (d : TreePeel) → Hanging a d → length d.present ≤ k → Hanging a (tree_peel a.kind k d) × (more (tree_peel a.kind k d).present ≡ false)
settle_hanging a c zero d h l = absurd (omega (arith, h.tree.count))
settle_hanging a c (suc k) d h l = go (two (more d.present)) (λ e. settle_hanging a c k (tree_round a.kind d) (round_hanging a d c h e) (omega (arith, round_shorter d.present d.left h.tree e)))
  where
    go : (more d.present ≡ true) ⊎ (more d.present ≡ false) → (more d.present ≡ true → Hanging a (tree_peel a.kind k (tree_round a.kind d)) × (more (tree_peel a.kind k (tree_round a.kind d)).present ≡ false))
        → Hanging a (tree_peel a.kind (suc k) d) × (more (tree_peel a.kind (suc k) d).present ≡ false)
    go (inl e) r = rw (settle_more a.kind k d e) (r e)
    go (inr e) r = rw (settle_stop a.kind k d e) (h, e)

-- two trees joined by a bond, as one tree
abbrev pub attach : ℕ → RoseTree → RoseTree → RoseTree
attach c x y = record { atom = x.atom; kind = x.kind; kids = kid c y.atom y.kind y.kids x.kids }

pub data Result (a : Frag) (l : List ℕ) : Type 0 where
  one_centre : (t : RoseTree) → Holds t a → l ≡ code t → Result a l
  two_centres : (c : ℕ) (x y : RoseTree) → Good x → Good y → Holds (attach c x y) a → Holds (attach c y x) a → l ≡ two_code c x y → Result a l

module _ (a : Frag) (c : Clean a) (T : ℕ → Kids) (fits : (n : ℕ) → CodesOf a.kind (T n)) where
  abbrev leaf : ℕ → RoseTree
  leaf n = record { atom = n; kind = a.kind n; kids = T n }

  leaf_good : (n : ℕ) → Mem n a.atoms → Good (leaf n)
  leaf_good n i = (c.kinds n i, fits_good a.kind (T n) (fits n))

  holds_one : (v : ℕ) → Perm ((v ∷ []) ++ map (λ (i : Item). i.atom) (flat (below T) (v ∷ []))) a.atoms → Perm (arcs (map to_bond (flat (below T) (v ∷ [])))) (arcs a.bonds) → Holds (leaf v) a
  holds_one v p q = record {
    good = leaf_good v (perm_mem p (m_head refl));
    root = refl;
    fits = fits v;
    atoms = p_trans (p_cons refl (perm_eq (sym (items_atoms v (T v)) ∙ ap (map (λ (i : Item). i.atom)) (sym (append-nil (items v (T v))))))) p;
    bonds = p_trans (perm_eq (ap (λ (l : List Item). arcs (map to_bond l)) (sym (append-nil (items v (T v)))))) q;
  }

  holds_two : (b : Bond) → Code b.code → Perm ((b.u ∷ b.v ∷ []) ++ map (λ (i : Item). i.atom) (flat (below T) (b.u ∷ b.v ∷ []))) a.atoms
      → Perm (arcs ((b ∷ []) ++ map to_bond (flat (below T) (b.u ∷ b.v ∷ [])))) (arcs a.bonds) → Holds (attach b.code (leaf b.u) (leaf b.v)) a
  holds_two b k p q =
      let I : List Item = below T b.u in
      let J : List Item = below T b.v in
      let s : Perm (J ++ I) (I ++ (J ++ [])) = p_trans (perm_left J (perm_eq (sym (append-nil I)))) (perm_exchange J I []) in
      let u = leaf_good b.u (perm_mem p (m_head refl)) in
      let v = leaf_good b.v (perm_mem p (m_tail (m_head refl))) in
      record {
        good = (u.0, (k, v.0, v.1, u.1));
        root = refl;
        fits = (refl, k, v.0, fits b.v, fits b.u);
        atoms = p_trans (p_cons refl (p_cons refl (p_trans (perm_eq (ap₂ ◌++◌ (sym (items_atoms b.v (T b.v))) (sym (items_atoms b.u (T b.u))) ∙ sym (map-append (λ (i : Item). i.atom) J I))) (perm_map (λ (i : Item). i.atom) s)))) p;
        bonds = p_trans (p_cons refl (p_cons refl (arcs_perm (perm_map to_bond s)))) q;
      }

  -- both ways round
  holds_both : (b : Bond) → Code b.code → Perm ((b.u ∷ b.v ∷ []) ++ map (λ (i : Item). i.atom) (flat (below T) (b.u ∷ b.v ∷ []))) a.atoms
      → Perm (arcs ((b ∷ []) ++ map to_bond (flat (below T) (b.u ∷ b.v ∷ [])))) (arcs a.bonds)
      → Holds (attach b.code (leaf b.u) (leaf b.v)) a × Holds (attach b.code (leaf b.v) (leaf b.u)) a
  holds_both b k p q =
      let s : Perm (flat (below T) (b.v ∷ b.u ∷ [])) (flat (below T) (b.u ∷ b.v ∷ [])) = flat_perm (below T) {k = b.v ∷ b.u ∷ []} {l = b.u ∷ b.v ∷ []} (p_swap refl refl) in
      (holds_two b k p q, holds_two (turn b) k (p_trans (perm_append (p_swap {l = []} refl refl) (perm_map (λ (i : Item). i.atom) s)) p) (p_trans (p_swap refl refl) (p_trans (p_cons refl (p_cons refl (arcs_perm (perm_map to_bond s)))) q)))

-- the two atoms that are left are the ends of the bond that is left
two_ends : (v w : ℕ) (b : Bond) → Treelike (v ∷ w ∷ []) (b ∷ []) → Perm (b.u ∷ b.v ∷ []) (v ∷ w ∷ [])
two_ends v w b t =
    let (x, i, h, k) = t.linked (λ n. eqb n v) v w (m_head refl) (m_tail (m_head refl)) (eqb_yes {a = v} refl) (eqb_no (λ e. t.distinct.0 (m_head (sym e)))) in
    go x i (eqb-true x.u v h) (other x.v (eqb-false x.v v k) (t.ends x i).1)
  where
    other : (n : ℕ) → (n ≡ v → ⊥) → Mem n (v ∷ w ∷ []) → n ≡ w
    other n f (m_tail (m_tail x8)) = elim x8 [ ]
    other n f (m_head e) = absurd (f e)
    other n f (m_tail (m_head e)) = e

    go : (x : Bond) → Mem x (b ∷ turn b ∷ []) → x.u ≡ v → x.v ≡ w → Perm (b.u ∷ b.v ∷ []) (v ∷ w ∷ [])
    go x (m_tail (m_tail x11)) p q = elim x11 [ ]
    go x (m_head e) p q = p_cons (sym (ap (λ (z : Bond). z.u) e) ∙ p) (p_cons (sym (ap (λ (z : Bond). z.v) e) ∙ q) p_nil)
    go x (m_tail (m_head e)) p q = p_swap (sym (ap (λ (z : Bond). z.v) e) ∙ q) (sym (ap (λ (z : Bond). z.u) e) ∙ p)

result_two : (a : Frag) (d : TreePeel) → Clean a → Hanging a d → (v w : ℕ) → d.present ≡ v ∷ w ∷ [] → (bs : List Bond) → d.left ≡ bs → Result a (tree_two a.kind bs d)
result_two a d c h v w e [] g = absurd (omega (arith, h.tree.count, ap length e, ap length g))
result_two a d c h v w e (b ∷ b₂ ∷ bs) g = absurd (omega (arith, h.tree.count, ap length e, ap length g))
result_two a d c h v w e (b ∷ []) g =
    let t : Treelike (v ∷ w ∷ []) (b ∷ []) = subst (λ l. Treelike l (b ∷ [])) e (subst (λ l. Treelike d.present l) g h.tree) in
    let p : Perm ((v ∷ w ∷ []) ++ map (λ (i : Item). i.atom) (flat (below d.under) (v ∷ w ∷ []))) a.atoms =
    subst (λ l. Perm (l ++ map (λ (i : Item). i.atom) (flat (below d.under) l)) a.atoms) e h.atoms in
    let q : Perm (arcs ((b ∷ []) ++ map to_bond (flat (below d.under) (v ∷ w ∷ [])))) (arcs a.bonds) =
    subst (λ l. Perm (arcs ((b ∷ []) ++ map to_bond (flat (below d.under) l))) (arcs a.bonds)) e (subst (λ l. Perm (arcs (l ++ map to_bond (flat (below d.under) d.present))) (arcs a.bonds)) g h.bonds) in
    let s : Perm (b.u ∷ b.v ∷ []) (v ∷ w ∷ []) = two_ends v w b t in
    let f : Perm (flat (below d.under) (b.u ∷ b.v ∷ [])) (flat (below d.under) (v ∷ w ∷ [])) = flat_perm (below d.under) s in
    let p₂ : Perm ((b.u ∷ b.v ∷ []) ++ map (λ (i : Item). i.atom) (flat (below d.under) (b.u ∷ b.v ∷ []))) a.atoms = p_trans (perm_append s (perm_map (λ (i : Item). i.atom) f)) p in
    let q₂ : Perm (arcs ((b ∷ []) ++ map to_bond (flat (below d.under) (b.u ∷ b.v ∷ [])))) (arcs a.bonds) = p_trans (p_cons refl (p_cons refl (arcs_perm (perm_map to_bond f)))) q in
    let r = holds_both a c d.under h.fits b (c.codes b (perm_mem q₂ (m_head refl))) p₂ q₂ in
    two_centres b.code (tree_at a.kind d b.u) (tree_at a.kind d b.v) (leaf_good a c d.under h.fits b.u (perm_mem p₂ (m_head refl))) (leaf_good a c d.under h.fits b.v (perm_mem p₂ (m_tail (m_head refl)))) r.0 r.1 refl

result_at : (a : Frag) (d : TreePeel) → Clean a → Hanging a d → (ns : List ℕ) → d.present ≡ ns → more ns ≡ false → Result a (tree_last a.kind ns d)
result_at a d c h [] e m = absurd (omega (arith, h.tree.count, ap length e))
result_at a d c h (v ∷ []) e m =
    let none : d.left ≡ [] = empty d.left (omega (arith, h.tree.count, ap length e)) in
    let p : Perm ((v ∷ []) ++ map (λ (i : Item). i.atom) (flat (below d.under) (v ∷ []))) a.atoms =
    subst (λ l. Perm (l ++ map (λ (i : Item). i.atom) (flat (below d.under) l)) a.atoms) e h.atoms in
    let q : Perm (arcs (map to_bond (flat (below d.under) (v ∷ [])))) (arcs a.bonds) =
    subst (λ l. Perm (arcs (map to_bond (flat (below d.under) l))) (arcs a.bonds)) e (subst (λ l. Perm (arcs (l ++ map to_bond (flat (below d.under) d.present))) (arcs a.bonds)) none h.bonds) in
    one_centre (tree_at a.kind d v) (holds_one a c d.under h.fits v p q) refl
  where
    empty : (l : List Bond) → length l ≡ 0 → l ≡ []
    empty [] z = refl
    empty (b ∷ l) z = absurd (omega arith)
result_at a d c h (v ∷ w ∷ []) e m = result_two a d c h v w e d.left refl
result_at a d c h (v ∷ w ∷ x ∷ r) e m = absurd (not_both refl m)

-- What the rounds leave: one rose tree, or two joined by a bond, that hold each bond of the fragment exactly once; the label is their code.
pub result : (a : Frag) → Clean a → Result a (tree_label a)
unfolding tree_label
result a c =
    let (h, m) = settle_hanging a c (length a.atoms) (tree_start a) (start_hanging a c) (omega arith) in
    result_at a (tree_peel a.kind (length a.atoms) (tree_start a)) c h (tree_peel a.kind (length a.atoms) (tree_start a)).present refl m

-- arcs of a mapped list
pub arcs_map : (f : ℕ → ℕ) (bs : List Bond) → map (on_bond f) (arcs bs) ≡ arcs (map (on_bond f) bs)
arcs_map f [] = refl
arcs_map f (b ∷ bs) = ap (λ (l : List Bond). on_bond f b ∷ turn (on_bond f b) ∷ l) (arcs_map f bs)

bond_item : (f : ℕ → ℕ) (l : List Item) → map (on_bond f) (map to_bond l) ≡ map to_bond (map (on_item f) l)
bond_item f [] = refl
bond_item f (i ∷ l) = ap (λ (z : List Bond). on_bond f (to_bond i) ∷ z) (bond_item f l)

-- Trees of one shape join what they hold
pub joined_of_shape : (x y : RoseTree) (a b : Frag) → Distinct a.atoms → Holds x a → Holds y b → x ≈ y → Joined a b
joined_of_shape x y a b d h k s =
    let i : Iso x y = iso_of_shape x y (distinct_perm (perm_sym h.atoms) d) s in
    let eq : map (on_bond i.f) (arcs (map to_bond (all_items x))) ≡ arcs (map to_bond (map (on_item i.f) (all_items x))) = arcs_map i.f (map to_bond (all_items x)) ∙ ap arcs (bond_item i.f (all_items x)) in
    record {
      f = i.f;
      onto = p_trans (perm_map i.f (perm_sym h.atoms)) (p_trans (iso_atoms x y i) k.atoms);
      kinds = λ n m. at i n (perm_mem (perm_sym h.atoms) m);
      bonds = p_trans (perm_map (on_bond i.f) (perm_sym h.bonds)) (p_trans (perm_eq eq) (p_trans (arcs_perm (perm_map to_bond i.all)) k.bonds));
    }
  where
    at : (i : Iso x y) (n : ℕ) → Mem n (all_atoms x) → b.kind (i.f n) ≡ a.kind n
    at i n (m_head e) = ap b.kind (ap i.f e ∙ i.root) ∙ sym k.root ∙ sym i.root_kind ∙ h.root ∙ ap a.kind (sym e)
    at i n (m_tail m) =
        let (j, l, e) = mem_of_map (λ (z : Item). z.atom) (all_items x) (rw (← (items_atoms x.atom x.kids)) at m) in
        let one : j.kind ≡ a.kind j.atom = fits_item a.kind x.atom x.kids h.fits l in
        let two : j.kind ≡ b.kind (i.f j.atom) = fits_item b.kind y.atom y.kids k.fits (perm_mem i.all (mem_map (on_item i.f) l)) in
        ap (λ (z : ℕ). b.kind (i.f z)) (sym e) ∙ sym two ∙ one ∙ ap a.kind e

-- equal labels give an isomorphism
pub joined_of_label : (a b : Frag) → Clean a → Clean b → tree_label a ≡ tree_label b → Joined a b
joined_of_label a b c d e = go (result a c) (result b d)
  where
    go : Result a (tree_label a) → Result b (tree_label b) → Joined a b
    go (one_centre x h p) (one_centre y k q) = joined_of_shape x y a b c.tree.distinct h k (shape_of_code x y h.good k.good (sym p ∙ e ∙ q))
    go (one_centre x h p) (two_centres n y z g i k l q) = absurd (one_not_two n x y z k.good.1.0 (sym p ∙ e ∙ q))
    go (two_centres n y z g i k l q) (one_centre x h p) = absurd (one_not_two n x y z k.good.1.0 (sym p ∙ sym e ∙ q))
    go (two_centres n x y g₁ g₂ k l p) (two_centres o v w g₃ g₄ r s q) =
        let (same, both_ways) = shape_of_two n o x y v w g₁ g₂ g₃ g₄ (sym p ∙ e ∙ q) in
        way both_ways same
      where
        way : ((x ≈ v) × (y ≈ w)) ⊎ ((x ≈ w) × (y ≈ v)) → n ≡ o → Joined a b
        way (inl f) same = joined_of_shape (attach n x y) (attach o v w) a b c.tree.distinct k r (f.0.0, pair here same f.1.0 f.1.1 f.0.1)
        way (inr f) same = joined_of_shape (attach n x y) (attach o w v) a b c.tree.distinct k s (f.0.0, pair here same f.1.0 f.1.1 f.0.1)

-- equal labels exactly when an isomorphism joins the fragments
pub label_iff : (a b : Frag) → Clean a → Clean b → (tree_label a ≡ tree_label b) ↔ Joined a b
label_iff a b c d = (joined_of_label a b c d, label_of_joined a b (clean_formed a c) (clean_formed b d))
