-- From one shape to a map of atoms, and back.
use mathlib.Core.Path.{◌≡◌, refl, sym, ap, ap₂, ◌∙◌}
use mathlib.Core.List.Memᴰ.{append_left as mem_left}
use mathlib.Core.List.Memᴰ.{append_right as mem_right}
use mathlib.Core.List.Memᴰ.{cast as mem_cast}
use mathlib.Core.List.Memᴰ.{head as m_head}
use mathlib.Core.List.Memᴰ.{tail as m_tail}
use mathlib.Core.List.Permᴰ.{append_left as perm_left}
use mathlib.Core.List.Permᴰ.{cons as p_cons}
use mathlib.Core.List.Permᴰ.{nil as p_nil}
use mathlib.Core.List.Permᴰ.{refl as perm_refl}
use mathlib.Core.List.Permᴰ.{symm as perm_sym}
use mathlib.Core.List.Permᴰ.{trans as p_trans}
use mathlib.Core.List.{List, [], ◌∷◌, ◌++◌, map, Memᴰ as Mem, Permᴰ as Perm}
use Prim.Native.Nat.{ℕ}
use native.Mathlib.Omega.{arith}
use native.Mathlib.Decide.{ℕ_discrete}
use lib.ListN.{length, length-append}
use Rattle.molecule.proofs.Perms.{perm_append, perm_exchange, perm_eq, Distinct, distinct_left, distinct_right, distinct_apart, distinct_perm, perm_map, map-append, memb}
use Rattle.canonize.proofs.RoseTrees.{Kids, nil, kid, RoseTree, bonds_in, Kid, here, there, Like, no_kids, pair, ◌≈◌}

-- what a child says: its parent, the bond's code, its atom and its own string
pub record Item : Type 0 where
  pub up : ℕ
  pub bond : ℕ
  pub atom : ℕ
  pub kind : List ℕ

abbrev pub item : ℕ → ℕ → ℕ → List ℕ → Item
item p b a e = record { up = p; bond = b; atom = a; kind = e }

-- the children, grandchildren and so on of p
abbrev pub items : ℕ → Kids → List Item
items p nil = []
items p (kid b a e u r) = item p b a e ∷ (items a u ++ items p r)

abbrev pub on_item : (ℕ → ℕ) → Item → Item
on_item f i = item (f i.up) i.bond (f i.atom) i.kind

abbrev pub atoms : Kids → List ℕ
atoms nil = []
atoms (kid b a e u r) = a ∷ (atoms u ++ atoms r)

abbrev pub all_items : RoseTree → List Item
all_items t = items t.atom t.kids

abbrev pub all_atoms : RoseTree → List ℕ
all_atoms t = t.atom ∷ atoms t.kids

pub items_atoms : (p : ℕ) (k : Kids) → map (λ (i : Item). i.atom) (items p k) ≡ atoms k
items_atoms p nil = refl
items_atoms p (kid b a e u r) = ap (λ (l : List ℕ). a ∷ l) (map-append (λ (i : Item). i.atom) (items a u) (items p r) ∙ ap₂ ◌++◌ (items_atoms a u) (items_atoms p r))

-- new atom numbers
abbrev pub relabel : (ℕ → ℕ) → Kids → Kids
relabel f nil = nil
relabel f (kid b a e u r) = kid b (f a) e (relabel f u) (relabel f r)

pub items_relabel : (f : ℕ → ℕ) (p : ℕ) (k : Kids) → items (f p) (relabel f k) ≡ map (on_item f) (items p k)
items_relabel f p nil = refl
items_relabel f p (kid b a e u r) = ap (λ (l : List Item). item (f p) b (f a) e ∷ l) (ap₂ ◌++◌ (items_relabel f a u) (items_relabel f p r) ∙ sym (map-append (on_item f) (items a u) (items p r)))

relabel_agree : (f g : ℕ → ℕ) (k : Kids) → ((n : ℕ) → Mem n (atoms k) → f n ≡ g n) → relabel f k ≡ relabel g k
relabel_agree f g nil h = refl
relabel_agree f g (kid b a e u r) h =
    rw (h a (m_head refl), relabel_agree f g u (λ n m. h n (m_tail (mem_left (atoms r) m))), relabel_agree f g r (λ n m. h n (m_tail (mem_right (atoms u) m))))

-- the same children in another order
pub data Shuffled : Kids → Kids → Type 0 where
  s_nil : Shuffled nil nil
  s_kid : {b a : ℕ} {e : List ℕ} {u r u₁ r₁ k : Kids} → Kid k b a e u₁ r₁ → Shuffled u u₁ → Shuffled r r₁ → Shuffled (kid b a e u r) k

kid_items : {k u r : Kids} {b a : ℕ} {e : List ℕ} (p : ℕ) → Kid k b a e u r → Perm (item p b a e ∷ (items a u ++ items p r)) (items p k)
kid_items p here = perm_refl _
kid_items {b = b} {a = a} {e = e} p (there {b₁ = b₁} {a₁ = a₁} {e₁ = e₁} {u = u} {u₁ = u₁} {r₁ = r₁} o) =
    p_trans (perm_exchange (item p b a e ∷ items a u) (item p b₁ a₁ e₁ ∷ items a₁ u₁) (items p r₁)) (perm_left (item p b₁ a₁ e₁ ∷ items a₁ u₁) (kid_items p o))

pub shuffled_items : {k l : Kids} (p : ℕ) → Shuffled k l → Perm (items p k) (items p l)
shuffled_items p s_nil = p_nil
shuffled_items p (s_kid {a = a} o s t) = p_trans (p_cons refl (perm_append (shuffled_items a s) (shuffled_items p t))) (kid_items p o)

-- position by position the same bonds and elements
pub data Twin : Kids → Kids → Type 0 where
  t_nil : Twin nil nil
  t_kid : {b a b₁ a₁ : ℕ} {e e₁ : List ℕ} {u r u₁ r₁ : Kids} → b ≡ b₁ → e ≡ e₁ → Twin u u₁ → Twin r r₁ → Twin (kid b a e u r) (kid b₁ a₁ e₁ u₁ r₁)

-- one shape: a twin of the first is the second in another order
pub like_twin : {k l : Kids} → Like k l → (m : Kids) × Twin k m × Shuffled m l
like_twin no_kids = (nil, t_nil, s_nil)
like_twin (pair {b₁ = b₁} {a₁ = a₁} {e₁ = e₁} o p q f g) =
    let (m, s, t) = like_twin f in
    let (n, v, w) = like_twin g in
    (kid b₁ a₁ e₁ m n, t_kid p q s v, s_kid o t w)

-- two maps and one value, put together
choose : {P Q : Type 0} → Dec P → Dec Q → ℕ → ℕ → ℕ → ℕ
choose (yes p) d c x y = c
choose (no p) (yes q) c x y = x
choose (no p) (no q) c x y = y

choose_one : {P Q : Type 0} (d : Dec P) (f : Dec Q) (c x y : ℕ) → P → choose d f c x y ≡ c
unfolding choose
choose_one (yes p) f c x y h = refl
choose_one (no p) f c x y h = absurd (p h)

choose_two : {P Q : Type 0} (d : Dec P) (f : Dec Q) (c x y : ℕ) → (P → ⊥) → Q → choose d f c x y ≡ x
unfolding choose
choose_two (yes p) f c x y h q = absurd (h p)
choose_two (no p) (yes k) c x y h q = refl
choose_two (no p) (no k) c x y h q = absurd (k q)

choose_three : {P Q : Type 0} (d : Dec P) (f : Dec Q) (c x y : ℕ) → (P → ⊥) → (Q → ⊥) → choose d f c x y ≡ y
unfolding choose
choose_three (yes p) f c x y h q = absurd (h p)
choose_three (no p) (yes k) c x y h q = absurd (q k)
choose_three (no p) (no k) c x y h q = refl

either : (ℕ → ℕ) → (ℕ → ℕ) → List ℕ → ℕ → ℕ → ℕ → ℕ
either f g l a c n = choose (ℕ_discrete n a) (memb n l) c (f n) (g n)

twin_step : {b a b₁ a₁ : ℕ} {e e₁ : List ℕ} (u r : Kids) {u₁ r₁ : Kids} (f g : ℕ → ℕ) → b ≡ b₁ → e ≡ e₁ → Distinct (a ∷ (atoms u ++ atoms r)) → relabel f u ≡ u₁ → relabel g r ≡ r₁
    → relabel (either f g (atoms u) a a₁) (kid b a e u r) ≡ kid b₁ a₁ e₁ u₁ r₁
unfolding either
twin_step {a = a} {a₁ = a₁} u r f g p q d h i =
    let at : either f g (atoms u) a a₁ a ≡ a₁ = choose_one (ℕ_discrete a a) (memb a (atoms u)) a₁ (f a) (g a) refl in
    let left : relabel (either f g (atoms u) a a₁) u ≡ relabel f u =
    relabel_agree (either f g (atoms u) a a₁) f u (λ n m. choose_two (ℕ_discrete n a) (memb n (atoms u)) a₁ (f n) (g n) (λ z. d.0 (mem_left (atoms r) (mem_cast (sym z) m))) m) in
    let right : relabel (either f g (atoms u) a a₁) r ≡ relabel g r =
    relabel_agree (either f g (atoms u) a a₁) g r (λ n m. choose_three (ℕ_discrete n a) (memb n (atoms u)) a₁ (f n) (g n) (λ z. d.0 (mem_right (atoms u) (mem_cast (sym z) m))) (λ k. distinct_apart (atoms u) (atoms r) d.1 k m)) in
    cc

-- a twin is a relabelling, where the atoms are different
pub twin_map : {k m : Kids} → Twin k m → Distinct (atoms k) → (f : ℕ → ℕ) × (relabel f k ≡ m)
twin_map t_nil d = (λ n. n, refl)
twin_map (t_kid {a = a} {a₁ = a₁} {u = u} {r = r} p q s t) d =
    let (f, h) = twin_map s (distinct_left (atoms u) (atoms r) d.1) in
    let (g, i) = twin_map t (distinct_right (atoms u) (atoms r) d.1) in
    (either f g (atoms u) a a₁, twin_step u r f g p q d h i)

-- A map of atoms that sends root to root, keeps elements, and sends the (parent, bond code, child, element) of the first tree one to one onto those of the second
pub record Iso (x y : RoseTree) : Type 0 where
  pub f : ℕ → ℕ
  pub root : f x.atom ≡ y.atom
  pub root_kind : x.kind ≡ y.kind
  pub all : Perm (map (on_item f) (all_items x)) (all_items y)

append_nothing : {A : Type 0} (l : List A) → Perm (l ++ []) l
append_nothing [] = p_nil
append_nothing (x ∷ l) = p_cons refl (append_nothing l)

kids_under : Kids → Kids
kids_under nil = nil
kids_under (kid b a e u r) = u

kids_atom : Kids → ℕ
kids_atom nil = 0
kids_atom (kid b a e u r) = a

pub iso_of_shape : (x y : RoseTree) → Distinct (all_atoms x) → x ≈ y → Iso x y
unfolding kids_under kids_atom
iso_of_shape x y d h =
    let (m, s, t) = like_twin h.1 in
    -- the tree as the one child of nobody
    let w : Twin (kid 0 x.atom x.kind x.kids nil) (kid 0 y.atom y.kind m nil) = t_kid refl h.0 s t_nil in
    let (f, e) = twin_map w (distinct_perm (p_cons refl (perm_sym (append_nothing (atoms x.kids)))) d) in
    let root : f x.atom ≡ y.atom = ap kids_atom e in
    let under : relabel f x.kids ≡ m = ap kids_under e in
    let same : map (on_item f) (all_items x) ≡ items y.atom m = sym (items_relabel f x.atom x.kids) ∙ ap₂ items root under in
    record { f = f; root = root; root_kind = h.0; all = p_trans (perm_eq same) (shuffled_items y.atom t) }

-- what follows: the atoms go one to one onto the atoms
pub iso_atoms : (x y : RoseTree) (i : Iso x y) → Perm (map i.f (all_atoms x)) (all_atoms y)
iso_atoms x y i =
    let a : map (λ (j : Item). j.atom) (map (on_item i.f) (all_items x)) ≡ map i.f (atoms x.kids) =
    map_after i.f (all_items x) ∙ ap (map i.f) (items_atoms x.atom x.kids) in
    p_cons i.root (p_trans (perm_eq (sym a)) (p_trans (perm_map (λ (j : Item). j.atom) i.all) (perm_eq (items_atoms y.atom y.kids))))
  where
    map_after : (f : ℕ → ℕ) (l : List Item) → map (λ (j : Item). j.atom) (map (on_item f) l) ≡ map f (map (λ (j : Item). j.atom) l)
    map_after f [] = refl
    map_after f (j ∷ l) = ap (λ r. f j.atom ∷ r) (map_after f l)

pub items_length : (p : ℕ) (k : Kids) → length (items p k) ≡ bonds_in k
unfolding bonds_in
items_length p nil = refl
items_length p (kid b a e u r) = simp length-append (omega (arith, items_length a u, items_length p r))
