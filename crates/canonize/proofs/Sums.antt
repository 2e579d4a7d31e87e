-- Lists put together from lists, and a list grouped by a key.
use Rattle.bitset.proofs.Bools.{two}
use mathlib.Core.Path.{◌≡◌, refl, sym, ap, ◌∙◌}
use mathlib.Core.Logic.{◌⊎◌, inl, inr}
use mathlib.Core.Bool.{Bool, true, false, ◌&&◌}
use mathlib.Core.List.Memᴰ.{cast as mem_cast}
use mathlib.Core.List.Memᴰ.{head as m_head}
use mathlib.Core.List.Memᴰ.{tail as m_tail}
use mathlib.Core.List.Permᴰ.{append_left as perm_left}
use mathlib.Core.List.Permᴰ.{cons as p_cons}
use mathlib.Core.List.Permᴰ.{middle as perm_middle}
use mathlib.Core.List.Permᴰ.{nil as p_nil}
use mathlib.Core.List.Permᴰ.{refl as perm_refl}
use mathlib.Core.List.Permᴰ.{swap as p_swap}
use mathlib.Core.List.Permᴰ.{trans as p_trans}
use mathlib.Core.List.{List, [], ◌∷◌, ◌++◌, map, append_assoc, Memᴰ as Mem, Permᴰ as Perm}
use Prim.Native.Nat.{ℕ, ◌*◌, ◌≤◌}
use native.Mathlib.Omega.{arith}
use native.Mathlib.Nat.{mul-suc}
use lib.ListN.{length, length-append}
use lib.Dec.{eqb}
use Rattle.molecule.specs.Lists.{filter, pick}
use Rattle.molecule.proofs.Perms.{perm_append, perm_exchange, perm_eq, Distinct, map-append, eqb_yes, eqb_no}

abbrev pub flat : {A B : Type 0} → (A → List B) → List A → List B
flat g [] = []
flat g (x ∷ l) = g x ++ flat g l

module _ {A B : Type 0} where
  pub flat_append : (g : A → List B) (k l : List A) → flat g (k ++ l) ≡ flat g k ++ flat g l
  flat_append g [] l = refl
  flat_append g (x ∷ k) l = ap (λ (z : List B). g x ++ z) (flat_append g k l) ∙ sym (append_assoc (g x) (flat g k) (flat g l))

  pub flat_perm : (g : A → List B) {k l : List A} → Perm k l → Perm (flat g k) (flat g l)
  flat_perm g p_nil = p_nil
  flat_perm g (p_cons e d) = perm_append (perm_eq (ap g e)) (flat_perm g d)
  flat_perm g (p_swap {a = a} {b = b} {l = l} e h) = p_trans (perm_exchange (g a) (g b) (flat g l)) (perm_append (perm_eq (ap g h)) (perm_append (perm_eq (ap g e)) (perm_refl (flat g l))))
  flat_perm g (p_trans d h) = p_trans (flat_perm g d) (flat_perm g h)

  pub flat_agree : (g h : A → List B) (l : List A) → ((x : A) → Mem x l → Perm (g x) (h x)) → Perm (flat g l) (flat h l)
  flat_agree g h [] i = p_nil
  flat_agree g h (x ∷ l) i = perm_append (i x (m_head refl)) (flat_agree g h l (λ y m. i y (m_tail m)))

  pub flat_split : (g h : A → List B) (l : List A) → Perm (flat (λ x. g x ++ h x) l) (flat g l ++ flat h l)
  flat_split g h [] = p_nil
  flat_split g h (x ∷ l) =
      let a : Perm ((g x ++ h x) ++ flat (λ y. g y ++ h y) l) (g x ++ (h x ++ (flat g l ++ flat h l))) =
      p_trans (perm_eq (append_assoc (g x) (h x) (flat (λ y. g y ++ h y) l))) (perm_left (g x) (perm_left (h x) (flat_split g h l))) in
      let b : Perm (g x ++ (h x ++ (flat g l ++ flat h l))) (g x ++ (flat g l ++ (h x ++ flat h l))) = perm_left (g x) (perm_exchange (h x) (flat g l) (flat h l)) in
      p_trans a (p_trans b (perm_eq (sym (append_assoc (g x) (flat g l) (h x ++ flat h l)))))

  pub flat_length : (g : A → List B) (c : ℕ) (l : List A) → ((x : A) → Mem x l → c ≤ length (g x)) → c * length l ≤ length (flat g l)
  flat_length g c [] h = omega arith
  flat_length g c (x ∷ l) h = simp length-append (omega (arith, h x (m_head refl), flat_length g c l (λ y m. h y (m_tail m)), mul-suc c (length l)))

pub flat_map : {A B C : Type 0} (g : B → List C) (f : A → B) (l : List A) → flat g (map f l) ≡ flat (λ x. g (f x)) l
flat_map g f [] = refl
flat_map g f (x ∷ l) = ap (λ z. g (f x) ++ z) (flat_map g f l)

pub map_flat : {A B C : Type 0} (f : B → C) (g : A → List B) (l : List A) → map f (flat g l) ≡ flat (λ x. map f (g x)) l
map_flat f g [] = refl
map_flat f g (x ∷ l) = map-append f (g x) (flat g l) ∙ ap (λ z. map f (g x) ++ z) (map_flat f g l)

pub flat_flat : {A B C : Type 0} (g : B → List C) (h : A → List B) (l : List A) → flat g (flat h l) ≡ flat (λ x. flat g (h x)) l
flat_flat g h [] = refl
flat_flat g h (x ∷ l) = flat_append g (h x) (flat h l) ∙ ap (λ z. flat g (h x) ++ z) (flat_flat g h l)

pub flat_keep : {A : Type 0} (p : A → Bool) (l : List A) → flat (λ x. pick (p x) (x ∷ []) []) l ≡ filter p l
flat_keep p [] = refl
flat_keep p (x ∷ l) = go (two (p x)) (flat_keep p l)
  where
    go : (p x ≡ true) ⊎ (p x ≡ false) → flat (λ x. pick (p x) (x ∷ []) []) l ≡ filter p l → flat (λ x. pick (p x) (x ∷ []) []) (x ∷ l) ≡ filter p (x ∷ l)
    go (inl h) r = rw (h) (ap (λ z. x ∷ z) r)
    go (inr h) r = rw (h) r

-- a list grouped by a key, over a list of different numbers that holds all the keys, is the list
module _ {A : Type 0} where
  group_none : (x : A) (k : ℕ) (g : ℕ → List A) (ns : List ℕ) → (Mem k ns → ⊥) → flat (λ n. pick (eqb k n) (x ∷ g n) (g n)) ns ≡ flat g ns
  group_none x k g [] f = refl
  group_none x k g (a ∷ ns) f = rw (eqb_no {a = k} {b = a} (λ e. f (m_head e))) (ap (λ (z : List A). g a ++ z) (group_none x k g ns (λ m. f (m_tail m))))

  group_add : (x : A) (k : ℕ) (g : ℕ → List A) (ns : List ℕ) → Distinct ns → Mem k ns → Perm (flat (λ n. pick (eqb k n) (x ∷ g n) (g n)) ns) (x ∷ flat g ns)
  group_add x k g [] d x3 = elim x3 [ ]
  group_add x k g (a ∷ ns) d (m_head e) = rw (eqb_yes e) (p_cons refl (perm_left (g a) (perm_eq (group_none x k g ns (λ m. d.0 (mem_cast (sym e) m))))))
  group_add x k g (a ∷ ns) d (m_tail m) =
      rw (eqb_no {a = k} {b = a} (λ e. d.0 (mem_cast (sym e) m))) (p_trans (perm_left (g a) (group_add x k g ns d.1 m)) (perm_middle x (g a) (flat g ns)))

  flat_nothing : (ns : List ℕ) → Perm (flat {A = ℕ} {B = A} (λ n. []) ns) []
  flat_nothing [] = p_nil
  flat_nothing (a ∷ ns) = flat_nothing ns

  pub group : (key : A → ℕ) (ns : List ℕ) (xs : List A) → Distinct ns → ((x : A) → Mem x xs → Mem (key x) ns) → Perm (flat (λ n. filter (λ x. eqb (key x) n) xs) ns) xs
  group key ns [] d h = flat_nothing ns
  group key ns (x ∷ xs) d h = p_trans (group_add x (key x) (λ n. filter (λ y. eqb (key y) n) xs) ns d (h x (m_head refl))) (p_cons refl (group key ns xs d (λ y m. h y (m_tail m))))

  pub keep_both : (p q : A → Bool) (l : List A) → filter (λ x. p x && q x) l ≡ filter p (filter q l)
  keep_both p q [] = refl
  keep_both p q (x ∷ l) = go (two (p x)) (two (q x)) (keep_both p q l)
    where
      go : (p x ≡ true) ⊎ (p x ≡ false) → (q x ≡ true) ⊎ (q x ≡ false) → filter (λ x. p x && q x) l ≡ filter p (filter q l) → filter (λ x. p x && q x) (x ∷ l) ≡ filter p (filter q (x ∷ l))
      go (inl h) (inl i) r = simp (h, i) (ap (λ (z : List A). x ∷ z) r)
      go (inl h) (inr i) r = simp (h, i) r
      go (inr h) (inl i) r = simp (h, i) r
      go (inr h) (inr i) r = simp (h, i) r
