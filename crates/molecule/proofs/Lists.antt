-- Lists: the values of a function, members and their places, tests, sorting, and a list that is written from its front. Assumes nothing.
use mathlib.Core.Path.{◌≡◌, refl, ap, ap₂, sym, subst, ◌∙◌}
use mathlib.Core.Logic.{◌⊎◌, inl, inr, ⊎_elim}
use mathlib.Core.Bool.{Bool, true, false, false≢true, true≢false}
use mathlib.Core.List.Memᴰ.{append_cases as mem_cases}
use mathlib.Core.List.Memᴰ.{cases_cons as mem_cons}
use mathlib.Core.List.Memᴰ.{cast as mem_cast}
use mathlib.Core.List.Memᴰ.{head as m_head}
use mathlib.Core.List.Memᴰ.{not-nil}
use mathlib.Core.List.Memᴰ.{of_map as mem_of_map}
use mathlib.Core.List.Memᴰ.{tail as m_tail}
use mathlib.Core.List.Permᴰ.{cons as p_cons}
use mathlib.Core.List.Permᴰ.{nil as p_nil}
use mathlib.Core.List.Permᴰ.{refl as perm_refl}
use mathlib.Core.List.Permᴰ.{swap as p_swap}
use mathlib.Core.List.Permᴰ.{trans as p_trans}
use mathlib.Core.List.{List, [], ◌∷◌, ◌++◌, map, append_assoc, Memᴰ as Mem, Permᴰ as Perm}
use Prim.Native.Nat.{ℕ, zero, suc, ◌+◌, ◌≤◌, ◌<◌}
use native.Mathlib.Omega.{arith}
use native.Mathlib.Numerals.{add-one}
use native.Mathlib.Decide.{ℕ_discrete}
use lib.ListN.{replicate, get_or, set, drop, length, length-append, length-drop}
use lib.Seq.{drop-cons, set_at}
use Rattle.bitset.proofs.Bools.{two}
use Rattle.molecule.specs.Lists.{numbers_from, list_from, filter, any, fold, insert_by, sort_by}

module _ {A : Type 0} (f : ℕ → A) where
  pub length_list : (k n : ℕ) → length (list_from f k n) ≡ n
  unfolding numbers_from
  length_list k zero = refl
  length_list k (suc n) = ap suc (length_list (suc k) n)

  pub list_at : (k n i : ℕ) (d : A) → i < n → get_or (list_from f k n) i d ≡ f (k + i)
  unfolding numbers_from
  list_at k zero i d h = absurd (omega arith)
  list_at k (suc n) zero d h = ap f (omega arith)
  list_at k (suc n) (suc i) d h = list_at (suc k) n i d (omega arith) ∙ ap f (omega arith)

-- every element of a list of zeros, and what is read past its end
pub zeros_at : (n i : ℕ) → get_or (replicate {A = ℕ} n 0) i 0 ≡ 0
zeros_at zero i = refl
zeros_at (suc n) zero = refl
zeros_at (suc n) (suc i) = zeros_at n i

-- ---- members and their places

module _ {A : Type 0} (d : A) where
  pub mem_at : {x : A} {l : List A} → Mem x l → (i : ℕ) × (i < length l) × (get_or l i d ≡ x)
  mem_at (m_head e) = (0, omega arith, sym e)
  mem_at (m_tail m) = let w = mem_at m in (suc w.0, omega arith, w.2)

  pub at_mem : (l : List A) (i : ℕ) → i < length l → Mem (get_or l i d) l
  at_mem [] i h = absurd (omega arith)
  at_mem (x ∷ l) zero h = m_head refl
  at_mem (x ∷ l) (suc i) h = m_tail (at_mem l i (omega arith))

pub map_at : {A B : Type 0} (f : A → B) (d : A) (e : B) (l : List A) (i : ℕ) → i < length l → get_or (map f l) i e ≡ f (get_or l i d)
map_at f d e [] i h = absurd (omega arith)
map_at f d e (x ∷ l) zero h = refl
map_at f d e (x ∷ l) (suc i) h = map_at f d e l i (omega arith)

-- ---- some element passes a test, or none does

module _ {A : Type 0} (p : A → Bool) where
  pub any_some : (l : List A) → any p l ≡ true → (x : A) × Mem x l × (p x ≡ true)
  any_some [] e = absurd (false≢true e)
  any_some (y ∷ l) e = go (two (p y)) (any_some l)
    where
      go : (p y ≡ true) ⊎ (p y ≡ false) → (any p l ≡ true → (x : A) × Mem x l × (p x ≡ true)) → (x : A) × Mem x (y ∷ l) × (p x ≡ true)
      go (inl h) ih = (y, m_head refl, h)
      go (inr h) ih = let w = ih (rw h at e) in (w.0, m_tail w.1, w.2)

  pub any_none : (l : List A) → any p l ≡ false → (x : A) → Mem x l → p x ≡ false
  any_none [] e x m = absurd (not-nil m)
  any_none (y ∷ l) e x m = go (two (p y)) (any_none l)
    where
      go : (p y ≡ true) ⊎ (p y ≡ false) → (any p l ≡ false → (x : A) → Mem x l → p x ≡ false) → p x ≡ false
      go (inl h) ih = absurd (true≢false (rw h at e))
      go (inr h) ih = ⊎_elim (λ (q : x ≡ y). ap p q ∙ h) (λ (n : Mem x l). ih (rw h at e) x n) (mem_cons m)

-- ---- sorting

-- each element stands in R to all that follow it
abbrev pub Ordered : {A : Type 0} → (A → A → Type 0) → List A → Type 0
Ordered R [] = Unit {0}
Ordered {A} R (x ∷ l) = ((y : A) → Mem y l → R x y) × Ordered R l

pub ordered_append : {A : Type 0} (R : A → A → Type 0) (k l : List A) → Ordered R k → Ordered R l → ((x y : A) → Mem x k → Mem y l → R x y) → Ordered R (k ++ l)
ordered_append R [] l a b h = b
ordered_append R (x ∷ k) l a b h = (λ y m. ⊎_elim (a.0 y) (h x y (m_head refl)) (mem_cases k m), ordered_append R k l a.1 b (λ z y m n. h z y (m_tail m) n))

pub ordered_all : {A : Type 0} (R : A → A → Type 0) (l : List A) → ((x y : A) → Mem x l → Mem y l → R x y) → Ordered R l
ordered_all R [] h = tt
ordered_all R (x ∷ l) h = (λ y m. h x y (m_head refl) (m_tail m), ordered_all R l (λ y z m n. h y z (m_tail m) (m_tail n)))

pub ordered_by : {A : Type 0} (R S : A → A → Type 0) (l : List A) → ((x y : A) → R x y → S x y) → Ordered R l → Ordered S l
ordered_by R S [] f o = tt
ordered_by R S (x ∷ l) f o = (λ y m. f x y (o.0 y m), ordered_by R S l f o.1)

pub ordered_map : {A B : Type 0} (R : B → B → Type 0) (f : A → B) (l : List A) → Ordered (λ x y. R (f x) (f y)) l → Ordered R (map f l)
ordered_map R f [] o = tt
ordered_map R f (x ∷ l) o = (λ y m. let w = mem_of_map f l m in subst (R (f x)) w.2 (o.0 w.0 w.1), ordered_map R f l o.1)

pub ordered_keep : {A : Type 0} (R : A → A → Type 0) (p : A → Bool) (l : List A) → Ordered R l → Ordered R (filter p l)
ordered_keep R p [] o = tt
ordered_keep {A} R p (x ∷ l) o = go (two (p x)) (ordered_keep R p l o.1)
  where
    kept : (l : List A) {y : A} → Mem y (filter p l) → Mem y l
    kept [] m = m
    kept (z ∷ l) {y} m = at (two (p z)) (λ (n : Mem y (filter p l)). kept l n)
      where
        at : (p z ≡ true) ⊎ (p z ≡ false) → (Mem y (filter p l) → Mem y l) → Mem y (z ∷ l)
        at (inl e) f = ⊎_elim (λ (q : y ≡ z). m_head q) (λ (n : Mem y (filter p l)). m_tail (f n)) (mem_cons (rw e at m))
        at (inr e) f = m_tail (f (rw e at m))

    go : (p x ≡ true) ⊎ (p x ≡ false) → Ordered R (filter p l) → Ordered R (filter p (x ∷ l))
    go (inl e) r = rw e (λ y m. o.0 y (kept l m), r)
    go (inr e) r = rw e r

pub ordered_at : {A : Type 0} (R : A → A → Type 0) (d : A) (l : List A) → Ordered R l → (i j : ℕ) → i < j → j < length l → R (get_or l i d) (get_or l j d)
ordered_at R d [] o i j a b = absurd (omega arith)
ordered_at R d (x ∷ l) o i zero a b = absurd (omega arith)
ordered_at R d (x ∷ l) o zero (suc j) a b = o.0 (get_or l j d) (at_mem d l j (omega arith))
ordered_at R d (x ∷ l) o (suc i) (suc j) a b = ordered_at R d l o.1 i j (omega arith) (omega arith)

-- lists so ordered, by an R that goes one way only, are one where their members are
pub ordered_same : {A : Type 0} (R : A → A → Type 0) → ((x y : A) → R x y → R y x → ⊥) → (k l : List A) → Ordered R k → Ordered R l → ((x : A) → Mem x k → Mem x l) → ((x : A) → Mem x l → Mem x k) → k ≡ l
ordered_same R one [] [] a b f g = refl
ordered_same R one [] (y ∷ l) a b f g = absurd (not-nil (g y (m_head refl)))
ordered_same R one (x ∷ k) [] a b f g = absurd (not-nil (f x (m_head refl)))
ordered_same {A} R one (x ∷ k) (y ∷ l) a b f g = ap₂ ◌∷◌ e (ordered_same R one k l a.1 b.1 there back)
  where
    e : x ≡ y
    e = go (mem_cons (f x (m_head refl))) (mem_cons (g y (m_head refl)))
      where
        go : (x ≡ y) ⊎ Mem x l → (y ≡ x) ⊎ Mem y k → x ≡ y
        go (inl q) n = q
        go (inr m) (inl q) = sym q
        go (inr m) (inr n) = absurd (one x y (a.0 y n) (b.0 x m))

    there : (z : A) → Mem z k → Mem z l
    there z m = go (mem_cons (f z (m_tail m)))
      where
        go : (z ≡ y) ⊎ Mem z l → Mem z l
        go (inl q) = absurd (let w : R x x = a.0 x (mem_cast (e ∙ sym q) m) in one x x w w)
        go (inr n) = n

    back : (z : A) → Mem z l → Mem z k
    back z m = go (mem_cons (g z (m_tail m)))
      where
        go : (z ≡ x) ⊎ Mem z k → Mem z k
        go (inl q) = absurd (let w : R y y = b.0 y (mem_cast (sym e ∙ sym q) m) in one y y w w)
        go (inr n) = n

module _ {A : Type 0} (le : A → A → Bool) where
  insert_perm : (x : A) (l : List A) → Perm (insert_by le x l) (x ∷ l)
  unfolding insert_by
  insert_perm x [] = perm_refl (x ∷ [])
  insert_perm x (y ∷ l) = go (two (le x y)) (insert_perm x l)
    where
      go : (le x y ≡ true) ⊎ (le x y ≡ false) → Perm (insert_by le x l) (x ∷ l) → Perm (insert_by le x (y ∷ l)) (x ∷ y ∷ l)
      go (inl e) r = rw e (perm_refl (x ∷ y ∷ l))
      go (inr e) r = rw e (p_trans (p_cons refl r) (p_swap refl refl))

  -- sorting keeps the elements
  pub sort_perm : (l : List A) → Perm (sort_by le l) l
  unfolding sort_by
  sort_perm [] = p_nil
  sort_perm (x ∷ l) = p_trans (insert_perm x (sort_by le l)) (p_cons refl (sort_perm l))

  insert_in : (a : A) (l : List A) {x : A} → Mem x (insert_by le a l) → (x ≡ a) ⊎ Mem x l
  unfolding insert_by
  insert_in a [] m = mem_cons m
  insert_in a (y ∷ l) {x} m = go (two (le a y)) (λ (n : Mem x (insert_by le a l)). insert_in a l n)
    where
      go : (le a y ≡ true) ⊎ (le a y ≡ false) → (Mem x (insert_by le a l) → (x ≡ a) ⊎ Mem x l) → (x ≡ a) ⊎ Mem x (y ∷ l)
      go (inl e) ih = mem_cons (rw e at m)
      go (inr e) ih = ⊎_elim (λ (q : x ≡ y). inr (m_head q)) (λ (n : Mem x (insert_by le a l)). ⊎_elim (λ q. inl q) (λ o. inr (m_tail o)) (ih n)) (mem_cons (rw e at m))

  -- and orders them, where le is total and transitive
  module _ (total : (x y : A) → le x y ≡ false → le y x ≡ true) (trans : (x y z : A) → le x y ≡ true → le y z ≡ true → le x z ≡ true) where
    insert_ordered : (a : A) (l : List A) → Ordered (λ x y. le x y ≡ true) l → Ordered (λ x y. le x y ≡ true) (insert_by le a l)
    unfolding insert_by
    insert_ordered a [] o = (λ y m. absurd (not-nil m), tt)
    insert_ordered a (x ∷ l) o = go (two (le a x)) (insert_ordered a l o.1)
      where
        go : (le a x ≡ true) ⊎ (le a x ≡ false) → Ordered (λ x y. le x y ≡ true) (insert_by le a l) → Ordered (λ x y. le x y ≡ true) (insert_by le a (x ∷ l))
        go (inl e) ih = rw e (λ y m. ⊎_elim (λ (q : y ≡ x). ap (le a) q ∙ e) (λ (n : Mem y l). trans a x y e (o.0 y n)) (mem_cons m), o)
        go (inr e) ih = rw e (λ y m. ⊎_elim (λ (q : y ≡ a). ap (le x) q ∙ total a x e) (λ (n : Mem y l). o.0 y n) (insert_in a l m), ih)

    pub sort_ordered : (l : List A) → Ordered (λ x y. le x y ≡ true) (sort_by le l)
    unfolding sort_by
    sort_ordered [] = tt
    sort_ordered (x ∷ l) = insert_ordered x (sort_by le l) (sort_ordered l)

-- ---- a list written from its front

-- now is old with the k elements of done at its front
pub record Front {A : Type 0} (old now : List A) (k : ℕ) (done : List A) : Type 0 where
  pub count : length done ≡ k
  pub is : now ≡ done ++ drop k old

pub front_start : {A : Type 0} (old : List A) → Front old old 0 []
front_start old = record { count = refl; is = refl }

pub front_put : {A : Type 0} (old now : List A) (k : ℕ) (done : List A) (x : A) → Front old now k done → k < length old → Front old (set now k x) (k + 1) (done ++ (x ∷ []))
front_put old now k done x w h = record {
  count = length-append done (x ∷ []) ∙ omega (arith, w.count);
  is = rw (w.is, drop-cons old k x h, set_at done (get_or old k x) (drop (suc k) old) x k w.count, add-one k) (sym (append_assoc done (x ∷ []) (drop (suc k) old)));
}

pub front_length : {A : Type 0} {old now : List A} {k : ℕ} {done : List A} → Front old now k done → k ≤ length old → length now ≡ length old
front_length {old = old} {k = k} {done = done} w h = ap length w.is ∙ simp (length-append, length-drop) (omega (arith, w.count))

-- ---- a fold, by functions that agree at each element

pub fold_same : {A B : Type 0} (f g : B → A → B) (l : List A) → ((x : A) → Mem x l → (b : B) → f b x ≡ g b x) → (b : B) → fold f b l ≡ fold g b l
fold_same f g [] h b = refl
fold_same f g (x ∷ l) h b = ap (λ z. fold f z l) (h x (m_head refl) b) ∙ fold_same f g l (λ y m. h y (m_tail m)) (g b x)

-- ---- the numbers from k on

pub numbers_none : (k : ℕ) → numbers_from k 0 ≡ []
unfolding numbers_from
numbers_none k = refl

pub numbers_more : (k n : ℕ) → numbers_from k (suc n) ≡ k ∷ numbers_from (suc k) n
unfolding numbers_from
numbers_more k n = refl

-- they are from k to below k + n
pub numbers_bounds : (n k : ℕ) {i : ℕ} → Mem i (numbers_from k n) → (k ≤ i) × (i < k + n)
unfolding numbers_from
numbers_bounds zero k m = absurd (not-nil m)
numbers_bounds (suc n) k (m_head e) = (omega arith, omega arith)
numbers_bounds (suc n) k (m_tail m) = let h = numbers_bounds n (suc k) m in (omega (arith, h.0), omega (arith, h.1))

-- and each of these is one
pub numbers_mem : (n k i : ℕ) → k ≤ i → i < k + n → Mem i (numbers_from k n)
unfolding numbers_from
numbers_mem zero k i a b = absurd (omega arith)
numbers_mem (suc n) k i a b = go (ℕ_discrete i k) (numbers_mem n (suc k) i)
  where
    go : Dec (i ≡ k) → (suc k ≤ i → i < suc k + n → Mem i (numbers_from (suc k) n)) → Mem i (k ∷ numbers_from (suc k) n)
    go (yes e) r = m_head e
    go (no d) r = m_tail (r (omega arith) (omega arith))
