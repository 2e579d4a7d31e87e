-- Permutations, membership and lists without repetition; which of two numbers is larger, and tests by their cases. Assumes nothing.
use Rattle.bitset.proofs.Bools.{two}
use mathlib.Core.Path.{◌≡◌, refl, sym, ap, ap₂, subst, ◌∙◌}
use mathlib.Core.Logic.{◌⊎◌, inl, inr}
use mathlib.Core.Bool.{Bool, true, false, not}
use mathlib.Core.List.Memᴰ.{append_left as mem_left}
use mathlib.Core.List.Memᴰ.{append_right as mem_right}
use mathlib.Core.List.Memᴰ.{cast as mem_cast}
use mathlib.Core.List.Memᴰ.{head as m_head}
use mathlib.Core.List.Memᴰ.{map as mem_map}
use mathlib.Core.List.Memᴰ.{tail as m_tail}
use mathlib.Core.List.Permᴰ.{append_left as perm_left}
use mathlib.Core.List.Permᴰ.{append_right as perm_right}
use mathlib.Core.List.Permᴰ.{cons as p_cons}
use mathlib.Core.List.Permᴰ.{middle as perm_middle}
use mathlib.Core.List.Permᴰ.{nil as p_nil}
use mathlib.Core.List.Permᴰ.{refl as perm_refl}
use mathlib.Core.List.Permᴰ.{swap as p_swap}
use mathlib.Core.List.Permᴰ.{symm as perm_sym}
use mathlib.Core.List.Permᴰ.{trans as p_trans}
use mathlib.Core.List.{List, [], ◌∷◌, ◌++◌, map, Memᴰ as Mem, Permᴰ as Perm}
use Prim.Native.Nat.{ℕ, zero, suc, ◌≤◌, ◌<◌}
use native.Mathlib.Omega.{arith}
use native.Mathlib.Decide.{ℕ_discrete, dec_lt}
use lib.ListN.{length}
use lib.Dec.{T, eqb, eqb→eq, eqb_refl}
use Rattle.molecule.specs.Lists.{numbers_from, filter}
use Rattle.molecule.proofs.Lists.{numbers_bounds}

-- which of two numbers is larger
pub data Order3 (x y : ℕ) : Type 0 where
  below : x < y → Order3 x y
  same : x ≡ y → Order3 x y
  above : y < x → Order3 x y

pub order3 : (x y : ℕ) → Order3 x y
order3 x y = one (dec_lt x y) (dec_lt y x)
  where
    one : Dec (x < y) → Dec (y < x) → Order3 x y
    one (yes h) d = below h
    one (no h) (yes g) = above g
    one (no h) (no g) = same (omega arith)

-- ---- tests

abbrev IsTrue : Bool → Type 0
IsTrue true = Unit {0}
IsTrue false = ⊥

pub not_both : {b : Bool} → b ≡ true → b ≡ false → ⊥
not_both p q = subst IsTrue (sym p ∙ q) tt

pub T_true : (b : Bool) → T b → b ≡ true
T_true true t = refl
T_true false t = absurd t

pub T_false : (b : Bool) → (T b → ⊥) → b ≡ false
T_false true f = absurd (f tt)
T_false false f = refl

pub eqb_yes : {a b : ℕ} → a ≡ b → eqb a b ≡ true
eqb_yes {a} {b} e = T_true (eqb a b) (subst (λ (n : ℕ). T (eqb a n)) e (eqb_refl a))

pub eqb_no : {a b : ℕ} → (a ≡ b → ⊥) → eqb a b ≡ false
eqb_no {a} {b} f = T_false (eqb a b) (λ t. f (eqb→eq a b t))

pub bool_iff : (a b : Bool) → (a ≡ true → b ≡ true) → (b ≡ true → a ≡ true) → a ≡ b
bool_iff true b f g = sym (f refl)
bool_iff false true f g = g refl
bool_iff false false f g = refl

-- ---- lists

-- a list with a member is not empty
pub mem_some : {A : Type 0} {x : A} (l : List A) → Mem x l → 1 ≤ length l
mem_some {A = A} [] i = elim i [ ]
mem_some (z ∷ l) i = omega arith

module _ {A : Type 0} where
  pub perm_append : {k l m n : List A} → Perm k l → Perm m n → Perm (k ++ m) (l ++ n)
  perm_append {l = l} {m = m} d e = p_trans (perm_right m d) (perm_left l e)

  pub perm_exchange : (k l m : List A) → Perm (k ++ (l ++ m)) (l ++ (k ++ m))
  perm_exchange [] l m = perm_refl (l ++ m)
  perm_exchange (x ∷ k) l m = p_trans (p_cons refl (perm_exchange k l m)) (perm_sym (perm_middle x l (k ++ m)))

  pub perm_eq : {k l : List A} → k ≡ l → Perm k l
  perm_eq {k} {l} e = rw e (perm_refl l)

  pub perm_length : {k l : List A} → Perm k l → length k ≡ length l
  perm_length p_nil = refl
  perm_length (p_cons e d) = ap suc (perm_length d)
  perm_length (p_swap e g) = refl
  perm_length (p_trans d g) = perm_length d ∙ perm_length g

  pub perm_mem : {x : A} {k l : List A} → Perm k l → Mem x k → Mem x l
  perm_mem p_nil m = elim m [ ]
  perm_mem (p_cons e d) (m_head h) = m_head (h ∙ e)
  perm_mem (p_cons e d) (m_tail m) = m_tail (perm_mem d m)
  perm_mem (p_swap e g) (m_head h) = m_tail (m_head (h ∙ e))
  perm_mem (p_swap e g) (m_tail (m_head h)) = m_head (h ∙ g)
  perm_mem (p_swap e g) (m_tail (m_tail m)) = m_tail (m_tail m)
  perm_mem (p_trans d g) m = perm_mem g (perm_mem d m)

  -- no repetition
  abbrev pub Distinct : List A → Type 0
  Distinct [] = Unit {0}
  Distinct (x ∷ xs) = (Mem x xs → ⊥) × Distinct xs

  pub distinct_left : (k l : List A) → Distinct (k ++ l) → Distinct k
  distinct_left [] l d = tt
  distinct_left (x ∷ k) l d = (λ m. d.0 (mem_left l m), distinct_left k l d.1)

  pub distinct_right : (k l : List A) → Distinct (k ++ l) → Distinct l
  distinct_right [] l d = d
  distinct_right (x ∷ k) l d = distinct_right k l d.1

  pub distinct_apart : (k l : List A) {x : A} → Distinct (k ++ l) → Mem x k → Mem x l → ⊥
  distinct_apart [] l d x5 n = elim x5 [ ]
  distinct_apart (y ∷ k) l d (m_head e) n = d.0 (mem_right k (mem_cast (sym e) n))
  distinct_apart (y ∷ k) l d (m_tail m) n = distinct_apart k l d.1 m n

  pub distinct_perm : {k l : List A} → Perm k l → Distinct k → Distinct l
  distinct_perm p_nil d = d
  distinct_perm (p_cons e p) d = (λ m. d.0 (mem_cast e (perm_mem (perm_sym p) m)), distinct_perm p d.1)
  distinct_perm (p_swap {a = a} {b = b} {a' = a'} {b' = b'} {l = l} e g) d = (go, (λ m. d.0 (m_tail (mem_cast e m)), d.1.1))
    where
      go : Mem a' (b' ∷ l) → ⊥
      go (m_head h) = d.0 (m_head (e ∙ sym h ∙ sym g))
      go (m_tail m) = d.1.0 (mem_cast g m)
  distinct_perm (p_trans p q) d = distinct_perm q (distinct_perm p d)

pub perm_map : {A B : Type 0} (f : A → B) {k l : List A} → Perm k l → Perm (map f k) (map f l)
perm_map f p_nil = p_nil
perm_map f (p_cons e d) = p_cons (ap f e) (perm_map f d)
perm_map f (p_swap e g) = p_swap (ap f e) (ap f g)
perm_map f (p_trans d g) = p_trans (perm_map f d) (perm_map f g)

pub map-append : {A B : Type 0} (f : A → B) (k l : List A) → map f (k ++ l) ≡ map f k ++ map f l
map-append f [] l = refl
map-append f (x ∷ k) l = ap (λ r. f x ∷ r) (map-append f k l)

pub memb : (n : ℕ) (l : List ℕ) → Dec (Mem n l)
memb n [] = no (λ m. elim m [ ])
memb n (x ∷ l) = go (ℕ_discrete n x) (memb n l)
  where
    go : Dec (n ≡ x) → Dec (Mem n l) → Dec (Mem n (x ∷ l))
    go (yes e) d = yes (m_head e)
    go (no f) (yes m) = yes (m_tail m)
    go (no f) (no g) = no (λ m. none m)
      where
        none : Mem n (x ∷ l) → ⊥
        none (m_head e) = f e
        none (m_tail m) = g m

-- a map whose image has no repetition is one to one
pub map_distinct : {A B : Type 0} (f : A → B) {x y : A} {l : List A} → Distinct (map f l) → Mem x l → Mem y l → f x ≡ f y → x ≡ y
map_distinct f d (m_head e) (m_head h) q = e ∙ sym h
map_distinct f d (m_head e) (m_tail n) q = absurd (d.0 (mem_cast (sym (ap f e) ∙ q) (mem_map f n)))
map_distinct f d (m_tail m) (m_head h) q = absurd (d.0 (mem_cast (sym (ap f h) ∙ sym q) (mem_map f m)))
map_distinct f d (m_tail m) (m_tail n) q = map_distinct f d.1 m n q

module _ {A : Type 0} (p : A → Bool) where
  pub keep_perm : {k l : List A} → Perm k l → Perm (filter p k) (filter p l)
  keep_perm p_nil = p_nil
  keep_perm (p_cons {a = a} {b = b} {l₁ = k} {l₂ = l} e d) = go (two (p a)) (keep_perm d)
    where
      go : (p a ≡ true) ⊎ (p a ≡ false) → Perm (filter p k) (filter p l) → Perm (filter p (a ∷ k)) (filter p (b ∷ l))
      go (inl h) r = rw (h, sym (ap p e) ∙ h) (p_cons e r)
      go (inr h) r = rw (h, sym (ap p e) ∙ h) r
  keep_perm (p_swap {a = a} {b = b} {a' = a'} {b' = b'} {l = l} e g) = go (two (p a)) (two (p b))
    where
      go : (p a ≡ true) ⊎ (p a ≡ false) → (p b ≡ true) ⊎ (p b ≡ false) → Perm (filter p (a ∷ b ∷ l)) (filter p (a' ∷ b' ∷ l))
      go (inl h) (inl i) = rw (h, i, sym (ap p e) ∙ h, sym (ap p g) ∙ i) (p_swap e g)
      go (inl h) (inr i) = rw (h, i, sym (ap p e) ∙ h, sym (ap p g) ∙ i) (p_cons e (perm_refl (filter p l)))
      go (inr h) (inl i) = rw (h, i, sym (ap p e) ∙ h, sym (ap p g) ∙ i) (p_cons g (perm_refl (filter p l)))
      go (inr h) (inr i) = rw (h, i, sym (ap p e) ∙ h, sym (ap p g) ∙ i) (perm_refl (filter p l))
  keep_perm (p_trans d g) = p_trans (keep_perm d) (keep_perm g)

  pub keep_mem : {x : A} (l : List A) → Mem x (filter p l) → Mem x l × (p x ≡ true)
  keep_mem {x = x} [] m = elim m [ ]
  keep_mem {x} (y ∷ l) m = go (two (p y)) m (λ n. keep_mem l n)
    where
      at : Mem x (y ∷ filter p l) → (p y ≡ true) → (Mem x (filter p l) → Mem x l × (p x ≡ true)) → Mem x (y ∷ l) × (p x ≡ true)
      at (m_head e) h f = (m_head e, ap p e ∙ h)
      at (m_tail n) h f = let (a, b) = f n in (m_tail a, b)

      go : (p y ≡ true) ⊎ (p y ≡ false) → Mem x (filter p (y ∷ l)) → (Mem x (filter p l) → Mem x l × (p x ≡ true)) → Mem x (y ∷ l) × (p x ≡ true)
      go (inl h) n f = at (rw h at n) h f
      go (inr h) n f = let (a, b) = f (rw h at n) in (m_tail a, b)

  pub keep_intro : {x : A} (l : List A) → Mem x l → p x ≡ true → Mem x (filter p l)
  keep_intro {x = x} [] x3 h = elim x3 [ ]
  keep_intro (y ∷ l) (m_head e) h = rw (sym (ap p e) ∙ h) (m_head e)
  keep_intro {x} (y ∷ l) (m_tail m) h = go (two (p y)) (keep_intro l m h)
    where
      go : (p y ≡ true) ⊎ (p y ≡ false) → Mem x (filter p l) → Mem x (filter p (y ∷ l))
      go (inl i) n = rw i (m_tail n)
      go (inr i) n = rw i n

pub keep_map : {A B : Type 0} (f : A → B) (p : A → Bool) (q : B → Bool) (l : List A) → ((x : A) → Mem x l → q (f x) ≡ p x)
    → filter q (map f l) ≡ map f (filter p l)
keep_map f p q [] h = refl
keep_map f p q (x ∷ l) h = go (two (p x)) (keep_map f p q l (λ y m. h y (m_tail m)))
  where
    go : (p x ≡ true) ⊎ (p x ≡ false) → filter q (map f l) ≡ map f (filter p l) → filter q (map f (x ∷ l)) ≡ map f (filter p (x ∷ l))
    go (inl i) r = rw (i, h x (m_head refl) ∙ i, r)
    go (inr i) r = rw (i, h x (m_head refl) ∙ i, r)

pub keep_same : {A : Type 0} (p q : A → Bool) (l : List A) → ((x : A) → Mem x l → p x ≡ q x) → filter p l ≡ filter q l
keep_same p q [] h = refl
keep_same p q (x ∷ l) h = go (two (q x)) (keep_same p q l (λ y m. h y (m_tail m)))
  where
    go : (q x ≡ true) ⊎ (q x ≡ false) → filter p l ≡ filter q l → filter p (x ∷ l) ≡ filter q (x ∷ l)
    go (inl i) r = rw (i, h x (m_head refl) ∙ i, r)
    go (inr i) r = rw (i, h x (m_head refl) ∙ i, r)

pub keep_split : {A : Type 0} (p : A → Bool) (l : List A) → Perm l (filter (λ x. not (p x)) l ++ filter p l)
keep_split p [] = p_nil
keep_split p (x ∷ l) = go (two (p x)) (keep_split p l)
  where
    go : (p x ≡ true) ⊎ (p x ≡ false) → Perm l (filter (λ x. not (p x)) l ++ filter p l) → Perm (x ∷ l) (filter (λ x. not (p x)) (x ∷ l) ++ filter p (x ∷ l))
    go (inl i) r = rw i (p_trans (p_cons refl r) (perm_sym (perm_middle x (filter (λ x. not (p x)) l) (filter p l))))
    go (inr i) r = rw i (p_cons refl r)

pub keep_distinct : {A : Type 0} (p : A → Bool) (l : List A) → Distinct l → Distinct (filter p l)
keep_distinct p [] d = tt
keep_distinct {A} p (x ∷ l) d = go (two (p x)) (keep_distinct p l d.1)
  where
    go : (p x ≡ true) ⊎ (p x ≡ false) → Distinct (filter p l) → Distinct (filter p (x ∷ l))
    go (inl i) r = rw i (λ m. d.0 (keep_mem p l m).0, r)
    go (inr i) r = rw i r

pub map_agree : {A B : Type 0} (f g : A → B) (l : List A) → ((x : A) → Mem x l → f x ≡ g x) → map f l ≡ map g l
map_agree f g [] h = refl
map_agree f g (x ∷ l) h = ap₂ ◌∷◌ (h x (m_head refl)) (map_agree f g l (λ y m. h y (m_tail m)))

-- one element taken out of a list, and what is left
pub data Out {A : Type 0} (x : A) : List A → List A → Type 0 where
  first : {y : A} {ys : List A} → x ≡ y → Out x (y ∷ ys) ys
  later : {y : A} {ys zs : List A} → Out x ys zs → Out x (y ∷ ys) (y ∷ zs)

pub out_perm : {A : Type 0} {x : A} {ys zs : List A} → Out x ys zs → Perm (x ∷ zs) ys
out_perm (first {ys = ys} e) = p_cons e (perm_refl ys)
out_perm (later o) = p_trans (p_swap refl refl) (p_cons refl (out_perm o))

-- a permutation takes what is out of one list out of the other
pub perm_out : {A : Type 0} {x : A} {xs ys xs' : List A} → Perm xs ys → Out x xs xs' → (ys' : List A) × Out x ys ys' × Perm xs' ys'
perm_out p_nil o = elim o [ ]
perm_out (p_cons {l₂ = l₂} e d) (first g) = (l₂, first (g ∙ e), d)
perm_out (p_cons {b = b} e d) (later o) = let (zs, o', d') = perm_out d o in (b ∷ zs, later o', p_cons e d')
perm_out (p_swap {a' = a'} {l = l} e g) (first h) = (a' ∷ l, later (first (h ∙ e)), p_cons g (perm_refl l))
perm_out (p_swap {b' = b'} {l = l} e g) (later (first h)) = (b' ∷ l, first (h ∙ g), p_cons e (perm_refl l))
perm_out (p_swap {a' = a'} {b' = b'} e g) (later (later {zs = zs} o)) = (a' ∷ b' ∷ zs, later (later o), p_swap e g)
perm_out (p_trans d g) o = let (zs, o', d') = perm_out d o in let (ws, o'', d'') = perm_out g o' in (ws, o'', p_trans d' d'')

pub perm_cons : {A : Type 0} {x : A} {xs ys : List A} → Perm (x ∷ xs) ys → (ys' : List A) × Out x ys ys' × Perm xs ys'
perm_cons d = perm_out d (first refl)

pub perm_nil : {A : Type 0} {ys : List A} → Perm [] ys → ys ≡ []
perm_nil {ys = ys} d = go ys d
  where
    go : {A : Type 0} (zs : List A) → Perm [] zs → zs ≡ []
    go [] e = refl
    go (z ∷ zs) e = let (ws, o, f) = perm_out (perm_sym e) (first refl) in absurd (elim o [ ])

-- a list without repetition is no longer than one that holds its elements
pub mem_out : {A : Type 0} {x : A} (l : List A) → Mem x l → (r : List A) × Out x l r
mem_out {A = A} [] x'' = elim x'' [ ]
mem_out (y ∷ l) (m_head e) = (l, first e)
mem_out (y ∷ l) (m_tail m) = let (r, o) = mem_out l m in (y ∷ r, later o)

pub distinct_le : {A : Type 0} (k l : List A) → Distinct k → ((x : A) → Mem x k → Mem x l) → length k ≤ length l
distinct_le [] l d h = omega arith
distinct_le {A} (x ∷ k) l d h =
    let (r, o) = mem_out l (h x (m_head refl)) in
    let p : Perm (x ∷ r) l = out_perm o in
    let i : length k ≤ length r = distinct_le k r d.1 (λ y m. rest r y m (perm_mem (perm_sym p) (h y (m_tail m)))) in
    omega (arith, perm_length p)
  where
    rest : (r : List A) (y : A) → Mem y k → Mem y (x ∷ r) → Mem y r
    rest r y m (m_head e) = absurd (d.0 (mem_cast (sym e) m))
    rest r y m (m_tail n) = n

-- ---- the numbers from k on

pub numbers_length : (n k : ℕ) → length (numbers_from k n) ≡ n
unfolding numbers_from
numbers_length zero k = refl
numbers_length (suc n) k = ap suc (numbers_length n (suc k))

pub numbers_distinct : (n k : ℕ) → Distinct (numbers_from k n)
unfolding numbers_from
numbers_distinct zero k = tt
numbers_distinct (suc n) k = (λ m. let h = numbers_bounds n (suc k) m in omega arith, numbers_distinct n (suc k))
