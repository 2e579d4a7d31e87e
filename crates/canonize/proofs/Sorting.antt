-- Byte strings as lists of numbers: the lexicographic order, insertion sort, and that sorting forgets the order and nothing else.
use Rattle.std.proofs.Common.{length, get_or, leb}
use borrow.Author.Tests.{le-ltb, lt-ltb, le-leb, lt-leb}
use Rattle.bitset.proofs.Bools.{two}
use mathlib.Core.Path.{◌≡◌, refl, sym, ap, ap₂, ◌∙◌}
use mathlib.Core.Bool.{true, false}
use mathlib.Core.Logic.{◌⊎◌, inl, inr}
use mathlib.Core.List.Permᴰ.{cons as p_cons}
use mathlib.Core.List.Permᴰ.{nil as p_nil}
use mathlib.Core.List.Permᴰ.{refl as perm_refl}
use mathlib.Core.List.Permᴰ.{swap as p_swap}
use mathlib.Core.List.Permᴰ.{symm as perm_sym}
use mathlib.Core.List.Permᴰ.{trans as p_trans}
use mathlib.Core.List.{List, [], ◌∷◌, Permᴰ as Perm}
use Prim.Native.Nat.{ℕ, ◌<◌}
use native.Mathlib.Omega.{arith}
use Rattle.molecule.proofs.Perms.{Order3, below, same, above, order3, not_both}
use Rattle.canonize.specs.Strings.{insert, lex_le, sort}

-- the order as a statement, and as a test
abbrev pub Lex : List ℕ → List ℕ → Type 0
Lex [] ys = Unit {0}
Lex (x ∷ xs) [] = ⊥
Lex (x ∷ xs) (y ∷ ys) = (x < y) ⊎ ((x ≡ y) × Lex xs ys)

pub lex_refl : (xs : List ℕ) → Lex xs xs
lex_refl [] = tt
lex_refl (x ∷ xs) = inr (refl, lex_refl xs)

pub lex_antisym : (xs ys : List ℕ) → Lex xs ys → Lex ys xs → xs ≡ ys
lex_antisym [] [] p q = refl
lex_antisym [] (y ∷ ys) p q = absurd q
lex_antisym (x ∷ xs) [] p q = absurd p
lex_antisym (x ∷ xs) (y ∷ ys) (inl h) (inl g) = absurd (omega arith)
lex_antisym (x ∷ xs) (y ∷ ys) (inl h) (inr g) = absurd (omega arith)
lex_antisym (x ∷ xs) (y ∷ ys) (inr h) (inl g) = absurd (omega arith)
lex_antisym (x ∷ xs) (y ∷ ys) (inr h) (inr g) = ap₂ ◌∷◌ h.0 (lex_antisym xs ys h.1 g.1)

pub lex_trans : (xs ys zs : List ℕ) → Lex xs ys → Lex ys zs → Lex xs zs
lex_trans [] ys zs p q = tt
lex_trans (x ∷ xs) [] zs p q = absurd p
lex_trans (x ∷ xs) (y ∷ ys) [] p q = absurd q
lex_trans (x ∷ xs) (y ∷ ys) (z ∷ zs) (inl h) (inl g) = inl (omega arith)
lex_trans (x ∷ xs) (y ∷ ys) (z ∷ zs) (inl h) (inr g) = inl (omega arith)
lex_trans (x ∷ xs) (y ∷ ys) (z ∷ zs) (inr h) (inl g) = inl (omega arith)
lex_trans (x ∷ xs) (y ∷ ys) (z ∷ zs) (inr h) (inr g) = inr (h.0 ∙ g.0, lex_trans xs ys zs h.1 g.1)

pub lex_total : (xs ys : List ℕ) → Lex xs ys ⊎ Lex ys xs
lex_total [] ys = inl tt
lex_total (x ∷ xs) [] = inr tt
lex_total (x ∷ xs) (y ∷ ys) = go (order3 x y) (lex_total xs ys)
  where
    go : Order3 x y → Lex xs ys ⊎ Lex ys xs → Lex (x ∷ xs) (y ∷ ys) ⊎ Lex (y ∷ ys) (x ∷ xs)
    go (below h) r = inl (inl h)
    go (above h) r = inr (inl h)
    go (same e) (inl l) = inl (inr (e, l))
    go (same e) (inr l) = inr (inr (sym e, l))

-- the test decides the order
pub lexle_below : (x y : ℕ) (xs ys : List ℕ) → x < y → lex_le (x ∷ xs) (y ∷ ys) ≡ true
unfolding lex_le
lexle_below x y xs ys h = rw (lt-ltb x y h)

pub lexle_above : (x y : ℕ) (xs ys : List ℕ) → y < x → lex_le (x ∷ xs) (y ∷ ys) ≡ false
unfolding lex_le
lexle_above x y xs ys h = rw (le-ltb x y (omega arith), lt-ltb y x h)

pub lexle_same : (x y : ℕ) (xs ys : List ℕ) → x ≡ y → lex_le (x ∷ xs) (y ∷ ys) ≡ lex_le xs ys
unfolding lex_le
lexle_same x y xs ys h = rw (le-ltb x y (omega arith), le-ltb y x (omega arith))

pub lex→lexLe : (xs ys : List ℕ) → Lex xs ys → lex_le xs ys ≡ true
unfolding lex_le
lex→lexLe [] ys p = refl
lex→lexLe (x ∷ xs) [] p = absurd p
lex→lexLe (x ∷ xs) (y ∷ ys) (inl h) = lexle_below x y xs ys h
lex→lexLe (x ∷ xs) (y ∷ ys) (inr h) = lexle_same x y xs ys h.0 ∙ lex→lexLe xs ys h.1

pub lexle→lex : (xs ys : List ℕ) → lex_le xs ys ≡ true → Lex xs ys
unfolding lex_le
lexle→lex [] ys p = tt
lexle→lex (x ∷ xs) [] p = absurd (not_both p refl)
lexle→lex (x ∷ xs) (y ∷ ys) p = go (order3 x y) (lexle→lex xs ys)
  where
    go : Order3 x y → (lex_le xs ys ≡ true → Lex xs ys) → Lex (x ∷ xs) (y ∷ ys)
    go (below h) r = inl h
    go (above h) r = absurd (not_both p (lexle_above x y xs ys h))
    go (same e) r = inr (e, r (sym (lexle_same x y xs ys e) ∙ p))

-- one byte and a string, empty or not
pub byte_none : (e : ℕ) (x : List ℕ) → length x ≡ 0 → lex_le (e ∷ []) x ≡ false
unfolding lex_le
byte_none e [] h = refl
byte_none e (b ∷ x) h = absurd (omega arith)

pub byte_first : (e : ℕ) (x : List ℕ) → 0 < length x → lex_le (e ∷ []) x ≡ leb e (get_or x 0 0)
byte_first e [] h = absurd (omega arith)
byte_first e (b ∷ x) h = go (order3 e b)
  where
    go : Order3 e b → lex_le (e ∷ []) (b ∷ x) ≡ leb e b
    go (below h) = lexle_below e b [] x h ∙ sym (le-leb e b (omega arith))
    go (same h) = lexle_same e b [] x h ∙ lex→lexLe [] x tt ∙ sym (le-leb e b (omega arith))
    go (above h) = lexle_above e b [] x h ∙ sym (lt-leb e b h)

pub lexle_false : (xs ys : List ℕ) → lex_le xs ys ≡ false → Lex ys xs
lexle_false xs ys p = go (lex_total xs ys)
  where
    go : Lex xs ys ⊎ Lex ys xs → Lex ys xs
    go (inl l) = absurd (not_both (lex→lexLe xs ys l) p)
    go (inr l) = l

-- the laws of the order, of the test
pub lexle_refl : (xs : List ℕ) → lex_le xs xs ≡ true
lexle_refl xs = lex→lexLe xs xs (lex_refl xs)

pub lexle_trans : (xs ys zs : List ℕ) → lex_le xs ys ≡ true → lex_le ys zs ≡ true → lex_le xs zs ≡ true
lexle_trans xs ys zs p q = lex→lexLe xs zs (lex_trans xs ys zs (lexle→lex xs ys p) (lexle→lex ys zs q))

pub lexle_turn : (xs ys : List ℕ) → lex_le xs ys ≡ false → lex_le ys xs ≡ true
lexle_turn xs ys p = lex→lexLe ys xs (lexle_false xs ys p)

pub insert_le : (x y : List ℕ) (ys : List (List ℕ)) → lex_le x y ≡ true → insert x (y ∷ ys) ≡ x ∷ y ∷ ys
unfolding insert
insert_le x y ys e = rw e

pub insert_gt : (x y : List ℕ) (ys : List (List ℕ)) → lex_le x y ≡ false → insert x (y ∷ ys) ≡ y ∷ insert x ys
unfolding insert
insert_gt x y ys e = rw e

pub insert_nil : (x : List ℕ) → insert x [] ≡ x ∷ []
unfolding insert
insert_nil x = refl

pub insert_perm : (x : List ℕ) (ys : List (List ℕ)) → Perm (insert x ys) (x ∷ ys)
unfolding insert
insert_perm x [] = perm_refl (x ∷ [])
insert_perm x (y ∷ ys) = go (two (lex_le x y)) (insert_perm x ys)
  where
    go : (lex_le x y ≡ true) ⊎ (lex_le x y ≡ false) → Perm (insert x ys) (x ∷ ys) → Perm (insert x (y ∷ ys)) (x ∷ y ∷ ys)
    go (inl e) r = rw (insert_le x y ys e) (perm_refl (x ∷ y ∷ ys))
    go (inr e) r = rw (insert_gt x y ys e) (p_trans (p_cons refl r) (p_swap refl refl))

pub sort_perm : (xs : List (List ℕ)) → Perm (sort xs) xs
unfolding sort
sort_perm [] = p_nil
sort_perm (x ∷ xs) = p_trans (insert_perm x (sort xs)) (p_cons refl (sort_perm xs))

-- the order of two insertions does not matter
insert_comm_lt : (x y : List ℕ) (zs : List (List ℕ)) → lex_le x y ≡ true → lex_le y x ≡ false → insert x (insert y zs) ≡ insert y (insert x zs)
insert_comm_lt x y [] t f = simp (insert_nil, insert_le, insert_gt)
insert_comm_lt x y (z ∷ zs) t f = go (two (lex_le y z)) (two (lex_le x z)) (insert_comm_lt x y zs t f)
  where
    go : (lex_le y z ≡ true) ⊎ (lex_le y z ≡ false) → (lex_le x z ≡ true) ⊎ (lex_le x z ≡ false) → insert x (insert y zs) ≡ insert y (insert x zs)
        → insert x (insert y (z ∷ zs)) ≡ insert y (insert x (z ∷ zs))
    go (inl a) (inl b) r = simp (insert_le, insert_gt)
    go (inl a) (inr b) r = absurd (not_both (lex→lexLe x z (lex_trans x y z (lexle→lex x y t) (lexle→lex y z a))) b)
    go (inr a) (inl b) r = simp (insert_le, insert_gt)
    go (inr a) (inr b) r = simp (insert_gt, r)

pub insert_comm : (x y : List ℕ) (zs : List (List ℕ)) → insert x (insert y zs) ≡ insert y (insert x zs)
insert_comm x y zs = go (two (lex_le x y)) (two (lex_le y x))
  where
    go : (lex_le x y ≡ true) ⊎ (lex_le x y ≡ false) → (lex_le y x ≡ true) ⊎ (lex_le y x ≡ false) → insert x (insert y zs) ≡ insert y (insert x zs)
    go (inl a) (inl b) = rw (lex_antisym x y (lexle→lex x y a) (lexle→lex y x b))
    go (inl a) (inr b) = insert_comm_lt x y zs a b
    go (inr a) (inl b) = sym (insert_comm_lt y x zs b a)
    go (inr a) (inr b) = absurd (not_both (lex→lexLe x y (lexle_false y x b)) a)

-- sorting forgets the order
pub sort_canonical : {xs ys : List (List ℕ)} → Perm xs ys → sort xs ≡ sort ys
unfolding sort
sort_canonical p_nil = refl
sort_canonical (p_cons e d) = ap₂ insert e (sort_canonical d)
sort_canonical (p_swap {a = a} {b = b} {l = l} e g) = insert_comm a b (sort l) ∙ ap₂ insert g (ap (λ (u : List ℕ). insert u (sort l)) e)
sort_canonical (p_trans d g) = sort_canonical d ∙ sort_canonical g

-- and nothing else
pub perm_of_sort : (xs ys : List (List ℕ)) → sort xs ≡ sort ys → Perm xs ys
perm_of_sort xs ys e = let q : Perm (sort xs) ys = rw e (sort_perm ys) in p_trans (perm_sym (sort_perm xs)) q
