-- Lists of pieces and of numbers: what lies inside, flat lists, sums, sets that are apart, sorting. Assumes nothing.
use mathlib.Core.Path.{◌≡◌, refl, sym, ◌∙◌}
use mathlib.Core.Bool.{Bool, true, false, true≢false}
use mathlib.Core.Logic.{◌⊎◌, inl, inr, ⊎_elim}
use mathlib.Core.List.Memᴰ.{append_cases as mem_cases}
use mathlib.Core.List.Memᴰ.{append_left as mem_left}
use mathlib.Core.List.Memᴰ.{append_right as mem_right}
use mathlib.Core.List.Memᴰ.{cases_cons as mem_cons}
use mathlib.Core.List.Memᴰ.{eq_of_singleton as mem_one}
use mathlib.Core.List.Memᴰ.{head as m_head}
use mathlib.Core.List.Memᴰ.{not-nil}
use mathlib.Core.List.Memᴰ.{tail as m_tail}
use mathlib.Core.List.{List, [], ◌∷◌, ◌++◌, map, flat_map, Memᴰ as Mem}
use Prim.Native.Nat.{ℕ, ◌+◌, ◌-◌, ◌*◌, ◌≤◌}
use native.Mathlib.Omega.{arith}
use lib.Bits.{bit_and}
use lib.Dec.{leb}
use lib.ListN.{length}
use borrow.Author.Tests.{eqb-true, eq-eqb, leb-true, leb-false, le-leb}
use Rattle.bitset.specs.Bits.{Sub, Disjoint, is_sub, size, diff}
use Rattle.bitset.proofs.Bools.{two}
use Rattle.bitset.proofs.Laws.{sub_trans, size_empty, size_minus}
use Rattle.bitset.proofs.Decide.{sets, v, sub, apart}
use Rattle.molecule.specs.Lists.{filter, sort_by}
use Rattle.molecule.specs.Connected.{Apart}
use Rattle.molecule.proofs.Lists.{any_some, any_none, Ordered, ordered_by, sort_ordered}
use Rattle.bounds.specs.Numbers.{sum_of}
use Rattle.bounds.specs.Inner.Removals.{big, Split, InOnePiece, PiecesWithin}
use Rattle.bounds.proofs.Numbers.{sum_append}
use Rattle.bounds.proofs.Steps.{apart_append}
use Rattle.search.specs.State.{inside}
use Rattle.search.specs.Inner.Claims.{Refines}

-- ---- inside a piece

-- where the test is true, a set lies in a piece
pub inside_true : (P : List ℕ) (h : ℕ) → inside P h ≡ true → InOnePiece h P
unfolding inside
inside_true P h e = let w = any_some (is_sub h) P e in (w.0, w.1, eqb-true (bit_and h w.0) h w.2)

-- and where it lies in one, the test is true
pub true_inside : (P : List ℕ) (h : ℕ) → InOnePiece h P → inside P h ≡ true
unfolding inside
true_inside P h i = go (two (inside P h))
  where
    go : (inside P h ≡ true) ⊎ (inside P h ≡ false) → inside P h ≡ true
    go (inl e) = e
    go (inr e) = absurd (true≢false (sym (eq-eqb (bit_and h i.0) h i.2) ∙ any_none (is_sub h) P e i.0 i.1))

-- what is inside X is inside what X refines
pub inside_refines : {X P : List ℕ} (f : ℕ) → Refines X P → InOnePiece f X → InOnePiece f P
inside_refines f h i = let w = h i.0 i.1 in (w.0, w.1, sub_trans f i.0 w.0 i.2 w.2)

-- what is within U stays so
pub refines_within : (U : ℕ) {X P : List ℕ} → Refines X P → PiecesWithin U P → PiecesWithin U X
refines_within U h W x i = let w = h x i in sub_trans x w.0 U w.2 (W w.0 w.1)

-- ---- flat lists

module _ {A B : Type 0} (g : A → List B) where
  -- a member of a flat list comes from one element's list
  pub flat_mem : (P : List A) (c : B) → Mem c (flat_map g P) → (p : A) × Mem p P × Mem c (g p)
  unfolding flat_map
  flat_mem [] c i = absurd (not-nil i)
  flat_mem (p ∷ P) c i = go (mem_cases (g p) i) (flat_mem P c)
    where
      go : Mem c (g p) ⊎ Mem c (flat_map g P) → (Mem c (flat_map g P) → (q : A) × Mem q P × Mem c (g q)) → (q : A) × Mem q (p ∷ P) × Mem c (g q)
      go (inl j) ih = (p, m_head refl, j)
      go (inr j) ih = let w = ih j in (w.0, m_tail w.1, w.2)

  -- and the members of each element's list are there
  pub mem_flat : (P : List A) (p : A) (c : B) → Mem p P → Mem c (g p) → Mem c (flat_map g P)
  unfolding flat_map
  mem_flat [] p c i j = absurd (not-nil i)
  mem_flat (q ∷ P) p c i j = go (mem_cons i) (λ t. mem_flat P p c t j)
    where
      go : (p ≡ q) ⊎ Mem p P → (Mem p P → Mem c (flat_map g P)) → Mem c (g q ++ flat_map g P)
      go (inl e) ih = mem_left (flat_map g P) (rw e at j)
      go (inr t) ih = mem_right (g q) (ih t)

-- functions that agree at each element make one flat list
pub flat_same : {A B : Type 0} (f g : A → List B) (l : List A) → ((x : A) → Mem x l → f x ≡ g x) → flat_map f l ≡ flat_map g l
unfolding flat_map
flat_same f g [] h = refl
flat_same f g (x ∷ l) h = rw (h x (m_head refl), flat_same f g l (λ y m. h y (m_tail m))) refl

-- ---- sums

-- leaving elements out lowers a sum
pub sum_filter : (f : ℕ → ℕ) (p : ℕ → Bool) (l : List ℕ) → sum_of f (filter p l) ≤ sum_of f l
sum_filter f p [] = omega arith
sum_filter f p (x ∷ l) = go (two (p x)) (sum_filter f p l)
  where
    go : (p x ≡ true) ⊎ (p x ≡ false) → sum_of f (filter p l) ≤ sum_of f l → sum_of f (filter p (x ∷ l)) ≤ f x + sum_of f l
    go (inl e) ih = rw e (omega arith)
    go (inr e) ih = rw e (omega arith)

-- and so does putting for each element a list of no larger sum
pub sum_flat : (f : ℕ → ℕ) (g : ℕ → List ℕ) (P : List ℕ) → ((p : ℕ) → Mem p P → sum_of f (g p) ≤ f p) → sum_of f (flat_map g P) ≤ sum_of f P
unfolding flat_map
sum_flat f g [] h = omega arith
sum_flat f g (p ∷ P) h = omega (arith, sum_append f (g p) (flat_map g P), h p (m_head refl), sum_flat f g P (λ q i. h q (m_tail i)))

-- single bonds add nothing to the sum of size less one
pub sum_big : (l : List ℕ) → sum_of (λ (p : ℕ). size p - 1) (big l) ≡ sum_of (λ (p : ℕ). size p - 1) l
sum_big [] = refl
sum_big (x ∷ l) = go (two (leb 2 (size x))) (sum_big l)
  where
    go : (leb 2 (size x) ≡ true) ⊎ (leb 2 (size x) ≡ false) → sum_of (λ (p : ℕ). size p - 1) (big l) ≡ sum_of (λ (p : ℕ). size p - 1) l
        → sum_of (λ (p : ℕ). size p - 1) (big (x ∷ l)) ≡ sum_of (λ (p : ℕ). size p - 1) (x ∷ l)
    go (inl e) ih = rw e (omega arith)
    go (inr e) ih = rw e (omega (arith, leb-false 2 (size x) e))

-- pieces of two bonds or more are at most half as many as their bonds
pub count_two : (P : List ℕ) → ((p : ℕ) → Mem p P → 2 ≤ size p) → 2 * length P ≤ sum_of size P
count_two [] h = omega arith
count_two (p ∷ P) h = omega (arith, h p (m_head refl), count_two P (λ q i. h q (m_tail i)))

-- the parts that a set falls into have as many bonds as it, and so many less with one bond less of each
pub split_count : (l : List ℕ) (s : ℕ) → Split s l → sum_of (λ (p : ℕ). size p - 1) l + length l ≡ size s
split_count [] s h = rw h (sym size_empty)
split_count (a ∷ l) s h = omega (arith, split_count l (diff s a) h.2, size_minus s a h.1, h.0)

-- a sum of what a list is mapped to
pub sum_map : (f g : ℕ → ℕ) (l : List ℕ) → sum_of f (map g l) ≡ sum_of (λ x. f (g x)) l
sum_map f g [] = refl
sum_map f g (x ∷ l) = omega (arith, sum_map f g l)

-- ---- sets that are apart

apart_parts : (p q c d : ℕ) → Disjoint p q → Sub c p → Sub d q → Disjoint c d
apart_parts p q c d = sets (apart (v 0) (v 1) ∷ sub (v 2) (v 0) ∷ sub (v 3) (v 1) ∷ []) (apart (v 2) (v 3)) (p ∷ q ∷ c ∷ d ∷ []) tt

-- parts of sets that are apart are apart, if those of each set are
pub apart_flat : (g : ℕ → List ℕ) (P : List ℕ) → ((p : ℕ) → Mem p P → Apart (g p)) → ((p c : ℕ) → Mem p P → Mem c (g p) → Sub c p) → Apart P → Apart (flat_map g P)
unfolding flat_map
apart_flat g [] h k a = tt
apart_flat g (p ∷ P) h k a =
    apart_append (g p) (flat_map g P) (h p (m_head refl)) (apart_flat g P (λ q i. h q (m_tail i)) (λ q c i j. k q c (m_tail i) j) a.1)
    (λ c d i j.
    let w = flat_mem g P d j in
    apart_parts p w.0 c d (a.0 w.0 w.1) (k p c (m_head refl) i) (k w.0 d (m_tail w.1) w.2))

-- sets of two lists that are apart together: those of each are apart, and so are those of the one from those of the other
pub apart_left : (l m : List ℕ) → Apart (l ++ m) → Apart l
apart_left [] m a = tt
apart_left (x ∷ l) m a = (λ y i. a.0 y (mem_left m i), apart_left l m a.1)

pub apart_right : (l m : List ℕ) → Apart (l ++ m) → Apart m
apart_right [] m a = a
apart_right (x ∷ l) m a = apart_right l m a.1

pub apart_across : (l m : List ℕ) → Apart (l ++ m) → (x y : ℕ) → Mem x l → Mem y m → Disjoint x y
apart_across [] m a x y i j = absurd (not-nil i)
apart_across (z ∷ l) m a x y i j =
    ⊎_elim (λ (e : x ≡ z). rw e (a.0 y (mem_right l j))) (λ (k : Mem x l). apart_across l m a.1 x y k j) (mem_cons i)

pub two_apart : (x y : ℕ) → Disjoint x y → Apart (x ∷ y ∷ [])
two_apart x y d = (λ z i. let e : z ≡ y = mem_one i in rw e d, (λ z i. absurd (not-nil i), tt))

-- ---- a list sorted by a number of each element, the largest first

module _ (f : ℕ → ℕ) where
  abbrev pub down : ℕ → ℕ → Bool
  down x y = leb (f y) (f x)

  pub sorted_down : (l : List ℕ) → Ordered (λ x y. f y ≤ f x) (sort_by down l)
  sorted_down l = ordered_by (λ x y. down x y ≡ true) (λ x y. f y ≤ f x) (sort_by down l) (λ x y e. leb-true (f y) (f x) e) (sort_ordered down total trans l)
    where
      total : (x y : ℕ) → down x y ≡ false → down y x ≡ true
      total x y e = le-leb (f x) (f y) (omega (arith, leb-false (f y) (f x) e))

      trans : (x y z : ℕ) → down x y ≡ true → down y z ≡ true → down x z ≡ true
      trans x y z d e = le-leb (f z) (f x) (omega (arith, leb-true (f y) (f x) d, leb-true (f z) (f y) e))
