-- Lists of sets: noting a set that may be there, the number of a node, and matches in descending order. Assumes nothing.
use mathlib.Core.Path.{◌≡◌, refl, sym, ap, ◌∙◌, subst}
use mathlib.Core.Logic.{◌⊎◌, inl, inr, ⊎_elim}
use mathlib.Core.Bool.{Bool, true, false, ◌&&◌, true≢false}
use mathlib.Core.List.Memᴰ.{append_cases as mem_cases}
use mathlib.Core.List.Memᴰ.{append_left as mem_left}
use mathlib.Core.List.Memᴰ.{append_right as mem_right}
use mathlib.Core.List.Memᴰ.{cast as mem_cast}
use mathlib.Core.List.Memᴰ.{eq_of_singleton as mem_one}
use mathlib.Core.List.Memᴰ.{head as m_head}
use mathlib.Core.List.Memᴰ.{not-nil}
use mathlib.Core.List.Memᴰ.{tail as m_tail}
use mathlib.Core.List.{List, [], ◌∷◌, ◌++◌, append-nil, Memᴰ as Mem}
use Prim.Native.Nat.{ℕ, zero, suc, ◌≤◌, ◌<◌}
use native.Mathlib.Omega.{arith}
use native.Mathlib.Decide.{dec_lt}
use lib.ListN.{length, get_or}
use lib.Dec.{ltb, leb, eqb}
use borrow.Author.Tests.{eqb-true, eqb-false, eq-eqb, ltb-true, lt-ltb, leb-true, le-leb}
use Rattle.bitset.proofs.Bools.{two, or_true, or_left, or_right, and_true}
use Rattle.molecule.specs.Lists.{any, fold, sort_by}
use Rattle.molecule.proofs.Lists.{mem_at, at_mem, any_some, any_none, Ordered, sort_ordered}
use Rattle.molecule.proofs.Scans.{first_hit, first_none}
use Rattle.molecule.proofs.Perms.{Distinct}
use Rattle.matches.specs.Table.{Match, note, number_of, not_below}

-- ---- lists without repetition

module _ {A : Type 0} where
  pub distinct_append : (l k : List A) → Distinct l → Distinct k → ((x : A) → Mem x l → Mem x k → ⊥) → Distinct (l ++ k)
  distinct_append [] k a b h = b
  distinct_append (x ∷ l) k a b h = (λ m. ⊎_elim a.0 (h x (m_head refl)) (mem_cases l m), distinct_append l k a.1 b (λ y m n. h y (m_tail m) n))

  pub distinct_at : (d : A) (l : List A) → Distinct l → (i j : ℕ) → i < length l → j < length l → get_or l i d ≡ get_or l j d → i ≡ j
  distinct_at d [] a i j h k e = absurd (omega arith)
  distinct_at d (x ∷ l) a zero zero h k e = refl
  distinct_at d (x ∷ l) a zero (suc j) h k e = absurd (a.0 (mem_cast e (at_mem d l j (omega arith))))
  distinct_at d (x ∷ l) a (suc i) zero h k e = absurd (a.0 (mem_cast (sym e) (at_mem d l i (omega arith))))
  distinct_at d (x ∷ l) a (suc i) (suc j) h k e = ap suc (distinct_at d l a.1 i j (omega arith) (omega arith) e)

-- ---- the number of a node

pub number_is : (l : List ℕ) (x : ℕ) → Mem x l → (number_of l x < length l) × (get_or l (number_of l x) 0 ≡ x)
unfolding number_of
number_is l x m = go (dec_lt (number_of l x) (length l))
  where
    p : ℕ → Bool
    p k = eqb (get_or l k 0) x

    w : (i : ℕ) × (i < length l) × (get_or l i 0 ≡ x)
    w = mem_at 0 m

    go : Dec (number_of l x < length l) → (number_of l x < length l) × (get_or l (number_of l x) 0 ≡ x)
    go (yes h) = (h, eqb-true (get_or l (number_of l x) 0) x (first_hit p (length l) h))
    go (no h) = absurd (true≢false (sym (eq-eqb (get_or l w.0 0) x w.2) ∙ first_none p (length l) w.0 (omega arith) w.1))

-- where no element stands twice, an element's number is where it stands
pub number_at : (l : List ℕ) → Distinct l → (k : ℕ) → k < length l → number_of l (get_or l k 0) ≡ k
number_at l d k h = let w = number_is l (get_or l k 0) (at_mem 0 l k h) in distinct_at 0 l d (number_of l (get_or l k 0)) k w.0 h w.1

-- ---- noting

-- the list with something at its end, which is x; and x is there
pub note_grows : (l : List ℕ) (x : ℕ) → (e : List ℕ) × (note l x ≡ l ++ e) × ((y : ℕ) → Mem y e → y ≡ x) × Mem x (note l x) × (Distinct l → Distinct (note l x))
unfolding note
note_grows l x = go (two (any (eqb x) l))
  where
    go : (any (eqb x) l ≡ true) ⊎ (any (eqb x) l ≡ false) → (e : List ℕ) × (note l x ≡ l ++ e) × ((y : ℕ) → Mem y e → y ≡ x) × Mem x (note l x) × (Distinct l → Distinct (note l x))
    go (inl h) =
        let w = any_some (eqb x) l h in
        ([], rw (h, note) (sym (append-nil l)), λ y m. absurd (not-nil m), rw (h, note) (mem_cast (eqb-true x w.0 w.2) w.1), λ d. rw (h, note) d)
    go (inr h) = (
      x ∷ [],
      rw (h, note) refl,
      λ y m. mem_one m,
      rw (h, note) (mem_right l (m_head refl)),
      λ d. rw (h, note) (distinct_append l (x ∷ []) d (λ m. not-nil m, tt) (λ y m n. eqb-false x y (any_none (eqb x) l h y m) (sym (mem_one n)))),
    )

pub note_old : (l : List ℕ) (x y : ℕ) → Mem y l → Mem y (note l x)
note_old l x y m = let w = note_grows l x in subst (Mem y) (sym w.1) (mem_left w.0 m)

pub note_new : (l : List ℕ) (x : ℕ) → Mem x (note l x)
note_new l x = (note_grows l x).3

pub note_distinct : (l : List ℕ) (x : ℕ) → Distinct l → Distinct (note l x)
note_distinct l x = (note_grows l x).4

note_in : (l : List ℕ) (x y : ℕ) → Mem y (note l x) → (y ≡ x) ⊎ Mem y l
note_in l x y m = let w = note_grows l x in ⊎_elim (λ k. inr k) (λ k. inl (w.2 y k)) (mem_cases l (subst (Mem y) w.1 m))

notes_in : (xs l : List ℕ) (y : ℕ) → Mem y (fold note l xs) → Mem y l ⊎ Mem y xs
notes_in [] l y m = inl m
notes_in (x ∷ xs) l y m = go (notes_in xs (note l x) y m)
  where
    go : Mem y (note l x) ⊎ Mem y xs → Mem y l ⊎ Mem y (x ∷ xs)
    go (inl k) = ⊎_elim (λ e. inr (m_head e)) (λ o. inl o) (note_in l x y k)
    go (inr k) = inr (m_tail k)

notes_old : (xs l : List ℕ) (y : ℕ) → Mem y l → Mem y (fold note l xs)
notes_old [] l y m = m
notes_old (x ∷ xs) l y m = notes_old xs (note l x) y (note_old l x y m)

notes_has : {y : ℕ} {xs : List ℕ} (l : List ℕ) → Mem y xs → Mem y (fold note l xs)
notes_has {y} l (m_head {x = x} {xs = xs} e) = notes_old xs (note l x) y (mem_cast e (note_new l x))
notes_has {y} l (m_tail {x = x} {xs = xs} m) = notes_has (note l x) m

notes_distinct : (xs l : List ℕ) → Distinct l → Distinct (fold note l xs)
notes_distinct [] l d = d
notes_distinct (x ∷ xs) l d = notes_distinct xs (note l x) (note_distinct l x d)

-- the lists f p of all p, noted
module _ (f : ℕ → List ℕ) where
  abbrev noted : List ℕ → List ℕ → List ℕ
  noted l ps = fold (λ found p. fold note found (f p)) l ps

  pub all_in : (ps l : List ℕ) (y : ℕ) → Mem y (noted l ps) → Mem y l ⊎ ((p : ℕ) × Mem p ps × Mem y (f p))
  all_in [] l y m = inl m
  all_in (p ∷ ps) l y m = go (all_in ps (fold note l (f p)) y m)
    where
      go : Mem y (fold note l (f p)) ⊎ ((q : ℕ) × Mem q ps × Mem y (f q)) → Mem y l ⊎ ((q : ℕ) × Mem q (p ∷ ps) × Mem y (f q))
      go (inl k) = ⊎_elim (λ o. inl o) (λ n. inr (p, m_head refl, n)) (notes_in (f p) l y k)
      go (inr w) = inr (w.0, m_tail w.1, w.2)

  all_old : (ps l : List ℕ) (y : ℕ) → Mem y l → Mem y (noted l ps)
  all_old [] l y m = m
  all_old (p ∷ ps) l y m = all_old ps (fold note l (f p)) y (notes_old (f p) l y m)

  pub all_has : {p : ℕ} {ps : List ℕ} (l : List ℕ) {y : ℕ} → Mem p ps → Mem y (f p) → Mem y (noted l ps)
  all_has {p} l {y} (m_head {x = q} {xs = ps} e) m = all_old ps (fold note l (f q)) y (notes_has l (subst (λ (z : ℕ). Mem y (f z)) e m))
  all_has {p} l {y} (m_tail {x = q} {xs = ps} k) m = all_has (fold note l (f q)) k m

  pub all_distinct : (ps l : List ℕ) → Distinct l → Distinct (noted l ps)
  all_distinct [] l d = d
  all_distinct (p ∷ ps) l d = all_distinct ps (fold note l (f p)) (notes_distinct (f p) l d)

-- ---- descending matches

-- x comes before y, or is y
abbrev pub Above : Match → Match → Type 0
Above x y = (y.larger < x.larger) ⊎ ((x.larger ≡ y.larger) × (y.smaller ≤ x.smaller))

pub above_of : (x y : Match) → not_below x y ≡ true → Above x y
unfolding not_below
above_of x y e = ⊎_elim (λ (h : ltb y.larger x.larger ≡ true). inl (ltb-true y.larger x.larger h))
    (λ (h : (eqb x.larger y.larger && leb y.smaller x.smaller) ≡ true).
    let w = and_true (eqb x.larger y.larger) (leb y.smaller x.smaller) h in
    inr (eqb-true x.larger y.larger w.0, leb-true y.smaller x.smaller w.1))
    (or_true (ltb y.larger x.larger) (eqb x.larger y.larger && leb y.smaller x.smaller) e)

pub above_is : (x y : Match) → Above x y → not_below x y ≡ true
unfolding not_below
above_is x y (inl h) = or_left (ltb y.larger x.larger) (eqb x.larger y.larger && leb y.smaller x.smaller) (lt-ltb y.larger x.larger h)
above_is x y (inr h) = or_right (ltb y.larger x.larger) (eqb x.larger y.larger && leb y.smaller x.smaller) (rw (eq-eqb x.larger y.larger h.0) (le-leb y.smaller x.smaller h.1))

above_total : (x y : Match) → not_below x y ≡ false → not_below y x ≡ true
above_total x y e = above_is y x (go (dec_lt x.larger y.larger) (dec_lt y.larger x.larger) (dec_lt y.smaller x.smaller))
  where
    never : Above x y → ⊥
    never a = true≢false (sym (above_is x y a) ∙ e)

    go : Dec (x.larger < y.larger) → Dec (y.larger < x.larger) → Dec (y.smaller < x.smaller) → Above y x
    go (yes h) k s = inl h
    go (no h) (yes k) s = absurd (never (inl k))
    go (no h) (no k) (yes s) = absurd (never (inr (omega arith, omega arith)))
    go (no h) (no k) (no s) = inr (omega arith, omega arith)

above_trans : (x y z : Match) → not_below x y ≡ true → not_below y z ≡ true → not_below x z ≡ true
above_trans x y z p q = above_is x z (go (above_of x y p) (above_of y z q))
  where
    go : Above x y → Above y z → Above x z
    go (inl h) (inl k) = inl (omega arith)
    go (inl h) (inr k) = inl (omega arith)
    go (inr h) (inl k) = inl (omega arith)
    go (inr h) (inr k) = inr (h.0 ∙ k.0, omega arith)

pub sort_descends : (l : List Match) → Ordered (λ x y. not_below x y ≡ true) (sort_by not_below l)
sort_descends l = sort_ordered not_below above_total above_trans l
