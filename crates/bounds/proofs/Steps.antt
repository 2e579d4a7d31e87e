-- Steps: the forms by which code makes one (`step_of`, `step_remove`), what every step keeps, and that no series saves more than the
-- sum of the pieces' sizes less one each. Assumes nothing.
use mathlib.Core.Path.{◌≡◌, refl, sym, ap, ap₂, ◌∙◌}
use mathlib.Core.Logic.{◌⊎◌, inl, inr, ⊎_elim}
use mathlib.Core.List.Memᴰ
use mathlib.Core.List.Permᴰ
use mathlib.Core.List.{List, [], ◌∷◌, ◌++◌, map, Memᴰ, Permᴰ, flatten}
use Prim.Native.Nat.{ℕ, ◌+◌, ◌-◌, ◌≤◌, ◌<◌}
use native.Mathlib.Omega.{arith}
use lib.Bits.{bit_or}
use Rattle.bitset.specs.Bits.{Sub, Disjoint, diff, size}
use Rattle.bitset.proofs.Laws.{size_minus, sub_trans, unions_one, unions_of, unions_none, unions_more}
use Rattle.bitset.proofs.Members.{sub_of, apart_of, apart_out}
use Rattle.bitset.proofs.Decide.{sets, v, less, or, is, sub, apart}
use Rattle.molecule.specs.Connected.{Apart}
use Rattle.bounds.specs.Numbers.{sum_of}
use Rattle.bounds.specs.Inner.Removals.{big, Split, Splits, InOnePiece, PiecesWithin, whole, Removal, Step, Series, savings}
use Rattle.bounds.specs.Inner.Removals.Series.{done, next}
use Rattle.bounds.proofs.Numbers.{sum_append, sum_perm}
use Rattle.bounds.proofs.Savings.{mem_perm, big_cases, mem_big, split_size, split_mem}

-- ---- a fragment inside one piece: taking it from every piece, and putting it back as a part

-- a piece that h does not meet stays as it is
same_diff : (p h : ℕ) → Disjoint p h → diff p h ≡ p
same_diff p h = sets (apart (v 0) (v 1) ∷ []) (is (less (v 0) (v 1)) (v 0)) (p ∷ h ∷ []) tt

-- what is apart from a set is apart from its subsets
pub apart_sub : (p q h : ℕ) → Disjoint p q → Sub h q → Disjoint p h
apart_sub p q h = sets (apart (v 0) (v 1) ∷ sub (v 2) (v 1) ∷ []) (apart (v 0) (v 2)) (p ∷ q ∷ h ∷ []) tt

-- apart is symmetric
pub apart_sym : (p q : ℕ) → Disjoint p q → Disjoint q p
apart_sym p q = sets (apart (v 0) (v 1) ∷ []) (apart (v 1) (v 0)) (p ∷ q ∷ []) tt

-- pieces that h does not meet stay as they are
all_same : (h : ℕ) (P : List ℕ) → ((q : ℕ) → Memᴰ q P → Disjoint q h) → map (λ (p : ℕ). diff p h) P ≡ P
all_same h [] d = refl
all_same h (p ∷ P) d = ap₂ ◌∷◌ (same_diff p h (d p (Memᴰ.head refl))) (all_same h P (λ q i. d q (Memᴰ.tail i)))

-- h lies in one of the pieces P, which are apart. What the pieces without h fall into, with h, is what the pieces fall into:
-- h is one part more of its own piece, and the others are not met.
put_back : (h : ℕ) (P : List ℕ) (ls : List (List ℕ)) → 0 < size h → Apart P → (p : ℕ) → Memᴰ p P → Sub h p → Splits (map (λ (x : ℕ). diff x h) P) ls
    → (ms : List (List ℕ)) × Splits P ms × Permᴰ (flatten ms) (h ∷ flatten ls)
unfolding flatten
put_back h [] ls o a p i s w = absurd (Memᴰ.not-nil i)
put_back h (x ∷ P) [] o a p i s w = absurd w
put_back h (x ∷ P) (l ∷ ls) o a p i s w = go (Memᴰ.cases_cons i) (λ t. put_back h P ls o a.1 p t s w.1)
  where
    go : (p ≡ x) ⊎ Memᴰ p P → (Memᴰ p P → (ms : List (List ℕ)) × Splits P ms × Permᴰ (flatten ms) (h ∷ flatten ls))
        → (ms : List (List ℕ)) × Splits (x ∷ P) ms × Permᴰ (flatten ms) (h ∷ (l ++ flatten ls))
    go (inl e) r =
        let k : Sub h x = rw e at s in
        let same : map (λ (y : ℕ). diff y h) P ≡ P = all_same h P (λ q j. apart_sub q x h (apart_sym x q (a.0 q j)) k) in
        ((h ∷ l) ∷ ls, ((o, k, w.0), rw same at w.1), Permᴰ.refl (h ∷ (l ++ flatten ls)))
    go (inr t) r =
        let b = r t in
        let e : diff x h ≡ x = same_diff x h (apart_sub x p h (a.0 p t) s) in
        (l ∷ b.0, (rw e at w.0, b.1), Permᴰ.trans (Permᴰ.append_left l b.2) (Permᴰ.middle h l (flatten ls)))

-- ---- the form by which code removes

-- pieces that are apart are so without h
apart_diff : (h : ℕ) (P : List ℕ) → Apart P → Apart (map (λ (x : ℕ). diff x h) P)
apart_diff h [] a = tt
apart_diff h (p ∷ P) a = (λ q i. others P q i a.0, apart_diff h P a.1)
  where
    others : (Q : List ℕ) (q : ℕ) → Memᴰ q (map (λ (x : ℕ). diff x h) Q) → ((r : ℕ) → Memᴰ r Q → Disjoint p r) → Disjoint (diff p h) q
    others [] q i d = absurd (Memᴰ.not-nil i)
    others (x ∷ Q) q i d = step (Memᴰ.cases_cons i) (λ t. others Q q t (λ r j. d r (Memᴰ.tail j)))
      where
        step : (q ≡ diff x h) ⊎ Memᴰ q (map (λ (x : ℕ). diff x h) Q) → (Memᴰ q (map (λ (x : ℕ). diff x h) Q) → Disjoint (diff p h) q) → Disjoint (diff p h) q
        step (inl e) r = rw e (sets (apart (v 0) (v 1) ∷ []) (apart (less (v 0) (v 2)) (less (v 1) (v 2))) (p ∷ x ∷ h ∷ []) tt (d x (Memᴰ.head refl)))
        step (inr t) r = r t

-- a member's value
mem_map : (f : ℕ → ℕ) (P : List ℕ) (p : ℕ) → Memᴰ p P → Memᴰ (f p) (map f P)
mem_map f [] p i = absurd (Memᴰ.not-nil i)
mem_map f (x ∷ P) p i = ⊎_elim (λ e. Memᴰ.head (ap f e)) (λ t. Memᴰ.tail (mem_map f P p t)) (Memᴰ.cases_cons i)

-- one map after another
map-map : (f g : ℕ → ℕ) (P : List ℕ) → map g (map f P) ≡ map (λ (x : ℕ). g (f x)) P
map-map f g [] = refl
map-map f g (x ∷ P) = ap (λ (l : List ℕ). g (f x) ∷ l) (map-map f g P)

-- Code removes the match (h1, h2) so: both are taken from every piece, what is left of each falls into the parts ls, and Q is h1 and
-- the parts of two or more bonds, in any order. That is a step: h2 and then h1 are put back as parts of their pieces (`put_back`).
pub step_of : (P : List ℕ) (h1 h2 : ℕ) (ls : List (List ℕ)) (Q : List ℕ) → Apart P → InOnePiece h1 P → InOnePiece h2 P → Disjoint h1 h2 → 2 ≤ size h1 → size h2 ≡ size h1
    → Splits (map (λ (p : ℕ). diff (diff p h1) h2) P) ls → Permᴰ Q (h1 ∷ big (flatten ls)) → Step P (record { first = h1; second = h2 }) Q
step_of P h1 h2 ls Q a i j d two same w e =
    let P1 = map (λ (p : ℕ). diff p h1) P in
    let s2 : Sub h2 (diff j.0 h1) = sets (apart (v 0) (v 1) ∷ sub (v 1) (v 2) ∷ []) (sub (v 1) (less (v 2) (v 0))) (h1 ∷ h2 ∷ j.0 ∷ []) tt d j.2 in
    let b = put_back h2 P1 ls (omega arith) (apart_diff h1 P a) (diff j.0 h1) (mem_map (λ (p : ℕ). diff p h1) P j.0 j.1) s2 (rw (map-map (λ (p : ℕ). diff p h1) (λ (p : ℕ). diff p h2) P) w) in
    let c = put_back h1 P b.0 (omega arith) a i.0 i.1 i.2 b.1 in
    record {
      same = same;
      two = two;
      parts = c.0;
      rest = flatten ls;
      splits = c.1;
      found = Permᴰ.trans c.2 (Permᴰ.cons refl b.2);
      left = e;
    }

-- the parts of each piece, where a function gives them
pub splits_map : (f : ℕ → ℕ) (g : ℕ → List ℕ) (P : List ℕ) → ((p : ℕ) → Memᴰ p P → Split (f p) (g p)) → Splits (map f P) (map g P)
splits_map f g [] h = tt
splits_map f g (p ∷ P) h = (h p (Memᴰ.head refl), splits_map f g P (λ q i. h q (Memᴰ.tail i)))

-- the same for a function that gives the parts of what is left of each piece
pub step_remove : (parts : ℕ → List ℕ) (P : List ℕ) (h1 h2 : ℕ) → Apart P → InOnePiece h1 P → InOnePiece h2 P → Disjoint h1 h2 → 2 ≤ size h1 → size h2 ≡ size h1
    → ((p : ℕ) → Memᴰ p P → Split (diff (diff p h1) h2) (parts p)) → Step P (record { first = h1; second = h2 }) (h1 ∷ big (flatten (map parts P)))
step_remove parts P h1 h2 a i j d two same h =
    step_of P h1 h2 (map parts P) (h1 ∷ big (flatten (map parts P))) a i j d two same (splits_map (λ (p : ℕ). diff (diff p h1) h2) parts P h) (Permᴰ.refl (h1 ∷ big (flatten (map parts P))))

-- ---- what every step keeps

-- a part lies in a piece, and has a bond
pub splits_mem : (P : List ℕ) (ls : List (List ℕ)) (a : ℕ) → Splits P ls → Memᴰ a (flatten ls) → (p : ℕ) × Memᴰ p P × Sub a p × (0 < size a)
unfolding flatten
splits_mem [] [] a w i = absurd (Memᴰ.not-nil i)
splits_mem [] (l ∷ ls) a w i = absurd w
splits_mem (p ∷ P) [] a w i = absurd w
splits_mem (p ∷ P) (l ∷ ls) a w i = go (Memᴰ.append_cases l i) (splits_mem P ls a w.1)
  where
    go : Memᴰ a l ⊎ Memᴰ a (flatten ls) → (Memᴰ a (flatten ls) → (q : ℕ) × Memᴰ q P × Sub a q × (0 < size a)) → (q : ℕ) × Memᴰ q (p ∷ P) × Sub a q × (0 < size a)
    go (inl m) r = let s = split_mem l p a w.0 m in (p, Memᴰ.head refl, s.0, s.1)
    go (inr m) r = let b = r m in (b.0, Memᴰ.tail b.1, b.2, b.3)

-- all parts have the bonds of all pieces
pub splits_size : (P : List ℕ) (ls : List (List ℕ)) → Splits P ls → sum_of size (flatten ls) ≡ sum_of size P
unfolding flatten
splits_size [] [] w = refl
splits_size [] (l ∷ ls) w = absurd w
splits_size (p ∷ P) [] w = absurd w
splits_size (p ∷ P) (l ∷ ls) w = omega (arith, sum_append size l (flatten ls), split_size l p w.0, splits_size P ls w.1)

module _ {P Q : List ℕ} {m : Removal} (st : Step P m Q) where
  -- the first fragment lies in a piece
  pub step_first : InOnePiece m.first P
  step_first = let w = splits_mem P st.parts m.first st.splits (mem_perm (Permᴰ.symm st.found) (Memᴰ.head refl)) in (w.0, w.1, w.2)

  -- and the second
  pub step_second : InOnePiece m.second P
  step_second = let w = splits_mem P st.parts m.second st.splits (mem_perm (Permᴰ.symm st.found) (Memᴰ.tail (Memᴰ.head refl))) in (w.0, w.1, w.2)

  -- and each part that is left
  rest_inside : (a : ℕ) → Memᴰ a st.rest → InOnePiece a P
  rest_inside a i = let w = splits_mem P st.parts a st.splits (mem_perm (Permᴰ.symm st.found) (Memᴰ.tail (Memᴰ.tail i))) in (w.0, w.1, w.2)

  -- and so every piece that is left
  pub step_inside : (q : ℕ) → Memᴰ q Q → InOnePiece q P
  step_inside q i =
      ⊎_elim (λ e. let w = step_first in (w.0, w.1, rw e w.2)) (λ t. rest_inside q (mem_big st.rest q t)) (Memᴰ.cases_cons (mem_perm st.left i))

  -- and so in all that the pieces lie in
  pub step_within : (U : ℕ) → PiecesWithin U P → PiecesWithin U Q
  step_within U h q i = let w = step_inside q i in sub_trans q w.0 U w.2 (h w.0 w.1)

  -- no single bond is left
  pub step_two : (q : ℕ) → Memᴰ q Q → 2 ≤ size q
  step_two q i = ⊎_elim (λ e. rw e st.two) (λ t. big_two st.rest q t) (Memᴰ.cases_cons (mem_perm st.left i))
    where
      big_two : (l : List ℕ) (a : ℕ) → Memᴰ a (big l) → 2 ≤ size a
      big_two [] a j = absurd (Memᴰ.not-nil j)
      big_two (b ∷ l) a j = pick (big_cases b l) (big_two l a)
        where
          pick : ((2 ≤ size b) × (big (b ∷ l) ≡ b ∷ big l)) ⊎ ((size b ≤ 1) × (big (b ∷ l) ≡ big l)) → (Memᴰ a (big l) → 2 ≤ size a) → 2 ≤ size a
          pick (inl w) r = ⊎_elim (λ e. rw e w.0) r (Memᴰ.cases_cons (rw w.1 at j))
          pick (inr w) r = r (rw w.1 at j)

  -- the bonds in pieces fall by the size of a fragment, so by two or more
  pub step_falls : sum_of size Q + size m.second ≤ sum_of size P
  step_falls = omega (arith, sum_perm size st.left, sum_perm size st.found, splits_size P st.parts st.splits, big_size st.rest)
    where
      big_size : (l : List ℕ) → sum_of size (big l) ≤ sum_of size l
      big_size [] = omega arith
      big_size (b ∷ l) = let ih = big_size l in ⊎_elim (λ w. rw w.1 (omega (arith, ih))) (λ w. rw w.1 (omega (arith, ih))) (big_cases b l)

-- ---- pieces stay apart

-- no two parts have a bond in common
pub split_apart : (l : List ℕ) (p : ℕ) → Split p l → Apart l
split_apart [] p h = tt
split_apart (a ∷ l) p h =
    (λ b i. sets (sub (v 1) (less (v 2) (v 0)) ∷ []) (apart (v 0) (v 1)) (a ∷ b ∷ p ∷ []) tt (split_mem l (diff p a) b h.2 i).0, split_apart l (diff p a) h.2)

-- two lists, each apart, and apart from each other
pub apart_append : (l m : List ℕ) → Apart l → Apart m → ((a b : ℕ) → Memᴰ a l → Memᴰ b m → Disjoint a b) → Apart (l ++ m)
apart_append [] m x y d = y
apart_append (a ∷ l) m x y d =
    (λ b i. ⊎_elim (λ t. x.0 b t) (λ t. d a b (Memᴰ.head refl) t) (Memᴰ.append_cases l i), apart_append l m x.1 y (λ c b i j. d c b (Memᴰ.tail i) j))

-- nor have two parts of pieces that are apart
pub splits_apart : (P : List ℕ) (ls : List (List ℕ)) → Splits P ls → Apart P → Apart (flatten ls)
unfolding flatten
splits_apart [] [] w a = tt
splits_apart [] (l ∷ ls) w a = absurd w
splits_apart (p ∷ P) [] w a = absurd w
splits_apart (p ∷ P) (l ∷ ls) w a =
    apart_append l (flatten ls) (split_apart l p w.0) (splits_apart P ls w.1 a.1)
    (λ x y i j.
    let s = splits_mem P ls y w.1 j in
    sets (apart (v 0) (v 1) ∷ sub (v 2) (v 0) ∷ sub (v 3) (v 1) ∷ []) (apart (v 2) (v 3)) (p ∷ s.0 ∷ x ∷ y ∷ []) tt (a.0 s.0 s.1) (split_mem l p x w.0 i).0 s.2)

-- in any order
pub apart_perm : {l m : List ℕ} → Permᴰ l m → Apart l → Apart m
apart_perm Permᴰ.nil a = tt
apart_perm (Permᴰ.cons e d) a = (λ q i. rw (← e) (a.0 q (mem_perm (Permᴰ.symm d) i)), apart_perm d a.1)
apart_perm (Permᴰ.swap {a = x} {b = y} {a' = x'} {b' = y'} {l = l} e g) a =
    (λ q i. ⊎_elim (λ (h : q ≡ y'). rw (h, ← e, ← g) (apart_sym x y (a.0 y (Memᴰ.head refl)))) (λ t. rw (← g) (a.1.0 q t)) (Memᴰ.cases_cons i), (λ q i. rw (← e) (a.0 q (Memᴰ.tail i)), a.1.1))
apart_perm (Permᴰ.trans d e) a = apart_perm e (apart_perm d a)

-- without single bonds
pub apart_big : (l : List ℕ) → Apart l → Apart (big l)
apart_big [] a = tt
apart_big (b ∷ l) a = let ih = apart_big l a.1 in ⊎_elim (λ w. rw w.1 (λ q i. a.0 q (mem_big l q i), ih)) (λ w. rw w.1 ih) (big_cases b l)

-- what a step leaves of pieces that are apart is apart
pub step_apart : {P Q : List ℕ} {m : Removal} → Step P m Q → Apart P → Apart Q
step_apart {P} st a =
    let b = apart_perm st.found (splits_apart P st.parts st.splits a) in
    apart_perm (Permᴰ.symm st.left) (λ q i. b.0 q (Memᴰ.tail (mem_big st.rest q i)), apart_big st.rest b.1.1)

-- ---- a split by its parts: none empty, no two with a bond in common, and their union

-- each piece lies in the union of all
pub whole_within : (P : List ℕ) → PiecesWithin (whole P) P
whole_within P q i = sub_of q (whole P) (λ b h. unions_one (λ p. p) P q b i h)

-- apart from each is apart from the union
apart_whole : (a : ℕ) (l : List ℕ) → ((q : ℕ) → Memᴰ q l → Disjoint a q) → Disjoint a (whole l)
apart_whole a l d = apart_of a (whole l) (λ i h k. let w = unions_of (λ p. p) l i k in apart_out a w.0 i (d w.0 w.1) h w.2)

-- sets that are not empty, no two with a bond in common, are parts of their union
pub split_of : (l : List ℕ) (s : ℕ) → ((a : ℕ) → Memᴰ a l → 0 < size a) → Apart l → whole l ≡ s → Split s l
split_of [] s o d e = sym e ∙ unions_none (λ p. p)
split_of (a ∷ l) s o d e =
    let f : bit_or a (whole l) ≡ s = sym (unions_more (λ p. p) a l) ∙ e in (
      o a (Memᴰ.head refl),
      rw (← f) (sets [] (sub (v 0) (or (v 0) (v 1))) (a ∷ whole l ∷ []) tt),
      split_of l (diff s a) (λ b i. o b (Memᴰ.tail i)) d.1
          (rw (← f) (sets (apart (v 0) (v 1) ∷ []) (is (v 1) (less (or (v 0) (v 1)) (v 0))) (a ∷ whole l ∷ []) tt (apart_whole a l d.0))),
    )

-- ---- what is saved is never more than the pieces' sizes less one each

-- the parts of p have size less one, summed, at most that of p: each part but one takes one more off
pub less_split : (l : List ℕ) (p : ℕ) → Split p l → sum_of (λ (a : ℕ). size a - 1) l ≤ size p - 1
less_split [] p h = omega arith
less_split (a ∷ l) p h = omega (arith, less_split l (diff p a) h.2, size_minus p a h.1, h.0)

-- and for all pieces
less_splits : (P : List ℕ) (ls : List (List ℕ)) → Splits P ls → sum_of (λ (a : ℕ). size a - 1) (flatten ls) ≤ sum_of (λ (a : ℕ). size a - 1) P
unfolding flatten
less_splits [] [] w = omega arith
less_splits [] (l ∷ ls) w = absurd w
less_splits (p ∷ P) [] w = absurd w
less_splits (p ∷ P) (l ∷ ls) w = omega (arith, sum_append (λ (a : ℕ). size a - 1) l (flatten ls), less_split l p w.0, less_splits P ls w.1)

-- without single bonds
less_big : (l : List ℕ) → sum_of (λ (a : ℕ). size a - 1) (big l) ≤ sum_of (λ (a : ℕ). size a - 1) l
less_big [] = omega arith
less_big (a ∷ l) = let ih = less_big l in ⊎_elim (λ w. rw w.1 (omega (arith, ih))) (λ w. rw w.1 (omega (arith, ih))) (big_cases a l)

-- what a step saves and what is left, each piece by its size less one, is at most what the pieces had
pub step_less : {P Q : List ℕ} {m : Removal} → Step P m Q → (size m.first - 1) + sum_of (λ (p : ℕ). size p - 1) Q ≤ sum_of (λ (p : ℕ). size p - 1) P
step_less {P} st =
    omega (arith, sum_perm (λ (a : ℕ). size a - 1) st.left, sum_perm (λ (a : ℕ). size a - 1) st.found, less_splits P st.parts st.splits, less_big st.rest, st.same)

-- so no series saves more than the sum of size less one
pub series_less : {P : List ℕ} {τ : List Removal} → Series P τ → savings τ ≤ sum_of (λ (p : ℕ). size p - 1) P
series_less done = omega arith
series_less (next st s) = omega (arith, step_less st, series_less s)
