-- Allowed series in words, and how they pass from pieces to other pieces: S1, what refines allows no more; S2, letting go loses nothing.
-- Of an accepted record; S2 over the laws of its matches.
use mathlib.Core.Path.{◌≡◌, refl}
use mathlib.Core.Bool.{Bool, true, ◌&&◌}
use mathlib.Core.Logic.{◌⊎◌, inl, inr, ⊎_elim}
use mathlib.Core.List.Memᴰ.{append_cases as mem_cases}
use mathlib.Core.List.Memᴰ.{append_left as mem_left}
use mathlib.Core.List.Memᴰ.{append_right as mem_right}
use mathlib.Core.List.Memᴰ.{cases_cons as mem_cons}
use mathlib.Core.List.Memᴰ.{eq_of_singleton as mem_one}
use mathlib.Core.List.Memᴰ.{head as m_head}
use mathlib.Core.List.Memᴰ.{not-nil}
use mathlib.Core.List.Memᴰ.{tail as m_tail}
use mathlib.Core.List.{List, [], ◌∷◌, flat_map, Memᴰ as Mem}
use Prim.Native.Nat.{ℕ, suc, ◌-◌, ◌≤◌, ◌<◌}
use native.Mathlib.Omega.{arith}
use lib.Bits.{bit_and, bit_or, and_self}
use lib.Dec.{leb, ltb, eqb}
use lib.ListN.{length}
use borrow.Author.Tests.{leb-true, ltb-true, le-leb, lt-ltb, eq-eqb}
use Rattle.bitset.specs.Bits.{bit, Sub, Disjoint, diff, size, Ascending}
use Rattle.bitset.proofs.Bools.{and_true}
use Rattle.bitset.proofs.Laws.{sub_trans, or_cases, unions_one, unions_of}
use Rattle.bitset.proofs.Members.{sub_of, or_left_in, or_right_in, diff_sub}
use Rattle.bitset.proofs.Decide.{sets, v, and, less, or, sub, apart}
use Rattle.molecule.specs.Lists.{Bytes, numbers_from, filter}
use Rattle.molecule.specs.Record.{all_bonds}
use Rattle.molecule.specs.Check.{accepted, check}
use Rattle.molecule.specs.Connected.{Own, Connected}
use Rattle.molecule.proofs.Components.{all_own}
use Rattle.molecule.proofs.Perms.{keep_mem, keep_intro}
use Rattle.molecule.proofs.Lists.{numbers_bounds, numbers_mem}
use Rattle.matches.specs.Table.{Pair, pair, size_of}
use Rattle.matches.specs.Laws.{Laws}
use Rattle.bounds.specs.Inner.Removals.{InOnePiece, PiecesWithin}
use Rattle.search.specs.State.{struck, inside, big_components, removable, mask_of, keep, remove}
use Rattle.search.specs.Series.{allowed_from}
use Rattle.search.specs.Inner.Claims.{Refines, KeepsFragments, Removable, Allows}
use Rattle.search.proofs.Lists.{inside_true, true_inside, inside_refines, refines_within, flat_mem, mem_flat}
use Rattle.search.proofs.Parts.{big_is, big_covers}

-- ---- sets: parts, and parts of parts

pub diff_within : (p s U : ℕ) → Sub p U → Sub (diff p s) U
diff_within p s U = sets (sub (v 0) (v 2) ∷ []) (sub (less (v 0) (v 1)) (v 2)) (p ∷ s ∷ U ∷ []) tt

pub and_within : (p s U : ℕ) → Sub p U → Sub (bit_and p s) U
and_within p s U = sets (sub (v 0) (v 2) ∷ []) (sub (and (v 0) (v 1)) (v 2)) (p ∷ s ∷ U ∷ []) tt

pub and_left : (p s : ℕ) → Sub (bit_and p s) p
and_left p s = sets [] (sub (and (v 0) (v 1)) (v 0)) (p ∷ s ∷ []) tt

diff_mono : (c x p s : ℕ) → Sub c (diff x s) → Sub x p → Sub c (diff p s)
diff_mono c x p s = sets (sub (v 0) (less (v 1) (v 3)) ∷ sub (v 1) (v 2) ∷ []) (sub (v 0) (less (v 2) (v 3))) (c ∷ x ∷ p ∷ s ∷ []) tt

diff_swap : (c p x s : ℕ) → Sub c (diff p s) → Sub c x → Sub c (diff x s)
diff_swap c p x s = sets (sub (v 0) (less (v 1) (v 3)) ∷ sub (v 0) (v 2) ∷ []) (sub (v 0) (less (v 2) (v 3))) (c ∷ p ∷ x ∷ s ∷ []) tt

diff_misses : (y p a b : ℕ) → Sub y p → Disjoint y a → Disjoint y b → Sub y (diff p (bit_or a b))
diff_misses y p a b =
    sets (sub (v 0) (v 1) ∷ apart (v 0) (v 2) ∷ apart (v 0) (v 3) ∷ []) (sub (v 0) (less (v 1) (or (v 2) (v 3)))) (y ∷ p ∷ a ∷ b ∷ []) tt

sub_and : (c p s : ℕ) → Sub c p → Sub c s → Sub c (bit_and p s)
sub_and c p s = sets (sub (v 0) (v 1) ∷ sub (v 0) (v 2) ∷ []) (sub (v 0) (and (v 1) (v 2))) (c ∷ p ∷ s ∷ []) tt

-- the fragments of a match, within its bonds
pub first_struck : (ms : List Pair) (m : ℕ) → Sub (pair ms m).h1 (struck ms m)
unfolding struck
first_struck ms m = sets [] (sub (v 0) (or (v 0) (v 1))) ((pair ms m).h1 ∷ (pair ms m).h2 ∷ []) tt

pub second_struck : (ms : List Pair) (m : ℕ) → Sub (pair ms m).h2 (struck ms m)
unfolding struck
second_struck ms m = sets [] (sub (v 1) (or (v 0) (v 1))) ((pair ms m).h1 ∷ (pair ms m).h2 ∷ []) tt

both_true : (a b : Bool) → a ≡ true → b ≡ true → (a && b) ≡ true
both_true a b e f = rw (e, f)

module _ (r : Bytes) (ms : List Pair) where
  -- ---- removable matches

  -- what the list of the removable matches holds is removable
  pub removable_mem : (P : List ℕ) (n m : ℕ) → Mem m (removable r ms P n) → Removable ms P n m
  unfolding removable
  removable_mem P n m i =
      let w = keep_mem (λ m. inside P (pair ms m).h1 && inside P (pair ms m).h2) (numbers_from n (length ms - n)) i in
      let k = numbers_bounds (length ms - n) n w.0 in
      let b = and_true (inside P (pair ms m).h1) (inside P (pair ms m).h2) w.1 in
      record { after = k.0; is = omega arith; in1 = inside_true P (pair ms m).h1 b.0; in2 = inside_true P (pair ms m).h2 b.1 }

  -- and what is removable stands in it
  pub mem_removable : (P : List ℕ) (n m : ℕ) → Removable ms P n m → Mem m (removable r ms P n)
  unfolding removable
  mem_removable P n m h =
      keep_intro (λ m. inside P (pair ms m).h1 && inside P (pair ms m).h2) (numbers_from n (length ms - n))
      (numbers_mem (length ms - n) n m h.after (omega (arith, h.after, h.is)))
      (both_true (inside P (pair ms m).h1) (inside P (pair ms m).h2) (true_inside P (pair ms m).h1 h.in1) (true_inside P (pair ms m).h2 h.in2))

  -- what is removable in X is removable in what X refines
  removable_refines : (X P : List ℕ) (n m : ℕ) → Refines X P → Removable ms X n m → Removable ms P n m
  removable_refines X P n m h k = record { after = k.after; is = k.is; in1 = inside_refines (pair ms m).h1 h k.in1; in2 = inside_refines (pair ms m).h2 h k.in2 }

  -- ---- `allowed_from` and `Allows` say the same

  -- from the test to the statement
  pub allowed_allows : (n : ℕ) (P τ : List ℕ) → allowed_from r ms n P τ ≡ true → Allows r ms n P τ
  unfolding allowed_from
  allowed_allows n P [] e = tt
  allowed_allows n P (m ∷ τ) e =
      let a = and_true (leb n m && ltb m (length ms) && inside P (pair ms m).h1 && inside P (pair ms m).h2) (allowed_from r ms (suc m) (remove r ms P m) τ) e in
      let b = and_true (leb n m && ltb m (length ms) && inside P (pair ms m).h1) (inside P (pair ms m).h2) a.0 in
      let c = and_true (leb n m && ltb m (length ms)) (inside P (pair ms m).h1) b.0 in
      let d = and_true (leb n m) (ltb m (length ms)) c.0 in (
        record { after = leb-true n m d.0; is = ltb-true m (length ms) d.1; in1 = inside_true P (pair ms m).h1 c.1; in2 = inside_true P (pair ms m).h2 b.1 },
        allowed_allows (suc m) (remove r ms P m) τ a.1,
      )

  -- and back
  pub allows_allowed : (n : ℕ) (P τ : List ℕ) → Allows r ms n P τ → allowed_from r ms n P τ ≡ true
  unfolding allowed_from
  allows_allowed n P [] a = refl
  allows_allowed n P (m ∷ τ) a =
      let e1 : leb n m ≡ true = le-leb n m a.0.after in
      let e2 : ltb m (length ms) ≡ true = lt-ltb m (length ms) a.0.is in
      let e3 : inside P (pair ms m).h1 ≡ true = true_inside P (pair ms m).h1 a.0.in1 in
      let e4 : inside P (pair ms m).h2 ≡ true = true_inside P (pair ms m).h2 a.0.in2 in
      let e5 : allowed_from r ms (suc m) (remove r ms P m) τ ≡ true = allows_allowed (suc m) (remove r ms P m) τ a.1 in
      rw (e1, e2, e3, e4, e5)

  -- the numbers of an allowed series are numbers of matches, from n on
  pub allows_from : (n : ℕ) (P τ : List ℕ) → Allows r ms n P τ → (m : ℕ) → Mem m τ → (n ≤ m) × (m < length ms)
  allows_from n P [] a m i = absurd (not-nil i)
  allows_from n P (k ∷ τ) a m i =
      let ih = allows_from (suc k) (remove r ms P k) τ a.1 m in
      let l = a.0.after in
      ⊎_elim (λ (e : m ≡ k). rw e (l, a.0.is)) (λ (t : Mem m τ). (omega (arith, (ih t).0), (ih t).1)) (mem_cons i)

  -- and they rise strictly
  pub allows_ascends : (n : ℕ) (P τ : List ℕ) → Allows r ms n P τ → Ascending τ
  allows_ascends n P [] a = tt
  allows_ascends n P (m ∷ τ) a = (λ k i. (allows_from (suc m) (remove r ms P m) τ a.1 k i).0, allows_ascends (suc m) (remove r ms P m) τ a.1)

  -- ---- what removing leaves: big components of what is left of a piece, and the first fragment

  abbrev Left : List ℕ → ℕ → ℕ → Type 0
  Left P m c = (p : ℕ) × Mem p P × Mem c (big_components r (diff p (struck ms m)))

  -- a piece that is left is one of these
  remove_cases : (P : List ℕ) (m c : ℕ) → Mem c (remove r ms P m) → Left P m c ⊎ (c ≡ (pair ms m).h1)
  unfolding remove
  remove_cases P m c i =
      let g : ℕ → List ℕ = λ p. big_components r (diff p (struck ms m)) in
      ⊎_elim (λ j. inl (flat_mem g P c j)) (λ j. inr (mem_one j)) (mem_cases (flat_map g P) i)

  -- the first fragment is left
  pub remove_first : (P : List ℕ) (m : ℕ) → Mem (pair ms m).h1 (remove r ms P m)
  unfolding remove
  remove_first P m = mem_right (flat_map (λ p. big_components r (diff p (struck ms m))) P) (m_head refl)

  -- and so is each such component
  remove_mem : (P : List ℕ) (m p c : ℕ) → Mem p P → Mem c (big_components r (diff p (struck ms m))) → Mem c (remove r ms P m)
  unfolding remove
  remove_mem P m p c i j = mem_left ((pair ms m).h1 ∷ []) (mem_flat (λ p. big_components r (diff p (struck ms m))) P p c i j)

module _ (r : Bytes) (ok : check r ≡ accepted) (ms : List Pair) where
  -- pieces only shrink
  remove_shrinks : (P : List ℕ) (m : ℕ) → PiecesWithin (all_bonds r) P → InOnePiece (pair ms m).h1 P → Refines (remove r ms P m) P
  remove_shrinks P m W h c i = go (remove_cases r ms P m c i)
    where
      go : Left r ms P m c ⊎ (c ≡ (pair ms m).h1) → InOnePiece c P
      go (inl w) =
          let d : ℕ = diff w.0 (struck ms m) in
          let q = big_is r ok d (diff_within w.0 (struck ms m) (all_bonds r) (W w.0 w.1)) c w.2 in
          (w.0, w.1, sub_trans c d w.0 q.1 (diff_sub w.0 (struck ms m)))
      go (inr e) = rw e h

  -- so they go on holding bonds of the record
  pub remove_within : (P : List ℕ) (m : ℕ) → PiecesWithin (all_bonds r) P → InOnePiece (pair ms m).h1 P → PiecesWithin (all_bonds r) (remove r ms P m)
  remove_within P m W h = refines_within (all_bonds r) (remove_shrinks P m W h) W

  -- and where the first fragment of the match is one, they are fragments
  pub remove_fragments : (P : List ℕ) (m : ℕ) → PiecesWithin (all_bonds r) P → Own r (pair ms m).h1 → Connected r (pair ms m).h1
      → (c : ℕ) → Mem c (remove r ms P m) → Own r c × Connected r c
  remove_fragments P m W o k c i = go (remove_cases r ms P m c i)
    where
      go : Left r ms P m c ⊎ (c ≡ (pair ms m).h1) → Own r c × Connected r c
      go (inl w) =
          let d : ℕ = diff w.0 (struck ms m) in
          let within : Sub d (all_bonds r) = diff_within w.0 (struck ms m) (all_bonds r) (W w.0 w.1) in
          let q = big_is r ok d within c w.2 in
          (all_own r c (sub_trans c d (all_bonds r) q.1 within), q.0)
      go (inr e) = rw e (o, k)

  -- a fragment of two bonds or more that misses both fragments of a match stays inside a piece
  pub remove_keeps : (P : List ℕ) (m y : ℕ) → PiecesWithin (all_bonds r) P → Connected r y → 2 ≤ size y → Disjoint y (pair ms m).h1 → Disjoint y (pair ms m).h2
      → InOnePiece y P → InOnePiece y (remove r ms P m)
  unfolding struck
  remove_keeps P m y W k t d e i =
      let p : ℕ = i.0 in
      let s : ℕ = struck ms m in
      let w = big_covers r ok (diff p s) (diff_within p s (all_bonds r) (W p i.1)) y k t (diff_misses y p (pair ms m).h1 (pair ms m).h2 i.2 d e) in
      (w.0, remove_mem r ms P m p w.0 i.1 w.1, w.2)

  -- S1: where X refines P, what is left of X after a removal refines what is left of P.
  -- A big component of what is left of a piece of X is a fragment of what is left of a piece of P, so it lies in a big component there
  pub remove_refines : (X P : List ℕ) (m : ℕ) → PiecesWithin (all_bonds r) P → Refines X P → Refines (remove r ms X m) (remove r ms P m)
  remove_refines X P m W h c i = go (remove_cases r ms X m c i)
    where
      go : Left r ms X m c ⊎ (c ≡ (pair ms m).h1) → InOnePiece c (remove r ms P m)
      go (inr e) = ((pair ms m).h1, remove_first r ms P m, rw e (and_self (pair ms m).h1))
      go (inl w) =
          let x : ℕ = w.0 in
          let k = h x w.1 in
          let p : ℕ = k.0 in
          let q = big_is r ok (diff x (struck ms m)) (diff_within x (struck ms m) (all_bonds r) (refines_within (all_bonds r) h W x w.1)) c w.2 in
          let f = big_covers r ok (diff p (struck ms m)) (diff_within p (struck ms m) (all_bonds r) (W p k.1)) c q.0 q.2 (diff_mono c x p (struck ms m) q.1 k.2) in
          (f.0, remove_mem r ms P m p f.0 k.1 f.1, f.2)

  -- so a series allowed from X is allowed from P
  pub allows_refines : (n : ℕ) (X P τ : List ℕ) → PiecesWithin (all_bonds r) P → Refines X P → Allows r ms n X τ → Allows r ms n P τ
  allows_refines n X P [] W h a = tt
  allows_refines n X P (m ∷ τ) W h a =
      let k = removable_refines r ms X P n m h a.0 in
      (k, allows_refines (suc m) (remove r ms X m) (remove r ms P m) τ (remove_within P m W k.in1) (remove_refines X P m W h) a.1)

  -- every match of a series allowed from P is removable in P
  pub allows_removable : (n : ℕ) (P τ : List ℕ) → PiecesWithin (all_bonds r) P → Allows r ms n P τ → (m : ℕ) → Mem m τ → Removable ms P n m
  allows_removable n P [] W a m i = absurd (not-nil i)
  allows_removable n P (k ∷ τ) W a m i = go (mem_cons i) (allows_removable (suc k) (remove r ms P k) τ (remove_within P k W a.0.in1) a.1 m)
    where
      go : (m ≡ k) ⊎ Mem m τ → (Mem m τ → Removable ms (remove r ms P k) (suc k) m) → Removable ms P n m
      go (inl e) ih = rw e a.0
      go (inr t) ih =
          let w = removable_refines r ms (remove r ms P k) P (suc k) m (remove_shrinks P k W a.0.in1) (ih t) in
          record { after = omega (arith, w.after, a.0.after); is = w.is; in1 = w.in1; in2 = w.in2 }

  -- ---- letting go

  -- what is held refines the pieces
  pub keep_refines : (U : ℕ) (P : List ℕ) → PiecesWithin (all_bonds r) P → Refines (keep r ms U P) P
  unfolding keep
  keep_refines U P W c i =
      let w = flat_mem (λ p. big_components r (bit_and p U)) P c i in
      let q = big_is r ok (bit_and w.0 U) (and_within w.0 U (all_bonds r) (W w.0 w.1)) c w.2 in
      (w.0, w.1, sub_trans c (bit_and w.0 U) w.0 q.1 (and_left w.0 U))

  -- and is made of fragments of two bonds or more
  pub keep_fragments : (U : ℕ) (P : List ℕ) → PiecesWithin (all_bonds r) P → (c : ℕ) → Mem c (keep r ms U P) → Own r c × Connected r c × (2 ≤ size c)
  unfolding keep
  keep_fragments U P W c i =
      let w = flat_mem (λ p. big_components r (bit_and p U)) P c i in
      let within : Sub (bit_and w.0 U) (all_bonds r) = and_within w.0 U (all_bonds r) (W w.0 w.1) in
      let q = big_is r ok (bit_and w.0 U) within c w.2 in
      (all_own r c (sub_trans c (bit_and w.0 U) (all_bonds r) q.1 within), q.0, q.2)

  -- and serves them over the bonds that are kept
  keep_serves : (U : ℕ) (P : List ℕ) → PiecesWithin (all_bonds r) P → KeepsFragments r U (keep r ms U P) P
  unfolding keep
  keep_serves U P W f j t u i =
      let p : ℕ = i.0 in
      let w = big_covers r ok (bit_and p U) (and_within p U (all_bonds r) (W p i.1)) f j t (sub_and f p U i.2 u) in
      (w.0, mem_flat (λ p. big_components r (bit_and p U)) P p w.0 i.1 w.1, w.2)

  -- removing a match keeps this: a fragment in what is left of a piece of P misses the match, lies in a piece of X, and so in what is left of that
  remove_serves : (U : ℕ) (X P : List ℕ) (m : ℕ) → PiecesWithin (all_bonds r) X → PiecesWithin (all_bonds r) P → KeepsFragments r U X P → KeepsFragments r U (remove r ms X m) (remove r ms P m)
  remove_serves U X P m WX WP h f j t u i = go (remove_cases r ms P m i.0 i.1)
    where
      go : Left r ms P m i.0 ⊎ (i.0 ≡ (pair ms m).h1) → InOnePiece f (remove r ms X m)
      go (inr e) = ((pair ms m).h1, remove_first r ms X m, rw e at i.2)
      go (inl w) =
          let p : ℕ = w.0 in
          let q = big_is r ok (diff p (struck ms m)) (diff_within p (struck ms m) (all_bonds r) (WP p w.1)) i.0 w.2 in
          let d : Sub f (diff p (struck ms m)) = sub_trans f i.0 (diff p (struck ms m)) i.2 q.1 in
          let k = h f j t u (p, w.1, sub_trans f (diff p (struck ms m)) p d (diff_sub p (struck ms m))) in
          let x : ℕ = k.0 in
          let c = big_covers r ok (diff x (struck ms m)) (diff_within x (struck ms m) (all_bonds r) (WX x k.1)) f j t (diff_swap f p x (struck ms m) d k.2) in
          (c.0, remove_mem r ms X m x c.0 k.1 c.1, c.2)

  module _ (M : Laws r ms) where
    -- each bond of a removable match is in a removable match of size 2
    cover_bit : (P : List ℕ) (n m b : ℕ) → Removable ms P n m → bit (struck ms m) b ≡ 1 → bit (mask_of r ms (removable r ms P n) 2) b ≡ 1
    unfolding mask_of struck
    cover_bit P n m b h e =
        let w = M.covers m b h.is (or_cases (pair ms m).h1 (pair ms m).h2 b e) in
        let j : ℕ = w.0 in
        let c = w.1 in
        let held : bit (struck ms j) b ≡ 1 = ⊎_elim (λ x. or_left_in (pair ms j).h1 (pair ms j).h2 b x) (λ x. or_right_in (pair ms j).h1 (pair ms j).h2 b x) c.holds in
        unions_one (struck ms) (filter (λ m. eqb (size_of ms m) 2) (removable r ms P n)) j b
        (keep_intro (λ m. eqb (size_of ms m) 2) (removable r ms P n) (mem_removable r ms P n j (found j c.later c.within c.inside)) (eq-eqb (size_of ms j) 2 c.two)) held
      where
        lies : (x y : ℕ) → Sub x y → InOnePiece y P → InOnePiece x P
        lies x y q i = (i.0, i.1, sub_trans x y i.0 q i.2)

        found : (j : ℕ) → m ≤ j → j < length ms
            → (Sub (pair ms j).h1 (pair ms m).h1 × Sub (pair ms j).h2 (pair ms m).h2) ⊎ (Sub (pair ms j).h1 (pair ms m).h2 × Sub (pair ms j).h2 (pair ms m).h1) → Removable ms P n j
        found j l i (inl q) = record { after = omega (arith, h.after); is = i; in1 = lies (pair ms j).h1 (pair ms m).h1 q.0 h.in1; in2 = lies (pair ms j).h2 (pair ms m).h2 q.1 h.in2 }
        found j l i (inr q) = record { after = omega (arith, h.after); is = i; in1 = lies (pair ms j).h1 (pair ms m).h2 q.0 h.in2; in2 = lies (pair ms j).h2 (pair ms m).h1 q.1 h.in1 }

    -- so a removable match is within the bonds that are kept
    pub struck_covered : (P : List ℕ) (n m : ℕ) → Removable ms P n m → Sub (struck ms m) (mask_of r ms (removable r ms P n) 2)
    struck_covered P n m h = sub_of (struck ms m) (mask_of r ms (removable r ms P n) 2) (λ b e. cover_bit P n m b h e)

    -- a removable match of size k is within the bonds in removable matches of size k
    pub mask_in : (P : List ℕ) (n m k : ℕ) → Removable ms P n m → size_of ms m ≡ k → Sub (struck ms m) (mask_of r ms (removable r ms P n) k)
    unfolding mask_of
    mask_in P n m k h e =
        sub_of (struck ms m) (mask_of r ms (removable r ms P n) k)
        (λ b w. unions_one (struck ms) (filter (λ m. eqb (size_of ms m) k) (removable r ms P n)) m b
        (keep_intro (λ m. eqb (size_of ms m) k) (removable r ms P n) (mem_removable r ms P n m h) (eq-eqb (size_of ms m) k e)) w)

    -- all of which are kept
    pub mask_within : (P : List ℕ) (n k : ℕ) → Sub (mask_of r ms (removable r ms P n) k) (mask_of r ms (removable r ms P n) 2)
    unfolding mask_of
    mask_within P n k =
        sub_of (mask_of r ms (removable r ms P n) k) (mask_of r ms (removable r ms P n) 2)
        (λ b w.
        let u = unions_of (struck ms) (filter (λ m. eqb (size_of ms m) k) (removable r ms P n)) b w in
        let f = keep_mem (λ m. eqb (size_of ms m) k) (removable r ms P n) u.1 in
        cover_bit P n u.0 b (removable_mem r ms P n u.0 f.0) u.2)

    -- a series allowed from P, within U, is allowed from what serves P over U
    allows_serves : (U n : ℕ) (X P τ : List ℕ) → PiecesWithin (all_bonds r) X → PiecesWithin (all_bonds r) P → KeepsFragments r U X P
        → ((m : ℕ) → Mem m τ → Sub (struck ms m) U) → Allows r ms n P τ → Allows r ms n X τ
    allows_serves U n X P [] WX WP h u a = tt
    allows_serves U n X P (m ∷ τ) WX WP h u a =
        let k = a.0 in
        let s = u m (m_head refl) in
        let t = M.twins m k.is in
        let i1 = h (pair ms m).h1 t.one t.big (sub_trans (pair ms m).h1 (struck ms m) U (first_struck ms m) s) k.in1 in
        let i2 = h (pair ms m).h2 t.other (omega (arith, t.big, t.same_size)) (sub_trans (pair ms m).h2 (struck ms m) U (second_struck ms m) s) k.in2 in (
          record { after = k.after; is = k.is; in1 = i1; in2 = i2 },
          allows_serves U (suc m) (remove r ms X m) (remove r ms P m) τ (remove_within X m WX i1) (remove_within P m WP k.in1)
              (remove_serves U X P m WX WP h) (λ j i. u j (m_tail i)) a.1,
        )

    -- S2: a series allowed from P is allowed from P after letting go.
    -- Its matches are removable in P, so by M3 all their bonds are kept; and what is held serves P over the bonds that are kept
    pub letting_go : (P : List ℕ) (n : ℕ) (τ : List ℕ) → PiecesWithin (all_bonds r) P → Allows r ms n P τ → Allows r ms n (keep r ms (mask_of r ms (removable r ms P n) 2) P) τ
    letting_go P n τ W a =
        let U : ℕ = mask_of r ms (removable r ms P n) 2 in
        let rem = allows_removable n P τ W a in
        allows_serves U n (keep r ms U P) P τ (refines_within (all_bonds r) (keep_refines U P W) W) W (keep_serves U P W) (λ m i. struck_covered P n m (rem m i)) a
