-- The order of a record's matches. A match whose first fragment comes after another's, by size and label, is numbered before it; of two matches with
-- one first fragment, the one whose second is the later node. Twins are a match, the later node first. Assumes nothing; of twins, that the record is accepted.
use mathlib.Core.Path.{◌≡◌, sym, ap, ◌∙◌}
use mathlib.Core.Logic.{◌⊎◌, inl, inr, ◌≢◌, ⊎_elim}
use mathlib.Core.Bool.{true, false, true≢false}
use mathlib.Core.List.{List}
use Prim.Native.Nat.{ℕ, ◌≤◌, ◌<◌}
use native.Mathlib.Omega.{arith}
use native.Mathlib.Decide.{ℕ_discrete, dec_lt}
use lib.ListN.{length, get_or}
use Rattle.molecule.specs.Lists.{Bytes}
use Rattle.molecule.specs.Check.{accepted, check}
use Rattle.molecule.proofs.Lists.{ordered_at}
use Rattle.matches.specs.Table.{not_below, number_of, Pair, pair, pairs}
use Rattle.matches.specs.Laws.{Twins, IsMatch}
use Rattle.matches.specs.Inner.Ranks.{Precedes, precedes, number}
use Rattle.matches.proofs.Noting.{number_at, Above, above_of}
use Rattle.matches.proofs.Sizes.{unsorted_sane}
use Rattle.matches.proofs.Listed.{nodes, sorted, nodes_are, sorted_descends, name, none, match, pairs_at, match_sound}
use Rattle.matches.proofs.Complete.{all_listed}
use Rattle.matches.proofs.Ranks.{precedes_is, precedes_refl}

module _ (r : Bytes) where
  abbrev first : ℕ → ℕ
  first i = (pair (pairs r) i).h1

  abbrev second : ℕ → ℕ
  second i = (pair (pairs r) i).h2

  -- ---- matches by the numbers of their nodes

  -- a node's number is where it stands
  stands_at : (k : ℕ) → k < length (nodes r) → number r (get_or (nodes r) k 0) ≡ k
  unfolding number
  stands_at k h = ap (λ (l : List ℕ). number_of l (get_or (nodes r) k 0)) (nodes_are r) ∙ number_at (nodes r) (unsorted_sane r).distinct k h

  -- the two nodes of match i
  record At (i : ℕ) : Type 0 where
    within : i < length (sorted r)
    fits : (match r i).larger < length (nodes r)
    below : (match r i).smaller ≤ (match r i).larger
    one : get_or (nodes r) (match r i).larger 0 ≡ first i
    two : get_or (nodes r) (match r i).smaller 0 ≡ second i
    one_number : number r (first i) ≡ (match r i).larger
    two_number : number r (second i) ≡ (match r i).smaller

  at : (i : ℕ) → i < length (pairs r) → At i
  unfolding name
  at i h =
      let w = pairs_at r i h in
      let s = match_sound r i w.0 in
      let a : get_or (nodes r) (match r i).larger 0 ≡ first i = sym (ap (λ (p : Pair). p.h1) w.1) in
      let b : get_or (nodes r) (match r i).smaller 0 ≡ second i = sym (ap (λ (p : Pair). p.h2) w.1) in
      record {
        within = w.0;
        fits = s.fits;
        below = s.below;
        one = a;
        two = b;
        one_number = sym (ap (number r) a) ∙ stands_at (match r i).larger s.fits;
        two_number = sym (ap (number r) b) ∙ stands_at (match r i).smaller (omega (arith, s.fits, s.below));
      }

  -- the fragments of matches are told apart by their numbers
  same_first : (i j : ℕ) → At i → At j → number r (first i) ≡ number r (first j) → first i ≡ first j
  same_first i j a b e = sym a.one ∙ ap (λ (n : ℕ). get_or (nodes r) n 0) (sym a.one_number ∙ e ∙ b.one_number) ∙ b.one

  same_second : (i j : ℕ) → At i → At j → number r (second i) ≡ number r (second j) → second i ≡ second j
  same_second i j a b e = sym a.two ∙ ap (λ (n : ℕ). get_or (nodes r) n 0) (sym a.two_number ∙ e ∙ b.two_number) ∙ b.two

  -- along the table the numbers fall, those of the first fragments and then those of the second
  abbrev Falls : ℕ → ℕ → Type 0
  Falls i j = (number r (first j) < number r (first i)) ⊎ ((number r (first i) ≡ number r (first j)) × (number r (second j) ≤ number r (second i)))

  numbers_fall : (i j : ℕ) → i < j → j < length (pairs r) → Falls i j
  unfolding match
  numbers_fall i j l h =
      let a = at i (omega arith) in
      let b = at j h in
      go (above_of (match r i) (match r j) (ordered_at (λ x y. not_below x y ≡ true) (none r) (sorted r) (sorted_descends r) i j l b.within)) a b
    where
      go : Above (match r i) (match r j) → At i → At j → Falls i j
      go (inl u) a b = inl (omega (arith, a.one_number, b.one_number))
      go (inr u) a b = inr (a.one_number ∙ u.0 ∙ sym b.one_number, omega (arith, u.1, a.two_number, b.two_number))

  -- an earlier node does not come after, by size and label
  ranks_rise : (i j : ℕ) → At i → At j → number r (first i) ≤ number r (first j) → precedes r (first i) (first j) ≡ true
  ranks_rise i j a b l = go (ℕ_discrete (number r (first i)) (number r (first j)))
    where
      go : Dec (number r (first i) ≡ number r (first j)) → precedes r (first i) (first j) ≡ true
      go (yes e) = ap (precedes r (first i)) (sym (same_first i j a b e)) ∙ precedes_refl r (first i)
      go (no n) =
          let x : ℕ = (match r i).larger in
          let y : ℕ = (match r j).larger in
          let l : x < y = omega (arith, a.one_number, b.one_number) in
          let p : Precedes r (get_or (nodes r) x 0) (get_or (nodes r) y 0) = ordered_at (Precedes r) 0 (nodes r) (unsorted_sane r).order x y l b.fits in
          precedes_is r (first i) (first j) (rw (← a.one, ← b.one) p)

  -- ---- the laws

  -- a match whose first fragment comes after another's is numbered before it
  pub firsts_order : (i j : ℕ) → i < length (pairs r) → j < length (pairs r) → precedes r (first i) (first j) ≡ false → i < j
  firsts_order i j h k e = go (dec_lt i j) (ℕ_discrete i j)
    where
      falls : Falls j i → number r (first i) ≤ number r (first j)
      falls (inl w) = omega arith
      falls (inr w) = omega (arith, w.0)

      go : Dec (i < j) → Dec (i ≡ j) → i < j
      go (yes l) d = l
      go (no n) (yes d) = absurd (true≢false (sym (precedes_refl r (first i)) ∙ ap (λ (z : ℕ). precedes r (first i) (first z)) d ∙ e))
      go (no n) (no d) = absurd (true≢false (sym (ranks_rise i j (at i h) (at j k) (falls (numbers_fall j i (omega arith) h))) ∙ e))

  -- of two with one first fragment, the one whose second is the later node
  pub seconds_order : (i j : ℕ) → i < length (pairs r) → j < length (pairs r) → first i ≡ first j → number r (second j) ≤ number r (second i)
      → second i ≢ second j → i < j
  seconds_order i j h k e l d = go (dec_lt i j) (ℕ_discrete i j)
    where
      never : Falls j i → ⊥
      never (inl w) = omega (arith, w, ap (number r) e)
      never (inr w) = d (same_second i j (at i h) (at j k) (omega (arith, w.1)))

      go : Dec (i < j) → Dec (i ≡ j) → i < j
      go (yes l) c = l
      go (no n) (yes c) = absurd (d (ap second c))
      go (no n) (no c) = absurd (never (numbers_fall j i (omega arith) h))

  -- match i is of x and y, in this order
  abbrev pub MatchOf : ℕ → ℕ → ℕ → Type 0
  MatchOf x y i = (i < length (pairs r)) × (first i ≡ x) × (second i ≡ y)

  -- twins are a match, the later node first
  pub twins_match : check r ≡ accepted → (x y : ℕ) → Twins r x y → number r y ≤ number r x → (i : ℕ) × MatchOf x y i
  twins_match ok x y t l = go (all_listed r ok x y t)
    where
      go : IsMatch (pairs r) x y → (i : ℕ) × MatchOf x y i
      go w = ⊎_elim (λ q. (w.0, (w.1, q.0, q.1))) turn w.2
        where
          -- the other way round both have one number, so they are one
          turn : (first w.0 ≡ y) × (second w.0 ≡ x) → (i : ℕ) × MatchOf x y i
          turn q =
              let a = at w.0 w.1 in
              let n : number r y ≡ (match r w.0).larger = sym (ap (number r) q.0) ∙ a.one_number in
              let m : number r x ≡ (match r w.0).smaller = sym (ap (number r) q.1) ∙ a.two_number in
              let e : (match r w.0).larger ≡ (match r w.0).smaller = omega (arith, a.below, n, m) in
              let s : first w.0 ≡ second w.0 = sym a.one ∙ ap (λ (n : ℕ). get_or (nodes r) n 0) e ∙ a.two in
              (w.0, (w.1, s ∙ q.1, sym s ∙ q.0))
