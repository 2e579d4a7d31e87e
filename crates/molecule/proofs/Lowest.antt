-- What `find` over a range and `position` over bytes answer: the lowest number that passes a test. Whatever the test is. Assumes nothing.
use Rattle.std.proofs.Common.{◌≡◌, sym, Bool, true, false, ℕ, ◌+◌, ◌-◌, ◌≤◌, ◌<◌, Option, None, Some, MatchOption, List, length, get_or, slice_range, arith}
use Rattle.std.proofs.lemmas.List.{get_or-take, get_or-drop, length-take, length-drop}
use Rattle.std.proofs.lemmas.Iterator.{first_from_Range, IsFirst-from_position, YieldsList-from_slice}
use Rattle.std.proofs.iter.Yields.{nat_range_steps, fronts}
use Rattle.std.specs.Iterator.{FindsItem, FindsPosition}
use Rattle.std.specs.Fn.{Called, CalledAt}
use Rattle.std.specs.List.{AllWithin, HoldsAt}
use Rattle.std.specs.Slice.Iter.{iter_rest}
use Rattle.std.specs.declared.ops.Range.{Range}
use Rattle.std.specs.declared.slice.Iter.{Iter}
use denote.Param.Members.{Mut}
use denote.Ref.{Bor}
use Rattle.molecule.specs.Inner.Finding.{IsLowest}

-- what `find` answers over a range, where the closure answers the test of each number in it, and none before it passes
pub lowest_by_find : {F : Type 0} {g : Mut F (Bor ℕ × Unit {0}) Bool} (p : ℕ → Bool) (s u : Range ℕ) (f : F) (answer : Option ℕ) → FindsItem nat_range_steps g s f answer u
    → ((x : ℕ) (b : Bool) (h : F) → CalledAt g f x b h → (h ≡ f) × (s.start ≤ x → x < s.end → b ≡ p x)) → ((k : ℕ) → k < s.start → p k ≡ false)
    → IsLowest p s.end answer
lowest_by_find p s u f answer ran says before =
    cases answer
    (first_from_Range s u f answer (Gives true) (Gives false) ran (λ x h c. (says x true h c).1) (λ x h c. says x false h c))
  where
    Gives : Bool → ℕ → Type 0
    Gives b x = s.start ≤ x → x < s.end → b ≡ p x

    cases : (o : Option ℕ) → MatchOption o ((k : ℕ) → s.start ≤ k → k < s.end → Gives false k) (λ i. (s.start ≤ i) × (i < s.end) × Gives true i × ((k : ℕ) → s.start ≤ k → k < i → Gives false k))
        → IsLowest p s.end o
    cases None none = λ k l. grind (arith, before, none)
    cases (Some i) at = (at.1, sym (at.2 at.0 at.1), λ k l. grind (arith, before, at.3))

-- the same over n elements of a list, from a place on
lowest_within : (p : ℕ → Bool) (r : List ℕ) (from n : ℕ) (answer : Option ℕ) → from + n ≤ length r → let xs = slice_range r from (from + n) in
    MatchOption answer (AllWithin (λ y. p y ≡ false) xs 0 (length xs)) (λ i. (i < length xs) × HoldsAt (λ y. p y ≡ true) xs i × AllWithin (λ y. p y ≡ false) xs 0 i)
    → IsLowest (λ i. p (get_or r (from + i) 0)) n answer
lowest_within p r from n answer h m = cases answer m
  where
    long : length (slice_range r from (from + n)) ≡ n
    long = simp (length-take, length-drop) (omega arith)

    at : (k : ℕ) → k < n → get_or (slice_range r from (from + n)) k 0 ≡ get_or r (from + k) 0
    at k l = let e : k < from + n - from = omega arith in rw (get_or-take, get_or-drop)

    cases : (o : Option ℕ) → let xs = slice_range r from (from + n) in
        MatchOption o (AllWithin (λ y. p y ≡ false) xs 0 (length xs)) (λ i. (i < length xs) × HoldsAt (λ y. p y ≡ true) xs i × AllWithin (λ y. p y ≡ false) xs 0 i)
        → IsLowest (λ i. p (get_or r (from + i) 0)) n o
    cases None none = λ k l. rw (← at k l) (none k 0 (omega arith) (omega (arith, long)))
    cases (Some i) found =
        let l : i < n = omega (arith, long) in
        (l, rw (← at i l) (found.1 0), λ k q. rw (← at k (omega arith)) (found.2 k 0 (omega arith) q))

-- what `position` answers of n bytes from a place on, where the closure answers the test
pub lowest_by_position : {F : Type 0} {g : Mut F (Bor ℕ × Unit {0}) Bool} (p : ℕ → Bool) (r : List ℕ) (from n : ℕ) (s u : Iter ℕ) (f : F) (answer : Option ℕ) → FindsPosition fronts g s f answer u
    → iter_rest s ≡ slice_range r from (from + n) → ((x : Bor ℕ) (b : Bool) (h : F) → Called g f (x, tt) b h → (h ≡ f) × (b ≡ p x.now)) → from + n ≤ length r
    → IsLowest (λ i. p (get_or r (from + i) 0)) n answer
lowest_by_position p r from n s u f answer ran rest says h =
    lowest_within p r from n answer h
    (IsFirst-from_position u f answer (λ y. p y ≡ true) (λ y. p y ≡ false) ran (YieldsList-from_slice (slice_range r from (from + n)) rest) (λ x k c. grind (arith, says x true k c)) (λ x k c. let w = says x false k c in (w.0, grind (arith, w.1))))
