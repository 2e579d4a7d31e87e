-- Equal strings, and the order of lists of numbers, as the library's comparisons answer them and as a loop finds it, place by place.
use Rattle.std.proofs.Common.{◌≡◌, ◌∙◌, ◌↔◌, ◌&&◌, ◌<◌, ◌+◌, ℕ, suc, add-one, length, get_or, drop, Bool, true, false, not, List, [], ◌∷◌, refl, arith, eqb, Some, nat_cmp, is_le, is_gt, Ordering}
use lib.Seq.{drop-cons}
use Rattle.std.proofs.lemmas.List.{drop_all}
use Rattle.std.proofs.lemmas.Cmp.{same_from_slice_cmp, same_from_slice_cmp_tested}
use Rattle.std.proofs.lemmas.Bool.Decides.{nat_tests}
use Rattle.std.specs.Cmp.Lexicographic.{slice_cmp, slice_partial_cmp, pointwise, bytes_decides}
use Rattle.std.specs.Ordering.{is_some_and}
use Rattle.molecule.specs.Lists.{Bytes, pick}
use Rattle.canonize.specs.Strings.{lex_le, same}
use Rattle.canonize.proofs.Sorting.{lexle_below, lexle_above, lexle_same}

-- the library's test of two strings is the same
pub same_pointwise : (x y : Bytes) → pointwise eqb x y ≡ same x y
unfolding same
same_pointwise [] [] = refl
same_pointwise [] (b ∷ y) = refl
same_pointwise (a ∷ x) [] = refl
same_pointwise (a ∷ x) (b ∷ y) = both (eqb a b) (same_pointwise x y)
  where
    both : (t : Bool) → pointwise eqb x y ≡ same x y → (t && pointwise eqb x y) ≡ pick t (same x y) false
    both true e = e
    both false e = refl

-- the test decides equality
pub same_iff : (x y : Bytes) → (same x y ≡ true) ↔ (x ≡ y)
same_iff x y = rw (← same_pointwise x y) (bytes_decides x y)

pub same_is : (x y : Bytes) → same x y ≡ true → x ≡ y
same_is x y = (same_iff x y).0

pub same_refl : (x : Bytes) → same x x ≡ true
same_refl x = (same_iff x x).1 refl

-- what is left of two strings from place i on
module _ (x y : Bytes) (i : ℕ) where
  pub first_ends : i ≡ length x → lex_le (drop i x) (drop i y) ≡ true
  unfolding lex_le
  first_ends e = rw (drop_all i x (omega (arith, e)))

  pub second_ends : i < length x → i ≡ length y → lex_le (drop i x) (drop i y) ≡ false
  unfolding lex_le
  second_ends h e = rw (drop-cons x i 0 h, drop_all i y (omega (arith, e)))

  -- while neither ends it is decided by the elements there, unless they are alike
  module _ (h : i < length x) (g : i < length y) where
    heads : lex_le (drop i x) (drop i y) ≡ lex_le (get_or x i 0 ∷ drop (suc i) x) (get_or y i 0 ∷ drop (suc i) y)
    heads = rw (drop-cons x i 0 h, drop-cons y i 0 g)

    pub first_less : get_or x i 0 < get_or y i 0 → lex_le (drop i x) (drop i y) ≡ true
    first_less l = heads ∙ lexle_below (get_or x i 0) (get_or y i 0) (drop (suc i) x) (drop (suc i) y) l

    pub second_less : get_or y i 0 < get_or x i 0 → lex_le (drop i x) (drop i y) ≡ false
    second_less l = heads ∙ lexle_above (get_or x i 0) (get_or y i 0) (drop (suc i) x) (drop (suc i) y) l

    pub both_alike : get_or x i 0 ≡ get_or y i 0 → lex_le (drop i x) (drop i y) ≡ lex_le (drop (i + 1) x) (drop (i + 1) y)
    both_alike e = rw add-one (heads ∙ lexle_same (get_or x i 0) (get_or y i 0) (drop (suc i) x) (drop (suc i) y) e)

-- on slices the order is what `x.cmp(&y).is_le()` answers, and `x > y` answers that it does not hold
pub cmp_lex : (x y : List ℕ) (r : Ordering) → r ≡ slice_cmp nat_cmp x y → is_le r ≡ lex_le x y
unfolding lex_le
cmp_lex = same_from_slice_cmp nat_cmp is_le lex_le refl (λ b y. refl) (λ a x. refl) (λ a b x y o h. grind (arith, nat_tests))

pub gt_lex : (x y : List ℕ) (r : Bool) → r ≡ is_some_and is_gt (slice_partial_cmp (λ a b. Some (nat_cmp a b)) x y) → r ≡ not (lex_le x y)
unfolding lex_le
gt_lex = same_from_slice_cmp_tested nat_cmp is_gt (λ x y. not (lex_le x y)) refl (λ b y. refl) (λ a x. refl) (λ a b x y o h. grind (arith, nat_tests))
