-- A loop over a set, from its least member on: what it passed is the set without the rest, and grows by a member at each turn. Assumes nothing.
use mathlib.Core.Path.{◌≡◌, refl}
use mathlib.Core.Logic.{⊎_elim}
use mathlib.Core.Bool.{true, false}
use Prim.Native.Nat.{ℕ, ◌^◌}
use native.Mathlib.Omega.{arith}
use lib.Bits.{bit_or}
use Rattle.bitset.specs.Bits.{bit, Sub, diff, Lowest, WithoutLowest}
use Rattle.bitset.proofs.Laws.{bit_le, bit-or, bit_empty, bit_one, same, digits, sub_bit, sub_or, sub_trans, or_cases, one_sub}
use Rattle.bitset.proofs.Members.{sub_in, or_left_in, or_right_in, diff_sub, one_is}
use Rattle.molecule.specs.Lists.{Bytes}
use Rattle.canonize.specs.Strings.{lex_le}
use Rattle.canonize.specs.Inner.Places.{Least, After}
use Rattle.canonize.proofs.Sorting.{lexle_refl, lexle_trans, lexle_turn}

-- a turn: i is passed, and r is left
pub record PassedOne (set rest i r : ℕ) : Type 0 where
  pub within : Sub r set
  pub passed : diff set r ≡ bit_or (diff set rest) (2 ^ i)

pub turn : {set rest i r : ℕ} → Sub rest set → Lowest rest i → WithoutLowest rest r → PassedOne set rest i r
turn {set} {rest} {i} {r} h l w =
    let e : r ≡ diff rest (2 ^ i) = rw l.is w.is in
    let m : Sub (2 ^ i) set = one_sub set i (sub_in rest set h i l.member) in
    record {
      within = rw e (sub_trans (diff rest (2 ^ i)) rest set (diff_sub rest (2 ^ i)) h);
      passed = rw e (same (λ j. simp digits (omega (arith, bit_le set j, bit_le rest j, sub_bit (2 ^ i) set j m))));
    }

-- at first nothing is passed
pub passed_none : (set : ℕ) → diff set set ≡ 0
passed_none set = same (λ j. simp digits (omega arith))

-- ---- the least string so far

module _ {X : ℕ → Bytes} where
  pub least_one : (i : ℕ) → Least X (bit_or 0 (2 ^ i)) i
  least_one i = record {
    member = or_right_in 0 (2 ^ i) i (bit_one i);
    first = λ j h. ⊎_elim (λ (e : bit 0 j ≡ 1). absurd (omega (arith, bit_empty j))) (λ (e : bit (2 ^ i) j ≡ 1). rw (one_is i j e) (lexle_refl (X i))) (or_cases 0 (2 ^ i) j h);
  }

  pub least_stays : {s b : ℕ} (i : ℕ) → Least X s b → lex_le (X b) (X i) ≡ true → Least X (bit_or s (2 ^ i)) b
  least_stays {s} {b} i l h = record {
    member = or_left_in s (2 ^ i) b l.member;
    first = λ j g. ⊎_elim (λ e. l.first j e) (λ e. rw (one_is i j e) h) (or_cases s (2 ^ i) j g);
  }

  pub least_moves : {s b : ℕ} (i : ℕ) → Least X s b → lex_le (X b) (X i) ≡ false → Least X (bit_or s (2 ^ i)) i
  least_moves {s} {b} i l h = record {
    member = or_right_in s (2 ^ i) i (bit_one i);
    first = λ j g. ⊎_elim (λ e. lexle_trans (X i) (X b) (X j) (lexle_turn (X b) (X i) h) (l.first j e)) (λ e. rw (one_is i j e) (lexle_refl (X i))) (or_cases s (2 ^ i) j g);
  }

  -- ---- the strings after x so far

  pub after_none : (x : Bytes) → After X 0 x 0
  after_none x = record { within = refl; yes = λ j h. absurd (omega (arith, bit_empty j)); no = λ j h g. absurd (omega (arith, bit_empty j)) }

  pub after_with : {s : ℕ} {x : Bytes} {t : ℕ} (i : ℕ) → After X s x t → lex_le x (X i) ≡ true → After X (bit_or s (2 ^ i)) x (bit_or t (2 ^ i))
  after_with {s} {x} {t} i a h = record {
    within = same (λ j. simp digits (omega (arith, sub_bit t s j a.within)));
    yes = λ j g. ⊎_elim (λ k. a.yes j k) (λ k. rw (one_is i j k) h) (or_cases t (2 ^ i) j g);
    no = λ j g k. ⊎_elim (λ (m : bit s j ≡ 1). a.no j m (omega (arith, bit-or t (2 ^ i) j))) (λ (m : bit (2 ^ i) j ≡ 1). absurd (omega (arith, bit-or t (2 ^ i) j))) (or_cases s (2 ^ i) j g);
  }

  pub after_less : {s : ℕ} {x : Bytes} {t : ℕ} (i : ℕ) → After X s x t → lex_le x (X i) ≡ false → After X (bit_or s (2 ^ i)) x t
  after_less {s} {x} {t} i a h = record {
    within = sub_trans t s (bit_or s (2 ^ i)) a.within (sub_or s (2 ^ i));
    yes = a.yes;
    no = λ j g k. ⊎_elim (λ (m : bit s j ≡ 1). a.no j m k) (λ (m : bit (2 ^ i) j ≡ 1). rw (one_is i j m) h) (or_cases s (2 ^ i) j g);
  }
