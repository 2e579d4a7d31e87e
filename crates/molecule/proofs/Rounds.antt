-- Growth by rounds: after k of them the part is exactly the bonds that at most k steps reach, a round need look at the bonds added last alone,
-- and where it adds none the part is what is reached. Whatever near is. Assumes nothing.
use mathlib.Core.Path.{◌≡◌, sym, ap, ◌∙◌, subst}
use mathlib.Core.Logic.{◌≢◌, ⊎_elim, ◌↔◌}
use mathlib.Core.List.{[], ◌∷◌}
use Prim.Native.Nat.{ℕ, zero, suc, ◌^◌, ◌≤◌, ◌<◌}
use native.Mathlib.Omega.{arith}
use native.Mathlib.Nat.{lt_of_not-le}
use lib.Bits.{bit_and, bit_or, or_lt}
use Rattle.bitset.specs.Bits.{bit, diff, size, members, unions}
use Rattle.bitset.proofs.Laws.{bit_le, bit-and, bit_empty, bit_one, or_cases, sub_anti, size_minus, size_zero, union_one, union_of}
use Rattle.bitset.proofs.Members.{diff_sub, in_or_out, sub_of, sub_in, one_is, and_in, diff_in, or_left_in, or_right_in, not_empty}
use Rattle.bitset.proofs.Decide.{sets, v, none, less, is, sub}
use Rattle.molecule.specs.Lists.{Bytes}
use Rattle.molecule.specs.Record.{bonds}
use Rattle.molecule.specs.Touch.{grow, reach, touching}
use Rattle.molecule.specs.Connected.{Own}
use Rattle.molecule.specs.Rounds.{grow_round, StepsTo, no_step, one_step, WithinSteps, AfterRounds}
use Rattle.molecule.specs.Inner.Growth.{Frontier, ByRounds}
use Rattle.molecule.proofs.Growing.{Closed, round_in, round_has, round_keeps, grow_last, reach_has, reach_closed, reach_least}
use Rattle.molecule.proofs.Components.{word_at, own_words}

module _ (near : ℕ → ℕ) (s : ℕ) where
  -- ---- the statement

  rounds_none : (c : ℕ) → AfterRounds near s c 0 c
  rounds_none c x = (λ h. (x, h, (0, omega arith, no_step)), λ w. back w.1 w.2.1 w.2.2)
    where
      back : {b j : ℕ} → bit c b ≡ 1 → j ≤ 0 → StepsTo near s b j x → bit c x ≡ 1
      back h l no_step = h
      back h l (one_step w t k) = absurd (omega arith)

  -- one round more is one step more
  rounds_more : (c k part : ℕ) → AfterRounds near s c k part → AfterRounds near s c (suc k) (grow_round near s part)
  rounds_more c k part a x = (
    λ h. ⊎_elim (λ e. let w = (a x).0 e in (w.0, w.1, (w.2.0, omega (arith, w.2.1), w.2.2)))
        (λ p. let w = (a p.0).0 p.1 in (w.0, w.1, (suc w.2.0, omega (arith, w.2.1), one_step w.2.2 p.2 p.3)))
        (round_in near s part x h),
    λ w. back w.1 w.2.1 w.2.2,
  )
    where
      back : {b j : ℕ} → bit c b ≡ 1 → j ≤ suc k → StepsTo near s b j x → bit (grow_round near s part) x ≡ 1
      back {b} h l no_step = sub_in part (grow_round near s part) (round_keeps near s part) b ((a b).1 (b, h, (0, omega arith, no_step)))
      back {b} h l (one_step {k = j} {x = y} w t e) = round_has near s part y x ((a y).1 (b, h, (j, omega arith, w))) t e

  -- of the definition: after k rounds from c
  pub grow_rounds : (c k : ℕ) → AfterRounds near s c k (grow near s k c)
  unfolding grow
  grow_rounds c zero = rounds_none c
  grow_rounds c (suc k) = subst (AfterRounds near s c (suc k)) (sym (grow_last near s k c)) (rounds_more c k (grow near s k c) (grow_rounds c k))

  -- from one first bond
  pub rounds_first : (b k part : ℕ) → AfterRounds near s (2 ^ b) k part → (x : ℕ) → (bit part x ≡ 1) ↔ WithinSteps near s b k x
  rounds_first b k part a x = (
    λ h. let w = (a x).0 h in subst (λ (z : ℕ). WithinSteps near s z k x) (one_is b w.0 w.1) w.2,
    λ w. (a x).1 (b, bit_one b, w),
  )

  -- ---- the bonds that a round looks at

  -- the bonds of s next to those of last are all that a round adds
  pub frontier_round : (part last : ℕ) → Frontier near s part last → bit_or part (bit_and s (unions near (members last))) ≡ grow_round near s part
  frontier_round part last f = sub_anti (bit_or part new) all (sub_of (bit_or part new) all there) (sub_of all (bit_or part new) back)
    where
      beside : ℕ
      beside = unions near (members last)

      new : ℕ
      new = bit_and s beside

      all : ℕ
      all = grow_round near s part

      there : (y : ℕ) → bit (bit_or part new) y ≡ 1 → bit all y ≡ 1
      there y h = ⊎_elim (λ e. sub_in part all (round_keeps near s part) y e)
          (λ (e : bit new y ≡ 1).
          let w = union_of near last y (omega (arith, bit-and s beside y, bit_le beside y)) in
          round_has near s part w.0 y (sub_in last part f.inside w.0 w.1) w.2 (omega (arith, bit-and s beside y, bit_le s y)))
          (or_cases part new y h)

      back : (y : ℕ) → bit all y ≡ 1 → bit (bit_or part new) y ≡ 1
      back y h = ⊎_elim (λ e. or_left_in part new y e)
          (λ p. ⊎_elim (λ q. or_right_in part new y (and_in s beside y p.3 (union_one near last p.0 y q p.2)))
          (λ q. or_left_in part new y (f.others p.0 y (diff_in part last p.0 p.1 q) p.3 p.2))
          (in_or_out last p.0))
          (round_in near s part y h)

  -- ---- the loop

  pub by_start : (c : ℕ) → ByRounds near s c c c
  by_start c = record {
    rounds = 0;
    after = rounds_none c;
    frontier = record {
      inside = sets [] (sub (v 0) (v 0)) (c ∷ []) tt;
      others = λ x y h k t. absurd (not_empty (diff c c) x h (sets [] (is (less (v 0) (v 0)) none) (c ∷ []) tt));
    };
  }

  module _ (c part last : ℕ) (w : ByRounds near s c part last) where
    -- the next round, and what it adds
    abbrev next : ℕ
    next = grow_round near s part

    abbrev added : ℕ
    added = diff next part

    -- what has been looked at then is the part before
    looked : diff next added ≡ part
    looked = sets (sub (v 0) (v 1) ∷ []) (is (less (v 1) (less (v 1) (v 0))) (v 0)) (part ∷ next ∷ []) tt (round_keeps near s part)

    pub by_more : ByRounds near s c next added
    by_more = record {
      rounds = suc w.rounds;
      after = rounds_more c w.rounds part w.after;
      frontier = record {
        inside = diff_sub next part;
        others = λ x y h k t. round_has near s part x y (ap (λ (z : ℕ). bit z x) (sym looked) ∙ h) t k;
      };
    }

    -- a round looks at bonds that were not looked at before
    pub by_less : last ≢ 0 → size (diff part last) < size (diff next added)
    by_less n = lt_of_not-le (λ l. n (size_zero last (omega (arith, l, ap size looked, size_minus part last w.frontier.inside))))

    -- a part that no bond of s is next to is what is reached
    by_closed : Closed near s part → part ≡ reach near s c
    by_closed k = sub_anti part (reach near s c)
        (sub_of part (reach near s c) (λ x h. let p = (w.after x).0 h in walked p.1 p.2.2))
        (reach_least near s c part (sub_of c part (λ x h. (w.after x).1 (x, h, (0, omega arith, no_step)))) k)
      where
        walked : {b j x : ℕ} → bit c b ≡ 1 → StepsTo near s b j x → bit (reach near s c) x ≡ 1
        walked {b} h no_step = sub_in c (reach near s c) (reach_has near s c) b h
        walked h (one_step {x = y} {y = x} p t m) = reach_closed near s c y x (walked h p) m t

    -- where the last round has added nothing
    pub by_done : last ≡ 0 → part ≡ reach near s c
    by_done e = by_closed (λ x y h k t. w.frontier.others x y (diff_in part last x h (ap (λ (z : ℕ). bit z x) e ∙ bit_empty x)) k t)

    -- and where nothing is left to add
    pub by_whole : part ≡ s → part ≡ reach near s c
    by_whole e = by_closed (λ x y h k t. ap (λ (z : ℕ). bit z y) e ∙ k)

-- ---- a record's bonds

-- steps depend on near at the bonds of c and s alone
steps_in : (near : ℕ → ℕ) (s c : ℕ) {b j x : ℕ} → bit c b ≡ 1 → StepsTo near s b j x → bit (bit_or c s) x ≡ 1
steps_in near s c {b} h no_step = or_left_in c s b h
steps_in near s c h (one_step {y = x} w t k) = or_right_in c s x k

steps_same : (near far : ℕ → ℕ) (s c : ℕ) → ((x : ℕ) → bit (bit_or c s) x ≡ 1 → near x ≡ far x) → {b j x : ℕ} → bit c b ≡ 1 → StepsTo near s b j x → StepsTo far s b j x
steps_same near far s c e h no_step = no_step
steps_same near far s c e h (one_step {x = x} {y = y} w t k) =
    one_step (steps_same near far s c e h w) (ap (λ (z : ℕ). bit z y) (sym (e x (steps_in near s c h w))) ∙ t) k

rounds_same : (near far : ℕ → ℕ) (s c : ℕ) → ((x : ℕ) → bit (bit_or c s) x ≡ 1 → near x ≡ far x) → (k part : ℕ) → AfterRounds near s c k part → AfterRounds far s c k part
rounds_same near far s c e k part a x = (
  λ h. let w = (a x).0 h in (w.0, w.1, (w.2.0, w.2.1, steps_same near far s c e w.1 w.2.2)),
  λ w. (a x).1 (w.0, w.1, (w.2.0, w.2.1, steps_same far near s c (λ y h. sym (e y h)) w.1 w.2.2)),
)

module _ (r : Bytes) where
  -- by the words computed once, as the program goes, and by touching bonds
  pub rounds_words : bonds r ≤ 64 → (s c : ℕ) → Own r s → Own r c → (k part : ℕ) → AfterRounds (word_at r) s c k part → AfterRounds (touching r) s c k part
  rounds_words few s c o l = rounds_same (word_at r) (touching r) s c (own_words r few (bit_or c s) (or_lt (bonds r) c s l o))

  -- after k rounds from bond b in s
  pub component_rounds : (s b k x : ℕ) → (bit (grow (touching r) s k (2 ^ b)) x ≡ 1) ↔ WithinSteps (touching r) s b k x
  component_rounds s b k = rounds_first (touching r) s b k (grow (touching r) s k (2 ^ b)) (grow_rounds (touching r) s (2 ^ b) k)
