-- A round, a bond at a time: the bonds of L are passed in any order, and those that have an end atom hand over.
use Rattle.std.proofs.Common.{◌≡◌, ◌≢◌, ◌⊎◌, ◌∷◌, ◌∙◌, ℕ, ◌^◌, ◌≤◌, ◌<◌, Bool, true, false, true≢false, length, refl, sym, ap, inl, inr, ⊎_elim, arith, bit_or}
use Rattle.bitset.specs.Bits.{bit, Sub, diff, Lowest, WithoutLowest}
use Rattle.bitset.proofs.Laws.{bit_le, bit_diff, bit_empty, bit_one, one_cases, or_cases, sub_trans, sub_anti, member_lt}
use Rattle.bitset.proofs.Members.{sub_in, sub_of, or_left_in, or_right_in, one_is, diff_sub}
use Rattle.molecule.specs.Lists.{Bytes, pick}
use Rattle.molecule.specs.Record.{atoms, bonds, end_a, end_b, code}
use Rattle.molecule.specs.Connected.{Own}
use Rattle.molecule.specs.Tree.{Formed}
use Rattle.canonize.specs.Strings.{collapse}
use Rattle.canonize.specs.Inner.Slate.{slot, Slots}
use Rattle.canonize.specs.Inner.Places.{SlotIs}
use Rattle.canonize.specs.Inner.Words.{is_tip, has_tip, outer, tip, handed, Fits, Round}
use Rattle.canonize.proofs.Words.{outer_in, outer_has, strings_same}

-- the end atom of a bond is an atom of the record
pub tip_small : {r : Bytes} (L : ℕ) {i : ℕ} → Formed r → i < bonds r → tip r L i < atoms r
unfolding tip
tip_small {r} L {i} k h = go (is_tip r L (end_a r i))
  where
    go : (b : Bool) → pick b (end_a r i) (end_b r i) < atoms r
    go true = (k.ends i h).0
    go false = (k.ends i h).1

-- bond i is the next of those that are still to be passed
pub record Next (rest i next : ℕ) : Type 0 where
  pub member : bit rest i ≡ 1
  pub is : next ≡ diff rest (2 ^ i)

-- as the loop over the bonds takes them, the lowest first
pub next_of : {rest i next : ℕ} → Lowest rest i → WithoutLowest rest next → Next rest i next
next_of {rest} l w = record { member = l.member; is = rw l.is w.is }

-- the bonds of rest are still to be passed; taken are those passed that have handed over
pub record Rounding (r : Bytes) (s L : ℕ) (old : Bytes) (rest taken : ℕ) (now : Bytes) : Type 0 where
  pub within : Sub rest L
  pub serves : Slots now
  pub before : (j : ℕ) → bit L j ≡ 0 → slot now j ≡ slot old j
  pub passed : (i : ℕ) → bit taken i ≡ 1 → (bit L i ≡ 1) × (bit rest i ≡ 0) × (has_tip r L i ≡ true) × (slot now i ≡ handed r s L (slot old) i (tip r L i))
  pub all : (i : ℕ) → bit L i ≡ 1 → bit rest i ≡ 0 → has_tip r L i ≡ true → bit taken i ≡ 1

pub rounding_start : (r : Bytes) (s L : ℕ) (old : Bytes) → Slots old → Rounding r s L old L 0 old
rounding_start r s L old w = record {
  within = sub_of L L (λ i h. h);
  serves = w;
  before = λ j h. refl;
  passed = λ i h. absurd (omega (arith, bit_empty i));
  all = λ i h k t. absurd (omega arith);
}

module _ {r : Bytes} {s L : ℕ} {old : Bytes} {rest taken : ℕ} {now : Bytes} (w : Rounding r s L old rest taken now) where
  module _ {i next : ℕ} (n : Next rest i next) where
    pub next_left : bit L i ≡ 1
    next_left = sub_in rest L w.within i n.member

    -- it is one of the record's
    pub next_own : Own r L → i < bonds r
    next_own o = member_lt (bonds r) L i o next_left

    next_in : Sub next L
    next_in = rw n.is (sub_trans (diff rest (2 ^ i)) rest L (diff_sub rest (2 ^ i)) w.within)

    next_bit : (j : ℕ) → bit next j ≡ 0 → (j ≡ i) ⊎ (bit rest j ≡ 0)
    next_bit j k = ⊎_elim (λ (q : (j ≡ i) × (bit (2 ^ i) j ≡ 1)). inl q.0)
        (λ (q : (j ≢ i) × (bit (2 ^ i) j ≡ 0)). inr (omega (arith, q.1, bit_diff rest (2 ^ i) j, ap (λ (x : ℕ). bit x j) n.is))) (one_cases i j)

    next_gone : bit next i ≡ 0
    next_gone = omega (arith, bit_diff rest (2 ^ i) i, bit_one i, bit_le rest i, ap (λ (x : ℕ). bit x i) n.is)

    next_less : (j : ℕ) → bit rest j ≡ 0 → bit next j ≡ 0
    next_less j k = omega (arith, bit_diff rest (2 ^ i) j, ap (λ (x : ℕ). bit x j) n.is)

    -- what it hands over, by the slots as they are now and as they were
    handed_same : (v : ℕ) → handed r s L (slot now) i v ≡ handed r s L (slot old) i v
    handed_same v = ap (λ x. code r i ∷ collapse x) (strings_same r s L (slot old) (slot now) (λ j _ k. w.before j k) v)

    -- it fits
    pub handed_fits : Own r L → Fits r s L (slot old) → has_tip r L i ≡ true → length (handed r s L (slot now) i (tip r L i)) ≤ 454
    handed_fits o f t = omega (arith, ap length (handed_same (tip r L i)), f i (outer_has r L i o next_left t))

    -- it has an end atom, and has handed over
    pub rounding_hand : has_tip r L i ≡ true → {then : Bytes} → SlotIs now i (handed r s L (slot now) i (tip r L i)) then
        → Rounding r s L old next (bit_or taken (2 ^ i)) then
    rounding_hand t {then} z = record {
      within = next_in;
      serves = z.serves;
      before = λ j k. z.others j (λ x. omega (arith, next_left, ap (bit L) x)) ∙ w.before j k;
      passed = λ j k. go j (or_cases taken (2 ^ i) j k);
      all = λ j k l u. every j k (next_bit j l) u;
    }
      where
        mine : slot then i ≡ handed r s L (slot old) i (tip r L i)
        mine = z.this ∙ handed_same (tip r L i)

        go : (j : ℕ) → (bit taken j ≡ 1) ⊎ (bit (2 ^ i) j ≡ 1)
            → (bit L j ≡ 1) × (bit next j ≡ 0) × (has_tip r L j ≡ true) × (slot then j ≡ handed r s L (slot old) j (tip r L j))
        go j (inl k) =
            let p = w.passed j k in
            (p.0, next_less j p.1, p.2, z.others j (λ x. omega (arith, n.member, p.1, ap (bit rest) x)) ∙ p.3)
        go j (inr k) = let x : j ≡ i = one_is i j k in rw x (next_left, next_gone, t, mine)

        every : (j : ℕ) → bit L j ≡ 1 → (j ≡ i) ⊎ (bit rest j ≡ 0) → has_tip r L j ≡ true → bit (bit_or taken (2 ^ i)) j ≡ 1
        every j k (inl x) u = or_right_in taken (2 ^ i) j (rw x (bit_one i))
        every j k (inr l) u = or_left_in taken (2 ^ i) j (w.all j k l u)

    -- it has none
    pub rounding_skip : has_tip r L i ≡ false → Rounding r s L old next taken now
    rounding_skip none = record {
      within = next_in;
      serves = w.serves;
      before = w.before;
      passed = λ j k. let p = w.passed j k in (p.0, next_less j p.1, p.2, p.3);
      all = λ j k l u. every j k (next_bit j l) u;
    }
      where
        every : (j : ℕ) → bit L j ≡ 1 → (j ≡ i) ⊎ (bit rest j ≡ 0) → has_tip r L j ≡ true → bit taken j ≡ 1
        every j k (inl x) u = absurd (true≢false (sym u ∙ ap (has_tip r L) x ∙ none))
        every j k (inr l) u = w.all j k l u

  -- all are passed
  pub rounding_done : Own r L → rest ≡ 0 → (taken ≡ outer r L) × Round r s L old now
  rounding_done o e = (is, record { serves = w.serves; before = w.before; taken = λ i h. (w.passed i (rw is h)).3 })
    where
      none : (i : ℕ) → bit rest i ≡ 0
      none i = ap (λ (x : ℕ). bit x i) e ∙ bit_empty i

      is : taken ≡ outer r L
      is =
          sub_anti taken (outer r L)
          (sub_of taken (outer r L) (λ i h. let p = w.passed i h in outer_has r L i o p.0 p.2))
          (sub_of (outer r L) taken (λ i h. let p = outer_in r L i h in w.all i p.0 (none i) p.1))
