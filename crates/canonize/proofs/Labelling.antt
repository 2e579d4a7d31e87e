-- The rounds of label, one after the other, and what is left when they end.
use Rattle.std.proofs.Common.{◌≡◌, ◌≢◌, ◌∙◌, ℕ, ◌≤◌, ◌<◌, Bool, true, false, refl, sym, ap, arith}
use native.Mathlib.Decide.{dec_lt}
use mathlib.Core.List.{Memᴰ as Mem}
use Rattle.bitset.specs.Bits.{bit, diff, size}
use Rattle.bitset.proofs.Laws.{member_lt, bit_past, size_empty, size_zero}
use Rattle.molecule.specs.Lists.{Bytes, pick}
use Rattle.molecule.specs.Record.{atoms, bonds, end_a, end_b}
use Rattle.molecule.specs.Connected.{Own}
use Rattle.molecule.specs.Check.{check, accepted}
use Rattle.molecule.specs.Tree.{Formed}
use Rattle.molecule.proofs.Accepted.{accepted_formed}
use Rattle.molecule.proofs.Components.{own_sub}
use Rattle.canonize.specs.Strings.{collapse}
use Rattle.canonize.specs.Fragment.{Peel, start, round}
use Rattle.canonize.specs.Label.{fragment, label}
use Rattle.canonize.specs.Inner.Slate.{slot, Slots, Fragment}
use Rattle.canonize.specs.Inner.Places.{LabelAt}
use Rattle.canonize.specs.Inner.Words.{is_tip, outer, far, strings_at, centres, Fits, Round}
use Rattle.canonize.proofs.Fragments.{fragment_clean}
use Rattle.canonize.proofs.Words.{Peeled, peeled_start, peeled_round, round_less, centre_present, string_fits, peeled_one, peeled_two}

-- L is left of s, X are the strings handed over, and where nothing is left centre is the one atom
pub record Labelling (r : Bytes) (s L centre : ℕ) (X : ℕ → Bytes) : Type 0 where
  pub formed : Formed r
  pub own : Own r s
  pub z : Peel
  pub peeled : Peeled r s L X z
  pub small : centre < atoms r
  pub centred : L ≡ 0 → Mem centre z.present

-- more than one bond is left, and one
pub some_left : {n : ℕ} → 1 < size n → 0 < n
some_left {n} h = elim (dec_lt 0 n) [ yes k ↦ k | no k ↦ let e : n ≡ 0 = omega arith in absurd (omega (arith, ap size e, size_empty)) ]

pub one_left : {n : ℕ} → n ≢ 0 → size n ≤ 1 → size n ≡ 1
one_left {n} m h = elim (dec_lt 0 (size n)) [ yes k ↦ omega arith | no k ↦ absurd (m (size_zero n (omega arith))) ]

far_small : (r : Bytes) (L i : ℕ) → Formed r → i < bonds r → far r L i < atoms r
unfolding far
far_small r L i k h = go (is_tip r L (end_a r i))
  where
    go : (b : Bool) → pick b (end_b r i) (end_a r i) < atoms r
    go true = (k.ends i h).1
    go false = (k.ends i h).0

labelling_start : {r : Bytes} {s : ℕ} → check r ≡ accepted → Fragment r s → (X : ℕ → Bytes) → Labelling r s s 0 X
labelling_start {r} {s} ok w X = record {
  formed = accepted_formed r ok;
  own = w.own;
  z = start (fragment r s);
  peeled = peeled_start (fragment_clean r s ok w.own w.connected) X;
  small = omega (arith, (accepted_formed r ok).sized.more);
  centred = λ e. absurd (w.connected.some e);
}

module _ {r : Bytes} {s L centre : ℕ} {X : ℕ → Bytes} (w : Labelling r s L centre X) where
  pub labelling_own : Own r L
  labelling_own = own_sub r L s w.peeled.within w.own

  pub labelling_fits : 1 < size L → Fits r s L X
  labelling_fits l i h = omega (arith, string_fits w.formed w.own w.peeled l i h)

  pub labelling_less : 1 < size L → size (diff L (outer r L)) < size L
  labelling_less l = round_less w.formed w.own w.peeled l

  pub labelling_one : L ≡ 0 → label r s ≡ collapse (strings_at r s L X centre)
  labelling_one e = peeled_one w.peeled e centre (w.centred e)

  pub labelling_two : size L ≡ 1 → (i : ℕ) → bit L i ≡ 1 → label r s ≡ centres r s L X i
  labelling_two e i h = peeled_two w.peeled e i h

labelling_round : {r : Bytes} {s L centre : ℕ} {old now : Bytes} → Labelling r s L centre (slot old) → 1 < size L → Round r s L old now → (i : ℕ) → bit L i ≡ 1
    → Labelling r s (diff L (outer r L)) (far r L i) (slot now)
labelling_round {r} {s} {L} {now = now} w l q i h = record {
  formed = w.formed;
  own = w.own;
  z = round w.z;
  peeled = peeled_round w.formed w.own w.peeled l (slot now) (λ j _ k. q.before j k) q.taken;
  small = far_small r L i w.formed (member_lt (bonds r) L i (labelling_own w) h);
  centred = λ e. centre_present w.formed w.own w.peeled l e i h;
}

-- ---- on the slate, of which no slot from 64 on changes until the end

pub record OnSlate (r : Bytes) (s L centre : ℕ) (old now : Bytes) : Type 0 where
  pub serves : Slots now
  pub labelling : Labelling r s L centre (slot now)
  pub above : (j : ℕ) → 64 ≤ j → slot now j ≡ slot old j

pub slate_start : {r : Bytes} {s : ℕ} → check r ≡ accepted → Fragment r s → {old : Bytes} → Slots old → OnSlate r s s 0 old old
slate_start ok w {old} s = record { serves = s; labelling = labelling_start ok w (slot old); above = λ j h. refl }

pub slate_round : {r : Bytes} {s L centre : ℕ} {old now then : Bytes} → OnSlate r s L centre old now → 1 < size L → Round r s L now then → (i : ℕ) → bit L i ≡ 1
    → OnSlate r s (diff L (outer r L)) (far r L i) old then
slate_round {r} {L = L} {then = then} w l q i h = record {
  serves = q.serves;
  labelling = labelling_round w.labelling l q i h;
  above = λ j g. q.before j (none j g) ∙ w.above j g;
}
  where
    none : (j : ℕ) → 64 ≤ j → bit L j ≡ 0
    none j g = bit_past (bonds r) L j (labelling_own w.labelling) (omega (arith, w.labelling.formed.sized.few))

pub slate_label : {r : Bytes} {s L centre : ℕ} {old now : Bytes} → OnSlate r s L centre old now → {k : ℕ} {x then : Bytes} → LabelAt now k x then
    → label r s ≡ x → LabelAt old k (label r s) then
slate_label w z e = record { serves = z.serves; this = z.this ∙ sym e; others = λ j h n. z.others j h n ∙ w.above j h }
