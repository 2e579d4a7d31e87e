-- What is written on the slate where a bond hands over, and where one atom or two are left. Assumes nothing.
use mathlib.Core.Path.{◌≡◌, ap, ◌∙◌}
use mathlib.Core.Logic.{◌⊎◌, inl, inr, ◌≢◌}
use mathlib.Core.List.{[], ◌∷◌, ◌++◌}
use Prim.Native.Nat.{ℕ, ◌+◌, ◌-◌, ◌*◌, ◌^◌, ◌≤◌, ◌<◌}
use native.Mathlib.Omega.{arith}
use lib.ListN.{length, take, drop, set, length-append}
use lib.Bits.{bit_and}
use Rattle.bitset.specs.Bits.{bit}
use Rattle.bitset.proofs.Laws.{bit_le, bit-and, bit_diff, member_lt}
use Rattle.bitset.proofs.Members.{in_or_out}
use Rattle.molecule.specs.Lists.{Bytes}
use Rattle.molecule.specs.Record.{bonds, end_a, end_b, code}
use Rattle.molecule.specs.Touch.{bonds_at}
use Rattle.molecule.specs.Check.{check, accepted}
use Rattle.molecule.proofs.Accepted.{accepted_formed}
use Rattle.molecule.proofs.Words.{atoms_at}
use Rattle.canonize.specs.Strings.{collapse}
use Rattle.canonize.specs.Inner.Slate.{slot, Slots}
use Rattle.canonize.specs.Inner.Places.{Wrote, InSlot, FreeSlot, SlotIs, LabelAt}
use Rattle.canonize.specs.Inner.Words.{received, strings_at, handed, centres}
use Rattle.canonize.proofs.Wrapping.{length_collapse_two}
use Rattle.canonize.proofs.Words.{strings_same}
use Rattle.canonize.proofs.Writing.{written_part, wrote_byte, wrote_length, wrote_then, wrote_read, wrote_read_then}
use Rattle.canonize.proofs.Slots.{inside_room, inside_slots, inside_slot}

-- what a function at an atom needs: the record is formed, and the word at an atom is the bonds there
pub ruleset at_atom = (accepted_formed, atoms_at)

-- a bond's number is a slot of its own, below 64
pub bond_slot : (r : Bytes) {i : ℕ} → check r ≡ accepted → i < bonds r → i < 64
bond_slot r ok h = omega (arith, (accepted_formed r ok).sized.few)

-- ---- a string written from the start of slot k on, and then the length of that slot

-- x is written there, and end is the place after it
pub record Begun (slate : Bytes) (k start : ℕ) (x : Bytes) (end : ℕ) (now : Bytes) : Type 0 where
  pub serves : Slots slate
  pub within : k < 66
  pub at : start ≡ 456 * k + 2
  pub short : length x ≤ 454
  pub wrote : Wrote slate start x end now

-- the same from its parts
pub begun : {slate : Bytes} {k start : ℕ} {x : Bytes} {end : ℕ} {now : Bytes} → Slots slate → k < 66 → start ≡ 456 * k + 2 → length x ≤ 454
    → Wrote slate start x end now → Begun slate k start x end now
begun s h e l w = record { serves = s; within = h; at = e; short = l; wrote = w }

module _ {slate : Bytes} {k start : ℕ} {x : Bytes} {end : ℕ} {now : Bytes} (w : Begun slate k start x end now) where
  whole : InSlot k start (length x)
  whole = record { within = w.within; from = omega (arith, w.at); to = omega (arith, w.at, w.short) }

  room : start + length x ≤ length slate
  room = inside_room slate w.serves k start x whole

  pub begun_serves : Slots now
  begun_serves = rw w.wrote.is (inside_slots slate w.serves k start x whole)

  pub begun_others : (j : ℕ) → j ≢ k → slot now j ≡ slot slate j
  begun_others j n = ap (λ (l : Bytes). slot l j) w.wrote.is ∙ inside_slot slate w.serves k start x whole j n

  pub begun_length : length now ≡ length slate
  begun_length = wrote_length w.wrote room

  pub begun_short : (start ≤ end) × (end - start ≤ 454)
  begun_short = (omega (arith, w.wrote.place), omega (arith, w.wrote.place, w.short))

  pub begun_placed : {then : Bytes} → SlotIs now k (take (end - start) (drop (456 * k + 2) now)) then → SlotIs slate k x then
  begun_placed z = record {
    serves = z.serves;
    this = z.this ∙ rw (← w.at) (wrote_read w.wrote room);
    others = λ j n. z.others j n ∙ begun_others j n;
  }

-- ---- the strings that an atom received are in other slots

module _ (r : Bytes) (s L v : ℕ) where
  -- than that of a bond that is left
  pub received_left : (i : ℕ) → bit L i ≡ 1 → bit (received r s L v) i ≡ 0
  unfolding received
  received_left i h = omega (arith, bit_diff (bit_and (bonds_at r v) s) L i, bit-and (bonds_at r v) s i, bit_le s i)

  -- than those from 64 on
  pub received_high : s < 2 ^ 64 → (k : ℕ) → 64 ≤ k → bit (received r s L v) k ≡ 0
  unfolding received
  received_high low k h = go (in_or_out s k)
    where
      go : (bit s k ≡ 1) ⊎ (bit s k ≡ 0) → bit (received r s L v) k ≡ 0
      go (inl e) = absurd (omega (arith, member_lt 64 s k low e))
      go (inr e) = omega (arith, bit_diff (bit_and (bonds_at r v) s) L k, bit-and (bonds_at r v) s k, bit_le (bonds_at r v) k)

-- what another atom's strings are does not depend on the slot of a bond that is left
left_same : (r : Bytes) (s L i : ℕ) → bit L i ≡ 1 → (old now : Bytes) → ((j : ℕ) → j ≢ i → slot now j ≡ slot old j) → (v : ℕ)
    → strings_at r s L (slot now) v ≡ strings_at r s L (slot old) v
left_same r s L i h old now same v = strings_same r s L (slot old) (slot now) (λ j _ k. same j (λ e. omega (arith, h, k, ap (bit L) e))) v

-- ---- bond i hands over: its code b is put first

pub record Hands (r : Bytes) (s L i v : ℕ) (slate : Bytes) (start b : ℕ) : Type 0 where
  pub serves : Slots slate
  pub left : bit L i ≡ 1
  pub small : i < 64
  pub at : start ≡ 456 * i + 2
  pub is : b ≡ code r i
  pub fits : length (handed r s L (slot slate) i v) ≤ 454

-- the same from its parts
pub hands : {r : Bytes} {s L i v : ℕ} {slate : Bytes} {start b : ℕ} → Slots slate → bit L i ≡ 1 → i < 64 → start ≡ 456 * i + 2 → b ≡ code r i
    → length (handed r s L (slot slate) i v) ≤ 454 → Hands r s L i v slate start b
hands w h l e c f = record { serves = w; left = h; small = l; at = e; is = c; fits = f }

module _ {r : Bytes} {s L i v : ℕ} {slate : Bytes} {start b : ℕ} (h : Hands r s L i v slate start b) where
  first : Begun slate i start (code r i ∷ []) (start + 1) (set slate start b)
  first = record {
    serves = h.serves;
    within = omega (arith, h.small);
    at = h.at;
    short = omega arith;
    wrote = rw (← h.is) (wrote_byte slate start b (omega (arith, h.serves.wide, h.at, h.small)));
  }

  pub hand_serves : Slots (set slate start b)
  hand_serves = begun_serves first

  strings : strings_at r s L (slot (set slate start b)) v ≡ strings_at r s L (slot slate) v
  strings = left_same r s L i h.left slate (set slate start b) (begun_others first) v

  pub hand_room : FreeSlot (received r s L v) (start + 1) (length (collapse (strings_at r s L (slot (set slate start b)) v)))
  hand_room = rw strings (record {
    slot = i;
    inside = record { within = omega (arith, h.small); from = omega (arith, h.at); to = omega (arith, h.at, h.fits) };
    other = received_left r s L v i h.left;
  })

  pub hand_begun : {end : ℕ} {now : Bytes} → Wrote (set slate start b) (start + 1) (collapse (strings_at r s L (slot (set slate start b)) v)) end now
      → Begun slate i start (handed r s L (slot slate) i v) end now
  hand_begun w = record {
    serves = h.serves;
    within = first.within;
    at = h.at;
    short = h.fits;
    wrote = wrote_then first.wrote (rw strings at w) (omega (arith, h.serves.wide, h.at, h.small, h.fits));
  }

-- ---- one atom is left: its strings go to slot k

pub centre_room : (r : Bytes) (s L v k start n : ℕ) → s < 2 ^ 64 → 64 ≤ k → k < 66 → start ≡ 456 * k + 2 → n ≤ 454 → FreeSlot (received r s L v) start n
centre_room r s L v k start n low high within at short = record {
  slot = k;
  inside = record { within = within; from = omega arith; to = omega arith };
  other = received_high r s L v low k high;
}

pub placed_label : {old : Bytes} {k : ℕ} {x now : Bytes} → SlotIs old k x now → LabelAt old k x now
placed_label z = record { serves = z.serves; this = z.this; others = λ j _ n. z.others j n }

-- ---- two atoms are left, the ends of bond i: their strings go to slot i first, and then, wrapped, to slot k

pub record OuterEnds (r : Bytes) (s L i k : ℕ) (slate : Bytes) (from : ℕ) : Type 0 where
  pub serves : Slots slate
  pub left : bit L i ≡ 1
  pub small : i < 64
  pub high : 64 ≤ k
  pub within : k < 66
  pub at : from ≡ 456 * i + 2
  pub fits : length (centres r s L (slot slate) i) ≤ 454

-- the same from its parts
pub outer_ends : {r : Bytes} {s L i k : ℕ} {slate : Bytes} {from : ℕ} → Slots slate → bit L i ≡ 1 → i < 64 → 64 ≤ k → k < 66 → from ≡ 456 * i + 2
    → length (centres r s L (slot slate) i) ≤ 454 → OuterEnds r s L i k slate from
outer_ends w h l a b e f = record { serves = w; left = h; small = l; high = a; within = b; at = e; fits = f }

module _ {r : Bytes} {s L i k : ℕ} {slate : Bytes} {from : ℕ} (h : OuterEnds r s L i k slate from) where
  abbrev string : ℕ → Bytes
  string v = collapse (strings_at r s L (slot slate) v)

  abbrev one : Bytes
  one = string (end_a r i)

  abbrev two : Bytes
  two = string (end_b r i)

  both_short : length one + length two ≤ 449
  both_short = omega (arith, length_collapse_two one two, h.fits)

  -- a string that goes to slot i
  placed : {x : Bytes} {end : ℕ} {now : Bytes} → length x ≤ 449 → Wrote slate from x end now → Begun slate i from x end now
  placed l w = begun h.serves (omega (arith, h.small)) h.at (omega arith) w

  pub first_room : FreeSlot (received r s L (end_a r i)) from (length one)
  first_room = record {
    slot = i;
    inside = record { within = omega (arith, h.small); from = omega (arith, h.at); to = omega (arith, h.at, both_short) };
    other = received_left r s L (end_a r i) i h.left;
  }

  module _ {middle : ℕ} {then : Bytes} (w : Wrote slate from one middle then) where
    upper : Begun slate i from one middle then
    upper = placed (omega (arith, both_short)) w

    pub first_serves : Slots then
    first_serves = begun_serves upper

    strings_two : strings_at r s L (slot then) (end_b r i) ≡ strings_at r s L (slot slate) (end_b r i)
    strings_two = left_same r s L i h.left slate then (begun_others upper) (end_b r i)

    pub second_room : FreeSlot (received r s L (end_b r i)) middle (length (collapse (strings_at r s L (slot then) (end_b r i))))
    second_room = rw strings_two (record {
      slot = i;
      inside = record { within = omega (arith, h.small); from = omega (arith, h.at, w.place); to = omega (arith, h.at, w.place, both_short) };
      other = received_left r s L (end_b r i) i h.left;
    })

    module _ {end : ℕ} {both : Bytes} (v : Wrote then middle (collapse (strings_at r s L (slot then) (end_b r i))) end both) where
      next : Wrote then middle two end both
      next = rw strings_two at v

      pair : Begun slate i from (one ++ two) end both
      pair = placed (omega (arith, length-append one two, both_short)) (wrote_then w next (omega (arith, both_short, h.serves.wide, h.at, h.small)))

      -- where they stand: before slot k, in 449 bytes
      pub ends_places : (from ≤ middle) × (middle ≤ end) × (end ≤ 456 * k) × (end - from ≤ 449)
      ends_places = (
        omega (arith, w.place),
        omega (arith, next.place),
        omega (arith, w.place, next.place, both_short, h.at, h.small, h.high),
        omega (arith, w.place, next.place, both_short),
      )

      pub ends_wide : length both ≡ 30096
      ends_wide = (begun_serves pair).wide

      module _ {start b : ℕ} (to : start ≡ 456 * k + 2) (is : b ≡ code r i) where
        coded : Wrote both start (code r i ∷ []) (start + 1) (set both start b)
        coded = rw (← is) (wrote_byte both start b (omega (arith, ends_wide, h.within)))

        -- they are read back
        part : (a n : ℕ) → a + n ≤ start → take n (drop a (set both start b)) ≡ take n (drop a both)
        part a n l = ap (λ (y : Bytes). take n (drop a y)) coded.is ∙ written_part both start (code r i ∷ []) (omega (arith, ends_wide, h.within)) a n
            (inl l)

        read_one : take (middle - from) (drop from (set both start b)) ≡ one
        read_one = part from (middle - from) (omega (arith, ends_places)) ∙ wrote_read_then w next (omega (arith, both_short, h.serves.wide, h.at, h.small))

        read_two : take (end - middle) (drop middle (set both start b)) ≡ two
        read_two = part middle (end - middle) (omega (arith, ends_places)) ∙ wrote_read next
            (omega (arith, w.place, both_short, h.serves.wide, begun_length upper, h.at, h.small))

        pub centres_begun : {last : ℕ} {now : Bytes}
            → Wrote (set both start b) (start + 1) (collapse (take (middle - from) (drop from (set both start b)) ∷ take (end - middle)
            (drop middle (set both start b)) ∷ [])) last now
            → Begun both k start (centres r s L (slot slate) i) last now
        centres_begun u = record {
          serves = begun_serves pair;
          within = h.within;
          at = to;
          short = h.fits;
          wrote = wrote_then coded (rw (read_one, read_two) at u) (omega (arith, ends_wide, h.within, h.fits));
        }

        pub centres_label : {last : ℕ} {now done : Bytes} → Begun both k start (centres r s L (slot slate) i) last now
            → SlotIs now k (take (last - start) (drop (456 * k + 2) now)) done
            → LabelAt slate k (centres r s L (slot slate) i) done
        centres_label u z =
            let p = begun_placed u z in
            record { serves = p.serves; this = p.this; others = λ j g n. p.others j n ∙ begun_others pair j (λ e. omega (arith, h.small)) }
