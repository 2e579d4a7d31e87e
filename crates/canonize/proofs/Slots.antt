-- The slots of a slate: their strings as parts of it, and what is left of them where a string is written inside one. Assumes nothing.
use mathlib.Core.Path.{◌≡◌, ap, ap₂, ◌∙◌}
use mathlib.Core.Logic.{◌⊎◌, inl, inr, ◌≢◌}
use mathlib.Core.List.{[], ◌∷◌}
use Prim.Native.Nat.{ℕ, ◌+◌, ◌*◌, ◌/◌, ◌%◌, ◌≤◌, ◌<◌}
use native.Mathlib.Decide.{ℕ_discrete, dec_lt}
use native.Mathlib.Omega.{arith}
use lib.ListN.{length, get_or, take, drop, set, replicate, length-drop, length-set, length-replicate, get_or-eq_default}
use lib.Seq.{length-take-le, get_or-set_same, get_or-set_other}
use Rattle.bitset.specs.Bits.{bit, Sub}
use Rattle.bitset.proofs.Laws.{sub_bit}
use Rattle.molecule.specs.Lists.{Bytes}
use Rattle.molecule.proofs.Lists.{zeros_at}
use Rattle.canonize.specs.Inner.Slate.{slot_length, slot, Slots}
use Rattle.canonize.specs.Inner.Places.{written, Wrote, NoneShared, InSlot, FreeSlot, SlotIs}
use Rattle.canonize.proofs.Writing.{written_set, written_length, written_at, written_part, written_then, wrote_length}

-- nothing is written on a slate of zeros
pub slots_blank : (slate : Bytes) → slate ≡ replicate 30096 0 → Slots slate
unfolding slot_length
slots_blank slate e = record {
  wide = ap length e ∙ length-replicate {A = ℕ} 30096 0;
  fits = λ i h. rw e (omega (arith, zeros_at 30096 (456 * i), zeros_at 30096 (456 * i + 1)));
}

module _ (slate : Bytes) (s : Slots slate) where
  pub slot_fits : (i : ℕ) → slot_length slate i ≤ 454
  unfolding slot_length
  slot_fits i = go (dec_lt i 66)
    where
      go : Dec (i < 66) → slot_length slate i ≤ 454
      go (yes h) = s.fits i h
      go (no h) = omega (arith, past (456 * i) (omega arith), past (456 * i + 1) (omega arith))
        where
          past : (k : ℕ) → 30096 ≤ k → get_or slate k 0 ≡ 0
          past k l = get_or-eq_default slate 0 {n = k} (omega (arith, s.wide))

  pub slot_length_lem : (i : ℕ) → i < 66 → length (slot slate i) ≡ slot_length slate i
  unfolding slot
  slot_length_lem i h = length-take-le (slot_length slate i) (drop (456 * i + 2) slate) (omega (arith, length-drop (456 * i + 2) slate, s.wide, slot_fits i))

  -- the label that is kept is no longer than a buffer must be
  pub kept_short : length (slot slate 64) ≤ 454
  kept_short = omega (arith, slot_length_lem 64 (omega arith), slot_fits 64)

  -- a string x is written inside slot t: no length changes, and no other string
  module _ (t place : ℕ) (x : Bytes) (h : InSlot t place (length x)) where
    pub inside_room : place + length x ≤ length slate
    inside_room = omega (arith, h.within, h.to, s.wide)

    inside_length : (j : ℕ) → slot_length (written slate place x) j ≡ slot_length slate j
    unfolding slot_length
    inside_length j =
        ap₂ (λ (a b : ℕ). a + 256 * b)
        (written_at slate place x inside_room (456 * j) (sides (dec_lt t j)))
        (written_at slate place x inside_room (456 * j + 1) (next (dec_lt t j)))
      where
        sides : Dec (t < j) → (456 * j < place) ⊎ (place + length x ≤ 456 * j)
        sides (yes g) = inr (omega (arith, h.to))
        sides (no g) = inl (omega (arith, h.from))

        next : Dec (t < j) → (456 * j + 1 < place) ⊎ (place + length x ≤ 456 * j + 1)
        next (yes g) = inr (omega (arith, h.to))
        next (no g) = inl (omega (arith, h.from))

    pub inside_slots : Slots (written slate place x)
    inside_slots = record { wide = written_length slate place x inside_room ∙ s.wide; fits = λ j g. omega (arith, inside_length j, s.fits j g) }

    pub inside_slot : (j : ℕ) → j ≢ t → slot (written slate place x) j ≡ slot slate j
    unfolding slot
    inside_slot j n = rw (inside_length j) (written_part slate place x inside_room (456 * j + 2) (slot_length slate j) (sides (dec_lt t j)))
      where
        sides : Dec (t < j) → ((456 * j + 2) + slot_length slate j ≤ place) ⊎ (place + length x ≤ 456 * j + 2)
        sides (yes g) = inr (omega (arith, h.to))
        sides (no g) = inl (omega (arith, h.from, slot_fits j))

  -- the length of slot i becomes n
  module _ (i n : ℕ) (within : i < 66) (short : n ≤ 454) where
    low : Bytes
    low = set slate (456 * i) (n % 256)

    relength : Bytes
    unfolding low
    relength = set low (456 * i + 1) (n / 256)

    low_length : length low ≡ 30096
    unfolding low
    low_length = length-set slate (456 * i) (n % 256) ∙ s.wide

    relength_is : relength ≡ written slate (456 * i) (n % 256 ∷ n / 256 ∷ [])
    unfolding low relength
    relength_is =
        written_set low (456 * i + 1) (n / 256) (omega (arith, low_length))
        ∙ ap (λ (l : Bytes). written l (456 * i + 1) (n / 256 ∷ [])) (written_set slate (456 * i) (n % 256) (omega (arith, s.wide)))
        ∙ written_then slate (456 * i) (n % 256 ∷ []) (omega (arith, s.wide)) (n / 256 ∷ []) (omega (arith, s.wide))

    relength_this : slot_length relength i ≡ n
    unfolding slot_length low relength
    relength_this =
        let a : get_or relength (456 * i) 0 ≡ n % 256 =
        get_or-set_other low (456 * i + 1) (456 * i) (n / 256) 0 (λ e. omega arith) ∙ get_or-set_same slate (456 * i) (n % 256) 0 (omega (arith, s.wide)) in
        let b : get_or relength (456 * i + 1) 0 ≡ n / 256 = get_or-set_same low (456 * i + 1) (n / 256) 0 (omega (arith, low_length)) in
        omega (arith, a, b)

    relength_other : (j : ℕ) → j ≢ i → slot_length relength j ≡ slot_length slate j
    unfolding slot_length low relength
    relength_other j m =
        ap₂ (λ (a b : ℕ). a + 256 * b)
        (get_or-set_other low (456 * i + 1) (456 * j) (n / 256) 0 (λ e. omega arith) ∙ get_or-set_other slate (456 * i) (456 * j) (n % 256) 0
        (λ e. m (omega arith)))
        (get_or-set_other low (456 * i + 1) (456 * j + 1) (n / 256) 0 (λ e. m (omega arith)) ∙ get_or-set_other slate (456 * i) (456 * j + 1) (n % 256) 0
        (λ e. omega arith))

    -- the string of another slot, or what is after the length of this one
    relength_part : (j m : ℕ) → m ≤ 454 → take m (drop (456 * j + 2) relength) ≡ take m (drop (456 * j + 2) slate)
    relength_part j m h =
        ap (λ (l : Bytes). take m (drop (456 * j + 2) l)) relength_is
        ∙ written_part slate (456 * i) (n % 256 ∷ n / 256 ∷ []) (omega (arith, s.wide)) (456 * j + 2) m (sides (dec_lt j i))
      where
        sides : Dec (j < i) → ((456 * j + 2) + m ≤ 456 * i) ⊎ (456 * i + 2 ≤ 456 * j + 2)
        sides (yes g) = inl (omega arith)
        sides (no g) = inr (omega arith)

    pub slot_set : SlotIs slate i (take n (drop (456 * i + 2) slate)) (set (set slate (456 * i) (n % 256)) (456 * i + 1) (n / 256))
    unfolding slot low relength
    slot_set = record {
      serves = record {
        wide = length-set low (456 * i + 1) (n / 256) ∙ low_length;
        fits = λ j g. go j (ℕ_discrete j i);
      };
      this = rw relength_this (relength_part i n short);
      others = λ j m. rw (relength_other j m) (relength_part j (slot_length slate j) (slot_fits j));
    }
      where
        go : (j : ℕ) → Dec (j ≡ i) → slot_length relength j ≤ 454
        go j (yes e) = omega (arith, ap (slot_length relength) e, relength_this)
        go j (no m) = omega (arith, relength_other j m, slot_fits j)

-- ---- room beside the slots of a set

-- a part of it, beside fewer slots
pub room_part : {set place n : ℕ} → FreeSlot set place n → (t from m : ℕ) → Sub t set → place ≤ from → from + m ≤ place + n → FreeSlot t from m
room_part {set} room t from m h a b = record {
  slot = room.slot;
  inside = record { within = room.inside.within; from = omega (arith, room.inside.from); to = omega (arith, room.inside.to) };
  other = omega (arith, room.other, sub_bit t set room.slot h);
}

module _ {set place n : ℕ} (room : FreeSlot set place n) where
  -- it is apart from them
  pub room_apart : (j : ℕ) → bit set j ≡ 1 → NoneShared (456 * j) 456 place n
  room_apart j h = go (dec_lt j room.slot)
    where
      differ : j ≢ room.slot
      differ e = omega (arith, h, ap (bit set) e, room.other)

      go : Dec (j < room.slot) → NoneShared (456 * j) 456 place n
      go (yes g) = inl (omega (arith, room.inside.from))
      go (no g) = inr (omega (arith, room.inside.to, above g))
        where
          above : (j < room.slot → ⊥) → room.slot < j
          above g = elim (ℕ_discrete j room.slot) [ yes e ↦ absurd (differ e) | no m ↦ omega arith ]

  pub room_ends : {slate : Bytes} → Slots slate → place + n ≤ length slate
  room_ends s = omega (arith, room.inside.within, room.inside.to, s.wide)

  module _ {start : Bytes} (s : Slots start) {x : Bytes} {next : ℕ} {now : Bytes} (w : Wrote start place x next now) (short : length x ≤ n) where
    inside : InSlot room.slot place (length x)
    inside = record { within = room.inside.within; from = room.inside.from; to = omega (arith, room.inside.to) }

    pub room_fits : place + length x ≤ length start
    room_fits = inside_room start s room.slot place x inside

    -- what is written in it leaves the slate a slate, and their strings
    pub room_serves : Slots now
    room_serves = rw w.is (inside_slots start s room.slot place x inside)

    pub room_others : (j : ℕ) → j ≢ room.slot → slot now j ≡ slot start j
    room_others j h = ap (λ (l : Bytes). slot l j) w.is ∙ inside_slot start s room.slot place x inside j h

    pub room_same : (j : ℕ) → bit set j ≡ 1 → slot now j ≡ slot start j
    room_same j h = room_others j (λ e. omega (arith, h, ap (bit set) e, room.other))

    pub room_length : length now ≡ length start
    room_length = wrote_length w room_fits
