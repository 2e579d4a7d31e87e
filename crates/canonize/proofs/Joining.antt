-- Strings of a set, sorted, wrapped and joined, and writing them one after another. Assumes nothing.
use mathlib.Core.Path.{◌≡◌, refl, sym, ap, ◌∙◌}
use mathlib.Core.List.{List, [], ◌∷◌, ◌++◌, map, append_assoc, append-nil}
use Prim.Native.Nat.{ℕ, ◌+◌, ◌^◌, ◌≤◌, ◌<◌}
use native.Mathlib.Omega.{arith}
use lib.ListN.{length, length-append}
use lib.Bits.{and_self}
use Rattle.bitset.specs.Bits.{bit, Sub, diff, members}
use Rattle.bitset.proofs.Laws.{members_done, member_lt, sub_trans}
use Rattle.bitset.proofs.Members.{members_bit, sub_in, diff_sub}
use Rattle.molecule.specs.Lists.{Bytes}
use Rattle.molecule.proofs.Perms.{map_agree}
use Rattle.canonize.specs.Strings.{sort, wrap, join, collapse}
use Rattle.canonize.specs.Inner.Places.{Wrote, Least, After, FreeSlot}
use Rattle.canonize.specs.Inner.Slate.{slot, Slots}
use Rattle.canonize.proofs.Splitting.{sort_out, sort_split}
use Rattle.canonize.proofs.Wrapping.{length_wrap, collapse_one}
use Rattle.canonize.proofs.Writing.{wrote_nil, wrote_then}
use Rattle.canonize.proofs.Slots.{room_part, room_ends, room_serves, room_same, room_length}

pub join_append : (xs ys : List Bytes) → join (xs ++ ys) ≡ join xs ++ join ys
unfolding join
join_append [] ys = refl
join_append (x ∷ xs) ys = ap (λ (l : Bytes). wrap x ++ l) (join_append xs ys) ∙ sym (append_assoc (wrap x) (join xs) (join ys))

-- the strings of a set: sorted, each wrapped, and joined
abbrev pub bundle : (ℕ → Bytes) → ℕ → Bytes
bundle X s = join (sort (map X (members s)))

module _ (X : ℕ → Bytes) (s : ℕ) where
  pub bundle_none : s ≡ 0 → bundle X s ≡ []
  unfolding join sort
  bundle_none e = ap (λ (l : List ℕ). join (sort (map X l))) (members_done s e)

  -- the least first
  pub bundle_out : (i : ℕ) → Least X s i → bundle X s ≡ wrap (X i) ++ bundle X (diff s (2 ^ i))
  unfolding join
  bundle_out i l = ap join (sort_out X s i l)

  -- those before x, x, and those after it
  pub collapse_split : (x : Bytes) (t : ℕ) → After X s x t → collapse (x ∷ map X (members s)) ≡ bundle X (diff s t) ++ (wrap x ++ bundle X t)
  unfolding collapse join
  collapse_split x t a = ap join (sort_split X s x t a) ∙ join_append (sort (map X (members (diff s t)))) (x ∷ sort (map X (members t)))

-- the strings of the members alone matter
pub bundle_same : (X Y : ℕ → Bytes) (s : ℕ) → ((i : ℕ) → bit s i ≡ 1 → X i ≡ Y i) → bundle X s ≡ bundle Y s
bundle_same X Y s h = ap (λ (l : List Bytes). join (sort l)) (map_agree X Y (members s) (λ i m. h i (members_bit s i m)))

pub least_same : {X Y : ℕ → Bytes} {s i : ℕ} → ((j : ℕ) → bit s j ≡ 1 → X j ≡ Y j) → Least X s i → Least Y s i
least_same {i = i} h l = record { member = l.member; first = λ j m. rw (← h i l.member, ← h j m) (l.first j m) }

-- ---- a loop that writes them on the slate: some are written, and the rest's are left

pub record Partly (set : ℕ) (start : Bytes) (place : ℕ) (now : Bytes) (next rest : ℕ) : Type 0 where
  pub within : Sub rest set
  pub done : Bytes
  pub wrote : Wrote start place done next now
  pub all : done ++ bundle (slot start) rest ≡ bundle (slot start) set

pub partly_none : {set : ℕ} {start : Bytes} {place : ℕ} → Partly set start place start place set
partly_none {set} {start} {place} = record { within = and_self set; done = []; wrote = wrote_nil start place; all = refl }

module _ {set : ℕ} {start : Bytes} {place : ℕ} (s : Slots start) (room : FreeSlot set place (length (bundle (slot start) set)))
    {now : Bytes} {next rest : ℕ} (p : Partly set start place now next rest) where
  -- what is written and what is left are all
  sizes : length p.done + length (bundle (slot start) rest) ≡ length (bundle (slot start) set)
  sizes = sym (length-append p.done (bundle (slot start) rest)) ∙ ap length p.all

  short : length p.done ≤ length (bundle (slot start) set)
  short = omega (arith, sizes)

  pub partly_serves : Slots now
  partly_serves = room_serves room s p.wrote short

  same : (j : ℕ) → bit rest j ≡ 1 → slot now j ≡ slot start j
  same j h = room_same room s p.wrote short j (sub_in rest set p.within j h)

  pub partly_wrote : rest ≡ 0 → Wrote start place (bundle (slot start) set) next now
  partly_wrote e = rw (sym (append-nil p.done) ∙ ap (λ (l : Bytes). p.done ++ l) (sym (bundle_none (slot start) rest e)) ∙ p.all) at p.wrote

  -- slot i is the next
  module _ {i : ℕ} (l : Least (slot now) rest i) where
    first : Least (slot start) rest i
    first = least_same same l

    this : slot now i ≡ slot start i
    this = same i l.member

    -- it is a slot of a bond
    pub partly_small : set < 2 ^ 64 → i < 64
    partly_small h = member_lt 64 set i h (sub_in rest set p.within i l.member)

    out_sizes : length (bundle (slot start) rest) ≡ length (wrap (slot now i)) + length (bundle (slot start) (diff rest (2 ^ i)))
    out_sizes = ap length (bundle_out (slot start) rest i first) ∙ rw this (length-append (wrap (slot start i)) (bundle (slot start) (diff rest (2 ^ i))))

    pub partly_room : FreeSlot rest next (length (wrap (slot now i)))
    partly_room =
        room_part room rest next (length (wrap (slot now i))) p.within (omega (arith, p.wrote.place)) (omega (arith, p.wrote.place, sizes, out_sizes))

    pub partly_next : {last : ℕ} {then : Bytes} → Wrote now next (wrap (slot now i)) last then → Partly set start place then last (diff rest (2 ^ i))
    partly_next w = record {
      within = sub_trans (diff rest (2 ^ i)) rest set (diff_sub rest (2 ^ i)) p.within;
      done = p.done ++ wrap (slot now i);
      wrote = wrote_then p.wrote w (omega (arith, sizes, out_sizes, room_ends room s));
      all =
          append_assoc p.done (wrap (slot now i)) (bundle (slot start) (diff rest (2 ^ i)))
          ∙ ap (λ (k : Bytes). p.done ++ k) (rw this (sym (bundle_out (slot start) rest i first)))
          ∙ p.all;
    }

-- ---- collapsed strings in three pieces: those before x, x, and those after it

-- x and the strings of the set
abbrev pub gathered : (ℕ → Bytes) → Bytes → ℕ → Bytes
gathered X x s = collapse (x ∷ map X (members s))

three_sizes : {X : ℕ → Bytes} {s : ℕ} {x : Bytes} {t : ℕ} → After X s x t → length (gathered X x s) ≡ length (bundle X (diff s t)) + (length (wrap x) + length (bundle X t))
three_sizes {X} {s} {x} {t} a =
    ap length (collapse_split X s x t a)
    ∙ length-append (bundle X (diff s t)) (wrap x ++ bundle X t)
    ∙ ap (λ (n : ℕ). length (bundle X (diff s t)) + n) (length-append (wrap x) (bundle X t))

-- of no set they are that string
pub gathered_alone : (X : ℕ → Bytes) (x : Bytes) (s : ℕ) → s ≡ 0 → gathered X x s ≡ wrap x
gathered_alone X x s e = ap (λ (l : List ℕ). collapse (x ∷ map X l)) (members_done s e) ∙ collapse_one x

-- t are those after x, and there is room for all
pub record Gathering (set : ℕ) (x : Bytes) (t : ℕ) (start : Bytes) (place : ℕ) : Type 0 where
  pub serves : Slots start
  pub after : After (slot start) set x t
  pub room : FreeSlot set place (length (gathered (slot start) x set))

-- the same from its parts
pub gathering : {set : ℕ} {x : Bytes} {t : ℕ} {start : Bytes} {place : ℕ} → Slots start → FreeSlot set place (length (gathered (slot start) x set)) → After (slot start) set x t
    → Gathering set x t start place
gathering s r a = record { serves = s; after = a; room = r }

module _ {set : ℕ} {x : Bytes} {t : ℕ} {start : Bytes} {place : ℕ} (g : Gathering set x t start place) where
  pieces : length (gathered (slot start) x set) ≡ length (bundle (slot start) (diff set t)) + (length (wrap x) + length (bundle (slot start) t))
  pieces = three_sizes g.after

  pub room_before : FreeSlot (diff set t) place (length (bundle (slot start) (diff set t)))
  room_before = room_part g.room (diff set t) place (length (bundle (slot start) (diff set t))) (diff_sub set t) (omega arith) (omega (arith, pieces))

  module _ {middle : ℕ} {one : Bytes} (w : Wrote start place (bundle (slot start) (diff set t)) middle one) where
    pub room_own : middle + (length x + 2) ≤ length one
    room_own = omega (arith, pieces, length_wrap x, w.place, room_length g.room g.serves w (omega (arith, pieces)), room_ends g.room g.serves)

    module _ {last : ℕ} {two : Bytes} (v : Wrote one middle (wrap x) last two) where
      both : Wrote start place (bundle (slot start) (diff set t) ++ wrap x) last two
      both = wrote_then w v (omega (arith, pieces, room_ends g.room g.serves))

      both_size : length (bundle (slot start) (diff set t) ++ wrap x) ≡ length (bundle (slot start) (diff set t)) + length (wrap x)
      both_size = length-append (bundle (slot start) (diff set t)) (wrap x)

      both_short : length (bundle (slot start) (diff set t) ++ wrap x) ≤ length (gathered (slot start) x set)
      both_short = omega (arith, pieces, both_size)

      later : bundle (slot two) t ≡ bundle (slot start) t
      later = bundle_same (slot two) (slot start) t (λ i h. room_same g.room g.serves both both_short i (sub_in t set g.after.within i h))

      pub serves_after : Slots two
      serves_after = room_serves g.room g.serves both both_short

      pub room_after : FreeSlot t last (length (bundle (slot two) t))
      room_after =
          rw later
          (room_part g.room t last (length (bundle (slot start) t)) g.after.within (omega (arith, both.place))
          (omega (arith, both.place, both_size, pieces)))

      pub wrote_gathered : {next : ℕ} {now : Bytes} → Wrote two last (bundle (slot two) t) next now → Wrote start place (gathered (slot start) x set) next now
      wrote_gathered u =
          rw (collapse_split (slot start) set x t g.after, ← append_assoc (bundle (slot start) (diff set t)) (wrap x) (bundle (slot start) t))
          (wrote_then both (rw later at u) (omega (arith, pieces, both_size, room_ends g.room g.serves)))
