-- Strings written at places of a buffer, and of the slate: what is written there, and where it may be written.
use Rattle.std.specs.Prelude.{◌≡◌, ◌⊎◌, ◌≢◌, true, false, ◌++◌, ℕ, ◌+◌, ◌*◌, ◌≤◌, ◌<◌, length, take, drop}
use Rattle.bitset.specs.Bits.{bit, Sub}
use Rattle.molecule.specs.Lists.{Bytes}
use Rattle.canonize.specs.Strings.{lex_le}
use Rattle.canonize.specs.Inner.Slate.{slot, Slots}

-- out with x at a place
unfoldable pub written : Bytes → ℕ → Bytes → Bytes
written out k x = take k out ++ x ++ drop (k + length x) out

-- the buffer was out and is now, with x put at place k; next is the place after it
pub record Wrote (out : Bytes) (k : ℕ) (x : Bytes) (next : ℕ) (now : Bytes) : Type 0 where
  pub place : next ≡ k + length x
  pub is : now ≡ written out k x

-- the n bytes from one place on and the m bytes from another on have none in common
abbrev pub NoneShared : ℕ → ℕ → ℕ → ℕ → Type 0
NoneShared from n to m = (from + n ≤ to) ⊎ (to + m ≤ from)

-- the n bytes from a place on are bytes of the string of slot t
pub record InSlot (t place n : ℕ) : Type 0 where
  pub within : t < 66
  pub from : 456 * t + 2 ≤ place
  pub to : place + n ≤ 456 * t + 456

-- they are bytes of a slot that is none of the set's
pub record FreeSlot (set place n : ℕ) : Type 0 where
  pub slot : ℕ
  pub inside : InSlot slot place n
  pub other : bit set slot ≡ 0

-- the slate was old and is now, with x as the string of slot i
pub record SlotIs (old : Bytes) (i : ℕ) (x now : Bytes) : Type 0 where
  pub serves : Slots now
  pub this : slot now i ≡ x
  pub others : (j : ℕ) → j ≢ i → slot now j ≡ slot old j

-- x is the string of slot k, and no other slot from 64 on has changed
pub record LabelAt (old : Bytes) (k : ℕ) (x now : Bytes) : Type 0 where
  pub serves : Slots now
  pub this : slot now k ≡ x
  pub others : (j : ℕ) → 64 ≤ j → j ≢ k → slot now j ≡ slot old j

-- i is a member of the set, and its string comes before those of all members, or is equal to them
pub record Least (string : ℕ → Bytes) (set i : ℕ) : Type 0 where
  pub member : bit set i ≡ 1
  pub first : (j : ℕ) → bit set j ≡ 1 → lex_le (string i) (string j) ≡ true

-- t are the members of the set whose strings x comes before, or is equal to
pub record After (string : ℕ → Bytes) (set : ℕ) (x : Bytes) (t : ℕ) : Type 0 where
  pub within : Sub t set
  pub yes : (j : ℕ) → bit t j ≡ 1 → lex_le x (string j) ≡ true
  pub no : (j : ℕ) → bit set j ≡ 1 → bit t j ≡ 0 → lex_le x (string j) ≡ false
