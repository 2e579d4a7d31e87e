-- The slate: bytes to write labels on. Slot i is its 456 bytes from 456 * i on: the length of a string, low byte first, and the string.
-- Slots 0 to 63 are the bonds', for the strings that they hand over; slot 64 has the label that is kept, and slot 65 one that is compared with it.
use Rattle.std.specs.Prelude.{◌≡◌, ℕ, ◌+◌, ◌*◌, ◌≤◌, ◌<◌, length, get_or, take, drop}
use Rattle.molecule.specs.Lists.{Bytes}
use Rattle.molecule.specs.Connected.{Own, Connected}

-- how long the string of slot i is
unfoldable pub slot_length : Bytes → ℕ → ℕ
slot_length slate i = get_or slate (456 * i) 0 + 256 * get_or slate (456 * i + 1) 0

-- the string of slot i
unfoldable pub slot : Bytes → ℕ → Bytes
slot slate i = take (slot_length slate i) (drop (456 * i + 2) slate)

-- 66 slots, and no string is wider than its slot
pub record Slots (slate : Bytes) : Type 0 where
  pub wide : length slate ≡ 30096
  pub fits : (i : ℕ) → i < 66 → slot_length slate i ≤ 454

-- the label that is kept
unfoldable pub kept : Bytes → Bytes
kept slate = slot slate 64

-- x is a fragment of record r: of its bonds, and connected
pub record Fragment (r : Bytes) (x : ℕ) : Type 0 where
  pub own : Own r x
  pub connected : Connected r x
