-- The desk as the lent words keep it. Slot i is its 3 words from 3 * i on: a set, the hash of its label, and a set that stands for it;
-- a slot that begins with 0 says nothing. After the 1,024 slots come 1,024 words, each a set that stands for others or 0.
use Rattle.std.specs.Prelude.{◌≡◌, ◌≢◌, List, ℕ, ◌+◌, ◌*◌, ◌≤◌, ◌<◌, length, get_or}
use Rattle.molecule.specs.Lists.{Bytes}
use Rattle.canonize.specs.Strings.{hash}
use Rattle.canonize.specs.Label.{label}
use Rattle.canonize.specs.Inner.Slate.{Fragment}

-- y stands for x: a fragment with its label
pub record Stands (r : Bytes) (x y : ℕ) : Type 0 where
  pub same : label r y ≡ label r x
  pub fragment : Fragment r y

-- what the words say is true
pub record Cached (r : Bytes) (desk : List ℕ) : Type 0 where
  pub wide : 4096 ≤ length desk
  pub hashes : (i : ℕ) → i < 1024 → get_or desk (3 * i) 0 ≢ 0 → get_or desk (3 * i + 1) 0 ≡ hash (label r (get_or desk (3 * i) 0))
  pub stands : (i : ℕ) → i < 1024 → get_or desk (3 * i) 0 ≢ 0 → Stands r (get_or desk (3 * i) 0) (get_or desk (3 * i + 2) 0)
  pub kept : (i : ℕ) → i < 1024 → get_or desk (3072 + i) 0 ≢ 0 → Fragment r (get_or desk (3072 + i) 0)
