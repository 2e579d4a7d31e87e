-- The states that the search may enter.
use Rattle.std.specs.Prelude.{ℕ, ◌+◌, ◌≤◌, length}
use mathlib.Core.List.{Memᴰ}
use Rattle.molecule.specs.Lists.{Bytes}
use Rattle.molecule.specs.Connected.{Connected}
use Rattle.matches.specs.Table.{pairs}
use Rattle.search.specs.Inner.Claims.{Fine}
use Rattle.state.specs.declared.State.{State}
use Rattle.state.specs.Inner.Views.{state_of}

-- a state that the search may enter: sizes add up, and its pieces are fragments of the record
pub record Entered (r : Bytes) (s : State) : Type 0 where
  pub fine : Fine r (pairs r) (state_of s)
  pub connected : (p : ℕ) → Memᴰ p (state_of s).pieces → Connected r p
  -- the memo has room for both
  pub both : length (state_of s).pieces + length (state_of s).trail.numbers ≤ 32
  pub after : s.next ≤ length (pairs r)
