-- The code's values as those of the search's definitions.
use Rattle.std.specs.Prelude.{List, ℕ, take}
use Rattle.search.specs.Trail as definition
use Rattle.search.specs.State as search
use Rattle.state.specs.declared.State.{State}
use Rattle.state.specs.declared.sets.Sets.{Sets}
use Rattle.state.specs.declared.trail.Trail.{Trail}

-- the sets that the code's list has
abbrev pub sets_of : {N : ℕ} → Sets N → List ℕ
sets_of s = take s.length s.words

-- the trail that the code's trail is
abbrev pub trail_of : Trail → definition.Trail
trail_of t = record { numbers = take t.length t.numbers; sizes = take t.length t.sizes }

-- the state that the code's state is
abbrev pub state_of : State → search.State
state_of s = record { pieces = sets_of s.pieces; index = s.index; largest = s.largest; next = s.next; trail = trail_of s.trail }
