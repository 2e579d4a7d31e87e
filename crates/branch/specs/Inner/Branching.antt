-- The removals of a state: what they are tried from, the next to try, and the state after it.
use Rattle.std.specs.Prelude.{◌≡◌, true, false, Bool, List, ℕ, suc, ◌≤◌, ◌<◌, Option, MatchOption, length}
use Rattle.molecule.specs.Lists.{Bytes}
use Rattle.matches.specs.Table.{Pair, pairs}
use Rattle.matches.specs.Laws.{Laws}
use Rattle.bounds.specs.Numbers.{ceil_log2}
use Rattle.bounds.specs.Bounds.{least_size}
use Rattle.search.specs.Setting.{Setting, has_matchable_edges}
use Rattle.search.specs.State as search
use Rattle.search.specs.Search.{tried}
use Rattle.search.specs.Inner.Claims.{held_of}
use Rattle.state.specs.declared.State.{State}
use Rattle.branch.specs.declared.Branch.{Branch}
use Rattle.branch.specs.declared.removals.Removals.{Removals}
use Rattle.state.specs.Inner.Views.{sets_of, state_of}
use Rattle.state.specs.Inner.Scan.{goes, rows_of}
use Rattle.branch.specs.Inner.Entered.{Entered}
use Rattle.branch.specs.Inner.Trying.{tried_from, First}

-- the least size tried: 2 with MatchableEdges off
unfoldable pub least_tried : Bool → (ℕ → ℕ) → List ℕ → ℕ → ℕ → ℕ → ℕ
least_tried edges mask pieces index best largest = elim edges [ true ↦ least_size ceil_log2 mask pieces index best largest | false ↦ 2 ]

-- no match from .. n is removable
pub record Passes (ms : List Pair) (pieces : List ℕ) (from n : ℕ) : Type 0 where
  pub after : from ≤ n
  pub within : n ≤ length ms
  pub none : (i : ℕ) → from ≤ i → i < n → goes ms pieces i ≡ false

-- one step along the removals: match m, where there is one, is the first of those left, and those after it are left then
pub record Tries (s : Removals) (m : Option ℕ) (t : Removals) : Type 0 where
  pub rows : t.rows.now ≡ s.rows.now
  pub owners : t.owners.now ≡ s.owners.now
  pub least : t.least ≡ s.least
  pub from : MatchOption m (t.from ≡ s.from) (λ i. t.from ≡ suc i)
  pub first : (r : Bytes) (ms : List Pair) → Laws r ms → s.rows.now.words.now ≡ rows_of ms → First r ms s.owners.now.pieces.now s.least s.from m

-- what a state's removals are tried from, also for any other setting with the same bound of sizes
pub record Branched (r : Bytes) (setting : Setting) (s : State) (best : ℕ) (b : Branch) : Type 0 where
  pub pieces : b.owners.pieces.now ≡ (state_of s).pieces
  pub held : sets_of b.held ≡ held_of r (pairs r) (state_of s)
  pub after : s.next ≤ b.first
  pub within : b.first ≤ length (pairs r)
  pub tries : (other : Setting) (room : ℕ) → has_matchable_edges other ≡ has_matchable_edges setting
      → tried r (pairs r) other room (state_of s) (search.removable r (pairs r) (state_of s).pieces s.next) best
      ≡ tried_from r (pairs r) (state_of s).pieces b.least b.first

-- match m is removable in the state, which holds these pieces
pub record Chooses (r : Bytes) (s : State) (held : List ℕ) (m : ℕ) : Type 0 where
  pub after : s.next ≤ m
  pub within : m < length (pairs r)
  pub removes : goes (pairs r) (state_of s).pieces m ≡ true
  pub keeps : held ≡ held_of r (pairs r) (state_of s)

-- c is the state after match m
pub record Below (r : Bytes) (s : State) (m : ℕ) (c : State) : Type 0 where
  pub is : state_of c ≡ search.child r (pairs r) (state_of s) (held_of r (pairs r) (state_of s)) m
  pub entered : Entered r c
