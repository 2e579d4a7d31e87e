-- What the code's search answers, as the outcome of its definition.
use Rattle.std.specs.Prelude.{◌≡◌, Bool, List, [], ℕ, suc, ◌≤◌, min, Option, Some, None, Result, Ok, Err, ltb}
use Rattle.bitset.specs.Bits.{size}
use Rattle.molecule.specs.Lists.{Bytes, pick}
use Rattle.bounds.specs.Numbers.{sum_of}
use Rattle.matches.specs.Table.{Pair, pairs}
use Rattle.search.specs.Setting.{Setting, has_int}
use Rattle.search.specs.Memo.{Entry}
use Rattle.search.specs.Search as search
use Rattle.search.specs.State.{root_index}
use Rattle.state.specs.declared.State.{State}
use Rattle.recurse.specs.declared.visit.Run.{Run}
use Rattle.recurse.specs.declared.visit.Found.{Found}
use Rattle.recurse.specs.declared.visit.Halt.{Halt}
use Rattle.recurse.specs.declared.visit.Halt.TheVariants.{Budget, Memo}
use Rattle.recurse.specs.declared.visit.Gate.{Gate}
use Rattle.recurse.specs.declared.visit.Gate.TheVariants.{Goes, Stops}
use Rattle.memoize.specs.declared.Full.{Full}
use Rattle.state.specs.Inner.Views.{trail_of, state_of}
use Rattle.branch.specs.Inner.Entered.{Entered}
use Rattle.desk.specs.Inner.Cached.{Cached}
use Rattle.memoize.specs.Inner.Stored.{Stored}

-- what the code carries from state to state, with the memo that its table stores
abbrev pub run_of : Run → List Entry → search.Run
run_of run memo = record { best = run.best; states = run.states; memo = memo }

-- what the code has found, with the memo that its table stores, is the definition's outcome
abbrev pub found_as : Found → List Entry → search.Outcome
found_as o memo = search.answers o.index (trail_of o.trail) (run_of o.run memo)

-- and so is what ends it early: rows 11 and 12
abbrev pub halted_as : Halt → search.Outcome
halted_as (Budget n) = search.halts 11 n
halted_as (Memo n) = search.halts 12 n

-- the outcome is what the code has found, with the memo table's words then; best has not grown
pub record Answered (r : Bytes) (best : ℕ) (o : Found) (words : List ℕ) (x : search.Outcome) : Type 0 where
  pub memo : List Entry
  pub is : x ≡ found_as o memo
  pub low : o.run.best ≤ best
  pub stored : Stored r words o.run.entries memo

-- the code answers as the definition, with the memo table's words then
abbrev pub Follows : Bytes → ℕ → Result Found Halt → List ℕ → search.Outcome → Type 0
Follows r best (Ok o) words x = Answered r best o words x
Follows r best (Err h) words x = x ≡ halted_as h

-- so it is of a state that is entered with memo m, whatever the depth, if it is enough
abbrev pub Visited : Bytes → Setting → ℕ → State → Run → List Entry → Result Found Halt → List ℕ → Type 0
Visited r setting room s run m o words = (f : ℕ) → sum_of size (state_of s).pieces ≤ f → 1 ≤ f
    → Follows r run.best o words (search.visit r (pairs r) setting room f (state_of s) (run_of run m))

-- and of the search
abbrev pub Searches : Bytes → Setting → ℕ → Result Found Halt → List ℕ → Type 0
Searches r setting room o words = Follows r (root_index r) o words (search.search r (pairs r) setting room)

-- ---- what the search is given

-- a state to enter, with what is carried so far
pub record MayEnter (r : Bytes) (memo desk : List ℕ) (s : State) (run : Run) : Type 0 where
  pub entered : Entered r s
  pub low : run.best ≤ 64
  pub cached : Cached r desk
  pub stored : (m : List Entry) × Stored r memo run.entries m

-- an empty memo, and a desk on which what is said holds
pub record MayStart (r : Bytes) (memo desk : List ℕ) : Type 0 where
  pub cached : Cached r desk
  pub stored : Stored r memo 0 []

-- ---- entering a state

-- whether Int stops the state, also under any other setting with Int on or off as here
abbrev pub IntStops : Setting → State → ℕ → Bool → Type 0
IntStops setting s best b = (r : Bytes) (ms : List Pair) (other : Setting) (room : ℕ) → has_int other ≡ has_int setting → b ≡ search.int_stops r ms other room (state_of s) best

-- where the memo's answer leads a state that has been counted
abbrev pub gate_of : Result (Option ℕ) Full → Run → Result Gate Halt
gate_of (Ok (Some e)) run = Ok (Goes (record { best = run.best; states = run.states; entries = e }))
gate_of (Ok None) run = Ok (Stops run)
gate_of (Err full) run = Err (Memo run.states)

-- the state is counted: best is as it was, with one state more
pub record Counted (run next : Run) : Type 0 where
  pub best : next.best ≡ run.best
  pub states : next.states ≡ suc run.states

-- the state goes on, and the words store the memo then
pub record Opened (r : Bytes) (setting : Setting) (room : ℕ) (s : State) (run : Run) (m : List Entry) (words : List ℕ) (next : Run) : Type 0 where
  pub counted : Counted run next
  pub memo : List Entry
  pub stored : Stored r words next.entries memo
  pub goes : (f : ℕ) → search.visit r (pairs r) setting room (suc f) (state_of s) (run_of run m)
      ≡ search.branch r (pairs r) setting room (search.visit r (pairs r) setting room f) (state_of s) (run_of next memo)

-- it answers its own index
pub record Stopped (r : Bytes) (setting : Setting) (room : ℕ) (s : State) (run : Run) (m : List Entry) (words : List ℕ) (next : Run) : Type 0 where
  pub counted : Counted run next
  pub stored : Stored r words next.entries m
  pub stops : (f : ℕ) → search.visit r (pairs r) setting room (suc f) (state_of s) (run_of run m)
      ≡ search.answers s.index (state_of s).trail (run_of next m)

-- it ends the search
pub record Ended (r : Bytes) (setting : Setting) (room : ℕ) (s : State) (run : Run) (m : List Entry) (h : Halt) : Type 0 where
  pub ends : (f : ℕ) → search.visit r (pairs r) setting room (suc f) (state_of s) (run_of run m) ≡ halted_as h

-- where entering a state leads, with memo m before and the table's words after
abbrev pub Gated : Bytes → Setting → ℕ → State → Run → List Entry → List ℕ → Result Gate Halt → Type 0
Gated r setting room s run m words (Ok (Goes next)) = Opened r setting room s run m words next
Gated r setting room s run m words (Ok (Stops next)) = Stopped r setting room s run m words next
Gated r setting room s run m words (Err h) = Ended r setting room s run m h

-- ---- what is found

-- the state's own index and trail as its answer
pub record OwnAnswer (s : State) (run : Run) (o : Found) : Type 0 where
  pub index : o.index ≡ s.index
  pub trail : trail_of o.trail ≡ (state_of s).trail
  pub carried : o.run ≡ run

-- after a child's answer: what is carried is the child's, and so is the answer where it is less
abbrev pub better_of : Found → Found → Found
better_of found child = pick (ltb child.index found.index) child (record { index = found.index; trail = found.trail; run = child.run })

-- best lowered to the answer
pub record Lowered (found o : Found) : Type 0 where
  pub index : o.index ≡ found.index
  pub trail : o.trail ≡ found.trail
  pub best : o.run.best ≡ min found.run.best found.index
  pub states : o.run.states ≡ found.run.states
  pub entries : o.run.entries ≡ found.run.entries
