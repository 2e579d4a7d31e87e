-- Document 01, 'Search': entering a state, its children, its answer, and the trail; rows 11 and 12 in the order met.
use Rattle.std.specs.Prelude.{Bool, true, false, ◌&&◌, List, [], ◌∷◌, ℕ, zero, suc, ◌+◌, min, ltb, leb, eqb}
use Rattle.molecule.specs.Lists.{Bytes, filter}
use Rattle.molecule.specs.Record.{bonds}
use Rattle.matches.specs.Table.{Pair, size_of}
use Rattle.bounds.specs.Numbers.{max_of, ceil_log2}
use Rattle.bounds.specs.Bounds.{int_bound, least_size}
use Rattle.search.specs.Setting.{Setting, has_int, has_matchable_edges, has_memo}
use Rattle.search.specs.Trail.{Trail, no_removal}
use Rattle.search.specs.State.{State, root_index, root, removable, mask_of, keep, child}
use Rattle.search.specs.Memo.{Entry, Memo, goes, stopped, full, remember, entry_of}

-- what the search carries from state to state: best, the states entered, the memo
pub record Run : Type 0 where
  pub best : ℕ
  pub states : ℕ
  pub memo : List Entry

-- a state's answer with its trail, or row 11 or 12 with its place
pub data Outcome : Type 0 where
  answers : ℕ → Trail → Run → Outcome
  halts : ℕ → ℕ → Outcome

-- best lowered to the answer
unfoldable pub lower : Outcome → Outcome
lower (answers a t run) = answers a t (record { best = min run.best a; states = run.states; memo = run.memo })
lower (halts number place) = halts number place

module _ (r : Bytes) (ms : List Pair) (setting : Setting) (room : ℕ) where
  -- Int stops a state when index − J is at least best
  unfoldable pub int_stops : State → ℕ → Bool
  int_stops s best = has_int setting && leb (best + int_bound ceil_log2 s.pieces s.largest) s.index

  -- only an unstopped state reaches the memo: what it says
  unfoldable pub ask : State → List Entry → Memo
  ask s memo = elim (has_memo setting) [ true ↦ remember room (entry_of r s) memo | false ↦ goes memo ]

  -- the removals tried, in ascending number: of the removable ns those of the least size tried or more, with best as it is before the state's first removal
  unfoldable pub tried : State → List ℕ → ℕ → List ℕ
  tried s ns best = elim (has_matchable_edges setting) [
    | true ↦
        let least : ℕ = least_size ceil_log2 (mask_of r ms ns) s.pieces s.index best (max_of (size_of ms) ns) in
        filter (λ m. leb least (size_of ms m)) ns
    | false ↦ ns
  ]

  -- the children by the removals ns, in order; the least answer so far, with the first trail that has it. It starts as the state's own: a child's is less
  unfoldable pub children : (State → Run → Outcome) → State → List ℕ → List ℕ → ℕ → Trail → Run → Outcome
  children enter s held [] answer trail run = answers answer trail run
  children enter s held (m ∷ ns) answer trail run = elim (enter (child r ms s held m) run) [
    | halts number place ↦ halts number place
    | answers a t run' ↦ elim (ltb a answer) [
      | true ↦ children enter s held ns a t run'
      | false ↦ children enter s held ns answer trail run'
    ]
  ]

  -- an unstopped state: bonds in no removable size-2 match are let go; after its children, if any, it lowers best to its answer
  unfoldable pub branch : (State → Run → Outcome) → State → Run → Outcome
  branch enter s run =
      let ns : List ℕ = removable r ms s.pieces s.next in
      let held : List ℕ = keep r ms (mask_of r ms ns 2) s.pieces in
      lower (children enter s held (tried s ns run.best) s.index s.trail run)

  -- a state that has been counted: one that Int or the memo stops answers its index
  unfoldable pub counted : (State → Run → Outcome) → State → Run → Outcome
  counted enter s run = elim (int_stops s run.best) [
    | true ↦ answers s.index s.trail run
    | false ↦ elim (ask s run.memo) [
      | stopped ↦ answers s.index s.trail run
      | full ↦ halts 12 run.states
      | goes memo ↦ branch enter s (record { best = run.best; states = run.states; memo = memo })
    ]
  ]

  -- entering a state counts it, within the budget; f is how deep the search may go
  unfoldable pub visit : ℕ → State → Run → Outcome
  visit zero s run = halts 0 0
  visit (suc f) s run = elim (ltb run.states setting.budget) [
    | true ↦ counted (visit f) s (record { best = run.best; states = suc run.states; memo = run.memo })
    | false ↦ halts 11 setting.budget
  ]

  -- from the root, with its index as best. A removal strikes two bonds at least, so n levels are enough.
  -- Document 02, 5/14: without bonds no state is entered, and the answer is 0 with no removal, whatever the budget
  unfoldable pub search : Outcome
  search =
      let start : Run = record { best = root_index r; states = 0; memo = [] } in
      elim (eqb (bonds r) 0) [
        | true ↦ answers 0 no_removal start
        | false ↦ visit (bonds r) (root r ms) start
      ]
