-- How the search starts: from the root where there is a bond, and with its answer where there is none (document 02, 5/14). Assumes nothing.
use mathlib.Core.Path.{◌≡◌, refl, ap, ◌∙◌}
use mathlib.Core.Bool.{Bool, true, false}
use lib.Dec.{eqb}
use Prim.Native.Nat.{ℕ, ◌≤◌}
use native.Mathlib.Omega.{arith}
use native.Mathlib.Decide.{dec_le}
use borrow.Author.Tests.{ne_eqb, eq-eqb}
use Rattle.molecule.specs.Lists.{Bytes}
use Rattle.molecule.specs.Record.{bonds}
use Rattle.matches.specs.Table.{Pair}
use Rattle.search.specs.Setting.{Setting}
use Rattle.search.specs.Trail.{no_removal}
use Rattle.search.specs.State.{root_index, root}
use Rattle.search.specs.Search.{Run, Outcome, answers, visit, search}
use mathlib.Core.List.{List, []}

-- what is carried to the root
abbrev pub run_at_root : Bytes → Run
run_at_root r = record { best = root_index r; states = 0; memo = [] }

module _ (r : Bytes) (ms : List Pair) (setting : Setting) (room : ℕ) where
  -- without bonds the answer is 0 with no removal, and no state is entered
  abbrev pub lone : Outcome
  lone = answers 0 no_removal (run_at_root r)

  abbrev starts : Bool → Outcome
  starts true = lone
  starts false = visit r ms setting room (bonds r) (root r ms) (run_at_root r)

  search_starts : search r ms setting room ≡ starts (eqb (bonds r) 0)
  unfolding search
  search_starts = refl

  pub search_lone : bonds r ≡ 0 → search r ms setting room ≡ lone
  search_lone e = search_starts ∙ ap starts (eq-eqb (bonds r) 0 e)

  pub search_some : 1 ≤ bonds r → search r ms setting room ≡ visit r ms setting room (bonds r) (root r ms) (run_at_root r)
  search_some h = search_starts ∙ ap starts (ne_eqb (bonds r) 0 (λ e. omega arith))

  -- what holds in both cases holds of the search
  pub by_bonds : (C : Outcome → Type 0) → (bonds r ≡ 0 → C lone) → (1 ≤ bonds r → C (visit r ms setting room (bonds r) (root r ms) (run_at_root r))) → C (search r ms setting room)
  by_bonds C none some = go (dec_le 1 (bonds r))
    where
      go : Dec (1 ≤ bonds r) → C (search r ms setting room)
      go (yes h) = rw (search_some h) (some h)
      go (no h) = rw (search_lone (omega arith)) (none (omega arith))
