-- How the loop over sizes ends, with the table in regions of p words: region 0 the nodes by number, 8 for each node the number of the first node of its group.
use Rattle.std.specs.Prelude.{◌≡◌, Result, Ok, Err, List, ℕ, ◌≤◌, ◌<◌, length, get_or}
use Rattle.molecule.specs.Lists.{Bytes}
use Rattle.matches.specs.Table.{match_table}
use Rattle.matches.specs.Inner.Descending.{Starts}
use Rattle.matches.specs.Inner.Written.{start_in}
use Rattle.tabulate.specs.declared.nodes.Done.{Done}

-- parts holds the whole table, with room for every size
pub record WholeTable (r : Bytes) (parts : List ℕ) (p : ℕ) (done : Done) : Type 0 where
  pub all : done.nodes ≡ length (match_table r).nodes
  pub few : done.nodes ≤ p
  pub here : (i : ℕ) → i < done.nodes → get_or parts i 0 ≡ get_or (match_table r).nodes i 0
  pub starts : Starts r (match_table r).nodes (start_in parts p)
  pub fits : (i : ℕ) → i < length (match_table r).needs → get_or (match_table r).needs i 0 ≤ p
  pub count : done.matches ≡ length (match_table r).matches

-- size k is the first that has no room
pub record NoRoom (r : Bytes) (p k : ℕ) : Type 0 where
  pub place : k < length (match_table r).needs
  pub exceeds : p < get_or (match_table r).needs k 0
  pub before : (i : ℕ) → i < k → get_or (match_table r).needs i 0 ≤ p

-- the loop over sizes ends with the whole table, or at the size that has no room
abbrev pub Walked : Bytes → List ℕ → ℕ → Result Done ℕ → Type 0
Walked r parts p (Ok d) = WholeTable r parts p d
Walked r parts p (Err k) = NoRoom r p k
