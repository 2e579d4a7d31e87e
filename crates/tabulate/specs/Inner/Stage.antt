-- The table on its way, size by size, as the lent table keeps it, in regions of p words: region 0 the nodes by number, 8 for each node the number of
-- the first node of its group.
use Rattle.std.specs.Prelude.{◌≡◌, Option, Some, None, List, [], ◌∷◌, ℕ, zero, suc, ◌+◌, ◌*◌, ◌≤◌, ◌<◌, length, get_or}
use Rattle.molecule.specs.Lists.{Bytes}
use Rattle.molecule.specs.Record.{bonds}
use Rattle.matches.specs.Table.{Table, sizes, singles}
use Rattle.matches.specs.Inner.Descending.{Starts}
use Rattle.matches.specs.Inner.Written.{start_in}
use Rattle.tabulate.specs.declared.nodes.Done.{Done}

module _ (r : Bytes) where
  -- the table after k sizes beyond the single bonds, or fewer where parents run out
  unfoldable pub table_at : ℕ → Table
  table_at k = sizes r k (record { nodes = singles r; matches = []; needs = 0 ∷ bonds r ∷ [] }) (singles r)

  -- how many nodes there are before size k + 1; so its parents are the nodes from the number before size k on
  unfoldable pub nodes_at : ℕ → ℕ
  nodes_at zero = 0
  nodes_at (suc k) = length (table_at k).nodes

-- parts holds the table after k sizes, all of which had room
pub record Stage (r : Bytes) (parts : List ℕ) (p k : ℕ) : Type 0 where
  pub wide : 12 * p ≤ length parts
  pub clamped : p ≤ 4294967295
  pub nodes : (i : ℕ) → i < nodes_at r (suc k) → get_or parts i 0 ≡ get_or (table_at r k).nodes i 0
  pub starts : Starts r (table_at r k).nodes (start_in parts p)
  pub fits : (i : ℕ) → i < length (table_at r k).needs → get_or (table_at r k).needs i 0 ≤ p

-- size k + 2 is to be found: its parents are the nodes from .. to
pub record Sizing (r : Bytes) (parts : List ℕ) (p k from to : ℕ) : Type 0 where
  pub held : Stage r parts p k
  pub older : from ≡ nodes_at r k
  pub all : to ≡ nodes_at r (suc k)
  pub parents : from < to

-- that size is found: there are so many nodes then, and so many matches more
pub record Found (r : Bytes) (now : List ℕ) (p k : ℕ) (done : Done) : Type 0 where
  pub held : Stage r now p (suc k)
  pub all : done.nodes ≡ nodes_at r (suc (suc k))
  pub few : done.nodes ≤ p
  pub more : length (table_at r (suc k)).matches ≡ length (table_at r k).matches + done.matches

-- that size has no room
pub record Overflowing (r : Bytes) (p k : ℕ) : Type 0 where
  pub place : suc (suc k) < length (table_at r (suc k)).needs
  pub over : p < get_or (table_at r (suc k)).needs (suc (suc k)) 0

-- the answer for that size; None where it has no room
abbrev pub NextSize : Bytes → List ℕ → ℕ → ℕ → Option Done → Type 0
NextSize r now p k (Some d) = Found r now p k d
NextSize r now p k None = Overflowing r p k
