-- The candidates that become nodes as the lent table keeps them, in regions of p words: region 0 the nodes by number, 1 the candidates, 5 for each
-- candidate 1 more than the index of the next member of its group, 0 for none,
-- 7 for each candidate 1 where it is a node and 0 where it is not, 8 for each node the number of the first node of its group.
use Rattle.std.specs.Prelude.{◌≡◌, true, false, Option, Some, None, List, [], ◌∷◌, ℕ, zero, suc, ◌+◌, ◌-◌, ◌*◌, ◌^◌, ◌≤◌, ◌<◌, length, get_or, take, eqb}
use Rattle.bitset.specs.Bits.{is_disjoint}
use Rattle.molecule.specs.Lists.{any, fold}
use Rattle.matches.specs.Table.{Group, note}
use Rattle.enumerate.specs.Inner.Bucketed.{Enumerated}
use Rattle.enumerate.specs.Inner.Grouped.{group_at}
use Rattle.tabulate.specs.declared.nodes.Done.{Done}

-- ---- lists of nodes

-- the nodes after x has met y
unfoldable pub both_noted : ℕ → List ℕ → ℕ → List ℕ
both_noted x nodes y = elim (is_disjoint x y) [ true ↦ note (note nodes x) y | false ↦ nodes ]

-- the nodes after a group is paired up, and after all these groups are
unfoldable pub nodes_after : List ℕ → List ℕ → List ℕ
nodes_after nodes [] = nodes
nodes_after nodes (x ∷ xs) = nodes_after (fold (both_noted x) nodes xs) xs

unfoldable pub nodes_of : List ℕ → List Group → List ℕ
nodes_of nodes gs = fold (λ n g. nodes_after n g.sets) nodes gs

-- 1 where x and y are disjoint, else 0
unfoldable pub apart : ℕ → ℕ → ℕ
apart x y = elim (is_disjoint x y) [ true ↦ 1 | false ↦ 0 ]

-- how many of the sets are disjoint to x; how many pairs of a group are disjoint; and of all these groups
unfoldable pub pairs_with : ℕ → List ℕ → ℕ
pairs_with x [] = 0
pairs_with x (y ∷ ys) = apart x y + pairs_with x ys

unfoldable pub disjoint_pairs : List ℕ → ℕ
disjoint_pairs [] = 0
disjoint_pairs (x ∷ xs) = pairs_with x xs + disjoint_pairs xs

unfoldable pub pairs_in : List Group → ℕ
pairs_in [] = 0
pairs_in (g ∷ gs) = disjoint_pairs g.sets + pairs_in gs

-- ---- the table

-- the word of a candidate in region 7
unfoldable pub flag_of : List ℕ → ℕ → ℕ
flag_of nodes x = elim (any (eqb x) nodes) [ true ↦ 1 | false ↦ 0 ]

-- the table holds the candidates l, which are distinct, and the nodes
pub record Noded (parts : List ℕ) (p : ℕ) (l nodes : List ℕ) : Type 0 where
  pub wide : 9 * p ≤ length parts
  pub listed : Enumerated parts p l
  pub few : length nodes ≤ p
  pub numbers : (i : ℕ) → i < length nodes → get_or parts i 0 ≡ get_or nodes i 0
  pub flags : (i : ℕ) → i < length l → get_or parts (7 * p + i) 0 ≡ flag_of nodes (get_or l i 0)
  pub distinct : (i j : ℕ) → i < j → j < length l → get_or l i 0 ≡ get_or l j 0 → ⊥

-- regions 1 to 6 and from 9 on, and of regions 0 and 8 the first count words, are as they were
pub record Beside (old now : List ℕ) (p count : ℕ) : Type 0 where
  pub long : length now ≡ length old
  pub nodes : (i : ℕ) → i < count → i < p → get_or now i 0 ≡ get_or old i 0
  pub middle : (i : ℕ) → p ≤ i → i < 7 * p → get_or now i 0 ≡ get_or old i 0
  pub starts : (i : ℕ) → i < count → i < p → get_or now (8 * p + i) 0 ≡ get_or old (8 * p + i) 0
  pub rest : (i : ℕ) → 9 * p ≤ i → get_or now i 0 ≡ get_or old i 0

-- the table holds the nodes, of which there were count and are r, and start for each new one
pub record Numbered (now : List ℕ) (p : ℕ) (l nodes : List ℕ) (start count r : ℕ) : Type 0 where
  pub long : length nodes ≡ r
  pub more : count ≤ r
  pub noded : Noded now p l nodes
  pub starts : (i : ℕ) → count ≤ i → i < r → get_or now (8 * p + i) 0 ≡ start

-- the answer where the nodes were count and are to be these: how many there are, and then the table holds them; or None where they have no room
abbrev pub Named : List ℕ → ℕ → List ℕ → List ℕ → ℕ → ℕ → Option ℕ → Type 0
Named now p l nodes start count (Some r) = Numbered now p l nodes start count r
Named now p l nodes start count None = p < length nodes

-- the same where there are to be so many matches more
abbrev pub PairsMade : List ℕ → ℕ → List ℕ → List ℕ → ℕ → ℕ → Done → Option Done → Type 0
PairsMade now p l nodes pairs start done (Some d) = Numbered now p l nodes start done.nodes d.nodes × (d.matches ≡ done.matches + pairs)
PairsMade now p l nodes pairs start done None = p < length nodes

-- ---- members of a group

-- how far it is to the end of the table, where k is 1 more than an index, 0 for none
unfoldable pub ahead : ℕ → ℕ → ℕ
ahead p zero = 0
ahead p (suc i) = p - i

-- where k is 1 more than the index of a candidate, 0 for none, region 5 leads from it through these sets; the indices rise
unfoldable pub LeadsThrough : List ℕ → ℕ → List ℕ → ℕ → List ℕ → Type 0
LeadsThrough parts p l k [] = k ≡ 0
LeadsThrough parts p l k (x ∷ xs) = (i : ℕ) × (k ≡ suc i) × (i < length l) × (x ≡ get_or l i 0)
    × (ahead p (get_or parts (5 * p + i) 0) < ahead p (suc i)) × LeadsThrough parts p l (get_or parts (5 * p + i) 0) xs

-- the groups, each from the index in region 4 on
abbrev pub AllLead : List ℕ → ℕ → List ℕ → List Group → Type 0
AllLead parts p l gs = (k : ℕ) → k < length gs → LeadsThrough parts p l (suc (get_or parts (4 * p + k) 0)) (group_at gs k).sets

-- ---- what the functions require

-- candidate i is to be a node
pub record Naming (parts : List ℕ) (p : ℕ) (l nodes : List ℕ) (i count : ℕ) : Type 0 where
  pub noded : Noded parts p l nodes
  pub long : length nodes ≡ count
  pub within : i < length l

-- candidates i and j are to meet
pub record Meeting (parts : List ℕ) (p : ℕ) (l nodes : List ℕ) (i j : ℕ) (done : Done) : Type 0 where
  pub noded : Noded parts p l nodes
  pub long : length nodes ≡ done.nodes
  pub one : i < length l
  pub other : j < length l
  pub room : done.matches + apart (get_or l i 0) (get_or l j 0) < 2 ^ 64

-- candidate i is to meet the members after it
pub record ToMeet (parts : List ℕ) (p : ℕ) (l nodes sets : List ℕ) (i : ℕ) (done : Done) : Type 0 where
  pub noded : Noded parts p l nodes
  pub long : length nodes ≡ done.nodes
  pub within : i < length l
  pub linked : LeadsThrough parts p l (get_or parts (5 * p + i) 0) sets
  pub room : done.matches + pairs_with (get_or l i 0) sets < 2 ^ 64

-- the group of these sets, from candidate first on, is to be paired up
pub record Pairing (parts : List ℕ) (p : ℕ) (l nodes sets : List ℕ) (first : ℕ) (done : Done) : Type 0 where
  pub noded : Noded parts p l nodes
  pub long : length nodes ≡ done.nodes
  pub linked : LeadsThrough parts p l (suc first) sets
  pub room : done.matches + disjoint_pairs sets < 2 ^ 64

-- the groups gs are to be paired up
pub record Groups (parts : List ℕ) (p : ℕ) (l nodes : List ℕ) (gs : List Group) (groups count : ℕ) : Type 0 where
  pub noded : Noded parts p l nodes
  pub long : length nodes ≡ count
  pub many : length gs ≡ groups
  pub few : groups ≤ p
  pub linked : AllLead parts p l gs
  pub room : pairs_in gs < 2 ^ 64

-- all groups are: the table holds the nodes, with the first of its group for each new one, and there are so many matches
pub record Paired (now : List ℕ) (p : ℕ) (l nodes : List ℕ) (gs : List Group) (done : Done) : Type 0 where
  pub long : length (nodes_of nodes gs) ≡ done.nodes
  pub noded : Noded now p l (nodes_of nodes gs)
  pub starts : (k i : ℕ) → k < length gs → length (nodes_of nodes (take k gs)) ≤ i → i < length (nodes_of nodes (take (suc k) gs))
      → get_or now (8 * p + i) 0 ≡ length (nodes_of nodes (take k gs))
  pub matches : done.matches ≡ pairs_in gs

-- the answer for all groups; None where the nodes have no room
abbrev pub Grown : List ℕ → ℕ → List ℕ → List ℕ → List Group → Option Done → Type 0
Grown now p l nodes gs (Some d) = Paired now p l nodes gs d
Grown now p l nodes gs None = p < length (nodes_of nodes gs)
