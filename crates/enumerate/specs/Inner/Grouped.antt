-- The candidates grouped by label as the lent table keeps them, in regions of p words: region 4 for each group, in ascending order of labels, the index of
-- its first member, 5 for each candidate 1 more than the index of the next member of its group, 0 for none, 6 for each first member the index of its
-- group's last member, 9 to 11 hints: for a label 1 more than the index of the first member of a group, 0 for none.
use Rattle.std.specs.Prelude.{◌≡◌, ◌≢◌, true, false, ℕ, suc, ◌+◌, ◌*◌, ◌≤◌, ◌<◌, length, get_or, set}
use mathlib.Core.List.{List, [], ◌∷◌, Memᴰ}
use Rattle.molecule.specs.Lists.{Bytes}
use Rattle.canonize.specs.Strings.{lex_le, same}
use Rattle.canonize.specs.Label.{label}
use Rattle.canonize.specs.Inner.Slate.{Fragment}
use Rattle.matches.specs.Table.{Group, place}
use Rattle.enumerate.specs.Inner.Bucketed.{Bucketed}

-- group k
unfoldable pub group_at : List Group → ℕ → Group
group_at gs k = get_or gs k (record { key = []; sets = [] })

-- from candidate i on, region 5 leads through these sets to candidate e, where it ends; the indices rise and are below n
pub data Threaded (parts : List ℕ) (p : ℕ) (l : List ℕ) (n : ℕ) : ℕ → List ℕ → ℕ → Type 0 where
  ends : {i : ℕ} → i < n → get_or parts (5 * p + i) 0 ≡ 0 → Threaded parts p l n i (get_or l i 0 ∷ []) i
  then : {i j e : ℕ} {sets : List ℕ} → i < j → get_or parts (5 * p + i) 0 ≡ suc j → Threaded parts p l n j sets e → Threaded parts p l n i (get_or l i 0 ∷ sets) e

-- groups whose members have the group's key as label; the keys ascend strictly
pub record Keyed (r : Bytes) (gs : List Group) : Type 0 where
  pub labels : (k x : ℕ) → k < length gs → Memᴰ x (group_at gs k).sets → label r x ≡ (group_at gs k).key
  pub ascend : (j k : ℕ) → j < k → k < length gs → lex_le (group_at gs k).key (group_at gs j).key ≡ false

-- the first n candidates of l are in the groups gs: group k is the chain from the index in region 4 to the index in region 6
pub record Grouped (r : Bytes) (parts : List ℕ) (p : ℕ) (l : List ℕ) (n : ℕ) (gs : List Group) : Type 0 where
  pub few : length gs ≤ n
  pub keyed : Keyed r gs
  pub chains : (k : ℕ) → k < length gs
      → Threaded parts p l n (get_or parts (4 * p + k) 0) (group_at gs k).sets (get_or parts (6 * p + get_or parts (4 * p + k) 0) 0)

-- the table holds the candidates l, fragments of the record, and has room for their groups
pub record Groupable (r : Bytes) (parts : List ℕ) (p : ℕ) (l : List ℕ) : Type 0 where
  pub found : Bucketed parts p l
  pub wide : 12 * p ≤ length parts
  pub fragments : (s : ℕ) → Memᴰ s l → Fragment r s

-- nothing outside regions 4 to 6 and from 9 on is written
pub record Around (old now : List ℕ) (p : ℕ) : Type 0 where
  pub long : length now ≡ length old
  pub low : (i : ℕ) → i < 4 * p → get_or now i 0 ≡ get_or old i 0
  pub middle : (i : ℕ) → 7 * p ≤ i → i < 9 * p → get_or now i 0 ≡ get_or old i 0

-- nothing outside regions 4 to 6 is written
pub record Outside (old now : List ℕ) (p : ℕ) : Type 0 where
  pub long : length now ≡ length old
  pub low : (i : ℕ) → i < 4 * p → get_or now i 0 ≡ get_or old i 0
  pub high : (i : ℕ) → 7 * p ≤ i → get_or now i 0 ≡ get_or old i 0

-- ---- the parts of it

-- the label of the first member of group k
unfoldable pub key_at : Bytes → List ℕ → ℕ → ℕ → Bytes
key_at r parts p k = label r (get_or parts (p + get_or parts (4 * p + k) 0) 0)

-- the table has g groups, as far as their first members say
pub record Firsts (r : Bytes) (parts : List ℕ) (p g : ℕ) : Type 0 where
  pub wide : 7 * p ≤ length parts
  pub few : g ≤ p
  pub within : (k : ℕ) → k < g → get_or parts (4 * p + k) 0 < p
  pub fragments : (k : ℕ) → k < g → Fragment r (get_or parts (p + get_or parts (4 * p + k) 0) 0)
  pub ascend : (j k : ℕ) → j < k → k < g → lex_le (key_at r parts p k) (key_at r parts p j) ≡ false

-- k is the first of g keys that does not come before x, g where there is none
pub record Position (keys : ℕ → Bytes) (g : ℕ) (x : Bytes) (k : ℕ) : Type 0 where
  pub within : k ≤ g
  pub before : (j : ℕ) → j < k → lex_le x (keys j) ≡ false
  pub after : k < g → lex_le x (keys k) ≡ true

-- candidate i is the first member of a new group at place k of g
pub record GroupOpened (old now : List ℕ) (p g k i : ℕ) : Type 0 where
  pub outside : Outside old now p
  pub first : get_or now (4 * p + k) 0 ≡ i
  pub before : (j : ℕ) → j < k → get_or now (4 * p + j) 0 ≡ get_or old (4 * p + j) 0
  pub after : (j : ℕ) → k ≤ j → j < g → get_or now (4 * p + suc j) 0 ≡ get_or old (4 * p + j) 0
  pub next : get_or now (5 * p + i) 0 ≡ 0
  pub nexts : (j : ℕ) → j < i → get_or now (5 * p + j) 0 ≡ get_or old (5 * p + j) 0
  pub last : get_or now (6 * p + i) 0 ≡ i
  pub lasts : (j : ℕ) → j < i → get_or now (6 * p + j) 0 ≡ get_or old (6 * p + j) 0

-- candidate i put at the end of the group whose first member is f
unfoldable pub joined : List ℕ → ℕ → ℕ → ℕ → List ℕ
joined parts p f i = set (set (set parts (5 * p + get_or parts (6 * p + f) 0) (i + 1)) (5 * p + i) 0) (6 * p + f) i

-- each of the first m words from region 9 on is a hint: 0, or 1 more than the index of the first member of one of the g groups
pub record Hints (parts : List ℕ) (p g m : ℕ) : Type 0 where
  pub first : (j f : ℕ) → j < m → get_or parts (9 * p + j) 0 ≡ suc f → (k : ℕ) × (k < g) × (f ≡ get_or parts (4 * p + k) 0)

-- where hint j is f + 1, candidate f is a fragment of the record
pub record Hinted (r : Bytes) (parts : List ℕ) (p j : ℕ) : Type 0 where
  pub wide : 9 * p + j < length parts
  pub within : (f : ℕ) → get_or parts (9 * p + j) 0 ≡ suc f → f < p
  pub fragment : (f : ℕ) → get_or parts (9 * p + j) 0 ≡ suc f → Fragment r (get_or parts (p + f) 0)

-- hint j is f + 1, and the label of candidate f is x
abbrev pub HintLeads : Bytes → List ℕ → ℕ → ℕ → ℕ → Bytes → Type 0
HintLeads r parts p j f x = (get_or parts (9 * p + j) 0 ≡ suc f) × (same x (label r (get_or parts (p + f) 0)) ≡ true)

-- there were g groups and are n: each first member is one still, and where they are not as many candidate i is one
pub record Moved (old now : List ℕ) (p g n i : ℕ) : Type 0 where
  pub still : (k : ℕ) → k < g → (j : ℕ) × (j < n) × (get_or now (4 * p + j) 0 ≡ get_or old (4 * p + k) 0)
  pub new : n ≢ g → (j : ℕ) × (j < n) × (get_or now (4 * p + j) 0 ≡ i)

-- candidate i of l is to go to the groups gs, of which there are g
pub record Placing (r : Bytes) (parts : List ℕ) (p : ℕ) (l : List ℕ) (i : ℕ) (gs : List Group) (g : ℕ) (x : Bytes) : Type 0 where
  pub ready : Groupable r parts p l
  pub grouped : Grouped r parts p l i gs
  pub count : length gs ≡ g
  pub more : i < length l
  pub its : x ≡ label r (get_or l i 0)

-- it has gone there, and there are g groups now
pub record GroupPlaced (r : Bytes) (parts : List ℕ) (p : ℕ) (l : List ℕ) (i : ℕ) (gs : List Group) (g : ℕ) (x : Bytes) : Type 0 where
  pub grouped : Grouped r parts p l (i + 1) (place gs (get_or l i 0) x)
  pub count : length (place gs (get_or l i 0) x) ≡ g
