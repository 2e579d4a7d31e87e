-- Document 01, 'Molecules to try': the starred rows as one checked table, by computing; what is lent afterwards; the memo; demand 3 on seven molecules; pathways; mixtures; one tree.
use Rattle.std.specs.Prelude.{◌≡◌, refl, Bool, true, false, ◌&&◌, ℕ, suc, length, replicate, set, eqb}
use mathlib.Core.List.{List, [], ◌∷◌, ◌++◌, map, flat_map}
use Rattle.std.specs.Int.Count.{count_trailing_zeros}
use Rattle.molecule.specs.Lists.{Bytes}
use Rattle.molecule.specs.Examples.{times, chain, chain_ends}
use Rattle.canonize.specs.Strings.{sort}
use Rattle.matches.specs.Table.{pair, size_of, pairs}
use Rattle.matches.specs.Examples.{compute as tables, star_ends, star}
use Rattle.matches.specs.Rows.{parts_room}
use Rattle.bounds.specs.Numbers.{ceil_log2}
use Rattle.bounds.specs.Bounds.{usable_edges, int_term, int_bound, usable_edges_bound, left_out, least_size}
use Rattle.search.specs.Setting.{Setting, Room}
use Rattle.search.specs.Trail.{Trail, no_removal, with_removal}
use Rattle.search.specs.State.{struck, inside, big_components, root, removable, mask_of, keep, remove, child, root_pieces, root_index}
use Rattle.search.specs.Memo.{Entry, Memo, goes, stopped, full, same_key, recall, remember, key_of, entry_of}
use Rattle.search.specs.Search.{lower, int_stops, ask, tried, children, branch, counted, visit, search, Outcome, answers}
use Rattle.search.specs.Series.{allowed_from, allowed, series_score, series_from, all_series, least_of, least_score}
use Rattle.search.specs.Pathway.{Join, union, atoms_of, is_fragment, labelled, ready, meets, is_join, whole_made, trees_made, complete, is_pathway_after, is_pathway, join_up, assemble, grown, split, rebuilt, joins_from, joins}
use Rattle.search.specs.OneTree.{index_of_one, ends_in_all, is_pathway_of_one, allowed_of_one, score_of_one, least_of_one, joins_of_one, search_of_one, answer_of_one}
use Rattle.search.specs.Answer.{entry_answer, ScoreAnswer, scored, turned_back, searched, score_answer, trail_after, table_after}

-- to unfold it is to unfold every definition
unfoldable pub compute : Unit {0}
unfolding tables star_ends star flat_map count_trailing_zeros sort pair size_of
    ceil_log2 usable_edges int_term int_bound usable_edges_bound left_out least_size
    struck inside big_components root removable mask_of keep remove child same_key recall remember key_of entry_of
    lower int_stops ask tried children branch counted visit search
    allowed_from allowed series_score series_from all_series least_of least_score
    union atoms_of is_fragment labelled ready meets is_join whole_made trees_made complete is_pathway_after is_pathway join_up assemble grown split rebuilt joins_from joins
    entry_answer searched score_answer trail_after table_after
    ends_in_all is_pathway_of_one allowed_of_one least_of_one joins_of_one search_of_one answer_of_one
compute = tt

-- ---- molecules, settings and room

-- chain 6 6 6 6 8
abbrev pub oxygen : Bytes
oxygen = set (chain 4) 6 8

-- the chain of 4 with class k at its atom 1; the classes start at byte 7
abbrev pub marked_chain : ℕ → Bytes
marked_chain k = set (chain 4) 8 k

-- a 4, n 3, bonds 0-1 1-2 2-0
abbrev pub triangle : Bytes
triangle = 4 ∷ 3 ∷ 6 ∷ 6 ∷ 6 ∷ 6 ∷ 1 ∷ 1 ∷ 1 ∷ 1 ∷ 0 ∷ 1 ∷ 1 ∷ 2 ∷ 2 ∷ 0 ∷ 1 ∷ 1 ∷ 1 ∷ []

-- the star of n bonds, all carbon
abbrev pub carbons : ℕ → Bytes
carbons n = star (times (suc n) 6) n

-- bounds 3, memo 0
abbrev pub with_budget : ℕ → Setting
with_budget k = record { bounds = 3; memo = 0; budget = k }

-- bounds 3, memo 0, ample budget
abbrev pub usual : Setting
usual = with_budget 4294967295

-- bounds 0, either memo
abbrev pub boundless : ℕ → Setting
boundless memo = record { bounds = 0; memo = memo; budget = 4294967295 }

-- words of parts, pairs and memo; trail and desk as they must be
abbrev pub lent : ℕ → ℕ → ℕ → Room
lent parts pairs memo = record { trail = 64; p = parts_room parts; pairs = pairs; memo = memo; desk = 4096 }

-- ample tables
abbrev pub ample : Room
ample = lent 1048576 1048576 1048576

-- ---- the starred rows

-- the trail of one removal, of match 0, whose fragments have two bonds
abbrev pub first : Trail
first = with_removal no_removal 0 2

-- a molecule, a setting, the room lent, and what document 01 says, with the sizes of document 02, 3/14
pub record Row : Type 0 where
  pub bytes : Bytes
  pub setting : Setting
  pub room : Room
  pub says : ScoreAnswer

abbrev pub try : Bytes → Setting → Room → ScoreAnswer → Row
try r setting room a = record { bytes = r; setting = setting; room = room; says = a }

-- the starred rows, in the order of the document
abbrev pub starred : List Row
starred =
    try (chain 1) usual ample (scored 0 0 1 no_removal) ∷
    try (chain 2) usual ample (scored 1 0 1 no_removal) ∷
    try (chain 3) usual ample (scored 2 0 1 no_removal) ∷
    try (chain 4) usual ample (scored 2 1 2 first) ∷
    try (chain 5) usual ample (scored 3 3 4 first) ∷
    try (chain 5) (boundless 0) ample (scored 3 3 4 first) ∷
    try (chain 5) (boundless 1) ample (scored 3 3 4 first) ∷
    try (carbons 4) usual ample (scored 2 3 4 first) ∷
    try oxygen usual ample (scored 3 0 1 no_removal) ∷
    try (chain 4) (with_budget 1) ample (turned_back 11 1) ∷
    try (chain 4) (with_budget 2) ample (scored 2 1 2 first) ∷
    try (chain 4) usual (lent 71 4096 0) (turned_back 9 2) ∷
    try (chain 4) usual (lent 72 4096 0) (scored 2 1 2 first) ∷
    try (chain 4) usual (lent 4096 3 0) (turned_back 10 1) ∷
    try (chain 4) usual (lent 4096 4 0) (scored 2 1 2 first) ∷
    try (chain 5) (boundless 1) (lent 4096 4096 159) (turned_back 12 2) ∷
    try (chain 5) (boundless 1) (lent 4096 4096 160) (scored 3 3 4 first) ∷
    try triangle usual ample (turned_back 6 2) ∷ []

-- every row's answer is what the document says
pub starred_rows : map (λ row. score_answer row.bytes row.setting row.room) starred ≡ map (λ row. row.says) starred
unfolding compute
starred_rows = refl

-- a class 0, and a class 13, with which no two fragments of two bonds match; rows 7 and 8; row 8 with one number of trail less, one word of desk less; budget 0; memo on with no entry, where Int stops the root and where it does not
pub other_rows :
    score_answer (marked_chain 0) usual ample
    ∷ score_answer (marked_chain 13) usual ample
    ∷ score_answer (chain 4) (record { bounds = 4; memo = 0; budget = 9 }) ample
    ∷ score_answer (chain 4) (record { bounds = 0; memo = 2; budget = 9 }) ample
    ∷ score_answer (chain 4) usual (record { trail = 63; p = parts_room 4096; pairs = 4096; memo = 0; desk = 4096 })
    ∷ score_answer (chain 4) usual (record { trail = 64; p = parts_room 4096; pairs = 4096; memo = 0; desk = 4095 })
    ∷ score_answer (chain 4) (with_budget 0) ample
    ∷ score_answer (chain 3) (record { bounds = 1; memo = 1; budget = 9 }) (lent 4096 4096 0)
    ∷ score_answer (chain 3) (record { bounds = 0; memo = 1; budget = 9 }) (lent 4096 4096 0)
    ∷ []
    ≡ turned_back 15 1 ∷ scored 3 0 1 no_removal ∷ turned_back 7 0 ∷ turned_back 7 0 ∷ turned_back 8 0 ∷ turned_back 8 0 ∷ turned_back 11 0 ∷ scored 2 0 1 no_removal ∷ turned_back 12 1 ∷ []
unfolding compute
other_rows = refl

-- document 02, 5/14: a lone atom with budget 0 and no table, under every setting; and where rows 3, 7 and 8 turn it back
pub lone_rows :
    map (λ setting. score_answer (chain 0) setting (lent 0 0 0))
    (with_budget 0 ∷ usual ∷ boundless 0 ∷ boundless 1 ∷ record { bounds = 2; memo = 1; budget = 0 } ∷ [])
    ++ (score_answer (set (chain 0) 2 0) usual ample
    ∷ score_answer (chain 0) (record { bounds = 4; memo = 0; budget = 9 }) ample
    ∷ score_answer (chain 0) usual (record { trail = 64; p = 0; pairs = 0; memo = 0; desk = 4095 })
    ∷ [])
    ≡ replicate 5 (scored 0 0 0 no_removal) ++ (turned_back 3 0 ∷ turned_back 7 0 ∷ turned_back 8 0 ∷ [])
unfolding compute
lone_rows = refl

-- ---- what is lent, afterwards

pub lent_after_score :
    trail_after (score_answer (chain 4) usual ample) (replicate 66 9) ++ table_after (score_answer (chain 4) usual ample) (5 ∷ 5 ∷ [])
    ≡ replicate 32 0 ++ (2 ∷ replicate 31 0) ++ (9 ∷ 9 ∷ 0 ∷ 0 ∷ [])
unfolding compute
lent_after_score = refl

-- the chain of 8 falls by a match of size 4 and then by one of size 2: 8 - 1 is 3 + (4 - 1) + (2 - 1)
pub eight_removals :
    trail_after (score_answer (chain 8) usual ample) (replicate 65 9)
    ≡ (0 ∷ 11 ∷ replicate 30 0) ++ (4 ∷ 2 ∷ replicate 30 0) ++ (9 ∷ [])
unfolding compute
eight_removals = refl

-- two numbers of the trail and then two words of a table
abbrev pub lent_after : ScoreAnswer → List ℕ
lent_after a = trail_after a (9 ∷ 9 ∷ []) ++ table_after a (5 ∷ 5 ∷ [])

-- rows 6, 8 and 15 leave both as they were; after 9, 10, 11 and 12 the trail is as it was, and the table zero
pub lent_after_refusals :
    map lent_after
    (score_answer triangle usual ample
    ∷ turned_back 8 0
    ∷ score_answer (marked_chain 255) usual ample
    ∷ score_answer (chain 4) usual (lent 71 4096 0)
    ∷ turned_back 10 1
    ∷ turned_back 11 1
    ∷ turned_back 12 2
    ∷ [])
    ≡ replicate 3 (9 ∷ 9 ∷ 5 ∷ 5 ∷ []) ++ replicate 4 (9 ∷ 9 ∷ 0 ∷ 0 ∷ [])
unfolding compute
lent_after_refusals = refl

-- ---- the memo: its key is a multiset, so pieces in another order are the same key

-- what a state of the chain of 5 with these pieces, index and match numbers stores; sizes are not stored
abbrev pub stores : List ℕ → ℕ → List ℕ → Entry
stores pieces index removals = entry_of (chain 5) (record { pieces = pieces; index = index; largest = 5; next = 0; trail = record { numbers = removals; sizes = [] } })

-- stored are pieces of bonds 0 and 1 and of bonds 2, 3 and 4, with index 3 and removals 1, in a memo of one entry
abbrev pub asks : List ℕ → ℕ → List ℕ → Memo
asks pieces index removals = remember 1 (stores pieces index removals) (stores (3 ∷ 28 ∷ []) 3 (1 ∷ []) ∷ [])

pub record Recalled : Type 0 where
  -- the stored index is larger, or the stored list is later: the entry is replaced
  pub larger : asks (28 ∷ 3 ∷ []) 2 (2 ∷ []) ≡ goes (stores (3 ∷ 28 ∷ []) 2 (2 ∷ []) ∷ [])
  pub later : asks (28 ∷ 3 ∷ []) 3 (0 ∷ 2 ∷ []) ≡ goes (stores (3 ∷ 28 ∷ []) 3 (0 ∷ 2 ∷ []) ∷ [])
  -- neither: the state is stopped
  pub stops : asks (28 ∷ 3 ∷ []) 3 (1 ∷ []) ≡ stopped
  -- other labels are a new key, for which there is no entry
  pub new : asks (7 ∷ []) 2 (0 ∷ []) ≡ full

pub recalled : Recalled
unfolding compute
recalled = record { larger = refl; later = refl; stops = refl; new = refl }

-- ---- demand 3: the index is the least score, the trail is an allowed series that scores it, and its joins are a pathway of that many joins

abbrev pub demand3 : Bytes → ℕ → List ℕ → Bool
demand3 r index trail =
    eqb (least_score r (pairs r)) index && allowed r (pairs r) trail && eqb (series_score r (pairs r) trail) index
    && is_pathway r (joins r (pairs r) trail) && eqb (length (joins r (pairs r) trail)) index

pub demand3_rows :
    demand3 (chain 0) 0 [] ∷ demand3 (chain 1) 0 [] ∷ demand3 (chain 3) 2 [] ∷ demand3 (chain 4) 2 (0 ∷ []) ∷ demand3 (chain 5) 3 (0 ∷ []) ∷ demand3 (carbons 4) 2 (0 ∷ []) ∷ demand3 oxygen 3 [] ∷ []
    ≡ replicate 7 true
unfolding compute
demand3_rows = refl

-- ---- series and pathways, and what their tests refuse

-- of a chain of 5 with its three matches: one removal; a number twice; a number that falls; no such match
pub series_tested :
    map (allowed (chain 5) (pairs (chain 5))) ((1 ∷ []) ∷ (0 ∷ 0 ∷ []) ∷ (2 ∷ 1 ∷ []) ∷ (3 ∷ []) ∷ [])
    ≡ true ∷ false ∷ false ∷ false ∷ []
unfolding compute
series_tested = refl

-- a join of these two sets
abbrev pub join : ℕ → ℕ → Join
join s t = record { left = s; right = t }

-- the joins of allowed series. In the chain of 4 bonds 2 and 3 are made first, and bonds 0 and 1 have their label.
-- In the chain of 7 match 6 is (96, 24) and match 8 is (96, 3), whose fragments are then in two pieces, 96 and 7: the latter is made from 3, which has the label of 96, and from bond 2
pub record SeriesJoins : Type 0 where
  pub four_allowed : allowed (chain 4) (pairs (chain 4)) (0 ∷ []) ≡ true
  pub four_score : series_score (chain 4) (pairs (chain 4)) (0 ∷ []) ≡ 2
  pub four : joins (chain 4) (pairs (chain 4)) (0 ∷ []) ≡ join 4 8 ∷ join 12 3 ∷ []
  pub four_grown : joins (chain 4) (pairs (chain 4)) [] ≡ join 1 2 ∷ join 3 4 ∷ join 7 8 ∷ []
  pub seven_allowed : allowed (chain 7) (pairs (chain 7)) (6 ∷ 8 ∷ []) ≡ true
  pub seven_score : series_score (chain 7) (pairs (chain 7)) (6 ∷ 8 ∷ []) ≡ 4
  pub seven : joins (chain 7) (pairs (chain 7)) (6 ∷ 8 ∷ []) ≡ join 32 64 ∷ join 3 4 ∷ join 96 24 ∷ join 120 7 ∷ []
  pub one : joins (chain 1) (pairs (chain 1)) [] ≡ []

pub series_joins : SeriesJoins
unfolding compute
series_joins = record { four_allowed = refl; four_score = refl; four = refl; four_grown = refl; seven_allowed = refl; seven_score = refl; seven = refl; one = refl }

-- the test of a pathway, and what fails it
pub record Tests : Type 0 where
  pub four : is_pathway (chain 4) (join 4 8 ∷ join 12 3 ∷ []) ≡ true
  pub one : is_pathway (chain 1) [] ≡ true
  pub lone : is_pathway (chain 0) [] ≡ true
  -- nothing to join in a lone atom
  pub lone_joined : is_pathway (chain 0) (join 0 0 ∷ []) ≡ false
  -- no join for two bonds; not all bonds at the end
  pub two : is_pathway (chain 2) [] ≡ false
  pub short : is_pathway (chain 3) (join 1 2 ∷ []) ≡ false
  -- two sets of two bonds that are not made; bonds 0 and 2 with no common atom; bonds 0 and 1 with bonds 1 and 2
  pub unready : is_pathway (chain 4) (join 12 3 ∷ []) ≡ false
  pub unmet : is_pathway (chain 3) (join 1 4 ∷ join 5 2 ∷ []) ≡ false
  pub overlap : is_pathway (chain 3) (join 1 2 ∷ join 3 6 ∷ []) ≡ false

pub tests : Tests
unfolding compute
tests = record { four = refl; one = refl; lone = refl; lone_joined = refl; two = refl; short = refl; unready = refl; unmet = refl; overlap = refl }

-- ---- a pathway with more joins than the index, and the series that comes out of it

-- of a chain of 5: bonds 0 and 1 are made, and then bonds 2 and 3, which have their label already
abbrev pub longer : List Join
longer = join 1 2 ∷ join 4 8 ∷ join 3 12 ∷ join 15 16 ∷ []

-- Backwards, all bonds fall into 15 and a single bond, and 15 into 3 and 12, which are the fragments of match 2: its removal is the series.
-- It saves one join, so that it scores 3 where the pathway has 4 joins; and its own joins are a pathway of 3, in which 3 is not made but has the label of 12
pub record Longer : Type 0 where
  pub pathway : is_pathway (chain 5) longer ≡ true
  pub join_count : length longer ≡ 4
  pub first : (pair (pairs (chain 5)) 2).h1 ≡ 12
  pub second : (pair (pairs (chain 5)) 2).h2 ≡ 3
  pub series : allowed (chain 5) (pairs (chain 5)) (2 ∷ []) ≡ true
  pub score : series_score (chain 5) (pairs (chain 5)) (2 ∷ []) ≡ 3
  pub least : least_score (chain 5) (pairs (chain 5)) ≡ 3
  pub shorter : joins (chain 5) (pairs (chain 5)) (2 ∷ []) ≡ join 4 8 ∷ join 12 3 ∷ join 15 16 ∷ []

pub longer_than_index : Longer
unfolding compute
longer_than_index = record { pathway = refl; join_count = refl; first = refl; second = refl; series = refl; score = refl; least = refl; shorter = refl }

-- ---- mixtures (document 02, 9/14)

-- a carbons and n single bonds with these ends, all natural
abbrev pub joined : ℕ → ℕ → List ℕ → Bytes
joined a n ends = (a ∷ n ∷ []) ++ times a 6 ++ times a 1 ++ ends ++ times n 1

-- two chains of two bonds; one beside a lone atom; two bonds apart; two lone atoms
abbrev pub two_chains : Bytes
two_chains = joined 6 4 (chain_ends 0 2 ++ chain_ends 3 2)

abbrev pub chain_and_atom : Bytes
chain_and_atom = joined 4 2 (chain_ends 0 2)

abbrev pub two_bonds : Bytes
two_bonds = joined 4 2 (chain_ends 0 1 ++ chain_ends 2 1)

abbrev pub two_atoms : Bytes
two_atoms = joined 2 0 []

-- the search without a memo
abbrev pub found : Bytes → Outcome
found r = search r (pairs r) usual 0

-- what it answers, with best and the states entered
abbrev pub finds : ℕ → ℕ → Trail → Outcome
finds index states trail = answers index trail (record { best = index; states = states; memo = [] })

pub record Mixtures : Type 0 where
  -- twins in two trees are a match, and one of the trees is made
  pub chains_pieces : root_pieces two_chains ≡ 3 ∷ 12 ∷ []
  pub chains_index : root_index two_chains ≡ 2
  pub chains_matches : pairs two_chains ≡ record { h1 = 12; h2 = 3 } ∷ []
  pub chains_score : series_score two_chains (pairs two_chains) (0 ∷ []) ≡ 1
  pub chains_demand : demand3 two_chains 1 (0 ∷ []) ≡ true
  pub chains_joins : joins two_chains (pairs two_chains) (0 ∷ []) ≡ join 4 8 ∷ []
  pub chains_grown : joins two_chains (pairs two_chains) [] ≡ join 1 2 ∷ join 4 8 ∷ []
  pub chains_unmade : is_pathway two_chains [] ≡ false
  pub chains_found : found two_chains ≡ finds 1 2 first
  -- the lone atom adds nothing
  pub beside_demand : demand3 chain_and_atom 1 [] ≡ true
  pub beside_joins : joins chain_and_atom (pairs chain_and_atom) [] ≡ join 1 2 ∷ []
  pub beside_found : found chain_and_atom ≡ finds 1 1 no_removal
  -- single bonds are no pieces of the root, but it is entered
  pub bonds_pieces : root_pieces two_bonds ≡ []
  pub bonds_demand : demand3 two_bonds 0 [] ≡ true
  pub bonds_joined : is_pathway two_bonds (join 1 2 ∷ []) ≡ false
  pub bonds_found : found two_bonds ≡ finds 0 1 no_removal
  -- without bonds no state is
  pub atoms_demand : demand3 two_atoms 0 [] ≡ true
  pub atoms_found : found two_atoms ≡ finds 0 0 no_removal

pub mixtures : Mixtures
unfolding compute
mixtures = record {
  chains_pieces = refl;
  chains_index = refl;
  chains_matches = refl;
  chains_score = refl;
  chains_demand = refl;
  chains_joins = refl;
  chains_grown = refl;
  chains_unmade = refl;
  chains_found = refl;
  beside_demand = refl;
  beside_joins = refl;
  beside_found = refl;
  bonds_pieces = refl;
  bonds_demand = refl;
  bonds_joined = refl;
  bonds_found = refl;
  atoms_demand = refl;
  atoms_found = refl;
}

-- of score's whole answer: two equal chains; a chain beside an atom; two single bonds enter one state, within the budget, which
-- needs a memo entry unless Int stops it; without bonds no state is entered and no table is asked; nine atoms are row 2
pub mixture_rows :
    score_answer two_chains usual ample
    ∷ score_answer chain_and_atom usual ample
    ∷ score_answer two_bonds usual ample
    ∷ score_answer two_bonds (with_budget 0) ample
    ∷ score_answer two_bonds (boundless 1) (lent 4096 4096 0)
    ∷ score_answer two_bonds (boundless 1) (lent 4096 4096 80)
    ∷ score_answer two_bonds (record { bounds = 1; memo = 1; budget = 9 }) (lent 4096 4096 0)
    ∷ score_answer two_atoms (with_budget 0) (lent 0 0 0)
    ∷ score_answer (joined 9 0 []) usual ample
    ∷ []
    ≡ scored 1 1 2 first ∷ scored 1 0 1 no_removal ∷ scored 0 0 1 no_removal ∷ turned_back 11 0 ∷ turned_back 12 1 ∷ scored 0 0 1 no_removal ∷ scored 0 0 1 no_removal
    ∷ scored 0 0 0 no_removal ∷ turned_back 2 0 ∷ []
unfolding compute
mixture_rows = refl

-- ---- document 01's definitions of one tree (OneTree)

pub record OneTree : Type 0 where
  pub four_allowed : allowed_of_one (chain 4) (pairs (chain 4)) (0 ∷ []) ≡ true
  pub four_score : score_of_one (chain 4) (pairs (chain 4)) (0 ∷ []) ≡ 2
  pub four_least : least_of_one (chain 4) (pairs (chain 4)) ≡ 2
  pub four_joins : joins_of_one (chain 4) (pairs (chain 4)) (0 ∷ []) ≡ join 4 8 ∷ join 12 3 ∷ []
  pub four_pathway : is_pathway_of_one (chain 4) (join 4 8 ∷ join 12 3 ∷ []) ≡ true
  pub four_answer : answer_of_one (chain 4) usual ample ≡ scored 2 1 2 first
  -- two bonds need a join; one does not, and its state is entered
  pub two_pathway : is_pathway_of_one (chain 2) [] ≡ false
  pub one_pathway : is_pathway_of_one (chain 1) [] ≡ true
  pub one_answer : answer_of_one (chain 1) usual ample ≡ scored 0 0 1 no_removal
  pub lone_answer : answer_of_one (chain 0) usual ample ≡ scored 0 0 0 no_removal
  -- a mixture's root is another, and so is what its pathways end in
  pub chains_index : index_of_one two_chains ≡ 3
  pub chains_made : is_pathway two_chains (join 4 8 ∷ []) ≡ true
  pub chains_pathway : is_pathway_of_one two_chains (join 4 8 ∷ []) ≡ false

pub one_tree : OneTree
unfolding compute
one_tree = record {
  four_allowed = refl;
  four_score = refl;
  four_least = refl;
  four_joins = refl;
  four_pathway = refl;
  four_answer = refl;
  two_pathway = refl;
  one_pathway = refl;
  one_answer = refl;
  lone_answer = refl;
  chains_index = refl;
  chains_made = refl;
  chains_pathway = refl;
}
