-- Worked match tables and rows 9 and 10, by computing.
use Rattle.std.specs.Prelude.{◌≡◌, refl, [], ◌∷◌, ◌++◌, map, ℕ, zero, suc, length, set}
use Rattle.molecule.specs.Lists.{Bytes, insert_by, sort_by}
use Rattle.molecule.specs.Check.{accepted, refused}
use Rattle.molecule.specs.Examples.{compute as molecules, times, chain_ends, chain}
use Rattle.canonize.specs.Strings.{same}
use Rattle.canonize.specs.Examples.{compute as labels}
use Rattle.matches.specs.Table.{Pair, note, number_of, meet, pair_up, place, not_below, extended, candidates, groups, extend, sizes, singles, match_table, pairs_of, pairs}
use Rattle.matches.specs.Rows.{parts_room, pairs_room, overflows, too_many, table_answer}

-- to unfold it is to unfold every definition
unfoldable pub compute : Unit {0}
unfolding molecules labels times chain_ends chain insert_by sort_by same note number_of meet pair_up place not_below extended candidates groups extend sizes singles match_table pairs_of overflows too_many table_answer
compute = tt

-- the ends of bonds i, i + 1 and so on of a star: bond i joins atoms 0 and i + 1
unfoldable pub star_ends : ℕ → ℕ → Bytes
star_ends i zero = []
star_ends i (suc n) = 0 ∷ suc i ∷ star_ends (suc i) n

-- the star of n single bonds, between atoms of these elements
unfoldable pub star : Bytes → ℕ → Bytes
star elements n = (suc n ∷ n ∷ []) ++ elements ++ times (suc n) 1 ++ star_ends 0 n ++ times n 1

-- a match of these two fragments
abbrev pub both : ℕ → ℕ → Pair
both x y = record { h1 = x; h2 = y }

-- tables: a member becomes a node when first matched, so that in the chain of 5 the nodes are, after the bonds, 3, 12, 24 and 6; an oxygen at the end leaves no match.
-- Matches go by the larger node and then by the smaller: in the chain of 7, where of size 2 the nodes are 3, 12, 24, 48, 96 and 6, match (96, 3) comes before (48, 12)
pub record Tables : Type 0 where
  pub chain_4 : pairs (chain 4) ≡ both 12 3 ∷ []
  pub chain_5_nodes : (match_table (chain 5)).nodes ≡ 1 ∷ 2 ∷ 4 ∷ 8 ∷ 16 ∷ 3 ∷ 12 ∷ 24 ∷ 6 ∷ []
  pub chain_5 : pairs (chain 5) ≡ both 6 24 ∷ both 24 3 ∷ both 12 3 ∷ []
  pub chain_7 :
      pairs (chain 7)
      ≡ both 14 112 ∷ both 112 7 ∷ both 56 7
      ∷ both 6 96 ∷ both 6 48 ∷ both 6 24 ∷ both 96 24 ∷ both 96 12 ∷ both 96 3 ∷ both 48 12 ∷ both 48 3 ∷ both 24 3 ∷ both 12 3 ∷ []
  pub star_4 : pairs (star (times 5 6) 4) ≡ both 6 9 ∷ both 10 5 ∷ both 12 3 ∷ []
  pub oxygen : pairs (set (chain 4) 6 8) ≡ []

pub tables : Tables
unfolding compute star_ends star
tables = record { chain_4 = refl; chain_5_nodes = refl; chain_5 = refl; chain_7 = refl; star_4 = refl; oxygen = refl }

-- how many matches some small molecules of the public list have
pub counts :
    map (λ r. length (match_table r).matches)
    ((7 ∷ 6 ∷ 6 ∷ 6 ∷ 6 ∷ 8 ∷ 6 ∷ 8 ∷ 8 ∷ 1 ∷ 1 ∷ 1 ∷ 1 ∷ 1 ∷ 1 ∷ 1 ∷ 4 ∷ 1 ∷ 5 ∷ 1 ∷ 0 ∷ 4 ∷ 6 ∷ 5 ∷ 2 ∷ 4 ∷ 3 ∷ 2 ∷ 1 ∷ 1 ∷ 1 ∷ 1 ∷ 1 ∷ 1 ∷ [])
    ∷ (7 ∷ 6 ∷ 6 ∷ 6 ∷ 6 ∷ 6 ∷ 6 ∷ 6 ∷ 6 ∷ 1 ∷ 1 ∷ 1 ∷ 1 ∷ 1 ∷ 1 ∷ 1 ∷ 6 ∷ 2 ∷ 3 ∷ 4 ∷ 2 ∷ 1 ∷ 6 ∷ 5 ∷ 3 ∷ 2 ∷ 5 ∷ 0 ∷ 1 ∷ 1 ∷ 1 ∷ 1 ∷ 1 ∷ 1 ∷ [])
    ∷ (8 ∷ 7 ∷ 6 ∷ 6 ∷ 6 ∷ 6 ∷ 6 ∷ 6 ∷ 6 ∷ 6 ∷ 1 ∷ 1 ∷ 1 ∷ 1 ∷ 1 ∷ 1 ∷ 1 ∷ 1 ∷ 3 ∷ 2 ∷ 0 ∷ 4 ∷ 7 ∷ 2 ∷ 1 ∷ 7 ∷ 2 ∷ 4 ∷ 5 ∷ 6 ∷ 6 ∷ 7 ∷ 1 ∷ 1 ∷ 1 ∷ 1 ∷ 1 ∷ 1 ∷ 1 ∷ [])
    ∷ (10 ∷ 9 ∷ 6 ∷ 6 ∷ 6 ∷ 6 ∷ 6 ∷ 6 ∷ 6 ∷ 6 ∷ 6 ∷ 6 ∷ 1 ∷ 1 ∷ 1 ∷ 1 ∷ 1 ∷ 1 ∷ 1 ∷ 1 ∷ 1 ∷ 1 ∷ 4 ∷ 0 ∷ 9 ∷ 2 ∷ 8 ∷ 7 ∷ 1 ∷ 5 ∷ 3 ∷ 9 ∷ 6 ∷ 1 ∷ 1 ∷ 2 ∷ 3 ∷ 4 ∷ 4 ∷ 7 ∷ 1 ∷ 1 ∷ 2 ∷ 1 ∷ 1 ∷ 1 ∷ 2 ∷ 2 ∷ 1 ∷ [])
    ∷ (10 ∷ 9 ∷ 6 ∷ 6 ∷ 6 ∷ 6 ∷ 6 ∷ 6 ∷ 6 ∷ 6 ∷ 6 ∷ 6 ∷ 1 ∷ 1 ∷ 1 ∷ 1 ∷ 1 ∷ 1 ∷ 1 ∷ 1 ∷ 1 ∷ 1 ∷ 7 ∷ 8 ∷ 9 ∷ 0 ∷ 4 ∷ 5 ∷ 1 ∷ 3 ∷ 4 ∷ 8 ∷ 7 ∷ 6 ∷ 4 ∷ 2 ∷ 9 ∷ 2 ∷ 5 ∷ 3 ∷ 1 ∷ 1 ∷ 1 ∷ 1 ∷ 1 ∷ 1 ∷ 1 ∷ 1 ∷ 1 ∷ [])
    ∷ (9 ∷ 8 ∷ 6 ∷ 6 ∷ 6 ∷ 6 ∷ 6 ∷ 6 ∷ 6 ∷ 6 ∷ 6 ∷ 1 ∷ 1 ∷ 1 ∷ 1 ∷ 1 ∷ 1 ∷ 1 ∷ 1 ∷ 1 ∷ 6 ∷ 4 ∷ 4 ∷ 8 ∷ 1 ∷ 8 ∷ 5 ∷ 8 ∷ 8 ∷ 3 ∷ 8 ∷ 0 ∷ 4 ∷ 7 ∷ 8 ∷ 2 ∷ 1 ∷ 1 ∷ 1 ∷ 2 ∷ 1 ∷ 1 ∷ 1 ∷ 1 ∷ [])
    ∷ (7 ∷ 6 ∷ 8 ∷ 8 ∷ 8 ∷ 8 ∷ 8 ∷ 8 ∷ 8 ∷ 1 ∷ 1 ∷ 1 ∷ 1 ∷ 1 ∷ 1 ∷ 1 ∷ 5 ∷ 6 ∷ 4 ∷ 5 ∷ 2 ∷ 5 ∷ 5 ∷ 1 ∷ 3 ∷ 5 ∷ 5 ∷ 0 ∷ 2 ∷ 2 ∷ 2 ∷ 2 ∷ 2 ∷ 2 ∷ [])
    ∷ (10 ∷ 9 ∷ 6 ∷ 6 ∷ 6 ∷ 6 ∷ 6 ∷ 6 ∷ 6 ∷ 6 ∷ 6 ∷ 6 ∷ 1 ∷ 1 ∷ 1 ∷ 1 ∷ 1 ∷ 1 ∷ 1 ∷ 1 ∷ 1 ∷ 1 ∷ 3 ∷ 2 ∷ 1 ∷ 3 ∷ 3 ∷ 9 ∷ 3 ∷ 7 ∷ 2 ∷ 8 ∷ 0 ∷ 3 ∷ 3 ∷ 4 ∷ 3 ∷ 6 ∷ 3 ∷ 5 ∷ 1 ∷ 3 ∷ 3 ∷ 2 ∷ 2 ∷ 1 ∷ 1 ∷ 1 ∷ 2 ∷ [])
    ∷ [])
    ≡ 1 ∷ 8 ∷ 17 ∷ 25 ∷ 33 ∷ 41 ∷ 55 ∷ 83 ∷ []
unfolding compute
counts = refl

-- P and the pairs capacity: rounded down, and at most 4,294,967,295
pub rooms : parts_room 71 ∷ parts_room 72 ∷ parts_room 51539607552 ∷ pairs_room 7 ∷ pairs_room 8 ∷ pairs_room 17179869184 ∷ [] ≡ 5 ∷ 6 ∷ 4294967295 ∷ 1 ∷ 2 ∷ 4294967295 ∷ []
rooms = refl

-- rows 9 and 10: the words of parts, then those of pairs
pub record Rows : Type 0 where
  pub parts_71 : table_answer (match_table (chain 4)) (parts_room 71) 4096 ≡ refused 9 2
  pub parts_72 : table_answer (match_table (chain 4)) (parts_room 72) 4096 ≡ accepted
  pub pairs_3 : table_answer (match_table (chain 4)) (parts_room 4096) 3 ≡ refused 10 1
  pub pairs_4 : table_answer (match_table (chain 4)) (parts_room 4096) 4 ≡ accepted
  pub bonds_47 : table_answer (match_table (chain 4)) (parts_room 47) 4096 ≡ refused 9 1
  pub unlike_71 : table_answer (match_table (star (6 ∷ 1 ∷ 2 ∷ 3 ∷ 7 ∷ []) 4)) (parts_room 71) 4096 ≡ refused 9 2
  pub unlike_72 : table_answer (match_table (star (6 ∷ 1 ∷ 2 ∷ 3 ∷ 7 ∷ []) 4)) (parts_room 72) 4096 ≡ accepted
  pub star_252 : table_answer (match_table (star (times 7 6) 6)) (parts_room 252) 0 ≡ refused 9 3
  pub star_492 : table_answer (match_table (star (times 7 6) 6)) (parts_room 492) 0 ≡ refused 10 55

pub rows : Rows
unfolding compute star_ends star
rows = record {
  parts_71 = refl;
  parts_72 = refl;
  pairs_3 = refl;
  pairs_4 = refl;
  bonds_47 = refl;
  unlike_71 = refl;
  unlike_72 = refl;
  star_252 = refl;
  star_492 = refl;
}
