-- Worked examples of the record and of rows 1 to 6 and 15, and of document 02's rounds, by computing.
use Rattle.std.specs.Prelude.{◌≡◌, refl, false, [], ◌∷◌, ◌++◌, ℕ, zero, suc, ◌^◌, set}
use Rattle.std.proofs.Common.{arith}
use Rattle.bitset.specs.Bits.{bit, diff, size_in, size, front, members_in, members_from, set_of, unions}
use Rattle.molecule.specs.Lists.{Bytes, first_from, numbers_from}
use Rattle.molecule.specs.Touch.{around, grow, reach, parts_in, parts, is_part, is_end, bonds_at, touching, component, components, connected, bonds_at_words, touching_words}
use Rattle.molecule.specs.Unmarked.{natural}
use Rattle.molecule.specs.Rounds.{grow_round, no_step, one_step, WithinSteps}
use Rattle.molecule.specs.Count.{is_first, firsts, trees}
use Rattle.molecule.specs.Check.{accepted, refused, row, row_at, bad_length, bad_counts, bad_element, bad_class, bad_code, bad_ends, across, walk, reached, closes, check}

-- to unfold it is to unfold every definition: what a theorem by computing says
unfoldable pub compute : Unit {0}
unfolding bit diff size_in size front members_in members_from set_of unions first_from numbers_from around grow reach parts_in parts is_part is_end bonds_at touching component components connected bonds_at_words touching_words row row_at bad_length bad_counts bad_element bad_class bad_code bad_ends across walk reached closes check is_first firsts trees
compute = tt

-- n times x
unfoldable pub times : ℕ → ℕ → Bytes
times zero x = []
times (suc n) x = x ∷ times n x

-- the ends of bonds i, i + 1 and so on of a chain: bond i joins atoms i and i + 1
unfoldable pub chain_ends : ℕ → ℕ → Bytes
chain_ends i zero = []
chain_ends i (suc n) = i ∷ suc i ∷ chain_ends (suc i) n

-- the chain of n single bonds between natural carbons; of none, a lone atom
unfoldable pub chain : ℕ → Bytes
chain n = (suc n ∷ n ∷ []) ++ times (suc n) 6 ++ times (suc n) 1 ++ chain_ends 0 n ++ times n 1

-- two trees of one bond each: bond 0 joins atoms 0 and 3, bond 1 joins atoms 1 and 2
unfoldable pub two : Bytes
two = 4 ∷ 2 ∷ 6 ∷ 6 ∷ 6 ∷ 6 ∷ 1 ∷ 1 ∷ 1 ∷ 1 ∷ 0 ∷ 3 ∷ 1 ∷ 2 ∷ 1 ∷ 1 ∷ []

-- check's answers: rows of the table, then mixtures, then slips in the chain of 4, whose classes start at byte 7, ends at byte 12 and codes at byte 20
pub record Checks : Type 0 where
  pub triangle : check (4 ∷ 3 ∷ 6 ∷ 6 ∷ 6 ∷ 6 ∷ 1 ∷ 1 ∷ 1 ∷ 1 ∷ 0 ∷ 1 ∷ 1 ∷ 2 ∷ 2 ∷ 0 ∷ 1 ∷ 1 ∷ 1 ∷ []) ≡ refused 6 2
  pub atomless : check (0 ∷ 0 ∷ []) ≡ refused 2 0
  pub lone : check (chain 0) ≡ accepted
  pub lone_255 : check (set (chain 0) 2 255) ≡ refused 3 0
  pub lone_class : check (set (chain 0) 3 0) ≡ refused 15 0
  pub empty : check [] ≡ refused 1 0
  pub long_chain : check (chain 16) ≡ accepted
  pub most : bad_counts (chain 64) ≡ false
  pub too_many : check (chain 65) ≡ refused 2 0
  pub eight_atoms : check ((8 ∷ 0 ∷ []) ++ times 8 6 ++ times 8 1) ≡ accepted
  pub nine_atoms : check ((9 ∷ 0 ∷ []) ++ times 9 6 ++ times 9 1) ≡ refused 2 0
  pub two_trees : check two ≡ accepted
  pub two_trees_counted : trees two ≡ 2
  pub ring_of_two : check (set (set two 12 0) 13 3) ≡ refused 6 1
  pub four : check (chain 4) ≡ accepted
  pub long : check (chain 4 ++ (0 ∷ [])) ≡ refused 1 25
  pub element : check (set (set (chain 4) 4 0) 6 255) ≡ refused 3 2
  pub element_first : check (set (set (chain 4) 6 0) 7 0) ≡ refused 3 4
  pub class : check (set (set (chain 4) 9 0) 11 255) ≡ refused 15 2
  pub class_254 : check (set (chain 4) 8 254) ≡ accepted
  pub class_first : check (set (set (chain 4) 7 255) 20 0) ≡ refused 15 0
  pub codes : check (set (set (chain 4) 21 0) 22 4) ≡ refused 4 1
  pub code_first : check (set (set (chain 4) 13 5) 23 0) ≡ refused 4 3
  pub ends : check (set (set (chain 4) 15 5) 19 5) ≡ refused 5 1
  pub loop : check (set (chain 4) 19 3) ≡ refused 5 3
  pub parallel : check (set (set (chain 4) 18 2) 19 3) ≡ refused 6 3
  pub apart : check (3 ∷ 2 ∷ 6 ∷ 6 ∷ 6 ∷ 1 ∷ 1 ∷ 1 ∷ 1 ∷ 2 ∷ 1 ∷ 2 ∷ 1 ∷ 1 ∷ []) ≡ refused 6 1

pub checks : Checks
unfolding compute times chain_ends chain two
checks = record {
  triangle = refl;
  atomless = refl;
  lone = refl;
  lone_255 = refl;
  lone_class = refl;
  empty = refl;
  long_chain = refl;
  most = refl;
  too_many = refl;
  eight_atoms = refl;
  nine_atoms = refl;
  two_trees = refl;
  two_trees_counted = refl;
  ring_of_two = refl;
  four = refl;
  long = refl;
  element = refl;
  element_first = refl;
  class = refl;
  class_254 = refl;
  class_first = refl;
  codes = refl;
  code_first = refl;
  ends = refl;
  loop = refl;
  parallel = refl;
  apart = refl;
}

-- rounds in the chain of 4: from bond 0 one bond a round; from bond 1 both of its sides together; from bond 0 in the set without bond 2,
-- where bond 3 is never reached; and steps: bond 2 is two from bond 0, and bond 0 none
pub record RoundByRound : Type 0 where
  pub start : grow (touching (chain 4)) 15 0 (2 ^ 0) ≡ 1
  pub first : grow (touching (chain 4)) 15 1 (2 ^ 0) ≡ 3
  pub second : grow (touching (chain 4)) 15 2 (2 ^ 0) ≡ 7
  pub last : grow (touching (chain 4)) 15 3 (2 ^ 0) ≡ 15
  pub together : grow_round (touching (chain 4)) 15 (2 ^ 1) ≡ 7
  pub gap : grow (touching (chain 4)) 11 3 (2 ^ 0) ≡ 3
  pub two_steps : WithinSteps (touching (chain 4)) 15 0 2 2
  pub none : WithinSteps (touching (chain 4)) 15 0 0 0

pub round_by_round : RoundByRound
unfolding compute times chain_ends chain
round_by_round = record {
  start = refl;
  first = refl;
  second = refl;
  last = refl;
  together = refl;
  gap = refl;
  two_steps = (2, omega arith, one_step {x = 1} (one_step no_step refl refl) refl refl);
  none = (0, omega arith, no_step);
}

-- a record without class bytes, and the same with a class byte 1 for each atom
pub natural_two : natural (2 ∷ 1 ∷ 6 ∷ 8 ∷ 0 ∷ 1 ∷ 2 ∷ []) ≡ 2 ∷ 1 ∷ 6 ∷ 8 ∷ 1 ∷ 1 ∷ 0 ∷ 1 ∷ 2 ∷ []
unfolding natural
natural_two = refl
