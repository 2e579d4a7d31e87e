-- A record with a class byte 1 put in for each atom has the fields of the record without them. Assumes nothing.
use mathlib.Core.Path.{◌≡◌, ap, ◌∙◌}
use mathlib.Core.List.{◌++◌}
use Prim.Native.Nat.{ℕ, ◌+◌, ◌*◌, ◌<◌}
use native.Mathlib.Omega.{arith}
use lib.ListN.{length, get_or, take, drop, replicate, length-append, length-replicate, length-drop, get_or-append}
use lib.Seq.{length-take-le, get_or-take, get_or-drop, get_or-append-add}
use Rattle.std.proofs.lemmas.List.{get_or-replicate}
use Rattle.molecule.specs.Lists.{Bytes}
use Rattle.molecule.specs.Record.{atoms, bonds, element, class, end_a, end_b, code}
use Rattle.molecule.specs.Unmarked.{HasUnmarkedLength, unmarked_end_a, unmarked_end_b, unmarked_code, natural}

module _ (q : Bytes) (right : HasUnmarkedLength q) where
  -- the three parts: up to the element codes, the class bytes, and what comes after them
  abbrev front : Bytes
  front = take (2 + atoms q) q

  abbrev ones : Bytes
  ones = replicate (atoms q) 1

  abbrev rest : Bytes
  rest = drop (2 + atoms q) q

  front_length : length front ≡ 2 + atoms q
  front_length = length-take-le (2 + atoms q) q (omega (arith, right))

  ones_length : length ones ≡ atoms q
  ones_length = length-replicate {A = ℕ} (atoms q) 1

  -- a byte of the first part stays
  stays : (i : ℕ) → i < 2 + atoms q → get_or (natural q) i 0 ≡ get_or q i 0
  unfolding natural
  stays i h = get_or-append front (ones ++ rest) 0 i (omega (arith, front_length)) ∙ get_or-take (2 + atoms q) q i 0 h

  -- byte i of what comes after the class bytes
  moves : (i j : ℕ) → j ≡ 2 + atoms q + (atoms q + i) → get_or (natural q) j 0 ≡ get_or q (2 + atoms q + i) 0
  unfolding natural
  moves i j e =
      let at : j ≡ length front + (length ones + i) = omega (arith, front_length, ones_length) in
      ap (λ (n : ℕ). get_or (front ++ (ones ++ rest)) n 0) at
      ∙ get_or-append-add front (ones ++ rest) (length ones + i) 0
      ∙ get_or-append-add ones rest i 0
      ∙ get_or-drop (2 + atoms q) q i 0

  pub natural_atoms : atoms (natural q) ≡ atoms q
  natural_atoms = stays 0 (omega arith)

  pub natural_bonds : bonds (natural q) ≡ bonds q
  natural_bonds = stays 1 (omega arith)

  pub natural_element : (v : ℕ) → v < atoms q → element (natural q) v ≡ element q v
  natural_element v h = stays (2 + v) (omega arith)

  pub natural_class : (v : ℕ) → v < atoms q → class (natural q) v ≡ 1
  unfolding natural
  natural_class v h =
      let at : 2 + atoms (natural q) + v ≡ length front + v = omega (arith, front_length, natural_atoms) in
      ap (λ (n : ℕ). get_or (front ++ (ones ++ rest)) n 0) at
      ∙ get_or-append-add front (ones ++ rest) v 0
      ∙ get_or-append ones rest 0 v (omega (arith, ones_length))
      ∙ get_or-replicate (atoms q) v 1 0 h

  pub natural_end_a : (i : ℕ) → end_a (natural q) i ≡ unmarked_end_a q i
  natural_end_a i = moves (2 * i) (2 + 2 * atoms (natural q) + 2 * i) (omega (arith, natural_atoms))

  pub natural_end_b : (i : ℕ) → end_b (natural q) i ≡ unmarked_end_b q i
  natural_end_b i = moves (1 + 2 * i) (3 + 2 * atoms (natural q) + 2 * i) (omega (arith, natural_atoms)) ∙ ap (λ (n : ℕ). get_or q n 0) (omega arith)

  pub natural_code : (i : ℕ) → code (natural q) i ≡ unmarked_code q i
  natural_code i =
      moves (2 * bonds q + i) (2 + 2 * atoms (natural q) + 2 * bonds (natural q) + i) (omega (arith, natural_atoms, natural_bonds))
      ∙ ap (λ (n : ℕ). get_or q n 0) (omega arith)

  -- and its length is right
  pub natural_length : length (natural q) ≡ 2 + 2 * atoms (natural q) + 3 * bonds (natural q)
  unfolding natural
  natural_length =
      length-append front (ones ++ rest)
      ∙ omega (arith, front_length, ones_length, right, natural_atoms, natural_bonds, length-append ones rest, length-drop (2 + atoms q) q)
