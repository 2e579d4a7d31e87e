-- Isomorphism of two sets of bonds, s of record r and t of record q: ordinary graph isomorphism that keeps element codes, classes and bond codes.
use Rattle.std.specs.Prelude.{◌≡◌, ◌⊎◌, ℕ}
use Rattle.bitset.specs.Bits.{bit}
use Rattle.molecule.specs.Lists.{Bytes}
use Rattle.molecule.specs.Record.{element, class, end_a, end_b, code}
use Rattle.molecule.specs.Tree.{Joins}

-- v is an atom of s: an end of one of its bonds
abbrev pub AtomOf : Bytes → ℕ → ℕ → Type 0
AtomOf r s v = (i : ℕ) × (bit s i ≡ 1) × ((end_a r i ≡ v) ⊎ (end_b r i ≡ v))

pub record Isomorphism (r : Bytes) (s : ℕ) (q : Bytes) (t : ℕ) : Type 0 where
  -- the map of atoms, one to one from those of s onto those of t
  pub atom : ℕ → ℕ
  pub atom_into : (v : ℕ) → AtomOf r s v → AtomOf q t (atom v)
  pub atom_onto : (w : ℕ) → AtomOf q t w → (v : ℕ) × AtomOf r s v × (atom v ≡ w)
  pub atom_one : (u v : ℕ) → AtomOf r s u → AtomOf r s v → atom u ≡ atom v → u ≡ v
  -- the map of bonds, one to one from those of s onto those of t
  pub bond : ℕ → ℕ
  pub bond_into : (i : ℕ) → bit s i ≡ 1 → bit t (bond i) ≡ 1
  pub bond_onto : (j : ℕ) → bit t j ≡ 1 → (i : ℕ) × (bit s i ≡ 1) × (bond i ≡ j)
  pub bond_one : (i j : ℕ) → bit s i ≡ 1 → bit s j ≡ 1 → bond i ≡ bond j → i ≡ j
  -- elements, classes, bond codes and ends are kept
  pub elements : (v : ℕ) → AtomOf r s v → element q (atom v) ≡ element r v
  pub classes : (v : ℕ) → AtomOf r s v → class q (atom v) ≡ class r v
  pub codes : (i : ℕ) → bit s i ≡ 1 → code q (bond i) ≡ code r i
  pub ends : (i : ℕ) → bit s i ≡ 1 → Joins q (bond i) (atom (end_a r i)) (atom (end_b r i))
