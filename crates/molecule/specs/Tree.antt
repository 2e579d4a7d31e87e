-- What rows 1 to 6 and 15 say of a record, and what an accepted one is: a forest of 1 to 8 trees (document 02, 9/14).
use Rattle.std.specs.Prelude.{◌≡◌, ◌⊎◌, ◌≢◌, ℕ, ◌+◌, ◌*◌, ◌^◌, ◌≤◌, ◌<◌, length}
use Rattle.bitset.specs.Bits.{bit, diff, size}
use Rattle.molecule.specs.Lists.{Bytes}
use Rattle.molecule.specs.Record.{atoms, bonds, element, class, end_a, end_b, code, all_bonds}

-- the bytes are there, and the counts are right (rows 1 and 2)
pub record RightCounts (r : Bytes) : Type 0 where
  pub long : length r ≡ 2 + 2 * atoms r + 3 * bonds r
  pub few : bonds r ≤ 64
  pub more : bonds r < atoms r
  pub most : atoms r ≤ bonds r + 8

-- every bond has two ends among the atoms (row 5)
pub record Formed (r : Bytes) : Type 0 where
  pub sized : RightCounts r
  pub ends : (i : ℕ) → i < bonds r → (end_a r i < atoms r) × (end_b r i < atoms r) × (end_a r i ≢ end_b r i)

-- bond i joins atoms u and v
abbrev pub Joins : Bytes → ℕ → ℕ → ℕ → Type 0
Joins r i u v = ((end_a r i ≡ u) × (end_b r i ≡ v)) ⊎ ((end_a r i ≡ v) × (end_b r i ≡ u))

-- from atom u to atom v along bonds of s
pub data Walk (r : Bytes) (s u : ℕ) : ℕ → Type 0 where
  stay : Walk r s u u
  along : {v w : ℕ} (i : ℕ) → Walk r s u v → bit s i ≡ 1 → Joins r i v w → Walk r s u w

-- codes in range, no two bonds join the same pair, and without any one bond its ends are apart: no ring
pub record Forest (r : Bytes) : Type 0 where
  pub formed : Formed r
  pub elements : (v : ℕ) → v < atoms r → (element r v ≢ 0) × (element r v ≢ 255)
  pub classes : (v : ℕ) → v < atoms r → (class r v ≢ 0) × (class r v ≢ 255)
  pub codes : (i : ℕ) → i < bonds r → (1 ≤ code r i) × (code r i ≤ 3)
  pub one : (i j u v : ℕ) → i < bonds r → j < bonds r → Joins r i u v → Joins r j u v → i ≡ j
  pub splits : (i : ℕ) → i < bonds r → Walk r (diff (all_bonds r) (2 ^ i)) (end_a r i) (end_b r i) → ⊥

-- k trees: a set of k atoms, one in each tree, its lowest; a walk joins every atom to one of them, and none joins two of them
pub record Trees (r : Bytes) (k : ℕ) : Type 0 where
  pub roots : ℕ
  pub count : size roots ≡ k
  pub atom : (t : ℕ) → bit roots t ≡ 1 → t < atoms r
  pub root : (v : ℕ) → v < atoms r → (t : ℕ) × (bit roots t ≡ 1) × Walk r (all_bonds r) t v
  pub lowest : (t v : ℕ) → bit roots t ≡ 1 → Walk r (all_bonds r) t v → t ≤ v
  pub apart : (t u : ℕ) → bit roots t ≡ 1 → bit roots u ≡ 1 → Walk r (all_bonds r) t u → t ≡ u

-- one tree: n + 1 atoms, all reached from atom 0
pub record OneTree (r : Bytes) : Type 0 where
  pub forest : Forest r
  pub count : atoms r ≡ bonds r + 1
  pub all : (v : ℕ) → v < atoms r → Walk r (all_bonds r) 0 v
