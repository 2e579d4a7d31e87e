-- A peeling by words, as the functions do it: the set L of the bonds left, and for each bond taken off the string X that it handed over.
use Rattle.std.specs.Prelude.{◌≡◌, Bool, ◌&&◌, ◌||◌, List, [], ◌∷◌, map, ℕ, ◌≤◌, length, eqb}
use Rattle.std.specs.Int.Bits.{bit_and}
use Rattle.bitset.specs.Bits.{bit, has, diff, size, members, set_of}
use Rattle.molecule.specs.Lists.{Bytes, pick}
use Rattle.molecule.specs.Record.{bonds, end_a, end_b, code}
use Rattle.molecule.specs.Touch.{bonds_at}
use Rattle.canonize.specs.Strings.{collapse}
use Rattle.canonize.specs.Label.{own_string}
use Rattle.canonize.specs.Inner.Slate.{slot, Slots}

module _ (r : Bytes) where
  -- atom v is an end atom of L: one bond of L is at it
  unfoldable pub is_tip : ℕ → ℕ → Bool
  is_tip L v = eqb (size (bit_and (bonds_at r v) L)) 1

  -- the bonds of L with an end atom, which a round takes off
  abbrev pub has_tip : ℕ → ℕ → Bool
  has_tip L i = is_tip L (end_a r i) || is_tip L (end_b r i)

  unfoldable pub outer : ℕ → ℕ
  outer L = set_of (λ i. has L i && has_tip L i) (bonds r)

  -- the end atom of such a bond, and its other end
  unfoldable pub tip : ℕ → ℕ → ℕ
  tip L i = pick (is_tip L (end_a r i)) (end_a r i) (end_b r i)

  unfoldable pub far : ℕ → ℕ → ℕ
  far L i = pick (is_tip L (end_a r i)) (end_b r i) (end_a r i)

  -- the bonds of s at atom v that are taken off
  unfoldable pub received : ℕ → ℕ → ℕ → ℕ
  received s L v = diff (bit_and (bonds_at r v) s) L

  -- the strings of a present atom: its own, and those handed to it
  unfoldable pub strings_at : ℕ → ℕ → (ℕ → Bytes) → ℕ → List Bytes
  strings_at s L X v = own_string r v ∷ map X (members (received s L v))

  -- what bond i hands over from its end v
  abbrev pub handed : ℕ → ℕ → (ℕ → Bytes) → ℕ → ℕ → Bytes
  handed s L X i v = code r i ∷ collapse (strings_at s L X v)

  -- two atoms left, the ends of bond i
  abbrev pub centres : ℕ → ℕ → (ℕ → Bytes) → ℕ → Bytes
  centres s L X i = code r i ∷ collapse (collapse (strings_at s L X (end_a r i)) ∷ collapse (strings_at s L X (end_b r i)) ∷ [])

-- the strings of the bonds of L fit: what a present end atom hands over
abbrev pub Fits : Bytes → ℕ → ℕ → (ℕ → Bytes) → Type 0
Fits r s L X = (i : ℕ) → bit (outer r L) i ≡ 1 → length (handed r s L X i (tip r L i)) ≤ 454

-- the slate after a round: each bond taken off has handed over, the slots of bonds that are not left are as they were
pub record Round (r : Bytes) (s L : ℕ) (old now : Bytes) : Type 0 where
  pub serves : Slots now
  pub before : (j : ℕ) → bit L j ≡ 0 → slot now j ≡ slot old j
  pub taken : (i : ℕ) → bit (outer r L) i ≡ 1 → slot now i ≡ handed r s L (slot old) i (tip r L i)
