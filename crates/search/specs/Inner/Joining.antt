-- What the theory of pathways speaks of, as statements: sets put together from parts, the pieces of a state, and joins that come one after another.
use Rattle.std.specs.Prelude.{◌≡◌, true, ◌⊎◌, ℕ}
use mathlib.Core.List.{List, [], ◌∷◌, Memᴰ as Mem}
use Rattle.bitset.specs.Bits.{Sub, Disjoint, diff, size}
use Rattle.molecule.specs.Lists.{Bytes}
use Rattle.molecule.specs.Connected.{Own, Connected}
use Rattle.canonize.specs.Label.{label}
use Rattle.search.specs.Pathway.{Join, union, meets}

-- ---- sets and lists of sets

-- p is the disjoint union of the sets of a list
abbrev pub Cover : ℕ → List ℕ → Type 0
Cover p [] = p ≡ 0
Cover p (x ∷ l) = Sub x p × Cover (diff p x) l

-- x taken out of a list, once, leaves the second list
pub data Picks (x : ℕ) : List ℕ → List ℕ → Type 0 where
  now : {l : List ℕ} → Picks x (x ∷ l) l
  later : {y : ℕ} {l l' : List ℕ} → Picks x l l' → Picks x (y ∷ l) (y ∷ l')

-- every element of the first list is one of the second
abbrev pub MembersIn : List ℕ → List ℕ → Type 0
MembersIn l l' = (x : ℕ) → Mem x l → Mem x l'

-- ---- joins, one after another

-- the unions made once the joins are done too, newest first
abbrev pub after : List ℕ → List Join → List ℕ
after made [] = made
after made (j ∷ js) = after (union j ∷ made) js

module _ (r : Bytes) where
  -- a set of the list has the label of s
  abbrev pub HasLabel : List ℕ → ℕ → Type 0
  HasLabel made s = (u : ℕ) × Mem u made × (label r u ≡ label r s)

  -- `ready` in words: a single bond, or a set with the label of a union that is made
  abbrev pub Ready : List ℕ → ℕ → Type 0
  Ready made s = (size s ≡ 1) ⊎ HasLabel made s

  -- `is_join` in words: two disjoint fragments with a common atom, each ready
  pub record JoinAfter (made : List ℕ) (j : Join) : Type 0 where
    pub left_own : Own r j.left
    pub right_own : Own r j.right
    pub left_connected : Connected r j.left
    pub right_connected : Connected r j.right
    pub apart : Disjoint j.left j.right
    pub meet : meets r j.left j.right ≡ true
    pub left_ready : Ready made j.left
    pub right_ready : Ready made j.right

  -- each is a join after those before it
  abbrev pub JoinsAfter : List ℕ → List Join → Type 0
  JoinsAfter made [] = Unit {0}
  JoinsAfter made (j ∷ js) = JoinAfter made j × JoinsAfter (union j ∷ made) js

  -- u is what a join makes after those whose unions are made
  pub record MadeBy (made : List ℕ) (u : ℕ) : Type 0 where
    pub join : Join
    pub lawful : JoinAfter made join
    pub is : union join ≡ u

  -- every set of the list is made by a join out of single bonds and labels of the list
  abbrev pub Made : List ℕ → Type 0
  Made l = (u : ℕ) → Mem u l → MadeBy l u

  -- the last union is p
  abbrev pub EndsWith : List ℕ → List Join → ℕ → Type 0
  EndsWith made js p = (rest : List ℕ) × (after made js ≡ p ∷ rest)

  -- the joins put p together from s on: the last union is p, or there is none to do and s is p
  pub record Built (made : List ℕ) (js : List Join) (s p : ℕ) : Type 0 where
    pub lawful : JoinsAfter made js
    pub ends : ((after made js ≡ made) × (s ≡ p)) ⊎ EndsWith made js p

  -- ---- pieces

  -- the pieces of w: it is their disjoint union, and each is connected; single bonds are pieces too
  pub record Pieces (w : ℕ) (pieces : List ℕ) : Type 0 where
    pub own : Own r w
    pub cover : Cover w pieces
    pub each : (x : ℕ) → Mem x pieces → Connected r x

  -- each part is connected and ready
  abbrev pub Parts : List ℕ → List ℕ → Type 0
  Parts made parts = (x : ℕ) → Mem x parts → Connected r x × Ready made x

  -- the joins are lawful, and after them every piece is ready
  pub record Done (made pieces : List ℕ) (js : List Join) : Type 0 where
    pub lawful : JoinsAfter made js
    pub all : (x : ℕ) → Mem x pieces → Ready (after made js) x
