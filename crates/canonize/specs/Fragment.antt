-- Document 01, 'Labels': a fragment is peeled by rounds of end atoms.
use Rattle.std.specs.Prelude.{Bool, true, false, not, ◌&&◌, List, [], ◌∷◌, ◌++◌, map, ℕ, zero, suc, length, eqb}
use Rattle.molecule.specs.Lists.{Bytes, filter}
use Rattle.canonize.specs.Strings.{collapse}

-- a bond: its two ends and its bond code
pub record Bond : Type 0 where
  pub u : ℕ
  pub v : ℕ
  pub code : ℕ

-- a fragment: its atoms, its bonds, and of each atom its own string, which says what kind of atom it is
pub record Frag : Type 0 where
  pub atoms : List ℕ
  pub bonds : List Bond
  pub kind : ℕ → Bytes

-- a bond the other way round
abbrev pub turn : Bond → Bond
turn b = record { u = b.v; v = b.u; code = b.code }

-- each bond in both directions: from u to v
abbrev pub arcs : List Bond → List Bond
arcs [] = []
arcs (b ∷ bs) = b ∷ turn b ∷ arcs bs

-- how many of the arcs lead to atom n
abbrev pub degree : List Bond → ℕ → ℕ
degree xs n = length (filter (λ (x : Bond). eqb x.v n) xs)

-- an end atom: one arc leads to it
abbrev pub end_atom : List Bond → ℕ → Bool
end_atom xs n = eqb (degree xs n) 1

-- the arcs from n to an end atom
abbrev pub to_ends : (ℕ → Bool) → ℕ → List Bond → List Bond
to_ends E n xs = filter (λ (x : Bond). eqb x.u n && E x.v) xs

-- more than two
abbrev pub more : List ℕ → Bool
more [] = false
more (a ∷ []) = false
more (a ∷ b ∷ []) = false
more (a ∷ b ∷ c ∷ r) = true

-- a peeling: the atoms present, the bonds left, and each atom's strings
pub record Peel : Type 0 where
  pub present : List ℕ
  pub left : List Bond
  pub own : ℕ → List Bytes

-- all atoms and bonds are there, and each atom starts with the one string, its own
abbrev pub start : Frag → Peel
start a = record { present = a.atoms; left = a.bonds; own = λ n. a.kind n ∷ [] }

-- a round: all present end atoms are taken off, and each hands its neighbour the bond code followed by its own collapsed strings
abbrev pub round : Peel → Peel
round z =
    let E : ℕ → Bool = end_atom (arcs z.left) in
    record {
      present = filter (λ (n : ℕ). not (E n)) z.present;
      left = filter (λ (b : Bond). not (E b.u) && not (E b.v)) z.left;
      own = λ n. map (λ (x : Bond). x.code ∷ collapse (z.own x.v)) (to_ends E n (arcs z.left)) ++ z.own n;
    }

-- while more than two atoms are left, at most k rounds
unfoldable pub peel : ℕ → Peel → Peel
peel zero z = z
peel (suc k) z = elim (more z.present) [ true ↦ peel k (round z) | false ↦ z ]

-- two left: bond code, then their collapsed strings, wrapped, smaller first
abbrev pub two_left : List Bond → Peel → Bytes
two_left [] z = []
two_left (b ∷ []) z = b.code ∷ collapse (collapse (z.own b.u) ∷ collapse (z.own b.v) ∷ [])
two_left (b ∷ c ∷ r) z = []

-- one atom left: its collapsed strings; two left: with their bond. Nothing else is left of a tree
abbrev pub finish : List ℕ → Peel → Bytes
finish [] z = []
finish (a ∷ []) z = collapse (z.own a)
finish (a ∷ b ∷ []) z = two_left z.left z
finish (a ∷ b ∷ c ∷ r) z = []

-- the label of a fragment; there are fewer rounds than atoms
unfoldable pub label_of : Frag → Bytes
label_of a = let z : Peel = peel (length a.atoms) (start a) in finish z.present z

-- those of the atoms ns that the bonds bs touch
abbrev pub touched_by : List Bond → List ℕ → List ℕ
touched_by bs ns = filter (λ (n : ℕ). not (eqb (degree (arcs bs) n) 0)) ns
