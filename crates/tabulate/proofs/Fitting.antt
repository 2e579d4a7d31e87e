-- How many pairs the groups of some candidates have. Assumes nothing.
use Rattle.std.proofs.Common.{◌≡◌, refl, ◌∙◌, ◌⊎◌, inl, inr, true, false, List, [], ◌∷◌, ℕ, suc, ◌+◌, ◌*◌, ◌^◌, ◌≤◌, ◌<◌, zero-add, mul-suc, suc-mul, mul-add, add-mul, mul-le-mul, arith, length, length-append}
use Rattle.bitset.specs.Bits.{is_disjoint}
use Rattle.bitset.proofs.Bools.{two}
use Rattle.molecule.specs.Lists.{Bytes, fold}
use Rattle.canonize.specs.Strings.{lex_le, same}
use Rattle.canonize.specs.Label.{label}
use Rattle.matches.specs.Table.{Group, place, groups}
use Rattle.tabulate.specs.Inner.Noded.{apart, pairs_with, disjoint_pairs, pairs_in}
use Rattle.tabulate.proofs.Noding.{apart_yes, apart_no}

apart_le : (x y : ℕ) → apart x y ≤ 1
apart_le x y = go (two (is_disjoint x y))
  where
    go : (is_disjoint x y ≡ true) ⊎ (is_disjoint x y ≡ false) → apart x y ≤ 1
    go (inl e) = omega (arith, apart_yes x y e)
    go (inr e) = omega (arith, apart_no x y e)

with_le : (x : ℕ) (l : List ℕ) → pairs_with x l ≤ length l
unfolding pairs_with
with_le x [] = omega arith
with_le x (y ∷ l) = omega (arith, apart_le x y, with_le x l)

square : (n : ℕ) → suc n * suc n ≡ n * n + n + n + 1
square n = mul-suc (suc n) n ∙ omega (arith, suc-mul n n)

pairs_half : (l : List ℕ) → disjoint_pairs l + disjoint_pairs l + length l ≤ length l * length l
unfolding disjoint_pairs
pairs_half [] = omega arith
pairs_half (x ∷ l) = omega (arith, with_le x l, pairs_half l, square (length l))

-- the members of all groups
total : List Group → ℕ
total [] = 0
total (g ∷ gs) = length g.sets + total gs

square_sum : (a b : ℕ) → a * a + b * b ≤ (a + b) * (a + b)
square_sum a b = omega (arith, add-mul a b (a + b), mul-add a a b, mul-add b a b)

all_half : (gs : List Group) → pairs_in gs + pairs_in gs ≤ total gs * total gs
unfolding pairs_in total
all_half [] = omega arith
all_half (g ∷ gs) = omega (arith, pairs_half g.sets, all_half gs, square_sum (length g.sets) (total gs))

place_total : (gs : List Group) (x : ℕ) (l : Bytes) → total (place gs x l) ≡ total gs + 1
unfolding place total
place_total [] x l = refl
place_total (g ∷ gs) x l = go (two (same l g.key)) (two (lex_le l g.key)) (place_total gs x l)
  where
    go : (same l g.key ≡ true) ⊎ (same l g.key ≡ false) → (lex_le l g.key ≡ true) ⊎ (lex_le l g.key ≡ false) → total (place gs x l) ≡ total gs + 1 → total (place (g ∷ gs) x l) ≡ total (g ∷ gs) + 1
    go (inl e) f ih = rw (e, place) (omega (arith, length-append g.sets (x ∷ [])))
    go (inr e) (inl f) ih = rw (e, f, place) (omega arith)
    go (inr e) (inr f) ih = rw (e, f, place) (omega (arith, ih))

groups_total : (r : Bytes) (found : List ℕ) (gs : List Group) → total (fold (λ gs x. place gs x (label r x)) gs found) ≡ total gs + length found
groups_total r [] gs = omega arith
groups_total r (x ∷ found) gs = omega (arith, groups_total r found (place gs x (label r x)), place_total gs x (label r x))

-- there are fewer than 2 ^ 63
pub pairs_fit : (r : Bytes) (found : List ℕ) → length found ≤ 4294967295 → pairs_in (groups r found) < 2 ^ 63
unfolding groups total
pairs_fit r found h =
    let e : total (groups r found) ≡ length found = groups_total r found [] ∙ zero-add (length found) in
    let k : total (groups r found) ≤ 4294967295 = omega arith in
    omega (arith, all_half (groups r found), mul-le-mul k k)
