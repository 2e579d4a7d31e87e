-- The list of matches: each is of twins (M1), sizes never grow along it (M2), and a match of the table stands in it. Assumes nothing.
use mathlib.Core.Path.{◌≡◌, refl, sym, ap, ◌∙◌, subst}
use mathlib.Core.Logic.{inl, inr, ⊎_elim}
use mathlib.Core.Bool.{true}
use mathlib.Core.List.Permᴰ.{symm as perm_sym}
use mathlib.Core.List.{Permᴰ as Perm}
use mathlib.Core.List.{List, [], ◌∷◌, map, Memᴰ as Mem}
use Prim.Native.Nat.{ℕ, ◌≤◌, ◌<◌}
use native.Mathlib.Omega.{arith}
use native.Mathlib.Decide.{ℕ_discrete}
use lib.ListN.{length, get_or, length-map}
use Rattle.bitset.specs.Bits.{size}
use Rattle.molecule.specs.Lists.{Bytes, sort_by}
use Rattle.molecule.specs.Record.{bonds}
use Rattle.molecule.proofs.Lists.{mem_at, at_mem, map_at, Ordered, ordered_at, sort_perm}
use Rattle.molecule.proofs.Perms.{perm_mem, perm_nil, Distinct, distinct_perm}
use Rattle.matches.specs.Table.{Table, Match, not_below, sizes, singles, match_table, Pair, pairs_of, pair, size_of, pairs}
use Rattle.matches.specs.Laws.{Twins, IsMatch}
use Rattle.matches.specs.Inner.Ranks.{Precedes}
use Rattle.matches.proofs.Noting.{Above, above_of, sort_descends}
use Rattle.matches.proofs.Pairing.{Matched, Sound}
use Rattle.matches.proofs.Sizes.{precedes_size, start, unsorted, unsorted_sane}

module _ (r : Bytes) where
  -- the nodes, and the matches sorted
  abbrev pub nodes : List ℕ
  nodes = (unsorted r).nodes

  pub sorted : List Match
  sorted = sort_by not_below (unsorted r).matches

  pub nodes_are : (match_table r).nodes ≡ nodes
  unfolding match_table
  nodes_are = refl

  pub matches_are : (match_table r).matches ≡ sorted
  unfolding match_table sorted
  matches_are = refl

  pub needs_are : (match_table r).needs ≡ (unsorted r).needs
  unfolding match_table
  needs_are = refl

  -- without bonds no size needs room, and there is no match
  module _ (lone : bonds r ≡ 0) where
    at_start : unsorted r ≡ start r
    unfolding sizes
    at_start = ap (λ (n : ℕ). sizes r n (start r) (singles r)) lone

    pub lone_needs : (match_table r).needs ≡ 0 ∷ 0 ∷ []
    lone_needs = needs_are ∙ ap (λ (t : Table). t.needs) at_start ∙ ap (λ (n : ℕ). 0 ∷ n ∷ []) lone

    pub lone_matches : (match_table r).matches ≡ []
    unfolding sorted
    lone_matches = matches_are ∙ perm_nil (perm_sym (subst (λ (l : List Match). Perm (sorted) l) (ap (λ (t : Table). t.matches) at_start) (sort_perm not_below (unsorted r).matches)))

  pub sorted_in : (m : Match) → Mem m sorted → Mem m (unsorted r).matches
  unfolding sorted
  sorted_in m k = perm_mem (sort_perm not_below (unsorted r).matches) k

  pub sorted_has : (m : Match) → Mem m (unsorted r).matches → Mem m sorted
  unfolding sorted
  sorted_has m k = perm_mem (perm_sym (sort_perm not_below (unsorted r).matches)) k

  pub sorted_sound : (m : Match) → Mem m sorted → Sound r nodes m
  sorted_sound m k = (unsorted_sane r).sound m (sorted_in m k)

  pub sorted_distinct : Distinct sorted
  unfolding sorted
  sorted_distinct = distinct_perm (perm_sym (sort_perm not_below (unsorted r).matches)) (unsorted_sane r).once

  pub sorted_descends : Ordered (λ x y. not_below x y ≡ true) sorted
  unfolding sorted
  sorted_descends = sort_descends (unsorted r).matches

  -- ---- the list of pairs

  -- the fragments of a match
  unfoldable pub name : Match → Pair
  name m = record { h1 = get_or nodes m.larger 0; h2 = get_or nodes m.smaller 0 }

  pairs_are : pairs r ≡ map name sorted
  unfolding match_table pairs_of name sorted
  pairs_are = refl

  pub none : Match
  none = record { larger = 0; smaller = 0 }

  -- match i
  unfoldable pub match : ℕ → Match
  match i = get_or sorted i none

  pub pairs_at : (i : ℕ) → i < length (pairs r) → (i < length sorted) × (pair (pairs r) i ≡ name (match i))
  unfolding pair match
  pairs_at i h =
      let l : i < length sorted = omega (arith, ap length pairs_are, length-map sorted name) in
      (l, ap (λ (z : List Pair). get_or z i (record { h1 = 0; h2 = 0 })) pairs_are ∙ map_at name none (record { h1 = 0; h2 = 0 }) sorted i l)

  pub match_sound : (i : ℕ) → i < length sorted → Sound r nodes (match i)
  unfolding match
  match_sound i h = sorted_sound (get_or sorted i none) (at_mem none sorted i h)

  -- M1
  pub m1 : (i : ℕ) → i < length (pairs r) → Twins r (pair (pairs r) i).h1 (pair (pairs r) i).h2
  unfolding name
  m1 i h = let w = pairs_at i h in subst (λ (p : Pair). Twins r p.h1 p.h2) (sym w.1) (match_sound i w.0).twins

  nodes_rise : (i j : ℕ) → i ≤ j → j < length nodes → size (get_or nodes i 0) ≤ size (get_or nodes j 0)
  nodes_rise i j l h = go (ℕ_discrete i j)
    where
      go : Dec (i ≡ j) → size (get_or (unsorted r).nodes i 0) ≤ size (get_or (unsorted r).nodes j 0)
      go (yes e) = rw e (omega arith)
      go (no n) = precedes_size r (get_or (unsorted r).nodes i 0) (get_or (unsorted r).nodes j 0) (ordered_at (Precedes r) 0 (unsorted r).nodes (unsorted_sane r).order i j (omega arith) h)

  matches_fall : (i j : ℕ) → i ≤ j → j < length sorted → (match j).larger ≤ (match i).larger
  unfolding match
  matches_fall i j l h = go (ℕ_discrete i j)
    where
      fall : Above (match i) (match j) → (match j).larger ≤ (match i).larger
      fall (inl a) = omega arith
      fall (inr a) = omega arith

      go : Dec (i ≡ j) → (match j).larger ≤ (match i).larger
      go (yes e) = rw e (omega arith)
      go (no n) = fall (above_of (match i) (match j) (ordered_at (λ x y. not_below x y ≡ true) none sorted sorted_descends i j (omega arith) h))

  -- M2
  pub m2 : (i j : ℕ) → i ≤ j → j < length (pairs r) → size_of (pairs r) j ≤ size_of (pairs r) i
  unfolding name size_of
  m2 i j l h =
      let a = pairs_at i (omega arith) in
      let b = pairs_at j h in
      let s = nodes_rise (match j).larger (match i).larger (matches_fall i j l b.0) (match_sound i a.0).fits in
      omega (arith, ap (λ (p : Pair). size p.h1) a.1, ap (λ (p : Pair). size p.h1) b.1)

  -- where a match stands
  pub stands : (x y : ℕ) → Matched (unsorted r) x y → IsMatch (pairs r) x y
  unfolding name match
  stands x y w =
      let m = mem_at none (sorted_has w.0 w.1) in
      let l : m.0 < length (pairs r) = omega (arith, ap length pairs_are, length-map sorted name, m.1) in
      let e : pair (pairs r) m.0 ≡ name w.0 = (pairs_at m.0 l).1 ∙ ap name m.2 in
      (m.0, l, ⊎_elim (λ q. inl (ap (λ (p : Pair). p.h1) e ∙ q.0, ap (λ (p : Pair). p.h2) e ∙ q.1)) (λ q. inr (ap (λ (p : Pair). p.h1) e ∙ q.0, ap (λ (p : Pair). p.h2) e ∙ q.1)) w.2.are)
