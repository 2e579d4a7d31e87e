-- The joins of an allowed series are a pathway, with exactly as many joins as the series scores (demand 3). Upper crates cite the last section, which assumes only that the record is accepted.
-- The sections before it assume 64 bonds or fewer, and of the matches that their fragments are twins (M1).
use mathlib.Core.Path.{◌≡◌, refl, sym, ap, subst, ◌∙◌}
use mathlib.Core.Bool.{true, false, ◌&&◌}
use mathlib.Core.Logic.{◌⊎◌, inl, inr, ◌≢◌, ⊎_elim}
use mathlib.Core.List.Memᴰ.{append_cases as mem_cases}
use mathlib.Core.List.Memᴰ.{append_left as mem_left}
use mathlib.Core.List.Memᴰ.{append_right as mem_right}
use mathlib.Core.List.Memᴰ.{eq_of_singleton as mem_only}
use mathlib.Core.List.{List, [], ◌∷◌, ◌++◌, flat_map, Memᴰ as Mem}
use Prim.Native.Nat.{ℕ, suc, ◌+◌, ◌-◌, ◌^◌, ◌≤◌, ◌<◌}
use native.Mathlib.Omega.{arith}
use lib.Bits.{bit_and}
use lib.Dec.{eqb, ltb, leb}
use lib.Pow.{pow_pos}
use lib.ListN.{length, length-append}
use borrow.Author.Tests.{eqb-true, eqb-false, eq-eqb, ltb-true, le-leb}
use Rattle.bitset.specs.Bits.{Sub, Disjoint, is_sub, diff, size, low}
use Rattle.bitset.proofs.Bools.{two, and_true}
use Rattle.bitset.proofs.Laws.{size_minus, size_one, size_first, sub_trans}
use Rattle.bitset.proofs.Decide.{sets, v, none, is, sub, apart}
use Rattle.molecule.specs.Lists.{Bytes}
use Rattle.molecule.specs.Record.{bonds, all_bonds, atoms}
use Rattle.molecule.specs.Check.{accepted, check}
use Rattle.molecule.specs.Touch.{components}
use Rattle.molecule.specs.Connected.{Own}
use Rattle.molecule.specs.Examples.{chain}
use Rattle.molecule.proofs.Lists.{any_some}
use Rattle.molecule.proofs.Components.{own_all, components_connected}
use Rattle.molecule.proofs.Perms.{keep_mem}
use Rattle.bounds.specs.Numbers.{sum_of}
use Rattle.matches.specs.Table.{Pair, pair, size_of, pairs}
use Rattle.matches.specs.Laws.{Twins}
use Rattle.matches.proofs.Laws.{table_laws, size_of_first}
use Rattle.search.specs.State.{struck, inside, big_components, remove, bond_trees, root_pieces}
use Rattle.search.specs.Series.{allowed_from, allowed, series_score, IsLeastScore}
use Rattle.search.specs.Pathway.{Join, find, assemble, grown, split, rebuilt, joins_from, joins, is_pathway, HasPathway, whole_made, complete}
use Rattle.search.specs.Inner.Joining.{MembersIn, after, Ready, EndsWith, Built, Pieces, Done, HasLabel}
use Rattle.search.specs.Examples.{compute}
use Rattle.search.proofs.Covers.{cover_mem, cover_apart, flat_mem, mem_flat}
use Rattle.search.proofs.Tests.{any_has, any_find, after_append, joins_append, ends_append, joins_test, complete_one, complete_more, trees_test}
use Rattle.search.proofs.Building.{grown_builds}
use Rattle.search.proofs.Rebuilding.{grown_done, split_pieces, one_built, one_done, two_done, one_count, two_count}
use native.Mathlib.Decide.{dec_le, ℕ_discrete}
use Rattle.std.proofs.lemmas.List.{nil_from_length}
use Rattle.search.proofs.Parts.{few}
use Rattle.search.proofs.Fragments.{components_cover}
use Rattle.search.proofs.Root.{root_is, root_count, root_index_most, one_trees, one_piece}
use mathlib.Core.List.Memᴰ.{head as m_head}

-- the piece that a fragment is in
abbrev piece_of : List ℕ → ℕ → ℕ
piece_of pieces h = find (is_sub h) 0 pieces

-- a fragment is in a piece
abbrev Located : List ℕ → ℕ → Type 0
Located pieces h = Mem (piece_of pieces h) pieces × Sub h (piece_of pieces h)

-- what is inside some of the pieces is located in all of them
located : (big pieces : List ℕ) (h : ℕ) → MembersIn big pieces → inside big h ≡ true → Located pieces h
unfolding inside
located big pieces h w e =
    let u = any_some (is_sub h) big e in
    let f = any_find (is_sub h) 0 pieces (any_has (is_sub h) pieces (w u.0 u.1) u.2) in
    (f.0, eqb-true (bit_and h (piece_of pieces h)) h f.1)

module _ (r : Bytes) (ms : List Pair) where
  -- ---- the definitions, step by step

  -- the state's pieces, of two or more bonds, are among those with single bonds kept: so they stay when a match is removed
  remove_within : (big pieces : List ℕ) (m : ℕ) → MembersIn big pieces → MembersIn (remove r ms big m) (split r ms pieces m)
  unfolding remove split big_components
  remove_within big pieces m w x n = go (mem_cases (flat_map (λ p. big_components r (diff p (struck ms m))) big) n)
    where
      go : Mem x (flat_map (λ p. big_components r (diff p (struck ms m))) big) ⊎ Mem x ((pair ms m).h1 ∷ []) → Mem x (split r ms pieces m)
      go (inl a) =
          let u = mem_flat (λ p. big_components r (diff p (struck ms m))) x big a in
          let i : Mem x (components r (diff u.0 (struck ms m))) = (keep_mem (λ c. leb 2 (size c)) (components r (diff u.0 (struck ms m))) u.2).0 in
          mem_left ((pair ms m).h1 ∷ []) (flat_mem (λ p. components r (diff p (struck ms m))) u.0 x pieces (w u.0 u.1) i)
      go (inr b) = mem_right (flat_map (λ p. components r (diff p (struck ms m))) pieces) b

  -- both fragments in one piece
  rebuilt_one : (pieces : List ℕ) (m : ℕ) → eqb (piece_of pieces (pair ms m).h1) (piece_of pieces (pair ms m).h2) ≡ true
      → rebuilt r ms pieces m ≡ assemble r (pair ms m).h1 ((pair ms m).h2 ∷ components r (diff (piece_of pieces (pair ms m).h1) (struck ms m)))
  unfolding rebuilt
  rebuilt_one pieces m e = rw (e, rebuilt)

  -- each in its own
  rebuilt_two : (pieces : List ℕ) (m : ℕ) → eqb (piece_of pieces (pair ms m).h1) (piece_of pieces (pair ms m).h2) ≡ false
      → rebuilt r ms pieces m ≡ assemble r (pair ms m).h1 (components r (diff (piece_of pieces (pair ms m).h1) (pair ms m).h1)) ++ assemble r (pair ms m).h2 (components r (diff (piece_of pieces (pair ms m).h2) (pair ms m).h2))
  unfolding rebuilt
  rebuilt_two pieces m e = rw (e, rebuilt)

  -- what an allowed series says of its first removal
  record First (m : ℕ) (big τ : List ℕ) : Type 0 where
    known : m < length ms
    in1 : inside big (pair ms m).h1 ≡ true
    in2 : inside big (pair ms m).h2 ≡ true
    further : allowed_from r ms (suc m) (remove r ms big m) τ ≡ true

  -- from the test
  allowed_first : (next m : ℕ) (big τ : List ℕ) → allowed_from r ms next big (m ∷ τ) ≡ true → First m big τ
  unfolding allowed_from
  allowed_first next m big τ e =
      let a = and_true (leb next m && ltb m (length ms) && inside big (pair ms m).h1 && inside big (pair ms m).h2) (allowed_from r ms (suc m) (remove r ms big m) τ) e in
      let b = and_true (leb next m && ltb m (length ms) && inside big (pair ms m).h1) (inside big (pair ms m).h2) a.0 in
      let c = and_true (leb next m && ltb m (length ms)) (inside big (pair ms m).h1) b.0 in
      let d = and_true (leb next m) (ltb m (length ms)) c.0 in
      record { known = ltb-true m (length ms) d.1; in1 = c.1; in2 = b.1; further = a.1 }

  module _ (few : bonds r ≤ 64) (twins : (m : ℕ) → m < length ms → Twins r (pair ms m).h1 (pair ms m).h2) where
    -- ---- a series of removals

    -- the joins that undo a removal are lawful and leave every piece ready; with the pieces before it they are one more than the pieces after it
    rebuilt_done : (w : ℕ) (pieces made : List ℕ) (m : ℕ) → m < length ms → Pieces r w pieces → ((x : ℕ) → Mem x (split r ms pieces m) → Ready r made x)
        → Located pieces (pair ms m).h1 → Located pieces (pair ms m).h2
        → Done r made pieces (rebuilt r ms pieces m) × (length (rebuilt r ms pieces m) + length pieces ≡ suc (length (split r ms pieces m)))
    unfolding split struck
    rebuilt_done w pieces made m l h rdy f1 f2 = go (two (eqb p1 p2))
      where
        h1 : ℕ
        h1 = (pair ms m).h1

        h2 : ℕ
        h2 = (pair ms m).h2

        p1 : ℕ
        p1 = piece_of pieces h1

        p2 : ℕ
        p2 = piece_of pieces h2

        Goal : List Join → Type 0
        Goal js = Done r made pieces js × (length js + length pieces ≡ suc (length (split r ms pieces m)))

        go : (eqb p1 p2 ≡ true) ⊎ (eqb p1 p2 ≡ false) → Goal (rebuilt r ms pieces m)
        go (inl e) =
            let s2 : Sub h2 p1 = subst (Sub h2) (sym (eqb-true p1 p2 e)) f2.1 in
            subst Goal (sym (rebuilt_one pieces m e))
            (one_done r few h1 h2 (twins m l) w pieces made h rdy p1 f1.0 f1.1 s2, one_count r few h1 h2 (twins m l) w pieces h p1 f1.0 f1.1 s2)
        go (inr e) =
            let ne : p1 ≢ p2 = eqb-false p1 p2 e in
            let d : Disjoint p1 p2 = ⊎_elim (λ (q : p1 ≡ p2). absurd (ne q)) (λ (q : Disjoint p1 p2). q) (cover_apart w pieces h.cover p1 p2 f1.0 f2.0) in
            subst Goal (sym (rebuilt_two pieces m e)) (
              two_done r few h1 h2 (twins m l) w pieces made h rdy p1 p2 f1.0 f2.0 d f1.1 f2.1,
              two_count r few h1 h2 (twins m l) w pieces h p1 p2 f1.0 f2.0 (λ q. ne (sym q)) d f1.1 f2.1,
            )

    -- after the joins of a series every piece is ready; they, what the series saves, and the pieces are together as many as the bonds.
    -- By induction on the series. No removal left: every piece is grown. A removal of size k first: the joins of the rest leave the pieces after it ready, and h2 too, since its label is h1's;
    -- the joins that undo it are one more than the pieces that it adds, and the pieces after it have k bonds less, those of h2: with the k − 1 that it saves the count is the same
    series_done : (τ : List ℕ) (next : ℕ) (big pieces made : List ℕ) (w : ℕ) → Pieces r w pieces → MembersIn big pieces → allowed_from r ms next big τ ≡ true
        → Done r made pieces (joins_from r ms pieces τ) × (length (joins_from r ms pieces τ) + sum_of (λ m. size_of ms m - 1) τ + length pieces ≡ size w)
    unfolding joins_from
    series_done [] next big pieces made w h i e = let g = grown_done r few made w pieces h in (g.0, omega (arith, g.1))
    series_done (m ∷ τ) next big pieces made w h i e =
        let h1 : ℕ = (pair ms m).h1 in
        let h2 : ℕ = (pair ms m).h2 in
        let a : First m big τ = allowed_first next m big τ e in
        let t : Twins r h1 h2 = twins m a.known in
        let f1 : Located pieces h1 = located big pieces h1 i a.in1 in
        let f2 : Located pieces h2 = located big pieces h2 i a.in2 in
        let s1 : Sub h1 w = sub_trans h1 (piece_of pieces h1) w f1.1 (cover_mem w pieces h.cover (piece_of pieces h1) f1.0) in
        let s2 : Sub h2 w = sub_trans h2 (piece_of pieces h2) w f2.1 (cover_mem w pieces h.cover (piece_of pieces h2) f2.0) in
        let h' : Pieces r (diff w h2) (split r ms pieces m) = unfold split struck in (split_pieces r few h1 h2 t w pieces h s1) in
        let ih = series_done τ (suc m) (remove r ms big m) (split r ms pieces m) made (diff w h2) h' (remove_within big pieces m i) a.further in
        let js : List Join = joins_from r ms (split r ms pieces m) τ in
        let ks : List Join = rebuilt r ms pieces m in
        let d = rebuilt_done w pieces (after made js) m a.known h ih.0.all f1 f2 in
        let z : size h1 ≡ size_of ms m = size_of_first ms m in (
          record {
            lawful = joins_append r made js ks ih.0.lawful d.0.lawful;
            all = λ x n. subst (λ (k : List ℕ). Ready r k x) (sym (after_append r made js ks)) (d.0.all x n);
          },
          omega (arith, z, t.same_size, t.big, length-append js ks, ih.1, d.1, size_minus w h2 s2),
        )

-- ---- demand 3: a record that check accepts, its own matches, an allowed series

module _ (r : Bytes) (ok : check r ≡ accepted) where
  abbrev ms : List Pair
  ms = pairs r

  twins : (m : ℕ) → m < length ms → Twins r (pair ms m).h1 (pair ms m).h2
  twins = (table_laws r ok).twins

  own : Own r (all_bonds r)
  own = omega (arith, pow_pos (bonds r))

  -- ---- from the root

  -- the trees that have bonds are the pieces, single bonds too
  tree_pieces : Pieces r (all_bonds r) (bond_trees r)
  tree_pieces = record {
    own = own;
    cover = components_cover r (few r ok) (all_bonds r) own;
    each = λ x m. (components_connected r (few r ok) (all_bonds r) own x m).0;
  }

  root_trees : MembersIn (root_pieces r) (bond_trees r)
  unfolding big_components
  root_trees x i = (keep_mem (λ c. leb 2 (size c)) (bond_trees r) i).0

  -- the series from the root on
  root_done : (τ : List ℕ) → allowed r ms τ ≡ true
      → Done r [] (bond_trees r) (joins r ms τ) × (length (joins r ms τ) + sum_of (λ m. size_of ms m - 1) τ + length (bond_trees r) ≡ bonds r)
  unfolding joins allowed
  root_done τ e =
      let d = series_done r ms (few r ok) twins τ 0 (root_pieces r) (bond_trees r) [] (all_bonds r) tree_pieces root_trees e in
      (d.0, d.1 ∙ size_first (bonds r))

  -- they are exactly as many as the series scores: to grow a piece takes one join less than it has bonds, and a match of k bonds is made once for twice, which saves k − 1
  pub series_length : (τ : List ℕ) → allowed r (pairs r) τ ≡ true → length (joins r (pairs r) τ) ≡ series_score r (pairs r) τ
  unfolding series_score
  series_length τ e = omega (arith, (root_done τ e).1, root_count r ok)

  -- after them every tree of two or more bonds has the label of a union
  trees_labelled : (τ : List ℕ) → allowed r ms τ ≡ true → (x : ℕ) → Mem x (root_pieces r) → HasLabel r (after [] (joins r ms τ)) x
  trees_labelled τ e x i = go ((root_done τ e).0.all x (root_trees x i))
    where
      go : Ready r (after [] (joins r ms τ)) x → HasLabel r (after [] (joins r ms τ)) x
      go (inl q) = absurd (omega (arith, (root_is r ok x i).2))
      go (inr w) = w

  -- ---- one tree

  -- where the start is not all bonds, the last union is
  ends_all : (made : List ℕ) (js : List Join) (s : ℕ) → Built r made js s (all_bonds r) → s ≢ all_bonds r → EndsWith r made js (all_bonds r)
  ends_all made js s b ne = ⊎_elim (λ (e : (after made js ≡ made) × (s ≡ all_bonds r)). absurd (ne e.1)) (λ (w : EndsWith r made js (all_bonds r)). w) b.ends

  -- h1 is not all bonds, since h2 lies outside it
  not_all : (h1 h2 : ℕ) → Twins r h1 h2 → h1 ≢ all_bonds r
  not_all h1 h2 t e =
      let d : Disjoint (all_bonds r) h2 = subst (λ (k : ℕ). Disjoint k h2) e t.apart in
      t.other.some (sets (apart (v 0) (v 1) ∷ sub (v 1) (v 0) ∷ []) (is (v 1) none) (all_bonds r ∷ h2 ∷ []) tt d (own_all r h2 t.other_own))

  -- from all bonds as one piece, the last union is all bonds where there are two or more: the growing does not start with all of them, and neither does the undoing of the first removal
  one_ends : Pieces r (all_bonds r) (all_bonds r ∷ []) → 2 ≤ bonds r → (τ : List ℕ) → allowed_from r ms 0 (all_bonds r ∷ []) τ ≡ true → EndsWith r [] (joins_from r ms (all_bonds r ∷ []) τ) (all_bonds r)
  unfolding joins_from flat_map split struck
  one_ends one n [] e =
      let a : ℕ = all_bonds r in
      ends_append r [] (grown r a) [] a (ends_all [] (grown r a) (2 ^ low a) (grown_builds r (few r ok) [] a own (one.each a (m_head refl)))
      (λ q. let z : size (2 ^ low a) ≡ size a = ap size q in absurd (omega (arith, z, size_one (low a), size_first (bonds r)))))
  one_ends one n (m ∷ τ) e =
      let h1 : ℕ = (pair ms m).h1 in
      let h2 : ℕ = (pair ms m).h2 in
      let big : List ℕ = all_bonds r ∷ [] in
      let a : First r ms m big τ = allowed_first r ms 0 m big τ e in
      let t : Twins r h1 h2 = twins m a.known in
      let f1 : Located big h1 = located big big h1 (λ x k. k) a.in1 in
      let f2 : Located big h2 = located big big h2 (λ x k. k) a.in2 in
      let e1 : piece_of big h1 ≡ all_bonds r = mem_only f1.0 in
      let e2 : piece_of big h2 ≡ all_bonds r = mem_only f2.0 in
      let js : List Join = joins_from r ms (split r ms big m) τ in
      let ks : List Join = rebuilt r ms big m in
      let h' : Pieces r (diff (all_bonds r) h2) (split r ms big m) = split_pieces r (few r ok) h1 h2 t (all_bonds r) big one (own_all r h1 t.one_own) in
      let ih = series_done r ms (few r ok) twins τ (suc m) (remove r ms big m) (split r ms big m) [] (diff (all_bonds r) h2) h' (remove_within r ms big big m (λ x k. k)) a.further in
      let s2 : Sub h2 (piece_of big h1) = subst (Sub h2) (e2 ∙ sym e1) f2.1 in
      let b : Built r (after [] js) ks h1 (piece_of big h1) =
      subst (λ (k : List Join). Built r (after [] js) k h1 (piece_of big h1)) (sym (rebuilt_one r ms big m (eq-eqb (piece_of big h1) (piece_of big h2) (e1 ∙ sym e2))))
      (one_built r (few r ok) h1 h2 t (all_bonds r) big (after [] js) one ih.0.all (piece_of big h1) f1.0 f1.1 s2) in
      ends_append r [] js ks (all_bonds r) (ends_all (after [] js) ks h1 (subst (Built r (after [] js) ks h1) e1 b) (not_all h1 h2 t))

  -- the whole is made: up to one bond there is no join, and of more the last union is all bonds
  one_whole : atoms r ≡ bonds r + 1 → (τ : List ℕ) → allowed r ms τ ≡ true → whole_made r (after [] (joins r ms τ)) ≡ true
  unfolding joins allowed whole_made
  one_whole one τ e = go (dec_le 2 (bonds r))
    where
      go : Dec (2 ≤ bonds r) → whole_made r (after [] (joins r ms τ)) ≡ true
      go (yes n) =
          let t : bond_trees r ≡ all_bonds r ∷ [] = one_trees r ok one (omega arith) in
          let w : EndsWith r [] (joins_from r ms (bond_trees r) τ) (all_bonds r) = rw t (one_ends (rw t at tree_pieces) n τ (rw (one_piece r ok one n) at e)) in
          rw w.1 (eq-eqb (all_bonds r) (all_bonds r) refl)
      go (no n) = rw (nil_from_length (joins r ms τ) (omega (arith, (root_done τ e).1, root_count r ok, root_index_most r ok))) (le-leb (bonds r) 1 (omega arith))

  -- ---- so the joins of an allowed series are a pathway.
  -- Pieces that are ready are put together into those of the state before, from the last state back to the root: each part is a single bond, or made, or has h1's label;
  -- some part always meets what is there, since a piece is connected; and the trees are
  pub series_pathway : (τ : List ℕ) → allowed r (pairs r) τ ≡ true → is_pathway r (joins r (pairs r) τ) ≡ true
  unfolding is_pathway
  series_pathway τ e = joins_test r (few r ok) [] (joins r ms τ) (root_done τ e).0.lawful (go (ℕ_discrete (atoms r) (bonds r + 1)))
    where
      made : List ℕ
      made = after [] (joins r ms τ)

      go : Dec (atoms r ≡ bonds r + 1) → complete r made ≡ true
      go (yes one) = complete_one r made one ∙ one_whole one τ e
      go (no more) = complete_more r made more ∙ trees_test r made (trees_labelled τ e)

  -- so a pathway with exactly that many joins ends in the molecule
  pub series_has : (τ : List ℕ) → allowed r (pairs r) τ ≡ true → HasPathway r (series_score r (pairs r) τ)
  series_has τ e = record { path = joins r (pairs r) τ; is_one = series_pathway τ e; join_count = series_length τ e }

  -- and one with as many as the least score
  pub least_has : (k : ℕ) → IsLeastScore r (pairs r) k → HasPathway r k
  least_has k h = subst (HasPathway r) h.scores (series_has h.series h.is_allowed)

-- ---- worked: the chain of 4 with match 0 has a pathway of 2 joins, the chain of 7 with matches 6 and 8 one of 4

four_has : HasPathway (chain 4) 2
unfolding compute
four_has = series_has (chain 4) refl (0 ∷ []) refl

seven_has : HasPathway (chain 7) 4
unfolding compute
seven_has = series_has (chain 7) refl (6 ∷ 8 ∷ []) refl
