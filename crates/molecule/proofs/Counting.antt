-- The trees of a forest, counted: each bond joins two trees of the other bonds, so that a set of bonds leaves as many trees as there are atoms less bonds. Assumes nothing.
use mathlib.Core.Path.{◌≡◌, refl, sym, ap, ◌∙◌, subst}
use mathlib.Core.Logic.{◌⊎◌, inl, inr, ◌≢◌, ⊎_elim}
use mathlib.Core.Bool.{Bool, true, false, true≢false}
use Prim.Native.Nat.{ℕ, zero, suc, ◌+◌, ◌-◌, ◌^◌, ◌≤◌, ◌<◌}
use native.Mathlib.Omega.{arith}
use native.Mathlib.Decide.{ℕ_discrete, dec_lt}
use lib.Pow.{pow_pos}
use borrow.Author.Tests.{eqb-true, eq-eqb}
use Rattle.bitset.specs.Bits.{bit, has, Sub, diff, size, set_of}
use Rattle.bitset.proofs.Bools.{two}
use Rattle.bitset.proofs.Laws.{bit_empty, bit_first, bit_other, sub_anti, sub_trans, size_empty, size_first, size_remove, size_zero, member_lt}
use Rattle.bitset.proofs.Members.{sub_of, sub_in, diff_in, diff_sub, some_member, set_of_in, set_of_has}
use Rattle.molecule.specs.Lists.{Bytes, first}
use Rattle.molecule.specs.Record.{atoms, bonds, end_a, end_b, all_bonds}
use Rattle.molecule.specs.Tree.{Joins, Walk, stay, along}
use Rattle.molecule.proofs.Scans.{first_le, first_hit, first_before, first_none, first_past}
use Rattle.molecule.proofs.Walks.{joins_sym}
use Rattle.molecule.specs.Check.{reached}
use Rattle.molecule.specs.Count.{is_first, firsts, trees}
use Rattle.molecule.specs.Tree.{Formed, Forest, Trees}
use Rattle.molecule.proofs.Walks.{below_lt, out_of, walk_join, walk_sym, walk_wide, joins_same, Over, walk_over}
use Rattle.molecule.proofs.Reached.{reached_walk, walk_reached}

module _ (r : Bytes) (f : Formed r) where
  -- v is the lowest atom of its tree, among the bonds of s
  abbrev pub First : ℕ → ℕ → Type 0
  First s v = (x : ℕ) → Walk r s v x → v ≤ x

  -- the lowest atoms
  abbrev pub lowest : ℕ → ℕ
  lowest s = set_of (is_first r s) (atoms r)

  module _ (s : ℕ) (o : Sub s (all_bonds r)) where
    -- the bonds of s are the record's, and join atoms
    pub set_lt : (i : ℕ) → bit s i ≡ 1 → i < bonds r
    set_lt i m = below_lt (bonds r) i (sub_in s (all_bonds r) o i m)

    pub set_ends : (i : ℕ) → bit s i ≡ 1 → (end_a r i < atoms r) × (end_b r i < atoms r)
    set_ends i m = let w = f.ends i (set_lt i m) in (w.0, w.1)

    pub lowest_in : (v : ℕ) → bit (lowest s) v ≡ 1 → (v < atoms r) × First s v
    unfolding is_first
    lowest_in v h = (w.0, λ x p. lt_or x p (dec_lt x v))
      where
        w : (v < atoms r) × (is_first r s v ≡ true)
        w = set_of_in (is_first r s) (atoms r) v h

        lt_or : (x : ℕ) → Walk r s v x → Dec (x < v) → v ≤ x
        lt_or x p (no n) = omega arith
        lt_or x p (yes m) =
            let e : first (has (reached r s v)) v ≡ v = eqb-true (first (has (reached r s v)) v) v w.1 in
            absurd (true≢false (sym (eq-eqb (bit (reached r s v) x) 1 (walk_reached r s set_ends v x p)) ∙ first_none (has (reached r s v)) v x (omega arith) m))

    pub lowest_has : (v : ℕ) → v < atoms r → First s v → bit (lowest s) v ≡ 1
    unfolding is_first
    lowest_has v m h = set_of_has (is_first r s) (atoms r) v m
        (eq-eqb (first p v) v (omega (arith, first_le p v, first_past p v none)))
      where
        p : ℕ → Bool
        p = has (reached r s v)

        none : (i : ℕ) → i < v → p i ≡ false
        none i l = ⊎_elim (λ (e : p i ≡ true). absurd (omega (arith, h i (reached_walk r s v i (eqb-true (bit (reached r s v) i) 1 e))))) (λ (e : p i ≡ false). e) (two (p i))

    -- every atom's tree has one
    pub leader : (v : ℕ) → v < atoms r → (t : ℕ) × (bit (lowest s) t ≡ 1) × Walk r s t v
    leader v m = (t, lowest_has t (omega (arith, le)) least, walk_sym r to)
      where
        p : ℕ → Bool
        p = has (reached r s v)

        t : ℕ
        t = first p v

        le : t ≤ v
        le = first_le p v

        to : Walk r s v t
        to = go (dec_lt t v)
          where
            go : Dec (t < v) → Walk r s v t
            go (yes l) = reached_walk r s v t (eqb-true (bit (reached r s v) t) 1 (first_hit p v l))
            go (no l) = let e : v ≡ t = omega (arith, le) in subst (Walk r s v) e stay

        least : First s t
        least x q = go (dec_lt x t)
          where
            go : Dec (x < t) → t ≤ x
            go (no l) = omega arith
            go (yes l) = absurd (true≢false (sym (eq-eqb (bit (reached r s v) x) 1 (walk_reached r s set_ends v x (walk_join r to q))) ∙ first_before p v x l))

    -- two of them in one tree are one
    pub leader_one : (t u : ℕ) → bit (lowest s) t ≡ 1 → bit (lowest s) u ≡ 1 → Walk r s t u → t ≡ u
    leader_one t u ht hu p = omega (arith, (lowest_in t ht).1 u p, (lowest_in u hu).1 t (walk_sym r p))

  -- ---- a bond i of s, whose ends x and y are in different trees of the other bonds, with lowest atoms u and w, u below w: with it w is no lowest atom any more, and that is all

  module _ (s i : ℕ) (o : Sub s (all_bonds r)) (m : bit s i ≡ 1) where
    -- the other bonds
    abbrev rest : ℕ
    rest = diff s (2 ^ i)

    rest_own : Sub rest (all_bonds r)
    rest_own = sub_trans rest s (all_bonds r) (diff_sub s (2 ^ i)) o

    wide : {a b : ℕ} → Walk r rest a b → Walk r s a b
    wide p = walk_wide r s (diff_sub s (2 ^ i)) p

    last : (j : ℕ) → bit s j ≡ 1 → (j ≡ i) ⊎ (bit rest j ≡ 1)
    last j h = go (ℕ_discrete j i)
      where
        go : Dec (j ≡ i) → (j ≡ i) ⊎ (bit rest j ≡ 1)
        go (yes e) = inl e
        go (no n) = inr (diff_in s (2 ^ i) j h (bit_other i j n))

    module _ (x y u w : ℕ) (j : Joins r i x y) (hu : bit (lowest rest) u ≡ 1) (hw : bit (lowest rest) w ≡ 1) (pu : Walk r rest u x) (pw : Walk r rest w y) (less : u < w) where
      -- the tree of w has u
      down : Walk r s w u
      down = walk_join r (along i (wide pw) m (joins_sym r i x y j)) (walk_sym r (wide pu))

      fewer : (v : ℕ) → bit (lowest s) v ≡ 1 → bit (diff (lowest rest) (2 ^ w)) v ≡ 1
      fewer v h =
          let q = lowest_in s o v h in
          diff_in (lowest rest) (2 ^ w) v (lowest_has rest rest_own v q.0 (λ z p. q.1 z (wide p)))
          (bit_other w v (λ e. omega (arith, q.1 u (subst (λ (a : ℕ). Walk r s a u) (sym e) down))))

      kept : (v : ℕ) → bit (diff (lowest rest) (2 ^ w)) v ≡ 1 → bit (lowest s) v ≡ 1
      kept v h = lowest_has s o v q.0 (λ z p. ⊎_elim (q.1 z) (over z) (walk_over r rest i last p))
        where
          n : (bit (lowest rest) v ≡ 1) × (v ≢ w)
          n = out_of (lowest rest) w v h

          q : (v < atoms r) × First rest v
          q = lowest_in rest rest_own v n.0

          over : (z : ℕ) → Over r rest i v z → v ≤ z
          over z c = ⊎_elim
              (λ (e : (c.near ≡ x) × (c.far ≡ y)).
              let a : v ≡ u = leader_one rest rest_own v u n.0 hu (walk_join r (subst (Walk r rest v) e.0 c.there) (walk_sym r pu)) in
              let b : w ≤ z = (lowest_in rest rest_own w hw).1 z (walk_join r (subst (Walk r rest w) (sym e.1) pw) c.on) in
              omega arith)
              (λ (e : (c.near ≡ y) × (c.far ≡ x)).
              absurd (n.1 (leader_one rest rest_own v w n.0 hw (walk_join r (subst (Walk r rest v) e.0 c.there) (walk_sym r pw)))))
              (joins_same r i x y c.near c.far j c.joins)

      merged : size (lowest s) + 1 ≡ size (lowest rest)
      merged =
          let e : lowest s ≡ diff (lowest rest) (2 ^ w) = sub_anti (lowest s) (diff (lowest rest) (2 ^ w)) (sub_of (lowest s) (diff (lowest rest) (2 ^ w)) fewer) (sub_of (diff (lowest rest) (2 ^ w)) (lowest s) kept) in
          omega (arith, ap size e, size_remove (lowest rest) w hw)

    one_less : (Walk r rest (end_a r i) (end_b r i) → ⊥) → size (lowest s) + 1 ≡ size (lowest rest)
    one_less apart = go (leader rest rest_own (end_a r i) (set_ends s o i m).0) (leader rest rest_own (end_b r i) (set_ends s o i m).1)
      where
        go : (t : ℕ) × (bit (lowest rest) t ≡ 1) × Walk r rest t (end_a r i) → (t : ℕ) × (bit (lowest rest) t ≡ 1) × Walk r rest t (end_b r i) → size (lowest s) + 1 ≡ size (lowest rest)
        go a b = next (dec_lt a.0 b.0) (dec_lt b.0 a.0)
          where
            next : Dec (a.0 < b.0) → Dec (b.0 < a.0) → size (lowest s) + 1 ≡ size (lowest rest)
            next (yes l) d = merged (end_a r i) (end_b r i) a.0 b.0 (inl (refl, refl)) a.1 b.1 a.2 b.2 l
            next (no n) (yes l) = merged (end_b r i) (end_a r i) b.0 a.0 (inr (refl, refl)) b.1 a.1 b.2 a.2 l
            next (no n) (no l) =
                let e : a.0 ≡ b.0 = omega arith in
                absurd (apart (walk_join r (walk_sym r a.2) (subst (λ (t : ℕ). Walk r rest t (end_b r i)) (sym e) b.2)))

  -- ---- so many atoms less so many bonds

  -- without bonds every atom is a tree
  stays : {v x : ℕ} → Walk r 0 v x → v ≡ x
  stays stay = refl
  stays (along i p m j) = absurd (omega (arith, bit_empty i))

  none_own : Sub 0 (all_bonds r)
  none_own = sub_of 0 (all_bonds r) (λ i m. absurd (omega (arith, bit_empty i)))

  at_start : lowest 0 ≡ 2 ^ atoms r - 1
  at_start = sub_anti (lowest 0) (2 ^ atoms r - 1)
      (sub_of (lowest 0) (2 ^ atoms r - 1) (λ v h. bit_first (atoms r) v (lowest_in 0 none_own v h).0))
      (sub_of (2 ^ atoms r - 1) (lowest 0) (λ v h. lowest_has 0 none_own v (member_lt (atoms r) (2 ^ atoms r - 1) v (omega (arith, pow_pos (atoms r))) h) (λ x p. omega (arith, stays p))))

  module _ (splits : (i : ℕ) → i < bonds r → Walk r (diff (all_bonds r) (2 ^ i)) (end_a r i) (end_b r i) → ⊥) where
    counted_in : (k s : ℕ) → Sub s (all_bonds r) → size s ≤ k → size (lowest s) + size s ≡ atoms r
    counted_in zero s o l = let z : s ≡ 0 = size_zero s (omega arith) in rw z (omega (arith, ap size at_start, size_first (atoms r), size_empty))
    counted_in (suc k) s o l = go (ℕ_discrete s 0) (counted_in k)
      where
        go : Dec (s ≡ 0) → ((t : ℕ) → Sub t (all_bonds r) → size t ≤ k → size (lowest t) + size t ≡ atoms r) → size (lowest s) + size s ≡ atoms r
        go (yes z) ih = rw z (omega (arith, ap size at_start, size_first (atoms r), size_empty))
        go (no n) ih = next (some_member s n)
          where
            next : (i : ℕ) × (bit s i ≡ 1) → size (lowest s) + size s ≡ atoms r
            next (i, m) =
                let apart : Walk r (rest s i o m) (end_a r i) (end_b r i) → ⊥ = λ p. splits i (set_lt s o i m) (walk_wide r (diff (all_bonds r) (2 ^ i)) (sub_of (diff s (2 ^ i)) (diff (all_bonds r) (2 ^ i))
                (λ t h. let w = out_of s i t h in diff_in (all_bonds r) (2 ^ i) t (sub_in s (all_bonds r) o t w.0) (bit_other i t w.1))) p) in
                omega (arith, one_less s i o m apart, size_remove s i m, ih (diff s (2 ^ i)) (rest_own s i o m) (omega (arith, size_remove s i m)))

    -- a set of bonds leaves as many trees as there are atoms less bonds
    pub counted : (s : ℕ) → Sub s (all_bonds r) → size (lowest s) + size s ≡ atoms r
    counted s o = counted_in (size s) s o (omega arith)

-- ---- a forest

module _ (r : Bytes) (t : Forest r) where
  all_own : Sub (all_bonds r) (all_bonds r)
  all_own = sub_of (all_bonds r) (all_bonds r) (λ i m. m)

  -- the number of trees is a - n
  pub forest_trees : trees r ≡ atoms r - bonds r
  unfolding trees firsts
  forest_trees = omega (arith, counted r t.formed t.splits (all_bonds r) all_own, size_first (bonds r))

  -- the same in words
  pub forest_roots : Trees r (atoms r - bonds r)
  unfolding trees firsts
  forest_roots = record {
    roots = firsts r;
    count = forest_trees;
    atom = λ v h. (lowest_in r t.formed (all_bonds r) all_own v h).0;
    root = leader r t.formed (all_bonds r) all_own;
    lowest = λ v x h p. (lowest_in r t.formed (all_bonds r) all_own v h).1 x p;
    apart = leader_one r t.formed (all_bonds r) all_own;
  }
