-- One removal and its undoing: the pieces after a match is removed, the joins that put the pieces of its two fragments together again, and how many they are.
-- Assumes 64 bonds or fewer, and of the two fragments h1 and h2 that they are twins (M1).
use mathlib.Core.Path.{◌≡◌, refl, sym, ap, subst, ◌∙◌}
use mathlib.Core.Logic.{inl, inr, ◌≢◌, ⊎_elim}
use mathlib.Core.List.Memᴰ.{append_cases as mem_cases}
use mathlib.Core.List.Memᴰ.{append_left as mem_left}
use mathlib.Core.List.Memᴰ.{append_right as mem_right}
use mathlib.Core.List.Memᴰ.{cases_cons as mem_cons}
use mathlib.Core.List.Memᴰ.{eq_of_singleton as mem_only}
use mathlib.Core.List.Memᴰ.{head as m_head}
use mathlib.Core.List.Memᴰ.{not-nil}
use mathlib.Core.List.{List, [], ◌∷◌, ◌++◌, flat_map, Memᴰ as Mem}
use Prim.Native.Nat.{ℕ, suc, ◌+◌, ◌^◌, ◌≤◌}
use native.Mathlib.Omega.{arith}
use lib.Bits.{bit_or, and_self}
use lib.ListN.{length, length-append}
use Rattle.bitset.specs.Bits.{Sub, Disjoint, diff, size, low}
use Rattle.bitset.proofs.Laws.{size_minus, size_one, size_empty, diff_diff}
use Rattle.bitset.proofs.Members.{diff_sub}
use Rattle.bitset.proofs.Decide.{sets, v, less, or, is, sub, apart}
use Rattle.molecule.specs.Lists.{Bytes}
use Rattle.molecule.specs.Record.{bonds}
use Rattle.molecule.specs.Touch.{components}
use Rattle.molecule.specs.Connected.{Own, Connected}
use Rattle.molecule.proofs.Components.{own_sub, own_word, components_connected, components_self}
use Rattle.matches.specs.Laws.{Twins}
use Rattle.search.specs.Pathway.{Join, assemble, grown}
use Rattle.search.specs.Inner.Joining.{Cover, Picks, now, after, Ready, Built, Pieces, Parts, Done}
use Rattle.search.proofs.Covers.{cover_mem, cover_apart, cover_append, cover_flat, cover_pick, pick_within, pick_length, pick_other, pick_flat, mem_pick, flat_mem, mem_flat, less_self, less_none, less_apart, apart_swap}
use Rattle.search.proofs.Tests.{ready_after, after_append, joins_append}
use Rattle.search.proofs.Fragments.{components_cover}
use Rattle.search.proofs.Building.{assemble_length, grown_length, built_ready, assemble_builds, grown_builds}

-- ---- sets

-- subsets of disjoint sets are disjoint
sub_apart : (a b s t : ℕ) → Disjoint a b → Sub s a → Sub t b → Disjoint s t
sub_apart a b s t = sets (apart (v 0) (v 1) ∷ sub (v 2) (v 0) ∷ sub (v 3) (v 1) ∷ []) (apart (v 2) (v 3)) (a ∷ b ∷ s ∷ t ∷ []) tt

-- likewise for one of them
apart_sub : (a b t : ℕ) → Disjoint a b → Sub t b → Disjoint a t
apart_sub a b t d h = sub_apart a b a t d (and_self a) h

-- what is apart from two sets is apart from their union
apart_or : (x s t : ℕ) → Disjoint x s → Disjoint x t → Disjoint x (bit_or s t)
apart_or x s t = sets (apart (v 0) (v 1) ∷ apart (v 0) (v 2) ∷ []) (apart (v 0) (or (v 1) (v 2))) (x ∷ s ∷ t ∷ []) tt

-- the union of two subsets is a subset
or_sub : (p s t : ℕ) → Sub s p → Sub t p → Sub (bit_or s t) p
or_sub p s t = sets (sub (v 1) (v 0) ∷ sub (v 2) (v 0) ∷ []) (sub (or (v 1) (v 2)) (v 0)) (p ∷ s ∷ t ∷ []) tt

-- of two sets that are taken away only the one that meets p counts
less_or_left : (p s t : ℕ) → Disjoint p t → diff p (bit_or s t) ≡ diff p s
less_or_left p s t = sets (apart (v 0) (v 2) ∷ []) (is (less (v 0) (or (v 1) (v 2))) (less (v 0) (v 1))) (p ∷ s ∷ t ∷ []) tt

less_or_right : (p s t : ℕ) → Disjoint p s → diff p (bit_or s t) ≡ diff p t
less_or_right p s t = sets (apart (v 0) (v 1) ∷ []) (is (less (v 0) (or (v 1) (v 2))) (less (v 0) (v 2))) (p ∷ s ∷ t ∷ []) tt

-- a subset that is apart from s is left when s is taken away
sub_other : (p s t : ℕ) → Sub t p → Disjoint s t → Sub t (diff p s)
sub_other p s t = sets (sub (v 2) (v 0) ∷ apart (v 1) (v 2) ∷ []) (sub (v 2) (less (v 0) (v 1))) (p ∷ s ∷ t ∷ []) tt

-- w less t is w less both, and s
less_both : (w s t : ℕ) → Sub (diff w (bit_or s t)) (diff w t)
less_both w s t = sets [] (sub (less (v 0) (or (v 1) (v 2))) (less (v 0) (v 2))) (w ∷ s ∷ t ∷ []) tt

less_rest : (w s t : ℕ) → Sub s w → Disjoint s t → diff (diff w t) (diff w (bit_or s t)) ≡ s
less_rest w s t = sets (sub (v 1) (v 0) ∷ apart (v 1) (v 2) ∷ []) (is (less (less (v 0) (v 2)) (less (v 0) (or (v 1) (v 2)))) (v 1)) (w ∷ s ∷ t ∷ []) tt

-- what is left has nothing of what was taken away
away : (w a : ℕ) → Disjoint (diff w a) a
away w a = less_apart w (diff w a) a (and_self (diff w a))

away_first : (w a b : ℕ) → Disjoint (diff (diff w a) b) a
away_first w a b = sets [] (apart (less (less (v 0) (v 1)) (v 2)) (v 1)) (w ∷ a ∷ b ∷ []) tt

module _ (r : Bytes) where
  -- ---- what a removal leaves

  -- of a piece, where h1 and h2 are struck
  abbrev pub left_of : ℕ → ℕ → ℕ → List ℕ
  left_of h1 h2 p = components r (diff p (bit_or h1 h2))

  -- of all pieces, with h1 as its own piece
  abbrev pub split_by : ℕ → ℕ → List ℕ → List ℕ
  split_by h1 h2 pieces = flat_map (left_of h1 h2) pieces ++ (h1 ∷ [])

  -- ---- pieces

  -- a piece is a set of the record's bonds
  pub piece_own : (w : ℕ) (pieces : List ℕ) → Pieces r w pieces → (x : ℕ) → Mem x pieces → Own r x
  piece_own w pieces h x m = own_sub r x w (cover_mem w pieces h.cover x m) h.own

  -- the other pieces are the pieces of what is left
  pick_pieces : (w x : ℕ) (l l' : List ℕ) → Pieces r w l → Picks x l l' → Pieces r (diff w x) l'
  pick_pieces w x l l' h k = record {
    own = own_sub r (diff w x) w (diff_sub w x) h.own;
    cover = (cover_pick x w k h.cover).1;
    each = λ y m. h.each y (pick_within x k y m);
  }

  module _ (few : bonds r ≤ 64) where
    -- a piece that nothing is struck from stays: a connected set is its only component
    still : (p t : ℕ) → Own r p → Connected r p → Disjoint p t → components r (diff p t) ≡ p ∷ []
    still p t o k d = ap (components r) (less_none p t d) ∙ components_self r few p o k

    -- so as many pieces are left where nothing is struck
    still_length : (t w : ℕ) (l : List ℕ) → Pieces r w l → Disjoint w t → length (flat_map (λ p. components r (diff p t)) l) ≡ length l
    unfolding flat_map
    still_length t w [] h d = refl
    still_length t w (x ∷ l) h d =
        let e : components r (diff x t) ≡ x ∷ [] = still x t (piece_own w (x ∷ l) h x (m_head refl)) (h.each x (m_head refl)) (sub_apart w t x t d h.cover.0 (and_self t)) in
        let ih : length (flat_map (λ p. components r (diff p t)) l) ≡ length l = still_length t (diff w x) l (pick_pieces w x (x ∷ l) l h now) (sub_apart w t (diff w x) t d (diff_sub w x) (and_self t)) in
        omega (arith, length-append (components r (diff x t)) (flat_map (λ p. components r (diff p t)) l), ap length e)

    -- ---- every piece grown: after it each is ready, and the joins and the pieces are as many as the bonds

    pub grown_done : (made : List ℕ) (w : ℕ) (l : List ℕ) → Pieces r w l → Done r made l (flat_map (grown r) l) × (length (flat_map (grown r) l) + length l ≡ size w)
    unfolding flat_map
    grown_done made w [] h = (record { lawful = tt; all = λ x m. absurd (not-nil m) }, sym (ap size h.cover ∙ size_empty))
    grown_done made w (x ∷ l) h =
        let o : Own r x = piece_own w (x ∷ l) h x (m_head refl) in
        let k : Connected r x = h.each x (m_head refl) in
        let some : x ≢ 0 = k.some in
        let b : Built r made (grown r x) (2 ^ low x) x = grown_builds r few made x o k in
        let a : List ℕ = after made (grown r x) in
        let js : List Join = flat_map (grown r) l in
        let ih = grown_done a (diff w x) l (pick_pieces w x (x ∷ l) l h now) in
        let ready_x : Ready r (after a js) x = ready_after r a js x (built_ready r made (grown r x) (2 ^ low x) x b (inl (size_one (low x)))) in (
          record {
            lawful = joins_append r made (grown r x) js b.lawful ih.0.lawful;
            all = λ y m. subst (λ (z : List ℕ). Ready r z y) (sym (after_append r made (grown r x) js))
                (⊎_elim (λ (e : y ≡ x). subst (Ready r (after a js)) (sym e) ready_x) (λ (n : Mem y l). ih.0.all y n) (mem_cons m));
          },
          omega (arith, length-append (grown r x) js, ih.1, grown_length r x (omega arith) (own_word r few x o), size_minus w x h.cover.0),
        )

    -- ---- one removal

    module _ (h1 h2 : ℕ) (T : Twins r h1 h2) where
      -- the pieces after it are those of w less h2
      pub split_pieces : (w : ℕ) (pieces : List ℕ) → Pieces r w pieces → Sub h1 w → Pieces r (diff w h2) (split_by h1 h2 pieces)
      split_pieces w pieces h i = record {
        own = own_sub r (diff w h2) w (diff_sub w h2) h.own;
        cover = cover_append (diff w h2) (diff w t) left (h1 ∷ []) (less_both w h1 h2)
            (cover_flat t (left_of h1 h2) w pieces h.cover (λ x m. components_cover r few (diff x t) (left_own x m)))
            (subst (λ (k : ℕ). Cover k (h1 ∷ [])) (sym (less_rest w h1 h2 i T.apart)) (and_self h1, less_self h1));
        each = λ x m. ⊎_elim
            (λ (n : Mem x left). let u = mem_flat (left_of h1 h2) x pieces n in (components_connected r few (diff u.0 t) (left_own u.0 u.1) x u.2).0)
            (λ (n : Mem x (h1 ∷ [])). subst (Connected r) (sym (mem_only n)) T.one)
            (mem_cases left m);
      }
        where
          t : ℕ
          t = bit_or h1 h2

          left : List ℕ
          left = flat_map (left_of h1 h2) pieces

          left_own : (x : ℕ) → Mem x pieces → Own r (diff x t)
          left_own x m = own_sub r (diff x t) x (diff_sub x t) (piece_own w pieces h x m)

      -- where the pieces after it are ready, those before it can be put together
      module _ (w : ℕ) (pieces made : List ℕ) (h : Pieces r w pieces) (rdy : (x : ℕ) → Mem x (split_by h1 h2 pieces) → Ready r made x) where
        -- h1 is one of them
        ready1 : Ready r made h1
        ready1 = rdy h1 (mem_right (flat_map (left_of h1 h2) pieces) (m_head refl))

        -- the label of h1 is that of h2
        ready2 : Ready r made h2
        ready2 = go ready1
          where
            go : Ready r made h1 → Ready r made h2
            go (inl e) = inl (sym T.same_size ∙ e)
            go (inr u) = inr (u.0, u.1, u.2 ∙ T.labels)

        -- what is left of a piece: the record's bonds, connected and ready parts, which cover it
        left_own : (p : ℕ) → Mem p pieces → Own r (diff p (bit_or h1 h2))
        left_own p m = own_sub r (diff p (bit_or h1 h2)) p (diff_sub p (bit_or h1 h2)) (piece_own w pieces h p m)

        left_parts : (p : ℕ) → Mem p pieces → Parts r made (left_of h1 h2 p)
        left_parts p m x n = ((components_connected r few (diff p (bit_or h1 h2)) (left_own p m) x n).0, rdy x (mem_left (h1 ∷ []) (flat_mem (left_of h1 h2) p x pieces m n)))

        left_cover : (p : ℕ) → Mem p pieces → Cover (diff p (bit_or h1 h2)) (left_of h1 h2 p)
        left_cover p m = components_cover r few (diff p (bit_or h1 h2)) (left_own p m)

        -- a piece that has nothing of h1 and h2 is ready
        untouched : (x : ℕ) → Mem x pieces → Disjoint x (bit_or h1 h2) → Ready r made x
        untouched x m d = rdy x (mem_left (h1 ∷ []) (flat_mem (left_of h1 h2) x x pieces m
            (subst (Mem x) (sym (still x (bit_or h1 h2) (piece_own w pieces h x m) (h.each x m) d)) (m_head refl))))

        -- both in one piece: its parts are h1, h2 and what is left
        pub one_built : (p : ℕ) → Mem p pieces → Sub h1 p → Sub h2 p → Built r made (assemble r h1 (h2 ∷ left_of h1 h2 p)) h1 p
        one_built p m s1 s2 =
            assemble_builds r h1 (h2 ∷ left_of h1 h2 p) made p (piece_own w pieces h p m) (h.each p m) s1 T.one ready1
            (sub_other p h1 h2 s2 T.apart, subst (λ (k : ℕ). Cover k (left_of h1 h2 p)) (sym (diff_diff p h1 h2)) (left_cover p m))
            (λ x n. ⊎_elim (λ (e : x ≡ h2). subst (λ (k : ℕ). Connected r k × Ready r made k) (sym e) (T.other, ready2)) (λ (k : Mem x (left_of h1 h2 p)). left_parts p m x k) (mem_cons n))

        -- so every piece is ready: that one is made, and the others are as they were
        pub one_done : (p : ℕ) → Mem p pieces → Sub h1 p → Sub h2 p → Done r made pieces (assemble r h1 (h2 ∷ left_of h1 h2 p))
        one_done p m s1 s2 =
            let js : List Join = assemble r h1 (h2 ∷ left_of h1 h2 p) in
            let b : Built r made js h1 p = one_built p m s1 s2 in
            record {
              lawful = b.lawful;
              all = λ x n. ⊎_elim
                  (λ (e : x ≡ p). subst (Ready r (after made js)) (sym e) (built_ready r made js h1 p b ready1))
                  (λ (d : Disjoint x p). ready_after r made js x (untouched x n (apart_sub x p (bit_or h1 h2) d (or_sub p h1 h2 s1 s2))))
                  (cover_apart w pieces h.cover x p n m);
            }

        -- each in its own piece: the parts of the one are h1 and what is left, then those of the other h2 and what is left
        pub two_done : (p1 p2 : ℕ) → Mem p1 pieces → Mem p2 pieces → Disjoint p1 p2 → Sub h1 p1 → Sub h2 p2
            → Done r made pieces (assemble r h1 (components r (diff p1 h1)) ++ assemble r h2 (components r (diff p2 h2)))
        two_done p1 p2 m1 m2 d s1 s2 =
            let e1 : diff p1 (bit_or h1 h2) ≡ diff p1 h1 = less_or_left p1 h1 h2 (apart_sub p1 p2 h2 d s2) in
            let e2 : diff p2 (bit_or h1 h2) ≡ diff p2 h2 = less_or_right p2 h1 h2 (apart_sub p2 p1 h1 (apart_swap p1 p2 d) s1) in
            let js : List Join = assemble r h1 (components r (diff p1 h1)) in
            let ks : List Join = assemble r h2 (components r (diff p2 h2)) in
            let a : List ℕ = after made js in
            let b1 : Built r made js h1 p1 =
            assemble_builds r h1 (components r (diff p1 h1)) made p1 (piece_own w pieces h p1 m1) (h.each p1 m1) s1 T.one ready1
            (subst (λ (k : ℕ). Cover k (components r k)) e1 (left_cover p1 m1)) (subst (λ (k : ℕ). Parts r made (components r k)) e1 (left_parts p1 m1)) in
            let g2 : Parts r made (components r (diff p2 h2)) = subst (λ (k : ℕ). Parts r made (components r k)) e2 (left_parts p2 m2) in
            let ready2' : Ready r a h2 = ready_after r made js h2 ready2 in
            let b2 : Built r a ks h2 p2 =
            assemble_builds r h2 (components r (diff p2 h2)) a p2 (piece_own w pieces h p2 m2) (h.each p2 m2) s2 T.other ready2'
            (subst (λ (k : ℕ). Cover k (components r k)) e2 (left_cover p2 m2)) (λ x n. ((g2 x n).0, ready_after r made js x (g2 x n).1)) in
            record {
              lawful = joins_append r made js ks b1.lawful b2.lawful;
              all = λ x n. subst (λ (k : List ℕ). Ready r k x) (sym (after_append r made js ks)) (⊎_elim
                  (λ (e : x ≡ p1). subst (Ready r (after a ks)) (sym e) (ready_after r a ks p1 (built_ready r made js h1 p1 b1 ready1)))
                  (λ (d1 : Disjoint x p1). ⊎_elim
                  (λ (e : x ≡ p2). subst (Ready r (after a ks)) (sym e) (built_ready r a ks h2 p2 b2 ready2'))
                  (λ (d2 : Disjoint x p2). ready_after r a ks x (ready_after r made js x (untouched x n (apart_or x h1 h2 (apart_sub x p1 h1 d1 s1) (apart_sub x p2 h2 d2 s2)))))
                  (cover_apart w pieces h.cover x p2 n m2))
                  (cover_apart w pieces h.cover x p1 n m1));
            }

      -- ---- how many: the joins of one removal and the pieces before it are one more than the pieces after it

      pub one_count : (w : ℕ) (pieces : List ℕ) → Pieces r w pieces → (p : ℕ) → Mem p pieces → Sub h1 p → Sub h2 p
          → length (assemble r h1 (h2 ∷ left_of h1 h2 p)) + length pieces ≡ suc (length (split_by h1 h2 pieces))
      one_count w pieces h p m s1 s2 =
          let k = mem_pick p m in
          let e : length (flat_map (left_of h1 h2) k.0) ≡ length k.0 =
          still_length (bit_or h1 h2) (diff w p) k.0 (pick_pieces w p pieces k.0 h k.1) (apart_sub (diff w p) p (bit_or h1 h2) (away w p) (or_sub p h1 h2 s1 s2)) in
          omega (arith, assemble_length r h1 (h2 ∷ left_of h1 h2 p), length-append (flat_map (left_of h1 h2) pieces) (h1 ∷ []), pick_flat (left_of h1 h2) p k.1, pick_length p k.1)

      pub two_count : (w : ℕ) (pieces : List ℕ) → Pieces r w pieces → (p1 p2 : ℕ) → Mem p1 pieces → Mem p2 pieces → p2 ≢ p1 → Disjoint p1 p2 → Sub h1 p1 → Sub h2 p2
          → length (assemble r h1 (components r (diff p1 h1)) ++ assemble r h2 (components r (diff p2 h2))) + length pieces ≡ suc (length (split_by h1 h2 pieces))
      two_count w pieces h p1 p2 m1 m2 ne d s1 s2 =
          let e1 : diff p1 (bit_or h1 h2) ≡ diff p1 h1 = less_or_left p1 h1 h2 (apart_sub p1 p2 h2 d s2) in
          let e2 : diff p2 (bit_or h1 h2) ≡ diff p2 h2 = less_or_right p2 h1 h2 (apart_sub p2 p1 h1 (apart_swap p1 p2 d) s1) in
          let k = mem_pick p1 m1 in
          let n2 : Mem p2 k.0 = ⊎_elim (λ (e : p2 ≡ p1). absurd (ne e)) (λ (n : Mem p2 k.0). n) (pick_other p1 p2 k.1 m2) in
          let k' = mem_pick p2 n2 in
          let u : ℕ = diff (diff w p1) p2 in
          let out : Disjoint u (bit_or h1 h2) = apart_or u h1 h2 (apart_sub u p1 h1 (away_first w p1 p2) s1) (apart_sub u p2 h2 (away (diff w p1) p2) s2) in
          let e : length (flat_map (left_of h1 h2) k'.0) ≡ length k'.0 =
          still_length (bit_or h1 h2) u k'.0 (pick_pieces (diff w p1) p2 k.0 k'.0 (pick_pieces w p1 pieces k.0 h k.1) k'.1) out in
          omega (
            arith,
            length-append (assemble r h1 (components r (diff p1 h1))) (assemble r h2 (components r (diff p2 h2))),
            assemble_length r h1 (components r (diff p1 h1)),
            assemble_length r h2 (components r (diff p2 h2)),
            ap (λ (a : ℕ). length (components r a)) e1,
            ap (λ (a : ℕ). length (components r a)) e2,
            length-append (flat_map (left_of h1 h2) pieces) (h1 ∷ []),
            pick_flat (left_of h1 h2) p1 k.1,
            pick_length p1 k.1,
            pick_flat (left_of h1 h2) p2 k'.1,
            pick_length p2 k'.1,
          )
