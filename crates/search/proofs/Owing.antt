-- The induction behind `fewest`. Of an accepted record.
--
-- Let the sets of L be made by joins out of each other, let Q be disjoint fragments of two bonds or more, each inside a piece of P and with the label of a set
-- of L, and let the matches of the sets of L be numbered k or more (`Owes`). The claim (`owing`): some series allowed from P, with numbers from k on, saves all
-- but `length L` of the joins that the fragments of Q take one bond at a time.
--
-- By induction on the length of L. Where Q is empty, so is the series. Else let q be the last of Q by size and then label, D the fragments of Q that come
-- strictly before it, and c, cs the others, which are akin to q, by falling numbers of their nodes.
-- 1. Every one of cs is a twin of c. The matches of c with them are removed in turn; c and the fragments of D stay inside pieces (Striking).
-- 2. Some set of L has c's label and is the union of a join. An isomorphism carries the sides of the join to two halves of c, disjoint fragments (`halves_of`).
--    The halves of two bonds or more take the place of c.
-- 3. Of L only the sets that come strictly before q are kept. They are fewer, since some set of L is akin to q; they are made out of each other, since the
--    sides of a join are smaller than its union; they have the labels of D and of the halves; and their matches are numbered after those that were removed.
-- 4. The removals save what cs cost, and c costs one join more than its halves, for the one set or more that L has lost.
use mathlib.Core.Path.{◌≡◌, refl, sym, ◌∙◌}
use mathlib.Core.Logic.{inl, inr, ⊎_elim}
use mathlib.Core.Bool.{true}
use mathlib.Core.List.Memᴰ.{append_cases as mem_cases}
use mathlib.Core.List.Memᴰ.{cases_cons as mem_cons}
use mathlib.Core.List.Memᴰ.{eq_of_singleton as mem_one}
use mathlib.Core.List.Memᴰ.{head as m_head}
use mathlib.Core.List.Memᴰ.{not-nil}
use mathlib.Core.List.Memᴰ.{tail as m_tail}
use mathlib.Core.List.Permᴰ.{append_left as perm_left}
use mathlib.Core.List.Permᴰ.{symm as perm_sym}
use mathlib.Core.List.Permᴰ.{trans as p_trans}
use mathlib.Core.List.{List, [], ◌∷◌, ◌++◌, Memᴰ as Mem, Permᴰ as Perm}
use Prim.Native.Nat.{ℕ, zero, suc, ◌+◌, ◌-◌, ◌≤◌, ◌<◌}
use native.Mathlib.Omega.{arith}
use lib.ListN.{length}
use lib.Dec.{leb}
use borrow.Author.Tests.{leb-true}
use Rattle.bitset.specs.Bits.{Sub, Disjoint, size}
use Rattle.bitset.proofs.Laws.{sub_trans}
use Rattle.molecule.specs.Lists.{Bytes, filter, sort_by}
use Rattle.molecule.specs.Record.{all_bonds}
use Rattle.molecule.specs.Check.{accepted, check}
use Rattle.molecule.specs.Connected.{Own, Connected, Apart}
use Rattle.molecule.proofs.Lists.{Ordered, sort_perm}
use Rattle.molecule.proofs.Perms.{mem_some, perm_mem, keep_mem, keep_intro}
use Rattle.canonize.specs.Label.{label}
use Rattle.canonize.proofs.Laws.{LikeIn, halves_transport}
use Rattle.matches.specs.Table.{pair, pairs}
use Rattle.matches.specs.Laws.{Twins}
use Rattle.matches.specs.Inner.Ranks.{Akin, precedes, before, number}
use Rattle.matches.proofs.Laws.{akin_sym, akin_trans, precedes_akin, akin_precedes, precedes_refl, precedes_both, Last, last_one, before_in, before_has, before_perm, before_fewer}
use Rattle.bounds.specs.Inner.Removals.{big, InOnePiece, PiecesWithin}
use Rattle.bounds.proofs.Numbers.{sum_append, sum_perm}
use Rattle.bounds.proofs.Steps.{apart_sub, apart_sym, apart_append, apart_perm, apart_big}
use Rattle.search.specs.Pathway.{union}
use Rattle.search.specs.Inner.Joining.{HasLabel, Ready, Made}
use Rattle.search.proofs.Lists.{sum_big, apart_left, apart_right, apart_across, two_apart, down, sorted_down}
use Rattle.search.proofs.Making.{some_size, join_falls, label_akin, ready_before, made_before}
use Rattle.search.proofs.Striking.{cost, Saves, Late, Stage, strike}

module _ (r : Bytes) where
  -- x is a fragment of two bonds or more inside a piece of P, with the label of a set of L
  pub record Owed (L P : List ℕ) (x : ℕ) : Type 0 where
    pub own : Own r x
    pub whole : Connected r x
    pub two_bonds : 2 ≤ size x
    pub lies : InOnePiece x P
    pub has : HasLabel r L x

  -- what the claim asks of L, Q, P and k
  pub record Owes (L Q P : List ℕ) (k : ℕ) : Type 0 where
    pub made : Made r L
    pub within : PiecesWithin (all_bonds r) P
    pub apart : Apart Q
    pub late : Late r k L
    pub owed : (x : ℕ) → Mem x Q → Owed L P x

  -- ---- the halves of a fragment

  -- x is a fragment inside c, and ready with the sets of l
  record Half (l : List ℕ) (c x : ℕ) : Type 0 where
    own : Own r x
    whole : Connected r x
    inside : Sub x c
    ready : Ready r l x

  -- c falls into such fragments x and y
  record Halves (l : List ℕ) (c x y : ℕ) : Type 0 where
    left : Half l c x
    right : Half l c y
    apart : Disjoint x y
    sizes : size x + size y ≡ size c

  -- what is like a set that is ready is ready
  ready_like : (l : List ℕ) (a x : ℕ) → label r a ≡ label r x → size a ≡ size x → Ready r l a → Ready r l x
  ready_like l a x e s (inl o) = inl (sym s ∙ o)
  ready_like l a x e s (inr w) = inr (w.0, w.1, w.2 ∙ e)

  -- a half of two bonds or more is owed where c lies in a piece
  half_owed : (l P : List ℕ) (c x : ℕ) → Half l c x → 2 ≤ size x → InOnePiece c P → Owed l P x
  half_owed l P c x h b i =
      let has : Ready r l x → HasLabel r l x = λ w. ⊎_elim (λ (o : size x ≡ 1). absurd (omega arith)) (λ (g : HasLabel r l x). g) w in
      record { own = h.own; whole = h.whole; two_bonds = b; lies = (i.0, i.1, sub_trans x c i.0 h.inside i.2); has = has h.ready }

  module _ (ok : check r ≡ accepted) where
    -- a fragment of q's size with the label of a made set falls into two that are ready with the made sets strictly before q
    halves_of : (L : List ℕ) (c q : ℕ) → Made r L → Own r c → Connected r c → HasLabel r L c → size c ≡ size q → (x y : ℕ) × Halves (before r q L) c x y
    halves_of L c q M o k has s =
        let u = label_akin r ok L M c o k has in
        let m = M u.0 u.1 in
        let j = m.join in
        let h = m.lawful in
        let w = join_falls r L j h in
        let e : label r (union j) ≡ label r c = rw m.is u.2.labels in
        let t : size (union j) ≡ size c = rw m.is u.2.sizes in
        let z =
        halves_transport r r (union j) c ok ok w.own o w.whole k e j.left j.right
        h.left_connected h.right_connected w.left_in w.right_in h.apart in
        let a = ready_before r ok L M q j.left h.left_own h.left_connected (omega (arith, w.sizes, w.right_some)) h.left_ready in
        let b = ready_before r ok L M q j.right h.right_own h.right_connected (omega (arith, w.sizes, w.left_some)) h.right_ready in
        let half : (p x : ℕ) → LikeIn r r c p x → Ready r (before r q L) p → Half (before r q L) c x =
        λ p x f g. record { own = f.own; whole = f.whole; inside = f.inside; ready = ready_like (before r q L) p x f.labels f.sizes g } in (
          z.0,
          z.1,
          record {
            left = half j.left z.0 z.2 a;
            right = half j.right z.1 z.3 b;
            apart = z.4;
            sizes = omega (arith, z.2.sizes, z.3.sizes, w.sizes);
          },
        )

    -- ---- one step

    module _ (L Q P : List ℕ) (k : ℕ) (h : Owes L Q P k) (q : ℕ) (last : Last r Q q) where
      -- what is left of the list, and the fragments of Q that come strictly before q
      abbrev L' : List ℕ
      L' = before r q L

      abbrev D : List ℕ
      D = before r q Q

      -- the rest, that the induction gives
      abbrev Rest : Type 0
      Rest = (Q' P' : List ℕ) (k' : ℕ) → Owes L' Q' P' k' → Saves r P' k' (cost Q') (length L')

      -- some set of L is akin to q, so fewer are left
      fewer : length L' < length L
      fewer =
          let o = h.owed q last.0 in
          let u = label_akin r ok L h.made q o.own o.whole o.has in
          before_fewer r q u.0 L u.1 (precedes_akin r q u.0 q u.2 ∙ precedes_refl r q)

      -- a fragment of D is owed by what is left, where it lies in a piece: the set of L that has its label is akin to it
      old_owed : (z : ℕ) → Mem z D → (P' : List ℕ) → InOnePiece z P' → Owed L' P' z
      old_owed z i P' I =
          let d = before_in r q z Q i in
          let o = h.owed z d.0 in
          let u = label_akin r ok L h.made z o.own o.whole o.has in
          let has : HasLabel r L' z = (u.0, before_has r q u.0 L u.1 (precedes_akin r q u.0 z u.2 ∙ d.1), u.2.labels) in
          record { own = o.own; whole = o.whole; two_bonds = o.two_bonds; lies = I; has = has }

      -- c and cs are the other fragments of Q, and x and y the halves of c
      module _ (c : ℕ) (cs : List ℕ) (perm : Perm Q (D ++ (c ∷ cs))) (others : (z : ℕ) → Mem z (c ∷ cs) → Mem z Q × (precedes r q z ≡ true))
          (order : Ordered (λ x y. number r y ≤ number r x) (c ∷ cs)) (x y : ℕ) (halves : Halves L' c x y) where
        of : (z : ℕ) → Mem z (c ∷ cs) → Owed L P z
        of z i = h.owed z (others z i).0

        c_owed : Owed L P c
        c_owed = of c (m_head refl)

        -- they are akin to q, since none comes after the other
        akin_last : (z : ℕ) → Mem z (c ∷ cs) → Akin r z q
        akin_last z i = precedes_both r z q (of z i).two_bonds (last.1 z (others z i).0) (others z i).1

        -- no two fragments of Q meet
        all_apart : Apart (D ++ (c ∷ cs))
        all_apart = apart_perm perm h.apart

        these_apart : Apart (c ∷ cs)
        these_apart = apart_right D (c ∷ cs) all_apart

        clear : (z b : ℕ) → Mem z D → Mem b (c ∷ cs) → Disjoint z b
        clear z b i j = apart_across D (c ∷ cs) all_apart z b i j

        -- 1: those of cs are twins of c
        twin : (b : ℕ) → Mem b cs → Twins r c b
        twin b i =
            let o = of b (m_tail i) in
            let e : Akin r c b = akin_trans r c q b (akin_last c (m_head refl)) (akin_sym r b q (akin_last b (m_tail i))) in
            record {
              one = c_owed.whole;
              other = o.whole;
              one_own = c_owed.own;
              other_own = o.own;
              apart = these_apart.0 b i;
              same_size = e.sizes;
              big = e.big;
              labels = e.labels;
            }

        -- their matches are numbered k or more, since c is akin to a set of L
        from : (j : ℕ) → j < length (pairs r) → (pair (pairs r) j).h1 ≡ c → k ≤ j
        from j l e =
            let u = label_akin r ok L h.made c c_owed.own c_owed.whole c_owed.has in
            h.late u.0 u.1 j l (rw e (akin_sym r u.0 c u.2))

        -- 2: the halves of two bonds or more
        abbrev new : List ℕ
        new = big (x ∷ y ∷ [])

        new_half : (z : ℕ) → Mem z new → Half L' c z × (2 ≤ size z)
        new_half z i =
            let w = keep_mem (λ c. leb 2 (size c)) (x ∷ y ∷ []) i in
            let right : Mem z (y ∷ []) → Half L' c z = λ j. let e : z ≡ y = mem_one j in rw e halves.right in
            (⊎_elim (λ (e : z ≡ x). rw e halves.left) right (mem_cons w.0), leb-true 2 (size z) w.1)

        -- 3: what is owed then
        new_apart : Apart (new ++ D)
        new_apart =
            apart_append new D (apart_big (x ∷ y ∷ []) (two_apart x y halves.apart)) (apart_left D (c ∷ cs) all_apart)
            (λ a b i j. apart_sym b a (apart_sub b c a (clear b c j (m_head refl)) (new_half a i).0.inside))

        new_owed : (z : ℕ) → Mem z new → (P' : List ℕ) → InOnePiece c P' → Owed L' P' z
        new_owed z i P' I = let w = new_half z i in half_owed L' P' c z w.0 w.1 I

        left_owes : (P' : List ℕ) (k' : ℕ) → Stage r c D L' P' k' → Owes L' (new ++ D) P' k'
        left_owes P' k' s = record {
          made = made_before r ok L h.made q;
          within = s.within;
          apart = new_apart;
          late = s.late;
          owed = λ z i. ⊎_elim (λ (j : Mem z new). new_owed z j P' s.kept) (λ (j : Mem z D). old_owed z j P' (s.others z j)) (mem_cases new i);
        }

        -- 4: the sums
        step : Rest → Saves r P k (cost Q) (length L)
        step rest =
            let start : Stage r c D L' P k = record {
              within = h.within;
              kept = c_owed.lies;
              others = λ z i. (h.owed z (before_in r q z Q i).0).lies;
              late = λ u i. h.late u (before_in r q u L i).0;
            } in
            let w =
            strike r ok c D L'
            (λ z i. let o = h.owed z (before_in r q z Q i).0 in (o.whole, o.two_bonds, clear z c i (m_head refl)))
            (λ u i. akin_precedes r c q u (akin_last c (m_head refl)) ∙ (before_in r q u L i).1)
            (cost (new ++ D)) (length L') (λ P' k' s. rest (new ++ D) P' k' (left_owes P' k' s))
            cs P k start
            (λ b i. record { twins = twin b i; earlier = order.0 b i; lies = (of b (m_tail i)).lies; clear = λ z j. clear z b j (m_tail i) })
            these_apart.1 order.1 (λ b i j m. from j m.0 m.1) in
            let f : ℕ → ℕ = λ z. size z - 1 in
            let all : cost Q ≡ cost D + ((size c - 1) + cost cs) = sum_perm f perm ∙ sum_append f D (c ∷ cs) in
            let parts : (size x - 1) + ((size y - 1) + 0) + cost D ≤ cost (new ++ D) = omega (arith, sum_big (x ∷ y ∷ []), sum_append f new D) in
            (w.0, w.1, omega (arith, w.2, all, parts, halves.sizes, some_size r x halves.left.whole, some_size r y halves.right.whole, fewer))

      -- the fragments that do not come strictly before q, by falling numbers of their nodes; q is among them
      all_steps : Rest → Saves r P k (cost Q) (length L)
      all_steps rest = go (sort_by (down (number r)) C) (sort_perm (down (number r)) C) (sorted_down (number r) C)
        where
          C : List ℕ
          C = filter (precedes r q) Q

          go : (l : List ℕ) → Perm l (filter (precedes r q) Q) → Ordered (λ x y. number r y ≤ number r x) l → Saves r P k (cost Q) (length L)
          go [] p o = absurd (not-nil (perm_mem (perm_sym p) (keep_intro (precedes r q) Q last.0 (precedes_refl r q))))
          go (c ∷ cs) p o =
              let others : (z : ℕ) → Mem z (c ∷ cs) → Mem z Q × (precedes r q z ≡ true) = λ z j. keep_mem (precedes r q) Q (perm_mem p j) in
              let w = h.owed c (others c (m_head refl)).0 in
              let a = precedes_both r c q w.two_bonds (last.1 c (others c (m_head refl)).0) (others c (m_head refl)).1 in
              let z = halves_of L c q h.made w.own w.whole w.has a.sizes in
              step c cs (p_trans (before_perm r q Q) (perm_left D (perm_sym p))) others o z.0 z.1 z.2 rest

    -- ---- the claim

    -- by induction on n, at least the length of L
    by_length : (n : ℕ) (L Q P : List ℕ) (k : ℕ) → length L ≤ n → Owes L Q P k → Saves r P k (cost Q) (length L)
    by_length zero L [] P k l h = ([], tt, omega arith)
    by_length (suc n) L [] P k l h = ([], tt, omega arith)
    by_length zero L (x ∷ Q) P k l h = absurd (omega (arith, mem_some L (h.owed x (m_head refl)).has.1))
    by_length (suc n) L (x ∷ Q) P k l h =
        let q = last_one r x Q in
        all_steps L (x ∷ Q) P k h q.0 q.1
        (λ Q' P' k' g. by_length n (before r q.0 L) Q' P' k' (omega (arith, fewer L (x ∷ Q) P k h q.0 q.1)) g)

    pub owing : (L Q P : List ℕ) (k : ℕ) → Owes L Q P k → Saves r P k (cost Q) (length L)
    owing L Q P k h = by_length (length L) L Q P k (omega arith) h
