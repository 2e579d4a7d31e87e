-- The lemma behind both bounds. k is the largest size removed, every fragment lies in W, those of size k in F. Assumes nothing.
-- There is an addition chain that knows the size of every small piece (one that could be a fragment), and its length with what a
-- series saves is at most what the pieces can save, each by its counts of bonds in W and in F: `savings_chain`.
use mathlib.Core.Path.{◌≡◌, refl, sym, ap, ◌∙◌}
use mathlib.Core.Logic.{◌⊎◌, inl, inr, ⊎_elim}
use mathlib.Core.Bool.{Bool, true, false}
use mathlib.Core.List.Memᴰ
use mathlib.Core.List.Permᴰ
use mathlib.Core.List.{List, [], ◌∷◌, ◌++◌, Memᴰ, Permᴰ, flatten}
use Prim.Native.Nat.{ℕ, zero, suc, ◌+◌, ◌-◌, ◌≤◌, ◌<◌}
use native.Mathlib.Decide.{ℕ_discrete, dec_lt}
use native.Mathlib.Omega.{arith}
use lib.Bits.{bit_and}
use lib.Dec.{leb}
use borrow.Author.Tests.{leb-true, leb-false}
use lib.ListN.{length}
use Rattle.bitset.specs.Bits.{Sub, diff, size}
use Rattle.bitset.proofs.Laws.{size_diff, size_minus, size_mono, size_empty, sub_trans}
use Rattle.bitset.proofs.Members.{diff_sub}
use Rattle.bitset.proofs.Decide.{sets, v, and, less, is, sub}
use Rattle.molecule.specs.Lists.{pick}
use Rattle.bounds.specs.Numbers.{sum_of}
use Rattle.bounds.specs.Chain.{Known, Chain, LowerBound}
use Rattle.bounds.specs.Inner.Removals.{big, Split, Splits, Removal, Step, Series, savings, FitsIn, AllFit, gain, Small, KnowsSmall}
use Rattle.bounds.specs.Inner.Removals.Series.{done, next}
use Rattle.bounds.proofs.Numbers.{sum_append, sum_perm}
use Rattle.bounds.proofs.BoundLaws.{saving_add, saving_few, saving_full, saving_le, saving_one}
use Rattle.bounds.proofs.ChainLaws.{Longer, longer_none, longer_trans, longer_sum, longer_count, known_cast, known_head, lower_known}

-- ---- lists

-- a rearranged list has the same members
pub mem_perm : {x : ℕ} {l m : List ℕ} → Permᴰ l m → Memᴰ x l → Memᴰ x m
mem_perm Permᴰ.nil i = i
mem_perm (Permᴰ.cons e d) i = ⊎_elim (λ h. Memᴰ.head (h ∙ e)) (λ t. Memᴰ.tail (mem_perm d t)) (Memᴰ.cases_cons i)
mem_perm (Permᴰ.swap e g) i =
    ⊎_elim (λ h. Memᴰ.tail (Memᴰ.head (h ∙ e))) (λ t. ⊎_elim (λ h. Memᴰ.head (h ∙ g)) (λ u. Memᴰ.tail (Memᴰ.tail u)) (Memᴰ.cases_cons t)) (Memᴰ.cases_cons i)
mem_perm (Permᴰ.trans d e) i = mem_perm e (mem_perm d i)

-- ---- those of two or more bonds

-- by the size of the first: it stays or is dropped
pub big_cases : (a : ℕ) (l : List ℕ) → ((2 ≤ size a) × (big (a ∷ l) ≡ a ∷ big l)) ⊎ ((size a ≤ 1) × (big (a ∷ l) ≡ big l))
big_cases a l = go (leb 2 (size a)) refl
  where
    go : (b : Bool) → leb 2 (size a) ≡ b → ((2 ≤ size a) × (pick (leb 2 (size a)) (a ∷ big l) (big l) ≡ a ∷ big l)) ⊎ ((size a ≤ 1) × (pick (leb 2 (size a)) (a ∷ big l) (big l) ≡ big l))
    go true e = inl (leb-true 2 (size a) e, rw e)
    go false e = inr (omega (arith, leb-false 2 (size a) e), rw e)

-- a part is one of these or has one bond at most
pub big_mem : (l : List ℕ) (a : ℕ) → Memᴰ a l → Memᴰ a (big l) ⊎ (size a ≤ 1)
big_mem [] a i = absurd (Memᴰ.not-nil i)
big_mem (b ∷ l) a i = go (big_cases b l) (Memᴰ.cases_cons i) (big_mem l a)
  where
    go : ((2 ≤ size b) × (big (b ∷ l) ≡ b ∷ big l)) ⊎ ((size b ≤ 1) × (big (b ∷ l) ≡ big l)) → (a ≡ b) ⊎ Memᴰ a l → (Memᴰ a l → Memᴰ a (big l) ⊎ (size a ≤ 1)) → Memᴰ a (big (b ∷ l)) ⊎ (size a ≤ 1)
    go (inl w) (inl e) r = inl (rw w.1 (Memᴰ.head e))
    go (inl w) (inr t) r = rw w.1 (⊎_elim (λ m. inl (Memᴰ.tail m)) (λ o. inr o) (r t))
    go (inr w) (inl e) r = inr (rw e w.0)
    go (inr w) (inr t) r = rw w.1 (r t)

-- one of these is a part
pub mem_big : (l : List ℕ) (a : ℕ) → Memᴰ a (big l) → Memᴰ a l
mem_big [] a i = i
mem_big (b ∷ l) a i = go (big_cases b l) i (mem_big l a)
  where
    go : ((2 ≤ size b) × (big (b ∷ l) ≡ b ∷ big l)) ⊎ ((size b ≤ 1) × (big (b ∷ l) ≡ big l)) → Memᴰ a (big (b ∷ l)) → (Memᴰ a (big l) → Memᴰ a l) → Memᴰ a (b ∷ l)
    go (inl w) m r = ⊎_elim (λ e. Memᴰ.head e) (λ t. Memᴰ.tail (r t)) (Memᴰ.cases_cons (rw w.1 at m))
    go (inr w) m r = Memᴰ.tail (r (rw w.1 at m))

-- part by part
pub big_append : (l m : List ℕ) → big (l ++ m) ≡ big l ++ big m
big_append [] m = refl
big_append (a ∷ l) m = go (leb 2 (size a)) (big_append l m)
  where
    go : (b : Bool) → big (l ++ m) ≡ big l ++ big m → pick b (a ∷ big (l ++ m)) (big (l ++ m)) ≡ pick b (a ∷ big l) (big l) ++ big m
    go true e = ap (λ (x : List ℕ). a ∷ x) e
    go false e = e

-- ---- parts

-- the sizes of the parts sum to the size
pub split_size : (l : List ℕ) (p : ℕ) → Split p l → sum_of size l ≡ size p
split_size [] p h = omega (arith, ap size h, size_empty)
split_size (a ∷ l) p h = omega (arith, split_size l (diff p a) h.2, size_minus p a h.1)

-- a part is a subset, and has a bond
pub split_mem : (l : List ℕ) (p a : ℕ) → Split p l → Memᴰ a l → Sub a p × (0 < size a)
split_mem [] p a h i = absurd (Memᴰ.not-nil i)
split_mem (b ∷ l) p a h i =
    ⊎_elim (λ e. (rw e h.1, rw e h.0)) (λ t. let w = split_mem l (diff p b) a h.2 t in (sub_trans a (diff p b) p w.0 (diff_sub p b), w.1)) (Memᴰ.cases_cons i)

-- the bonds within W, of a part and of what is left
pub and_split : (p a W : ℕ) → Sub a p → size (bit_and a W) + size (bit_and (diff p a) W) ≡ size (bit_and p W)
and_split p a W h =
    omega (
      arith,
      size_diff (bit_and p W) a,
      ap size (sets [] (is (less (and (v 0) (v 2)) (v 1)) (and (less (v 0) (v 1)) (v 2))) (p ∷ a ∷ W ∷ []) tt),
      ap size (sets (sub (v 1) (v 0) ∷ []) (is (and (and (v 0) (v 2)) (v 1)) (and (v 1) (v 2))) (p ∷ a ∷ W ∷ []) tt h),
    )

-- no more within F than within W
pub and_sub : (p F W : ℕ) → Sub F W → size (bit_and p F) ≤ size (bit_and p W)
and_sub p F W h = size_mono (bit_and p F) (bit_and p W) (sets (sub (v 1) (v 2) ∷ []) (sub (and (v 0) (v 1)) (and (v 0) (v 2))) (p ∷ F ∷ W ∷ []) tt h)

-- and no more within W than at all
pub and_le : (p W : ℕ) → size (bit_and p W) ≤ size p
and_le p W = size_mono (bit_and p W) p (sets [] (sub (and (v 0) (v 1)) (v 0)) (p ∷ W ∷ []) tt)

-- ---- decisions

-- two decisions, both
dec_both : {A B : Type 0} → Dec A → Dec B → Dec (A × B)
dec_both (yes a) (yes b) = yes (a, b)
dec_both (yes a) (no n) = no (λ w. n w.1)
dec_both (no n) d = no (λ w. n w.0)

-- and either
dec_either : {A B : Type 0} → Dec A → Dec B → Dec (A ⊎ B)
dec_either (yes a) d = yes (inl a)
dec_either (no n) (yes b) = yes (inr b)
dec_either (no n) (no m) = no (⊎_elim n m)

-- whether a piece is small is decided
dec_small : (k F W p : ℕ) → Dec (Small k F W p)
dec_small k F W p = go (dec_both (dec_lt 0 (size p)) (dec_either (dec_both (dec_lt (size p) k) (ℕ_discrete (bit_and p W) p)) (dec_both (ℕ_discrete (size p) k) (ℕ_discrete (bit_and p F) p))))
  where
    go : Dec ((0 < size p) × (((size p < k) × Sub p W) ⊎ ((size p ≡ k) × Sub p F))) → Dec (Small k F W p)
    go (yes w) = yes (record { some = w.0; fits = w.1 })
    go (no n) = no (λ s. n (s.some, s.fits))

-- ---- what a piece can save

-- the chain L grows, by `more` entries, to one that knows the sizes of the small pieces of P; what P can save pays for these and for what is spent
pub record Served (k F W : ℕ) (L : List ℕ) (P : List ℕ) (spent : ℕ) : Type 0 where
  pub chain : List ℕ
  pub more : ℕ
  pub longer : Longer L more chain
  pub serves : KnowsSmall k F W chain P
  pub pays : more + spent ≤ sum_of (gain k F W) P

module _ (k F W : ℕ) (two : 2 ≤ k) (within : Sub F W) where
  -- a single bond saves nothing
  pub gain_few : (p : ℕ) → size p ≤ 1 → gain k F W p ≡ 0
  gain_few p h = go (size (bit_and p W)) refl
    where
      go : (t : ℕ) → size (bit_and p W) ≡ t → gain k F W p ≡ 0
      go zero e = omega (arith, saving_le k two (size (bit_and p W)) (size (bit_and p F)) (and_sub p F W within))
      go (suc t) e =
          let o : size (bit_and p W) ≡ 1 = omega (arith, and_le p W) in
          rw o (saving_one k two (size (bit_and p F)) (omega (arith, and_sub p F W within)))

  -- a small piece lies within W and has k bonds at most
  pub small_in : (p : ℕ) → Small k F W p → Sub p W × (size p ≤ k)
  small_in p s = ⊎_elim (λ w. (w.1, omega arith)) (λ w. (sub_trans p F W w.1 within, omega arith)) s.fits

  -- a small piece saves all its bonds but one
  pub small_gain : (p : ℕ) → Small k F W p → gain k F W p + 1 ≡ size p
  small_gain p s =
      ⊎_elim
      (λ w. rw w.1 (saving_few k two (size p) (size (bit_and p F)) (and_le p F) s.some w.0))
      (λ w. rw ((small_in p s).0, w.1, w.0) (saving_full k two))
      s.fits

  -- a part of a small piece is small
  pub small_part : (p a : ℕ) → Small k F W p → Sub a p → 0 < size a → Small k F W a
  small_part p a s h o = record { some = o; fits = ⊎_elim few full s.fits }
    where
      few : (size p < k) × Sub p W → ((size a < k) × Sub a W) ⊎ ((size a ≡ k) × Sub a F)
      few w = inl (omega (arith, size_mono a p h, w.0), sub_trans a p W h w.1)

      full : (size p ≡ k) × Sub p F → ((size a < k) × Sub a W) ⊎ ((size a ≡ k) × Sub a F)
      full w = go (dec_lt (size a) k)
        where
          go : Dec (size a < k) → ((size a < k) × Sub a W) ⊎ ((size a ≡ k) × Sub a F)
          go (yes l) = inl (l, sub_trans a p W h (small_in p s).0)
          go (no n) = inr (omega (arith, n, size_mono a p h, w.0), sub_trans a p F h w.1)

  -- B1, for a piece and its parts
  pub gain_add : (p a : ℕ) → Sub a p → gain k F W a + gain k F W (diff p a) ≤ gain k F W p
  gain_add p a h =
      rw (← and_split p a W h, ← and_split p a F h)
      (saving_add k two (size (bit_and a W)) (size (bit_and (diff p a) W)) (size (bit_and a F)) (size (bit_and (diff p a) F)) (and_sub a F W within) (and_sub (diff p a) F W within))

  -- and so for any number of parts
  pub gain_split : (l : List ℕ) (p : ℕ) → Split p l → sum_of (gain k F W) l ≤ gain k F W p
  gain_split [] p h = omega arith
  gain_split (a ∷ l) p h = omega (arith, gain_add p a h.1, gain_split l (diff p a) h.2)

  -- small parts save all but one bond each
  small_sum : (l : List ℕ) → ((a : ℕ) → Memᴰ a l → Small k F W a) → sum_of (gain k F W) l + length l ≡ sum_of size l
  small_sum [] h = omega arith
  small_sum (a ∷ l) h = omega (arith, small_gain a (h a (Memᴰ.head refl)), small_sum l (λ b i. h b (Memᴰ.tail i)))

-- ---- one piece: its size is a sum_of over its parts

-- the partial sums of the sizes of the parts of p are entries, one for each part after the first; the last is the size of p
joins : (L : List ℕ) (l : List ℕ) (p a : ℕ) → Chain L → Split p (a ∷ l) → ((b : ℕ) → Memᴰ b (a ∷ l) → Known L (size b))
    → (M : List ℕ) × Longer L (length l) M × Known M (size p)
joins L [] p a c h kn =
    (L, longer_none L c, known_cast L (size p) (size a) (omega (arith, size_minus p a h.1, ap size h.2, size_empty)) (kn a (Memᴰ.head refl)))
joins L (b ∷ l) p a c h kn =
    let r = joins L l (diff p a) b c h.2 (λ x i. kn x (Memᴰ.tail i)) in
    let M = r.0 in (
      size p ∷ M,
      longer_trans (suc (length l)) (omega arith) r.1 (longer_sum M (size p) (size a) (size (diff p a)) r.1.chain (omega (arith, size_minus p a h.1)) (r.1.holds (size a) (kn a (Memᴰ.head refl))) r.2),
      known_head M (size p),
    )

-- after a removal its first fragment is a piece
pub first_left : {P Q : List ℕ} (m : Removal) → Step P m Q → Memᴰ m.first Q
first_left m st = mem_perm (Permᴰ.symm st.left) (Memᴰ.head refl)

module _ (k F W : ℕ) (two : 2 ≤ k) (within : Sub F W) where
  -- a small piece takes one entry for each part but one, which it pays as all are small (`small_sum`). Any other takes none, and B1 pays for its parts
  serve_one : (L : List ℕ) (p : ℕ) (l : List ℕ) → Chain L → Split p l → KnowsSmall k F W L l → Served k F W L (p ∷ []) (sum_of (gain k F W) l)
  serve_one L p l c h sv = go l h sv (dec_small k F W p)
    where
      go : (l : List ℕ) → Split p l → KnowsSmall k F W L l → Dec (Small k F W p) → Served k F W L (p ∷ []) (sum_of (gain k F W) l)
      go l h sv (no n) = record {
        chain = L;
        more = 0;
        longer = longer_none L c;
        serves = λ q i s. absurd (⊎_elim (λ e. n (rw e at s)) (λ t. Memᴰ.not-nil t) (Memᴰ.cases_cons i));
        pays = omega (arith, gain_split k F W two within l p h);
      }
      go [] h sv (yes s) = absurd (omega (arith, s.some, ap size h, size_empty))
      go (a ∷ l) h sv (yes s) =
          let sm : (b : ℕ) → Memᴰ b (a ∷ l) → Small k F W b = λ b i. let w = split_mem (a ∷ l) p b h i in small_part k F W two within p b s w.0 w.1 in
          let r = joins L l p a c h (λ b i. sv b i (sm b i)) in
          record {
            chain = r.0;
            more = length l;
            longer = r.1;
            serves = λ q i s. ⊎_elim (λ e. known_cast r.0 (size q) (size p) (ap size e) r.2) (λ t. absurd (Memᴰ.not-nil t)) (Memᴰ.cases_cons i);
            pays = omega (arith, small_sum k F W two within (a ∷ l) sm, split_size (a ∷ l) p h, small_gain k F W two within p s);
          }

  -- ---- all pieces, one after the other

  -- the parts of each piece are known, so the pieces can be
  serve_all : (L : List ℕ) (P : List ℕ) (ls : List (List ℕ)) → Chain L → Splits P ls → KnowsSmall k F W L (flatten ls) → Served k F W L P (sum_of (gain k F W) (flatten ls))
  unfolding flatten
  serve_all L [] [] c h sv = record { chain = L; more = 0; longer = longer_none L c; serves = λ q i s. absurd (Memᴰ.not-nil i); pays = omega arith }
  serve_all L [] (l ∷ ls) c h sv = absurd h
  serve_all L (p ∷ P) [] c h sv = absurd h
  serve_all L (p ∷ P) (l ∷ ls) c h sv =
      let a = serve_one L p l c h.0 (λ q i s. sv q (Memᴰ.append_left (flatten ls) i) s) in
      let b = serve_all a.chain P ls a.longer.chain h.1 (λ q i s. a.longer.holds (size q) (sv q (Memᴰ.append_right l i) s)) in
      record {
        chain = b.chain;
        more = a.more + b.more;
        longer = longer_trans (a.more + b.more) refl a.longer b.longer;
        serves = λ q i s. ⊎_elim (λ e. b.longer.holds (size q) (a.serves q (Memᴰ.head e) s)) (λ t. b.serves q t s) (Memᴰ.cases_cons i);
        pays = omega (arith, a.pays, b.pays, sum_append (gain k F W) l (flatten ls));
      }

  -- ---- single bonds are dropped: they save nothing, and 1 needs no entry

  -- dropping them changes no sum of what can be saved
  sum_big : (l : List ℕ) → sum_of (gain k F W) (big l) ≡ sum_of (gain k F W) l
  sum_big [] = refl
  sum_big (a ∷ l) =
      let ih = sum_big l in
      ⊎_elim (λ w. rw w.1 (omega (arith, ih))) (λ w. rw w.1 (omega (arith, ih, gain_few k F W two within a w.0))) (big_cases a l)

  -- and what knows the sizes of those kept knows all
  serves_big : (L l : List ℕ) → KnowsSmall k F W L (big l) → KnowsSmall k F W L l
  serves_big L l sv p i s = ⊎_elim (λ m. sv p m s) (λ o. inl (omega (arith, s.some))) (big_mem l p i)

  -- ---- one removal

  -- a fragment that fits is small
  pub fragment_small : (h : ℕ) → 2 ≤ size h → size h ≤ k → Sub h W → (size h ≡ k → Sub h F) → Small k F W h
  fragment_small h o m w f = record { some = omega arith; fits = go (dec_lt (size h) k) }
    where
      go : Dec (size h < k) → ((size h < k) × Sub h W) ⊎ ((size h ≡ k) × Sub h F)
      go (yes l) = inl (l, w)
      go (no n) = let e : size h ≡ k = omega (arith, n) in inr (e, f e)

  -- so is the first of a removal
  pub first_small : {P Q : List ℕ} (m : Removal) → Step P m Q → FitsIn k F W m → Small k F W m.first
  first_small m st f = fragment_small m.first st.two f.most f.first_in f.full_first

  -- and the second
  pub second_small : {P Q : List ℕ} (m : Removal) → Step P m Q → FitsIn k F W m → Small k F W m.second
  second_small m st f =
      fragment_small m.second (omega (arith, st.two, st.same)) (omega (arith, f.most, st.same)) f.second_in (λ e. f.full_second (omega (arith, st.same)))

  -- a chain for what is left grows to one for the pieces before, and these pay for that and for what is saved
  pub step_serves : {P Q : List ℕ} (m : Removal) (L : List ℕ) → Step P m Q → FitsIn k F W m → Chain L → KnowsSmall k F W L Q
      → Served k F W L P (size m.first - 1 + sum_of (gain k F W) Q)
  step_serves {P} {Q} m L st f c sv =
      let h1 = m.first in
      let h2 = m.second in
      let sf = first_small m st f in
      let known : Known L (size h1) = sv h1 (first_left m st) sf in
      let rest : KnowsSmall k F W L st.rest = serves_big L st.rest (λ p i s. sv p (mem_perm (Permᴰ.symm st.left) (Memᴰ.tail i)) s) in
      let all : KnowsSmall k F W L (h1 ∷ h2 ∷ st.rest) =
      λ p i s. ⊎_elim (λ e. known_cast L (size p) (size h1) (ap size e) known)
      (λ t. ⊎_elim (λ e. known_cast L (size p) (size h1) (ap size e ∙ st.same) known) (λ u. rest p u s) (Memᴰ.cases_cons t))
      (Memᴰ.cases_cons i) in
      let r = serve_all L P st.parts c st.splits (λ p i s. all p (mem_perm st.found i) s) in
      record {
        chain = r.chain;
        more = r.more;
        longer = r.longer;
        serves = r.serves;
        pays = omega (arith, r.pays, sum_perm (gain k F W) st.found, sum_perm (gain k F W) st.left, sum_big st.rest, small_gain k F W two within h2 (second_small m st f), st.same);
      }

  -- ---- no removal

  -- where nothing is removed, a small piece of s bonds takes the s - 1 entries 2, 3, .., s
  serve_none : (L P : List ℕ) → Chain L → Served k F W L P 0
  serve_none L [] c = record { chain = L; more = 0; longer = longer_none L c; serves = λ q i s. absurd (Memᴰ.not-nil i); pays = omega arith }
  serve_none L (p ∷ P) c = go (serve_none L P c) (dec_small k F W p)
    where
      go : Served k F W L P 0 → Dec (Small k F W p) → Served k F W L (p ∷ P) 0
      go r (no n) = record {
        chain = r.chain;
        more = r.more;
        longer = r.longer;
        serves = λ q i s. ⊎_elim (λ e. absurd (n (rw e at s))) (λ t. r.serves q t s) (Memᴰ.cases_cons i);
        pays = omega (arith, r.pays);
      }
      go r (yes s) =
          let w = longer_count r.chain (size p - 1) r.longer.chain in
          let e : size p ≡ suc (size p - 1) = omega (arith, s.some) in
          record {
            chain = w.0;
            more = r.more + (size p - 1);
            longer = longer_trans (r.more + (size p - 1)) refl r.longer w.1;
            serves = λ q i z. ⊎_elim (λ x. known_cast w.0 (size q) (suc (size p - 1)) (ap size x ∙ e) w.2) (λ t. w.1.holds (size q) (r.serves q t z)) (Memᴰ.cases_cons i);
            pays = omega (arith, r.pays, small_gain k F W two within p s);
          }

  -- ---- the lemma

  -- a chain for P, grown from no entries, where P pays for it and for what the series saves
  pub series_serves : {P : List ℕ} {τ : List Removal} → Series P τ → AllFit k F W τ → Served k F W [] P (savings τ)
  series_serves {P} done f = serve_none [] P tt
  series_serves (next {P = P} {Q = Q} {m = m} st r) f =
      let a = series_serves r f.1 in
      let b = step_serves m a.chain st f.0 a.longer.chain a.serves in
      record {
        chain = b.chain;
        more = a.more + b.more;
        longer = longer_trans (a.more + b.more) refl a.longer b.longer;
        serves = b.serves;
        pays = omega (arith, a.pays, b.pays);
      }

  -- The lemma. There is a chain that knows the size of every small piece of P, and its length with what the series saves is at most
  -- what the pieces of P can save. By induction on the series: the chain for what a removal leaves grows to one for the pieces before it
  -- (`step_serves`), where the second fragment, being small, pays for what the removal saves.
  pub savings_chain : {P : List ℕ} {τ : List Removal} → Series P τ → AllFit k F W τ
      → (L : List ℕ) × Chain L × KnowsSmall k F W L P × (savings τ + length L ≤ sum_of (gain k F W) P)
  savings_chain s f = let r = series_serves s f in (r.chain, r.longer.chain, r.serves, omega (arith, r.pays, r.longer.by))

  -- S3: a series that starts with a removal of size k saves at most what the pieces can save less c k, for every lower bound c of
  -- chains. After that removal its first fragment is a small piece of k bonds, so k is in the chain, which has c k entries or more.
  pub savings_first : (c : ℕ → ℕ) → LowerBound c → {P : List ℕ} {m : Removal} {τ : List Removal} → Series P (m ∷ τ) → AllFit k F W (m ∷ τ) → size m.first ≡ k
      → savings (m ∷ τ) + c k ≤ sum_of (gain k F W) P
  savings_first c b {m = m} (next st r) f e =
      let a = series_serves r f.1 in
      let d = step_serves m a.chain st f.0 a.longer.chain a.serves in
      let known : Known a.chain k = known_cast a.chain k (size m.first) (sym e) (a.serves m.first (first_left m st) (first_small m st f.0)) in
      omega (arith, a.pays, d.pays, a.longer.by, d.longer.by, lower_known c b d.chain k d.longer.chain (d.longer.holds k known))
