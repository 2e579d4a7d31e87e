-- Tests and statements: what `any`, `every`, `find` and `first` give; a list of joins passes the test of a pathway exactly where they are lawful and complete.
-- Assumes nothing; where `connected` is tested, 64 bonds or fewer.
use mathlib.Core.Path.{◌≡◌, refl, sym, ap, ◌∙◌}
use mathlib.Core.Bool.{Bool, true, false, ◌&&◌, true≢false, false≢true}
use mathlib.Core.Logic.{◌⊎◌, inl, inr, ⊎_elim, ◌≢◌}
use mathlib.Core.List.Memᴰ.{head as m_head}
use mathlib.Core.List.Memᴰ.{tail as m_tail}
use mathlib.Core.List.{List, [], ◌∷◌, ◌++◌, Memᴰ as Mem}
use Prim.Native.Nat.{ℕ, ◌+◌, ◌≤◌, ◌<◌}
use native.Mathlib.Omega.{arith}
use native.Mathlib.Decide.{dec_lt}
use lib.Bits.{bit_and}
use lib.Dec.{eqb}
use lib.ListN.{length}
use borrow.Author.Tests.{eq-eqb, eqb-true, ne_eqb}
use Rattle.bitset.specs.Bits.{size, is_sub, is_disjoint}
use Rattle.bitset.proofs.Bools.{two, or_true, or_left, or_right, and_true}
use Rattle.molecule.specs.Lists.{Bytes, first, any, every}
use Rattle.molecule.specs.Record.{bonds, all_bonds, atoms}
use Rattle.molecule.specs.Touch.{connected}
use Rattle.molecule.specs.Connected.{Own, Connected}
use Rattle.molecule.proofs.Lists.{any_some}
use Rattle.molecule.proofs.Scans.{first_hit, first_none}
use Rattle.molecule.proofs.Components.{own_all, all_own, connected_is, connected_true}
use Rattle.canonize.specs.Strings.{same}
use Rattle.canonize.specs.Label.{label}
use Rattle.canonize.proofs.Laws.{same_refl, same_is}
use Rattle.search.specs.Pathway.{Join, union, find, is_fragment, ready, meets, is_join, is_pathway_after, labelled, complete, whole_made, trees_made}
use Rattle.search.specs.Inner.Joining.{MembersIn, after, Ready, JoinAfter, JoinsAfter, EndsWith, HasLabel}
use Rattle.search.specs.State.{root_pieces}
use mathlib.Core.List.Memᴰ.{not-nil, cases_cons as mem_cons}

-- ---- tests over a list

-- two tests that pass, passed together
pub and_both : {a b : Bool} → a ≡ true → b ≡ true → (a && b) ≡ true
and_both e f = rw (e, f)

-- an element that passes
pub any_has : {A : Type 0} (p : A → Bool) {x : A} (l : List A) → Mem x l → p x ≡ true → any p l ≡ true
any_has {A = A} p [] x3 e = elim x3 [ ]
any_has p (y ∷ l) (m_head q) e = rw (sym (ap p q) ∙ e)
any_has p (y ∷ l) (m_tail m) e = go (two (p y)) (any_has p l m e)
  where
    go : (p y ≡ true) ⊎ (p y ≡ false) → any p l ≡ true → any p (y ∷ l) ≡ true
    go (inl t) ih = rw t
    go (inr t) ih = rw t ih

-- where some element passes, the one that is found is an element and passes
pub any_find : (p : ℕ → Bool) (d : ℕ) (l : List ℕ) → any p l ≡ true → Mem (find p d l) l × (p (find p d l) ≡ true)
any_find p d [] e = absurd (false≢true e)
any_find p d (y ∷ l) e = go (two (p y)) (any_find p d l)
  where
    go : (p y ≡ true) ⊎ (p y ≡ false) → (any p l ≡ true → Mem (find p d l) l × (p (find p d l) ≡ true)) → Mem (find p d (y ∷ l)) (y ∷ l) × (p (find p d (y ∷ l)) ≡ true)
    go (inl t) ih = rw t (m_head refl, t)
    go (inr t) ih = let w = ih (rw t at e) in rw t (m_tail w.0, w.1)

-- every element passes, by test and in words
pub every_test : (p : ℕ → Bool) (l : List ℕ) → ((x : ℕ) → Mem x l → p x ≡ true) → every p l ≡ true
every_test p [] h = refl
every_test p (y ∷ l) h = rw (h y (m_head refl)) (every_test p l (λ x i. h x (m_tail i)))

pub every_of : (p : ℕ → Bool) (l : List ℕ) → every p l ≡ true → (x : ℕ) → Mem x l → p x ≡ true
every_of p [] e x i = absurd (not-nil i)
every_of p (y ∷ l) e x i = go (two (p y)) (every_of p l)
  where
    go : (p y ≡ true) ⊎ (p y ≡ false) → (every p l ≡ true → (x : ℕ) → Mem x l → p x ≡ true) → p x ≡ true
    go (inl t) ih = ⊎_elim (λ (q : x ≡ y). rw q t) (λ (j : Mem x l). ih (rw t at e) x j) (mem_cons i)
    go (inr t) ih = absurd (false≢true (rw t at e))

-- where some number below n passes, so does the first, and it is below n
pub first_finds : (p : ℕ → Bool) (n i : ℕ) → i < n → p i ≡ true → (first p n < n) × (p (first p n) ≡ true)
first_finds p n i h e = go (dec_lt (first p n) n)
  where
    go : Dec (first p n < n) → (first p n < n) × (p (first p n) ≡ true)
    go (yes l) = (l, first_hit p n l)
    go (no l) = absurd (true≢false (sym e ∙ first_none p n i (omega arith) h))

module _ (r : Bytes) where
  -- ---- what is made

  -- what is ready stays ready when more is made
  pub ready_more : (made made' : List ℕ) (s : ℕ) → MembersIn made made' → Ready r made s → Ready r made' s
  ready_more made made' s w (inl e) = inl e
  ready_more made made' s w (inr u) = inr (u.0, w u.0 u.1, u.2)

  -- joins add to what is made
  pub after_keeps : (made : List ℕ) (js : List Join) → MembersIn made (after made js)
  after_keeps made [] x m = m
  after_keeps made (j ∷ js) x m = after_keeps (union j ∷ made) js x (m_tail m)

  -- one set each
  pub after_length : (made : List ℕ) (js : List Join) → length (after made js) ≡ length made + length js
  after_length made [] = omega arith
  after_length made (j ∷ js) = omega (arith, after_length (union j ∷ made) js)

  -- so what is ready before joins is ready after them
  pub ready_after : (made : List ℕ) (js : List Join) (s : ℕ) → Ready r made s → Ready r (after made js) s
  ready_after made js s h = ready_more made (after made js) s (after_keeps made js) h

  -- joins, and then more joins
  pub after_append : (made : List ℕ) (js ks : List Join) → after made (js ++ ks) ≡ after (after made js) ks
  after_append made [] ks = refl
  after_append made (j ∷ js) ks = after_append (union j ∷ made) js ks

  -- lawful joins, and then lawful joins, are lawful together
  pub joins_append : (made : List ℕ) (js ks : List Join) → JoinsAfter r made js → JoinsAfter r (after made js) ks → JoinsAfter r made (js ++ ks)
  joins_append made [] ks a b = b
  joins_append made (j ∷ js) ks a b = (a.0, joins_append (union j ∷ made) js ks a.1 b)

  -- the last union is that of the later ones
  pub ends_append : (made : List ℕ) (js ks : List Join) (p : ℕ) → EndsWith r (after made js) ks p → EndsWith r made (js ++ ks) p
  ends_append made js ks p w = (w.0, after_append made js ks ∙ w.1)

  -- ---- the tests of a pathway

  -- the label of a union that is made, by test and in words
  labelled_test : (made : List ℕ) (s : ℕ) → HasLabel r made s → labelled r made s ≡ true
  unfolding labelled
  labelled_test made s w = any_has (λ u. same (label r u) (label r s)) made w.1 (rw w.2 (same_refl (label r s)))

  labelled_of : (made : List ℕ) (s : ℕ) → labelled r made s ≡ true → HasLabel r made s
  unfolding labelled
  labelled_of made s e = let w = any_some (λ u. same (label r u) (label r s)) made e in (w.0, w.1, same_is (label r w.0) (label r s) w.2)

  -- a set that is ready passes the test
  pub ready_test : (made : List ℕ) (s : ℕ) → Ready r made s → ready r made s ≡ true
  unfolding ready
  ready_test made s (inl e) = or_left (eqb (size s) 1) (labelled r made s) (eq-eqb (size s) 1 e)
  ready_test made s (inr u) = or_right (eqb (size s) 1) (labelled r made s) (labelled_test made s u)

  -- and one that passes is ready
  ready_of : (made : List ℕ) (s : ℕ) → ready r made s ≡ true → Ready r made s
  unfolding ready
  ready_of made s e =
      ⊎_elim (λ (h : eqb (size s) 1 ≡ true). inl (eqb-true (size s) 1 h)) (λ (h : labelled r made s ≡ true). inr (labelled_of made s h)) (or_true (eqb (size s) 1) (labelled r made s) e)

  -- ---- the end of a pathway

  -- what is to be made, of one tree and of a mixture
  pub complete_one : (made : List ℕ) → atoms r ≡ bonds r + 1 → complete r made ≡ whole_made r made
  unfolding complete
  complete_one made e = rw (eq-eqb (atoms r) (bonds r + 1) e, complete) refl

  pub complete_more : (made : List ℕ) → atoms r ≢ bonds r + 1 → complete r made ≡ trees_made r made
  unfolding complete
  complete_more made n = rw (ne_eqb (atoms r) (bonds r + 1) n, complete) refl

  -- of a mixture each piece of the root has the label of a union that is made
  pub trees_test : (made : List ℕ) → ((x : ℕ) → Mem x (root_pieces r) → HasLabel r made x) → trees_made r made ≡ true
  unfolding trees_made
  trees_test made h = every_test (labelled r made) (root_pieces r) (λ x i. labelled_test made x (h x i))

  pub trees_of : (made : List ℕ) → trees_made r made ≡ true → (x : ℕ) → Mem x (root_pieces r) → HasLabel r made x
  unfolding trees_made
  trees_of made e x i = labelled_of made x (every_of (labelled r made) (root_pieces r) e x i)

  module _ (few : bonds r ≤ 64) where
    -- a lawful join passes the test
    pub join_test : (made : List ℕ) (j : Join) → JoinAfter r made j → is_join r made j ≡ true
    unfolding is_join is_fragment
    join_test made j h =
        and_both (and_both (and_both (and_both (and_both
        (and_both (eq-eqb (bit_and j.left (all_bonds r)) j.left (own_all r j.left h.left_own)) (connected_is r few j.left h.left_own h.left_connected))
        (and_both (eq-eqb (bit_and j.right (all_bonds r)) j.right (own_all r j.right h.right_own)) (connected_is r few j.right h.right_own h.right_connected)))
        (eq-eqb (bit_and j.left j.right) 0 h.apart))
        h.meet)
        (ready_test made j.left h.left_ready))
        (ready_test made j.right h.right_ready)

    -- lawful joins after which what is to be made is pass the test of a pathway
    pub joins_test : (made : List ℕ) (js : List Join) → JoinsAfter r made js → complete r (after made js) ≡ true → is_pathway_after r made js ≡ true
    unfolding is_pathway_after
    joins_test made [] a e = e
    joins_test made (j ∷ js) a e = and_both (join_test made j a.0) (joins_test (union j ∷ made) js a.1 e)

    -- ---- and back

    -- a set that passes the test of a fragment is one
    fragment_of : (s : ℕ) → is_fragment r s ≡ true → Own r s × Connected r s
    unfolding is_fragment
    fragment_of s e =
        let w = and_true (is_sub s (all_bonds r)) (connected r s) e in
        let o : Own r s = all_own r s (eqb-true (bit_and s (all_bonds r)) s w.0) in
        (o, connected_true r few s o w.1)

    -- a join that passes the test is lawful
    join_of : (made : List ℕ) (j : Join) → is_join r made j ≡ true → JoinAfter r made j
    unfolding is_join
    join_of made j e =
        let a : ℕ = j.left in
        let b : ℕ = j.right in
        let e5 = and_true (is_fragment r a && is_fragment r b && is_disjoint a b && meets r a b && ready r made a) (ready r made b) e in
        let e4 = and_true (is_fragment r a && is_fragment r b && is_disjoint a b && meets r a b) (ready r made a) e5.0 in
        let e3 = and_true (is_fragment r a && is_fragment r b && is_disjoint a b) (meets r a b) e4.0 in
        let e2 = and_true (is_fragment r a && is_fragment r b) (is_disjoint a b) e3.0 in
        let e1 = and_true (is_fragment r a) (is_fragment r b) e2.0 in
        let fa = fragment_of a e1.0 in
        let fb = fragment_of b e1.1 in
        record {
          left_own = fa.0;
          right_own = fb.0;
          left_connected = fa.1;
          right_connected = fb.1;
          apart = eqb-true (bit_and a b) 0 e2.1;
          meet = e3.1;
          left_ready = ready_of made a e4.1;
          right_ready = ready_of made b e5.1;
        }

    -- joins that pass the test of a pathway are lawful, and after them what is to be made is
    pub joins_of : (made : List ℕ) (js : List Join) → is_pathway_after r made js ≡ true → JoinsAfter r made js × (complete r (after made js) ≡ true)
    unfolding is_pathway_after
    joins_of made [] e = (tt, e)
    joins_of made (j ∷ js) e =
        let w = and_true (is_join r made j) (is_pathway_after r (union j ∷ made) js) e in
        let g = joins_of (union j ∷ made) js w.1 in
        ((join_of made j w.0, g.0), g.1)
