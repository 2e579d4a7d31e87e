-- Peeling a tree: every round leaves a tree, and what hangs under the atoms holds each bond taken off exactly once.
use Rattle.bitset.proofs.Bools.{two, or_true, or_right, and_true}
use borrow.Author.Tests.{eqb-false, eqb-true, not-true}
use mathlib.Core.Path.{◌≡◌, refl, sym, ap, ap₂, ◌∙◌}
use mathlib.Core.Logic.{◌⊎◌, inl, inr}
use mathlib.Core.Bool.{Bool, true, false, not, ◌&&◌, ◌||◌}
use mathlib.Core.List.Memᴰ.{head as m_head}
use mathlib.Core.List.Memᴰ.{tail as m_tail}
use mathlib.Core.List.Permᴰ.{append_left as perm_left}
use mathlib.Core.List.Permᴰ.{append_right as perm_right}
use mathlib.Core.List.Permᴰ.{cons as p_cons}
use mathlib.Core.List.Permᴰ.{nil as p_nil}
use mathlib.Core.List.Permᴰ.{refl as perm_refl}
use mathlib.Core.List.Permᴰ.{swap as p_swap}
use mathlib.Core.List.Permᴰ.{symm as perm_sym}
use mathlib.Core.List.Permᴰ.{trans as p_trans}
use mathlib.Core.List.{List, [], ◌∷◌, ◌++◌, map, append_assoc, append-nil, Memᴰ as Mem, Permᴰ as Perm}
use Prim.Native.Nat.{ℕ, ◌+◌, ◌*◌, ◌≤◌, ◌<◌}
use native.Mathlib.Omega.{arith}
use native.Mathlib.Decide.{ℕ_discrete}
use lib.ListN.{length, length-append, length-map}
use lib.Dec.{eqb}
use Rattle.molecule.proofs.Perms.{not_both, perm_append, perm_exchange, perm_eq, perm_length, mem_some, Distinct, perm_map, keep_mem, keep_intro, keep_same, keep_split, keep_distinct, eqb_yes, eqb_no}
use Rattle.canonize.specs.Fragment.{Bond, arcs, degree, end_atom, more, to_ends, turn}
use Rattle.molecule.specs.Lists.{filter, pick}
use Rattle.canonize.proofs.RoseTrees.{Kids}
use Rattle.canonize.proofs.Pairing.{Item, item, items}
use Rattle.canonize.proofs.Sums.{flat, flat_append, flat_perm, flat_agree, flat_split, flat_length, flat_map, map_flat, flat_flat, flat_keep, group, keep_both}
use Rattle.canonize.proofs.Peeling.{both, both_swap, gather, arcs_length, arcs_keep}

-- A tree: the atoms are different, the bonds' ends are among them, there is one atom more than bonds,
-- and whatever set of atoms is neither none nor all of them is left by a bond.
pub record Treelike (ns : List ℕ) (bs : List Bond) : Type 0 where
  pub distinct : Distinct ns
  pub ends : (x : Bond) → Mem x (arcs bs) → Mem x.u ns × Mem x.v ns
  pub count : length ns ≡ length bs + 1
  pub linked : (S : ℕ → Bool) (p q : ℕ) → Mem p ns → Mem q ns → S p ≡ true → S q ≡ false → (x : Bond) × Mem x (arcs bs) × (S x.u ≡ true) × (S x.v ≡ false)

-- arcs
pub arcs_turn : (bs : List Bond) {x : Bond} → Mem x (arcs bs) → Mem (turn x) (arcs bs)
arcs_turn [] x3 = elim x3 [ ]
arcs_turn (b ∷ bs) (m_head e) = m_tail (m_head (ap turn e))
arcs_turn (b ∷ bs) (m_tail (m_head e)) = m_head (ap turn e)
arcs_turn (b ∷ bs) (m_tail (m_tail m)) = m_tail (m_tail (arcs_turn bs m))

pub arcs_mem : (bs : List Bond) {x : Bond} → Mem x bs → Mem x (arcs bs)
arcs_mem [] x3 = elim x3 [ ]
arcs_mem (b ∷ bs) (m_head e) = m_head e
arcs_mem (b ∷ bs) (m_tail m) = m_tail (m_tail (arcs_mem bs m))

pub arcs_perm : {k l : List Bond} → Perm k l → Perm (arcs k) (arcs l)
arcs_perm p_nil = p_nil
arcs_perm (p_cons e d) = p_cons e (p_cons (ap turn e) (arcs_perm d))
arcs_perm (p_swap {a = a} {b = b} {l = l} e g) = p_trans (perm_exchange (a ∷ turn a ∷ []) (b ∷ turn b ∷ []) (arcs l)) (p_cons g (p_cons (ap turn g) (p_cons e (p_cons (ap turn e) (perm_refl (arcs l))))))
arcs_perm (p_trans d g) = p_trans (arcs_perm d) (arcs_perm g)

pub arcs_append : (k l : List Bond) → arcs (k ++ l) ≡ arcs k ++ arcs l
arcs_append [] l = refl
arcs_append (b ∷ k) l = ap (λ (z : List Bond). b ∷ turn b ∷ z) (arcs_append k l)

abbrev leads : ℕ → Bond → Bool
leads n x = eqb x.v n

-- of a list of one
one_same : {A : Type 0} (l : List A) {x y : A} → length l ≡ 1 → Mem x l → Mem y l → x ≡ y
one_same {A = A} [] {y = y} e m n = elim m [ ]
one_same {A = A} (z ∷ []) {y = y} e (m_head p) (m_tail x21) = elim x21 [ ]
one_same {A = A} (z ∷ []) {y = y} e (m_tail x20) n = elim x20 [ ]
one_same (z ∷ []) e (m_head p) (m_head q) = p ∙ sym q
one_same (z ∷ w ∷ l) e m n = absurd (omega arith)

-- only one arc leads to an end atom
end_one : (xs : List Bond) (n : ℕ) {x y : Bond} → end_atom xs n ≡ true → Mem x xs → Mem y xs → x.v ≡ n → y.v ≡ n → x ≡ y
end_one xs n e p q g h = one_same (filter (leads n) xs) (eqb-true (degree xs n) 1 e) (keep_intro (leads n) xs p (eqb_yes g)) (keep_intro (leads n) xs q (eqb_yes h))

-- among three different numbers one is neither p nor q
third : (a b c : ℕ) (r : List ℕ) (p q : ℕ) → Distinct (a ∷ b ∷ c ∷ r) → (n : ℕ) × Mem n (a ∷ b ∷ c ∷ r) × (n ≡ p → ⊥) × (n ≡ q → ⊥)
third a b c r p q d = go (ℕ_discrete a p) (ℕ_discrete a q) (ℕ_discrete b p) (ℕ_discrete b q)
  where
    ab : a ≡ b → ⊥
    ab e = d.0 (m_head e)

    ac : a ≡ c → ⊥
    ac e = d.0 (m_tail (m_head e))

    bc : b ≡ c → ⊥
    bc e = d.1.0 (m_head e)

    go : Dec (a ≡ p) → Dec (a ≡ q) → Dec (b ≡ p) → Dec (b ≡ q) → (n : ℕ) × Mem n (a ∷ b ∷ c ∷ r) × (n ≡ p → ⊥) × (n ≡ q → ⊥)
    go (no f) (no g) x y = (a, m_head refl, f, g)
    go (yes e) x y (yes h) = (c, m_tail (m_tail (m_head refl)), λ z. ac (e ∙ sym z), λ z. bc (h ∙ sym z))
    go (yes e) x y (no h) = (b, m_tail (m_head refl), λ z. ab (e ∙ sym z), h)
    go (no f) (yes e) (yes h) y = (c, m_tail (m_tail (m_head refl)), λ z. bc (h ∙ sym z), λ z. ac (e ∙ sym z))
    go (no f) (yes e) (no h) y = (b, m_tail (m_head refl), h, λ z. ab (e ∙ sym z))

third_of : (ns : List ℕ) (p q : ℕ) → more ns ≡ true → Distinct ns → (n : ℕ) × Mem n ns × (n ≡ p → ⊥) × (n ≡ q → ⊥)
third_of [] p q e d = absurd (not_both e refl)
third_of (a ∷ []) p q e d = absurd (not_both e refl)
third_of (a ∷ b ∷ []) p q e d = absurd (not_both e refl)
third_of (a ∷ b ∷ c ∷ r) p q e d = third a b c r p q d

-- the bonds that stay when the atoms E go, and the arcs to those that go
abbrev pub stay : (ℕ → Bool) → List Bond → List Bond
stay E bs = filter (λ (b : Bond). both (not (E b.u)) (not (E b.v))) bs

abbrev pub going : (ℕ → Bool) → List Bond → List Bond
going E bs = filter (λ (x : Bond). E x.v) (arcs bs)

-- a bond stays, or one of its two arcs leads to an atom that goes
pub arcs_cut : (E : ℕ → Bool) (bs : List Bond) → ((b : Bond) → Mem b bs → E b.u ≡ true → E b.v ≡ true → ⊥) → Perm (arcs bs) (arcs (stay E bs) ++ arcs (going E bs))
arcs_cut E [] f = p_nil
arcs_cut E (b ∷ bs) f = go (two (E b.u)) (two (E b.v)) (arcs_cut E bs (λ c i. f c (m_tail i)))
  where
    go : (E b.u ≡ true) ⊎ (E b.u ≡ false) → (E b.v ≡ true) ⊎ (E b.v ≡ false) → Perm (arcs bs) (arcs (stay E bs) ++ arcs (going E bs)) → Perm (arcs (b ∷ bs)) (arcs (stay E (b ∷ bs)) ++ arcs (going E (b ∷ bs)))
    go (inl h) (inl i) r = absurd (f b (m_head refl) h i)
    go (inl h) (inr i) r = simp (h, i) (p_trans (p_swap refl refl) (p_trans (p_cons refl (p_cons refl r)) (perm_exchange (turn b ∷ b ∷ []) (arcs (stay E bs)) (arcs (going E bs)))))
    go (inr h) (inl i) r = simp (h, i) (p_trans (p_cons refl (p_cons refl r)) (perm_exchange (b ∷ turn b ∷ []) (arcs (stay E bs)) (arcs (going E bs))))
    go (inr h) (inr i) r = simp (h, i) (p_cons refl (p_cons refl r))

empty_of : {A : Type 0} (l : List A) → ((x : A) → Mem x l → ⊥) → l ≡ []
empty_of [] f = refl
empty_of (x ∷ l) f = absurd (f x (m_head refl))

one_of : (n : ℕ) (l : List Bond) → length l ≡ 1 → ((x : Bond) → Mem x l → x.v ≡ n) → map (λ (x : Bond). x.v) l ≡ n ∷ []
one_of n [] e f = absurd (omega arith)
one_of n (x ∷ []) e f = ap (λ (k : ℕ). k ∷ []) (f x (m_head refl))
one_of n (x ∷ y ∷ l) e f = absurd (omega arith)

head_u : ℕ → List Bond → ℕ
head_u n [] = n
head_u n (x ∷ l) = x.u

head_u_one : (n : ℕ) (l : List Bond) {x : Bond} → length l ≡ 1 → Mem x l → head_u n l ≡ x.u
unfolding head_u
head_u_one n [] e i = elim i [ ]
head_u_one n (y ∷ []) e (m_tail x13) = elim x13 [ ]
head_u_one n (y ∷ []) e (m_head h) = ap (λ (b : Bond). b.u) (sym h)
head_u_one n (y ∷ z ∷ l) e i = absurd (omega arith)

flat_single : {A B : Type 0} (f : A → B) (l : List A) → flat (λ x. f x ∷ []) l ≡ map f l
flat_single f [] = refl
flat_single f (x ∷ l) = ap (λ z. f x ∷ z) (flat_single f l)

module _ (ns : List ℕ) (bs : List Bond) (t : Treelike ns bs) (m : more ns ≡ true) where
  -- two end atoms are never joined
  pub ends_apart : (x : Bond) → Mem x (arcs bs) → end_atom (arcs bs) x.u ≡ true → end_atom (arcs bs) x.v ≡ true → ⊥
  ends_apart x i p q =
      let (n, j, f, g) = third_of ns x.u x.v m t.distinct in
      let S : ℕ → Bool = λ k. eqb k x.u || eqb k x.v in
      let yes_u : S x.u ≡ true = ap (λ (z : Bool). z || eqb x.u x.v) (eqb_yes {a = x.u} refl) in
      let not_n : S n ≡ false = ap₂ ◌||◌ (eqb_no f) (eqb_no g) in
      let (y, k, h, l) = t.linked S x.u n (t.ends x i).0 j yes_u not_n in
      go y k l (or_true (eqb y.u x.u) (eqb y.u x.v) h)
    where
      go : (y : Bond) → Mem y (arcs bs) → (eqb y.v x.u || eqb y.v x.v) ≡ false → (eqb y.u x.u ≡ true) ⊎ (eqb y.u x.v ≡ true) → ⊥
      go y k l (inl h) =
          let e : turn y ≡ turn x = end_one (arcs bs) x.u p (arcs_turn bs k) (arcs_turn bs i) (eqb-true y.u x.u h) refl in
          not_both (or_right (eqb y.v x.u) (eqb y.v x.v) (eqb_yes (ap (λ (b : Bond). b.u) e))) l
      go y k l (inr h) =
          let e : turn y ≡ x = end_one (arcs bs) x.v q (arcs_turn bs k) i (eqb-true y.u x.v h) refl in
          not_both (ap (λ (z : Bool). z || eqb y.v x.v) (eqb_yes (ap (λ (b : Bond). b.u) e))) l

  -- every atom has a bond
  degree_pos : (n : ℕ) → Mem n ns → 1 ≤ degree (arcs bs) n
  degree_pos n i =
      let (k, j, f, g) = third_of ns n n m t.distinct in
      let (y, o, h, l) = t.linked (λ z. eqb z n) n k i j (eqb_yes {a = n} refl) (eqb_no f) in
      mem_some (filter (leads n) (arcs bs)) (keep_intro (leads n) (arcs bs) (arcs_turn bs o) h)

  -- there is an end atom
  pub some_end : 1 ≤ length (filter (end_atom (arcs bs)) ns)
  some_end = go (filter (end_atom (arcs bs)) ns) refl
    where
      go : (l : List ℕ) → filter (end_atom (arcs bs)) ns ≡ l → 1 ≤ length l
      go (x ∷ l) e = omega arith
      go [] e =
          let two : (n : ℕ) → Mem n ns → 2 ≤ length (filter (leads n) (arcs bs)) = λ n i. at n i (two (end_atom (arcs bs) n)) in
          let all : 2 * length ns ≤ length (flat (λ n. filter (leads n) (arcs bs)) ns) = flat_length (λ n. filter (leads n) (arcs bs)) 2 ns two in
          let same : length (flat (λ n. filter (leads n) (arcs bs)) ns) ≡ length (arcs bs) = perm_length (group (λ (x : Bond). x.v) ns (arcs bs) t.distinct (λ x i. (t.ends x i).1)) in
          absurd (omega (arith, arcs_length bs, t.count))
        where
          none : {n : ℕ} → Mem n [] → ⊥
          none i = elim i [ ]

          at : (n : ℕ) → Mem n ns → (end_atom (arcs bs) n ≡ true) ⊎ (end_atom (arcs bs) n ≡ false) → 2 ≤ length (filter (leads n) (arcs bs))
          at n i (inl h) = absurd (none (rw e at (keep_intro (end_atom (arcs bs)) ns i h)))
          at n i (inr h) = omega (arith, degree_pos n i, eqb-false (degree (arcs bs) n) 1 h)

  -- the end atoms are the atoms that the going arcs lead to
  pub ends_going : Perm (filter (end_atom (arcs bs)) ns) (map (λ (x : Bond). x.v) (going (end_atom (arcs bs)) bs))
  ends_going =
      let E : ℕ → Bool = end_atom (arcs bs) in
      let X : List Bond = going E bs in
      let g : Perm (flat (λ n. filter (leads n) X) ns) X = group (λ (x : Bond). x.v) ns X t.distinct (λ x i. (t.ends x (keep_mem (λ (x : Bond). E x.v) (arcs bs) i).0).1) in
      let a : Perm (flat (λ n. pick (E n) (n ∷ []) []) ns) (flat (λ n. map (λ (x : Bond). x.v) (filter (leads n) X)) ns) =
      flat_agree (λ n. pick (E n) (n ∷ []) []) (λ n. map (λ (x : Bond). x.v) (filter (leads n) X)) ns (λ n i. at n (two (E n))) in
      p_trans (perm_eq (sym (flat_keep E ns))) (p_trans a (p_trans (perm_eq (sym (map_flat (λ (x : Bond). x.v) (λ n. filter (leads n) X) ns))) (perm_map (λ (x : Bond). x.v) g)))
    where
      at : (n : ℕ) → (end_atom (arcs bs) n ≡ true) ⊎ (end_atom (arcs bs) n ≡ false) → Perm (pick (end_atom (arcs bs) n) (n ∷ []) []) (map (λ (x : Bond). x.v) (filter (leads n) (going (end_atom (arcs bs)) bs)))
      at n (inl h) =
          let same : filter (leads n) (going (end_atom (arcs bs)) bs) ≡ filter (leads n) (arcs bs) =
          sym (keep_both (leads n) (λ (x : Bond). end_atom (arcs bs) x.v) (arcs bs)) ∙ keep_same (λ (x : Bond). (leads n x && end_atom (arcs bs) x.v)) (leads n) (arcs bs) (λ x i. each x (two (leads n x))) in
          let one : map (λ (x : Bond). x.v) (filter (leads n) (arcs bs)) ≡ n ∷ [] =
          one_of n (filter (leads n) (arcs bs)) (eqb-true (degree (arcs bs) n) 1 h) (λ x i. eqb-true x.v n (keep_mem (leads n) (arcs bs) i).1) in
          rw (h, same, one) (perm_refl (n ∷ []))
        where
          each : (x : Bond) → (leads n x ≡ true) ⊎ (leads n x ≡ false) → (leads n x && end_atom (arcs bs) x.v) ≡ leads n x
          each x (inl k) = rw (k, eqb-true x.v n k, h)
          each x (inr k) = rw k
      at n (inr h) =
          let none : filter (leads n) (going (end_atom (arcs bs)) bs) ≡ [] =
          empty_of (filter (leads n) (going (end_atom (arcs bs)) bs)) (λ x i.
          let (j, k) = keep_mem (leads n) (going (end_atom (arcs bs)) bs) i in
          not_both (sym (ap (end_atom (arcs bs)) (eqb-true x.v n k)) ∙ (keep_mem (λ (x : Bond). end_atom (arcs bs) x.v) (arcs bs) j).1) h) in
          rw (h, none) p_nil

  cut_here : Perm (arcs bs) (arcs (stay (end_atom (arcs bs)) bs) ++ arcs (going (end_atom (arcs bs)) bs))
  cut_here = arcs_cut (end_atom (arcs bs)) bs (λ b i. ends_apart b (arcs_mem bs i))

  stay_arcs : arcs (stay (end_atom (arcs bs)) bs) ≡ stay (end_atom (arcs bs)) (arcs bs)
  stay_arcs = arcs_keep (λ (b : Bond). both (not (end_atom (arcs bs) b.u)) (not (end_atom (arcs bs) b.v))) (λ b. both_swap (not (end_atom (arcs bs) b.v)) (not (end_atom (arcs bs) b.u))) bs

  -- a round makes the tree smaller
  pub round_shorter : length (filter (λ (n : ℕ). not (end_atom (arcs bs) n)) ns) < length ns
  round_shorter = omega (arith, some_end, perm_length (keep_split (end_atom (arcs bs)) ns), length-append (filter (λ (n : ℕ). not (end_atom (arcs bs) n)) ns) (filter (end_atom (arcs bs)) ns))

  -- the neighbour of an end atom
  nbr : ℕ → ℕ
  nbr n = head_u n (filter (leads n) (arcs bs))

  nbr_of : (n : ℕ) (x : Bond) → end_atom (arcs bs) n ≡ true → Mem x (arcs bs) → x.v ≡ n → nbr n ≡ x.u
  unfolding nbr
  nbr_of n x e i h = head_u_one n (filter (leads n) (arcs bs)) (eqb-true (degree (arcs bs) n) 1 e) (keep_intro (leads n) (arcs bs) i (eqb_yes h))

  round_linked : (S : ℕ → Bool) (p q : ℕ) → Mem p (filter (λ (n : ℕ). not (end_atom (arcs bs) n)) ns) → Mem q (filter (λ (n : ℕ). not (end_atom (arcs bs) n)) ns) → S p ≡ true → S q ≡ false
      → (x : Bond) × Mem x (arcs (stay (end_atom (arcs bs)) bs)) × (S x.u ≡ true) × (S x.v ≡ false)
  round_linked S p q i j h k =
      let (i₁, i₂) = keep_mem (λ (n : ℕ). not (end_atom (arcs bs) n)) ns i in
      let (j₁, j₂) = keep_mem (λ (n : ℕ). not (end_atom (arcs bs) n)) ns j in
      let (x, l, a, b) = t.linked S⁺ p q i₁ j₁ (keeps p (not-true (end_atom (arcs bs) p) i₂) ∙ h) (keeps q (not-true (end_atom (arcs bs) q) j₂) ∙ k) in
      go x l a b (two (end_atom (arcs bs) x.u)) (two (end_atom (arcs bs) x.v))
    where
      -- an end atom goes with its neighbour
      S⁺ : ℕ → Bool
      S⁺ n = pick (end_atom (arcs bs) n) (S (nbr n)) (S n)

      keeps : (n : ℕ) → end_atom (arcs bs) n ≡ false → S⁺ n ≡ S n
      keeps n e = rw e

      moves : (n : ℕ) → end_atom (arcs bs) n ≡ true → S⁺ n ≡ S (nbr n)
      moves n e = rw e

      go : (x : Bond) → Mem x (arcs bs) → S⁺ x.u ≡ true → S⁺ x.v ≡ false → (end_atom (arcs bs) x.u ≡ true) ⊎ (end_atom (arcs bs) x.u ≡ false) → (end_atom (arcs bs) x.v ≡ true) ⊎ (end_atom (arcs bs) x.v ≡ false)
          → (y : Bond) × Mem y (arcs (stay (end_atom (arcs bs)) bs)) × (S y.u ≡ true) × (S y.v ≡ false)
      go x l a b (inl e) (inl f) = absurd (ends_apart x l e f)
      go x l a b (inl e) (inr f) = absurd (not_both (sym (ap S (nbr_of x.u (turn x) e (arcs_turn bs l) refl)) ∙ sym (moves x.u e) ∙ a) (sym (keeps x.v f) ∙ b))
      go x l a b (inr e) (inl f) = absurd (not_both (sym (keeps x.u e) ∙ a) (sym (ap S (nbr_of x.v x f l refl)) ∙ sym (moves x.v f) ∙ b))
      go x l a b (inr e) (inr f) =
          (x, rw stay_arcs (keep_intro (λ (b : Bond). both (not (end_atom (arcs bs) b.u)) (not (end_atom (arcs bs) b.v))) (arcs bs) l (ap₂ (λ y z. both (not y) (not z)) e f)), sym (keeps x.u e) ∙ a, sym (keeps x.v f) ∙ b)

  -- and leaves a tree
  pub round_tree : Treelike (filter (λ (n : ℕ). not (end_atom (arcs bs) n)) ns) (stay (end_atom (arcs bs)) bs)
  round_tree =
      let E : ℕ → Bool = end_atom (arcs bs) in
      let p : Bond → Bool = λ b. both (not (E b.u)) (not (E b.v)) in
      record {
        distinct = keep_distinct (λ (n : ℕ). not (E n)) ns t.distinct;
        ends = λ x i.
            let (j, k) = keep_mem p (arcs bs) (rw stay_arcs at i) in
            let h = t.ends x j in
            (keep_intro (λ (n : ℕ). not (E n)) ns h.0 (and_true (not (E x.u)) (not (E x.v)) k).0, keep_intro (λ (n : ℕ). not (E n)) ns h.1 (and_true (not (E x.u)) (not (E x.v)) k).1);
        count =
            omega (
              arith,
              t.count,
              perm_length (keep_split E ns),
              length-append (filter (λ (n : ℕ). not (E n)) ns) (filter E ns),
              perm_length ends_going,
              length-map (going E bs) (λ (x : Bond). x.v),
              perm_length cut_here,
              length-append (arcs (stay E bs)) (arcs (going E bs)),
              arcs_length bs,
              arcs_length (stay E bs),
              arcs_length (going E bs),
            );
        linked = round_linked;
      }

-- what hangs under the atoms
abbrev pub below : (ℕ → Kids) → ℕ → List Item
below T n = items n (T n)

abbrev pub to_item : (ℕ → List ℕ) → Bond → Item
to_item kind x = item x.u x.code x.v (kind x.v)

abbrev pub to_bond : Item → Bond
to_bond i = record { u = i.up; v = i.atom; code = i.bond }

gather_items : (kind : ℕ → List ℕ) (T : ℕ → Kids) (n : ℕ) (xs : List Bond) (k : Kids) → items n (gather kind T xs k) ≡ flat (λ x. item n x.code x.v (kind x.v) ∷ below T x.v) xs ++ items n k
gather_items kind T n [] k = refl
gather_items kind T n (x ∷ xs) k =
    ap (λ (z : List Item). item n x.code x.v (kind x.v) ∷ (below T x.v ++ z)) (gather_items kind T n xs k)
    ∙ ap (λ (z : List Item). item n x.code x.v (kind x.v) ∷ z) (sym (append_assoc (below T x.v) (flat (λ x. item n x.code x.v (kind x.v) ∷ below T x.v) xs) (items n k)))

module _ (ns : List ℕ) (bs : List Bond) (t : Treelike ns bs) (m : more ns ≡ true) (kind : ℕ → List ℕ) (T : ℕ → Kids) where
  pub round_items : Perm (flat (below (λ n. gather kind T (to_ends (end_atom (arcs bs)) n (arcs bs)) (T n))) (filter (λ (n : ℕ). not (end_atom (arcs bs) n)) ns)) (map (to_item kind) (going (end_atom (arcs bs)) bs) ++ flat (below T) ns)
  round_items =
      let E : ℕ → Bool = end_atom (arcs bs) in
      let X : List Bond = going E bs in
      let stays : List ℕ = filter (λ (n : ℕ). not (E n)) ns in
      let J : Bond → List Item = λ x. to_item kind x ∷ below T x.v in
      let a₁ : Perm (flat (below (λ n. gather kind T (to_ends E n (arcs bs)) (T n))) stays) (flat (λ n. flat J (to_ends E n (arcs bs)) ++ below T n) stays) =
      flat_agree (below (λ n. gather kind T (to_ends E n (arcs bs)) (T n))) (λ n. flat J (to_ends E n (arcs bs)) ++ below T n) stays (λ n i. at n) in
      let a₂ : Perm (flat (λ n. flat J (to_ends E n (arcs bs)) ++ below T n) stays) (flat (λ n. flat J (to_ends E n (arcs bs))) stays ++ flat (below T) stays) =
      flat_split (λ n. flat J (to_ends E n (arcs bs))) (below T) stays in
      let a₃ : Perm (flat (λ n. flat J (to_ends E n (arcs bs))) stays) (flat J X) =
      p_trans (perm_eq (sym (flat_flat J (λ n. to_ends E n (arcs bs)) stays))) (flat_perm J (p_trans (flat_agree (λ n. to_ends E n (arcs bs)) (λ n. filter (λ (x : Bond). eqb x.u n) X) stays (λ n i. perm_eq (keep_both (λ (x : Bond). eqb x.u n) (λ (x : Bond). E x.v) (arcs bs))))
      (group (λ (x : Bond). x.u) stays X (keep_distinct (λ (n : ℕ). not (E n)) ns t.distinct) from))) in
      let a₄ : Perm (flat J X) (map (to_item kind) X ++ flat (below T) (filter E ns)) =
      p_trans (flat_split (λ x. to_item kind x ∷ []) (λ x. below T x.v) X) (perm_append (perm_eq (flat_single (to_item kind) X)) (p_trans (perm_eq (sym (flat_map (below T) (λ (x : Bond). x.v) X))) (flat_perm (below T) (perm_sym (ends_going ns bs t m))))) in
      let a₅ : Perm (flat (below T) ns) (flat (below T) (filter E ns) ++ flat (below T) stays) =
      p_trans (flat_perm (below T) (keep_split E ns)) (p_trans (perm_eq (flat_append (below T) stays (filter E ns))) (perm_comm (flat (below T) stays) (flat (below T) (filter E ns)))) in
      p_trans a₁ (p_trans a₂ (p_trans (perm_right (flat (below T) stays) (p_trans a₃ a₄))
      (p_trans (perm_eq (append_assoc (map (to_item kind) X) (flat (below T) (filter E ns)) (flat (below T) stays))) (perm_left (map (to_item kind) X) (perm_sym a₅)))))
    where
      perm_comm : (k l : List Item) → Perm (k ++ l) (l ++ k)
      perm_comm k l = p_trans (perm_left k (perm_eq (sym (append-nil l)))) (p_trans (perm_exchange k l []) (perm_left l (perm_eq (append-nil k))))

      from : (x : Bond) → Mem x (going (end_atom (arcs bs)) bs) → Mem x.u (filter (λ (n : ℕ). not (end_atom (arcs bs) n)) ns)
      from x i =
          let (j, k) = keep_mem (λ (x : Bond). end_atom (arcs bs) x.v) (arcs bs) i in
          keep_intro (λ (n : ℕ). not (end_atom (arcs bs) n)) ns (t.ends x j).0 (ap not (no_end (end_atom (arcs bs) x.u) (λ e. ends_apart ns bs t m x j e k)))
        where
          no_end : (c : Bool) → (c ≡ true → ⊥) → c ≡ false
          no_end true f = absurd (f refl)
          no_end false f = refl

      at : (n : ℕ) → Perm (items n (gather kind T (to_ends (end_atom (arcs bs)) n (arcs bs)) (T n))) (flat (λ x. to_item kind x ∷ below T x.v) (to_ends (end_atom (arcs bs)) n (arcs bs)) ++ below T n)
      at n = p_trans (perm_eq (gather_items kind T n (to_ends (end_atom (arcs bs)) n (arcs bs)) (T n))) (perm_right (below T n) (flat_agree (λ x. item n x.code x.v (kind x.v) ∷ below T x.v) (λ x. to_item kind x ∷ below T x.v) (to_ends (end_atom (arcs bs)) n (arcs bs))
          (λ x i. p_cons (ap (λ (k : ℕ). item k x.code x.v (kind x.v)) (sym (eqb-true x.u n (and_true (eqb x.u n) (end_atom (arcs bs) x.v) (keep_mem (λ (x : Bond). both (eqb x.u n) (end_atom (arcs bs) x.v)) (arcs bs) i).1).0))) (perm_refl (below T x.v)))))
