-- The label of a fragment by rounds of peeling, as document 01 has it, and that it does not see an isomorphism.
use Rattle.bitset.proofs.Bools.{two}
use borrow.Author.Tests.{eqb-true}
use mathlib.Core.Path.{◌≡◌, refl, sym, ap, ap₂, subst, ◌∙◌}
use mathlib.Core.Logic.{◌⊎◌, inl, inr}
use mathlib.Core.Bool.{Bool, true, false, not, ◌&&◌}
use mathlib.Core.List.Memᴰ.{head as m_head}
use mathlib.Core.List.Permᴰ.{cons as p_cons}
use mathlib.Core.List.Permᴰ.{nil as p_nil}
use mathlib.Core.List.Permᴰ.{swap as p_swap}
use mathlib.Core.List.Permᴰ.{symm as perm_sym}
use mathlib.Core.List.Permᴰ.{trans as p_trans}
use mathlib.Core.List.{List, [], ◌∷◌, ◌++◌, map, map-map, Memᴰ as Mem, Permᴰ as Perm}
use Prim.Native.Nat.{ℕ, zero, suc, ◌*◌}
use native.Mathlib.Omega.{arith}
use lib.ListN.{length, length-map}
use lib.Dec.{eqb}
use Rattle.molecule.proofs.Perms.{perm_cons, Out, first, later, perm_append, perm_eq, perm_length, Distinct, distinct_perm, perm_map, map_distinct, keep_perm, keep_mem, keep_map, map_agree, eqb_yes, bool_iff}
use Rattle.canonize.specs.Fragment.{Bond, Frag, arcs, end_atom, more, to_ends, turn}
use Rattle.molecule.specs.Lists.{filter}
use Rattle.canonize.proofs.Wrapping.{collapse_canonical}
use Rattle.canonize.proofs.RoseTrees.{Kids, nil, kid, RoseTree, strings, node_code, code, two_code, perm_two}

abbrev pub on_bond : (ℕ → ℕ) → Bond → Bond
on_bond f b = record { u = f b.u; v = f b.v; code = b.code }

abbrev pub both : Bool → Bool → Bool
both a b = a && b

-- what is present, the bonds left, and what hangs under each atom so far
pub record TreePeel : Type 0 where
  pub present : List ℕ
  pub left : List Bond
  pub under : ℕ → Kids

module _ (kind : ℕ → List ℕ) where
  -- the arcs' far ends, each with what hangs under it, before the children k
  abbrev pub gather : (ℕ → Kids) → List Bond → Kids → Kids
  gather T [] k = k
  gather T (x ∷ xs) k = kid x.code x.v (kind x.v) (T x.v) (gather T xs k)

  -- all end atoms E are taken off, and each hands its neighbour what hangs under it
  abbrev pub take_off : (ℕ → Bool) → TreePeel → TreePeel
  take_off E d = record {
    present = filter (λ (n : ℕ). not (E n)) d.present;
    left = filter (λ (b : Bond). both (not (E b.u)) (not (E b.v))) d.left;
    under = λ n. gather d.under (to_ends E n (arcs d.left)) (d.under n);
  }

  abbrev pub tree_round : TreePeel → TreePeel
  tree_round d = take_off (end_atom (arcs d.left)) d

  unfoldable pub tree_peel : ℕ → TreePeel → TreePeel
  tree_peel zero d = d
  tree_peel (suc k) d = elim (more d.present) [ true ↦ tree_peel k (tree_round d) | false ↦ d ]

  pub settle_more : (k : ℕ) (d : TreePeel) → more d.present ≡ true → tree_peel (suc k) d ≡ tree_peel k (tree_round d)
  unfolding tree_peel
  settle_more k d e = rw (e, tree_peel)

  pub settle_stop : (k : ℕ) (d : TreePeel) → more d.present ≡ false → tree_peel (suc k) d ≡ d
  unfolding tree_peel
  settle_stop k d e = rw (e, tree_peel)

  abbrev pub tree_at : TreePeel → ℕ → RoseTree
  tree_at d n = record { atom = n; kind = kind n; kids = d.under n }

  -- one atom left, or two with their bond; nothing else is left of a tree
  abbrev pub tree_two : List Bond → TreePeel → List ℕ
  tree_two [] d = []
  tree_two (b ∷ []) d = two_code b.code (tree_at d b.u) (tree_at d b.v)
  tree_two (b ∷ c ∷ r) d = []

  abbrev pub tree_last : List ℕ → TreePeel → List ℕ
  tree_last [] d = []
  tree_last (a ∷ []) d = code (tree_at d a)
  tree_last (a ∷ b ∷ []) d = tree_two d.left d
  tree_last (a ∷ b ∷ c ∷ r) d = []

  abbrev pub tree_finish : TreePeel → List ℕ
  tree_finish d = tree_last d.present d

abbrev pub tree_start : Frag → TreePeel
tree_start a = record { present = a.atoms; left = a.bonds; under = λ n. nil }

unfoldable pub tree_label : Frag → List ℕ
tree_label a = tree_finish a.kind (tree_peel a.kind (length a.atoms) (tree_start a))

-- A map of the atoms of a one to one onto those of b that keeps elements, and bonds with their codes
pub record Joined (a b : Frag) : Type 0 where
  pub f : ℕ → ℕ
  pub onto : Perm (map f a.atoms) b.atoms
  pub kinds : (n : ℕ) → Mem n a.atoms → b.kind (f n) ≡ a.kind n
  pub bonds : Perm (map (on_bond f) (arcs a.bonds)) (arcs b.bonds)

-- well formed: the atoms are different and the bonds' ends are among them
pub record FormedFrag (a : Frag) : Type 0 where
  pub distinct : Distinct a.atoms
  pub ends : (x : Bond) → Mem x (arcs a.bonds) → Mem x.u a.atoms × Mem x.v a.atoms

more_same : (k l : List ℕ) → length k ≡ length l → more k ≡ more l
more_same [] [] e = refl
more_same [] (x ∷ l) e = absurd (omega arith)
more_same (x ∷ k) [] e = absurd (omega arith)
more_same (x ∷ []) (y ∷ []) e = refl
more_same (x ∷ []) (y ∷ z ∷ l) e = absurd (omega arith)
more_same (x ∷ z ∷ k) (y ∷ []) e = absurd (omega arith)
more_same (x ∷ w ∷ []) (y ∷ z ∷ []) e = refl
more_same (x ∷ w ∷ []) (y ∷ z ∷ t ∷ l) e = absurd (omega arith)
more_same (x ∷ w ∷ s ∷ k) (y ∷ z ∷ []) e = absurd (omega arith)
more_same (x ∷ w ∷ s ∷ k) (y ∷ z ∷ t ∷ l) e = refl

pub arcs_length : (bs : List Bond) → length (arcs bs) ≡ 2 * length bs
arcs_length [] = refl
arcs_length (b ∷ bs) = omega (arith, arcs_length bs)

-- a test that does not see the direction
pub arcs_keep : (p : Bond → Bool) → ((b : Bond) → p (turn b) ≡ p b) → (bs : List Bond) → arcs (filter p bs) ≡ filter p (arcs bs)
arcs_keep p s [] = refl
arcs_keep p s (b ∷ bs) = go (two (p b)) (arcs_keep p s bs)
  where
    go : (p b ≡ true) ⊎ (p b ≡ false) → arcs (filter p bs) ≡ filter p (arcs bs) → arcs (filter p (b ∷ bs)) ≡ filter p (arcs (b ∷ bs))
    go (inl h) r = rw (s b, h) (ap (λ (l : List Bond). b ∷ turn b ∷ l) r)
    go (inr h) r = rw (s b, h) r

pub both_swap : (a b : Bool) → both a b ≡ both b a
both_swap true true = refl
both_swap true false = refl
both_swap false true = refl
both_swap false false = refl

pub gather_strings : (kind : ℕ → List ℕ) (T : ℕ → Kids) (xs : List Bond) (k : Kids) → strings (gather kind T xs k) ≡ map (λ (x : Bond). x.code ∷ node_code (kind x.v) (T x.v)) xs ++ strings k
unfolding strings
gather_strings kind T [] k = refl
gather_strings kind T (x ∷ xs) k = ap (λ (l : List (List ℕ)). (x.code ∷ node_code (kind x.v) (T x.v)) ∷ l) (gather_strings kind T xs k)

module _ (s : List ℕ) (f : ℕ → ℕ) (kind kind₂ : ℕ → List ℕ) (inj : (a b : ℕ) → Mem a s → Mem b s → f a ≡ f b → a ≡ b) (el : (n : ℕ) → Mem n s → kind₂ (f n) ≡ kind n) where
  pub record Alike (d e : TreePeel) : Type 0 where
    pub present : Perm (map f d.present) e.present
    pub left : Perm (map (on_bond f) (arcs d.left)) (arcs e.left)
    pub under : (n : ℕ) → Mem n s → Perm (strings (d.under n)) (strings (e.under (f n)))
    pub inside : (n : ℕ) → Mem n d.present → Mem n s
    pub ends : (x : Bond) → Mem x (arcs d.left) → Mem x.u s × Mem x.v s

  eqb_image : (a b : ℕ) → Mem a s → Mem b s → eqb (f a) (f b) ≡ eqb a b
  eqb_image a b m n = bool_iff (eqb (f a) (f b)) (eqb a b) (λ h. eqb_yes (inj a b m n (eqb-true (f a) (f b) h))) (λ h. eqb_yes (ap f (eqb-true a b h)))

  end_image : (d e : TreePeel) → Alike d e → (n : ℕ) → Mem n s → end_atom (arcs e.left) (f n) ≡ end_atom (arcs d.left) n
  end_image d e r n m =
      let p : Perm (map (on_bond f) (filter (λ (x : Bond). eqb x.v n) (arcs d.left))) (filter (λ (x : Bond). eqb x.v (f n)) (arcs e.left)) =
      p_trans (perm_eq (sym (keep_map (on_bond f) (λ (x : Bond). eqb x.v n) (λ (x : Bond). eqb x.v (f n)) (arcs d.left) (λ x k. eqb_image x.v n (r.ends x k).1 m)))) (keep_perm (λ (x : Bond). eqb x.v (f n)) r.left) in
      ap (λ (k : ℕ). eqb k 1) (sym (sym (length-map (filter (λ (x : Bond). eqb x.v n) (arcs d.left)) (on_bond f)) ∙ perm_length p))

  pub node_alike : (d e : TreePeel) → Alike d e → (n : ℕ) → Mem n s → node_code (kind n) (d.under n) ≡ node_code (kind₂ (f n)) (e.under (f n))
  node_alike d e r n m = collapse_canonical (p_cons (sym (el n m)) (r.under n m))

  under_alike : (d e : TreePeel) → Alike d e → (E F : ℕ → Bool) → ((n : ℕ) → Mem n s → F (f n) ≡ E n) → (n : ℕ) → Mem n s
      → Perm (strings (gather kind d.under (to_ends E n (arcs d.left)) (d.under n))) (strings (gather kind₂ e.under (to_ends F (f n) (arcs e.left)) (e.under (f n))))
  under_alike d e r E F same n m =
      let G : Bond → List ℕ = λ x. x.code ∷ node_code (kind x.v) (d.under x.v) in
      let H : Bond → List ℕ = λ x. x.code ∷ node_code (kind₂ x.v) (e.under x.v) in
      let p : Bond → Bool = λ x. both (eqb x.u n) (E x.v) in
      let q : Bond → Bool = λ x. both (eqb x.u (f n)) (F x.v) in
      let sel : filter q (map (on_bond f) (arcs d.left)) ≡ map (on_bond f) (filter p (arcs d.left)) =
      keep_map (on_bond f) p q (arcs d.left) (λ x k. ap₂ both (eqb_image x.u n (r.ends x k).0 m) (same x.v (r.ends x k).1)) in
      let agree : map G (filter p (arcs d.left)) ≡ map H (map (on_bond f) (filter p (arcs d.left))) =
      map_agree G (λ (x : Bond). H (on_bond f x)) (filter p (arcs d.left)) (λ x k. ap (λ (l : List ℕ). x.code ∷ l) (node_alike d e r x.v (r.ends x (keep_mem p (arcs d.left) k).0).1)) ∙ sym (map-map H (on_bond f) (filter p (arcs d.left))) in
      let handed : Perm (map G (filter p (arcs d.left))) (map H (filter q (arcs e.left))) =
      p_trans (perm_eq (agree ∙ ap (map H) (sym sel))) (perm_map H (keep_perm q r.left)) in
      rw (gather_strings kind d.under (filter p (arcs d.left)) (d.under n), gather_strings kind₂ e.under (filter q (arcs e.left)) (e.under (f n))) (perm_append handed (r.under n m))

  round_alike : (d e : TreePeel) → Alike d e → Alike (tree_round kind d) (tree_round kind₂ e)
  round_alike d e r =
      let E : ℕ → Bool = end_atom (arcs d.left) in
      let F : ℕ → Bool = end_atom (arcs e.left) in
      let same : (n : ℕ) → Mem n s → F (f n) ≡ E n = end_image d e r in
      let p : Bond → Bool = λ b. both (not (E b.u)) (not (E b.v)) in
      let q : Bond → Bool = λ b. both (not (F b.u)) (not (F b.v)) in
      let ap_keep : arcs (filter p d.left) ≡ filter p (arcs d.left) = arcs_keep p (λ b. both_swap (not (E b.v)) (not (E b.u))) d.left in
      let aq_keep : arcs (filter q e.left) ≡ filter q (arcs e.left) = arcs_keep q (λ b. both_swap (not (F b.v)) (not (F b.u))) e.left in
      record {
        present = p_trans (perm_eq (sym (keep_map f (λ (n : ℕ). not (E n)) (λ (n : ℕ). not (F n)) d.present (λ n m. ap not (same n (r.inside n m)))))) (keep_perm (λ (n : ℕ). not (F n)) r.present);
        left = rw (ap_keep, aq_keep) (p_trans (perm_eq (sym (keep_map (on_bond f) p q (arcs d.left) (λ x m. ap₂ both (ap not (same x.u (r.ends x m).0)) (ap not (same x.v (r.ends x m).1)))))) (keep_perm q r.left));
        under = under_alike d e r E F same;
        inside = λ n m. r.inside n (keep_mem (λ (n : ℕ). not (E n)) d.present m).0;
        ends = λ x m. r.ends x (keep_mem p (arcs d.left) (rw ap_keep at m)).0;
      }

  settle_alike : (k : ℕ) (d e : TreePeel) → Alike d e → Alike (tree_peel kind k d) (tree_peel kind₂ k e)
  unfolding tree_peel
  settle_alike zero d e r = r
  settle_alike (suc k) d e r = go (two (more d.present)) (settle_alike k (tree_round kind d) (tree_round kind₂ e) (round_alike d e r))
    where
      same : more d.present ≡ more e.present
      same = more_same d.present e.present (sym (length-map d.present f) ∙ perm_length r.present)

      go : (more d.present ≡ true) ⊎ (more d.present ≡ false) → Alike (tree_peel kind k (tree_round kind d)) (tree_peel kind₂ k (tree_round kind₂ e)) → Alike (tree_peel kind (suc k) d) (tree_peel kind₂ (suc k) e)
      go (inl h) i = rw (settle_more kind k d h, settle_more kind₂ k e (sym same ∙ h)) i
      go (inr h) i = rw (settle_stop kind k d h, settle_stop kind₂ k e (sym same ∙ h)) r

  last_two_alike : (d e : TreePeel) → Alike d e → (bs cs : List Bond) → Perm (map (on_bond f) (arcs bs)) (arcs cs) → ((x : Bond) → Mem x (arcs bs) → Mem x.u s × Mem x.v s) → tree_two kind bs d ≡ tree_two kind₂ cs e
  unfolding two_code
  last_two_alike d e r [] [] p i = refl
  last_two_alike d e r [] (c ∷ cs) p i = absurd (omega (arith, perm_length p))
  last_two_alike d e r (b ∷ bs) [] p i = absurd (omega (arith, perm_length p))
  last_two_alike d e r (b ∷ []) (c ∷ []) p i = go (perm_two p)
    where
      left : node_code (kind b.u) (d.under b.u) ≡ node_code (kind₂ (f b.u)) (e.under (f b.u))
      left = node_alike d e r b.u (i b (m_head refl)).0

      right : node_code (kind b.v) (d.under b.v) ≡ node_code (kind₂ (f b.v)) (e.under (f b.v))
      right = node_alike d e r b.v (i b (m_head refl)).1

      go : ((on_bond f b ≡ c) × (on_bond f (turn b) ≡ turn c)) ⊎ ((on_bond f b ≡ turn c) × (on_bond f (turn b) ≡ c)) → tree_two kind (b ∷ []) d ≡ tree_two kind₂ (c ∷ []) e
      go (inl h) = subst (λ (z : Bond). tree_two kind (b ∷ []) d ≡ tree_two kind₂ (z ∷ []) e) h.0 (ap (λ (l : List ℕ). b.code ∷ l) (collapse_canonical (p_cons left (p_cons right p_nil))))
      go (inr h) = subst (λ (z : Bond). tree_two kind (b ∷ []) d ≡ tree_two kind₂ (z ∷ []) e) h.1 (ap (λ (l : List ℕ). b.code ∷ l) (collapse_canonical (p_swap left right)))
  last_two_alike d e r (b ∷ []) (c ∷ c₂ ∷ cs) p i = absurd (omega (arith, perm_length p))
  last_two_alike d e r (b ∷ b₂ ∷ bs) (c ∷ []) p i = absurd (omega (arith, perm_length p))
  last_two_alike d e r (b ∷ b₂ ∷ bs) (c ∷ c₂ ∷ cs) p i = refl

  last_alike : (d e : TreePeel) → Alike d e → (k l : List ℕ) → Perm (map f k) l → ((n : ℕ) → Mem n k → Mem n s) → tree_last kind k d ≡ tree_last kind₂ l e
  last_alike d e r [] [] p i = refl
  last_alike d e r [] (x ∷ l) p i = absurd (omega (arith, perm_length p))
  last_alike d e r (x ∷ k) [] p i = absurd (omega (arith, perm_length p))
  last_alike d e r (x ∷ []) (y ∷ []) p i = let (z, o, q) = perm_cons p in go o
    where
      go : {z : List ℕ} → Out (f x) (y ∷ []) z → tree_last kind (x ∷ []) d ≡ tree_last kind₂ (y ∷ []) e
      go (first h) = rw (sym h) (node_alike d e r x (i x (m_head refl)))
      go (later o) = elim o [ ]
  last_alike d e r (x ∷ []) (y ∷ z ∷ l) p i = absurd (omega (arith, perm_length p))
  last_alike d e r (x ∷ z ∷ k) (y ∷ []) p i = absurd (omega (arith, perm_length p))
  last_alike d e r (x ∷ w ∷ []) (y ∷ z ∷ []) p i = last_two_alike d e r d.left e.left r.left r.ends
  last_alike d e r (x ∷ w ∷ []) (y ∷ z ∷ t ∷ l) p i = absurd (omega (arith, perm_length p))
  last_alike d e r (x ∷ w ∷ v ∷ k) (y ∷ z ∷ []) p i = absurd (omega (arith, perm_length p))
  last_alike d e r (x ∷ w ∷ v ∷ k) (y ∷ z ∷ t ∷ l) p i = refl

  finish_alike : (d e : TreePeel) → Alike d e → tree_finish kind d ≡ tree_finish kind₂ e
  finish_alike d e r = last_alike d e r d.present e.present r.present r.inside

-- isomorphic fragments have equal labels, of whatever shape
pub label_of_joined : (a b : Frag) → FormedFrag a → FormedFrag b → Joined a b → tree_label a ≡ tree_label b
unfolding tree_label strings
label_of_joined a b g h j =
    let inj : (m n : ℕ) → Mem m a.atoms → Mem n a.atoms → j.f m ≡ j.f n → m ≡ n = λ m n p q e. map_distinct j.f (distinct_perm (perm_sym j.onto) h.distinct) p q e in
    let r : Alike a.atoms j.f a.kind b.kind inj j.kinds (tree_start a) (tree_start b) =
    record { present = j.onto; left = j.bonds; under = λ n m. p_nil; inside = λ n m. m; ends = g.ends } in
    let same : length a.atoms ≡ length b.atoms = sym (length-map a.atoms j.f) ∙ perm_length j.onto in
    rw (← same) (finish_alike a.atoms j.f a.kind b.kind inj j.kinds (tree_peel a.kind (length a.atoms) (tree_start a)) (tree_peel b.kind (length a.atoms) (tree_start b))
    (settle_alike a.atoms j.f a.kind b.kind inj j.kinds (length a.atoms) (tree_start a) (tree_start b) r))
