-- A peeling by words: the set L of the bonds left, and for each bond taken off the string X that it handed over.
use borrow.Author.Tests.{eqb-true, le-ltb, lt-ltb, not-true}
use mathlib.Core.Path.{◌≡◌, refl, sym, ap, ap₂, ◌∙◌}
use mathlib.Core.Logic.{◌⊎◌, inl, inr, ◌≢◌, ⊎_elim}
use mathlib.Core.Bool.{Bool, true, false, not, ◌&&◌, ◌||◌}
use mathlib.Core.List.Memᴰ.{append_left as mem_left}
use mathlib.Core.List.Memᴰ.{head as m_head}
use mathlib.Core.List.Memᴰ.{map as mem_map}
use mathlib.Core.List.Memᴰ.{tail as m_tail}
use mathlib.Core.List.Permᴰ.{cons as p_cons}
use mathlib.Core.List.Permᴰ.{middle as perm_middle}
use mathlib.Core.List.Permᴰ.{symm as perm_sym}
use mathlib.Core.List.Permᴰ.{trans as p_trans}
use mathlib.Core.List.{List, [], ◌∷◌, ◌++◌, map, Memᴰ as Mem, Permᴰ as Perm}
use Prim.Native.Nat.{ℕ, zero, suc, ◌+◌, ◌*◌, ◌≤◌, ◌<◌}
use native.Mathlib.Omega.{arith}
use lib.ListN.{length, length-append, length-map}
use lib.Bits.{bit_and, and_self}
use lib.Dec.{eqb}
use Rattle.bitset.specs.Bits.{bit, Sub, has, diff, size, members}
use Rattle.bitset.proofs.Bools.{and_true, or_true, or_left, or_right, two}
use Rattle.bitset.proofs.Laws.{bit_le, bit-and, bit_diff, bit_empty, same, sub_trans, member_lt, size_empty, size_le, members_size, members_done}
use Rattle.bitset.proofs.Members.{members_bit, bit_members, in_or_out, sub_of, and_in, diff_in, diff_sub, set_of_in, set_of_has}
use Rattle.molecule.specs.Lists.{Bytes, filter, pick}
use Rattle.molecule.specs.Record.{bonds, end_a, end_b, code}
use Rattle.molecule.specs.Touch.{bonds_at}
use Rattle.molecule.specs.Tree.{Formed}
use Rattle.molecule.specs.Connected.{Own}
use Rattle.molecule.proofs.Components.{own_sub}
use Rattle.molecule.proofs.Touching.{at_in, at_has}
use Rattle.molecule.proofs.SetLists.{only, members_keep, members_less}
use Rattle.molecule.proofs.Perms.{not_both, perm_append, perm_eq, perm_length, perm_mem, perm_map, map-append, map_agree, keep_mem, keep_intro, keep_map, eqb_yes}
use Rattle.molecule.proofs.SetLists.{members_keep, members_less}
use Rattle.canonize.specs.Strings.{collapse}
use Rattle.canonize.specs.Fragment.{Bond, Peel, more, turn, arcs, degree, end_atom, to_ends, start, round, peel, two_left, finish, label_of}
use Rattle.canonize.specs.Label.{own_string, bond_of, bonds_of, fragment, label}
use Rattle.canonize.specs.Inner.Words.{is_tip, has_tip, outer, tip, far, received, strings_at}
use Rattle.canonize.proofs.Wrapping.{collapse_canonical}
use Rattle.canonize.proofs.RoseTrees.{own_few, node_code_length}
use Rattle.canonize.proofs.Pairing.{Item, items, items_length}
use Rattle.canonize.proofs.Sums.{flat}
use Rattle.canonize.proofs.Peeling.{TreePeel, tree_start, tree_round, arcs_length}
use Rattle.canonize.proofs.Rounds.{Treelike, stay, arcs_mem, below, to_bond, ends_apart, round_shorter, round_tree}
use Rattle.canonize.proofs.Hanging.{fits_good, Clean, Hanging, start_hanging, round_hanging}
use Rattle.canonize.proofs.OnStrings.{peel_more, peel_stop, Says, says_code, start_says, round_says}
use Rattle.canonize.proofs.Choose.{more_bonds}

-- what is left of a peeling gives the label
abbrev pub after : ℕ → Peel → Bytes
after f z = let w : Peel = peel f z in finish w.present w

-- L and X say what the peeling z of s has come to. The trees under its atoms hold each bond taken off once, and its strings are their codes
pub record Peeled (r : Bytes) (s L : ℕ) (X : ℕ → Bytes) (z : Peel) : Type 0 where
  pub clean : Clean (fragment r s)
  pub within : Sub L s
  pub left : z.left ≡ bonds_of r L
  pub tree : Treelike z.present z.left
  pub own : (v : ℕ) → Mem v z.present → Perm (strings_at r s L X v) (z.own v)
  pub trees : TreePeel
  pub held : Hanging (fragment r s) trees
  pub says : Says (own_string r) trees z
  pub rest : (f : ℕ) → length z.present ≤ f → label r s ≡ after f z

-- ---- arcs by the numbers of their bonds

-- v is an end of bond i, as a test; so the bonds at v are those of which it is
abbrev end_of : Bytes → ℕ → ℕ → Bool
end_of r v i = eqb (end_a r i) v || eqb (end_b r i) v

at_test : (r : Bytes) (v i : ℕ) → bit (bonds_at r v) i ≡ 1 → end_of r v i ≡ true
at_test r v i h = ⊎_elim (λ e. or_left (eqb (end_a r i) v) (eqb (end_b r i) v) (eqb_yes e)) (λ e. or_right (eqb (end_a r i) v) (eqb (end_b r i) v) (eqb_yes e))
    (at_in r v i h).1

test_at : (r : Bytes) (v i : ℕ) → i < bonds r → end_of r v i ≡ true → bit (bonds_at r v) i ≡ 1
test_at r v i l e = at_has r v i l (⊎_elim (λ h. inl (eqb-true (end_a r i) v h)) (λ h. inr (eqb-true (end_b r i) v h))
    (or_true (eqb (end_a r i) v) (eqb (end_b r i) v) e))

keep_two : (p : Bond → Bool) (x y : Bond) (l : List Bond) → filter p (x ∷ y ∷ l) ≡ filter p (x ∷ y ∷ []) ++ filter p l
keep_two p x y l = go (two (p x)) (two (p y))
  where
    go : (p x ≡ true) ⊎ (p x ≡ false) → (p y ≡ true) ⊎ (p y ≡ false) → filter p (x ∷ y ∷ l) ≡ filter p (x ∷ y ∷ []) ++ filter p l
    go (inl h) (inl k) = rw (h, k)
    go (inl h) (inr k) = rw (h, k)
    go (inr h) (inl k) = rw (h, k)
    go (inr h) (inr k) = rw (h, k)

-- of each bond that passes the test q one arc passes the test p, and of the others none
arcs_by : {C : Type 0} (bond : ℕ → Bond) (p : Bond → Bool) (q : ℕ → Bool) (G : Bond → C) (Y : ℕ → C) (l : List ℕ)
    → ((i : ℕ) → Mem i l → map G (filter p (bond i ∷ turn (bond i) ∷ [])) ≡ pick (q i) (Y i ∷ []) []) → map G (filter p (arcs (map bond l))) ≡ map Y (filter q l)
arcs_by bond p q G Y [] h = refl
arcs_by {C} bond p q G Y (i ∷ l) h =
    ap (map G) (keep_two p (bond i) (turn (bond i)) (arcs (map bond l)))
    ∙ map-append G (filter p (bond i ∷ turn (bond i) ∷ [])) (filter p (arcs (map bond l)))
    ∙ ap₂ ◌++◌ (h i (m_head refl)) (arcs_by bond p q G Y l (λ j m. h j (m_tail m)))
    ∙ go (two (q i))
  where
    go : (q i ≡ true) ⊎ (q i ≡ false) → pick (q i) (Y i ∷ []) [] ++ map Y (filter q l) ≡ map Y (filter q (i ∷ l))
    go (inl e) = rw e
    go (inr e) = rw e

module _ {r : Bytes} (formed : Formed r) (L : ℕ) (own : Own r L) where
  -- the ends of a member are different
  apart : (i : ℕ) → Mem i (members L) → end_a r i ≢ end_b r i
  apart i m = (formed.ends i (member_lt (bonds r) L i own (members_bit L i m))).2

  at_members : (v : ℕ) → filter (end_of r v) (members L) ≡ members (bit_and (bonds_at r v) L)
  at_members v =
      members_keep (end_of r v) L (bit_and (bonds_at r v) L)
      (λ i h. (omega (arith, bit-and (bonds_at r v) L i, bit_le L i), at_test r v i (omega (arith, bit-and (bonds_at r v) L i, bit_le (bonds_at r v) i))))
      (λ i h e. and_in (bonds_at r v) L i (test_at r v i (member_lt (bonds r) L i own h) e) h)

  pub degree_size : (v : ℕ) → degree (arcs (bonds_of r L)) v ≡ size (bit_and (bonds_at r v) L)
  degree_size v =
      sym (length-map (filter (λ (x : Bond). eqb x.v v) (arcs (bonds_of r L))) (λ (x : Bond). x.code))
      ∙ ap length (arcs_by (bond_of r) (λ (x : Bond). eqb x.v v) (end_of r v) (λ (x : Bond). x.code) (code r) (members L)
      (λ i m. each i (apart i m) (two (eqb (end_a r i) v)) (two (eqb (end_b r i) v))))
      ∙ length-map (filter (end_of r v) (members L)) (code r)
      ∙ ap length (at_members v)
      ∙ members_size (bit_and (bonds_at r v) L) 0
    where
      each : (i : ℕ) → end_a r i ≢ end_b r i → (eqb (end_a r i) v ≡ true) ⊎ (eqb (end_a r i) v ≡ false) → (eqb (end_b r i) v ≡ true) ⊎ (eqb (end_b r i) v ≡ false)
          → map (λ (x : Bond). x.code) (filter (λ (x : Bond). eqb x.v v) (bond_of r i ∷ turn (bond_of r i) ∷ [])) ≡ pick (end_of r v i) (code r i ∷ []) []
      each i n (inl h) (inl k) = absurd (n (eqb-true (end_a r i) v h ∙ sym (eqb-true (end_b r i) v k)))
      each i n (inl h) (inr k) = rw (h, k)
      each i n (inr h) (inl k) = rw (h, k)
      each i n (inr h) (inr k) = rw (h, k)

  -- the end atoms by words are those of the bonds
  pub tip_is : (v : ℕ) → end_atom (arcs (bonds_of r L)) v ≡ is_tip r L v
  unfolding is_tip
  tip_is v = ap (λ (n : ℕ). eqb n 1) (degree_size v)

  tips : end_atom (arcs (bonds_of r L)) ≡ is_tip r L
  tips i v = tip_is v i

-- ---- more rounds than enough change nothing

peel_enough : (f g : ℕ) (z : Peel) → Treelike z.present z.left → length z.present ≤ f → length z.present ≤ g → peel f z ≡ peel g z
peel_enough zero g z t h k = absurd (omega (arith, t.count))
peel_enough (suc f) zero z t h k = absurd (omega (arith, t.count))
peel_enough (suc f) (suc g) z t h k = go (two (more z.present)) (λ e. let l : length (round z).present < length z.present = round_shorter z.present z.left t e in peel_enough f g (round z) (round_tree z.present z.left t e) (omega arith) (omega arith))
  where
    go : (more z.present ≡ true) ⊎ (more z.present ≡ false) → (more z.present ≡ true → peel f (round z) ≡ peel g (round z)) → peel (suc f) z ≡ peel (suc g) z
    go (inl e) i = peel_more f z e ∙ i e ∙ sym (peel_more g z e)
    go (inr e) i = peel_stop (suc f) z e ∙ sym (peel_stop (suc g) z e)

after_enough : (f g : ℕ) (z : Peel) → Treelike z.present z.left → length z.present ≤ f → length z.present ≤ g → after f z ≡ after g z
after_enough f g z t h k = ap (λ (w : Peel). finish w.present w) (peel_enough f g z t h k)

-- ---- the start: all bonds are left

pub peeled_start : {r : Bytes} {s : ℕ} → Clean (fragment r s) → (X : ℕ → Bytes) → Peeled r s s X (start (fragment r s))
unfolding label label_of strings_at received
peeled_start {r} {s} c X = record {
  clean = c;
  within = and_self s;
  left = refl;
  tree = c.tree;
  own = λ v m. perm_eq (ap (λ (l : List ℕ). own_string r v ∷ map X l) (members_done (received r s s v) (none v)));
  trees = tree_start (fragment r s);
  held = start_hanging (fragment r s) c;
  says = start_says (fragment r s);
  rest = λ f h. after_enough (length (fragment r s).atoms) f (start (fragment r s)) c.tree (omega arith) h;
}
  where
    none : (v : ℕ) → received r s s v ≡ 0
    none v = same (λ i. omega (arith, bit_diff (bit_and (bonds_at r v) s) s i, bit-and (bonds_at r v) s i, bit_empty i))

-- ---- what a round takes off

module _ (r : Bytes) (L i : ℕ) where
  pub outer_in : bit (outer r L) i ≡ 1 → (bit L i ≡ 1) × (has_tip r L i ≡ true)
  unfolding outer
  outer_in h =
      let w = and_true (has L i) (has_tip r L i) (set_of_in (λ j. has L j && has_tip r L j) (bonds r) i h).1 in
      (eqb-true (bit L i) 1 w.0, w.1)

  pub outer_has : Own r L → bit L i ≡ 1 → has_tip r L i ≡ true → bit (outer r L) i ≡ 1
  unfolding outer
  outer_has own h e = set_of_has (λ j. has L j && has_tip r L j) (bonds r) i (member_lt (bonds r) L i own h) (rw (eqb_yes h, e))

pub outer_sub : (r : Bytes) (L : ℕ) → Sub (outer r L) L
outer_sub r L = sub_of (outer r L) L (λ i h. (outer_in r L i h).0)

module _ {r : Bytes} (formed : Formed r) (L : ℕ) (own : Own r L) where
  -- the bonds that stay
  stay_words : stay (is_tip r L) (bonds_of r L) ≡ bonds_of r (diff L (outer r L))
  stay_words =
      keep_map (bond_of r) (λ i. not (is_tip r L (end_a r i)) && not (is_tip r L (end_b r i))) (λ (b : Bond). not (is_tip r L b.u) && not (is_tip r L b.v)) (members L) (λ i m. refl)
      ∙ ap (map (bond_of r)) (members_keep (λ i. not (is_tip r L (end_a r i)) && not (is_tip r L (end_b r i))) L (diff L (outer r L)) kept keeps)
    where
      neither : (a b : Bool) → ((a || b) ≡ true → ⊥) → (not a && not b) ≡ true
      neither true b f = absurd (f refl)
      neither false true f = absurd (f refl)
      neither false false f = refl

      either : (a b : Bool) → (not a && not b) ≡ true → (a || b) ≡ true → ⊥
      either true b e f = not_both e refl
      either false true e f = not_both e refl
      either false false e f = not_both f refl

      kept : (i : ℕ) → bit (diff L (outer r L)) i ≡ 1 → (bit L i ≡ 1) × ((not (is_tip r L (end_a r i)) && not (is_tip r L (end_b r i))) ≡ true)
      kept i h =
          let k : bit L i ≡ 1 = omega (arith, bit_diff L (outer r L) i, bit_le L i) in
          (k, neither (is_tip r L (end_a r i)) (is_tip r L (end_b r i)) (λ e. omega (arith, bit_diff L (outer r L) i, outer_has r L i own k e, bit_le L i)))

      keeps : (i : ℕ) → bit L i ≡ 1 → (not (is_tip r L (end_a r i)) && not (is_tip r L (end_b r i))) ≡ true → bit (diff L (outer r L)) i ≡ 1
      keeps i h e = go (in_or_out (outer r L) i)
        where
          go : (bit (outer r L) i ≡ 1) ⊎ (bit (outer r L) i ≡ 0) → bit (diff L (outer r L)) i ≡ 1
          go (inl k) = absurd (either (is_tip r L (end_a r i)) (is_tip r L (end_b r i)) e (outer_in r L i k).1)
          go (inr k) = diff_in L (outer r L) i h k

  -- the bonds at v that go
  going_members : (v : ℕ) → filter (λ i. end_of r v i && has_tip r L i) (members L) ≡ members (bit_and (bonds_at r v) (outer r L))
  going_members v = members_keep (λ i. end_of r v i && has_tip r L i) L (bit_and (bonds_at r v) (outer r L))
      (λ i h.
      let w = outer_in r L i (omega (arith, bit-and (bonds_at r v) (outer r L) i, bit_le (outer r L) i)) in
      (w.0, rw (at_test r v i (omega (arith, bit-and (bonds_at r v) (outer r L) i, bit_le (bonds_at r v) i)), w.1)))
      (λ i h e.
      let w = and_true (end_of r v i) (has_tip r L i) e in
      and_in (bonds_at r v) (outer r L) i (test_at r v i (member_lt (bonds r) L i own h) w.0) (outer_has r L i own h w.1))

  -- what is handed to an atom that stays: Y i for each bond i at it that goes
  handed_words : {C : Type 0} (v : ℕ) → is_tip r L v ≡ false → (G : ℕ → ℕ → C) (Y : ℕ → C) → ((i : ℕ) → bit (outer r L) i ≡ 1 → Y i ≡ G (code r i) (tip r L i))
      → map (λ (x : Bond). G x.code x.v) (to_ends (is_tip r L) v (arcs (bonds_of r L))) ≡ map Y (members (bit_and (bonds_at r v) (outer r L)))
  unfolding tip
  handed_words {C} v stays G Y h =
      arcs_by (bond_of r) (λ (x : Bond). eqb x.u v && is_tip r L x.v) (λ i. end_of r v i && has_tip r L i) (λ (x : Bond). G x.code x.v) Y (members L)
      (λ i m. each i (apart formed L own i m) (members_bit L i m) (two (eqb (end_a r i) v)) (two (eqb (end_b r i) v)) (two (is_tip r L (end_a r i))) (two (is_tip r L (end_b r i))))
      ∙ ap (map Y) (going_members v)
    where
      Way : Bool → Type 0
      Way b = (b ≡ true) ⊎ (b ≡ false)

      each : (i : ℕ) → end_a r i ≢ end_b r i → bit L i ≡ 1 → Way (eqb (end_a r i) v) → Way (eqb (end_b r i) v) → Way (is_tip r L (end_a r i)) → Way (is_tip r L (end_b r i))
          → map (λ (x : Bond). G x.code x.v) (filter (λ (x : Bond). eqb x.u v && is_tip r L x.v) (bond_of r i ∷ turn (bond_of r i) ∷ [])) ≡ pick
          (end_of r v i && has_tip r L i) (Y i ∷ []) []
      each i n m (inl a) (inl b) c d = absurd (n (eqb-true (end_a r i) v a ∙ sym (eqb-true (end_b r i) v b)))
      each i n m (inl a) (inr b) (inl c) d = absurd (not_both c (ap (is_tip r L) (eqb-true (end_a r i) v a) ∙ stays))
      each i n m (inl a) (inr b) (inr c) (inl d) = rw (a, b, c, d) (ap (λ (y : C). y ∷ []) (sym (rw c at (h i (outer_has r L i own m (rw (c, d)))))))
      each i n m (inl a) (inr b) (inr c) (inr d) = rw (a, b, c, d)
      each i n m (inr a) (inl b) c (inl d) = absurd (not_both d (ap (is_tip r L) (eqb-true (end_b r i) v b) ∙ stays))
      each i n m (inr a) (inl b) (inl c) (inr d) = rw (a, b, c) (ap (λ (y : C). y ∷ []) (sym (rw c at (h i (outer_has r L i own m (rw c))))))
      each i n m (inr a) (inl b) (inr c) (inr d) = rw (a, b, c, d)
      each i n m (inr a) (inr b) c d = rw (a, b)

-- ---- what holds between the rounds

bonds_length : (r : Bytes) (s : ℕ) → length (bonds_of r s) ≡ size s
bonds_length r s = length-map (members s) (bond_of r) ∙ members_size s 0

module _ {r : Bytes} {s L : ℕ} {X : ℕ → Bytes} {z : Peel} (p : Peeled r s L X z) where
  left_size : length z.left ≡ size L
  left_size = ap length p.left ∙ bonds_length r L

  -- more than two atoms are present while more than one bond is left
  more_left : 1 < size L → more z.present ≡ true
  more_left h = more_bonds z.present z.left p.tree ∙ lt-ltb 1 (length z.left) (omega (arith, left_size))

  arc_left : (i : ℕ) → bit L i ≡ 1 → Mem (bond_of r i) (arcs z.left)
  arc_left i h = arcs_mem z.left (rw p.left (mem_map (bond_of r) (bit_members L i h)))

  -- the ends of a bond that is left are present
  pub ends_present : (i : ℕ) → bit L i ≡ 1 → Mem (end_a r i) z.present × Mem (end_b r i) z.present
  ends_present i h = p.tree.ends (bond_of r i) (arc_left i h)

  pub tip_present : (i : ℕ) → bit (outer r L) i ≡ 1 → Mem (tip r L i) z.present
  unfolding tip
  tip_present i h = let (a, b) = ends_present i (outer_in r L i h).0 in go (is_tip r L (end_a r i)) a b
    where
      go : (t : Bool) → Mem (end_a r i) z.present → Mem (end_b r i) z.present → Mem (pick t (end_a r i) (end_b r i)) z.present
      go true a b = a
      go false a b = b

  -- the strings of a present atom hold the bonds under it, and those are not left: five bytes for a bond, and at most two of an own string
  pub short : (v : ℕ) → Mem v z.present → length (collapse (strings_at r s L X v)) + 7 * size L ≤ 7 * size s + 4
  short v m =
      let d : TreePeel = p.trees in
      let there : Mem v d.present = rw (← p.says.present) at m in
      let under : length (items v (d.under v)) ≤ length (flat (below d.under) d.present) = flat_at (below d.under) d.present there in
      omega (
        arith,
        ap length (collapse_canonical (p.own v m)),
        ap length (says_code (own_string r) d z p.says v),
        node_code_length (own_string r v) (d.under v),
        (p.clean.kinds v (perm_mem p.held.atoms (mem_left (map (λ (i : Item). i.atom) (flat (below d.under) d.present)) there))).short,
        own_few (d.under v) (fits_good (own_string r) (d.under v) (p.held.fits v)),
        items_length v (d.under v),
        perm_length p.held.bonds,
        arcs_length (d.left ++ map to_bond (flat (below d.under) d.present)),
        arcs_length (bonds_of r s),
        length-append d.left (map to_bond (flat (below d.under) d.present)),
        length-map (flat (below d.under) d.present) to_bond,
        ap length p.says.left,
        left_size,
        bonds_length r s,
      )
    where
      flat_at : (g : ℕ → List Item) (l : List ℕ) → Mem v l → length (g v) ≤ length (flat g l)
      flat_at g [] x' = elim x' [ ]
      flat_at g (x ∷ l) (m_head e) = simp length-append (omega (arith, ap (λ (n : ℕ). length (g n)) e))
      flat_at g (x ∷ l) (m_tail i) = simp length-append (omega (arith, flat_at g l i))

-- ---- a round

module _ (r : Bytes) (s L : ℕ) (X Y : ℕ → Bytes) (kept : (j : ℕ) → bit s j ≡ 1 → bit L j ≡ 0 → Y j ≡ X j) where
  received_same : (v : ℕ) → map Y (members (received r s L v)) ≡ map X (members (received r s L v))
  unfolding received
  received_same v = map_agree Y X (members (received r s L v)) (λ j m.
      let h = members_bit (received r s L v) j m in
      kept j (omega (arith, bit_diff (bit_and (bonds_at r v) s) L j, bit-and (bonds_at r v) s j, bit_le s j)) (omega (arith, bit_diff (bit_and (bonds_at r v) s) L j, bit-and (bonds_at r v) s j, bit_le s j, bit_le L j)))

  -- an atom's strings are those of the bonds taken off, whatever stands for the others
  pub strings_same : (v : ℕ) → strings_at r s L Y v ≡ strings_at r s L X v
  unfolding strings_at
  strings_same v = ap (λ (l : List Bytes). own_string r v ∷ l) (received_same v)

  -- an atom's strings after a round: those handed to it, and those from before
  strings_round : Sub L s → (v : ℕ) → Perm (strings_at r s (diff L (outer r L)) Y v) (map Y (members (bit_and (bonds_at r v) (outer r L))) ++ strings_at r s L X v)
  unfolding strings_at received
  strings_round within v =
      let now : ℕ = bit_and (bonds_at r v) (outer r L) in
      let old : ℕ = received r s L v in
      let all : Perm (map Y (members (received r s (diff L (outer r L)) v))) (map Y (members now) ++ map X (members old)) =
      p_trans (perm_map Y (members_less (bonds_at r v) s L (outer r L) (outer_sub r L) within)) (perm_eq (map-append Y (members now) (members old) ∙ ap (λ (l : List Bytes). map Y (members now) ++ l) (received_same v))) in
      p_trans (p_cons refl all) (perm_sym (perm_middle (own_string r v) (map Y (members now)) (map X (members old))))

module _ {r : Bytes} {s L : ℕ} {X : ℕ → Bytes} {z : Peel} (formed : Formed r) (own_s : Own r s) (p : Peeled r s L X z) (many : 1 < size L) where
  own_left : Own r L
  own_left = own_sub r L s p.within own_s

  end_is : (v : ℕ) → end_atom (arcs z.left) v ≡ is_tip r L v
  end_is v = ap (λ (bs : List Bond). end_atom (arcs bs) v) p.left ∙ tip_is formed L own_left v

  round_left : (round z).left ≡ bonds_of r (diff L (outer r L))
  round_left = ap (λ (bs : List Bond). stay (end_atom (arcs bs)) bs) p.left ∙ ap (λ (E : ℕ → Bool). stay E (bonds_of r L)) (tips formed L own_left) ∙ stay_words formed L own_left

  pub peeled_round : (Y : ℕ → Bytes) → ((j : ℕ) → bit s j ≡ 1 → bit L j ≡ 0 → Y j ≡ X j)
      → ((i : ℕ) → bit (outer r L) i ≡ 1 → Y i ≡ code r i ∷ collapse (strings_at r s L X (tip r L i))) → Peeled r s (diff L (outer r L)) Y (round z)
  peeled_round Y kept new = record {
    clean = p.clean;
    within = sub_trans (diff L (outer r L)) L s (diff_sub L (outer r L)) p.within;
    left = round_left;
    tree = round_tree z.present z.left p.tree (more_left p many);
    own = own;
    trees = tree_round (own_string r) p.trees;
    held = round_hanging (fragment r s) p.trees p.clean p.held (ap more p.says.present ∙ more_left p many);
    says = round_says (own_string r) p.trees z p.says;
    rest = λ f h.
        let l : length (round z).present < length z.present = round_shorter z.present z.left p.tree (more_left p many) in
        p.rest (suc (length z.present)) (omega arith)
        ∙ ap (λ (w : Peel). finish w.present w) (peel_more (length z.present) z (more_left p many))
        ∙ after_enough (length z.present) f (round z) (round_tree z.present z.left p.tree (more_left p many)) (omega arith) h;
  }
    where
      G : ℕ → ℕ → Bytes
      G c w = c ∷ collapse (z.own w)

      hands : (i : ℕ) → bit (outer r L) i ≡ 1 → Y i ≡ G (code r i) (tip r L i)
      hands i h = new i h ∙ ap (λ (l : Bytes). code r i ∷ l) (collapse_canonical (p.own (tip r L i) (tip_present p i h)))

      own : (v : ℕ) → Mem v (round z).present → Perm (strings_at r s (diff L (outer r L)) Y v) ((round z).own v)
      own v m =
          let (i, e) = keep_mem (λ (n : ℕ). not (end_atom (arcs z.left) n)) z.present m in
          let now : map (λ (x : Bond). G x.code x.v) (to_ends (end_atom (arcs z.left)) v (arcs z.left)) ≡ map Y (members (bit_and (bonds_at r v) (outer r L))) =
          ap (λ (bs : List Bond). map (λ (x : Bond). G x.code x.v) (to_ends (end_atom (arcs bs)) v (arcs bs))) p.left
          ∙ ap (λ (E : ℕ → Bool). map (λ (x : Bond). G x.code x.v) (to_ends E v (arcs (bonds_of r L)))) (tips formed L own_left)
          ∙ handed_words formed L own_left v (sym (end_is v) ∙ not-true (end_atom (arcs z.left) v) e) G Y hands in
          p_trans (strings_round r s L X Y kept p.within v) (perm_append (perm_eq (sym now)) (p.own v i))

  -- it takes a bond off
  pub round_less : size (diff L (outer r L)) < size L
  round_less =
      omega (
        arith,
        round_shorter z.present z.left p.tree (more_left p many),
        p.tree.count,
        (round_tree z.present z.left p.tree (more_left p many)).count,
        ap length round_left,
        bonds_length r (diff L (outer r L)),
        left_size p,
      )

  -- the other end of a bond that goes stays
  pub far_present : (i : ℕ) → bit (outer r L) i ≡ 1 → Mem (far r L i) (round z).present
  unfolding far
  far_present i h =
      let k : bit L i ≡ 1 = (outer_in r L i h).0 in
      let (a, b) = ends_present p i k in
      go (two (is_tip r L (end_a r i))) (two (is_tip r L (end_b r i))) (λ e f. ends_apart z.present z.left p.tree (more_left p many) (bond_of r i) (arc_left p i k) (end_is (end_a r i) ∙ e) (end_is (end_b r i) ∙ f)) a b
    where
      stays : (v : ℕ) → Mem v z.present → is_tip r L v ≡ false → Mem v (round z).present
      stays v m e = keep_intro (λ (n : ℕ). not (end_atom (arcs z.left) n)) z.present m (ap not (end_is v ∙ e))

      go : (is_tip r L (end_a r i) ≡ true) ⊎ (is_tip r L (end_a r i) ≡ false) → (is_tip r L (end_b r i) ≡ true) ⊎ (is_tip r L (end_b r i) ≡ false) → (is_tip r L (end_a r i) ≡ true → is_tip r L (end_b r i) ≡ true → ⊥)
          → Mem (end_a r i) z.present → Mem (end_b r i) z.present → Mem (pick (is_tip r L (end_a r i)) (end_b r i) (end_a r i)) (round z).present
      go (inl e) (inl f) n a b = absurd (n e f)
      go (inl e) (inr f) n a b = rw e (stays (end_b r i) b f)
      go (inr e) f n a b = rw e (stays (end_a r i) a e)

  -- the last round leaves an atom
  pub centre_present : diff L (outer r L) ≡ 0 → (i : ℕ) → bit L i ≡ 1 → Mem (far r L i) (round z).present
  centre_present e i h = far_present i (omega (arith, bit_diff L (outer r L) i, ap (λ (x : ℕ). bit x i) e, bit_empty i, bit_le (outer r L) i))

  -- a string that is handed over fits
  pub string_fits : (i : ℕ) → bit (outer r L) i ≡ 1 → length (code r i ∷ collapse (strings_at r s L X (tip r L i))) ≤ 439
  string_fits i h = omega (arith, short p (tip r L i) (tip_present p i h), size_le (bonds r) s own_s, formed.sized.few)

-- ---- the end: one atom is left, or two

two_are : (ns : List ℕ) (z : Peel) → length ns ≡ 2 → finish ns z ≡ two_left z.left z
two_are [] z e = absurd (omega arith)
two_are (a ∷ []) z e = absurd (omega arith)
two_are (a ∷ b ∷ []) z e = refl
two_are (a ∷ b ∷ c ∷ r) z e = absurd (omega arith)

module _ {r : Bytes} {s L : ℕ} {X : ℕ → Bytes} {z : Peel} (p : Peeled r s L X z) where
  ended_label : size L ≤ 1 → label r s ≡ finish z.present z
  ended_label h =
      p.rest (length z.present) (omega arith)
      ∙ ap (λ (w : Peel). finish w.present w) (peel_stop (length z.present) z (more_bonds z.present z.left p.tree ∙ le-ltb 1 (length z.left) (omega (arith, left_size p))))

  own_code : (v : ℕ) → Mem v z.present → collapse (z.own v) ≡ collapse (strings_at r s L X v)
  own_code v m = collapse_canonical (perm_sym (p.own v m))

  pub peeled_one : L ≡ 0 → (c : ℕ) → Mem c z.present → label r s ≡ collapse (strings_at r s L X c)
  peeled_one e c m =
      let none : size L ≡ 0 = ap size e ∙ size_empty in
      ended_label (omega arith) ∙ ap (λ (ns : List ℕ). finish ns z) (only z.present (omega (arith, p.tree.count, left_size p)) m) ∙ own_code c m

  pub peeled_two : size L ≡ 1 → (i : ℕ) → bit L i ≡ 1 → label r s ≡ code r i ∷ collapse (collapse (strings_at r s L X (end_a r i)) ∷ collapse (strings_at r s L X (end_b r i)) ∷ [])
  peeled_two e i h =
      let left : z.left ≡ bond_of r i ∷ [] = p.left ∙ ap (map (bond_of r)) (only (members L) (members_size L 0 ∙ e) (bit_members L i h)) in
      let (a, b) = ends_present p i h in
      ended_label (omega arith) ∙ two_are z.present z (omega (arith, p.tree.count, left_size p)) ∙ ap (λ (bs : List Bond). two_left bs z) left
      ∙ ap₂ (λ (x y : Bytes). code r i ∷ collapse (x ∷ y ∷ [])) (own_code (end_a r i) a) (own_code (end_b r i) b)
