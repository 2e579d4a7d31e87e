-- Size by size: candidates are the fragments of one bond more, nodes ascend by size and then by label, and the matches of a table are of twins. Assumes nothing.
use mathlib.Core.Path.{◌≡◌, refl, sym, ap, ◌∙◌, subst}
use mathlib.Core.Logic.{inl, inr, ◌≢◌, ⊎_elim}
use mathlib.Core.List.Memᴰ.{append_cases as mem_cases}
use mathlib.Core.List.Memᴰ.{cast as mem_cast}
use mathlib.Core.List.Memᴰ.{head as m_head}
use mathlib.Core.List.Memᴰ.{map as mem_map}
use mathlib.Core.List.Memᴰ.{not-nil}
use mathlib.Core.List.Memᴰ.{of_map as mem_of_map}
use mathlib.Core.List.{List, [], ◌∷◌, ◌++◌, map, Memᴰ as Mem}
use Prim.Native.Nat.{ℕ, zero, suc, ◌+◌, ◌^◌, ◌≤◌, ◌<◌, max}
use native.Mathlib.Omega.{arith}
use lib.Pow.{pow-lt}
use lib.ListN.{length, get_or, drop, length-append}
use lib.Seq.{drop-append_seam, get_or_at}
use lib.Bits.{bit_and, bit_or, and_self, or_disjoint, or_lt}
use Rattle.bitset.specs.Bits.{bit, Disjoint, size, members}
use Rattle.bitset.proofs.Laws.{bit_one, or_cases, sub_or, size_one, size_disjoint, size_le}
use Rattle.bitset.proofs.Members.{members_bit, bit_members, or_left_in, or_right_in, one_is, not_empty, apart_of}
use Rattle.molecule.specs.Lists.{Bytes, numbers_from}
use Rattle.molecule.specs.Record.{bonds}
use Rattle.molecule.specs.Touch.{touching, around}
use Rattle.molecule.specs.Connected.{Touch, Own, Linked, here, step, Connected}
use Rattle.molecule.proofs.Growing.{around_in}
use Rattle.molecule.proofs.Touching.{touch_in}
use Rattle.molecule.proofs.Components.{link_wide, link_join, link_sym}
use Rattle.molecule.proofs.Lists.{at_mem, Ordered, ordered_all, numbers_bounds, numbers_mem}
use Rattle.canonize.specs.Label.{label}
use Rattle.molecule.proofs.Perms.{Distinct, numbers_distinct}
use Rattle.matches.specs.Table.{Match, Table, extended, candidates, extend, sizes, singles}
use Rattle.matches.specs.Laws.{Twins}
use Rattle.matches.specs.Inner.Ranks.{Precedes}
use Rattle.matches.proofs.Noting.{all_in, all_has, all_distinct}
use Rattle.matches.proofs.Pairing.{Matched, AllSound, Grows, grows_refl, grows_trans, grows_by, extend_grows, extend_needs, extend_sound, extend_distinct, extend_matched, extend_ordered}
use Rattle.matches.proofs.Once.{extend_once}

pub precedes_size : (r : Bytes) (x y : ℕ) → Precedes r x y → size x ≤ size y
precedes_size r x y (inl h) = omega arith
precedes_size r x y (inr h) = omega arith

-- the nodes of a match are nodes
pub named_in : (t : Table) (x y : ℕ) → Matched t x y → Mem x t.nodes × Mem y t.nodes
named_in t x y w =
    let m : Match = w.0 in
    let a = at_mem 0 t.nodes m.larger w.2.fits in
    let b = at_mem 0 t.nodes m.smaller (omega (arith, w.2.fits, w.2.below)) in
    ⊎_elim (λ (q : (get_or t.nodes m.larger 0 ≡ x) × (get_or t.nodes m.smaller 0 ≡ y)). (mem_cast (sym q.0) a, mem_cast (sym q.1) b))
    (λ (q : (get_or t.nodes m.larger 0 ≡ y) × (get_or t.nodes m.smaller 0 ≡ x)). (mem_cast (sym q.1) b, mem_cast (sym q.0) a)) w.2.are

module _ (r : Bytes) where
  pub twins_differ : (x y : ℕ) → Twins r x y → x ≢ y
  twins_differ x y w e = w.one.some (sym (and_self x) ∙ ap (bit_and x) e ∙ w.apart)

  -- ---- one bond more

  pub apart_one : (p b : ℕ) → bit p b ≡ 0 → Disjoint p (2 ^ b)
  apart_one p b h = apart_of p (2 ^ b) (λ i hp hb. omega (arith, ap (bit p) (one_is b i hb)))

  add_is : (p b : ℕ) → bit p b ≡ 0 → p + 2 ^ b ≡ bit_or p (2 ^ b)
  add_is p b h = sym (or_disjoint p (2 ^ b) (apart_one p b h))

  connected_add : (p x y : ℕ) → Own r p → Connected r p → bit p x ≡ 1 → Touch r x y → Connected r (bit_or p (2 ^ y))
  connected_add p x y o k h t = record {
    some = not_empty q x hx;
    linked = λ a b ha hb. link_join r (link_sym r own (hub a ha)) (hub b hb);
  }
    where
      q : ℕ
      q = bit_or p (2 ^ y)

      hx : bit q x ≡ 1
      hx = or_left_in p (2 ^ y) x h

      own : Own r q
      own = or_lt (bonds r) p (2 ^ y) o (pow-lt (touch_in r x y t).1)

      hub : (a : ℕ) → bit q a ≡ 1 → Linked r q x a
      hub a ha = ⊎_elim (λ (e : bit p a ≡ 1). link_wide r q (sub_or p (2 ^ y)) (k.linked x a h e))
          (λ (e : bit (2 ^ y) a ≡ 1). subst (Linked r q x) (sym (one_is y a e)) (step (here hx) t (or_right_in p (2 ^ y) y (bit_one y)))) (or_cases p (2 ^ y) a ha)

  -- a connected set of k of the record's bonds
  pub record Node (k x : ℕ) : Type 0 where
    pub whole : Connected r x
    pub own : Own r x
    pub many : size x ≡ k

  pub node_add : (k p b : ℕ) → Node k p → bit (around (touching r) p) b ≡ 1 → Node (suc k) (bit_or p (2 ^ b))
  node_add k p b n h =
      let w = around_in (touching r) p b h in
      record {
        whole = connected_add p w.0 b n.own n.whole w.1 w.2;
        own = or_lt (bonds r) p (2 ^ b) n.own (pow-lt (touch_in r w.0 b w.2).1);
        many = omega (arith, size_disjoint p (2 ^ b) (apart_one p b w.3), size_one b, n.many);
      }

  pub node_twins : (k : ℕ) → 2 ≤ k → (x y : ℕ) → Node k x → Node k y → label r x ≡ label r y → Disjoint x y → Twins r x y
  node_twins k l x y a b e d = record {
    one = a.whole;
    other = b.whole;
    one_own = a.own;
    other_own = b.own;
    apart = d;
    same_size = a.many ∙ sym b.many;
    big = omega (arith, a.many);
    labels = e;
  }

  -- ---- candidates

  extended_in : (p x : ℕ) → Mem x (extended r p) → (b : ℕ) × (bit (around (touching r) p) b ≡ 1) × (x ≡ bit_or p (2 ^ b))
  unfolding extended
  extended_in p x m =
      let w = mem_of_map (λ (b : ℕ). p + 2 ^ b) (members (around (touching r) p)) m in
      let h = members_bit (around (touching r) p) w.0 w.1 in
      (w.0, h, sym w.2 ∙ add_is p w.0 (around_in (touching r) p w.0 h).3)

  extended_has : (p b : ℕ) → bit (around (touching r) p) b ≡ 1 → Mem (bit_or p (2 ^ b)) (extended r p)
  unfolding extended
  extended_has p b h = mem_cast (sym (add_is p b (around_in (touching r) p b h).3)) (mem_map (λ (c : ℕ). p + 2 ^ c) (bit_members (around (touching r) p) b h))

  -- the candidates of some nodes are fragments of one bond more
  pub candidates_node : (k : ℕ) (ps : List ℕ) → ((p : ℕ) → Mem p ps → Node k p) → (x : ℕ) → Mem x (candidates r ps) → Node (suc k) x
  unfolding candidates
  candidates_node k ps h x m = ⊎_elim (λ (a : Mem x []). absurd (not-nil a))
      (λ (w : (p : ℕ) × Mem p ps × Mem x (extended r p)).
      let e = extended_in w.0 x w.2 in
      subst (Node (suc k)) (sym e.2) (node_add k w.0 e.0 (h w.0 w.1) e.1)) (all_in (extended r) ps [] x m)

  pub candidates_has : (ps : List ℕ) (p b : ℕ) → Mem p ps → bit (around (touching r) p) b ≡ 1 → Mem (bit_or p (2 ^ b)) (candidates r ps)
  unfolding candidates
  candidates_has ps p b m h = all_has (extended r) {ps = ps} [] m (extended_has p b h)

  -- no set stands twice among them
  pub candidates_distinct : (ps : List ℕ) → Distinct (candidates r ps)
  unfolding candidates
  candidates_distinct ps = all_distinct (extended r) ps [] tt

  -- ---- a size after the other

  -- a table whose nodes go up to size k, and the parents of that size
  pub record Round (k : ℕ) (t : Table) (ps : List ℕ) : Type 0 where
    pub fine : (x : ℕ) → Mem x t.nodes → size x ≤ k
    pub whole : (x : ℕ) → Mem x t.nodes → Connected r x × Own r x
    pub order : Ordered (Precedes r) t.nodes
    pub distinct : Distinct t.nodes
    pub sound : AllSound r t
    pub once : Distinct t.matches
    pub young : (p : ℕ) → Mem p ps → Node k p
    pub count : length t.needs ≡ suc k

  abbrev pub next : Table → List ℕ → Table
  next t ps = extend r t (candidates r ps)

  -- the new nodes, which are the next parents
  abbrev pub newest : Table → List ℕ → List ℕ
  newest t ps = drop (length t.nodes) (next t ps).nodes

  module _ (k : ℕ) (t : Table) (ps : List ℕ) (l : 1 ≤ k) (h : Round k t ps) where
    found_node : (x : ℕ) → Mem x (candidates r ps) → Node (suc k) x
    found_node = candidates_node k ps h.young

    pub round_grows : Grows (Node (suc k)) t (next t ps)
    round_grows = extend_grows r (Node (suc k)) (node_twins (suc k) (omega arith)) (candidates r ps) t found_node

    pub newest_is : newest t ps ≡ round_grows.new
    newest_is = ap (drop (length t.nodes)) round_grows.nodes_are ∙ drop-append_seam t.nodes round_grows.new

    pub round_matched : (x y : ℕ) → Twins r x y → Mem x (candidates r ps) → Mem y (candidates r ps) → Matched (next t ps) x y
    round_matched x y w mx my = extend_matched r (Node (suc k)) (node_twins (suc k) (omega arith)) (candidates r ps) t found_node x y mx my w.labels (twins_differ x y w) w.apart

    round_needs : (next t ps).needs ≡ t.needs ++ (max (length (candidates r ps)) (length (next t ps).nodes) ∷ [])
    round_needs = extend_needs r (Node (suc k)) (node_twins (suc k) (omega arith)) (candidates r ps) t found_node

    pub round_next : Round (suc k) (next t ps) (newest t ps)
    round_next =
        let g = round_grows in
        record {
          fine = λ x m. ⊎_elim (λ (a : Mem x t.nodes). omega (arith, h.fine x a)) (λ (a : Mem x g.new). omega (arith, (g.good x a).many)) (mem_cases t.nodes (subst (Mem x) g.nodes_are m));
          whole = λ x m. ⊎_elim (λ (a : Mem x t.nodes). h.whole x a) (λ (a : Mem x g.new). let n = g.good x a in (n.whole, n.own)) (mem_cases t.nodes (subst (Mem x) g.nodes_are m));
          order = extend_ordered r (Precedes r) (candidates r ps) (λ x y a b e. inr ((found_node x a).many ∙ sym (found_node y b).many, λ q. e)) t h.order (λ x y a b. inl (omega (arith, h.fine x a, (found_node y b).many)));
          distinct = extend_distinct r (Node (suc k)) (node_twins (suc k) (omega arith)) (candidates r ps) t found_node h.distinct;
          sound = extend_sound r (Node (suc k)) (node_twins (suc k) (omega arith)) (candidates r ps) t found_node h.sound;
          once = extend_once r (candidates r ps) t (λ m a. (h.sound m a).fits) (candidates_distinct ps) (λ u w a b. omega (arith, (found_node u a).many, h.fine u (named_in t u w b).0)) h.once;
          young = λ p m. g.good p (subst (Mem p) newest_is m);
          count = ap length round_needs ∙ length-append t.needs (max (length (candidates r ps)) (length (next t ps).nodes) ∷ []) ∙ omega (arith, h.count);
        }

    -- what row 9 compares with P at the next size
    pub round_need : get_or (next t ps).needs (suc k) 0 ≡ max (length (candidates r ps)) (length (next t ps).nodes)
    round_need = ap (λ (l : List ℕ). get_or l (suc k) 0) round_needs ∙ get_or_at t.needs (max (length (candidates r ps)) (length (next t ps).nodes)) [] 0 (suc k) h.count

  -- what the table is in the end
  pub record Sane (t : Table) : Type 0 where
    pub whole : (x : ℕ) → Mem x t.nodes → Connected r x × Own r x
    pub order : Ordered (Precedes r) t.nodes
    pub distinct : Distinct t.nodes
    pub sound : AllSound r t
    pub once : Distinct t.matches

  round_sane : (k : ℕ) (t : Table) (ps : List ℕ) → Round k t ps → Sane t
  round_sane k t ps h = record { whole = h.whole; order = h.order; distinct = h.distinct; sound = h.sound; once = h.once }

  sizes_sane : (f k : ℕ) (t : Table) (ps : List ℕ) → 1 ≤ k → Round k t ps → Sane (sizes r f t ps)
  unfolding sizes
  sizes_sane zero k t ps l h = round_sane k t ps h
  sizes_sane (suc f) k t [] l h = round_sane k t [] h
  sizes_sane (suc f) k t (p ∷ ps) l h = sizes_sane f (suc k) (next t (p ∷ ps)) (newest t (p ∷ ps)) (omega arith) (round_next k t (p ∷ ps) l h)

  -- a table only grows, size by size
  pub sizes_grows : (f k : ℕ) (t : Table) (ps : List ℕ) → 1 ≤ k → Round k t ps → Grows (λ x. Unit {0}) t (sizes r f t ps)
  unfolding sizes
  sizes_grows zero k t ps l h = grows_refl (λ x. Unit {0}) t
  sizes_grows (suc f) k t [] l h = grows_refl (λ x. Unit {0}) t
  sizes_grows (suc f) k t (p ∷ ps) l h =
      let u : Table = next t (p ∷ ps) in
      let qs : List ℕ = newest t (p ∷ ps) in
      grows_trans (λ x. Unit {0}) t u (sizes r f u qs) (grows_by (Node (suc k)) (λ x. Unit {0}) (λ x n. tt) t u (round_grows k t (p ∷ ps) l h)) (sizes_grows f (suc k) u qs (omega arith) (round_next k t (p ∷ ps) l h))

  -- there are no more sizes than bonds, so more rounds change nothing
  pub last_parents : (k : ℕ) (t : Table) (ps : List ℕ) → bonds r < k → Round k t ps → ps ≡ []
  last_parents k t [] b h = refl
  last_parents k t (p ∷ ps) b h = let n = h.young p (m_head refl) in absurd (omega (arith, size_le (bonds r) p n.own, n.many))

  sizes_done : (f : ℕ) (t : Table) → sizes r f t [] ≡ t
  unfolding sizes
  sizes_done zero t = refl
  sizes_done (suc f) t = refl

  pub sizes_enough : (f g k : ℕ) (t : Table) (ps : List ℕ) → 1 ≤ k → Round k t ps → bonds r < f + k → bonds r < g + k → sizes r f t ps ≡ sizes r g t ps
  unfolding sizes
  sizes_enough zero g k t ps l h a b = let e = last_parents k t ps (omega arith) h in rw e (sym (sizes_done g t))
  sizes_enough (suc f) zero k t ps l h a b = let e = last_parents k t ps (omega arith) h in rw e refl
  sizes_enough (suc f) (suc g) k t [] l h a b = refl
  sizes_enough (suc f) (suc g) k t (p ∷ ps) l h a b = sizes_enough f g (suc k) (next t (p ∷ ps)) (newest t (p ∷ ps)) (omega arith) (round_next k t (p ∷ ps) l h) (omega arith) (omega arith)

  -- ---- the start

  pub single_node : (x : ℕ) → Mem x (singles r) → Node 1 x
  unfolding singles
  single_node x m =
      let w = mem_of_map (λ (i : ℕ). 2 ^ i) (numbers_from 0 (bonds r)) m in
      let l : w.0 < bonds r = omega (arith, numbers_bounds (bonds r) 0 w.1) in
      subst (Node 1) w.2 (one w.0 l)
    where
      one : (i : ℕ) → i < bonds r → Node 1 (2 ^ i)
      one i l = record {
        whole = record { some = not_empty (2 ^ i) i (bit_one i); linked = λ b c hb hc. subst (Linked r (2 ^ i) b) (one_is i b hb ∙ sym (one_is i c hc)) (here hb) };
        own = pow-lt l;
        many = size_one i;
      }

  pub single_has : (i : ℕ) → i < bonds r → Mem (2 ^ i) (singles r)
  unfolding singles
  single_has i l = mem_map (λ (j : ℕ). 2 ^ j) (numbers_mem (bonds r) 0 i (omega arith) (omega arith))

  singles_distinct : Distinct (singles r)
  unfolding singles
  singles_distinct = go (numbers_from 0 (bonds r)) (numbers_distinct (bonds r) 0)
    where
      go : (l : List ℕ) → Distinct l → Distinct (map (λ i. 2 ^ i) l)
      go [] d = tt
      go (i ∷ l) d = (λ m. let w = mem_of_map (λ (j : ℕ). 2 ^ j) l m in d.0 (mem_cast (one_is w.0 i (ap (λ (z : ℕ). bit z i) w.2 ∙ bit_one i)) w.1), go l d.1)

  abbrev pub start : Table
  start = record { nodes = singles r; matches = []; needs = 0 ∷ bonds r ∷ [] }

  pub start_round : Round 1 start (singles r)
  start_round = record {
    fine = λ x m. omega (arith, (single_node x m).many);
    whole = λ x m. let n = single_node x m in (n.whole, n.own);
    order = ordered_all (Precedes r) (singles r) (λ x y a b. inr ((single_node x a).many ∙ sym (single_node y b).many, λ q. absurd (omega (arith, (single_node x a).many))));
    distinct = singles_distinct;
    sound = λ m k. absurd (not-nil k);
    once = tt;
    young = single_node;
    count = refl;
  }

  -- the table before its matches are sorted
  abbrev pub unsorted : Table
  unsorted = sizes r (bonds r) start (singles r)

  pub unsorted_sane : Sane unsorted
  unsorted_sane = sizes_sane (bonds r) 1 start (singles r) (omega arith) start_round
