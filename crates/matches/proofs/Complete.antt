-- Every two twins are a match, and each bond of a match is covered by a match of size 2 (M3), for every accepted record. Assumes nothing.
use mathlib.Core.Path.{◌≡◌, refl, sym, ap, ◌∙◌, subst}
use mathlib.Core.Logic.{◌⊎◌, inl, inr, ◌≢◌, ⊎_elim}
use mathlib.Core.List.Memᴰ.{append_cases as mem_cases}
use mathlib.Core.List.Memᴰ.{not-nil}
use mathlib.Core.List.{List, [], ◌∷◌, Memᴰ as Mem}
use Prim.Native.Nat.{ℕ, zero, suc, ◌+◌, ◌^◌, ◌≤◌, ◌<◌}
use native.Mathlib.Omega.{arith}
use native.Mathlib.Decide.{dec_le, ℕ_discrete}
use lib.ListN.{length}
use lib.Bits.{bit_or, and_self}
use Rattle.bitset.specs.Bits.{bit, Sub, Disjoint, diff, size}
use Rattle.bitset.proofs.Laws.{bit_le, bit_one, bit_diff, size_minus, size_empty, member_lt, one_sub, size_same, size_one, size_le}
use Rattle.bitset.proofs.Members.{in_or_out, sub_in, or_left_in, some_member}
use Rattle.bitset.proofs.Decide.{sets, v, or, sub, apart}
use Rattle.molecule.specs.Lists.{Bytes}
use Rattle.molecule.specs.Record.{bonds}
use Rattle.molecule.specs.Touch.{touching, around}
use Rattle.molecule.specs.Check.{accepted, check}
use Rattle.molecule.specs.Connected.{Own, Linked, here, step, Connected}
use Rattle.molecule.proofs.Growing.{around_has}
use Rattle.molecule.proofs.Touching.{touch_in}
use Rattle.molecule.proofs.Components.{own_sub, neighbour, pair_size, pair_connected}
use Rattle.canonize.specs.Label.{label}
use Rattle.canonize.proofs.Laws.{parts_transport, pair_transport}
use Rattle.matches.specs.Table.{Table, candidates, sizes, singles, pair, size_of, pairs}
use Rattle.matches.specs.Laws.{Twins, IsMatch, Covers}
use Rattle.matches.proofs.Pairing.{twins_sym, Matched, matched_grows}
use Rattle.matches.proofs.Sizes.{named_in, Node, node_add, node_twins, candidates_has, Round, next, newest, round_grows, newest_is, round_matched, round_next, single_node, single_has, start, start_round, unsorted}
use Rattle.matches.proofs.Listed.{m1, m2, stands}

parts_apart : (h k x y : ℕ) → Disjoint h k → Sub x h → Sub y k → Disjoint x y
parts_apart h k x y = sets (apart (v 0) (v 1) ∷ sub (v 2) (v 0) ∷ sub (v 3) (v 1) ∷ []) (apart (v 2) (v 3)) (h ∷ k ∷ x ∷ y ∷ []) tt

union_sub : (h x y : ℕ) → Sub x h → Sub y h → Sub (bit_or x y) h
union_sub h x y = sets (sub (v 1) (v 0) ∷ sub (v 2) (v 0) ∷ []) (sub (or (v 1) (v 2)) (v 0)) (h ∷ x ∷ y ∷ []) tt

-- a and b are x and y, in one order or the other
abbrev Are : ℕ → ℕ → ℕ → ℕ → Type 0
Are a b x y = ((a ≡ x) × (b ≡ y)) ⊎ ((a ≡ y) × (b ≡ x))

inside_either : (a b x y h k : ℕ) → Are a b x y → (Sub x h × Sub y k) ⊎ (Sub x k × Sub y h) → (Sub a h × Sub b k) ⊎ (Sub a k × Sub b h)
inside_either a b x y h k (inl p) q = rw (p.0, p.1) q
inside_either a b x y h k (inr p) (inl q) = rw (p.0, p.1) (inr (q.1, q.0))
inside_either a b x y h k (inr p) (inr q) = rw (p.0, p.1) (inl (q.1, q.0))

holds_either : (a b x y i : ℕ) → Are a b x y → bit x i ≡ 1 → (bit a i ≡ 1) ⊎ (bit b i ≡ 1)
holds_either a b x y i (inl p) h = inl (ap (λ (z : ℕ). bit z i) p.0 ∙ h)
holds_either a b x y i (inr p) h = inr (ap (λ (z : ℕ). bit z i) p.1 ∙ h)

module _ (r : Bytes) where
  -- ---- fragments inside a fragment

  -- from a to c inside x: c is in p, or the way leaves p
  leaves : (x p : ℕ) {a c : ℕ} → Linked r x a c → bit p a ≡ 1 → (bit p c ≡ 1) ⊎ ((b : ℕ) × (bit x b ≡ 1) × (bit (around (touching r) p) b ≡ 1))
  leaves x p (here h) m = inl m
  leaves x p (step {c = c} {d = d} l t h) m = go (leaves x p l m)
    where
      go : (bit p c ≡ 1) ⊎ ((b : ℕ) × (bit x b ≡ 1) × (bit (around (touching r) p) b ≡ 1)) → (bit p d ≡ 1) ⊎ ((b : ℕ) × (bit x b ≡ 1) × (bit (around (touching r) p) b ≡ 1))
      go (inl e) = ⊎_elim (λ (q : bit p d ≡ 1). inl q) (λ (q : bit p d ≡ 0). inr (d, h, around_has (touching r) p c d e t q)) (in_or_out p d)
      go (inr w) = inr w

  -- a smaller connected part of a connected set can take one more bond of it
  one_more : (x p : ℕ) → Connected r x → Connected r p → Sub p x → size p < size x → (b : ℕ) × (bit x b ≡ 1) × (bit (around (touching r) p) b ≡ 1)
  one_more x p kx kp q l =
      let a = some_member p kp.some in
      let n : diff x p ≢ 0 = λ e. omega (arith, size_minus x p q, ap size e, size_empty) in
      let c = some_member (diff x p) n in
      let hx : bit x c.0 ≡ 1 = omega (arith, bit_diff x p c.0, bit_le x c.0, c.1) in
      let hp : bit p c.0 ≡ 0 = omega (arith, bit_diff x p c.0, bit_le x c.0, c.1) in
      ⊎_elim (λ (e : bit p c.0 ≡ 1). absurd (omega arith)) (λ w. w) (leaves x p (kx.linked a.0 c.0 (sub_in p x q a.0 a.1) hx) a.1)

  grown_sub : (x p b : ℕ) → Sub p x → bit x b ≡ 1 → Sub (bit_or p (2 ^ b)) x
  grown_sub x p b q h = union_sub x p (2 ^ b) q (one_sub x b h)

  -- a connected set has a connected part of every size
  smaller_part : (x : ℕ) → Connected r x → Own r x → (k : ℕ) → suc k ≤ size x → (p : ℕ) × Node r (suc k) p × Sub p x
  smaller_part x kx o zero l =
      let a = some_member x kx.some in
      (2 ^ a.0, single_node r (2 ^ a.0) (single_has r a.0 (member_lt (bonds r) x a.0 o a.1)), one_sub x a.0 a.1)
  smaller_part x kx o (suc k) l =
      let w = smaller_part x kx o k (omega arith) in
      let b = one_more x w.0 kx w.1.whole w.2 (omega (arith, w.1.many)) in
      (bit_or w.0 (2 ^ b.0), node_add r (suc k) w.0 b.0 w.1 b.2, grown_sub x w.0 b.0 w.2 b.1)

  -- a set is a candidate of any connected part with one bond less
  from_part : (ps : List ℕ) (k x p : ℕ) → Node r (suc k) x → Node r k p → Sub p x → Mem p ps → Mem x (candidates r ps)
  from_part ps k x p nx np q m =
      let b = one_more x p nx.whole np.whole q (omega (arith, nx.many, np.many)) in
      let n = node_add r k p b.0 np b.2 in
      let e : bit_or p (2 ^ b.0) ≡ x = size_same (bit_or p (2 ^ b.0)) x (grown_sub x p b.0 q b.1) (omega (arith, nx.many, n.many)) in
      subst (λ (z : ℕ). Mem z (candidates r ps)) e (candidates_has r ps p b.0 m b.2)

  -- ---- every two twins are matched

  -- twins of size k, single bonds too
  record Mates (k x y : ℕ) : Type 0 where
    one : Node r k x
    other : Node r k y
    apart : Disjoint x y
    labels : label r x ≡ label r y

  mates_twins : (k x y : ℕ) → 2 ≤ k → Mates k x y → Twins r x y
  mates_twins k x y l m = node_twins r k l x y m.one m.other m.labels m.apart

  twins_mates : (x y : ℕ) → Twins r x y → Mates (size x) x y
  twins_mates x y w = record {
    one = record { whole = w.one; own = w.one_own; many = refl };
    other = record { whole = w.other; own = w.other_own; many = sym w.same_size };
    apart = w.apart;
    labels = w.labels;
  }

  -- twins up to size k are matched, and mates of size k are parents
  record Whole (k : ℕ) (t : Table) (ps : List ℕ) : Type 0 where
    known : (x y : ℕ) → Twins r x y → size x ≤ k → Matched t x y
    ripe : (x y : ℕ) → Mates k x y → Mem x ps × Mem y ps

  single_mem : (x : ℕ) → Node r 1 x → Mem x (singles r)
  single_mem x n =
      let a = some_member x n.whole.some in
      let e : 2 ^ a.0 ≡ x = size_same (2 ^ a.0) x (one_sub x a.0 a.1) (omega (arith, size_one a.0, n.many)) in
      subst (λ (z : ℕ). Mem z (singles r)) e (single_has r a.0 (member_lt (bonds r) x a.0 n.own a.1))

  start_whole : Whole 1 (start r) (singles r)
  start_whole = record { known = λ x y w s. absurd (omega (arith, w.big)); ripe = λ x y m. (single_mem x m.one, single_mem y m.other) }

  module _ (ok : check r ≡ accepted) where
    -- mates have mates of every smaller size inside
    less_mates : (j k x y : ℕ) → Mates j x y → suc k ≤ j → (p : ℕ) × (q : ℕ) × Mates (suc k) p q × Sub p x × Sub q y
    less_mates j k x y m l =
        let w = smaller_part x m.one.whole m.one.own k (omega (arith, m.one.many)) in
        let z = parts_transport r r x y ok ok m.one.own m.other.own m.one.whole m.other.whole m.labels w.0 w.1.whole w.2 in (
          w.0,
          z.0,
          record {
            one = w.1;
            other = record { whole = z.1.whole; own = z.1.own; many = sym z.1.sizes ∙ w.1.many };
            apart = parts_apart x y w.0 z.0 m.apart w.2 z.1.inside;
            labels = z.1.labels;
          },
          w.2,
          z.1.inside,
        )

    whole_next : (k : ℕ) (t : Table) (ps : List ℕ) → 1 ≤ k → Round r k t ps → Whole k t ps → Whole (suc k) (next r t ps) (newest r t ps)
    whole_next zero t ps l h c = absurd (omega arith)
    whole_next (suc k) t ps l h c = record {
      known = λ x y w s. go x y w (dec_le (size x) (suc k)) s;
      ripe = λ x y m. let n = named_in (next r t ps) x y (fresh x y m) in (young x m.one n.0, young y m.other n.1);
    }
      where
        fresh : (x y : ℕ) → Mates (suc (suc k)) x y → Matched (next r t ps) x y
        fresh x y m =
            let w = less_mates (suc (suc k)) k x y m (omega arith) in
            let p = c.ripe w.0 w.1 w.2 in
            round_matched r (suc k) t ps l h x y (mates_twins (suc (suc k)) x y (omega arith) m) (from_part ps (suc k) x w.0 m.one w.2.one w.3 p.0) (from_part ps (suc k) y w.1 m.other w.2.other w.4 p.1)

        young : (x : ℕ) → Node r (suc (suc k)) x → Mem x (next r t ps).nodes → Mem x (newest r t ps)
        young x n m =
            let g = round_grows r (suc k) t ps l h in
            subst (Mem x) (sym (newest_is r (suc k) t ps l h)) (⊎_elim (λ (o : Mem x t.nodes). absurd (omega (arith, h.fine x o, n.many))) (λ (o : Mem x g.new). o) (mem_cases t.nodes (subst (Mem x) g.nodes_are m)))

        go : (x y : ℕ) → Twins r x y → Dec (size x ≤ suc k) → size x ≤ suc (suc k) → Matched (next r t ps) x y
        go x y w (yes d) s = matched_grows (Node r (suc (suc k))) t (next r t ps) (round_grows r (suc k) t ps l h) x y (c.known x y w d)
        go x y w (no d) s = let e : size x ≡ suc (suc k) = omega arith in fresh x y (subst (λ (z : ℕ). Mates z x y) e (twins_mates x y w))

    sizes_whole : (f k : ℕ) (t : Table) (ps : List ℕ) → 1 ≤ k → bonds r ≤ f + k → Round r k t ps → Whole k t ps → (x y : ℕ) → Twins r x y → Matched (sizes r f t ps) x y
    unfolding sizes
    sizes_whole zero k t ps l b h c x y w = c.known x y w (omega (arith, size_le (bonds r) x w.one_own))
    sizes_whole (suc f) zero t [] l b h c x y w = absurd (omega arith)
    sizes_whole (suc f) (suc k) t [] l b h c x y w = go (dec_le (size x) (suc k))
      where
        go : Dec (size x ≤ suc k) → Matched t x y
        go (yes d) = c.known x y w d
        go (no d) = let m = less_mates (size x) k x y (twins_mates x y w) (omega arith) in absurd (not-nil (c.ripe m.0 m.1 m.2).0)
    sizes_whole (suc f) k t (p ∷ ps) l b h c x y w =
        sizes_whole f (suc k) (next r t (p ∷ ps)) (newest r t (p ∷ ps)) (omega arith) (omega arith) (round_next r k t (p ∷ ps) l h) (whole_next k t (p ∷ ps) l h c) x y w

    pub all_matched : (x y : ℕ) → Twins r x y → Matched (unsorted r) x y
    all_matched = sizes_whole (bonds r) 1 (start r) (singles r) (omega arith) (omega arith) (start_round r) start_whole

    pub all_listed : (x y : ℕ) → Twins r x y → IsMatch (pairs r) x y
    all_listed x y w = stands r x y (all_matched x y w)

    -- ---- M3

    -- a match of size 2, its fragments inside h and k, with b in the first
    record SmallMatch (h k b : ℕ) : Type 0 where
      x : ℕ
      y : ℕ
      inside : Sub x h
      inside_too : Sub y k
      two : size x ≡ 2
      holds : bit x b ≡ 1
      matched : IsMatch (pairs r) x y

    cover : (h k b : ℕ) → Twins r h k → bit h b ≡ 1 → SmallMatch h k b
    cover h k b w hb =
        let n = neighbour r h b w.one_own w.one w.big hb in
        let c : ℕ = n.0 in
        let t = pair_transport r r h k ok ok w.one_own w.other_own w.one w.other w.labels b c hb n.1 n.2 in
        let d : ℕ = t.0 in
        let e : ℕ = t.1 in
        let lb : b < bonds r = member_lt (bonds r) h b w.one_own hb in
        let ld : d < bonds r = member_lt (bonds r) k d w.other_own t.2 in
        let p : ℕ = bit_or (2 ^ b) (2 ^ c) in
        let q : ℕ = bit_or (2 ^ d) (2 ^ e) in
        let ph : Sub p h = union_sub h (2 ^ b) (2 ^ c) (one_sub h b hb) (one_sub h c n.1) in
        let qk : Sub q k = union_sub k (2 ^ d) (2 ^ e) (one_sub k d t.2) (one_sub k e t.3) in
        let sp : size p ≡ 2 = pair_size r b c (touch_in r b c n.2).0 in
        let sq : size q ≡ 2 = pair_size r d e (touch_in r d e t.4).0 in
        let pq : Twins r p q = record {
          one = pair_connected r b c lb n.2;
          other = pair_connected r d e ld t.4;
          one_own = own_sub r p h ph w.one_own;
          other_own = own_sub r q k qk w.other_own;
          apart = parts_apart h k p q w.apart ph qk;
          same_size = sp ∙ sym sq;
          big = omega arith;
          labels = t.5;
        } in
        record { x = p; y = q; inside = ph; inside_too = qk; two = sp; holds = or_left_in (2 ^ b) (2 ^ c) b (bit_one b); matched = all_listed p q pq }

    -- a size-2 match stands after one that is larger
    after : (i j : ℕ) → i < length (pairs r) → size_of (pairs r) j ≡ 2 → 3 ≤ size_of (pairs r) i → i ≤ j
    after i j l s b = go (dec_le i j)
      where
        go : Dec (i ≤ j) → i ≤ j
        go (yes h) = h
        go (no h) = absurd (omega (arith, m2 r j i (omega arith) l))

    stands_two : (x y : ℕ) (s : IsMatch (pairs r) x y) → size x ≡ 2 → size_of (pairs r) s.0 ≡ 2
    unfolding size_of
    stands_two x y s e =
        ⊎_elim (λ (q : ((pair (pairs r) s.0).h1 ≡ x) × ((pair (pairs r) s.0).h2 ≡ y)). ap size q.0 ∙ e)
        (λ (q : ((pair (pairs r) s.0).h1 ≡ y) × ((pair (pairs r) s.0).h2 ≡ x)). (m1 r s.0 s.1).same_size ∙ ap size q.1 ∙ e) s.2

    found : (i b x y : ℕ) (s : IsMatch (pairs r) x y) → i < length (pairs r) → 3 ≤ size_of (pairs r) i → size x ≡ 2 → bit x b ≡ 1
        → (Sub x (pair (pairs r) i).h1 × Sub y (pair (pairs r) i).h2) ⊎ (Sub x (pair (pairs r) i).h2 × Sub y (pair (pairs r) i).h1) → Covers (pairs r) i b s.0
    found i b x y s l big e hb q =
        let z = stands_two x y s e in
        record {
          within = s.1;
          later = after i s.0 l z big;
          two = z;
          inside = inside_either (pair (pairs r) s.0).h1 (pair (pairs r) s.0).h2 x y (pair (pairs r) i).h1 (pair (pairs r) i).h2 s.2 q;
          holds = holds_either (pair (pairs r) s.0).h1 (pair (pairs r) s.0).h2 x y b s.2 hb;
        }

    -- M3
    pub m3 : (i b : ℕ) → i < length (pairs r) → (bit (pair (pairs r) i).h1 b ≡ 1) ⊎ (bit (pair (pairs r) i).h2 b ≡ 1) → (j : ℕ) × Covers (pairs r) i b j
    unfolding size_of
    m3 i b l h = go (ℕ_discrete (size_of (pairs r) i) 2) h
      where
        w : Twins r (pair (pairs r) i).h1 (pair (pairs r) i).h2
        w = m1 r i l

        go : Dec (size_of (pairs r) i ≡ 2) → (bit (pair (pairs r) i).h1 b ≡ 1) ⊎ (bit (pair (pairs r) i).h2 b ≡ 1) → (j : ℕ) × Covers (pairs r) i b j
        go (yes e) k = (i, record { within = l; later = omega arith; two = e; inside = inl (and_self (pair (pairs r) i).h1, and_self (pair (pairs r) i).h2); holds = k })
        go (no n) (inl e) =
            let c = cover (pair (pairs r) i).h1 (pair (pairs r) i).h2 b w e in
            (c.matched.0, found i b c.x c.y c.matched l (omega (arith, w.big)) c.two c.holds (inl (c.inside, c.inside_too)))
        go (no n) (inr e) =
            let c = cover (pair (pairs r) i).h2 (pair (pairs r) i).h1 b (twins_sym r (pair (pairs r) i).h1 (pair (pairs r) i).h2 w) e in
            (c.matched.0, found i b c.x c.y c.matched l (omega (arith, w.big)) c.two c.holds (inr (c.inside, c.inside_too)))
