-- Components: each is connected and holds every connected part that meets it; they are apart, ascend, and make up the whole. Members are bonds of the record.
use mathlib.Core.Path.{◌≡◌, refl, sym, ap, ◌∙◌, subst}
use mathlib.Core.Logic.{◌⊎◌, inl, inr, ◌≢◌, ⊎_elim, ◌↔◌}
use mathlib.Core.Bool.{true, false, not}
use mathlib.Core.List.Memᴰ
use mathlib.Core.List.{List, [], ◌∷◌, Memᴰ}
use Prim.Native.Nat.{ℕ, zero, suc, ◌^◌, ◌≤◌, ◌<◌}
use native.Mathlib.Omega.{arith}
use native.Mathlib.Nat.{zero-add, lt_of_lt_of_le, lt_of_not-le, mod-eq_of_lt}
use lib.Pow.{pow_mono, pow-lt, pow_pos}
use lib.Bits.{bit_and, bit_or, and_self, and_le_r, or_lt, and_mask}
use lib.Dec.{ltb, eqb}
use lib.ListN.{get_or}
use borrow.Author.Tests.{eqb-true, eqb-false, eq-eqb, ne_eqb, not-true, lt-ltb}
use Rattle.bitset.specs.Bits.{bit, Sub, Disjoint, diff, size, unions, low}
use Rattle.bitset.proofs.Bools.{and_true}
use Rattle.bitset.proofs.Laws.{bit_le, bit_diff, bit_empty, bit_one, sub_trans, sub_anti, or_cases, unions_one, unions_of, member_lt, low_bit, low_least, size_mono, size_one, size_empty, size_disjoint, size_diff}
use Rattle.bitset.proofs.Members.{diff_sub, in_or_out, sub_of, sub_in, or_left_in, or_right_in, diff_in, one_is, some_member, not_empty, apart_of}
use Rattle.bitset.proofs.Decide.{sets, v, and, less, none, sub, apart, is}
use Rattle.molecule.specs.Lists.{Bytes}
use Rattle.molecule.specs.Record.{bonds, all_bonds}
use Rattle.molecule.specs.Touch.{touching, grow, reach, parts, is_part, component, components, connected, touching_words}
use Rattle.molecule.specs.Connected.{Touch, Own, Linked, here, step, Connected, Apart, Ascends}
use Rattle.molecule.specs.Rounds.{grow_round}
use Rattle.molecule.proofs.Growing.{Closed, round_in, round_keeps, reach_closed, reach_one, reach_sub, reach_same, parts_by, parts_none, parts_step, parts_same, is_part_same}
use Rattle.molecule.proofs.Lists.{list_at}
use Rattle.molecule.proofs.Touching.{touch_sym}

module _ (r : Bytes) where
  -- ---- bonds of the record

  pub own_sub : (s t : ℕ) → Sub s t → Own r t → Own r s
  own_sub s t q o = omega (arith, and_le_r s t)

  -- the same as a subset of all bonds
  pub own_all : (s : ℕ) → Own r s → Sub s (all_bonds r)
  own_all s o = and_mask s (bonds r) ∙ mod-eq_of_lt o

  pub all_own : (s : ℕ) → Sub s (all_bonds r) → Own r s
  all_own s q = own_sub s (all_bonds r) q (omega (arith, pow_pos (bonds r)))

  -- ---- links

  pub link_in : {s b c : ℕ} → Linked r s b c → (bit s b ≡ 1) × (bit s c ≡ 1)
  link_in (here h) = (h, h)
  link_in (step l t h) = ((link_in l).0, h)

  pub link_wide : {s b c : ℕ} (t : ℕ) → Sub s t → Linked r s b c → Linked r t b c
  link_wide {s} {b} t q (here h) = here (sub_in s t q b h)
  link_wide {s} t q (step {d = d} l k h) = step (link_wide t q l) k (sub_in s t q d h)

  pub link_join : {s b c d : ℕ} → Linked r s b c → Linked r s c d → Linked r s b d
  link_join l (here h) = l
  link_join l (step m t h) = step (link_join l m) t h

  pub link_sym : {s b c : ℕ} → Own r s → Linked r s b c → Linked r s c b
  link_sym o (here h) = here h
  link_sym {s} o (step {c = c} {d = d} l t h) =
      link_join (step (here h) (touch_sym r c d (member_lt (bonds r) s c o (link_in l).1) t) (link_in l).1) (link_sym o l)

  -- ---- one component

  -- b is linked inside c to every bond of c
  abbrev Links : ℕ → ℕ → Type 0
  Links b c = (x : ℕ) → bit c x ≡ 1 → Linked r c b x

  links_round : (s b c : ℕ) → Links b c → Links b (grow_round (touching r) s c)
  links_round s b c p x h =
      let more : ℕ = grow_round (touching r) s c in
      let wide : (y : ℕ) → bit c y ≡ 1 → Linked r more b y = λ y e. link_wide more (round_keeps (touching r) s c) (p y e) in
      ⊎_elim (λ e. wide x e) (λ w. step (wide w.0 w.1) w.2 h) (round_in (touching r) s c x h)

  links_grow : (s b f c : ℕ) → Links b c → Links b (grow (touching r) s f c)
  unfolding grow
  links_grow s b zero c p = p
  links_grow s b (suc f) c p = links_grow s b f (grow_round (touching r) s c) (links_round s b c p)

  links_component : (s b : ℕ) → Links b (component r s b)
  unfolding component reach
  links_component s b = links_grow s b (size s) (2 ^ b) (λ x e. let q : x ≡ b = one_is b x e in rw q (here (bit_one b)))

  -- it is a part of s that holds b, and connected
  pub component_sub : (s b : ℕ) → bit s b ≡ 1 → Sub (component r s b) s
  unfolding component
  component_sub s b h = reach_sub (touching r) s b h

  pub component_has : (s b : ℕ) → bit (component r s b) b ≡ 1
  unfolding component
  component_has s b = reach_one (touching r) s b

  pub component_connected : (s b : ℕ) → Own r s → bit s b ≡ 1 → Connected r (component r s b)
  component_connected s b o h =
      let c : ℕ = component r s b in
      record {
        some = not_empty c b (component_has s b);
        linked = λ x y hx hy. link_join (link_sym (own_sub c s (component_sub s b h) o) (links_component s b x hx)) (links_component s b y hy);
      }

  -- no bond of s outside it touches one of it; so it holds every connected part of s that meets it
  pub component_closed : (s b : ℕ) → Closed (touching r) s (component r s b)
  unfolding component
  component_closed s b = reach_closed (touching r) s (2 ^ b)

  closed_link : (s c f : ℕ) → Closed (touching r) s c → Sub f s → {x y : ℕ} → Linked r f x y → bit c x ≡ 1 → bit c y ≡ 1
  closed_link s c f k q (here h) m = m
  closed_link s c f k q (step {c = a} {d = d} l t h) m = k a d (closed_link s c f k q l m) (sub_in f s q d h) t

  pub component_whole : (s b f x : ℕ) → Connected r f → Sub f s → bit f x ≡ 1 → bit (component r s b) x ≡ 1 → Sub f (component r s b)
  component_whole s b f x k q hx m = sub_of f (component r s b) (λ y hy. closed_link s (component r s b) f (component_closed s b) q (k.linked x y hx hy) m)

  -- two components that meet are one
  pub component_same : (s a b x : ℕ) → Own r s → bit s a ≡ 1 → bit s b ≡ 1 → bit (component r s a) x ≡ 1 → bit (component r s b) x ≡ 1 → component r s a ≡ component r s b
  component_same s a b x o ha hb k l =
      sub_anti (component r s a) (component r s b)
      (component_whole s b (component r s a) x (component_connected s a o ha) (component_sub s a ha) k l)
      (component_whole s a (component r s b) x (component_connected s b o hb) (component_sub s b hb) l k)

  pub component_of : (s b x : ℕ) → Own r s → bit s b ≡ 1 → bit (component r s b) x ≡ 1 → component r s x ≡ component r s b
  component_of s b x o h k = component_same s x b x o (sub_in (component r s b) s (component_sub s b h) x k) h (component_has s x) k

  -- a connected set is its own component
  pub component_self : (s b : ℕ) → Connected r s → bit s b ≡ 1 → component r s b ≡ s
  component_self s b k h = sub_anti (component r s b) s (component_sub s b h) (component_whole s b s b k (and_self s) h (component_has s b))

  -- taking a component away leaves the others as they are
  pub component_rest : (s a b : ℕ) → Own r s → bit s a ≡ 1 → bit (diff s (component r s a)) b ≡ 1 → component r (diff s (component r s a)) b ≡ component r s b
  component_rest s a b o ha hd =
      let c : ℕ = component r s a in
      let d : ℕ = diff s c in
      let ds : Sub d s = diff_sub s c in
      let hb : bit s b ≡ 1 = sub_in d s ds b hd in
      let nb : bit c b ≡ 0 = omega (arith, bit_diff s c b, bit_le s b) in
      let e : ℕ = component r s b in
      let es : Sub e s = component_sub s b hb in
      let ec : Disjoint e c = apart_of e c (λ x hx hc. omega (arith, ap (λ (z : ℕ). bit z b) (component_same s a b x o ha hb hc hx), component_has s b)) in
      let ed : Sub e d = sets (sub (v 0) (v 1) ∷ apart (v 0) (v 2) ∷ []) (sub (v 0) (less (v 1) (v 2))) (e ∷ s ∷ c ∷ []) tt es ec in
      sub_anti (component r d b) e
      (component_whole s b (component r d b) b (component_connected d b (own_sub d s ds o) hd) (sub_trans (component r d b) d s (component_sub d b hd) ds) (component_has d b) (component_has s b))
      (component_whole d b e b (component_connected s b o hb) ed (component_has s b) (component_has d b))

  -- ---- the list of components

  -- what is left without the first component
  abbrev rest : ℕ → ℕ
  rest s = diff s (component r s (low s))

  rest_own : (s : ℕ) → Own r s → Own r (rest s)
  rest_own s o = own_sub (rest s) s (diff_sub s (component r s (low s))) o

  module _ (few : bonds r ≤ 64) where
    pub own_word : (s : ℕ) → Own r s → s < 2 ^ 64
    own_word s o = lt_of_lt_of_le o (pow_mono few)

    pub low_in : (s : ℕ) → Own r s → s ≢ 0 → bit s (low s) ≡ 1
    low_in s o n = low_bit 64 s (omega arith) (own_word s o)

    -- the lowest bond of a part that has the whole's lowest bond
    pub low_part : (s c : ℕ) → Own r s → Sub c s → bit c (low s) ≡ 1 → low s ≡ low c
    low_part s c o q h =
        let hc : bit c (low c) ≡ 1 = low_in c (own_sub c s q o) (not_empty c (low s) h) in
        let hs : bit s (low c) ≡ 1 = sub_in c s q (low c) hc in
        let a : low c < suc (low s) = lt_of_not-le (λ l. omega (arith, low_least 64 c (low s) l)) in
        let b : low s < suc (low c) = lt_of_not-le (λ l. omega (arith, low_least 64 s (low c) l)) in
        omega arith

    -- what holds of the empty set, and of s where it holds of the rest of s, holds of every set of bonds
    components_by : (P : ℕ → List ℕ → Type 0) → P 0 [] → ((s : ℕ) → Own r s → s ≢ 0 → P (rest s) (components r (rest s)) → P s (component r s (low s) ∷ components r (rest s)))
        → (s : ℕ) → Own r s → P s (components r s)
    unfolding component components
    components_by P base turn s o = parts_by (touching r) (λ t l. Own r t → P t l) (λ z. base) (λ t n w ih z. turn t z n (ih (rest_own t z))) s (own_word s o) o

    -- each is the component of its lowest bond
    pub components_mem : (s : ℕ) → Own r s → (c : ℕ) → Memᴰ c (components r s) → (bit s (low c) ≡ 1) × (c ≡ component r s (low c))
    components_mem = components_by (λ s l. (c : ℕ) → Memᴰ c l → (bit s (low c) ≡ 1) × (c ≡ component r s (low c))) (λ c m. absurd (Memᴰ.not-nil m))
        (λ s o n ih c m.
        let h : bit s (low s) ≡ 1 = low_in s o n in
        ⊎_elim (λ (e : c ≡ component r s (low s)).
        let l : low s ≡ low c = low_part s c o (rw e (component_sub s (low s) h)) (rw e (component_has s (low s))) in
        (ap (bit s) (sym l) ∙ h, e ∙ ap (component r s) l))
        (λ (t : Memᴰ c (components r (rest s))).
        let w = ih c t in
        (sub_in (rest s) s (diff_sub s (component r s (low s))) (low c) w.0, w.1 ∙ component_rest s (low s) (low c) o h w.0))
        (Memᴰ.cases_cons m))

    -- and each bond's component is one of them
    pub components_has : (s : ℕ) → Own r s → (x : ℕ) → bit s x ≡ 1 → Memᴰ (component r s x) (components r s)
    components_has = components_by (λ s l. (x : ℕ) → bit s x ≡ 1 → Memᴰ (component r s x) l) (λ x h. absurd (omega (arith, bit_empty x)))
        (λ s o n ih x h. ⊎_elim (λ (e : bit (component r s (low s)) x ≡ 1). Memᴰ.head (component_of s (low s) x o (low_in s o n) e))
        (λ (e : bit (component r s (low s)) x ≡ 0).
        let hd : bit (rest s) x ≡ 1 = diff_in s (component r s (low s)) x h e in
        Memᴰ.tail (Memᴰ.cast (sym (component_rest s (low s) x o (low_in s o n) hd)) (ih x hd)))
        (in_or_out (component r s (low s)) x))

    pub components_apart : (s : ℕ) → Own r s → Apart (components r s)
    components_apart = components_by (λ s l. Apart l) tt (λ s o n ih. (
      λ y m.
          let w = components_mem (rest s) (rest_own s o) y m in
          let q : Sub y (rest s) = rw w.1 (component_sub (rest s) (low y) w.0) in
          sets (sub (v 0) (less (v 1) (v 2)) ∷ []) (apart (v 2) (v 0)) (y ∷ s ∷ component r s (low s) ∷ []) tt q,
      ih,
    ))

    -- ascending by their lowest bonds
    pub components_rise : (s : ℕ) → Own r s → Ascends (components r s)
    components_rise = components_by (λ s l. Ascends l) tt (λ s o n ih. (
      λ y m.
          let w = components_mem (rest s) (rest_own s o) y m in
          let c : ℕ = component r s (low s) in
          let e : low s ≡ low c = low_part s c o (component_sub s (low s) (low_in s o n)) (component_has s (low s)) in
          let hy : bit s (low y) ≡ 1 = sub_in (rest s) s (diff_sub s (component r s (low s))) (low y) w.0 in
          let b : low s < suc (low y) = lt_of_not-le (λ l. omega (arith, low_least 64 s (low y) l)) in
          let d : low s ≢ low y = λ q. omega (arith, bit_diff s c (low y), w.0, bit_le s (low y), ap (bit c) q, component_has s (low s)) in
          omega arith,
      ih,
    ))

    module _ (s : ℕ) (o : Own r s) where
      -- each is a connected part of s
      pub components_connected : (c : ℕ) → Memᴰ c (components r s) → Connected r c × Sub c s
      components_connected c m = let w = components_mem s o c m in rw w.1 (component_connected s (low c) o w.0, component_sub s (low c) w.0)

      -- their union is s
      pub components_union : unions (λ c. c) (components r s) ≡ s
      components_union =
          sub_anti (unions (λ c. c) (components r s)) s
          (sub_of (unions (λ c. c) (components r s)) s (λ i h. let w = unions_of (λ c. c) (components r s) i h in sub_in w.0 s (components_connected w.0 w.1).1 i w.2))
          (sub_of s (unions (λ c. c) (components r s)) (λ i h. unions_one (λ c. c) (components r s) (component r s i) i (components_has s o i h) (component_has s i)))

      -- a connected part of s is inside one of them
      pub components_inside : (f : ℕ) → Connected r f → Sub f s → (c : ℕ) × Memᴰ c (components r s) × Sub f c
      components_inside f k q =
          let h : bit f (low f) ≡ 1 = low_in f (own_sub f s q o) k.some in
          (component r s (low f), components_has s o (low f) (sub_in f s q (low f) h), component_whole s (low f) f (low f) k q h (component_has s (low f)))

      -- the test says whether s is connected
      pub connected_true : connected r s ≡ true → Connected r s
      unfolding connected is_part component
      connected_true e =
          let w = and_true (not (eqb s 0)) (eqb (component r s (low s)) s) e in
          let n : s ≢ 0 = eqb-false s 0 (not-true (eqb s 0) w.0) in
          let q : component r s (low s) ≡ s = eqb-true (component r s (low s)) s w.1 in
          subst (Connected r) q (component_connected s (low s) o (low_in s o n))

      pub connected_is : Connected r s → connected r s ≡ true
      unfolding connected is_part component
      connected_is k =
          let a : eqb s 0 ≡ false = ne_eqb s 0 k.some in
          let b : eqb (component r s (low s)) s ≡ true = eq-eqb (component r s (low s)) s (component_self s (low s) k (low_in s o k.some)) in
          rw (a, b)

      pub connected_iff : (connected r s ≡ true) ↔ Connected r s
      connected_iff = (connected_true, connected_is)

  -- ---- the same from the words

  -- the bonds that touch bond i, by the list
  abbrev pub word_at : ℕ → ℕ
  word_at i = get_or (touching_words r) i 0

  pub words_at : (i : ℕ) → i < bonds r → i < 64 → word_at i ≡ touching r i
  unfolding touching_words
  words_at i l w = let e : ltb i (bonds r) ≡ true = lt-ltb i (bonds r) l in simp (list_at, zero-add, e)

  module _ (few : bonds r ≤ 64) where
    pub own_words : (s : ℕ) → Own r s → (x : ℕ) → bit s x ≡ 1 → word_at x ≡ touching r x
    own_words s o x h = let l : x < bonds r = member_lt (bonds r) s x o h in words_at x l (omega arith)

    pub reach_words : (s c : ℕ) → Own r s → Own r c → reach word_at s c ≡ reach (touching r) s c
    reach_words s c o l = reach_same word_at (touching r) s c (own_words (bit_or c s) (or_lt (bonds r) c s l o))

    pub component_words : (s b : ℕ) → Own r s → b < bonds r → reach word_at s (2 ^ b) ≡ component r s b
    unfolding component
    component_words s b o l = reach_words s (2 ^ b) o (pow-lt l)

    pub components_words : (s : ℕ) → Own r s → parts word_at s ≡ components r s
    unfolding components
    components_words s o = parts_same word_at (touching r) s (own_word few s o) (own_words s o)

    pub connected_words : (s : ℕ) → Own r s → is_part word_at s ≡ connected r s
    unfolding connected
    connected_words s o = is_part_same word_at (touching r) s (own_word few s o) (own_words s o)

  -- ---- small sets

  -- the last step to c, where it is not b
  last_touch : {s b c : ℕ} → Linked r s b c → (c ≡ b) ⊎ ((x : ℕ) × (bit s x ≡ 1) × Touch r x c)
  last_touch (here h) = inl refl
  last_touch (step {c = x} l t h) = inr (x, (link_in l).1, t)

  other_member : (s b : ℕ) → 2 ≤ size s → (c : ℕ) × (bit s c ≡ 1) × (c ≢ b)
  other_member s b l =
      let d : ℕ = diff s (2 ^ b) in
      let one : size (bit_and s (2 ^ b)) ≤ 1 = omega (arith, size_one b, size_mono (bit_and s (2 ^ b)) (2 ^ b) (sets [] (sub (and (v 0) (v 1)) (v 1)) (s ∷ 2 ^ b ∷ []) tt)) in
      let n : d ≢ 0 = λ e. omega (arith, size_diff s (2 ^ b), ap size e, size_empty) in
      let w = some_member d n in (
        w.0,
        sub_in d s (diff_sub s (2 ^ b)) w.0 w.1,
        λ e. omega (arith, bit_diff s (2 ^ b) w.0, bit_one b, ap (bit (2 ^ b)) e, bit_le s w.0, w.1),
      )

  -- a connected set of two bonds or more has for each another that touches it
  pub neighbour : (s b : ℕ) → Own r s → Connected r s → 2 ≤ size s → bit s b ≡ 1 → (c : ℕ) × (bit s c ≡ 1) × Touch r b c
  neighbour s b o k l h =
      let w = other_member s b l in
      go w.2 (last_touch (k.linked w.0 b w.1 h))
    where
      go : {c : ℕ} → c ≢ b → (b ≡ c) ⊎ ((x : ℕ) × (bit s x ≡ 1) × Touch r x b) → (c : ℕ) × (bit s c ≡ 1) × Touch r b c
      go n (inl e) = absurd (n (sym e))
      go n (inr w) = (w.0, w.1, touch_sym r w.0 b (member_lt (bonds r) s w.0 o w.1) w.2)

  -- two bonds that touch
  pub pair_cases : (b c x : ℕ) → bit (bit_or (2 ^ b) (2 ^ c)) x ≡ 1 → (x ≡ b) ⊎ (x ≡ c)
  pair_cases b c x h = ⊎_elim (λ e. inl (one_is b x e)) (λ e. inr (one_is c x e)) (or_cases (2 ^ b) (2 ^ c) x h)

  pub pair_size : (b c : ℕ) → c ≢ b → size (bit_or (2 ^ b) (2 ^ c)) ≡ 2
  pair_size b c n = size_disjoint (2 ^ b) (2 ^ c) (apart_of (2 ^ b) (2 ^ c) (λ i h k. n (sym (one_is c i k) ∙ one_is b i h))) ∙ omega (arith, size_one b, size_one c)

  pub pair_connected : (b c : ℕ) → b < bonds r → Touch r b c → Connected r (bit_or (2 ^ b) (2 ^ c))
  pair_connected b c l t = record {
    some = not_empty (bit_or (2 ^ b) (2 ^ c)) b hb;
    linked = λ x y hx hy. go (pair_cases b c x hx) (pair_cases b c y hy);
  }
    where
      hb : bit (bit_or (2 ^ b) (2 ^ c)) b ≡ 1
      hb = or_left_in (2 ^ b) (2 ^ c) b (bit_one b)

      hc : bit (bit_or (2 ^ b) (2 ^ c)) c ≡ 1
      hc = or_right_in (2 ^ b) (2 ^ c) c (bit_one c)

      go : {x y : ℕ} → (x ≡ b) ⊎ (x ≡ c) → (y ≡ b) ⊎ (y ≡ c) → Linked r (bit_or (2 ^ b) (2 ^ c)) x y
      go (inl e) (inl f) = rw (e, f) (here hb)
      go (inl e) (inr f) = rw (e, f) (step (here hb) t hc)
      go (inr e) (inl f) = rw (e, f) (step (here hc) (touch_sym r b c l t) hb)
      go (inr e) (inr f) = rw (e, f) (here hc)

-- a connected set is its only component
pub components_self : (r : Bytes) → bonds r ≤ 64 → (s : ℕ) → Own r s → Connected r s → components r s ≡ s ∷ []
unfolding component components
components_self r few s o k =
    let e : reach (touching r) s (2 ^ low s) ≡ s = component_self r s (low s) k (low_in r few s o k.some) in
    let z : diff s s ≡ 0 = sets [] (is (less (v 0) (v 0)) none) (s ∷ []) tt in
    parts_step (touching r) s k.some (own_word r few s o) ∙ rw (e, z, parts_none (touching r))
