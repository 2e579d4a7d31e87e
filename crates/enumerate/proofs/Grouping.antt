-- The groups in the lent table: chains of members, a group that is joined, a group that is opened, hints, and the candidates one at a time. Assumes nothing.
use Rattle.std.proofs.Common.{◌≡◌, refl, sym, ap, ◌∙◌, ◌⊎◌, inl, inr, ◌≢◌, true, false, List, [], ◌∷◌, ◌++◌, ℕ, suc, ◌+◌, ◌*◌, ◌≤◌, ◌<◌, add-one, arith, length, get_or, set, drop, length-set, drop-cons, get_or-set_same, get_or-set_other}
use Rattle.std.proofs.lemmas.Bool.{false≢true}
use mathlib.Core.List.{Memᴰ}
use Rattle.std.proofs.Math.Decide.{ℕ_discrete, dec_lt}
use Rattle.clear.specs.Inner.Part.{zero_part}
use Rattle.clear.proofs.Part.{part_length, part_below, part_zero}
use Rattle.molecule.specs.Lists.{Bytes, fold}
use Rattle.molecule.proofs.Lists.{at_mem}
use Rattle.canonize.specs.Strings.{lex_le, same}
use Rattle.canonize.specs.Label.{label}
use Rattle.canonize.specs.Inner.Slate.{Fragment}
use Rattle.canonize.proofs.Laws.{same_iff, le_refl}
use Rattle.matches.specs.Table.{Group, place, groups}
use Rattle.enumerate.specs.Inner.Bucketed.{Bucketed}
use Rattle.enumerate.specs.Inner.Grouped.{group_at, Threaded, ends, then, Keyed, Grouped, Groupable, Around, Outside, key_at, Firsts, Position, GroupOpened, joined, Hints, Hinted, HintLeads, Moved, Placing, GroupPlaced}
use Rattle.enumerate.proofs.Chains.{bucketed_same}
use Rattle.enumerate.proofs.Placing.{position_of, put_at, put_length, put_before, put_this, put_after, Side, side, keys_of, grown_group, new_group, place_join, place_open, join_this, join_other, keyed_join, keyed_open}

-- ---- what is not written

pub outside_around : {old now : List ℕ} {p : ℕ} → Outside old now p → Around old now p
outside_around o = record { long = o.long; low = o.low; middle = λ i h k. o.high i h }

pub around_then : {k l m : List ℕ} {p : ℕ} → Around k l p → Around l m p → Around k m p
around_then v w = record {
  long = w.long ∙ v.long;
  low = λ i h. w.low i h ∙ v.low i h;
  middle = λ i h k. w.middle i h k ∙ v.middle i h k;
}

pub bucketed_around : {old now : List ℕ} {p : ℕ} {l : List ℕ} → Around old now p → Bucketed old p l → Bucketed now p l
bucketed_around o f = bucketed_same o.long o.low f

pub groupable_around : {r : Bytes} {old now : List ℕ} {p : ℕ} {l : List ℕ} → Around old now p → Groupable r old p l → Groupable r now p l
groupable_around o w = record { found = bucketed_around o w.found; wide = omega (arith, o.long, w.wide); fragments = w.fragments }

-- ---- chains

module _ {parts : List ℕ} {p : ℕ} {l : List ℕ} {n : ℕ} where
  pub chain_below : {i e : ℕ} {sets : List ℕ} → Threaded parts p l n i sets e → e < n
  chain_below (ends h q) = h
  chain_below (then h q c) = chain_below c

  pub chain_rise : {i e : ℕ} {sets : List ℕ} → Threaded parts p l n i sets e → i ≤ e
  chain_rise (ends h q) = omega arith
  chain_rise (then h q c) = omega (arith, h, chain_rise c)

  pub chain_first : {i e : ℕ} {sets : List ℕ} → Threaded parts p l n i sets e → Memᴰ (get_or l i 0) sets
  chain_first (ends h q) = Memᴰ.head refl
  chain_first (then h q c) = Memᴰ.head refl

  pub chain_last : {i e : ℕ} {sets : List ℕ} → Threaded parts p l n i sets e → Memᴰ (get_or l e 0) sets
  chain_last (ends h q) = Memᴰ.head refl
  chain_last (then h q c) = Memᴰ.tail (chain_last c)

  -- the words at its members are as they were
  chain_same : {i e : ℕ} {sets : List ℕ} (now : List ℕ) (m : ℕ) → n ≤ m → Threaded parts p l n i sets e → ((j : ℕ) → j < n → Memᴰ (get_or l j 0) sets → get_or now (5 * p + j) 0 ≡ get_or parts (5 * p + j) 0) → Threaded now p l m i sets e
  chain_same now m h (ends {i = i} g q) s = ends {i = i} (omega arith) (s i g (Memᴰ.head refl) ∙ q)
  chain_same now m h (then {i = i} g q c) s = then {i = i} g (s i (omega (arith, g, chain_rise c, chain_below c)) (Memᴰ.head refl) ∙ q) (chain_same now m h c (λ j b u. s j b (Memᴰ.tail u)))

  -- candidate n is put at its end
  chain_grow : {i e : ℕ} {sets : List ℕ} (now : List ℕ) → Threaded parts p l n i sets e → ((j : ℕ) → j < n → j ≢ e → get_or now (5 * p + j) 0 ≡ get_or parts (5 * p + j) 0) → get_or now (5 * p + e) 0 ≡ suc n → get_or now (5 * p + n) 0 ≡ 0 → Threaded now p l (n + 1) i (sets ++ (get_or l n 0 ∷ [])) n
  chain_grow now (ends {i = i} g q) s a b = then {i = i} g a (ends {i = n} (omega arith) b)
  chain_grow now (then {i = i} g q c) s a b = then {i = i} g (s i (omega (arith, g, chain_rise c, chain_below c)) (λ d. omega (arith, d, g, chain_rise c)) ∙ q) (chain_grow now c s a b)

  -- the first member, and what comes after it
  pub chain_split : {i e : ℕ} {sets : List ℕ} → Threaded parts p l n i sets e
      → (rest : List ℕ) × (sets ≡ get_or l i 0 ∷ rest) × (((get_or parts (5 * p + i) 0 ≡ 0) × (rest ≡ []))
      ⊎ ((j : ℕ) × (i < j) × (get_or parts (5 * p + i) 0 ≡ suc j) × Threaded parts p l n j rest e))
  chain_split (ends h q) = ([], refl, inl (q, refl))
  chain_split (then {j = j} {sets = rest} h q c) = (rest, refl, inr (j, h, q, c))

  chain_cast : {i i' e e' : ℕ} {sets sets' : List ℕ} → i' ≡ i → sets' ≡ sets → e' ≡ e → Threaded parts p l n i sets e → Threaded parts p l n i' sets' e'
  chain_cast a b c w = rw (a, b, c) w

-- ---- a group is joined

module _ (parts : List ℕ) (p f i : ℕ) (wide : 7 * p ≤ length parts) (one : f < p) (this : i < p) (end : get_or parts (6 * p + f) 0 < p) where
  abbrev e : ℕ
  e = get_or parts (6 * p + f) 0

  abbrev first_set : List ℕ
  first_set = set parts (5 * p + e) (i + 1)

  abbrev second_set : List ℕ
  second_set = set first_set (5 * p + i) 0

  second_long : length second_set ≡ length parts
  second_long = length-set first_set (5 * p + i) 0 ∙ length-set parts (5 * p + e) (i + 1)

  join_word : (m : ℕ) → m ≢ 5 * p + e → m ≢ 5 * p + i → m ≢ 6 * p + f → get_or (joined parts p f i) m 0 ≡ get_or parts m 0
  unfolding joined
  join_word m a b c = get_or-set_other second_set (6 * p + f) m i 0 c ∙ get_or-set_other first_set (5 * p + i) m 0 0 b ∙ get_or-set_other parts (5 * p + e) m (i + 1) 0 a

  join_link : e ≢ i → get_or (joined parts p f i) (5 * p + e) 0 ≡ suc i
  unfolding joined
  join_link n =
      get_or-set_other second_set (6 * p + f) (5 * p + e) i 0 (λ q. omega (arith, q, end))
      ∙ get_or-set_other first_set (5 * p + i) (5 * p + e) 0 0 (λ q. n (omega (arith, q)))
      ∙ get_or-set_same parts (5 * p + e) (i + 1) 0 (omega (arith, end))
      ∙ omega arith

  join_end : get_or (joined parts p f i) (5 * p + i) 0 ≡ 0
  unfolding joined
  join_end = get_or-set_other second_set (6 * p + f) (5 * p + i) i 0 (λ q. omega (arith, q)) ∙ get_or-set_same first_set (5 * p + i) 0 0 (omega (arith, length-set parts (5 * p + e) (i + 1)))

  join_last : get_or (joined parts p f i) (6 * p + f) 0 ≡ i
  unfolding joined
  join_last = get_or-set_same second_set (6 * p + f) i 0 (omega (arith, second_long))

  pub join_outside : Outside parts (joined parts p f i) p
  unfolding joined
  join_outside = record {
    long = length-set second_set (6 * p + f) i ∙ second_long;
    low = λ m h. join_word m (λ q. omega (arith, q, h)) (λ q. omega (arith, q, h)) (λ q. omega (arith, q, h));
    high = λ m h. join_word m (λ q. omega (arith, q, h, end)) (λ q. omega (arith, q, h)) (λ q. omega (arith, q, h));
  }

  pub moved_join : (g : ℕ) → g ≤ p → Moved parts (joined parts p f i) p g g i
  moved_join g few = record {
    still = λ k h. (k, h, join_word (4 * p + k) (λ q. omega (arith, q, h)) (λ q. omega (arith, q, h)) (λ q. omega (arith, q, h)));
    new = λ n. absurd (n refl);
  }

-- ---- a group is opened

pub moved_open : {old now : List ℕ} {p g k i : ℕ} → k ≤ g → GroupOpened old now p g k i → Moved old now p g (g + 1) i
moved_open {old} {now} {p} {g} {k} {i} b o = record { still = λ j h. go j h (dec_lt j k); new = λ n. (k, omega arith, o.first) }
  where
    go : (j : ℕ) → j < g → Dec (j < k) → (m : ℕ) × (m < g + 1) × (get_or now (4 * p + m) 0 ≡ get_or old (4 * p + j) 0)
    go j h (yes l) = (j, omega arith, o.before j l)
    go j h (no l) = (suc j, omega arith, o.after j (omega arith) h)

-- ---- hints

pub hints_moved : {old now : List ℕ} {p g n i m : ℕ} → Outside old now p → Moved old now p g n i → Hints old p g m → Hints now p n m
hints_moved {p = p} o v w = record {
  first = λ j f h e.
      let u = w.first j f h (sym (o.high (9 * p + j) (omega arith)) ∙ e) in
      let t = v.still u.0 u.1 in
      (t.0, t.1, u.2 ∙ sym t.2);
}

-- a hint leads to the first member of a group
module _ (r : Bytes) {parts : List ℕ} {p g m j : ℕ} (w : Hints parts p g m) (here : j < m) where
  pub hinted : Firsts r parts p g → 9 * p + j < length parts → Hinted r parts p j
  hinted v wide = record {
    wide = wide;
    within = λ f e. let u = w.first j f here e in rw u.2 (v.within u.0 u.1);
    fragment = λ f e. let u = w.first j f here e in rw u.2 (v.fragments u.0 u.1);
  }

  pub leads_group : (f : ℕ) (x : Bytes) → HintLeads r parts p j f x → (k : ℕ) × (k < g) × (f ≡ get_or parts (4 * p + k) 0) × (same x (key_at r parts p k) ≡ true)
  unfolding key_at
  leads_group f x d =
      let u = w.first j f here d.0 in
      (u.0, u.1, u.2, rw (← u.2) d.1)

-- m words from region 9 on become 0
pub forgotten : {old now : List ℕ} {p m : ℕ} → 12 * p ≤ length old → m ≤ 3 * p → now ≡ zero_part old (9 * p) (9 * p + m) → Around old now p × Hints now p 0 m
forgotten {old = old} {p = p} {m = m} wide room e =
    let order : 9 * p ≤ 9 * p + m = omega arith in
    let fits : 9 * p + m ≤ length old = omega arith in
    let below = part_below old (9 * p) (9 * p + m) order fits in
    rw e (
      record { long = part_length old (9 * p) (9 * p + m) order fits; low = λ i h. below i (omega arith); middle = λ i h k. below i k },
      record { first = λ j f h q. absurd (omega (arith, q, part_zero old (9 * p) (9 * p + m) order fits (9 * p + j) (omega arith) (omega arith))) },
    )

-- the hint j becomes y
module _ (parts : List ℕ) (p j y : ℕ) where
  abbrev noted : List ℕ
  noted = set parts (9 * p + j) y

  noted_word : (m : ℕ) → m < 9 * p → get_or noted m 0 ≡ get_or parts m 0
  noted_word m h = get_or-set_other parts (9 * p + j) m y 0 (λ q. omega (arith, q, h))

  pub around_noted : Around parts noted p
  around_noted = record { long = length-set parts (9 * p + j) y; low = λ m h. noted_word m (omega arith); middle = λ m h k. noted_word m k }

  pub hints_noted : (m n i : ℕ) → y ≡ i + 1 → 9 * p + j < length parts → n ≤ p → (k : ℕ) × (k < n) × (get_or parts (4 * p + k) 0 ≡ i) → Hints parts p n m → Hints noted p n m
  hints_noted m n i is wide few new w = record { first = λ a f h e. go a f h e (ℕ_discrete a j) }
    where
      first_at : (k : ℕ) → k < n → get_or noted (4 * p + k) 0 ≡ get_or parts (4 * p + k) 0
      first_at k h = noted_word (4 * p + k) (omega arith)

      go : (a f : ℕ) → a < m → get_or noted (9 * p + a) 0 ≡ suc f → Dec (a ≡ j) → (k : ℕ) × (k < n) × (f ≡ get_or noted (4 * p + k) 0)
      go a f h e (yes q) =
          let e₁ : get_or noted (9 * p + j) 0 ≡ suc f = rw q at e in
          (new.0, new.1, omega (arith, e₁, get_or-set_same parts (9 * p + j) y 0 wide, is, new.2, first_at new.0 new.1))
      go a f h e (no q) =
          let u = w.first a f h (sym (get_or-set_other parts (9 * p + j) (9 * p + a) y 0 (λ z. q (omega (arith, z)))) ∙ e) in
          (u.0, u.1, u.2 ∙ sym (first_at u.0 u.1))

  pub placed_noted : {r : Bytes} {l : List ℕ} {i : ℕ} {gs : List Group} {g : ℕ} {x : Bytes} → i < p → GroupPlaced r parts p l i gs g x → GroupPlaced r noted p l i gs g x
  placed_noted {r} {l} {i} {gs} {g} {x} room w = record {
    grouped = record { few = w.grouped.few; keyed = w.grouped.keyed; chains = chain };
    count = w.count;
  }
    where
      chain : (k : ℕ) → k < length (place gs (get_or l i 0) x) → Threaded noted p l (i + 1) (get_or noted (4 * p + k) 0) (group_at (place gs (get_or l i 0) x) k).sets (get_or noted (6 * p + get_or noted (4 * p + k) 0) 0)
      chain k h =
          let c = w.grouped.chains k h in
          let a : get_or noted (4 * p + k) 0 ≡ get_or parts (4 * p + k) 0 = noted_word (4 * p + k) (omega (arith, w.grouped.few)) in
          let e : get_or noted (6 * p + get_or noted (4 * p + k) 0) 0 ≡ get_or parts (6 * p + get_or parts (4 * p + k) 0) 0 = rw a (noted_word (6 * p + get_or parts (4 * p + k) 0) (omega (arith, chain_rise c, chain_below c))) in
          chain_cast a refl e (chain_same noted (i + 1) (omega arith) c (λ m b u. noted_word (5 * p + m) (omega arith)))

-- ---- a candidate goes to its group

pub first_in_parts : {r : Bytes} {parts : List ℕ} {p g : ℕ} → Firsts r parts p g → (k : ℕ) → k < g → p + get_or parts (4 * p + k) 0 < length parts
first_in_parts w k h = omega (arith, w.within k h, w.wide)

-- groups have different keys
distinct : {r : Bytes} {gs : List Group} → Keyed r gs → (j k : ℕ) → j < length gs → k < length gs → j ≢ k → keys_of gs j ≡ keys_of gs k → ⊥
distinct {gs = gs} w j k h i n q = go (dec_lt j k)
  where
    clash : {x y : Bytes} → x ≡ y → lex_le y x ≡ false → ⊥
    clash {x} {y} e f = let g : lex_le y y ≡ false = rw e at f in false≢true (sym g ∙ le_refl y)

    go : Dec (j < k) → ⊥
    go (yes a) = clash q (w.ascend j k a i)
    go (no a) = clash (sym q) (w.ascend k j (omega arith) h)

module _ {r : Bytes} {parts : List ℕ} {p : ℕ} {l : List ℕ} {i : ℕ} {gs : List Group} {g : ℕ} {x : Bytes} (w : Placing r parts p l i gs g x) where
  abbrev f : ℕ → ℕ
  f k = get_or parts (4 * p + k) 0

  chain : (k : ℕ) → k < g → Threaded parts p l i (f k) (group_at gs k).sets (get_or parts (6 * p + f k) 0)
  chain k h = w.grouped.chains k (omega (arith, w.count))

  pub placing_room : i < p
  placing_room = omega (arith, w.more, w.ready.found.listed.fits)

  pub placing_wide : 7 * p ≤ length parts
  placing_wide = omega (arith, w.ready.wide)

  pub placing_few : g ≤ i
  placing_few = omega (arith, w.grouped.few, w.count)

  pub placing_first : (k : ℕ) → k < g → f k < i
  placing_first k h = omega (arith, chain_rise (chain k h), chain_below (chain k h))

  pub placing_last : (k : ℕ) → k < g → get_or parts (6 * p + f k) 0 < i
  placing_last k h = chain_below (chain k h)

  set_at : (k : ℕ) → k < g → get_or parts (p + f k) 0 ≡ get_or l (f k) 0
  set_at k h = w.ready.found.listed.sets (f k) (omega (arith, placing_first k h, w.more))

  member : (k : ℕ) → k < g → Memᴰ (get_or l (f k) 0) l
  member k h = at_mem 0 l (f k) (omega (arith, placing_first k h, w.more))

  pub key_at_lem : (k : ℕ) → k < g → key_at r parts p k ≡ keys_of gs k
  unfolding key_at
  key_at_lem k h = ap (label r) (set_at k h) ∙ w.grouped.keyed.labels k (get_or l (f k) 0) (omega (arith, w.count)) (chain_first (chain k h))

  pub placing_firsts : Firsts r parts p g
  placing_firsts = record {
    wide = placing_wide;
    few = omega (arith, placing_few, placing_room);
    within = λ k h. omega (arith, placing_first k h, placing_room);
    fragments = λ k h. rw (set_at k h) (w.ready.fragments (get_or l (f k) 0) (member k h));
    ascend = λ j k a h. rw (key_at_lem k h, key_at_lem j (omega arith)) (w.grouped.keyed.ascend j k a (omega (arith, w.count)));
  }

  -- a group whose first member has the label is the label's place
  pub placing_position : (k : ℕ) → k < g → same x (key_at r parts p k) ≡ true → Position (key_at r parts p) g x k
  placing_position = position_of placing_firsts.ascend

  -- members of different groups are different candidates
  apart : (j k a b : ℕ) → j < g → k < g → j ≢ k → Memᴰ (get_or l a 0) (group_at gs j).sets → Memᴰ (get_or l b 0) (group_at gs k).sets → a ≢ b
  apart j k a b h i n u v q =
      let s = w.grouped.keyed in
      distinct s j k (omega (arith, w.count)) (omega (arith, w.count)) n
      (sym (s.labels j (get_or l a 0) (omega (arith, w.count)) u) ∙ ap (λ (m : ℕ). label r (get_or l m 0)) q ∙ s.labels k (get_or l b 0) (omega (arith, w.count)) v)

  module _ (k : ℕ) (pos : Position (key_at r parts p) g x k) where
    within : k ≤ length gs
    within = omega (arith, pos.within, w.count)

    before : (j : ℕ) → j < k → lex_le x (keys_of gs j) ≡ false
    before j h = rw (← (key_at_lem j (omega (arith, pos.within)))) (pos.before j h)

    after : k < length gs → lex_le x (keys_of gs k) ≡ true
    after h = let b : k < g = omega (arith, w.count) in rw (← (key_at_lem k b)) (pos.after b)

    -- it joins group k
    module _ (h : k < g) (t : same x (key_at r parts p k) ≡ true) where
      here : k < length gs
      here = omega (arith, w.count)

      equal : same x (keys_of gs k) ≡ true
      equal = rw (← (key_at_lem k h)) t

      abbrev now : List ℕ
      now = joined parts p (f k) i

      abbrev more : List Group
      more = set gs k (grown_group (get_or l i 0) x (group_at gs k))

      same_word : (m : ℕ) → m ≢ 5 * p + get_or parts (6 * p + f k) 0 → m ≢ 5 * p + i → m ≢ 6 * p + f k → get_or now m 0 ≡ get_or parts m 0
      same_word = join_word parts p (f k) i placing_wide (omega (arith, placing_first k h, placing_room)) placing_room (omega (arith, placing_last k h, placing_room))

      first_same : (j : ℕ) → j < g → get_or now (4 * p + j) 0 ≡ f j
      first_same j b = same_word (4 * p + j) (λ q. omega (arith, q, b, placing_few, placing_room)) (λ q. omega (arith, q, b, placing_few, placing_room)) (λ q. omega (arith, q, b, placing_few, placing_room))

      is : place gs (get_or l i 0) x ≡ more
      is = place_join (get_or l i 0) x gs k here before equal

      long : length more ≡ length gs
      long = length-set gs k (grown_group (get_or l i 0) x (group_at gs k))

      chains_of : (j : ℕ) → j < g → Dec (j ≡ k) → Threaded now p l (i + 1) (get_or now (4 * p + j) 0) (group_at more j).sets (get_or now (6 * p + get_or now (4 * p + j) 0) 0)
      chains_of j b (yes q) =
          let c : Threaded now p l (i + 1) (f k) ((group_at gs k).sets ++ (get_or l i 0 ∷ [])) i =
          chain_grow now (chain k h) (λ m d n. same_word (5 * p + m) (λ z. n (omega (arith, z))) (λ z. omega (arith, z, d)) (λ z. omega (arith, z, d, placing_room)))
          (join_link parts p (f k) i placing_wide (omega (arith, placing_first k h, placing_room)) placing_room (omega (arith, placing_last k h, placing_room)) (λ z. omega (arith, z, placing_last k h)))
          (join_end parts p (f k) i placing_wide (omega (arith, placing_first k h, placing_room)) placing_room (omega (arith, placing_last k h, placing_room))) in
          let a : get_or now (4 * p + j) 0 ≡ f k = rw q (first_same k h) in
          let s : (group_at more j).sets ≡ (group_at gs k).sets ++ (get_or l i 0 ∷ []) = rw q (ap (λ (z : Group). z.sets) (join_this r gs w.grouped.keyed (get_or l i 0) x w.its k here ((same_iff x (keys_of gs k)).0 equal))) in
          let e : get_or now (6 * p + get_or now (4 * p + j) 0) 0 ≡ i = rw a (join_last parts p (f k) i placing_wide (omega (arith, placing_first k h, placing_room)) placing_room (omega (arith, placing_last k h, placing_room))) in
          chain_cast a s e c
      chains_of j b (no n) =
          let c : Threaded now p l (i + 1) (f j) (group_at gs j).sets (get_or parts (6 * p + f j) 0) =
          chain_same now (i + 1) (omega arith) (chain j b) (λ m d u. same_word (5 * p + m) (λ z. apart j k m (get_or parts (6 * p + f k) 0) b h n u (chain_last (chain k h)) (omega (arith, z))) (λ z. omega (arith, z, d)) (λ z. omega (arith, z, d, placing_room))) in
          let a : get_or now (4 * p + j) 0 ≡ f j = first_same j b in
          let s : (group_at more j).sets ≡ (group_at gs j).sets = ap (λ (z : Group). z.sets) (join_other r gs w.grouped.keyed (get_or l i 0) x w.its k here ((same_iff x (keys_of gs k)).0 equal) j n) in
          let e : get_or now (6 * p + get_or now (4 * p + j) 0) 0 ≡ get_or parts (6 * p + f j) 0 =
          rw a (same_word (6 * p + f j) (λ z. omega (arith, z, placing_last k h, placing_room)) (λ z. omega (arith, z, placing_room)) (λ z. apart j k (f j) (f k) b h n (chain_first (chain j b)) (chain_first (chain k h)) (omega (arith, z)))) in
          chain_cast a s e c

      pub placed_join : GroupPlaced r now p l i gs g x
      placed_join = record {
        grouped = rw is (record {
          few = omega (arith, long, w.grouped.few);
          keyed = keyed_join r gs w.grouped.keyed (get_or l i 0) x w.its k here ((same_iff x (keys_of gs k)).0 equal);
          chains = λ j b. chains_of j (omega (arith, b, long, w.count)) (ℕ_discrete j k);
        });
        count = rw is (long ∙ w.count);
      }

    -- it opens a group at k
    module _ (n : k < g → same x (key_at r parts p k) ≡ false) (now : List ℕ) (o : GroupOpened parts now p g k i) where
      unequal : k < length gs → same x (keys_of gs k) ≡ false
      unequal h = let b : k < g = omega (arith, w.count) in rw (← (key_at_lem k b)) (n b)

      abbrev put : List Group
      put = put_at gs k (new_group (get_or l i 0) x)

      is_put : place gs (get_or l i 0) x ≡ put
      is_put = place_open (get_or l i 0) x gs k within before after unequal

      put_count : length put ≡ length gs + 1
      put_count = put_length gs k (new_group (get_or l i 0) x)

      -- an old group, at its new place
      old_chain : (j m : ℕ) → m < g → get_or now (4 * p + j) 0 ≡ f m → group_at put j ≡ group_at gs m → Threaded now p l (i + 1) (get_or now (4 * p + j) 0) (group_at put j).sets (get_or now (6 * p + get_or now (4 * p + j) 0) 0)
      old_chain j m b a s =
          let e : get_or now (6 * p + get_or now (4 * p + j) 0) 0 ≡ get_or parts (6 * p + f m) 0 = rw a (o.lasts (f m) (placing_first m b)) in
          chain_cast a (ap (λ (z : Group). z.sets) s) e (chain_same now (i + 1) (omega arith) (chain m b) (λ d c u. o.nexts d c))

      put_chains : (j : ℕ) → j ≤ g → Side k j → Threaded now p l (i + 1) (get_or now (4 * p + j) 0) (group_at put j).sets (get_or now (6 * p + get_or now (4 * p + j) 0) 0)
      put_chains j b (inl h) = old_chain j j (omega (arith, pos.within)) (o.before j h) (put_before gs k (new_group (get_or l i 0) x) j h within)
      put_chains j b (inr (inl q)) =
          let a : get_or now (4 * p + j) 0 ≡ i = rw q o.first in
          let s : (group_at put j).sets ≡ get_or l i 0 ∷ [] = rw q (ap (λ (z : Group). z.sets) (put_this gs k (new_group (get_or l i 0) x) within)) in
          let e : get_or now (6 * p + get_or now (4 * p + j) 0) 0 ≡ i = rw a o.last in
          chain_cast a s e (ends {i = i} (omega arith) o.next)
      put_chains j b (inr (inr (m, q, h))) =
          old_chain j m (omega arith) (rw q (o.after m h (omega arith))) (rw q (put_after gs k (new_group (get_or l i 0) x) m h within))

      pub placed_open : GroupPlaced r now p l i gs (g + 1) x
      placed_open = record {
        grouped = rw is_put (record {
          few = omega (arith, put_count, w.grouped.few);
          keyed = keyed_open r gs w.grouped.keyed (get_or l i 0) x w.its k within before after unequal;
          chains = λ j b. put_chains j (omega (arith, b, put_count, w.count)) (side k j);
        });
        count = rw is_put (omega (arith, put_count, w.count));
      }

-- what placing candidate i does to the table, whatever the candidates and groups are
abbrev pub Places : Bytes → List ℕ → List ℕ → ℕ → ℕ → ℕ → ℕ → Bytes → Type 0
Places r old now p i g n x = (l : List ℕ) (gs : List Group) → Placing r old p l i gs g x → GroupPlaced r now p l i gs n x

module _ {r : Bytes} {parts : List ℕ} {p : ℕ} {l : List ℕ} {i : ℕ} {gs : List Group} {g : ℕ} {x : Bytes} (w : Placing r parts p l i gs g x) where
  -- candidate i joins group k
  pub join_places : (k : ℕ) → Position (key_at r parts p) g x k → k < g → same x (key_at r parts p k) ≡ true → (now : List ℕ)
      → now ≡ joined parts p (get_or parts (4 * p + k) 0) i
      → Outside parts now p × Moved parts now p g g i × Places r parts now p i g g x
  join_places k pos h t now e =
      let a = (placing_firsts w).within k h in
      let b : get_or parts (6 * p + get_or parts (4 * p + k) 0) 0 < p = omega (arith, placing_last w k h, placing_room w) in
      let f = get_or parts (4 * p + k) 0 in (
        rw e (join_outside parts p f i (placing_wide w) a (placing_room w) b),
        rw e (moved_join parts p f i (placing_wide w) a (placing_room w) b g (placing_firsts w).few),
        λ l gs v. rw e (placed_join v k pos h t),
      )

  -- it opens a group at k
  pub open_places : (k : ℕ) → Position (key_at r parts p) g x k → (k < g → same x (key_at r parts p k) ≡ false) → (now : List ℕ) → GroupOpened parts now p g k i
      → Outside parts now p × Moved parts now p g (g + 1) i × Places r parts now p i g (g + 1) x
  open_places k pos n now o = (o.outside, moved_open pos.within o, λ l gs v. placed_open v k pos n now o)

  module _ {m : ℕ} (hints : Hints parts p g m) where
    -- hint j leads to its group, which it joins
    pub hint_places : (j f : ℕ) → j < m → HintLeads r parts p j f x → (now : List ℕ) → now ≡ joined parts p f i
        → Around parts now p × Hints now p g m × Places r parts now p i g g x
    hint_places j f here d now e =
        let k = leads_group r hints here f x d in
        let b = join_places k.0 (placing_position w k.0 k.1 k.3) k.1 k.3 now (e ∙ ap (λ (z : ℕ). joined parts p z i) k.2) in
        (outside_around b.0, hints_moved b.0 b.1 hints, b.2)

    -- it was placed by order, and hint j becomes i + 1 where that opened a group
    module _ (now : List ℕ) (n : ℕ) (b : Outside parts now p × Moved parts now p g n i × Places r parts now p i g n x) where
      pub order_places : Around parts now p × Hints now p n m × Places r parts now p i g n x
      order_places = (outside_around b.0, hints_moved b.0 b.1 hints, b.2)

      pub new_places : (j : ℕ) → 9 * p + j < length parts → n ≢ g → Around parts (set now (9 * p + j) (i + 1)) p × Hints (set now (9 * p + j) (i + 1)) p n m
          × Places r parts (set now (9 * p + j) (i + 1)) p i g n x
      new_places j wide new =
          let q = b.2 l gs w in
          let few : n ≤ p = omega (arith, q.grouped.few, q.count, placing_room w) in (
            around_then (outside_around b.0) (around_noted now p j (i + 1)),
            hints_noted now p j (i + 1) m n i refl (omega (arith, wide, b.0.long)) few (b.1.new new) order_places.1,
            λ l gs v. placed_noted now p j (i + 1) (placing_room w) (b.2 l gs v),
          )

-- ---- the candidates one at a time

-- the first i of the candidates are grouped
pub record Grouping (r : Bytes) (l now : List ℕ) (p i g : ℕ) : Type 0 where
  pub list : List Group
  pub ready : Groupable r now p l
  pub grouped : Grouped r now p l i list
  pub count : length list ≡ g
  pub left : fold (λ gs x. place gs x (label r x)) list (drop i l) ≡ groups r l

module _ {r : Bytes} {l : List ℕ} {p : ℕ} {now : List ℕ} where
  pub grouping_start : Groupable r now p l → Grouping r l now p 0 0
  unfolding groups group_at
  grouping_start w = record {
    list = [];
    ready = w;
    grouped = record {
      few = omega arith;
      keyed = record { labels = λ k x h m. absurd (omega arith); ascend = λ j k a h. absurd (omega arith) };
      chains = λ k h. absurd (omega arith);
    };
    count = refl;
    left = refl;
  }

  module _ {i g : ℕ} (w : Grouping r l now p i g) where
    pub grouping_fragment : i < length l → Fragment r (get_or now (p + i) 0)
    grouping_fragment h = rw (w.ready.found.listed.sets i h) (w.ready.fragments (get_or l i 0) (at_mem 0 l i h))

    pub grouping_placing : i < length l → (x : Bytes) → x ≡ label r (get_or now (p + i) 0) → Placing r now p l i w.list g x
    grouping_placing h x e = record {
      ready = w.ready;
      grouped = w.grouped;
      count = w.count;
      more = h;
      its = e ∙ ap (label r) (w.ready.found.listed.sets i h);
    }

    pub grouping_next : i < length l → (x : Bytes) → x ≡ label r (get_or now (p + i) 0) → (next : List ℕ) (m : ℕ) → Around now next p → GroupPlaced r next p l i w.list m x → Grouping r l next p (i + 1) m
    grouping_next h x e next m o q =
        let z : x ≡ label r (get_or l i 0) = e ∙ ap (label r) (w.ready.found.listed.sets i h) in
        record {
          list = place w.list (get_or l i 0) x;
          ready = groupable_around o w.ready;
          grouped = q.grouped;
          count = q.count;
          left = rw (z, add-one i) (ap (fold (λ gs y. place gs y (label r y)) w.list) (sym (drop-cons l i 0 h)) ∙ w.left);
        }
