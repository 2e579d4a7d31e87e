-- The groups as a list: the place of a label by binary search, and what placing a set does to the group there. Assumes nothing.
use Rattle.std.proofs.Common.{◌≡◌, refl, sym, ap, ◌∙◌, ◌⊎◌, inl, inr, ⊎_elim, Bool, true, false, List, [], ◌∷◌, ◌++◌, ℕ, zero, suc, ◌+◌, ◌-◌, ◌≤◌, ◌<◌, arith, length, set, length-set, get_or-set_same, get_or-set_other}
use Rattle.std.proofs.lemmas.Bool.{false≢true}
use mathlib.Core.List.{Memᴰ}
use Rattle.std.proofs.Math.Decide.{ℕ_discrete, dec_lt}
use Rattle.bitset.proofs.Bools.{two}
use Rattle.molecule.specs.Lists.{Bytes}
use Rattle.molecule.proofs.Lists.{at_mem}
use Rattle.canonize.specs.Strings.{lex_le, same}
use Rattle.canonize.specs.Label.{label}
use Rattle.canonize.proofs.Laws.{same_iff, le_refl, le_trans, le_antisym, le_total}
use Rattle.matches.specs.Table.{Group, place}
use Rattle.enumerate.specs.Inner.Grouped.{group_at, Keyed, Position}

-- ---- the order of labels

clash : {A : Type 0} {b : Bool} → b ≡ true → b ≡ false → A
clash t f = absurd (false≢true (sym f ∙ t))

-- what does not come before or stand at y comes after it
over : (x y : Bytes) → lex_le x y ≡ false → lex_le y x ≡ true
over x y f = ⊎_elim (λ t. clash t f) (λ t. t) (le_total x y)

unlike : (x y : Bytes) → lex_le x y ≡ false → same x y ≡ false
unlike x y f = go (two (same x y))
  where
    go : (same x y ≡ true) ⊎ (same x y ≡ false) → same x y ≡ false
    go (inl t) = clash (rw ((same_iff x y).0 t) (le_refl y)) f
    go (inr n) = n

-- ---- the place of a label

-- the keys below low come before x; that at high, and so those above it, do not
pub record Searching (keys : ℕ → Bytes) (g : ℕ) (x : Bytes) (low high : ℕ) : Type 0 where
  pub ordered : low ≤ high
  pub within : high ≤ g
  pub before : (j : ℕ) → j < low → lex_le x (keys j) ≡ false
  pub after : high < g → lex_le x (keys high) ≡ true

module _ {keys : ℕ → Bytes} {g : ℕ} {x : Bytes} where
  -- where the label is a key, that is its place
  pub position_of : ((j k : ℕ) → j < k → k < g → lex_le (keys k) (keys j) ≡ false) → (k : ℕ) → k < g → same x (keys k) ≡ true → Position keys g x k
  position_of ascend k h t =
      let e : x ≡ keys k = (same_iff x (keys k)).0 t in
      record { within = omega arith; before = λ j i. rw e (ascend j k i h); after = λ i. rw e (le_refl (keys k)) }

  module _ {low high : ℕ} (w : Searching keys g x low high) where
    pub searching_up : ((j k : ℕ) → j < k → k < g → lex_le (keys k) (keys j) ≡ false) → (m : ℕ) → m < high → lex_le x (keys m) ≡ false → Searching keys g x (m + 1) high
    searching_up ascend m h f = record { ordered = omega arith; within = w.within; before = λ j k. go j (ℕ_discrete j m) k (two (lex_le x (keys j))); after = w.after }
      where
        go : (j : ℕ) → Dec (j ≡ m) → j < m + 1 → (lex_le x (keys j) ≡ true) ⊎ (lex_le x (keys j) ≡ false) → lex_le x (keys j) ≡ false
        go j (yes e) k t = rw e f
        go j (no n) k (inl t) = clash (le_trans x (keys j) (keys m) t (over (keys m) (keys j) (ascend j m (omega arith) (omega (arith, w.within))))) f
        go j (no n) k (inr q) = q

    pub searching_down : (m : ℕ) → low ≤ m → m < high → lex_le x (keys m) ≡ true → Searching keys g x low m
    searching_down m h k t = record { ordered = h; within = omega (arith, w.within); before = w.before; after = λ i. t }

-- ---- groups by number

pub group_first : (g : Group) (gs : List Group) → group_at (g ∷ gs) 0 ≡ g
unfolding group_at
group_first g gs = refl

pub group_later : (g : Group) (gs : List Group) (k : ℕ) → group_at (g ∷ gs) (suc k) ≡ group_at gs k
unfolding group_at
group_later g gs k = refl

pub group_mem : (gs : List Group) (k : ℕ) → k < length gs → Memᴰ (group_at gs k) gs
unfolding group_at
group_mem gs k h = at_mem (record { key = []; sets = [] }) gs k h

-- ---- a group more

abbrev pub put_at : List Group → ℕ → Group → List Group
put_at gs zero y = y ∷ gs
put_at [] (suc k) y = y ∷ []
put_at (g ∷ gs) (suc k) y = g ∷ put_at gs k y

pub put_length : (gs : List Group) (k : ℕ) (y : Group) → length (put_at gs k y) ≡ length gs + 1
put_length gs zero y = omega arith
put_length [] (suc k) y = omega arith
put_length (g ∷ gs) (suc k) y = omega (arith, put_length gs k y)

pub put_before : (gs : List Group) (k : ℕ) (y : Group) (j : ℕ) → j < k → k ≤ length gs → group_at (put_at gs k y) j ≡ group_at gs j
unfolding group_at
put_before gs zero y j h i = absurd (omega arith)
put_before [] (suc k) y j h i = absurd (omega arith)
put_before (g ∷ gs) (suc k) y zero h i = refl
put_before (g ∷ gs) (suc k) y (suc j) h i = put_before gs k y j (omega arith) (omega arith)

pub put_this : (gs : List Group) (k : ℕ) (y : Group) → k ≤ length gs → group_at (put_at gs k y) k ≡ y
unfolding group_at
put_this gs zero y i = refl
put_this [] (suc k) y i = absurd (omega arith)
put_this (g ∷ gs) (suc k) y i = put_this gs k y (omega arith)

pub put_after : (gs : List Group) (k : ℕ) (y : Group) (j : ℕ) → k ≤ j → k ≤ length gs → group_at (put_at gs k y) (suc j) ≡ group_at gs j
unfolding group_at
put_after gs zero y j h i = refl
put_after [] (suc k) y j h i = absurd (omega arith)
put_after (g ∷ gs) (suc k) y zero h i = absurd (omega arith)
put_after (g ∷ gs) (suc k) y (suc j) h i = put_after gs k y j (omega arith) (omega arith)

-- an index in a list with one element more at k: before it, at it, or past it
abbrev pub Side : ℕ → ℕ → Type 0
Side k j = (j < k) ⊎ ((j ≡ k) ⊎ ((m : ℕ) × (j ≡ suc m) × (k ≤ m)))

pub side : (k j : ℕ) → Side k j
side k j = go (dec_lt j k) (ℕ_discrete j k)
  where
    go : Dec (j < k) → Dec (j ≡ k) → Side k j
    go (yes h) e = inl h
    go (no h) (yes e) = inr (inl e)
    go (no h) (no e) = inr (inr (j - 1, omega arith, omega arith))

-- ---- placing a set

-- the keys of groups
abbrev pub keys_of : List Group → ℕ → Bytes
keys_of gs k = (group_at gs k).key

-- one of three, by two tests
abbrev one_of : {A : Type 0} → Bool → Bool → A → A → A → A
one_of s t u v w = elim s [ true ↦ u | false ↦ elim t [ true ↦ v | false ↦ w ] ]

module _ (x : ℕ) (a : Bytes) where
  -- the group with the set at its end, and a group of its own
  abbrev pub grown_group : Group → Group
  grown_group g = record { key = a; sets = g.sets ++ (x ∷ []) }

  abbrev pub new_group : Group
  new_group = record { key = a; sets = x ∷ [] }

  place_cons : (g : Group) (gs : List Group) → place (g ∷ gs) x a ≡ one_of (same a g.key) (lex_le a g.key) (grown_group g ∷ gs) (new_group ∷ g ∷ gs) (g ∷ place gs x a)
  unfolding place
  place_cons g gs = refl

  place_skip : (g : Group) (gs : List Group) → lex_le a g.key ≡ false → place (g ∷ gs) x a ≡ g ∷ place gs x a
  place_skip g gs f = place_cons g gs ∙ rw (unlike a g.key f, f)

  pub place_join : (gs : List Group) (k : ℕ) → k < length gs → ((j : ℕ) → j < k → lex_le a (keys_of gs j) ≡ false) → same a (keys_of gs k) ≡ true → place gs x a ≡ set gs k (grown_group (group_at gs k))
  unfolding group_at
  place_join [] k h b e = absurd (omega arith)
  place_join (g ∷ gs) zero h b e = place_cons g gs ∙ rw e
  place_join (g ∷ gs) (suc k) h b e = place_skip g gs (b 0 (omega arith)) ∙ ap (λ (z : List Group). g ∷ z) (place_join gs k (omega arith) (λ j i. b (suc j) (omega arith)) e)

  pub place_open : (gs : List Group) (k : ℕ) → k ≤ length gs → ((j : ℕ) → j < k → lex_le a (keys_of gs j) ≡ false) → (k < length gs → lex_le a (keys_of gs k) ≡ true) → (k < length gs → same a (keys_of gs k) ≡ false) → place gs x a ≡ put_at gs k new_group
  unfolding place group_at
  place_open [] zero h b t n = refl
  place_open [] (suc k) h b t n = absurd (omega arith)
  place_open (g ∷ gs) zero h b t n = place_cons g gs ∙ rw (n (omega arith), t (omega arith))
  place_open (g ∷ gs) (suc k) h b t n = place_skip g gs (b 0 (omega arith)) ∙ ap (λ (z : List Group). g ∷ z) (place_open gs k (omega arith) (λ j i. b (suc j) (omega arith)) (λ i. t (omega arith)) (λ i. n (omega arith)))

-- ---- the keys stay in order, and stay the labels

module _ (r : Bytes) (gs : List Group) (w : Keyed r gs) (x : ℕ) (a : Bytes) (is : a ≡ label r x) (k : ℕ) where
  -- the set joins group k
  module _ (h : k < length gs) (e : a ≡ keys_of gs k) where
    abbrev more : List Group
    more = set gs k (grown_group x a (group_at gs k))

    pub join_this : group_at more k ≡ grown_group x a (group_at gs k)
    unfolding group_at
    join_this = get_or-set_same gs k (grown_group x a (group_at gs k)) (record { key = []; sets = [] }) h

    pub join_other : (j : ℕ) → (j ≡ k → ⊥) → group_at more j ≡ group_at gs j
    unfolding group_at
    join_other j n = get_or-set_other gs k j (grown_group x a (group_at gs k)) (record { key = []; sets = [] }) n

    join_key : (j : ℕ) → keys_of more j ≡ keys_of gs j
    join_key j = go (ℕ_discrete j k)
      where
        go : Dec (j ≡ k) → keys_of more j ≡ keys_of gs j
        go (yes q) = rw q (ap (λ (g : Group). g.key) join_this ∙ e)
        go (no n) = ap (λ (g : Group). g.key) (join_other j n)

    pub keyed_join : Keyed r more
    keyed_join = record {
      labels = λ j y i m. go j y (omega (arith, i, length-set gs k (grown_group x a (group_at gs k)))) (ℕ_discrete j k) m;
      ascend = λ i j l b. rw (join_key i, join_key j) (w.ascend i j l (omega (arith, b, length-set gs k (grown_group x a (group_at gs k)))));
    }
      where
        go : (j y : ℕ) → j < length gs → Dec (j ≡ k) → Memᴰ y (group_at more j).sets → label r y ≡ keys_of more j
        go j y i (no n) m = let m' : Memᴰ y (group_at gs j).sets = rw (join_other j n) at m in w.labels j y i m' ∙ sym (join_key j)
        go j y i (yes q) m =
            let m₁ : Memᴰ y (group_at more k).sets = rw q at m in
            let m₂ : Memᴰ y ((group_at gs k).sets ++ (x ∷ [])) = rw join_this at m₁ in
            rw (join_key j, q) (⊎_elim (λ u. w.labels k y h u) (λ u. ap (label r) (mathlib.Core.List.Memᴰ.eq_of_singleton u) ∙ sym is ∙ e) (mathlib.Core.List.Memᴰ.append_cases (group_at gs k).sets m₂))

  -- it is a group of its own
  module _ (h : k ≤ length gs) (b : (j : ℕ) → j < k → lex_le a (keys_of gs j) ≡ false) (t : k < length gs → lex_le a (keys_of gs k) ≡ true) (n : k < length gs → same a (keys_of gs k) ≡ false) where
    abbrev put : List Group
    put = put_at gs k (new_group x a)

    -- the groups past it come after it
    later : (j : ℕ) → k ≤ j → j < length gs → lex_le (keys_of gs j) a ≡ false
    later j i l = go (two (lex_le (keys_of gs j) a)) (ℕ_discrete j k)
      where
        go : (lex_le (keys_of gs j) a ≡ true) ⊎ (lex_le (keys_of gs j) a ≡ false) → Dec (j ≡ k) → lex_le (keys_of gs j) a ≡ false
        go (inr f) d = f
        go (inl u) (yes q) =
            let v : lex_le (keys_of gs k) a ≡ true = rw q at u in
            clash ((same_iff a (keys_of gs k)).1 (le_antisym a (keys_of gs k) (t (omega arith)) v)) (n (omega arith))
        go (inl u) (no q) = clash (le_trans (keys_of gs j) a (keys_of gs k) u (t (omega arith))) (w.ascend k j (omega arith) l)

    key_before : (j : ℕ) → j < k → keys_of put j ≡ keys_of gs j
    key_before j i = ap (λ (g : Group). g.key) (put_before gs k (new_group x a) j i h)

    key_this : keys_of put k ≡ a
    key_this = ap (λ (g : Group). g.key) (put_this gs k (new_group x a) h)

    key_after : (j : ℕ) → k ≤ j → keys_of put (suc j) ≡ keys_of gs j
    key_after j i = ap (λ (g : Group). g.key) (put_after gs k (new_group x a) j i h)

    pub keyed_open : Keyed r put
    keyed_open = record {
      labels = λ j y i m. labels_of j y (omega (arith, i, put_length gs k (new_group x a))) (side k j) m;
      ascend = λ i j l u. ascend_of i j l (omega (arith, u, put_length gs k (new_group x a))) (side k i) (side k j);
    }
      where
        labels_of : (j y : ℕ) → j ≤ length gs → Side k j → Memᴰ y (group_at put j).sets → label r y ≡ keys_of put j
        labels_of j y i (inl l) m =
            let m₁ : Memᴰ y (group_at gs j).sets = rw (put_before gs k (new_group x a) j l h) at m in
            w.labels j y (omega arith) m₁ ∙ sym (key_before j l)
        labels_of j y i (inr (inl q)) m =
            let m₁ : Memᴰ y (group_at put k).sets = rw q at m in
            let m₂ : Memᴰ y (x ∷ []) = rw (put_this gs k (new_group x a) h) at m₁ in
            rw (q, key_this) (ap (label r) (mathlib.Core.List.Memᴰ.eq_of_singleton m₂) ∙ sym is)
        labels_of j y i (inr (inr (o, q, l))) m =
            let m₁ : Memᴰ y (group_at put (suc o)).sets = rw q at m in
            let m₂ : Memᴰ y (group_at gs o).sets = rw (put_after gs k (new_group x a) o l h) at m₁ in
            rw (q, key_after o l) (w.labels o y (omega arith) m₂)

        ascend_of : (i j : ℕ) → i < j → j ≤ length gs → Side k i → Side k j → lex_le (keys_of put j) (keys_of put i) ≡ false
        ascend_of i j l u (inl c) (inl d) = rw (key_before i c, key_before j d) (w.ascend i j l (omega arith))
        ascend_of i j l u (inl c) (inr (inl d)) = rw (d, key_this, key_before i c) (b i c)
        ascend_of i j l u (inl c) (inr (inr (o, d, f))) = rw (d, key_after o f, key_before i c) (w.ascend i o (omega arith) (omega arith))
        ascend_of i j l u (inr (inl c)) (inl d) = absurd (omega arith)
        ascend_of i j l u (inr (inl c)) (inr (inl d)) = absurd (omega arith)
        ascend_of i j l u (inr (inl c)) (inr (inr (o, d, f))) = rw (c, d, key_this, key_after o f) (later o f (omega arith))
        ascend_of i j l u (inr (inr (m, c, e))) (inl d) = absurd (omega arith)
        ascend_of i j l u (inr (inr (m, c, e))) (inr (inl d)) = absurd (omega arith)
        ascend_of i j l u (inr (inr (m, c, e))) (inr (inr (o, d, f))) = rw (c, d, key_after m e, key_after o f) (w.ascend m o (omega arith) (omega arith))
