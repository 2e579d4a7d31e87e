-- Groups by label: each holds sets of its label, no set twice; keys ascend; two sets with equal labels are in one group. Assumes nothing.
use mathlib.Core.Path.{◌≡◌, refl, sym, ap, ◌∙◌, subst}
use mathlib.Core.Logic.{◌⊎◌, inl, inr, ◌≢◌, ⊎_elim}
use mathlib.Core.Bool.{true, false, true≢false}
use mathlib.Core.List.Memᴰ.{append_cases as mem_cases}
use mathlib.Core.List.Memᴰ.{append_left as mem_left}
use mathlib.Core.List.Memᴰ.{append_right as mem_right}
use mathlib.Core.List.Memᴰ.{cases_cons as mem_cons}
use mathlib.Core.List.Memᴰ.{eq_of_singleton as mem_one}
use mathlib.Core.List.Memᴰ.{head as m_head}
use mathlib.Core.List.Memᴰ.{not-nil}
use mathlib.Core.List.Memᴰ.{tail as m_tail}
use mathlib.Core.List.{List, [], ◌∷◌, ◌++◌, Memᴰ as Mem}
use Prim.Native.Nat.{ℕ}
use Rattle.bitset.proofs.Bools.{two}
use Rattle.molecule.specs.Lists.{Bytes, fold}
use Rattle.canonize.specs.Strings.{lex_le, same}
use Rattle.canonize.specs.Label.{label}
use Rattle.canonize.proofs.Laws.{same_iff, le_refl, le_trans, le_antisym}
use Rattle.molecule.proofs.Perms.{Distinct}
use Rattle.matches.specs.Table.{Group, place, groups}
use Rattle.matches.proofs.Noting.{distinct_append}

-- ---- the order of labels

-- x comes before y and is another
abbrev pub Before : Bytes → Bytes → Type 0
Before x y = lex_le y x ≡ false

before_or : (x y : Bytes) → lex_le x y ≡ true → x ≢ y → Before x y
before_or x y p n = go (two (lex_le y x))
  where
    go : (lex_le y x ≡ true) ⊎ (lex_le y x ≡ false) → lex_le y x ≡ false
    go (inl q) = absurd (n (le_antisym x y p q))
    go (inr q) = q

before_trans : (x y z : Bytes) → lex_le x y ≡ true → Before y z → Before x z
before_trans x y z p q = go (two (lex_le z x))
  where
    go : (lex_le z x ≡ true) ⊎ (lex_le z x ≡ false) → lex_le z x ≡ false
    go (inl h) = absurd (true≢false (sym (le_trans z x y h p) ∙ q))
    go (inr h) = h

pub before_differ : (x y : Bytes) → Before x y → x ≢ y
before_differ x y b e = true≢false (sym (le_refl y) ∙ ap (lex_le y) (sym e) ∙ b)

-- ---- a set goes to its group

-- keys ascend
abbrev pub Keys : List Group → Type 0
Keys [] = Unit {0}
Keys (g ∷ gs) = ((h : Group) → Mem h gs → Before g.key h.key) × Keys gs

-- x is in a group with key l
abbrev pub Filed : List Group → ℕ → Bytes → Type 0
Filed gs x l = (g : Group) × Mem g gs × Mem x g.sets × (g.key ≡ l)

-- what holds of every set with its group's key
abbrev pub Every : (ℕ → Bytes → Type 0) → List Group → Type 0
Every P gs = (g : Group) → Mem g gs → (x : ℕ) → Mem x g.sets → P x g.key

-- no group holds a set twice
abbrev pub Once : List Group → Type 0
Once gs = (g : Group) → Mem g gs → Distinct g.sets

-- a group with x at its end; a group of x alone
abbrev with : Group → ℕ → Bytes → Group
with g x l = record { key = l; sets = g.sets ++ (x ∷ []) }

abbrev alone : ℕ → Bytes → Group
alone x l = record { key = l; sets = x ∷ [] }

module _ (g : Group) (gs : List Group) (x : ℕ) (l : Bytes) where
  -- the ways of `place`
  pub data Way : Type 0 where
    into : l ≡ g.key → place (g ∷ gs) x l ≡ with g x l ∷ gs → Way
    before : Before l g.key → lex_le l g.key ≡ true → place (g ∷ gs) x l ≡ alone x l ∷ g ∷ gs → Way
    later : Before g.key l → place (g ∷ gs) x l ≡ g ∷ place gs x l → Way

  way : Way
  unfolding place
  way = go (two (same l g.key)) (two (lex_le l g.key))
    where
      go : (same l g.key ≡ true) ⊎ (same l g.key ≡ false) → (lex_le l g.key ≡ true) ⊎ (lex_le l g.key ≡ false) → Way
      go (inl e) f = into ((same_iff l g.key).0 e) (rw (e, place) refl)
      go (inr e) (inl f) = before (before_or l g.key f (λ q. true≢false (sym ((same_iff l g.key).1 q) ∙ e))) f (rw (e, f, place) refl)
      go (inr e) (inr f) = later f (rw (e, f, place) refl)

-- a group after placing: its key is l or that of a group before
place_keys : (gs : List Group) (x : ℕ) (l : Bytes) (h : Group) → Mem h (place gs x l) → (h.key ≡ l) ⊎ ((g : Group) × Mem g gs × (g.key ≡ h.key))
unfolding place
place_keys [] x l h m = inl (ap (λ (z : Group). z.key) (mem_one m))
place_keys (g ∷ gs) x l h m = go (way g gs x l) (place_keys gs x l h)
  where
    go : Way g gs x l → (Mem h (place gs x l) → (h.key ≡ l) ⊎ ((k : Group) × Mem k gs × (k.key ≡ h.key))) → (h.key ≡ l) ⊎ ((k : Group) × Mem k (g ∷ gs) × (k.key ≡ h.key))
    go (into e q) ih = ⊎_elim (λ w. inl (ap (λ (z : Group). z.key) w)) (λ w. inr (h, m_tail w, refl)) (mem_cons (subst (Mem h) q m))
    go (before b f q) ih = ⊎_elim (λ w. inl (ap (λ (z : Group). z.key) w)) (λ w. inr (h, w, refl)) (mem_cons (subst (Mem h) q m))
    go (later b q) ih = ⊎_elim (λ w. inr (g, m_head refl, ap (λ (z : Group). z.key) (sym w)))
        (λ w. ⊎_elim (λ e. inl e) (λ k. inr (k.0, m_tail k.1, k.2)) (ih w)) (mem_cons (subst (Mem h) q m))

place_ascends : (gs : List Group) (x : ℕ) (l : Bytes) → Keys gs → Keys (place gs x l)
unfolding place
place_ascends [] x l k = (λ h m. absurd (not-nil m), tt)
place_ascends (g ∷ gs) x l k = go (way g gs x l) (place_ascends gs x l k.1)
  where
    go : Way g gs x l → Keys (place gs x l) → Keys (place (g ∷ gs) x l)
    go (into e q) ih = subst Keys (sym q) (λ h m. ap (lex_le h.key) e ∙ k.0 h m, k.1)
    go (before b f q) ih = subst Keys (sym q) (λ h m. ⊎_elim (λ (w : h ≡ g). ap (λ (z : Group). lex_le z.key l) w ∙ b) (λ (w : Mem h gs). before_trans l g.key h.key f (k.0 h w)) (mem_cons m), k)
    go (later b q) ih = subst Keys (sym q)
        (λ h m. ⊎_elim (λ (w : h.key ≡ l). ap (λ (z : Bytes). lex_le z g.key) w ∙ b) (λ (w : (j : Group) × Mem j gs × (j.key ≡ h.key)). ap (λ (z : Bytes). lex_le z g.key) (sym w.2) ∙ k.0 w.0 w.1) (place_keys gs x l h m), ih)

place_new : (gs : List Group) (x : ℕ) (l : Bytes) → Filed (place gs x l) x l
unfolding place
place_new [] x l = (alone x l, m_head refl, m_head refl, refl)
place_new (g ∷ gs) x l = go (way g gs x l) (place_new gs x l)
  where
    go : Way g gs x l → Filed (place gs x l) x l → Filed (place (g ∷ gs) x l) x l
    go (into e q) ih = subst (λ (z : List Group). Filed z x l) (sym q) (with g x l, m_head refl, mem_right g.sets (m_head refl), refl)
    go (before b f q) ih = subst (λ (z : List Group). Filed z x l) (sym q) (alone x l, m_head refl, m_head refl, refl)
    go (later b q) ih = subst (λ (z : List Group). Filed z x l) (sym q) (ih.0, m_tail ih.1, ih.2, ih.3)

place_old : (gs : List Group) (x : ℕ) (l : Bytes) (y : ℕ) (k : Bytes) → Filed gs y k → Filed (place gs x l) y k
unfolding place
place_old [] x l y k w = absurd (not-nil w.1)
place_old (g ∷ gs) x l y k w = go (way g gs x l) (mem_cons w.1) (place_old gs x l y k)
  where
    go : Way g gs x l → (w.0 ≡ g) ⊎ Mem w.0 gs → (Filed gs y k → Filed (place gs x l) y k) → Filed (place (g ∷ gs) x l) y k
    go (into e q) (inl u) ih =
        subst (λ (z : List Group). Filed z y k) (sym q)
        (with g x l, m_head refl, mem_left (x ∷ []) (subst (λ (z : Group). Mem y z.sets) u w.2), e ∙ ap (λ (z : Group). z.key) (sym u) ∙ w.3)
    go (into e q) (inr u) ih = subst (λ (z : List Group). Filed z y k) (sym q) (w.0, m_tail u, w.2, w.3)
    go (before b f q) c ih = subst (λ (z : List Group). Filed z y k) (sym q) (w.0, m_tail w.1, w.2, w.3)
    go (later b q) (inl u) ih = subst (λ (z : List Group). Filed z y k) (sym q) (w.0, m_head u, w.2, w.3)
    go (later b q) (inr u) ih = let v = ih (w.0, u, w.2, w.3) in subst (λ (z : List Group). Filed z y k) (sym q) (v.0, m_tail v.1, v.2, v.3)

-- what holds of the groups that are not touched, of the one that x goes to, and of one of x alone, holds of all
place_each : (Q : Group → Type 0) (gs : List Group) (x : ℕ) (l : Bytes) → ((g : Group) → Mem g gs → Q g) → ((g : Group) → Mem g gs → l ≡ g.key → Q (with g x l)) → Q (alone x l) → (h : Group) → Mem h (place gs x l) → Q h
unfolding place
place_each Q [] x l a b c h m = subst Q (sym (mem_one m)) c
place_each Q (g ∷ gs) x l a b c h m = go (way g gs x l) (place_each Q gs x l (λ k j. a k (m_tail j)) (λ k j. b k (m_tail j)) c h)
  where
    go : Way g gs x l → (Mem h (place gs x l) → Q h) → Q h
    go (into e q) ih = ⊎_elim (λ (w : h ≡ with g x l). subst Q (sym w) (b g (m_head refl) e)) (λ (w : Mem h gs). a h (m_tail w)) (mem_cons (subst (Mem h) q m))
    go (before u f q) ih = ⊎_elim (λ (w : h ≡ alone x l). subst Q (sym w) c) (λ (w : Mem h (g ∷ gs)). a h w) (mem_cons (subst (Mem h) q m))
    go (later u q) ih = ⊎_elim (λ (w : h ≡ g). subst Q (sym w) (a g (m_head refl))) ih (mem_cons (subst (Mem h) q m))

place_every : (P : ℕ → Bytes → Type 0) (gs : List Group) (x : ℕ) (l : Bytes) → Every P gs → P x l → Every P (place gs x l)
place_every P gs x l a p =
    place_each (λ g. (y : ℕ) → Mem y g.sets → P y g.key) gs x l a
    (λ g m e y n. ⊎_elim (λ (w : Mem y g.sets). subst (P y) (sym e) (a g m y w)) (λ (w : Mem y (x ∷ [])). subst (λ (z : ℕ). P z l) (sym (mem_one w)) p) (mem_cases g.sets n))
    (λ y n. subst (λ (z : ℕ). P z l) (sym (mem_one n)) p)

place_once : (gs : List Group) (x : ℕ) (l : Bytes) → Once gs → Every (λ y k. y ≢ x) gs → Once (place gs x l)
place_once gs x l o n =
    place_each (λ g. Distinct g.sets) gs x l o
    (λ g m e. distinct_append g.sets (x ∷ []) (o g m) (λ j. not-nil j, tt) (λ y i j. n g m y i (mem_one j)))
    (λ j. not-nil j, tt)

-- one group for one key
one_group : (g h : Group) {gs : List Group} → Keys gs → Mem g gs → Mem h gs → g.key ≡ h.key → g ≡ h
one_group g h k (m_head a) (m_head b) e = a ∙ sym b
one_group g h k (m_head {x = z} a) (m_tail b) e = absurd (before_differ z.key h.key (k.0 h b) (sym (ap (λ (w : Group). w.key) a) ∙ e))
one_group g h k (m_tail a) (m_head {x = z} b) e = absurd (before_differ z.key g.key (k.0 g a) (sym (ap (λ (w : Group). w.key) b) ∙ sym e))
one_group g h k (m_tail a) (m_tail b) e = one_group g h k.1 a b e

-- ---- all sets of a list

module _ (r : Bytes) where
  abbrev filed : List Group → List ℕ → List Group
  filed gs xs = fold (λ g x. place g x (label r x)) gs xs

  fold_keys : (xs : List ℕ) (gs : List Group) → Keys gs → Keys (filed gs xs)
  fold_keys [] gs k = k
  fold_keys (x ∷ xs) gs k = fold_keys xs (place gs x (label r x)) (place_ascends gs x (label r x) k)

  fold_old : (xs : List ℕ) (gs : List Group) (y : ℕ) (l : Bytes) → Filed gs y l → Filed (filed gs xs) y l
  fold_old [] gs y l w = w
  fold_old (x ∷ xs) gs y l w = fold_old xs (place gs x (label r x)) y l (place_old gs x (label r x) y l w)

  fold_new : {y : ℕ} {xs : List ℕ} (gs : List Group) → Mem y xs → Filed (filed gs xs) y (label r y)
  fold_new {y} gs (m_head {x = x} {xs = xs} e) =
      subst (λ (z : ℕ). Filed (filed (place gs x (label r x)) xs) z (label r z)) (sym e) (fold_old xs (place gs x (label r x)) x (label r x) (place_new gs x (label r x)))
  fold_new {y} gs (m_tail {x = x} {xs = xs} m) = fold_new (place gs x (label r x)) m

  fold_every : (P : ℕ → Bytes → Type 0) (xs : List ℕ) (gs : List Group) → Every P gs → ((x : ℕ) → Mem x xs → P x (label r x)) → Every P (filed gs xs)
  fold_every P [] gs a h = a
  fold_every P (x ∷ xs) gs a h = fold_every P xs (place gs x (label r x)) (place_every P gs x (label r x) a (h x (m_head refl))) (λ y m. h y (m_tail m))

  fold_once : (xs : List ℕ) (gs : List Group) → Distinct xs → Once gs → Every (λ y l. Mem y xs → ⊥) gs → Once (filed gs xs)
  fold_once [] gs d o n = o
  fold_once (x ∷ xs) gs d o n =
      fold_once xs (place gs x (label r x)) d.1 (place_once gs x (label r x) o (λ g m y i e. n g m y i (m_head e)))
      (place_every (λ y l. Mem y xs → ⊥) gs x (label r x) (λ g m y i j. n g m y i (m_tail j)) d.0)

  -- the keys of the groups ascend
  pub groups_keys : (xs : List ℕ) → Keys (groups r xs)
  unfolding groups
  groups_keys xs = fold_keys xs [] tt

  pub groups_every : (P : ℕ → Bytes → Type 0) (xs : List ℕ) → ((x : ℕ) → Mem x xs → P x (label r x)) → Every P (groups r xs)
  unfolding groups
  groups_every P xs h = fold_every P xs [] (λ g m. absurd (not-nil m)) h

  pub groups_once : (xs : List ℕ) → Distinct xs → Once (groups r xs)
  unfolding groups
  groups_once xs d = fold_once xs [] d (λ g m. absurd (not-nil m)) (λ g m. absurd (not-nil m))

  -- two sets with equal labels are in one group
  pub groups_both : (xs : List ℕ) (x y : ℕ) → Mem x xs → Mem y xs → label r x ≡ label r y → (g : Group) × Mem g (groups r xs) × Mem x g.sets × Mem y g.sets
  unfolding groups
  groups_both xs x y mx my e =
      let a = fold_new {xs = xs} [] mx in
      let b = fold_new {xs = xs} [] my in
      let q : a.0 ≡ b.0 = one_group a.0 b.0 (fold_keys xs [] tt) a.1 b.1 (a.3 ∙ e ∙ sym b.3) in
      (a.0, a.1, a.2, subst (λ (g : Group). Mem y g.sets) (sym q) b.2)
