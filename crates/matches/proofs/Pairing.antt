-- Pairing up: a table only grows, what it gains are twins, and two disjoint sets of a group are matched. Assumes nothing.
use mathlib.Core.Path.{◌≡◌, refl, sym, ap, ◌∙◌, subst}
use mathlib.Core.Logic.{◌⊎◌, inl, inr, ◌≢◌, ⊎_elim}
use mathlib.Core.Bool.{true, false}
use mathlib.Core.List.Memᴰ.{append_cases as mem_cases}
use mathlib.Core.List.Memᴰ.{append_left as mem_left}
use mathlib.Core.List.Memᴰ.{append_right as mem_right}
use mathlib.Core.List.Memᴰ.{eq_of_singleton as mem_one}
use mathlib.Core.List.Memᴰ.{head as m_head}
use mathlib.Core.List.Memᴰ.{not-nil}
use mathlib.Core.List.Memᴰ.{tail as m_tail}
use mathlib.Core.List.{List, [], ◌∷◌, ◌++◌, append-nil, append_assoc, Memᴰ as Mem}
use Prim.Native.Nat.{ℕ, ◌≤◌, ◌<◌, min, max}
use native.Mathlib.Omega.{arith}
use native.Mathlib.Decide.{dec_le}
use lib.ListN.{length, get_or, length-append, get_or-append}
use lib.Bits.{bit_and, and_comm}
use borrow.Author.Tests.{eqb-true, eq-eqb}
use Rattle.bitset.specs.Bits.{Disjoint, is_disjoint}
use Rattle.bitset.proofs.Bools.{two}
use Rattle.molecule.specs.Lists.{Bytes, fold}
use Rattle.molecule.proofs.Lists.{Ordered, ordered_append, ordered_all}
use Rattle.canonize.specs.Strings.{lex_le}
use Rattle.canonize.specs.Label.{label}
use Rattle.canonize.proofs.Laws.{le_refl, lexle_turn}
use Rattle.molecule.proofs.Perms.{Distinct}
use Rattle.matches.specs.Table.{Group, Match, Table, note, number_of, meet, pair_up, groups, extend}
use Rattle.matches.specs.Laws.{Twins}
use Rattle.matches.proofs.Noting.{note_grows, note_old, note_new, note_distinct, number_is}
use Rattle.matches.proofs.ByLabel.{Keys, Every, groups_keys, groups_every, groups_both}

pub twins_sym : (r : Bytes) (x y : ℕ) → Twins r x y → Twins r y x
twins_sym r x y t = record {
  one = t.other;
  other = t.one;
  one_own = t.other_own;
  other_own = t.one_own;
  apart = and_comm y x ∙ t.apart;
  same_size = sym t.same_size;
  big = omega (arith, t.same_size, t.big);
  labels = sym t.labels;
}

-- ---- matches of a table, by their nodes

-- the nodes of m are x and y
pub record Names (nodes : List ℕ) (m : Match) (x y : ℕ) : Type 0 where
  pub fits : m.larger < length nodes
  pub below : m.smaller ≤ m.larger
  pub are : ((get_or nodes m.larger 0 ≡ x) × (get_or nodes m.smaller 0 ≡ y)) ⊎ ((get_or nodes m.larger 0 ≡ y) × (get_or nodes m.smaller 0 ≡ x))

-- x and y are a match of the table
abbrev pub Matched : Table → ℕ → ℕ → Type 0
Matched t x y = (m : Match) × Mem m t.matches × Names t.nodes m x y

pub matched_sym : (t : Table) (x y : ℕ) → Matched t x y → Matched t y x
matched_sym t x y w = (w.0, w.1, record { fits = w.2.fits; below = w.2.below; are = ⊎_elim (λ q. inr q) (λ q. inl q) w.2.are })

-- a match of these nodes is one of twins
pub record Sound (r : Bytes) (nodes : List ℕ) (m : Match) : Type 0 where
  pub fits : m.larger < length nodes
  pub below : m.smaller ≤ m.larger
  pub twins : Twins r (get_or nodes m.larger 0) (get_or nodes m.smaller 0)

abbrev pub AllSound : Bytes → Table → Type 0
AllSound r t = (m : Match) → Mem m t.matches → Sound r t.nodes m

names_sound : (r : Bytes) (l : List ℕ) (m : Match) (x y : ℕ) → Names l m x y → Twins r x y → Sound r l m
names_sound r l m x y n w = record { fits = n.fits; below = n.below; twins = go n.are }
  where
    go : ((get_or l m.larger 0 ≡ x) × (get_or l m.smaller 0 ≡ y)) ⊎ ((get_or l m.larger 0 ≡ y) × (get_or l m.smaller 0 ≡ x)) → Twins r (get_or l m.larger 0) (get_or l m.smaller 0)
    go (inl q) = rw (q.0, q.1) w
    go (inr q) = rw (q.0, q.1) (twins_sym r x y w)

-- ---- growing

-- u is t with more nodes, of which P holds, more matches and more needs
pub record Grows (P : ℕ → Type 0) (t u : Table) : Type 0 where
  pub new : List ℕ
  pub nodes_are : u.nodes ≡ t.nodes ++ new
  pub good : (x : ℕ) → Mem x new → P x
  pub more : List Match
  pub matches_are : u.matches ≡ t.matches ++ more
  pub later : List ℕ
  pub needs_are : u.needs ≡ t.needs ++ later

pub grows_refl : (P : ℕ → Type 0) (t : Table) → Grows P t t
grows_refl P t = record {
  new = [];
  nodes_are = sym (append-nil t.nodes);
  good = λ x m. absurd (not-nil m);
  more = [];
  matches_are = sym (append-nil t.matches);
  later = [];
  needs_are = sym (append-nil t.needs);
}

append_twice : {A : Type 0} (a b c k l : List A) → b ≡ a ++ k → c ≡ b ++ l → c ≡ a ++ (k ++ l)
append_twice a b c k l e f = rw (f, e) (append_assoc a k l)

pub grows_trans : (P : ℕ → Type 0) (t u w : Table) → Grows P t u → Grows P u w → Grows P t w
grows_trans P t u w g h = record {
  new = g.new ++ h.new;
  nodes_are = append_twice t.nodes u.nodes w.nodes g.new h.new g.nodes_are h.nodes_are;
  good = λ x m. ⊎_elim (g.good x) (h.good x) (mem_cases g.new m);
  more = g.more ++ h.more;
  matches_are = append_twice t.matches u.matches w.matches g.more h.more g.matches_are h.matches_are;
  later = g.later ++ h.later;
  needs_are = append_twice t.needs u.needs w.needs g.later h.later g.needs_are h.needs_are;
}

pub grows_by : (P Q : ℕ → Type 0) → ((x : ℕ) → P x → Q x) → (t u : Table) → Grows P t u → Grows Q t u
grows_by P Q f t u g = record {
  new = g.new;
  nodes_are = g.nodes_are;
  good = λ x m. f x (g.good x m);
  more = g.more;
  matches_are = g.matches_are;
  later = g.later;
  needs_are = g.needs_are;
}

module _ (P : ℕ → Type 0) (t u : Table) (g : Grows P t u) where
  -- nodes keep their numbers
  pub node_stays : (i : ℕ) → i < length t.nodes → get_or u.nodes i 0 ≡ get_or t.nodes i 0
  node_stays i h = ap (λ (z : List ℕ). get_or z i 0) g.nodes_are ∙ get_or-append t.nodes g.new 0 i h

  pub node_fits : (i : ℕ) → i < length t.nodes → i < length u.nodes
  node_fits i h = omega (arith, ap length g.nodes_are, length-append t.nodes g.new)

  pub names_stay : (m : Match) (x y : ℕ) → Names t.nodes m x y → Names u.nodes m x y
  names_stay m x y n =
      let a = node_stays m.larger n.fits in
      let b = node_stays m.smaller (omega (arith, n.fits, n.below)) in
      record {
        fits = node_fits m.larger n.fits;
        below = n.below;
        are = ⊎_elim (λ q. inl (a ∙ q.0, b ∙ q.1)) (λ q. inr (a ∙ q.0, b ∙ q.1)) n.are;
      }

  -- a match, once made, stays
  pub matched_grows : (x y : ℕ) → Matched t x y → Matched u x y
  matched_grows x y w = (w.0, subst (Mem w.0) (sym g.matches_are) (mem_left g.more w.1), names_stay w.0 x y w.2)

  sound_grows : (r : Bytes) (m : Match) → Sound r t.nodes m → Sound r u.nodes m
  sound_grows r m s =
      let n : Names t.nodes m (get_or t.nodes m.larger 0) (get_or t.nodes m.smaller 0) = record { fits = s.fits; below = s.below; are = inl (refl, refl) } in
      names_sound r u.nodes m (get_or t.nodes m.larger 0) (get_or t.nodes m.smaller 0) (names_stay m (get_or t.nodes m.larger 0) (get_or t.nodes m.smaller 0) n) s.twins

-- ---- one meeting

abbrev pub both : Table → ℕ → ℕ → List ℕ
both t x y = note (note t.nodes x) y

abbrev pub link : Table → ℕ → ℕ → Match
link t x y = record { larger = max (number_of (both t x y) x) (number_of (both t x y) y); smaller = min (number_of (both t x y) x) (number_of (both t x y) y) }

abbrev pub met : ℕ → Table → ℕ → Table
met x t y = record { nodes = both t x y; matches = t.matches ++ (link t x y ∷ []); needs = t.needs }

meet_yes : (x : ℕ) (t : Table) (y : ℕ) → is_disjoint x y ≡ true → meet x t y ≡ met x t y
unfolding meet
meet_yes x t y e = rw (e, meet) refl

meet_no : (x : ℕ) (t : Table) (y : ℕ) → is_disjoint x y ≡ false → meet x t y ≡ t
unfolding meet
meet_no x t y e = rw (e, meet) refl

-- what holds of t, where x and y have a member in common, and of met x t y, where they have none, holds of meet x t y
pub meet_by : (Q : Table → Type 0) (x : ℕ) (t : Table) (y : ℕ) → Q t → (Disjoint x y → Q (met x t y)) → Q (meet x t y)
meet_by Q x t y a b = go (two (is_disjoint x y))
  where
    go : (is_disjoint x y ≡ true) ⊎ (is_disjoint x y ≡ false) → Q (meet x t y)
    go (inl e) = subst Q (sym (meet_yes x t y e)) (b (eqb-true (bit_and x y) 0 e))
    go (inr e) = subst Q (sym (meet_no x t y e)) a

pub met_names : (x : ℕ) (t : Table) (y : ℕ) → Names (both t x y) (link t x y) x y
met_names x t y = go (dec_le i j)
  where
    i : ℕ
    i = number_of (both t x y) x

    j : ℕ
    j = number_of (both t x y) y

    a : (i < length (both t x y)) × (get_or (both t x y) i 0 ≡ x)
    a = number_is (both t x y) x (note_old (note t.nodes x) y x (note_new t.nodes x))

    b : (j < length (both t x y)) × (get_or (both t x y) j 0 ≡ y)
    b = number_is (both t x y) y (note_new (note t.nodes x) y)

    go : Dec (i ≤ j) → Names (both t x y) (link t x y) x y
    go (yes h) =
        let p : max i j ≡ j = omega arith in
        let q : min i j ≡ i = omega arith in
        record { fits = omega (arith, a.0, b.0); below = omega arith; are = inr (ap (λ (z : ℕ). get_or (both t x y) z 0) p ∙ b.1, ap (λ (z : ℕ). get_or (both t x y) z 0) q ∙ a.1) }
    go (no h) =
        let p : max i j ≡ i = omega arith in
        let q : min i j ≡ j = omega arith in
        record { fits = omega (arith, a.0, b.0); below = omega arith; are = inl (ap (λ (z : ℕ). get_or (both t x y) z 0) p ∙ a.1, ap (λ (z : ℕ). get_or (both t x y) z 0) q ∙ b.1) }

pub met_grows : (P : ℕ → Type 0) (x : ℕ) (t : Table) (y : ℕ) → P x → P y → Grows P t (met x t y)
met_grows P x t y px py =
    let a = note_grows t.nodes x in
    let b = note_grows (note t.nodes x) y in
    record {
      new = a.0 ++ b.0;
      nodes_are = append_twice t.nodes (note t.nodes x) (both t x y) a.0 b.0 a.1 b.1;
      good = λ z m. ⊎_elim (λ (k : Mem z a.0). subst P (sym (a.2 z k)) px) (λ (k : Mem z b.0). subst P (sym (b.2 z k)) py) (mem_cases a.0 m);
      more = link t x y ∷ [];
      matches_are = refl;
      later = [];
      needs_are = sym (append-nil t.needs);
    }

-- ---- a group: whatever P holds of its sets

module _ (P : ℕ → Type 0) where
  meet_grows : (x : ℕ) (t : Table) (y : ℕ) → P x → P y → Grows P t (meet x t y)
  meet_grows x t y px py = meet_by (Grows P t) x t y (grows_refl P t) (λ d. met_grows P x t y px py)

  meets_grows : (x : ℕ) (l : List ℕ) (t : Table) → P x → ((y : ℕ) → Mem y l → P y) → Grows P t (fold (meet x) t l)
  meets_grows x [] t px h = grows_refl P t
  meets_grows x (y ∷ l) t px h =
      grows_trans P t (meet x t y) (fold (meet x) (meet x t y) l) (meet_grows x t y px (h y (m_head refl))) (meets_grows x l (meet x t y) px (λ z m. h z (m_tail m)))

  pub pair_up_grows : (l : List ℕ) (t : Table) → ((y : ℕ) → Mem y l → P y) → Grows P t (pair_up t l)
  unfolding pair_up
  pair_up_grows [] t h = grows_refl P t
  pair_up_grows (x ∷ l) t h =
      grows_trans P t (fold (meet x) t l) (pair_up (fold (meet x) t l) l) (meets_grows x l t (h x (m_head refl)) (λ y m. h y (m_tail m)))
      (pair_up_grows l (fold (meet x) t l) (λ y m. h y (m_tail m)))

-- ---- what meets is matched

meet_matched : (x : ℕ) (t : Table) (y : ℕ) → Disjoint x y → Matched (meet x t y) x y
meet_matched x t y d = subst (λ (z : Table). Matched z x y) (sym (meet_yes x t y (eq-eqb (bit_and x y) 0 d))) (link t x y, mem_right t.matches (m_head refl), met_names x t y)

meets_matched : (x : ℕ) {y : ℕ} {l : List ℕ} (t : Table) → Mem y l → Disjoint x y → Matched (fold (meet x) t l) x y
meets_matched x {y} t (m_head {x = z} {xs = l} e) d =
    matched_grows (λ u. Unit {0}) (meet x t z) (fold (meet x) (meet x t z) l) (meets_grows (λ u. Unit {0}) x l (meet x t z) tt (λ u m. tt)) x y
    (subst (λ (u : ℕ). Matched (meet x t u) x y) e (meet_matched x t y d))
meets_matched x t (m_tail {x = z} {xs = l} m) d = meets_matched x (meet x t z) m d

pub pair_up_matched : {x y : ℕ} {l : List ℕ} (t : Table) → Mem x l → Mem y l → x ≢ y → Disjoint x y → Matched (pair_up t l) x y
unfolding pair_up
pair_up_matched {x} {y} t (m_head {x = z} {xs = l} a) (m_head b) n d = absurd (n (a ∙ sym b))
pair_up_matched {x} {y} t (m_head {x = z} {xs = l} a) (m_tail b) n d =
    matched_grows (λ u. Unit {0}) (fold (meet z) t l) (pair_up (fold (meet z) t l) l) (pair_up_grows (λ u. Unit {0}) l (fold (meet z) t l) (λ u m. tt)) x y
    (subst (λ (u : ℕ). Matched (fold (meet z) t l) u y) (sym a) (meets_matched z t b (subst (λ (u : ℕ). Disjoint u y) a d)))
pair_up_matched {x} {y} t (m_tail {x = z} {xs = l} a) (m_head b) n d =
    matched_grows (λ u. Unit {0}) (fold (meet z) t l) (pair_up (fold (meet z) t l) l) (pair_up_grows (λ u. Unit {0}) l (fold (meet z) t l) (λ u m. tt)) x y
    (matched_sym (fold (meet z) t l) y x (subst (λ (u : ℕ). Matched (fold (meet z) t l) u x) (sym b) (meets_matched z t a (subst (λ (u : ℕ). Disjoint u x) b (and_comm y x ∙ d)))))
pair_up_matched {x} {y} t (m_tail {x = z} {xs = l} a) (m_tail b) n d = pair_up_matched (fold (meet z) t l) a b n d

-- ---- nodes are without repetition

meets_distinct : (x : ℕ) (l : List ℕ) (t : Table) → Distinct t.nodes → Distinct (fold (meet x) t l).nodes
meets_distinct x [] t d = d
meets_distinct x (y ∷ l) t d =
    meets_distinct x l (meet x t y) (meet_by (λ u. Distinct u.nodes) x t y d (λ a. note_distinct (note t.nodes x) y (note_distinct t.nodes x d)))

pub pair_up_distinct : (l : List ℕ) (t : Table) → Distinct t.nodes → Distinct (pair_up t l).nodes
unfolding pair_up
pair_up_distinct [] t d = d
pair_up_distinct (x ∷ l) t d = pair_up_distinct l (fold (meet x) t l) (meets_distinct x l t d)

-- ---- the order of nodes

-- group by group
abbrev pub paired : Table → List Group → Table
paired t gs = fold (λ t' g. pair_up t' g.sets) t gs

-- each set of a group stands in R to all sets of the groups after it
abbrev pub Across : (ℕ → ℕ → Type 0) → List Group → Type 0
Across R [] = Unit {0}
Across R (g ∷ gs) = ((h : Group) → Mem h gs → (x y : ℕ) → Mem x g.sets → Mem y h.sets → R x y) × Across R gs

pub groups_ordered : (R : ℕ → ℕ → Type 0) (gs : List Group) (t : Table) → Ordered R t.nodes → ((g : Group) → Mem g gs → (x y : ℕ) → Mem x t.nodes → Mem y g.sets → R x y)
    → ((g : Group) → Mem g gs → (x y : ℕ) → Mem x g.sets → Mem y g.sets → R x y) → Across R gs → Ordered R (paired t gs).nodes
groups_ordered R [] t o old own across = o
groups_ordered R (g ∷ gs) t o old own across =
    let u : Table = pair_up t g.sets in
    let w = pair_up_grows (λ x. Mem x g.sets) g.sets t (λ y m. m) in
    groups_ordered R gs u
    (subst (Ordered R) (sym w.nodes_are) (ordered_append R t.nodes w.new o (ordered_all R w.new (λ x y m n. own g (m_head refl) x y (w.good x m) (w.good y n))) (λ x y m n. old g (m_head refl) x y m (w.good y n))))
    (λ h m x y i j. ⊎_elim (λ (k : Mem x t.nodes). old h (m_tail m) x y k j) (λ (k : Mem x w.new). across.0 h m x y (w.good x k) j) (mem_cases t.nodes (subst (Mem x) w.nodes_are i)))
    (λ h m. own h (m_tail m))
    across.1

-- ---- matches are of twins

-- a list of sets of which P holds, of one label
abbrev Alike : Bytes → (ℕ → Type 0) → Bytes → List ℕ → Type 0
Alike r P k l = (y : ℕ) → Mem y l → P y × (label r y ≡ k)

module _ (r : Bytes) (P : ℕ → Type 0) (pairs : (x y : ℕ) → P x → P y → label r x ≡ label r y → Disjoint x y → Twins r x y) where
  meet_sound : (x : ℕ) (t : Table) (y : ℕ) → P x → P y → label r x ≡ label r y → AllSound r t → AllSound r (meet x t y)
  meet_sound x t y px py e s = meet_by (AllSound r) x t y s
      (λ d m k. ⊎_elim (λ (o : Mem m t.matches). sound_grows P t (met x t y) (met_grows P x t y px py) r m (s m o))
      (λ (o : Mem m (link t x y ∷ [])). subst (Sound r (both t x y)) (sym (mem_one o)) (names_sound r (both t x y) (link t x y) x y (met_names x t y) (pairs x y px py e d))) (mem_cases t.matches k))

  meets_sound : (x : ℕ) (l : List ℕ) (t : Table) → P x → Alike r P (label r x) l → AllSound r t → AllSound r (fold (meet x) t l)
  meets_sound x [] t px h s = s
  meets_sound x (y ∷ l) t px h s = let w = h y (m_head refl) in meets_sound x l (meet x t y) px (λ z m. h z (m_tail m)) (meet_sound x t y px w.0 (sym w.1) s)

  pair_up_sound : (k : Bytes) (l : List ℕ) (t : Table) → Alike r P k l → AllSound r t → AllSound r (pair_up t l)
  unfolding pair_up
  pair_up_sound k [] t h s = s
  pair_up_sound k (x ∷ l) t h s =
      let w = h x (m_head refl) in
      pair_up_sound k l (fold (meet x) t l) (λ y m. h y (m_tail m)) (meets_sound x l t w.0 (λ y m. let v = h y (m_tail m) in (v.0, v.1 ∙ sym w.1)) s)

  -- ---- all groups

  groups_sound : (gs : List Group) (t : Table) → ((g : Group) → Mem g gs → Alike r P g.key g.sets) → AllSound r t → AllSound r (paired t gs)
  groups_sound [] t h s = s
  groups_sound (g ∷ gs) t h s = groups_sound gs (pair_up t g.sets) (λ k m. h k (m_tail m)) (pair_up_sound g.key g.sets t (h g (m_head refl)) s)

  groups_grows : (gs : List Group) (t : Table) → ((g : Group) → Mem g gs → Alike r P g.key g.sets) → Grows P t (paired t gs)
  groups_grows [] t h = grows_refl P t
  groups_grows (g ∷ gs) t h =
      grows_trans P t (pair_up t g.sets) (paired (pair_up t g.sets) gs) (pair_up_grows P g.sets t (λ y m. (h g (m_head refl) y m).0)) (groups_grows gs (pair_up t g.sets) (λ k m. h k (m_tail m)))

  groups_distinct : (gs : List Group) (t : Table) → Distinct t.nodes → Distinct (paired t gs).nodes
  groups_distinct [] t d = d
  groups_distinct (g ∷ gs) t d = groups_distinct gs (pair_up t g.sets) (pair_up_distinct g.sets t d)

  groups_matched : {g : Group} {gs : List Group} (t : Table) {x y : ℕ} → ((g : Group) → Mem g gs → Alike r P g.key g.sets) → Mem g gs → Mem x g.sets → Mem y g.sets → x ≢ y → Disjoint x y → Matched (paired t gs) x y
  groups_matched {g} t {x} {y} h (m_head {x = k} {xs = gs} e) a b n d =
      matched_grows P (pair_up t k.sets) (paired (pair_up t k.sets) gs) (groups_grows gs (pair_up t k.sets) (λ j m. h j (m_tail m))) x y
      (pair_up_matched t (subst (λ (j : Group). Mem x j.sets) e a) (subst (λ (j : Group). Mem y j.sets) e b) n d)
  groups_matched t h (m_tail {x = k} {xs = gs} m) a b n d = groups_matched (pair_up t k.sets) (λ j o. h j (m_tail o)) m a b n d

  -- ---- a whole size

  module _ (found : List ℕ) (t : Table) (all : (x : ℕ) → Mem x found → P x) where
    alike : (g : Group) → Mem g (groups r found) → Alike r P g.key g.sets
    alike g m y k = groups_every r (λ x l. P x × (label r x ≡ l)) found (λ x i. (all x i, refl)) g m y k

    pub extend_grows : Grows P t (extend r t found)
    unfolding extend
    extend_grows =
        let g = groups_grows (groups r found) t alike in
        record { new = g.new; nodes_are = g.nodes_are; good = g.good; more = g.more; matches_are = g.matches_are; later = max (length found) (length (paired t (groups r found)).nodes) ∷ []; needs_are = refl }

    pub extend_needs : (extend r t found).needs ≡ t.needs ++ (max (length found) (length (extend r t found).nodes) ∷ [])
    unfolding extend
    extend_needs = refl

    pub extend_sound : AllSound r t → AllSound r (extend r t found)
    unfolding extend
    extend_sound s = groups_sound (groups r found) t alike s

    pub extend_distinct : Distinct t.nodes → Distinct (extend r t found).nodes
    unfolding extend
    extend_distinct d = groups_distinct (groups r found) t d

    pub extend_matched : (x y : ℕ) → Mem x found → Mem y found → label r x ≡ label r y → x ≢ y → Disjoint x y → Matched (extend r t found) x y
    unfolding extend
    extend_matched x y mx my e n d =
        let w = groups_both r found x y mx my e in
        groups_matched {gs = groups r found} t alike w.1 w.2 w.3 n d

-- ---- new nodes come after the old ones, and ascend by label

module _ (r : Bytes) (R : ℕ → ℕ → Type 0) (found : List ℕ) (own : (x y : ℕ) → Mem x found → Mem y found → lex_le (label r x) (label r y) ≡ true → R x y) where
  -- each group holds some of the sets found, of its label
  abbrev Filled : List Group → Type 0
  Filled gs = Every (λ x l. (label r x ≡ l) × Mem x found) gs

  keys_across : (gs : List Group) → Keys gs → Filled gs → Across R gs
  keys_across [] k e = tt
  keys_across (g ∷ gs) k e = (
    λ h m x y i j.
        let a = e g (m_head refl) x i in
        let b = e h (m_tail m) y j in
        own x y a.1 b.1 (rw (a.0, b.0) (lexle_turn h.key g.key (k.0 h m))),
    keys_across gs k.1 (λ h m. e h (m_tail m)),
  )

  pub extend_ordered : (t : Table) → Ordered R t.nodes → ((x y : ℕ) → Mem x t.nodes → Mem y found → R x y) → Ordered R (extend r t found).nodes
  unfolding extend
  extend_ordered t o old =
      let e : Filled (groups r found) = groups_every r (λ x l. (label r x ≡ l) × Mem x found) found (λ x m. (refl, m)) in
      groups_ordered R (groups r found) t o (λ g m x y i j. old x y i (e g m y j).1)
      (λ g m x y i j.
      let a = e g m x i in
      let b = e g m y j in
      own x y a.1 b.1 (rw (a.0, b.0) (le_refl g.key)))
      (keys_across (groups r found) (groups_keys r found) e)
