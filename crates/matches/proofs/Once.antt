-- No match stands twice: pairing up matches what it has not matched before. Assumes nothing.
use mathlib.Core.Path.{◌≡◌, refl, sym, ◌∙◌, subst}
use mathlib.Core.Logic.{◌⊎◌, inl, inr, ⊎_elim}
use mathlib.Core.List.Memᴰ.{append_cases as mem_cases}
use mathlib.Core.List.Memᴰ.{cast as mem_cast}
use mathlib.Core.List.Memᴰ.{eq_of_singleton as mem_one}
use mathlib.Core.List.Memᴰ.{head as m_head}
use mathlib.Core.List.Memᴰ.{not-nil}
use mathlib.Core.List.Memᴰ.{tail as m_tail}
use mathlib.Core.List.{List, [], ◌∷◌, Memᴰ as Mem}
use Prim.Native.Nat.{ℕ, ◌<◌}
use native.Mathlib.Omega.{arith}
use lib.ListN.{length, get_or}
use Rattle.molecule.specs.Lists.{Bytes, fold}
use Rattle.canonize.specs.Label.{label}
use Rattle.molecule.proofs.Perms.{Distinct}
use Rattle.matches.specs.Table.{Group, Match, Table, meet, pair_up, groups, extend}
use Rattle.matches.proofs.Noting.{distinct_append}
use Rattle.matches.proofs.ByLabel.{Keys, Every, Once, before_differ, groups_keys, groups_every, groups_once}
use Rattle.matches.proofs.Pairing.{Names, Matched, Grows, node_stays, node_fits, both, link, met, meet_by, met_names, met_grows, paired}

-- the nodes of every match are there
abbrev pub NodesStand : Table → Type 0
NodesStand t = (m : Match) → Mem m t.matches → m.larger < length t.nodes

-- x with y
abbrev Are : ℕ → ℕ → ℕ → ℕ → Type 0
Are x y u w = ((u ≡ x) × (w ≡ y)) ⊎ ((u ≡ y) × (w ≡ x))

names_are : (l : List ℕ) (m : Match) (x y u w : ℕ) → Names l m x y → Names l m u w → Are x y u w
names_are l m x y u w a b = go a.are b.are
  where
    go : ((get_or l m.larger 0 ≡ x) × (get_or l m.smaller 0 ≡ y)) ⊎ ((get_or l m.larger 0 ≡ y) × (get_or l m.smaller 0 ≡ x))
        → ((get_or l m.larger 0 ≡ u) × (get_or l m.smaller 0 ≡ w)) ⊎ ((get_or l m.larger 0 ≡ w) × (get_or l m.smaller 0 ≡ u)) → Are x y u w
    go (inl p) (inl q) = inl (sym q.0 ∙ p.0, sym q.1 ∙ p.1)
    go (inl p) (inr q) = inr (sym q.1 ∙ p.1, sym q.0 ∙ p.0)
    go (inr p) (inl q) = inr (sym q.0 ∙ p.0, sym q.1 ∙ p.1)
    go (inr p) (inr q) = inl (sym q.1 ∙ p.1, sym q.0 ∙ p.0)

-- ---- one meeting

module _ (x : ℕ) (t : Table) (y : ℕ) where
  grown : Grows (λ z. Unit {0}) t (met x t y)
  grown = met_grows (λ z. Unit {0}) x t y tt tt

  names_back : (m : Match) (u w : ℕ) → m.larger < length t.nodes → Names (both t x y) m u w → Names t.nodes m u w
  names_back m u w h n =
      let a = node_stays (λ z. Unit {0}) t (met x t y) grown m.larger h in
      let b = node_stays (λ z. Unit {0}) t (met x t y) grown m.smaller (omega (arith, n.below)) in
      record { fits = h; below = n.below; are = ⊎_elim (λ q. inl (sym a ∙ q.0, sym b ∙ q.1)) (λ q. inr (sym a ∙ q.0, sym b ∙ q.1)) n.are }

  meet_within : NodesStand t → NodesStand (meet x t y)
  meet_within i = meet_by NodesStand x t y i
      (λ d m k. ⊎_elim (λ (o : Mem m t.matches). node_fits (λ z. Unit {0}) t (met x t y) grown m.larger (i m o))
      (λ (o : Mem m (link t x y ∷ [])). subst (λ (z : Match). z.larger < length (both t x y)) (sym (mem_one o)) (met_names x t y).fits) (mem_cases t.matches k))

  -- what is matched after it was before, or is x with y
  meet_back : NodesStand t → (u w : ℕ) → Matched (meet x t y) u w → Matched t u w ⊎ Are x y u w
  meet_back i u w = meet_by (λ z. Matched z u w → Matched t u w ⊎ Are x y u w) x t y (λ a. inl a)
      (λ d a. ⊎_elim (λ (o : Mem a.0 t.matches). inl (a.0, o, names_back a.0 u w (i a.0 o) a.2))
      (λ (o : Mem a.0 (link t x y ∷ [])). inr (names_are (both t x y) (link t x y) x y u w (met_names x t y) (subst (λ (m : Match). Names (both t x y) m u w) (mem_one o) a.2))) (mem_cases t.matches a.1))

  meet_once : NodesStand t → (Matched t x y → ⊥) → Distinct t.matches → Distinct (meet x t y).matches
  meet_once i n d = meet_by (λ z. Distinct z.matches) x t y d
      (λ e. distinct_append t.matches (link t x y ∷ []) d (λ m. not-nil m, tt)
      (λ m o p. let k : Mem (link t x y) t.matches = mem_cast (sym (mem_one p)) o in n (link t x y, k, names_back (link t x y) x y (i (link t x y) k) (met_names x t y))))

-- ---- a group

meets_within : (x : ℕ) (l : List ℕ) (t : Table) → NodesStand t → NodesStand (fold (meet x) t l)
meets_within x [] t i = i
meets_within x (y ∷ l) t i = meets_within x l (meet x t y) (meet_within x t y i)

-- x with one of l
abbrev Among : ℕ → List ℕ → ℕ → ℕ → Type 0
Among x l u w = ((u ≡ x) × Mem w l) ⊎ (Mem u l × (w ≡ x))

meets_back : (x : ℕ) (l : List ℕ) (t : Table) → NodesStand t → (u w : ℕ) → Matched (fold (meet x) t l) u w → Matched t u w ⊎ Among x l u w
meets_back x [] t i u w a = inl a
meets_back x (y ∷ l) t i u w a = go (meets_back x l (meet x t y) (meet_within x t y i) u w a)
  where
    go : Matched (meet x t y) u w ⊎ Among x l u w → Matched t u w ⊎ Among x (y ∷ l) u w
    go (inl b) = ⊎_elim (λ o. inl o) (λ o. inr (⊎_elim (λ q. inl (q.0, m_head q.1)) (λ q. inr (m_head q.0, q.1)) o)) (meet_back x t y i u w b)
    go (inr (inl q)) = inr (inl (q.0, m_tail q.1))
    go (inr (inr q)) = inr (inr (m_tail q.0, q.1))

meets_once : (x : ℕ) (l : List ℕ) (t : Table) → NodesStand t → Distinct l → ((z : ℕ) → Mem z l → Matched t x z → ⊥) → Distinct t.matches → Distinct (fold (meet x) t l).matches
meets_once x [] t i d n o = o
meets_once x (y ∷ l) t i d n o =
    meets_once x l (meet x t y) (meet_within x t y i) d.1 (λ z m a. ⊎_elim (n z (m_tail m)) (λ q. d.0 (mem_cast (same z q) m)) (meet_back x t y i x z a)) (meet_once x t y i (n y (m_head refl)) o)
  where
    same : (z : ℕ) → Are x y x z → y ≡ z
    same z (inl q) = sym q.1
    same z (inr q) = sym q.0 ∙ sym q.1

pair_up_within : (l : List ℕ) (t : Table) → NodesStand t → NodesStand (pair_up t l)
unfolding pair_up
pair_up_within [] t i = i
pair_up_within (x ∷ l) t i = pair_up_within l (fold (meet x) t l) (meets_within x l t i)

pair_up_back : (l : List ℕ) (t : Table) → NodesStand t → (u w : ℕ) → Matched (pair_up t l) u w → Matched t u w ⊎ (Mem u l × Mem w l)
unfolding pair_up
pair_up_back [] t i u w a = inl a
pair_up_back (x ∷ l) t i u w a = go (pair_up_back l (fold (meet x) t l) (meets_within x l t i) u w a)
  where
    go : Matched (fold (meet x) t l) u w ⊎ (Mem u l × Mem w l) → Matched t u w ⊎ (Mem u (x ∷ l) × Mem w (x ∷ l))
    go (inl b) = ⊎_elim (λ o. inl o) (λ o. inr (⊎_elim (λ q. (m_head q.0, m_tail q.1)) (λ q. (m_tail q.0, m_head q.1)) o)) (meets_back x l t i u w b)
    go (inr q) = inr (m_tail q.0, m_tail q.1)

pair_up_once : (l : List ℕ) (t : Table) → NodesStand t → Distinct l → ((u w : ℕ) → Mem u l → Mem w l → Matched t u w → ⊥) → Distinct t.matches → Distinct (pair_up t l).matches
unfolding pair_up
pair_up_once [] t i d n o = o
pair_up_once (x ∷ l) t i d n o =
    pair_up_once l (fold (meet x) t l) (meets_within x l t i) d.1
    (λ u w a b c. ⊎_elim (n u w (m_tail a) (m_tail b)) (λ q. ⊎_elim (λ e. d.0 (mem_cast (sym e.0) a)) (λ e. d.0 (mem_cast (sym e.1) b)) q) (meets_back x l t i u w c))
    (meets_once x l t i d.1 (λ z m a. n x z (m_head refl) (m_tail m) a) o)

-- ---- all groups

groups_within : (gs : List Group) (t : Table) → NodesStand t → NodesStand (paired t gs)
groups_within [] t i = i
groups_within (g ∷ gs) t i = groups_within gs (pair_up t g.sets) (pair_up_within g.sets t i)

groups_single : (r : Bytes) (gs : List Group) (t : Table) → NodesStand t → Keys gs → Every (λ x l. label r x ≡ l) gs → Once gs → ((g : Group) → Mem g gs → (u w : ℕ) → Mem u g.sets → Mem w g.sets → Matched t u w → ⊥)
    → Distinct t.matches → Distinct (paired t gs).matches
groups_single r [] t i k e o n d = d
groups_single r (g ∷ gs) t i k e o n d =
    groups_single r gs (pair_up t g.sets) (pair_up_within g.sets t i) k.1 (λ h m. e h (m_tail m)) (λ h m. o h (m_tail m))
    (λ h m u w a b c. ⊎_elim (n h (m_tail m) u w a b) (λ q. before_differ g.key h.key (k.0 h m) (sym (e g (m_head refl) u q.0) ∙ e h (m_tail m) u a)) (pair_up_back g.sets t i u w c))
    (pair_up_once g.sets t i (o g (m_head refl)) (n g (m_head refl)) d)

-- ---- a whole size

module _ (r : Bytes) (found : List ℕ) (t : Table) (i : NodesStand t) where
  pub extend_within : NodesStand (extend r t found)
  unfolding extend
  extend_within = groups_within (groups r found) t i

  pub extend_once : Distinct found → ((u w : ℕ) → Mem u found → Matched t u w → ⊥) → Distinct t.matches → Distinct (extend r t found).matches
  unfolding extend
  extend_once f n d =
      let e = groups_every r (λ x l. (label r x ≡ l) × Mem x found) found (λ x m. (refl, m)) in
      groups_single r (groups r found) t i (groups_keys r found) (λ g m x j. (e g m x j).0) (groups_once r found f) (λ g m u w a b c. n u w (e g m u a).1 c) d
