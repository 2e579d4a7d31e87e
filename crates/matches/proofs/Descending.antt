-- Matches in descending order with no sort: for each node x from the last down, the nodes y of its group below it, from x − 1 down, that are disjoint from it. Assumes nothing.
use mathlib.Core.Path.{◌≡◌, refl, sym, ap, ap₂, ◌∙◌, subst}
use mathlib.Core.Logic.{◌⊎◌, inl, inr, ◌≢◌, ⊎_elim}
use mathlib.Core.Bool.{Bool, true, true≢false, ◌&&◌}
use mathlib.Core.List.Memᴰ.{append_cases as mem_cases}
use mathlib.Core.List.Memᴰ.{append_left as mem_left}
use mathlib.Core.List.Memᴰ.{append_right as mem_right}
use mathlib.Core.List.Memᴰ.{cases_cons as mem_cons}
use mathlib.Core.List.Memᴰ.{cast as mem_cast}
use mathlib.Core.List.Memᴰ.{head as m_head}
use mathlib.Core.List.Memᴰ.{map as mem_map}
use mathlib.Core.List.Memᴰ.{not-nil}
use mathlib.Core.List.Memᴰ.{of_map as mem_of_map}
use mathlib.Core.List.Memᴰ.{tail as m_tail}
use mathlib.Core.List.{List, [], ◌∷◌, Memᴰ as Mem}
use Prim.Native.Nat.{ℕ, zero, suc, ◌+◌, ◌-◌, ◌≤◌, ◌<◌}
use native.Mathlib.Omega.{arith}
use native.Mathlib.Decide.{dec_lt, ℕ_discrete}
use lib.ListN.{length, get_or}
use lib.Dec.{leb, eqb}
use lib.Bits.{bit_and}
use borrow.Author.Tests.{eqb-true, eq-eqb, leb-true, le-leb}
use Rattle.bitset.specs.Bits.{size, is_disjoint}
use Rattle.bitset.proofs.Bools.{and_true}
use Rattle.molecule.specs.Lists.{Bytes, first}
use Rattle.molecule.specs.Check.{accepted, check}
use Rattle.molecule.specs.Connected.{Connected, Own}
use Rattle.molecule.proofs.Lists.{at_mem, Ordered, ordered_append, ordered_map, ordered_keep, ordered_at, ordered_same}
use Rattle.molecule.proofs.Scans.{first_le, first_hit, first_before}
use Rattle.canonize.specs.Strings.{lex_le, same}
use Rattle.canonize.specs.Label.{label}
use Rattle.canonize.proofs.Laws.{same_iff, le_antisym}
use Rattle.molecule.proofs.Perms.{Distinct, keep_mem, keep_intro}
use Rattle.matches.specs.Table.{Match, not_below, match_table}
use Rattle.matches.specs.Laws.{Twins}
use Rattle.matches.specs.Inner.Descending.{countdown, with_each, descend, apart_below, Starts}
use Rattle.matches.specs.Inner.Ranks.{Akin, Precedes}
use Rattle.matches.proofs.Noting.{distinct_at, Above, above_of}
use Rattle.matches.proofs.Pairing.{Names, Matched}
use Rattle.matches.proofs.Sizes.{precedes_size, twins_differ, unsorted, unsorted_sane}
use Rattle.matches.proofs.Listed.{nodes, sorted, nodes_are, matches_are, sorted_has, sorted_sound, sorted_distinct, sorted_descends}
use Rattle.matches.proofs.Complete.{all_matched}

-- x comes before y
abbrev pub Over : Match → Match → Type 0
Over x y = (y.larger < x.larger) ⊎ ((x.larger ≡ y.larger) × (y.smaller < x.smaller))

over_once : (x y : Match) → Over x y → Over y x → ⊥
over_once x y (inl a) (inl b) = omega arith
over_once x y (inl a) (inr b) = omega arith
over_once x y (inr a) (inl b) = omega arith
over_once x y (inr a) (inr b) = omega arith

match_same : (x y : Match) → x.larger ≡ y.larger → x.smaller ≡ y.smaller → x ≡ y
match_same x y a b = ap₂ (λ (i j : ℕ). record { larger = i; smaller = j }) a b

above_over : (x y : Match) → Above x y → x ≢ y → Over x y
above_over x y (inl a) n = inl a
above_over x y (inr a) n = go (ℕ_discrete x.smaller y.smaller)
  where
    go : Dec (x.smaller ≡ y.smaller) → Over x y
    go (yes e) = absurd (n (match_same x y a.0 e))
    go (no d) = inr (a.0, omega arith)

strictly : (l : List Match) → Ordered (λ x y. not_below x y ≡ true) l → Distinct l → Ordered Over l
strictly [] o d = tt
strictly (x ∷ l) o d = (λ y m. above_over x y (above_of x y (o.0 y m)) (λ e. d.0 (mem_cast e m)), strictly l o.1 d.1)

-- ---- from the last down

pub countdown_in : (k n i : ℕ) → Mem i (countdown k n) → (k ≤ i) × (i < k + n)
countdown_in k zero i m = absurd (not-nil m)
countdown_in k (suc n) i m = ⊎_elim (λ (e : i ≡ k + n). (omega arith, omega arith)) (λ (t : Mem i (countdown k n)). let w = countdown_in k n i t in (omega arith, omega arith)) (mem_cons m)

pub countdown_has : (k n i : ℕ) → k ≤ i → i < k + n → Mem i (countdown k n)
countdown_has k zero i a b = absurd (omega arith)
countdown_has k (suc n) i a b = go (ℕ_discrete i (k + n)) (countdown_has k n i a)
  where
    go : Dec (i ≡ k + n) → (i < k + n → Mem i (countdown k n)) → Mem i (countdown k (suc n))
    go (yes e) ih = m_head e
    go (no d) ih = m_tail (ih (omega arith))

countdown_falls : (k n : ℕ) → Ordered (λ i j. j < i) (countdown k n)
countdown_falls k zero = tt
countdown_falls k (suc n) = (λ i m. omega (arith, countdown_in k n i m), countdown_falls k n)

descend_in : (below : ℕ → List ℕ) (n : ℕ) (m : Match) → Mem m (descend below n) → (m.larger < n) × Mem m.smaller (below m.larger)
descend_in below zero m k = absurd (not-nil k)
descend_in below (suc n) m k = ⊎_elim
    (λ (o : Mem m (with_each n (below n))).
    let w = mem_of_map (λ (y : ℕ). record { larger = n; smaller = y }) (below n) o in
    let e : n ≡ m.larger = ap (λ (z : Match). z.larger) w.2 in
    let f : w.0 ≡ m.smaller = ap (λ (z : Match). z.smaller) w.2 in
    (omega arith, subst (λ (x : ℕ). Mem m.smaller (below x)) e (mem_cast (sym f) w.1)))
    (λ (o : Mem m (descend below n)). let w = descend_in below n m o in (omega arith, w.1)) (mem_cases (with_each n (below n)) k)

pub descend_has : (below : ℕ → List ℕ) (n x y : ℕ) → x < n → Mem y (below x) → Mem (record { larger = x; smaller = y }) (descend below n)
descend_has below zero x y l m = absurd (omega arith)
descend_has below (suc n) x y l m = go (ℕ_discrete x n) (λ h. descend_has below n x y h m)
  where
    go : Dec (x ≡ n) → (x < n → Mem (record { larger = x; smaller = y }) (descend below n)) → Mem (record { larger = x; smaller = y }) (descend below (suc n))
    go (yes e) ih = mem_left (descend below n) (subst (λ (z : ℕ). Mem (record { larger = z; smaller = y }) (with_each n (below n))) (sym e) (mem_map (λ (z : ℕ). record { larger = n; smaller = z }) (subst (λ (z : ℕ). Mem y (below z)) e m)))
    go (no d) ih = mem_right (with_each n (below n)) (ih (omega arith))

descend_over : (below : ℕ → List ℕ) → ((x : ℕ) → Ordered (λ i j. j < i) (below x)) → (n : ℕ) → Ordered Over (descend below n)
descend_over below h zero = tt
descend_over below h (suc n) =
    ordered_append Over (with_each n (below n)) (descend below n) (ordered_map Over (λ (y : ℕ). record { larger = n; smaller = y }) (below n) (falls (below n) (h n))) (descend_over below h n)
    (λ x y a b.
    let w = mem_of_map (λ (z : ℕ). record { larger = n; smaller = z }) (below n) a in
    inl (omega (arith, ap (λ (z : Match). z.larger) w.2, (descend_in below n y b).0)))
  where
    falls : (l : List ℕ) → Ordered (λ i j. j < i) l → Ordered (λ i j. Over (record { larger = n; smaller = i }) (record { larger = n; smaller = j })) l
    falls [] o = tt
    falls (i ∷ l) o = (λ j m. inr (refl, o.0 j m), falls l o.1)

-- ---- groups by the numbers of their nodes

abbrev akin : Bytes → ℕ → ℕ → Bool
akin r x y = leb 2 (size x) && (eqb (size x) (size y) && same (label r x) (label r y))

akin_of : (r : Bytes) (x y : ℕ) → akin r x y ≡ true → Akin r x y
akin_of r x y e =
    let a = and_true (leb 2 (size x)) (eqb (size x) (size y) && same (label r x) (label r y)) e in
    let b = and_true (eqb (size x) (size y)) (same (label r x) (label r y)) a.1 in
    record { big = leb-true 2 (size x) a.0; sizes = eqb-true (size x) (size y) b.0; labels = (same_iff (label r x) (label r y)).0 b.1 }

akin_is : (r : Bytes) (x y : ℕ) → Akin r x y → akin r x y ≡ true
akin_is r x y k = rw (le-leb 2 (size x) k.big, eq-eqb (size x) (size y) k.sizes) ((same_iff (label r x) (label r y)).1 k.labels)

-- the first number of x's group
abbrev pub group_start : Bytes → List ℕ → ℕ → ℕ
group_start r l x = first (λ y. akin r (get_or l x 0) (get_or l y 0)) x

module _ (r : Bytes) (l : List ℕ) (o : Ordered (Precedes r) l) where
  -- the nodes of a group are numbered one after the other: what is between two of one group is of it
  pub together : (i j k : ℕ) → i ≤ j → j ≤ k → k < length l → Akin r (get_or l k 0) (get_or l i 0) → Akin r (get_or l k 0) (get_or l j 0)
  together i j k a b h w = go (ℕ_discrete i j) (ℕ_discrete j k)
    where
      between : Precedes r (get_or l i 0) (get_or l j 0) → Precedes r (get_or l j 0) (get_or l k 0) → Akin r (get_or l k 0) (get_or l j 0)
      between (inl p) q = absurd (omega (arith, w.sizes, precedes_size r (get_or l j 0) (get_or l k 0) q))
      between (inr p) (inl q) = absurd (omega (arith, w.sizes))
      between (inr p) (inr q) =
          let ij : lex_le (label r (get_or l i 0)) (label r (get_or l j 0)) ≡ true = p.1 (omega (arith, w.sizes, w.big)) in
          let jk : lex_le (label r (get_or l j 0)) (label r (get_or l k 0)) ≡ true = q.1 (omega (arith, w.sizes, w.big)) in
          record { big = w.big; sizes = sym q.0; labels = le_antisym (label r (get_or l k 0)) (label r (get_or l j 0)) (ap (λ (z : Bytes). lex_le z (label r (get_or l j 0))) w.labels ∙ ij) jk }

      go : Dec (i ≡ j) → Dec (j ≡ k) → Akin r (get_or l k 0) (get_or l j 0)
      go (yes e) d = subst (λ (z : ℕ). Akin r (get_or l k 0) (get_or l z 0)) e w
      go (no n) (yes e) = rw e (record { big = w.big; sizes = refl; labels = refl })
      go (no n) (no m) = between (ordered_at (Precedes r) 0 l o i j (omega arith) (omega arith)) (ordered_at (Precedes r) 0 l o j k (omega arith) h)

  pub group_starts : Starts r l (group_start r l)
  group_starts x h = (first_le p x, λ y b. (above y b, λ k. least y k (dec_lt y (first p x))))
    where
      p : ℕ → Bool
      p y = akin r (get_or l x 0) (get_or l y 0)

      above : (y : ℕ) → y < x → first p x ≤ y → Akin r (get_or l x 0) (get_or l y 0)
      above y b c = together (first p x) y x c (omega arith) h (akin_of r (get_or l x 0) (get_or l (first p x) 0) (first_hit p x (omega arith)))

      least : (y : ℕ) → Akin r (get_or l x 0) (get_or l y 0) → Dec (y < first p x) → first p x ≤ y
      least y k (yes d) = absurd (true≢false (sym (akin_is r (get_or l x 0) (get_or l y 0) k) ∙ first_before p x y d))
      least y k (no d) = omega arith

-- ---- the table

module _ (r : Bytes) (ok : check r ≡ accepted) (start : ℕ → ℕ) (s : Starts r (nodes r) start) where
  abbrev listed : List Match
  listed = descend (apart_below (nodes r) start) (length (nodes r))

  listed_over : Ordered Over listed
  listed_over = descend_over (apart_below (nodes r) start) (λ x. ordered_keep (λ i j. j < i) (λ y. is_disjoint (get_or (nodes r) x 0) (get_or (nodes r) y 0)) (countdown (start x) (x - start x)) (countdown_falls (start x) (x - start x))) (length (nodes r))

  -- every match is listed
  there : (m : Match) → Mem m (sorted r) → Mem m listed
  there m k =
      let w = sorted_sound r m k in
      let x : ℕ = m.larger in
      let y : ℕ = m.smaller in
      let n : y ≢ x = λ e. twins_differ r (get_or (nodes r) x 0) (get_or (nodes r) y 0) w.twins (ap (λ (z : ℕ). get_or (nodes r) z 0) (sym e)) in
      let b : y < x = omega (arith, w.below) in
      let c : start x ≤ y = ((s x w.fits).1 y b).1 (record { big = w.twins.big; sizes = w.twins.same_size; labels = w.twins.labels }) in
      descend_has (apart_below (nodes r) start) (length (nodes r)) x y w.fits
      (keep_intro (λ z. is_disjoint (get_or (nodes r) x 0) (get_or (nodes r) z 0)) (countdown (start x) (x - start x)) (countdown_has (start x) (x - start x) y c (omega arith)) (eq-eqb (bit_and (get_or (nodes r) x 0) (get_or (nodes r) y 0)) 0 w.twins.apart))

  node_whole : (i : ℕ) → i < length (nodes r) → Connected r (get_or (nodes r) i 0) × Own r (get_or (nodes r) i 0)
  node_whole i h = (unsorted_sane r).whole (get_or (nodes r) i 0) (at_mem 0 (nodes r) i h)

  -- what is listed are twins
  listed_twins : (m : Match) → Mem m listed → (m.larger < length (nodes r)) × (m.smaller < m.larger) × Twins r (get_or (nodes r) m.larger 0) (get_or (nodes r) m.smaller 0)
  listed_twins m k =
      let w = descend_in (apart_below (nodes r) start) (length (nodes r)) m k in
      let x : ℕ = m.larger in
      let y : ℕ = m.smaller in
      let v = keep_mem (λ z. is_disjoint (get_or (nodes r) x 0) (get_or (nodes r) z 0)) (countdown (start x) (x - start x)) w.1 in
      let c = countdown_in (start x) (x - start x) y v.0 in
      let b : y < x = omega (arith, (s x w.0).0) in
      let a = ((s x w.0).1 y b).0 c.0 in
      let p = node_whole x w.0 in
      let q = node_whole y (omega arith) in (
        w.0,
        b,
        record {
          one = p.0;
          other = q.0;
          one_own = p.1;
          other_own = q.1;
          apart = eqb-true (bit_and (get_or (nodes r) x 0) (get_or (nodes r) y 0)) 0 v.1;
          same_size = a.sizes;
          big = a.big;
          labels = a.labels;
        },
      )

  -- a match is told by its nodes
  one_match : (m n : Match) → n.larger < length (nodes r) → n.smaller < n.larger → Names (nodes r) m (get_or (nodes r) n.larger 0) (get_or (nodes r) n.smaller 0) → m ≡ n
  one_match m n h b w = go w.are
    where
      at : (i j : ℕ) → i < length (nodes r) → j < length (nodes r) → get_or (nodes r) i 0 ≡ get_or (nodes r) j 0 → i ≡ j
      at i j = distinct_at 0 (nodes r) (unsorted_sane r).distinct i j

      go : ((get_or (nodes r) m.larger 0 ≡ get_or (nodes r) n.larger 0) × (get_or (nodes r) m.smaller 0 ≡ get_or (nodes r) n.smaller 0))
          ⊎ ((get_or (nodes r) m.larger 0 ≡ get_or (nodes r) n.smaller 0) × (get_or (nodes r) m.smaller 0 ≡ get_or (nodes r) n.larger 0)) → m ≡ n
      go (inl q) = match_same m n (at m.larger n.larger w.fits h q.0) (at m.smaller n.smaller (omega (arith, w.fits, w.below)) (omega arith) q.1)
      go (inr q) = absurd (omega (arith, w.below, at m.larger n.smaller w.fits (omega arith) q.0, at m.smaller n.larger (omega (arith, w.fits, w.below)) h q.1))

  matched_sorted : (m : Match) → m.larger < length (nodes r) → m.smaller < m.larger → Matched (unsorted r) (get_or (nodes r) m.larger 0) (get_or (nodes r) m.smaller 0) → Mem m (sorted r)
  matched_sorted m h b t = mem_cast (sym (one_match t.0 m h b t.2)) (sorted_has r t.0 t.1)

  -- so they are a match
  back : (m : Match) → Mem m listed → Mem m (sorted r)
  back m k = let w = listed_twins m k in matched_sorted m w.0 w.1 (all_matched r ok (get_or (nodes r) m.larger 0) (get_or (nodes r) m.smaller 0) w.2)

  sorted_listed : sorted r ≡ listed
  sorted_listed = ordered_same Over over_once (sorted r) listed (strictly (sorted r) (sorted_descends r) (sorted_distinct r)) listed_over there back

-- the matches: for x from the last node down, for y below x in x's group from x − 1 down, (x, y) where they are disjoint
pub descending : (r : Bytes) → check r ≡ accepted → (start : ℕ → ℕ) → Starts r (match_table r).nodes start → (match_table r).matches ≡ descend (apart_below (match_table r).nodes start) (length (match_table r).nodes)
descending r ok start s =
    subst (λ (l : List ℕ). (match_table r).matches ≡ descend (apart_below l start) (length l)) (sym (nodes_are r)) (matches_are r ∙ sorted_listed r ok start (subst (λ (l : List ℕ). Starts r l start) (nodes_are r) s))
