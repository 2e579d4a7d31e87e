-- What `write` leaves in pairs, where parts holds a record's nodes and the starts of their groups: the words of the record's matches. Assumes nothing.
use mathlib.Core.Path.{◌≡◌, refl, sym, ap, ap₂, subst, ◌∙◌}
use mathlib.Core.Bool.{Bool}
use mathlib.Core.List.Memᴰ.{head as m_head}
use mathlib.Core.List.Memᴰ.{tail as m_tail}
use mathlib.Core.List.{List, [], ◌∷◌, ◌++◌, Memᴰ as Mem}
use Prim.Native.Nat.{ℕ, zero, suc, ◌+◌, ◌-◌, ◌*◌, ◌≤◌, ◌<◌}
use native.Mathlib.Omega.{arith}
use lib.ListN.{length, get_or, take, drop, length-map, get_or-append}
use lib.Seq.{get_or-take}
use Rattle.bitset.specs.Bits.{is_disjoint}
use Rattle.molecule.specs.Lists.{Bytes, pick, filter}
use Rattle.molecule.specs.Check.{accepted, check}
use Rattle.molecule.proofs.Lists.{map_at}
use Rattle.matches.specs.Table.{Match, Table, match_table, Pair, pairs_of, pair, size_of, pairs}
use Rattle.matches.specs.Inner.Descending.{countdown, with_each, descend, apart_below, Starts}
use Rattle.matches.specs.Inner.Written.{four_words, words_of, start_in, matches_in, StartsBefore, Recorded}
use Rattle.matches.proofs.Listed.{nodes_are, matches_are, sorted_sound}
use Rattle.matches.proofs.Descending.{countdown_in, descending}

-- ---- lists that agree where they are read

filter_same : (p q : ℕ → Bool) (l : List ℕ) → ((y : ℕ) → Mem y l → p y ≡ q y) → filter p l ≡ filter q l
filter_same p q [] h = refl
filter_same p q (y ∷ l) h = ap₂ (λ (b : Bool) (m : List ℕ). pick b (y ∷ m) m) (h y (m_head refl)) (filter_same p q l (λ z m. h z (m_tail m)))

apart_same : (k l : List ℕ) (start : ℕ → ℕ) (x : ℕ) → start x ≤ x → ((i : ℕ) → i ≤ x → get_or k i 0 ≡ get_or l i 0) → apart_below k start x ≡ apart_below l start x
apart_same k l start x s h =
    filter_same (λ y. is_disjoint (get_or k x 0) (get_or k y 0)) (λ y. is_disjoint (get_or l x 0) (get_or l y 0)) (countdown (start x) (x - start x))
    (λ y m. ap₂ is_disjoint (h x (omega arith)) (h y (omega (arith, countdown_in (start x) (x - start x) y m))))

descend_same : (f g : ℕ → List ℕ) (n : ℕ) → ((x : ℕ) → x < n → f x ≡ g x) → descend f n ≡ descend g n
descend_same f g zero h = refl
descend_same f g (suc n) h = ap₂ (λ (ys : List ℕ) (ms : List Match). with_each n ys ++ ms) (h n (omega arith)) (descend_same f g n (λ x i. h x (omega arith)))

words_same : (k l : List ℕ) (ms : List Match) → ((m : Match) → Mem m ms → (get_or k m.larger 0 ≡ get_or l m.larger 0) × (get_or k m.smaller 0 ≡ get_or l m.smaller 0)) → words_of k ms ≡ words_of l ms
words_same k l [] h = refl
words_same k l (m ∷ ms) h =
    let e = h m (m_head refl) in
    ap₂ (λ (w v : List ℕ). w ++ v) (ap₂ four_words e.0 e.1) (words_same k l ms (λ n i. h n (m_tail i)))

-- ---- the words of a table's matches

-- word i of match m
word_at : (l : List ℕ) (ms : List Match) (rest : List ℕ) (d : Match) (m i : ℕ) → m < length ms → i < 4 → get_or (words_of l ms ++ rest) (4 * m + i) 0 ≡ get_or (four_words (get_or l (get_or ms m d).larger 0) (get_or l (get_or ms m d).smaller 0)) i 0
word_at l [] rest d m i h g = absurd (omega arith)
word_at l (x ∷ ms) rest d zero i h g =
    let e : 4 * 0 + i ≡ i = omega arith in
    ap (λ (j : ℕ). get_or (words_of l (x ∷ ms) ++ rest) j 0) e ∙ get_or-append (four_words (get_or l x.larger 0) (get_or l x.smaller 0)) (words_of l ms ++ rest) 0 i g
word_at l (x ∷ ms) rest d (suc m) i h g =
    let e : 4 * suc m + i ≡ suc (suc (suc (suc (4 * m + i)))) = omega arith in
    ap (λ (j : ℕ). get_or (words_of l (x ∷ ms) ++ rest) j 0) e ∙ word_at l ms rest d m i (omega arith) g

module _ (t : Table) where
  -- there are as many pairs as matches
  pub pairs_length : length (pairs_of t) ≡ length t.matches
  unfolding pairs_of
  pairs_length = length-map t.matches (λ m. record { h1 = get_or t.nodes m.larger 0; h2 = get_or t.nodes m.smaller 0 })

  abbrev none : Match
  none = record { larger = 0; smaller = 0 }

  pair_at : (m : ℕ) → m < length t.matches → pair (pairs_of t) m ≡ record { h1 = get_or t.nodes (get_or t.matches m none).larger 0; h2 = get_or t.nodes (get_or t.matches m none).smaller 0 }
  unfolding pairs_of pair
  pair_at m h = map_at (λ m. record { h1 = get_or t.nodes m.larger 0; h2 = get_or t.nodes m.smaller 0 }) none (record { h1 = 0; h2 = 0 }) t.matches m h

  module _ (rest : List ℕ) where
    word : (m i : ℕ) → m < length (pairs_of t) → i < 4 → get_or (words_of t.nodes t.matches ++ rest) (4 * m + i) 0 ≡ get_or (four_words (pair (pairs_of t) m).h1 (pair (pairs_of t) m).h2) i 0
    word m i h g =
        let f : m < length t.matches = omega (arith, pairs_length) in
        word_at t.nodes t.matches rest none m i f g ∙ sym (ap (λ (p : Pair). get_or (four_words p.h1 p.h2) i 0) (pair_at m f))

    -- they are recorded, whatever follows
    pub table_recorded : Recorded (words_of t.nodes t.matches ++ rest) (pairs_of t)
    unfolding size_of
    table_recorded = record {
      one = λ m h. let e : 4 * m ≡ 4 * m + 0 = omega arith in rw e (word m 0 h (omega arith));
      other = λ m h. word m 1 h (omega arith);
      both = λ m h. word m 2 h (omega arith);
      sized = λ m h. word m 3 h (omega arith);
    }

-- ---- the matches of a record

-- the matches name nodes
within : (r : Bytes) (m : Match) → Mem m (match_table r).matches → (m.larger < length (match_table r).nodes) × (m.smaller < length (match_table r).nodes)
within r m k =
    let w = sorted_sound r m (subst (Mem m) (matches_are r) k) in
    let e = ap length (nodes_are r) in
    (omega (arith, w.fits), omega (arith, w.fits, w.below))

module _ (r : Bytes) (ok : check r ≡ accepted) (parts : List ℕ) (p count : ℕ) (all : count ≡ length (match_table r).nodes)
    (here : (i : ℕ) → i < count → get_or parts i 0 ≡ get_or (match_table r).nodes i 0) (starts : Starts r (match_table r).nodes (start_in parts p)) where
  pub starts_before : StartsBefore parts p count
  starts_before x h = (starts x (omega arith)).0

  -- they are the record's
  pub matches_in_lem : matches_in parts p count ≡ (match_table r).matches
  matches_in_lem =
      descend_same (apart_below parts (start_in parts p)) (apart_below (match_table r).nodes (start_in parts p)) count
      (λ x h. apart_same parts (match_table r).nodes (start_in parts p) x (starts_before x h) (λ i g. here i (omega arith)))
      ∙ ap (descend (apart_below (match_table r).nodes (start_in parts p))) all
      ∙ sym (descending r ok (start_in parts p) starts)

  -- and so are their words
  pub words_in : words_of parts (matches_in parts p count) ≡ words_of (match_table r).nodes (match_table r).matches
  words_in =
      ap (words_of parts) matches_in_lem
      ∙ words_same parts (match_table r).nodes (match_table r).matches (λ m k. let w = within r m k in (here m.larger (omega arith), here m.smaller (omega arith)))

  -- by what `write` ensures: how many there are, and that they are recorded
  pub recorded : (old now : List ℕ) (m : ℕ) → m ≡ length (matches_in parts p count) → now ≡ words_of parts (matches_in parts p count) ++ drop (4 * m) old → (m ≡ length (pairs r)) × Recorded now (pairs r)
  recorded old now m e q = (
    e ∙ ap length matches_in_lem ∙ sym (pairs_length (match_table r)),
    subst (λ (w : List ℕ). Recorded w (pairs r)) (sym (q ∙ ap (λ (w : List ℕ). w ++ drop (4 * m) old) words_in)) (table_recorded (match_table r) (drop (4 * m) old)),
  )

-- ---- the words in front

-- the words of the matches and no others
pub recorded_front : (words : List ℕ) (ms : List Pair) (n : ℕ) → 4 * length ms ≤ n → Recorded words ms → Recorded (take n words) ms
recorded_front words ms n h w = record {
  one = λ m l. get_or-take n words (4 * m) 0 (omega arith) ∙ w.one m l;
  other = λ m l. get_or-take n words (4 * m + 1) 0 (omega arith) ∙ w.other m l;
  both = λ m l. get_or-take n words (4 * m + 2) 0 (omega arith) ∙ w.both m l;
  sized = λ m l. get_or-take n words (4 * m + 3) 0 (omega arith) ∙ w.sized m l;
}
