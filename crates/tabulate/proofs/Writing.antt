-- The matches in descending order, written one after the other: what is written, and what is left, are all. Assumes nothing.
use Rattle.std.proofs.Common.{◌≡◌, refl, sym, ap, ◌∙◌, Bool, true, List, [], ◌∷◌, ◌++◌, append_assoc, append-nil, ℕ, suc, ◌+◌, ◌-◌, ◌*◌, ◌≤◌, ◌<◌, arith, length, get_or, take, drop, set, length-append}
use borrow.Rule.Slice.PartMut.{put_mid}
use Rattle.std.proofs.Math.ListN.{length-map}
use Rattle.std.proofs.Math.Seq.{sets, sets-eq}
use Rattle.std.proofs.lemmas.Slice.{put_mid-paste}
use Rattle.std.proofs.lemmas.List.Edits.{paste_all}
use Rattle.bitset.specs.Bits.{is_disjoint}
use Rattle.molecule.specs.Lists.{filter}
use Rattle.matches.specs.Table.{Match}
use Rattle.matches.specs.Inner.Descending.{countdown, with_each, descend}
use Rattle.matches.specs.Inner.Written.{four_words, words_of}

-- ---- words

pub words_length : (l : List ℕ) (ms : List Match) → length (words_of l ms) ≡ 4 * length ms
words_length l [] = refl
words_length l (m ∷ ms) = omega (arith, words_length l ms)

words_append : (l : List ℕ) (ms ns : List Match) → words_of l (ms ++ ns) ≡ words_of l ms ++ words_of l ns
words_append l [] ns = refl
words_append l (m ∷ ms) ns = ap (λ (w : List ℕ). four_words (get_or l m.larger 0) (get_or l m.smaller 0) ++ w) (words_append l ms ns)

-- words stored after others
sets_append : (l : List ℕ) (k : ℕ) (v w : List ℕ) (n : ℕ) → n ≡ k + length v → sets (sets l k v) n w ≡ sets l k (v ++ w)
sets_append l k [] w n e = let f : n ≡ k = omega arith in rw f
sets_append l k (x ∷ v) w n e = sets_append (set l k x) (suc k) v w n (omega arith)

-- words copied over those from place i on
pub words_put : (l : List ℕ) {ys : List ℕ} (i k : ℕ) (vs : List ℕ) → ys ≡ vs → k ≡ length vs → i + length vs ≤ length l → put_mid i k l ys ≡ sets l i vs
words_put l {ys} i k vs e n h =
    put_mid-paste i k l ys vs (length vs) e (sym n) refl
    ∙ paste_all l i vs (length vs) refl
    ∙ sym (append_assoc (take i l) vs (drop (i + length vs) l))
    ∙ sym (sets-eq vs l i h)

-- ---- writing

-- of all the matches those that are left are still to be written: now is old with the others from place m on, and k is the place after them
pub record Writing (l : List ℕ) (all left : List Match) (m k : ℕ) (old now : List ℕ) : Type 0 where
  pub done : List Match
  pub split : done ++ left ≡ all
  pub count : k ≡ m + length done
  pub is : now ≡ sets old (4 * m) (words_of l done)

module _ {l : List ℕ} {all left : List Match} {m k : ℕ} {old now : List ℕ} (w : Writing l all left m k old now) where
  -- some more are written
  pub writing_more : (ms rest : List Match) (n : ℕ) (then : List ℕ) → left ≡ ms ++ rest → n ≡ k + length ms → then ≡ sets now (4 * k) (words_of l ms) → Writing l all rest m n old then
  writing_more ms rest n then e c q = record {
    done = w.done ++ ms;
    split = append_assoc w.done ms rest ∙ ap (λ (r : List Match). w.done ++ r) (sym e) ∙ w.split;
    count = omega (arith, w.count, length-append w.done ms);
    is = q ∙ ap (λ (v : List ℕ). sets v (4 * k) (words_of l ms)) w.is
        ∙ sets_append old (4 * m) (words_of l w.done) (words_of l ms) (4 * k) (omega (arith, w.count, words_length l w.done))
        ∙ ap (sets old (4 * m)) (sym (words_append l w.done ms));
  }

  -- there is one more
  pub writing_room : {one : Match} {rest : List Match} → left ≡ one ∷ rest → k < m + length all
  writing_room e = omega (arith, w.count, ap length w.split, length-append w.done left, ap length e)

  -- all are
  module _ (e : left ≡ []) where
    all_done : w.done ≡ all
    all_done = sym (append-nil w.done) ∙ ap (λ (r : List Match). w.done ++ r) (sym e) ∙ w.split

    pub writing_count : k ≡ m + length all
    writing_count = omega (arith, w.count, ap length all_done)

    pub writing_is : now ≡ sets old (4 * m) (words_of l all)
    writing_is = w.is ∙ ap (λ (ms : List Match). sets old (4 * m) (words_of l ms)) all_done

    -- from the front on
    pub writing_front : m ≡ 0 → 4 * length all ≤ length old → now ≡ words_of l all ++ drop (4 * k) old
    writing_front z h =
        let f : 4 * m ≡ 0 = omega arith in
        let g : 4 * k ≡ 0 + length (words_of l all) = omega (arith, writing_count, words_length l all) in
        writing_is ∙ rw (f, g) (sets-eq (words_of l all) old 0 (omega (arith, words_length l all)))

-- ---- the matches of a node

-- those with the nodes below y
abbrev pub left_of : List ℕ → ℕ → ℕ → ℕ → List Match
left_of l x s y = with_each x (filter (λ z. is_disjoint (get_or l x 0) (get_or l z 0)) (countdown s (y - s)))

module _ (l : List ℕ) (x s y : ℕ) (h : s < y) where
  next : countdown s (y - s) ≡ (y - 1) ∷ countdown s (y - 1 - s)
  next =
      let e : y - s ≡ suc (y - 1 - s) = omega arith in
      let f : s + (y - 1 - s) ≡ y - 1 = omega arith in
      rw e (ap (λ (z : ℕ). z ∷ countdown s (y - 1 - s)) f)

  abbrev test : ℕ → Bool
  test z = is_disjoint (get_or l x 0) (get_or l z 0)

  pub left_hit : true ≡ is_disjoint (get_or l x 0) (get_or l (y - 1) 0) → left_of l x s y ≡ (record { larger = x; smaller = y - 1 } ∷ []) ++ left_of l x s (y - 1)
  left_hit e = ap (λ (ys : List ℕ). with_each x (filter test ys)) next ∙ rw (← e)

pub each_length : (x : ℕ) (ys : List ℕ) → length (with_each x ys) ≡ length ys
each_length x ys = length-map ys (λ (y : ℕ). record { larger = x; smaller = y })

-- ---- the matches of all nodes

pub descend_step : (below : ℕ → List ℕ) (n : ℕ) → 0 < n → descend below n ≡ with_each (n - 1) (below (n - 1)) ++ descend below (n - 1)
descend_step below n h = let e : n ≡ suc (n - 1) = omega arith in ap (descend below) e

pub descend_none : (below : ℕ → List ℕ) (n : ℕ) → n ≤ 0 → descend below n ≡ []
descend_none below n h = let e : n ≡ 0 = omega arith in ap (descend below) e
