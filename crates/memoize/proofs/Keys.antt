-- Keys: two sorted lists of labels are equal where one list is a permutation of the other, and taking labels out one at a time decides that. Assumes nothing.
use Rattle.std.proofs.Common.{◌≡◌, refl, sym, ap, ap₂, ◌∙◌, ◌≢◌, ◌⊎◌, inl, inr, true, false, List, [], ◌∷◌, ◌++◌, map, ℕ, zero, suc, ◌+◌, ◌^◌, ◌≤◌, ◌<◌, zero-add, add-one, arith, length, get_or, take, drop, length-drop, drop_of_length-le, take-suc, drop-cons, length-take-le, get_or-take, get_or-drop, eq-eqb, ne_eqb, bit_or}
use Rattle.std.proofs.lemmas.Bool.{false≢true}
use mathlib.Core.List.Permᴰ.{symm as perm_sym}
use mathlib.Core.List.{Permᴰ as Perm}
use mathlib.Core.List.Permᴰ.{cons as p_cons}
use mathlib.Core.List.Permᴰ.{nil as p_nil}
use mathlib.Core.List.Permᴰ.{swap as p_swap}
use mathlib.Core.List.Permᴰ.{trans as p_trans}
use native.Mathlib.Decide.{ℕ_discrete}
use Rattle.std.proofs.Math.ListN.{length-map, get_or-map}
use borrow.Author.Tests.{eqb-false}
use Rattle.bitset.specs.Bits.{bit, has}
use Rattle.bitset.proofs.Bools.{two}
use Rattle.bitset.proofs.Laws.{bit-or, bit_one, bit_other, bit_empty, bit_le}
use Rattle.bitset.proofs.Members.{in_or_out, or_left_in, or_right_in}
use Rattle.molecule.specs.Lists.{Bytes}
use Rattle.canonize.specs.Strings.{sort, same, hash}
use Rattle.canonize.specs.Label.{label}
use Rattle.canonize.proofs.Laws.{same_iff, sort_perm, sort_canonical, perm_of_sort}
use Rattle.molecule.proofs.Perms.{Out, first, later, out_perm, perm_out, perm_cons}
use Rattle.search.specs.Memo.{same_key}
use Rattle.memoize.specs.Inner.Stored.{Block, label_at, labels, Hit, hash_sum}

-- ---- equal keys

pub key_refl : (x : List Bytes) → same_key x x ≡ true
unfolding same_key
key_refl [] = refl
key_refl (a ∷ x) = rw ((same_iff a a).1 refl) (key_refl x)

pub key_is : (x y : List Bytes) → same_key x y ≡ true → x ≡ y
unfolding same_key
key_is [] [] e = refl
key_is [] (b ∷ y) e = absurd (false≢true e)
key_is (a ∷ x) [] e = absurd (false≢true e)
key_is (a ∷ x) (b ∷ y) e = go (two (same a b)) (key_is x y)
  where
    go : (same a b ≡ true) ⊎ (same a b ≡ false) → (same_key x y ≡ true → x ≡ y) → a ∷ x ≡ b ∷ y
    go (inl q) ih = ap₂ ◌∷◌ ((same_iff a b).0 q) (ih (rw (q, same_key) at e))
    go (inr q) ih = absurd (false≢true (rw (q, same_key) at e))

pub key_same : (x y : List Bytes) → x ≡ y → same_key x y ≡ true
key_same x y e = rw e (key_refl y)

pub key_differ : (x y : List Bytes) → x ≢ y → same_key x y ≡ false
key_differ x y n = go (two (same_key x y))
  where
    go : (same_key x y ≡ true) ⊎ (same_key x y ≡ false) → same_key x y ≡ false
    go (inl e) = absurd (n (key_is x y e))
    go (inr e) = e

pub perm_same : {x y : List Bytes} → Perm x y → true ≡ same_key (sort x) (sort y)
perm_same {x} {y} d = sym (key_same (sort x) (sort y) (sort_canonical d))

pub perm_differ : (x y : List Bytes) → (Perm x y → ⊥) → false ≡ same_key (sort x) (sort y)
perm_differ x y n = sym (key_differ (sort x) (sort y) (λ e. n (perm_of_sort x y e)))

-- ---- hashes

sum_perm : {x y : List Bytes} → Perm x y → hash_sum x ≡ hash_sum y
unfolding hash_sum
sum_perm p_nil = refl
sum_perm (p_cons {l₂ = l} e d) = ap₂ ◌+◌ (ap (λ (z : Bytes). hash z) e) (sum_perm d)
sum_perm (p_swap {a = a} {b = b} {a' = a'} {b' = b'} {l = l} e g) = omega (arith, ap (λ (z : Bytes). hash z) e, ap (λ (z : Bytes). hash z) g)
sum_perm (p_trans d g) = sum_perm d ∙ sum_perm g

pub sum_sort : (x : List Bytes) → hash_sum (sort x) ≡ hash_sum x
sum_sort x = sum_perm (sort_perm x)

perm_length : {x y : List Bytes} → Perm x y → length x ≡ length y
perm_length p_nil = refl
perm_length (p_cons e d) = ap suc (perm_length d)
perm_length (p_swap e g) = refl
perm_length (p_trans d g) = perm_length d ∙ perm_length g

pub sort_length : (x : List Bytes) → length (sort x) ≡ length x
sort_length x = perm_length (sort_perm x)

-- ---- the labels of a block

module _ (r : Bytes) (words : List ℕ) (base n : ℕ) (h : base + n ≤ length words) where
  abbrev pieces : List ℕ
  pieces = take n (drop base words)

  at : (i : ℕ) → i < n → get_or pieces i 0 ≡ get_or words (base + i) 0
  at i l = get_or-take n (drop base words) i 0 l ∙ get_or-drop base words i 0

  pieces_length : length pieces ≡ n
  pieces_length = length-take-le n (drop base words) (omega (arith, length-drop base words))

  pub labels_length : length (labels r words base n) ≡ n
  unfolding labels
  labels_length = length-map pieces (label r) ∙ pieces_length

  -- the next label of what is left
  pub labels_next : (i : ℕ) → i < n → drop i (labels r words base n) ≡ label_at r words base i ∷ drop (suc i) (labels r words base n)
  unfolding labels label_at
  labels_next i l =
      drop-cons (map (label r) pieces) i (label r 0) (omega (arith, length-map pieces (label r), pieces_length))
      ∙ ap (λ (z : Bytes). z ∷ drop (suc i) (map (label r) pieces)) (get_or-map (label r) pieces i 0 ∙ ap (label r) (at i l))

-- ---- what is not used

module _ {A : Type 0} (f : ℕ → A) where
  -- f i for the i below n that are not in the set u, the last first
  unfoldable pub unused : ℕ → ℕ → List A
  unused u zero = []
  unused u (suc n) = elim (has u n) [ true ↦ unused u n | false ↦ f n ∷ unused u n ]

  unused_free : (u n : ℕ) → bit u n ≡ 0 → unused u (suc n) ≡ f n ∷ unused u n
  unfolding unused
  unused_free u n e = rw (ne_eqb (bit u n) 1 (λ q. omega arith), unused)

  unused_used : (u n : ℕ) → bit u n ≡ 1 → unused u (suc n) ≡ unused u n
  unfolding unused
  unused_used u n e = rw (eq-eqb (bit u n) 1 e, unused)

  unused_agree : (u v n : ℕ) → ((i : ℕ) → i < n → bit u i ≡ bit v i) → unused u n ≡ unused v n
  unfolding unused
  unused_agree u v zero h = refl
  unused_agree u v (suc n) h = go (in_or_out u n) (unused_agree u v n (λ i l. h i (omega arith)))
    where
      go : (bit u n ≡ 1) ⊎ (bit u n ≡ 0) → unused u n ≡ unused v n → unused u (suc n) ≡ unused v (suc n)
      go (inl e) ih = unused_used u n e ∙ ih ∙ sym (unused_used v n (sym (h n (omega arith)) ∙ e))
      go (inr e) ih = unused_free u n e ∙ ap (λ (l : List A). f n ∷ l) ih ∙ sym (unused_free v n (sym (h n (omega arith)) ∙ e))

  bit_still : (u i j : ℕ) → i ≢ j → bit (bit_or u (2 ^ j)) i ≡ bit u i
  bit_still u i j n = omega (arith, bit-or u (2 ^ j) i, bit_other j i n)

  -- one more is used
  use_one : (u j n : ℕ) → j < n → bit u j ≡ 0 → Out (f j) (unused u n) (unused (bit_or u (2 ^ j)) n)
  use_one u j zero l e = absurd (omega arith)
  use_one u j (suc n) l e = go (ℕ_discrete j n) (in_or_out u n) (use_one u j n)
    where
      go : Dec (j ≡ n) → (bit u n ≡ 1) ⊎ (bit u n ≡ 0) → (j < n → bit u j ≡ 0 → Out (f j) (unused u n) (unused (bit_or u (2 ^ j)) n))
          → Out (f j) (unused u (suc n)) (unused (bit_or u (2 ^ j)) (suc n))
      go (yes q) s ih =
          let a : bit u n ≡ 0 = rw q at e in
          let b : bit (bit_or u (2 ^ j)) n ≡ 1 = rw (← q) (or_right_in u (2 ^ j) j (bit_one j)) in
          let d : unused u n ≡ unused (bit_or u (2 ^ j)) n = unused_agree u (bit_or u (2 ^ j)) n (λ i k. sym (bit_still u i j (λ z. omega arith))) in
          rw (unused_free u n a, unused_used (bit_or u (2 ^ j)) n b, d) (first (ap f q))
      go (no q) (inl s) ih = rw (unused_used u n s, unused_used (bit_or u (2 ^ j)) n (or_left_in u (2 ^ j) n s)) (ih (omega arith) e)
      go (no q) (inr s) ih = rw (unused_free u n s, unused_free (bit_or u (2 ^ j)) n (bit_still u n j (λ z. q (sym z)) ∙ s)) (later (ih (omega arith) e))

  -- one of the first n that are not in u is x
  abbrev Free : A → ℕ → ℕ → Type 0
  Free x u n = (j : ℕ) × (j < n) × (bit u j ≡ 0) × (f j ≡ x)

  -- what can be taken out is one of them
  out_is : (x : A) (u n : ℕ) (l : List A) → Out x (unused u n) l → Free x u n
  unfolding unused
  out_is x u zero l o = absurd (elim o [ ])
  out_is x u (suc n) l o = go (in_or_out u n) (out_is x u n)
    where
      more : Free x u n → Free x u (suc n)
      more (j, a, b, d) = (j, omega arith, b, d)

      cases : bit u n ≡ 0 → ((m : List A) → Out x (unused u n) m → Free x u n) → (m : List A) → Out x (f n ∷ unused u n) m → Free x u (suc n)
      cases s ih m (first q) = (n, omega arith, s, sym q)
      cases s ih m (later {zs = zs} p) = more (ih zs p)

      go : (bit u n ≡ 1) ⊎ (bit u n ≡ 0) → ((m : List A) → Out x (unused u n) m → Free x u n) → Free x u (suc n)
      go (inl s) ih = more (ih l (rw (unused_used u n s) at o))
      go (inr s) ih = cases s ih l (rw (unused_free u n s) at o)

out_length : {A : Type 0} {x : A} {l m : List A} → Out x l m → length l ≡ suc (length m)
out_length (first e) = refl
out_length (later o) = ap suc (out_length o)

out_end : {A : Type 0} (x : A) (l : List A) → Out x (l ++ (x ∷ [])) l
out_end x [] = first refl
out_end x (y ∷ l) = later (out_end x l)

-- what is out of both of two permutations
out_same : {A : Type 0} {x : A} {xs l m : List A} → Perm (x ∷ xs) l → Out x l m → Perm xs m
out_same {A} {x} {xs} {l} {m} d o = let (ys, p, e) = perm_out (perm_sym d) o in go ys p e
  where
    go : (ys : List A) → Out x (x ∷ xs) ys → Perm m ys → Perm xs m
    go ys (first q) e = perm_sym e
    go ys (later p) e = p_trans (perm_sym (out_perm p)) (perm_sym e)

out_back : {A : Type 0} {x : A} {xs l m : List A} → Out x l m → Perm xs m → Perm (x ∷ xs) l
out_back o d = p_trans (p_cons refl d) (out_perm o)

-- ---- looking for one

-- none of the first k that are not used is x
pub record Passed (f : ℕ → Bytes) (used : ℕ) (x : Bytes) (k : ℕ) : Type 0 where
  pub none : (i : ℕ) → i < k → bit used i ≡ 0 → f i ≢ x

module _ {f : ℕ → Bytes} {used : ℕ} {x : Bytes} {k : ℕ} (p : Passed f used x k) where
  pub passed_differ : f k ≢ x → Passed f used x (k + 1)
  passed_differ n = record { none = λ i l. go i l (ℕ_discrete i k) }
    where
      go : (i : ℕ) → i < k + 1 → Dec (i ≡ k) → bit used i ≡ 0 → f i ≢ x
      go i l (yes e) z = rw e n
      go i l (no e) z = p.none i (omega arith) z

pub picked_hit : {f : ℕ → Bytes} {n used : ℕ} {x : Bytes} {k : ℕ} → k < n → has used k ≡ false → f k ≡ x → Hit f n used x k
picked_hit {used = used} {k = k} l e h = record { within = l; free = omega (arith, bit_le used k, eqb-false (bit used k) 1 e); same = h }

-- another hash, another label
pub other_hash : {r : Bytes} {words : List ℕ} {base n : ℕ} → Block r words base n → (j x h : ℕ) → j < n → h ≡ hash (label r x)
    → get_or words (base + 32 + j) 0 ≢ h → label_at r words base j ≢ label r x
unfolding label_at
other_hash b j x h l e d q = d (b.hashes j l ∙ ap (λ (z : Bytes). hash z) q ∙ sym e)

-- ---- two blocks

map-append : {A B : Type 0} (g : A → B) (l m : List A) → map g (l ++ m) ≡ map g l ++ map g m
map-append g [] m = refl
map-append g (x ∷ l) m = ap (λ (k : _). g x ∷ k) (map-append g l m)

module _ (r : Bytes) (words : List ℕ) (base : ℕ) where
  abbrev here : ℕ → Bytes
  here = label_at r words base

  unused_all : (n : ℕ) → base + n ≤ length words → Perm (unused here 0 n) (labels r words base n)
  unfolding unused label_at labels
  unused_all zero h = p_nil
  unused_all (suc n) h =
      rw (unused_free here 0 n (bit_empty n), one_more)
      (p_trans (p_cons refl (unused_all n (omega arith))) (out_perm (out_end (here n) (labels r words base n))))
    where
      one_more : labels r words base (suc n) ≡ labels r words base n ++ (here n ∷ [])
      one_more =
          ap (map (label r)) (take-suc (drop base words) n 0 (omega (arith, length-drop base words)))
          ∙ map-append (label r) (take n (drop base words)) (get_or (drop base words) n 0 ∷ [])
          ∙ ap (λ (z : ℕ). map (label r) (take n (drop base words)) ++ (label r z ∷ [])) (get_or-drop base words n 0)

-- all labels match where what is left of them matches what is not used
pub record Matching (x y : List Bytes) (f : ℕ → Bytes) (n i used : ℕ) : Type 0 where
  pub within : i ≤ n
  pub count : length (unused f used n) + i ≡ n
  pub to : Perm x y → Perm (drop i x) (unused f used n)
  pub from : Perm (drop i x) (unused f used n) → Perm x y

all_length : {A : Type 0} (f : ℕ → A) (n : ℕ) → length (unused f 0 n) ≡ n
unfolding unused
all_length f zero = refl
all_length f (suc n) = ap length (unused_free f 0 n (bit_empty n)) ∙ ap suc (all_length f n)

module _ {r : Bytes} {words : List ℕ} {base : ℕ} {new : List ℕ} {n : ℕ} (b : Block r words base n) (g : Block r new 0 n) where
  abbrev mine : List Bytes
  mine = labels r new 0 n

  abbrev theirs : List Bytes
  theirs = labels r words base n

  abbrev its : ℕ → Bytes
  its = label_at r words base

  pub matching_start : Matching mine theirs its n 0 0
  matching_start =
      let p = unused_all r words base n (omega (arith, b.wide, b.few)) in
      record { within = omega arith; count = omega (arith, all_length its n); to = λ d. p_trans d (perm_sym p); from = λ d. p_trans d p }

  module _ {i used : ℕ} (w : Matching mine theirs its n i used) where
    module _ (h : i < n) where
      next : drop i mine ≡ label r (get_or new i 0) ∷ drop (suc i) mine
      unfolding label_at
      next = labels_next r new 0 n (omega (arith, g.wide, g.few)) i h ∙ ap (λ (j : ℕ). label r (get_or new j 0) ∷ drop (suc i) mine) (zero-add i)

      pub matching_next : {k : ℕ} → Hit its n used (label r (get_or new i 0)) k → Matching mine theirs its n (i + 1) (bit_or used (2 ^ k))
      matching_next {k} p =
          let o = rw p.same at (use_one its used k n p.within p.free) in
          record {
            within = omega arith;
            count = omega (arith, w.count, out_length o);
            to = λ q. rw (add-one i) (out_same (rw next at (w.to q)) o);
            from = λ q. w.from (rw next (out_back o (rw (add-one i) at q)));
          }

      pub matching_fails : ((j : ℕ) → j < n → bit used j ≡ 0 → its j ≢ label r (get_or new i 0)) → false ≡ same_key (sort mine) (sort theirs)
      matching_fails p = perm_differ mine theirs (λ d.
          let (ys, o, q) = perm_cons (rw next at (w.to d)) in
          let (j, l, z, m) = out_is its (label r (get_or new i 0)) used n ys o in
          p j l z m)

    pub matching_done : n ≤ i → true ≡ same_key (sort mine) (sort theirs)
    matching_done h = perm_same (w.from (rw (drop_of_length-le mine m, z) p_nil))
      where
        m : length mine ≤ i
        m = omega (arith, labels_length r new 0 n (omega (arith, g.wide, g.few)))

        none : (l : List Bytes) → length l ≡ 0 → l ≡ []
        none [] e = refl
        none (x ∷ l) e = absurd (omega arith)

        z : unused its used n ≡ []
        z = none (unused its used n) (omega (arith, w.count, w.within))
