-- The sets that stand for the pieces, written one at a time, and the entry that is then drafted. Assumes nothing.
use Rattle.std.proofs.Common.{◌≡◌, refl, sym, ap, ◌∙◌, List, ◌∷◌, map, ℕ, suc, ◌+◌, ◌*◌, ◌^◌, ◌≤◌, ◌<◌, zero-add, add-one, arith, length, get_or, set, take, drop, drop_of_length-le, length-take-le, get_or-take, drop-cons, ext_get_or}
use native.Mathlib.Decide.{ℕ_discrete}
use Rattle.std.proofs.Math.ListN.{length-map, get_or-map}
use Rattle.std.proofs.lemmas.Grind.{common_steps}
use Rattle.molecule.specs.Lists.{Bytes}
use Rattle.canonize.specs.Strings.{sort, hash}
use Rattle.canonize.specs.Label.{label}
use Rattle.canonize.proofs.Laws.{hash_small}
use Rattle.desk.specs.Inner.Cached.{Stands}
use Rattle.memoize.specs.Inner.Stored.{hash_sum, Stood, Filled, labels, removals_at, EntryWords, entry_with}
use Rattle.memoize.proofs.Keys.{sum_sort}
use Rattle.memoize.proofs.Entries.{part_is}

-- the first i pieces are done, and total is the sum of their hashes
pub record Standing (r : Bytes) (pieces words : List ℕ) (total i : ℕ) : Type 0 where
  pub within : i ≤ length pieces
  pub stands : (j : ℕ) → j < i → Stands r (get_or pieces j 0) (get_or words j 0)
  pub hashes : (j : ℕ) → j < i → get_or words (32 + j) 0 ≡ hash (label r (get_or pieces j 0))
  pub sum : total + hash_sum (drop i (map (label r) pieces)) ≡ hash_sum (map (label r) pieces)
  pub small : total ≤ i * 2 ^ 55

module _ {r : Bytes} {pieces words : List ℕ} {total i : ℕ} (w : Standing r pieces words total i) where
  module _ (l : i < length pieces) (few : length pieces ≤ 32) (wide : 80 ≤ length words)
      {y h : ℕ} (e : h ≡ hash (label r (get_or pieces i 0))) (s : Stands r (get_or pieces i 0) y) where
    abbrev one : List ℕ
    one = set words i y

    abbrev two : List ℕ
    two = set one (32 + i) h

    -- the next label of what is left
    next : drop i (map (label r) pieces) ≡ label r (get_or pieces i 0) ∷ drop (suc i) (map (label r) pieces)
    next =
        drop-cons (map (label r) pieces) i (label r 0) (omega (arith, length-map pieces (label r)))
        ∙ ap (λ (z : Bytes). z ∷ drop (suc i) (map (label r) pieces)) (get_or-map (label r) pieces i 0)

    stands_of : (j : ℕ) → j < i + 1 → Dec (j ≡ i) → Stands r (get_or pieces j 0) (get_or two j 0)
    stands_of j g (yes q) = let a : get_or two i 0 ≡ y = grind (arith, common_steps) in rw (q, a) s
    stands_of j g (no q) = let a : get_or two j 0 ≡ get_or words j 0 = grind (arith, common_steps) in rw a (w.stands j (omega arith))

    hash_of : (j : ℕ) → j < i + 1 → get_or two (32 + j) 0 ≡ hash (label r (get_or pieces j 0))
    hash_of j g = grind (arith, common_steps, w.hashes j)

    pub standing_next : Standing r pieces two (total + h) (i + 1)
    unfolding hash_sum
    standing_next = record {
      within = omega arith;
      stands = λ j g. stands_of j g (ℕ_discrete j i);
      hashes = hash_of;
      sum = rw add-one (omega (arith, w.sum, ap hash_sum next, e));
      small = omega (arith, w.small, hash_small (label r (get_or pieces i 0)), e);
    }

  pub standing_done : length pieces ≤ i → Stood r pieces words total
  unfolding hash_sum
  standing_done l = record {
    stands = λ j h. w.stands j (omega arith);
    hashes = λ j h. w.hashes j (omega arith);
    sum = omega (arith, w.sum, ap hash_sum (drop_of_length-le (map (label r) pieces) {i = i} (omega (arith, length-map pieces (label r)))));
  }

-- ---- the entry

-- words 64 to 67
module _ (l : List ℕ) (n m index total : ℕ) where
  abbrev pub four_set : List ℕ
  four_set = set (set (set (set l 64 n) 65 m) 66 index) 67 total

  four_length : length four_set ≡ length l
  four_length = grind (arith, common_steps)

  four_other : (i : ℕ) → i < 64 → get_or four_set i 0 ≡ get_or l i 0
  four_other i h = grind (arith, common_steps)

  module _ (w : 80 ≤ length l) where
    four_count : get_or four_set 64 0 ≡ n
    four_count = grind (arith, common_steps)

    four_removed : get_or four_set 65 0 ≡ m
    four_removed = grind (arith, common_steps)

    four_index : get_or four_set 66 0 ≡ index
    four_index = grind (arith, common_steps)

    four_total : get_or four_set 67 0 ≡ total
    four_total = grind (arith, common_steps)

module _ {r : Bytes} {pieces stood now : List ℕ} {total : ℕ} {removals : List ℕ} (index : ℕ)
    (w : Stood r pieces stood total) (f : Filled stood now (length pieces) (length removals) removals)
    (few : length pieces + length removals ≤ 32) (wide : 80 ≤ length stood) where
  abbrev n : ℕ
  n = length pieces

  abbrev m : ℕ
  m = length removals

  abbrev new : List ℕ
  new = four_set now n m index total

  long : length new ≡ length stood
  long = four_length now n m index total ∙ f.long

  room : 80 ≤ length now
  room = omega (arith, f.long)

  set_at : (j : ℕ) → j < n → get_or new j 0 ≡ get_or stood j 0
  set_at j h = four_other now n m index total j (omega arith) ∙ f.outside j (λ p q. omega arith)

  label_at : (j : ℕ) → j < n → label r (get_or new j 0) ≡ label r (get_or pieces j 0)
  label_at j h = ap (label r) (set_at j h) ∙ (w.stands j h).same

  part_length : length (take n new) ≡ n
  part_length = length-take-le n new (omega (arith, long))

  labels_are : map (label r) (take n new) ≡ map (label r) pieces
  labels_are =
      let long = length-map (take n new) (label r) ∙ part_length ∙ sym (length-map pieces (label r)) in
      ext_get_or (label r 0) (map (label r) (take n new)) (map (label r) pieces) long (λ j h.
      let g : j < n = omega (arith, length-map (take n new) (label r), part_length) in
      get_or-map (label r) (take n new) j 0 ∙ ap (label r) (get_or-take n new j 0 g) ∙ label_at j g ∙ sym (get_or-map (label r) pieces j 0))

  pub drafted : EntryWords r new 0 (entry_with r pieces index removals)
  unfolding labels removals_at
  drafted =
      let c = four_count now n m index total room in
      let d = four_removed now n m index total room in
      record {
        few = rw (c, d) few;
        block = rw c (record {
          wide = omega (arith, long);
          few = omega arith;
          fragments = λ j g. rw (zero-add j, set_at j g) (w.stands j g).fragment;
          hashes = λ j g.
              rw (zero-add j)
              (four_other now n m index total (32 + j) (omega arith)
              ∙ f.outside (32 + j) (λ p q. omega arith)
              ∙ w.hashes j g
              ∙ ap (λ (z : Bytes). hash z) (sym (label_at j g)));
        });
        key = rw c (ap sort labels_are);
        total = four_total now n m index total room ∙ w.sum ∙ sym (sum_sort (map (label r) pieces));
        index = four_index now n m index total room;
        removals =
            rw (c, d, zero-add n)
            (part_is new n m removals (omega (arith, long)) refl (λ j g. four_other now n m index total (n + j) (omega arith) ∙ f.inside j g));
      }
