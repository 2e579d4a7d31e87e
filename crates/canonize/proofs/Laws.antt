-- The laws of labels that other crates cite: lengths, isomorphism, parts carried along, the order of byte strings, sorting, equality and hashes of them, and
-- label's answer row by row. Assumes nothing.
use mathlib.Core.Path.{◌≡◌, sym, ◌∙◌}
use mathlib.Core.Logic.{◌⊎◌, inl, inr, ⊎_elim}
use mathlib.Core.Bool.{true}
use mathlib.Core.List.{[], ◌∷◌}
use Prim.Native.Nat.{ℕ, ◌+◌, ◌*◌, ◌%◌, ◌^◌, ◌≤◌, ◌<◌}
use native.Mathlib.Nat.{mod-lt}
use native.Mathlib.Omega.{arith}
use lib.Bits.{bit_or}
use lib.ListN.{length}
use Rattle.bitset.specs.Bits.{bit, Sub, Disjoint, size}
use Rattle.bitset.proofs.Laws.{member_lt, size_le, one_sub}
use Rattle.bitset.proofs.Decide.{sets, v, or, sub}
use Rattle.molecule.specs.Lists.{Bytes}
use Rattle.molecule.specs.Record.{bonds, class}
use Rattle.molecule.specs.Check.{accepted, check}
use Rattle.molecule.specs.Connected.{Touch, Own, Connected}
use Rattle.molecule.proofs.Accepted.{accepted_formed}
use Rattle.molecule.proofs.Components.{own_sub, pair_connected}
use Rattle.canonize.specs.Strings.{lex_le, hash, hash_from}
use Rattle.canonize.specs.Label.{marks, own_string, fragment, label, marked}
use Rattle.canonize.specs.Isomorphism.{Isomorphism}
use Rattle.canonize.proofs.Sorting.{lex_refl, lex_trans, lex_antisym, lex_total, lex→lexLe, lexle→lex}
use Rattle.canonize.proofs.OnStrings.{label_document}
use Rattle.canonize.proofs.Facts.{HasLength, label_length as tree_length, label_size as tree_size}
use Rattle.canonize.proofs.Marks.{own_of, own_count}
use Rattle.canonize.proofs.Parts.{keep_le}
use Rattle.canonize.proofs.Peeling.{tree_label}
use Rattle.canonize.proofs.Fragments.{fragment_bonds, fragment_clean}
use Rattle.canonize.proofs.Carried.{Carried, image, image_carried, pair_carried, touch_goes, carried_sub, carried_apart, carried_iso, carried_connected}
pub use Rattle.canonize.proofs.Isomorphic.{label_iff}
pub use Rattle.canonize.proofs.Sorting.{lexle_turn, sort_perm, sort_canonical, perm_of_sort}
pub use Rattle.canonize.proofs.Comparing.{same_refl, same_is, same_iff, gt_lex}
pub use Rattle.canonize.proofs.Natural.{label_by_elements, natural_label, natural_reads}
pub use Rattle.canonize.proofs.Answers.{answer_refused, answer_label, record_row, set_row, buffer_row, no_row, good_set}

-- ---- lengths

module _ (r : Bytes) (s : ℕ) (a : check r ≡ accepted) (o : Own r s) (k : Connected r s) where
  -- one byte for each atom's element code, and one more for each marked atom
  own_bytes : own_of (own_string r) (fragment r s).atoms ≡ size s + 1 + marked r s
  unfolding marked
  own_bytes = omega (arith, own_count r (fragment r s).atoms, (fragment_clean r s a o k).tree.count, fragment_bonds r s)

  pub label_length : (length (label r s) ≡ 6 * size s + 3 + marked r s) ⊎ (length (label r s) ≡ 6 * size s + 5 + marked r s)
  unfolding label
  label_length = rw (← (label_document (fragment r s))) (go (tree_length (fragment r s) (fragment_clean r s a o k)))
    where
      n : ℕ
      n = length (tree_label (fragment r s))

      go : HasLength (fragment r s) n → (n ≡ 6 * size s + 3 + marked r s) ⊎ (n ≡ 6 * size s + 5 + marked r s)
      go (inl e) = inl (omega (arith, own_bytes, fragment_bonds r s))
      go (inr e) = inr (omega (arith, own_bytes, fragment_bonds r s))

  -- every atom may be marked
  pub marked_few : marked r s ≤ size s + 1
  unfolding marked
  marked_few = omega (arith, keep_le (λ v. marks (class r v)) (fragment r s).atoms, (fragment_clean r s a o k).tree.count, fragment_bonds r s)

  pub label_fits : length (label r s) ≤ 454
  label_fits = go label_length
    where
      few : size s ≤ 64
      few = omega (arith, size_le (bonds r) s o, (accepted_formed r a).sized.few)

      go : (length (label r s) ≡ 6 * size s + 3 + marked r s) ⊎ (length (label r s) ≡ 6 * size s + 5 + marked r s) → length (label r s) ≤ 454
      go (inl e) = omega (arith, few, marked_few)
      go (inr e) = omega (arith, few, marked_few)

-- ---- two sets with one label

module _ (r q : Bytes) (s t : ℕ) (a : check r ≡ accepted) (b : check q ≡ accepted) (o : Own r s) (p : Own q t) (k : Connected r s) (l : Connected q t) (e : label r s ≡ label q t) where
  pub label_size : size s ≡ size t
  unfolding label
  label_size =
      sym (fragment_bonds r s)
      ∙ tree_size (fragment r s) (fragment q t) (fragment_clean r s a o k) (fragment_clean q t b p l) (label_document (fragment r s) ∙ e ∙ sym (label_document (fragment q t)))
      ∙ fragment_bonds q t

-- ---- parts of two sets with one label

-- y is a fragment of q inside k, with the label and the size of x, a set of r
pub record LikeIn (r q : Bytes) (k x y : ℕ) : Type 0 where
  pub whole : Connected q y
  pub own : Own q y
  pub inside : Sub y k
  pub labels : label r x ≡ label q y
  pub sizes : size x ≡ size y

module _ (r q : Bytes) (h k : ℕ) (a : check r ≡ accepted) (b : check q ≡ accepted) (o : Own r h) (p : Own q k) (c : Connected r h) (d : Connected q k) (e : label r h ≡ label q k) where
  iso : Isomorphism r h q k
  iso = (label_iff r q h k a b o p c d).0 e

  -- a connected part and its image have one label
  image_label : (x y : ℕ) → Sub x h → Carried iso.bond x y → Connected r x → label r x ≡ label q y
  image_label x y m g u =
      (label_iff r q x y a b (own_sub r x h m o) (own_sub q y k (carried_sub r q h k p iso x y m g) p) u (carried_connected r q h k p iso x y m g u)
      ).1 (carried_iso r q h k p iso x y m g)

  -- the image of a connected part is its like
  image_like : (x : ℕ) → Connected r x → Sub x h → LikeIn r q k x (image iso.bond x)
  image_like x u m =
      let y : ℕ = image iso.bond x in
      let g = image_carried iso.bond x in
      let n : Sub y k = carried_sub r q h k p iso x y m g in
      let z : Connected q y = carried_connected r q h k p iso x y m g u in
      let w : Own q y = own_sub q y k n p in
      let l : label r x ≡ label q y = image_label x y m g u in
      record { whole = z; own = w; inside = n; labels = l; sizes = label_size r q x y a b (own_sub r x h m o) w u z l }

  -- every connected part of the one has its like in the other
  pub parts_transport : (x : ℕ) → Connected r x → Sub x h → (y : ℕ) × LikeIn r q k x y
  parts_transport x u m = (image iso.bond x, image_like x u m)

  -- and two that are disjoint have disjoint ones
  pub halves_transport : (x y : ℕ) → Connected r x → Connected r y → Sub x h → Sub y h → Disjoint x y
      → (x' y' : ℕ) × LikeIn r q k x x' × LikeIn r q k y y' × Disjoint x' y'
  halves_transport x y u z m n d =
      let f : ℕ → ℕ = iso.bond in
      let apart : Disjoint (image f x) (image f y) =
      carried_apart r q h k p iso x (image f x) m (image_carried f x) y (image f y) n (image_carried f y) d in
      (image f x, image f y, image_like x u m, image_like y z n, apart)

  -- so have two bonds that touch
  pub pair_transport : (i j : ℕ) → bit h i ≡ 1 → bit h j ≡ 1 → Touch r i j
      → (m : ℕ) × (n : ℕ) × (bit k m ≡ 1) × (bit k n ≡ 1) × Touch q m n × (label r (bit_or (2 ^ i) (2 ^ j)) ≡ label q (bit_or (2 ^ m) (2 ^ n)))
  pair_transport i j hi hj t =
      let m : ℕ = iso.bond i in
      let n : ℕ = iso.bond j in
      let w : Sub (bit_or (2 ^ i) (2 ^ j)) h = sets (sub (v 0) (v 2) ∷ sub (v 1) (v 2) ∷ []) (sub (or (v 0) (v 1)) (v 2)) (2 ^ i ∷ 2 ^ j ∷ h ∷ []) tt (one_sub h i hi) (one_sub h j hj) in
      let l : label r (bit_or (2 ^ i) (2 ^ j)) ≡ label q (bit_or (2 ^ m) (2 ^ n)) = image_label (bit_or (2 ^ i) (2 ^ j)) (bit_or (2 ^ m) (2 ^ n)) w (pair_carried r q h k p iso i j) (pair_connected r i j (member_lt (bonds r) h i o hi) t) in
      (m, n, iso.bond_into i hi, iso.bond_into j hj, touch_goes r q h k p iso i j hi hj t, l)

-- ---- the order of byte strings is total

pub le_refl : (x : Bytes) → lex_le x x ≡ true
le_refl x = lex→lexLe x x (lex_refl x)

pub le_trans : (x y z : Bytes) → lex_le x y ≡ true → lex_le y z ≡ true → lex_le x z ≡ true
le_trans x y z p q = lex→lexLe x z (lex_trans x y z (lexle→lex x y p) (lexle→lex y z q))

pub le_antisym : (x y : Bytes) → lex_le x y ≡ true → lex_le y x ≡ true → x ≡ y
le_antisym x y p q = lex_antisym x y (lexle→lex x y p) (lexle→lex y x q)

pub le_total : (x y : Bytes) → (lex_le x y ≡ true) ⊎ (lex_le y x ≡ true)
le_total x y = ⊎_elim (λ l. inl (lex→lexLe x y l)) (λ l. inr (lex→lexLe y x l)) (lex_total x y)

-- ---- the hash of a string is small

hash_from_small : (h : ℕ) (x : Bytes) → h < 36028797018963913 → hash_from h x < 36028797018963913
unfolding hash_from
hash_from_small h [] l = l
hash_from_small h (a ∷ x) l = hash_from_small ((h * 257 + a) % 36028797018963913) x (mod-lt (h * 257 + a) (omega arith))

pub hash_small : (x : Bytes) → hash x < 2 ^ 55
hash_small x = omega (arith, hash_from_small 1 x (omega arith))
