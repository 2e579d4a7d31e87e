-- A buffer with a string written at a place: its length, what is read back, what stays as it was, and one string after another. Assumes nothing.
use mathlib.Core.Path.{◌≡◌, refl, sym, ap, ◌∙◌}
use mathlib.Core.Logic.{◌⊎◌, inl, inr, ⊎_elim}
use mathlib.Core.List.{[], ◌∷◌, ◌++◌, append_assoc}
use Prim.Native.Nat.{ℕ, suc, ◌+◌, ◌-◌, ◌≤◌, ◌<◌}
use native.Mathlib.Nat.{le_refl, add-zero}
use native.Mathlib.Omega.{arith}
use lib.ListN.{length, get_or, take, drop, set, length-append, length-drop, length-set}
use lib.Seq.{length-take-le, take-length, append_snoc, take-append_seam, take-append-le, set_split, get_or-take, get_or-drop, take-take, drop-drop, take-add, take_at, drop_at, paste, paste-zero, length-paste}
use Rattle.molecule.specs.Lists.{Bytes}
use Rattle.canonize.specs.Strings.{wrap}
use Rattle.canonize.specs.Inner.Places.{written, Wrote, NoneShared}

-- ---- one string

-- what a loop that copies comes to
pub written_paste : (out : Bytes) (k : ℕ) (x : Bytes) → paste out k x (length x) ≡ written out k x
unfolding written
written_paste out k x = rw (take-length x)

pub written_nil : (out : Bytes) (k : ℕ) → written out k [] ≡ out
unfolding written
written_nil out k = sym (paste-zero out k [])

pub written_set : (out : Bytes) (k b : ℕ) → k < length out → set out k b ≡ written out k (b ∷ [])
unfolding written
written_set out k b h =
    let e : suc k ≡ k + 1 = omega arith in
    set_split out k b h ∙ sym (append_snoc (take k out) b (drop (suc k) out)) ∙ ap (λ (n : ℕ). take k out ++ (b ∷ []) ++ drop n out) e

module _ (out : Bytes) (k : ℕ) (x : Bytes) (fits : k + length x ≤ length out) where
  pub written_length : length (written out k x) ≡ length out
  written_length = ap length (sym (written_paste out k x)) ∙ length-paste out k x (length x) fits (le_refl (length x))

  written_head : length (take k out ++ x) ≡ k + length x
  written_head = length-append (take k out) x ∙ omega (arith, length-take-le k out (omega arith))

  -- up to the place, and past it, all is as before
  pub written_take : (n : ℕ) → n ≤ k → take n (written out k x) ≡ take n out
  unfolding written
  written_take n h =
      take-append-le n (take k out ++ x) (drop (k + length x) out) (omega (arith, written_head))
      ∙ take-append-le n (take k out) x (omega (arith, length-take-le k out (omega arith)))
      ∙ take-take n k out h

  pub written_drop : (n : ℕ) → k + length x ≤ n → drop n (written out k x) ≡ drop n out
  unfolding written
  written_drop n h =
      let e : n ≡ (k + length x) + (n - (k + length x)) = omega arith in
      rw (e, ← drop-drop (n - (k + length x)) (k + length x) (written out k x), ← drop-drop (n - (k + length x)) (k + length x) out)
      (ap (drop (n - (k + length x))) (drop_at (take k out ++ x) (drop (k + length x) out) (k + length x) written_head))

  -- at the place the string is read back
  pub written_read : take (length x) (drop k (written out k x)) ≡ x
  unfolding written
  written_read =
      ap (λ (l : Bytes). take (length x) (drop k l)) (append_assoc (take k out) x (drop (k + length x) out))
      ∙ ap (take (length x)) (drop_at (take k out) (x ++ drop (k + length x) out) k (length-take-le k out (omega arith)))
      ∙ take-append_seam x (drop (k + length x) out)

  -- a part that the place does not touch is as before
  pub written_part : (a n : ℕ) → (a + n ≤ k) ⊎ (k + length x ≤ a) → take n (drop a (written out k x)) ≡ take n (drop a out)
  written_part a n (inl h) = part_of (written out k x) (omega (arith, written_length)) ∙ ap (drop a) (written_take (a + n) h) ∙ sym (part_of out (omega arith))
    where
      part_of : (l : Bytes) → a + n ≤ length l → take n (drop a l) ≡ drop a (take (a + n) l)
      part_of l g = rw (take-add a n l) (sym (drop_at (take a l) (take n (drop a l)) a (length-take-le a l (omega arith))))
  written_part a n (inr h) = ap (take n) (written_drop a h)

  pub written_at : (a : ℕ) → (a < k) ⊎ (k + length x ≤ a) → get_or (written out k x) a 0 ≡ get_or out a 0
  written_at a h = one (written out k x) ∙ ap (λ (l : Bytes). get_or l 0 0) (written_part a 1 side) ∙ sym (one out)
    where
      side : (a + 1 ≤ k) ⊎ (k + length x ≤ a)
      side = ⊎_elim (λ (g : a < k). inl (omega arith)) (λ g. inr g) h

      one : (l : Bytes) → get_or l a 0 ≡ get_or (take 1 (drop a l)) 0 0
      one l = sym (get_or-take 1 (drop a l) 0 0 (omega arith) ∙ get_or-drop a l 0 0 ∙ ap (λ (n : ℕ). get_or l n 0) (add-zero a))

  -- the next string
  pub written_then : (y : Bytes) → (k + length x) + length y ≤ length out → written (written out k x) (k + length x) y ≡ written out k (x ++ y)
  unfolding written
  written_then y h =
      let a : take (k + length x) (written out k x) ≡ take k out ++ x = take_at (take k out ++ x) (drop (k + length x) out) (k + length x) written_head in
      let b : drop ((k + length x) + length y) (written out k x) ≡ drop ((k + length x) + length y) out = written_drop ((k + length x) + length y) (omega arith) in
      let n : (k + length x) + length y ≡ k + length (x ++ y) = omega (arith, length-append x y) in
      ap (λ (l : Bytes). l ++ y ++ drop ((k + length x) + length y) (written out k x)) a
      ∙ ap (λ (l : Bytes). take k out ++ x ++ y ++ l) b
      ∙ ap (λ (l : Bytes). l ++ drop ((k + length x) + length y) out) (append_assoc (take k out) x y)
      ∙ ap (λ (m : ℕ). take k out ++ (x ++ y) ++ drop m out) n

-- ---- copying from one place to another

pub part_length : (out : Bytes) (from n : ℕ) → from + n ≤ length out → length (take n (drop from out)) ≡ n
part_length out from n h = length-take-le n (drop from out) (omega (arith, length-drop from out))

-- ---- the same of `Wrote`

pub wrote_nil : (out : Bytes) (k : ℕ) → Wrote out k [] k out
wrote_nil out k = record { place = omega arith; is = sym (written_nil out k) }

pub wrote_byte : (out : Bytes) (k b : ℕ) → k < length out → Wrote out k (b ∷ []) (k + 1) (set out k b)
wrote_byte out k b h = record { place = refl; is = written_set out k b h }

pub wrote_length : {out : Bytes} {k : ℕ} {x : Bytes} {next : ℕ} {now : Bytes} → Wrote out k x next now → k + length x ≤ length out → length now ≡ length out
wrote_length {out} {k} {x} w h = ap length w.is ∙ written_length out k x h

-- one string, and the next after it
pub wrote_then : {out : Bytes} {k : ℕ} {x : Bytes} {next : ℕ} {now y : Bytes} {last : ℕ} {then : Bytes} → Wrote out k x next now → Wrote now next y last then
    → (k + length x) + length y ≤ length out → Wrote out k (x ++ y) last then
wrote_then {out} {k} {x} {y = y} v w h = record {
  place = omega (arith, v.place, w.place, length-append x y);
  is = w.is ∙ rw (v.is, v.place) (written_then out k x (omega arith) y h);
}

-- a string is read back, and still is when the next is written
pub wrote_read : {out : Bytes} {k : ℕ} {x : Bytes} {next : ℕ} {now : Bytes} → Wrote out k x next now → k + length x ≤ length out → take (next - k) (drop k now) ≡ x
wrote_read {out} {k} {x} {next} w h =
    let e : next - k ≡ length x = omega (arith, w.place) in
    rw (e, w.is) (written_read out k x h)

pub wrote_read_then : {out : Bytes} {k : ℕ} {x : Bytes} {next : ℕ} {now y : Bytes} {last : ℕ} {then : Bytes} → Wrote out k x next now → Wrote now next y last then
    → (k + length x) + length y ≤ length out → take (next - k) (drop k then) ≡ x
wrote_read_then {out} {k} {x} {next} {now} {y} v w h =
    ap (λ (l : Bytes). take (next - k) (drop k l)) w.is
    ∙ written_part now next y (omega (arith, v.place, wrote_length v (omega arith))) k (next - k) (inl (omega (arith, v.place)))
    ∙ wrote_read v (omega arith)

-- what `copy_within` comes to
pub copied : (out : Bytes) (from n to : ℕ) {now : Bytes} → from + n ≤ length out → now ≡ paste out to (drop from out) ((from + n) - from)
    → Wrote out to (take n (drop from out)) (to + n) now
unfolding written
copied out from n to h e =
    let m : (from + n) - from ≡ n = omega arith in
    let k : length (take n (drop from out)) ≡ n = part_length out from n h in
    record { place = omega arith; is = e ∙ rw (m, k) refl }

-- ---- a string, wrapped: a 0 is put, the string, and 255

module _ (out : Bytes) (place : ℕ) (x : Bytes) (room : place + (length x + 2) ≤ length out) {end : ℕ} {now : Bytes} (w : Wrote (set out place 0) (place + 1) x end now) where
  opened : Wrote out place (0 ∷ x) end now
  opened = wrote_then (wrote_byte out place 0 (omega arith)) w (omega arith)

  pub wrapped_wrote : {last : ℕ} → last ≡ end + 1 → Wrote out place (wrap x) last (set now end 255)
  unfolding wrap
  wrapped_wrote e = rw e (wrote_then opened (wrote_byte now end 255 (omega (arith, opened.place, wrote_length opened (omega arith)))) (omega arith))

-- a string of one byte, or of two
module _ (out : Bytes) (place : ℕ) where
  abbrev zero_put : Bytes
  zero_put = set out place 0

  first : (a : ℕ) → place + 2 ≤ length out → Wrote zero_put (place + 1) (a ∷ []) (place + 2) (set zero_put (place + 1) a)
  first a h = record { place = omega arith; is = written_set zero_put (place + 1) a (omega (arith, length-set out place 0)) }

  second : (a b : ℕ) → place + 3 ≤ length out
      → Wrote (set zero_put (place + 1) a) (place + 2) (b ∷ []) (place + 3) (set (set zero_put (place + 1) a) (place + 2) b)
  second a b h = record {
    place = omega arith;
    is = written_set (set zero_put (place + 1) a) (place + 2) b (omega (arith, length-set zero_put (place + 1) a, length-set out place 0));
  }

  pub wrapped_one : (a : ℕ) → place + 3 ≤ length out → Wrote out place (wrap (a ∷ [])) (place + 3) (set (set (set out place 0) (place + 1) a) (place + 2) 255)
  wrapped_one a h = wrapped_wrote out place (a ∷ []) h (first a (omega arith)) (omega arith)

  pub wrapped_two : (a b : ℕ) → place + 4 ≤ length out
      → Wrote out place (wrap (a ∷ b ∷ [])) (place + 4) (set (set (set (set out place 0) (place + 1) a) (place + 2) b) (place + 3) 255)
  wrapped_two a b h =
      wrapped_wrote out place (a ∷ b ∷ []) h (wrote_then (first a (omega arith)) (second a b (omega arith)) (omega (arith, length-set out place 0))) (omega arith)

-- bytes from another place: the 0 is not among them
pub opened_part : (out : Bytes) (from n place : ℕ) → NoneShared from n place (n + 2) → place < length out → take n (drop from (set out place 0)) ≡ take n (drop from out)
opened_part out from n place apart h =
    let side : (from + n ≤ place) ⊎ (place + 1 ≤ from) = ⊎_elim (λ (g : from + n ≤ place). inl g) (λ (g : place + (n + 2) ≤ from). inr (omega arith)) apart in
    ap (λ (l : Bytes). take n (drop from l)) (written_set out place 0 h) ∙ written_part out place (0 ∷ []) (omega arith) from n side

-- ---- bytes from two places before, each wrapped

-- the n bytes at a and the m at b stand before the place, where there is room for them wrapped
pub record TwoStrings (out : Bytes) (a n b m place : ℕ) : Type 0 where
  pub first : a + n ≤ place
  pub second : b + m ≤ place
  pub room : place + ((n + 2) + (m + 2)) ≤ length out

-- the parts up to middle and from there on, in their order, and turned
module _ (out : Bytes) (from middle end place : ℕ) (h : (from ≤ middle) × (middle ≤ end) × (end ≤ place) × (place + (end - from + 4) ≤ length out)) where
  pub two_in_order : TwoStrings out from (middle - from) middle (end - middle) place
  two_in_order = record { first = omega arith; second = omega arith; room = omega arith }

  pub two_turned : TwoStrings out middle (end - middle) from (middle - from) place
  two_turned = record { first = omega arith; second = omega arith; room = omega arith }

module _ {out : Bytes} {a n b m place : ℕ} (p : TwoStrings out a n b m place) {next : ℕ} {one : Bytes}
    (w : Wrote out place (wrap (take n (drop a out))) next one) where
  wrap_part : (from k : ℕ) → from + k ≤ length out → length (wrap (take k (drop from out))) ≡ k + 2
  unfolding wrap
  wrap_part from k h = omega (arith, length-append (take k (drop from out)) (255 ∷ []), part_length out from k h)

  size_one : length (wrap (take n (drop a out))) ≡ n + 2
  size_one = wrap_part a n (omega (arith, p.first, p.room))

  size_two : length (wrap (take m (drop b out))) ≡ m + 2
  size_two = wrap_part b m (omega (arith, p.second, p.room))

  pub pair_length : length one ≡ length out
  pair_length = wrote_length w (omega (arith, size_one, p.room))

  pub pair_next : next ≡ place + (n + 2)
  pair_next = omega (arith, w.place, size_one)

  -- the second is as it was
  still : take m (drop b one) ≡ take m (drop b out)
  still = ap (λ (l : Bytes). take m (drop b l)) w.is ∙ written_part out place (wrap (take n (drop a out))) (omega (arith, size_one, p.room)) b m
      (inl p.second)

  module _ {last : ℕ} {now : Bytes} (v : Wrote one next (wrap (take m (drop b one))) last now) where
    pub pair_wrote : Wrote out place (wrap (take n (drop a out)) ++ wrap (take m (drop b out))) last now
    pair_wrote = wrote_then w (rw still at v) (omega (arith, size_one, size_two, p.room))
