-- A part of zeros, place by place. Assumes nothing.
use mathlib.Core.Path.{◌≡◌, ap, ◌∙◌}
use mathlib.Core.List.{List, ◌++◌}
use Prim.Native.Nat.{ℕ, ◌+◌, ◌-◌, ◌≤◌, ◌<◌}
use native.Mathlib.Omega.{arith}
use lib.ListN.{length, get_or, take, drop, replicate, length-append, length-replicate, length-drop, get_or-replicate, get_or-append}
use lib.Seq.{length-take-le, get_or-take, get_or-drop, get_or-append-add, drop-drop}
use Rattle.clear.specs.Inner.Part.{zero_part}

module _ (l : List ℕ) (a b : ℕ) (order : a ≤ b) (wide : b ≤ length l) where
  abbrev zeros : List ℕ
  zeros = replicate (b - a) 0

  front : length (take a l) ≡ a
  front = length-take-le a l (omega arith)

  many : length zeros ≡ b - a
  many = length-replicate (b - a) 0

  pub part_length : length (zero_part l a b) ≡ length l
  unfolding zero_part
  part_length = simp (length-append, length-replicate, length-drop) (omega (arith, front))

  pub part_below : (i : ℕ) → i < a → get_or (zero_part l a b) i 0 ≡ get_or l i 0
  unfolding zero_part
  part_below i h = get_or-append (take a l) (zeros ++ drop b l) 0 i (omega (arith, front)) ∙ get_or-take a l i 0 h

  -- a place from a on, counted from there
  from : (n : ℕ) → get_or (zero_part l a b) (a + n) 0 ≡ get_or (zeros ++ drop b l) n 0
  unfolding zero_part
  from n =
      let e : a + n ≡ length (take a l) + n = omega (arith, front) in
      ap (λ (i : ℕ). get_or (take a l ++ (zeros ++ drop b l)) i 0) e ∙ get_or-append-add (take a l) (zeros ++ drop b l) n 0

  pub part_zero : (i : ℕ) → a ≤ i → i < b → get_or (zero_part l a b) i 0 ≡ 0
  part_zero i h k =
      let e : i ≡ a + (i - a) = omega arith in
      ap (λ (n : ℕ). get_or (zero_part l a b) n 0) e
      ∙ from (i - a)
      ∙ get_or-append zeros (drop b l) 0 (i - a) (omega (arith, many))
      ∙ get_or-replicate (b - a) (i - a) 0 0 (omega arith)

  pub part_above : (i : ℕ) → b ≤ i → get_or (zero_part l a b) i 0 ≡ get_or l i 0
  part_above i h =
      let e : i ≡ a + (length zeros + (i - b)) = omega (arith, many) in
      let f : b + (i - b) ≡ i = omega arith in
      ap (λ (n : ℕ). get_or (zero_part l a b) n 0) e
      ∙ from (length zeros + (i - b))
      ∙ get_or-append-add zeros (drop b l) (i - b) 0
      ∙ get_or-drop b l (i - b) 0
      ∙ ap (λ (n : ℕ). get_or l n 0) f

-- the part put back between what was before and after it
pub part_is : (l part : List ℕ) (a b : ℕ) → a ≤ b → b ≤ length l → part ≡ replicate (length (take (b - a) (drop a l))) 0
    → take a l ++ (part ++ drop (b - a) (drop a l)) ≡ zero_part l a b
unfolding zero_part
part_is l part a b order wide e =
    let n : length (take (b - a) (drop a l)) ≡ b - a = length-take-le (b - a) (drop a l) (omega (arith, length-drop a l)) in
    let d : a + (b - a) ≡ b = omega arith in
    rw (e, n, drop-drop, d)
