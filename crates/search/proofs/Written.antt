-- The lent trail, once a trail is written there: what is read there is that trail. Of trails of at most 32 removals.
use Rattle.std.proofs.Common.{◌≡◌, sym, ap, ◌∙◌, List, ◌++◌, ℕ, ◌-◌, ◌≤◌, arith, length, take, drop, replicate, length-append}
use Rattle.std.proofs.Math.ListN.{length-replicate}
use Rattle.std.proofs.Math.Seq.{take-append_seam, drop-append_seam}
use mathlib.Core.List.{append_assoc}
use Rattle.search.specs.Trail.{Trail, array_of, written, read}

-- an array has 32 numbers
array_long : (ns : List ℕ) → length ns ≤ 32 → length (array_of ns) ≡ 32
array_long ns h = omega (arith, length-append ns (replicate (32 - length ns) 0), length-replicate {A = ℕ} (32 - length ns) 0)

-- and its numbers are the first
array_front : (ns rest : List ℕ) → take (length ns) (array_of ns ++ rest) ≡ ns
array_front ns rest = ap (take (length ns)) (append_assoc ns (replicate (32 - length ns) 0) rest) ∙ take-append_seam ns (replicate (32 - length ns) 0 ++ rest)

module _ (t : Trail) (lent : List ℕ) (few : length t.numbers ≤ 32) (parallel : length t.sizes ≡ length t.numbers) where
  -- past the first array comes the second
  sizes_next : drop 32 (written t lent) ≡ array_of t.sizes ++ drop 64 lent
  sizes_next = rw (array_long t.numbers few) at (drop-append_seam (array_of t.numbers) (array_of t.sizes ++ drop 64 lent))

  -- so the trail is read there
  pub read_written : read (length t.numbers) (written t lent) ≡ t
  read_written =
      let rest : List ℕ = drop 64 lent in
      let sizes : take (length t.numbers) (drop 32 (written t lent)) ≡ t.sizes =
      ap (take (length t.numbers)) sizes_next ∙ ap (λ (k : ℕ). take k (array_of t.sizes ++ rest)) (sym parallel) ∙ array_front t.sizes rest in
      ap (λ (ns : List ℕ). record { numbers = ns; sizes = take (length t.numbers) (drop 32 (written t lent)) }) (array_front t.numbers (array_of t.sizes ++ rest))
      ∙ ap (λ (ks : List ℕ). record { numbers = t.numbers; sizes = ks }) sizes
