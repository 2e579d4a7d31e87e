-- The list that the table comes to hold is the match table's candidates. Assumes nothing.
use Rattle.std.proofs.Common.{◌≡◌, refl, ap, ◌∙◌, List, [], ◌∷◌, map, ℕ, ◌+◌, ◌^◌}
use mathlib.Core.List.{Memᴰ}
use Rattle.bitset.specs.Bits.{bit, members}
use Rattle.molecule.specs.Lists.{Bytes, fold}
use Rattle.molecule.specs.Touch.{touching}
use Rattle.molecule.proofs.Growing.{around_same}
use Rattle.matches.specs.Table.{note, extended, candidates}
use Rattle.enumerate.specs.Inner.Bucketed.{grown, grown_by}

module _ (r : Bytes) (near : ℕ → ℕ) where
  grown_extended : (l : List ℕ) (s : ℕ) → ((x : ℕ) → bit s x ≡ 1 → near x ≡ touching r x) → grown near l s ≡ fold note l (extended r s)
  unfolding grown extended
  grown_extended l s e = ap (λ (a : ℕ). fold note l (map (λ b. s + 2 ^ b) (members a))) (around_same near (touching r) s e)

  grown_from : (l parents : List ℕ) → ((s x : ℕ) → Memᴰ s parents → bit s x ≡ 1 → near x ≡ touching r x) → grown_by near l parents ≡ fold (λ found s. fold note found (extended r s)) l parents
  unfolding grown_by
  grown_from l [] e = refl
  grown_from l (s ∷ parents) e =
      grown_from (grown near l s) parents (λ t x m. e t x (Memᴰ.tail m))
      ∙ ap (λ (k : List ℕ). fold (λ found s. fold note found (extended r s)) k parents) (grown_extended l s (λ x. e s x (Memᴰ.head refl)))

  -- where near is what touches, on the bonds of every parent
  pub grown_candidates : (parents : List ℕ) → ((s x : ℕ) → Memᴰ s parents → bit s x ≡ 1 → near x ≡ touching r x) → grown_by near [] parents ≡ candidates r parents
  unfolding candidates
  grown_candidates parents e = grown_from [] parents e
