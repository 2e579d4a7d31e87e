-- A word that is neither empty nor - goes by bytes.
use Rattle.std.proofs.Common.{◌≡◌, ◌<◌, ℕ, List, [], ◌∷◌, length, get_or, ap, arith, rules, Option, Some, None}
use Rattle.lines.specs.Hex.{Decoded, DecodedRecord}
use Rattle.lines.proofs.hex.record.Goals as goal
use Rattle.lines.proofs.hex.record.Goals.{in_default-via-then-word-lt2+in_default-1, in_default-via-else-word-lt2}

-- digits of a word that is neither empty nor -
whole : (word : List ℕ) (room : ℕ) (r : Option (List ℕ)) → 0 < length word → (word ≡ 45 ∷ [] → ⊥) → Decoded word room r → DecodedRecord word room r
whole word room (Some bytes) some none d = record { fits = d.fits; empty = λ e. absurd (omega (arith, d.digits.pairs)); spelt = λ _. d }
whole word room None some none d = (none, λ n h. d n)

pub returns-in_default : goal.returns-in_default
returns-in_default c =
    elim c.in_default.branch [
      | in_default-via-then-word-lt2+in_default-1 w ↦ whole _ _ _ (search rules) (λ e. let h = ap (λ (l : List ℕ). get_or l 0 0) e in search rules) c.bytes.ensures
      | in_default-via-else-word-lt2 w ↦ whole _ _ _ (search rules) (λ e. let h = ap length e in search rules) c.bytes.ensures
    ]
