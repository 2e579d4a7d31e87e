-- Document 01, 'Molecules to try': the starred rows as score answers them, by its contract. Assumes nothing.
use Rattle.std.proofs.Common.{◌≡◌, ◌∙◌, List, [], ◌∷◌, map, ⊎_elim, ℕ}
use mathlib.Core.List.Memᴰ.{cases_cons as mem_cons}
use mathlib.Core.List.Memᴰ.{not-nil}
use mathlib.Core.List.{Memᴰ as Mem}
use Rattle.search.specs.Answer.{ScoreAnswer, score_answer}
use Rattle.search.specs.Examples.{Row, starred, starred_rows}
use Rattle.std.proofs.Common.{Result}
use Rattle.assembly.specs.declared.answer.Score.{Score}
use Rattle.assembly.specs.declared.answer.ScoreRefusal.{ScoreRefusal}
use Rattle.assembly.specs.Answer.{answer_of}

same_at : (f g : Row → ScoreAnswer) (l : List Row) → map f l ≡ map g l → (x : Row) → Mem x l → f x ≡ g x
same_at f g [] e x m = absurd (not-nil m)
same_at f g (y ∷ l) e x m =
    let a : f y ≡ g y = cc in
    let b : map f l ≡ map g l = cc in
    ⊎_elim (λ (q : x ≡ y). rw q a) (λ (q : Mem x l). same_at f g l b x q) (mem_cons m)

-- lent the record, the setting and the lengths of a starred row, score answers what the document says
pub starred_answer : (row : Row) → Mem row starred → (x : Result Score ScoreRefusal) (trail : List ℕ) → answer_of x trail ≡ score_answer row.bytes row.setting row.room → answer_of x trail ≡ row.says
starred_answer row m x trail e = e ∙ same_at (λ row. score_answer row.bytes row.setting row.room) (λ row. row.says) starred starred_rows row m
