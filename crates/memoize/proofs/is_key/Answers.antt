-- Entries with another sum of hashes or another number of pieces have another key.
use Rattle.memoize.proofs.Entries.{key_total, key_count}
use Rattle.memoize.proofs.is_key.Goals as goal

pub returns-then-memo-e : goal.returns-then-memo-e
returns-then-memo-e c = λ x y h g. key_total h g c.if-memo-e.true

pub returns-then-memo-e-2 : goal.returns-then-memo-e-2
returns-then-memo-e-2 c = λ x y h g. key_count h g c.if-memo-e-2.true
