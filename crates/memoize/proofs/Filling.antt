-- Words of a list written over others, and words of entries told from those of buckets.
use Rattle.std.proofs.Common.{◌≡◌, ◌≢◌, List, ℕ, ◌+◌, ◌*◌, ◌≤◌, ◌<◌, arith, length, take, rules}
use borrow.Rule.Slice.PartMut.{put_mid}
use Rattle.std.proofs.lemmas.List.{places}
use Rattle.memoize.specs.Inner.Stored.{Filled}

-- a part that has got the first words of a list
pub filled_part : (old l ys : List ℕ) (k n m : ℕ) → m ≡ n → k + n ≤ length old → n ≤ length l → ys ≡ take n l → Filled old (put_mid k m old ys) k n l
filled_part old l ys k n m e h g q = rw (e, q) (record {
  long = search (rules, places);
  inside = λ j b. search (rules, places);
  outside = λ i b. search (rules, places);
})

-- a word of an entry is of no bucket
pub apart : (e h i : ℕ) → 80 * e ≤ i → i < 80 * e + 69 → i ≢ 80 * h + 69
apart e h i a b q = omega arith
