-- The search's memo as the lent table keeps it. Entry i is its 80 words from 80 * i on: 0 to 31 sets that stand for its pieces and after them its removals,
-- 32 to 63 the hashes of the sets' labels, 64 how many pieces, 65 how many removals, 66 the index, 67 the sum of the hashes,
-- 68 one more than the entry before it in its bucket, 0 for none. Word 69 is of bucket i: one more than its last entry, 0 for none.
-- An entry's bucket is its sum modulo the number of entries that have room. The entry of a state that asks is laid out alike, in 80 words of its own.
use Rattle.std.specs.Prelude.{◌≡◌, ◌≢◌, true, false, List, [], ◌∷◌, map, ℕ, zero, suc, ◌+◌, ◌*◌, ◌/◌, ◌%◌, ◌≤◌, ◌<◌, length, get_or, take, drop, eqb}
use Rattle.std.specs.Prelude.{Option, Some, None, Result, Ok, Err}
use Rattle.bitset.specs.Bits.{bit}
use Rattle.molecule.specs.Lists.{Bytes}
use Rattle.canonize.specs.Strings.{sort, hash}
use Rattle.canonize.specs.Label.{label}
use Rattle.canonize.specs.Inner.Slate.{Fragment}
use Rattle.desk.specs.Inner.Cached.{Stands}
use Rattle.search.specs.Memo.{Entry, Memo, goes, stopped, full}
use Rattle.memoize.specs.declared.Full.{Full}

-- ---- pieces

-- each set of the list is a fragment of the record
abbrev pub Fragments : Bytes → List ℕ → Type 0
Fragments r l = (j : ℕ) → j < length l → Fragment r (get_or l j 0)

-- the sum of the hashes of a list of labels
unfoldable pub hash_sum : List Bytes → ℕ
hash_sum [] = 0
hash_sum (x ∷ xs) = hash x + hash_sum xs

-- for each piece a set that stands for it and the hash of its label; and the sum of the hashes
pub record Stood (r : Bytes) (pieces words : List ℕ) (total : ℕ) : Type 0 where
  pub stands : (j : ℕ) → j < length pieces → Stands r (get_or pieces j 0) (get_or words j 0)
  pub hashes : (j : ℕ) → j < length pieces → get_or words (32 + j) 0 ≡ hash (label r (get_or pieces j 0))
  pub sum : total ≡ hash_sum (map (label r) pieces)

-- n pieces from word base on, and their hashes
pub record Block (r : Bytes) (words : List ℕ) (base n : ℕ) : Type 0 where
  pub wide : base + 80 ≤ length words
  pub few : n ≤ 32
  pub fragments : (j : ℕ) → j < n → Fragment r (get_or words (base + j) 0)
  pub hashes : (j : ℕ) → j < n → get_or words (base + 32 + j) 0 ≡ hash (label r (get_or words (base + j) 0))

-- the label of the piece at place j of a block
unfoldable pub label_at : Bytes → List ℕ → ℕ → ℕ → Bytes
label_at r words base j = label r (get_or words (base + j) 0)

-- the labels of the n pieces of a block
unfoldable pub labels : Bytes → List ℕ → ℕ → ℕ → List Bytes
labels r words base n = map (label r) (take n (drop base words))

-- k is one of n that is not used and has this label
pub record Hit (f : ℕ → Bytes) (n used : ℕ) (x : Bytes) (k : ℕ) : Type 0 where
  pub within : k < n
  pub free : bit used k ≡ 0
  pub same : f k ≡ x

-- one of n that is not used and has this label is picked, if there is one
abbrev pub Picked : (ℕ → Bytes) → ℕ → ℕ → Bytes → Option ℕ → Type 0
Picked f n used x (Some k) = Hit f n used x k
Picked f n used x None = (j : ℕ) → j < n → bit used j ≡ 0 → f j ≢ x

-- ---- entries

-- an entry from word base on has its words, and room for its pieces and removals
pub record Sized (words : List ℕ) (base : ℕ) : Type 0 where
  pub wide : base + 80 ≤ length words
  pub few : get_or words (base + 64) 0 + get_or words (base + 65) 0 ≤ 32

-- the removals of the entry from word base on
unfoldable pub removals_at : List ℕ → ℕ → List ℕ
removals_at words base = take (get_or words (base + 65) 0) (drop (base + get_or words (base + 64) 0) words)

-- the words from base on are those of x
pub record EntryWords (r : Bytes) (words : List ℕ) (base : ℕ) (x : Entry) : Type 0 where
  pub few : get_or words (base + 64) 0 + get_or words (base + 65) 0 ≤ 32
  pub block : Block r words base (get_or words (base + 64) 0)
  pub key : sort (labels r words base (get_or words (base + 64) 0)) ≡ x.key
  pub total : get_or words (base + 67) 0 ≡ hash_sum x.key
  pub index : get_or words (base + 66) 0 ≡ x.index
  pub removals : removals_at words base ≡ x.removals

-- 1 more than the last of the entries below n that is in bucket h of p, and 0 for none
unfoldable pub last_in : List ℕ → ℕ → ℕ → ℕ → ℕ
last_in words p h zero = 0
last_in words p h (suc n) = elim (eqb (get_or words (80 * n + 67) 0 % p) h) [ true ↦ suc n | false ↦ last_in words p h n ]

-- n entries are in their buckets
pub record Chained (words : List ℕ) (p n : ℕ) : Type 0 where
  pub before : (i : ℕ) → i < n → get_or words (80 * i + 68) 0 ≡ last_in words p (get_or words (80 * i + 67) 0 % p) i
  pub last : (h : ℕ) → h < p → get_or words (80 * h + 69) 0 ≡ last_in words p h n

-- an entry of nothing
abbrev pub none : Entry
none = record { key = []; index = 0; removals = [] }

-- the words are those of a memo of so many entries, whose keys are distinct
pub record Stored (r : Bytes) (words : List ℕ) (entries : ℕ) (memo : List Entry) : Type 0 where
  pub count : length memo ≡ entries
  pub fits : entries ≤ length words / 80
  pub held : (i : ℕ) → i < entries → EntryWords r words (80 * i) (get_or memo i none)
  pub chained : Chained words (length words / 80) entries
  pub distinct : (i j : ℕ) → i < j → j < entries → (get_or memo i none).key ≢ (get_or memo j none).key

-- the entry of this key is located, if there is one
abbrev pub Located : List Entry → List Bytes → Option ℕ → Type 0
Located memo key (Some e) = (e < length memo) × ((get_or memo e none).key ≡ key)
Located memo key None = (i : ℕ) → i < length memo → (get_or memo i none).key ≢ key

-- ---- writing

-- n words from k on are those of l, and no other has changed
pub record Filled (old now : List ℕ) (k n : ℕ) (l : List ℕ) : Type 0 where
  pub long : length now ≡ length old
  pub inside : (j : ℕ) → j < n → get_or now (k + j) 0 ≡ get_or l j 0
  pub outside : (i : ℕ) → (k ≤ i → i < k + n → ⊥) → get_or now i 0 ≡ get_or old i 0

-- entry e has got the words of the new entry, and is the last of its bucket h
pub record Put (old now : List ℕ) (e h : ℕ) (new : List ℕ) : Type 0 where
  pub long : length now ≡ length old
  pub entry : (j : ℕ) → j < 68 → get_or now (80 * e + j) 0 ≡ get_or new j 0
  pub link : get_or now (80 * e + 68) 0 ≡ get_or old (80 * h + 69) 0
  pub last : get_or now (80 * h + 69) 0 ≡ e + 1
  pub others : (i : ℕ) → (80 * e ≤ i → i < 80 * e + 69 → ⊥) → i ≢ 80 * h + 69 → get_or now i 0 ≡ get_or old i 0

-- ---- the answer

-- the entry of a state with these pieces, index and removals
abbrev pub entry_with : Bytes → List ℕ → ℕ → List ℕ → Entry
entry_with r pieces index removals = record { key = sort (map (label r) pieces); index = index; removals = removals }

-- the words were old and are now: the answer is that of the memo's definition
abbrev pub MemoAnswers : Bytes → List ℕ → List ℕ → Result (Option ℕ) Full → Memo → Type 0
MemoAnswers r old now a (goes m) = (e : ℕ) × (a ≡ Ok (Some e)) × Stored r now e m
MemoAnswers r old now a stopped = (a ≡ Ok None) × (now ≡ old)
MemoAnswers r old now a full = (a ≡ Err (record {})) × (now ≡ old)
