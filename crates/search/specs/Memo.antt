-- Document 01, 'Search': the memo. Its key is the multiset of piece labels; with each key an index and a removal list.
use Rattle.std.specs.Prelude.{Bool, true, false, not, ◌||◌, List, [], ◌∷◌, ◌++◌, map, ℕ, length, get_or, set, ltb}
use Rattle.molecule.specs.Lists.{Bytes, first, pick}
use Rattle.canonize.specs.Strings.{lex_le, sort, same}
use Rattle.canonize.specs.Label.{label}
use Rattle.search.specs.State.{State}

-- a memo entry
pub record Entry : Type 0 where
  pub key : List Bytes
  pub index : ℕ
  pub removals : List ℕ

-- equal keys
unfoldable pub same_key : List Bytes → List Bytes → Bool
same_key [] [] = true
same_key [] (y ∷ ys) = false
same_key (x ∷ xs) [] = false
same_key (x ∷ xs) (y ∷ ys) = pick (same x y) (same_key xs ys) false

-- the state goes on with this memo, is stopped, or finds every entry used
pub data Memo : Type 0 where
  goes : List Entry → Memo
  stopped : Memo
  full : Memo

-- at a known key the state is stopped unless the stored index is larger or the stored removal list is lexicographically later; then the entry is replaced
unfoldable pub recall : Entry → Entry → List Entry → Memo
recall new old replaced = elim (ltb new.index old.index || not (lex_le old.removals new.removals)) [ true ↦ goes replaced | false ↦ stopped ]

-- a new key is stored with the state's index and removal list and stops nothing; row 12 where every entry is used
unfoldable pub remember : ℕ → Entry → List Entry → Memo
remember room new memo =
    let k : ℕ = first (λ i. same_key new.key (get_or memo i new).key) (length memo) in
    elim (ltb k (length memo)) [
      | true ↦ recall new (get_or memo k new) (set memo k new)
      | false ↦ elim (ltb (length memo) room) [ true ↦ goes (memo ++ (new ∷ [])) | false ↦ full ]
    ]

-- the key of a state: the labels of its pieces, sorted
unfoldable pub key_of : Bytes → State → List Bytes
key_of r s = sort (map (label r) s.pieces)

-- the entry that a state stores
unfoldable pub entry_of : Bytes → State → Entry
entry_of r s = record { key = key_of r s; index = s.index; removals = s.trail.numbers }
