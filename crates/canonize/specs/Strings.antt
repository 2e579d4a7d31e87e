-- Document 01, 'Labels': byte strings, their order, wrapping and collapsing.
use Rattle.std.specs.Prelude.{Bool, true, false, List, [], ◌∷◌, ◌++◌, ℕ, ◌+◌, ◌*◌, ◌%◌, ltb, eqb}
use Rattle.molecule.specs.Lists.{Bytes, pick, insert_by, sort_by}

-- lexicographic order, as a test: a string comes after its own beginnings
unfoldable pub lex_le : Bytes → Bytes → Bool
lex_le [] ys = true
lex_le (x ∷ xs) [] = false
lex_le (x ∷ xs) (y ∷ ys) = pick (ltb x y) true (pick (ltb y x) false (lex_le xs ys))

-- put into a sorted list, before the first that is not smaller
unfoldable pub insert : Bytes → List Bytes → List Bytes
unfolding insert_by
insert x ys = insert_by lex_le x ys

-- sorted lexicographically
unfoldable pub sort : List Bytes → List Bytes
unfolding sort_by insert
sort xs = sort_by lex_le xs

-- wrapping puts byte 0 before and byte 255 after
unfoldable pub wrap : Bytes → Bytes
wrap x = 0 ∷ (x ++ (255 ∷ []))

-- each wrapped, and joined
unfoldable pub join : List Bytes → Bytes
join [] = []
join (x ∷ xs) = wrap x ++ join xs

-- collapsing sorts byte strings lexicographically, wraps each and joins them
unfoldable pub collapse : List Bytes → Bytes
collapse xs = join (sort xs)

-- equal strings, as a test
unfoldable pub same : Bytes → Bytes → Bool
same [] [] = true
same [] (y ∷ ys) = false
same (x ∷ xs) [] = false
same (x ∷ xs) (y ∷ ys) = pick (eqb x y) (same xs ys) false

-- a number below 2 to the power 55 that depends on the string alone: digits to the base 257, by the largest prime below that power
unfoldable pub hash_from : ℕ → Bytes → ℕ
hash_from h [] = h
hash_from h (x ∷ xs) = hash_from ((h * 257 + x) % 36028797018963913) xs

abbrev pub hash : Bytes → ℕ
hash x = hash_from 1 x
