-- Lists and scans that document 01 takes for granted.
use Rattle.std.specs.Prelude.{Bool, true, false, List, [], ◌∷◌, map, ℕ, zero, suc}

-- a byte string
abbrev pub Bytes : Type 0
Bytes = List ℕ

-- the lowest of the f numbers from k on that passes the test, and k + f where none does
unfoldable pub first_from : (ℕ → Bool) → ℕ → ℕ → ℕ
first_from p k zero = k
first_from p k (suc f) = elim (p k) [ true ↦ k | false ↦ first_from p (suc k) f ]

-- the lowest number below n that passes the test, and n where none does
abbrev pub first : (ℕ → Bool) → ℕ → ℕ
first p n = first_from p 0 n

-- k, k + 1 and so on: n numbers
unfoldable pub numbers_from : ℕ → ℕ → List ℕ
numbers_from k zero = []
numbers_from k (suc n) = k ∷ numbers_from (suc k) n

-- f k, f (k + 1) and so on: n of them
abbrev pub list_from : {A : Type 0} → (ℕ → A) → ℕ → ℕ → List A
list_from f k n = map f (numbers_from k n)

-- one of two, by a test
abbrev pub pick : {A : Type 0} → Bool → A → A → A
pick true a b = a
pick false a b = b

-- the elements that pass the test, in order
abbrev pub filter : {A : Type 0} → (A → Bool) → List A → List A
filter p [] = []
filter p (x ∷ xs) = pick (p x) (x ∷ filter p xs) (filter p xs)

-- some element passes the test
abbrev pub any : {A : Type 0} → (A → Bool) → List A → Bool
any p [] = false
any p (x ∷ xs) = pick (p x) true (any p xs)

-- every element passes the test
abbrev pub every : {A : Type 0} → (A → Bool) → List A → Bool
every p [] = true
every p (x ∷ xs) = pick (p x) (every p xs) false

-- f over a list, from the first element on
abbrev pub fold : {A B : Type 0} → (B → A → B) → B → List A → B
fold f b [] = b
fold f b (x ∷ xs) = fold f (f b x) xs

-- put into a list that le sorts, before the first element that x is not after
unfoldable pub insert_by : {A : Type 0} → (A → A → Bool) → A → List A → List A
insert_by le x [] = x ∷ []
insert_by le x (y ∷ ys) = pick (le x y) (x ∷ y ∷ ys) (y ∷ insert_by le x ys)

-- sorted by le: elements that are equal by it keep their order
unfoldable pub sort_by : {A : Type 0} → (A → A → Bool) → List A → List A
sort_by le [] = []
sort_by le (x ∷ xs) = insert_by le x (sort_by le xs)
