-- Rose trees of atoms, their codes, and: two codes are equal exactly when the trees have one shape.
use mathlib.Core.Path.{◌≡◌, refl, sym, ap, ◌∙◌}
use mathlib.Core.Logic.{◌⊎◌, inl, inr, ◌≢◌}
use mathlib.Core.List.{List, [], ◌∷◌, head-eq_of_cons-eq, tail-eq_of_cons-eq, cons≢nil, Permᴰ as Perm}
use Prim.Native.Nat.{ℕ, ◌+◌, ◌*◌, ◌≤◌}
use native.Mathlib.Omega.{arith}
use lib.ListN.{length}
use Rattle.molecule.proofs.Perms.{Out, first, later, perm_cons, perm_nil}
use Rattle.canonize.specs.Strings.{sort, wrap, join, collapse}
use Rattle.canonize.proofs.Wrapping.{free, Balanced, All, none, both, collapse_balanced, collapse_perm, total, total_nil, total_cons, length_collapse}

-- The children of an atom, first child next sibling: bond code, atom number, own string, what hangs under the child, the other children.
-- A rose tree is an atom, its own string and its children. An own string says what kind of atom it is; how it says it does not matter here.
pub data Kids : Type 0 where
  nil : Kids
  kid : (bond atom : ℕ) (kind : List ℕ) (under rest : Kids) → Kids

pub record RoseTree : Type 0 where
  pub atom : ℕ
  pub kind : List ℕ
  pub kids : Kids

unfoldable pub bonds_in : Kids → ℕ
bonds_in nil = 0
bonds_in (kid b a e u r) = 1 + bonds_in u + bonds_in r

abbrev pub bonds : RoseTree → ℕ
bonds t = bonds_in t.kids

-- the strings that the children hand to their parent
unfoldable pub strings : Kids → List (List ℕ)
strings nil = []
strings (kid b a e u r) = (b ∷ collapse (e ∷ strings u)) ∷ strings r

-- the code of an atom with the own string e and children u
abbrev pub node_code : List ℕ → Kids → List ℕ
node_code e u = collapse (e ∷ strings u)

abbrev pub code : RoseTree → List ℕ
code t = node_code t.kind t.kids

-- codes are neither 0 nor 255
abbrev pub Code : ℕ → Type 0
Code c = (c ≢ 0) × (c ≢ 255)

-- an own string has one byte or two, and they are balanced
pub record SmallString (e : List ℕ) : Type 0 where
  pub some : 1 ≤ length e
  pub short : length e ≤ 2
  pub balanced : Balanced e

abbrev pub GoodKids : Kids → Type 0
GoodKids nil = Unit {0}
GoodKids (kid b a e u r) = Code b × SmallString e × GoodKids u × GoodKids r

abbrev pub Good : RoseTree → Type 0
Good t = SmallString t.kind × GoodKids t.kids

-- lengths: five bytes for a bond, and those of the own strings
unfoldable pub own_in : Kids → ℕ
own_in nil = 0
own_in (kid b a e u r) = length e + own_in u + own_in r

abbrev pub own_bytes : RoseTree → ℕ
own_bytes t = length t.kind + own_in t.kids

strings_total : (k : Kids) → total (strings k) ≡ 5 * bonds_in k + own_in k
unfolding strings bonds_in own_in
strings_total nil = total_nil
strings_total (kid b a e u r) =
    simp (total_cons) (omega (arith, length_collapse (e ∷ strings u), total_cons e (strings u), strings_total u, strings_total r))

pub node_code_length : (e : List ℕ) (u : Kids) → length (node_code e u) ≡ 5 * bonds_in u + length e + own_in u + 2
node_code_length e u = omega (arith, length_collapse (e ∷ strings u), total_cons e (strings u), strings_total u)

pub code_length : (t : RoseTree) → length (code t) ≡ 5 * bonds t + own_bytes t + 2
code_length t = omega (arith, node_code_length t.kind t.kids)

-- the own strings of children have at most two bytes each
pub own_few : (k : Kids) → GoodKids k → own_in k ≤ 2 * bonds_in k
unfolding own_in bonds_in
own_few nil g = omega arith
own_few (kid b a e u r) g = omega (arith, g.1.short, own_few u g.2, own_few r g.3)

-- an atom's own string has at most two bytes, a child's at least four
pub strings_long : (k : Kids) → GoodKids k → All (λ s. 4 ≤ length s) (strings k)
unfolding strings
strings_long nil g = none
strings_long (kid b a e u r) g =
    let h : 4 ≤ length (b ∷ node_code e u) = omega (arith, node_code_length e u, g.1.some) in both h (strings_long r g.3)

-- codes are balanced
pub strings_balanced : (k : Kids) → GoodKids k → All Balanced (strings k)
unfolding strings
strings_balanced nil g = none
strings_balanced (kid b a e u r) g =
    both (free g.0.0 g.0.1 (collapse_balanced (both g.1.balanced (strings_balanced u g.2)))) (strings_balanced r g.3)

pub node_balanced : (e : List ℕ) (u : Kids) → SmallString e → GoodKids u → All Balanced (e ∷ strings u)
node_balanced e u c g = both c.balanced (strings_balanced u g)

pub code_balanced : (t : RoseTree) → Good t → Balanced (code t)
code_balanced t g = collapse_balanced (node_balanced t.kind t.kids g.0 g.1)

-- a child taken out of the children, and what is left
pub data Kid : Kids → ℕ → ℕ → List ℕ → Kids → Kids → Type 0 where
  here : {b a : ℕ} {e : List ℕ} {u r : Kids} → Kid (kid b a e u r) b a e u r
  there : {b a b₁ a₁ : ℕ} {e e₁ : List ℕ} {u r u₁ r₁ : Kids} → Kid r b a e u r₁ → Kid (kid b₁ a₁ e₁ u₁ r) b a e u (kid b₁ a₁ e₁ u₁ r₁)

-- one shape: the children pair up one to one, with equal bond codes and own strings and one shape below
pub data Like : Kids → Kids → Type 0 where
  no_kids : Like nil nil
  pair : {b a b₁ a₁ : ℕ} {e e₁ : List ℕ} {u r u₁ r₁ k : Kids} → Kid k b₁ a₁ e₁ u₁ r₁ → b ≡ b₁ → e ≡ e₁ → Like u u₁ → Like r r₁ → Like (kid b a e u r) k

infix 50 ◌≈◌
abbrev pub ◌≈◌ : RoseTree → RoseTree → Type 0
x ≈ y = (x.kind ≡ y.kind) × Like x.kids y.kids

-- equal codes give one shape
out_long : {x : List ℕ} {ys zs : List (List ℕ)} → Out x ys zs → All (λ s. 4 ≤ length s) ys → 4 ≤ length x
out_long (first e) (both h a) = omega (arith, ap length e)
out_long (later o) (both h a) = out_long o a

-- the atom's own string is told from a child's by its length
pub own_string_lem : {e e₁ : List ℕ} (u u₁ : Kids) → SmallString e → GoodKids u₁ → Perm (e ∷ strings u) (e₁ ∷ strings u₁) → (e ≡ e₁) × Perm (strings u) (strings u₁)
own_string_lem {e} {e₁} u u₁ c g p = let (ys, o, d) = perm_cons p in go ys o d
  where
    go : (ys : List (List ℕ)) → Out e (e₁ ∷ strings u₁) ys → Perm (strings u) ys → (e ≡ e₁) × Perm (strings u) (strings u₁)
    go ys (first q) d = (q, d)
    go ys (later o) d = absurd (omega (arith, c.short, out_long o (strings_long u₁ g)))

pub node_parts : (e e₁ : List ℕ) (u u₁ : Kids) → SmallString e → SmallString e₁ → GoodKids u → GoodKids u₁ → node_code e u ≡ node_code e₁ u₁ → (e ≡ e₁) × Perm (strings u) (strings u₁)
node_parts e e₁ u u₁ c c₁ g g₁ q = own_string_lem u u₁ c g₁ (collapse_perm (node_balanced e u c g) (node_balanced e₁ u₁ c₁ g₁) q)

pub record Taken (k : Kids) (s : List ℕ) (ss : List (List ℕ)) : Type 0 where
  pub bond : ℕ
  pub atom : ℕ
  pub kind : List ℕ
  pub under : Kids
  pub rest : Kids
  pub out : Kid k bond atom kind under rest
  pub string : s ≡ bond ∷ node_code kind under
  pub strings_left : ss ≡ strings rest

-- a string taken out of the children's strings is a child taken out
string_out : (k : Kids) {s : List ℕ} {ss : List (List ℕ)} → Out s (strings k) ss → Taken k s ss
unfolding strings
string_out nil o = elim o [ ]
string_out (kid b a e u r) (first q) = record { bond = b; atom = a; kind = e; under = u; rest = r; out = here; string = q; strings_left = refl }
string_out (kid b a e u r) (later o) =
    let t = string_out r o in
    record { bond = t.bond; atom = t.atom; kind = t.kind; under = t.under; rest = kid b a e u t.rest; out = there t.out; string = t.string; strings_left = ap (λ (l : List (List ℕ)). (b ∷ node_code e u) ∷ l) t.strings_left }

good_out : {k u r : Kids} {b a : ℕ} {e : List ℕ} → Kid k b a e u r → GoodKids k → Code b × SmallString e × GoodKids u × GoodKids r
good_out here g = g
good_out (there o) g = let h = good_out o g.3 in (h.0, h.1, h.2, (g.0, g.1, g.2, h.3))

pub like_of_perm : (k l : Kids) → GoodKids k → GoodKids l → Perm (strings k) (strings l) → Like k l
unfolding strings
like_of_perm nil nil g h p = no_kids
like_of_perm nil (kid b a e u r) g h p = absurd (cons≢nil (perm_nil p))
like_of_perm (kid b a e u r) l g h p =
    let (ss, o, d) = perm_cons p in
    let t = string_out l o in
    let i = good_out t.out h in
    let n : (e ≡ t.kind) × Perm (strings u) (strings t.under) = node_parts e t.kind u t.under g.1 i.1 g.2 i.2 (tail-eq_of_cons-eq t.string) in
    pair t.out (head-eq_of_cons-eq t.string) n.0 (like_of_perm u t.under g.2 i.2 n.1) (like_of_perm r t.rest g.3 i.3 (rw t.strings_left at d))

pub shape_of_code : (x y : RoseTree) → Good x → Good y → code x ≡ code y → x ≈ y
shape_of_code x y g h q =
    let n : (x.kind ≡ y.kind) × Perm (strings x.kids) (strings y.kids) = node_parts x.kind y.kind x.kids y.kids g.0 h.0 g.1 h.1 q in
    (n.0, like_of_perm x.kids y.kids g.1 h.1 n.1)

-- Two centres: bond code, then the two codes wrapped, the smaller first
unfoldable pub two_code : ℕ → RoseTree → RoseTree → List ℕ
two_code b x y = b ∷ collapse (code x ∷ code y ∷ [])

pub two_code_length : (b : ℕ) (x y : RoseTree) → length (two_code b x y) ≡ 5 * (1 + bonds x + bonds y) + own_bytes x + own_bytes y + 4
unfolding two_code total
two_code_length b x y = omega (arith, length_collapse (code x ∷ code y ∷ []), code_length x, code_length y)

-- one centre against two: the first byte of the one is 0, that of the other a bond code
abbrev first_byte : List ℕ → ℕ
first_byte [] = 0
first_byte (x ∷ l) = x

code_zero : (t : RoseTree) → first_byte (code t) ≡ 0
unfolding collapse join wrap
code_zero t = go (sort (t.kind ∷ strings t.kids))
  where
    go : (l : List (List ℕ)) → first_byte (join l) ≡ 0
    go [] = refl
    go (x ∷ l) = refl

pub one_not_two : (b : ℕ) (x y z : RoseTree) → Code b → code x ≡ two_code b y z → ⊥
unfolding two_code
one_not_two b x y z c q = c.0 (sym (ap first_byte q) ∙ code_zero x)

out_one : {A : Type 0} {x y : A} {zs : List A} → Out x (y ∷ []) zs → x ≡ y
out_one (first q) = q
out_one (later o) = elim o [ ]

pub perm_two : {A : Type 0} {x y v w : A} → Perm (x ∷ y ∷ []) (v ∷ w ∷ []) → ((x ≡ v) × (y ≡ w)) ⊎ ((x ≡ w) × (y ≡ v))
perm_two {A} {x} {y} {v} {w} p = let (zs, o, d) = perm_cons p in go zs o d
  where
    go : (zs : List A) → Out x (v ∷ w ∷ []) zs → Perm (y ∷ []) zs → ((x ≡ v) × (y ≡ w)) ⊎ ((x ≡ w) × (y ≡ v))
    go _ (later (later {zs = zs} x10)) d = elim x10 [ ]
    go zs (first q) d = let (ws, o, f) = perm_cons d in inl (q, out_one o)
    go zs (later (first q)) d = let (ws, o, f) = perm_cons d in inr (q, out_one o)

pub shape_of_two : (b b₁ : ℕ) (x y v w : RoseTree) → Good x → Good y → Good v → Good w → two_code b x y ≡ two_code b₁ v w → (b ≡ b₁) × (((x ≈ v) × (y ≈ w)) ⊎ ((x ≈ w) × (y ≈ v)))
unfolding two_code
shape_of_two b b₁ x y v w gx gy gv gw q =
    (head-eq_of_cons-eq q, go (perm_two (collapse_perm (both (code_balanced x gx) (both (code_balanced y gy) none)) (both (code_balanced v gv) (both (code_balanced w gw) none)) (tail-eq_of_cons-eq q))))
  where
    go : ((code x ≡ code v) × (code y ≡ code w)) ⊎ ((code x ≡ code w) × (code y ≡ code v)) → ((x ≈ v) × (y ≈ w)) ⊎ ((x ≈ w) × (y ≈ v))
    go (inl h) = inl (shape_of_code x v gx gv h.0, shape_of_code y w gy gw h.1)
    go (inr h) = inr (shape_of_code x w gx gw h.0, shape_of_code y v gy gv h.1)
