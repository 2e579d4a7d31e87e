-- Sorting by its least string, and by the strings before and after one. Assumes nothing.
use Rattle.bitset.proofs.Bools.{two}
use mathlib.Core.Path.{◌≡◌, refl, sym, ap, subst, ◌∙◌}
use mathlib.Core.Logic.{◌⊎◌, inl, inr}
use mathlib.Core.Bool.{true, false}
use mathlib.Core.List.Memᴰ.{head as m_head}
use mathlib.Core.List.Memᴰ.{of_map as mem_of_map}
use mathlib.Core.List.Memᴰ.{tail as m_tail}
use mathlib.Core.List.Permᴰ.{cons as p_cons}
use mathlib.Core.List.Permᴰ.{middle as perm_middle}
use mathlib.Core.List.Permᴰ.{refl as perm_refl}
use mathlib.Core.List.Permᴰ.{symm as perm_sym}
use mathlib.Core.List.Permᴰ.{trans as p_trans}
use mathlib.Core.List.{List, [], ◌∷◌, ◌++◌, map, Memᴰ as Mem, Permᴰ as Perm}
use Prim.Native.Nat.{ℕ, ◌^◌}
use native.Mathlib.Omega.{arith}
use Rattle.bitset.specs.Bits.{bit, diff, members}
use Rattle.bitset.proofs.Members.{members_bit}
use Rattle.bitset.proofs.Laws.{bit_diff, bit_le}
use Rattle.molecule.specs.Lists.{Bytes}
use Rattle.molecule.proofs.SetLists.{members_split, members_out}
use Rattle.molecule.proofs.Perms.{perm_mem, perm_map, map-append, perm_eq}
use Rattle.canonize.specs.Strings.{lex_le, insert, sort}
use Rattle.canonize.specs.Inner.Places.{Least, After}
use Rattle.canonize.proofs.Sorting.{lexle_trans, lexle_turn, insert_le, insert_gt, insert_nil, sort_perm, sort_canonical}

-- ---- sorting

-- x comes before every string of a list, or is equal to it
abbrev pub Leads : Bytes → List Bytes → Type 0
Leads x ys = (y : Bytes) → Mem y ys → lex_le x y ≡ true

insert_front : (x : Bytes) (ys : List Bytes) → Leads x ys → insert x ys ≡ x ∷ ys
insert_front x [] h = insert_nil x
insert_front x (y ∷ ys) h = insert_le x y ys (h y (m_head refl))

-- the least string stands first
pub sort_least : {xs ys : List Bytes} {x : Bytes} → Perm xs (x ∷ ys) → Leads x ys → sort xs ≡ x ∷ sort ys
unfolding sort
sort_least {ys = ys} {x = x} p h = sort_canonical p ∙ insert_front x (sort ys) (λ y m. h y (perm_mem (sort_perm ys) m))

insert_before : (x : Bytes) (ys zs : List Bytes) → Leads x zs → insert x (ys ++ zs) ≡ insert x ys ++ zs
insert_before x [] zs h = insert_front x zs h ∙ ap (λ (l : List Bytes). l ++ zs) (sym (insert_nil x))
insert_before x (y ∷ ys) zs h = go (two (lex_le x y)) (insert_before x ys zs h)
  where
    go : (lex_le x y ≡ true) ⊎ (lex_le x y ≡ false) → insert x (ys ++ zs) ≡ insert x ys ++ zs → insert x (y ∷ (ys ++ zs)) ≡ insert x (y ∷ ys) ++ zs
    go (inl e) r = insert_le x y (ys ++ zs) e ∙ ap (λ (l : List Bytes). l ++ zs) (sym (insert_le x y ys e))
    go (inr e) r = insert_gt x y (ys ++ zs) e ∙ ap (λ (l : List Bytes). y ∷ l) r ∙ ap (λ (l : List Bytes). l ++ zs) (sym (insert_gt x y ys e))

-- strings that all come before others are sorted by themselves
pub sort_append : (xs ys : List Bytes) → ((x : Bytes) → Mem x xs → Leads x ys) → sort (xs ++ ys) ≡ sort xs ++ sort ys
unfolding sort
sort_append [] ys h = refl
sort_append (x ∷ xs) ys h =
    ap (insert x) (sort_append xs ys (λ z m. h z (m_tail m)))
    ∙ insert_before x (sort xs) (sort ys) (λ y m. h x (m_head refl) y (perm_mem (sort_perm ys) m))

-- ---- sorting the strings of a set

module _ (X : ℕ → Bytes) (s : ℕ) where
  each : (P : Bytes → Type 0) (t : ℕ) → ((i : ℕ) → bit t i ≡ 1 → P (X i)) → (y : Bytes) → Mem y (map X (members t)) → P y
  each P t h y m = let (i, n, e) = mem_of_map X (members t) m in subst P e (h i (members_bit t i n))

  pub sort_out : (i : ℕ) → Least X s i → sort (map X (members s)) ≡ X i ∷ sort (map X (members (diff s (2 ^ i))))
  sort_out i l = sort_least (perm_map X (members_out s i l.member)) (each (λ y. lex_le (X i) y ≡ true) (diff s (2 ^ i)) (λ j h. l.first j (omega (arith, bit_diff s (2 ^ i) j, bit_le s j))))

  pub sort_split : (own : Bytes) (t : ℕ) → After X s own t → sort (own ∷ map X (members s)) ≡ sort (map X (members (diff s t))) ++ (own ∷ sort (map X (members t)))
  sort_split own t a = sort_canonical parts ∙ sort_append lower (own ∷ upper) leads ∙ ap (λ (l : List Bytes). sort lower ++ l) (sort_least (perm_refl (own ∷ upper)) after)
    where
      lower : List Bytes
      lower = map X (members (diff s t))

      upper : List Bytes
      upper = map X (members t)

      parts : Perm (own ∷ map X (members s)) (lower ++ (own ∷ upper))
      parts = p_trans (p_cons refl (p_trans (perm_map X (members_split s t a.within)) (perm_eq (map-append X (members (diff s t)) (members t))))) (perm_sym (perm_middle own lower upper))

      after : Leads own upper
      after = each (λ y. lex_le own y ≡ true) t a.yes

      before : (x : Bytes) → Mem x lower → lex_le x own ≡ true
      before =
          each (λ x. lex_le x own ≡ true) (diff s t)
          (λ i h. lexle_turn own (X i) (a.no i (omega (arith, bit_diff s t i, bit_le s i)) (omega (arith, bit_diff s t i, bit_le s i))))

      leads : (x : Bytes) → Mem x lower → Leads x (own ∷ upper)
      leads x m y (m_head q) = rw q (before x m)
      leads x m y (m_tail n) = lexle_trans x own y (before x m) (after y n)
