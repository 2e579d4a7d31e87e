-- Wrapping and collapsing. In a balanced string byte 0 opens, 255 closes and the others are free, so a joined list of wrapped
-- balanced strings splits back in one way.
use mathlib.Core.Path.{◌≡◌, refl, sym, ap, ap₂, ◌∙◌}
use mathlib.Core.Logic.{◌≢◌}
use mathlib.Core.List.Permᴰ.{cons as p_cons}
use mathlib.Core.List.Permᴰ.{nil as p_nil}
use mathlib.Core.List.Permᴰ.{swap as p_swap}
use mathlib.Core.List.Permᴰ.{symm as perm_sym}
use mathlib.Core.List.Permᴰ.{trans as p_trans}
use mathlib.Core.List.{List, [], ◌∷◌, ◌++◌, append_assoc, append-nil, head-eq_of_cons-eq, tail-eq_of_cons-eq, nil≢cons, cons≢nil, Permᴰ as Perm}
use Prim.Native.Nat.{ℕ, zero, suc, ◌+◌}
use native.Mathlib.Omega.{arith}
use lib.ListN.{length, length-append}
use mathlib.Core.Bool.{true, false}
use Rattle.canonize.specs.Strings.{lex_le, collapse, insert, join, sort, wrap}
use Rattle.canonize.proofs.Sorting.{sort_perm, sort_canonical, perm_of_sort, insert_nil}

-- Bal d x: x read from depth d never closes more than is open, and ends at depth 0
pub data Bal : ℕ → List ℕ → Type 0 where
  done : Bal zero []
  opens : {d c : ℕ} {x : List ℕ} → c ≡ 0 → Bal (suc d) x → Bal d (c ∷ x)
  free : {d c : ℕ} {x : List ℕ} → c ≢ 0 → c ≢ 255 → Bal d x → Bal d (c ∷ x)
  shuts : {d c : ℕ} {x : List ℕ} → c ≡ 255 → Bal d x → Bal (suc d) (c ∷ x)

abbrev pub Balanced : List ℕ → Type 0
Balanced x = Bal 0 x

pub bal_append : {d : ℕ} {x y : List ℕ} → Bal d x → Bal 0 y → Bal d (x ++ y)
bal_append done b = b
bal_append (opens e a) b = opens e (bal_append a b)
bal_append (free h g a) b = free h g (bal_append a b)
bal_append (shuts e a) b = shuts e (bal_append a b)

bal_close : {d : ℕ} {x : List ℕ} → Bal d x → Bal (suc d) (x ++ (255 ∷ []))
bal_close done = shuts refl done
bal_close (opens e a) = opens e (bal_close a)
bal_close (free h g a) = free h g (bal_close a)
bal_close (shuts e a) = shuts e (bal_close a)

pub wrap_balanced : {x : List ℕ} → Balanced x → Balanced (wrap x)
unfolding wrap
wrap_balanced a = opens refl (bal_close a)

-- every string of a list
pub data All (P : List ℕ → Type 0) : List (List ℕ) → Type 0 where
  none : All P []
  both : {x : List ℕ} {xs : List (List ℕ)} → P x → All P xs → All P (x ∷ xs)

pub all_perm : {P : List ℕ → Type 0} {xs ys : List (List ℕ)} → Perm xs ys → All P xs → All P ys
all_perm p_nil a = a
all_perm {P} (p_cons e d) (both h a) = both (rw e at h) (all_perm d a)
all_perm {P} (p_swap e g) (both h (both k a)) = both (rw g at k) (both (rw e at h) a)
all_perm (p_trans d g) a = all_perm g (all_perm d a)

pub join_balanced : {xs : List (List ℕ)} → All Balanced xs → Balanced (join xs)
unfolding join
join_balanced none = done
join_balanced (both h a) = bal_append (wrap_balanced h) (join_balanced a)

pub collapse_balanced : {xs : List (List ℕ)} → All Balanced xs → Balanced (collapse xs)
unfolding collapse
collapse_balanced {xs} a = join_balanced (all_perm (perm_sym (sort_perm xs)) a)

-- a string that closes d and ends at 0 is told from what follows its closing byte
pub bal_split : {d : ℕ} {x y : List ℕ} (r s : List ℕ) → Bal d x → Bal d y → x ++ (255 ∷ r) ≡ y ++ (255 ∷ s) → (x ≡ y) × (r ≡ s)
bal_split r s done done e = (refl, tail-eq_of_cons-eq e)
bal_split r s done (opens q b) e = absurd (omega (arith, head-eq_of_cons-eq e))
bal_split r s done (free h g b) e = absurd (omega (arith, head-eq_of_cons-eq e))
bal_split r s (opens p a) done e = absurd (omega (arith, head-eq_of_cons-eq e))
bal_split r s (opens p a) (opens q b) e = let (u, v) = bal_split r s a b (tail-eq_of_cons-eq e) in (ap₂ ◌∷◌ (head-eq_of_cons-eq e) u, v)
bal_split r s (opens p a) (free h g b) e = absurd (omega (arith, head-eq_of_cons-eq e))
bal_split r s (opens p a) (shuts q b) e = absurd (omega (arith, head-eq_of_cons-eq e))
bal_split r s (free h g a) done e = absurd (omega (arith, head-eq_of_cons-eq e))
bal_split r s (free h g a) (opens q b) e = absurd (omega (arith, head-eq_of_cons-eq e))
bal_split r s (free h g a) (free k l b) e = let (u, v) = bal_split r s a b (tail-eq_of_cons-eq e) in (ap₂ ◌∷◌ (head-eq_of_cons-eq e) u, v)
bal_split r s (free h g a) (shuts q b) e = absurd (omega (arith, head-eq_of_cons-eq e))
bal_split r s (shuts p a) (opens q b) e = absurd (omega (arith, head-eq_of_cons-eq e))
bal_split r s (shuts p a) (free h g b) e = absurd (omega (arith, head-eq_of_cons-eq e))
bal_split r s (shuts p a) (shuts q b) e = let (u, v) = bal_split r s a b (tail-eq_of_cons-eq e) in (ap₂ ◌∷◌ (head-eq_of_cons-eq e) u, v)

join_cons : (x : List ℕ) (xs : List (List ℕ)) → join (x ∷ xs) ≡ 0 ∷ (x ++ (255 ∷ join xs))
unfolding join wrap
join_cons x xs = ap (λ (l : List ℕ). 0 ∷ l) (append_assoc x (255 ∷ []) (join xs))

join_nil : join [] ≡ []
unfolding join
join_nil = refl

pub join_injective : {xs ys : List (List ℕ)} → All Balanced xs → All Balanced ys → join xs ≡ join ys → xs ≡ ys
join_injective none none e = refl
join_injective none (both {x = y} {xs = ys} k b) e = absurd (nil≢cons (sym join_nil ∙ e ∙ join_cons y ys))
join_injective (both {x = x} {xs = xs} h a) none e = absurd (cons≢nil (sym (join_cons x xs) ∙ e ∙ join_nil))
join_injective (both {x = x} {xs = xs} h a) (both {x = y} {xs = ys} k b) e =
    let (u, v) = bal_split (join xs) (join ys) h k (tail-eq_of_cons-eq (sym (join_cons x xs) ∙ e ∙ join_cons y ys)) in
    ap₂ ◌∷◌ u (join_injective a b v)

pub collapse_perm : {xs ys : List (List ℕ)} → All Balanced xs → All Balanced ys → collapse xs ≡ collapse ys → Perm xs ys
unfolding collapse
collapse_perm {xs} {ys} a b e = perm_of_sort xs ys (join_injective (all_perm (perm_sym (sort_perm xs)) a) (all_perm (perm_sym (sort_perm ys)) b) e)

pub collapse_canonical : {xs ys : List (List ℕ)} → Perm xs ys → collapse xs ≡ collapse ys
unfolding collapse
collapse_canonical p = ap join (sort_canonical p)

-- lengths
unfoldable pub total : List (List ℕ) → ℕ
total [] = 0
total (x ∷ xs) = length x + 2 + total xs

pub total_nil : total [] ≡ 0
unfolding total
total_nil = refl

pub total_cons : (x : List ℕ) (xs : List (List ℕ)) → total (x ∷ xs) ≡ length x + 2 + total xs
unfolding total
total_cons x xs = refl

pub total_perm : {xs ys : List (List ℕ)} → Perm xs ys → total xs ≡ total ys
unfolding total
total_perm p_nil = refl
total_perm (p_cons e d) = omega (arith, ap length e, total_perm d)
total_perm (p_swap e g) = omega (arith, ap length e, ap length g)
total_perm (p_trans d g) = total_perm d ∙ total_perm g

pub length_wrap : (x : List ℕ) → length (wrap x) ≡ length x + 2
unfolding wrap
length_wrap x = omega (arith, length-append x (255 ∷ []))

pub length_join : (xs : List (List ℕ)) → length (join xs) ≡ total xs
unfolding join total wrap
length_join [] = refl
length_join (x ∷ xs) = simp length-append (omega (arith, length_join xs))

pub length_collapse : (xs : List (List ℕ)) → length (collapse xs) ≡ total xs
unfolding collapse
length_collapse xs = length_join (sort xs) ∙ total_perm (sort_perm xs)

-- two strings, by the test on them
pub collapse_one : (x : List ℕ) → collapse (x ∷ []) ≡ wrap x
unfolding collapse sort join
collapse_one x = ap join (insert_nil x) ∙ append-nil (wrap x)

pub collapse_two : (x y : List ℕ) → lex_le x y ≡ true → collapse (x ∷ y ∷ []) ≡ wrap x ++ wrap y
unfolding collapse sort insert join
collapse_two x y e = rw (e, insert) (ap (λ (l : List ℕ). wrap x ++ l) (append-nil (wrap y)))

pub collapse_two_swapped : (x y : List ℕ) → lex_le x y ≡ false → collapse (x ∷ y ∷ []) ≡ wrap y ++ wrap x
unfolding collapse sort insert join
collapse_two_swapped x y e = rw (e, insert) (ap (λ (l : List ℕ). wrap y ++ l) (append-nil (wrap x)))

pub length_collapse_two : (x y : List ℕ) → length (collapse (x ∷ y ∷ [])) ≡ length x + length y + 4
length_collapse_two x y = length_collapse (x ∷ y ∷ []) ∙ omega (arith, total_cons x (y ∷ []), total_cons y [], total_nil)
