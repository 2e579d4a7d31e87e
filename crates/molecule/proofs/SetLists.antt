-- The members of a set as a list: those that pass a test, those of two sets, and one of them and the others. Assumes nothing.
use borrow.Author.Tests.{eqb-true}
use mathlib.Core.Path.{◌≡◌, sym, ap, ◌∙◌}
use mathlib.Core.Logic.{◌⊎◌, inl, inr}
use mathlib.Core.Bool.{Bool, true, false, not}
use mathlib.Core.List.Memᴰ.{head as m_head}
use mathlib.Core.List.Permᴰ.{middle as perm_middle}
use mathlib.Core.List.Permᴰ.{trans as p_trans}
use mathlib.Core.List.{List, [], ◌∷◌, ◌++◌, append-nil, Memᴰ as Mem, Permᴰ as Perm}
use Prim.Native.Nat.{ℕ, ◌^◌, ◌<◌}
use native.Mathlib.Omega.{arith}
use lib.ListN.{length}
use lib.Bits.{bit_and, bit_or}
use Rattle.bitset.specs.Bits.{bit, has, Sub, Disjoint, diff, members, Ascending}
use Rattle.bitset.proofs.Laws.{members_ascend, members_size, size_one, bit_one, one_sub, or_cases}
use Rattle.bitset.proofs.Decide.{v, and, or, less, is, sub, apart, sets}
use Rattle.bitset.proofs.Members.{members_bit, bit_members, or_left_in, or_right_in, apart_out}
use Rattle.molecule.specs.Lists.{filter}
use Rattle.molecule.proofs.Lists.{Ordered, ordered_keep, ordered_same}
use Rattle.molecule.proofs.Perms.{not_both, eqb_yes, eqb_no, keep_mem, keep_intro, keep_split}

abbrev Rising : List ℕ → Type 0
Rising l = Ordered ◌<◌ l

rising_same : (k l : List ℕ) → Rising k → Rising l → ((x : ℕ) → Mem x k → Mem x l) → ((x : ℕ) → Mem x l → Mem x k) → k ≡ l
rising_same = ordered_same ◌<◌ (λ x y h g. omega arith)

members_rise : (s : ℕ) → Rising (members s)
members_rise s = go (members s) (members_ascend s 0)
  where
    go : (l : List ℕ) → Ascending l → Rising l
    go [] a = tt
    go (x ∷ l) a = (a.0, go l a.1)

-- the members of s that pass a test are those of the set t of them
pub members_keep : (p : ℕ → Bool) (s t : ℕ) → ((i : ℕ) → bit t i ≡ 1 → (bit s i ≡ 1) × (p i ≡ true)) → ((i : ℕ) → bit s i ≡ 1 → p i ≡ true → bit t i ≡ 1)
    → filter p (members s) ≡ members t
members_keep p s t f g =
    rising_same (filter p (members s)) (members t) (ordered_keep ◌<◌ p (members s) (members_rise s)) (members_rise t)
    (λ i m. let w = keep_mem p (members s) m in bit_members t i (g i (members_bit s i w.0) w.1))
    (λ i m. let w = f i (members_bit t i m) in keep_intro p (members s) (bit_members s i w.0) w.1)

-- of two sets with no member in common: those of the one, and those of the other
pub members_join : (s t : ℕ) → Disjoint s t → Perm (members (bit_or s t)) (members s ++ members t)
members_join s t d =
    let left : filter (λ i. not (has t i)) (members (bit_or s t)) ≡ members s =
    members_keep (λ i. not (has t i)) (bit_or s t) s (λ i h. (or_left_in s t i h, ap not (out i h))) (λ i h k. from i (or_cases s t i h) k) in
    let right : filter (has t) (members (bit_or s t)) ≡ members t = members_keep (has t) (bit_or s t) t (λ i h. (or_right_in s t i h, eqb_yes h))
    (λ i h k. eqb-true (bit t i) 1 k) in
    rw (left, right) at (keep_split (has t) (members (bit_or s t)))
  where
    out : (i : ℕ) → bit s i ≡ 1 → has t i ≡ false
    out i h = eqb_no (λ k. apart_out s t i d h k)

    from : (i : ℕ) → (bit s i ≡ 1) ⊎ (bit t i ≡ 1) → not (has t i) ≡ true → bit s i ≡ 1
    from i (inl h) k = h
    from i (inr h) k = absurd (not_both k (ap not (eqb_yes h)))

-- L without u leaves out of s what L does, and u: here at the members of a
pub members_less : (a s l u : ℕ) → Sub u l → Sub l s → Perm (members (diff (bit_and a s) (diff l u))) (members (bit_and a u) ++ members (diff (bit_and a s) l))
members_less a s l u h k =
    let e : diff (bit_and a s) (diff l u) ≡ bit_or (bit_and a u) (diff (bit_and a s) l) =
    sets (sub (v 3) (v 2) ∷ sub (v 2) (v 1) ∷ []) (is (less (and (v 0) (v 1)) (less (v 2) (v 3))) (or (and (v 0) (v 3)) (less (and (v 0) (v 1)) (v 2))))
    (a ∷ s ∷ l ∷ u ∷ []) tt h k in
    let d : Disjoint (bit_and a u) (diff (bit_and a s) l) = sets (sub (v 3) (v 2) ∷ []) (apart (and (v 0) (v 3)) (less (and (v 0) (v 1)) (v 2)))
    (a ∷ s ∷ l ∷ u ∷ []) tt h in
    rw e (members_join (bit_and a u) (diff (bit_and a s) l) d)

-- the members of a set are those of a part of it and those of the rest
pub members_split : (s t : ℕ) → Sub t s → Perm (members s) (members (diff s t) ++ members t)
members_split s t h =
    let e : bit_or (diff s t) t ≡ s = sets (sub (v 1) (v 0) ∷ []) (is (or (less (v 0) (v 1)) (v 1)) (v 0)) (s ∷ t ∷ []) tt h in
    let d : Disjoint (diff s t) t = sets [] (apart (less (v 0) (v 1)) (v 1)) (s ∷ t ∷ []) tt in
    rw e at (members_join (diff s t) t d)

-- a list of one element that has x
pub only : {A : Type 0} (l : List A) {x : A} → length l ≡ 1 → Mem x l → l ≡ x ∷ []
only {A = A} [] e m = elim m [ ]
only {A = A} (y ∷ []) e (mathlib.Core.List.Memᴰ.tail x13) = elim x13 [ ]
only (y ∷ []) e (m_head h) = ap (λ z. z ∷ []) (sym h)
only (y ∷ z ∷ l) e m = absurd (omega arith)

pub members_one : (i : ℕ) → members (2 ^ i) ≡ i ∷ []
members_one i = only (members (2 ^ i)) (members_size (2 ^ i) 0 ∙ size_one i) (bit_members (2 ^ i) i (bit_one i))

-- one member and the others
pub members_out : (s i : ℕ) → bit s i ≡ 1 → Perm (members s) (i ∷ members (diff s (2 ^ i)))
members_out s i h =
    let rest : List ℕ = members (diff s (2 ^ i)) in
    let p : Perm (members s) (rest ++ (i ∷ [])) = rw (members_one i) at (members_split s (2 ^ i) (one_sub s i h)) in
    p_trans p (rw append-nil at (perm_middle i rest []))
