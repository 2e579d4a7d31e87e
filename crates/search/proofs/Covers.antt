-- Sets put together from parts: covers, an element taken out of a list, flat lists, and a set as its single bonds. Assumes nothing.
use mathlib.Core.Path.{◌≡◌, refl, sym, ap, subst, ◌∙◌}
use mathlib.Core.Logic.{◌⊎◌, inl, inr, ⊎_elim}
use mathlib.Core.List.Memᴰ.{append_cases as mem_cases}
use mathlib.Core.List.Memᴰ.{append_left as mem_left}
use mathlib.Core.List.Memᴰ.{append_right as mem_right}
use mathlib.Core.List.Memᴰ.{cases_cons as mem_cons}
use mathlib.Core.List.Memᴰ.{head as m_head}
use mathlib.Core.List.Memᴰ.{not-nil}
use mathlib.Core.List.Memᴰ.{tail as m_tail}
use mathlib.Core.List.{List, [], ◌∷◌, ◌++◌, map, flat_map, Memᴰ as Mem}
use Prim.Native.Nat.{ℕ, zero, suc, ◌+◌, ◌^◌, ◌≤◌, ◌<◌}
use native.Mathlib.Omega.{arith}
use native.Mathlib.Nat.{zero-add}
use lib.Bits.{bit_or, and_le_r}
use lib.ListN.{length, get_or, take, drop, length-append}
use Rattle.bitset.specs.Bits.{bit, Sub, Disjoint, diff, size, members, low, unions}
use Rattle.bitset.proofs.Laws.{bit_empty, sub_trans, sub_or, one_sub, low_bit, members_low, members_done, diff_zero, size_zero, size_remove, unions_of, unions_none, unions_more}
use Rattle.bitset.proofs.Members.{in_or_out, diff_in, diff_sub, apart_of, apart_out}
use Rattle.bitset.proofs.Decide.{sets, v, less, or, none, is, sub, apart}
use Rattle.molecule.specs.Connected.{Apart}
use Rattle.search.specs.Inner.Joining.{Cover, Picks, now, later, MembersIn}

-- ---- sets

-- the order in which two sets are taken away does not matter
less_swap : (p x y : ℕ) → diff (diff p x) y ≡ diff (diff p y) x
less_swap p x y = sets [] (is (less (less (v 0) (v 1)) (v 2)) (less (less (v 0) (v 2)) (v 1))) (p ∷ x ∷ y ∷ []) tt

-- a subset of what is left is a subset of the whole, and has nothing of what was taken away
sub_less : (p x y : ℕ) → Sub x (diff p y) → Sub x p
sub_less p x y = sets (sub (v 1) (less (v 0) (v 2)) ∷ []) (sub (v 1) (v 0)) (p ∷ x ∷ y ∷ []) tt

pub less_apart : (p x y : ℕ) → Sub x (diff p y) → Disjoint x y
less_apart p x y = sets (sub (v 1) (less (v 0) (v 2)) ∷ []) (apart (v 1) (v 2)) (p ∷ x ∷ y ∷ []) tt

-- two sets of which the one lies outside the other: so does the other outside the one
sub_less_swap : (p x y : ℕ) → Sub y p → Sub x (diff p y) → Sub y (diff p x)
sub_less_swap p x y = sets (sub (v 2) (v 0) ∷ sub (v 1) (less (v 0) (v 2)) ∷ []) (sub (v 2) (less (v 0) (v 1))) (p ∷ x ∷ y ∷ []) tt

-- what is disjoint from one set is so the other way round
pub apart_swap : (x y : ℕ) → Disjoint x y → Disjoint y x
apart_swap x y = sets (apart (v 0) (v 1) ∷ []) (apart (v 1) (v 0)) (x ∷ y ∷ []) tt

-- a set less itself is empty, and less a set apart from it the same
pub less_self : (p : ℕ) → diff p p ≡ 0
less_self p = sets [] (is (less (v 0) (v 0)) none) (p ∷ []) tt

pub less_none : (p x : ℕ) → Disjoint p x → diff p x ≡ p
less_none p x = sets (apart (v 0) (v 1) ∷ []) (is (less (v 0) (v 1)) (v 0)) (p ∷ x ∷ []) tt

-- only the empty set is a subset of the empty set
pub sub_none : (x : ℕ) → Sub x 0 → x ≡ 0
sub_none x = sets (sub (v 0) none ∷ []) (is (v 0) none) (x ∷ []) tt

-- a subset is no greater as a number
sub_le : (s t : ℕ) → Sub s t → s ≤ t
sub_le s t h = omega (arith, and_le_r s t)

-- a set is empty or it is not
none_or : (s : ℕ) → (s ≡ 0) ⊎ (0 < s)
none_or zero = inl refl
none_or (suc s) = inr (omega arith)

-- ---- covers

-- each part is a subset
pub cover_mem : (p : ℕ) (l : List ℕ) → Cover p l → (x : ℕ) → Mem x l → Sub x p
cover_mem p [] c x m = absurd (not-nil m)
cover_mem p (y ∷ l) c x m = go (mem_cons m) (cover_mem (diff p y) l c.1 x)
  where
    go : (x ≡ y) ⊎ Mem x l → (Mem x l → Sub x (diff p y)) → Sub x p
    go (inl e) ih = rw e c.0
    go (inr w) ih = sub_less p x y (ih w)

-- two parts are one, or disjoint
pub cover_apart : (p : ℕ) (l : List ℕ) → Cover p l → (x y : ℕ) → Mem x l → Mem y l → (x ≡ y) ⊎ Disjoint x y
cover_apart p [] c x y m n = absurd (not-nil m)
cover_apart p (z ∷ l) c x y m n = go (mem_cons m) (mem_cons n) (cover_apart (diff p z) l c.1 x y)
  where
    go : (x ≡ z) ⊎ Mem x l → (y ≡ z) ⊎ Mem y l → (Mem x l → Mem y l → (x ≡ y) ⊎ Disjoint x y) → (x ≡ y) ⊎ Disjoint x y
    go (inl e) (inl f) ih = inl (e ∙ sym f)
    go (inl e) (inr b) ih = inr (rw e (apart_swap y z (less_apart p y z (cover_mem (diff p z) l c.1 y b))))
    go (inr a) (inl f) ih = inr (rw f (less_apart p x z (cover_mem (diff p z) l c.1 x a)))
    go (inr a) (inr b) ih = ih a b

-- each member is in one of the parts
pub cover_has : (p b : ℕ) (l : List ℕ) → Cover p l → bit p b ≡ 1 → (t : ℕ) × Mem t l × (bit t b ≡ 1)
cover_has p b [] c e = absurd (omega (arith, ap (λ (k : ℕ). bit k b) c, bit_empty b))
cover_has p b (x ∷ l) c e = go (in_or_out x b) (cover_has (diff p x) b l c.1)
  where
    go : (bit x b ≡ 1) ⊎ (bit x b ≡ 0) → (bit (diff p x) b ≡ 1 → (t : ℕ) × Mem t l × (bit t b ≡ 1)) → (t : ℕ) × Mem t (x ∷ l) × (bit t b ≡ 1)
    go (inl h) ih = (x, m_head refl, h)
    go (inr h) ih = let w = ih (diff_in p x b e h) in (w.0, m_tail w.1, w.2)

-- the parts of x and those of the rest are the parts of the whole
pub cover_append : (p x : ℕ) (cs bs : List ℕ) → Sub x p → Cover x cs → Cover (diff p x) bs → Cover p (cs ++ bs)
cover_append p x [] bs h c d = subst (λ (k : ℕ). Cover k bs) (ap (diff p) c ∙ diff_zero p) d
cover_append p x (y ∷ cs) bs h c d =
    (sub_trans y x p c.0 h, cover_append (diff p y) (diff x y) cs bs (both p x y h) c.1 (subst (λ (k : ℕ). Cover k bs) (eq p x y c.0) d))
  where
    eq : (p x y : ℕ) → Sub y x → diff p x ≡ diff (diff p y) (diff x y)
    eq p x y = sets (sub (v 2) (v 1) ∷ []) (is (less (v 0) (v 1)) (less (less (v 0) (v 2)) (less (v 1) (v 2)))) (p ∷ x ∷ y ∷ []) tt

    both : (p x y : ℕ) → Sub x p → Sub (diff x y) (diff p y)
    both p x y = sets (sub (v 1) (v 0) ∷ []) (sub (less (v 1) (v 2)) (less (v 0) (v 2))) (p ∷ x ∷ y ∷ []) tt

-- where each part less t is split up, so is the whole less t
pub cover_flat : (t : ℕ) (f : ℕ → List ℕ) (p : ℕ) (l : List ℕ) → Cover p l → ((x : ℕ) → Mem x l → Cover (diff x t) (f x)) → Cover (diff p t) (flat_map f l)
unfolding flat_map
cover_flat t f p [] c g = let e : diff 0 t ≡ 0 = sets [] (is (less none (v 0)) none) (t ∷ []) tt in rw c e
cover_flat t f p (x ∷ l) c g =
    cover_append (diff p t) (diff x t) (f x) (flat_map f l) (both p x t c.0) (g x (m_head refl))
    (subst (λ (k : ℕ). Cover k (flat_map f l)) (eq p x t) (cover_flat t f (diff p x) l c.1 (λ y m. g y (m_tail m))))
  where
    both : (p x t : ℕ) → Sub x p → Sub (diff x t) (diff p t)
    both p x t = sets (sub (v 1) (v 0) ∷ []) (sub (less (v 1) (v 2)) (less (v 0) (v 2))) (p ∷ x ∷ t ∷ []) tt

    eq : (p x t : ℕ) → diff (diff p x) t ≡ diff (diff p t) (diff x t)
    eq p x t = sets [] (is (less (less (v 0) (v 1)) (v 2)) (less (less (v 0) (v 2)) (less (v 1) (v 2)))) (p ∷ x ∷ t ∷ []) tt

-- sets that are apart cover their union
pub apart_cover : (p : ℕ) (l : List ℕ) → Apart l → unions (λ c. c) l ≡ p → Cover p l
apart_cover p [] a e = sym e ∙ unions_none (λ c. c)
apart_cover p (x ∷ l) a e =
    let u : ℕ = unions (λ c. c) l in
    let f : bit_or x u ≡ p = sym (unions_more (λ c. c) x l) ∙ e in
    let d : Disjoint x u = apart_of x u (λ i h k. let w = unions_of (λ c. c) l i k in apart_out x w.0 i (a.0 w.0 w.1) h w.2) in
    (subst (Sub x) f (sub_or x u), apart_cover (diff p x) l a.1 (sym (ap (λ (k : ℕ). diff k x) (sym f) ∙ rest x u d)))
  where
    rest : (x u : ℕ) → Disjoint x u → diff (bit_or x u) x ≡ u
    rest x u = sets (apart (v 0) (v 1) ∷ []) (is (less (or (v 0) (v 1)) (v 0)) (v 1)) (x ∷ u ∷ []) tt

-- ---- an element taken out

-- the rest covers what is left
pub cover_pick : (x p : ℕ) {l l' : List ℕ} → Picks x l l' → Cover p l → Sub x p × Cover (diff p x) l'
cover_pick x p now c = c
cover_pick x p (later {y = y} {l' = l'} k) c =
    let w = cover_pick x (diff p y) k c.1 in
    (sub_less p x y w.0, (sub_less_swap p x y c.0 w.0, subst (λ (a : ℕ). Cover a l') (less_swap p y x) w.1))

-- it is an element, the others are elements too, and each element is it or one of them
pub pick_mem : (x : ℕ) {l l' : List ℕ} → Picks x l l' → Mem x l
pick_mem x now = m_head refl
pick_mem x (later k) = m_tail (pick_mem x k)

pub pick_within : (x : ℕ) {l l' : List ℕ} → Picks x l l' → MembersIn l' l
pick_within x now y m = m_tail m
pick_within x (later k) y m = ⊎_elim (λ e. m_head e) (λ w. m_tail (pick_within x k y w)) (mem_cons m)

pub pick_other : (x y : ℕ) {l l' : List ℕ} → Picks x l l' → Mem y l → (y ≡ x) ⊎ Mem y l'
pick_other x y now m = mem_cons m
pick_other x y (later {y = z} {l = l} {l' = l'} k) m = go (mem_cons m) (λ w. pick_other x y k w)
  where
    go : (y ≡ z) ⊎ Mem y l → (Mem y l → (y ≡ x) ⊎ Mem y l') → (y ≡ x) ⊎ Mem y (z ∷ l')
    go (inl e) ih = inr (m_head e)
    go (inr w) ih = ⊎_elim (λ e. inl e) (λ u. inr (m_tail u)) (ih w)

-- the lengths: of the list, and of a flat list over it
pub pick_length : (x : ℕ) {l l' : List ℕ} → Picks x l l' → length l ≡ suc (length l')
pick_length x now = refl
pick_length x (later k) = ap suc (pick_length x k)

pub pick_flat : (f : ℕ → List ℕ) (x : ℕ) {l l' : List ℕ} → Picks x l l' → length (flat_map f l) ≡ length (f x) + length (flat_map f l')
unfolding flat_map
pick_flat f x (now {l = l}) = length-append (f x) (flat_map f l)
pick_flat f x (later {y = y} {l = l} {l' = l'} k) = omega (arith, length-append (f y) (flat_map f l), length-append (f y) (flat_map f l'), pick_flat f x k)

-- every element can be taken out, and what stands at place k by cutting the list there
pub mem_pick : (x : ℕ) {l : List ℕ} → Mem x l → (l' : List ℕ) × Picks x l l'
mem_pick x (m_head {x = y} {xs = l} e) = (l, subst (λ (k : ℕ). Picks x (k ∷ l) l) e now)
mem_pick x (m_tail {x = y} m) = let w = mem_pick x m in (y ∷ w.0, later w.1)

pub at_pick : (k : ℕ) (l : List ℕ) → k < length l → Picks (get_or l k 0) l (take k l ++ drop (suc k) l)
at_pick k [] h = absurd (omega arith)
at_pick zero (x ∷ l) h = now
at_pick (suc k) (x ∷ l) h = later (at_pick k l (omega arith))

-- ---- members of a flat list

-- an element of f x is one of the flat list, and each of that is one of some f x
pub flat_mem : (f : ℕ → List ℕ) (x y : ℕ) (l : List ℕ) → Mem x l → Mem y (f x) → Mem y (flat_map f l)
unfolding flat_map
flat_mem f x y [] m n = absurd (not-nil m)
flat_mem f x y (z ∷ l) m n = go (mem_cons m) (λ w. flat_mem f x y l w n)
  where
    go : (x ≡ z) ⊎ Mem x l → (Mem x l → Mem y (flat_map f l)) → Mem y (f z ++ flat_map f l)
    go (inl e) ih = mem_left (flat_map f l) (subst (λ (k : ℕ). Mem y (f k)) e n)
    go (inr w) ih = mem_right (f z) (ih w)

pub mem_flat : (f : ℕ → List ℕ) (y : ℕ) (l : List ℕ) → Mem y (flat_map f l) → (x : ℕ) × Mem x l × Mem y (f x)
unfolding flat_map
mem_flat f y [] m = absurd (not-nil m)
mem_flat f y (z ∷ l) m = go (mem_cases (f z) m) (mem_flat f y l)
  where
    go : Mem y (f z) ⊎ Mem y (flat_map f l) → (Mem y (flat_map f l) → (x : ℕ) × Mem x l × Mem y (f x)) → (x : ℕ) × Mem x (z ∷ l) × Mem y (f x)
    go (inl w) ih = (z, m_head refl, w)
    go (inr w) ih = let u = ih w in (u.0, m_tail u.1, u.2)

-- ---- the single bonds of a set

-- the lowest bond alone is a part, and the rest has one bond less
pub low_sub : (s : ℕ) → 0 < s → s < 2 ^ 64 → Sub (2 ^ low s) s
low_sub s p l = one_sub s (low s) (low_bit 64 s p l)

pub low_less : (s : ℕ) → 0 < s → s < 2 ^ 64 → size (diff s (2 ^ low s)) + 1 ≡ size s
low_less s p l = size_remove s (low s) (low_bit 64 s p l)

-- the empty set has no bonds
none_cover : (s : ℕ) → s ≡ 0 → Cover s (map (λ b. 2 ^ b) (members s))
none_cover s e = subst (λ (k : List ℕ). Cover s (map (λ b. 2 ^ b) k)) (sym (members_done s e)) e

-- by induction on the size, the lowest bond first
singles_in : (f s : ℕ) → size s ≤ f → s < 2 ^ 64 → Cover s (map (λ b. 2 ^ b) (members s))
singles_in zero s h l = none_cover s (size_zero s (omega arith))
singles_in (suc f) s h l = go (none_or s) (singles_in f (diff s (2 ^ low s)))
  where
    go : (s ≡ 0) ⊎ (0 < s) → (size (diff s (2 ^ low s)) ≤ f → diff s (2 ^ low s) < 2 ^ 64 → Cover (diff s (2 ^ low s)) (map (λ b. 2 ^ b) (members (diff s (2 ^ low s)))))
        → Cover s (map (λ b. 2 ^ b) (members s))
    go (inl z) ih = none_cover s z
    go (inr p) ih =
        let e : members s ≡ low s ∷ members (diff s (2 ^ low s)) = members_low 64 0 s p l ∙ ap (λ (k : ℕ). k ∷ members (diff s (2 ^ low s))) (zero-add (low s)) in
        subst (λ (k : List ℕ). Cover s (map (λ b. 2 ^ b) k)) (sym e)
        (low_sub s p l, ih (omega (arith, low_less s p l)) (omega (arith, sub_le (diff s (2 ^ low s)) s (diff_sub s (2 ^ low s)))))

-- a set is the disjoint union of its single bonds
pub singles_cover : (s : ℕ) → s < 2 ^ 64 → Cover s (map (λ b. 2 ^ b) (members s))
singles_cover s l = singles_in (size s) s (omega arith) l
