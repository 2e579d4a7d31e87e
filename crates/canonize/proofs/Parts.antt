-- A set of atoms of a tree holds fewer bonds than atoms. Assumes nothing.
use Rattle.bitset.proofs.Bools.{two, or_left, or_right, and_true}
use borrow.Author.Tests.{eqb-true, not-true}
use mathlib.Core.Path.{◌≡◌, refl, sym, ap, ◌∙◌}
use mathlib.Core.Logic.{◌⊎◌, inl, inr}
use mathlib.Core.Bool.{Bool, true, false, not, ◌||◌}
use mathlib.Core.List.Memᴰ.{cast as mem_cast}
use mathlib.Core.List.Memᴰ.{head as m_head}
use mathlib.Core.List.Memᴰ.{tail as m_tail}
use mathlib.Core.List.{List, [], ◌∷◌, Memᴰ as Mem}
use Prim.Native.Nat.{ℕ, zero, suc, ◌+◌, ◌≤◌}
use native.Mathlib.Omega.{arith}
use lib.ListN.{length, length-append}
use lib.Dec.{eqb}
use Rattle.molecule.proofs.Perms.{not_both, perm_length, Distinct, keep_mem, keep_same, keep_split, eqb_yes, eqb_no}
use Rattle.canonize.specs.Fragment.{Bond, arcs, turn}
use Rattle.molecule.specs.Lists.{filter}
use Rattle.canonize.proofs.Peeling.{both}

both_true : (a b : Bool) → a ≡ true → b ≡ true → both a b ≡ true
both_true a b e f = rw (e, f)

-- counting
pub keep_le : {A : Type 0} (p : A → Bool) (l : List A) → length (filter p l) ≤ length l
keep_le p l = omega (arith, perm_length (keep_split p l), length-append (filter (λ x. not (p x)) l) (filter p l))

keep_all : {A : Type 0} (p : A → Bool) (l : List A) → ((x : A) → Mem x l → p x ≡ true) → length (filter p l) ≡ length l
keep_all p [] h = refl
keep_all p (x ∷ l) h = rw (h x (m_head refl)) (ap suc (keep_all p l (λ y m. h y (m_tail m))))

keep_wider : {A : Type 0} (p q : A → Bool) (l : List A) → ((x : A) → p x ≡ true → q x ≡ true) → length (filter p l) ≤ length (filter q l)
keep_wider p q [] h = omega arith
keep_wider p q (x ∷ l) h = go (two (p x)) (two (q x)) (keep_wider p q l h)
  where
    go : (p x ≡ true) ⊎ (p x ≡ false) → (q x ≡ true) ⊎ (q x ≡ false) → length (filter p l) ≤ length (filter q l) → length (filter p (x ∷ l)) ≤ length (filter q (x ∷ l))
    go (inl a) (inl b) r = rw (a, b) (omega arith)
    go (inl a) (inr b) r = absurd (not_both (h x a) b)
    go (inr a) (inl b) r = rw (a, b) (omega arith)
    go (inr a) (inr b) r = rw (a, b) r

keep_more : {A : Type 0} (p q : A → Bool) (l : List A) → ((x : A) → p x ≡ true → q x ≡ true) → {y : A} → Mem y l → p y ≡ false → q y ≡ true → length (filter p l) + 1 ≤ length (filter q l)
keep_more {A = A} p q [] h {y = y} x4 f g = elim x4 [ ]
keep_more p q (x ∷ l) h (m_head e) f g = rw (sym (ap p e) ∙ f, sym (ap q e) ∙ g) (omega (arith, keep_wider p q l h))
keep_more p q (x ∷ l) h (m_tail m) f g = go (two (p x)) (two (q x)) (keep_more p q l h m f g)
  where
    go : (p x ≡ true) ⊎ (p x ≡ false) → (q x ≡ true) ⊎ (q x ≡ false) → length (filter p l) + 1 ≤ length (filter q l) → length (filter p (x ∷ l)) + 1 ≤ length (filter q (x ∷ l))
    go (inl a) (inl b) r = rw (a, b) (omega arith)
    go (inl a) (inr b) r = absurd (not_both (h x a) b)
    go (inr a) (inl b) r = rw (a, b) (omega arith)
    go (inr a) (inr b) r = rw (a, b) r

-- one number more
keep_add : (A : ℕ → Bool) (v : ℕ) (l : List ℕ) → Distinct l → length (filter (λ n. A n || eqb n v) l) ≤ length (filter A l) + 1
keep_add A v [] d = omega arith
keep_add A v (x ∷ l) d = go (two (A x)) (two (eqb x v)) (keep_add A v l d.1)
  where
    go : (A x ≡ true) ⊎ (A x ≡ false) → (eqb x v ≡ true) ⊎ (eqb x v ≡ false) → length (filter (λ n. A n || eqb n v) l) ≤ length (filter A l) + 1 → length (filter (λ n. A n || eqb n v) (x ∷ l)) ≤ length (filter A (x ∷ l)) + 1
    go (inl a) b r = simp a (omega arith)
    go (inr a) (inr b) r = simp (a, b) r
    go (inr a) (inl b) r =
        let same : filter (λ n. A n || eqb n v) l ≡ filter A l = keep_same (λ n. A n || eqb n v) A l (λ y m. each y m (two (A y))) in
        simp (a, b) (omega (arith, ap length same))
      where
        each : (y : ℕ) → Mem y l → (A y ≡ true) ⊎ (A y ≡ false) → (A y || eqb y v) ≡ A y
        each y m (inl k) = rw k
        each y m (inr k) = rw (k, eqb_no {a = y} {b = v} (λ e. d.0 (mem_cast (eqb-true x v b ∙ sym e) m)))

abbrev pub inside : (ℕ → Bool) → Bond → Bool
inside A b = both (A b.u) (A b.v)

abbrev pub Crossed : List ℕ → List Bond → Type 0
Crossed ns bs = (S : ℕ → Bool) (p q : ℕ) → Mem p ns → Mem q ns → S p ≡ true → S q ≡ false → (x : Bond) × Mem x (arcs bs) × (S x.u ≡ true) × (S x.v ≡ false)

pub arc_bond : (bs : List Bond) {x : Bond} → Mem x (arcs bs) → Mem x bs ⊎ Mem (turn x) bs
arc_bond [] {x = x} x3 = elim x3 [ ]
arc_bond (b ∷ bs) (m_head e) = inl (m_head e)
arc_bond (b ∷ bs) (m_tail (m_head e)) = inr (m_head (ap turn e))
arc_bond (b ∷ bs) {x} (m_tail (m_tail m)) = go (arc_bond bs m)
  where
    go : Mem x bs ⊎ Mem (turn x) bs → Mem x (b ∷ bs) ⊎ Mem (turn x) (b ∷ bs)
    go (inl i) = inl (m_tail i)
    go (inr i) = inr (m_tail i)

-- a set of atoms grows by a bond that leaves it: bonds inside less atoms never falls
module _ (ns : List ℕ) (bs : List Bond) (d : Distinct ns) (ends : (x : Bond) → Mem x (arcs bs) → Mem x.u ns × Mem x.v ns) (linked : Crossed ns bs) where
  grows : (k : ℕ) (A : ℕ → Bool) (p : ℕ) → Mem p ns → A p ≡ true → length (filter (λ n. not (A n)) ns) ≤ k → length (filter (inside A) bs) + length ns ≤ length bs + length (filter A ns)
  grows zero A p i h l = omega (arith, keep_le (inside A) bs, perm_length (keep_split A ns), length-append (filter (λ n. not (A n)) ns) (filter A ns))
  grows (suc k) A p i h l = go (filter (λ n. not (A n)) ns) refl (λ B. grows k B p i)
    where
      go : (out : List ℕ) → filter (λ n. not (A n)) ns ≡ out → ((B : ℕ → Bool) → B p ≡ true → length (filter (λ n. not (B n)) ns) ≤ k → length (filter (inside B) bs) + length ns ≤ length bs + length (filter B ns))
          → length (filter (inside A) bs) + length ns ≤ length bs + length (filter A ns)
      go [] e r = omega (arith, keep_le (inside A) bs, perm_length (keep_split A ns), length-append (filter (λ n. not (A n)) ns) (filter A ns), ap length e)
      go (q ∷ out) e r =
          let w : Mem q (filter (λ n. not (A n)) ns) = rw e (m_head refl) in
          let (j, f) = keep_mem (λ n. not (A n)) ns w in
          let (x, m, g, o) = linked A p q i j h (not-true (A q) f) in
          let B : ℕ → Bool = λ n. A n || eqb n x.v in
          let at_v : B x.v ≡ true = or_right (A x.v) (eqb x.v x.v) (eqb_yes {a = x.v} refl) in
          let wider : (b : Bond) → inside A b ≡ true → inside B b ≡ true =
          λ b z. both_true (B b.u) (B b.v) (or_left (A b.u) (eqb b.u x.v) (and_true (A b.u) (A b.v) z).0) (or_left (A b.v) (eqb b.v x.v) (and_true (A b.u) (A b.v) z).1) in
          let bonds_up : length (filter (inside A) bs) + 1 ≤ length (filter (inside B) bs) = up x g o (arc_bond bs m) wider (or_left (A x.u) (eqb x.u x.v) g) at_v in
          let atoms_up : length (filter A ns) + 1 ≤ length (filter B ns) = keep_more A B ns (λ n z. or_left (A n) (eqb n x.v) z) (ends x m).1 o at_v in
          let s₁ : length ns ≡ length (filter (λ n. not (A n)) ns) + length (filter A ns) = perm_length (keep_split A ns) ∙ length-append (filter (λ n. not (A n)) ns) (filter A ns) in
          let s₂ : length ns ≡ length (filter (λ n. not (B n)) ns) + length (filter B ns) = perm_length (keep_split B ns) ∙ length-append (filter (λ n. not (B n)) ns) (filter B ns) in
          let ih : length (filter (inside B) bs) + length ns ≤ length bs + length (filter B ns) = r B (or_left (A p) (eqb p x.v) h) (omega arith) in
          omega (arith, keep_add A x.v ns d)
        where
          up : (x : Bond) → A x.u ≡ true → A x.v ≡ false → Mem x bs ⊎ Mem (turn x) bs → ((b : Bond) → inside A b ≡ true → inside (λ n. A n || eqb n x.v) b ≡ true)
              → (A x.u || eqb x.u x.v) ≡ true → (A x.v || eqb x.v x.v) ≡ true → length (filter (inside A) bs) + 1 ≤ length (filter (inside (λ n. A n || eqb n x.v)) bs)
          up x g o (inl m) w y z = keep_more (inside A) (inside (λ n. A n || eqb n x.v)) bs w m (rw (g, o)) (both_true (A x.u || eqb x.u x.v) (A x.v || eqb x.v x.v) y z)
          up x g o (inr m) w y z = keep_more (inside A) (inside (λ n. A n || eqb n x.v)) bs w m (rw o) (both_true (A x.v || eqb x.v x.v) (A x.u || eqb x.u x.v) z y)

  pub inside_bound : (A : ℕ → Bool) (p : ℕ) → Mem p ns → A p ≡ true → length (filter (inside A) bs) + length ns ≤ length bs + length (filter A ns)
  inside_bound A p i h = grows (length (filter (λ n. not (A n)) ns)) A p i h (omega arith)
