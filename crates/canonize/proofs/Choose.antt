-- The atoms that a list of bonds touches.
use borrow.Author.Tests.{eqb-true, le-ltb, lt-ltb}
use mathlib.Core.Path.{◌≡◌, refl, sym, ap}
use mathlib.Core.Bool.{true, not}
use mathlib.Core.List.Memᴰ.{head as m_head}
use mathlib.Core.List.{List, [], ◌∷◌, Memᴰ as Mem}
use Prim.Native.Nat.{ℕ, zero, suc, ◌≤◌}
use native.Mathlib.Omega.{arith}
use lib.ListN.{length}
use lib.Dec.{eqb, ltb}
use Rattle.molecule.proofs.Perms.{not_both, mem_some, keep_mem, keep_intro, eqb_yes, eqb_no}
use Rattle.canonize.specs.Fragment.{Bond, arcs, degree, more, touched_by}
use Rattle.molecule.specs.Lists.{filter}
use Rattle.canonize.proofs.Rounds.{Treelike}

-- an atom that a bond touches: one of the atoms, and an arc leads to it
pub touched_has : (bs : List Bond) (ns : List ℕ) {n : ℕ} → Mem n ns → (x : Bond) → Mem x (arcs bs) → x.v ≡ n → Mem n (touched_by bs ns)
touched_has bs ns {n} i x m e = keep_intro (λ (n : ℕ). not (eqb (degree (arcs bs) n) 0)) ns i
    (ap not (eqb_no {a = degree (arcs bs) n} {b = 0} (λ z. absurd (omega (arith, mem_some (filter (λ (y : Bond). eqb y.v n) (arcs bs)) (keep_intro (λ (y : Bond). eqb y.v n) (arcs bs) m (eqb_yes e)))))))

pub touched_in : (bs : List Bond) (ns : List ℕ) {n : ℕ} → Mem n (touched_by bs ns) → Mem n ns × ((x : Bond) × Mem x (arcs bs) × (x.v ≡ n))
touched_in bs ns {n} m =
    let (i, e) = keep_mem (λ (n : ℕ). not (eqb (degree (arcs bs) n) 0)) ns m in
    (i, some (filter (λ (x : Bond). eqb x.v n) (arcs bs)) refl (not_zero (degree (arcs bs) n) e))
  where
    not_zero : (k : ℕ) → not (eqb k 0) ≡ true → 1 ≤ k
    not_zero zero e = absurd (not_both e (ap not (eqb_yes {a = 0} refl)))
    not_zero (suc k) e = omega arith

    some : (l : List Bond) → filter (λ (x : Bond). eqb x.v n) (arcs bs) ≡ l → 1 ≤ length l → (x : Bond) × Mem x (arcs bs) × (x.v ≡ n)
    some [] e h = absurd (omega arith)
    some (x ∷ l) e h =
        let w : Mem x (filter (λ (x : Bond). eqb x.v n) (arcs bs)) = rw e (m_head refl) in
        let (i, f) = keep_mem (λ (x : Bond). eqb x.v n) (arcs bs) w in
        (x, i, eqb-true x.v n f)

-- in a tree more than two atoms are left while more than one bond is
pub more_bonds : (ns : List ℕ) (bs : List Bond) → Treelike ns bs → more ns ≡ ltb 1 (length bs)
more_bonds [] bs t = absurd (omega (arith, t.count))
more_bonds (a ∷ []) bs t = sym (le-ltb 1 (length bs) (omega (arith, t.count)))
more_bonds (a ∷ b ∷ []) bs t = sym (le-ltb 1 (length bs) (omega (arith, t.count)))
more_bonds (a ∷ b ∷ c ∷ r) bs t = sym (lt-ltb 1 (length bs) (omega (arith, t.count)))
