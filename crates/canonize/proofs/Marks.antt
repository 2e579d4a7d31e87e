-- Own strings: an atom's element code, followed by its class when that is not 1. They are balanced, and say element and class. Assumes nothing.
use mathlib.Core.Path.{◌≡◌, refl, sym, ap, ap₂, ◌∙◌}
use mathlib.Core.Logic.{◌⊎◌, inl, inr, ◌≢◌}
use mathlib.Core.Bool.{Bool, not}
use mathlib.Core.List.{List, [], ◌∷◌, head-eq_of_cons-eq, tail-eq_of_cons-eq}
use Prim.Native.Nat.{ℕ, ◌+◌, ◌≤◌}
use native.Mathlib.Omega.{arith}
use native.Mathlib.Decide.{ℕ_discrete}
use lib.ListN.{length}
use borrow.Author.Tests.{ne_eqb}
use Rattle.molecule.specs.Lists.{Bytes, pick, filter}
use Rattle.molecule.specs.Record.{element, class}
use Rattle.canonize.specs.Label.{marks, own, own_string}
use Rattle.canonize.proofs.Wrapping.{done, free}
use Rattle.canonize.proofs.RoseTrees.{Code, SmallString}

module _ (e c : ℕ) where
  -- the two cases
  pub own_natural : c ≡ 1 → own e c ≡ e ∷ []
  unfolding own
  own_natural h = ap (own e) h

  pub own_marked : c ≢ 1 → own e c ≡ e ∷ c ∷ []
  unfolding own
  own_marked h = ap (λ (b : Bool). e ∷ pick (not b) (c ∷ []) []) (ne_eqb c 1 h)

  pub own_some : 1 ≤ length (own e c)
  unfolding own
  own_some = omega arith

  pub class_cases : (c ≡ 1) ⊎ (c ≢ 1)
  class_cases = elim (ℕ_discrete c 1) [ yes h ↦ inl h | no h ↦ inr h ]

  pub own_small : Code e → Code c → SmallString (own e c)
  own_small p q = go class_cases
    where
      go : (c ≡ 1) ⊎ (c ≢ 1) → SmallString (own e c)
      go (inl h) = rw (own_natural h) (record { some = omega arith; short = omega arith; balanced = free p.0 p.1 done })
      go (inr h) = rw (own_marked h) (record { some = omega arith; short = omega arith; balanced = free p.0 p.1 (free q.0 q.1 done) })

-- own strings are equal just where elements and classes are
module _ (e c f d : ℕ) where
  pub own_equal : e ≡ f → c ≡ d → own e c ≡ own f d
  own_equal = ap₂ own

  pub own_element : own e c ≡ own f d → e ≡ f
  unfolding own
  own_element h = head-eq_of_cons-eq h

  pub own_class : own e c ≡ own f d → c ≡ d
  own_class h = go (class_cases e c) (class_cases f d)
    where
      go : (c ≡ 1) ⊎ (c ≢ 1) → (d ≡ 1) ⊎ (d ≢ 1) → c ≡ d
      go (inl a) (inl b) = a ∙ sym b
      go (inl a) (inr b) = absurd (omega (arith, ap length (sym (own_natural e c a) ∙ h ∙ own_marked f d b)))
      go (inr a) (inl b) = absurd (omega (arith, ap length (sym (own_marked e c a) ∙ h ∙ own_natural f d b)))
      go (inr a) (inr b) = head-eq_of_cons-eq (tail-eq_of_cons-eq (sym (own_marked e c a) ∙ h ∙ own_marked f d b))

-- the bytes of the own strings of atoms
unfoldable pub own_of : (ℕ → List ℕ) → List ℕ → ℕ
own_of kind [] = 0
own_of kind (n ∷ ns) = length (kind n) + own_of kind ns

-- one for each atom, and one more for each that is marked
pub own_count : (r : Bytes) (ns : List ℕ) → own_of (own_string r) ns ≡ length ns + length (filter (λ v. marks (class r v)) ns)
unfolding own_of
own_count r [] = refl
own_count r (v ∷ ns) = go (class_cases (element r v) (class r v)) (own_count r ns)
  where
    go : (class r v ≡ 1) ⊎ (class r v ≢ 1) → own_of (own_string r) ns ≡ length ns + length (filter (λ u. marks (class r u)) ns)
        → length (own_string r v) + own_of (own_string r) ns ≡ length (v ∷ ns) + length (filter (λ u. marks (class r u)) (v ∷ ns))
    go (inl e) h = rw (own_natural (element r v) (class r v) e, e) (omega arith)
    go (inr n) h = rw (own_marked (element r v) (class r v) n, ne_eqb (class r v) 1 n) (omega arith)
