-- The two lists that are computed once for a record: the bonds at each atom, and the bonds that touch each bond. Assumes nothing.
use mathlib.Core.Path.{◌≡◌, refl, sym, ap, ◌∙◌}
use mathlib.Core.Logic.{◌⊎◌, inl, inr, ◌≢◌}
use mathlib.Core.Bool.{true, false}
use mathlib.Core.List.{List}
use Prim.Native.Nat.{ℕ, ◌+◌, ◌^◌, ◌≤◌, ◌<◌}
use native.Mathlib.Omega.{arith}
use native.Mathlib.Nat.{zero-add}
use native.Mathlib.Decide.{ℕ_discrete}
use lib.Bits.{bit_or}
use lib.Dec.{ltb, eqb}
use lib.ListN.{length, replicate, get_or, set, length-set}
use lib.Seq.{ext_get_or, get_or-set_same, get_or-set_other}
use borrow.Author.Tests.{ltb-true, ltb-false, eq-eqb, ne_eqb}
use Rattle.bitset.specs.Bits.{set_of}
use Rattle.bitset.proofs.Bools.{two, or_left, or_right}
use Rattle.bitset.proofs.Members.{set_of_none, set_of_next, set_of_skip}
use Rattle.molecule.specs.Lists.{Bytes}
use Rattle.molecule.specs.Record.{bonds, end_a, end_b}
use Rattle.molecule.specs.Touch.{is_end, bonds_at, touching, bonds_at_words, touching_words}
use Rattle.molecule.proofs.Lists.{length_list, list_at, zeros_at}

module _ (r : Bytes) where
  -- ---- the bonds at each atom

  pub atoms_at : (v : ℕ) → v < 72 → get_or (bonds_at_words r) v 0 ≡ bonds_at r v
  unfolding bonds_at_words
  atoms_at v h = list_at (bonds_at r) 0 72 v 0 h ∙ ap (bonds_at r) (zero-add v)

  -- the list l, of 72 words, has the first i bonds
  pub record AtomsUpTo (i : ℕ) (l : List ℕ) : Type 0 where
    pub long : length l ≡ 72
    pub each : (v : ℕ) → v < 72 → get_or l v 0 ≡ set_of (is_end r v) i

  -- at the loop's start, and at its end
  pub atoms_start : AtomsUpTo 0 (replicate 72 0)
  atoms_start = record { long = refl; each = λ v h. zeros_at 72 v ∙ sym (set_of_none (is_end r v)) }

  pub atoms_are : (l : List ℕ) → AtomsUpTo (bonds r) l → l ≡ bonds_at_words r
  unfolding bonds_at_words bonds_at
  atoms_are l w = ext_get_or 0 l (bonds_at_words r) (w.long ∙ sym (length_list (bonds_at r) 0 72)) (λ v h. w.each v (omega (arith, w.long)) ∙ sym (atoms_at v (omega (arith, w.long))))

  -- bond i is put at its two ends
  module _ (i : ℕ) (l : List ℕ) (w : AtomsUpTo i l) (ha : end_a r i < 72) (hb : end_b r i < 72) (apart : end_a r i ≢ end_b r i) where
    abbrev once : List ℕ
    once = set l (end_a r i) (bit_or (get_or l (end_a r i) 0) (2 ^ i))

    abbrev twice : List ℕ
    twice = set once (end_b r i) (bit_or (get_or once (end_b r i) 0) (2 ^ i))

    an_end : (v : ℕ) → v < 72 → is_end r v i ≡ true → bit_or (get_or l v 0) (2 ^ i) ≡ set_of (is_end r v) (i + 1)
    an_end v h e = ap (λ (x : ℕ). bit_or x (2 ^ i)) (w.each v h) ∙ sym (set_of_next (is_end r v) i e)

    at_a : get_or twice (end_a r i) 0 ≡ set_of (is_end r (end_a r i)) (i + 1)
    unfolding is_end
    at_a =
        get_or-set_other once (end_b r i) (end_a r i) (bit_or (get_or once (end_b r i) 0) (2 ^ i)) 0 apart
        ∙ get_or-set_same l (end_a r i) (bit_or (get_or l (end_a r i) 0) (2 ^ i)) 0 (omega (arith, w.long))
        ∙ an_end (end_a r i) ha (or_left (eqb (end_a r i) (end_a r i)) (eqb (end_b r i) (end_a r i)) (eq-eqb (end_a r i) (end_a r i) refl))

    at_b : get_or twice (end_b r i) 0 ≡ set_of (is_end r (end_b r i)) (i + 1)
    unfolding is_end
    at_b =
        get_or-set_same once (end_b r i) (bit_or (get_or once (end_b r i) 0) (2 ^ i)) 0 (omega (arith, w.long, length-set l (end_a r i) (bit_or (get_or l (end_a r i) 0) (2 ^ i))))
        ∙ ap (λ (x : ℕ). bit_or x (2 ^ i)) (get_or-set_other l (end_a r i) (end_b r i) (bit_or (get_or l (end_a r i) 0) (2 ^ i)) 0 (λ e. apart (sym e)))
        ∙ an_end (end_b r i) hb (or_right (eqb (end_a r i) (end_b r i)) (eqb (end_b r i) (end_b r i)) (eq-eqb (end_b r i) (end_b r i) refl))

    elsewhere : (v : ℕ) → v < 72 → v ≢ end_a r i → v ≢ end_b r i → get_or twice v 0 ≡ set_of (is_end r v) (i + 1)
    unfolding is_end
    elsewhere v h na nb =
        get_or-set_other once (end_b r i) v (bit_or (get_or once (end_b r i) 0) (2 ^ i)) 0 nb
        ∙ get_or-set_other l (end_a r i) v (bit_or (get_or l (end_a r i) 0) (2 ^ i)) 0 na
        ∙ w.each v h
        ∙ sym (set_of_skip (is_end r v) i (rw (ne_eqb (end_a r i) v (λ e. na (sym e)), ne_eqb (end_b r i) v (λ e. nb (sym e)))))

    pub atoms_next : AtomsUpTo (i + 1) twice
    atoms_next = record {
      long = length-set once (end_b r i) (bit_or (get_or once (end_b r i) 0) (2 ^ i)) ∙ length-set l (end_a r i) (bit_or (get_or l (end_a r i) 0) (2 ^ i)) ∙ w.long;
      each = λ v h. go v h (ℕ_discrete v (end_a r i)) (ℕ_discrete v (end_b r i));
    }
      where
        go : (v : ℕ) → v < 72 → Dec (v ≡ end_a r i) → Dec (v ≡ end_b r i) → get_or twice v 0 ≡ set_of (is_end r v) (i + 1)
        go v h (yes e) d = rw e at_a
        go v h (no n) (yes e) = rw e at_b
        go v h (no n) (no m) = elsewhere v h n m

  -- ---- the bonds that touch each bond

  -- the list l, of 64 words, has the bonds that touch the first i, and none for the rest
  pub record BondsUpTo (i : ℕ) (l : List ℕ) : Type 0 where
    pub long : length l ≡ 64
    pub each : (j : ℕ) → j < i → get_or l j 0 ≡ touching r j
    pub rest : (j : ℕ) → i ≤ j → get_or l j 0 ≡ 0

  -- at the loop's start, and at its end
  pub bonds_start : BondsUpTo 0 (replicate 64 0)
  bonds_start = record { long = refl; each = λ j h. absurd (omega arith); rest = λ j h. zeros_at 64 j }

  pub bonds_are : (l : List ℕ) → BondsUpTo (bonds r) l → l ≡ touching_words r
  unfolding touching_words
  bonds_are l w = ext_get_or 0 l (touching_words r) (w.long ∙ sym (length_list _ 0 64)) (λ i k. go i (omega (arith, w.long)) (two (ltb i (bonds r))))
    where
      go : (i : ℕ) → i < 64 → (ltb i (bonds r) ≡ true) ⊎ (ltb i (bonds r) ≡ false) → get_or l i 0 ≡ get_or (touching_words r) i 0
      go i h (inl e) = w.each i (ltb-true i (bonds r) e) ∙ sym (simp (list_at, zero-add, e))
      go i h (inr e) = w.rest i (ltb-false i (bonds r) e) ∙ sym (simp (list_at, zero-add, e))
