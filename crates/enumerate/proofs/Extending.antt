-- Extending parents: a bond at a time, and a parent at a time. Assumes nothing.
use Rattle.std.proofs.Common.{◌≡◌, refl, sym, ap, ◌∙◌, List, [], ◌∷◌, map, ℕ, ◌+◌, ◌^◌, ◌≤◌, ◌<◌, add-one, arith, bit_or, length, get_or, Some, None}
use Rattle.std.specs.Int.Bits.{or_disjoint}
use Rattle.std.proofs.Math.Seq.{slice, slice-cons, slice_empty}
use Rattle.bitset.specs.Bits.{bit, Sub, members}
use Rattle.bitset.proofs.Laws.{members_done}
use Rattle.bitset.proofs.Members.{sub_in, one_is, apart_of}
use Rattle.molecule.specs.Lists.{fold}
use Rattle.molecule.specs.Touch.{around}
use Rattle.molecule.proofs.Growing.{around_in}
use Rattle.matches.specs.Table.{note}
use Rattle.enumerate.specs.Inner.Bucketed.{Bucketed, Spared, Collected, grown, grown_by}
use Rattle.enumerate.proofs.Chains.{note_length, spared_then}

-- ---- the list never gets shorter

notes_length : (l xs : List ℕ) → length l ≤ length (fold note l xs)
notes_length l [] = omega arith
notes_length l (x ∷ xs) = omega (arith, note_length l x, notes_length (note l x) xs)

module _ (near : ℕ → ℕ) where
  pub grown_length : (l : List ℕ) (s : ℕ) → length l ≤ length (grown near l s)
  unfolding grown
  grown_length l s = notes_length l (map (λ b. s + 2 ^ b) (members (around near s)))

  grown_by_length : (l parents : List ℕ) → length l ≤ length (grown_by near l parents)
  unfolding grown_by
  grown_by_length l [] = omega arith
  grown_by_length l (s ∷ parents) = omega (arith, grown_length l s, grown_by_length (grown near l s) parents)

  -- a set with a bond that touches it
  pub with_bond : (s rest b : ℕ) → Sub rest (around near s) → bit rest b ≡ 1 → bit_or s (2 ^ b) ≡ s + 2 ^ b
  with_bond s rest b h k =
      let out = around_in near s b (sub_in rest (around near s) h b k) in
      or_disjoint s (2 ^ b) (apart_of s (2 ^ b) (λ i g j. omega (arith, g, out.3, ap (bit s) (one_is b i j))))

  -- ---- a bond at a time

  -- the candidates were l; the bonds of rest are still to be added to the parent
  pub record Extending (parent : ℕ) (l now : List ℕ) (p rest k : ℕ) : Type 0 where
    pub list : List ℕ
    pub found : Bucketed now p list
    pub count : length list ≡ k
    pub left : fold note list (map (λ b. parent + 2 ^ b) (members rest)) ≡ grown near l parent

  module _ {parent : ℕ} {l : List ℕ} where
    pub extending_start : {now : List ℕ} {p k : ℕ} → Bucketed now p l → length l ≡ k → Extending parent l now p (around near parent) k
    unfolding grown
    extending_start f e = record { list = l; found = f; count = e; left = refl }

    module _ {old : List ℕ} {p rest k : ℕ} (w : Extending parent l old p rest k) where
      -- bond b is the next; x is the parent with it
      module _ (b next x : ℕ) (m : members rest ≡ b ∷ members next) (e : x ≡ parent + 2 ^ b) (now : List ℕ) where
        then_left : fold note (note w.list x) (map (λ b. parent + 2 ^ b) (members next)) ≡ grown near l parent
        then_left = rw e (ap (λ (bs : List ℕ). fold note w.list (map (λ b. parent + 2 ^ b) bs)) (sym m) ∙ w.left)

        pub extending_next : (n : ℕ) → ((l : List ℕ) → Bucketed old p l → length l ≡ k → Collected now p (note l x) (Some n)) → Extending parent l now p next n
        extending_next n q = let c = q w.list w.found w.count in record { list = note w.list x; found = c.0; count = c.1; left = then_left }

        pub extending_over : ((l : List ℕ) → Bucketed old p l → length l ≡ k → Collected now p (note l x) None) → Collected now p (grown near l parent) None
        extending_over q =
            omega (arith, q w.list w.found w.count, notes_length (note w.list x) (map (λ b. parent + 2 ^ b) (members next)), ap (λ (y : List ℕ). length y) then_left)

      pub extending_done : rest ≡ 0 → Collected old p (grown near l parent) (Some k)
      extending_done e =
          let z : w.list ≡ grown near l parent = ap (λ (bs : List ℕ). fold note w.list (map (λ b. parent + 2 ^ b) bs)) (sym (members_done rest e)) ∙ w.left in
          rw (← z) (w.found, w.count)

  -- ---- a parent at a time

  -- the nodes x to to - 1 are still to be extended
  pub record Collecting (old now : List ℕ) (p from to x k : ℕ) : Type 0 where
    pub list : List ℕ
    pub found : Bucketed now p list
    pub count : length list ≡ k
    pub kept : Spared old now p
    pub left : grown_by near list (slice x to old) ≡ grown_by near [] (slice from to old)

  module _ {old : List ℕ} {p from to : ℕ} where
    pub collecting_start : {now : List ℕ} → Bucketed now p [] × Spared old now p → Collecting old now p from to from 0
    collecting_start f = record { list = []; found = f.0; count = refl; kept = f.1; left = refl }

    module _ {now : List ℕ} {x k : ℕ} (w : Collecting old now p from to x k) where
      -- node x is extended
      module _ (h : x < to) (g : to ≤ p) (then : List ℕ) (kept : Spared now then p) where
        parent : get_or now x 0 ≡ get_or old x 0
        parent = w.kept.nodes x (omega arith)

        on_left : grown_by near (grown near w.list (get_or now x 0)) (slice (x + 1) to old) ≡ grown_by near [] (slice from to old)
        unfolding grown_by
        on_left = rw (parent, add-one x) (ap (grown_by near w.list) (sym (slice-cons x to old 0 h (omega (arith, w.found.wide, w.kept.long)))) ∙ w.left)

        pub collecting_next : (n : ℕ) → ((l : List ℕ) → Bucketed now p l → length l ≡ k → Collected then p (grown near l (get_or now x 0)) (Some n))
            → Collecting old then p from to (x + 1) n
        collecting_next n q =
            let c = q w.list w.found w.count in
            record { list = grown near w.list (get_or now x 0); found = c.0; count = c.1; kept = spared_then w.kept kept; left = on_left }

        pub collecting_over : ((l : List ℕ) → Bucketed now p l → length l ≡ k → Collected then p (grown near l (get_or now x 0)) None)
            → Spared old then p × Collected then p (grown_by near [] (slice from to old)) None
        collecting_over q = (
          spared_then w.kept kept,
          omega (arith, q w.list w.found w.count, grown_by_length (grown near w.list (get_or now x 0)) (slice (x + 1) to old), ap (λ (y : List ℕ). length y) on_left),
        )

      pub collecting_done : x ≡ to → Spared old now p × Collected now p (grown_by near [] (slice from to old)) (Some k)
      unfolding grown_by
      collecting_done e =
          let n : slice x to old ≡ [] = rw e (slice_empty to old) in
          let z : w.list ≡ grown_by near [] (slice from to old) = ap (grown_by near w.list) (sym n) ∙ w.left in
          (w.kept, rw (← z) (w.found, w.count))
