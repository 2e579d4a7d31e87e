-- The big components by the words, lists made piece by piece, and that what is made is what the definitions say. Assumes nothing.
use mathlib.Core.Path.{◌≡◌, refl, sym, ap, ◌∙◌}
use mathlib.Core.Logic.{◌⊎◌, inl, inr, ◌≢◌}
use mathlib.Core.Bool.{true, false}
use mathlib.Core.List.{List, [], ◌∷◌, ◌++◌, flat_map, append_assoc, append-nil, Memᴰ as Mem}
use Prim.Native.Nat.{ℕ, ◌+◌, ◌-◌, ◌*◌, ◌^◌, ◌≤◌, ◌<◌}
use native.Mathlib.Omega.{arith}
use native.Mathlib.Nat.{lt_of_not-le}
use native.Mathlib.Numerals.{add-one}
use lib.Bits.{bit_and, and_le_r}
use lib.Dec.{leb}
use lib.ListN.{length, get_or, take, drop, length-append}
use lib.Seq.{take_all, take-suc, drop-cons}
use borrow.Author.Tests.{leb-true, le-leb, lt-leb, eqb-true, eqb-false, eq-eqb, ne_eqb}
use Rattle.bitset.specs.Bits.{size, diff, low, is_disjoint, Lowest, WithoutLowest}
use Rattle.bitset.proofs.Bools.{two}
use Rattle.bitset.proofs.Laws.{size_empty, size_zero, size_mono, size_minus, low_bit}
use Rattle.bitset.proofs.Members.{diff_sub, not_empty}
use Rattle.bitset.proofs.Decide.{sets, v, and, less, sub, apart, is}
use Rattle.molecule.specs.Lists.{Bytes, filter}
use Rattle.molecule.specs.Touch.{parts, reach}
use Rattle.molecule.specs.Connected.{Own, Connected}
use Rattle.molecule.proofs.Growing.{lead, rest, rest_word, rest_less, reach_one, reach_sub, parts_by, parts_step, parts_none}
use Rattle.molecule.proofs.Components.{own_sub, components_self, components_words}
use Rattle.bounds.specs.Numbers.{sum_of}
use Rattle.matches.specs.Table.{Pair, size_of}
use Rattle.search.specs.Trail.{Trail, with_removal}
use Rattle.search.specs.State.{State, big_components, keep, remove, child}
use Rattle.search.proofs.Lists.{flat_same}
use Rattle.state.specs.Inner.Pieces.{big_parts, fallen, Big, Owned, OwnedFragments, Chosen}

-- ---- the big components

abbrev pub near : List ℕ → ℕ → ℕ
near touch i = get_or touch i 0

pub big_none : (touch : List ℕ) → big_parts touch 0 ≡ []
unfolding big_parts
big_none touch = rw (parts_none (near touch))

-- the first component is taken where it has two or more bonds, and else passed
pub big_take : (touch : List ℕ) (s : ℕ) → s ≢ 0 → s < 2 ^ 64 → 2 ≤ size (lead (near touch) s) → big_parts touch s ≡ lead (near touch) s ∷ big_parts touch (rest (near touch) s)
unfolding big_parts
big_take touch s n w h = rw (parts_step (near touch) s n w, le-leb 2 (size (lead (near touch) s)) h)

pub big_pass : (touch : List ℕ) (s : ℕ) → s ≢ 0 → s < 2 ^ 64 → size (lead (near touch) s) < 2 → big_parts touch s ≡ big_parts touch (rest (near touch) s)
unfolding big_parts
big_pass touch s n w h = rw (parts_step (near touch) s n w, lt-leb 2 (size (lead (near touch) s)) h)

-- what is left without the first component has so many bonds fewer
pub rest_size : (touch : List ℕ) (s : ℕ) → s ≢ 0 → s < 2 ^ 64 → size (rest (near touch) s) + size (lead (near touch) s) ≡ size s
rest_size touch s n w = size_minus s (lead (near touch) s) (reach_sub (near touch) s (low s) (low_bit 64 s (omega arith) w))

-- the first component has a bond; and whether it has two shows in it without its lowest
pub lead_some : (touch : List ℕ) (s : ℕ) → 0 < lead (near touch) s
lead_some touch s = omega (arith, not_empty (lead (near touch) s) (low s) (reach_one (near touch) s (low s)))

pub one_bond : (c r : ℕ) → WithoutLowest c r → r ≡ 0 → size c < 2
one_bond c r w e = omega (arith, w.fewer, ap size e, size_empty)

pub two_bonds : (c r : ℕ) → WithoutLowest c r → r ≢ 0 → 2 ≤ size c
two_bonds c r w n = lt_of_not-le (λ l. n (size_zero r (omega (arith, w.fewer))))

-- each has two bonds of s of its own
pub big_room : (touch : List ℕ) (s : ℕ) → s < 2 ^ 64 → 2 * length (big_parts touch s) ≤ size s
unfolding big_parts
big_room touch = parts_by (near touch) (λ s l. 2 * length (filter (λ c. leb 2 (size c)) l) ≤ size s) (omega arith) (λ s n w ih. go s n w ih (two (leb 2 (size (lead (near touch) s)))))
  where
    go : (s : ℕ) → s ≢ 0 → s < 2 ^ 64 → 2 * length (big_parts touch (rest (near touch) s)) ≤ size (rest (near touch) s)
        → (leb 2 (size (lead (near touch) s)) ≡ true) ⊎ (leb 2 (size (lead (near touch) s)) ≡ false)
        → 2 * length (filter (λ c. leb 2 (size c)) (lead (near touch) s ∷ parts (near touch) (rest (near touch) s))) ≤ size s
    go s n w ih (inl e) = rw e (omega (arith, rest_size touch s n w, leb-true 2 (size (lead (near touch) s)) e))
    go s n w ih (inr e) = rw e (omega (arith, rest_size touch s n w))

-- what two sets have in common is as few bonds as the first
pub common_size : (p kept : ℕ) → size (bit_and p kept) ≤ size p
common_size p kept = size_mono (bit_and p kept) p (sets [] (sub (and (v 0) (v 1)) (v 0)) (p ∷ kept ∷ []) tt)

pub common_room : (touch : List ℕ) (p kept : ℕ) → bit_and p kept < 2 ^ 64 → 2 * length (big_parts touch (bit_and p kept)) ≤ size p
common_room touch p kept w = omega (arith, big_room touch (bit_and p kept) w, common_size p kept)

-- by the words of the record they are its big components
pub big_words : (bytes : Bytes) (touch pieces : List ℕ) (s : ℕ) → Owned bytes touch pieces → Own bytes s → big_parts touch s ≡ big_components bytes s
unfolding big_parts big_components
big_words bytes touch pieces s w o = rw w.words (ap (filter (λ c. leb 2 (size c))) (components_words bytes w.few s o))

-- a connected set of two or more bonds is its only one
pub big_self : (bytes : Bytes) (touch pieces : List ℕ) (p : ℕ) → Owned bytes touch pieces → Own bytes p → Connected bytes p → 2 ≤ size p → big_components bytes p ≡ p ∷ []
unfolding big_components
big_self bytes touch pieces p w o k h = rw (components_self bytes w.few p o k, le-leb 2 (size p) h)

-- ---- the big components added one by one

-- the big components of s that are found are added to the words of old; what is left of s has the others, and there is room for them
pub record Pushing (touch : List ℕ) (s n : ℕ) (old now : List ℕ) (left : ℕ) : Type 0 where
  pub room : 2 * length now + size left ≤ 2 * n
  pub word : left < 2 ^ 64
  pub total : now ++ big_parts touch left ≡ old ++ big_parts touch s

module _ {touch : List ℕ} {s n : ℕ} {old now : List ℕ} {left : ℕ} (p : Pushing touch s n old now left) where
  -- the component c of the lowest bond i of what is left is passed, or added
  module _ (some : left ≢ 0) {i c : ℕ} (low : Lowest left i) (leads : c ≡ reach (near touch) left (2 ^ i)) where
    is_lead : c ≡ lead (near touch) left
    is_lead = rw (leads, low.is)

    pub pushing_some : 0 < c
    pushing_some = rw is_lead (lead_some touch left)

    -- d is left then
    module _ {d : ℕ} (rests : d ≡ diff left c) where
      is_rest : d ≡ rest (near touch) left
      is_rest = rw (rests, is_lead)

      pub pushing_less : size d < size left
      pushing_less = rw is_rest (rest_less (near touch) left some p.word)

    module _ {e : ℕ} (w : WithoutLowest c e) where
      two_lead : e ≢ 0 → 2 ≤ size (lead (near touch) left)
      two_lead z = rw is_lead at (two_bonds c e w z)

      pub pushing_room : e ≢ 0 → length now < n
      pushing_room z = omega (arith, p.room, two_lead z, rest_size touch left some p.word)

      module _ {d : ℕ} (rests : d ≡ diff left c) where
        pub pushing_pass : e ≡ 0 → Pushing touch s n old now d
        pushing_pass z =
            let one : size (lead (near touch) left) < 2 = rw is_lead at (one_bond c e w z) in
            rw (is_rest rests) (record {
              room = omega (arith, p.room, rest_less (near touch) left some p.word);
              word = rest_word (near touch) left p.word;
              total = rw (← big_pass touch left some p.word one) p.total;
            })

        pub pushing_take : {then : List ℕ} → e ≢ 0 → then ≡ now ++ (c ∷ []) → Pushing touch s n old then d
        pushing_take z added = rw (added, is_rest rests, is_lead) (record {
          room = omega (arith, p.room, two_lead z, rest_size touch left some p.word, length-append now (lead (near touch) left ∷ []));
          word = rest_word (near touch) left p.word;
          total = append_assoc now (lead (near touch) left ∷ []) (big_parts touch (rest (near touch) left)) ∙ ap (λ (l : List ℕ). now ++ l) (sym (big_take touch left some p.word (two_lead z))) ∙ p.total;
        })

  pub pushing_done : left ≡ 0 → now ≡ old ++ big_parts touch s
  pushing_done z = sym (append-nil now) ∙ ap (λ (l : List ℕ). now ++ l) (sym (ap (big_parts touch) z ∙ big_none touch)) ∙ p.total

-- ---- without the bonds gone

pub apart_size : (p gone : ℕ) → bit_and p gone ≡ 0 → (diff p gone ≡ p) × (size (diff p gone) ≡ size p)
apart_size p gone e =
    let d : diff p gone ≡ p = sets (apart (v 0) (v 1) ∷ []) (is (less (v 0) (v 1)) (v 0)) (p ∷ gone ∷ []) tt e in
    (d, ap size d)

pub fallen_same : (touch : List ℕ) (gone p : ℕ) → bit_and p gone ≡ 0 → fallen touch gone p ≡ p ∷ []
unfolding fallen
fallen_same touch gone p e = rw (eq-eqb (bit_and p gone) 0 e)

pub fallen_less : (touch : List ℕ) (gone p : ℕ) → bit_and p gone ≢ 0 → fallen touch gone p ≡ big_parts touch (diff p gone)
unfolding fallen
fallen_less touch gone p n = rw (ne_eqb (bit_and p gone) 0 n)

pub fallen_room : (touch : List ℕ) (gone p : ℕ) → p < 2 ^ 64 → 2 ≤ size p → 2 * length (fallen touch gone p) ≤ size (diff p gone)
fallen_room touch gone p w h = go (two (is_disjoint p gone))
  where
    go : (is_disjoint p gone ≡ true) ⊎ (is_disjoint p gone ≡ false) → 2 * length (fallen touch gone p) ≤ size (diff p gone)
    go (inl e) = let z : bit_and p gone ≡ 0 = eqb-true (bit_and p gone) 0 e in rw (fallen_same touch gone p z) (omega (arith, (apart_size p gone z).1))
    go (inr e) = rw (fallen_less touch gone p (eqb-false (bit_and p gone) 0 e)) (big_room touch (diff p gone) (omega (arith, and_le_r (diff p gone) p, diff_sub p gone)))

-- ---- lists made piece by piece

module _ {A B : Type 0} where
  pub flat_append : (f : A → List B) (k l : List A) → flat_map f (k ++ l) ≡ flat_map f k ++ flat_map f l
  unfolding flat_map
  flat_append f [] l = refl
  flat_append f (x ∷ k) l = ap (λ (z : List B). f x ++ z) (flat_append f k l) ∙ sym (append_assoc (f x) (flat_map f k) (flat_map f l))

pub flat_next : (f : ℕ → List ℕ) (l : List ℕ) (i : ℕ) → i < length l → flat_map f (take (i + 1) l) ≡ flat_map f (take i l) ++ f (get_or l i 0)
unfolding flat_map
flat_next f l i h = rw (add-one, take-suc l i 0 h, flat_append f (take i l) (get_or l i 0 ∷ []), append-nil)

pub sum_next : (w : ℕ → ℕ) (l : List ℕ) (i : ℕ) → i < length l → sum_of w (drop i l) ≡ w (get_or l i 0) + sum_of w (drop (i + 1) l)
sum_next w l i h = rw (add-one, drop-cons l i 0 h)

-- what is left of piece p with the bonds of kept alone, and how many bonds it has without those struck
abbrev pub left : List ℕ → ℕ → ℕ → List ℕ
left touch kept p = big_parts touch (bit_and p kept)

abbrev pub room : ℕ → ℕ → ℕ
room struck p = size (diff p struck)

-- what f says of the first i of the pieces l is in the list; what w says of each is room enough for the others, and spare is left over
pub record Written (f : ℕ → List ℕ) (w : ℕ → ℕ) (spare n : ℕ) (l now : List ℕ) (i : ℕ) : Type 0 where
  pub within : i ≤ length l
  pub is : now ≡ flat_map f (take i l)
  pub room : 2 * length now + (sum_of w (drop i l) + spare) ≤ 2 * n

pub written_start : (f : ℕ → List ℕ) (w : ℕ → ℕ) (spare n : ℕ) (l now : List ℕ) → now ≡ [] → sum_of w l + spare ≤ 2 * n → Written f w spare n l now 0
unfolding flat_map
written_start f w spare n l now e h = record { within = omega arith; is = e; room = omega (arith, ap length e) }

module _ {f : ℕ → List ℕ} {w : ℕ → ℕ} {spare n : ℕ} {l now : List ℕ} {i : ℕ} (s : Written f w spare n l now i) where
  pub written_room : i < length l → 2 * length now + (w (get_or l i 0) + spare) ≤ 2 * n
  written_room h = omega (arith, s.room, sum_next w l i h)

  pub written_next : (then : List ℕ) → i < length l → then ≡ now ++ f (get_or l i 0) → 2 * length (f (get_or l i 0)) ≤ w (get_or l i 0) → Written f w spare n l then (i + 1)
  written_next then h e small = record {
    within = omega arith;
    is = rw (flat_next f l i h, ← s.is) e;
    room = omega (arith, s.room, sum_next w l i h, ap length e, length-append now (f (get_or l i 0)));
  }

  pub written_done : length l ≤ i → now ≡ flat_map f l
  written_done h = rw (take_all i l h) at s.is

-- ---- what the definitions say

pub keep_is : (bytes : Bytes) (ms : List Pair) (touch pieces : List ℕ) (kept : ℕ) → Owned bytes touch pieces → flat_map (λ p. big_parts touch (bit_and p kept)) pieces ≡ keep bytes ms kept pieces
unfolding keep
keep_is bytes ms touch pieces kept w = flat_same (λ p. big_parts touch (bit_and p kept)) (λ p. big_components bytes (bit_and p kept)) pieces
    (λ p m. big_words bytes touch pieces (bit_and p kept) w (own_sub bytes (bit_and p kept) p (sets [] (sub (and (v 0) (v 1)) (v 0)) (p ∷ kept ∷ []) tt) (w.own p m)))

fallen_is : (bytes : Bytes) (touch pieces : List ℕ) (gone p : ℕ) → OwnedFragments bytes touch pieces → Mem p pieces → 2 ≤ size p → fallen touch gone p ≡ big_components bytes (diff p gone)
fallen_is bytes touch pieces gone p w m h = go (two (is_disjoint p gone))
  where
    go : (is_disjoint p gone ≡ true) ⊎ (is_disjoint p gone ≡ false) → fallen touch gone p ≡ big_components bytes (diff p gone)
    go (inl e) =
        let z : bit_and p gone ≡ 0 = eqb-true (bit_and p gone) 0 e in
        fallen_same touch gone p z ∙ sym (ap (big_components bytes) (apart_size p gone z).0 ∙ big_self bytes touch pieces p w.owned (w.owned.own p m) (w.connected p m) h)
    go (inr e) =
        fallen_less touch gone p (eqb-false (bit_and p gone) 0 e)
        ∙ big_words bytes touch pieces (diff p gone) w.owned (own_sub bytes (diff p gone) p (diff_sub p gone) (w.owned.own p m))

pub remove_is : (bytes : Bytes) (ms : List Pair) (touch pieces : List ℕ) (m h1 gone : ℕ) → OwnedFragments bytes touch pieces → Big pieces → Chosen ms m h1 gone → flat_map (fallen touch gone) pieces ++ (h1 ∷ []) ≡ remove bytes ms pieces m
unfolding remove
remove_is bytes ms touch pieces m h1 gone w b c =
    rw (c.first, c.both, flat_same (fallen touch gone) (λ p. big_components bytes (diff p gone)) pieces (λ p n. fallen_is bytes touch pieces gone p w n (b p n)))

pub child_is : (bytes : Bytes) (ms : List Pair) (s : State) (held : List ℕ) (m z : ℕ) (pieces : List ℕ) (trail : Trail) → pieces ≡ remove bytes ms held m → trail ≡ with_removal s.trail m z → size_of ms m ≡ z
    → record { pieces = pieces; index = s.index - (z - 1); largest = z; next = m + 1; trail = trail } ≡ child bytes ms s held m
unfolding child
child_is bytes ms s held m z pieces trail p t e = rw (p, t, e, add-one)
