-- The owners of bonds, fragments inside pieces, and a scan for the removable matches from the last down. Assumes nothing.
use mathlib.Core.Path.{◌≡◌, refl, sym, ap, ◌∙◌}
use mathlib.Core.Logic.{◌⊎◌, inl, inr, ⊎_elim}
use mathlib.Core.Bool.{Bool, true, false, ◌&&◌, true≢false}
use mathlib.Core.List.Memᴰ.{cases_cons as mem_cons}
use mathlib.Core.List.Memᴰ.{append_cases as mem_cases}
use mathlib.Core.List.Memᴰ.{append_left as mem_left}
use mathlib.Core.List.Memᴰ.{append_right as mem_right}
use mathlib.Core.List.Memᴰ.{eq_of_singleton as mem_one}
use mathlib.Core.List.Memᴰ.{head as m_head}
use mathlib.Core.List.Memᴰ.{not-nil}
use mathlib.Core.List.{List, [], ◌∷◌, Memᴰ as Mem}
use Prim.Native.Nat.{ℕ, zero, suc, ◌+◌, ◌-◌, ◌^◌, ◌≤◌, ◌<◌, max}
use native.Mathlib.Omega.{arith}
use native.Mathlib.Numerals.{add-one}
use native.Mathlib.Decide.{ℕ_discrete}
use borrow.Author.Tests.{eqb-true, eqb-false, eq-eqb, ne_eqb}
use lib.ListN.{length, get_or, set, take, replicate, length-set, length-map}
use lib.Seq.{take-suc, get_or-set_same, get_or-set_other}
use Rattle.std.specs.List.{fold}
use lib.Bits.{bit_and, bit_or, or_comm, or_zero_r}
use Rattle.bitset.specs.Bits.{bit, has, Sub, Disjoint, is_sub, unions, Lowest, WithoutLowest}
use Rattle.bitset.proofs.Bools.{two}
use Rattle.bitset.proofs.Laws.{bit_le, bit_empty, bit_diff, bit_other, or_assoc, unions_one, unions_none, unions_more}
use Rattle.bitset.proofs.Members.{in_or_out, sub_of, sub_in, apart_out}
use Rattle.bitset.proofs.Decide.{sets, sub, or, v}
use Rattle.molecule.specs.Lists.{Bytes, numbers_from, any}
use Rattle.molecule.specs.Connected.{Apart}
use Rattle.molecule.proofs.Scans.{scan_hit, scan_next, from_none}
use Rattle.molecule.proofs.Lists.{at_mem, map_at, any_some, any_none, zeros_at, numbers_none, numbers_more}
use Rattle.bounds.proofs.Steps.{apart_sym}
use Rattle.matches.specs.Table.{Pair, pair, size_of}
use Rattle.matches.proofs.Laws.{pair_is, size_of_first}
use Rattle.matches.specs.Inner.Written.{four_words}
use Rattle.search.specs.State.{struck, inside, removable, mask_of}
use Rattle.state.specs.Inner.Scan.{Owning, Row, AllRows, Marked, rows_of, Told, goes}

-- ---- a piece put at its bonds

-- all bonds of p but those of rest have it already
pub record Marking (old now : List ℕ) (p rest : ℕ) : Type 0 where
  pub few : rest < 2 ^ 64
  pub long : length now ≡ length old
  pub left : (b : ℕ) → bit rest b ≡ 1 → bit p b ≡ 1
  pub these : (b : ℕ) → b < 64 → bit p b ≡ 1 → bit rest b ≡ 0 → get_or now b 0 ≡ p
  pub others : (b : ℕ) → b < 64 → bit p b ≡ 0 → get_or now b 0 ≡ get_or old b 0

pub marking_next : {old now : List ℕ} {p rest i t : ℕ} → length old ≡ 64 → Marking old now p rest → Lowest rest i → WithoutLowest rest t → Marking old (set now i p) p t
marking_next {old} {now} {p} {rest} {i} {t} n w l f = record {
  few = omega (arith, w.few, f.below);
  long = length-set now i p ∙ w.long;
  left = λ b e. w.left b (omega (arith, less b, bit_le rest b));
  these = λ b h e z. go b h e z (ℕ_discrete b i);
  others = λ b h e. get_or-set_other now i b p 0 (λ q. omega (arith, ap (bit p) q, w.left i l.member)) ∙ w.others b h e;
}
  where
    less : (b : ℕ) → bit t b ≡ bit rest b - bit (2 ^ i) b
    less b = rw (f.is, ← l.is) (bit_diff rest (2 ^ i) b)

    go : (b : ℕ) → b < 64 → bit p b ≡ 1 → bit t b ≡ 0 → Dec (b ≡ i) → get_or (set now i p) b 0 ≡ p
    go b h e z (yes q) = rw q (get_or-set_same now i p 0 (omega (arith, w.long, l.within)))
    go b h e z (no q) = get_or-set_other now i b p 0 q ∙ w.these b h e (omega (arith, less b, bit_other i b q))

pub marking_done : {old now : List ℕ} {p rest : ℕ} → Marking old now p rest → rest ≡ 0 → Marked old now p
marking_done w e = record { long = w.long; these = λ b h m. w.these b h m (ap (λ (s : ℕ). bit s b) e ∙ bit_empty b); others = w.others }

-- ---- the owners

pub owners_none : (own : List ℕ) → ((b : ℕ) → get_or own b 0 ≡ 0) → Owning [] own
owners_none own z = record { one = λ b p h m. absurd (not-nil m); none = λ b h f. z b }

-- a piece before the i-th has no bond of it
apart_before : (l : List ℕ) (i : ℕ) → Apart l → i < length l → (q : ℕ) → Mem q (take i l) → Disjoint (get_or l i 0) q
apart_before [] i a h q m = absurd (omega arith)
apart_before (x ∷ l) zero a h q m = absurd (not-nil m)
apart_before (x ∷ l) (suc i) a h q m =
    ⊎_elim (λ (e : q ≡ x). rw e (apart_sym x (get_or l i 0) (a.0 (get_or l i 0) (at_mem 0 l i (omega arith))))) (λ (k : Mem q (take i l)). apart_before l i a.1 (omega arith) q k) (mem_cons m)

-- one piece more
pub owners_next : (pieces : List ℕ) {own now : List ℕ} (i : ℕ) → Apart pieces → i < length pieces → Owning (take i pieces) own → Marked own now (get_or pieces i 0) → Owning (take (i + 1) pieces) now
owners_next pieces {own} {now} i a h w m = rw (add-one i, take-suc pieces i 0 h) (record {
  one = λ b q l n e. ⊎_elim (λ (k : Mem q (take i pieces)). m.others b l (outside b q k e) ∙ w.one b q l k e) (λ (k : Mem q (p ∷ [])). let s : q ≡ p = mem_one k in m.these b l (rw s at e) ∙ sym s) (mem_cases (take i pieces) n);
  none = λ b l z. m.others b l (z p (mem_right (take i pieces) (m_head refl))) ∙ w.none b l (λ q n. z q (mem_left (p ∷ []) n));
})
  where
    p : ℕ
    p = get_or pieces i 0

    outside : (b q : ℕ) → Mem q (take i pieces) → bit q b ≡ 1 → bit (get_or pieces i 0) b ≡ 0
    outside b q n e = ⊎_elim (λ (k : bit (get_or pieces i 0) b ≡ 1). absurd (apart_out (get_or pieces i 0) q b (apart_before pieces i a h q n) k e)) (λ (k : bit (get_or pieces i 0) b ≡ 0). k) (in_or_out (get_or pieces i 0) b)

-- ---- the union of the pieces

-- joined to s one after another
fold_is : (l : List ℕ) (s : ℕ) → fold (λ all p. bit_or all p) s l ≡ bit_or s (unions (λ p. p) l)
fold_is [] s = rw (unions_none (λ p. p), or_zero_r s)
fold_is (p ∷ l) s = fold_is l (bit_or s p) ∙ rw (or_assoc s p (unions (λ p. p) l), unions_more (λ p. p) p l)

pub whole_is : (l : List ℕ) → unions (λ p. p) l ≡ fold (λ all p. bit_or all p) 0 l
whole_is l = sym (fold_is l 0 ∙ or_comm 0 (unions (λ p. p) l) ∙ or_zero_r (unions (λ p. p) l))

-- ---- inside

is_sub_lem : (s t : ℕ) → is_sub s t ≡ true → Sub s t
is_sub_lem s t e = eqb-true (bit_and s t) s e

-- h is inside a piece just where it is a subset of the owner of any of its bonds
pub owner_inside : (pieces own : List ℕ) (h b : ℕ) → Owning pieces own → b < 64 → bit h b ≡ 1 → is_sub h (get_or own b 0) ≡ inside pieces h
unfolding inside
owner_inside pieces own h b w l m = go (two (any (is_sub h) pieces))
  where
    -- a piece that has b is the owner; and a set that holds h has b
    never : ((p : ℕ) → Mem p pieces → is_sub h p ≡ false) → is_sub h (get_or own b 0) ≡ true → ⊥
    never n f = at (two (any (λ p. has p b) pieces))
      where
        at : (any (λ p. has p b) pieces ≡ true) ⊎ (any (λ p. has p b) pieces ≡ false) → ⊥
        at (inl e) =
            let s = any_some (λ p. has p b) pieces e in
            let o : get_or own b 0 ≡ s.0 = w.one b s.0 l s.1 (eqb-true (bit s.0 b) 1 s.2) in
            true≢false (sym f ∙ ap (is_sub h) o ∙ n s.0 s.1)
        at (inr e) =
            let z : get_or own b 0 ≡ 0 = w.none b l (λ p k. ⊎_elim (λ (c : bit p b ≡ 1). absurd (eqb-false (bit p b) 1 (any_none (λ q. has q b) pieces e p k) c)) (λ (c : bit p b ≡ 0). c) (in_or_out p b)) in
            omega (arith, sub_in h (get_or own b 0) (is_sub_lem h (get_or own b 0) f) b m, ap (λ (s : ℕ). bit s b) z, bit_empty b)

    go : (any (is_sub h) pieces ≡ true) ⊎ (any (is_sub h) pieces ≡ false) → is_sub h (get_or own b 0) ≡ any (is_sub h) pieces
    go (inl e) =
        let s = any_some (is_sub h) pieces e in
        ap (is_sub h) (w.one b s.0 l s.1 (sub_in h s.0 (is_sub_lem h s.0 s.2) b m)) ∙ s.2 ∙ sym e
    go (inr e) = ⊎_elim (λ f. absurd (never (any_none (is_sub h) pieces e) f)) (λ f. f ∙ sym e) (two (is_sub h (get_or own b 0)))

pub inside_whole : (pieces : List ℕ) (h : ℕ) → inside pieces h ≡ true → Sub h (unions (λ p. p) pieces)
unfolding inside
inside_whole pieces h e =
    let s = any_some (is_sub h) pieces e in
    sub_of h (unions (λ p. p) pieces) (λ b m. unions_one (λ p. p) pieces s.0 b s.1 (sub_in h s.0 (is_sub_lem h s.0 s.2) b m))

both_sub : (a b c : ℕ) → Sub a c → Sub b c → Sub (bit_or a b) c
both_sub a b c = sets (sub (v 0) (v 2) ∷ sub (v 1) (v 2) ∷ []) (sub (or (v 0) (v 1)) (v 2)) (a ∷ b ∷ c ∷ []) tt

-- two fragments whose union is not among the bonds of the pieces are not both inside
pub outside_whole : (pieces : List ℕ) (a b : ℕ) → is_sub (bit_or a b) (unions (λ p. p) pieces) ≡ false → (inside pieces a && inside pieces b) ≡ false
outside_whole pieces a b n = go (two (inside pieces a)) (two (inside pieces b))
  where
    go : (inside pieces a ≡ true) ⊎ (inside pieces a ≡ false) → (inside pieces b ≡ true) ⊎ (inside pieces b ≡ false) → (inside pieces a && inside pieces b) ≡ false
    go (inl e) (inl f) = absurd (eqb-false (bit_and (bit_or a b) (unions (λ p. p) pieces)) (bit_or a b) n (both_sub a b (unions (λ p. p) pieces) (inside_whole pieces a e) (inside_whole pieces b f)))
    go (inl e) (inr f) = rw (e, f)
    go (inr e) f = rw e

-- a row whose match is not removable: not all its bonds are in pieces, or its first fragment is not inside
module _ (row pieces : List ℕ) where
  pub scan_outside : {all : ℕ} {r : Bool} → Row row → all ≡ unions (λ p. p) pieces → r ≡ is_sub (get_or row 2 0) all → r ≡ false → false ≡ (inside pieces (get_or row 0 0) && inside pieces (get_or row 1 0))
  scan_outside w u e n = sym (outside_whole pieces (get_or row 0 0) (get_or row 1 0) (rw (w.both, u) at (sym e ∙ n)))

  pub scan_first : {r : Bool} → r ≡ inside pieces (get_or row 0 0) → r ≡ false → false ≡ (inside pieces (get_or row 0 0) && inside pieces (get_or row 1 0))
  scan_first e n = let z : inside pieces (get_or row 0 0) ≡ false = sym e ∙ n in rw z

-- ---- the rows of matches

pub rows_long : (ms : List Pair) → length (rows_of ms) ≡ length ms
rows_long ms = length-map ms (λ p. four_words p.h1 p.h2)

pub row_at : (ms : List Pair) (m : ℕ) → m < length ms → get_or (rows_of ms) m [] ≡ four_words (pair ms m).h1 (pair ms m).h2
row_at ms m h = rw (pair_is ms m) (map_at (λ p. four_words p.h1 p.h2) (record { h1 = 0; h2 = 0 }) [] ms m h)

-- ---- the removable matches from a number on

module _ (ms : List Pair) (pieces : List ℕ) where
  one_more : (i : ℕ) → i < length ms → length ms - i ≡ suc (length ms - suc i)
  one_more i h = omega arith

  numbers_step : (i : ℕ) → i < length ms → numbers_from i (length ms - i) ≡ i ∷ numbers_from (suc i) (length ms - suc i)
  numbers_step i h = rw (one_more i h) (numbers_more i (length ms - suc i))

  pub removable_in : (bytes : Bytes) (i : ℕ) → i < length ms → goes ms pieces i ≡ true → removable bytes ms pieces i ≡ i ∷ removable bytes ms pieces (suc i)
  unfolding removable
  removable_in bytes i h e = rw (numbers_step i h, e)

  pub removable_out : (bytes : Bytes) (i : ℕ) → i < length ms → goes ms pieces i ≡ false → removable bytes ms pieces i ≡ removable bytes ms pieces (suc i)
  unfolding removable
  removable_out bytes i h e = rw (numbers_step i h, e)

  pub removable_end : (bytes : Bytes) (i : ℕ) → length ms ≤ i → removable bytes ms pieces i ≡ []
  unfolding removable
  removable_end bytes i e = let z : length ms - i ≡ 0 = omega arith in rw (z, numbers_none i)

  -- ---- the scan

  pub told_start : (i n : ℕ) (masks : List ℕ) → i ≡ length ms → masks ≡ replicate n 0 → Told ms pieces i masks 0 i
  unfolding mask_of
  told_start i n masks e z = record {
    masked = λ bytes k h. rw (z, removable_end bytes i (omega (arith, e))) (zeros_at n k ∙ sym (unions_none (struck ms)));
    largest = λ bytes. rw (removable_end bytes i (omega (arith, e)));
    first = let z : length ms - i ≡ 0 = omega arith in rw z (sym (from_none (goes ms pieces) i));
    after = omega arith;
    within = omega arith;
    same = λ bytes. refl;
  }

  pub told_out : (i start largest : ℕ) (masks : List ℕ) → i < length ms → goes ms pieces i ≡ false → Told ms pieces (suc i) masks largest start → Told ms pieces i masks largest start
  told_out i start largest masks h e w = record {
    masked = λ bytes k l. rw (removable_out bytes i h e) (w.masked bytes k l);
    largest = λ bytes. rw (removable_out bytes i h e) (w.largest bytes);
    first = w.first ∙ sym (rw (add-one i) at (scan_next (goes ms pieces) i (length ms) h e));
    after = omega (arith, w.after);
    within = w.within;
    same = λ bytes. w.same bytes ∙ sym (removable_out bytes i h e);
  }

  mask_step : (bytes : Bytes) (i k largest start : ℕ) (masks : List ℕ) → size_of ms i < length masks → k < 33 → Told ms pieces (suc i) masks largest start → get_or (set masks (size_of ms i) (bit_or (get_or masks (size_of ms i) 0) (struck ms i))) k 0 ≡ mask_of bytes ms (i ∷ removable bytes ms pieces (suc i)) k
  unfolding mask_of
  mask_step bytes i k largest start masks f l w = go (ℕ_discrete k (size_of ms i))
    where
      go : Dec (k ≡ size_of ms i) → get_or (set masks (size_of ms i) (bit_or (get_or masks (size_of ms i) 0) (struck ms i))) k 0 ≡ mask_of bytes ms (i ∷ removable bytes ms pieces (suc i)) k
      go (yes q) =
          let v : ℕ = bit_or (get_or masks (size_of ms i) 0) (struck ms i) in
          rw (eq-eqb (size_of ms i) k (sym q), unions_more)
          (ap (λ (j : ℕ). get_or (set masks (size_of ms i) v) j 0) q
          ∙ get_or-set_same masks (size_of ms i) v 0 f
          ∙ or_comm (get_or masks (size_of ms i) 0) (struck ms i)
          ∙ ap (bit_or (struck ms i)) (ap (λ (j : ℕ). get_or masks j 0) (sym q) ∙ w.masked bytes k l))
      go (no q) =
          rw (ne_eqb (size_of ms i) k (λ e. q (sym e))) (get_or-set_other masks (size_of ms i) k (bit_or (get_or masks (size_of ms i) 0) (struck ms i)) 0 q ∙ w.masked bytes k l)

  pub told_in : (i start largest : ℕ) (masks : List ℕ) → i < length ms → goes ms pieces i ≡ true → size_of ms i < length masks → Told ms pieces (suc i) masks largest start → Told ms pieces i (set masks (size_of ms i) (bit_or (get_or masks (size_of ms i) 0) (struck ms i))) (max (size_of ms i) largest) i
  told_in i start largest masks h e f w = record {
    masked = λ bytes k l. rw (removable_in bytes i h e) (mask_step bytes i k largest start masks f l w);
    largest = λ bytes. rw (removable_in bytes i h e) (ap (max (size_of ms i)) (w.largest bytes));
    first = sym (scan_hit (goes ms pieces) i (length ms) h e);
    after = omega arith;
    within = omega arith;
    same = λ bytes. refl;
  }

-- one match more by its row, from number i down to i - 1
module _ {rows : List (List ℕ)} {ms : List Pair} {pieces : List ℕ} (r : rows ≡ rows_of ms) {i start largest : ℕ} {masks : List ℕ} (p : 0 < i) (h : i ≤ length rows) (t : Told ms pieces i masks largest start) where
  within : i ≤ length ms
  within = omega (arith, ap length r, rows_long ms)

  before : Told ms pieces (suc (i - 1)) masks largest start
  before = let e : suc (i - 1) ≡ i = omega arith in rw e t

  row : get_or rows (i - 1) [] ≡ four_words (pair ms (i - 1)).h1 (pair ms (i - 1)).h2
  row = rw r (row_at ms (i - 1) (omega (arith, within)))

  pub told_take : AllRows rows → length masks ≡ 33 → true ≡ (inside pieces (get_or (get_or rows (i - 1) []) 0 0) && inside pieces (get_or (get_or rows (i - 1) []) 1 0)) → Told ms pieces (i - 1) (set masks (get_or (get_or rows (i - 1) []) 3 0) (bit_or (get_or masks (get_or (get_or rows (i - 1) []) 3 0) 0) (get_or (get_or rows (i - 1) []) 2 0))) (max largest (get_or (get_or rows (i - 1) []) 3 0)) (i - 1)
  unfolding struck
  told_take w n g =
      let l : i - 1 < length ms = omega (arith, within) in
      let m : size_of ms (i - 1) ≤ 32 = rw (row, size_of_first ms (i - 1)) at (w (i - 1) (omega arith)).most in
      let e : max largest (size_of ms (i - 1)) ≡ max (size_of ms (i - 1)) largest = omega arith in
      rw (row, size_of_first ms (i - 1), e) (told_in ms pieces (i - 1) start largest masks l (sym (rw row at g)) (omega arith) before)

  pub told_skip : false ≡ (inside pieces (get_or (get_or rows (i - 1) []) 0 0) && inside pieces (get_or (get_or rows (i - 1) []) 1 0)) → Told ms pieces (i - 1) masks largest start
  told_skip g = told_out ms pieces (i - 1) start largest masks (omega (arith, within)) (sym (rw row at g)) before
