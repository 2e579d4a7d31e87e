-- What a state's removals are tried from, the next to try, and the state after it. Of an accepted record, with its own matches where a state is entered.
use mathlib.Core.Path.{◌≡◌, refl, sym, ap, subst, ◌∙◌}
use mathlib.Core.Logic.{◌⊎◌, inl, inr}
use mathlib.Core.Bool.{Bool, true, false, ◌&&◌}
use mathlib.Core.List.Memᴰ.{cases_cons as mem_cons}
use mathlib.Core.List.Memᴰ.{head as m_head}
use mathlib.Core.List.Memᴰ.{not-nil}
use mathlib.Core.List.Memᴰ.{tail as m_tail}
use mathlib.Core.List.{List, [], ◌∷◌, Memᴰ as Mem}
use Prim.Native.Nat.{ℕ, zero, suc, ◌+◌, ◌-◌, ◌*◌, ◌/◌, ◌^◌, ◌≤◌, ◌<◌}
use native.Mathlib.Omega.{arith}
use native.Mathlib.Decide.{dec_lt}
use native.Mathlib.Nat.{sub-zero}
use native.Mathlib.Numerals.{add-one}
use lib.Bits.{bit_and, bit_or}
use lib.Dec.{leb, ltb}
use lib.ListN.{length, get_or, take, drop}
use borrow.Author.Tests.{le-leb, lt-leb, ltb-true, lt-ltb}
use Rattle.std.proofs.Common.{get_or-take, get_or-drop, length-take, length-drop}
use Rattle.std.specs.List.{AllWithin}
use Rattle.std.specs.List.Sorted.{IsPartitionedBy}
use Rattle.std.proofs.lemmas.List.{get_or_default}
use Rattle.matches.specs.Inner.Written.{four_words}
use Rattle.bitset.specs.Bits.{Sub, size, unions}
use Rattle.bitset.proofs.Bools.{two, and_true}
use Rattle.bitset.proofs.Laws.{size_mono, size_diff, size_disjoint}
use Rattle.bitset.proofs.Decide.{sets, v, and, or, sub}
use Rattle.molecule.specs.Lists.{Bytes, filter}
use Rattle.molecule.specs.Record.{all_bonds}
use Rattle.molecule.specs.Touch.{touching_words}
use Rattle.molecule.specs.Check.{check, accepted}
use Rattle.molecule.specs.Connected.{Own, Connected}
use Rattle.molecule.proofs.Components.{all_own}
use Rattle.bounds.specs.Numbers.{sum_of, max_of, ceil_log2}
use Rattle.bounds.specs.Bounds.{least_size}
use Rattle.bounds.specs.Inner.Removals.{PiecesWithin}
use Rattle.bounds.proofs.Numbers.{mem_sum, max_le}
use Rattle.bounds.proofs.Bounds.{least_same}
use Rattle.matches.specs.Table.{Pair, pair, size_of, pairs}
use Rattle.matches.specs.Laws.{Laws}
use Rattle.matches.proofs.Laws.{table_laws, size_of_first, size_of_second, size_of_two, size_of_half}
use Rattle.search.specs.Setting.{Setting, has_matchable_edges}
use Rattle.search.specs.State.{State, inside, struck, removable, mask_of, keep, child}
use Rattle.search.specs.Search.{tried}
use Rattle.search.specs.Inner.Claims.{Removable, Fine, held_of}
use Rattle.search.proofs.Lists.{inside_true, refines_within, count_two}
use Rattle.search.proofs.Parts.{few}
use Rattle.search.proofs.Refine.{first_struck, removable_mem, remove_fragments, keep_fragments, keep_refines, letting_go, mask_within}
use Rattle.search.proofs.Ends.{keep_size, child_fine, child_falls, child_two}
use Rattle.state.specs.declared.State as code
use Rattle.state.specs.Inner.Views.{state_of}
use Rattle.state.specs.Inner.Pieces.{bonds_in, bonds_left, Big, Owned, OwnedFragments, Chosen}
use Rattle.state.specs.Inner.Scan.{rows_of, Told, goes}
use Rattle.branch.specs.Inner.Entered.{Entered}
use Rattle.branch.specs.Inner.Trying.{tried_from}
use Rattle.branch.specs.Inner.Branching.{least_tried, Passes, Chooses, Below}
use Rattle.state.proofs.Scanning.{inside_whole, removable_in, removable_out, removable_end, told_out, row_at, rows_long}

-- ---- lists

-- a part from 0 on
pub part_zero : (n : ℕ) (l : List ℕ) → take (n - 0) l ≡ take n l
part_zero n l = let e : n - 0 ≡ n = omega arith in rw e

filter_all : (p : ℕ → Bool) (l : List ℕ) → ((m : ℕ) → Mem m l → p m ≡ true) → filter p l ≡ l
filter_all p [] h = refl
filter_all p (x ∷ l) h = rw (h x (m_head refl)) (ap (λ (k : List ℕ). x ∷ k) (filter_all p l (λ m i. h m (m_tail i))))

filter_none : (p : ℕ → Bool) (l : List ℕ) → ((m : ℕ) → Mem m l → p m ≡ false) → filter p l ≡ []
filter_none p [] h = refl
filter_none p (x ∷ l) h = rw (h x (m_head refl)) (filter_none p l (λ m i. h m (m_tail i)))

-- without the bonds gone no piece grows, and a piece that has two of them loses them
left_le : (P : List ℕ) (gone : ℕ) → bonds_left gone P ≤ bonds_in P
left_le [] gone = omega arith
left_le (q ∷ P) gone = omega (arith, left_le P gone, size_diff q gone)

left_less : (P : List ℕ) (gone h p : ℕ) → Mem p P → Sub h p → Sub h gone → 2 ≤ size h → bonds_left gone P + 2 ≤ bonds_in P
left_less [] gone h p i a b t = absurd (not-nil i)
left_less (q ∷ P) gone h p i a b t = go (mem_cons i) (left_less P gone h p)
  where
    both : Sub h q → size h ≤ size (bit_and q gone)
    both s = size_mono h (bit_and q gone) (sets (sub (v 0) (v 1) ∷ sub (v 0) (v 2) ∷ []) (sub (v 0) (and (v 1) (v 2))) (h ∷ q ∷ gone ∷ []) tt s b)

    go : (p ≡ q) ⊎ Mem p P → (Mem p P → Sub h p → Sub h gone → 2 ≤ size h → bonds_left gone P + 2 ≤ bonds_in P) → bonds_left gone (q ∷ P) + 2 ≤ bonds_in (q ∷ P)
    go (inl e) ih = omega (arith, left_le P gone, size_diff q gone, both (rw e at a))
    go (inr j) ih = omega (arith, ih j a b t, size_diff q gone)

-- ---- the least size tried

module _ (edges : Bool) (mask : ℕ → ℕ) (pieces : List ℕ) (index best largest : ℕ) where
  pub least_on : edges ≡ true → least_tried edges mask pieces index best largest ≡ least_size ceil_log2 mask pieces index best largest
  unfolding least_tried
  least_on e = rw (e, least_tried)

  pub least_off : edges ≡ false → least_tried edges mask pieces index best largest ≡ 2
  unfolding least_tried
  least_off e = rw (e, least_tried)

least_masks : (edges : Bool) (f g : ℕ → ℕ) (pieces : List ℕ) (index best largest : ℕ) → f 2 ≡ g 2 → ((k : ℕ) → 2 ≤ k → k ≤ largest → f k ≡ g k)
    → least_tried edges f pieces index best largest ≡ least_tried edges g pieces index best largest
least_masks edges f g pieces index best largest e h = go (two edges)
  where
    go : (edges ≡ true) ⊎ (edges ≡ false) → least_tried edges f pieces index best largest ≡ least_tried edges g pieces index best largest
    go (inl t) = least_on edges f pieces index best largest t ∙ least_same ceil_log2 f g pieces index best largest e h ∙ sym (least_on edges g pieces index best largest t)
    go (inr t) = least_off edges f pieces index best largest t ∙ sym (least_off edges g pieces index best largest t)

module _ (r : Bytes) (ms : List Pair) (setting : Setting) (room : ℕ) (s : State) (ns : List ℕ) (best : ℕ) where
  tried_on : has_matchable_edges setting ≡ true → tried r ms setting room s ns best ≡ filter (λ m. leb (least_size ceil_log2 (mask_of r ms ns) s.pieces s.index best (max_of (size_of ms) ns)) (size_of ms m)) ns
  unfolding tried
  tried_on e = rw (e, tried)

  tried_off : has_matchable_edges setting ≡ false → tried r ms setting room s ns best ≡ ns
  unfolding tried
  tried_off e = rw (e, tried)

  -- what is tried, by the least size
  tried_is : (least : ℕ) → least ≡ least_tried (has_matchable_edges setting) (mask_of r ms ns) s.pieces s.index best (max_of (size_of ms) ns) → ((m : ℕ) → Mem m ns → 2 ≤ size_of ms m)
      → tried r ms setting room s ns best ≡ filter (λ m. leb least (size_of ms m)) ns
  tried_is least e h = go (two (has_matchable_edges setting))
    where
      go : (has_matchable_edges setting ≡ true) ⊎ (has_matchable_edges setting ≡ false) → tried r ms setting room s ns best ≡ filter (λ m. leb least (size_of ms m)) ns
      go (inl t) = tried_on t ∙ ap (λ (k : ℕ). filter (λ m. leb k (size_of ms m)) ns) (sym (e ∙ least_on (has_matchable_edges setting) (mask_of r ms ns) s.pieces s.index best (max_of (size_of ms) ns) t))
      go (inr t) =
          let q : least ≡ 2 = e ∙ least_off (has_matchable_edges setting) (mask_of r ms ns) s.pieces s.index best (max_of (size_of ms) ns) t in
          tried_off t ∙ sym (filter_all (λ m. leb least (size_of ms m)) ns (λ m i. le-leb least (size_of ms m) (omega (arith, h m i))))

-- ---- the next to try

module _ (r : Bytes) (ms : List Pair) (M : Laws r ms) (pieces : List ℕ) (least : ℕ) where
  pub next_skip : (i : ℕ) → i < length ms → goes ms pieces i ≡ false → tried_from r ms pieces least i ≡ tried_from r ms pieces least (i + 1)
  next_skip i h e = rw (add-one, removable_out ms pieces r i h e)

  -- sizes never grow along the table
  pub next_small : (i : ℕ) → i < length ms → size_of ms i < least → tried_from r ms pieces least i ≡ []
  next_small i h l =
      filter_none (λ m. leb least (size_of ms m)) (removable r ms pieces i)
      (λ m k. let w = removable_mem r ms pieces i m k in lt-leb least (size_of ms m) (omega (arith, M.falls i m w.after w.is)))

  pub next_end : (i : ℕ) → length ms ≤ i → tried_from r ms pieces least i ≡ []
  next_end i e = rw (removable_end ms pieces r i e)

  pub next_take : (i : ℕ) → i < length ms → goes ms pieces i ≡ true → least ≤ size_of ms i → tried_from r ms pieces least i ≡ i ∷ tried_from r ms pieces least (suc i)
  next_take i h e l = rw (removable_in ms pieces r i h e, le-leb least (size_of ms i) l)

-- ---- matches too large

module _ (r : Bytes) (ms : List Pair) (M : Laws r ms) (pieces : List ℕ) where
  -- both fragments are among the bonds of all pieces, and apart
  pub too_large : (i : ℕ) → i < length ms → size (unions (λ p. p) pieces) < 2 * size_of ms i → goes ms pieces i ≡ false
  too_large i h l = go (two (goes ms pieces i))
    where
      x : ℕ
      x = (pair ms i).h1

      y : ℕ
      y = (pair ms i).h2

      u : ℕ
      u = unions (λ p. p) pieces

      go : (goes ms pieces i ≡ true) ⊎ (goes ms pieces i ≡ false) → goes ms pieces i ≡ false
      go (inr e) = e
      go (inl e) =
          let b = and_true (inside pieces x) (inside pieces y) e in
          let s : Sub (bit_or x y) u = sets (sub (v 0) (v 2) ∷ sub (v 1) (v 2) ∷ []) (sub (or (v 0) (v 1)) (v 2)) (x ∷ y ∷ u ∷ []) tt (inside_whole pieces x b.0) (inside_whole pieces y b.1) in
          absurd (omega (arith, size_mono (bit_or x y) u s, size_disjoint x y (M.twins i h).apart, size_of_first ms i, size_of_second r ms M i h))

-- the word k of row m
pub row_word : (ms : List Pair) (rows : List (List ℕ)) → rows ≡ rows_of ms → (m k : ℕ) (d : List ℕ) → m < length ms → get_or (get_or rows m d) k 0 ≡ get_or (four_words (pair ms m).h1 (pair ms m).h2) k 0
row_word ms rows e m k d h = ap (λ (row : List ℕ). get_or row k 0) (ap (λ (l : List (List ℕ)). get_or l m d) e ∙ get_or_default (rows_of ms) m d [] (omega (arith, rows_long ms)) ∙ row_at ms m h)

module _ (ms : List Pair) {rows : List (List ℕ)} (listed : rows ≡ rows_of ms) where
  rows_many : length rows ≡ length ms
  rows_many = ap (λ (x : List (List ℕ)). length x) listed ∙ rows_long ms

  pub row_there : (m : ℕ) → m < length rows → m < length ms
  row_there m h = omega (arith, h, rows_many)

  pub rows_end : (m : ℕ) → length rows ≤ m → length ms ≤ m
  rows_end m h = omega (arith, h, rows_many)

  pub row_sized : (m : ℕ) → m < length ms → get_or (get_or rows m []) 3 0 ≡ size_of ms m
  row_sized m h = row_word ms rows listed m 3 [] h ∙ size_of_first ms m

  -- both fragments of the row are inside pieces just where the match's are
  pub row_goes : (pieces : List ℕ) (m : ℕ) → m < length ms → {b : Bool} → (inside pieces (get_or (get_or rows m []) 0 0) && inside pieces (get_or (get_or rows m []) 1 0)) ≡ b → goes ms pieces m ≡ b
  row_goes pieces m h e = rw (row_word ms rows listed m 0 [] h, row_word ms rows listed m 1 [] h) at e

-- the rows from a number on
module _ {r : Bytes} {ms : List Pair} (M : Laws r ms) {rows : List (List ℕ)} (listed : rows ≡ rows_of ms) (from : ℕ) (start : from ≤ length rows) where
  abbrev left : List (List ℕ)
  left = take (length rows - from) (drop from rows)

  rows_left : from + length left ≡ length ms
  rows_left = omega (arith, start, length-take (length rows - from) (drop from rows), length-drop from rows, rows_many ms listed)

  row_size : (k : ℕ) (d : List ℕ) → k < length left → get_or (get_or left k d) 3 0 ≡ size_of ms (from + k)
  row_size k d h =
      let g : k < length rows - from = omega (arith, h, rows_left, rows_many ms listed, start) in
      ap (λ (row : List ℕ). get_or row 3 0) (get_or-take (length rows - from) (drop from rows) k d g ∙ get_or-drop from rows k d)
      ∙ row_word ms rows listed (from + k) 3 d (omega (arith, h, rows_left)) ∙ size_of_first ms (from + k)

  -- sizes never grow
  pub rows_parted : (half : ℕ) → IsPartitionedBy (λ row. ltb half (get_or row 3 0)) left
  rows_parted half = λ i j d a b e.
      let big : half < size_of ms (from + j) = ltb-true half (size_of ms (from + j)) (rw (row_size j d b) at e) in
      rw (row_size i d (omega (arith, a, b))) (lt-ltb half (size_of ms (from + i)) (omega (arith, big, M.falls (from + i) (from + j) (omega (arith, a)) (omega (arith, rows_left, b)))))

  -- those above half of all bonds are not removable
  pub rows_passed : (half n all : ℕ) (pieces : List ℕ) → half ≡ size all / 2 → all ≡ unions (λ p. p) pieces → from + n ≤ length rows
      → AllWithin (λ row. ltb half (get_or row 3 0) ≡ true) left 0 n → Passes ms pieces from (from + n)
  rows_passed half n all pieces e u k h = record {
    after = omega arith;
    within = omega (arith, k, rows_many ms listed);
    none = λ i a b. let q : from + (i - from) ≡ i = omega (arith, a) in rw q at (passed (i - from) (omega (arith, a, b)));
  }
    where
      passed : (j : ℕ) → j < n → goes ms pieces (from + j) ≡ false
      passed j g =
          let l : j < length left = omega (arith, g, k, rows_left, rows_many ms listed) in
          let big : half < size_of ms (from + j) = ltb-true half (size_of ms (from + j)) (rw (row_size j [] l) at (h j [] (omega arith) g)) in
          too_large r ms M pieces (from + j) (omega (arith, l, rows_left)) (omega (arith, big, e, ap size u))

-- what is told from a match on is told from an earlier one, where none between is removable
pub told_earlier : (ms : List Pair) (pieces : List ℕ) (from n start largest : ℕ) (masks : List ℕ) → Passes ms pieces from n → Told ms pieces n masks largest start → Told ms pieces from masks largest start
told_earlier ms pieces from n start largest masks P T =
    let e : n - (n - from) ≡ from = omega (arith, P.after) in
    subst (λ (k : ℕ). Told ms pieces k masks largest start) e (back (n - from) (omega arith))
  where
    back : (d : ℕ) → d ≤ n - from → Told ms pieces (n - d) masks largest start
    back zero h = rw sub-zero T
    back (suc d) h =
        let e : suc (n - suc d) ≡ n - d = omega (arith, h) in
        told_out ms pieces (n - suc d) start largest masks (omega (arith, h, P.within)) (P.none (n - suc d) (omega (arith, h)) (omega (arith, h))) (rw e (back d (omega arith)))

-- ---- what a scan is given

module _ (r : Bytes) (ok : check r ≡ accepted) where
  -- sizes are from 2 to 32
  size_least : (m : ℕ) → m < length (pairs r) → 2 ≤ size_of (pairs r) m
  size_least m h = size_of_two r (pairs r) (table_laws r ok) m h

  pub size_most : (m : ℕ) → m < length (pairs r) → size_of (pairs r) m ≤ 32
  size_most m h = omega (arith, size_of_half r (pairs r) (table_laws r ok) m h, few r ok)

-- ---- a state

module _ (r : Bytes) (ok : check r ≡ accepted) (s : State) (F : Fine r (pairs r) s) where
  pub pieces_own : (p : ℕ) → Mem p s.pieces → Own r p
  pieces_own p i = all_own r p (F.inv.within p i)

  pub pieces_sum : sum_of size s.pieces ≤ 64
  pieces_sum = omega (arith, F.weight, few r ok)

  pub largest_few : s.largest ≤ 64
  largest_few = go (dec_lt s.largest 2)
    where
      go : Dec (s.largest < 2) → s.largest ≤ 64
      go (yes l) = omega arith
      go (no n) = let w = F.widest (omega arith) in omega (arith, w.2, mem_sum size s.pieces w.0 w.1, pieces_sum)

  -- what the state holds
  held_part : (c : ℕ) → Mem c (held_of r (pairs r) s) → Connected r c × (2 ≤ size c)
  held_part c i =
      let w = keep_fragments r ok (pairs r) (mask_of r (pairs r) (removable r (pairs r) s.pieces s.next) 2) s.pieces F.inv.within c i in (w.1, w.2)

  held_within : PiecesWithin (all_bonds r) (held_of r (pairs r) s)
  held_within = refines_within (all_bonds r) (keep_refines r ok (pairs r) (mask_of r (pairs r) (removable r (pairs r) s.pieces s.next) 2) s.pieces F.inv.within) F.inv.within

  pub held_big : Big (held_of r (pairs r) s)
  held_big c i = (held_part c i).1

  pub held_held : (touch : List ℕ) → touch ≡ touching_words r → OwnedFragments r touch (held_of r (pairs r) s)
  held_held touch e = record {
    owned = record { few = few r ok; words = e; own = λ p i. all_own r p (held_within p i) };
    connected = λ p i. (held_part p i).0;
  }

  module _ (m : ℕ) (k : Removable (pairs r) s.pieces s.next m) where
    -- the removal takes two bonds of what is held
    pub held_left : bonds_left (struck (pairs r) m) (held_of r (pairs r) s) + 2 ≤ 64
    held_left =
        let M = table_laws r ok in
        let a = (letting_go r ok (pairs r) M s.pieces s.next (m ∷ []) F.inv.within (k, tt)).0.in1 in
        let l = left_less (held_of r (pairs r) s) (struck (pairs r) m) (pair (pairs r) m).h1 a.0 a.1 a.2 (first_struck (pairs r) m) (M.twins m k.is).big in
        omega (arith, l, keep_sum, pieces_sum)
      where
        keep_sum : sum_of size (held_of r (pairs r) s) ≤ sum_of size s.pieces
        keep_sum = keep_size r ok (pairs r) (mask_of r (pairs r) (removable r (pairs r) s.pieces s.next) 2) s.pieces F.inv.within

    -- and its size less one from the index
    pub index_left : size_of (pairs r) m - 1 ≤ s.index
    index_left =
        let i = k.in1 in
        omega (arith, size_of_first (pairs r) m, size_mono (pair (pairs r) m).h1 i.0 i.2, mem_sum (λ (p : ℕ). size p - 1) s.pieces i.0 i.1, F.covered)

    pub trail_left : length s.trail.numbers < 32
    trail_left = let c = child_falls r ok (pairs r) (table_laws r ok) s m F.inv k in omega (arith, c.0, c.1, F.weight, few r ok)

    child_part : (p : ℕ) → Mem p (child r (pairs r) s (held_of r (pairs r) s) m).pieces → Connected r p
    unfolding child
    child_part p i =
        let t = (table_laws r ok).twins m k.is in
        (remove_fragments r ok (pairs r) (held_of r (pairs r) s) m held_within t.one_own t.one p i).1

    next_is : (child r (pairs r) s (held_of r (pairs r) s) m).next ≡ suc m
    unfolding child
    next_is = refl

    -- the state after the removal may be entered
    pub child_entered : (c : code.State) → state_of c ≡ child r (pairs r) s (held_of r (pairs r) s) m → Entered r c
    child_entered c e =
        let M = table_laws r ok in
        let f = child_fine r ok (pairs r) M s m F k in
        record {
          fine = rw e f;
          connected = subst (λ (x : State). (q : ℕ) → Mem q x.pieces → Connected r q) (sym e) child_part;
          both = subst (λ (x : State). length x.pieces + length x.trail.numbers ≤ 32) (sym e) (omega (arith, f.weight, few r ok, count_two (child r (pairs r) s (held_of r (pairs r) s) m).pieces (child_two r ok (pairs r) M s m F.inv k)));
          after = omega (arith, ap (λ (x : State). x.next) e, next_is, k.is);
        }

-- what is chosen is removable
chosen : (r : Bytes) (s : code.State) (held : List ℕ) (m : ℕ) → Chooses r s held m → Removable (pairs r) (state_of s).pieces s.next m
chosen r s held m C =
    let b = and_true _ _ C.removes in
    record { after = C.after; is = C.within; in1 = inside_true (state_of s).pieces (pair (pairs r) m).h1 b.0; in2 = inside_true (state_of s).pieces (pair (pairs r) m).h2 b.1 }

-- match m as its row has it
module _ (r : Bytes) (ok : check r ≡ accepted) (rows : List (List ℕ)) (listed : rows ≡ rows_of (pairs r)) (s : code.State) (E : Entered r s) (held : List ℕ) (m : ℕ) (C : Chooses r s held m) where
  abbrev row : List ℕ
  row = get_or rows m []

  word : (k : ℕ) → get_or row k 0 ≡ get_or (four_words (pair (pairs r) m).h1 (pair (pairs r) m).h2) k 0
  word k = row_word (pairs r) rows listed m k [] C.within

  struck_is : get_or row 2 0 ≡ struck (pairs r) m
  unfolding struck
  struck_is = word 2

  sized : get_or row 3 0 ≡ size_of (pairs r) m
  sized = word 3 ∙ size_of_first (pairs r) m

  pub below_asks : length rows ≤ 4294967295
      → Big held × (bonds_left (get_or row 2 0) held + 2 ≤ 64) × (m < 2 ^ 32) × (1 ≤ get_or row 3 0) × (get_or row 3 0 < 2 ^ 8) × (get_or row 3 0 - 1 ≤ s.index) × (length (state_of s).trail.numbers < 32)
  below_asks few =
      let R = chosen r s held m C in (
        rw C.keeps (held_big r ok (state_of s) E.fine),
        rw (C.keeps, struck_is) (held_left r ok (state_of s) E.fine m R),
        omega (arith, few, ap (λ (x : List (List ℕ)). length x) listed, rows_long (pairs r), C.within),
        omega (arith, sized, size_least r ok m C.within),
        omega (arith, sized, size_most r ok m C.within),
        omega (arith, sized, index_left r ok (state_of s) E.fine m R),
        trail_left r ok (state_of s) E.fine m R,
      )

  pub below_is : (touch : List ℕ) → touch ≡ touching_words r → (c : code.State)
      → ((bytes : Bytes) (ms : List Pair) → OwnedFragments bytes touch held → Chosen ms m (get_or row 0 0) (get_or row 2 0) → size_of ms m ≡ get_or row 3 0 → state_of c ≡ child bytes ms (state_of s) held m)
      → Below r s m c
  below_is touch touches c f =
      let h : OwnedFragments r touch held = rw C.keeps (held_held r ok (state_of s) E.fine touch touches) in
      let e = f r (pairs r) h (record { first = sym (word 0); both = sym struck_is }) (sym sized) in
      let q : state_of c ≡ child r (pairs r) (state_of s) (held_of r (pairs r) (state_of s)) m = rw C.keeps at e in
      record { is = q; entered = child_entered r ok (state_of s) E.fine m (chosen r s held m C) c q }

-- the bonds in pieces fall by two at least, and two are left at least
pub below_falls : (r : Bytes) → check r ≡ accepted → (s : code.State) → Entered r s → (held : List ℕ) (m : ℕ) → Chooses r s held m → (c : code.State) → Below r s m c
    → (sum_of size (state_of c).pieces + 2 ≤ sum_of size (state_of s).pieces) × (2 ≤ sum_of size (state_of c).pieces)
below_falls r ok s E held m C c B =
    subst (λ (x : State). (sum_of size x.pieces + 2 ≤ sum_of size (state_of s).pieces) × (2 ≤ sum_of size x.pieces)) (sym B.is)
    (child_falls r ok (pairs r) (table_laws r ok) (state_of s) m E.fine.inv (chosen r s held m C))

-- ---- the branch of a state

module _ (r : Bytes) (ok : check r ≡ accepted) (s : code.State) (E : Entered r s) (masks : List ℕ) (largest first : ℕ) (T : Told (pairs r) (state_of s).pieces s.next masks largest first) where
  abbrev ns : List ℕ
  ns = removable r (pairs r) (state_of s).pieces s.next

  pub told_few : largest ≤ 32
  told_few = omega (arith, T.largest r, max_le (size_of (pairs r)) ns 32 (λ m i. size_most r ok m (removable_mem r (pairs r) (state_of s).pieces s.next m i).is))

  pub told_within : (k : ℕ) → 2 ≤ k → k ≤ largest → Sub (get_or masks k 0) (get_or masks 2 0)
  told_within k a b = rw (T.masked r k (omega (arith, told_few)), T.masked r 2 (omega arith)) (mask_within r ok (pairs r) (table_laws r ok) (state_of s).pieces s.next k)

  -- what is tried, from the first removable match on
  pub told_tries : (edges : Bool) (best least : ℕ) → least ≡ least_tried edges (λ k. get_or masks k 0) (state_of s).pieces s.index best largest
      → (setting : Setting) (room : ℕ) → has_matchable_edges setting ≡ edges → tried r (pairs r) setting room (state_of s) ns best ≡ tried_from r (pairs r) (state_of s).pieces least first
  told_tries edges best least e setting room q =
      let f = least_masks edges (λ k. get_or masks k 0) (mask_of r (pairs r) ns) (state_of s).pieces s.index best largest (T.masked r 2 (omega arith)) (λ k a b. T.masked r k (omega (arith, told_few))) in
      let g : least ≡ least_tried (has_matchable_edges setting) (mask_of r (pairs r) ns) (state_of s).pieces s.index best (max_of (size_of (pairs r)) ns) = rw (q, ← T.largest r) (e ∙ f) in
      tried_is r (pairs r) setting room (state_of s) ns best least g (λ m i. size_least r ok m (removable_mem r (pairs r) (state_of s).pieces s.next m i).is)
      ∙ ap (filter (λ m. leb least (size_of (pairs r) m))) (sym (T.same r))

  -- what is kept is what the state holds
  pub told_holds : (touch : List ℕ) → touch ≡ touching_words r → (held : List ℕ)
      → ((bytes : Bytes) (ms : List Pair) → Owned bytes touch (state_of s).pieces → held ≡ keep bytes ms (get_or masks 2 0) (state_of s).pieces) → held ≡ held_of r (pairs r) (state_of s)
  told_holds touch touches held f =
      f r (pairs r) (record { few = few r ok; words = touches; own = pieces_own r ok (state_of s) E.fine })
      ∙ ap (λ (k : ℕ). keep r (pairs r) k (state_of s).pieces) (T.masked r 2 (omega arith))
