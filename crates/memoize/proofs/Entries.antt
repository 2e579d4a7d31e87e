-- Entries in the table and in their buckets: looking a key up, adding an entry, and changing one. Assumes nothing.
use Rattle.std.proofs.Common.{◌≡◌, refl, sym, ap, ◌∙◌, ◌≢◌, false, List, [], ◌∷◌, ◌++◌, map, ℕ, zero, suc, ◌+◌, ◌-◌, ◌*◌, ◌/◌, ◌%◌, ◌≤◌, ◌<◌, mod-lt, zero-add, add-one, arith, length, get_or, set, take, drop, length-append, length-set, length-drop, length-take-le, get_or-take, get_or-drop, get_or-set_same, get_or-set_other, ext_get_or, eq-eqb, ne_eqb, Some}
use native.Mathlib.Decide.{ℕ_discrete, dec_lt}
use Rattle.std.proofs.Math.ListN.{get_or-append}
use Rattle.std.proofs.Math.Seq.{get_or_at}
use Rattle.molecule.specs.Lists.{Bytes}
use Rattle.canonize.specs.Strings.{sort, hash}
use Rattle.canonize.specs.Label.{label}
use Rattle.search.specs.Memo.{Entry, same_key}
use Rattle.memoize.specs.Inner.Stored.{labels, hash_sum, removals_at, EntryWords, last_in, Chained, none, Stored, Located, Filled, Put}
use Rattle.memoize.proofs.Keys.{key_differ, sort_length, labels_length}
use Rattle.memoize.proofs.Filling.{apart}

-- ---- parts of a list

part_length : (words : List ℕ) (k n : ℕ) → k + n ≤ length words → length (take n (drop k words)) ≡ n
part_length words k n h = length-take-le n (drop k words) (omega (arith, length-drop k words))

-- n words from place k on are those of a list
pub part_is : (words : List ℕ) (k n : ℕ) (l : List ℕ) → k + n ≤ length words → length l ≡ n → ((j : ℕ) → j < n → get_or words (k + j) 0 ≡ get_or l j 0)
    → take n (drop k words) ≡ l
part_is words k n l h e f =
    ext_get_or 0 (take n (drop k words)) l (part_length words k n h ∙ sym e) (λ i g.
    let b : i < n = omega (arith, part_length words k n h) in
    get_or-take n (drop k words) i 0 b ∙ get_or-drop k words i 0 ∙ f i b)

-- and so are n words of another list
part_moved : (old : List ℕ) (b : ℕ) (now : List ℕ) (c n : ℕ) → b + n ≤ length old → c + n ≤ length now
    → ((j : ℕ) → j < n → get_or now (c + j) 0 ≡ get_or old (b + j) 0) → take n (drop c now) ≡ take n (drop b old)
part_moved old b now c n h g f =
    part_is now c n (take n (drop b old)) g (part_length old b n h) (λ j l. f j l ∙ sym (get_or-take n (drop b old) j 0 l ∙ get_or-drop b old j 0))

-- ---- entries

-- the same words elsewhere
module _ {r : Bytes} {old : List ℕ} {b : ℕ} {x : Entry} (h : EntryWords r old b x) (now : List ℕ) (c : ℕ) (w : c + 80 ≤ length now)
    (f : (i : ℕ) → i < 68 → get_or now (c + i) 0 ≡ get_or old (b + i) 0) where
  abbrev n : ℕ
  n = get_or old (b + 64) 0

  abbrev m : ℕ
  m = get_or old (b + 65) 0

  count : get_or now (c + 64) 0 ≡ n
  count = f 64 (omega arith)

  removed : get_or now (c + 65) 0 ≡ m
  removed = f 65 (omega arith)

  -- word i of the entry, from another place
  word : (k l i : ℕ) → k ≡ c + i → l ≡ b + i → i < 68 → get_or now k 0 ≡ get_or old l 0
  word k l i p q g = rw (p, q) (f i g)

  piece : (j : ℕ) → j < n → get_or now (c + j) 0 ≡ get_or old (b + j) 0
  piece j g = f j (omega (arith, h.few))

  hash_at : (j : ℕ) → j < n → get_or now (c + 32 + j) 0 ≡ get_or old (b + 32 + j) 0
  hash_at j g = word (c + 32 + j) (b + 32 + j) (32 + j) (omega arith) (omega arith) (omega (arith, h.few))

  removal : (j : ℕ) → j < m → get_or now (c + n + j) 0 ≡ get_or old (b + n + j) 0
  removal j g = word (c + n + j) (b + n + j) (n + j) (omega arith) (omega arith) (omega (arith, h.few))

  pieces_are : take n (drop c now) ≡ take n (drop b old)
  pieces_are = part_moved old b now c n (omega (arith, h.few, h.block.wide)) (omega (arith, h.few)) piece

  removals_are : take m (drop (c + n) now) ≡ take m (drop (b + n) old)
  removals_are = part_moved old (b + n) now (c + n) m (omega (arith, h.few, h.block.wide)) (omega (arith, h.few)) removal

  pub entry_moved : EntryWords r now c x
  unfolding labels removals_at
  entry_moved =
      let k = h.block in
      record {
        few = rw (count, removed) h.few;
        block = rw count (record {
          wide = w;
          few = k.few;
          fragments = λ j g. rw (piece j g) (k.fragments j g);
          hashes = λ j g. hash_at j g ∙ k.hashes j g ∙ ap (λ (y : ℕ). hash (label r y)) (sym (piece j g));
        });
        key = rw count (ap (λ (y : List ℕ). sort (map (label r) y)) pieces_are ∙ h.key);
        total = f 67 (omega arith) ∙ h.total;
        index = f 66 (omega arith) ∙ h.index;
        removals = rw (count, removed) (removals_are ∙ h.removals);
      }

pub entry_put : {r : Bytes} {new : List ℕ} {x : Entry} → EntryWords r new 0 x → (now : List ℕ) (c : ℕ) → c + 80 ≤ length now
    → ((i : ℕ) → i < 68 → get_or now (c + i) 0 ≡ get_or new i 0) → EntryWords r now c x
entry_put g now c w f = entry_moved g now c w (λ i h. rw (zero-add i) (f i h))

-- the key of an entry has as many labels as it has pieces
pub entry_count : {r : Bytes} {words : List ℕ} {base : ℕ} {x : Entry} → EntryWords r words base x
    → length x.key ≡ get_or words (base + 64) 0
entry_count {r} {words} {base} {x} h =
    let n = get_or words (base + 64) 0 in
    ap length (sym h.key) ∙ sort_length (labels r words base n) ∙ labels_length r words base n (omega (arith, h.block.few, h.block.wide))

-- the tests before the labels
module _ {r : Bytes} {words new : List ℕ} {base : ℕ} {x y : Entry} (h : EntryWords r words base x) (g : EntryWords r new 0 y) where
  pub key_total : get_or words (base + 67) 0 ≢ get_or new 67 0 → false ≡ same_key y.key x.key
  key_total n = sym (key_differ y.key x.key (λ q. n (h.total ∙ ap hash_sum (sym q) ∙ sym g.total)))

  pub key_count : get_or words (base + 64) 0 ≢ get_or new 64 0 → false ≡ same_key y.key x.key
  key_count n = sym (key_differ y.key x.key (λ q. n (sym (entry_count h) ∙ ap length (sym q) ∙ entry_count g)))

-- ---- buckets

module _ (words : List ℕ) (p h : ℕ) where
  last_here : (n : ℕ) → get_or words (80 * n + 67) 0 % p ≡ h → last_in words p h (suc n) ≡ suc n
  unfolding last_in
  last_here n e = rw (eq-eqb (get_or words (80 * n + 67) 0 % p) h e, last_in)

  last_past : (n : ℕ) → get_or words (80 * n + 67) 0 % p ≢ h → last_in words p h (suc n) ≡ last_in words p h n
  unfolding last_in
  last_past n e = rw (ne_eqb (get_or words (80 * n + 67) 0 % p) h e, last_in)

  last_le : (n : ℕ) → last_in words p h n ≤ n
  unfolding last_in
  last_le zero = omega arith
  last_le (suc n) = go (ℕ_discrete (get_or words (80 * n + 67) 0 % p) h) (last_le n)
    where
      go : Dec (get_or words (80 * n + 67) 0 % p ≡ h) → last_in words p h n ≤ n → last_in words p h (suc n) ≤ suc n
      go (yes e) ih = omega (arith, last_here n e)
      go (no e) ih = omega (arith, last_past n e)

  -- the entry there is in the bucket
  last_in_lem : (n i : ℕ) → last_in words p h n ≡ suc i → get_or words (80 * i + 67) 0 % p ≡ h
  unfolding last_in
  last_in_lem zero i e = absurd (omega arith)
  last_in_lem (suc n) i e = go (ℕ_discrete (get_or words (80 * n + 67) 0 % p) h) (last_in_lem n i)
    where
      go : Dec (get_or words (80 * n + 67) 0 % p ≡ h) → (last_in words p h n ≡ suc i → get_or words (80 * i + 67) 0 % p ≡ h) → get_or words (80 * i + 67) 0 % p ≡ h
      go (yes q) ih = let j : i ≡ n = omega (arith, last_here n q) in rw j q
      go (no q) ih = ih (sym (last_past n q) ∙ e)

  -- and none after it
  last_none : (n i : ℕ) → last_in words p h n ≤ i → i < n → get_or words (80 * i + 67) 0 % p ≢ h
  unfolding last_in
  last_none zero i l k = absurd (omega arith)
  last_none (suc n) i l k = go (ℕ_discrete (get_or words (80 * n + 67) 0 % p) h) (ℕ_discrete i n) (last_none n i)
    where
      go : Dec (get_or words (80 * n + 67) 0 % p ≡ h) → Dec (i ≡ n) → (last_in words p h n ≤ i → i < n → get_or words (80 * i + 67) 0 % p ≢ h)
          → get_or words (80 * i + 67) 0 % p ≢ h
      go (yes q) d ih = absurd (omega (arith, last_here n q))
      go (no q) (yes d) ih = rw d q
      go (no q) (no d) ih = ih (omega (arith, last_past n q)) (omega arith)

-- tables that agree below n
last_same : (u v : List ℕ) (p h n : ℕ) → ((i : ℕ) → i < n → get_or u (80 * i + 67) 0 ≡ get_or v (80 * i + 67) 0) → last_in u p h n ≡ last_in v p h n
unfolding last_in
last_same u v p h zero e = refl
last_same u v p h (suc n) e = go (ℕ_discrete (get_or u (80 * n + 67) 0 % p) h) (last_same u v p h n (λ i k. e i (omega arith)))
  where
    q : get_or v (80 * n + 67) 0 % p ≡ get_or u (80 * n + 67) 0 % p
    q = ap (λ (y : ℕ). y % p) (sym (e n (omega arith)))

    go : Dec (get_or u (80 * n + 67) 0 % p ≡ h) → last_in u p h n ≡ last_in v p h n → last_in u p h (suc n) ≡ last_in v p h (suc n)
    go (yes k) ih = last_here u p h n k ∙ sym (last_here v p h n (q ∙ k))
    go (no k) ih = last_past u p h n k ∙ ih ∙ sym (last_past v p h n (λ z. k (sym q ∙ z)))

-- ---- walking

-- no entry from k on has the key, and the entry before k, if any, is in its bucket
pub record Walking (words : List ℕ) (entries : ℕ) (memo : List Entry) (key : List Bytes) (h k : ℕ) : Type 0 where
  pub within : k ≤ entries
  pub here : (i : ℕ) → k ≡ suc i → get_or words (80 * i + 67) 0 % (length words / 80) ≡ h
  pub passed : (i : ℕ) → k ≤ i → i < entries → (get_or memo i none).key ≢ key

module _ {r : Bytes} {words : List ℕ} {entries : ℕ} {memo : List Entry} (s : Stored r words entries memo)
    {new : List ℕ} {y : Entry} (g : EntryWords r new 0 y) where
  abbrev key : List Bytes
  key = y.key

  abbrev total : ℕ
  total = get_or new 67 0

  abbrev room : ℕ
  room = length words / 80

  -- another bucket, another key
  elsewhere : (i : ℕ) → i < entries → get_or words (80 * i + 67) 0 % room ≢ total % room → (get_or memo i none).key ≢ key
  elsewhere i l d q = d (ap (λ (t : ℕ). t % room) ((s.held i l).total ∙ ap hash_sum q ∙ sym g.total))

  pub walking_start : 0 < room → Walking words entries memo key (total % room) (get_or words (80 * (total % room) + 69) 0)
  walking_start z = rw (s.chained.last (total % room) (mod-lt total z)) (record {
    within = last_le words room (total % room) entries;
    here = last_in_lem words room (total % room) entries;
    passed = λ i a b. elsewhere i b (last_none words room (total % room) entries i a b);
  })

  module _ (k : ℕ) (w : Walking words entries memo key (total % room) k) where
    pub walking_within : k ≢ 0 → k - 1 < entries
    walking_within n = omega (arith, w.within)

    before_is : k ≢ 0 → get_or words (80 * (k - 1) + 68) 0 ≡ last_in words room (total % room) (k - 1)
    before_is n = s.chained.before (k - 1) (walking_within n) ∙ ap (λ (h : ℕ). last_in words room h (k - 1)) (w.here (k - 1) (omega arith))

    pub walking_less : k ≢ 0 → get_or words (80 * (k - 1) + 68) 0 < k
    walking_less n = omega (arith, before_is n, last_le words room (total % room) (k - 1))

    pub walking_next : k ≢ 0 → (get_or memo (k - 1) none).key ≢ key → Walking words entries memo key (total % room) (get_or words (80 * (k - 1) + 68) 0)
    walking_next n d = rw (before_is n) (record {
      within = omega (arith, last_le words room (total % room) (k - 1), w.within);
      here = last_in_lem words room (total % room) (k - 1);
      passed = λ i a b. go i a b (dec_lt i (k - 1)) (ℕ_discrete i (k - 1));
    })
      where
        go : (i : ℕ) → last_in words room (total % room) (k - 1) ≤ i → i < entries → Dec (i < k - 1) → Dec (i ≡ k - 1) → (get_or memo i none).key ≢ key
        go i a b (yes l) q = elsewhere i b (last_none words room (total % room) (k - 1) i a l)
        go i a b (no l) (yes q) = rw q d
        go i a b (no l) (no q) = w.passed i (omega arith) b

    pub walking_hit : k ≢ 0 → (get_or memo (k - 1) none).key ≡ key → Located memo key (Some (k - 1))
    walking_hit n e = (omega (arith, s.count, walking_within n), e)

-- ---- a table of zeros

pub stored_none : (r : Bytes) (words : List ℕ) → ((i : ℕ) → get_or words i 0 ≡ 0) → Stored r words 0 []
unfolding last_in
stored_none r words z = record {
  count = refl;
  fits = omega arith;
  held = λ i h. absurd (omega arith);
  chained = record { before = λ i h. absurd (omega arith); last = λ h k. z (80 * h + 69) };
  distinct = λ i j h k. absurd (omega arith);
}

-- ---- adding

module _ {r : Bytes} {old now : List ℕ} {e : ℕ} {memo : List Entry} (s : Stored r old e memo) {new : List ℕ} {x : Entry} (g : EntryWords r new 0 x)
    (p : Put old now e (get_or new 67 0 % (length old / 80)) new) (w : e < length old / 80) where
  abbrev room' : ℕ
  room' = length old / 80

  abbrev its : ℕ
  its = get_or new 67 0 % room'

  wide : 80 * e + 80 ≤ length now
  wide = omega (arith, p.long)

  -- the words of another entry, and of another bucket
  entry_word : (i k : ℕ) → i < e → k < 69 → get_or now (80 * i + k) 0 ≡ get_or old (80 * i + k) 0
  entry_word i k l a = p.others (80 * i + k) (λ u v. omega arith) (apart i its (80 * i + k) (omega arith) (omega arith))

  bucket_word : (h : ℕ) → h ≢ its → get_or now (80 * h + 69) 0 ≡ get_or old (80 * h + 69) 0
  bucket_word h d = p.others (80 * h + 69) (λ u v. omega arith) (λ q. d (omega arith))

  sums : (i : ℕ) → i < e → get_or old (80 * i + 67) 0 ≡ get_or now (80 * i + 67) 0
  sums i l = sym (entry_word i 67 l (omega arith))

  last_still : (h n : ℕ) → n ≤ e → last_in old room' h n ≡ last_in now room' h n
  last_still h n l = last_same old now room' h n (λ i k. sums i (omega arith))

  in_its : get_or now (80 * e + 67) 0 % room' ≡ its
  in_its = ap (λ (y : ℕ). y % room') (p.entry 67 (omega arith))

  chained_put : Chained now room' (suc e)
  chained_put = record { before = λ i l. before_of i l (ℕ_discrete i e); last = λ h l. last_of h l (ℕ_discrete h its) }
    where
      before_of : (i : ℕ) → i < suc e → Dec (i ≡ e) → get_or now (80 * i + 68) 0 ≡ last_in now room' (get_or now (80 * i + 67) 0 % room') i
      before_of i l (yes q) = rw (q, in_its) (p.link ∙ s.chained.last its (mod-lt (get_or new 67 0) (omega arith)) ∙ last_still its e (omega arith))
      before_of i l (no q) =
          entry_word i 68 (omega arith) (omega arith)
          ∙ s.chained.before i (omega arith)
          ∙ last_still (get_or old (80 * i + 67) 0 % room') i (omega arith)
          ∙ ap (λ (y : ℕ). last_in now room' (y % room') i) (sums i (omega arith))

      last_of : (h : ℕ) → h < room' → Dec (h ≡ its) → get_or now (80 * h + 69) 0 ≡ last_in now room' h (suc e)
      last_of h l (yes q) = rw q (p.last ∙ add-one e ∙ sym (last_here now room' its e in_its))
      last_of h l (no q) = bucket_word h q ∙ s.chained.last h l ∙ last_still h e (omega arith) ∙ sym (last_past now room' h e (λ z. q (sym z ∙ in_its)))

  more_old : (i : ℕ) → i < e → get_or (memo ++ (x ∷ [])) i none ≡ get_or memo i none
  more_old i l = get_or-append memo (x ∷ []) none i (omega (arith, s.count))

  more_new : get_or (memo ++ (x ∷ [])) e none ≡ x
  more_new = get_or_at memo x [] none e s.count

  pub stored_put : ((i : ℕ) → i < e → (get_or memo i none).key ≢ x.key) → Stored r now (e + 1) (memo ++ (x ∷ []))
  stored_put other = record {
    count = length-append memo (x ∷ []) ∙ omega (arith, s.count);
    fits = rw p.long (omega arith);
    held = λ i l. held_of i l (ℕ_discrete i e);
    chained = rw (p.long, add-one e) chained_put;
    distinct = λ i j a b. distinct_of i j a b (ℕ_discrete j e);
  }
    where
      held_of : (i : ℕ) → i < e + 1 → Dec (i ≡ e) → EntryWords r now (80 * i) (get_or (memo ++ (x ∷ [])) i none)
      held_of i l (yes q) = rw (q, more_new) (entry_put g now (80 * e) wide p.entry)
      held_of i l (no q) =
          rw (more_old i (omega arith))
          (entry_moved (s.held i (omega arith)) now (80 * i) (omega (arith, wide)) (λ k a. entry_word i k (omega arith) (omega arith)))

      distinct_of : (i j : ℕ) → i < j → j < e + 1 → Dec (j ≡ e) → (get_or (memo ++ (x ∷ [])) i none).key ≢ (get_or (memo ++ (x ∷ [])) j none).key
      distinct_of i j a b (yes q) = rw (q, more_new, more_old i (omega arith)) (other i (omega arith))
      distinct_of i j a b (no q) = rw (more_old i (omega arith), more_old j (omega arith)) (s.distinct i j a (omega arith))

-- ---- changing

module _ {r : Bytes} {old now : List ℕ} {n : ℕ} {memo : List Entry} (s : Stored r old n memo) (e : ℕ) (l : e < n)
    {new : List ℕ} {x : Entry} (g : EntryWords r new 0 x) (f : Filled old now (80 * e) 68 new) (q : (get_or memo e none).key ≡ x.key) where
  -- the words of another entry, and those of the chains
  other_word : (i k : ℕ) → i ≢ e → k < 68 → get_or now (80 * i + k) 0 ≡ get_or old (80 * i + k) 0
  other_word i k d a = f.outside (80 * i + k) (λ u v. d (omega arith))

  link_word : (i k : ℕ) → 68 ≤ k → k < 70 → get_or now (80 * i + k) 0 ≡ get_or old (80 * i + k) 0
  link_word i k a b = f.outside (80 * i + k) (λ u v. omega arith)

  sum_word : (i : ℕ) → get_or now (80 * i + 67) 0 ≡ get_or old (80 * i + 67) 0
  sum_word i = go (ℕ_discrete i e)
    where
      go : Dec (i ≡ e) → get_or now (80 * i + 67) 0 ≡ get_or old (80 * i + 67) 0
      go (yes d) = rw d (f.inside 67 (omega arith) ∙ g.total ∙ ap hash_sum (sym q) ∙ sym (s.held e l).total)
      go (no d) = other_word i 67 d (omega arith)

  last_kept : (h m : ℕ) → last_in old (length old / 80) h m ≡ last_in now (length old / 80) h m
  last_kept h m = last_same old now (length old / 80) h m (λ i k. sym (sum_word i))

  set_new : get_or (set memo e x) e none ≡ x
  set_new = get_or-set_same memo e x none (omega (arith, s.count))

  set_old : (i : ℕ) → i ≢ e → get_or (set memo e x) i none ≡ get_or memo i none
  set_old i d = get_or-set_other memo e i x none d

  set_key : (i : ℕ) → (get_or (set memo e x) i none).key ≡ (get_or memo i none).key
  set_key i = go (ℕ_discrete i e)
    where
      go : Dec (i ≡ e) → (get_or (set memo e x) i none).key ≡ (get_or memo i none).key
      go (yes d) = rw (d, set_new) (sym q)
      go (no d) = ap (λ (y : Entry). y.key) (set_old i d)

  pub stored_changed : Stored r now n (set memo e x)
  stored_changed = record {
    count = length-set memo e x ∙ s.count;
    fits = rw f.long s.fits;
    held = λ i b. held_of i b (ℕ_discrete i e);
    chained = rw f.long (record {
      before = λ i b.
          link_word i 68 (omega arith) (omega arith)
          ∙ s.chained.before i b
          ∙ last_kept (get_or old (80 * i + 67) 0 % (length old / 80)) i
          ∙ ap (λ (y : ℕ). last_in now (length old / 80) (y % (length old / 80)) i) (sym (sum_word i));
      last = λ h b. link_word h 69 (omega arith) (omega arith) ∙ s.chained.last h b ∙ last_kept h n;
    });
    distinct = λ i j a b z. s.distinct i j a b (sym (set_key i) ∙ z ∙ set_key j);
  }
    where
      wide : (i : ℕ) → i < n → 80 * i + 80 ≤ length now
      wide i b = omega (arith, f.long, (s.held i b).block.wide)

      held_of : (i : ℕ) → i < n → Dec (i ≡ e) → EntryWords r now (80 * i) (get_or (set memo e x) i none)
      held_of i b (yes d) = rw (d, set_new) (entry_put g now (80 * e) (wide e l) f.inside)
      held_of i b (no d) = rw (set_old i d) (entry_moved (s.held i b) now (80 * i) (wide i b) (λ k a. other_word i k d a))
