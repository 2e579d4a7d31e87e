-- Members of a group that meet: two of them, one with those after it, the group, all groups. Assumes nothing.
use Rattle.std.proofs.Common.{◌≡◌, refl, sym, ap, ◌∙◌, subst, ◌≢◌, Bool, true, false, List, [], ◌∷◌, ℕ, zero, suc, ◌+◌, ◌-◌, ◌*◌, ◌^◌, ◌≤◌, ◌<◌, add-one, arith, length, get_or, take, Some}
use Rattle.std.proofs.Math.Decide.{dec_lt, ℕ_discrete}
use Rattle.std.proofs.Math.Seq.{take-length}
use Rattle.bitset.specs.Bits.{is_disjoint}
use Rattle.molecule.specs.Lists.{fold}
use Rattle.matches.specs.Table.{Group, note}
use Rattle.enumerate.specs.Inner.Grouped.{group_at}
use Rattle.tabulate.specs.declared.nodes.Done.{Done}
use Rattle.tabulate.specs.Inner.Noded.{both_noted, nodes_after, nodes_of, apart, pairs_with, disjoint_pairs, pairs_in, Noded, Beside, Numbered, Named, PairsMade, ahead, LeadsThrough, Naming, Meeting, ToMeet, Pairing, Groups, Paired}
use Rattle.enumerate.proofs.Chains.{note_length}
use Rattle.enumerate.proofs.Placing.{group_first, group_later}
use Rattle.tabulate.proofs.Noding.{both_yes, both_no, apart_yes, apart_no, boths_length, after_length, of_length, beside_then}

-- ---- two candidates

module _ {parts : List ℕ} {p : ℕ} {l nodes : List ℕ} {i j : ℕ} {done : Done} (w : Meeting parts p l nodes i j done) where
  abbrev both : List ℕ
  both = both_noted (get_or l i 0) nodes (get_or l j 0)

  test : (b : Bool) → is_disjoint (get_or parts (p + i) 0) (get_or parts (p + j) 0) ≡ b → is_disjoint (get_or l i 0) (get_or l j 0) ≡ b
  test b e = rw (w.noded.listed.sets i w.one, w.noded.listed.sets j w.other) at e

  pub meet_first : Naming parts p l nodes i done.nodes
  meet_first = record { noded = w.noded; long = w.long; within = w.one }

  pub meet_none : {s : ℕ} → is_disjoint (get_or parts (p + i) 0) (get_or parts (p + j) 0) ≡ false → PairsMade parts p l both (apart (get_or l i 0) (get_or l j 0)) s done (Some done)
  meet_none e = rw (both_no (get_or l i 0) nodes (get_or l j 0) (test false e)) (
    record { long = w.long; more = omega arith; noded = w.noded; starts = λ k h m. absurd (omega arith) },
    omega (arith, apart_no (get_or l i 0) (get_or l j 0) (test false e)),
  )

  module _ (e : is_disjoint (get_or parts (p + i) 0) (get_or parts (p + j) 0) ≡ true) where
    pub meet_room : done.matches + 1 < 2 ^ 64
    meet_room = omega (arith, w.room, apart_yes (get_or l i 0) (get_or l j 0) (test true e))

    -- there is no room for i
    pub meet_over : ((l nodes : List ℕ) → Naming parts p l nodes i done.nodes → p < length (note nodes (get_or l i 0))) → p < length both
    meet_over q = rw (both_yes (get_or l i 0) nodes (get_or l j 0) (test true e)) (omega (arith, q l nodes meet_first, note_length (note nodes (get_or l i 0)) (get_or l j 0)))

    -- i is named: there are n nodes
    module _ {s : ℕ} {then : List ℕ} {n : ℕ} (b : Beside parts then p done.nodes)
        (q : (l nodes : List ℕ) → Naming parts p l nodes i done.nodes → Named then p l (note nodes (get_or l i 0)) s done.nodes (Some n)) where
      first : Numbered then p l (note nodes (get_or l i 0)) s done.nodes n
      first = q l nodes meet_first

      pub meet_second : Naming then p l (note nodes (get_or l i 0)) j n
      meet_second = record { noded = first.noded; long = first.long; within = w.other }

      -- there is no room for j
      pub meet_second_over : ((l nodes : List ℕ) → Naming then p l nodes j n → p < length (note nodes (get_or l j 0))) → p < length both
      meet_second_over q' = rw (both_yes (get_or l i 0) nodes (get_or l j 0) (test true e)) (q' l (note nodes (get_or l i 0)) meet_second)

      module _ {last : List ℕ} (b' : Beside then last p n) where
        pub meet_beside : Beside parts last p done.nodes
        meet_beside = beside_then first.more b b'

        -- j is named: there are k nodes
        module _ {k : ℕ} (q' : (l nodes : List ℕ) → Naming then p l nodes j n → Named last p l (note nodes (get_or l j 0)) s n (Some k)) where
          second : Numbered last p l (note (note nodes (get_or l i 0)) (get_or l j 0)) s n k
          second = q' l (note nodes (get_or l i 0)) meet_second

          start_of : (m : ℕ) → done.nodes ≤ m → m < k → Dec (m < n) → get_or last (8 * p + m) 0 ≡ s
          start_of m a c (yes d) = b'.starts m d (omega (arith, second.long, second.noded.few)) ∙ first.starts m a d
          start_of m a c (no d) = second.starts m (omega arith) c

          pub meet_both : PairsMade last p l both (apart (get_or l i 0) (get_or l j 0)) s done (Some (record { nodes = k; matches = done.matches + 1 }))
          meet_both = rw (both_yes (get_or l i 0) nodes (get_or l j 0) (test true e)) (
            record { long = second.long; more = omega (arith, first.more, second.more); noded = second.noded; starts = λ m a c. start_of m a c (dec_lt m n) },
            omega (arith, apart_yes (get_or l i 0) (get_or l j 0) (test true e)),
          )

-- ---- members of a group

-- the next member, with index k - 1
pub record NextMember (parts : List ℕ) (p : ℕ) (l : List ℕ) (k : ℕ) (left : List ℕ) : Type 0 where
  pub next : List ℕ
  pub within : k - 1 < length l
  pub is : left ≡ get_or l (k - 1) 0 ∷ next
  pub less : ahead p (get_or parts (5 * p + (k - 1)) 0) < ahead p k
  pub linked : LeadsThrough parts p l (get_or parts (5 * p + (k - 1)) 0) next

module _ (parts : List ℕ) (p : ℕ) (l : List ℕ) (k : ℕ) where
  pub turn : (left : List ℕ) → LeadsThrough parts p l k left → k ≢ 0 → NextMember parts p l k left
  unfolding LeadsThrough
  turn [] e n = absurd (n e)
  turn (x ∷ xs) w n =
      let j : k - 1 ≡ w.0 = omega (arith, w.1) in
      record {
        next = xs;
        within = omega (arith, w.2);
        is = rw j (ap (λ (z : ℕ). z ∷ xs) w.3);
        less = rw (j, w.1) w.4;
        linked = rw j w.5;
      }

  pub turned : (left : List ℕ) → LeadsThrough parts p l k left → k ≡ 0 → left ≡ []
  unfolding LeadsThrough
  turned [] e n = refl
  turned (x ∷ xs) w n = absurd (omega (arith, w.1))

-- region 5 is as it was
pub linked_kept : (old now : List ℕ) (p : ℕ) (l : List ℕ) → length l ≤ p → ((i : ℕ) → i < p → get_or now (5 * p + i) 0 ≡ get_or old (5 * p + i) 0) → (k : ℕ) (sets : List ℕ) → LeadsThrough old p l k sets → LeadsThrough now p l k sets
unfolding LeadsThrough
linked_kept old now p l h e k [] w = w
linked_kept old now p l h e k (x ∷ xs) w =
    let q : get_or now (5 * p + w.0) 0 ≡ get_or old (5 * p + w.0) 0 = e w.0 (omega (arith, w.2)) in
    (w.0, w.1, w.2, w.3, rw q w.4, rw q (linked_kept old now p l h e (get_or old (5 * p + w.0) 0) xs w.5))

-- ---- one candidate with those after it

-- candidate i has met some, and d is done; those left are still to be met. k is 1 more than the index of the next, 0 for none
pub record MetSome (old now : List ℕ) (p : ℕ) (l nodes sets : List ℕ) (i s : ℕ) (done d : Done) (k : ℕ) : Type 0 where
  pub list : List ℕ
  pub left : List ℕ
  pub noded : Noded now p l list
  pub long : length list ≡ d.nodes
  pub more : done.nodes ≤ d.nodes
  pub linked : LeadsThrough old p l k left
  pub nodes_are : fold (both_noted (get_or l i 0)) list left ≡ fold (both_noted (get_or l i 0)) nodes sets
  pub matches_are : d.matches + pairs_with (get_or l i 0) left ≡ done.matches + pairs_with (get_or l i 0) sets
  pub starts : (a : ℕ) → done.nodes ≤ a → a < d.nodes → get_or now (8 * p + a) 0 ≡ s

module _ {old : List ℕ} {p : ℕ} {l nodes sets : List ℕ} {i : ℕ} {done : Done} (f : ToMeet old p l nodes sets i done) where
  module _ {s : ℕ} {now : List ℕ} {d : Done} {k : ℕ} (w : MetSome old now p l nodes sets i s done d k) where
    pub round_turn : k ≢ 0 → NextMember old p l k w.left
    round_turn h = turn old p l k w.left w.linked h

    pub round_done : k ≡ 0 → PairsMade now p l (fold (both_noted (get_or l i 0)) nodes sets) (pairs_with (get_or l i 0) sets) s done (Some d)
    unfolding pairs_with
    round_done e =
        let z : w.left ≡ [] = turned old p l k w.left w.linked e in
        let q : w.list ≡ fold (both_noted (get_or l i 0)) nodes sets = ap (λ (y : List ℕ). fold (both_noted (get_or l i 0)) w.list y) (sym z) ∙ w.nodes_are in
        let r : pairs_with (get_or l i 0) w.left ≡ 0 = ap (pairs_with (get_or l i 0)) z in
        (rw (← q) (record { long = w.long; more = w.more; noded = w.noded; starts = w.starts }), omega (arith, w.matches_are, r))

    module _ (h : k ≢ 0) where
      abbrev x : ℕ
      x = get_or l (k - 1) 0

      pairs_left : pairs_with (get_or l i 0) w.left ≡ apart (get_or l i 0) x + pairs_with (get_or l i 0) (round_turn h).next
      unfolding pairs_with
      pairs_left = ap (pairs_with (get_or l i 0)) (round_turn h).is

      nodes_left : fold (both_noted (get_or l i 0)) (both_noted (get_or l i 0) w.list x) (round_turn h).next ≡ fold (both_noted (get_or l i 0)) nodes sets
      nodes_left = ap (λ (y : List ℕ). fold (both_noted (get_or l i 0)) w.list y) (sym (round_turn h).is) ∙ w.nodes_are

      pub round_meeting : Meeting now p l w.list i (k - 1) d
      round_meeting = record {
        noded = w.noded;
        long = w.long;
        one = f.within;
        other = (round_turn h).within;
        room = omega (arith, f.room, w.matches_are, pairs_left);
      }

      -- there is no room where it meets candidate k - 1
      pub round_over : ((l nodes : List ℕ) → Meeting now p l nodes i (k - 1) d → p < length (both_noted (get_or l i 0) nodes (get_or l (k - 1) 0)))
          → p < length (fold (both_noted (get_or l i 0)) nodes sets)
      round_over q =
          omega (arith, q l w.list round_meeting, boths_length (get_or l i 0) (round_turn h).next (both_noted (get_or l i 0) w.list x), ap (λ (y : List ℕ). length y) nodes_left)

      -- it meets candidate k - 1
      module _ (b : Beside old now p done.nodes) {then : List ℕ} (c : Beside now then p d.nodes) where
        pub round_beside : Beside old then p done.nodes
        round_beside = beside_then w.more b c

        link : get_or then (5 * p + (k - 1)) 0 ≡ get_or old (5 * p + (k - 1)) 0
        link = round_beside.middle (5 * p + (k - 1)) (omega arith) (omega (arith, (round_turn h).within, f.noded.listed.fits))

        pub round_less : ahead p (get_or then (5 * p + (k - 1)) 0) < ahead p k
        round_less = rw link (round_turn h).less

        module _ {e : Done} (q : (l nodes : List ℕ) → Meeting now p l nodes i (k - 1) d
            → PairsMade then p l (both_noted (get_or l i 0) nodes (get_or l (k - 1) 0)) (apart (get_or l i 0) (get_or l (k - 1) 0)) s d (Some e)) where
          got : PairsMade then p l (both_noted (get_or l i 0) w.list x) (apart (get_or l i 0) x) s d (Some e)
          got = q l w.list round_meeting

          start_at : (a : ℕ) → done.nodes ≤ a → a < e.nodes → Dec (a < d.nodes) → get_or then (8 * p + a) 0 ≡ s
          start_at a g j (yes m) = c.starts a m (omega (arith, w.long, w.noded.few)) ∙ w.starts a g m
          start_at a g j (no m) = got.0.starts a (omega arith) j

          pub round_next : MetSome old then p l nodes sets i s done e (get_or then (5 * p + (k - 1)) 0)
          round_next = record {
            list = both_noted (get_or l i 0) w.list x;
            left = (round_turn h).next;
            noded = got.0.noded;
            long = got.0.long;
            more = omega (arith, w.more, got.0.more);
            linked = rw link (round_turn h).linked;
            nodes_are = nodes_left;
            matches_are = omega (arith, w.matches_are, pairs_left, got.1);
            starts = λ a g j. start_at a g j (dec_lt a d.nodes);
          }

-- ---- a group

-- some members have met those after them, and d is done; those left are still to do so. k is 1 more than the index of the next, 0 for none
pub record WalkedGroup (old now : List ℕ) (p : ℕ) (l nodes sets : List ℕ) (s : ℕ) (done d : Done) (k : ℕ) : Type 0 where
  pub list : List ℕ
  pub left : List ℕ
  pub noded : Noded now p l list
  pub long : length list ≡ d.nodes
  pub more : done.nodes ≤ d.nodes
  pub linked : LeadsThrough old p l k left
  pub nodes_are : nodes_after list left ≡ nodes_after nodes sets
  pub matches_are : d.matches + disjoint_pairs left ≡ done.matches + disjoint_pairs sets
  pub starts : (a : ℕ) → done.nodes ≤ a → a < d.nodes → get_or now (8 * p + a) 0 ≡ s

module _ {old : List ℕ} {p : ℕ} {l nodes sets : List ℕ} {first : ℕ} {done : Done} (f : Pairing old p l nodes sets first done) where
  pub walk_first : first < length l
  unfolding LeadsThrough
  walk_first = go sets f.linked
    where
      go : (xs : List ℕ) → LeadsThrough old p l (suc first) xs → first < length l
      go [] w = absurd (omega (arith, w))
      go (x ∷ xs) w = omega (arith, w.1, w.2)

  module _ {s : ℕ} {now : List ℕ} {d : Done} {k : ℕ} (w : WalkedGroup old now p l nodes sets s done d k) where
    pub walk_turn : k ≢ 0 → NextMember old p l k w.left
    walk_turn h = turn old p l k w.left w.linked h

    pub walk_done : k ≡ 0 → PairsMade now p l (nodes_after nodes sets) (disjoint_pairs sets) s done (Some d)
    unfolding disjoint_pairs nodes_after
    walk_done e =
        let z : w.left ≡ [] = turned old p l k w.left w.linked e in
        let q : w.list ≡ nodes_after nodes sets = ap (λ (y : List ℕ). nodes_after w.list y) (sym z) ∙ w.nodes_are in
        let r : disjoint_pairs w.left ≡ 0 = ap disjoint_pairs z in
        (rw (← q) (record { long = w.long; more = w.more; noded = w.noded; starts = w.starts }), omega (arith, w.matches_are, r))

    module _ (h : k ≢ 0) (b : Beside old now p done.nodes) where
      abbrev y : ℕ
      y = get_or l (k - 1) 0

      pairs_after_lem : disjoint_pairs w.left ≡ pairs_with y (walk_turn h).next + disjoint_pairs (walk_turn h).next
      unfolding disjoint_pairs
      pairs_after_lem = ap disjoint_pairs (walk_turn h).is

      nodes_after_lem : nodes_after (fold (both_noted y) w.list (walk_turn h).next) (walk_turn h).next ≡ nodes_after nodes sets
      unfolding nodes_after
      nodes_after_lem = ap (λ (z : List ℕ). nodes_after w.list z) (sym (walk_turn h).is) ∙ w.nodes_are

      link_now : get_or now (5 * p + (k - 1)) 0 ≡ get_or old (5 * p + (k - 1)) 0
      link_now = b.middle (5 * p + (k - 1)) (omega arith) (omega (arith, (walk_turn h).within, f.noded.listed.fits))

      pub walk_rounding : ToMeet now p l w.list (walk_turn h).next (k - 1) d
      walk_rounding = record {
        noded = w.noded;
        long = w.long;
        within = (walk_turn h).within;
        linked = rw link_now (linked_kept old now p l f.noded.listed.fits (λ i g. b.middle (5 * p + i) (omega arith) (omega arith))
            (get_or old (5 * p + (k - 1)) 0) (walk_turn h).next (walk_turn h).linked);
        room = omega (arith, f.room, w.matches_are, pairs_after_lem);
      }

      -- there is no room where candidate k - 1 meets those after it
      pub walk_over : ((l nodes sets : List ℕ) → ToMeet now p l nodes sets (k - 1) d → p < length (fold (both_noted (get_or l (k - 1) 0)) nodes sets))
          → p < length (nodes_after nodes sets)
      walk_over q =
          omega (arith, q l w.list (walk_turn h).next walk_rounding, after_length (walk_turn h).next (fold (both_noted y) w.list (walk_turn h).next), ap (λ (z : List ℕ). length z) nodes_after_lem)

      -- candidate k - 1 meets those after it
      module _ {then : List ℕ} (c : Beside now then p d.nodes) where
        pub walk_beside : Beside old then p done.nodes
        walk_beside = beside_then w.more b c

        link_then : get_or then (5 * p + (k - 1)) 0 ≡ get_or old (5 * p + (k - 1)) 0
        link_then = walk_beside.middle (5 * p + (k - 1)) (omega arith) (omega (arith, (walk_turn h).within, f.noded.listed.fits))

        pub walk_less : ahead p (get_or then (5 * p + (k - 1)) 0) < ahead p k
        walk_less = rw link_then (walk_turn h).less

        module _ {e : Done} (q : (l nodes sets : List ℕ) → ToMeet now p l nodes sets (k - 1) d
            → PairsMade then p l (fold (both_noted (get_or l (k - 1) 0)) nodes sets) (pairs_with (get_or l (k - 1) 0) sets) s d (Some e)) where
          gone : PairsMade then p l (fold (both_noted y) w.list (walk_turn h).next) (pairs_with y (walk_turn h).next) s d (Some e)
          gone = q l w.list (walk_turn h).next walk_rounding

          start_in_lem : (a : ℕ) → done.nodes ≤ a → a < e.nodes → Dec (a < d.nodes) → get_or then (8 * p + a) 0 ≡ s
          start_in_lem a g j (yes m) = c.starts a m (omega (arith, w.long, w.noded.few)) ∙ w.starts a g m
          start_in_lem a g j (no m) = gone.0.starts a (omega arith) j

          pub walk_next : WalkedGroup old then p l nodes sets s done e (get_or then (5 * p + (k - 1)) 0)
          walk_next = record {
            list = fold (both_noted y) w.list (walk_turn h).next;
            left = (walk_turn h).next;
            noded = gone.0.noded;
            long = gone.0.long;
            more = omega (arith, w.more, gone.0.more);
            linked = rw link_then (walk_turn h).linked;
            nodes_are = nodes_after_lem;
            matches_are = omega (arith, w.matches_are, pairs_after_lem, gone.1);
            starts = λ a g j. start_in_lem a g j (dec_lt a d.nodes);
          }

-- ---- all groups

nodes_suc : (gs : List Group) (nodes : List ℕ) (g : ℕ) → g < length gs → nodes_of nodes (take (suc g) gs) ≡ nodes_after (nodes_of nodes (take g gs)) (group_at gs g).sets
unfolding nodes_of
nodes_suc [] nodes g h = absurd (omega arith)
nodes_suc (x ∷ gs) nodes zero h = rw (group_first x gs)
nodes_suc (x ∷ gs) nodes (suc g) h = rw (group_later x gs g) (nodes_suc gs (nodes_after nodes x.sets) g (omega arith))

nodes_mono : (gs : List Group) (nodes : List ℕ) (j k : ℕ) → j ≤ k → length (nodes_of nodes (take j gs)) ≤ length (nodes_of nodes (take k gs))
unfolding nodes_of
nodes_mono gs nodes zero k h = of_length (take k gs) nodes
nodes_mono gs nodes (suc j) zero h = absurd (omega arith)
nodes_mono [] nodes (suc j) (suc k) h = omega arith
nodes_mono (x ∷ gs) nodes (suc j) (suc k) h = nodes_mono gs (nodes_after nodes x.sets) j k (omega arith)

pairs_suc : (gs : List Group) (g : ℕ) → g < length gs → pairs_in (take (suc g) gs) ≡ pairs_in (take g gs) + disjoint_pairs (group_at gs g).sets
unfolding pairs_in
pairs_suc [] g h = absurd (omega arith)
pairs_suc (x ∷ gs) zero h = rw (group_first x gs) (omega arith)
pairs_suc (x ∷ gs) (suc g) h = rw (group_later x gs g) (omega (arith, pairs_suc gs g (omega arith)))

pairs_le : (gs : List Group) (g : ℕ) → pairs_in (take g gs) ≤ pairs_in gs
unfolding pairs_in
pairs_le gs zero = omega arith
pairs_le [] (suc g) = omega arith
pairs_le (x ∷ gs) (suc g) = omega (arith, pairs_le gs g)

-- the first g groups are paired up, and d is done
pub record Whole (now : List ℕ) (p : ℕ) (l nodes : List ℕ) (gs : List Group) (count : ℕ) (d : Done) (g : ℕ) : Type 0 where
  pub noded : Noded now p l (nodes_of nodes (take g gs))
  pub long : length (nodes_of nodes (take g gs)) ≡ d.nodes
  pub more : count ≤ d.nodes
  pub matches : d.matches ≡ pairs_in (take g gs)
  pub starts : (k i : ℕ) → k < g → length (nodes_of nodes (take k gs)) ≤ i → i < length (nodes_of nodes (take (suc k) gs)) → get_or now (8 * p + i) 0 ≡ length (nodes_of nodes (take k gs))

module _ {old : List ℕ} {p : ℕ} {l nodes : List ℕ} {gs : List Group} {groups count : ℕ} (f : Groups old p l nodes gs groups count) where
  pub whole_start : Whole old p l nodes gs count (record { nodes = count; matches = 0 }) 0
  unfolding nodes_of pairs_in
  whole_start = record { noded = f.noded; long = f.long; more = omega arith; matches = refl; starts = λ k i h. absurd (omega arith) }

  module _ {now : List ℕ} {d : Done} {g : ℕ} (w : Whole now p l nodes gs count d g) where
    pub whole_done : g ≡ groups → Paired now p l nodes gs d
    whole_done e =
        let z : take g gs ≡ gs = ap (λ (k : ℕ). take k gs) (e ∙ sym f.many) ∙ take-length gs in
        let q : nodes_of nodes (take g gs) ≡ nodes_of nodes gs = ap (nodes_of nodes) z in
        record {
          long = sym (ap (λ (y : List ℕ). length y) q) ∙ w.long;
          noded = subst (Noded now p l) q w.noded;
          starts = λ k i a. w.starts k i (omega (arith, f.many));
          matches = w.matches ∙ ap pairs_in z;
        }

    module _ (h : g < groups) (b : Beside old now p count) where
      first_kept : get_or now (4 * p + g) 0 ≡ get_or old (4 * p + g) 0
      first_kept = b.middle (4 * p + g) (omega arith) (omega (arith, f.few))

      one_more : nodes_of nodes (take (suc g) gs) ≡ nodes_after (nodes_of nodes (take g gs)) (group_at gs g).sets
      one_more = nodes_suc gs nodes g (omega (arith, f.many))

      pairs_more : pairs_in (take (suc g) gs) ≡ pairs_in (take g gs) + disjoint_pairs (group_at gs g).sets
      pairs_more = pairs_suc gs g (omega (arith, f.many))

      pub whole_pairing : Pairing now p l (nodes_of nodes (take g gs)) (group_at gs g).sets (get_or now (4 * p + g) 0) d
      whole_pairing = record {
        noded = w.noded;
        long = w.long;
        linked = rw first_kept (linked_kept old now p l f.noded.listed.fits (λ i j. b.middle (5 * p + i) (omega arith) (omega arith))
            (suc (get_or old (4 * p + g) 0)) (group_at gs g).sets (f.linked g (omega (arith, f.many))));
        room = omega (arith, f.room, w.matches, pairs_more, pairs_le gs (suc g));
      }

      -- there is no room for group g
      pub whole_over : ((l nodes sets : List ℕ) → Pairing now p l nodes sets (get_or now (4 * p + g) 0) d → p < length (nodes_after nodes sets)) → p < length (nodes_of nodes gs)
      whole_over q = omega (
        arith,
        q l (nodes_of nodes (take g gs)) (group_at gs g).sets whole_pairing,
        ap (λ (y : List ℕ). length y) one_more,
        nodes_mono gs nodes (suc g) (length gs) (omega (arith, f.many)),
        ap (λ (y : List Group). length (nodes_of nodes y)) (take-length gs),
      )

      -- group g is paired up
      module _ {then : List ℕ} (c : Beside now then p d.nodes) where
        pub whole_beside : Beside old then p count
        whole_beside = beside_then w.more b c

        module _ {e : Done} (q : (l nodes sets : List ℕ) → Pairing now p l nodes sets (get_or now (4 * p + g) 0) d
            → PairsMade then p l (nodes_after nodes sets) (disjoint_pairs sets) d.nodes d (Some e)) where
          made : PairsMade then p l (nodes_after (nodes_of nodes (take g gs)) (group_at gs g).sets) (disjoint_pairs (group_at gs g).sets) d.nodes d (Some e)
          made = q l (nodes_of nodes (take g gs)) (group_at gs g).sets whole_pairing

          start_now : (k i : ℕ) → k < suc g → length (nodes_of nodes (take k gs)) ≤ i → i < length (nodes_of nodes (take (suc k) gs)) → Dec (k ≡ g) → get_or then (8 * p + i) 0 ≡ length (nodes_of nodes (take k gs))
          start_now k i a m n (yes z) =
              let u : length (nodes_of nodes (take k gs)) ≡ d.nodes = ap (λ (y : ℕ). length (nodes_of nodes (take y gs))) z ∙ w.long in
              let v : length (nodes_of nodes (take (suc k) gs)) ≡ e.nodes = ap (λ (y : ℕ). length (nodes_of nodes (take (suc y) gs))) z ∙ ap (λ (y : List ℕ). length y) one_more ∙ made.0.long in
              made.0.starts i (omega (arith, u)) (omega (arith, v)) ∙ sym u
          start_now k i a m n (no z) =
              let u : i < d.nodes = omega (arith, w.long, nodes_mono gs nodes (suc k) g (omega arith)) in
              c.starts i u (omega (arith, w.long, w.noded.few)) ∙ w.starts k i (omega arith) m n

          pub whole_next : Whole then p l nodes gs count e (g + 1)
          whole_next = rw (add-one g) (record {
            noded = rw one_more made.0.noded;
            long = ap (λ (y : List ℕ). length y) one_more ∙ made.0.long;
            more = omega (arith, w.more, made.0.more);
            matches = omega (arith, made.1, w.matches, pairs_more);
            starts = λ k i a m n. start_now k i a m n (ℕ_discrete k g);
          })
