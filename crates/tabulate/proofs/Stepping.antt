-- One size more in the lent table: its parents and candidates, which are no nodes yet, and the new nodes with the numbers where their groups start. Assumes nothing.
use Rattle.std.proofs.Common.{◌≡◌, refl, sym, ap, ◌∙◌, subst, ◌⊎◌, inl, inr, ◌≢◌, ◌↔◌, true, false, List, [], ◌∷◌, ◌++◌, ℕ, zero, suc, ◌+◌, ◌-◌, ◌*◌, ◌^◌, ◌≤◌, ◌<◌, max, zero-add, arith, eqb, length, get_or, take, drop, length-append, ext_get_or, get_or-take, length-take-le, get_or-append-add, eqb-true, Option, Some, None}
use mathlib.Core.List.Memᴰ.{cast as mem_cast}
use mathlib.Core.List.{Memᴰ as Mem}
use Rattle.std.proofs.Math.Decide.{dec_lt, ℕ_discrete}
use Rattle.std.proofs.Math.ListN.{get_or-append}
use Rattle.std.proofs.Math.Seq.{slice, get_or_at}
use Rattle.bitset.specs.Bits.{bit, size}
use Rattle.bitset.proofs.Bools.{two}
use Rattle.bitset.proofs.Laws.{member_lt}
use Rattle.molecule.specs.Lists.{Bytes, any}
use Rattle.molecule.specs.Record.{bonds}
use Rattle.molecule.specs.Check.{check, accepted}
use Rattle.molecule.specs.Touch.{touching, touching_words}
use Rattle.molecule.proofs.Accepted.{accepted_formed}
use Rattle.molecule.proofs.Components.{words_at}
use Rattle.molecule.proofs.Lists.{at_mem, any_some, length_list, list_at}
use Rattle.matches.specs.Table.{Group, Table, candidates, groups, extend, sizes, singles}
use Rattle.enumerate.specs.Inner.Bucketed.{Spared, Collected, grown_by}
use Rattle.enumerate.specs.Inner.Grouped.{group_at, Keyed, Grouped, Groupable, Around}
use Rattle.tabulate.specs.declared.nodes.Done.{Done}
use Rattle.tabulate.specs.Inner.Noded.{nodes_after, nodes_of, pairs_in, Beside, Groups, Paired, Grown}
use Rattle.matches.specs.Inner.Ranks.{Akin}
use Rattle.matches.specs.Inner.Descending.{Starts}
use Rattle.matches.specs.Inner.Written.{start_in}
use Rattle.tabulate.specs.Inner.Stage.{table_at, nodes_at, Stage, Sizing, Found, Overflowing, NextSize}
use Rattle.matches.proofs.Laws.{before_differ, groups_every}
use Rattle.matches.proofs.Laws.{pair_up_grows}
use Rattle.matches.proofs.Laws.{Node, candidates_node, candidates_distinct, single_node}
use Rattle.enumerate.proofs.Candidates.{grown_candidates}
use Rattle.enumerate.proofs.Placing.{group_first, group_later, group_mem}
use Rattle.enumerate.proofs.Grouping.{bucketed_around}
use Rattle.tabulate.proofs.Noding.{pair_up_nodes, extend_nodes, extend_matches, after_length, Cleared, cleared_bucketed, noded_start, grouped_linked}
use Rattle.tabulate.proofs.Fitting.{pairs_fit}
use Rattle.tabulate.proofs.Stages.{singles_length, parents_at, nodes_suc, table_next, parents_kept, table_round, table_round_next}

-- ---- the nodes that groups add

after_grows : (nodes l : List ℕ) → (e : List ℕ) × (nodes_after nodes l ≡ nodes ++ e) × ((x : ℕ) → Mem x e → Mem x l)
after_grows nodes l =
    let t : Table = record { nodes = nodes; matches = []; needs = [] } in
    let g = pair_up_grows (λ x. Mem x l) l t (λ y m. m) in
    (g.new, sym (pair_up_nodes l t) ∙ g.nodes_are, g.good)

after_stays : (nodes l : List ℕ) (i : ℕ) → i < length nodes → get_or (nodes_after nodes l) i 0 ≡ get_or nodes i 0
after_stays nodes l i h = let g = after_grows nodes l in ap (λ (z : List ℕ). get_or z i 0) g.1 ∙ get_or-append nodes g.0 0 i h

after_member : (nodes l : List ℕ) (i : ℕ) → length nodes ≤ i → i < length (nodes_after nodes l) → Mem (get_or (nodes_after nodes l) i 0) l
after_member nodes l i a b =
    let g = after_grows nodes l in
    let e : i ≡ length nodes + (i - length nodes) = omega arith in
    let n : length (nodes_after nodes l) ≡ length nodes + length g.0 = ap (λ (z : List ℕ). length z) g.1 ∙ length-append nodes g.0 in
    let q : get_or (nodes_after nodes l) i 0 ≡ get_or g.0 (i - length nodes) 0 = ap (λ (z : List ℕ). get_or z i 0) g.1 ∙ ap (λ (j : ℕ). get_or (nodes ++ g.0) j 0) e ∙ get_or-append-add nodes g.0 (i - length nodes) 0 in
    g.2 (get_or (nodes_after nodes l) i 0) (mem_cast q (at_mem 0 g.0 (i - length nodes) (omega arith)))

-- nodes keep their numbers
of_stays : (gs : List Group) (nodes : List ℕ) (i : ℕ) → i < length nodes → get_or (nodes_of nodes gs) i 0 ≡ get_or nodes i 0
unfolding nodes_of
of_stays [] nodes i h = refl
of_stays (g ∷ gs) nodes i h = of_stays gs (nodes_after nodes g.sets) i (omega (arith, after_length g.sets nodes)) ∙ after_stays nodes g.sets i h

-- node i is one that group k adds
record Block (nodes : List ℕ) (gs : List Group) (k i : ℕ) : Type 0 where
  within : k < length gs
  low : length (nodes_of nodes (take k gs)) ≤ i
  high : i < length (nodes_of nodes (take (suc k) gs))

-- each new node is in one of them
block : (gs : List Group) (nodes : List ℕ) (i : ℕ) → length nodes ≤ i → i < length (nodes_of nodes gs) → (k : ℕ) × Block nodes gs k i
unfolding nodes_of
block [] nodes i a b = absurd (omega arith)
block (g ∷ gs) nodes i a b = go (dec_lt i (length (nodes_after nodes g.sets))) (λ h. block gs (nodes_after nodes g.sets) i h b)
  where
    go : Dec (i < length (nodes_after nodes g.sets)) → (length (nodes_after nodes g.sets) ≤ i → (k : ℕ) × Block (nodes_after nodes g.sets) gs k i) → (k : ℕ) × Block nodes (g ∷ gs) k i
    go (yes h) ih = (0, record { within = omega arith; low = a; high = h })
    go (no n) ih = let w = ih (omega arith) in (suc w.0, record { within = omega (arith, w.1.within); low = w.1.low; high = w.1.high })

-- and is a member of that group
block_member : (gs : List Group) (nodes : List ℕ) (k i : ℕ) → Block nodes gs k i → Mem (get_or (nodes_of nodes gs) i 0) (group_at gs k).sets
unfolding nodes_of
block_member [] nodes k i w = absurd (omega (arith, w.within))
block_member (g ∷ gs) nodes zero i w = rw (group_first g gs)
    (mem_cast (of_stays gs (nodes_after nodes g.sets) i w.high) (after_member nodes g.sets i w.low w.high))
block_member (g ∷ gs) nodes (suc k) i w =
    rw (group_later g gs k) (block_member gs (nodes_after nodes g.sets) k i (record { within = omega (arith, w.within); low = w.low; high = w.high }))

-- ---- where their groups start

keys_differ : (r : Bytes) (gs : List Group) → Keyed r gs → (j k : ℕ) → j < length gs → k < length gs → j ≢ k → (group_at gs j).key ≢ (group_at gs k).key
keys_differ r gs w j k h i n e = go (dec_lt j k)
  where
    go : Dec (j < k) → ⊥
    go (yes a) = before_differ (group_at gs j).key (group_at gs k).key (w.ascend j k a i) e
    go (no a) = before_differ (group_at gs k).key (group_at gs j).key (w.ascend k j (omega arith) h) (sym e)

-- nodes of fewer than q bonds, and groups of sets of q bonds
module _ (r : Bytes) (nodes : List ℕ) (gs : List Group) (q : ℕ) (big : 2 ≤ q) (keyed : Keyed r gs) (small : (i : ℕ) → i < length nodes → size (get_or nodes i 0) < q)
    (sized : (k x : ℕ) → k < length gs → Mem x (group_at gs k).sets → size x ≡ q) where
  abbrev new : List ℕ
  new = nodes_of nodes gs

  module _ (x k : ℕ) (w : Block nodes gs k x) where
    at : Mem (get_or new x 0) (group_at gs k).sets
    at = block_member gs nodes k x w

    akin_in : (y : ℕ) → y < x → length (nodes_of nodes (take k gs)) ≤ y → Akin r (get_or new x 0) (get_or new y 0)
    akin_in y b a =
        let v : Mem (get_or new y 0) (group_at gs k).sets = block_member gs nodes k y (record { within = w.within; low = a; high = omega (arith, b, w.high) }) in
        let m : size (get_or new x 0) ≡ q = sized k (get_or new x 0) w.within at in
        record {
          big = omega arith;
          sizes = m ∙ sym (sized k (get_or new y 0) w.within v);
          labels = keyed.labels k (get_or new x 0) w.within at ∙ sym (keyed.labels k (get_or new y 0) w.within v);
        }

    akin_out : x < length new → (y : ℕ) → y < x → Akin r (get_or new x 0) (get_or new y 0) → length (nodes_of nodes (take k gs)) ≤ y
    akin_out l y b a = go (dec_lt y (length nodes))
      where
        other : (j : ℕ) → Block nodes gs j y → Dec (j ≡ k) → length (nodes_of nodes (take k gs)) ≤ y
        other j u (yes e) = subst (λ (i : ℕ). length (nodes_of nodes (take i gs)) ≤ y) e u.low
        other j u (no d) = absurd (keys_differ r gs keyed j k u.within w.within d
            (sym (keyed.labels j (get_or new y 0) u.within (block_member gs nodes j y u)) ∙ sym a.labels ∙ keyed.labels k (get_or new x 0) w.within at))

        go : Dec (y < length nodes) → length (nodes_of nodes (take k gs)) ≤ y
        go (yes o) = absurd (omega (arith, small y o, ap size (of_stays gs nodes y o), a.sizes, sized k (get_or new x 0) w.within at))
        go (no o) = let u = block gs nodes y (omega arith) (omega arith) in other u.0 u.1 (ℕ_discrete u.0 k)

  -- the starts of the nodes that were there, and for each group's nodes how many there were before it
  starts_more : (old start : ℕ → ℕ) → Starts r nodes old → ((i : ℕ) → i < length nodes → start i ≡ old i) → ((k i : ℕ) → k < length gs → length (nodes_of nodes (take k gs)) ≤ i → i < length (nodes_of nodes (take (suc k) gs)) → start i ≡ length (nodes_of nodes (take k gs))) → Starts r new start
  starts_more old start s same fresh x h = go (dec_lt x (length nodes))
    where
      go : Dec (x < length nodes) → (start x ≤ x) × ((y : ℕ) → y < x → (start x ≤ y) ↔ Akin r (get_or new x 0) (get_or new y 0))
      go (yes o) = (omega (arith, same x o, (s x o).0), λ y b. rw (same x o, of_stays gs nodes x o, of_stays gs nodes y (omega arith)) ((s x o).1 y b))
      go (no o) =
          let u = block gs nodes x (omega arith) h in
          let e = fresh u.0 x u.1.within u.1.low u.1.high in
          rw e (u.1.low, λ y b. (akin_in x u.0 u.1 y b, akin_out x u.0 u.1 h y b))

-- ---- the next table

module _ (r : Bytes) (k : ℕ) (h : nodes_at r k < nodes_at r (suc k)) where
  abbrev found : List ℕ
  found = candidates r (parents_at r k)

  pub next_nodes : (table_at r (suc k)).nodes ≡ nodes_of (table_at r k).nodes (groups r found)
  next_nodes = ap (λ (t : Table). t.nodes) (table_next r k h) ∙ extend_nodes r (table_at r k) found

  pub next_matches : length (table_at r (suc k)).matches ≡ length (table_at r k).matches + pairs_in (groups r found)
  next_matches = ap (λ (t : Table). length t.matches) (table_next r k h) ∙ extend_matches r (table_at r k) found

  extend_needs : (t : Table) (l : List ℕ) → (extend r t l).needs ≡ t.needs ++ (max (length l) (length (extend r t l).nodes) ∷ [])
  unfolding extend
  extend_needs t l = refl

  pub next_needs : (table_at r (suc k)).needs ≡ (table_at r k).needs ++ (max (length found) (nodes_at r (suc (suc k))) ∷ [])
  next_needs =
      ap (λ (t : Table). t.needs) (table_next r k h)
      ∙ extend_needs (table_at r k) found
      ∙ ap (λ (n : ℕ). (table_at r k).needs ++ (max (length found) n ∷ [])) (sym (nodes_suc r (suc k) ∙ ap (λ (t : Table). length t.nodes) (table_next r k h)))

  -- there is a need for each size from 0 to k + 1
  pub needs_count : length (table_at r k).needs ≡ suc (suc k)
  needs_count = (table_round r k h).count

  -- what row 9 compares with P at size k + 2
  pub next_need : get_or (table_at r (suc k)).needs (suc (suc k)) 0 ≡ max (length found) (nodes_at r (suc (suc k)))
  next_need = ap (λ (l : List ℕ). get_or l (suc (suc k)) 0) next_needs ∙ get_or_at (table_at r k).needs (max (length found) (nodes_at r (suc (suc k)))) [] 0 (suc (suc k)) needs_count

  pub next_place : suc (suc k) < length (table_at r (suc k)).needs
  next_place = omega (arith, (table_round_next r k h).count)

  candidate : (x : ℕ) → Mem x found → Node r (suc (suc k)) x
  candidate = candidates_node r (suc k) (parents_at r k) (table_round r k h).young

  -- no candidate is a node
  candidate_new : (x : ℕ) → Mem x found → any (eqb x) (table_at r k).nodes ≡ false
  candidate_new x m = go (two (any (eqb x) (table_at r k).nodes))
    where
      go : (any (eqb x) (table_at r k).nodes ≡ true) ⊎ (any (eqb x) (table_at r k).nodes ≡ false) → any (eqb x) (table_at r k).nodes ≡ false
      go (inr n) = n
      go (inl e) =
          let w = any_some (eqb x) (table_at r k).nodes e in
          absurd (omega (arith, (table_round r k h).fine w.0 w.1, ap size (eqb-true x w.0 w.2), (candidate x m).many))

  member_sized : (j x : ℕ) → j < length (groups r found) → Mem x (group_at (groups r found) j).sets → size x ≡ suc (suc k)
  member_sized j x l m = groups_every r (λ y b. size y ≡ suc (suc k)) found (λ y u. (candidate y u).many) (group_at (groups r found) j)
      (group_mem (groups r found) j l) x m

  node_small : (i : ℕ) → i < length (table_at r k).nodes → size (get_or (table_at r k).nodes i 0) < suc (suc k)
  node_small i l = omega (arith, (table_round r k h).fine (get_or (table_at r k).nodes i 0) (at_mem 0 (table_at r k).nodes i l))

-- nodes are no more than what row 9 compares with P
nodes_need : (r : Bytes) (k : ℕ) → nodes_at r k < nodes_at r (suc k) → nodes_at r (suc k) ≤ get_or (table_at r k).needs (suc k) 0
unfolding table_at nodes_at sizes singles
nodes_need r zero h = omega (arith, length_list (λ (i : ℕ). 2 ^ i) 0 (bonds r))
nodes_need r (suc k) h = omega (arith, next_need r k (parents_kept r k h))

-- ---- one size

module _ {r : Bytes} {parts : List ℕ} {p k from to : ℕ} (w : Sizing r parts p k from to) where
  abbrev nodes : List ℕ
  nodes = (table_at r k).nodes

  abbrev these : List ℕ
  these = candidates r (parents_at r k)

  some : nodes_at r k < nodes_at r (suc k)
  some = omega (arith, w.older, w.all, w.parents)

  long : length nodes ≡ to
  long = sym (w.all ∙ nodes_suc r k)

  pub sizing_room : to ≤ p
  sizing_room = omega (arith, w.all, nodes_need r k some, w.held.fits (suc k) (omega (arith, needs_count r k some)))

  -- the nodes are in the table
  nodes_in : take to parts ≡ nodes
  nodes_in =
      let n : length (take to parts) ≡ to = length-take-le to parts (omega (arith, sizing_room, w.held.wide)) in
      ext_get_or 0 (take to parts) nodes (n ∙ sym long) (λ i h. get_or-take to parts i 0 (omega arith) ∙ w.held.nodes i (omega (arith, w.all)))

  parents_in : slice from to parts ≡ parents_at r k
  parents_in = ap (drop from) nodes_in ∙ ap (λ (n : ℕ). drop n nodes) w.older

  module _ {touch : List ℕ} (ok : check r ≡ accepted) (t : touch ≡ touching_words r) where
    touch_at : (s x : ℕ) → Mem s (parents_at r k) → bit s x ≡ 1 → get_or touch x 0 ≡ touching r x
    touch_at s x m b =
        let l : x < bonds r = member_lt (bonds r) s x ((table_round r k some).young s m).own b in
        ap (λ (z : List ℕ). get_or z x 0) t ∙ words_at r x l (omega (arith, (accepted_formed r ok).sized.few))

    found_these : grown_by (λ (i : ℕ). get_or touch i 0) [] (slice from to parts) ≡ these
    found_these = ap (grown_by (λ (i : ℕ). get_or touch i 0) []) parents_in ∙ grown_candidates r (λ (i : ℕ). get_or touch i 0) (parents_at r k) touch_at

    -- the candidates have no room
    pub sizing_over : p < length (grown_by (λ (i : ℕ). get_or touch i 0) [] (slice from to parts)) → Overflowing r p k
    sizing_over h = record { place = next_place r k some; over = omega (arith, next_need r k some, h, ap (λ (l : List ℕ). length l) found_these) }

    module _ {one : List ℕ} {count : ℕ} (v : Spared parts one p × Collected one p (grown_by (λ (i : ℕ). get_or touch i 0) [] (slice from to parts)) (Some count)) where
      counted : Collected one p these (Some count)
      counted = subst (λ (l : List ℕ). Collected one p l (Some count)) found_these v.1

      pub sizing_wide : 12 * p ≤ length one
      sizing_wide = omega (arith, v.0.long, w.held.wide)

      pub sizing_count : length these ≡ count
      sizing_count = counted.1

      pub sizing_few : count ≤ p
      sizing_few = omega (arith, counted.1, counted.0.listed.fits)

      module _ {two : List ℕ} (c : Cleared one two p count) where
        pub sizing_ready : Groupable r two p these
        sizing_ready = record {
          found = cleared_bucketed one two p count these c counted.0;
          wide = omega (arith, c.long, sizing_wide);
          fragments = λ s m. let f = candidate r k some s m in record { own = f.own; connected = f.whole };
        }

        module _ {three : List ℕ} {g : ℕ} (o : Around two three p) (d : (g ≡ length (groups r these)) × Grouped r three p these count (groups r these)) where
          grouped : Grouped r three p these (length these) (groups r these)
          grouped = subst (λ (n : ℕ). Grouped r three p these n (groups r these)) (sym sizing_count) d.1

          number_at : (i : ℕ) → i < length nodes → get_or three i 0 ≡ get_or nodes i 0
          number_at i h =
              let l : i < p = omega (arith, long, sizing_room) in
              o.low i (omega arith) ∙ c.low i (omega arith) ∙ v.0.nodes i l ∙ w.held.nodes i (omega (arith, w.all, long))

          pub sizing_groups : Groups three p these nodes (groups r these) g to
          sizing_groups = record {
            noded = noded_start three p these nodes (bucketed_around o sizing_ready.found) (omega (arith, o.long, c.long, sizing_wide))
                (candidates_distinct r (parents_at r k)) (omega (arith, long, sizing_room)) number_at
                (λ i h. candidate_new r k some (get_or these i 0) (at_mem 0 these i h))
                (λ i h. o.middle (7 * p + i) (omega arith) (omega (arith, sizing_count, sizing_few)) ∙ c.none i (omega (arith, sizing_count)));
            long = long;
            many = sym d.0;
            few = omega (arith, d.0, grouped.few, sizing_count, sizing_few);
            linked = grouped_linked r three p these (groups r these) (omega (arith, sizing_count, sizing_few)) grouped;
            room = omega (arith, pairs_fit r these (omega (arith, sizing_count, sizing_few, w.held.clamped)));
          }

          all_nodes : nodes_at r (suc (suc k)) ≡ length (nodes_of nodes (groups r these))
          all_nodes = nodes_suc r (suc k) ∙ ap (λ (l : List ℕ). length l) (next_nodes r k some)

          -- the nodes have no room
          pub sizing_full : p < length (nodes_of nodes (groups r these)) → Overflowing r p k
          sizing_full h = record { place = next_place r k some; over = omega (arith, next_need r k some, h, all_nodes) }

          module _ {four : List ℕ} {e : Done} (b : Beside three four p to) (f : Paired four p these nodes (groups r these) e) where
            start_kept : (i : ℕ) → i < length nodes → start_in four p i ≡ start_in parts p i
            start_kept i h =
                let l : i < p = omega (arith, long, sizing_room) in
                b.starts i (omega (arith, long)) l ∙ o.middle (8 * p + i) (omega arith) (omega arith) ∙ c.high (8 * p + i) (omega arith) ∙ v.0.rest (8 * p + i) (omega arith)

            all_of : e.nodes ≡ nodes_at r (suc (suc k))
            all_of = sym (all_nodes ∙ f.long)

            few_of : e.nodes ≤ p
            few_of = omega (arith, f.long, f.noded.few)

            starts_of : Starts r (table_at r (suc k)).nodes (start_in four p)
            starts_of = rw (next_nodes r k some) (starts_more r nodes (groups r these) (suc (suc k)) (omega arith) grouped.keyed (node_small r k some)
                (member_sized r k some) (start_in parts p) (start_in four p) w.held.starts start_kept f.starts)

            fits_of : (i : ℕ) → i < length (table_at r (suc k)).needs → get_or (table_at r (suc k)).needs i 0 ≤ p
            fits_of i l = go (dec_lt i (suc (suc k)))
              where
                go : Dec (i < suc (suc k)) → get_or (table_at r (suc k)).needs i 0 ≤ p
                go (yes q) =
                    let z : i < length (table_at r k).needs = omega (arith, needs_count r k some) in
                    rw (next_needs r k some, get_or-append (table_at r k).needs (max (length these) (nodes_at r (suc (suc k))) ∷ []) 0 i z) (w.held.fits i z)
                go (no q) =
                    let z : i ≡ suc (suc k) = omega (arith, (table_round_next r k some).count) in
                    rw z (omega (arith, next_need r k some, all_of, few_of, sizing_count, sizing_few))

            pub sizing_done : Found r four p k e
            sizing_done = record {
              held = record {
                wide = omega (arith, b.long, o.long, c.long, sizing_wide);
                clamped = w.held.clamped;
                nodes = λ i l. rw (next_nodes r k some) (f.noded.numbers i (omega (arith, all_nodes)));
                starts = starts_of;
                fits = fits_of;
              };
              all = all_of;
              few = few_of;
              more = next_matches r k some ∙ ap (λ (x : ℕ). length (table_at r k).matches + x) (sym f.matches);
            }

          -- whether they have or not
          pub sizing_next : {four : List ℕ} → Beside three four p to → (e : Option Done) → Grown four p these nodes (groups r these) e → NextSize r four p k e
          sizing_next b (Some e) f = sizing_done b f
          sizing_next b None f = sizing_full f

-- ---- the single bonds

-- the first i single bonds are in the table, each alone in its group
pub record Laid (old now : List ℕ) (p i : ℕ) : Type 0 where
  pub long : length now ≡ length old
  pub nodes : (j : ℕ) → j < i → get_or now j 0 ≡ 2 ^ j
  pub starts : (j : ℕ) → j < i → get_or now (8 * p + j) 0 ≡ j

module _ (r : Bytes) (old now : List ℕ) (p : ℕ) (w : Laid old now p (bonds r)) (clamped : p ≤ 4294967295) (wide : 12 * p ≤ length old) (fits : bonds r ≤ p) where
  single_at : (i : ℕ) → i < bonds r → get_or (singles r) i 0 ≡ 2 ^ i
  unfolding singles
  single_at i h = list_at (λ (j : ℕ). 2 ^ j) 0 (bonds r) i 0 h ∙ ap (λ (n : ℕ). 2 ^ n) (zero-add i)

  alone : Starts r (singles r) (start_in now p)
  alone x h =
      let l : x < bonds r = omega (arith, singles_length r) in
      let e : start_in now p x ≡ x = w.starts x l in
      (omega arith, λ y b. (λ a. absurd (omega arith), λ a. absurd (omega (arith, a.big, (single_node r (get_or (singles r) x 0) (at_mem 0 (singles r) x h)).many))))

  held_start : Stage r now p 0
  unfolding table_at sizes nodes_at
  held_start = record {
    wide = omega (arith, w.long);
    clamped = clamped;
    nodes = λ i h. let l : i < bonds r = omega (arith, singles_length r) in w.nodes i l ∙ sym (single_at i l);
    starts = alone;
    fits = λ i h. need i h;
  }
    where
      need : (i : ℕ) → i < 2 → get_or (0 ∷ bonds r ∷ []) i 0 ≤ p
      need zero h = omega arith
      need (suc zero) h = fits
      need (suc (suc i)) h = absurd (omega arith)

pub laid_held : {r : Bytes} {old now : List ℕ} {p i : ℕ} → Laid old now p i → bonds r ≤ i → bonds r ≤ p → p ≤ 4294967295 → 12 * p ≤ length old
    → Stage r now p 0
laid_held {r} {old} {now} {p} w h fits clamped wide =
    held_start r old now p (record { long = w.long; nodes = λ j l. w.nodes j (omega arith); starts = λ j l. w.starts j (omega arith) }) clamped wide fits
