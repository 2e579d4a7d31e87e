-- The loop over sizes: it ends, with the table before its matches are sorted or at the first size that has no room, and the matches fit a word. Assumes nothing.
use Rattle.std.proofs.Common.{◌≡◌, refl, sym, ap, ◌∙◌, subst, List, [], ◌∷◌, ℕ, zero, suc, ◌+◌, ◌*◌, ◌^◌, ◌≤◌, ◌<◌, mul-le-mul, arith, length, get_or, length-append}
use mathlib.Core.List.{Memᴰ as Mem}
use Rattle.std.proofs.Math.Decide.{dec_lt}
use Rattle.molecule.specs.Lists.{Bytes}
use Rattle.molecule.specs.Record.{bonds}
use Rattle.molecule.proofs.Lists.{sort_perm}
use Rattle.molecule.proofs.Perms.{Distinct, perm_length, distinct_le}
use Rattle.matches.specs.Table.{Table, Match, not_below, sizes, singles, match_table}
use Rattle.matches.specs.Inner.Descending.{countdown, with_each, descend, Starts}
use Rattle.matches.specs.Inner.Written.{start_in}
use Rattle.tabulate.specs.declared.nodes.Done.{Done}
use Rattle.tabulate.specs.Inner.Stage.{table_at, nodes_at, Stage, Sizing, Found, Overflowing}
use Rattle.tabulate.specs.Inner.Walked.{WholeTable, NoRoom}
use Rattle.matches.proofs.Laws.{Grows, grows_refl}
use Rattle.matches.proofs.Laws.{Round, next, newest, round_next, sizes_grows, last_parents, sizes_enough, start, start_round, unsorted}
use Rattle.tabulate.proofs.Stages.{singles_length, parents_at, table_zero, nodes_zero, nodes_suc, parents_count, table_done, table_round, table_round_next}
use Rattle.matches.proofs.Laws.{nodes_are, needs_are}
use Rattle.matches.proofs.Laws.{countdown_has, descend_has}
use Rattle.matches.proofs.Laws.{need_stays}
use Rattle.tabulate.proofs.Writing.{each_length}

-- ---- how many matches there can be

countdown_length : (k n : ℕ) → length (countdown k n) ≡ n
countdown_length k zero = refl
countdown_length k (suc n) = ap suc (countdown_length k n)

descend_length : (ys : List ℕ) (n : ℕ) → length (descend (λ x. ys) n) ≡ n * length ys
descend_length ys zero = omega arith
descend_length ys (suc n) = length-append (with_each n ys) (descend (λ x. ys) n) ∙ omega (arith, each_length n ys, descend_length ys n)

-- distinct matches of n nodes are at most n * n
pub matches_few : (n : ℕ) (ms : List Match) → Distinct ms → ((m : Match) → Mem m ms → (m.larger < n) × (m.smaller < n)) → length ms ≤ n * n
matches_few n ms d h =
    let ys : List ℕ = countdown 0 n in
    let a : length ms ≤ length (descend (λ x. ys) n) = distinct_le ms (descend (λ x. ys) n) d (λ m k. let w = h m k in descend_has (λ x. ys) n m.larger m.smaller w.0 (countdown_has 0 n m.smaller (omega arith) (omega arith))) in
    let e : length (descend (λ x. ys) n) ≡ n * n = descend_length ys n ∙ ap (λ (k : ℕ). n * k) (countdown_length 0 n) in
    omega arith

module _ (r : Bytes) where
  -- more sizes only add to a table
  sizes_later : (f g k : ℕ) (t : Table) (ps : List ℕ) → 1 ≤ k → Round r k t ps → f ≤ g → Grows (λ x. Unit {0}) (sizes r f t ps) (sizes r g t ps)
  unfolding sizes
  sizes_later zero g k t ps l h b = sizes_grows r g k t ps l h
  sizes_later (suc f) zero k t ps l h b = absurd (omega arith)
  sizes_later (suc f) (suc g) k t [] l h b = grows_refl (λ x. Unit {0}) t
  sizes_later (suc f) (suc g) k t (p ∷ ps) l h b = sizes_later f g (suc k) (next r t (p ∷ ps)) (newest r t (p ∷ ps)) (omega arith) (round_next r k t (p ∷ ps) l h) (omega arith)

  -- after enough sizes
  at_enough : (k : ℕ) → table_at r (bonds r + k) ≡ unsorted r
  unfolding table_at
  at_enough k = sizes_enough r (bonds r + k) (bonds r) 1 (start r) (singles r) (omega arith) (start_round r) (omega arith) (omega arith)

  at_later : (k : ℕ) → Grows (λ x. Unit {0}) (table_at r k) (table_at r (bonds r + k))
  unfolding table_at
  at_later k = sizes_later k (bonds r + k) 1 (start r) (singles r) (omega arith) (start_round r) (omega arith)

  at_grows : (k : ℕ) → Grows (λ x. Unit {0}) (table_at r k) (unsorted r)
  at_grows k = subst (Grows (λ x. Unit {0}) (table_at r k)) (at_enough k) (at_later k)

  -- where parents run out, the table is the whole one, unsorted
  at_end : (k : ℕ) → nodes_at r (suc k) ≤ nodes_at r k → table_at r k ≡ unsorted r
  at_end k h = sym (table_done r k h (bonds r + k) (omega arith)).0 ∙ at_enough k

  -- what a size needs, from when it was found
  pub need_at : (k i : ℕ) → i < length (table_at r k).needs → (i < length (match_table r).needs) × (get_or (match_table r).needs i 0 ≡ get_or (table_at r k).needs i 0)
  need_at k i h = rw (needs_are r) (need_stays (λ x. Unit {0}) (table_at r k) (unsorted r) (at_grows k) i h)

  sorted_length : length (match_table r).matches ≡ length (unsorted r).matches
  unfolding match_table
  sorted_length = perm_length (sort_perm not_below (unsorted r).matches)

  -- ---- the loop

  -- parts holds the table of all sizes below this one, with so many matches; the parents are the nodes from .. to
  pub record Walking (parts : List ℕ) (p size from to total : ℕ) : Type 0 where
    pub stage : ℕ
    pub is : size ≡ suc (suc stage)
    pub held : Stage r parts p stage
    pub older : from ≡ nodes_at r stage
    pub all : to ≡ nodes_at r (suc stage)
    pub few : to ≤ p
    pub count : total ≡ length (table_at r stage).matches

  pub walking_start : {parts : List ℕ} {p n : ℕ} → Stage r parts p 0 → n ≡ bonds r → n ≤ p → Walking parts p 2 0 n 0
  walking_start h e f = record {
    stage = 0;
    is = refl;
    held = h;
    older = sym (nodes_zero r);
    all = e ∙ sym (nodes_suc r 0 ∙ ap (λ (t : Table). length t.nodes) (table_zero r) ∙ singles_length r);
    few = f;
    count = sym (ap (λ (t : Table). length t.matches) (table_zero r));
  }

  module _ {parts : List ℕ} {p size from to total : ℕ} (w : Walking parts p size from to total) where
    -- all had room
    pub walking_end : to ≤ from → WholeTable r parts p (record { nodes = to; matches = total })
    walking_end h =
        let e : table_at r w.stage ≡ unsorted r = at_end w.stage (omega (arith, w.older, w.all)) in
        let n : (table_at r w.stage).nodes ≡ (match_table r).nodes = ap (λ (t : Table). t.nodes) e ∙ sym (nodes_are r) in
        let q : (table_at r w.stage).needs ≡ (match_table r).needs = ap (λ (t : Table). t.needs) e ∙ sym (needs_are r) in
        record {
          all = w.all ∙ nodes_suc r w.stage ∙ ap length n;
          few = w.few;
          here = λ i l. w.held.nodes i (omega (arith, w.all)) ∙ ap (λ (z : List ℕ). get_or z i 0) n;
          starts = subst (λ (z : List ℕ). Starts r z (start_in parts p)) n w.held.starts;
          fits = subst (λ (z : List ℕ). (i : ℕ) → i < length z → get_or z i 0 ≤ p) q w.held.fits;
          count = w.count ∙ ap (λ (t : Table). length t.matches) e ∙ sym sorted_length;
        }

    module _ (h : from < to) where
      pub walking_sizing : Sizing r parts p w.stage from to
      walking_sizing = record { held = w.held; older = w.older; all = w.all; parents = h }

      parents : nodes_at r w.stage < nodes_at r (suc w.stage)
      parents = omega (arith, w.older, w.all)

      -- its parents have one bond less, and no more than there are
      pub walking_size : size ≤ suc (bonds r)
      walking_size = go (dec_lt w.stage (bonds r))
        where
          go : Dec (w.stage < bonds r) → size ≤ suc (bonds r)
          go (yes l) = omega (arith, w.is)
          go (no n) =
              let e = last_parents r (suc w.stage) (table_at r w.stage) (parents_at r w.stage) (omega arith) (table_round r w.stage parents) in
              absurd (omega (arith, ap length e, parents_count r w.stage, parents))

      -- this size has no room
      pub walking_over : Overflowing r p w.stage → NoRoom r p size
      walking_over s =
          let k : ℕ = w.stage in
          let a = need_at (suc k) (suc (suc k)) s.place in
          let c : length (table_at r k).needs ≡ suc (suc k) = (table_round r k parents).count in
          rw w.is record {
            place = a.0;
            exceeds = omega (arith, a.1, s.over);
            before = λ i l. let b = need_at k i (omega arith) in omega (arith, b.1, w.held.fits i (omega arith));
          }

      module _ {now : List ℕ} {d : Done} (s : Found r now p w.stage d) where
        -- where it has room, all matches so far, each of two nodes, fit a word
        pub walking_count : total + d.matches < 2 ^ 64
        walking_count =
            let k : ℕ = w.stage in
            let t : Table = table_at r (suc k) in
            let q = table_round_next r k parents in
            let n : length t.nodes ≤ 4294967295 = omega (arith, s.all, s.few, nodes_suc r (suc k), w.held.clamped) in
            let a : length t.matches ≤ length t.nodes * length t.nodes = matches_few (length t.nodes) t.matches q.once (λ m i. let u = q.sound m i in (u.fits, omega (arith, u.fits, u.below))) in
            let b : length t.nodes * length t.nodes ≤ 4294967295 * 4294967295 = mul-le-mul n n in
            omega (arith, w.count, s.more)
