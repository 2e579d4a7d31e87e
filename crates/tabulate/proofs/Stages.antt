-- The table size by size: after k sizes beyond the single bonds, its parents are the nodes from nodes_at k on. Assumes nothing.
use Rattle.std.proofs.Common.{◌≡◌, refl, sym, ap, ◌∙◌, subst, List, [], ◌∷◌, ℕ, zero, suc, ◌-◌, ◌^◌, ◌≤◌, ◌<◌, arith, length, drop, length-drop}
use Rattle.std.proofs.Math.Decide.{dec_lt, ℕ_discrete}
use Rattle.std.proofs.Math.Seq.{drop-length}
use Rattle.molecule.specs.Lists.{Bytes}
use Rattle.molecule.specs.Record.{bonds}
use Rattle.molecule.proofs.Lists.{length_list}
use Rattle.matches.specs.Table.{Table, sizes, singles}
use Rattle.tabulate.specs.Inner.Stage.{table_at, nodes_at}
use Rattle.matches.proofs.Laws.{Round, next, newest, round_next, start, start_round}

pub singles_length : (r : Bytes) → length (singles r) ≡ bonds r
unfolding singles
singles_length r = length_list (λ (i : ℕ). 2 ^ i) 0 (bonds r)

module _ (r : Bytes) where
  -- the parents after so many rounds
  abbrev parents_of : ℕ → Table → List ℕ → List ℕ
  parents_of zero t ps = ps
  parents_of (suc f) t [] = []
  parents_of (suc f) t (p ∷ ps) = parents_of f (next r t (p ∷ ps)) (newest r t (p ∷ ps))

  -- the last round is one round after the others
  sizes_last : (f : ℕ) (t : Table) (ps : List ℕ) → sizes r (suc f) t ps ≡ sizes r 1 (sizes r f t ps) (parents_of f t ps)
  unfolding sizes
  sizes_last zero t ps = refl
  sizes_last (suc f) t [] = refl
  sizes_last (suc f) t (p ∷ ps) = sizes_last f (next r t (p ∷ ps)) (newest r t (p ∷ ps))

  parents_last : (f : ℕ) (t : Table) (ps : List ℕ) → parents_of (suc f) t ps ≡ parents_of 1 (sizes r f t ps) (parents_of f t ps)
  unfolding sizes
  parents_last zero t ps = refl
  parents_last (suc f) t [] = refl
  parents_last (suc f) t (p ∷ ps) = parents_last f (next r t (p ∷ ps)) (newest r t (p ∷ ps))

  -- one round: its parents, and what it gives
  one_parents : (t : Table) (ps : List ℕ) → parents_of 1 t ps ≡ drop (length t.nodes) (sizes r 1 t ps).nodes
  unfolding sizes
  one_parents t [] = sym (drop-length t.nodes)
  one_parents t (p ∷ ps) = refl

  one_next : (t : Table) (ps : List ℕ) → 0 < length ps → sizes r 1 t ps ≡ next r t ps
  unfolding sizes
  one_next t [] h = absurd (omega arith)
  one_next t (p ∷ ps) h = refl

  one_stays : (t : Table) (ps : List ℕ) → length ps ≡ 0 → sizes r 1 t ps ≡ t
  unfolding sizes
  one_stays t [] h = refl
  one_stays t (p ∷ ps) h = absurd (omega arith)

  -- ---- the stages

  -- the parents of size k + 2
  abbrev pub parents_at : ℕ → List ℕ
  parents_at k = drop (nodes_at r k) (table_at r k).nodes

  pub table_zero : table_at r 0 ≡ start r
  unfolding table_at sizes
  table_zero = refl

  pub nodes_zero : nodes_at r 0 ≡ 0
  unfolding nodes_at
  nodes_zero = refl

  pub nodes_suc : (k : ℕ) → nodes_at r (suc k) ≡ length (table_at r k).nodes
  unfolding nodes_at
  nodes_suc k = refl

  parents_are : (k : ℕ) → parents_of k (start r) (singles r) ≡ parents_at k
  unfolding table_at nodes_at sizes
  parents_are zero = refl
  parents_are (suc k) =
      parents_last k (start r) (singles r)
      ∙ one_parents (table_at r k) (parents_of k (start r) (singles r))
      ∙ ap (λ (t : Table). drop (length (table_at r k).nodes) t.nodes) (sym (sizes_last k (start r) (singles r)))

  table_step : (k : ℕ) → table_at r (suc k) ≡ sizes r 1 (table_at r k) (parents_at k)
  unfolding table_at
  table_step k = sizes_last k (start r) (singles r) ∙ ap (sizes r 1 (table_at r k)) (parents_are k)

  pub parents_count : (k : ℕ) → length (parents_at k) ≡ nodes_at r (suc k) - nodes_at r k
  parents_count k = length-drop (nodes_at r k) (table_at r k).nodes ∙ ap (λ (n : ℕ). n - nodes_at r k) (sym (nodes_suc k))

  -- where there are parents, the next table is one size more
  pub table_next : (k : ℕ) → nodes_at r k < nodes_at r (suc k) → table_at r (suc k) ≡ next r (table_at r k) (parents_at k)
  table_next k h = table_step k ∙ one_next (table_at r k) (parents_at k) (omega (arith, parents_count k))

  -- where there are none, it stays
  pub table_stays : (k : ℕ) → nodes_at r (suc k) ≤ nodes_at r k → table_at r (suc k) ≡ table_at r k
  table_stays k h = table_step k ∙ one_stays (table_at r k) (parents_at k) (omega (arith, parents_count k))

  pub nodes_stay : (k : ℕ) → nodes_at r (suc k) ≤ nodes_at r k → nodes_at r (suc (suc k)) ≡ nodes_at r (suc k)
  nodes_stay k h = nodes_suc (suc k) ∙ ap (λ (t : Table). length t.nodes) (table_stays k h) ∙ sym (nodes_suc k)

  -- and at every later size
  pub table_done : (k : ℕ) → nodes_at r (suc k) ≤ nodes_at r k → (j : ℕ) → k ≤ j → (table_at r j ≡ table_at r k) × (nodes_at r (suc j) ≤ nodes_at r j)
  table_done k h zero l = let e : k ≡ 0 = omega arith in (ap (table_at r) (sym e), subst (λ (n : ℕ). nodes_at r (suc n) ≤ nodes_at r n) e h)
  table_done k h (suc j) l = go (ℕ_discrete k (suc j)) (λ m. table_done k h j m)
    where
      go : Dec (k ≡ suc j) → (k ≤ j → (table_at r j ≡ table_at r k) × (nodes_at r (suc j) ≤ nodes_at r j)) → (table_at r (suc j) ≡ table_at r k) × (nodes_at r (suc (suc j)) ≤ nodes_at r (suc j))
      go (yes e) ih = (ap (table_at r) (sym e), subst (λ (n : ℕ). nodes_at r (suc n) ≤ nodes_at r n) e h)
      go (no n) ih = let w = ih (omega arith) in (table_stays j w.1 ∙ w.0, omega (arith, nodes_stay j w.1))

  -- where there are parents, there were at the size before, and at every earlier one
  pub parents_kept : (k : ℕ) → nodes_at r (suc k) < nodes_at r (suc (suc k)) → nodes_at r k < nodes_at r (suc k)
  parents_kept k h = go (dec_lt (nodes_at r k) (nodes_at r (suc k)))
    where
      go : Dec (nodes_at r k < nodes_at r (suc k)) → nodes_at r k < nodes_at r (suc k)
      go (yes l) = l
      go (no n) = absurd (omega (arith, nodes_stay k (omega arith)))

  pub parents_before : (j k : ℕ) → j ≤ k → nodes_at r k < nodes_at r (suc k) → nodes_at r j < nodes_at r (suc j)
  parents_before j zero l h = let e : j ≡ 0 = omega arith in rw e h
  parents_before j (suc k) l h = go (ℕ_discrete j (suc k)) (λ m. parents_before j k m (parents_kept k h))
    where
      go : Dec (j ≡ suc k) → (j ≤ k → nodes_at r j < nodes_at r (suc j)) → nodes_at r j < nodes_at r (suc j)
      go (yes e) ih = rw e h
      go (no n) ih = ih (omega arith)

  -- ---- what holds of each

  round_after : (k : ℕ) → nodes_at r k < nodes_at r (suc k) → Round r (suc k) (table_at r k) (parents_at k) → Round r (suc (suc k)) (table_at r (suc k)) (parents_at (suc k))
  unfolding nodes_at
  round_after k h w = rw (table_next k h) (round_next r (suc k) (table_at r k) (parents_at k) (omega arith) w)

  -- where there are parents, nodes go up to size k + 1, and the parents are of that size
  pub table_round : (k : ℕ) → nodes_at r k < nodes_at r (suc k) → Round r (suc k) (table_at r k) (parents_at k)
  unfolding table_at nodes_at sizes
  table_round zero h = start_round r
  table_round (suc k) h = round_after k (parents_kept k h) (table_round k (parents_kept k h))

  -- and so it is of the next table, whether there are parents then or not
  pub table_round_next : (k : ℕ) → nodes_at r k < nodes_at r (suc k) → Round r (suc (suc k)) (table_at r (suc k)) (parents_at (suc k))
  table_round_next k h = round_after k h (table_round k h)
