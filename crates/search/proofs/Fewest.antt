-- No pathway of an accepted record has fewer joins than the least score; so the least score is the assembly index, the fewest joins of any pathway.
-- The unions of a pathway's joins are sets that are made out of each other, and every tree of two or more bonds has the label of one of them. So Owing's claim
-- holds of the root's pieces as fragments and as pieces: some allowed series saves all but `length js` of the root's index, so its score is at most `length js`.
use mathlib.Core.Path.{◌≡◌, refl, ap, sym, ◌∙◌}
use mathlib.Core.Bool.{true}
use mathlib.Core.List.Memᴰ.{head as m_head}
use mathlib.Core.List.Memᴰ.{not-nil}
use mathlib.Core.List.{List, [], ◌∷◌, Memᴰ as Mem}
use Prim.Native.Nat.{ℕ, ◌≤◌, ◌+◌}
use native.Mathlib.Omega.{arith}
use native.Mathlib.Decide.{ℕ_discrete}
use lib.Bits.{and_self}
use lib.ListN.{length}
use borrow.Author.Tests.{leb-true, eqb-true}
use Rattle.molecule.specs.Lists.{Bytes}
use Rattle.molecule.specs.Record.{bonds, all_bonds, atoms}
use Rattle.molecule.specs.Check.{accepted, check}
use Rattle.matches.specs.Table.{pairs}
use Rattle.matches.proofs.Laws.{table_laws}
use Rattle.search.specs.Series.{allowed, series_score, least_score, IsLeastScore}
use Rattle.search.specs.Pathway.{Join, is_pathway, IsFewest, complete, whole_made}
use Rattle.search.specs.Inner.Joining.{after, HasLabel}
use Rattle.search.proofs.Parts.{few}
use Rattle.search.proofs.Refine.{allows_allowed}
use Rattle.search.proofs.LeastScore.{least_score_lem}
use Rattle.search.proofs.Tests.{after_length, joins_of, complete_one, complete_more, trees_of}
use Rattle.search.proofs.Pathways.{least_has}
use Rattle.search.proofs.Making.{joins_made}
use Rattle.search.proofs.Owing.{Owes, owing}
use Rattle.search.specs.State.{root_pieces}
use Rattle.search.proofs.Root.{root_is, pieces_own, pieces_within, root_apart, root_less, piece_all}
use Rattle.canonize.specs.Label.{label}

module _ (r : Bytes) (ok : check r ≡ accepted) where
  -- where a pathway is complete, every tree of two or more bonds has the label of a union: of one tree it is all bonds, and so the last union
  complete_labels : (made : List ℕ) → complete r made ≡ true → (x : ℕ) → Mem x (root_pieces r) → HasLabel r made x
  unfolding whole_made
  complete_labels made e x i = go (ℕ_discrete (atoms r) (bonds r + 1))
    where
      whole : atoms r ≡ bonds r + 1 → (made : List ℕ) → whole_made r made ≡ true → HasLabel r made x
      whole one [] w = absurd (omega (arith, leb-true (bonds r) 1 w, (piece_all r ok one x i).0))
      whole one (u ∷ made) w = (u, m_head refl, ap (label r) (eqb-true u (all_bonds r) w ∙ sym (piece_all r ok one x i).1))

      go : Dec (atoms r ≡ bonds r + 1) → HasLabel r made x
      go (yes one) = whole one made (sym (complete_one r made one) ∙ e)
      go (no more) = trees_of r made (sym (complete_more r made more) ∙ e) x i

  -- for every pathway some allowed series scores at most its joins: its unions make all trees
  pub pathway_series : (js : List Join) → is_pathway r js ≡ true → (τ : List ℕ) × (allowed r (pairs r) τ ≡ true) × (series_score r (pairs r) τ ≤ length js)
  unfolding is_pathway allowed series_score
  pathway_series js e =
      let made : List ℕ = after [] js in
      let roots : List ℕ = root_pieces r in
      let w = joins_of r (few r ok) [] js e in
      let start : Owes r made roots roots 0 = record {
        made = joins_made r [] js (λ u i. absurd (not-nil i)) w.0;
        within = pieces_within r ok;
        apart = root_apart r ok;
        late = λ u i j h a. omega arith;
        owed = λ x i.
            let f = root_is r ok x i in
            record { own = (pieces_own r ok x i).0; whole = f.0; two_bonds = f.2; lies = (x, i, and_self x); has = complete_labels made w.1 x i };
      } in
      let s = owing r ok made roots roots 0 start in
      (s.0, allows_allowed r (pairs r) 0 roots s.0 s.1, omega (arith, s.2, root_less r ok, after_length r [] js))

  least : IsLeastScore r (pairs r) (least_score r (pairs r))
  least = least_score_lem r ok (pairs r) (table_laws r ok)

  -- so no pathway has fewer joins than the least score
  pub fewest : (js : List Join) → is_pathway r js ≡ true → least_score r (pairs r) ≤ length js
  fewest js e = let w = pathway_series js e in omega (arith, w.2, least.least w.0 w.1)

  -- and the least score is the fewest joins of any pathway: the joins of a series that scores it are one
  pub least_is_fewest : IsFewest r (least_score r (pairs r))
  least_is_fewest = record { reached = least_has r ok (least_score r (pairs r)) least; fewest = fewest }

  -- there is only one such number
  pub fewest_is : (k : ℕ) → IsFewest r k → k ≡ least_score r (pairs r)
  fewest_is k w =
      let u = least_is_fewest.reached in
      let v = w.reached in
      omega (arith, w.fewest u.path u.is_one, u.join_count, fewest v.path v.is_one, v.join_count)
