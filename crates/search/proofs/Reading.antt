-- Records that read alike have one search, one least score, the same pathways, one answer of score and one assembly index.
-- Of accepted records, and the laws of the matches: every piece is a fragment then, so that its label and what it falls into are the same of both.
use mathlib.Core.Path.{◌≡◌, refl, sym, ap, ap₂, ◌∙◌}
use mathlib.Core.Bool.{true, false}
use mathlib.Core.Logic.{◌⊎◌, inl, inr, ◌↔◌, ⊎_elim}
use mathlib.Core.List.Memᴰ.{cases_cons as mem_cons}
use mathlib.Core.List.Memᴰ.{head as m_head}
use mathlib.Core.List.Memᴰ.{not-nil}
use mathlib.Core.List.Memᴰ.{tail as m_tail}
use mathlib.Core.List.{List, [], ◌∷◌, ◌++◌, map, Memᴰ as Mem}
use Prim.Native.Nat.{ℕ, zero, suc, ◌-◌, ◌^◌, ◌<◌, min, ◌≤◌, ◌+◌}
use native.Mathlib.Omega.{arith}
use lib.Bits.{bit_and}
use lib.Dec.{leb, ltb, eqb}
use lib.ListN.{length}
use lib.Pow.{pow_pos}
use Rattle.bitset.specs.Bits.{size, diff}
use Rattle.bitset.proofs.Bools.{two}
use Rattle.bitset.proofs.Laws.{member_lt}
use Rattle.bitset.proofs.Members.{diff_sub}
use Rattle.molecule.specs.Lists.{Bytes, filter}
use Rattle.molecule.specs.Record.{bonds, all_bonds, atoms}
use Rattle.molecule.specs.Check.{accepted, refused, check}
use Rattle.molecule.specs.Connected.{Own, Connected}
use Rattle.molecule.specs.Unmarked.{HasUnmarkedLength, natural}
use Rattle.molecule.proofs.Components.{own_sub, own_all}
use Rattle.molecule.proofs.Graphs.{own_alike, components_alike, fragment_alike}
use Rattle.molecule.proofs.Perms.{bool_iff, map_agree}
use Rattle.molecule.proofs.Touching.{Share}
use Rattle.canonize.specs.Strings.{sort}
use Rattle.canonize.specs.Label.{label}
use Rattle.canonize.specs.Unmarked.{ReadsUnmarked}
use Rattle.canonize.proofs.Laws.{natural_reads}
use Rattle.matches.specs.Table.{Table, Pair, pair, pairs_of, pairs}
use Rattle.matches.specs.Rows.{table_answer}
use Rattle.matches.specs.Laws.{Laws}
use Rattle.matches.specs.Reading.{ReadAlike}
use Rattle.matches.proofs.Laws.{table_laws, read_back, unmarked_alike, match_table_alike, pairs_alike}
use Rattle.bounds.specs.Inner.Removals.{PiecesWithin}
use Rattle.search.specs.Setting.{Setting, Room, has_memo, memo_room}
use Rattle.search.specs.Trail.{Trail, no_removal}
use Rattle.search.specs.State.{State, struck, root, big_components, removable, mask_of, keep, remove, child, root_index, root_pieces, bond_trees}
use Rattle.search.specs.Memo.{Entry, Memo, goes, stopped, full, remember, key_of, entry_of}
use Rattle.search.specs.Search.{Run, Outcome, answers, halts, lower, int_stops, ask, tried, children, branch, counted, visit, search}
use Rattle.search.specs.Series.{saved, series_score, series_from, all_series, least_of, least_score}
use Rattle.search.specs.Pathway.{Join, union, is_pathway, IsFewest, complete, whole_made}
use Rattle.search.specs.Answer.{entry_answer, turned_back, searched, score_answer}
use Rattle.search.specs.Inner.Claims.{held_of}
use Rattle.search.specs.Inner.Joining.{Ready, JoinAfter, JoinsAfter, HasLabel, after}
use Rattle.search.proofs.Lists.{flat_same}
use Rattle.search.proofs.Parts.{few}
use Rattle.search.proofs.Refine.{and_left, removable_mem, remove_fragments, keep_fragments}
use Rattle.search.proofs.TrailClaim.{tried_removable}
use Rattle.search.proofs.Tests.{joins_test, joins_of, complete_one, complete_more, trees_of, trees_test}
use Rattle.search.proofs.Fragments.{meets_in, meets_has}
use Rattle.search.proofs.Making.{join_falls, joins_made, made_fragment}
use Rattle.search.proofs.Fewest.{least_is_fewest, fewest_is}
use Rattle.search.proofs.Starting.{run_at_root, by_bonds, lone, search_lone, search_some}
use native.Mathlib.Decide.{ℕ_discrete}
use Rattle.molecule.specs.Touch.{components}
use Rattle.bounds.specs.Numbers.{sum_of, max_of}
use Rattle.search.proofs.Root.{pieces_own}

-- each is a fragment of the record
abbrev Fragments : Bytes → List ℕ → Type 0
Fragments r P = (p : ℕ) → Mem p P → Own r p × Connected r p

module _ (r : Bytes) (ok : check r ≡ accepted) (ms : List Pair) (M : Laws r ms) where
  -- ---- pieces stay fragments

  and_own : (p s : ℕ) → Own r p → Own r (bit_and p s)
  and_own p s = own_sub r (bit_and p s) p (and_left p s)

  diff_own : (p s : ℕ) → Own r p → Own r (diff p s)
  diff_own p s = own_sub r (diff p s) p (diff_sub p s)

  within : (P : List ℕ) → Fragments r P → PiecesWithin (all_bonds r) P
  within P h p i = own_all r p (h p i).0

  held_fragments : (U : ℕ) (P : List ℕ) → Fragments r P → Fragments r (keep r ms U P)
  held_fragments U P h c i = let w = keep_fragments r ok ms U P (within P h) c i in (w.0, w.1)

  left_fragments : (P : List ℕ) (m : ℕ) → m < length ms → Fragments r P → Fragments r (remove r ms P m)
  left_fragments P m l h = let t = M.twins m l in remove_fragments r ok ms P m (within P h) t.one_own t.one

  child_fragments : (s : State) (held : List ℕ) (m : ℕ) → m < length ms → Fragments r held → Fragments r (child r ms s held m).pieces
  unfolding child
  child_fragments s held m = left_fragments held m

  module _ (q : Bytes) (alike : ReadAlike r q) where
    -- ---- states

    -- the same trees
    trees_alike : bond_trees r ≡ bond_trees q
    trees_alike = components_alike r q alike.graph (few r ok) (all_bonds r) (omega (arith, pow_pos (bonds r))) ∙ ap (λ (n : ℕ). components q (2 ^ n - 1)) alike.graph.count

    index_alike : root_index r ≡ root_index q
    index_alike = ap (sum_of (λ (t : ℕ). size t - 1)) trees_alike

    pub root_alike : root_pieces r ≡ root_pieces q
    unfolding big_components
    root_alike = ap (filter (λ c. leb 2 (size c))) trees_alike

    big_alike : (s : ℕ) → Own r s → big_components r s ≡ big_components q s
    unfolding big_components
    big_alike s o = ap (filter (λ c. leb 2 (size c))) (components_alike r q alike.graph (few r ok) s o)

    keep_alike : (U : ℕ) (P : List ℕ) → Fragments r P → keep r ms U P ≡ keep q ms U P
    unfolding keep
    keep_alike U P h = flat_same (λ p. big_components r (bit_and p U)) (λ p. big_components q (bit_and p U)) P (λ p i. big_alike (bit_and p U) (and_own p U (h p i).0))

    remove_alike : (P : List ℕ) (m : ℕ) → Fragments r P → remove r ms P m ≡ remove q ms P m
    unfolding remove
    remove_alike P m h =
        ap (λ (l : List ℕ). l ++ ((pair ms m).h1 ∷ []))
        (flat_same (λ p. big_components r (diff p (struck ms m))) (λ p. big_components q (diff p (struck ms m))) P (λ p i. big_alike (diff p (struck ms m)) (diff_own p (struck ms m) (h p i).0)))

    child_alike : (s : State) (held : List ℕ) (m : ℕ) → Fragments r held → child r ms s held m ≡ child q ms s held m
    unfolding child
    child_alike s held m h = rw (remove_alike held m h) refl

    entry_alike : (s : State) → Fragments r s.pieces → entry_of r s ≡ entry_of q s
    unfolding entry_of key_of
    entry_alike s h =
        ap (λ (l : List Bytes). record { key = sort l; index = s.index; removals = s.trail.numbers })
        (map_agree (label r) (label q) s.pieces (λ p i. alike.labels p (h p i).0 (h p i).1))

    module _ (setting : Setting) (room : ℕ) where
      -- ---- the search

      ask_alike : (s : State) (memo : List Entry) → Fragments r s.pieces → ask r ms setting room s memo ≡ ask q ms setting room s memo
      unfolding ask
      ask_alike s memo h = ap (λ (e : Entry). elim (has_memo setting) [ true ↦ remember room e memo | false ↦ goes memo ]) (entry_alike s h)

      -- the claim of every state entered
      abbrev EntersAlike : (State → Run → Outcome) → (State → Run → Outcome) → Type 0
      EntersAlike one other = (c : State) → Fragments r c.pieces → (run : Run) → one c run ≡ other c run

      children_alike : (one other : State → Run → Outcome) → EntersAlike one other → (s : State) (held : List ℕ) → Fragments r held
          → (ns : List ℕ) → ((m : ℕ) → Mem m ns → m < length ms) → (b : ℕ) (u : Trail) (run : Run)
          → children r ms setting room one s held ns b u run ≡ children q ms setting room other s held ns b u run
      unfolding children
      children_alike one other E s held h [] k b u run = refl
      children_alike one other E s held h (m ∷ ns) k b u run =
          go (other (child q ms s held m) run) entered refl (λ b' u' run'. children_alike one other E s held h ns (λ x i. k x (m_tail i)) b' u' run')
        where
          Whole : Type 0
          Whole = children r ms setting room one s held (m ∷ ns) b u run ≡ children q ms setting room other s held (m ∷ ns) b u run

          entered : one (child r ms s held m) run ≡ other (child q ms s held m) run
          entered = E (child r ms s held m) (child_fragments s held m (k m (m_head refl)) h) run ∙ ap (λ (c : State). other c run) (child_alike s held m h)

          go : (o : Outcome) → one (child r ms s held m) run ≡ o → other (child q ms s held m) run ≡ o
              → ((b' : ℕ) (u' : Trail) (run' : Run) → children r ms setting room one s held ns b' u' run' ≡ children q ms setting room other s held ns b' u' run') → Whole
          go (halts n p) e f ih = rw (e, f, children) refl
          go (answers a t run1) e f ih = less (two (ltb a b))
            where
              less : (ltb a b ≡ true) ⊎ (ltb a b ≡ false) → Whole
              less (inl g) = rw (e, f, g, children) (ih a t run1)
              less (inr g) = rw (e, f, g, children) (ih b u run1)

      branch_alike : (one other : State → Run → Outcome) → EntersAlike one other → (s : State) → Fragments r s.pieces → (run : Run) → branch r ms setting room one s run ≡ branch q ms setting room other s run
      unfolding branch removable mask_of tried
      branch_alike one other E s h run =
          let U : ℕ = mask_of r ms (removable r ms s.pieces s.next) 2 in
          let ns : List ℕ = tried r ms setting room s (removable r ms s.pieces s.next) run.best in
          ap lower
          (children_alike one other E s (held_of r ms s) (held_fragments U s.pieces h) ns (λ m i. (tried_removable r ms setting room s run.best m i).is) s.index s.trail run
          ∙ ap (λ (held : List ℕ). children q ms setting room other s held ns s.index s.trail run) (keep_alike U s.pieces h))

      counted_alike : (one other : State → Run → Outcome) → EntersAlike one other → (s : State) → Fragments r s.pieces → (run : Run) → counted r ms setting room one s run ≡ counted q ms setting room other s run
      unfolding counted int_stops
      counted_alike one other E s h run = go (two (int_stops r ms setting room s run.best))
        where
          Whole : Type 0
          Whole = counted r ms setting room one s run ≡ counted q ms setting room other s run

          go : (int_stops r ms setting room s run.best ≡ true) ⊎ (int_stops r ms setting room s run.best ≡ false) → Whole
          go (inl e) = rw (e, counted) refl
          go (inr e) = asked (ask q ms setting room s run.memo) (ask_alike s run.memo h) refl
            where
              asked : (o : Memo) → ask r ms setting room s run.memo ≡ o → ask q ms setting room s run.memo ≡ o → Whole
              asked (goes memo) f g = rw (e, f, g, counted) (branch_alike one other E s h (record { best = run.best; states = run.states; memo = memo }))
              asked stopped f g = rw (e, f, g, counted) refl
              asked full f g = rw (e, f, g, counted) refl

      visit_alike : (f : ℕ) (s : State) → Fragments r s.pieces → (run : Run) → visit r ms setting room f s run ≡ visit q ms setting room f s run
      unfolding visit
      visit_alike zero s h run = refl
      visit_alike (suc f) s h run = go (two (ltb run.states setting.budget)) (λ c k run'. visit_alike f c k run')
        where
          go : (ltb run.states setting.budget ≡ true) ⊎ (ltb run.states setting.budget ≡ false) → EntersAlike (visit r ms setting room f) (visit q ms setting room f)
              → visit r ms setting room (suc f) s run ≡ visit q ms setting room (suc f) s run
          go (inl e) E = rw (e, visit) (counted_alike (visit r ms setting room f) (visit q ms setting room f) E s h (record { best = run.best; states = suc run.states; memo = run.memo }))
          go (inr e) E = rw (e, visit) refl

      -- every state is entered with the same pieces and the same run, and answers the same
      pub search_alike : search r ms setting room ≡ search q ms setting room
      unfolding root big_components
      search_alike = by_bonds r ms setting room (λ o. o ≡ search q ms setting room) (λ none. sym (search_lone q ms setting room (omega (arith, alike.graph.count)) ∙ no_state)) entered
        where
          no_state : lone q ms setting room ≡ lone r ms setting room
          no_state = ap (λ (n : ℕ). answers 0 no_removal (record { best = n; states = 0; memo = [] })) (sym index_alike)

          -- the root with these trees
          at_root : List ℕ → State
          at_root l = record { pieces = filter (λ c. leb 2 (size c)) l; index = sum_of (λ (t : ℕ). size t - 1) l; largest = max_of size l; next = 0; trail = no_removal }

          entered : 1 ≤ bonds r → visit r ms setting room (bonds r) (root r ms) (run_at_root r) ≡ search q ms setting room
          entered some =
              visit_alike (bonds r) (root r ms) (pieces_own r ok) (run_at_root r)
              ∙ ap₂ (λ (n : ℕ) (l : List ℕ). visit q ms setting room n (at_root l) (record { best = sum_of (λ (t : ℕ). size t - 1) l; states = 0; memo = [] })) alike.graph.count trees_alike
              ∙ sym (search_some q ms setting room (omega (arith, alike.graph.count)))

    -- ---- allowed series

    series_from_alike : (f n : ℕ) (P : List ℕ) → Fragments r P → series_from r ms f n P ≡ series_from q ms f n P
    unfolding series_from removable
    series_from_alike zero n P h = refl
    series_from_alike (suc f) n P h =
        ap (λ (l : List (List ℕ)). [] ∷ l)
        (flat_same (λ m. map (λ τ. m ∷ τ) (series_from r ms f (suc m) (remove r ms P m))) (λ m. map (λ τ. m ∷ τ) (series_from q ms f (suc m) (remove q ms P m))) (removable r ms P n)
        (λ m i. ap (map (λ τ. m ∷ τ))
        (series_from_alike f (suc m) (remove r ms P m) (left_fragments P m (removable_mem r ms P n m i).is h) ∙ ap (series_from q ms f (suc m)) (remove_alike P m h))))

    -- the same series are allowed
    pub all_series_alike : all_series r ms ≡ all_series q ms
    unfolding all_series
    all_series_alike =
        series_from_alike (bonds r) 0 (root_pieces r) (pieces_own r ok)
        ∙ ap₂ (λ (n : ℕ) (P : List ℕ). series_from q ms n 0 P) alike.graph.count root_alike

    least_of_alike : (k : ℕ) (l : List (List ℕ)) → least_of r ms k l ≡ least_of q ms k l
    unfolding least_of series_score
    least_of_alike k [] = refl
    least_of_alike k (τ ∷ l) = least_of_alike (min k (root_index r - saved ms τ)) l ∙ ap (λ (n : ℕ). least_of q ms (min k (n - saved ms τ)) l) index_alike

    -- and their least score is the same
    pub least_score_alike : least_score r ms ≡ least_score q ms
    unfolding least_score
    least_score_alike = least_of_alike (root_index r) (all_series r ms) ∙ ap₂ (least_of q ms) index_alike all_series_alike

module _ (r q : Bytes) (ok : check r ≡ accepted) (ok' : check q ≡ accepted) (alike : ReadAlike r q) where
  -- ---- pathways

  share_alike : (i j : ℕ) → i < bonds r → j < bonds r → Share r i j → Share q i j
  share_alike i j k l h = rw (sym (alike.graph.first_ends i k), sym (alike.graph.second_ends i k), sym (alike.graph.first_ends j l), sym (alike.graph.second_ends j l)) h

  label_alike : (made : List ℕ) (s : ℕ) → Fragments r made → Own r s → Connected r s → HasLabel r made s → HasLabel q made s
  label_alike made s F o k w = let f = F w.0 w.1 in (w.0, w.1, sym (alike.labels w.0 f.0 f.1) ∙ w.2 ∙ alike.labels s o k)

  ready_alike : (made : List ℕ) (s : ℕ) → Fragments r made → Own r s → Connected r s → Ready r made s → Ready q made s
  ready_alike made s F o k (inl e) = inl e
  ready_alike made s F o k (inr w) = inr (label_alike made s F o k w)

  join_alike : (made : List ℕ) (j : Join) → Fragments r made → JoinAfter r made j → JoinAfter q made j
  join_alike made j F h =
      let w = meets_in r j.left j.right h.meet in
      record {
        left_own = (own_alike r q alike.graph j.left).0 h.left_own;
        right_own = (own_alike r q alike.graph j.right).0 h.right_own;
        left_connected = (fragment_alike r q alike.graph (few r ok) j.left h.left_own).0 h.left_connected;
        right_connected = (fragment_alike r q alike.graph (few r ok) j.right h.right_own).0 h.right_connected;
        apart = h.apart;
        meet = meets_has q j.left j.right w.0 w.1 w.2 w.3 (share_alike w.0 w.1 (member_lt (bonds r) j.left w.0 h.left_own w.2) (member_lt (bonds r) j.right w.1 h.right_own w.3) w.4);
        left_ready = ready_alike made j.left F h.left_own h.left_connected h.left_ready;
        right_ready = ready_alike made j.right F h.right_own h.right_connected h.right_ready;
      }

  joins_alike : (made : List ℕ) (js : List Join) → Fragments r made → JoinsAfter r made js → JoinsAfter q made js
  joins_alike made [] F a = tt
  joins_alike made (j ∷ js) F a =
      let w = join_falls r made j a.0 in
      (join_alike made j F a.0, joins_alike (union j ∷ made) js (λ x i. ⊎_elim (λ (e : x ≡ union j). rw e (w.own, w.whole)) (λ (m : Mem x made). F x m) (mem_cons i)) a.1)

  -- what is to be made is, of as many atoms
  complete_alike : atoms r ≡ atoms q → (made : List ℕ) → Fragments r made → complete r made ≡ true → complete q made ≡ true
  unfolding whole_made
  complete_alike n made F e = go (ℕ_discrete (atoms r) (bonds r + 1))
    where
      whole : (made : List ℕ) → whole_made r made ≡ whole_made q made
      whole [] = ap (λ (n : ℕ). leb n 1) alike.graph.count
      whole (u ∷ made) = ap (λ (n : ℕ). eqb u (2 ^ n - 1)) alike.graph.count

      go : Dec (atoms r ≡ bonds r + 1) → complete q made ≡ true
      go (yes one) = complete_one q made (omega (arith, alike.graph.count)) ∙ sym (whole made) ∙ sym (complete_one r made one) ∙ e
      go (no more) =
          let h : (x : ℕ) → Mem x (root_pieces r) → HasLabel q made x =
          λ x i. let f = pieces_own r ok x i in label_alike made x F f.0 f.1 (trees_of r made (sym (complete_more r made more) ∙ e) x i) in
          complete_more q made (λ one. more (omega (arith, alike.graph.count)))
          ∙ trees_test q made (rw (root_alike r ok (pairs r) (table_laws r ok) q alike) at h)

  pathway_passes : atoms r ≡ atoms q → (js : List Join) → is_pathway r js ≡ true → is_pathway q js ≡ true
  unfolding is_pathway
  pathway_passes n js e =
      let w = joins_of r (few r ok) [] js e in
      let F : Fragments r (after [] js) = λ x i. let f = made_fragment r (after [] js) x (joins_made r [] js (λ u k. absurd (not-nil k)) w.0 x i) in (f.0, f.1) in
      joins_test q (few q ok') [] js (joins_alike [] js (λ x i. absurd (not-nil i)) w.0) (complete_alike n (after [] js) F w.1)

module _ (r q : Bytes) (ok : check r ≡ accepted) (ok' : check q ≡ accepted) (alike : ReadAlike r q) where
  -- the same lists of joins are pathways, where there are as many atoms, and so as many trees
  pub is_pathway_alike : atoms r ≡ atoms q → (js : List Join) → is_pathway r js ≡ is_pathway q js
  is_pathway_alike n js = bool_iff (is_pathway r js) (is_pathway q js) (pathway_passes r q ok ok' alike n js) (pathway_passes q r ok' ok (read_back r q alike (few r ok)) (sym n) js)

  -- ---- score

  entry_answer_alike : (setting : Setting) (room : Room) → entry_answer r setting room ≡ entry_answer q setting room
  unfolding entry_answer
  entry_answer_alike setting room = rw (ok, ok', entry_answer) refl

  -- score answers the same of both, for every setting and every room
  pub score_alike : (setting : Setting) (room : Room) → score_answer r setting room ≡ score_answer q setting room
  unfolding score_answer
  score_alike setting room =
      let table = match_table_alike r q alike in
      let found : search r (pairs r) setting (memo_room room.memo) ≡ search q (pairs q) setting (memo_room room.memo) =
      search_alike r ok (pairs r) (table_laws r ok) q alike setting (memo_room room.memo) ∙ ap (λ (t : Table). search q (pairs_of t) setting (memo_room room.memo)) table in
      λ i.
      elim (entry_answer_alike setting room i) [
        | refused number place ↦ turned_back number place
        | accepted ↦ elim (table_answer (table i) room.p room.pairs) [
          | refused number place ↦ turned_back number place
          | accepted ↦ searched (table i) (found i)
        ]
      ]

  -- both have one assembly index
  pub fewest_alike : (k : ℕ) → IsFewest r k ↔ IsFewest q k
  fewest_alike k = (λ w. rw (fewest_is r ok k w ∙ same) (least_is_fewest q ok'), λ w. rw (fewest_is q ok' k w ∙ sym same) (least_is_fewest r ok))
    where
      same : least_score r (pairs r) ≡ least_score q (pairs q)
      same = least_score_alike r ok (pairs r) (table_laws r ok) q alike ∙ ap (least_score q) (pairs_alike r q alike)

-- ---- a record without class bytes, and the same with a class byte 1 for each atom

module _ (q : Bytes) (right : HasUnmarkedLength q) (ok : check (natural q) ≡ accepted) (r : Bytes) (ok' : check r ≡ accepted) (reads : ReadsUnmarked r q) where
  alike : ReadAlike r (natural q)
  alike = unmarked_alike q r (natural q) (few r ok') reads (natural_reads q right ok)

  -- whatever reads as the record without them has the matches and the answer of the one with them
  pub natural_pairs : pairs r ≡ pairs (natural q)
  natural_pairs = pairs_alike r (natural q) alike

  pub natural_score : (setting : Setting) (room : Room) → score_answer r setting room ≡ score_answer (natural q) setting room
  natural_score = score_alike r (natural q) ok' ok alike
