-- Candidates that become nodes: the nodes and matches of the definition by lists, and naming a candidate. Assumes nothing.
use Rattle.std.proofs.Common.{◌≡◌, refl, sym, ap, ◌∙◌, ◌⊎◌, inl, inr, ◌≢◌, true, false, List, [], ◌∷◌, ◌++◌, ℕ, suc, ◌+◌, ◌-◌, ◌*◌, ◌≤◌, ◌<◌, arith, eqb, length, get_or, set, length-append, length-set, get_or-set_same, get_or-set_other, Some}
use Rattle.std.proofs.Math.Decide.{ℕ_discrete}
use Rattle.std.proofs.Math.ListN.{get_or-append}
use Rattle.std.proofs.Math.Seq.{get_or_at}
use Rattle.clear.specs.Inner.Part.{zero_part}
use Rattle.clear.proofs.Part.{part_length, part_below, part_zero, part_above}
use Rattle.bitset.specs.Bits.{is_disjoint}
use Rattle.bitset.proofs.Bools.{two}
use Rattle.molecule.specs.Lists.{Bytes, any, fold}
use Rattle.molecule.proofs.Perms.{Distinct}
use Rattle.matches.specs.Table.{Group, Table, note, meet, pair_up, groups, extend}
use Rattle.enumerate.specs.Inner.Bucketed.{Bucketed}
use Rattle.enumerate.specs.Inner.Grouped.{group_at, Threaded, Grouped}
use Rattle.tabulate.specs.Inner.Noded.{both_noted, nodes_after, nodes_of, apart, pairs_with, disjoint_pairs, pairs_in, flag_of, Noded, Beside, Named, ahead, LeadsThrough, AllLead, Naming}
use Rattle.matches.proofs.Laws.{distinct_at}
use Rattle.enumerate.proofs.Chains.{enumerated_same, bucketed_same, any_end, any_hit, note_known, note_fresh, note_length}
use Rattle.enumerate.proofs.Grouping.{chain_below, chain_rise, chain_split}

-- ---- the definition by lists

pub both_yes : (x : ℕ) (nodes : List ℕ) (y : ℕ) → is_disjoint x y ≡ true → both_noted x nodes y ≡ note (note nodes x) y
unfolding both_noted
both_yes x nodes y e = rw (e, both_noted) refl

pub both_no : (x : ℕ) (nodes : List ℕ) (y : ℕ) → is_disjoint x y ≡ false → both_noted x nodes y ≡ nodes
unfolding both_noted
both_no x nodes y e = rw (e, both_noted) refl

pub apart_yes : (x y : ℕ) → is_disjoint x y ≡ true → apart x y ≡ 1
unfolding apart
apart_yes x y e = rw (e, apart) refl

pub apart_no : (x y : ℕ) → is_disjoint x y ≡ false → apart x y ≡ 0
unfolding apart
apart_no x y e = rw (e, apart) refl

-- t has these nodes and so many matches
Has : Table → List ℕ → ℕ → Type 0
Has t nodes n = (t.nodes ≡ nodes) × (length t.matches ≡ n)

has_meet : (x : ℕ) (t : Table) (y : ℕ) → Has (meet x t y) (both_noted x t.nodes y) (length t.matches + apart x y)
unfolding Has meet
has_meet x t y = go (two (is_disjoint x y))
  where
    go : (is_disjoint x y ≡ true) ⊎ (is_disjoint x y ≡ false) → Has (meet x t y) (both_noted x t.nodes y) (length t.matches + apart x y)
    go (inl e) = rw (both_yes x t.nodes y e, apart_yes x y e, e, meet) (refl, length-append t.matches (_ ∷ []))
    go (inr e) = rw (both_no x t.nodes y e, apart_no x y e, e, meet) (refl, omega arith)

meets_nodes : (x : ℕ) (l : List ℕ) (t : Table) → (fold (meet x) t l).nodes ≡ fold (both_noted x) t.nodes l
unfolding Has
meets_nodes x [] t = refl
meets_nodes x (y ∷ l) t = meets_nodes x l (meet x t y) ∙ ap (λ (n : List ℕ). fold (both_noted x) n l) (has_meet x t y).0

meets_matches : (x : ℕ) (l : List ℕ) (t : Table) → length (fold (meet x) t l).matches ≡ length t.matches + pairs_with x l
unfolding Has pairs_with
meets_matches x [] t = omega arith
meets_matches x (y ∷ l) t = omega (arith, meets_matches x l (meet x t y), (has_meet x t y).1)

-- a group paired up
pub pair_up_nodes : (l : List ℕ) (t : Table) → (pair_up t l).nodes ≡ nodes_after t.nodes l
unfolding pair_up nodes_after
pair_up_nodes [] t = refl
pair_up_nodes (x ∷ l) t = pair_up_nodes l (fold (meet x) t l) ∙ ap (λ (n : List ℕ). nodes_after n l) (meets_nodes x l t)

pub pair_up_matches : (l : List ℕ) (t : Table) → length (pair_up t l).matches ≡ length t.matches + disjoint_pairs l
unfolding pair_up disjoint_pairs
pair_up_matches [] t = omega arith
pair_up_matches (x ∷ l) t = omega (arith, pair_up_matches l (fold (meet x) t l), meets_matches x l t)

-- all groups paired up
pub groups_nodes : (gs : List Group) (t : Table) → (fold (λ t' g. pair_up t' g.sets) t gs).nodes ≡ nodes_of t.nodes gs
unfolding nodes_of
groups_nodes [] t = refl
groups_nodes (g ∷ gs) t = groups_nodes gs (pair_up t g.sets) ∙ ap (λ (n : List ℕ). nodes_of n gs) (pair_up_nodes g.sets t)

pub groups_matches : (gs : List Group) (t : Table) → length (fold (λ t' g. pair_up t' g.sets) t gs).matches ≡ length t.matches + pairs_in gs
unfolding pairs_in
groups_matches [] t = omega arith
groups_matches (g ∷ gs) t = omega (arith, groups_matches gs (pair_up t g.sets), pair_up_matches g.sets t)

-- one size more
pub extend_nodes : (r : Bytes) (t : Table) (found : List ℕ) → (extend r t found).nodes ≡ nodes_of t.nodes (groups r found)
unfolding extend
extend_nodes r t found = groups_nodes (groups r found) t

pub extend_matches : (r : Bytes) (t : Table) (found : List ℕ) → length (extend r t found).matches ≡ length t.matches + pairs_in (groups r found)
unfolding extend
extend_matches r t found = groups_matches (groups r found) t

-- ---- the list never gets shorter

pub both_length : (x : ℕ) (nodes : List ℕ) (y : ℕ) → length nodes ≤ length (both_noted x nodes y)
both_length x nodes y = go (two (is_disjoint x y))
  where
    go : (is_disjoint x y ≡ true) ⊎ (is_disjoint x y ≡ false) → length nodes ≤ length (both_noted x nodes y)
    go (inl e) = omega (arith, ap (λ (m : List ℕ). length m) (both_yes x nodes y e), note_length nodes x, note_length (note nodes x) y)
    go (inr e) = omega (arith, ap (λ (m : List ℕ). length m) (both_no x nodes y e))

pub boths_length : (x : ℕ) (l nodes : List ℕ) → length nodes ≤ length (fold (both_noted x) nodes l)
boths_length x [] nodes = omega arith
boths_length x (y ∷ l) nodes = omega (arith, both_length x nodes y, boths_length x l (both_noted x nodes y))

pub after_length : (l nodes : List ℕ) → length nodes ≤ length (nodes_after nodes l)
unfolding nodes_after
after_length [] nodes = omega arith
after_length (x ∷ l) nodes = omega (arith, boths_length x l nodes, after_length l (fold (both_noted x) nodes l))

pub of_length : (gs : List Group) (nodes : List ℕ) → length nodes ≤ length (nodes_of nodes gs)
unfolding nodes_of
of_length [] nodes = omega arith
of_length (g ∷ gs) nodes = omega (arith, after_length g.sets nodes, of_length gs (nodes_after nodes g.sets))

-- ---- words

pub beside_same : {l : List ℕ} {p count : ℕ} → Beside l l p count
beside_same = record { long = refl; nodes = λ i h g. refl; middle = λ i h g. refl; starts = λ i h g. refl; rest = λ i h. refl }

pub beside_then : {k l m : List ℕ} {p c d : ℕ} → c ≤ d → Beside k l p c → Beside l m p d → Beside k m p c
beside_then h v w = record {
  long = w.long ∙ v.long;
  nodes = λ i g j. w.nodes i (omega arith) j ∙ v.nodes i g j;
  middle = λ i g j. w.middle i g j ∙ v.middle i g j;
  starts = λ i g j. w.starts i (omega arith) j ∙ v.starts i g j;
  rest = λ i g. w.rest i g ∙ v.rest i g;
}

-- ---- naming

flag_yes : (nodes : List ℕ) (x : ℕ) → flag_of nodes x ≢ 0 → true ≡ any (eqb x) nodes
unfolding flag_of
flag_yes nodes x h = go (two (any (eqb x) nodes))
  where
    go : (any (eqb x) nodes ≡ true) ⊎ (any (eqb x) nodes ≡ false) → true ≡ any (eqb x) nodes
    go (inl e) = sym e
    go (inr e) = absurd (h (rw (e, flag_of) refl))

flag_no : (nodes : List ℕ) (x : ℕ) → flag_of nodes x ≡ 0 → false ≡ any (eqb x) nodes
unfolding flag_of
flag_no nodes x h = go (two (any (eqb x) nodes))
  where
    one : any (eqb x) nodes ≡ true → flag_of nodes x ≡ 1
    one e = rw (e, flag_of) refl

    go : (any (eqb x) nodes ≡ true) ⊎ (any (eqb x) nodes ≡ false) → false ≡ any (eqb x) nodes
    go (inl e) = absurd (omega (arith, one e))
    go (inr e) = sym e

flag_none : (nodes : List ℕ) (x : ℕ) → any (eqb x) nodes ≡ false → flag_of nodes x ≡ 0
unfolding flag_of
flag_none nodes x e = rw (e, flag_of) refl

flag_other : (x y : ℕ) (l : List ℕ) → y ≢ x → flag_of (l ++ (y ∷ [])) x ≡ flag_of l x
unfolding flag_of
flag_other x y l n = rw (any_end x y l n, flag_of) refl

flag_this : (x : ℕ) (l : List ℕ) → flag_of (l ++ (x ∷ [])) x ≡ 1
unfolding flag_of
flag_this x l = rw (any_hit x l, flag_of) refl

-- the table with candidate i as node n, of a group whose first node is s
abbrev pub named : List ℕ → ℕ → ℕ → ℕ → ℕ → List ℕ
named parts p i s n = set (set (set parts n (get_or parts (p + i) 0)) (8 * p + n) s) (7 * p + i) 1

module _ (parts : List ℕ) (p i s n : ℕ) (room : n < p) (low : i < p) where
  named_long : length (named parts p i s n) ≡ length parts
  named_long = length-set (set (set parts n (get_or parts (p + i) 0)) (8 * p + n) s) (7 * p + i) 1 ∙ length-set (set parts n (get_or parts (p + i) 0)) (8 * p + n) s ∙ length-set parts n (get_or parts (p + i) 0)

  named_other : (j : ℕ) → j ≢ n → j ≢ 8 * p + n → j ≢ 7 * p + i → get_or (named parts p i s n) j 0 ≡ get_or parts j 0
  named_other j e f g =
      get_or-set_other (set (set parts n (get_or parts (p + i) 0)) (8 * p + n) s) (7 * p + i) j 1 0 g
      ∙ get_or-set_other (set parts n (get_or parts (p + i) 0)) (8 * p + n) j s 0 f
      ∙ get_or-set_other parts n j (get_or parts (p + i) 0) 0 e

  pub beside_named : Beside parts (named parts p i s n) p n
  beside_named = record {
    long = named_long;
    nodes = λ j h g. named_other j (λ e. omega arith) (λ e. omega arith) (λ e. omega arith);
    middle = λ j h g. named_other j (λ e. omega arith) (λ e. omega arith) (λ e. omega arith);
    starts = λ j h g. named_other (8 * p + j) (λ e. omega arith) (λ e. omega arith) (λ e. omega arith);
    rest = λ j h. named_other j (λ e. omega arith) (λ e. omega arith) (λ e. omega arith);
  }

  module _ (wide : 9 * p ≤ length parts) where
    named_flag : get_or (named parts p i s n) (7 * p + i) 0 ≡ 1
    named_flag = get_or-set_same (set (set parts n (get_or parts (p + i) 0)) (8 * p + n) s) (7 * p + i) 1 0 (omega (arith, length-set (set parts n (get_or parts (p + i) 0)) (8 * p + n) s, length-set parts n (get_or parts (p + i) 0)))

    named_start : get_or (named parts p i s n) (8 * p + n) 0 ≡ s
    named_start =
        get_or-set_other (set (set parts n (get_or parts (p + i) 0)) (8 * p + n) s) (7 * p + i) (8 * p + n) 1 0 (λ e. omega arith)
        ∙ get_or-set_same (set parts n (get_or parts (p + i) 0)) (8 * p + n) s 0 (omega (arith, length-set parts n (get_or parts (p + i) 0)))

    named_node : get_or (named parts p i s n) n 0 ≡ get_or parts (p + i) 0
    named_node =
        get_or-set_other (set (set parts n (get_or parts (p + i) 0)) (8 * p + n) s) (7 * p + i) n 1 0 (λ e. omega arith)
        ∙ get_or-set_other (set parts n (get_or parts (p + i) 0)) (8 * p + n) n s 0 (λ e. omega arith)
        ∙ get_or-set_same parts n (get_or parts (p + i) 0) 0 (omega arith)

module _ {parts : List ℕ} {p : ℕ} {l nodes : List ℕ} {i n : ℕ} (w : Naming parts p l nodes i n) where
  flag : get_or parts (7 * p + i) 0 ≡ flag_of nodes (get_or l i 0)
  flag = w.noded.flags i w.within

  -- it is a node already
  pub name_old : {s : ℕ} → get_or parts (7 * p + i) 0 ≢ 0 → Named parts p l (note nodes (get_or l i 0)) s n (Some n)
  name_old h = rw (note_known nodes (get_or l i 0) (flag_yes nodes (get_or l i 0) (λ e. h (flag ∙ e)))) (record {
    long = w.long;
    more = omega arith;
    noded = w.noded;
    starts = λ k g j. absurd (omega arith);
  })

  module _ (h : get_or parts (7 * p + i) 0 ≡ 0) where
    fresh : note nodes (get_or l i 0) ≡ nodes ++ (get_or l i 0 ∷ [])
    fresh = note_fresh nodes (get_or l i 0) (flag_no nodes (get_or l i 0) (sym flag ∙ h))

    more_length : length (nodes ++ (get_or l i 0 ∷ [])) ≡ n + 1
    more_length = length-append nodes (get_or l i 0 ∷ []) ∙ omega (arith, w.long)

    -- there is no room
    pub name_over : p ≤ n → p < length (note nodes (get_or l i 0))
    name_over g = rw fresh (omega (arith, more_length))

    module _ (s : ℕ) (room : n < p) where
      low : i < p
      low = omega (arith, w.within, w.noded.listed.fits)

      number_of : (j : ℕ) → j ≤ n → Dec (j ≡ n) → get_or (named parts p i s n) j 0 ≡ get_or (nodes ++ (get_or l i 0 ∷ [])) j 0
      number_of j k (yes e) = rw e (named_node parts p i s n room low w.noded.wide ∙ w.noded.listed.sets i w.within
          ∙ sym (get_or_at nodes (get_or l i 0) [] 0 n w.long))
      number_of j k (no e) =
          named_other parts p i s n room low j e (λ q. omega arith) (λ q. omega arith)
          ∙ w.noded.numbers j (omega (arith, w.long))
          ∙ sym (get_or-append nodes (get_or l i 0 ∷ []) 0 j (omega (arith, w.long)))

      differ : (j : ℕ) → j < length l → j ≢ i → get_or l i 0 ≢ get_or l j 0
      differ j k d e = go (ℕ_discrete (j - i) 0)
        where
          go : Dec (j - i ≡ 0) → ⊥
          go (yes q) = w.noded.distinct j i (omega arith) w.within (sym e)
          go (no q) = w.noded.distinct i j (omega arith) k e

      flag_of_lem : (j : ℕ) → j < length l → Dec (j ≡ i) → get_or (named parts p i s n) (7 * p + j) 0 ≡ flag_of (nodes ++ (get_or l i 0 ∷ [])) (get_or l j 0)
      flag_of_lem j k (yes e) = rw e (named_flag parts p i s n room low w.noded.wide ∙ sym (flag_this (get_or l i 0) nodes))
      flag_of_lem j k (no e) =
          named_other parts p i s n room low (7 * p + j) (λ q. omega arith) (λ q. omega (arith, w.noded.listed.fits)) (λ q. e (omega arith))
          ∙ w.noded.flags j k
          ∙ sym (flag_other (get_or l j 0) (get_or l i 0) nodes (differ j k e))

      -- it becomes one
      pub name_new : Named (named parts p i s n) p l (note nodes (get_or l i 0)) s n (Some (n + 1))
      name_new = rw fresh (record {
        long = more_length;
        more = omega arith;
        noded = record {
          wide = omega (arith, named_long parts p i s n room low, w.noded.wide);
          listed = enumerated_same (λ j k m. (beside_named parts p i s n room low).middle j k (omega arith)) w.noded.listed;
          few = omega (arith, more_length);
          numbers = λ j k. number_of j (omega (arith, more_length)) (ℕ_discrete j n);
          flags = λ j k. flag_of_lem j k (ℕ_discrete j i);
          distinct = w.noded.distinct;
        };
        starts = λ j k m. let e : j ≡ n = omega arith in rw e (named_start parts p i s n room low w.noded.wide);
      })

-- ---- clearing

-- the first count words of region 7 are 0, and all outside of it is as it was
pub record Cleared (old now : List ℕ) (p count : ℕ) : Type 0 where
  pub long : length now ≡ length old
  pub low : (i : ℕ) → i < 7 * p → get_or now i 0 ≡ get_or old i 0
  pub high : (i : ℕ) → 8 * p ≤ i → get_or now i 0 ≡ get_or old i 0
  pub none : (i : ℕ) → i < count → get_or now (7 * p + i) 0 ≡ 0

pub cleared : (old now : List ℕ) (p count : ℕ) → count ≤ p → 9 * p ≤ length old → now ≡ zero_part old (7 * p) (7 * p + count) → Cleared old now p count
cleared old now p count few wide e =
    let order : 7 * p ≤ 7 * p + count = omega arith in
    let fits : 7 * p + count ≤ length old = omega arith in
    rw e (record {
      long = part_length old (7 * p) (7 * p + count) order fits;
      low = part_below old (7 * p) (7 * p + count) order fits;
      high = λ i h. part_above old (7 * p) (7 * p + count) order fits i (omega arith);
      none = λ i h. part_zero old (7 * p) (7 * p + count) order fits (7 * p + i) (omega arith) (omega arith);
    })

-- the candidates are kept
pub cleared_bucketed : (old now : List ℕ) (p count : ℕ) (l : List ℕ) → Cleared old now p count → Bucketed old p l → Bucketed now p l
cleared_bucketed old now p count l w f = bucketed_same w.long (λ i h. w.low i (omega arith)) f

-- ---- for the caller

-- no candidate is a node, and the flags are clear
pub noded_start : (parts : List ℕ) (p : ℕ) (l nodes : List ℕ) → Bucketed parts p l → 9 * p ≤ length parts → Distinct l → length nodes ≤ p
    → ((i : ℕ) → i < length nodes → get_or parts i 0 ≡ get_or nodes i 0)
    → ((i : ℕ) → i < length l → any (eqb (get_or l i 0)) nodes ≡ false) → ((i : ℕ) → i < length l → get_or parts (7 * p + i) 0 ≡ 0) → Noded parts p l nodes
noded_start parts p l nodes f wide d few numbers fresh none = record {
  wide = wide;
  listed = f.listed;
  few = few;
  numbers = numbers;
  flags = λ i h. none i h ∙ sym (flag_none nodes (get_or l i 0) (fresh i h));
  distinct = λ i j h k e. omega (arith, distinct_at 0 l d i j (omega arith) k e);
}

-- the chains of groups, as the functions read them
chain_linked : {parts l : List ℕ} {p n e : ℕ} (sets : List ℕ) (i : ℕ) → n ≤ length l → length l ≤ p → Threaded parts p l n i sets e → LeadsThrough parts p l (suc i) sets
unfolding LeadsThrough ahead
chain_linked [] i h k c = let z = chain_split c in absurd (omega (arith, ap (λ (y : List ℕ). length y) z.1))
chain_linked {parts} {l} {p} {n} {e} (x ∷ xs) i h k c = go (chain_split c) (λ j d. chain_linked xs j h k d)
  where
    below : i < n
    below = omega (arith, chain_rise c, chain_below c)

    go : (rest : List ℕ) × (x ∷ xs ≡ get_or l i 0 ∷ rest)
        × (((get_or parts (5 * p + i) 0 ≡ 0) × (rest ≡ [])) ⊎ ((j : ℕ) × (i < j) × (get_or parts (5 * p + i) 0 ≡ suc j) × Threaded parts p l n j rest e))
        → ((j : ℕ) → Threaded parts p l n j xs e → LeadsThrough parts p l (suc j) xs) → LeadsThrough parts p l (suc i) (x ∷ xs)
    go (rest, q, inl (a, b)) ih =
        let f : xs ≡ [] = cc in
        (i, refl, omega (arith, below), cc, rw a (omega (arith, below)), rw (f, a))
    go (rest, q, inr (j, a, b, d)) ih =
        let f : rest ≡ xs = cc in
        let d' : Threaded parts p l n j xs e = rw f at d in
        (i, refl, omega (arith, below), cc, rw b (omega (arith, chain_rise d', chain_below d')), rw b (ih j d'))

pub grouped_linked : (r : Bytes) (parts : List ℕ) (p : ℕ) (l : List ℕ) (gs : List Group) → length l ≤ p → Grouped r parts p l (length l) gs → AllLead parts p l gs
grouped_linked r parts p l gs h g k j = chain_linked (group_at gs k).sets (get_or parts (4 * p + k) 0) (omega arith) h (g.chains k j)
