-- The twins of a fragment q are removed one after the other (`strike`): q stays a piece, what misses all of them stays inside pieces, and each removal saves
-- one twin's joins. The numbers of these matches rise, as the twins are taken by falling numbers of their nodes; and whatever match has a first fragment that
-- comes strictly before q is numbered after them. Of an accepted record.
use mathlib.Core.Path.{◌≡◌, refl, sym, ap, ◌∙◌}
use mathlib.Core.Bool.{false}
use mathlib.Core.List.Memᴰ.{head as m_head}
use mathlib.Core.List.Memᴰ.{tail as m_tail}
use mathlib.Core.List.{List, [], ◌∷◌, Memᴰ as Mem}
use Prim.Native.Nat.{ℕ, suc, ◌+◌, ◌-◌, ◌≤◌, ◌<◌}
use native.Mathlib.Omega.{arith}
use lib.Bits.{bit_and, and_self}
use lib.ListN.{length}
use Rattle.bitset.specs.Bits.{Disjoint, size}
use Rattle.molecule.specs.Lists.{Bytes}
use Rattle.molecule.specs.Record.{all_bonds}
use Rattle.molecule.specs.Check.{accepted, check}
use Rattle.molecule.specs.Connected.{Connected, Apart}
use Rattle.molecule.proofs.Lists.{Ordered}
use Rattle.matches.specs.Table.{pair, pairs}
use Rattle.matches.specs.Laws.{Twins}
use Rattle.matches.specs.Inner.Ranks.{Akin, precedes, number}
use Rattle.matches.proofs.Laws.{size_of_first, precedes_akin, MatchOf, firsts_order, seconds_order, twins_match}
use Rattle.bounds.specs.Numbers.{sum_of}
use Rattle.bounds.specs.Inner.Removals.{InOnePiece, PiecesWithin}
use Rattle.bounds.proofs.Steps.{apart_sym}
use Rattle.search.specs.State.{remove}
use Rattle.search.specs.Series.{saved}
use Rattle.search.specs.Inner.Claims.{Removable, Allows}
use Rattle.search.proofs.Refine.{remove_first, remove_within, remove_keeps}

-- the joins that fragments take with nothing used again: size less one for each
abbrev pub cost : List ℕ → ℕ
cost l = sum_of (λ (x : ℕ). size x - 1) l

-- some series allowed from the pieces P, with numbers from k on, saves all of c but n
abbrev pub Saves : Bytes → List ℕ → ℕ → ℕ → ℕ → Type 0
Saves r P k c n = (τ : List ℕ) × Allows r (pairs r) k P τ × (c ≤ saved (pairs r) τ + n)

-- every match whose first fragment is akin to a set of the list is numbered k or more
abbrev pub Late : Bytes → ℕ → List ℕ → Type 0
Late r k l = (u : ℕ) → Mem u l → (i : ℕ) → i < length (pairs r) → Akin r (pair (pairs r) i).h1 u → k ≤ i

-- c is a twin of q, not the later node, inside a piece of P, and misses the sets of D
pub record TwinIn (r : Bytes) (q : ℕ) (D P : List ℕ) (c : ℕ) : Type 0 where
  pub twins : Twins r q c
  pub earlier : number r c ≤ number r q
  pub lies : InOnePiece c P
  pub clear : (y : ℕ) → Mem y D → Disjoint y c

-- q and the sets of D are inside pieces of P, and the matches of the sets of L are numbered k or more
pub record Stage (r : Bytes) (q : ℕ) (D L P : List ℕ) (k : ℕ) : Type 0 where
  pub within : PiecesWithin (all_bonds r) P
  pub kept : InOnePiece q P
  pub others : (y : ℕ) → Mem y D → InOnePiece y P
  pub late : Late r k L

-- the sets of D are fragments of two bonds or more that miss q; the sets of L come strictly before q
module _ (r : Bytes) (ok : check r ≡ accepted) (q : ℕ) (D L : List ℕ)
    (D_fragments : (y : ℕ) → Mem y D → Connected r y × (2 ≤ size y) × Disjoint y q) (L_before : (u : ℕ) → Mem u L → precedes r q u ≡ false) where
  -- ---- one removal, of match m, which is of q and its twin c

  module _ (P : List ℕ) (k m c : ℕ) (s : Stage r q D L P k) (t : TwinIn r q D P c) (is : MatchOf r q c m) where
    -- what misses q and c stays inside a piece
    stays : (y : ℕ) → Connected r y → 2 ≤ size y → Disjoint y q → Disjoint y c → InOnePiece y P → InOnePiece y (remove r (pairs r) P m)
    stays y w b d e i = remove_keeps r ok (pairs r) P m y s.within w b (rw is.1 d) (rw is.2 e) i

    -- so the sets of D do; q is a piece of its own; and the matches of L are numbered after m, since their first fragments come before q
    next_stage : Stage r q D L (remove r (pairs r) P m) (suc m)
    next_stage = record {
      within = remove_within r ok (pairs r) P m s.within (rw is.1 s.kept);
      kept = ((pair (pairs r) m).h1, remove_first r (pairs r) P m, rw is.1 (and_self q));
      others = λ y i. let w = D_fragments y i in stays y w.0 w.1 w.2 (t.clear y i) (s.others y i);
      late = λ u i j h a. firsts_order r m j is.0 h
          (ap (λ (x : ℕ). precedes r x (pair (pairs r) j).h1) is.1 ∙ precedes_akin r q (pair (pairs r) j).h1 u a ∙ L_before u i);
    }

    -- and so do the twins that miss c
    next_twin : (b : ℕ) → TwinIn r q D P b → Disjoint c b → TwinIn r q D (remove r (pairs r) P m) b
    next_twin b z d =
        let w = z.twins in
        record {
          twins = w;
          earlier = z.earlier;
          lies = stays b w.other (omega (arith, w.big, w.same_size)) (apart_sym q b w.apart) (apart_sym c b d) z.lies;
          clear = z.clear;
        }

    -- the match of q and a twin b that is not the later node is numbered after m
    later : (b : ℕ) → Disjoint c b → number r b ≤ number r c → (j : ℕ) → MatchOf r q b j → suc m ≤ j
    later b d l j w =
        seconds_order r m j is.0 w.0 (is.1 ∙ sym w.1) (omega (arith, ap (number r) is.2, ap (number r) w.2, l))
        (λ e. t.twins.other.some (sym (and_self c) ∙ ap (bit_and c) (sym is.2 ∙ e ∙ w.2) ∙ d))

  -- ---- all removals

  -- from wherever they lead, the rest saves all of c but n
  module _ (c n : ℕ) (rest : (P : List ℕ) (k : ℕ) → Stage r q D L P k → Saves r P k c n) where
    -- the twins cs are removed in turn
    pub strike : (cs P : List ℕ) (k : ℕ) → Stage r q D L P k → ((b : ℕ) → Mem b cs → TwinIn r q D P b) → Apart cs
        → Ordered (λ x y. number r y ≤ number r x) cs → ((b : ℕ) → Mem b cs → (j : ℕ) → MatchOf r q b j → k ≤ j) → Saves r P k (c + cost cs) n
    strike [] P k s twin apart order from = let w = rest P k s in (w.0, w.1, omega (arith, w.2))
    strike (b ∷ cs) P k s twin apart order from =
        let t = twin b (m_head refl) in
        let f = twins_match r ok q b t.twins t.earlier in
        let m : ℕ = f.0 in
        let is = f.1 in
        let w = strike cs (remove r (pairs r) P m) (suc m) (next_stage P k m b s t is)
        (λ x i. next_twin P k m b s t is x (twin x (m_tail i)) (apart.0 x i)) apart.1 order.1
        (λ x i j. later P k m b s t is x (apart.0 x i) (order.0 x i) j) in
        let in1 : InOnePiece (pair (pairs r) m).h1 P = rw is.1 s.kept in
        let in2 : InOnePiece (pair (pairs r) m).h2 P = rw is.2 t.lies in
        let removable : Removable (pairs r) P k m = record { after = from b (m_head refl) m is; is = is.0; in1 = in1; in2 = in2 } in
        (m ∷ w.0, (removable, w.1), omega (arith, w.2, size_of_first (pairs r) m, ap size is.1, t.twins.same_size))
