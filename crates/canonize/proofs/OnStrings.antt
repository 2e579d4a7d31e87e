-- The label in the words of document 01, on strings: an atom starts with the one string, its own; in a round each end atom
-- hands its neighbour the bond code followed by its own collapsed strings. It is the label by trees of Peeling.antt.
use Rattle.bitset.proofs.Bools.{two}
use mathlib.Core.Path.{◌≡◌, refl, sym, ap, ap₂, ◌∙◌}
use mathlib.Core.Logic.{◌⊎◌, inl, inr}
use mathlib.Core.Bool.{true, false, not}
use mathlib.Core.List.Permᴰ.{append_left as perm_left}
use mathlib.Core.List.Permᴰ.{cons as p_cons}
use mathlib.Core.List.Permᴰ.{middle as perm_middle}
use mathlib.Core.List.Permᴰ.{refl as perm_refl}
use mathlib.Core.List.Permᴰ.{symm as perm_sym}
use mathlib.Core.List.Permᴰ.{trans as p_trans}
use mathlib.Core.List.{List, [], ◌∷◌, ◌++◌, map, Permᴰ as Perm}
use Prim.Native.Nat.{ℕ, zero, suc}
use lib.ListN.{length}
use Rattle.molecule.proofs.Perms.{perm_eq, map_agree}
use Rattle.canonize.specs.Fragment.{Bond, Frag, Peel, arcs, end_atom, finish, label_of, more, peel, round, start, to_ends, two_left}
use Rattle.canonize.specs.Strings.{collapse}
use Rattle.molecule.specs.Lists.{filter}
use Rattle.canonize.proofs.Wrapping.{collapse_canonical}
use Rattle.canonize.proofs.RoseTrees.{strings, node_code, two_code}
use Rattle.canonize.proofs.Peeling.{both, TreePeel, gather, gather_strings, tree_round, tree_peel, settle_more, settle_stop, tree_two, tree_last, tree_start, tree_label}

-- a round more, or none
pub peel_more : (k : ℕ) (z : Peel) → more z.present ≡ true → peel (suc k) z ≡ peel k (round z)
unfolding peel
peel_more k z e = rw (e, peel)

pub peel_stop : (k : ℕ) (z : Peel) → more z.present ≡ false → peel k z ≡ z
unfolding peel
peel_stop zero z e = refl
peel_stop (suc k) z e = rw (e, peel)

module _ (kind : ℕ → List ℕ) where
  pub record Says (d : TreePeel) (z : Peel) : Type 0 where
    pub present : d.present ≡ z.present
    pub left : d.left ≡ z.left
    pub own : (n : ℕ) → Perm (kind n ∷ strings (d.under n)) (z.own n)

  pub says_code : (d : TreePeel) (z : Peel) → Says d z → (n : ℕ) → node_code (kind n) (d.under n) ≡ collapse (z.own n)
  says_code d z s n = collapse_canonical (s.own n)

  round_own : (d : TreePeel) (z : Peel) → Says d z → (xs : List Bond) (n : ℕ) → Perm (kind n ∷ strings (gather kind d.under xs (d.under n))) (map (λ (x : Bond). x.code ∷ collapse (z.own x.v)) xs ++ z.own n)
  round_own d z s xs n =
      let G : Bond → List ℕ = λ x. x.code ∷ node_code (kind x.v) (d.under x.v) in
      let H : Bond → List ℕ = λ x. x.code ∷ collapse (z.own x.v) in
      let e : map G xs ≡ map H xs = map_agree G H xs (λ x m. ap (λ (l : List ℕ). x.code ∷ l) (says_code d z s x.v)) in
      p_trans (p_cons refl (perm_eq (gather_strings kind d.under xs (d.under n) ∙ ap (λ (l : List (List ℕ)). l ++ strings (d.under n)) e)))
      (p_trans (perm_sym (perm_middle (kind n) (map H xs) (strings (d.under n)))) (perm_left (map H xs) (s.own n)))

  pub round_says : (d : TreePeel) (z : Peel) → Says d z → Says (tree_round kind d) (round z)
  round_says d z s = record {
    present = ap₂ (λ (ns : List ℕ) (bs : List Bond). filter (λ (n : ℕ). not (end_atom (arcs bs) n)) ns) s.present s.left;
    left = ap (λ (bs : List Bond). filter (λ (b : Bond). both (not (end_atom (arcs bs) b.u)) (not (end_atom (arcs bs) b.v))) bs) s.left;
    own = λ n. p_trans (round_own d z s (to_ends (end_atom (arcs d.left)) n (arcs d.left)) n)
        (perm_eq (ap (λ (bs : List Bond). map (λ (x : Bond). x.code ∷ collapse (z.own x.v)) (to_ends (end_atom (arcs bs)) n (arcs bs)) ++ z.own n) s.left));
  }

  settle_says : (k : ℕ) (d : TreePeel) (z : Peel) → Says d z → Says (tree_peel kind k d) (peel k z)
  unfolding tree_peel peel
  settle_says zero d z s = s
  settle_says (suc k) d z s = go (two (more d.present)) (settle_says k (tree_round kind d) (round z) (round_says d z s))
    where
      same : more z.present ≡ more d.present
      same = ap more (sym s.present)

      go : (more d.present ≡ true) ⊎ (more d.present ≡ false) → Says (tree_peel kind k (tree_round kind d)) (peel k (round z)) → Says (tree_peel kind (suc k) d) (peel (suc k) z)
      go (inl h) i = rw (settle_more kind k d h, peel_more k z (same ∙ h)) i
      go (inr h) i = rw (settle_stop kind k d h, peel_stop (suc k) z (same ∙ h)) s

  two_says : (d : TreePeel) (z : Peel) → Says d z → (bs : List Bond) → tree_two kind bs d ≡ two_left bs z
  unfolding two_code
  two_says d z s [] = refl
  two_says d z s (b ∷ []) = ap₂ (λ (x y : List ℕ). b.code ∷ collapse (x ∷ y ∷ [])) (says_code d z s b.u) (says_code d z s b.v)
  two_says d z s (b ∷ c ∷ r) = refl

  last_says : (d : TreePeel) (z : Peel) → Says d z → (ns : List ℕ) → tree_last kind ns d ≡ finish ns z
  last_says d z s [] = refl
  last_says d z s (a ∷ []) = says_code d z s a
  last_says d z s (a ∷ b ∷ []) = two_says d z s d.left ∙ ap (λ (bs : List Bond). two_left bs z) s.left
  last_says d z s (a ∷ b ∷ c ∷ r) = refl

pub start_says : (a : Frag) → Says a.kind (tree_start a) (start a)
unfolding strings
start_says a = record { present = refl; left = refl; own = λ n. perm_refl (a.kind n ∷ []) }

pub label_document : (a : Frag) → tree_label a ≡ label_of a
unfolding tree_label label_of
label_document a =
    let d : TreePeel = tree_peel a.kind (length a.atoms) (tree_start a) in
    let z : Peel = peel (length a.atoms) (start a) in
    let s : Says a.kind d z = settle_says a.kind (length a.atoms) (tree_start a) (start a) (start_says a) in
    last_says a.kind d z s d.present ∙ ap (λ (ns : List ℕ). finish ns z) s.present
