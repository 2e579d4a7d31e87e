-- An isomorphism of two sets of bonds carries a part of the one to its image in the other: ends, touching bonds, links and connected sets go along. Assumes nothing.
use mathlib.Core.Path.{◌≡◌, refl, sym, ap, ◌∙◌}
use mathlib.Core.Logic.{◌⊎◌, inl, inr}
use Prim.Native.Nat.{ℕ, ◌^◌}
use lib.Bits.{bit_or}
use Rattle.bitset.specs.Bits.{bit, Sub, Disjoint, members, unions}
use Rattle.bitset.proofs.Laws.{bit_one, member_lt, union_one, union_of}
use Rattle.bitset.proofs.Members.{sub_of, sub_in, or_left_in, or_right_in, one_is, some_member, not_empty, apart_of, apart_out}
use Rattle.molecule.specs.Lists.{Bytes}
use Rattle.molecule.specs.Record.{bonds, end_a, end_b}
use Rattle.molecule.specs.Connected.{Touch, Own, Linked, here, step, Connected}
use Rattle.molecule.specs.Tree.{Joins}
use Rattle.molecule.proofs.Touching.{EndOf, ends_share, share_ends, touch_in, touch_has}
use Rattle.molecule.proofs.Components.{link_in, pair_cases}
use Rattle.canonize.specs.Isomorphism.{AtomOf, Isomorphism}

-- by a map of bonds, y is the image of x
pub record Carried (f : ℕ → ℕ) (x y : ℕ) : Type 0 where
  pub into : (i : ℕ) → bit x i ≡ 1 → bit y (f i) ≡ 1
  pub onto : (j : ℕ) → bit y j ≡ 1 → (i : ℕ) × (bit x i ≡ 1) × (f i ≡ j)

-- every set has one
unfoldable pub image : (ℕ → ℕ) → ℕ → ℕ
image f x = unions (λ i. 2 ^ f i) (members x)

pub image_carried : (f : ℕ → ℕ) (x : ℕ) → Carried f x (image f x)
unfolding image
image_carried f x = record {
  into = λ i m. union_one (λ i. 2 ^ f i) x i (f i) m (bit_one (f i));
  onto = λ j m. let w = union_of (λ i. 2 ^ f i) x j m in (w.0, w.1, sym (one_is (f w.0) j w.2));
}

module _ (r q : Bytes) (h k : ℕ) (o : Own q k) (w : Isomorphism r h q k) where
  -- the ends of a bond go to those of its image, and these come from them
  end_goes : (i v : ℕ) → bit h i ≡ 1 → EndOf r i v → EndOf q (w.bond i) (w.atom v)
  end_goes i v m e = go e (w.ends i m)
    where
      go : EndOf r i v → Joins q (w.bond i) (w.atom (end_a r i)) (w.atom (end_b r i)) → EndOf q (w.bond i) (w.atom v)
      go (inl e) (inl j) = inl (j.0 ∙ ap w.atom e)
      go (inl e) (inr j) = inr (j.1 ∙ ap w.atom e)
      go (inr e) (inl j) = inr (j.1 ∙ ap w.atom e)
      go (inr e) (inr j) = inl (j.0 ∙ ap w.atom e)

  end_comes : (i v : ℕ) → bit h i ≡ 1 → EndOf q (w.bond i) v → (u : ℕ) × EndOf r i u × (w.atom u ≡ v)
  end_comes i v m e = go e (w.ends i m)
    where
      go : EndOf q (w.bond i) v → Joins q (w.bond i) (w.atom (end_a r i)) (w.atom (end_b r i)) → (u : ℕ) × EndOf r i u × (w.atom u ≡ v)
      go (inl e) (inl j) = (end_a r i, inl refl, sym j.0 ∙ e)
      go (inl e) (inr j) = (end_b r i, inr refl, sym j.0 ∙ e)
      go (inr e) (inl j) = (end_b r i, inr refl, sym j.1 ∙ e)
      go (inr e) (inr j) = (end_a r i, inl refl, sym j.1 ∙ e)

  -- bonds that touch go to bonds that touch
  pub touch_goes : (b c : ℕ) → bit h b ≡ 1 → bit h c ≡ 1 → Touch r b c → Touch q (w.bond b) (w.bond c)
  touch_goes b c m n t =
      let z = touch_in r b c t in
      let (v, eb, ec) = share_ends r b c z.2 in
      touch_has q (w.bond b) (w.bond c) (λ e. z.0 (w.bond_one c b n m e)) (member_lt (bonds q) k (w.bond c) o (w.bond_into c n))
      (ends_share q (w.bond b) (w.bond c) (w.atom v) (end_goes b v m eb) (end_goes c v n ec))

  -- the image of two bonds is the two images
  pub pair_carried : (b c : ℕ) → Carried w.bond (bit_or (2 ^ b) (2 ^ c)) (bit_or (2 ^ w.bond b) (2 ^ w.bond c))
  pair_carried b c = record { into = into; onto = onto }
    where
      into : (i : ℕ) → bit (bit_or (2 ^ b) (2 ^ c)) i ≡ 1 → bit (bit_or (2 ^ w.bond b) (2 ^ w.bond c)) (w.bond i) ≡ 1
      into i m = go (pair_cases r b c i m)
        where
          go : (i ≡ b) ⊎ (i ≡ c) → bit (bit_or (2 ^ w.bond b) (2 ^ w.bond c)) (w.bond i) ≡ 1
          go (inl e) = rw e (or_left_in (2 ^ w.bond b) (2 ^ w.bond c) (w.bond b) (bit_one (w.bond b)))
          go (inr e) = rw e (or_right_in (2 ^ w.bond b) (2 ^ w.bond c) (w.bond c) (bit_one (w.bond c)))

      onto : (j : ℕ) → bit (bit_or (2 ^ w.bond b) (2 ^ w.bond c)) j ≡ 1 → (i : ℕ) × (bit (bit_or (2 ^ b) (2 ^ c)) i ≡ 1) × (w.bond i ≡ j)
      onto j m = go (pair_cases q (w.bond b) (w.bond c) j m)
        where
          go : (j ≡ w.bond b) ⊎ (j ≡ w.bond c) → (i : ℕ) × (bit (bit_or (2 ^ b) (2 ^ c)) i ≡ 1) × (w.bond i ≡ j)
          go (inl e) = (b, or_left_in (2 ^ b) (2 ^ c) b (bit_one b), sym e)
          go (inr e) = (c, or_right_in (2 ^ b) (2 ^ c) c (bit_one c), sym e)

  module _ (x y : ℕ) (p : Sub x h) (c : Carried w.bond x y) where
    wide : (i : ℕ) → bit x i ≡ 1 → bit h i ≡ 1
    wide = sub_in x h p

    pub carried_sub : Sub y k
    carried_sub = sub_of y k (λ j m. let (i, n, e) = c.onto j m in rw (← e) (w.bond_into i (wide i n)))

    -- disjoint parts have disjoint images: no bond is the image of two
    pub carried_apart : (x' y' : ℕ) → Sub x' h → Carried w.bond x' y' → Disjoint x x' → Disjoint y y'
    carried_apart x' y' p' c' d =
        apart_of y y'
        (λ j m m'.
        let (i, n, e) = c.onto j m in
        let (i', n', e') = c'.onto j m' in
        let g : i ≡ i' = w.bond_one i i' (wide i n) (sub_in x' h p' i' n') (e ∙ sym e') in
        apart_out x x' i' d (sym (ap (bit x) g) ∙ n) n')

    -- the isomorphism of the part and its image
    pub carried_iso : Isomorphism r x q y
    carried_iso = record {
      atom = w.atom;
      atom_into = λ v (i, m, e). (w.bond i, c.into i m, end_goes i v (wide i m) e);
      atom_onto = atom_onto;
      atom_one = λ u v (i, m, e) (j, n, f). w.atom_one u v (i, wide i m, e) (j, wide j n, f);
      bond = w.bond;
      bond_into = c.into;
      bond_onto = c.onto;
      bond_one = λ i j m n. w.bond_one i j (wide i m) (wide j n);
      elements = λ v (i, m, e). w.elements v (i, wide i m, e);
      classes = λ v (i, m, e). w.classes v (i, wide i m, e);
      codes = λ i m. w.codes i (wide i m);
      ends = λ i m. w.ends i (wide i m);
    }
      where
        atom_onto : (v : ℕ) → AtomOf q y v → (u : ℕ) × AtomOf r x u × (w.atom u ≡ v)
        atom_onto v (j, m, e) =
            let (i, n, f) = c.onto j m in
            let (u, d, g) = end_comes i v (wide i n) (rw f e) in
            (u, (i, n, d), g)

    link_goes : {a b : ℕ} → Linked r x a b → Linked q y (w.bond a) (w.bond b)
    link_goes {a} (here m) = here (c.into a m)
    link_goes (step {c = a} {d = b} l t m) = step (link_goes l) (touch_goes a b (wide a (link_in r l).1) (wide b m) t) (c.into b m)

    pub carried_connected : Connected r x → Connected q y
    carried_connected d = record {
      some = let (i, m) = some_member x d.some in not_empty y (w.bond i) (c.into i m);
      linked = λ a b m n. let (i, mi, ei) = c.onto a m in let (j, mj, ej) = c.onto b n in rw (← ei, ← ej) (link_goes (d.linked i j mi mj));
    }
