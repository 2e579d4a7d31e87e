-- Records with one graph have the same touching bonds, components and fragments. Assumes 64 bonds or fewer where components are listed.
use mathlib.Core.Path.{◌≡◌, sym, ap, ap₂, ◌∙◌, subst}
use mathlib.Core.Logic.{◌↔◌}
use Prim.Native.Nat.{ℕ, ◌^◌, ◌≤◌, ◌<◌}
use native.Mathlib.Omega.{arith}
use lib.Bits.{bit_or}
use Rattle.bitset.specs.Bits.{diff, set_of}
use Rattle.bitset.proofs.Laws.{member_lt}
use Rattle.bitset.proofs.Members.{set_of_same}
use Rattle.molecule.specs.Lists.{Bytes}
use Rattle.molecule.specs.Record.{bonds, end_a, end_b}
use Rattle.molecule.specs.Touch.{touching, bonds_at, is_end, around, components, connected}
use Rattle.molecule.specs.Connected.{Own, Connected}
use Rattle.molecule.specs.Graph.{SameGraph}
use Rattle.molecule.proofs.Growing.{around_same, parts_same, is_part_same}
use Rattle.molecule.proofs.Components.{own_word, connected_true, connected_is}

-- to have one graph goes both ways
pub graph_back : (r q : Bytes) → SameGraph r q → SameGraph q r
graph_back r q g = record {
  count = sym g.count;
  first_ends = λ i l. sym (g.first_ends i (omega (arith, g.count)));
  second_ends = λ i l. sym (g.second_ends i (omega (arith, g.count)));
}

module _ (r q : Bytes) (g : SameGraph r q) where
  bonds_at_alike : (v : ℕ) → bonds_at r v ≡ bonds_at q v
  unfolding bonds_at is_end
  bonds_at_alike v =
      set_of_same (is_end r v) (is_end q v) (bonds r) (λ i l. rw (g.first_ends i l, g.second_ends i l))
      ∙ ap (set_of (is_end q v)) g.count

  -- the same bonds touch a bond
  touching_alike : (i : ℕ) → i < bonds r → touching r i ≡ touching q i
  unfolding touching
  touching_alike i l =
      ap₂ (λ (s t : ℕ). diff (bit_or s t) (2 ^ i)) (bonds_at_alike (end_a r i) ∙ ap (bonds_at q) (g.first_ends i l))
      (bonds_at_alike (end_b r i) ∙ ap (bonds_at q) (g.second_ends i l))

  pub around_alike : (s : ℕ) → Own r s → around (touching r) s ≡ around (touching q) s
  around_alike s o = around_same (touching r) (touching q) s (λ i h. touching_alike i (member_lt (bonds r) s i o h))

  -- and they have the same sets of bonds
  pub own_alike : (s : ℕ) → Own r s ↔ Own q s
  own_alike s = (subst (λ (n : ℕ). s < 2 ^ n) g.count, subst (λ (n : ℕ). s < 2 ^ n) (sym g.count))

  module _ (few : bonds r ≤ 64) where
    -- so a set has the same components
    pub components_alike : (s : ℕ) → Own r s → components r s ≡ components q s
    unfolding components
    components_alike s o = parts_same (touching r) (touching q) s (own_word r few s o) (λ i h. touching_alike i (member_lt (bonds r) s i o h))

    connected_alike : (s : ℕ) → Own r s → connected r s ≡ connected q s
    unfolding connected
    connected_alike s o = is_part_same (touching r) (touching q) s (own_word r few s o) (λ i h. touching_alike i (member_lt (bonds r) s i o h))

    -- and is a fragment of both or of neither
    pub fragment_alike : (s : ℕ) → Own r s → Connected r s ↔ Connected q s
    fragment_alike s o =
        let few' : bonds q ≤ 64 = omega (arith, g.count) in
        let o' : Own q s = (own_alike s).0 o in
        let e : connected r s ≡ connected q s = connected_alike s o in
        (λ k. connected_true q few' s o' (sym e ∙ connected_is r few s o k), λ k. connected_true r few s o (e ∙ connected_is q few' s o' k))
