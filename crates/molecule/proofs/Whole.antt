-- Walks over atoms are links of bonds; so all bonds of one tree are connected, where it has a bond. Assumes nothing else.
use mathlib.Core.Path.{◌≡◌, refl, sym, ap, subst}
use mathlib.Core.Logic.{inl}
use Prim.Native.Nat.{ℕ, ◌+◌, ◌-◌, ◌^◌, ◌≤◌}
use native.Mathlib.Omega.{arith}
use native.Mathlib.Decide.{ℕ_discrete}
use lib.Pow.{pow_pos}
use Rattle.bitset.specs.Bits.{bit, diff, size}
use Rattle.bitset.proofs.Laws.{bit_first, bit_empty, bit_other, member_lt, size_remove, size_zero}
use Rattle.bitset.proofs.Members.{diff_in, not_empty}
use Rattle.molecule.specs.Lists.{Bytes}
use Rattle.molecule.specs.Record.{atoms, bonds, end_a, all_bonds}
use Rattle.molecule.specs.Check.{accepted, check}
use Rattle.molecule.specs.Connected.{Own, Linked, here, step, Connected}
use Rattle.molecule.specs.Tree.{Walk, stay, along, Forest, Trees, OneTree}
use Rattle.molecule.proofs.Touching.{EndOf, Share, ends_share, touch_has}
use Rattle.molecule.proofs.Components.{link_join}
use Rattle.molecule.proofs.Walks.{joins_sym, joins_end, walk_join, walk_sym}
use Rattle.molecule.proofs.Accepted.{accepted_forest}
use Rattle.molecule.proofs.Counting.{forest_roots}

-- two members of a set of one are the same
single_member : (s x y : ℕ) → size s ≡ 1 → bit s x ≡ 1 → bit s y ≡ 1 → x ≡ y
single_member s x y e hx hy = go (ℕ_discrete y x)
  where
    z : diff s (2 ^ x) ≡ 0
    z = size_zero (diff s (2 ^ x)) (omega (arith, size_remove s x hx))

    go : Dec (y ≡ x) → x ≡ y
    go (yes q) = sym q
    go (no n) = absurd (omega (arith, diff_in s (2 ^ x) y hy (bit_other x y n), bit_empty y, ap (λ (t : ℕ). bit t y) z))

module _ (r : Bytes) where
  -- two bonds of a set that share an atom are linked in it
  pub share_link : (s i j : ℕ) → Own r s → bit s i ≡ 1 → bit s j ≡ 1 → Share r i j → Linked r s i j
  share_link s i j o hi hj h = go (ℕ_discrete j i)
    where
      go : Dec (j ≡ i) → Linked r s i j
      go (yes e) = rw e (here hi)
      go (no n) = step (here hi) (touch_has r i j n (member_lt (bonds r) s j o hj) h) hj

  -- the bonds at the two ends of a walk are linked: each bond of the walk shares an atom with the one before it
  walk_links : (s : ℕ) → Own r s → {u v : ℕ} → Walk r s u v → (b c : ℕ) → bit s b ≡ 1 → bit s c ≡ 1 → EndOf r b u → EndOf r c v → Linked r s b c
  walk_links s o {u} stay b c hb hc e f = share_link s b c o hb hc (ends_share r b c u e f)
  walk_links s o (along {v = x} {w = y} i p hi j) b c hb hc e f =
      link_join r (walk_links s o p b i hb hi e (joins_end r i x y j)) (share_link s i c o hi hc (ends_share r i c y (joins_end r i y x (joins_sym r i x y j)) f))

  -- of n + 1 atoms one is the lowest of its tree, and so all are in one tree
  pub one_tree : Forest r → atoms r ≡ bonds r + 1 → OneTree r
  one_tree t e = record {
    forest = t;
    count = e;
    all = λ v l. go v (w.root 0 (omega arith)) (w.root v l);
  }
    where
      w : Trees r (atoms r - bonds r)
      w = forest_roots r t

      go : (v : ℕ) → (t : ℕ) × (bit w.roots t ≡ 1) × Walk r (all_bonds r) t 0 → (t : ℕ) × (bit w.roots t ≡ 1) × Walk r (all_bonds r) t v → Walk r (all_bonds r) 0 v
      go v (x, hx, p) (y, hy, q) =
          let e : x ≡ y = single_member w.roots x y (omega (arith, w.count)) hx hy in
          walk_join r (walk_sym r p) (subst (λ (z : ℕ). Walk r (all_bonds r) z v) (sym e) q)

  pub accepted_tree : check r ≡ accepted → atoms r ≡ bonds r + 1 → OneTree r
  accepted_tree ok e = one_tree (accepted_forest r ok) e

  -- all bonds of one tree are connected, where there are any: from an end of the one bond back to atom 0, and on to an end of the other
  pub all_connected : check r ≡ accepted → atoms r ≡ bonds r + 1 → 1 ≤ bonds r → Connected r (all_bonds r)
  all_connected ok e one = record {
    some = not_empty a 0 (bit_first (bonds r) 0 (omega arith));
    linked = λ b c hb hc. walk_links a own (walk_join r (walk_sym r (to b hb)) (to c hc)) b c hb hc (inl refl) (inl refl);
  }
    where
      a : ℕ
      a = all_bonds r

      t : OneTree r
      t = accepted_tree ok e

      own : Own r a
      own = omega (arith, pow_pos (bonds r))

      to : (b : ℕ) → bit a b ≡ 1 → Walk r a 0 (end_a r b)
      to b h = t.all (end_a r b) (t.forest.formed.ends b (member_lt (bonds r) a b own h)).0
