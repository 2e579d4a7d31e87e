-- Putting a connected set together from parts: `join_up`, `assemble` and `grown` make lawful joins, as many as there are parts to add, and the last union is the whole set.
-- Assumes nothing; where a piece is grown bond by bond, 64 bonds or fewer.
use mathlib.Core.Path.{◌≡◌, refl, sym, ap, subst, ◌∙◌}
use mathlib.Core.Bool.{true}
use mathlib.Core.Logic.{◌⊎◌, inl, inr, ◌≢◌}
use mathlib.Core.List.Memᴰ.{head as m_head}
use mathlib.Core.List.Memᴰ.{of_map as mem_of_map}
use mathlib.Core.List.Memᴰ.{tail as m_tail}
use mathlib.Core.List.{List, [], ◌∷◌, ◌++◌, map, Memᴰ as Mem}
use Prim.Native.Nat.{ℕ, zero, suc, ◌+◌, ◌^◌, ◌≤◌, ◌<◌}
use native.Mathlib.Omega.{arith}
use lib.Bits.{bit_or}
use lib.ListN.{length, get_or, take, drop, length-map}
use Rattle.bitset.specs.Bits.{Sub, diff, size, members, low}
use Rattle.bitset.proofs.Laws.{size_one, sub_trans, members_size, diff_diff}
use Rattle.bitset.proofs.Members.{diff_sub}
use Rattle.bitset.proofs.Decide.{sets, v, less, or, none, is, sub}
use Rattle.molecule.specs.Lists.{Bytes, first}
use Rattle.molecule.specs.Record.{bonds}
use Rattle.molecule.specs.Connected.{Own, Connected}
use Rattle.molecule.proofs.Lists.{mem_at}
use Rattle.molecule.proofs.Components.{own_sub, own_word}
use Rattle.search.specs.Pathway.{Join, union, meets, join_up, assemble, grown}
use Rattle.search.specs.Inner.Joining.{Cover, Picks, after, Ready, EndsWith, Built, Parts}
use Rattle.search.proofs.Covers.{cover_pick, pick_mem, pick_within, pick_length, at_pick, singles_cover, low_sub, low_less, less_self, sub_none, apart_swap, less_apart}
use Rattle.search.proofs.Tests.{first_finds, ready_more}
use Rattle.search.proofs.Fragments.{single_connected, union_connected, part_meets}

-- ---- sets

-- where nothing is left, the part is the whole
less_all : (p s : ℕ) → Sub s p → diff p s ≡ 0 → s ≡ p
less_all p s = sets (sub (v 1) (v 0) ∷ is (less (v 0) (v 1)) none ∷ []) (is (v 1) (v 0)) (p ∷ s ∷ []) tt

-- a part and what is joined to it are a part
both_sub : (p s x : ℕ) → Sub s p → Sub x (diff p s) → Sub (bit_or s x) p
both_sub p s x = sets (sub (v 1) (v 0) ∷ sub (v 2) (less (v 0) (v 1)) ∷ []) (sub (or (v 1) (v 2)) (v 0)) (p ∷ s ∷ x ∷ []) tt

module _ (r : Bytes) where
  -- ---- how many joins: one for each part that is added

  pub join_up_length : (f s : ℕ) (parts : List ℕ) → length (join_up r f s parts) ≡ f
  unfolding join_up
  join_up_length zero s parts = refl
  join_up_length (suc f) s parts =
      let k : ℕ = first (λ i. meets r s (get_or parts i 0)) (length parts) in
      ap suc (join_up_length f (bit_or s (get_or parts k 0)) (take k parts ++ drop (suc k) parts))

  pub assemble_length : (s : ℕ) (parts : List ℕ) → length (assemble r s parts) ≡ length parts
  unfolding assemble
  assemble_length s parts = join_up_length (length parts) s parts

  -- a piece that is grown takes one join less than it has bonds
  pub grown_length : (p : ℕ) → 0 < p → p < 2 ^ 64 → length (grown r p) + 1 ≡ size p
  unfolding grown
  grown_length p h l =
      let q : ℕ = diff p (2 ^ low p) in
      omega (arith, assemble_length (2 ^ low p) (map (λ b. 2 ^ b) (members q)), length-map (members q) (λ b. 2 ^ b), members_size q 0, low_less p h l)

  -- ---- joins that put p together from s on

  -- where s was ready before, p is ready after
  pub built_ready : (made : List ℕ) (js : List Join) (s p : ℕ) → Built r made js s p → Ready r made s → Ready r (after made js) p
  built_ready made js s p b h = go b.ends
    where
      go : ((after made js ≡ made) × (s ≡ p)) ⊎ EndsWith r made js p → Ready r (after made js) p
      go (inl e) = subst (λ (k : List ℕ). Ready r k p) (sym e.0) (subst (Ready r made) e.1 h)
      go (inr e) = inr (p, subst (Mem p) (sym e.1) (m_head refl), refl)

  -- some part has an atom in common with s, so the first such one is found
  finds : (p s x : ℕ) (parts : List ℕ) → Connected r p → Sub s p → Connected r s → Connected r x → Cover (diff p s) (x ∷ parts)
      → (first (λ i. meets r s (get_or (x ∷ parts) i 0)) (length (x ∷ parts)) < length (x ∷ parts))
      × (meets r s (get_or (x ∷ parts) (first (λ i. meets r s (get_or (x ∷ parts) i 0)) (length (x ∷ parts))) 0) ≡ true)
  finds p s x parts kp hs ks kx c =
      let other : s ≢ p = λ e. kx.some (sub_none x (subst (Sub x) (ap (diff p) e ∙ less_self p) c.0)) in
      let w = part_meets r p s (x ∷ parts) kp hs ks.some other c in
      let i = mem_at 0 w.1 in
      first_finds (λ i. meets r s (get_or (x ∷ parts) i 0)) (length (x ∷ parts)) i.0 i.1 (ap (meets r s) i.2 ∙ w.2)

  -- from s on, the parts of the rest of p are joined one by one: each time one has an atom in common with what is there, since p is connected
  pub join_up_builds : (f s : ℕ) (parts made : List ℕ) (p : ℕ) → length parts ≡ f → Own r p → Connected r p → Sub s p → Connected r s → Ready r made s
      → Cover (diff p s) parts → Parts r made parts → Built r made (join_up r f s parts) s p
  unfolding join_up union
  join_up_builds zero s [] made p q o kp hs ks rs c g = record { lawful = tt; ends = inl (refl, less_all p s hs c) }
  join_up_builds zero s (x ∷ parts) made p q o kp hs ks rs c g = absurd (omega arith)
  join_up_builds (suc f) s [] made p q o kp hs ks rs c g = absurd (omega arith)
  join_up_builds (suc f) s (x ∷ parts) made p q o kp hs ks rs c g =
      let w = finds p s x parts kp hs ks (g x (m_head refl)).0 c in
      let k : ℕ = first (λ i. meets r s (get_or (x ∷ parts) i 0)) (length (x ∷ parts)) in
      let y : ℕ = get_or (x ∷ parts) k 0 in
      let l : List ℕ = take k (x ∷ parts) ++ drop (suc k) (x ∷ parts) in
      let pk : Picks y (x ∷ parts) l = at_pick k (x ∷ parts) w.0 in
      let c' = cover_pick y (diff p s) pk c in
      let gy = g y (pick_mem y pk) in
      let hu : Sub (bit_or s y) p = both_sub p s y hs c'.0 in
      let ih : Built r (bit_or s y ∷ made) (join_up r f (bit_or s y) l) (bit_or s y) p =
      join_up_builds f (bit_or s y) l (bit_or s y ∷ made) p (omega (arith, pick_length y pk)) o kp hu
      (union_connected r s y (own_sub r (bit_or s y) p hu o) ks gy.0 w.1) (inr (bit_or s y, m_head refl, refl))
      (subst (λ (a : ℕ). Cover a l) (diff_diff p s y) c'.1)
      (λ z m. let h = g z (pick_within y pk z m) in (h.0, ready_more r made (bit_or s y ∷ made) z (λ a n. m_tail n) h.1)) in
      record {
        lawful = (
          record {
            left_own = own_sub r s p hs o;
            right_own = own_sub r y p (sub_trans y (diff p s) p c'.0 (diff_sub p s)) o;
            left_connected = ks;
            right_connected = gy.0;
            apart = apart_swap y s (less_apart p y s c'.0);
            meet = w.1;
            left_ready = rs;
            right_ready = gy.1;
          },
          ih.lawful,
        );
        ends = inr (last made (bit_or s y) p (after (bit_or s y ∷ made) (join_up r f (bit_or s y) l)) ih.ends);
      }
    where
      last : (made : List ℕ) (t p : ℕ) (a : List ℕ) → ((a ≡ t ∷ made) × (t ≡ p)) ⊎ ((rest : List ℕ) × (a ≡ p ∷ rest)) → (rest : List ℕ) × (a ≡ p ∷ rest)
      last made t p a (inl e) = (made, e.0 ∙ ap {B = List ℕ} (λ (k : ℕ). k ∷ made) e.1)
      last made t p a (inr e) = e

  -- the same for all parts
  pub assemble_builds : (s : ℕ) (parts made : List ℕ) (p : ℕ) → Own r p → Connected r p → Sub s p → Connected r s → Ready r made s
      → Cover (diff p s) parts → Parts r made parts → Built r made (assemble r s parts) s p
  unfolding assemble
  assemble_builds s parts made p = join_up_builds (length parts) s parts made p refl

  -- ---- a piece grown bond by bond: its single bonds are the parts

  pub grown_builds : (few : bonds r ≤ 64) (made : List ℕ) (p : ℕ) → Own r p → Connected r p → Built r made (grown r p) (2 ^ low p) p
  unfolding grown
  grown_builds few made p o k =
      let l : p < 2 ^ 64 = own_word r few p o in
      let some : p ≢ 0 = k.some in
      let q : ℕ = diff p (2 ^ low p) in
      let h : Sub (2 ^ low p) p = low_sub p (omega arith) l in
      let c : Cover q (map (λ b. 2 ^ b) (members q)) = singles_cover q (own_word r few q (own_sub r q p (diff_sub p (2 ^ low p)) o)) in
      assemble_builds (2 ^ low p) (map (λ b. 2 ^ b) (members q)) made p o k h (single_connected r (low p)) (inl (size_one (low p))) c
      (λ x m. let b = mem_of_map (λ b. 2 ^ b) (members q) m in subst (λ (z : ℕ). Connected r z × Ready r made z) b.2 (single_connected r b.0, inl (size_one b.0)))
