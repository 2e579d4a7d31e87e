-- The desk says what is true, and goes on doing so when it is written.
use Rattle.std.proofs.Common.{◌≡◌, ◌≢◌, ◌∙◌, ℕ, ◌+◌, ◌*◌, ◌≤◌, ◌<◌, List, length, get_or, set, arith}
use native.Mathlib.Decide.{ℕ_discrete}
use Rattle.std.proofs.lemmas.Grind.{common_steps}
use Rattle.molecule.specs.Lists.{Bytes}
use Rattle.canonize.specs.Strings.{hash}
use Rattle.canonize.specs.Label.{label}
use Rattle.canonize.specs.Inner.Slate.{Fragment}
use Rattle.desk.specs.Inner.Cached.{Stands, Cached}

-- a desk of zeros says nothing
pub cached_none : (r : Bytes) (desk : List ℕ) → 4096 ≤ length desk → ((i : ℕ) → get_or desk i 0 ≡ 0) → Cached r desk
cached_none r desk w z = record {
  wide = w;
  hashes = λ i h n. absurd (n (z (3 * i)));
  stands = λ i h n. absurd (n (z (3 * i)));
  kept = λ i h n. absurd (n (z (3072 + i)));
}

-- the hash of x and a set that stands for it are put into slot i
module _ {r : Bytes} {desk : List ℕ} (k : Cached r desk) (i : ℕ) (h : i < 1024) (x v y : ℕ) (q : v ≡ hash (label r x)) (s : Stands r x y) where
  abbrev now : List ℕ
  now = set (set (set desk (3 * i) x) (3 * i + 1) v) (3 * i + 2) y

  stands_of : (j : ℕ) → j < 1024 → get_or now (3 * j) 0 ≢ 0 → Dec (j ≡ i) → Stands r (get_or now (3 * j) 0) (get_or now (3 * j + 2) 0)
  stands_of j g n (yes d) =
      let a : get_or now (3 * i) 0 ≡ x = grind (arith, common_steps, k.wide) in
      let b : get_or now (3 * i + 2) 0 ≡ y = grind (arith, common_steps, k.wide) in
      rw (d, a, b) s
  stands_of j g n (no d) =
      let a : get_or now (3 * j) 0 ≡ get_or desk (3 * j) 0 = grind (arith, common_steps) in
      let b : get_or now (3 * j + 2) 0 ≡ get_or desk (3 * j + 2) 0 = grind (arith, common_steps) in
      rw (a, b) (k.stands j g (λ z. n (a ∙ z)))

  pub cached_put : Cached r now
  cached_put = record {
    wide = grind (arith, common_steps, k.wide);
    hashes = λ j g n. grind (arith, common_steps, k.hashes j g);
    stands = λ j g n. stands_of j g n (ℕ_discrete j i);
    kept = λ j g n. grind (arith, common_steps, k.kept j g);
  }

-- a fragment y is put as the set that the desk has for a hash
pub cached_kept : {r : Bytes} {desk : List ℕ} (k : Cached r desk) (i : ℕ) (h : i < 1024) (y : ℕ) (f : Fragment r y) → Cached r (set desk (3072 + i) y)
cached_kept {r} {desk} k i h y f = record {
  wide = grind (arith, common_steps, k.wide);
  hashes = λ j g n. grind (arith, common_steps, k.hashes j g);
  stands = λ j g n. grind (arith, common_steps, k.stands j g);
  kept = λ j g n. kept_of j g n (ℕ_discrete j i);
}
  where
    kept_of : (j : ℕ) → j < 1024 → get_or (set desk (3072 + i) y) (3072 + j) 0 ≢ 0 → Dec (j ≡ i) → Fragment r (get_or (set desk (3072 + i) y) (3072 + j) 0)
    kept_of j g n (yes d) = let a : get_or (set desk (3072 + i) y) (3072 + i) 0 ≡ y = grind (arith, common_steps, k.wide) in rw (d, a) f
    kept_of j g n (no d) =
        let a : get_or (set desk (3072 + i) y) (3072 + j) 0 ≡ get_or desk (3072 + j) 0 = grind (arith, common_steps) in
        rw a (k.kept j g (λ z. n (a ∙ z)))
