-- The sizes of the components of a set, met one by one, and the root from the words of a record. Assumes nothing.
use mathlib.Core.Path.{◌≡◌, sym, ap, ◌∙◌}
use mathlib.Core.Logic.{◌≢◌}
use mathlib.Core.List.Memᴰ.{not-nil}
use mathlib.Core.List.{List, [], ◌∷◌}
use Prim.Native.Nat.{ℕ, ◌+◌, ◌-◌, ◌^◌, ◌≤◌, ◌<◌, max}
use native.Mathlib.Omega.{arith}
use native.Mathlib.Nat.{lt_of_not-le}
use lib.Pow.{pow_pos}
use Rattle.bitset.specs.Bits.{size, diff, Lowest}
use Rattle.bitset.proofs.Laws.{size_le, size_zero}
use Rattle.molecule.specs.Lists.{Bytes}
use Rattle.molecule.specs.Record.{bonds, all_bonds}
use Rattle.molecule.specs.Connected.{Own}
use Rattle.molecule.specs.Touch.{parts, reach, touching_words}
use Rattle.molecule.proofs.Growing.{lead, rest, rest_word, rest_less, parts_none, parts_step}
use Rattle.molecule.proofs.Components.{components_words}
use Rattle.bounds.specs.Numbers.{sum_of, max_of}
use Rattle.search.specs.State.{bond_trees, root_pieces}
use Rattle.state.specs.Inner.Pieces.{big_parts}
use Rattle.state.proofs.Pieces.{near, big_words, lead_some, rest_size}

-- the bonds less one of a component
abbrev pub less_one : ℕ → ℕ
less_one t = size t - 1

-- the components that were met have so many bonds less one together, the largest of them so many bonds, and the others are what is left of s
pub record Met (touch : List ℕ) (s left index largest : ℕ) : Type 0 where
  pub word : left < 2 ^ 64
  pub few : index + size left ≤ 64
  pub sum : index + sum_of less_one (parts (near touch) left) ≡ sum_of less_one (parts (near touch) s)
  pub most : max largest (max_of size (parts (near touch) left)) ≡ max_of size (parts (near touch) s)

pub met_start : (touch : List ℕ) (s : ℕ) → s < 2 ^ 64 → Met touch s s 0 0
met_start touch s w = record { word = w; few = omega (arith, size_le 64 s w); sum = omega arith; most = omega arith }

module _ {touch : List ℕ} {s left index largest : ℕ} (m : Met touch s left index largest) where
  -- the component t of the lowest bond i of what is left
  module _ (some : left ≢ 0) {i t : ℕ} (low : Lowest left i) (leads : t ≡ reach (near touch) left (2 ^ i)) where
    is_lead : t ≡ lead (near touch) left
    is_lead = rw (leads, low.is)

    step : parts (near touch) left ≡ lead (near touch) left ∷ parts (near touch) (rest (near touch) left)
    step = parts_step (near touch) left some m.word

    pub met_some : 1 ≤ size t
    met_some = lt_of_not-le (λ l. omega (arith, lead_some touch left, is_lead, size_zero t (omega arith)))

    pub met_room : index + size t ≤ 64
    met_room = omega (arith, m.few, rest_size touch left some m.word, ap size is_lead)

    -- d is left then
    module _ {d : ℕ} (rests : d ≡ diff left t) where
      is_rest : d ≡ rest (near touch) left
      is_rest = rw (rests, is_lead)

      pub met_less : size d < size left
      met_less = rw is_rest (rest_less (near touch) left some m.word)

      pub met_next : Met touch s d (index + (size t - 1)) (max largest (size t))
      met_next = rw (is_rest, is_lead) (record {
        word = rest_word (near touch) left m.word;
        few = omega (arith, m.few, rest_size touch left some m.word);
        sum = omega (arith, m.sum, ap (sum_of less_one) step);
        most = omega (arith, m.most, ap (max_of size) step);
      })

  pub met_sum : left ≡ 0 → index ≡ sum_of less_one (parts (near touch) s)
  met_sum e = omega (arith, m.sum, ap (sum_of less_one) (ap (parts (near touch)) e ∙ parts_none (near touch)))

  pub met_most : left ≡ 0 → largest ≡ max_of size (parts (near touch) s)
  met_most e = omega (arith, m.most, ap (max_of size) (ap (parts (near touch)) e ∙ parts_none (near touch)))

-- all bonds, from the words of the record
module _ (bytes : Bytes) {touch : List ℕ} {n all : ℕ} (few : n ≤ 64) (a : all ≡ 2 ^ n - 1) (e : bonds bytes ≡ n) (w : touch ≡ touching_words bytes) where
  is_all : all ≡ all_bonds bytes
  is_all = a ∙ ap (λ (k : ℕ). 2 ^ k - 1) (sym e)

  own : Own bytes (all_bonds bytes)
  own = omega (arith, pow_pos (bonds bytes))

  pub all_trees : parts (near touch) all ≡ bond_trees bytes
  all_trees = rw (is_all, w) (components_words bytes (omega arith) (all_bonds bytes) own)

  pub all_pieces : big_parts touch all ≡ root_pieces bytes
  all_pieces = ap (big_parts touch) is_all ∙ big_words bytes touch [] (all_bonds bytes) (record { few = omega arith; words = w; own = λ p m. absurd (not-nil m) }) own
