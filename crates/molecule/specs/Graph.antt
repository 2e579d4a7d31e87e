-- Two records with one graph of bonds, whatever else their bytes are.
use Rattle.std.specs.Prelude.{◌≡◌, ℕ, ◌<◌}
use Rattle.molecule.specs.Lists.{Bytes}
use Rattle.molecule.specs.Record.{bonds, end_a, end_b}

pub record SameGraph (r q : Bytes) : Type 0 where
  -- q has as many bonds as r
  pub count : bonds r ≡ bonds q
  -- each bond has the same two ends
  pub first_ends : (i : ℕ) → i < bonds r → end_a r i ≡ end_a q i
  pub second_ends : (i : ℕ) → i < bonds r → end_b r i ≡ end_b q i
