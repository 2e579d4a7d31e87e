-- Document 02, 4/14, components by rounds: one round, and the statement of walks of at most so many steps. The graph is near, as in Touch.
use Rattle.std.specs.Prelude.{◌≡◌, ◌↔◌, ℕ, suc, ◌≤◌}
use Rattle.std.specs.Int.Bits.{bit_and, bit_or}
use Rattle.bitset.specs.Bits.{bit}
use Rattle.molecule.specs.Touch.{around}

module _ (near : ℕ → ℕ) (s : ℕ) where
  -- one round: the part reached, and every bond of s that touches it, added together
  abbrev pub grow_round : ℕ → ℕ
  grow_round part = bit_or part (bit_and s (around near part))

  -- k steps lead from bond b to a bond, each to a bond of s next to the one before; b itself is 0 steps away
  pub data StepsTo (b : ℕ) : ℕ → ℕ → Type 0 where
    no_step : StepsTo b 0 b
    one_step : {k x y : ℕ} → StepsTo b k x → bit (near x) y ≡ 1 → bit s y ≡ 1 → StepsTo b (suc k) y

  -- at most k steps do
  abbrev pub WithinSteps : ℕ → ℕ → ℕ → Type 0
  WithinSteps b k x = (j : ℕ) × (j ≤ k) × StepsTo b j x

  -- what is promised of the part after k rounds from the bonds of c: it is exactly the bonds that at most k steps reach from one of them
  abbrev pub AfterRounds : ℕ → ℕ → ℕ → Type 0
  AfterRounds c k part = (x : ℕ) → (bit part x ≡ 1) ↔ ((b : ℕ) × (bit c b ≡ 1) × WithinSteps b k x)
