-- Values by computing, and one removal from four bonds in a row. Assumes nothing.
use mathlib.Core.Path.{◌≡◌, refl}
use mathlib.Core.List.Memᴰ
use mathlib.Core.List.Permᴰ
use mathlib.Core.List.{[], ◌∷◌, map, flatten}
use Prim.Native.Nat.{ℕ, ◌≤◌}
use lib.Dec.{lit≤}
use lib.ListN.{get_or}
use Rattle.bitset.specs.Bits.{size, diff}
use Rattle.molecule.specs.Lists.{first_from, numbers_from}
use Rattle.bounds.specs.Numbers.{ceil_log2}
use Rattle.bounds.specs.Bounds.{usable_edges, int_term, int_bound, usable_edges_bound, left_out, least_size}
use Rattle.bounds.specs.Inner.Saving.{saving}
use Rattle.bounds.specs.Inner.Removals.{Step, savings}
use Rattle.bounds.specs.Inner.Removals.Series.{done, next}
use Rattle.bounds.proofs.ChainLaws.{log_bound}
use Rattle.bounds.proofs.Steps.{step_of}
use Rattle.bounds.proofs.Bounds.{int_bounds}

logs : map ceil_log2 (0 ∷ 1 ∷ 2 ∷ 3 ∷ 4 ∷ 5 ∷ 8 ∷ 9 ∷ 64 ∷ 65 ∷ []) ≡ 0 ∷ 0 ∷ 1 ∷ 2 ∷ 2 ∷ 3 ∷ 3 ∷ 4 ∷ 6 ∷ 7 ∷ []
unfolding ceil_log2 first_from
logs = refl

-- seven bonds, six of them in fragments of size 3: two of these and one bond
seven : saving 3 7 6 ≡ 4
unfolding saving
seven = refl

-- a piece of 4 bonds, removals of at most 1, 2, 3 and 4
int_values : map (int_bound ceil_log2 (15 ∷ [])) (1 ∷ 2 ∷ 3 ∷ 4 ∷ []) ≡ 0 ∷ 1 ∷ 1 ∷ 1 ∷ []
unfolding int_bound int_term numbers_from ceil_log2 first_from size
int_values = refl

-- pieces of 3 and 2 bonds
int_two : int_bound ceil_log2 (7 ∷ 24 ∷ []) 3 ≡ 1
unfolding int_bound int_term numbers_from ceil_log2 first_from size
int_two = refl

-- the seven bonds again, less ceiling log2 of 3
usable_value : usable_edges_bound ceil_log2 127 63 (127 ∷ []) 3 ≡ 2
unfolding usable_edges_bound usable_edges ceil_log2 first_from size
usable_value = refl

-- a piece of nine bonds, all in matches of size 2 and of size 3, where the best index is 4. At index 7 size 2 is left out, at index 8 both are
least : map (λ (i : ℕ). least_size ceil_log2 (λ k. get_or (0 ∷ 0 ∷ 511 ∷ 511 ∷ []) k 0) (511 ∷ []) i 4 3) (6 ∷ 7 ∷ 8 ∷ []) ≡ 2 ∷ 3 ∷ 4 ∷ []
unfolding least_size left_out usable_edges_bound usable_edges ceil_log2 first_from size
least = refl

-- the two halves of a row of four match: one of them is left
halves : Step (15 ∷ []) (record { first = 12; second = 3 }) (12 ∷ [])
unfolding size diff flatten
halves =
    step_of (15 ∷ []) 12 3 ([] ∷ []) (12 ∷ []) (λ q i. elim i [ ], tt) (15, Memᴰ.head refl, refl) (15, Memᴰ.head refl, refl) refl (lit≤ tt) refl (refl, tt) (Permᴰ.refl (12 ∷ []))

-- and that saves 1, which is all that Int allows
halves_save : savings (record { first = 12; second = 3 } ∷ []) ≤ int_bound ceil_log2 (15 ∷ []) 4
unfolding size
halves_save = int_bounds ceil_log2 log_bound 4 (next halves done) (lit≤ tt, tt)
