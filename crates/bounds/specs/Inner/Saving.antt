-- What T bonds save at most where fragments of size k are the largest removed, by counts alone.
use Rattle.std.specs.Prelude.{ℕ, ◌+◌, ◌-◌, ◌*◌, ◌/◌}
use Rattle.std.specs.Int.Bits.{bit_and}
use Rattle.bitset.specs.Bits.{size}
use Rattle.bounds.specs.Numbers.{ceil_div}
use Rattle.bounds.specs.Bounds.{usable_edges}

-- T bonds, R of them in fragments of size k, fall into at least this many parts: R / k of size k, the others of size k - 1 at most
unfoldable pub cost : ℕ → ℕ → ℕ → ℕ
cost k T R = R / k + ceil_div (T - k * (R / k)) (k - 1)

-- and so save at most this
unfoldable pub saving : ℕ → ℕ → ℕ → ℕ
saving k T R = T - R / k - ceil_div (T - k * (R / k)) (k - 1)

-- of piece p by the code's count, where W has the bonds in removable size-2 matches and F those in removable size-k matches
abbrev pub usable : ℕ → ℕ → ℕ → ℕ → ℕ
usable k W F p = usable_edges k (size (bit_and p W)) (size (bit_and p F))
