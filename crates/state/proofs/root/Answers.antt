-- The trees of two or more bonds are the big components of all bonds.
use Rattle.std.proofs.Common.{ap, length, arith}
use Rattle.bitset.specs.Bits.{size}
use Rattle.bitset.proofs.Laws.{size_first}
use Rattle.search.specs.State.{root}
use Rattle.state.proofs.Trees.{all_trees, all_pieces}
use Rattle.state.proofs.root.Goals as goal

pub push_big-requires : goal.push_big-requires
push_big-requires c = (omega arith, omega (arith, ap length c.new-pieces.ensures, ap size c.first_n-all.ensures, size_first c.args.n, c.requires))

pub returns : goal.returns
unfolding root
returns c = λ bytes ms e w.
    rw (c.push_big.ensures, c.new-pieces.ensures, c.tree_sizes-index.ensures.index, c.tree_sizes-index.ensures.largest, c.new.ensures, all_trees bytes c.requires c.first_n-all.ensures e w, all_pieces bytes c.requires c.first_n-all.ensures e w)
