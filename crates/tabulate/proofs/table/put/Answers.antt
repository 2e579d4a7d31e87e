-- Four words are stored.
use Rattle.std.proofs.Common.{◌≡◌, arith}
use Rattle.matches.specs.Inner.Written.{four_words}
use Rattle.tabulate.proofs.Writing.{words_put}
use Rattle.tabulate.proofs.table.put.Goals as goal

pub returns : goal.returns
returns c =
    let e : c.copy_from_slice.new.self ≡ four_words c.args.a c.args.b = cc in
    words_put _ _ _ (four_words c.args.a c.args.b) e (omega arith) (omega arith)
