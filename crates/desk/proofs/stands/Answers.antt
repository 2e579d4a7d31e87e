-- The desk that has x's slot filled still says what is true.
use Rattle.desk.proofs.Caching.{cached_put}
use Rattle.desk.proofs.stands.Goals as goal

pub returns-clause-cached : goal.returns-clause-cached
returns-clause-cached c =
    let e = c.learn-known.ensures in
    cached_put e.cached c.slot-i.result c.slot-i.ensures c.args.x _ _ e.known.0 e.known.1
