use Rattle.std.proofs.Common.{arith}
use Rattle.semi.proofs.Kept.{start_fits}
use Rattle.semi.proofs.counter.calls.SemiOrderedFrameCounter.estimate.Goals as goal

pub worth-requires : goal.worth-requires
worth-requires c = rw c.sizes.ensures (omega (arith, start_fits c.args.self.now c.args.code c.start.result c.start.ensures))
