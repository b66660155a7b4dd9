use Rattle.std.proofs.Common.{length, arith}
use Rattle.shared.specs.Laws.{estimate_within}
use Rattle.shared.proofs.counter.calls.SharedDeductionFrameCounter.estimate.Goals as goal

pub overflow_add-result : goal.overflow_add-result
overflow_add-result c =
    let x = c.args.self.now in
    omega (arith, c.count.ensures, estimate_within c.args.code x.places.items (length x.places.items) x.tally.volume x.deduction x.sum, x.tally.few, x.tally.light)
