-- The estimate by the rules is within the bounds.
use Rattle.std.proofs.Common.{◌≡◌, subst, rules}
use Rattle.flow.specs.Answers.{answered}
use Rattle.meter.specs.Guarantees.{EstimateRight}
use Rattle.meter.specs.Meters.{state_of}
use Rattle.meter.specs.States.{estimate_answer}
use Rattle.meter.proofs.Answering.{estimate_right}
use Rattle.meter.proofs.meter.Meter.estimate.Goals as goal

pub returns-clause-bounds : goal.returns-clause-bounds
returns-clause-bounds g c =
    let m = g.C.FrameCounter.meaning in
    let s = state_of m c.args.self.now in
    let k = g.K.FlowKey.coded c.args.key.now in
    let answer : estimate_answer m s k ≡ answered c.estimate.result = search rules in
    λ l h. subst (EstimateRight l.plan l.roll k) answer (estimate_right m s l k h)
