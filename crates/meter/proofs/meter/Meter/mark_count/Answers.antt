-- The marks of both frames are fewer than the places.
use Rattle.std.proofs.Common.{◌≡◌, ◌++◌, length, arith}
use Rattle.std.proofs.lemmas.Grind.{common_steps}
use Rattle.meter.specs.Meters.{state_of}
use Rattle.meter.proofs.Calling.{few_marks}
use Rattle.meter.proofs.meter.Meter.mark_count.Goals as goal

pub returns-clause-few : goal.returns-clause-few
returns-clause-few g c =
    let m = g.C.FrameCounter.meaning in
    let s = state_of m c.args.self.now in
    let count : c.map_or.result ≡ length (s.older ++ s.newer) = grind (arith, common_steps) in
    λ l h. few_marks m g.met.C.FrameCounter.heavy s l h c.map_or.result count
