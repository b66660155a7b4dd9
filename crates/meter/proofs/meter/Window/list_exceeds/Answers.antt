-- A list has no more records than there are marks.
use Rattle.std.proofs.Common.{length, ap, arith}
use Rattle.std.proofs.lemmas.Bool.Decides.{nat_tests}
use Rattle.std.proofs.lemmas.List.{take-append-drop}
use Rattle.meter.specs.Meters.{windowed}
use Rattle.meter.proofs.Answering.{list_few}
use Rattle.meter.proofs.meter.Window.list_exceeds.Goals as goal

pub returns-else-room-len : goal.returns-else-room-len
returns-else-room-len g c =
    let m = g.C.FrameCounter.meaning in
    let x = c.args.self.now in
    let few = list_few m (windowed m c.args.counter.now x) x.layout.plan c.args.level in
    let all = ap length (take-append-drop x.marks.previous x.marks.marks.items) in
    grind (arith, nat_tests, few, all)
