-- A flow that has its first mark here adds its record, if its estimate is high enough.
use Rattle.std.proofs.Common.{◌+◌, take}
use Rattle.frame.specs.Marked.{listed}
use Rattle.frame.specs.Marking.{flows}
use Rattle.meter.specs.States.{estimate_in}
use Rattle.meter.specs.Meters.{windowed}
use Rattle.meter.proofs.Listing.{list_old, list_next}
use Rattle.meter.proofs.meter.Window.record_at.Goals as goal

pub returns : goal.returns
returns g c =
    let m = g.C.FrameCounter.meaning in
    let x = c.args.self.now in
    let est = estimate_in m (windowed m c.args.counter.now x) x.layout.plan in
    list_next est c.args.level (flows (take c.args.place (listed x.marks))) (flows (take (c.args.place + 1) (listed x.marks))) c.flow_at.result c.flow_at.ensures c.in_ok-code.code c.estimate-estimate.result c.then_some.result c.in_ok-code.was c.estimate-estimate.ensures c.then_some.ensures

pub returns-in_err-code : goal.returns-in_err-code
returns-in_err-code g c =
    let m = g.C.FrameCounter.meaning in
    let x = c.args.self.now in
    let est = estimate_in m (windowed m c.args.counter.now x) x.layout.plan in
    list_old est c.args.level (flows (take c.args.place (listed x.marks))) (flows (take (c.args.place + 1) (listed x.marks))) c.flow_at.result c.flow_at.ensures c.from_residual.result c.in_err-code.was c.from_residual.ensures
