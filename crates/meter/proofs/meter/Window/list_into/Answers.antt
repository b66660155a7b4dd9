-- Each record goes behind those so far.
use Rattle.std.proofs.Common.{◌≡◌, ◌+◌, List, ◌++◌, length, take, drop, ◌∙◌, subst, arith}
use Rattle.frame.specs.Marked.{listed}
use Rattle.frame.specs.Marking.{flows}
use Rattle.meter.specs.declared.record.Record.{Record}
use Rattle.meter.specs.States.{estimate_in, listing}
use Rattle.meter.specs.Meters.{windowed}
use Rattle.meter.proofs.Listing.{list_all, write_some, write_none}
use Rattle.meter.proofs.meter.Window.list_into.Goals as goal
use Rattle.meter.proofs.meter.Window.list_into.Goals.{in-Some, in_default}

pub loop-place-preserved : goal.loop-place-preserved
loop-place-preserved g c =
    let m = g.C.FrameCounter.meaning in
    let x = c.args.self.now in
    let est = estimate_in m (windowed m c.args.counter.now x) x.layout.plan in
    let n = c.loop-place.place in
    let front = listing est c.args.level (flows (take n (listed x.marks))) in
    let next = listing est c.args.level (flows (take (n + 1) (listed x.marks))) in
    let inv = c.loop-place.invariant in
    elim c.match-record_at.branch [
      | in-Some w ↦
          (let step = write_some front next c.args.table.now c.loop-place.table c.loop-place.count inv.counted inv.written w.in-Some.record c.match-record_at.count c.match-record_at.table w.in-Some.ensures w.count-is (w.table-is ∙ w.write_at.ensures) in
          record { counted = step.0; written = step.1; few = omega (arith, w.count-is, inv.few) })
      | in_default w ↦
          (let step = write_none front next c.args.table.now c.loop-place.table c.loop-place.count inv.counted inv.written c.match-record_at.count c.match-record_at.table w.in_default.ensures w.count-is w.table-is in
          record { counted = step.0; written = step.1; few = omega (arith, w.count-is, inv.few) })
    ]

pub returns : goal.returns
returns g c =
    let m = g.C.FrameCounter.meaning in
    let x = c.args.self.now in
    let entry = c.args.table.now in
    let inv = c.loop-place.invariant in
    let all = list_all m c.args.counter.now x c.args.level c.loop-place.place (omega (arith, c.len-place-end.ensures.count, c.loop-place-test.false)) in
    let got = subst (λ (rs : List Record). (c.loop-place.count ≡ length rs) × (c.loop-place.table ≡ take (length entry) rs ++ drop c.loop-place.count entry)) all (inv.counted, inv.written) in
    record { count = got.0; table = got.1 }
