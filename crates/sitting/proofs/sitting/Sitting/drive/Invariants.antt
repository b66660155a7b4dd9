use Rattle.std.proofs.Common.{[], ◌-◌}
use Rattle.meter.specs.Holding.{Holds}
use Rattle.meter.specs.Ledgers.{Ledger}
use Rattle.sitting.specs.Tapes.{most_turns}
use Rattle.sitting.specs.Sittings.{course_of}
use Rattle.sitting.proofs.Driving.{stand, OnItsWay}
use Rattle.sitting.proofs.sitting.Sitting.drive.Given as goal

abbrev pub invariant-loop : goal.invariant-loop
invariant-loop g l =
    let m = g.C.FrameCounter.meaning in
    let first = stand m l.fn.self [] l.fn.text l.fn.scratch l.fn.table in
    let now = stand m l.self l.lines.items l.text l.scratch l.table in
    (e : Ledger) → Holds m (course_of m l.fn.self).meter e →
    OnItsWay m g.K.FlowKey.spelled g.K.FlowKey.BYTES g.K.TapeKind.NUMBER g.C.TapeKind.NUMBER l.fn.tape first (most_turns - l.counter) now
