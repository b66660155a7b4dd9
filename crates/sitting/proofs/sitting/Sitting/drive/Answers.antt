use Rattle.std.proofs.Common.{[], ◌+◌, ◌-◌, refl, arith}
use Rattle.sitting.specs.Tapes.{most_turns}
use Rattle.sitting.proofs.Driving.{stand, drives, way_ends, way_over, way_goes_on}
use Rattle.sitting.proofs.sitting.Sitting.drive.Goals as goal

pub returns-in_default : goal.returns-in_default
returns-in_default g c = λ l h.
    let m = g.C.FrameCounter.meaning in
    let first = stand m c.args.self.now [] c.args.text.now c.args.scratch.now c.args.table.now in
    let now = stand m c.loop.self c.loop.lines.items c.loop.text c.loop.scratch c.loop.table in
    let later = stand m c.command.new.self c.loop.lines.items c.command.new.text c.command.new.scratch c.command.new.table in
    let w = c.loop.invariant l h in
    let e = c.command.ensures in
    drives _ first later refl
    (way_over m g.K.FlowKey.spelled g.K.FlowKey.BYTES g.K.TapeKind.NUMBER g.C.TapeKind.NUMBER c.args.tape.now first (most_turns - c.loop.counter) (most_turns - (c.loop.counter + 1)) (omega arith)
    now later w c.loop.auto.text c.loop.auto.scratch c.loop.auto.table c.command.result (e.turn w.ledger w.holds)
    c.in_default.field-0 c.in_default.is refl)

pub loop-preserved : goal.loop-preserved
loop-preserved g c = λ l h.
    let m = g.C.FrameCounter.meaning in
    let first = stand m c.args.self.now [] c.args.text.now c.args.scratch.now c.args.table.now in
    let now = stand m c.loop.self c.loop.lines.items c.loop.text c.loop.scratch c.loop.table in
    let later = stand m c.command.new.self c.extend_from_slice.new.self.items c.command.new.text c.command.new.scratch c.command.new.table in
    let w = c.loop.invariant l h in
    let e = c.command.ensures in
    way_goes_on m g.K.FlowKey.spelled g.K.FlowKey.BYTES g.K.TapeKind.NUMBER g.C.TapeKind.NUMBER c.args.tape.now first (most_turns - c.loop.counter) (most_turns - (c.loop.counter + 1)) (omega arith)
    now later w c.loop.auto.text c.loop.auto.scratch c.loop.auto.table c.command.result (e.turn w.ledger w.holds)
    c.in-Ok.bytes c.in-Ok.is c.in_ok-extend_from_slice.ensures.items _ (e.holds w.ledger w.holds)

pub returns : goal.returns
returns g c = λ l h.
    let m = g.C.FrameCounter.meaning in
    let first = stand m c.args.self.now [] c.args.text.now c.args.scratch.now c.args.table.now in
    let now = stand m c.loop.self c.loop.lines.items c.loop.text c.loop.scratch c.loop.table in
    drives _ first now refl
    (way_ends m g.K.FlowKey.spelled g.K.FlowKey.BYTES g.K.TapeKind.NUMBER g.C.TapeKind.NUMBER c.args.tape.now first (most_turns - c.loop.counter) now (omega arith) (c.loop.invariant l h))
