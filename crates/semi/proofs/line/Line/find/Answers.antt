use Rattle.std.proofs.Common.{sym, ap, ◌∙◌, take_all}
use Rattle.semi.proofs.Places.{holds_more}
use Rattle.semi.specs.Line.{holds}
use Rattle.semi.proofs.line.Line.find.Goals as goal

pub loop-i-preserved : goal.loop-i-preserved
loop-i-preserved c = holds_more c.args.code c.entries-entry-items.result.now c.loop-i.i c.loop-i-test.true c.loop-i.invariant (sym c.if-eq.ensures)

pub returns : goal.returns
returns c =
    let xs = c.entries-entry-items.result.now in
    ap (holds c.args.code) (sym c.entries-entry-items.ensures ∙ sym (take_all c.loop-i.i xs c.loop-i-test.false)) ∙ c.loop-i.invariant
