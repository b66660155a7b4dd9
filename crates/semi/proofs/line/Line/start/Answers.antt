use Rattle.std.proofs.Common.{List, get_or, sym, ap, ◌∙◌}
use Rattle.semi.proofs.Orders.{orderly_from}
use Rattle.semi.proofs.Steps.{start_at}
use Rattle.semi.specs.Entries.{entry_of_absent}
use Rattle.semi.specs.Line.{blank, start}
use Rattle.semi.specs.declared.entry.Entry.{Entry}
use Rattle.flow.specs.declared.code.Code.{Code}
use Rattle.semi.proofs.line.Line.start.Goals as goal

pub returns-in-Some : goal.returns-in-Some
returns-in-Some c =
    let m = c.args.self.now in
    let xs = m.entries.items in
    let at = c.in-Some.at in
    let found = c.in-Some.ensures in
    ap (λ (ys : List Entry). get_or ys at blank) c.deref.ensures.0 ∙ sym (start_at m.sizes.places m.sizes.step 0 xs at (orderly_from m.sizes.step xs m.order).1 found.0) ∙
    ap (λ (k : Code). start m.sizes.places m.sizes.step xs k) found.1

pub returns-in-None : goal.returns-in-None
returns-in-None c = c.entering.ensures ∙ sym (entry_of_absent c.args.code c.args.self.now.entries.items _ c.in-None.ensures)
