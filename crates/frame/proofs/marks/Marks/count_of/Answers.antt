-- The chain counts the marks of a code.
use Rattle.std.proofs.Common.{sym, ◌∙◌, rules, tests}
use Rattle.std.proofs.lemmas.Iterator.{YieldsList-from_slice}
use Rattle.std.proofs.lemmas.Iterator.Consumers.{YieldsList-at, YieldsList-from_filter, count_from_yields_List}
use Rattle.flow.specs.Codes.{same}
use Rattle.frame.specs.declared.marks.Mark.{Mark}
use Rattle.frame.proofs.Counting.{marks-filtered}
use Rattle.frame.proofs.marks.Marks.count_of.Goals as goal

pub returns-clause-count : goal.returns-clause-count
returns-clause-count c =
    let ms = c.args.self.now.marks.items in
    let of_flow = λ (m : Mark). same m.code c.args.code in
    count_from_yields_List c.filter.result c.count.result c.count.ensures.ran (YieldsList-from_filter _ of_flow (YieldsList-at c.filter.ensures.source (YieldsList-from_slice ms cc)) c.filter.ensures.closure (λ x b q k. search (rules, tests))) ∙
    sym (marks-filtered c.args.code ms)
