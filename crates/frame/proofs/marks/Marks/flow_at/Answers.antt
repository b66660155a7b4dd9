-- The mark at the place is the first of its flow, or one before it is of the flow too.
use Rattle.std.proofs.Common.{length, get_or, take, ap, ◌∙◌, rules, tests, arith}
use Rattle.std.proofs.lemmas.Iterator.Adapters.{YieldsList-from_rev_slice}
use Rattle.std.proofs.lemmas.Iterator.Search.{any_from_yields_List}
use Rattle.flow.specs.Codes.{same}
use Rattle.frame.specs.declared.marks.Mark.{Mark}
use Rattle.frame.proofs.Flows.{flow_next, any_reverse}
use Rattle.frame.proofs.marks.Marks.flow_at.Goals as goal

pub returns : goal.returns
returns c =
    let ms = c.args.self.now.marks.items in
    let x = c.in_ok-code.field-0.now in
    let got = c.in_ok-code.ensures.lookup in
    flow_next ms c.args.place x c.any-is_first.result c.then_some.result (omega (arith, got.3.0, ap length c.deref.ensures.0)) (got.1 ∙ ap (λ xs. get_or xs c.args.place x) c.deref.ensures.0)
    (any_from_yields_List (λ (m : Mark). same m.code x.code) _ _ c.any-is_first.result c.any-is_first.ensures.ran (YieldsList-from_rev_slice (take c.args.place ms) cc) (λ x b q t. search (rules, tests)) ∙ any_reverse (λ (m : Mark). same m.code x.code) (take c.args.place ms)) c.then_some.ensures
