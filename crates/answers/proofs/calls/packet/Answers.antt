use Rattle.std.proofs.Common.{◌≡◌, ap, ◌∙◌}
use Rattle.semi.specs.Semi.{SemiModel, semi_meaning}
use Rattle.meter.specs.States.{State, unplanned, plan_leaves}
use Rattle.sheets.specs.CounterSheets.{flow}
use Rattle.sheets.specs.MeterSheets.{plan}
use Rattle.sheets.proofs.Steps.{passed}
use Rattle.answers.proofs.calls.packet.Goals as goal

-- 1 is the number of an account, so its making is not refused
pub returns-in_err-key : goal.returns-in_err-key
returns-in_err-key c = absurd (cc c.in_err-key.ensures)

pub returns : goal.returns
returns c =
    let fresh = c.new-meter.ensures.state ∙ ap (λ (x : SemiModel). unplanned x) c.new-2.ensures.opened in
    let planned = c.plan.ensures.state ∙ ap (λ (x : State SemiModel). plan_leaves semi_meaning x plan) fresh in
    let number : c.in_ok-key.key.number ≡ 1 = cc c.in_ok-key.ensures in
    passed _ planned (ap flow number) (c.packet.ensures.answer _ (c.plan.ensures.holds _ c.new-meter.ensures.holds))
