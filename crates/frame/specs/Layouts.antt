-- What the judging of a plan answers. Assumes nothing.
--   Laid   the layout of the plan, or the number of what is wrong with it
use Rattle.std.specs.Prelude.{◌≡◌, ℕ, Ok, Err, Result}
use Rattle.flow.specs.Answers.{answered, refused}
use Rattle.flow.specs.Refusals.{number}
use Rattle.flow.specs.declared.refusal.Refusal.{Refusal}
use Rattle.frame.specs.declared.plan.Plan.{Plan}
use Rattle.frame.specs.declared.layout.Layout.{Layout}
use Rattle.frame.specs.Plans.{judged}

abbrev pub Laid : ℕ → Plan → Result Layout Refusal → Type 0
Laid g p (Ok l) = (judged g p ≡ answered tt) × (l.plan ≡ p)
Laid g p (Err e) = judged g p ≡ refused (number e)
