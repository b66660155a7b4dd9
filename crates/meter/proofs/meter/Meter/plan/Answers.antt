-- What an accepted plan leaves is what the ledger says then.
use Rattle.std.proofs.Common.{◌≡◌, sym, subst, rules, arith}
use Rattle.std.proofs.lemmas.Grind.{common_steps}
use Rattle.meter.specs.Ledgers.{planned}
use Rattle.meter.specs.States.{State, plan_leaves}
use Rattle.meter.specs.Meters.{windowed, state_of}
use Rattle.meter.specs.Holding.{Holds}
use Rattle.meter.proofs.Holdings.{plan_holds}
use Rattle.meter.proofs.meter.Meter.plan.Goals as goal

pub returns-clause-holds : goal.returns-clause-holds
returns-clause-holds g c =
    let m = g.C.FrameCounter.meaning in
    let s = state_of m c.args.self.now in
    let state : windowed m c.open.new.self c.new.result ≡ plan_leaves m s c.args.plan = search rules in
    λ l h. subst (λ (y : State m.Model). Holds m y (planned l c.args.plan)) (sym state) (plan_holds m s g.met.C.FrameCounter.opens l c.args.plan h)

pub returns-in_err-layout-clause-state : goal.returns-in_err-layout-clause-state
returns-in_err-layout-clause-state g c = grind (arith, common_steps)

pub returns-in_err-layout-clause-unchanged : goal.returns-in_err-layout-clause-unchanged
returns-in_err-layout-clause-unchanged g c = grind (arith, common_steps)
