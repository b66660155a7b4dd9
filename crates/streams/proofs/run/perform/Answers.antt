use Rattle.std.proofs.Common.{◌≡◌, sym, ap, ◌∙◌}
use Rattle.flow.specs.Answers.{answered}
use Rattle.meter.specs.Ledgers.{fresh, planned}
use Rattle.meter.specs.Meters.{state_of}
use Rattle.meter.specs.States.{State, unplanned, plan_answer, plan_leaves}
use Rattle.streams.specs.Runs.{none, run_from}
use Rattle.streams.proofs.run.perform.Goals as goal

pub returns : goal.returns
returns g c =
    let m = g.C.FrameCounter.meaning in
    let x = m.model c.args.counter in
    let q = c.args.plan in
    let new = c.new-meter.ensures in
    let l = fresh (m.greatest x) in
    let plan = c.in_ok-plan.ensures in
    let taken : plan_answer m (unplanned x) q ≡ answered tt = sym (plan.answer ∙ ap (λ (s : State m.Model). plan_answer m s q) new.state) in
    let state : state_of m c.plan.new.self ≡ plan_leaves m (unplanned x) q = plan.state ∙ ap (λ (s : State m.Model). plan_leaves m s q) new.state in (
      taken,
      (c.meter_packets-refusal.ensures (planned l q) (plan.holds l new.holds) ∙
          ap (λ (s : State m.Model). run_from m c.args.stream.now c.args.packets 0 s none) state),
    )
