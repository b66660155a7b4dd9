-- The steps of a packet of lawful weight, one after the other.
use Rattle.std.proofs.Common.{◌≡◌, ℕ, ◌≤◌, IfOk, Some, Result, sym, refl, ap, ◌∙◌, subst, arith}
use Rattle.std.proofs.lemmas.Bool.Decides.{nat_tests}
use Rattle.std.proofs.lemmas.Grind.{common_steps}
use Rattle.flow.specs.Answers.{Unchanged}
use Rattle.flow.specs.declared.refusal.Refusal.{Refusal}
use Rattle.frame.specs.declared.layout.Layout.{Layout}
use Rattle.frame.specs.declared.plan.Plan.{Plan}
use Rattle.frame.specs.Plans.{block_of}
use Rattle.frame.specs.Marking.{leave}
use Rattle.meter.specs.Ledgers.{Ledger}
use Rattle.meter.specs.Guarantees.{places_of}
use Rattle.meter.specs.States.{State, begun, left, counted}
use Rattle.meter.specs.Meters.{windowed}
use Rattle.meter.specs.Holding.{Room, Holds}
use Rattle.meter.proofs.Calling.{Packeted, packeted, leaves_alike}
use Rattle.meter.proofs.meter.Window.packet.Given as given
use Rattle.meter.proofs.meter.Window.packet.Goals as goal

done : (g : given.Over) (c : goal.After-count g) (l : Ledger) → Holds g.C.FrameCounter.meaning (windowed g.C.FrameCounter.meaning c.args.counter.now c.args.self.now) l →
    Packeted g.C.FrameCounter.meaning (windowed g.C.FrameCounter.meaning c.args.counter.now c.args.self.now) l c.count.result (windowed g.C.FrameCounter.meaning c.count.new.counter c.count.new.self) c.args.code c.args.weight
done g c l h =
    let m = g.C.FrameCounter.meaning in
    let met = g.met.C.FrameCounter in
    let s = windowed m c.args.counter.now c.args.self.now in
    let p = c.args.self.now.layout.plan in
    let some : 1 ≤ c.args.weight = omega arith in
    let light : c.args.weight ≤ p.most = omega (arith, c.if-weight-plan.false, ap (λ (q : Plan). q.most) c.plan.ensures) in
    let begun-is = c.begin_frame.ensures.state in
    let layout-is : c.leave_block.new.self.layout ≡ c.args.self.now.layout = c.leave_block.ensures.layout ∙ c.begin_frame.ensures.layout in
    let k = c.args.code in
    let older-is = c.leave_block.ensures.older ∙ (λ i. leave (block_of (c.begin_frame.ensures.layout i).plan) (begun-is i).offset (begun-is i).older) ∙ leaves_alike m met.flushes met.adds met.heavy s l h p refl k c.args.weight some light in
    let left_is : windowed m c.begin_frame.new.counter c.leave_block.new.self ≡ left m p (begun m s) =
    λ i. record {
      plan = (ap (λ (y : Layout). Some y.plan) c.leave_block.ensures.layout ∙ ap (λ (y : State m.Model). y.plan) begun-is) i;
      counter = (ap (λ (y : State m.Model). y.counter) begun-is) i;
      offset = (c.leave_block.ensures.offset ∙ ap (λ (y : State m.Model). y.offset) begun-is) i;
      older = older-is i;
      newer = (c.leave_block.ensures.newer ∙ ap (λ (y : State m.Model). y.newer) begun-is) i;
    } in
    let b = windowed m c.begin_frame.new.counter c.leave_block.new.self in
    let e = windowed m c.count.new.counter c.count.new.self in
    let counted-is = subst (λ (y : Layout). Room m y.plan b k c.args.weight → IfOk c.count.result (λ _. e ≡ counted m y.plan b k c.args.weight)) layout-is c.count.ensures.state in
    packeted m met.flushes met.adds met.heavy s l h p refl k c.args.weight some light c.count.result b e left_is c.count.ensures.answer counted-is

pub returns : goal.returns
returns g c = record {
  answer = λ l h. (done g c l h).answer;
  state = λ l h. (done g c l h).state;
  counter = λ l h. subst (λ (r : Result ℕ Refusal). Unchanged r c.args.counter.now c.count.new.counter) (sym (done g c l h).took) tt;
  unchanged = λ l h. subst (λ (r : Result ℕ Refusal). Unchanged r c.args.self.now c.count.new.self) (sym (done g c l h).took) tt;
  few_passes = λ l h. subst (λ (r : Result ℕ Refusal). IfOk r (λ x. x ≤ places_of l.plan)) (sym (done g c l h).took) (done g c l h).few;
  refusals = λ n h. absurd (grind (arith, nat_tests, h, ap (λ (q : Plan). q.most) c.plan.ensures));
}

pub returns-then-weight-plan-clause-state : goal.returns-then-weight-plan-clause-state
returns-then-weight-plan-clause-state g c = grind (arith, common_steps)

pub returns-then-weight-plan-clause-unchanged : goal.returns-then-weight-plan-clause-unchanged
returns-then-weight-plan-clause-unchanged g c = grind (arith, common_steps)

pub returns-then-weight-plan-clause-refusals : goal.returns-then-weight-plan-clause-refusals
returns-then-weight-plan-clause-refusals g c = grind (arith, common_steps)
