-- A day is a call after the other, each answered by the rules.
use Rattle.std.proofs.Common.{◌≡◌, ◌+◌, List, [], ◌∷◌, ◌++◌, map, take, sym, ap, ◌∙◌, subst, arith, take_all}
use Rattle.std.proofs.lemmas.List.{take_more, map-append}
use Rattle.meter.specs.declared.day.Call.{Call}
use Rattle.meter.specs.States.{State, unplanned}
use Rattle.meter.specs.Meters.{state_of}
use Rattle.meter.specs.Holding.{Holds}
use Rattle.meter.specs.Days.{Said, said, step, Day}
use Rattle.meter.specs.Sequences.{call_said, call_leaves, day_said, day_leaves}
use Rattle.meter.proofs.Dailies.{call_holds, day_right, leaves_push, said-push}
use Rattle.meter.proofs.day.day.Goals as goal

pub loop-call-preserved : goal.loop-call-preserved
loop-call-preserved g c =
    let m = g.C.FrameCounter.meaning in
    let met = g.met.C.FrameCounter in
    let coded = g.K.FlowKey.coded in
    let new = unplanned (m.model c.args.counter) in
    let s = state_of m c.loop-call.meter in
    let cs = c.args.calls.now in
    let i = c.loop-call.call-index in
    let k = c.call-item.result in
    let a = c.in_ok-call.field-0 in
    let inv = c.loop-call.invariant in
    let h = inv.holds.1 in
    let more : take (i + 1) cs ≡ take i cs ++ k ∷ [] = take_more cs i k (omega arith) ∙ ap (λ (x : Call g.row.K.Denot). take i cs ++ x ∷ []) (sym c.call-item.is) in
    let state : state_of m c.call.new.self ≡ call_leaves coded m s k = c.call.ensures.state inv.holds.0 h in
    let told : said a ≡ call_said coded m s k = c.in_ok-call.ensures.said inv.holds.0 h in
    record {
      holds = (step coded inv.holds.0 k, subst (λ (y : State m.Model). Holds m y (step coded inv.holds.0 k)) (sym state) (call_holds m met.opens met.flushes met.adds met.heavy coded s inv.holds.0 k h));
      leaves = state ∙ ap (λ (y : State m.Model). call_leaves coded m y k) inv.leaves ∙ sym (ap (day_leaves coded m new) more ∙ leaves_push coded m new (take i cs) k);
      told = ap (map said) c.in_ok-push.ensures.items ∙ map-append said c.loop-call.answers.items (a ∷ []) ∙
          (λ j. inv.told j ++ (told ∙ ap (λ (y : State m.Model). call_said coded m y k) inv.leaves) j ∷ []) ∙ sym (ap (day_said coded m new) more ∙ said-push coded m new (take i cs) k);
    }

pub returns : goal.returns
returns g c =
    let m = g.C.FrameCounter.meaning in
    let met = g.met.C.FrameCounter in
    let coded = g.K.FlowKey.coded in
    let x = m.model c.args.counter in
    let cs = c.args.calls.now in
    let all = c.loop-call.invariant.told ∙ ap (day_said coded m (unplanned x)) (take_all c.loop-call.call-index cs (omega arith)) in
    record {
      guarantee = subst (λ (as' : List Said). Day coded (m.greatest x) cs as') (sym all) (day_right m met.opens met.flushes met.adds met.heavy coded x cs);
      answers = all;
    }
