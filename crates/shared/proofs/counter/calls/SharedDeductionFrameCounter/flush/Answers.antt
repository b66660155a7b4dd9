use Rattle.std.proofs.Common.{rules, arith}
use Rattle.shared.proofs.Steps.{all_empty, cleared}
use Rattle.shared.proofs.counter.calls.SharedDeductionFrameCounter.flush.Goals as goal

pub invariant_of-self : goal.invariant_of-self
invariant_of-self c =
    let x = c.args.self.now in
    let e = all_empty _ _ (cleared _ x.places.items _ c.as_mut_slice.ensures.value (c.fill.ensures.after (λ _ e. search rules))) in
    record { some = omega (arith, e.0, x.some); most = omega (arith, e.0, x.most); order = e.1; sum = omega (arith, e.2) }

pub returns : goal.returns
returns c =
    let x = c.args.self.now in
    let empty = cleared _ x.places.items _ c.as_mut_slice.ensures.value (c.fill.ensures.after (λ _ e. search rules)) in
    let e = all_empty _ _ empty in
    record {
      state = λ i. record { places = e.0 i; packets = c.new-self.ensures.packets i; volume = c.new-self.ensures.volume i; deduction = 0; held = empty i };
    }
