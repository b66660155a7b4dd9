use Rattle.std.proofs.Common.{arith}
use Rattle.shared.proofs.Steps.{all_empty}
use Rattle.shared.proofs.counter.SharedDeduction.opened.Goals as goal

pub invariant_of-result : goal.invariant_of-result
invariant_of-result c =
    let e = all_empty c.args.sizes.places _ c.empty.ensures in
    record { some = omega (arith, e.0, c.args.sizes.places_in.0); most = omega (arith, e.0, c.args.sizes.places_in.1); order = e.1; sum = omega (arith, e.2) }

pub returns : goal.returns
returns c =
    let e = all_empty c.args.sizes.places _ c.empty.ensures in
    λ i. record { places = e.0 i; packets = c.new.ensures.packets i; volume = c.new.ensures.volume i; deduction = 0; held = c.empty.ensures i }
