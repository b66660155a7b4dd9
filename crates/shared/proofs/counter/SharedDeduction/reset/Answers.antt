use Rattle.std.proofs.Common.{arith}
use Rattle.shared.proofs.Steps.{all_empty}
use Rattle.shared.proofs.counter.SharedDeduction.reset.Goals as goal

pub invariant_of-self : goal.invariant_of-self
invariant_of-self c =
    let sizes = c.args.sizes in
    let e = all_empty sizes.places _ c.reset.ensures in
    record { some = omega (arith, e.0, sizes.places_in.0); most = omega (arith, e.0, sizes.places_in.1); order = e.1; sum = omega (arith, e.2) }

pub returns : goal.returns
returns c =
    let e = all_empty c.args.sizes.places _ c.reset.ensures in
    λ i. record { places = e.0 i; packets = c.new-self.ensures.packets i; volume = c.new-self.ensures.volume i; deduction = 0; held = c.reset.ensures i }
