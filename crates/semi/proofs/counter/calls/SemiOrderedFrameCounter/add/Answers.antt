use Rattle.std.proofs.Common.{arith}
use Rattle.semi.proofs.Kept.{lawful}
use Rattle.semi.specs.Adding.{added_lawful}
use Rattle.semi.specs.Passes.{passes_short}
use Rattle.semi.specs.Semi.{semi_meaning}
use Rattle.flow.proofs.Inside.{adds_inside}
use Rattle.flow.proofs.Tallies.{add_taken}
use Rattle.semi.proofs.counter.calls.SemiOrderedFrameCounter.add.Goals as goal

pub invariant_of-self : goal.invariant_of-self
invariant_of-self c =
    let m = c.args.self.now in
    let l = added_lawful m.line.sizes.places m.line.sizes.step m.tally.packets m.tally.volume c.args.weight m.line.entries.items c.args.code m.line.sizes.places_in.0 m.line.sizes.step_in (lawful m) in
    let taken = c.in_ok-self.ensures in
    record { sum = rw (c.add.ensures.entries, c.add.ensures.sizes, taken.1, taken.2) l.sum }

pub returns-clause-few_passes : goal.returns-clause-few_passes
returns-clause-few_passes c =
    let m = c.args.self.now in
    let l = lawful m in
    let told = add_taken semi_meaning (semi_meaning.model m) c.args.code c.args.weight c.in_ok-self.ensures.0 in
    let weight = (adds_inside semi_meaning (semi_meaning.model m) c.args.code c.args.weight _ told).0 in
    omega (arith, c.add.ensures.passes, passes_short m.line.sizes.places m.line.sizes.step c.args.weight m.line.entries.items c.args.code m.line.sizes.step_in weight.0 l.rising l.small)
