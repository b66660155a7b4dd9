use Rattle.std.proofs.Common.{sym, ◌∙◌, arith}
use Rattle.fitting.proofs.Steps.{vacated}
use Rattle.fitting.proofs.space_saving.SpaceSaving.opened.Goals as goal

pub invariant_of-result : goal.invariant_of-result
invariant_of-result c =
    let e = vacated c.args.sizes.places _ c.vacant.ensures in
    record { some = omega (arith, e.0, c.args.sizes.places_in.0); distinct = e.1; whole = c.new.ensures.volume ∙ sym e.2 }
