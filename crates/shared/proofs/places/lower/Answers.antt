use Rattle.std.proofs.Common.{None, get_or, set, ap, ◌∙◌, arith}
use Rattle.std.proofs.lemmas.List.{get_or_default}
use Rattle.std.proofs.lemmas.List.Edits.{map_over_more}
use Rattle.shared.specs.Places.{less}
use Rattle.shared.proofs.places.lower.Goals as goal

pub loop-place-preserved : goal.loop-place-preserved
loop-place-preserved c =
    let ps = c.loop-place.places in
    let i = c.loop-place.place-index in
    ap (set ps i) c.with_less.ensures ∙
    map_over_more (less c.args.by) c.args.places.now ps i (get_or ps i None) c.loop-place-test.true c.loop-place.invariant
    (get_or_default ps i None (get_or ps i None) (omega arith))
