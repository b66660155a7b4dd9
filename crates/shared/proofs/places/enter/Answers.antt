use Rattle.std.proofs.Common.{◌≡◌, ◌<◌, None, length, take, get_or, sym, ap, ◌∙◌, rules, arith}
use Rattle.std.proofs.lemmas.List.{take_all}
use Rattle.shared.specs.Places.{any_empty, entered}
use Rattle.shared.specs.Searches.{entered_full, entered_found}
use Rattle.shared.proofs.places.enter.Goals as goal

pub returns-then-is_none-clause-places : goal.returns-then-is_none-clause-places
returns-then-is_none-clause-places c =
    let here : c.loop-place.place-index < length c.loop-place.places = omega arith in
    let empty : get_or c.loop-place.places c.loop-place.place-index None ≡ None = search rules in
    sym (entered_found _ _ _ _ here c.loop-place.invariant.1 empty) ∙ ap (entered c.args.code c.args.count) c.loop-place.invariant.0

pub returns-clause-places : goal.returns-clause-places
returns-clause-places c =
    let was = c.loop-place.invariant.0 in
    let all = take_all _ c.args.places.now c.loop-place-test.false in
    let none = sym (ap any_empty (ap (take c.loop-place.place-index) was ∙ all)) ∙ c.loop-place.invariant.1 in
    was ∙ sym (entered_full c.args.code c.args.count c.args.places.now none)
