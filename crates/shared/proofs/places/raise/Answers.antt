use Rattle.std.proofs.Common.{◌<◌, length, take, sym, ap, ◌∙◌, arith}
use Rattle.std.proofs.lemmas.List.{take_all}
use Rattle.shared.specs.Places.{holds, raised, counted}
use Rattle.shared.specs.Searches.{raised_missing, raised_found, count_of_found, count_of_within}
use Rattle.shared.proofs.places.raise.Goals as goal

pub overflow_add-held : goal.overflow_add-held
overflow_add-held c =
    let here : c.loop-place.place-index < length c.loop-place.places = omega arith in
    let count = count_of_found _ _ (sym c.eq.ensures ∙ c.if-eq.true) _ _ here c.loop-place.invariant.1 c.in-Some.is in
    omega (arith, count, count_of_within c.args.code c.loop-place.places, ap counted c.loop-place.invariant.0)

pub returns-in-loop-place-clause-places : goal.returns-in-loop-place-clause-places
returns-in-loop-place-clause-places c =
    let here : c.loop-place.place-index < length c.loop-place.places = omega arith in
    let found = raised_found _ _ (sym c.eq.ensures ∙ c.if-eq.true) c.args.weight _ _ here c.loop-place.invariant.1 c.in-Some.is in
    sym found ∙ ap (raised c.args.code c.args.weight) c.loop-place.invariant.0

pub returns-clause-places : goal.returns-clause-places
returns-clause-places c =
    let was = c.loop-place.invariant.0 in
    let all = take_all _ c.args.places.now c.loop-place-test.false in
    let none = sym (ap (holds c.args.code) (ap (take c.loop-place.place-index) was ∙ all)) ∙ c.loop-place.invariant.1 in
    was ∙ sym (raised_missing c.args.code c.args.weight c.args.places.now none)
