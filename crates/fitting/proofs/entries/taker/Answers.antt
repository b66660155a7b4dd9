use Rattle.std.proofs.Common.{Option, unwrap_or, sym, ap, ◌∙◌}
use Rattle.std.specs.List.{position}
use Rattle.std.specs.Bool.{◌==◌}
use Rattle.fitting.proofs.Searches.{taker_own, taker_given}
use Rattle.fitting.proofs.entries.taker.Goals as goal

pub returns-in-Some : goal.returns-in-Some
returns-in-Some c = taker_own c.args.entries.now c.args.code c.requires.some c.in-Some.own (sym c.own_place.ensures ∙ c.in-Some.is)

pub returns-in-None : goal.returns-in-None
returns-in-None c =
    let least_first = c.first_with.ensures ∙ (λ i. position (λ e. e.count == c.least_of.ensures i) c.args.entries.now) in
    c.unwrap_or.ensures ∙ ap (λ (o : Option _). unwrap_or o 0) least_first ∙ taker_given c.args.entries.now c.args.code c.requires.some (sym c.own_place.ensures ∙ c.in-None.is)
