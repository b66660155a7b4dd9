use Rattle.std.proofs.Common.{List, is_some, ap, ◌∙◌}
use Rattle.std.specs.List.{find}
use Rattle.flow.specs.Codes.{same}
use Rattle.shared.specs.Places.{Place, held_in}
use Rattle.shared.specs.Searches.{holds_find}
use Rattle.shared.proofs.counter.SharedDeduction.holds.Goals as goal

pub returns : goal.returns
returns c =
    let k = c.args.code in
    c.is_some.ensures ∙ ap is_some c.find.ensures ∙ ap (λ (ps : List Place). is_some (find (λ x. same k x.code) (held_in ps))) c.held.ensures ∙ holds_find k c.args.self.now.places.items
