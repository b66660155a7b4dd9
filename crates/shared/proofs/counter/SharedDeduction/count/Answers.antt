use Rattle.std.proofs.Common.{◌≡◌, ℕ, List, Option, ap, ◌∙◌, rules}
use Rattle.std.specs.List.{find}
use Rattle.std.specs.Option.{option_map_or}
use Rattle.flow.specs.Codes.{same}
use Rattle.shared.specs.declared.place.Held.{Held}
use Rattle.shared.specs.Places.{Place, held_in}
use Rattle.shared.specs.Searches.{count_of_find}
use Rattle.shared.proofs.counter.SharedDeduction.count.Goals as goal

pub returns : goal.returns
returns c =
    let k = c.args.code in
    let counts : Option Held → ℕ = λ o. option_map_or (λ x. x.count) o 0 in
    let read : c.map_or.result ≡ option_map_or (λ x. x.count) c.find.result 0 = search rules in
    read ∙ ap counts c.find.ensures ∙ ap (λ (ps : List Place). counts (find (λ x. same k x.code) (held_in ps))) c.held.ensures ∙ count_of_find k c.args.self.now.places.items
