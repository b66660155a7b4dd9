use Rattle.std.proofs.Common.{◌≡◌, ap, ◌∙◌, rules, Option}
use Rattle.std.specs.Option.{option_map_or}
use Rattle.fitting.specs.declared.entry.Entry.{Entry}
use Rattle.fitting.proofs.Searches.{count_of_find}
use Rattle.fitting.proofs.entries.count_of.Goals as goal

pub returns : goal.returns
returns c =
    let read : c.map_or.result ≡ option_map_or (λ x. x.count) c.find.result 0 = search rules in
    read ∙ ap (λ (o : Option Entry). option_map_or (λ x. x.count) o 0) c.find.ensures ∙ count_of_find c.args.code c.args.entries.now
