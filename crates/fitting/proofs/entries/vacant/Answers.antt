use Rattle.std.proofs.Common.{take, ap, ◌∙◌}
use Rattle.std.proofs.lemmas.List.{take-replicate}
use Rattle.fitting.specs.Entries.{vacant}
use Rattle.fitting.proofs.entries.vacant.Goals as goal

pub returns : goal.returns
returns c = c.truncate.ensures.items ∙ ap (take c.args.places) c.from_array_in-entries.ensures.items ∙ take-replicate c.args.places 256 vacant c.requires
