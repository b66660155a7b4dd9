use Rattle.std.proofs.Common.{take, None, ap, ◌∙◌}
use Rattle.std.proofs.lemmas.List.{take-replicate}
use Rattle.shared.proofs.places.empty.Goals as goal

pub returns : goal.returns
returns c = c.truncate.ensures.items ∙ ap (take c.args.places) c.from_array_in-cells.ensures.items ∙ take-replicate c.args.places 256 None c.requires
