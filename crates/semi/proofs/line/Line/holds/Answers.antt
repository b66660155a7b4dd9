use Rattle.std.proofs.Common.{◌∙◌}
use Rattle.semi.proofs.Places.{holds_found}
use Rattle.semi.proofs.line.Line.holds.Goals as goal

pub returns : goal.returns
returns c = c.is_some.ensures ∙ holds_found c.args.code c.args.self.now.entries.items c.find.result c.find.ensures
