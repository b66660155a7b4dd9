use Rattle.std.proofs.Common.{arith}
use Rattle.std.proofs.lemmas.Grind.{common_steps}
use Rattle.sitting.proofs.lines.paste_flow.Goals as goal

pub returns-clause-text : goal.returns-clause-text
returns-clause-text g = grind (arith, common_steps)
