use Rattle.std.proofs.Common.{arith}
use Rattle.std.proofs.lemmas.Grind.{common_steps}
use Rattle.workings.proofs.line.Heading.read.Goals as goal

pub returns : goal.returns
returns g = grind (arith, common_steps)
