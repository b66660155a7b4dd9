use Rattle.std.proofs.Common.{arith}
use Rattle.std.proofs.lemmas.Grind.{common_steps}
use Rattle.sitting.proofs.sitting.Sitting.finish.Goals as goal

pub returns-clause-line : goal.returns-clause-line
returns-clause-line g c = grind (arith, common_steps)
