use Rattle.std.proofs.Common.{arith}
use Rattle.std.proofs.lemmas.Grind.{common_steps}
use Rattle.logs.proofs.wording.RepliedDisplay.fmt.Goals as goal

pub returns-in-Took-clause-writes : goal.returns-in-Took-clause-writes
returns-in-Took-clause-writes g c = grind (arith, common_steps)
