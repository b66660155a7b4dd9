use Rattle.std.proofs.Common.{arith}
use Rattle.std.proofs.lemmas.Grind.{common_steps}
use Rattle.tape.proofs.reading.first_command.Goals as goal

pub returns-in-len2-up-2-clause-found : goal.returns-in-len2-up-2-clause-found
returns-in-len2-up-2-clause-found g c = grind (arith, common_steps)

pub returns-clause-found : goal.returns-clause-found
returns-clause-found g c = grind (arith, common_steps)
