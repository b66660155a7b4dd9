use Rattle.std.proofs.Common.{arith}
use Rattle.std.proofs.lemmas.Grind.{common_steps}
use Rattle.tape.proofs.reading.command_from.Goals as goal

pub returns-in_err-command-clause-found : goal.returns-in_err-command-clause-found
returns-in_err-command-clause-found g c = grind (arith, common_steps)

pub returns-clause-found : goal.returns-clause-found
returns-clause-found g c = grind (arith, common_steps)

pub returns-clause-ahead : goal.returns-clause-ahead
returns-clause-ahead g c = grind (arith, common_steps)
