use Rattle.std.proofs.Common.{arith}
use Rattle.std.proofs.lemmas.Grind.{common_steps}
use Rattle.fitting.proofs.serving.mark_addresses.Goals as goal

pub returns-clause-lines : goal.returns-clause-lines
returns-clause-lines g = grind (arith, common_steps)

pub returns-clause-guarantee : goal.returns-clause-guarantee
returns-clause-guarantee g = g.mark_tape.ensures.guarantee

pub returns-clause-text : goal.returns-clause-text
returns-clause-text g = grind (arith, common_steps)

pub returns-clause-scratch : goal.returns-clause-scratch
returns-clause-scratch g = grind (arith, common_steps)

pub returns-clause-table : goal.returns-clause-table
returns-clause-table g = grind (arith, common_steps)
