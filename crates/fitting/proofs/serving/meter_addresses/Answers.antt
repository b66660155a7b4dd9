use Rattle.std.proofs.Common.{arith}
use Rattle.std.proofs.lemmas.Grind.{common_steps}
use Rattle.fitting.proofs.serving.meter_addresses.Goals as goal

pub returns-clause-guarantee : goal.returns-clause-guarantee
returns-clause-guarantee g = g.day.ensures.guarantee

pub returns-clause-answers : goal.returns-clause-answers
returns-clause-answers g = grind (arith, common_steps)
