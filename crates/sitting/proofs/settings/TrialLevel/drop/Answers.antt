use Rattle.std.proofs.Common.{arith}
use Rattle.std.proofs.lemmas.Grind.{common_steps}
use Rattle.sitting.proofs.settings.TrialLevel.drop.Goals as goal

pub returns : goal.returns
returns g = grind (arith, common_steps)
