use Rattle.std.proofs.Common.{arith}
use Rattle.std.proofs.lemmas.Grind.{common_steps}
use Rattle.mark.proofs.Tapes.{worked}
use Rattle.mark.proofs.marking.mark.Goals as goal

pub returns-in-Prefix-SemiOrdered-clause-worked_tapes_stand : goal.returns-in-Prefix-SemiOrdered-clause-worked_tapes_stand
returns-in-Prefix-SemiOrdered-clause-worked_tapes_stand c = worked

pub returns-in-Prefix-SharedDeduction-clause-worked_tapes_stand : goal.returns-in-Prefix-SharedDeduction-clause-worked_tapes_stand
returns-in-Prefix-SharedDeduction-clause-worked_tapes_stand c = worked

pub returns-in-Account-SemiOrdered-clause-worked_tapes_stand : goal.returns-in-Account-SemiOrdered-clause-worked_tapes_stand
returns-in-Account-SemiOrdered-clause-worked_tapes_stand c = worked

pub returns-in-Account-SharedDeduction-clause-worked_tapes_stand : goal.returns-in-Account-SharedDeduction-clause-worked_tapes_stand
returns-in-Account-SharedDeduction-clause-worked_tapes_stand c = worked

pub returns-in-Prefix-SemiOrdered-clause-lines : goal.returns-in-Prefix-SemiOrdered-clause-lines
returns-in-Prefix-SemiOrdered-clause-lines g = grind (arith, common_steps)

pub returns-in-Prefix-SemiOrdered-clause-guarantee : goal.returns-in-Prefix-SemiOrdered-clause-guarantee
returns-in-Prefix-SemiOrdered-clause-guarantee g = grind (arith, common_steps)

pub returns-in-Prefix-SemiOrdered-clause-text : goal.returns-in-Prefix-SemiOrdered-clause-text
returns-in-Prefix-SemiOrdered-clause-text g = grind (arith, common_steps)

pub returns-in-Prefix-SemiOrdered-clause-scratch : goal.returns-in-Prefix-SemiOrdered-clause-scratch
returns-in-Prefix-SemiOrdered-clause-scratch g = grind (arith, common_steps)

pub returns-in-Prefix-SemiOrdered-clause-table : goal.returns-in-Prefix-SemiOrdered-clause-table
returns-in-Prefix-SemiOrdered-clause-table g = grind (arith, common_steps)
