use Rattle.std.proofs.Common.{sym, subst}
use Rattle.shared.specs.Shared.{SharedSound}
use Rattle.shared.specs.Laws.{new_sound}
use Rattle.shared.proofs.counter.SharedDeduction.new.Goals as goal

pub returns : goal.returns
returns c = record { opened = c.opened.ensures; sound = subst SharedSound (sym c.opened.ensures) new_sound }
