use Rattle.std.proofs.Common.{sym, subst}
use Rattle.fitting.specs.SpaceSaving.{SpaceSound}
use Rattle.fitting.specs.Laws.{new_sound}
use Rattle.fitting.proofs.space_saving.SpaceSaving.new.Goals as goal

pub returns : goal.returns
returns c = record { opened = c.opened.ensures; sound = subst SpaceSound (sym c.opened.ensures) new_sound }
