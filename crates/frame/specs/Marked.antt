-- The marks that are kept. Assumes nothing.
--   listed   all marks, the oldest first
--   older    those of the previous frame
--   newer    those of the present frame
use Rattle.std.specs.Prelude.{List, take, drop}
use Rattle.frame.specs.declared.marks.Mark.{Mark}
use Rattle.frame.specs.declared.marks.Marks.{Marks}

abbrev pub listed : Marks → List Mark
listed m = m.marks.items

abbrev pub older : Marks → List Mark
older m = take m.previous (listed m)

abbrev pub newer : Marks → List Mark
newer m = drop m.previous (listed m)
