use Rattle.std.proofs.Common.{◌≡◌, false, take}
use Rattle.semi.specs.Line.{holds}
use Rattle.semi.proofs.line.Line.find.Given as goal

abbrev pub invariant-loop-i : goal.invariant-loop-i
invariant-loop-i l = holds l.code (take l.i l.entry-items) ≡ false
