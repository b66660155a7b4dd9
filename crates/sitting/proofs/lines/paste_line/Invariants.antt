use Rattle.std.proofs.Common.{◌++◌, take}
use Rattle.std.specs.List.{flat_map}
use Rattle.sitting.specs.Lines.{spaced}
use Rattle.sitting.proofs.Pasting.{Written}
use Rattle.sitting.proofs.lines.paste_line.Given as goal

-- the word and the numbers so far are written
abbrev pub invariant-loop-number : goal.invariant-loop-number
invariant-loop-number l = Written l.fn.text l.at (l.word ++ flat_map spaced (take l.number-index l.numbers)) l.text l.end
