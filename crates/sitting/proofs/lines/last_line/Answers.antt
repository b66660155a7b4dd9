-- The packets of a tape have at most five digits, and their volume at most fifteen.
use Rattle.std.proofs.Common.{◌≤◌, length, ap, arith, length-append}
use Rattle.std.proofs.lemmas.Fmt.{length-decimal-le}
use Rattle.std.proofs.lemmas.Grind.{common_steps}
use Rattle.std.specs.Fmt.{decimal}
use Rattle.sitting.proofs.lines.last_line.Goals as goal
use Rattle.sitting.proofs.lines.last_line.Goals.{in-Closed, in-Broken}

pub paste_line-end-requires : goal.paste_line-end-requires
paste_line-end-requires c =
    let six : length c.match-ending.word.now ≤ 6 = elim c.match-ending.branch [
      | in-Closed w ↦ omega (arith, ap (λ word. length word.now) w.word-is)
      | in-Broken w ↦ omega (arith, ap (λ word. length word.now) w.word-is)
    ] in
    let five : length (decimal c.args.packets) ≤ 5 = length-decimal-le 5 c.args.packets (omega arith) (omega arith) (omega arith) in
    let fifteen : length (decimal c.args.volume) ≤ 15 = length-decimal-le 15 c.args.volume (omega arith) (omega arith) (omega arith) in
    simp length-append (omega arith)

pub returns-clause-line : goal.returns-clause-line
returns-clause-line g = grind (arith, common_steps)
