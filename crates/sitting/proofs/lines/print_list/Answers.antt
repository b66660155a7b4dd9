-- The lines of the flows stand behind the first line.
use Rattle.std.proofs.Common.{arith}
use Rattle.sitting.specs.Lines.{line, flow_lines}
use Rattle.sitting.proofs.Pasting.{written_behind}
use Rattle.sitting.proofs.lines.print_list.Goals as goal

pub returns : goal.returns
returns c =
    let first = c.paste_line-end.ensures in
    let rest = c.paste_flows.ensures in
    let both = written_behind c.args.text.now (line c.args.word.now c.args.numbers.now) (flow_lines c.args.flows.now) first.text first.end rest.text rest.end (omega (arith, rest.short)) in
    record { text = both.0; bytes = both.1 }
