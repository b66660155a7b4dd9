use Rattle.std.proofs.Common.{◌+◌, ◌*◌, ◌≤◌, take}
use Rattle.sitting.specs.Lines.{longest_flow_line, flow_lines}
use Rattle.sitting.proofs.Pasting.{Written}
use Rattle.sitting.proofs.lines.paste_flows.Given as goal

-- the lines of the flows so far are written, and are none too long
abbrev pub invariant-loop-flow : goal.invariant-loop-flow
invariant-loop-flow l = record {
  written : Written l.fn.text l.at (flow_lines (take l.flow-index l.flows)) l.text l.end;
  short : l.end ≤ l.at + longest_flow_line * l.flow-index;
}
