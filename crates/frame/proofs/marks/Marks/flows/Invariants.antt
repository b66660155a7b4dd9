use Rattle.std.proofs.Common.{◌≡◌, ◌≤◌, length, take}
use Rattle.frame.specs.Marking.{flows}
use Rattle.frame.proofs.marks.Marks.flows.Given as goal

-- the flows of the marks so far
abbrev pub invariant-loop-mark : goal.invariant-loop-mark
invariant-loop-mark l = record {
  named : l.flows.items ≡ flows (take l.mark-index l.mark-items);
  few : length l.flows.items ≤ l.mark-index;
}
