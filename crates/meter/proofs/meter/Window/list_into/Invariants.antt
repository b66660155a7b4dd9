use Rattle.std.proofs.Common.{◌≡◌, ◌≤◌, ◌++◌, length, take, drop}
use Rattle.frame.specs.Marked.{listed}
use Rattle.frame.specs.Marking.{flows}
use Rattle.meter.specs.States.{estimate_in, listing}
use Rattle.meter.specs.Meters.{windowed}
use Rattle.meter.proofs.meter.Window.list_into.Given as goal

-- the records of the flows among the marks so far stand at the front of the table, as far as it reaches
abbrev pub invariant-loop-place : goal.invariant-loop-place
invariant-loop-place g l = record {
  counted : l.count ≡ length (listing (estimate_in g.C.FrameCounter.meaning (windowed g.C.FrameCounter.meaning l.counter l.self) l.self.layout.plan) l.level (flows (take l.place (listed l.self.marks))));
  written : l.table ≡ take (length l.initial.table) (listing (estimate_in g.C.FrameCounter.meaning (windowed g.C.FrameCounter.meaning l.counter l.self) l.self.layout.plan) l.level (flows (take l.place (listed l.self.marks)))) ++ drop l.count l.initial.table;
  few : l.count ≤ l.place;
}
