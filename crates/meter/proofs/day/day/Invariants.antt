use Rattle.std.proofs.Common.{◌≡◌, map, take}
use Rattle.meter.specs.Ledgers.{Ledger}
use Rattle.meter.specs.States.{unplanned}
use Rattle.meter.specs.Meters.{state_of}
use Rattle.meter.specs.Holding.{Holds}
use Rattle.meter.specs.Days.{said}
use Rattle.meter.specs.Sequences.{day_said, day_leaves}
use Rattle.meter.proofs.day.day.Given as goal

-- the calls so far were answered by the rules
abbrev pub invariant-loop-call : goal.invariant-loop-call
invariant-loop-call g l = record {
  holds : (y : Ledger) × Holds g.C.FrameCounter.meaning (state_of g.C.FrameCounter.meaning l.meter) y;
  leaves : state_of g.C.FrameCounter.meaning l.meter ≡ day_leaves g.K.FlowKey.coded g.C.FrameCounter.meaning (unplanned (g.C.FrameCounter.meaning.model l.fn.counter)) (take l.call-index l.calls);
  told : map said l.answers.items ≡ day_said g.K.FlowKey.coded g.C.FrameCounter.meaning (unplanned (g.C.FrameCounter.meaning.model l.fn.counter)) (take l.call-index l.calls);
}
