use Rattle.std.proofs.Common.{◌≡◌, ◌-◌}
use Rattle.meter.specs.Ledgers.{Ledger}
use Rattle.meter.specs.Meters.{state_of}
use Rattle.meter.specs.Holding.{Holds}
use Rattle.streams.specs.Runs.{none, run_from}
use Rattle.streams.proofs.run.meter_packets.Given as goal

-- the meter holds what some ledger says, and the packets that are left end the run as all of them from its start
abbrev pub invariant-loop-index : goal.invariant-loop-index
invariant-loop-index g l = (y : Ledger) → Holds g.C.FrameCounter.meaning (state_of g.C.FrameCounter.meaning l.fn.meter) y →
    ((z : Ledger) × Holds g.C.FrameCounter.meaning (state_of g.C.FrameCounter.meaning l.meter) z) ×
    (run_from g.C.FrameCounter.meaning l.stream (l.packets - l.index) l.index (state_of g.C.FrameCounter.meaning l.meter) l.totals ≡ run_from g.C.FrameCounter.meaning l.stream l.packets 0 (state_of g.C.FrameCounter.meaning l.fn.meter) none)
