-- What a restart leaves is what the ledger says then.
use Rattle.std.proofs.Common.{◌≡◌, sym, subst, rules}
use Rattle.meter.specs.Ledgers.{restarted}
use Rattle.meter.specs.States.{State, restart_leaves}
use Rattle.meter.specs.Meters.{windowed, state_of}
use Rattle.meter.specs.Holding.{Holds}
use Rattle.meter.proofs.Holdings.{restart_holds}
use Rattle.meter.proofs.meter.Meter.restart.Goals as goal

pub returns-clause-holds : goal.returns-clause-holds
returns-clause-holds g c =
    let m = g.C.FrameCounter.meaning in
    let s = state_of m c.args.self.now in
    let state : windowed m c.flush.new.self c.clear.new.self ≡ restart_leaves m s = search rules in
    λ l h. subst (λ (y : State m.Model). Holds m y (restarted l)) (sym state) (restart_holds m s g.met.C.FrameCounter.flushes l h)
