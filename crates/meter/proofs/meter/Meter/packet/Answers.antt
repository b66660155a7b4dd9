-- What a packet leaves is what the ledger says then.
use Rattle.std.proofs.Common.{◌≡◌, sym, subst, arith}
use Rattle.std.proofs.lemmas.Grind.{common_steps}
use Rattle.meter.specs.Ledgers.{noted}
use Rattle.meter.specs.States.{State, packet_leaves}
use Rattle.meter.specs.Meters.{windowed, state_of}
use Rattle.meter.specs.Holding.{Holds}
use Rattle.meter.proofs.Holdings.{packet_holds}
use Rattle.meter.proofs.meter.Meter.packet.Goals as goal

pub returns-clause-holds : goal.returns-clause-holds
returns-clause-holds g c =
    let m = g.C.FrameCounter.meaning in
    let met = g.met.C.FrameCounter in
    let s = state_of m c.args.self.now in
    let k = g.K.FlowKey.coded c.args.key.now in
    let w = c.args.weight in
    λ l h.
    let state : windowed m c.packet.new.counter c.packet.new.self ≡ packet_leaves m s k w = grind (arith, common_steps) in
    subst (λ (y : State m.Model). Holds m y (noted l k w)) (sym state) (packet_holds m s met.flushes met.adds met.heavy l k w h)
