-- A list that is lent areas as long as every list needs is refused as with longer ones.
use Rattle.std.proofs.Common.{refl}
use Rattle.meter.specs.Meters.{state_of}
use Rattle.meter.proofs.Listing.{marks_within, refused_capped}
use Rattle.meter.proofs.meter.Meter.listing.Goals as goal

pub returns-in-Err : goal.returns-in-Err
returns-in-Err g c =
    let m = g.C.FrameCounter.meaning in
    let x = c.args.self.now in
    refused_capped m (state_of m x) c.args.level c.args.areas.scratch c.args.areas.table _ _ _ _ _ c.min.ensures c.min-2.ensures refl refl (marks_within m x.counter x.window) c.in-Err.ensures.answer
