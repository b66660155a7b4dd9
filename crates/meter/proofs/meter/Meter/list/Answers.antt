-- The records in front of the table are the list by the rules.
use Rattle.std.proofs.Common.{◌≤◌, ◌++◌, length, take, drop, Some, Option, refl, sym, ap, ◌∙◌, subst, arith, take_all}
use Rattle.std.proofs.lemmas.Bool.{ltb-false}
use Rattle.meter.specs.declared.meter.Window.{Window}
use Rattle.meter.specs.Guarantees.{ListsUnder}
use Rattle.meter.specs.States.{list_in}
use Rattle.meter.specs.Meters.{windowed, state_in}
use Rattle.meter.specs.Holding.{Holds}
use Rattle.meter.proofs.Answering.{list_few}
use Rattle.meter.proofs.Listing.{level_high, list_right, taken-front, marks_within}
use Rattle.meter.proofs.meter.Meter.list.Goals as goal

pub returns-clause-few : goal.returns-clause-few
returns-clause-few g c =
    let m = g.C.FrameCounter.meaning in
    let x = c.args.self.now.counter in
    let w = c.in-Some.window in
    omega (arith, c.list_into-count.ensures.count, list_few m (windowed m x w) w.layout.plan c.args.level, marks_within m x (Some w))

pub returns-clause-bounds : goal.returns-clause-bounds
returns-clause-bounds g c =
    let m = g.C.FrameCounter.meaning in
    let x = c.args.self.now.counter in
    let s = windowed m x c.in-Some.window in
    let p = c.in-Some.window.layout.plan in
    let high = level_high p c.args.level c.in_ok-check_level.ensures in
    let rs = list_in m s p c.args.level in
    let n = c.list_into-count.result in
    let long = length c.args.table.now in
    let behind = drop n c.args.table.now in
    let room : length rs ≤ long = ltb-false long (length rs) (sym c.list_exceeds.ensures ∙ c.if-list_exceeds.false) in
    let front = ap (take n) (c.list_into-count.ensures.table ∙ ap (λ xs. xs ++ behind) (take_all long rs room)) ∙ taken-front rs behind n c.list_into-count.ensures.count in
    λ l h. subst (ListsUnder l.plan l.roll c.args.level) (sym front) (list_right m s p c.args.level refl high l (subst (λ (w : Option Window). Holds m (state_in m x w) l) c.in-Some.is h))
