use Rattle.std.proofs.Common.{◌-◌, ◌++◌, length, get_or, take, drop, refl}
use Rattle.std.specs.List.{refill}
use Rattle.flow.specs.Limits.{most_bound}
use Rattle.semi.proofs.Kept.{line_kept}
use Rattle.semi.proofs.Orders.{orderly_from}
use Rattle.semi.proofs.Steps.{Adds, entered, group_bound, grown, rising_drop, small_at}
use Rattle.std.proofs.lemmas.List.{take_rest}
use Rattle.semi.specs.Line.{blank}
use Rattle.semi.proofs.line.Line.add.Goals as goal
use Rattle.semi.proofs.line.Line.add.Goals.{After-regroup, After-seat}

-- a held code
held : (c : After-regroup) →
    let m = c.args.self.now in
    let xs = m.entries.items in
    let at = c.in-Some.at in
    let lent = c.deref_mut.result.now in
    Adds m.sizes.places m.sizes.step c.args.weight xs (get_or xs at blank).code
    (refill (length xs) xs (take at lent ++ (c.regroup.new.line ++ drop (length lent - at) (drop at lent)))) c.regroup.result
held c =
    let m = c.args.self.now in
    let xs = m.entries.items in
    let p = orderly_from m.sizes.step xs m.order in
    let e = rw c.deref.ensures.0 at c.raised-new.ensures in
    grown m.sizes.places m.sizes.step c.args.weight xs c.in-Some.at p.1 p.0 c.in-Some.ensures.0 c.raised-new.result e _ _
    c.deref_mut.ensures.value refl _ _ c.regroup.auto.line c.regroup.ensures.line c.regroup.ensures.passes

pub raised-new-requires-clause-sizes : goal.raised-new-requires-clause-sizes
raised-new-requires-clause-sizes c =
    let m = c.args.self.now in
    let xs = m.entries.items in
    rw c.deref.ensures.0 (
      small_at m.sizes.step xs c.in-Some.at (orderly_from m.sizes.step xs m.order).2 c.in-Some.ensures.0,
      group_bound m.sizes.step most_bound xs c.in-Some.at m.sizes.step_in c.in-Some.ensures.0 c.requires.fits,
    )

pub regroup-requires-clause-order : goal.regroup-requires-clause-order
regroup-requires-clause-order c =
    let m = c.args.self.now in
    let xs = m.entries.items in
    rw (c.deref_mut.ensures.value, take_rest xs c.in-Some.at) (rising_drop xs c.in-Some.at (orderly_from m.sizes.step xs m.order).0)

pub invariant_of-self : goal.invariant_of-self
invariant_of-self c =
    let m = c.args.self.now in
    let k = line_kept m.sizes.places m.sizes.step c.args.weight m.entries.items _ _ m.sizes.places_in.0 m.sizes.step_in m.few m.order (held (goal.at.invariant_of-self c).After-regroup).line in
    record { fine = m.fine; few = k.0; order = k.1 }

pub returns-in-Some-clause-entries : goal.returns-in-Some-clause-entries
returns-in-Some-clause-entries c = rw c.in-Some.ensures.1 at (held (goal.at.returns-in-Some-clause-entries c).After-regroup).line

pub returns-in-Some-clause-passes : goal.returns-in-Some-clause-passes
returns-in-Some-clause-passes c = rw c.in-Some.ensures.1 at (held (goal.at.returns-in-Some-clause-passes c).After-regroup).passes

-- an absent code
absent : (c : After-seat) →
    let m = c.args.self.now in
    Adds m.sizes.places m.sizes.step c.args.weight m.entries.items c.args.code c.seat.new.entries.items c.seat.result
absent c =
    let m = c.args.self.now in
    entered m.sizes.places m.sizes.step c.args.weight m.entries.items c.args.code c.in-None.ensures _ c.entering-start.ensures _ c.raised-new-in-None.ensures _ _
    c.seat.ensures.items c.seat.ensures.passes

pub seat-requires-clause-order : goal.seat-requires-clause-order
seat-requires-clause-order c =
    let m = c.args.self.now in
    (orderly_from m.sizes.step m.entries.items m.order).0

pub invariant_of-self-in-None : goal.invariant_of-self-in-None
invariant_of-self-in-None c =
    let m = c.args.self.now in
    let k = line_kept m.sizes.places m.sizes.step c.args.weight m.entries.items c.args.code _ m.sizes.places_in.0 m.sizes.step_in m.few m.order (absent (goal.at.invariant_of-self-in-None c).After-seat).line in
    record { fine = m.fine; few = k.0; order = k.1 }

pub returns-in-None-clause-entries : goal.returns-in-None-clause-entries
returns-in-None-clause-entries c = (absent (goal.at.returns-in-None-clause-entries c).After-seat).line

pub returns-in-None-clause-passes : goal.returns-in-None-clause-passes
returns-in-None-clause-passes c = (absent (goal.at.returns-in-None-clause-passes c).After-seat).passes
