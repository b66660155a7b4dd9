-- The state of a meter. Assumes nothing.
--   windowed   the state of a counter and a window
--   state_in   the state of a counter where there may be a window
--   state_of   the state that a meter is in
use Rattle.std.specs.Prelude.{Some, None, Option}
use Rattle.flow.specs.Meanings.{Meaning}
use Rattle.frame.specs.Marked.{older, newer}
use Rattle.meter.specs.declared.meter.Meter.{Meter}
use Rattle.meter.specs.declared.meter.Window.{Window}
use Rattle.meter.specs.States.{State, unplanned}

module _ {C : Type 0} (m : Meaning C) where
  abbrev pub windowed : C → Window → State m.Model
  windowed c w = record { plan = Some w.layout.plan; counter = m.model c; offset = w.offset; older = older w.marks; newer = newer w.marks }

  abbrev pub state_in : C → Option Window → State m.Model
  state_in c None = unplanned (m.model c)
  state_in c (Some w) = windowed c w

  abbrev pub state_of : Meter C → State m.Model
  state_of x = state_in x.counter x.window
