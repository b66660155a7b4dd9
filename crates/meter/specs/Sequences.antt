-- The answers of a day by the rules, over a counter of any meaning. Assumes nothing.
--   call_said     what a call is told
--   call_leaves   the state after a call
--   day_said      what the calls of a list are told, one after the other
--   day_leaves    the state after them
use Rattle.std.specs.Prelude.{List, [], ◌∷◌}
use Rattle.flow.specs.Meanings.{Meaning}
use Rattle.flow.specs.declared.code.Code.{Code}
use Rattle.meter.specs.declared.day.Call.{Call}
use Rattle.meter.specs.declared.day.Call.TheVariants as call
use Rattle.meter.specs.States.{State, plan_answer, plan_leaves, packet_answer, packet_leaves, estimate_answer, list_answer, restart_answer, restart_leaves}
use Rattle.meter.specs.Days.{Said, plan_said, packet_said, estimate_said, list_said, restart_said}

module _ {K : Type 0} (coded : K → Code) {C : Type 0} (m : Meaning C) where
  abbrev pub call_said : State m.Model → Call K → Said
  call_said s (call.Plan q) = plan_said (plan_answer m s q)
  call_said s (call.Packet k w) = packet_said (packet_answer m s (coded k) w)
  call_said s (call.Estimate k) = estimate_said (estimate_answer m s (coded k))
  call_said s (call.List level areas) = list_said (list_answer m s level areas.scratch areas.table)
  call_said s call.Restart = restart_said (restart_answer m s)

  abbrev pub call_leaves : State m.Model → Call K → State m.Model
  call_leaves s (call.Plan q) = plan_leaves m s q
  call_leaves s (call.Packet k w) = packet_leaves m s (coded k) w
  call_leaves s (call.Estimate k) = s
  call_leaves s (call.List level areas) = s
  call_leaves s call.Restart = restart_leaves m s

  abbrev pub day_said : State m.Model → List (Call K) → List Said
  day_said s [] = []
  day_said s (c ∷ cs) = call_said s c ∷ day_said (call_leaves s c) cs

  abbrev pub day_leaves : State m.Model → List (Call K) → State m.Model
  day_leaves s [] = s
  day_leaves s (c ∷ cs) = day_leaves (call_leaves s c) cs
