-- A day: calls on one meter, one after the other, and their answers. The guarantee, in terms of calls, answers and true volumes alone. Assumes nothing.
--   Said      what a call is told: a refusal by its number
--   said      what an answer of the code says
--   plan_said, packet_said, estimate_said, list_said, restart_said   the answers of each call as what is said
--   step      the ledger after a call: what the calls alone decide, the roll of accepted packets among it (Ledgers)
--   Right     what a call may be told under a ledger: refusals are exactly those of the rules, passes are at most as many as the places, and estimates and lists are within the bounds of the true volumes of the roll (Guarantees)
--   Runs      what the calls of a list may be told, one after the other, from a ledger on
--   Day       what the calls of a day may be told, on a new meter over a counter of this greatest step: the guarantee
use Rattle.std.specs.Prelude.{◌≡◌, ℕ, ◌≤◌, List, [], ◌∷◌, Ok, Err, vec_items, Result}
use Rattle.flow.specs.Answers.{Answer, answered, refused}
use Rattle.flow.specs.Refusals.{number}
use Rattle.flow.specs.declared.code.Code.{Code}
use Rattle.flow.specs.declared.refusal.Refusal.{Refusal}
use Rattle.meter.specs.declared.record.Record.{Record}
use Rattle.meter.specs.declared.day.Call.{Call}
use Rattle.meter.specs.declared.day.Call.TheVariants as call
use Rattle.meter.specs.declared.day.Reply.{Reply}
use Rattle.meter.specs.declared.day.Reply.TheVariants as reply
use Rattle.meter.specs.Ledgers.{Ledger, fresh, plan_verdict, packet_verdict, restart_verdict, planned, noted, restarted}
use Rattle.meter.specs.Guarantees.{places_of, EstimateRight, ListRight}

pub data Said : Type 0 where
  says_planned : Said
  says_took : ℕ → Said
  says_estimate : ℕ → Said
  says_list : List Record → Said
  says_restarted : Said
  says_refused : ℕ → Said

abbrev pub said : Result Reply Refusal → Said
said (Ok reply.Planned) = says_planned
said (Ok (reply.Took x)) = says_took x
said (Ok (reply.Estimated e)) = says_estimate e
said (Ok (reply.Listed v)) = says_list (vec_items v)
said (Ok reply.Restarted) = says_restarted
said (Err e) = says_refused (number e)

abbrev pub plan_said : Answer (Unit {0}) → Said
plan_said (answered x) = says_planned
plan_said (refused n) = says_refused n

abbrev pub packet_said : Answer ℕ → Said
packet_said (answered x) = says_took x
packet_said (refused n) = says_refused n

abbrev pub estimate_said : Answer ℕ → Said
estimate_said (answered e) = says_estimate e
estimate_said (refused n) = says_refused n

abbrev pub list_said : Answer (List Record) → Said
list_said (answered rs) = says_list rs
list_said (refused n) = says_refused n

abbrev pub restart_said : Answer (Unit {0}) → Said
restart_said (answered x) = says_restarted
restart_said (refused n) = says_refused n

module _ {K : Type 0} (coded : K → Code) where
  abbrev pub step : Ledger → Call K → Ledger
  step l (call.Plan q) = planned l q
  step l (call.Packet k w) = noted l (coded k) w
  step l (call.Estimate k) = l
  step l (call.List level areas) = l
  step l call.Restart = restarted l

  abbrev pub Right : Ledger → Call K → Said → Type 0
  Right l (call.Plan q) a = a ≡ plan_said (plan_verdict l.greatest l.plan q)
  Right l (call.Packet k w) a = (x : ℕ) × (x ≤ places_of l.plan) × (a ≡ packet_said (packet_verdict l.plan w x))
  Right l (call.Estimate k) a = (e : Answer ℕ) × EstimateRight l.plan l.roll (coded k) e × (a ≡ estimate_said e)
  Right l (call.List level areas) a = (e : Answer (List Record)) × ListRight l.plan l.roll level areas e × (a ≡ list_said e)
  Right l call.Restart a = a ≡ restart_said (restart_verdict l.plan)

  abbrev pub Runs : Ledger → List (Call K) → List Said → Type 0
  Runs l [] [] = Unit {0}
  Runs l [] (a ∷ as') = ⊥
  Runs l (c ∷ cs) [] = ⊥
  Runs l (c ∷ cs) (a ∷ as') = Right l c a × Runs (step l c) cs as'

  abbrev pub Day : ℕ → List (Call K) → List Said → Type 0
  Day greatest = Runs (fresh greatest)
