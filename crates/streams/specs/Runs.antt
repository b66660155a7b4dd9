-- Runs: the packets of a stream, metered in turn. Assumes nothing.
--   accounts       one more than the greatest account number
--   code_of        the code of a flow, an account
--   none           no packets and no passes
--   counted        with one more packet, of so many passes; a sum stops at the greatest number of 64 bits
--   Outcome        how a run ends: the state of the meter, the packets accepted and the sum of their passes, and the number by which a packet was refused
--   ended          the end that a call answers
--   going          it goes on where a packet is accepted, and ends where it is refused
--   offer_answer   what a packet of a stream is answered: 14 where its flow is no account, and else what the meter answers
--   offer_leaves   the state of the meter after it
--   run_from       the end of a run that takes so many packets from an index on, up to the first that is refused
--   Performed      what a run is answered on a new meter over a counter: how it ends under the plan, or the number by which the plan was refused
use Rattle.std.specs.Prelude.{◌≡◌, ℕ, zero, suc, ◌+◌, ◌^◌, cond, Some, None, Ok, Err, Option, Result, nat_lt}
use Rattle.std.specs.Option.{option_map}
use Rattle.text.specs.Reading.{capped}
use Rattle.flow.specs.Answers.{Answer, answered, refused}
use Rattle.flow.specs.Meanings.{Meaning}
use Rattle.flow.specs.Refusals.{number}
use Rattle.flow.specs.declared.code.Code.{Code}
use Rattle.flow.specs.declared.refusal.Refusal.{Refusal}
use Rattle.frame.specs.declared.plan.Plan.{Plan}
use Rattle.meter.specs.Meters.{state_of}
use Rattle.meter.specs.States.{State, unplanned, plan_answer, plan_leaves, packet_answer, packet_leaves}
use Rattle.streams.specs.Streams.{packet_at}
use Rattle.streams.specs.declared.run.Run.{Run}
use Rattle.streams.specs.declared.run.Totals.{Totals}
use Rattle.streams.specs.declared.stream.Packet.{Packet}
use Rattle.streams.specs.declared.stream.Stream.{Stream}

abbrev pub accounts : ℕ
accounts = 10 ^ 10

abbrev pub code_of : ℕ → Code
code_of flow = record { high = 0; low = flow }

abbrev pub none : Totals
none = record { packets = 0; passes = 0 }

abbrev pub counted : Totals → ℕ → Totals
counted t passes = record { packets = capped 64 (t.packets + 1); passes = capped 64 (t.passes + passes) }

pub record Outcome (X : Type 0) : Type 0 where
  pub state : State X
  pub totals : Totals
  pub refusal : Option ℕ

abbrev pub ended : {X : Type 0} → State X → Totals × Option Refusal → Outcome X
ended s r = record { state = s; totals = r.0; refusal = option_map number r.1 }

abbrev pub going : {X : Type 0} → Answer ℕ → State X → Totals → (ℕ → Outcome X) → Outcome X
going (answered x) s t go = go x
going (refused n) s t go = record { state = s; totals = t; refusal = Some n }

module _ {C : Type 0} (m : Meaning C) where
  abbrev pub offer_answer : State m.Model → Packet → Answer ℕ
  offer_answer s p = cond (nat_lt p.flow accounts) (packet_answer m s (code_of p.flow) p.weight) (refused 14)

  abbrev pub offer_leaves : State m.Model → Packet → State m.Model
  offer_leaves s p = cond (nat_lt p.flow accounts) (packet_leaves m s (code_of p.flow) p.weight) s

  abbrev pub run_from : Stream → ℕ → ℕ → State m.Model → Totals → Outcome m.Model
  run_from stream zero index s t = record { state = s; totals = t; refusal = None }
  run_from stream (suc n) index s t =
      going (offer_answer s (packet_at stream index)) s t
      (λ passes. run_from stream n (index + 1) (offer_leaves s (packet_at stream index)) (counted t passes))

  abbrev pub Performed : m.Model → Plan → Stream → ℕ → Result (Run C) Refusal → Type 0
  Performed x q stream packets (Ok r) =
      (plan_answer m (unplanned x) q ≡ answered tt) ×
      (ended (state_of m r.meter) (r.totals, r.refusal) ≡ run_from stream packets 0 (plan_leaves m (unplanned x) q) none)
  Performed x q stream packets (Err e) = plan_answer m (unplanned x) q ≡ refused (number e)
