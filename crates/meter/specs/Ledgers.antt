-- The ledger of a meter: what the calls alone decide of it. Assumes nothing.
--   Ledger            the counter's greatest step, the accepted plan, and the roll of accepted packets, the newest first
--   fresh             the ledger of a new meter
--   plan_verdict      what a plan is answered: 17 where there is one, else by its numbers
--   packet_verdict    what a packet of weight w is answered, where the counter's passes are x
--   level_verdict     what the level of a list is answered: 17 without a plan, else by the plan
--   restart_verdict   what a restart is answered
--   planned           the ledger after a plan: if it was accepted, the roll is empty
--   noted             the ledger after a packet: if it was accepted, it stands on the roll
--   restarted         the ledger after a restart: if it was accepted, the roll is empty
use Rattle.std.specs.Prelude.{ℕ, cond, List, [], ◌∷◌, Some, None, Option, ◌==◌, nat_lt}
use Rattle.flow.specs.Answers.{Answer, answered, refused, after}
use Rattle.flow.specs.declared.code.Code.{Code}
use Rattle.frame.specs.declared.plan.Plan.{Plan}
use Rattle.frame.specs.Plans.{judged, level_judged}
use Rattle.frame.specs.Rolls.{Packet}

pub record Ledger : Type 0 where
  pub greatest : ℕ
  pub plan : Option Plan
  pub roll : List Packet

abbrev pub fresh : ℕ → Ledger
fresh g = record { greatest = g; plan = None; roll = [] }

abbrev pub plan_verdict : ℕ → Option Plan → Plan → Answer (Unit {0})
plan_verdict g None q = judged g q
plan_verdict g (Some p) q = refused 17

abbrev pub packet_verdict : Option Plan → ℕ → ℕ → Answer ℕ
packet_verdict None w x = refused 17
packet_verdict (Some p) w x = cond (w == 0) (refused 9) (cond (nat_lt p.most w) (refused 10) (answered x))

abbrev pub level_verdict : Option Plan → ℕ → Answer (Unit {0})
level_verdict None level = refused 17
level_verdict (Some p) level = level_judged p level

abbrev pub restart_verdict : Option Plan → Answer (Unit {0})
restart_verdict None = refused 17
restart_verdict (Some p) = answered tt

abbrev pub planned : Ledger → Plan → Ledger
planned l q = after (plan_verdict l.greatest l.plan q) l (record { greatest = l.greatest; plan = Some q; roll = [] })

abbrev pub noted : Ledger → Code → ℕ → Ledger
noted l k w = after (packet_verdict l.plan w 0) l (record { greatest = l.greatest; plan = l.plan; roll = record { code = k; weight = w } ∷ l.roll })

abbrev pub restarted : Ledger → Ledger
restarted l = after (restart_verdict l.plan) l (record { greatest = l.greatest; plan = l.plan; roll = [] })
