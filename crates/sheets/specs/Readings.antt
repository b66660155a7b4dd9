-- The guarantee read from a day's calls and answers, and with the words of the library. Assumes nothing.
--   plan_then     the plan after a call and its answer: one that is answered as planned, else the one before
--   roll_then     the packets that count after a call and its answer, the newest first: a packet that is answered by passes is put on, and the answers planned and restarted begin anew
--   AnswersTell   a right answer tells so what plan and roll the ledger has after its call
--   Tells         what is said tells which answer it was: passes, an estimate, records, or a refusal of that number
--   SaidTells     it does so of every answer
--   Sums          the true volume of a flow is the sum of the weights of its packets among the newest W
--   Shares        k units of an accepted plan are M W
use Rattle.std.specs.Prelude.{◌≡◌, ℕ, ◌*◌, List, [], ◌∷◌, Ok, Err, Some, Option, Result, Vec, vec_items, take, filter, sum_by}
use Rattle.std.specs.declared.alloc.Global.{Global}
use Rattle.flow.specs.Answers.{answered}
use Rattle.flow.specs.Codes.{same}
use Rattle.flow.specs.Refusals.{number}
use Rattle.flow.specs.declared.code.Code.{Code}
use Rattle.flow.specs.declared.refusal.Refusal.{Refusal}
use Rattle.frame.specs.declared.plan.Plan.{Plan}
use Rattle.frame.specs.Plans.{judged, unit_of}
use Rattle.frame.specs.Rolls.{Packet, true_volume}
use Rattle.meter.specs.declared.day.Call.{Call}
use Rattle.meter.specs.declared.day.Call.TheVariants as call
use Rattle.meter.specs.declared.day.Reply.{Reply}
use Rattle.meter.specs.declared.day.Reply.TheVariants as reply
use Rattle.meter.specs.declared.record.Record.{Record}
use Rattle.meter.specs.Ledgers.{Ledger}
use Rattle.meter.specs.Days.{Said, says_planned, says_took, says_estimate, says_list, says_restarted, says_refused, said, step, Right}

abbrev pub plan_then : Option Plan → Call Code → Said → Option Plan
plan_then o (call.Plan q) says_planned = Some q
plan_then o c a = o

abbrev pub roll_then : List Packet → Call Code → Said → List Packet
roll_then roll (call.Packet k w) (says_took x) = record { code = k; weight = w } ∷ roll
roll_then roll c says_planned = []
roll_then roll c says_restarted = []
roll_then roll c a = roll

abbrev pub AnswersTell : Type 0
AnswersTell = (l : Ledger) (c : Call Code) (a : Said) → Right (λ (k : Code). k) l c a →
    ((step (λ (k : Code). k) l c).plan ≡ plan_then l.plan c a) × ((step (λ (k : Code). k) l c).roll ≡ roll_then l.roll c a)

abbrev pub Tells : Result Reply Refusal → Said → Type 0
Tells r says_planned = r ≡ Ok reply.Planned
Tells r (says_took x) = r ≡ Ok (reply.Took x)
Tells r (says_estimate e) = r ≡ Ok (reply.Estimated e)
Tells r (says_list rs) = (v : Vec Record Global) × (vec_items v ≡ rs) × (r ≡ Ok (reply.Listed v))
Tells r says_restarted = r ≡ Ok reply.Restarted
Tells r (says_refused n) = (e : Refusal) × (number e ≡ n) × (r ≡ Err e)

abbrev pub SaidTells : Type 0
SaidTells = (r : Result Reply Refusal) → Tells r (said r)

abbrev pub Sums : Type 0
Sums = (window : ℕ) (k : Code) (roll : List Packet) → true_volume window k roll ≡ sum_by (λ (x : Packet). x.weight) (filter (λ (x : Packet). same x.code k) (take window roll))

abbrev pub Shares : Type 0
Shares = (greatest : ℕ) (p : Plan) → judged greatest p ≡ answered tt → p.blocks * unit_of p ≡ p.most * p.window
