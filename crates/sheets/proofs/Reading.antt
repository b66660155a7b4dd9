-- The guarantee, read.
use Rattle.std.proofs.Common.{◌≡◌, ℕ, ◌+◌, ◌*◌, Bool, true, false, cond, eqb, ltb, List, [], ◌∷◌, Some, None, Option, Ok, Err, refl, sym, ap, ◌∙◌, subst, take, mul_comm, mul_assoc, arith}
use Rattle.std.specs.List.{filter, sum_by}
use Rattle.std.proofs.lemmas.List.Sums.{sum_by-cons}
use Rattle.flow.specs.Answers.{Answer, answered, refused, after}
use Rattle.flow.specs.Codes.{same}
use Rattle.flow.specs.declared.code.Code.{Code}
use Rattle.frame.specs.declared.plan.Plan.{Plan}
use Rattle.frame.specs.Plans.{block_of}
use Rattle.frame.specs.Rolls.{Packet, volume_in}
use Rattle.frame.proofs.Accepting.{fair}
use Rattle.frame.proofs.Sized.{unit_is}
use Rattle.meter.specs.declared.day.Areas.{Areas}
use Rattle.meter.specs.declared.record.Record.{Record}
use Rattle.meter.specs.declared.day.Call.{Call}
use Rattle.meter.specs.declared.day.Call.TheVariants as call
use Rattle.meter.specs.declared.day.Reply.TheVariants as reply
use Rattle.meter.specs.Ledgers.{Ledger, plan_verdict, packet_verdict, restart_verdict}
use Rattle.meter.specs.Days.{Said, plan_said, packet_said, estimate_said, list_said, restart_said, step}
use Rattle.sheets.specs.Readings.{plan_then, roll_then, AnswersTell, SaidTells, Sums, Shares}

abbrev Told : Ledger → Call Code → Said → Ledger → Type 0
Told l c a y = (y.plan ≡ plan_then l.plan c a) × (y.roll ≡ roll_then l.roll c a)

planned : (l : Ledger) (q : Plan) (v : Answer (Unit {0})) → Told l (call.Plan q) (plan_said v) (after v l (record { greatest = l.greatest; plan = Some q; roll = [] }))
planned l q (answered tt) = (refl, refl)
planned l q (refused n) = (refl, refl)

-- a packet is refused or not whatever the passes
packed : (l : Ledger) (k : Code) (w x : ℕ) → Told l (call.Packet k w) (packet_said (packet_verdict l.plan w x)) (step (λ (j : Code). j) l (call.Packet k w))
packed l k w x = by l.plan
  where
    by : (o : Option Plan) → Told l (call.Packet k w) (packet_said (packet_verdict o w x)) (after (packet_verdict o w 0) l (record { greatest = l.greatest; plan = l.plan; roll = record { code = k; weight = w } ∷ l.roll }))
    by None = (refl, refl)
    by (Some p) = ways (eqb w 0) (ltb p.most w)
      where
        ways : (a b : Bool) → Told l (call.Packet k w) (packet_said (cond a (refused 9) (cond b (refused 10) (answered x)))) (after {A = ℕ} (cond a (refused 9) (cond b (refused 10) (answered 0))) l (record { greatest = l.greatest; plan = l.plan; roll = record { code = k; weight = w } ∷ l.roll }))
        ways true b = (refl, refl)
        ways false true = (refl, refl)
        ways false false = (refl, refl)

asked : (l : Ledger) (k : Code) (v : Answer ℕ) → Told l (call.Estimate k) (estimate_said v) l
asked l k (answered e) = (refl, refl)
asked l k (refused n) = (refl, refl)

listed : (l : Ledger) (level : ℕ) (areas : Areas) (v : Answer (List Record)) → Told l (call.List level areas) (list_said v) l
listed l level areas (answered rs) = (refl, refl)
listed l level areas (refused n) = (refl, refl)

restarted : (l : Ledger) (v : Answer (Unit {0})) → Told l call.Restart (restart_said v) (after v l (record { greatest = l.greatest; plan = l.plan; roll = [] }))
restarted l (answered tt) = (refl, refl)
restarted l (refused n) = (refl, refl)

pub answers_tell : AnswersTell
answers_tell l (call.Plan q) a h = subst (λ (y : Said). Told l (call.Plan q) y (step (λ (j : Code). j) l (call.Plan q))) (sym h) (planned l q (plan_verdict l.greatest l.plan q))
answers_tell l (call.Packet k w) a h = subst (λ (y : Said). Told l (call.Packet k w) y (step (λ (j : Code). j) l (call.Packet k w))) (sym h.2) (packed l k w h.0)
answers_tell l (call.Estimate k) a h = subst (λ (y : Said). Told l (call.Estimate k) y l) (sym h.2) (asked l k h.0)
answers_tell l (call.List level areas) a h = subst (λ (y : Said). Told l (call.List level areas) y l) (sym h.2) (listed l level areas h.0)
answers_tell l call.Restart a h = subst (λ (y : Said). Told l call.Restart y (step (λ (j : Code). j) l call.Restart)) (sym h) (restarted l (restart_verdict l.plan))

pub said_tells : SaidTells
said_tells (Ok reply.Planned) = refl
said_tells (Ok (reply.Took x)) = refl
said_tells (Ok (reply.Estimated e)) = refl
said_tells (Ok (reply.Listed v)) = (v, refl, refl)
said_tells (Ok reply.Restarted) = refl
said_tells (Err e) = (e, refl, refl)

sums : (k : Code) (xs : List Packet) → volume_in k xs ≡ sum_by (λ (x : Packet). x.weight) (filter (λ (x : Packet). same x.code k) xs)
sums k [] = refl
sums k (x ∷ xs) = by (same x.code k) (sums k xs)
  where
    weight : Packet → ℕ
    weight y = y.weight

    of_flow : List Packet
    of_flow = filter (λ (y : Packet). same y.code k) xs

    by : (b : Bool) → volume_in k xs ≡ sum_by weight of_flow → cond b x.weight 0 + volume_in k xs ≡ sum_by weight (cond b (x ∷ of_flow) of_flow)
    by true ih = ap (λ n. x.weight + n) ih ∙ sym (sum_by-cons weight x of_flow)
    by false ih = omega (arith, ih)

pub sums_weights : Sums
sums_weights window k roll = sums k (take window roll)

pub shares : Shares
shares greatest p taken =
    let kept = fair greatest p taken in
    omega (arith, ap (λ x. p.blocks * x) (unit_is p), mul_assoc p.blocks p.most (block_of p), ap (λ x. x * block_of p) (mul_comm p.blocks p.most), mul_assoc p.most p.blocks (block_of p), ap (λ x. p.most * x) kept.divides)
