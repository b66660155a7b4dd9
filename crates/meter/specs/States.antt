-- The calls of a meter, by the rules. Assumes nothing.
--   State             the accepted plan, the counter's model, the offset of the next packet in its frame, the marks of the previous frame and those of the present one
--   unplanned         a new meter
--   count_of          how many records a list has
--   table_leaves      the table after a list: its records in front, and the rest as it was
--   scratch_leaves    the scratch after a list: all zero
--   listing           of some flows, the records of those with an estimate of at least a level
--   plan_answer       what a plan is answered
--   plan_leaves       the state after a plan: an accepted one opens the counter
--   flushed_frame     the counter is flushed, and the marks made so far are those of the previous frame
--   begun             that is done at offset 0
--   left              if a mark that was made in this block one frame ago remains, the oldest mark is dropped
--   counted           the packet is added, marked if that is due, and the next offset follows
--   taken             these three, in this order
--   packet_answer     what a packet is answered: the counter's passes
--   packet_leaves     the state after a packet
--   estimate_in       the estimate of a flow: T (m + 2) + q mod T
--   estimate_for      what an estimate is answered, by the plan
--   estimate_answer   what an estimate is answered
--   list_in           the list at a level: flows with a mark, in the order of their oldest marks
--   list_for          what a list is answered, by the plan, for lengths of scratch and table
--   list_answer       what a list is answered
--   restart_answer    what a restart is answered
--   restart_leaves    the state after a restart
use Rattle.std.specs.Prelude.{ℕ, cond, List, [], ◌∷◌, ◌++◌, length, drop, replicate, Some, None, Option, ◌==◌, nat_le, nat_lt}
use Rattle.flow.specs.Answers.{Answer, answered, refused, after}
use Rattle.flow.specs.Limits.{least_scratch}
use Rattle.flow.specs.Meanings.{Meaning}
use Rattle.flow.specs.declared.code.Code.{Code}
use Rattle.frame.specs.declared.plan.Plan.{Plan}
use Rattle.frame.specs.declared.marks.Mark.{Mark}
use Rattle.frame.specs.Plans.{block_of, unit_of, least_level, next_offset}
use Rattle.frame.specs.Marking.{marked, dropped, marks_of, flow_estimate, flows}
use Rattle.meter.specs.declared.record.Record.{Record}
use Rattle.meter.specs.Ledgers.{plan_verdict, packet_verdict, restart_verdict}

pub record State (X : Type 0) : Type 0 where
  pub plan : Option Plan
  pub counter : X
  pub offset : ℕ
  pub older : List Mark
  pub newer : List Mark

abbrev pub unplanned : {X : Type 0} → X → State X
unplanned x = record { plan = None; counter = x; offset = 0; older = []; newer = [] }

abbrev pub count_of : Answer (List Record) → Answer ℕ
count_of (answered rs) = answered (length rs)
count_of (refused n) = refused n

abbrev pub table_leaves : Answer (List Record) → List Record → List Record
table_leaves (answered rs) table = rs ++ drop (length rs) table
table_leaves (refused n) table = table

abbrev pub scratch_leaves : Answer (List Record) → List ℕ → List ℕ
scratch_leaves (answered rs) scratch = replicate (length scratch) 0
scratch_leaves (refused n) scratch = scratch

abbrev pub listing : (Code → ℕ) → ℕ → List Code → List Record
listing est level [] = []
listing est level (k ∷ ks) = cond (nat_le level (est k)) (record { code = k; estimate = est k } ∷ listing est level ks) (listing est level ks)

module _ {C : Type 0} (m : Meaning C) where
  abbrev pub plan_answer : State m.Model → Plan → Answer (Unit {0})
  plan_answer s q = plan_verdict (m.greatest s.counter) s.plan q

  abbrev pub plan_leaves : State m.Model → Plan → State m.Model
  plan_leaves s q = after (plan_answer s q) s (record { plan = Some q; counter = m.opened s.counter q.places q.step; offset = 0; older = []; newer = [] })

  abbrev pub flushed_frame : State m.Model → State m.Model
  flushed_frame s = record { plan = s.plan; counter = m.flushed s.counter; offset = s.offset; older = s.older ++ s.newer; newer = [] }

  abbrev pub begun : State m.Model → State m.Model
  begun s = cond (s.offset == 0) (flushed_frame s) s

  abbrev pub left : Plan → State m.Model → State m.Model
  left p s = record { plan = s.plan; counter = s.counter; offset = s.offset; older = dropped (block_of p) s.offset s.older; newer = s.newer }

  abbrev pub counted : Plan → State m.Model → Code → ℕ → State m.Model
  counted p s k w = record {
    plan = s.plan;
    counter = m.added s.counter k w;
    offset = next_offset p s.offset;
    older = s.older;
    newer = marked (unit_of p) (m.estimate s.counter k) w (record { code = k; offset = s.offset }) s.newer;
  }

  abbrev pub taken : Option Plan → State m.Model → Code → ℕ → State m.Model
  taken None s k w = s
  taken (Some p) s k w = counted p (left p (begun s)) k w

  abbrev pub packet_answer : State m.Model → Code → ℕ → Answer ℕ
  packet_answer s k w = packet_verdict s.plan w (m.passes (begun s).counter k w)

  abbrev pub packet_leaves : State m.Model → Code → ℕ → State m.Model
  packet_leaves s k w = after (packet_answer s k w) s (taken s.plan s k w)

  abbrev pub estimate_in : State m.Model → Plan → Code → ℕ
  estimate_in s p k = flow_estimate (unit_of p) (marks_of k (s.older ++ s.newer)) (m.estimate s.counter k)

  abbrev pub estimate_for : Option Plan → State m.Model → Code → Answer ℕ
  estimate_for None s k = refused 17
  estimate_for (Some p) s k = answered (estimate_in s p k)

  abbrev pub estimate_answer : State m.Model → Code → Answer ℕ
  estimate_answer s k = estimate_for s.plan s k

  abbrev pub list_in : State m.Model → Plan → ℕ → List Record
  list_in s p level = listing (estimate_in s p) level (flows (s.older ++ s.newer))

  abbrev pub list_for : Option Plan → State m.Model → ℕ → ℕ → ℕ → Answer (List Record)
  list_for None s level scratch table = refused 17
  list_for (Some p) s level scratch table =
      cond (nat_lt level (least_level p)) (refused 11)
      (cond (nat_lt scratch least_scratch) (refused 12)
      (cond (nat_lt table (length (list_in s p level))) (refused 13)
      (answered (list_in s p level))))

  abbrev pub list_answer : State m.Model → ℕ → ℕ → ℕ → Answer (List Record)
  list_answer s level scratch table = list_for s.plan s level scratch table

  abbrev pub restart_answer : State m.Model → Answer (Unit {0})
  restart_answer s = restart_verdict s.plan

  abbrev pub restart_leaves : State m.Model → State m.Model
  restart_leaves s = after (restart_answer s) s (record { plan = s.plan; counter = m.flushed s.counter; offset = 0; older = []; newer = [] })
