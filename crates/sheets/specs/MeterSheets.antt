-- Two worked sheets of a meter over a semi-ordered counter, as facts about the rules. Assumes nothing.
--   plan_of_step      3 places, greatest weight 10, a window of 4 packets, 2 blocks, and this step
--   plan              that plan with step 1
--   unplanned_state   a new meter
--   planned_state     under the plan, with no packet
--   a_once, a_twice, a_thrice, a_four_times   after A 10 so many times
--   with_b            then B 10
--   MeterSheet        the greatest step that is accepted; the estimates with no packet, after each A 10 and after B 10; the passes of each packet; the lists at three levels
--   packet            a packet of a sheet
--   metered           the state after packets, the first of them first
--   estimates         what A, B, C and D are estimated at
--   told_of           of each packet, its answer and the estimates behind it
--   three_frames      twelve packets that are accepted, and A 11 among them, which is not
--   FramesSheet       what they are told, and lists of two flows before and after marks are dropped
use Rattle.std.specs.Prelude.{◌≡◌, ℕ, ◌≤◌, List, [], ◌∷◌, take}
use Rattle.flow.specs.Answers.{Answer, answered, refused}
use Rattle.flow.specs.Limits.{least_scratch}
use Rattle.flow.specs.declared.code.Code.{Code}
use Rattle.semi.specs.Semi.{SemiModel, semi_opened, semi_meaning}
use Rattle.frame.specs.declared.plan.Plan.{Plan}
use Rattle.frame.specs.Plans.{unit_of}
use Rattle.frame.specs.Rolls.{Packet}
use Rattle.meter.specs.States.{State, unplanned, plan_answer, plan_leaves, packet_answer, packet_leaves, estimate_in, estimate_answer, list_answer}
use Rattle.sheets.specs.CounterSheets.{A, B, C, D}

abbrev pub plan_of_step : ℕ → Plan
plan_of_step s = record { places = 3; step = s; most = 10; window = 4; blocks = 2 }

abbrev pub plan : Plan
plan = plan_of_step 1

abbrev pub unplanned_state : State SemiModel
unplanned_state = unplanned (semi_opened 1 1)

abbrev pub planned_state : State SemiModel
planned_state = plan_leaves semi_meaning unplanned_state plan

abbrev pub a_once : State SemiModel
a_once = packet_leaves semi_meaning planned_state A 10

abbrev pub a_twice : State SemiModel
a_twice = packet_leaves semi_meaning a_once A 10

abbrev pub a_thrice : State SemiModel
a_thrice = packet_leaves semi_meaning a_twice A 10

abbrev pub a_four_times : State SemiModel
a_four_times = packet_leaves semi_meaning a_thrice A 10

abbrev pub with_b : State SemiModel
with_b = packet_leaves semi_meaning a_four_times B 10

pub record MeterSheet : Type 0 where
  pub step_one : plan_answer semi_meaning unplanned_state plan ≡ answered tt
  pub step_five : plan_answer semi_meaning unplanned_state (plan_of_step 5) ≡ answered tt
  pub step_six : plan_answer semi_meaning unplanned_state (plan_of_step 6) ≡ refused 8
  pub unit : unit_of plan ≡ 20
  pub fresh : (k : Code) → estimate_answer semi_meaning planned_state k ≡ answered 40
  pub first_passes : packet_answer semi_meaning planned_state A 10 ≡ answered 0
  pub first_a : estimate_answer semi_meaning a_once A ≡ answered 50
  pub second_passes : packet_answer semi_meaning a_once A 10 ≡ answered 0
  pub second_a : estimate_answer semi_meaning a_twice A ≡ answered 60
  pub third_passes : packet_answer semi_meaning a_twice A 10 ≡ answered 0
  pub third_a : estimate_answer semi_meaning a_thrice A ≡ answered 70
  pub fourth_passes : packet_answer semi_meaning a_thrice A 10 ≡ answered 0
  pub fourth_a : estimate_answer semi_meaning a_four_times A ≡ answered 80
  pub b_passes : packet_answer semi_meaning a_four_times B 10 ≡ answered 0
  pub then_a : estimate_answer semi_meaning with_b A ≡ answered 60
  pub then_b : estimate_answer semi_meaning with_b B ≡ answered 50
  -- the scratch and the table have these lengths
  pub level_60 : (scratch table : ℕ) → least_scratch ≤ scratch → 1 ≤ table → list_answer semi_meaning with_b 60 scratch table ≡ answered (record { code = A; estimate = 60 } ∷ [])
  pub level_61 : (scratch table : ℕ) → least_scratch ≤ scratch → list_answer semi_meaning with_b 61 scratch table ≡ answered []
  pub level_59 : (scratch table : ℕ) → list_answer semi_meaning with_b 59 scratch table ≡ refused 11

abbrev pub packet : Code → ℕ → Packet
packet k w = record { code = k; weight = w }

abbrev pub metered : List Packet → State SemiModel → State SemiModel
metered [] s = s
metered (x ∷ xs) s = metered xs (packet_leaves semi_meaning s x.code x.weight)

abbrev pub estimates : State SemiModel → List ℕ
estimates s = estimate_in semi_meaning s plan A ∷ estimate_in semi_meaning s plan B ∷ estimate_in semi_meaning s plan C ∷ estimate_in semi_meaning s plan D ∷ []

abbrev pub told_of : List Packet → State SemiModel → List (Answer ℕ × List ℕ)
told_of [] s = []
told_of (x ∷ xs) s = (packet_answer semi_meaning s x.code x.weight, estimates (packet_leaves semi_meaning s x.code x.weight)) ∷ told_of xs (packet_leaves semi_meaning s x.code x.weight)

abbrev pub three_frames : List Packet
three_frames =
    packet A 10 ∷ packet B 10 ∷ packet A 10 ∷ packet B 10 ∷
    packet A 10 ∷ packet A 10 ∷ packet A 11 ∷ packet B 6 ∷ packet C 3 ∷
    packet B 4 ∷ packet C 6 ∷ packet A 9 ∷ packet D 10 ∷ []

pub record FramesSheet : Type 0 where
  pub told : told_of three_frames planned_state ≡
      (answered 0, 50 ∷ 40 ∷ 40 ∷ 40 ∷ []) ∷
      (answered 0, 50 ∷ 50 ∷ 40 ∷ 40 ∷ []) ∷
      (answered 0, 60 ∷ 50 ∷ 40 ∷ 40 ∷ []) ∷
      (answered 0, 60 ∷ 60 ∷ 40 ∷ 40 ∷ []) ∷
      (answered 0, 70 ∷ 60 ∷ 40 ∷ 40 ∷ []) ∷
      (answered 0, 80 ∷ 60 ∷ 40 ∷ 40 ∷ []) ∷
      (refused 10, 80 ∷ 60 ∷ 40 ∷ 40 ∷ []) ∷
      (answered 0, 60 ∷ 66 ∷ 40 ∷ 40 ∷ []) ∷
      (answered 0, 60 ∷ 46 ∷ 43 ∷ 43 ∷ []) ∷
      (answered 0, 40 ∷ 44 ∷ 40 ∷ 40 ∷ []) ∷
      (answered 1, 40 ∷ 44 ∷ 46 ∷ 40 ∷ []) ∷
      (answered 2, 49 ∷ 44 ∷ 46 ∷ 44 ∷ []) ∷
      (answered 2, 49 ∷ 46 ∷ 46 ∷ 54 ∷ []) ∷
      []
  -- the flow of the oldest mark comes first, and not the larger one
  pub sixth_list : list_answer semi_meaning (metered (take 6 three_frames) planned_state) 60 510 510 ≡ answered (record { code = A; estimate = 80 } ∷ record { code = B; estimate = 60 } ∷ [])
  pub eighth_list : list_answer semi_meaning (metered (take 8 three_frames) planned_state) 60 510 510 ≡ answered (record { code = B; estimate = 66 } ∷ record { code = A; estimate = 60 } ∷ [])
