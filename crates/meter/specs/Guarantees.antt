-- The guarantee: what an answer says of the true volumes of the roll. Assumes nothing.
--   Within          an estimate is at least the true volume and exceeds it by less than 4 T
--   records_of      how many records of a list are of a flow
--   Lists           a list at level H has every flow with a true volume of H or more once, no flow whose true volume plus 4 T is at most H, no flow twice, and its estimates are within the bounds
--   places_of       the places of the plan
--   ListsUnder      a list keeps the guarantee under the plan
--   EstimateRight   the answers that an estimate may have under a ledger
--   ListRight       the answers that a list with areas of some lengths may have under a ledger
use Rattle.std.specs.Prelude.{◌≡◌, ℕ, ◌+◌, ◌<◌, ◌≤◌, cond, List, length, map, Some, None, MatchBool, Option, nat_lt}
use Rattle.std.specs.List.{AllByRecursion}
use Rattle.flow.specs.Answers.{Answer, answered, refused}
use Rattle.flow.specs.Limits.{least_scratch}
use Rattle.flow.specs.declared.code.Code.{Code}
use Rattle.frame.specs.declared.plan.Plan.{Plan}
use Rattle.frame.specs.Marking.{times}
use Rattle.frame.specs.Plans.{least_level, error_of}
use Rattle.frame.specs.Rolls.{Packet, true_volume}
use Rattle.meter.specs.declared.day.Areas.{Areas}
use Rattle.meter.specs.declared.record.Record.{Record}

abbrev pub Within : Plan → List Packet → Code → ℕ → Type 0
Within p roll k e = (true_volume p.window k roll ≤ e) × (e < true_volume p.window k roll + error_of p)

abbrev pub records_of : Code → List Record → ℕ
records_of k rs = times k (map (λ (r : Record). r.code) rs)

pub record Lists (p : Plan) (roll : List Packet) (level : ℕ) (rs : List Record) : Type 0 where
  pub heavy : (k : Code) → level ≤ true_volume p.window k roll → records_of k rs ≡ 1
  pub light : (k : Code) → true_volume p.window k roll + error_of p ≤ level → records_of k rs ≡ 0
  pub once : (k : Code) → records_of k rs ≤ 1
  pub within : AllByRecursion (λ r. Within p roll r.code r.estimate) rs

abbrev pub places_of : Option Plan → ℕ
places_of None = 0
places_of (Some p) = p.places

abbrev pub ListsUnder : Option Plan → List Packet → ℕ → List Record → Type 0
ListsUnder None roll level rs = ⊥
ListsUnder (Some p) roll level rs = Lists p roll level rs

-- 17 without a plan; else an estimate within the bounds
abbrev pub EstimateRight : Option Plan → List Packet → Code → Answer ℕ → Type 0
EstimateRight None roll k a = a ≡ refused 17
EstimateRight (Some p) roll k a = (e : ℕ) × (a ≡ answered e) × Within p roll k e

-- 17 without a plan; 11 where the level is below 3 T; 12 where the scratch is too short; else there is a list that keeps the guarantee: 13 where the table is shorter, and else that list
abbrev pub ListRight : Option Plan → List Packet → ℕ → Areas → Answer (List Record) → Type 0
ListRight None roll level areas a = a ≡ refused 17
ListRight (Some p) roll level areas a =
    MatchBool (nat_lt level (least_level p)) (a ≡ refused 11)
    (MatchBool (nat_lt areas.scratch least_scratch) (a ≡ refused 12)
    ((rs : List Record) × Lists p roll level rs × (a ≡ cond (nat_lt areas.table (length rs)) (refused 13) (answered rs))))
