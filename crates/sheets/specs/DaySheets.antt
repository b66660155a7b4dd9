-- A worked day, as facts about the guarantee alone: what it fixes of each answer, whatever the counter. Reckoned by hand. Assumes nothing.
--   Exactly         it is said just so
--   Took            some passes, at most so many
--   FromTo          an estimate from the one number to the other
--   ListsOne        a list of one flow alone, with such an estimate
--   ListsOneOrNone  such a list, or an empty one
--   areas_of        areas of a list: bytes of scratch, records of table
--   day_plan        5 places, step 1, greatest weight 10, a window of 8 packets, 4 blocks: T is 20
--   day_rows        the calls of the day, each with what is fixed of its answer
--   calls_of        the calls of such rows
--   Meets           answers are as the rows say, one for each
--   DayMet          some answers keep the guarantee of this day: those of a shared-deduction counter
--   DaySheet        whatever answers keep the guarantee of this day, over a counter whose greatest step is 1, are as its rows say
use Rattle.std.specs.Prelude.{◌≡◌, ℕ, ◌≤◌, ◌⊎◌, List, [], ◌∷◌}
use Rattle.flow.specs.declared.code.Code.{Code}
use Rattle.frame.specs.declared.plan.Plan.{Plan}
use Rattle.meter.specs.declared.day.Areas.{Areas}
use Rattle.meter.specs.declared.day.Call.{Call}
use Rattle.meter.specs.declared.day.Call.TheVariants as call
use Rattle.meter.specs.States.{unplanned}
use Rattle.meter.specs.Sequences.{day_said}
use Rattle.meter.specs.Days.{Said, says_planned, says_took, says_estimate, says_list, says_restarted, says_refused, Day}
use Rattle.shared.specs.Shared.{shared_opened, shared_meaning}
use Rattle.sheets.specs.CounterSheets.{A, B}

abbrev pub Exactly : Said → Said → Type 0
Exactly b a = a ≡ b

abbrev pub Took : ℕ → Said → Type 0
Took n a = (x : ℕ) × (x ≤ n) × (a ≡ says_took x)

abbrev pub FromTo : ℕ → ℕ → Said → Type 0
FromTo low high a = (e : ℕ) × (low ≤ e) × (e ≤ high) × (a ≡ says_estimate e)

abbrev pub ListsOne : Code → ℕ → ℕ → Said → Type 0
ListsOne k low high a = (e : ℕ) × (low ≤ e) × (e ≤ high) × (a ≡ says_list (record { code = k; estimate = e } ∷ []))

abbrev pub ListsOneOrNone : Code → ℕ → ℕ → Said → Type 0
ListsOneOrNone k low high a = (a ≡ says_list []) ⊎ ListsOne k low high a

abbrev pub areas_of : ℕ → ℕ → Areas
areas_of scratch table = record { scratch = scratch; table = table }

abbrev pub day_plan : Plan
day_plan = record { places = 5; step = 1; most = 10; window = 8; blocks = 4 }

abbrev pub day_rows : List (Call Code × (Said → Type 0))
day_rows =
    -- nothing but a plan is taken before one is
    (call.Estimate A, Exactly (says_refused 17)) ∷
    (call.List 0 (areas_of 0 0), Exactly (says_refused 17)) ∷
    (call.Restart, Exactly (says_refused 17)) ∷
    (call.Packet A 0, Exactly (says_refused 17)) ∷
    (call.Packet A 10, Exactly (says_refused 17)) ∷
    -- of plans with two things wrong, and at the very edge
    (call.Plan (record { places = 0; step = 2; most = 0; window = 0; blocks = 0 }), Exactly (says_refused 1)) ∷
    (call.Plan (record { places = 5; step = 2; most = 0; window = 0; blocks = 0 }), Exactly (says_refused 2)) ∷
    (call.Plan (record { places = 5; step = 1; most = 0; window = 0; blocks = 0 }), Exactly (says_refused 5)) ∷
    (call.Plan (record { places = 5; step = 1; most = 10; window = 0; blocks = 0 }), Exactly (says_refused 6)) ∷
    (call.Plan (record { places = 4; step = 1; most = 10; window = 8; blocks = 5 }), Exactly (says_refused 7)) ∷
    (call.Plan (record { places = 4; step = 1; most = 10; window = 8; blocks = 4 }), Exactly (says_refused 8)) ∷
    (call.Plan day_plan, Exactly says_planned) ∷
    (call.Plan (record { places = 0; step = 2; most = 0; window = 0; blocks = 0 }), Exactly (says_refused 17)) ∷
    (call.Plan day_plan, Exactly (says_refused 17)) ∷
    -- no refused packet counts
    (call.Estimate A, FromTo 0 79) ∷
    (call.Packet A 0, Exactly (says_refused 9)) ∷
    (call.Packet A 11, Exactly (says_refused 10)) ∷
    -- a window full of A: 80
    (call.Packet A 10, Took 5) ∷
    (call.Packet A 10, Took 5) ∷
    (call.Packet A 10, Took 5) ∷
    (call.Packet A 10, Took 5) ∷
    (call.Packet A 10, Took 5) ∷
    (call.Packet A 10, Took 5) ∷
    (call.Packet A 10, Took 5) ∷
    (call.Packet A 10, Took 5) ∷
    (call.Estimate A, FromTo 80 159) ∷
    (call.Estimate B, FromTo 0 79) ∷
    (call.List 80 (areas_of 510 510), ListsOne A 80 159) ∷
    (call.List 159 (areas_of 510 510), ListsOneOrNone A 80 159) ∷
    (call.List 160 (areas_of 510 0), Exactly (says_list [])) ∷
    (call.List 59 (areas_of 0 0), Exactly (says_refused 11)) ∷
    (call.List 60 (areas_of 509 0), Exactly (says_refused 12)) ∷
    (call.List 80 (areas_of 510 0), Exactly (says_refused 13)) ∷
    -- the oldest packet leaves the window
    (call.Packet B 1, Took 5) ∷
    (call.Estimate A, FromTo 70 149) ∷
    (call.Estimate B, FromTo 1 80) ∷
    -- an empty window under the same plan
    (call.Restart, Exactly says_restarted) ∷
    (call.Estimate A, FromTo 0 79) ∷
    (call.Packet A 10, Took 5) ∷
    (call.Estimate A, FromTo 10 89) ∷
    []

abbrev pub calls_of : List (Call Code × (Said → Type 0)) → List (Call Code)
calls_of [] = []
calls_of (r ∷ rs) = r.0 ∷ calls_of rs

abbrev pub Meets : List (Call Code × (Said → Type 0)) → List Said → Type 0
Meets [] [] = Unit {0}
Meets [] (a ∷ as') = ⊥
Meets (r ∷ rs) [] = ⊥
Meets (r ∷ rs) (a ∷ as') = r.1 a × Meets rs as'

abbrev pub DayMet : Type 0
DayMet = Day (λ (k : Code). k) 1 (calls_of day_rows) (day_said (λ (k : Code). k) shared_meaning (unplanned (shared_opened 1)) (calls_of day_rows))

abbrev pub DaySheet : Type 0
DaySheet = (answers : List Said) → Day (λ (k : Code). k) 1 (calls_of day_rows) answers → Meets day_rows answers
