-- What the counters and the meter answer when their sheets are run. Assumes nothing.
--   semi_answers     the answers of the semi-ordered counter
--   shared_answers   the answers of the shared-deduction counter
--   before           the records of a table before a list is written to it
--   MeterRuns        the answers of the meter are these
use Rattle.std.specs.Prelude.{◌≡◌, List, [], ◌∷◌, map}
use Rattle.flow.specs.Answers.{answered, refused, told}
use Rattle.meter.specs.declared.record.Record.{Record}
use Rattle.sheets.specs.declared.counting.SemiAnswers.{SemiAnswers}
use Rattle.sheets.specs.declared.counting.SharedAnswers.{SharedAnswers}
use Rattle.sheets.specs.declared.metering.MeterAnswers.{MeterAnswers}
use Rattle.sheets.specs.CounterSheets.{flow, A}

abbrev pub semi_answers : SemiAnswers
semi_answers = record { first_a = 7; first_b = 25; first_absent = 9; second_c = 12; second_a = 19; third_c = 42 }

abbrev pub shared_answers : SharedAnswers
shared_answers = record { first_deduction = 3; first_a = 5; first_b = 3; first_c = 4; second_deduction = 4; second_a = 5; second_b = 4 }

abbrev pub before : List Record
before = record { code = flow 8; estimate = 1 } ∷ record { code = flow 9; estimate = 2 } ∷ []

pub record MeterRuns (r : MeterAnswers) : Type 0 where
  pub step_five : told r.step_five ≡ answered tt
  pub step_six : told r.step_six ≡ refused 8
  pub fresh : map told r.fresh ≡ answered 40 ∷ answered 40 ∷ []
  pub rising : map told r.rising ≡ answered 50 ∷ answered 60 ∷ answered 70 ∷ answered 80 ∷ []
  pub last : map told r.last ≡ answered 60 ∷ answered 50 ∷ []
  pub passes : map told r.passes ≡ answered 0 ∷ answered 0 ∷ answered 0 ∷ answered 0 ∷ answered 0 ∷ []
  pub level_60_count : told r.level_60.count ≡ answered 1
  pub level_60_table : r.level_60.table ≡ record { code = A; estimate = 60 } ∷ record { code = flow 9; estimate = 2 } ∷ []
  pub level_61_count : told r.level_61.count ≡ answered 0
  pub level_61_table : r.level_61.table ≡ before
  pub level_59_count : told r.level_59.count ≡ refused 11
  pub level_59_table : r.level_59.table ≡ before
