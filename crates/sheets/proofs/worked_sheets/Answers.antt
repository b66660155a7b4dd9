use Rattle.std.proofs.Common.{◌≡◌, ℕ, Ok, Err, Result, refl, sym}
use native.Mathlib.Omega.{arith}
use Rattle.std.proofs.lemmas.Bool.Decides.{nat_tests}
use Rattle.flow.proofs.Inside.{refused_not}
use Rattle.flow.specs.Answers.{refused, told, Unchanged}
use Rattle.flow.specs.declared.refusal.Refusal.{Refusal}
use Rattle.frame.specs.Plans.{block_of, unit_of}
use Rattle.semi.specs.Estimates.{estimate_full}
use Rattle.semi.proofs.Orders.{placed_last}
use Rattle.sheets.specs.CounterSheets.{SemiSheet, SemiPlaces, SharedSheet, semi_first}
use Rattle.sheets.specs.KeySheets.{PrefixSheet, AccountSheet}
use Rattle.sheets.specs.MeterSheets.{MeterSheet, FramesSheet}
use Rattle.sheets.specs.RefusalSheets.{OpenSheet, AddSheet, LeftSheet}
use Rattle.sheets.proofs.Daily.{day_met, day_sheet}
use Rattle.sheets.proofs.Reading.{answers_tell, said_tells, sums_weights, shares}
use Rattle.sheets.proofs.worked_sheets.Goals as goal

prefixes : PrefixSheet
prefixes = record {
  length_8 = refl;
  length_9 = refl;
  ninth_bit = refl;
  length_32 = refl;
  length_0 = refl;
  last_bit_beyond = refl;
  next_bit_beyond = refl;
  length_33 = refl;
  four_bytes = refl;
  six_bytes = refl;
}

accounts : AccountSheet
accounts = record {
  account_42 = refl;
  last_account = refl;
  two_digits = refl;
  eleven_digits = refl;
  a_space = refl;
  below_the_digits = refl;
  above_the_digits = refl;
}

opens : OpenSheet
opens = record {
  semi_ordered_steps = refl;
  shared_deduction_steps = refl;
  least = refl;
  most = refl;
  no_places = refl;
  places_257 = refl;
  no_step = refl;
  step_11 = refl;
  places_come_first = refl;
}

adds : AddSheet
adds = record {
  least = refl;
  most = refl;
  no_weight = refl;
  weight_1048577 = refl;
  full = refl;
  weight_comes_first = refl;
}

left_alone : (r : Result ℕ Refusal) (n old new : ℕ) → told r ≡ refused n → Unchanged r old new → new ≡ old
left_alone (Ok a) n old new t u = absurd (refused_not n a (sym t))
left_alone (Err e) n old new t u = u

left : LeftSheet
left = record {
  told_number = refl;
  told_answer = refl;
  after_refusal = λ old new. refl;
  after_answer = λ old new. refl;
  unchanged = left_alone;
}

semi : SemiSheet
semi = record {
  first_a = refl;
  first_b = refl;
  first_absent = λ k h. estimate_full 2 10 semi_first.line k h (omega arith);
  second_passes = refl;
  second_a_left = refl;
  second_c = refl;
  second_a = refl;
  third_passes = refl;
  third_c = refl;
  third_line = refl;
}

semi_places : SemiPlaces
semi_places = record {
  evicts_the_first = refl;
  behind_its_equals = refl;
  behind_in_front = refl;
  stays = refl;
  rounds_the_sum = refl;
  counts_groups = refl;
}

shared : SharedSheet
shared = record {
  full_places = refl;
  full_passes = refl;
  first_passes = refl;
  first_places = refl;
  first_deduction = refl;
  first_a = refl;
  first_b = refl;
  first_c = refl;
  held_passes = refl;
  second_passes = refl;
  second_places = refl;
  second_deduction = refl;
  second_e_out = refl;
  second_a = refl;
  second_b = refl;
}

meter : MeterSheet
unfolding block_of unit_of
meter = record {
  step_one = refl;
  step_five = refl;
  step_six = refl;
  unit = refl;
  fresh = λ k. refl;
  first_passes = refl;
  first_a = refl;
  second_passes = refl;
  second_a = refl;
  third_passes = refl;
  third_a = refl;
  fourth_passes = refl;
  fourth_a = refl;
  b_passes = refl;
  then_a = refl;
  then_b = refl;
  level_60 = λ scratch table h h'. grind (arith, nat_tests);
  level_61 = λ scratch table h. grind (arith, nat_tests);
  level_59 = λ scratch table. refl;
}

frames : FramesSheet
unfolding block_of unit_of
frames = record {
  told = refl;
  sixth_list = refl;
  eighth_list = refl;
}

pub returns : goal.returns
returns c = record {
  sheets_stand = record { prefixes = prefixes; accounts = accounts; opens = opens; adds = adds; left = left; semi = semi; semi_places = semi_places; shared = shared; meter = meter; frames = frames; day_met = day_met; day = day_sheet };
  placed_behind_the_last = placed_last;
  answers_tell_the_ledger = answers_tell;
  what_is_said_tells_the_answer = said_tells;
  volumes_sum_weights = sums_weights;
  blocks_share_the_window = shares;
  semi_ordered_runs = c.semi_sheet.ensures;
  shared_deduction_runs = c.shared_sheet.ensures;
  meter_runs = c.meter_sheet.ensures;
}
