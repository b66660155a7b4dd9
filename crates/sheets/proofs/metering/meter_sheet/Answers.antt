use Rattle.std.proofs.Common.{◌≡◌, ap, ◌∙◌}
use Rattle.flow.specs.Answers.{answered, told}
use Rattle.frame.specs.Plans.{block_of, unit_of}
use Rattle.semi.specs.Semi.{SemiModel, semi_meaning}
use Rattle.meter.specs.States.{State, unplanned, plan_leaves}
use Rattle.sheets.specs.CounterSheets.{flow, A, B}
use Rattle.sheets.specs.MeterSheets.{plan}
use Rattle.sheets.proofs.Steps.{estimated, passed, left, counted, tabled}
use Rattle.sheets.proofs.metering.meter_sheet.Goals as goal

pub returns : goal.returns
unfolding block_of unit_of
returns c =
    let a : flow c.account-a.result.number ≡ A = ap flow c.account-a.ensures in
    let b : flow c.account-b.result.number ≡ B = ap flow c.account-b.ensures in
    let fresh = c.new-meter.ensures.state ∙ ap (λ (x : SemiModel). unplanned x) c.new.ensures.opened in
    let planned = c.plan.ensures.state ∙ ap (λ (x : State SemiModel). plan_leaves semi_meaning x plan) fresh in
    let held = c.plan.ensures.holds _ c.new-meter.ensures.holds in
    let once = left _ planned a (c.packet-first.ensures.state _ held) in
    let held_once = c.packet-first.ensures.holds _ held in
    let twice = left _ once a (c.packet-second.ensures.state _ held_once) in
    let held_twice = c.packet-second.ensures.holds _ held_once in
    let thrice = left _ twice a (c.packet-third.ensures.state _ held_twice) in
    let held_thrice = c.packet-third.ensures.holds _ held_twice in
    let four_times = left _ thrice a (c.packet-fourth.ensures.state _ held_thrice) in
    let held_four_times = c.packet-fourth.ensures.holds _ held_thrice in
    let last = left _ four_times b (c.packet-fifth.ensures.state _ held_four_times) in
    let fresh_a : told c.estimate.result ≡ answered 40 = estimated planned a c.estimate.ensures.answer in
    let fresh_b : told c.estimate-2.result ≡ answered 40 = estimated planned b c.estimate-2.ensures.answer in
    let once_a : told c.estimate-once.result ≡ answered 50 = estimated once a c.estimate-once.ensures.answer in
    let twice_a : told c.estimate-twice.result ≡ answered 60 = estimated twice a c.estimate-twice.ensures.answer in
    let thrice_a : told c.estimate-thrice.result ≡ answered 70 = estimated thrice a c.estimate-thrice.ensures.answer in
    let four_times_a : told c.estimate-four_times.result ≡ answered 80 = estimated four_times a c.estimate-four_times.ensures.answer in
    let last_a : told c.estimate-3.result ≡ answered 60 = estimated last a c.estimate-3.ensures.answer in
    let last_b : told c.estimate-4.result ≡ answered 50 = estimated last b c.estimate-4.ensures.answer in
    let first : told c.packet-first.result ≡ answered 0 = passed _ planned a (c.packet-first.ensures.answer _ held) in
    let second : told c.packet-second.result ≡ answered 0 = passed _ once a (c.packet-second.ensures.answer _ held_once) in
    let third : told c.packet-third.result ≡ answered 0 = passed _ twice a (c.packet-third.ensures.answer _ held_twice) in
    let fourth : told c.packet-fourth.result ≡ answered 0 = passed _ thrice a (c.packet-fourth.ensures.answer _ held_thrice) in
    let fifth : told c.packet-fifth.result ≡ answered 0 = passed _ four_times b (c.packet-fifth.ensures.answer _ held_four_times) in
    record {
      step_five = c.plan_with_step.ensures;
      step_six = c.plan_with_step-2.ensures;
      fresh = cc (fresh_a, fresh_b);
      rising = cc (once_a, twice_a, thrice_a, four_times_a);
      last = cc (last_a, last_b);
      passes = cc (first, second, third, fourth, fifth);
      level_60_count = counted _ last c.list_at.ensures.count;
      level_60_table = tabled _ last c.list_at.ensures.table;
      level_61_count = counted _ last c.list_at-2.ensures.count;
      level_61_table = tabled _ last c.list_at-2.ensures.table;
      level_59_count = counted _ last c.list_at-3.ensures.count;
      level_59_table = tabled _ last c.list_at-3.ensures.table;
    }
