-- What an open and an add are refused with at their limits, and what a refusal leaves, as facts about the rules. Assumes nothing.
--   OpenSheet   opens of a counter with so great a step, by places and step
--   added_to    what an add to a counter that has taken so many packets is told, where it would make no passes
--   AddSheet    such adds, by packets and weight
--   LeftSheet   what stands after a call: after a refusal what stood before, also where a contract says no more than that it is unchanged
use Rattle.std.specs.Prelude.{◌≡◌, ℕ, Ok, Err, Result}
use Rattle.flow.specs.Answers.{Answer, answered, refused, told, after, Unchanged}
use Rattle.flow.specs.declared.refusal.Refusal.{Refusal}
use Rattle.flow.specs.declared.refusal.Refusal.TheVariants.{CounterFull}
use Rattle.flow.specs.Openings.{opening}
use Rattle.flow.specs.Tallies.{admitted}
use Rattle.semi.specs.Semi.{semi_opened, semi_meaning}
use Rattle.shared.specs.Shared.{shared_opened, shared_meaning}

pub record OpenSheet : Type 0 where
  pub semi_ordered_steps : semi_meaning.greatest (semi_opened 1 1) ≡ 2097153
  pub shared_deduction_steps : shared_meaning.greatest (shared_opened 1) ≡ 1
  pub least : opening 1 1 1 ≡ answered tt
  pub most : opening 2097153 256 2097153 ≡ answered tt
  pub no_places : opening 10 0 10 ≡ refused 1
  pub places_257 : opening 10 257 10 ≡ refused 1
  pub no_step : opening 10 256 0 ≡ refused 2
  pub step_11 : opening 10 256 11 ≡ refused 2
  pub places_come_first : opening 10 257 11 ≡ refused 1

abbrev pub added_to : ℕ → ℕ → Answer ℕ
added_to packets weight = admitted packets weight 0

pub record AddSheet : Type 0 where
  pub least : added_to 0 1 ≡ answered 0
  pub most : added_to 16777215 1048576 ≡ answered 0
  pub no_weight : added_to 0 0 ≡ refused 3
  pub weight_1048577 : added_to 0 1048577 ≡ refused 3
  pub full : added_to 16777216 1 ≡ refused 4
  pub weight_comes_first : added_to 16777216 0 ≡ refused 3

pub record LeftSheet : Type 0 where
  pub told_number : told {A = ℕ} (Err CounterFull) ≡ refused 4
  pub told_answer : told {A = ℕ} (Ok 7) ≡ answered 7
  pub after_refusal : (old new : ℕ) → after {A = ℕ} (refused 4) old new ≡ old
  pub after_answer : (old new : ℕ) → after {A = ℕ} (answered 7) old new ≡ new
  pub unchanged : (r : Result ℕ Refusal) (n old new : ℕ) → told r ≡ refused n → Unchanged r old new → new ≡ old
