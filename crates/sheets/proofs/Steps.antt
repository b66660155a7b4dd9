-- Calls of a meter in a known state, and of a known code.
use Rattle.std.proofs.Common.{◌≡◌, ℕ, List, ap, ◌∙◌}
use Rattle.flow.specs.Answers.{Answer}
use Rattle.flow.specs.Limits.{least_scratch}
use Rattle.flow.specs.declared.code.Code.{Code}
use Rattle.semi.specs.Semi.{SemiModel, semi_meaning}
use Rattle.meter.specs.States.{State, packet_answer, packet_leaves, estimate_answer, list_answer, count_of, table_leaves}
use Rattle.meter.specs.declared.record.Record.{Record}
use Rattle.sheets.specs.Runs.{before}

-- what an estimate of a known code is answered in a known state
pub estimated : {s x : State SemiModel} {j k : Code} {r : Answer ℕ} → s ≡ x → j ≡ k → r ≡ estimate_answer semi_meaning s j → r ≡ estimate_answer semi_meaning x k
estimated {s = s} {x = x} {j = j} h i e = e ∙ ap (λ (y : State SemiModel). estimate_answer semi_meaning y j) h ∙ ap (λ (y : Code). estimate_answer semi_meaning x y) i

-- what a packet of a known code is answered
pub passed : {s x : State SemiModel} {j k : Code} {r : Answer ℕ} (w : ℕ) → s ≡ x → j ≡ k → r ≡ packet_answer semi_meaning s j w → r ≡ packet_answer semi_meaning x k w
passed {s = s} {x = x} {j = j} w h i e = e ∙ ap (λ (y : State SemiModel). packet_answer semi_meaning y j w) h ∙ ap (λ (y : Code). packet_answer semi_meaning x y w) i

-- the state after it
pub left : {s x : State SemiModel} {j k : Code} {t : State SemiModel} (w : ℕ) → s ≡ x → j ≡ k → t ≡ packet_leaves semi_meaning s j w → t ≡ packet_leaves semi_meaning x k w
left {s = s} {x = x} {j = j} w h i e = e ∙ ap (λ (y : State SemiModel). packet_leaves semi_meaning y j w) h ∙ ap (λ (y : Code). packet_leaves semi_meaning x y w) i

-- what a list is answered in a known state: how many records, and the table then
pub counted : {s x : State SemiModel} {r : Answer ℕ} (level : ℕ) → s ≡ x → r ≡ count_of (list_answer semi_meaning s level least_scratch 2) → r ≡ count_of (list_answer semi_meaning x level least_scratch 2)
counted level h e = e ∙ ap (λ (y : State SemiModel). count_of (list_answer semi_meaning y level least_scratch 2)) h

pub tabled : {s x : State SemiModel} {t : List Record} (level : ℕ) → s ≡ x → t ≡ table_leaves (list_answer semi_meaning s level least_scratch 2) before → t ≡ table_leaves (list_answer semi_meaning x level least_scratch 2) before
tabled level h e = e ∙ ap (λ (y : State SemiModel). table_leaves (list_answer semi_meaning y level least_scratch 2) before) h
