-- What a counter is opened with. Assumes nothing.
--   opening   whether a counter with a greatest step takes places and a step: 1 where the places are out of range, else 2 where the step is
--   Sized     what the test of places and step answers: the sizes with both, or the refusal
use Rattle.std.specs.Prelude.{◌≡◌, ℕ, cond, Result, MatchResult}
use Rattle.flow.specs.declared.refusal.Refusal.{Refusal}
use Rattle.flow.specs.declared.sizes.Sizes.{Sizes}
use Rattle.flow.specs.Answers.{Answer, answered, refused}
use Rattle.flow.specs.Limits.{most_places, outside}
use Rattle.flow.specs.Refusals.{number}

abbrev pub opening : ℕ → ℕ → ℕ → Answer (Unit {0})
opening g n s = cond (outside 1 most_places n) (refused 1) (cond (outside 1 g s) (refused 2) (answered tt))

abbrev pub Sized : ℕ → ℕ → ℕ → Result Sizes Refusal → Type 0
Sized g n s r = MatchResult r
    (λ z. (opening g n s ≡ answered tt) × (z.places ≡ n) × (z.step ≡ s))
    (λ e. opening g n s ≡ refused (number e))
