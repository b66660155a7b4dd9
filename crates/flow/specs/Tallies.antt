-- The packets of a counter since its last flush. Assumes nothing.
--   admitted   what a counter that has taken so many packets says to one more of a weight: 3 where the weight is out of range, else 4 where it is full, else its answer
--   Tallied    what a tally says to a packet of a weight: itself with the packet, or the refusal
use Rattle.std.specs.Prelude.{◌≡◌, ℕ, ◌+◌, cond, Result, MatchResult, ◌==◌}
use Rattle.flow.specs.declared.refusal.Refusal.{Refusal}
use Rattle.flow.specs.declared.tally.Tally.{Tally}
use Rattle.flow.specs.Answers.{Answer, answered, refused}
use Rattle.flow.specs.Limits.{most_weight, most_packets, outside}
use Rattle.flow.specs.Refusals.{number}

abbrev pub admitted : {A : Type 0} → ℕ → ℕ → A → Answer A
admitted t w a = cond (outside 1 most_weight w) (refused 3) (cond (t == most_packets) (refused 4) (answered a))

abbrev pub Tallied : Tally → ℕ → Result Tally Refusal → Type 0
Tallied x w r = MatchResult r
    (λ y. (admitted {A = Unit {0}} x.packets w tt ≡ answered tt) × (y.packets ≡ x.packets + 1) × (y.volume ≡ x.volume + w))
    (λ e. admitted {A = Unit {0}} x.packets w tt ≡ refused (number e))
