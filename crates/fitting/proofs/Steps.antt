-- The entries as the calls of a Space-Saving counter leave them.
use Rattle.std.proofs.Common.{◌≡◌, ℕ, ◌+◌, ◌<◌, true, List, length, drop, replicate, sym, ap, ◌∙◌}
use Rattle.std.specs.List.{refill}
use Rattle.std.proofs.lemmas.List.{take_at, length-replicate}
use Rattle.flow.specs.Answers.{Answer, answered, after}
use Rattle.flow.specs.Meanings.{add_leaves}
use Rattle.flow.specs.Tallies.{admitted}
use Rattle.flow.proofs.Tallies.{add_taken}
use Rattle.flow.specs.declared.code.Code.{Code}
use Rattle.fitting.specs.declared.entry.Entry.{Entry}
use Rattle.fitting.specs.Entries.{vacant, total, added, apart}
use Rattle.fitting.specs.Adds.{length-added}
use Rattle.fitting.specs.Laws.{total_vacant, apart_vacant}
use Rattle.fitting.specs.SpaceSaving.{SpaceModel, space_more, space_meaning}

-- entries that count no code yet
pub vacated : (n : ℕ) (es : List Entry) → es ≡ replicate n vacant → (length es ≡ n) × (apart es ≡ true) × (total es ≡ 0)
vacated n es e = (ap length e ∙ length-replicate n vacant, ap apart e ∙ apart_vacant n, ap total e ∙ total_vacant n)

-- the entries that an add writes back, with the weight as the step has it
pub added_back : (es before after : List Entry) (k : Code) (w v : ℕ) → 0 < length es → v ≡ w → before ≡ es → after ≡ added before k v → refill (length es) es after ≡ added es k w
added_back es before after k w v some same was is =
    let now = is ∙ (λ i. added (was i) k (same i)) in
    take_at after (drop (length after) es) (length es) (ap length now ∙ length-added es k w some) ∙ now

-- an add that the tally takes
module _ (x : SpaceModel) (k : Code) (w : ℕ) (taken : admitted {A = Unit {0}} x.packets w tt ≡ answered tt) where
  pub add_left : (t : ℕ) (es : List Entry) → t ≡ x.packets + 1 → es ≡ added x.entries k w → record { packets = t; entries = es } ≡ add_leaves space_meaning x k w
  add_left t es p q = (λ i. record { packets = p i; entries = q i }) ∙ sym (ap (λ (a : Answer ℕ). after a x (space_more x k w)) (add_taken space_meaning x k w taken))
