-- What an add does to a shared-deduction counter.
use Rattle.std.proofs.Common.{◌≡◌, ℕ, ◌<◌, ◌≤◌, Bool, true, false, cond, ◌||◌, List, length, drop, replicate, Some, None, Option, unwrap_or, refl, sym, subst, ap, ◌∙◌, arith}
use Rattle.std.specs.List.{refill}
use Rattle.std.specs.Option.{option_map_or}
use Rattle.std.proofs.lemmas.Bool.Decides.{nat_tests}
use Rattle.std.proofs.lemmas.List.{take_at, length-replicate}
use Rattle.arrayvec.specs.ArrayVec.{array_vec_len}
use Rattle.flow.specs.Answers.{answered}
use Rattle.flow.specs.Limits.{most_weight, most_packets}
use Rattle.flow.specs.Tallies.{admitted}
use Rattle.flow.specs.declared.code.Code.{Code}
use Rattle.shared.specs.declared.counter.SharedDeduction.{SharedDeduction}
use Rattle.shared.specs.Places.{Place, holds, any_empty, least, deducted, added, counted, tidy}
use Rattle.shared.specs.Shared.{SharedSound, shared_meaning}
use Rattle.shared.specs.Deductions.{length-added}
use Rattle.shared.specs.Laws.{tidy_empty, counted_empty}

-- what every counter keeps
pub sound : (c : SharedDeduction) → SharedSound (shared_meaning.model c)
sound c = record { some = c.some; few = c.tally.few; long = refl; tidily = c.order; sum = c.sum }

-- places that are all empty
pub all_empty : (n : ℕ) (ps : List Place) → ps ≡ replicate n None → (length ps ≡ n) × (tidy ps ≡ true) × (counted ps ≡ 0)
all_empty n ps e = (ap length e ∙ length-replicate n None, ap tidy e ∙ tidy_empty n, ap counted e ∙ counted_empty n)

-- the places, as a step of the same length writes them back
pub written : (before after : List Place) → length after ≡ length before → refill (length before) before after ≡ after
written before after e = take_at after (drop (length after) before) (length before) e

-- the places that a fill of all of them leaves
pub cleared : (now before after : List Place) → now ≡ before → after ≡ replicate (length now) None → refill (length before) before after ≡ replicate (length before) None
cleared now before after was e =
    let all = e ∙ ap (λ (ps : List Place). replicate (length ps) None) was in
    written before after (ap length all ∙ length-replicate (length before) None) ∙ all

-- the weight and the packets of an add that is not refused
pub admitted_parts : (t w : ℕ) → admitted {A = Unit {0}} t w tt ≡ answered tt → (0 < w) × (w ≤ most_weight) × (t ≡ most_packets → ⊥)
admitted_parts t w h = grind (arith, nat_tests)

-- what holds of the answer of the step, by whether some place had the code or was empty
by_case : {m : ℕ} {b : Bool} {o : Option ℕ} (P : Option ℕ → Bool → Type 0) → P None true → P (Some m) false → o ≡ cond b None (Some m) → P o b
by_case {b = true} P p q e = subst (λ (o : Option ℕ). P o true) (sym e) p
by_case {b = false} P p q e = subst (λ (o : Option ℕ). P o false) (sym e) q

-- what the step to the places comes to: the places, their number, how much the deduction rises, and the passes
pub record Stepped (x : SharedDeduction) (k : Code) (w : ℕ) (shared : Option ℕ) (held : List Place) : Type 0 where
  pub held_are : held ≡ added x.places.items k w
  pub long : length held ≡ array_vec_len x.places
  pub rise_is : unwrap_or shared 0 ≡ deducted x.places.items k w
  pub passes_are : option_map_or (λ _. array_vec_len x.places) shared 0 ≡ shared_meaning.passes (shared_meaning.model x) k w

pub stepped : (x : SharedDeduction) (k : Code) (w v : ℕ) (shared : Option ℕ) (before after : List Place) → v ≡ w → before ≡ x.places.items → after ≡ added before k v →
    shared ≡ cond (holds k before || any_empty before) None (Some (least v before)) →
    Stepped x k w shared (refill (array_vec_len x.places) x.places.items after)
stepped x k w v shared before after same was is r =
    let now = is ∙ (λ i. added (was i) k (same i)) in
    let size = ap length now ∙ length-added x.places.items k w in
    let back = written x.places.items after size in
    let told = r ∙ (λ i. cond (holds k (was i) || any_empty (was i)) None (Some (least (same i) (was i)))) in
    record {
      held_are = back ∙ now;
      long = ap length back ∙ size;
      rise_is = by_case (λ o m. unwrap_or o 0 ≡ cond m 0 (least w x.places.items)) refl refl told;
      passes_are = by_case (λ o m. option_map_or (λ _. array_vec_len x.places) o 0 ≡ cond m 0 (array_vec_len x.places)) refl refl told;
    }
