-- What the guarantee fixes of the answers of a day.
use Rattle.std.proofs.Common.{◌≡◌, ℕ, ◌+◌, ◌≤◌, ◌⊎◌, false, List, [], ◌∷◌, Some, refl, ap, ◌∙◌, inl, inr, ⊎_elim, arith}
use Rattle.std.proofs.lemmas.Bool.{cases_Bool, cond-false}
use Rattle.std.proofs.lemmas.Bool.Decides.{nat_tests}
use Rattle.flow.specs.Answers.{Answer}
use Rattle.flow.specs.Codes.{same}
use Rattle.flow.specs.declared.code.Code.{Code}
use Rattle.flow.proofs.Codes.{same_true, same_from, same_sym}
use Rattle.frame.specs.declared.plan.Plan.{Plan}
use Rattle.frame.specs.Plans.{error_of}
use Rattle.frame.specs.Rolls.{Packet, part, true_volume}
use Rattle.meter.specs.declared.day.Call.{Call}
use Rattle.meter.specs.declared.record.Record.{Record}
use Rattle.meter.specs.Ledgers.{Ledger}
use Rattle.meter.specs.Guarantees.{EstimateRight, records_of}
use Rattle.meter.specs.Days.{Said, estimate_said, step, Right, Runs}
use Rattle.sheets.specs.DaySheets.{FromTo, calls_of, Meets}

abbrev id : Code → Code
id k = k

-- each row holds of whatever is right under its ledger
abbrev pub Sure : Ledger → List (Call Code × (Said → Type 0)) → Type 0
Sure l [] = Unit {0}
Sure l (r ∷ rs) = ((a : Said) → Right id l r.0 a → r.1 a) × Sure (step id l r.0) rs

pub runs_meet : (l : Ledger) (rows : List (Call Code × (Said → Type 0))) (answers : List Said) → Sure l rows → Runs id l (calls_of rows) answers → Meets rows answers
runs_meet l [] [] sure runs = tt
runs_meet l [] (a ∷ as') sure runs = runs
runs_meet l (r ∷ rs) [] sure runs = runs
runs_meet l (r ∷ rs) (a ∷ as') sure runs = (sure.0 a runs.0, runs_meet (step id l r.0) rs as' sure.1 runs.1)

-- the bounds of an estimate in numbers
pub estimated : (p : Plan) (roll : List Packet) (k : Code) (low high : ℕ) → low ≤ true_volume p.window k roll → true_volume p.window k roll + error_of p ≤ high + 1 →
    (a : Said) → (e : Answer ℕ) × EstimateRight (Some p) roll k e × (a ≡ estimate_said e) → FromTo low high a
estimated p roll k low high lower upper a h =
    let within = h.1.2 in
    (h.1.0, omega (arith, within.0), omega (arith, within.1), h.2 ∙ ap estimate_said h.1.1)

-- a packet of another flow adds nothing
pub quiet : (k j : Code) (w : ℕ) → same k j ≡ false → part j (record { code = k; weight = w }) ≡ 0
quiet k j w s = cond-false _ _ _ s

-- a list that names one flow alone, and that at most once
pub alone : (k : Code) (rs : List Record) → ((j : Code) → same k j ≡ false → records_of j rs ≡ 0) → records_of k rs ≤ 1 → (rs ≡ []) ⊎ ((e : ℕ) × (rs ≡ record { code = k; estimate = e } ∷ []))
alone k [] others few = inl refl
alone k (r ∷ []) others few = ⊎_elim
    (λ s. inr (r.estimate, ap (λ (c : Code). record { code = c; estimate = r.estimate } ∷ []) (same_true r.code k s)))
    (λ s. absurd (let none = others r.code (same_sym k r.code ∙ s) in let own = same_from r.code r.code refl in grind (arith, nat_tests)))
    (cases_Bool (same r.code k))
alone k (r ∷ x ∷ rs) others few = ⊎_elim
    (λ s. ⊎_elim
    (λ u. absurd (grind (arith, nat_tests)))
    (λ u. absurd (let none = others x.code (same_sym k x.code ∙ u) in let own = same_from x.code x.code refl in grind (arith, nat_tests)))
    (cases_Bool (same x.code k)))
    (λ s. absurd (let none = others r.code (same_sym k r.code ∙ s) in let own = same_from r.code r.code refl in grind (arith, nat_tests)))
    (cases_Bool (same r.code k))
