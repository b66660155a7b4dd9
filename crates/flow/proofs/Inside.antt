-- What an answered add says of its arguments.
use Rattle.std.proofs.Common.{◌≡◌, ℕ, ◌≤◌, false, eqb, sym, ◌∙◌, inl, inr, arith}
use Rattle.std.proofs.lemmas.Bool.{cases_Bool, cond-true, cond-false}
use Rattle.std.proofs.lemmas.Bool.Decides.{nat_tests}
use Rattle.flow.specs.declared.code.Code.{Code}
use Rattle.flow.specs.Answers.{answered, refused}
use Rattle.flow.specs.Limits.{most_weight, most_packets, outside}
use Rattle.flow.specs.Meanings.{Meaning, add_answer}

-- a refusal is no answer
pub refused_not : {A : Type 0} (n : ℕ) (a : A) → refused n ≡ answered a → ⊥
refused_not n a e = let z : ◌≡◌ {A = ℕ} 0 1 = cc in omega arith

-- a number that is not outside two limits lies within them
pub inside : (low high x : ℕ) → outside low high x ≡ false → (low ≤ x) × (x ≤ high)
inside low high x h = (grind (arith, nat_tests), grind (arith, nat_tests))

-- an add that is answered has a weight within its limits, and the counter was not full
module _ {C : Type 0} (m : Meaning C) (x : m.Model) where
  pub adds_inside : (k : Code) (w p : ℕ) → add_answer m x k w ≡ answered p → ((1 ≤ w) × (w ≤ most_weight)) × (m.packets x ≡ most_packets → ⊥)
  adds_inside k w p e =
      elim (cases_Bool (outside 1 most_weight w)) [
        | inl b ↦ absurd (refused_not 3 p (sym (cond-true _ _ _ b) ∙ e))
        | inr b ↦ elim (cases_Bool (eqb (m.packets x) most_packets)) [
          | inl d ↦ absurd (refused_not 4 p (sym (cond-true _ _ _ d) ∙ (sym (cond-false _ _ _ b) ∙ e)))
          | inr d ↦ (inside 1 most_weight w b, λ q. grind (arith, nat_tests))
        ]
      ]
