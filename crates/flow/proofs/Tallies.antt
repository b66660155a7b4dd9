-- What a tally says to a packet is what its counter answers.
use Rattle.std.proofs.Common.{◌≡◌, ℕ, eqb, sym, ◌∙◌, inl, inr}
use Rattle.std.proofs.lemmas.Bool.{cases_Bool, cond-true, cond-false}
use Rattle.flow.specs.declared.code.Code.{Code}
use Rattle.flow.specs.Answers.{answered}
use Rattle.flow.specs.Limits.{most_weight, most_packets, outside}
use Rattle.flow.specs.Meanings.{Meaning, add_answer}
use Rattle.flow.specs.Tallies.{admitted}
use Rattle.flow.proofs.Inside.{refused_not}

module _ {C : Type 0} (m : Meaning C) (x : m.Model) (k : Code) (w : ℕ) where
  -- a packet that the tally takes is answered with its passes
  pub add_taken : admitted {A = Unit {0}} (m.packets x) w tt ≡ answered tt → add_answer m x k w ≡ answered (m.passes x k w)
  add_taken e =
      elim (cases_Bool (outside 1 most_weight w)) [
        | inl b ↦ absurd (refused_not 3 tt (sym (cond-true _ _ _ b) ∙ e))
        | inr b ↦ elim (cases_Bool (eqb (m.packets x) most_packets)) [
          | inl d ↦ absurd (refused_not 4 tt (sym (cond-true _ _ _ d) ∙ (sym (cond-false _ _ _ b) ∙ e)))
          | inr d ↦ cond-false _ _ _ b ∙ cond-false _ _ _ d
        ]
      ]
