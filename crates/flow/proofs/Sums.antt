-- The sum over different codes that a counter holds, for the proofs of the law of heavy flows.
--   Holding         what holds codes, each with a worth: a code can be taken out, with its worth, and the others stay
--   Shown           a function shows the worth of a held code
--   shown_without   once a code is taken out, the others are still shown
--   sum_held        the worths of different held codes sum to at most the whole
use Rattle.std.specs.Prelude.{◌≡◌, ℕ, ◌+◌, ◌≤◌, Bool, true, false, List, [], ◌∷◌, ◌≢◌}
use Rattle.std.proofs.Common.{sym, ◌∙◌, arith}
use Rattle.std.specs.List.{AllByRecursion}
use Rattle.flow.specs.Codes.{same}
use Rattle.flow.specs.Meanings.{sum_of, Distinct}
use Rattle.flow.proofs.Codes.{same_apart}
use Rattle.flow.specs.declared.code.Code.{Code}

pub record Holding (S : Type 0) : Type 1 where
  pub holds : Code → S → Bool
  pub worth : Code → S → ℕ
  pub whole : S → ℕ
  pub without : Code → S → S
  pub taken : (k : Code) (x : S) → holds k x ≡ true → worth k x + whole (without k x) ≤ whole x
  pub holds_other : (j k : Code) (x : S) → same j k ≡ false → holds j (without k x) ≡ holds j x
  pub worth_other : (j k : Code) (x : S) → same j k ≡ false → worth j (without k x) ≡ worth j x

module _ {S : Type 0} (h : Holding S) (f : Code → ℕ) where
  abbrev pub Shown : S → Code → Type 0
  Shown x k = (h.holds k x ≡ true) × (f k ≡ h.worth k x)

  pub shown_without : (x : S) (k : Code) (codes : List Code) → AllByRecursion (λ j. k ≢ j) codes → AllByRecursion (Shown x) codes → AllByRecursion (Shown (h.without k x)) codes
  shown_without x k [] a s = tt
  shown_without x k (j ∷ codes) a s =
      let b = same_apart j k (λ e. a.0 (sym e)) in
      ((h.holds_other j k x b ∙ s.0.0, s.0.1 ∙ sym (h.worth_other j k x b)), shown_without x k codes a.1 s.1)

  pub sum_held : (x : S) (codes : List Code) → Distinct codes → AllByRecursion (Shown x) codes → sum_of f codes ≤ h.whole x
  sum_held x [] a s = omega arith
  sum_held x (k ∷ codes) a s = omega (arith, h.taken k x s.0.0, s.0.1, sum_held (h.without k x) codes a.1 (shown_without x k codes a.0 s.1))
