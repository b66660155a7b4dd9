-- The test whether two codes are equal.
use Rattle.std.proofs.Common.{◌≡◌, true, false, sym, ap, ◌∙◌, inl, inr, arith}
use Rattle.std.proofs.lemmas.Bool.{cases_Bool, false≢true}
use Rattle.std.proofs.lemmas.Bool.Decides.{nat_tests}
use Rattle.flow.specs.declared.code.Code.{Code}
use Rattle.flow.specs.Codes.{same}

pub same_refl : (a : Code) → same a a ≡ true
same_refl a = grind (arith, nat_tests)

pub same_true : (a b : Code) → same a b ≡ true → a ≡ b
same_true a b h = grind (arith, nat_tests)

pub same_from : (a b : Code) → a ≡ b → same a b ≡ true
same_from a b e = ap (same a) (sym e) ∙ same_refl a

pub same_sym : (a b : Code) → same a b ≡ same b a
same_sym a b = grind (arith, nat_tests)

pub same_apart : (a b : Code) → (a ≡ b → ⊥) → same a b ≡ false
same_apart a b h = elim (cases_Bool (same a b)) [ inl y ↦ absurd (h (same_true a b y)) | inr n ↦ n ]

pub apart_same : (a b : Code) → same a b ≡ false → a ≡ b → ⊥
apart_same a b h e = false≢true (sym h ∙ ap (same a) (sym e) ∙ same_refl a)
