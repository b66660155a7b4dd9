-- What the reading of tape bytes says of a key.
use Rattle.std.proofs.Common.{◌≡◌, ℕ, Bool, true, false, cond, Some, None, Option, refl}
use Rattle.flow.specs.declared.code.Code.{Code}
use Rattle.flow.specs.Answers.{Answer, answered, refused}
use Rattle.flow.specs.Keys.{read_answer}

-- bytes that a test lets pass spell a code
abbrev pub spelled_if : Bool → Code → Option Code
spelled_if b c = cond b (Some c) None

pub read_passed : (b : Bool) (c k : Code) → answered k ≡ read_answer (spelled_if b c) → (b ≡ true) × (k ≡ c)
read_passed true c k e = (refl, (cc))
read_passed false c k e = cc

pub read_failed : (b : Bool) (c : Code) (n : ℕ) → ◌≡◌ {A = Answer Code} (refused n) (read_answer (spelled_if b c)) → (n ≡ 14) × (b ≡ false)
read_failed true c n e = cc
read_failed false c n e = ((cc), refl)
