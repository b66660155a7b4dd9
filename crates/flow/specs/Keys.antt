-- Flow keys. Assumes nothing.
--   MadeOf        what the making of a key from a code answers: the key with that code, or 14 where no key has it
--   read_answer   what the reading of bytes answers: the code that they spell, or 14 where they spell none
-- A lemma for the laws of a kind:
--   comes_back    where no two keys share a code, the key made of a key's code is that key
use Rattle.std.specs.Prelude.{◌≡◌, Ok, Err, Some, None, Option, Result, MatchResult, ◌≢◌, refl}
use Rattle.std.proofs.Common.{ap}
use Rattle.flow.specs.declared.code.Code.{Code}
use Rattle.flow.specs.declared.refusal.Refusal.{Refusal}
use Rattle.flow.specs.Answers.{Answer, answered, refused}
use Rattle.flow.specs.Refusals.{number}

abbrev pub MadeOf : {K : Type 0} → (K → Code) → Code → Result K Refusal → Type 0
MadeOf {K} coded code r = MatchResult r (λ k. coded k ≡ code) (λ e. (number e ≡ 14) × ((k : K) → coded k ≢ code))

abbrev pub read_answer : Option Code → Answer Code
read_answer None = refused 14
read_answer (Some c) = answered c

pub comes_back : {K : Type 0} (coded : K → Code) → ((x k : K) → coded x ≡ coded k → x ≡ k) → (k : K) (r : Result K Refusal) → MadeOf coded (coded k) r → r ≡ Ok k
comes_back coded apart k (Ok x) h = ap Ok (apart x k h)
comes_back coded apart k (Err e) h = absurd (h.1 k refl)
