-- Keys are told apart by their codes.
use Rattle.std.proofs.Common.{◌≡◌, ℕ, Bool, true, false, List, length, Some, None, Option, Ok, MatchBool, Result, refl, sym, ap}
use Rattle.flow.specs.Codes.{same}
use Rattle.flow.specs.Answers.{refused}
use Rattle.flow.specs.Keys.{MadeOf, read_answer}
use Rattle.flow.proofs.Codes.{same_true, apart_same}
use Rattle.flow.specs.declared.code.Code.{Code}
use Rattle.flow.specs.declared.refusal.Refusal.{Refusal}

-- keys are the same where their codes are, if no two keys share a code
pub keys_tell : {K : Type 0} (coded : K → Code) → ((j k : K) → coded j ≡ coded k → j ≡ k) → (r : Bool) (a b : K) → r ≡ same (coded a) (coded b) → MatchBool r (a ≡ b) (a ≡ b → ⊥)
keys_tell coded apart true a b h = apart a b (same_true (coded a) (coded b) (sym h))
keys_tell coded apart false a b h = λ e. apart_same (coded a) (coded b) (sym h) (ap coded e)

-- a kind whose keys come back from their codes has no two keys with one code
pub apart_from_back : {K : Type 0} (coded : K → Code) → ((k : K) (r : Result K Refusal) → MadeOf coded (coded k) r → r ≡ Ok k) → (j k : K) → coded j ≡ coded k → j ≡ k
apart_from_back coded back j k h = let e = back k (Ok j) h in cc

-- where only bytes of one number spell a key, those of any other spell none
pub none_of_another_length : (n : ℕ) (spelled : List ℕ → Option Code) → ((bytes : List ℕ) (code : Code) → spelled bytes ≡ Some code → length bytes ≡ n) →
    (bytes : List ℕ) → (length bytes ≡ n → ⊥) → read_answer (spelled bytes) ≡ refused 14
none_of_another_length n spelled wide bytes other = by (spelled bytes) refl
  where
    by : (o : Option Code) → spelled bytes ≡ o → read_answer o ≡ refused 14
    by None e = refl
    by (Some k) e = absurd (other (wide bytes k e))
