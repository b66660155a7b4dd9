-- The test whether all bytes are digits.
use Rattle.std.proofs.Common.{◌≡◌, ℕ, ◌<◌, Bool, true, false, ◌&&◌, List, [], ◌∷◌, length, get_or, refl, ap, arith, zero, suc}
use Rattle.std.proofs.lemmas.Bool.Decides.{nat_tests}
use Rattle.std.specs.Str.Parse.{AllDigits}
use Rattle.std.proofs.lemmas.Str.Parse.{digit_at}
use Rattle.flow.specs.Spellings.{is_digit, all_digits}

-- bytes that are digits by std's words pass the test
pub all_told : (bytes : List ℕ) → AllDigits 10 bytes → all_digits bytes ≡ true
all_told [] h = refl
all_told (c ∷ cs) h =
    let d = digit_at (c ∷ []) 0 (h.0, tt) (omega arith) in
    let rest : all_digits cs ≡ true = all_told cs h.1 in
    grind (arith, nat_tests, d, rest)

-- one byte that is none fails it
pub not_all : (bytes : List ℕ) (i : ℕ) → i < length bytes → is_digit (get_or bytes i 0) ≡ false → all_digits bytes ≡ false
not_all [] i low h = absurd (omega arith)
not_all (c ∷ cs) zero low h = ap (λ (b : Bool). b && all_digits cs) h
not_all (c ∷ cs) (suc i) low h = grind (arith, nat_tests, not_all cs i (omega arith) h)
