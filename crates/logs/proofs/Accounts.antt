-- What the ten digits of an account say of its number.
use Rattle.std.proofs.Common.{◌≡◌, ℕ, ◌+◌, ◌*◌, ◌/◌, ◌^◌, ◌<◌, ◌≤◌, true, List, [], ◌∷◌, length, refl, sym, ap, ◌∙◌, subst, arith}
use native.Mathlib.Nat.{pow-suc}
use Rattle.std.specs.Char.{digit_value}
use Rattle.std.specs.Str.Parse.{digits_value, digits_value_after, AllDigits}
use Rattle.std.proofs.lemmas.Int.Digits.{digits_value-lt}
use Rattle.std.proofs.lemmas.Bool.Decides.{nat_tests}
use Rattle.std.proofs.lemmas.Nat.{div-mul-add}
use Rattle.std.proofs.lemmas.Str.{digit_value_digit}
use Rattle.std.proofs.lemmas.Str.Parse.{digit_from_value}
use Rattle.flow.specs.Spellings.{all_digits}

-- the digits behind a number shift it
digits_value_after_is : (n : ℕ) (ds : List ℕ) → digits_value_after 10 n ds ≡ n * 10 ^ length ds + digits_value 10 ds
digits_value_after_is n [] = omega arith
digits_value_after_is n (x ∷ xs) =
    let a = digits_value_after_is (n * 10 + digit_value x) xs in
    let b = digits_value_after_is (0 * 10 + digit_value x) xs in
    omega (arith, ap (λ (k : ℕ). n * k) (pow-suc 10 (length xs)))

-- one quotient and one remainder
one_quotient : (m a b x y : ℕ) → x < m → y < m → a * m + x ≡ b * m + y → (a ≡ b) × (x ≡ y)
one_quotient m a b x y p q h =
    let k : a ≡ b = sym (div-mul-add a m x p) ∙ ap (λ (n : ℕ). n / m) h ∙ div-mul-add b m y q in
    let w : a * m ≡ b * m = ap (λ (n : ℕ). n * m) k in (k, omega arith)

-- as many digits of the same value are the same digits
pub same_digits : (xs ys : List ℕ) → length xs ≡ length ys → AllDigits 10 xs → AllDigits 10 ys → digits_value 10 xs ≡ digits_value 10 ys → xs ≡ ys
same_digits [] [] l p q v = refl
same_digits [] (y ∷ ys) l p q v = absurd (omega arith)
same_digits (x ∷ xs) [] l p q v = absurd (omega arith)
same_digits (x ∷ xs) (y ∷ ys) l p q v =
    let k : length xs ≡ length ys = omega arith in
    let i = 0 * 10 + digit_value x in
    let j = 0 * 10 + digit_value y in
    let a = digits_value_after_is i xs in
    let b = digits_value_after_is j ys in
    let m = 10 ^ length xs in
    let w : 10 ^ length ys ≡ 10 ^ length xs = ap (λ (n : ℕ). 10 ^ n) (sym k) in
    let u : digits_value 10 ys < m = subst (λ (n : ℕ). digits_value 10 ys < n) w (digits_value-lt 10 ys q.1) in
    let e : i * m + digits_value 10 xs ≡ j * m + digits_value 10 ys =
    sym a ∙ v ∙ b ∙ ap (λ (n : ℕ). j * n + digits_value 10 ys) w in
    let o = one_quotient m i j (digits_value 10 xs) (digits_value 10 ys) (digits_value-lt 10 xs p.1) u e in
    let t : xs ≡ ys = same_digits xs ys k p.1 q.1 o.1 in
    let h : x ≡ y = omega (arith, o.0, digit_value_digit x (digit_from_value x p.0), digit_value_digit y (digit_from_value y q.0)) in
    cc

-- bytes that are digits by the test
pub all_shown : (bytes : List ℕ) → all_digits bytes ≡ true → AllDigits 10 bytes
all_shown [] h = tt
all_shown (c ∷ cs) h =
    let low : 48 ≤ c = grind (arith, nat_tests, h) in
    let high : c ≤ 57 = grind (arith, nat_tests, h) in
    let rest : all_digits cs ≡ true = grind (arith, nat_tests, h) in
    (omega (arith, digit_value_digit c (low, high)), all_shown cs rest)
