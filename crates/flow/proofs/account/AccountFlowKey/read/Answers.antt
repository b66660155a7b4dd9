use Rattle.std.proofs.Common.{◌≡◌, false, true, ◌+◌, ◌*◌, ◌^◌, ◌<◌, length, get_or, take, ap, ◌∙◌, subst, arith, length-take}
use Rattle.std.specs.Char.{digit_value}
use Rattle.std.specs.Str.Parse.{digits_value, AllDigits}
use Rattle.std.proofs.lemmas.Int.Digits.{digits_value_more, digits_more, digits_value-lt}
use Rattle.std.proofs.lemmas.List.{take_all}
use Rattle.std.proofs.lemmas.Str.{digit_value_digit}
use Rattle.std.proofs.lemmas.Bool.Decides.{nat_tests}
use Rattle.flow.specs.Spellings.{is_digit, all_digits}
use Rattle.flow.proofs.Digits.{all_told, not_all}
use Rattle.flow.proofs.account.AccountFlowKey.read.Goals as goal

pub returns-then-not-is_ascii_digit : goal.returns-then-not-is_ascii_digit
returns-then-not-is_ascii_digit c =
    let bs = c.args.bytes.now in
    let other : is_digit (get_or bs c.loop-b.b-index 0) ≡ false = grind (arith, nat_tests, c.if-not-is_ascii_digit.ensures.cases) in
    let not : all_digits bs ≡ false = not_all bs c.loop-b.b-index (omega arith) other in
    grind (arith, nat_tests, not)

pub loop-b-preserved : goal.loop-b-preserved
loop-b-preserved c =
    let i = c.loop-b.b-index in
    let bs = c.args.bytes.now in
    let low : i < length bs = omega arith in
    let d : digit_value (get_or bs i 0) + 48 ≡ get_or bs i 0 = digit_value_digit (get_or bs i 0) c.if-not-is_ascii_digit.ensures.cases in
    let ds : AllDigits 10 (take (i + 1) bs) = digits_more 10 bs i low c.loop-b.invariant.0 c.if-not-is_ascii_digit.ensures.bound in
    let v = digits_value_more 10 bs i low in
    let n : c.loop-b.number * 10 + c.from.result ≡ digits_value 10 (take (i + 1) bs) = omega arith in
    let len : length (take (i + 1) bs) ≡ i + 1 = simp length-take (omega arith) in
    let b = subst (λ m. digits_value 10 (take (i + 1) bs) < 10 ^ m) len (digits_value-lt 10 (take (i + 1) bs) ds) in
    (ds, n, omega arith, omega arith)

pub returns : goal.returns
returns c =
    let bs = c.args.bytes.now in
    let e : take c.loop-b.b-index bs ≡ bs = take_all c.loop-b.b-index bs (omega arith) in
    let all : all_digits bs ≡ true = all_told bs (subst (AllDigits 10) e c.loop-b.invariant.0) in
    let n : c.loop-b.number ≡ digits_value 10 bs = c.loop-b.invariant.1 ∙ ap (digits_value 10) e in
    grind (arith, nat_tests, all, n, c.loop-b.invariant.3)
