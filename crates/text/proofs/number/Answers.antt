use Rattle.std.proofs.Common.{◌≡◌, ℕ, ◌+◌, ◌-◌, ◌*◌, ◌^◌, min, get_or, take, arith}
use Rattle.std.specs.Char.{digit_value}
use Rattle.std.specs.Str.Parse.{digits_value}
use Rattle.std.proofs.lemmas.Int.Digits.{digits_value_more, digits_more}
use Rattle.std.proofs.lemmas.Str.Parse.{digit_at}
use Rattle.std.proofs.lemmas.Str.{digit_value_digit}
use Rattle.text.proofs.number.Goals as goal

-- a number that was cut at m is cut there again
cut_again : (n v d m : ℕ) → n ≡ min v m → min (min (n * 10) m + d) m ≡ min (v * 10 + d) m
cut_again n v d m e = omega arith

pub returns-then-not-is_ascii_digit : goal.returns-then-not-is_ascii_digit
returns-then-not-is_ascii_digit c = λ h. let d = digit_at c.args.word.now c.loop-b.b-index h.1 (omega arith) in grind arith

pub loop-b-preserved : goal.loop-b-preserved
loop-b-preserved c =
    let i = c.loop-b.b-index in
    let bs = c.args.word.now in
    let d : digit_value (get_or bs i 0) + 48 ≡ get_or bs i 0 = digit_value_digit (get_or bs i 0) (grind arith, grind arith) in
    let v = digits_value_more 10 bs i c.loop-b-test.true in
    let k = cut_again c.loop-b.n (digits_value 10 (take i bs)) (digit_value (get_or bs i 0)) (2 ^ 64 - 1) c.loop-b.invariant.1 in
    (digits_more 10 bs i c.loop-b-test.true c.loop-b.invariant.0 (grind arith), omega arith)
