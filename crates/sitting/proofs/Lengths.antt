-- How long the text of a number is at most.
use Rattle.std.proofs.Common.{ℕ, ◌^◌, ◌<◌, ◌≤◌, length, arith, length-append}
use Rattle.std.proofs.lemmas.Fmt.{length-decimal-le}
use Rattle.std.specs.Fmt.{decimal}

pub length-digits : (n : ℕ) → n < 2 ^ 64 → length (decimal n) ≤ 20
length-digits n small = length-decimal-le 20 n (omega arith) (omega arith) small

-- for the length of a line whose numbers are written out
pub ruleset line_lengths = (length-append, length-digits)
