-- Quotients by T under one packet.
use Rattle.std.proofs.Common.{◌≡◌, ℕ, suc, ◌+◌, ◌*◌, ◌/◌, ◌<◌, ◌≤◌, cond, ltb, mod-lt, mul-suc, arith}
use native.Mathlib.Nat.{div-add-mod, lt_of_mul-lt-mul_left}
use Rattle.std.proofs.lemmas.Bool.Decides.{nat_tests}

-- a quotient is known by its bounds
pub quotient_is : (t q n : ℕ) → t * n ≤ q → q < t * n + t → q / t ≡ n
quotient_is t q n low high =
    let some : 0 < t = omega arith in
    let is = div-add-mod q t in
    let rest = mod-lt q some in
    let a : n < suc (q / t) = lt_of_mul-lt-mul_left t (omega (arith, mul-suc t (q / t))) in
    let b : q / t < suc n = lt_of_mul-lt-mul_left t (omega (arith, mul-suc t n)) in
    omega arith

pub quotient_low : (t q : ℕ) → t * (q / t) ≤ q
quotient_low t q = omega (arith, div-add-mod q t)

pub quotient_high : (t q : ℕ) → 0 < t → q < t * (q / t) + t
quotient_high t q some = omega (arith, div-add-mod q t, mod-lt q some)

-- a weight to T raises a quotient by 0 or 1
pub quotient_step : (t q w : ℕ) → 0 < t → w ≤ t → (q + w) / t ≡ q / t + cond (ltb (q / t) ((q + w) / t)) 1 0
quotient_step t q w some le =
    let a : q / t < suc ((q + w) / t) = lt_of_mul-lt-mul_left t (omega (arith, quotient_low t q, quotient_high t (q + w) some, mul-suc t ((q + w) / t))) in
    let b : (q + w) / t < suc (suc (q / t)) = lt_of_mul-lt-mul_left t (omega (arith, quotient_low t (q + w), quotient_high t q some, mul-suc t (q / t), mul-suc t (suc (q / t)))) in
    grind (arith, nat_tests)

-- what lies below n T in n copies lies below T
pub below_unit : (n r top t : ℕ) → n * r ≤ top → top < n * t → r < t
below_unit n r top t h k = lt_of_mul-lt-mul_left n (omega arith)
