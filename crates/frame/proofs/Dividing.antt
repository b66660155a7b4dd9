-- The blocks of a plan.
use Rattle.std.proofs.Common.{◌≡◌, ℕ, ◌*◌, ◌/◌, ◌%◌, ◌≤◌, mul-le-mul, mul-zero, div-le_self, arith}
use native.Mathlib.Nat.{div-add-mod, lt_of_mul-lt-mul_left}
use Rattle.flow.specs.Limits.{most_weight, most_window, most_unit}

module _ (wide k : ℕ) (open' : 1 ≤ wide) (even : wide % k ≡ 0) where
  pub divides : k * (wide / k) ≡ wide
  divides = omega (arith, div-add-mod wide k)

  pub block_some : 1 ≤ wide / k
  block_some = lt_of_mul-lt-mul_left k (omega (arith, divides, mul-zero k))

pub unit_small : (most wide k : ℕ) → most ≤ most_weight → wide ≤ most_window → most * (wide / k) ≤ most_unit
unit_small most wide k light narrow =
    let le : wide / k ≤ most_window = omega (arith, div-le_self wide k) in
    omega (arith, mul-le-mul light le)
