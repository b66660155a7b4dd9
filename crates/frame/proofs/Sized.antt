-- T is at least M, and so at least 1.
use Rattle.std.proofs.Common.{◌≡◌, ◌*◌, ◌<◌, ◌≤◌, refl, mul-le-mul_left, mul-one, arith}
use Rattle.frame.specs.declared.plan.Plan.{Plan}
use Rattle.frame.specs.Plans.{Fair, unit_of, block_of}

pub unit_is : (z : Plan) → unit_of z ≡ z.most * block_of z
unfolding unit_of
unit_is z = refl

pub most_within : (z : Plan) → Fair z → z.most ≤ unit_of z
most_within z f = omega (arith, unit_is z, mul-le-mul_left z.most f.some, mul-one z.most)

pub unit_some : (z : Plan) → Fair z → 0 < unit_of z
unit_some z f = omega (arith, most_within z f)
