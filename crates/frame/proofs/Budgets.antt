-- The budget of a frame: what its packets can weigh stays below n T.
use Rattle.std.proofs.Common.{ℕ, ◌+◌, ◌-◌, ◌*◌, ◌<◌, ◌≤◌, List, [], ◌∷◌, ◌++◌, length, ap, mul-le-mul_right, mul_assoc, suc-mul, mul_comm, mul-le-mul_left, mul-suc, mul-add, arith}
use Rattle.std.specs.List.{AllByRecursion}
use Rattle.frame.specs.declared.plan.Plan.{Plan}
use Rattle.frame.specs.Plans.{Fair, block_of, unit_of}
use Rattle.frame.specs.Rolls.{Packet, total}
use Rattle.frame.proofs.Sized.{unit_is}

pub total_le : (most : ℕ) (xs ys : List Packet) → AllByRecursion (λ x. x.weight ≤ most) (xs ++ ys) → total xs ≤ length xs * most
total_le most [] ys h = omega arith
total_le most (x ∷ xs) ys h = omega (arith, total_le most xs ys h.1, suc-mul (length xs) most)

pub budget : (p : Plan) → Fair p → (t v : ℕ) → t ≤ p.window → v ≤ t * p.most → v + t * (p.step - 1) < p.places * unit_of p
budget p fair t v le light =
    let b = block_of p in
    let s = p.step - 1 in
    let c = p.most + s in
    omega (arith, mul-le-mul_right {m = t} {n = p.window} c le, mul-add t p.most s, ap (λ x. x * c) fair.divides, ap (λ x. x * c) (mul_comm p.blocks b), mul_assoc b p.blocks c, mul-le-mul_left b fair.budget, mul-suc b (p.blocks * c), mul_comm b (p.places * p.most), mul_assoc p.places p.most b, ap (λ x. p.places * x) (unit_is p), fair.some)
