-- The marks of one frame are fewer than the counter's places.
use Rattle.std.proofs.Common.{◌≡◌, ℕ, ◌*◌, ◌/◌, ◌<◌, ◌≤◌, List, [], ◌∷◌, length, sym, ap, ◌∙◌, mul_comm, mul-le-mul_left, mul-zero, mul-one, mul-add, arith}
use native.Mathlib.Nat.{lt_of_mul-lt-mul_left}
use Rattle.std.specs.List.{AllByRecursion}
use Rattle.flow.specs.declared.code.Code.{Code}
use Rattle.flow.specs.Meanings.{Distinct, sum_of}
use Rattle.frame.specs.declared.marks.Mark.{Mark}
use Rattle.frame.specs.Marking.{marks_of, flows}
use Rattle.frame.proofs.Flows.{flows_distinct, flows_every, flows_sum}
use Rattle.frame.proofs.Quotients.{quotient_low}

quotients : (t : ℕ) (e : Code → ℕ) (cs : List Code) → t * sum_of (λ c. e c / t) cs ≤ sum_of e cs
quotients t e [] = omega (arith, mul-zero t)
quotients t e (c ∷ cs) = omega (arith, mul-add t (e c / t) (sum_of (λ x. e x / t) cs), quotient_low t (e c), quotients t e cs)

-- with the counter's law at T
pub fewer : (n top t : ℕ) (e : Code → ℕ) (ms : List Mark) → top < n * t → ((cs : List Code) → Distinct cs → AllByRecursion (λ c. t ≤ e c) cs → sum_of e cs ≤ top) → ((c : Code) → marks_of c ms ≡ e c / t) → length ms < n
fewer n top t e ms budget law whole =
    let all = law (flows ms) (flows_distinct ms) (flows_every (λ c. t ≤ e c) ms (λ c h. omega (arith, quotient_low t (e c), mul-le-mul_left {m = 1} {n = e c / t} t (omega (arith, whole c)), mul-one t))) in
    let count = sym (flows_sum ms) ∙ ap (λ (f : Code → ℕ). sum_of f (flows ms)) (λ i c. whole c i) in
    lt_of_mul-lt-mul_left t (omega (arith, quotients t e (flows ms), ap (λ x. t * x) count, mul_comm n t))
