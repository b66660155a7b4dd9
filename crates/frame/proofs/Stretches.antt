-- A stretch of the present frame under one packet more, and at the end of its frame.
use Rattle.std.proofs.Common.{◌≡◌, ℕ, ◌+◌, ◌*◌, ◌/◌, ◌<◌, ◌≤◌, cond, ltb, ap, subst, mul-zero, mul-add, arith}
use native.Mathlib.Nat.{div-eq_of_lt}
use Rattle.frame.specs.Windows.{Since, Stretch}
use Rattle.frame.proofs.Quotients.{quotient_step, quotient_low, quotient_high}

pub since_at : {t q r v x m y : ℕ} → q ≡ r → v ≡ x → m ≡ y → Since t q v m → Since t r x y
since_at {t} e f g s = subst (λ (c : ℕ × ℕ × ℕ). Since t c.0 c.1 c.2) (λ i. (e i, f i, g i)) s

pub since_new : (t q : ℕ) → 0 < t → Since t q 0 0
since_new t q some = record { low = omega (arith, quotient_low t q, mul-zero t); high = omega (arith, quotient_high t q some, mul-zero t) }

-- the code's own packet
pub since_own : (t q w v m : ℕ) → 0 < t → w ≤ t → Since t q v m → Since t (q + w) (w + v) (m + cond (ltb (q / t) ((q + w) / t)) 1 0)
since_own t q w v m some le s =
    let up : ℕ = cond (ltb (q / t) ((q + w) / t)) 1 0 in
    let e = ap (λ x. t * x) (quotient_step t q w some le) in
    let f = mul-add t (q / t) up in
    let g = mul-add t m up in
    record { low = omega (arith, s.low); high = omega (arith, s.high) }

-- a rise by another code's packet, which ends below T
pub since_rise : (t q r v m : ℕ) → q ≤ r → r < t → m ≤ q / t → Since t q v m → Since t r v m
since_rise t q r v m le less few s =
    let a : q / t ≡ 0 = div-eq_of_lt (omega arith) in
    let b : r / t ≡ 0 = div-eq_of_lt less in
    let c : m ≡ 0 = omega arith in
    let x = ap (λ i. t * i) a in
    let y = ap (λ i. t * i) b in
    let u = ap (λ i. t * i) c in
    record { low = omega (arith, s.low, mul-zero t); high = omega (arith, s.high, mul-zero t) }

pub since_ends : (t q v m : ℕ) → 0 < t → Since t q v m → Stretch t v m
since_ends t q v m some s = record { low = omega (arith, s.low, quotient_high t q some); high = omega (arith, s.high, quotient_low t q) }
