use Rattle.std.proofs.Common.{◌≡◌, ℕ, Option, MatchOption, length, get_or, sym, subst, arith}
use Rattle.logs.specs.Texts.{WritesByte}
use Rattle.logs.proofs.Texts.{no_zero_in_front, value_written, byte_read}
use Rattle.logs.proofs.written.byte.Goals as goal
use Rattle.logs.proofs.written.byte.Goals.{else-digits-gt1-via-then-digits-gt1+else-digits-eq-ZERO, else-digits-gt1-via-else-digits-gt1}

pub returns-then-digits-eq-ZERO : goal.returns-then-digits-eq-ZERO
returns-then-digits-eq-ZERO c = no_zero_in_front c.args.digits.now c.if-digits-eq-ZERO.true c.if-digits-gt1.true

pub returns-in_err-number : goal.returns-in_err-number
returns-in_err-number c =
    subst (λ (o : Option ℕ). MatchOption o ((n : ℕ) → WritesByte c.args.digits.now n → ⊥) (λ n. WritesByte c.args.digits.now n)) (sym c.from_residual.ensures)
    (λ n w. c.in_err-number.ensures (value_written c.args.digits.now n w).0)

pub returns : goal.returns
returns c =
    let ds = c.args.digits.now in
    let z : get_or ds 0 0 ≡ 48 → length ds ≡ 1 =
    elim c.else-digits-gt1.branch [ else-digits-gt1-via-then-digits-gt1+else-digits-eq-ZERO w ↦ λ k. absurd (w.if-digits-eq-ZERO.false k) | else-digits-gt1-via-else-digits-gt1 w ↦ λ k. omega (arith, w.if-digits-gt1.false, c.in_ok-number.ensures.0.0) ] in
    subst (λ (o : Option ℕ). MatchOption o ((n : ℕ) → WritesByte ds n → ⊥) (λ n. WritesByte ds n)) (sym c.ok.ensures.value)
    (byte_read ds c.in_ok-number.field-0 c.try_from.result c.in_ok-number.ensures.0 c.in_ok-number.ensures.1 z c.try_from.ensures)
