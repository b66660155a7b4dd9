-- What the drop of the oldest mark leaves.
use Rattle.std.proofs.Common.{◌≡◌, ℕ, ◌+◌, ◌*◌, ◌/◌, ◌<◌, ◌≤◌, max, Bool, true, false, cond, ◌||◌, eqb, List, [], ◌∷◌, length, drop, sym, refl, ap, arith}
use Rattle.std.proofs.lemmas.Bool.{eqb-true, eqb-false, ne_eqb, or_from}
use Rattle.std.proofs.lemmas.Bool.Decides.{nat_tests}
use Rattle.flow.specs.declared.code.Code.{Code}
use Rattle.frame.specs.declared.marks.Mark.{Mark}
use Rattle.frame.specs.Marking.{marks_from, leave, remains}
use Rattle.frame.specs.Windows.{Rising}
use Rattle.frame.proofs.Quotients.{quotient_is, quotient_low, quotient_high}

-- two offsets in one block are less than a block apart
in_block : (b o i : ℕ) → 0 < b → o / b ≡ i / b → o < i + b
in_block b o i some e = omega (arith, ap (λ x. b * x) e, quotient_high b o some, quotient_low b i)

-- what lies between two offsets of a block is in it
between_blocks : (b i o u : ℕ) → 0 < b → i ≤ o → o ≤ u → u / b ≡ i / b → o / b ≡ i / b
between_blocks b i o u some le less e = quotient_is b o (i / b) (omega (arith, quotient_low b i)) (omega (arith, ap (λ x. b * x) e, quotient_high b u some))

-- the marks left from the new position on
pub record Left (b wide i p : ℕ) (ms rest : List Mark) : Type 0 where
  pub at : ℕ
  pub past : i + 1 ≤ at
  pub near : at < i + 1 + b
  pub on : p ≤ at
  pub rise : Rising at wide rest
  pub fewer : length rest ≤ length ms
  pub kept : (k : Code) (a : ℕ) → at ≤ a → marks_from a k rest ≡ marks_from a k ms

pub left : (b wide i p : ℕ) (ms : List Mark) → 0 < b → i ≤ p → p < i + b → Rising p wide ms → Left b wide i p ms (leave b i ms)
left b wide i p [] some le near r = record { at = max p (i + 1); past = omega arith; near = omega arith; on = omega arith; rise = tt; fewer = omega arith; kept = λ k a h. refl }
left b wide i p (m ∷ ms) some le near r = by (eqb (m.offset / b) (i / b)) refl
  where
    by : (t : Bool) → eqb (m.offset / b) (i / b) ≡ t → Left b wide i p (m ∷ ms) (cond t ms (m ∷ ms))
    by true e =
        let close = in_block b m.offset i some (eqb-true (m.offset / b) (i / b) e) in
        record { at = m.offset + 1; past = omega arith; near = omega arith; on = omega arith; rise = r.2; fewer = omega arith; kept = λ k a h. grind (arith, nat_tests) }
    by false e =
        let apart : m.offset ≡ i → ⊥ = λ s. eqb-false (m.offset / b) (i / b) e (ap (λ x. x / b) s) in
        record { at = max p (i + 1); past = omega arith; near = omega arith; on = omega arith; rise = (omega arith, r.1, r.2); fewer = omega arith; kept = λ k a h. refl }

-- where offsets rise from the present one on, some mark is in the present block only if the first one is
later : (b low high i o : ℕ) (ms : List Mark) → 0 < b → i ≤ o → o < low → Rising low high ms → eqb (o / b) (i / b) ≡ false → remains b i ms ≡ false
later b low high i o [] some le less r e = refl
later b low high i o (m ∷ ms) some le less r e =
    let apart : m.offset / b ≡ i / b → ⊥ = λ h. eqb-false (o / b) (i / b) e (between_blocks b i o m.offset some le (omega arith) h) in
    or_from (eqb (m.offset / b) (i / b)) (remains b i ms) (ne_eqb (m.offset / b) (i / b) apart) (later b (m.offset + 1) high i o ms some le (omega arith) r.2 e)

pub leave_worded : (b wide i p : ℕ) (ms : List Mark) → 0 < b → i ≤ p → Rising p wide ms → leave b i ms ≡ cond (remains b i ms) (drop 1 ms) ms
leave_worded b wide i p [] some le r = refl
leave_worded b wide i p (m ∷ ms) some le r = by (eqb (m.offset / b) (i / b)) refl
  where
    by : (t : Bool) → eqb (m.offset / b) (i / b) ≡ t → cond t ms (m ∷ ms) ≡ cond (t || remains b i ms) ms (m ∷ ms)
    by true e = refl
    by false e = ap (λ (t : Bool). cond t ms (m ∷ ms)) (sym (later b (m.offset + 1) wide i m.offset ms some (omega arith) (omega arith) r.2 e))
