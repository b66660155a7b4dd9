use Rattle.std.proofs.Common.{ℕ, List, Option, MatchOption, slice_index, sym, subst}
use Rattle.logs.specs.Texts.{WritesFive}
use Rattle.logs.specs.Laws.{after_a, after_b, after_c, after_d}
use Rattle.logs.proofs.Texts.{five}
use Rattle.logs.proofs.written.dotted_bytes.Goals as goal

-- what the function promises of a word
abbrev Answers : List ℕ → Option (List ℕ) → Type 0
Answers word o = MatchOption o
    ((a b c d len : ℕ) → WritesFive word a b c d len → ⊥)
    (λ bs. WritesFive word (slice_index bs 0) (slice_index bs 1) (slice_index bs 2) (slice_index bs 3) (slice_index bs 4))

pub returns-in_err-b : goal.returns-in_err-b
returns-in_err-b o = subst (Answers o.args.word.now) (sym o.from_residual-in_err-b.ensures)
    (λ a b c d len w. o.in_err-b.ensures b _ (after_a _ _ _ a b c d len o.in_ok-a.ensures w).1)

pub returns-in_err-c : goal.returns-in_err-c
returns-in_err-c o = subst (Answers o.args.word.now) (sym o.from_residual-in_err-c.ensures)
    (λ a b c d len w. o.in_err-c.ensures c _ (after_b _ _ _ _ _ a b c d len o.in_ok-a.ensures o.in_ok-b.ensures w).2)

pub returns-in_err-d : goal.returns-in_err-d
returns-in_err-d o = subst (Answers o.args.word.now) (sym o.from_residual-in_err-d.ensures)
    (λ a b c d len w. o.in_err-d.ensures d _ (after_c _ _ _ _ _ _ _ a b c d len o.in_ok-a.ensures o.in_ok-b.ensures o.in_ok-c.ensures w).3)

pub returns-in_err-len : goal.returns-in_err-len
returns-in_err-len o = subst (Answers o.args.word.now) (sym o.from_residual-in_err-len.ensures)
    (λ a b c d len w. o.in_err-len.ensures len (after_d _ _ _ _ _ _ _ _ _ a b c d len o.in_ok-a.ensures o.in_ok-b.ensures o.in_ok-c.ensures o.in_ok-d.ensures w).4)

pub returns : goal.returns
returns o = five _ _ _ _ _ _ _ _ _ _ o.in_ok-a.ensures o.in_ok-b.ensures o.in_ok-c.ensures o.in_ok-d.ensures o.in_ok-len.ensures
