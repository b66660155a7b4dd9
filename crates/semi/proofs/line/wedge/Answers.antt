use Rattle.std.proofs.Common.{◌≡◌, ℕ, ◌+◌, ◌-◌, List, [], ◌∷◌, length, set, ap, ◌∙◌, length-append, arith}
use Rattle.std.specs.List.{copy_within}
use Rattle.semi.proofs.Places.{wedged}
use Rattle.semi.specs.declared.entry.Entry.{Entry}
use Rattle.semi.proofs.line.wedge.Goals as goal

pub returns : goal.returns
returns c = λ front last e.
    let xs = c.args.line.now in
    let at = c.args.at in
    let new = c.args.new in
    let n : length xs ≡ length front + 1 = ap length e ∙ length-append front (last ∷ []) in
    let end : length xs - 1 ≡ length front = omega arith in
    ap (λ (ys : List Entry). set ys at new) c.copy_within.ensures.after ∙
    ap (λ (m : ℕ). set (copy_within xs at m (at + 1)) at new) end ∙
    ap (λ (ys : List Entry). set (copy_within ys at (length front) (at + 1)) at new) e ∙
    wedged front last new at (omega arith)
