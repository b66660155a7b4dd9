use Rattle.std.proofs.Common.{ℕ, sym, ap, ◌∙◌}
use Rattle.semi.proofs.Steps.{between-same, first_group-drop}
use Rattle.semi.specs.Line.{between, rest}
use Rattle.semi.proofs.line.regroup.Goals as goal

pub returns-then-new-line-clause-passes : goal.returns-then-new-line-clause-passes
returns-then-new-line-clause-passes c =
    let xs = c.args.line.now in
    let g = first_group-drop xs 0 ∙ sym c.if-new-line.true in
    sym (ap (λ (a : ℕ). between a c.args.new.group (rest xs)) g ∙ between-same c.args.new.group (rest xs))
