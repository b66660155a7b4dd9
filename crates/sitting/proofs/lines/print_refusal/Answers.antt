-- The line of a refusal stands at the front.
use Rattle.std.proofs.Common.{◌≡◌, ◌∙◌, subst}
use Rattle.sitting.specs.Lines.{refusal_line, over}
use Rattle.sitting.proofs.Pasting.{pasted_front}
use Rattle.sitting.proofs.lines.print_refusal.Goals as goal

pub returns-clause-text : goal.returns-clause-text
returns-clause-text c =
    let text = c.args.text.now in
    subst (λ n. c.paste_line.new.text ≡ over (refusal_line n c.args.offset) text) c.number.ensures
    (c.paste_line.ensures.text ∙ pasted_front text (refusal_line c.number.result c.args.offset))
