use Rattle.std.proofs.Common.{length, ap, ◌∙◌, arith}
use Rattle.std.proofs.lemmas.Grind.{common_steps}
use Rattle.flow.specs.Answers.{answered}
use Rattle.sitting.specs.Courses.{accepted}
use Rattle.sitting.specs.Lines.{over}
use Rattle.sitting.proofs.Answering.{reply_read, refusal_read, accepted_read}
use Rattle.sitting.proofs.sitting.Sitting.take.Goals as goal

pub returns-in-Ok-clause-turn : goal.returns-in-Ok-clause-turn
returns-in-Ok-clause-turn g c = λ l h.
    let said = c.obey-answer.ensures in
    let weight = c.accepted.ensures ∙ ap (accepted c.args.placed.command) (said.answer l h) ∙ accepted_read (λ key. key.now) c.args.placed.command _ in
    let lines = reply_read _ c.obey-answer.result c.in-Ok.reply c.args.placed.offset c.args.table.now _ c.in-Ok.is (said.answer l h) (said.table l h) in
    record {
      answer_is = ap answered (c.print_reply.ensures.bytes ∙ ap length lines);
      course_is = grind (arith, common_steps, weight, said.stage l h, said.meter l h);
      text_is = c.print_reply.ensures.text ∙ ap (λ bytes. over bytes c.args.text.now) lines;
      scratch_is = said.scratch l h;
      table_is = said.table l h;
    }

pub returns-in-Err-clause-turn : goal.returns-in-Err-clause-turn
returns-in-Err-clause-turn g c = λ l h.
    let said = c.obey-answer.ensures in
    let weight = c.accepted.ensures ∙ ap (accepted c.args.placed.command) (said.answer l h) ∙ accepted_read (λ key. key.now) c.args.placed.command _ in
    let line = refusal_read _ c.obey-answer.result c.in-Err.refusal c.args.placed.offset c.in-Err.is (said.answer l h) in
    record {
      answer_is = ap answered (c.print_refusal.ensures.bytes ∙ ap length line);
      course_is = grind (arith, common_steps, weight, said.stage l h, said.meter l h);
      text_is = c.print_refusal.ensures.text ∙ ap (λ bytes. over bytes c.args.text.now) line;
      scratch_is = said.scratch l h;
      table_is = said.table l h;
    }
