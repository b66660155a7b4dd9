use Rattle.std.proofs.Common.{length, refl, ap, sym, ◌∙◌, arith}
use Rattle.std.proofs.lemmas.Grind.{common_steps}
use Rattle.flow.specs.Answers.{answered}
use Rattle.flow.specs.Refusals.{number}
use Rattle.flow.proofs.Inside.{refused_not}
use Rattle.tape.specs.Readings.{found_of, stopped}
use Rattle.sitting.specs.Courses.{broken}
use Rattle.sitting.specs.Sittings.{course_of, lent}
use Rattle.sitting.specs.Turns.{turned, Follows}
use Rattle.sitting.proofs.Promising.{next_holds, prints_right}
use Rattle.sitting.proofs.Turning.{turn_taken, follows_next}
use Rattle.sitting.proofs.sitting.Sitting.command.Goals as goal

pub returns-in-Ok : goal.returns-in-Ok
returns-in-Ok g c =
    let m = g.C.FrameCounter.meaning in
    let met = g.met.C.FrameCounter in
    let s = course_of m c.args.self.now in
    let areas = lent c.args.scratch.now c.args.table.now in
    let found = sym (ap (found_of (λ key. key.now)) c.in-Ok.is) ∙ c.next_command.ensures.found in
    let t = turn_taken m g.K.FlowKey.spelled g.K.FlowKey.BYTES g.K.TapeKind.NUMBER g.C.TapeKind.NUMBER s c.args.tape.now (length c.args.text.now) areas _ _
    c.place.ensures found c.if-text-lt-LEAST_TEXT.false c.in_default.not-Done in
    record {
      turn = λ l h. follows_next t (c.take.ensures.turn l h);
      unchanged = tt;
      nothing_touched = tt;
      refusals = λ n r. absurd (refused_not n _ (sym r ∙ t));
      guarantee = λ l h.
          prints_right m met.opens met.flushes met.adds met.heavy g.K.FlowKey.spelled areas g.K.FlowKey.BYTES g.K.TapeKind.NUMBER g.C.TapeKind.NUMBER c.args.tape.now (length c.args.text.now) s l _ _ c.place.ensures found (c.take.ensures.turn l h) h;
      holds = λ l h.
          next_holds m met.opens met.flushes met.adds met.heavy g.K.FlowKey.spelled areas g.K.FlowKey.BYTES g.K.TapeKind.NUMBER g.C.TapeKind.NUMBER c.args.tape.now (length c.args.text.now) s _ l (follows_next t (c.take.ensures.turn l h)).course_is h;
      within = c.take.ensures.within;
    }

pub returns-in-Err : goal.returns-in-Err
returns-in-Err g c =
    let m = g.C.FrameCounter.meaning in
    let met = g.met.C.FrameCounter in
    let s = course_of m c.args.self.now in
    let areas = lent c.args.scratch.now c.args.table.now in
    let found = sym (ap (found_of (λ key. key.now)) c.in-Err.is) ∙ c.next_command.ensures.found in
    let t = turn_taken m g.K.FlowKey.spelled g.K.FlowKey.BYTES g.K.TapeKind.NUMBER g.C.TapeKind.NUMBER s c.args.tape.now (length c.args.text.now) areas _ _
    c.place.ensures found c.if-text-lt-LEAST_TEXT.false c.in_default.not-Done in
    let printed : Follows (answered (turned m g.K.FlowKey.spelled s areas (stopped (number c.in-Err.fault.refusal) c.in-Err.fault.offset))) (answered c.print_refusal.result)
    s (broken s) c.args.text.now c.print_refusal.new.text c.args.scratch.now c.args.scratch.now c.args.table.now c.args.table.now =
    record { answer_is = ap answered c.print_refusal.ensures.bytes; course_is = refl; text_is = c.print_refusal.ensures.text; scratch_is = refl; table_is = refl } in
    record {
      turn = λ l h. follows_next t printed;
      unchanged = tt;
      nothing_touched = tt;
      refusals = λ n r. absurd (refused_not n _ (sym r ∙ t));
      guarantee = λ l h.
          prints_right m met.opens met.flushes met.adds met.heavy g.K.FlowKey.spelled areas g.K.FlowKey.BYTES g.K.TapeKind.NUMBER g.C.TapeKind.NUMBER c.args.tape.now (length c.args.text.now) s l _ _ c.place.ensures found printed h;
      holds = λ l h.
          next_holds m met.opens met.flushes met.adds met.heavy g.K.FlowKey.spelled areas g.K.FlowKey.BYTES g.K.TapeKind.NUMBER g.C.TapeKind.NUMBER c.args.tape.now (length c.args.text.now) s _ l (follows_next t printed).course_is h;
      within = c.print_refusal.ensures.within;
    }

pub returns-in-Done-clause-turn : goal.returns-in-Done-clause-turn
returns-in-Done-clause-turn g c = grind (arith, common_steps)

pub returns-in-Done-clause-refusals : goal.returns-in-Done-clause-refusals
returns-in-Done-clause-refusals g c = grind (arith, common_steps)
