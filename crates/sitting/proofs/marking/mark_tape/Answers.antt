use Rattle.std.proofs.Common.{List, ℕ, length, sym, ◌∙◌, subst}
use Rattle.sitting.specs.Markings.{Marked}
use Rattle.sitting.specs.Sittings.{lent}
use Rattle.sitting.proofs.Driving.{whole_tape, lines_ended}
use Rattle.sitting.proofs.Promising.{marked}
use Rattle.sitting.proofs.marking.mark_tape.Goals as goal

pub returns : goal.returns
returns g c =
    let m = g.C.FrameCounter.meaning in
    let met = g.met.C.FrameCounter in
    let x = m.model c.args.counter in
    let tape = c.args.tape.now in
    let areas = lent c.args.scratch.now c.args.table.now in
    let room = length c.args.text.now in
    let d = whole_tape m g.K.FlowKey.spelled areas g.K.FlowKey.BYTES g.K.TapeKind.NUMBER g.C.TapeKind.NUMBER tape room x
    c.begin-sitting.ensures.course (c.in_ok-lines.ensures _ c.begin-sitting.ensures.holds) in
    let lines = lines_ended d _ c.deref.result.now c.in_ok-extend_from_slice.ensures.items (c.deref.ensures.0 ∙ c.finish-last.ensures.line) in
    record {
      lines = lines;
      guarantee =
          subst (λ (bytes : List ℕ). Marked g.K.FlowKey.spelled areas g.K.FlowKey.BYTES g.K.TapeKind.NUMBER g.C.TapeKind.NUMBER tape room (m.greatest x) bytes) (sym lines)
          (marked m met.opens met.flushes met.adds met.heavy g.K.FlowKey.spelled areas g.K.FlowKey.BYTES g.K.TapeKind.NUMBER g.C.TapeKind.NUMBER tape room x);
      text = d.text_is;
      scratch = d.scratch_is;
      table = d.table_is;
    }
