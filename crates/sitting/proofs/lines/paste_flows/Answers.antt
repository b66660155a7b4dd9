-- The line of each flow stands behind those before it.
use Rattle.std.proofs.Common.{◌<◌, [], length, get_or, arith}
use Rattle.meter.specs.declared.record.Record.{Record}
use Rattle.sitting.specs.Lines.{flow_line}
use Rattle.sitting.proofs.Pasting.{written_more, joined_more}
use Rattle.sitting.proofs.lines.paste_flows.Goals as goal

pub loop-flow-preserved : goal.loop-flow-preserved
loop-flow-preserved c =
    let flows = c.args.flows.now in
    let i = c.loop-flow.flow-index in
    let blank : Record = record { code = record { high = 0; low = 0 }; estimate = 0 } in
    let low : i < length flows = omega arith in
    let inv = c.loop-flow.invariant in
    let done = c.paste_flow-end.ensures in
    record {
      written =
          rw (← joined_more flow_line [] flows i blank low)
          (written_more (flow_line (get_or flows i blank)) inv.written done.text done.end (omega (arith, inv.written.end_is, done.short)));
      short = omega (arith, done.end, done.short);
    }
