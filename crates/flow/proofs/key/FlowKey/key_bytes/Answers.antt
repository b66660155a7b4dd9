use Rattle.flow.proofs.Same.{none_of_another_length}
use Rattle.flow.proofs.key.FlowKey.key_bytes.Goals as goal

pub returns : goal.returns
returns g c = record {
  count = c.BYTES.ensures;
  no_other_count = none_of_another_length g.Self.FlowKey.BYTES g.Self.FlowKey.spelled g.met.Self.FlowKey.wide;
}
