use Rattle.flow.proofs.Same.{keys_tell, apart_from_back}
use Rattle.flow.proofs.key.same_flow.Goals as goal

pub returns : goal.returns
returns g c =
    let apart = apart_from_back g.K.FlowKey.coded g.met.K.FlowKey.back in
    record {
      same = keys_tell g.K.FlowKey.coded apart c.share_a_code.result _ _ c.share_a_code.ensures;
      no_two_keys_share_a_code = apart;
    }
