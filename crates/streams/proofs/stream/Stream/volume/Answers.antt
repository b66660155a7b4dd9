use Rattle.std.proofs.Common.{arith, ◌≡◌, ◌-◌, suc, ◌+◌, sym, ap, ◌∙◌}
use Rattle.streams.specs.Streams.{packet_at, weight_of, volume_between}
use Rattle.streams.proofs.stream.Stream.volume.Goals as goal

pub overflow_add-volume : goal.overflow_add-volume
overflow_add-volume c = omega (arith, c.loop-index.invariant.small, c.weight_of-volume.ensures.size, c.loop-index.invariant.within, c.loop-index.auto.index, c.loop-index-test.true, c.requires)

pub loop-index-preserved : goal.loop-index-preserved
loop-index-preserved c =
    let s = c.args.self.now in
    let k = c.args.flow in
    let from = c.args.from in
    let i = c.loop-index.index in
    let next : i + 1 - from ≡ suc (i - from) = omega (arith, c.loop-index.auto.index) in
    let here : i ≡ from + (i - from) = omega (arith, c.loop-index.auto.index) in
    let weight : c.weight_of-volume.result ≡ weight_of k (packet_at s (from + (i - from))) = c.weight_of-volume.ensures.weight ∙ ap (weight_of k) (c.packet.ensures ∙ ap (packet_at s) here) in
    record {
      volume = (λ j. c.loop-index.invariant.volume j + weight j) ∙ sym (ap (volume_between s k from) next);
      small = omega (arith, c.loop-index.invariant.small, c.weight_of-volume.ensures.size, next);
      within = omega (arith, next, c.loop-index.auto.index, c.loop-index-test.true);
    }

pub returns : goal.returns
returns c = c.loop-index.invariant.volume ∙ ap (volume_between c.args.self.now c.args.flow c.args.from) (omega (arith, c.loop-index.invariant.within, c.loop-index-test.false))
