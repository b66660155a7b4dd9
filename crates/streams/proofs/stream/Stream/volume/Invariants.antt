use Rattle.std.proofs.Common.{◌≡◌, ◌-◌, ◌*◌, ◌^◌, ◌≤◌}
use Rattle.streams.specs.Streams.{volume_between}
use Rattle.streams.proofs.stream.Stream.volume.Given as goal

-- the weights so far are added, and no index lies beyond the last
abbrev pub invariant-loop-index : goal.invariant-loop-index
invariant-loop-index l = record {
  volume : l.volume ≡ volume_between l.self l.flow l.from (l.index - l.from);
  small : l.volume ≤ (l.index - l.from) * (2 ^ 32 - 1);
  within : l.index - l.from ≤ l.to - l.from;
}
