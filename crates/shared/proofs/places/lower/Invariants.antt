use Rattle.std.proofs.Common.{◌≡◌, ◌++◌, take, drop}
use Rattle.shared.specs.Places.{lowered}
use Rattle.shared.proofs.places.lower.Given as goal

abbrev pub invariant-loop-place : goal.invariant-loop-place
invariant-loop-place l = l.places ≡ lowered l.by (take l.place-index l.initial.places) ++ drop l.place-index l.initial.places
