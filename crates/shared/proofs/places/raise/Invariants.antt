use Rattle.std.proofs.Common.{◌≡◌, false, take}
use Rattle.shared.specs.Places.{holds}
use Rattle.shared.proofs.places.raise.Given as goal

abbrev pub invariant-loop-place : goal.invariant-loop-place
invariant-loop-place l = (l.places ≡ l.initial.places) × (holds l.code (take l.place-index l.places) ≡ false)
