use Rattle.std.proofs.Common.{◌≡◌, ◌^◌, ◌<◌, length, take}
use Rattle.std.specs.Str.Parse.{digits_value, AllDigits}
use Rattle.flow.proofs.account.AccountFlowKey.read.Given as goal

abbrev pub invariant-loop-b : goal.invariant-loop-b
invariant-loop-b l =
    AllDigits 10 (take l.b-index l.bytes) × (l.number ≡ digits_value 10 (take l.b-index l.bytes)) × (l.number < 10 ^ l.b-index) × (length l.bytes ≡ 10)
