-- Refusals, their numbers and their words. Assumes nothing.
--   number    the number of a refusal
--   wording   the refusal in words, as bytes of ASCII
use Rattle.std.specs.Prelude.{ℕ, List, codes}
use Rattle.flow.specs.declared.refusal.Refusal.{Refusal}
use Rattle.flow.specs.declared.refusal.Refusal.TheVariants.{PlacesOutOfRange, StepOutOfRange, WeightOutOfRange, CounterFull, GreatestWeightOutOfRange, WindowOutOfRange, BlocksUnfit, PlacesTooFew, WeightZero, WeightAbovePlan, LevelTooLow, ScratchTooShort, TableTooShort, NotAKey, KindOrCommandUnknown, TapeEnds, NotTakenNow, TextTooShort, TapeTooLong}

abbrev pub number : Refusal → ℕ
number PlacesOutOfRange = 1
number StepOutOfRange = 2
number WeightOutOfRange = 3
number CounterFull = 4
number GreatestWeightOutOfRange = 5
number WindowOutOfRange = 6
number BlocksUnfit = 7
number PlacesTooFew = 8
number WeightZero = 9
number WeightAbovePlan = 10
number LevelTooLow = 11
number ScratchTooShort = 12
number TableTooShort = 13
number NotAKey = 14
number KindOrCommandUnknown = 15
number TapeEnds = 16
number NotTakenNow = 17
number TextTooShort = 18
number TapeTooLong = 19

abbrev pub wording : Refusal → List ℕ
wording PlacesOutOfRange = codes "the places are not from 1 to 256"
wording StepOutOfRange = codes "the step is not from 1 to the greatest step of the counter"
wording WeightOutOfRange = codes "the weight is not from 1 to 1048576"
wording CounterFull = codes "the counter has taken 16777216 packets since its last flush"
wording GreatestWeightOutOfRange = codes "the greatest weight is not from 1 to 1048576"
wording WindowOutOfRange = codes "the window is not from 1 to 16777216 packets"
wording BlocksUnfit = codes "the blocks do not divide the window"
wording PlacesTooFew = codes "the places are too few for the blocks and the step"
wording WeightZero = codes "the weight is 0"
wording WeightAbovePlan = codes "the weight is above the greatest weight of the plan"
wording LevelTooLow = codes "the level is below three times the unit"
wording ScratchTooShort = codes "the scratch is too short"
wording TableTooShort = codes "the table is shorter than the list"
wording NotAKey = codes "this is no key of the kind"
wording KindOrCommandUnknown = codes "the kind or the command is unknown"
wording TapeEnds = codes "the tape ends where a byte is due"
wording NotTakenNow = codes "this is not taken in the present state"
wording TextTooShort = codes "the text area is too short"
wording TapeTooLong = codes "the tape is too long"
