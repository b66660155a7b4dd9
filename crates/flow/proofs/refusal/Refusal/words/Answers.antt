use Rattle.std.proofs.Common.{sym, ap}
use Rattle.flow.specs.Refusals.{wording}
use Rattle.flow.proofs.refusal.Refusal.words.Goals as goal

pub returns-in-PlacesTooFew : goal.returns-in-PlacesTooFew
returns-in-PlacesTooFew c = sym (ap wording c.in-PlacesTooFew.is)

pub returns-in-LevelTooLow : goal.returns-in-LevelTooLow
returns-in-LevelTooLow c = sym (ap wording c.in-LevelTooLow.is)

pub returns-in-TableTooShort : goal.returns-in-TableTooShort
returns-in-TableTooShort c = sym (ap wording c.in-TableTooShort.is)

pub returns-in-KindOrCommandUnknown : goal.returns-in-KindOrCommandUnknown
returns-in-KindOrCommandUnknown c = sym (ap wording c.in-KindOrCommandUnknown.is)
