-- All worked sheets, as facts about the rules and about the guarantee. Assumes nothing.
--   Sheets   the sheets of keys, of refusals, of both counters, of the meter and of a day
use Rattle.sheets.specs.CounterSheets.{SemiSheet, SemiPlaces, SharedSheet}
use Rattle.sheets.specs.KeySheets.{PrefixSheet, AccountSheet}
use Rattle.sheets.specs.RefusalSheets.{OpenSheet, AddSheet, LeftSheet}
use Rattle.sheets.specs.MeterSheets.{MeterSheet, FramesSheet}
use Rattle.sheets.specs.DaySheets.{DayMet, DaySheet}

pub record Sheets : Type 0 where
  pub prefixes : PrefixSheet
  pub accounts : AccountSheet
  pub opens : OpenSheet
  pub adds : AddSheet
  pub left : LeftSheet
  pub semi : SemiSheet
  pub semi_places : SemiPlaces
  pub shared : SharedSheet
  pub meter : MeterSheet
  pub frames : FramesSheet
  pub day_met : DayMet
  pub day : DaySheet
