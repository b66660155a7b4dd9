pub mod CounterSheets
pub mod KeySheets
pub mod RefusalSheets
pub mod MeterSheets
pub mod DaySheets
pub mod Readings
pub mod Sheets
pub mod Runs
