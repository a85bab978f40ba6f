pub mod ClockLemmas
pub mod DayLemmas
pub mod QuarterLemmas
