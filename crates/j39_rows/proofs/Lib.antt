-- the calendar
mod CalendarLemmas
-- parts that stand one behind the other, and how long numbers are
pub mod PartLemmas
pub mod NumberLemmas
-- strings: chunks of a text
pub mod JsonLemmas
