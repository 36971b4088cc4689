-- names of other crates
pub mod Common
-- numbers in words
pub mod FieldLemmas
pub mod DigitLemmas
pub mod DayLemmas
-- clap, from words to the command that it met: for `parse`
pub mod PartLemmas
pub mod EachLemmas
pub mod TakenLemmas
pub mod CheckLemmas
pub mod ArgumentLemmas
pub mod ChoiceLemmas
pub mod CommandLemmas
pub mod MetLemmas
-- lists in one word: for `parse`
pub mod ListLemmas
-- logs one behind the other
pub mod JoinedLemmas
-- a run's faults: for `perform`
pub mod RunLemmas
-- the order of FILEs
pub mod OrderLemmas
-- what is told of nothing
pub mod TellsLemmas
