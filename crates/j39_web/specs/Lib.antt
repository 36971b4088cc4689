-- a room, and how much of it is written
pub mod Room
-- what a text in it is
pub mod Text
-- what a call answers
pub mod Answers
-- the fields of a NAME that a page is told
pub mod Fields
-- the table that a page gives
pub mod Tables
-- the readings of one parameter as numbers, and the steps to them
pub mod Series
pub mod SeriesSoFar
-- what is written of a log
pub mod Writings
-- what a call answers that writes it
pub mod Calls
