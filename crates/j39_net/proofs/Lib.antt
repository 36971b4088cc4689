-- frames that are taken, carried and heard
pub mod NetLemmas
-- no two hold one address
pub mod ShareLemmas
-- messages come in order, each once
pub mod PartLemmas
-- and so does what is got
pub mod GotLemmas
-- what is sent is heard under its NAME
pub mod ReportLemmas
-- and stands in the report of the log
pub mod JoinLemmas
-- a claim that is owed is taken in time
pub mod DefenceLemmas
-- broadcasts that are taken
pub mod CourseLemmas
-- and heard
pub mod HearLemmas
-- what their frames are
pub mod BroadcastFacts
-- and what is heard is what was taken
pub mod BroadcastLemmas
-- through the log
pub mod CarriedLemmas
-- what is taken comes
pub mod TakenLemmas
-- broadcasts of the log
pub mod ChainLemmas
pub mod WholeLemmas
pub mod WholeReport
-- where none of its frames is lost, a broadcast is heard whole, or counted
pub mod SpanLemmas
pub mod CloseLemmas
pub mod HeardWhole
-- a frame that is heard twice
pub mod DoubledLemmas
-- a frame of a transfer, and what is open and whole by those that are heard
pub mod StepLemmas
pub mod SessionLemmas
-- what is said to it
pub mod ReplyLemmas
-- transfers that are taken
pub mod MoveCourse
pub mod TransferCourse
-- and what is heard of them
pub mod TransferLemmas
-- what is acknowledged was whole
pub mod AckLemmas
-- so what is done was
pub mod DoneLemmas
