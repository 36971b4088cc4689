-- what is heard, and what is made of it
pub mod Heard
pub mod Forgets
pub mod Report
pub mod Answers
pub mod Output
pub mod Headed
pub mod Filter
-- what was published, and what a report tells of it
pub mod Published
pub mod Loss
pub mod Values
-- logs that meet the premises
pub mod TransferExample
pub mod NoTransferExamples
pub mod LossExample
pub mod BrokenExample
-- what a run promises
pub mod Counting
pub mod Run
pub mod Asking
pub mod Ran
pub mod Fault
-- what the code's values show
pub mod Listening
pub mod HeardModel
pub mod Chooses
-- the code's steps, below the rules
pub mod OneFrameMore
pub mod AccountCalls
pub mod RolesSoFar
pub mod ReportSoFar
pub mod AnswersSoFar
pub mod LinesSoFar
pub mod PiecesSoFar
pub mod WantsMemory
