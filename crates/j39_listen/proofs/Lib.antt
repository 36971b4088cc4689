-- what is heard at a place: for the contract of a listener
pub mod Rising
pub mod Held
pub mod Causal
pub mod Events
pub mod Reported
pub mod Restricted
pub mod Unique
pub mod Masks
pub mod Forgets
pub mod Gaps
pub mod Between
pub mod Feeding
pub mod Existing
pub mod ListenerLemmas
-- the accounts: for those of `report` and `answer`
pub mod ReportAccount
pub mod FilterLemmas
pub mod AnswerLemmas
pub mod AnswerAccount
pub mod AnswerExisting
-- the runs: for the clauses that all runs share
pub mod LineLemmas
pub mod CountLemmas
pub mod RunLemmas
pub mod StopLemmas
pub mod PieceLemmas
pub mod PassLemmas
pub mod DigitLemmas
pub mod AskLemmas
pub mod HeadedLemmas
pub mod KeepingUp
-- the headline: for the laws on what was published
pub mod Items
pub mod Sent
pub mod Story
pub mod Courses
pub mod InTime
pub mod Holders
pub mod HeardAlone
pub mod HeardItems
pub mod Endings
pub mod Headline
pub mod Written
-- its premises can be met
pub mod CheckedItems
pub mod Checked
pub mod TransferExample
pub mod NoTransferExamples
pub mod LossExample
pub mod BrokenExample
