-- columns that the records of a report have
pub mod Columns
-- the report as records: the record of an entry, and what a run makes of the frames
pub mod EntryText
pub mod ReportRecords
-- the report in lines with their moments in UTC
pub mod EntryInUtc
-- the report as objects of JSON
pub mod Json
pub mod EntryObject
pub mod ReportObjects
-- the report as records and as objects: the code's steps
pub mod Forwards
pub mod MessageEntries
pub mod MessageRecords
pub mod MessageObjects
-- summaries: what a report's values did, and its text
pub mod Summary
pub mod RowText
pub mod SummaryRun
pub mod Bounds
-- summaries: what the code's values show
pub mod RowModels
pub mod MessageHeads
-- summaries: the code's steps, below the rules
pub mod Leads
pub mod RowsSoFar
pub mod SummarySoFar
-- surveys: the code's steps, below the rules
pub mod SidesSoFar
