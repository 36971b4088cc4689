-- names of other crates
pub mod Common
-- the report as records and as objects: a message's entries
pub mod JsonLemmas
pub mod EntryLemmas
pub mod ForwardLemmas
pub mod RecordLemmas
pub mod ObjectLemmas
pub mod QuoteLemmas
-- summaries: a summary, entry by entry
pub mod OriginLemmas
pub mod FirstLemmas
pub mod RowLemmas
pub mod HeldLemmas
pub mod LeadLemmas
pub mod AbsenceLemmas
pub mod TakenLemmas
pub mod HeadLemmas
pub mod OriginRowLemmas
pub mod SummaryLineLemmas
pub mod SummaryAccountLemmas
pub mod LawLemmas
