-- the columns of a line, from the smallest up
pub mod PlaceLemmas
pub mod MarkLemmas
pub mod ColumnLemmas
pub mod ScaleLemmas
pub mod FieldLemmas
pub mod StateLemmas
pub mod RowLemmas
-- the lines of a table, and what is printed
pub mod TableLemmas
pub mod LookupLemmas
pub mod NameLemmas
pub mod PrintedLemmas
pub mod FaultLemmas
