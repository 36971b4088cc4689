-- calls one after another
pub mod DeviceLemmas
-- texts written one after another
pub mod PutsLemmas
-- digits that are read
pub mod DigitLemmas
-- digits that are written, forwards and backwards
pub mod PrintingLemmas
pub mod BackwardsLemmas
-- digits by vectors
pub mod VectorLemmas
-- fields of records
pub mod CsvLemmas
