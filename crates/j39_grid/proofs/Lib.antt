-- columns, one by one
pub mod PlaceLemmas
-- the rows behind values, and those of a message
pub mod RowLemmas
pub mod MessageLemmas
-- the grid as an account
pub mod AccountLemmas
