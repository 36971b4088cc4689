-- numbers, texts and lists
pub mod NumberLemmas
pub mod ListLemmas
pub mod TextLemmas
pub mod PartsLemmas
-- the rows of a table, and what is prepared for their lines
pub mod TableLemmas
pub mod SlotLemmas
pub mod ReadBackLemmas
pub mod ReadyLemmas
pub mod RowLemmas
-- where they are sought, and what they give
pub mod RunLemmas
pub mod ReadLemmas
pub mod SightingLemmas
pub mod VisitLemmas
pub mod RestrictedLemmas
-- what a table calls its groups and parameters
pub mod StateLemmas
pub mod RawStateLemmas
pub mod NameLemmas
pub mod GroupNameLemmas
