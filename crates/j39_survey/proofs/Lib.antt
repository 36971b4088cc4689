-- names of other crates
pub mod Common
-- who is at which address
pub mod ByAddressLemmas
pub mod SeenLemmas
pub mod NodeLemmas
pub mod SeenNodeLemmas
-- surveys: lists
pub mod FirstsLemmas
pub mod OtherLemmas
-- surveys: the parts of a survey, a line or a frame more
pub mod AddressLemmas
pub mod GroupLemmas
pub mod InterfaceLemmas
pub mod UnreadLemmas
pub mod SurveyLemmas
-- surveys: pieces of a log
pub mod SurveyPieceLemmas
-- surveys: what is written
pub mod SurveyWritingLemmas
