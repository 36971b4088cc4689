-- texts that don't fit
pub mod RoomLemmas
-- the readings of one parameter
pub mod SeriesLemmas
pub mod SeriesAccountLemmas
