-- names of other crates
pub mod Common
-- the news of faults: what is kept
pub mod PlaceLemmas
mod MoveLemmas
pub mod TellLemmas
-- the news of faults: the lines of a message
pub mod FaultLineLemmas
-- the news of faults: the account
pub mod HeardLemmas
pub mod FaultAccountLemmas
pub mod LightLemmas
pub mod ChangeLemmas
pub mod AskedLemmas
pub mod PutLemmas
pub mod BrokenLemmas
pub mod WholeLemmas
-- the faults that are there now
pub mod SilenceLemmas
pub mod StandingLemmas
pub mod CurrentLemmas
pub mod NowPlaceLemmas
pub mod NowLineLemmas
pub mod CurrentAccountLemmas
pub mod PassLemmas
