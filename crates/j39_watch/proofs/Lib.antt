-- names of other crates
pub mod Common
-- a watch: its lines
pub mod CutLemmas
pub mod LatestLemmas
pub mod ValueLemmas
pub mod ScreenLemmas
pub mod NoteLemmas
pub mod AskedLemmas
pub mod WatchLemmas
