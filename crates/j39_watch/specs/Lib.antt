-- a watch: what stands on its screens
pub mod Watch
-- a watch: the code's steps, below the rules
pub mod LatestSoFar
pub mod WatchSoFar
pub mod ScreenSoFar
pub mod NotesSoFar
