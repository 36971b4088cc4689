-- holders, and a table of them
pub mod HolderLemmas
pub mod OrderLemmas
pub mod NotingLemmas
-- what a node does
pub mod OneStepLemmas
pub mod SomeStepLemmas
mod ClaimerLemmas
mod StepLemmas
-- the laws on nets
mod NetLemmas
mod SmallestLemmas
mod SettlingLemmas
