-- the names that proofs here cite
pub mod Common
-- boxes in their lists
pub mod BoxLemmas
-- what one transfer does
pub mod RunningLemmas
pub mod StepLemmas
-- and what all that they went through leaves
pub mod LawLemmas
pub mod TurnLemmas
pub mod DueLemmas
pub mod RestLemmas
pub mod CourseLemmas
pub mod OrderLemmas
pub mod ExampleLemmas
