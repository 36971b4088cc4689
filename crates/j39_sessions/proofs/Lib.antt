-- the names that proofs here cite
pub mod Common
-- packets, as their frames say them
pub mod PacketLemmas
-- boxes in their lists
pub mod BoxLemmas
-- what a step leaves
pub mod StepLemmas
-- what all that they went through leaves
pub mod LawLemmas
-- of one source
pub mod SourceLemmas
-- and which messages are put together
pub mod HandedLemmas
-- and what is sent whole is received
pub mod BringLemmas
