-- facts of tests, and the names that proofs here cite
pub mod Tests
pub mod Common
-- lists from which the first is taken
pub mod QueueLemmas
-- frames that are made, and the lane of broadcasts
pub mod FrameLemmas
-- what every history says of what is received in packets
pub mod ReceptionLemmas
-- a message that waits is renewed
pub mod RenewLemmas
-- broadcasts in packets that are heard
pub mod HearingLemmas
pub mod ListenLemmas
-- transfers: between which addresses the open one goes, and the frames that it makes
pub mod OpenLemmas
pub mod ChangeLemmas
pub mod PortLemmas
pub mod SaidLemmas
-- what the calls answer that accept something
pub mod AnswerCases
-- messages that were withdrawn
pub mod WithdrawLemmas
-- what every answered history says
pub mod SoundLemmas
-- what kind a frame is that is taken
pub mod KindLemmas
-- what every answered history says of broadcasts
pub mod LaneLemmas
-- the open request
pub mod AskLemmas
-- a call more
pub mod CallLemmas
-- the laws of requests
pub mod AskLaws
-- when a tick does something
pub mod TickLemmas
-- when frames of packets are due
pub mod DueLemmas
-- the laws
pub mod LawLemmas
-- the laws of broadcasts
pub mod LaneLaws
-- since when the address is claimed
pub mod SinceLemmas
-- what is received in packets, step by step
pub mod PacketLemmas
-- the laws of messages that come in packets
pub mod ReceptionLaws
-- a session ends by itself, and what is sent whole is received
pub mod SessionLaws
-- a restart is met
pub mod RestartLaws
-- the laws of transfers
pub mod MoveSteps
pub mod MoveLemmas
pub mod TransferLaws
pub mod TransferEnds
pub mod CountLaws
pub mod InTurn
pub mod UrgencyLaws
-- the laws of broadcasts in packets that are heard
pub mod HearingLaws
pub mod ApartLaws
-- what is made whole in packets answers a request
pub mod PacketsAnswer
-- frames of strangers
pub mod StrangerLaws
pub mod RequestStrangers
pub mod AsideLaws
pub mod MovingLemmas
-- the laws of a driver that is prompt
pub mod PromptLaws
pub mod RestLaws
pub mod EndSteps
pub mod EndLaws
pub mod MessageLaws
-- the laws of a driver that takes one frame at least
pub mod SteadyLaws
pub mod SteadySteps
pub mod SteadyEnds
pub mod KnownLemmas
