-- the numbers, frames and messages of the standard
pub mod Protocol
pub mod Key
pub mod Frames
pub mod Signals
pub mod Announced
pub mod Message
pub mod Cutting
pub mod Carries
-- messages put together: which places make one, and what is answered
pub mod Events
pub mod Assembly
pub mod Answers
pub mod Boxes
pub mod Course
pub mod AssemblerLaws
-- messages that are sent and received
pub mod Broadcasting
pub mod Broadcasts
pub mod Sending
pub mod SenderNext
pub mod Reception
pub mod Receiving
pub mod ReceiverStands
pub mod Net
pub mod Liveness
-- what the code's values show
pub mod Session
pub mod Sessions
pub mod Stands
pub mod AssemblerModel
pub mod SessionModel
pub mod SignalModel
pub mod SenderModel
pub mod ReceiverModel
-- the code's steps, below the rules
pub mod AssemblerStep
pub mod OpenAtEvent
pub mod Polling
