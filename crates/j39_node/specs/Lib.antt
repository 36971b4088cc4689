-- the numbers, and the names from elsewhere
pub mod Times
pub mod Common
-- calls, their answers, and what a history of them says
pub mod History
-- since when an address is claimed
pub mod Since
-- messages in packets to its address
pub mod Reception
-- broadcasts in packets that are heard
pub mod Apart
pub mod Boxes
pub mod Hearing
-- transfers to one address
pub mod Transfers
pub mod Moves
-- asking others for groups
pub mod Asking
-- the moments of ticks
pub mod Ticks
-- the packets of one session
pub mod Packets
-- the histories that a controller can have had
pub mod Is
-- a driver that is prompt
pub mod Prompt
-- moving to another address
pub mod Moving
-- the code's steps, below the definitions
pub mod Hold
-- frames that others exchange
pub mod Aside
-- a history
pub mod Example
pub mod AskExample
pub mod PromptExample
pub mod SteadyExample
