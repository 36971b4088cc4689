-- the names from elsewhere
pub mod Common
-- what frames, ticks and claims make of the sessions of an address
pub mod Sessions
-- and over what they went through
pub mod Events
pub mod Packets
pub mod Example
-- what the code has
pub mod Seats
pub mod Shown
