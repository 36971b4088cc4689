-- the names from elsewhere
pub mod Common
-- what frames, time and claims make of the transfers of an address
pub mod Transfers
-- and over what they went through
pub mod Events
pub mod Course
pub mod Example
-- what the code has
pub mod Boxes
pub mod Shown
