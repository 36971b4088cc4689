-- a value in its place
pub mod Stored
-- a list that grows, and how it is sorted
pub mod Items
pub mod Settling
-- a value for each group, and for each origin
pub mod ByGroup
pub mod ByOrigin
pub mod Paired
