-- a value in a box
pub mod Stored
-- a list that grows
pub mod Items
-- a value for each group, and for each origin
pub mod Index
pub mod ByGroup
pub mod ByOrigin
