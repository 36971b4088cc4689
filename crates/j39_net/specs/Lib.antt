-- controllers on one bus
pub mod Net
-- and some of them
pub mod Example
