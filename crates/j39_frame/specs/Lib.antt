-- numbers of a bus: moments, groups, identifiers, addresses
pub mod Stamp
pub mod Pgn
pub mod Groups
pub mod Network
pub mod Identifier
pub mod Address
-- frames
pub mod Frame
-- where a value comes from
pub mod Origin
