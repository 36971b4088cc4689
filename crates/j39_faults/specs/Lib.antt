-- the rules of the standard
pub mod FaultGroups
pub mod LampBits
pub mod Codes
pub mod Conversions
pub mod Words
pub mod FaultsMessage
-- what is told (own)
pub mod Text
pub mod Sameness
pub mod Changes
-- the code's steps, below the rules
pub mod CodesLeft
pub mod LampText
