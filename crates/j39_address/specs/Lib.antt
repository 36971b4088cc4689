-- the rules of the standard
pub mod Name
pub mod Claim
pub mod Holder
pub mod Request
pub mod Command
pub mod Node
pub mod NodeStep
-- what follows from them, which laws promise
pub mod Net
pub mod Settling
-- what the code's values show
pub mod Call
pub mod Claims
pub mod Claimer
-- the code's steps, below the rules
pub mod Changes
pub mod Noting
pub mod Claiming
