-- the rules of the standard, and the table
pub mod Value
pub mod Row
pub mod Table
pub mod Ranges
pub mod Parts
pub mod Slots
pub mod Readings
pub mod Sightings
pub mod States
pub mod Names
-- what is printed (own)
pub mod ValueText
pub mod Printed
pub mod Lines
-- what the code's values show
pub mod Models
pub mod GivenRows
pub mod Visits
-- the code's steps, below the rules
pub mod Fields
pub mod Ready
pub mod Rows
pub mod Runs
pub mod Picks
