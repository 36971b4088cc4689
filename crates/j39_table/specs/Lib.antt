-- the rules: what a line and a text say, and what is wrong with them (own)
pub mod Words
pub mod Positions
pub mod Columns
pub mod Scales
pub mod Fields
pub mod States
pub mod Rows
pub mod Lines
pub mod Spelled
pub mod Faults
pub mod FaultWords
pub mod Tables
pub mod Names
pub mod ReadsBack
-- the code's steps, below the rules
pub mod Agreement
pub mod Taking
