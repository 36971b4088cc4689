-- what the program does for its words
pub mod Done
pub mod Opened
