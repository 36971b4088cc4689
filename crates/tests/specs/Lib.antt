-- what the calls set and count
pub mod Trial
