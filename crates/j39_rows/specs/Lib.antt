-- moments in UTC (ISO 8601)
pub mod Calendar
pub mod Utc
-- strings and numbers of JSON (RFC 8259)
pub mod Members
pub mod Json
-- a row as it is written in each form
pub mod Row
-- what contracts see of the code's types
pub mod Models
