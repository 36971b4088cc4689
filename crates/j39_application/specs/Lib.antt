-- what is sent, and how it ended
pub mod Sending
-- who is there
pub mod Peers
-- what waits in boxes
pub mod Kept
-- requests that are answered in time, and what they went through
pub mod Answers
pub mod Course
-- what goes to NAMEs, and what it went through
pub mod Outbox
pub mod OutboxCourse
-- what the code has
pub mod Boxes
pub mod Shown
