-- what a call leaves of a device
pub mod Device
-- what a call makes of a device, from before it to after it
pub mod Turn
-- what a call that writes a text leaves of the writer
pub mod Puts
-- a device of std with its marks
pub mod Told
-- characters
pub mod Chars
-- numbers as text, and where a text stands that is written backwards
pub mod Printing
pub mod Backwards
-- digits as vectors write them
pub mod Vectors
-- records of comma-separated values (RFC 4180)
pub mod Records
