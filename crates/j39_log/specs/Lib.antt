-- the parts of a line: buses, fields, and the texts of fields
pub mod Bus
pub mod Fields
pub mod Text
-- what a line is, what it spells, and what a log spells
pub mod Line
pub mod Spelled
pub mod Log
-- what other lines hold, and lines that `candump` prints
pub mod Kind
pub mod Printed
-- what is written
pub mod StampText
pub mod StampTexts
pub mod Canonical
-- a splitter
pub mod Newline
pub mod Splitter
-- what private contracts alone see
pub mod Shape
pub mod LineParts
pub mod LineRead
pub mod Lanes
pub mod Form
pub mod Identifiers
pub mod LastSecond
pub mod FrameLine
pub mod SplitterChanges
