-- a line and its parts
pub mod FieldLemmas
pub mod TextLemmas
pub mod LineLemmas
-- the quick reader
pub mod SpacedLemmas
pub mod LaneLemmas
pub mod StampLaneLemmas
pub mod PlainLemmas
pub mod FormLemmas
pub mod ReaderLemmas
-- lines of a log, and the frames of a run's bus
pub mod LogLemmas
pub mod BusLemmas
-- where lines end
pub mod NewlineLemmas
pub mod BlockLemmas
pub mod SplitterLemmas
-- the line that is written
pub mod CanonicalLemmas
