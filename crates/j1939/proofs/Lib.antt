-- why a log isn't opened
pub mod OpenedLemmas
