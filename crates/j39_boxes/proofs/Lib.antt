-- one taken out of a list, by exchanges of neighbours
pub mod CarryLemmas
