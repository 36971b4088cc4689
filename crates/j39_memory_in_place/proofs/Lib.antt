-- a list sorted by the numbers of its items
mod SettlingLemmas
-- origins and their values, side by side
mod PairLemmas
