-- a list sorted by the numbers of its items
mod SortLemmas
-- the values that an index shows
mod IndexLemmas
-- where origins stand
mod TreeLemmas
