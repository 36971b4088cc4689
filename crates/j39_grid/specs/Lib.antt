-- the grid of a report, and the run that writes it
pub mod Grid
pub mod GridRun
-- what contracts see of the code's types, and the steps of a run
pub mod GridModels
pub mod GridSoFar
