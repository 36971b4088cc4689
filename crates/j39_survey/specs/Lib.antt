-- who is at which address: what a run makes of the frames
pub mod ByAddress
pub mod Nodes
pub mod SeenNodes
-- who is at which address: the code's steps, below the rules
pub mod NodesSoFar
pub mod SeenSoFar
-- surveys: the lines of a log, and what is in them
pub mod LogLines
pub mod Firsts
pub mod Interfaces
pub mod GroupCounts
pub mod OtherLines
pub mod UnreadLines
-- surveys: what is written, and what a run promises
pub mod SurveyText
pub mod SurveyRun
-- surveys: the code's steps, below the rules
pub mod SurveyModels
pub mod CameSoFar
pub mod SurveySoFar
