-- which message was delivered
mod BookLemmas
mod CallLemmas
-- the players that were told a frame
mod TellingLemmas
-- where a call ended well
mod PlayerLemmas
-- what was noted
mod NotedLemmas
-- the players of a scenario
mod ScenarioLemmas
