-- the news of faults: which messages are told, and what of them
pub mod News
pub mod Faults
pub mod FaultChanges
pub mod Told
pub mod FaultRows
-- the news of faults: what a run makes of the frames, and where it may want memory
pub mod FaultRun
pub mod FaultAsking
pub mod Broken
-- the news of faults: the code's steps, below the rules
pub mod LastMessages
pub mod Remembered
pub mod FaultsSoFar
-- the messages of a controller, one behind the other
pub mod Spoken
pub mod Places
-- the faults that are there now: which, their text, and what a run makes of the frames
pub mod FaultsNow
pub mod Silence
pub mod FaultsNowRun
-- the faults that are there now: the code's steps, below the rules
pub mod CurrentPlaces
pub mod CurrentSoFar
