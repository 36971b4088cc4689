-- tokens in one number
pub mod TokenLemmas
-- what is told of peers
pub mod PeerLemmas
-- answers given, and handed in by turns
pub mod AnswerLemmas
-- what became of each request
pub mod CourseLemmas
-- what goes to NAMEs by turns, and what became of each
pub mod OutboxLemmas
-- what is handed in as one frame is taken at once
pub mod AtOnce
