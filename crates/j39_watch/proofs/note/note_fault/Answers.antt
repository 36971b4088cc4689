-- The message counts.
use Rattle.j39_watch.proofs.note.note_fault.Goals as goal

pub returns-in-Ok-clause-kept : goal.returns-in-Ok-clause-kept
returns-in-Ok-clause-kept c = λ which first ms is kept.
    rw c.if-not-counts.false (rw c.again.ensures at (c.in-Ok.ensures.taken which first ms (rw c.again.ensures is) kept))
