use Rattle.j39_log.proofs.text.frame_of.Goals as goal

pub returns-in_err-bytes-clause-only : goal.returns-in_err-bytes-clause-only
returns-in_err-bytes-clause-only c = λ id bytes h.
    let parts = c.in_ok-digits.ensures.only h.digits h.pairs h.parts in
    absurd (c.in_err-bytes.ensures.only bytes (rw parts.1 h.bytes_are) h.bytes_fit)
