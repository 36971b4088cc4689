use Rattle.j39_log.proofs.splitter.Splitter.frame_on.Goals as goal

pub returns-clause-frame : goal.returns-clause-frame
returns-clause-frame c = λ begun h.
    let l = c.in_ok-line.ensures.line begun h in
    record { begins = l.begins; line = l.line; ends = l.ends; name = l.name; bus_is = l.bus_is; spells = l.spells.spells c.in_ok-frame.field-0 c.in_ok-frame.ensures }
