use Rattle.std.proofs.Common.{append_assoc, codes, sym}
use Rattle.j39_cli.proofs.id.push_destination.Goals as goal

pub returns-in-None-clause-items : goal.returns-in-None-clause-items
returns-in-None-clause-items g c =
    rw (c.push_bytes.ensures.items, c.in-None.is)
    (sym (append_assoc c.args.line.now.items (codes " destination ") (codes "-")))
