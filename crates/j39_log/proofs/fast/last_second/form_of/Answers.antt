use Rattle.std.proofs.Common.{◌≡◌, arith}
use Rattle.j39_log.proofs.fast.last_second.form_of.Goals as goal

pub returns-clause-least : goal.returns-clause-least
returns-clause-least c =
    let starts : c.slice_before.result ≡ 0 = omega (arith, c.slice_before.ensures.starts, c.told-text) in
    rw starts at c.slice_before.ensures.written
