use Rattle.std.proofs.Common.{rules}
use Rattle.j39_log.proofs.NewlineLemmas.{no_newline, takes_line}
use Rattle.j39_log.proofs.newline.split_line.Goals as goal

pub returns-in-None : goal.returns-in-None
returns-in-None c =
    no_newline c.args.bytes.now _ c.line_len.result c.line_len.ensures.value c.split_at.ensures.back (search rules)

pub returns-in-Some : goal.returns-in-Some
returns-in-Some c =
    takes_line c.args.bytes.now _ _ c.in-Some.rest.now c.in-Some.field-0-0.now c.line_len.result c.line_len.ensures.value
    c.split_at.ensures.front c.split_at.ensures.back c.in-Some.ensures.cases.0
