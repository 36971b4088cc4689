-- The parts of the line, one behind the other.
use Rattle.j39_cli.proofs.Common.{◌++◌, codes, puts_first, puts_then}
use Rattle.j39_cli.proofs.order.put_sentence.Goals as goal

pub returns-in_err-put_all : goal.returns-in_err-put_all
returns-in_err-put_all g c =
    puts_first (codes "j1939: ") (c.args.subject.now ++ (c.args.verb.now ++ (c.args.object.now ++ c.args.end.now))) _ _ _ c.from_residual.ensures.0 c.in_err-put_all.ensures.puts

pub returns-in_err-put_all-2 : goal.returns-in_err-put_all-2
returns-in_err-put_all-2 g c =
    puts_then (codes "j1939: ") _ _ _ _ _ _ c.in_ok-put_all.ensures.puts
    (puts_first c.args.subject.now (c.args.verb.now ++ (c.args.object.now ++ c.args.end.now)) _ _ _ c.from_residual-in_err-put_all-2.ensures.0 c.in_err-put_all-2.ensures.puts)

pub returns-in_err-put_all-3 : goal.returns-in_err-put_all-3
returns-in_err-put_all-3 g c =
    puts_then (codes "j1939: ") _ _ _ _ _ _ c.in_ok-put_all.ensures.puts
    (puts_then c.args.subject.now _ _ _ _ _ _ c.in_ok-put_all-2.ensures.puts
    (puts_first c.args.verb.now (c.args.object.now ++ c.args.end.now) _ _ _ c.from_residual-in_err-put_all-3.ensures.0 c.in_err-put_all-3.ensures.puts))

pub returns-in_err-put_all-4 : goal.returns-in_err-put_all-4
returns-in_err-put_all-4 g c =
    puts_then (codes "j1939: ") _ _ _ _ _ _ c.in_ok-put_all.ensures.puts
    (puts_then c.args.subject.now _ _ _ _ _ _ c.in_ok-put_all-2.ensures.puts
    (puts_then c.args.verb.now _ _ _ _ _ _ c.in_ok-put_all-3.ensures.puts
    (puts_first c.args.object.now c.args.end.now _ _ _ c.from_residual-in_err-put_all-4.ensures.0 c.in_err-put_all-4.ensures.puts)))

pub returns : goal.returns
returns g c =
    puts_then (codes "j1939: ") _ _ _ _ _ _ c.in_ok-put_all.ensures.puts
    (puts_then c.args.subject.now _ _ _ _ _ _ c.in_ok-put_all-2.ensures.puts
    (puts_then c.args.verb.now _ _ _ _ _ _ c.in_ok-put_all-3.ensures.puts
    (puts_then c.args.object.now c.args.end.now _ _ _ _ _ c.in_ok-put_all-4.ensures.puts c.put_all-5.ensures.puts)))
