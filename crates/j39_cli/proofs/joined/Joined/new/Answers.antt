-- They are kept from behind.
use Rattle.j39_cli.proofs.Common.{map, reverse-reverse}
use Rattle.j39_cli.proofs.JoinedLemmas.{left-joined}
use Rattle.j39_cli.proofs.joined.Joined.new.Goals as goal

pub returns-clause-joined : goal.returns-clause-joined
returns-clause-joined g c =
    rw (c.reverse.ensures.items, reverse-reverse c.args.later.items)
    (left-joined (g.R.Source.remaining c.args.first) (map g.R.Source.remaining c.args.later.items))
