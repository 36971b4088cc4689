use Rattle.std.proofs.Common.{[], refl}
use Rattle.j39_web.specs.SeriesSoFar.{gathered}
use Rattle.j39_web.proofs.series.series.Goals as goal

pub returns : goal.returns
returns g c = c.run_over.ensures.ran (record { of = c.args.wanted.of; rows = c.args.wanted.groups.now }) (gathered (record { of = c.args.wanted.of; rows = c.args.wanted.groups.now }) []) (λ name. c.new-account.ensures) refl
