-- The test decides it.
use Rattle.std.proofs.Common.{◌≡◌, rules}
use Rattle.std.proofs.lemmas.Bool.Decides.{Decides-at}
use Rattle.j39_faults.specs.Sameness.{tells_same}
use Rattle.j39_faults.proofs.SamenessLemmas.{decides}
use Rattle.j39_faults.proofs.sameness.tells_same.Goals as goal

pub returns-then-same_lamps-clause-means : goal.returns-then-same_lamps-clause-means
returns-then-same_lamps-clause-means c =
    let value : c.same_codes.result ≡ tells_same c.args.version c.args.one.now c.args.other.now = search rules in
    Decides-at _ _ value (decides c.args.version c.args.one.now c.args.other.now)
