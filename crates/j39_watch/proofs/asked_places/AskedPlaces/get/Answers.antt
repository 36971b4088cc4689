-- What stands there, or nothing.
use Rattle.j39_watch.proofs.Common.{◌∙◌}
use Rattle.j39_watch.proofs.AskedLemmas.{kept_else, kept_there}
use Rattle.j39_watch.proofs.asked_places.AskedPlaces.get.Goals as goal

pub returns-then-self-address : goal.returns-then-self-address
returns-then-self-address c = c.get.ensures ∙ kept_there c.self.inside.are_asked _ c.args.self.now c.args.address c.self.view_is c.if-self-address.true

pub returns-else-self-address : goal.returns-else-self-address
returns-else-self-address c = kept_else c.self.inside.are_asked _ c.args.self.now c.args.address c.self.view_is c.if-self-address.false
