-- What is said of the groups stays.
use Rattle.j39_reports.proofs.sides.KnownSides.learn.Goals as goal

pub invariant_of-self-clause-groups_sound : goal.invariant_of-self-clause-groups_sound
invariant_of-self-clause-groups_sound g c = c.args.self.now.groups_sound
