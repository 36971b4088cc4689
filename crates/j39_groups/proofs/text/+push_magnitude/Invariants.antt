use Rattle.j39_groups.proofs.text.+push_magnitude.Given as goal

abbrev pub decreases-push_magnitude : goal.decreases-push_magnitude
decreases-push_magnitude l = l.places
