use Rattle.j39_listen.proofs.BrokenExample as broken
use Rattle.j39_listen.proofs.laws.broken_off.Goals as goal

pub returns : goal.returns
returns c = record { published = broken.is_published; thinned = broken.is_thinned; lost_together = broken.are_lost_together; values_left = broken.are_left }
