use Rattle.j39_listen.proofs.LossExample as losses
use Rattle.j39_listen.proofs.laws.losses_and_copies.Goals as goal

pub returns : goal.returns
returns c = record { published = losses.is_published; thinned = losses.is_thinned; lost_together = losses.are_lost_together; repeated = losses.is_repeated; values_sent = losses.are_sent; values_left = losses.are_left }
