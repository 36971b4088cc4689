use Rattle.j39_io.proofs.printing.+push_last_digits.Given as goal

abbrev pub decreases-push_last_digits : goal.decreases-push_last_digits
decreases-push_last_digits g l = l.count
