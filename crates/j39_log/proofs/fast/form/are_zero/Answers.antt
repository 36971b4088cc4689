use Rattle.std.proofs.lemmas.Bool.{OnTrue_at, OnTrue_from}
use Rattle.j39_log.proofs.FormLemmas.{zeros_of_three}
use Rattle.j39_log.proofs.fast.form.are_zero.Goals as goal

pub returns-clause-a : goal.returns-clause-a
returns-clause-a c = OnTrue_from _ _ (λ e. (zeros_of_three c.args.a c.args.b c.args.c c.fits-a.0 c.fits-b.0 c.fits-c.0 (OnTrue_at e c.are_below.ensures.so)).0)

pub returns-clause-b : goal.returns-clause-b
returns-clause-b c = OnTrue_from _ _ (λ e. (zeros_of_three c.args.a c.args.b c.args.c c.fits-a.0 c.fits-b.0 c.fits-c.0 (OnTrue_at e c.are_below.ensures.so)).1.0)

pub returns-clause-c : goal.returns-clause-c
returns-clause-c c = OnTrue_from _ _ (λ e. (zeros_of_three c.args.a c.args.b c.args.c c.fits-a.0 c.fits-b.0 c.fits-c.0 (OnTrue_at e c.are_below.ensures.so)).1.1)
