-- The run of the account, from no frames on.
use Rattle.j39_watch.proofs.Common.{refl, nothing}
use Rattle.j39_listen.specs.Chooses.{which_of}
use Rattle.j39_names.specs.Naming.{naming_of}
use Rattle.j39_watch.specs.NotesSoFar.{size_of}
use Rattle.j39_watch.proofs.account.watch.Goals as goal

pub returns-clause-ran : goal.returns-clause-ran
returns-clause-ran g c =
    c.run_over.ensures.ran (record {
      naming = naming_of c.args.watched.naming;
      groups = c.args.watched.groups.now;
      which = which_of c.args.watched.filter;
      size = size_of c.args.watched.size;
    }) nothing (λ name. c.new.ensures) refl
