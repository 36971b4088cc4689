-- Faults that were told, with their counts, and a fault of the run.
use Rattle.std.proofs.Common.{refl, inl, inr, rules}
use Rattle.j39_cli.proofs.faults.perform.Goals as goal

pub returns-in-Ok-clause-run : goal.returns-in-Ok-clause-run
returns-in-Ok-clause-run g c = record {
  known = inl refl;
  result = c.run.result;
  ran = c.run.ensures.told;
  told = rw c.in-Ok.is (refl, search rules);
}

pub returns-in-Err-clause-run : goal.returns-in-Err-clause-run
returns-in-Err-clause-run g c = record {
  known = inr c.tell_fault.ensures.status;
  result = c.run.result;
  ran = c.run.ensures.told;
  told = rw c.in-Err.is (c.tell_fault.ensures.status, c.tell_fault.ensures.told);
}
