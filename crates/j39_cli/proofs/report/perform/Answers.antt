-- The run by the whole table, or by its rows of the parameters that are asked for.
use Rattle.std.proofs.Common.{inl}
use Rattle.j39_cli.specs.Asked.{filter_in}
use Rattle.j39_cli.proofs.RunLemmas.{is_reported}
use Rattle.j39_cli.proofs.report.perform.Goals as goal

pub returns-in_default-clause-run : goal.returns-in_default-clause-run
returns-in_default-clause-run g c = rw c.in_default.is (is_reported (filter_in c.args.options.now.asked) c.args.options.now.format c.args.options.now.input.bus c.args.groups.now c.run.result _ _ _ _
    c.run.ensures.ran c.tell_end.ensures.told c.run.ensures.published c.run.ensures.asked c.run.ensures.kept_up)

pub returns-in-Ok-clause-run : goal.returns-in-Ok-clause-run
returns-in-Ok-clause-run g c = rw c.in-Some.is (inl (
  c.in-Ok.kept,
  rw c.as_slice.ensures.value at c.in-Ok.ensures.kept,
  is_reported (filter_in c.args.options.now.asked) c.args.options.now.format c.args.options.now.input.bus c.in-Ok.kept c.run-in-Ok.result _ _ _ _
      c.run-in-Ok.ensures.ran c.tell_end-in-Ok.ensures.told c.run-in-Ok.ensures.published c.run-in-Ok.ensures.asked c.run-in-Ok.ensures.kept_up,
))
