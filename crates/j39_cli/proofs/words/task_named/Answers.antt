-- Each command answers what clap met under its name.
use Rattle.j39_cli.proofs.Common.{codes, refl, found_of}
use Rattle.j39_cli.specs.CommandWords.{faults, grid, groups, id, name, nodes, report, summary, survey, watch}
use Rattle.j39_cli.specs.Asked.{asked_found}
use Rattle.j39_cli.specs.RowOptions.{rows_found}
use Rattle.j39_cli.proofs.MetLemmas.{tells, tells_none}
use Rattle.j39_cli.proofs.words.task_named.Goals as goal

pub returns-in-report-clause-tells : goal.returns-in-report-clause-tells
returns-in-report-clause-tells c = tells _ (found_of c.args.given.now) c.task.result (report (rows_found (found_of c.args.given.now))) c.in-report.is (refl, (refl, (refl, (refl, (refl, (refl, (refl, (refl, (refl, (refl, (refl, (refl, (refl, tt))))))))))))) c.task.ensures.answer

pub returns-in-summary-clause-tells : goal.returns-in-summary-clause-tells
returns-in-summary-clause-tells c = tells _ (found_of c.args.given.now) c.task-in-summary.result (summary (rows_found (found_of c.args.given.now))) c.in-summary.is (refl, (refl, (refl, (refl, (refl, (refl, (refl, (refl, (refl, (refl, (refl, (refl, (refl, tt))))))))))))) c.task-in-summary.ensures.answer

pub returns-in-grid-clause-tells : goal.returns-in-grid-clause-tells
returns-in-grid-clause-tells c = tells _ (found_of c.args.given.now) c.task-in-grid.result (grid _ (rows_found (found_of c.args.given.now))) c.in-grid.is (refl, (refl, (refl, (refl, (refl, (refl, (refl, (refl, (refl, (refl, (refl, (refl, (refl, (refl, tt)))))))))))))) c.task-in-grid.ensures.answer

pub returns-in-faults-clause-tells : goal.returns-in-faults-clause-tells
returns-in-faults-clause-tells c = tells _ (found_of c.args.given.now) c.task-in-faults.result (faults _ _ _ _ _ (rows_found (found_of c.args.given.now))) c.in-faults.is (refl, (refl, (refl, (refl, (refl, (refl, (refl, (refl, (refl, (refl, (refl, (refl, (refl, (refl, (refl, (refl, (refl, (refl, tt)))))))))))))))))) c.task-in-faults.ensures.answer

pub returns-in-nodes-clause-tells : goal.returns-in-nodes-clause-tells
returns-in-nodes-clause-tells c = tells _ (found_of c.args.given.now) c.task-in-nodes.result (nodes _ _ _ _ _ _ _ _ _ _) c.in-nodes.is (refl, (refl, (refl, (refl, (refl, (refl, (refl, (refl, (refl, (refl, tt)))))))))) c.task-in-nodes.ensures.answer

pub returns-in-groups-clause-tells : goal.returns-in-groups-clause-tells
returns-in-groups-clause-tells c = tells _ (found_of c.args.given.now) c.task-in-groups.result (groups _) c.in-groups.is (refl, tt) c.task-in-groups.ensures.answer

pub returns-in-survey-clause-tells : goal.returns-in-survey-clause-tells
returns-in-survey-clause-tells c = tells _ (found_of c.args.given.now) c.task-in-survey.result (survey _ _ _ _ _ _ _) c.in-survey.is (refl, (refl, (refl, (refl, (refl, (refl, (refl, tt))))))) c.task-in-survey.ensures.answer

pub returns-in-watch-clause-tells : goal.returns-in-watch-clause-tells
returns-in-watch-clause-tells c = tells _ (found_of c.args.given.now) c.task-in-watch.result (watch _ _ _ (asked_found (found_of c.args.given.now)) _ _ _ _ _) c.in-watch.is (refl, (refl, (refl, (refl, (refl, (refl, (refl, (refl, (refl, (refl, (refl, (refl, (refl, (refl, tt)))))))))))))) c.task-in-watch.ensures.answer

pub returns-in_ok-required-in-id-clause-tells : goal.returns-in_ok-required-in-id-clause-tells
returns-in_ok-required-in-id-clause-tells c = tells _ (found_of c.args.given.now) c.task-in-id.result (id _) c.in-id.is
    (c.in_ok-required-in-id.ensures.ok, tt) c.task-in-id.ensures.answer

pub returns-in_err-required-in-id-clause-tells : goal.returns-in_err-required-in-id-clause-tells
returns-in_err-required-in-id-clause-tells c = tells_none _ (codes "id") (found_of c.args.given.now) _ (codes "hex") _
    c.in-id.is c.from_residual.ensures.0 c.in_err-required-in-id.ensures.err (λ are. are.0)

pub returns-in_ok-required-in-name-clause-tells : goal.returns-in_ok-required-in-name-clause-tells
returns-in_ok-required-in-name-clause-tells c = tells _ (found_of c.args.given.now) c.task-in-name.result (name _) c.in-name.is
    (c.in_ok-required-in-name.ensures.ok, tt) c.task-in-name.ensures.answer

pub returns-in_err-required-in-name-clause-tells : goal.returns-in_err-required-in-name-clause-tells
returns-in_err-required-in-name-clause-tells c = tells_none _ (codes "name") (found_of c.args.given.now) _ (codes "hex") _
    c.in-name.is c.from_residual-in_err-required-in-name.ensures.0 c.in_err-required-in-name.ensures.err (λ are. are.0)
