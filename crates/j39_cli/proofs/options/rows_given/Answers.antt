-- The bus is checked, then what is asked for, and how it is written; FILE is kept last.
use Rattle.j39_cli.proofs.Common.{◌∙◌, ◌++◌, ◌∷◌, [], rules, found_of}
use Rattle.j39_cli.specs.Answer.{OrMemory, bus_check}
use Rattle.j39_cli.specs.Asked.{asked_checks}
use Rattle.j39_cli.specs.LogCommand.{forms_check}
use Rattle.j39_cli.specs.RowOptions.{AreOptions, rows_found}
use Rattle.j39_cli.proofs.CheckLemmas.{passed, stopped}
use Rattle.j39_cli.proofs.options.rows_given.Goals as goal

pub returns-in_err-asked-clause-read : goal.returns-in_err-asked-clause-read
returns-in_err-asked-clause-read c =
    let texts = rows_found (found_of c.args.given.now) in
    let next = OrMemory (AreOptions texts) in
    let forms = forms_check texts.csv texts.json texts.utc ∷ [] in
    passed next (bus_check texts.bus ∷ []) (asked_checks texts.asked ++ forms) _ _ _ c.in_ok-bus.ensures.read (λ _.
    stopped next (asked_checks texts.asked) forms _ _ _ c.in_err-asked.ensures.read c.from_residual-in_err-asked.ensures)

pub returns-in_err-format-clause-read : goal.returns-in_err-format-clause-read
returns-in_err-format-clause-read c =
    let texts = rows_found (found_of c.args.given.now) in
    let next = OrMemory (AreOptions texts) in
    let forms = forms_check texts.csv texts.json texts.utc ∷ [] in
    passed next (bus_check texts.bus ∷ []) (asked_checks texts.asked ++ forms) _ _ _ c.in_ok-bus.ensures.read (λ _.
    passed next (asked_checks texts.asked) forms _ _ _ c.in_ok-asked.ensures.read (λ _.
    stopped next forms [] _ _ _ c.in_err-format.ensures.read c.from_residual-in_err-format.ensures))

pub returns-in-Ok-clause-read : goal.returns-in-Ok-clause-read
returns-in-Ok-clause-read c =
    let texts = rows_found (found_of c.args.given.now) in
    let next = OrMemory (AreOptions texts) in
    let forms = forms_check texts.csv texts.json texts.utc ∷ [] in
    passed next (bus_check texts.bus ∷ []) (asked_checks texts.asked ++ forms) _ _ _ c.in_ok-bus.ensures.read (λ bus_is.
    passed next (asked_checks texts.asked) forms _ _ _ c.in_ok-asked.ensures.read (λ asked_is.
    passed next forms [] _ _ _ c.in_ok-format.ensures.read (λ format_is. record {
      bus_is = c.in-Ok.ensures.0 ∙ bus_is;
      table_is = search rules;
      asked_is = asked_is;
      head_is = search rules;
      format_is = format_is;
      files_are = c.in-Ok.ensures.1;
    })))
