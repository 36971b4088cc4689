-- The command `summary`.
use Rattle.std.specs.Prelude.{ℕ, List, codes}
use Rattle.clap.specs.Words.{App}
use Rattle.j39_reports.specs.SummaryRun.{AsksForRows, MakesSummary}
use Rattle.j39_cli.specs.Asked.{filter_in}
use Rattle.j39_cli.specs.Form.{Form, Meaning}
use Rattle.j39_cli.specs.LogCommand.{IsRun}
use Rattle.j39_cli.specs.RowOptions.{AreOptions, RowTexts, row_app, row_form, row_meaning}
use Rattle.j39_cli.specs.RowsRun.{IsRunBy, Running}
use Rattle.j39_cli.specs.declared.options.RowOptions.{RowOptions}
use Rattle.j39_cli.specs.declared.task.Task.{Task}
use Rattle.j39_cli.specs.declared.task.Task.TheVariants.{Summary}

abbrev pub summary_app : App
summary_app = row_app (codes "summary")

abbrev pub IsSummaryTask : RowTexts → Task → Type 0
IsSummaryTask texts (Summary o) = AreOptions texts o
IsSummaryTask texts t = ⊥

abbrev pub summary_form : RowTexts → Form
summary_form texts = row_form (codes "summary") texts (IsSummaryTask texts)

-- the summary of the entries that are asked for
abbrev pub IsSummaryRun : RowOptions → Running
IsSummaryRun o =
    IsRunBy (λ kept. IsRun (AsksForRows (filter_in o.asked) kept) (MakesSummary o.format (filter_in o.asked) kept) o.input.bus) o.asked.spns

-- what its columns in lines are called
abbrev pub summary_columns : List ℕ
summary_columns = codes "address name pgn spn values words absent first_stamp last_stamp least most unit first last parameter"

abbrev pub summary_meaning : RowOptions → Meaning
summary_meaning o = row_meaning o summary_columns (IsSummaryRun o)
