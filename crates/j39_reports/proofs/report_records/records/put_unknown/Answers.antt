-- Those that waited, and the record.
use Rattle.j39_reports.proofs.Common.{◌∙◌, ◌++◌, ap, take, puts_as, value_of}
use Rattle.j39_reports.specs.EntryText.{named_fields, value_fields}
use Rattle.j39_reports.specs.MessageRecords.{begun_fields}
use Rattle.j39_reports.proofs.ForwardLemmas.{gathers_all, gathers_put}
use Rattle.j39_reports.proofs.report_records.records.put_unknown.Goals as goal

pub returns-in_err-put : goal.returns-in_err-put
returns-in_err-put g c = gathers_put _ _ _ _ _ _ _ c.from_residual.ensures.0 c.in_err-put.ensures.puts

pub returns : goal.returns
returns g c =
    gathers_all _ _ _ _ _ _ _ _ (ap (λ n. take n c.put_record.new.block) (c.miss.ensures.place ∙ c.in_ok-put.ensures.none)) c.in_ok-put.ensures.puts
    (puts_as _ _ _ _ (λ i. named_fields (begun_fields c.args.begin.now (c.group_of-group.ensures i)) c.args.spn (c.called_in.ensures.parameter i)
    ++ value_fields (value_of c.args.value) (c.called_in.ensures.state i)) c.put_record.ensures)
