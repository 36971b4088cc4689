-- What stands in the block from the start on is the record.
use Rattle.j39_reports.proofs.Common.{◌∙◌, arith, between_to_end, before_end, puts_as}
use Rattle.j39_reports.proofs.report_records.records.put_record.Goals as goal

pub returns-in-Some : goal.returns-in-Some
returns-in-Some g c =
    puts_as _ _ _ _
    (between_to_end c.record_before.new.out c.in-Some.start 2048 (omega arith) ∙ before_end _ _ 2048 _ _ (omega arith) (c.in-Some.ensures.written c.args.group.now)) c.put_all.ensures.puts
