-- What stands in the block from the start on is the object.
use Rattle.j39_reports.proofs.Common.{◌∙◌, arith, option_map, between_to_end, before_end, puts_as}
use Rattle.j39_reports.proofs.report_objects.objects.put_object.Goals as goal

pub returns-in-Some : goal.returns-in-Some
returns-in-Some g c =
    puts_as _ _ _ _
    (between_to_end c.object_before.new.out c.in-Some.start 2048 (omega arith)
    ∙ before_end _ _ 2048 _ _ (omega arith) (c.in-Some.ensures.written (option_map (λ text. text.now) c.args.group))) c.put_all.ensures.puts
