-- The seconds have ten digits at most.
use Rattle.j39_reports.proofs.Common.{◌<◌, ◌^◌, arith}
use Rattle.std.proofs.lemmas.Fmt.{length-decimal-le}
use Rattle.j39_reports.proofs.second.Second.new.Goals as goal

pub number_before-from-requires-clause-room : goal.number_before-from-requires-clause-room
number_before-from-requires-clause-room c =
    let few : c.args.value < 10 ^ 10 = c.requires in
    length-decimal-le 16 c.args.value (omega arith) (omega (arith, few)) (omega (arith, few))
