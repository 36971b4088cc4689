use Rattle.std.proofs.Common.{◌≡◌, not, arith}
use Rattle.std.specs.List.{prefix_len}
use Rattle.std.proofs.lemmas.List.Sums.{prefix_len-le-length}
use Rattle.j39_log.specs.Lanes.{is_gap}
use Rattle.j39_log.proofs.PlainLemmas.{bus_found}
use Rattle.j39_log.proofs.fast.plain.bus_of.Goals as goal

pub returns-in-Some-eq32-default : goal.returns-in-Some-eq32-default
returns-in-Some-eq32-default c =
    let said = c.split_at.ensures in
    let cut = c.in-Some-eq32-default in
    bus_found c.args.text.now c.split_at.result.0.now c.split_at.result.1.now cut.third.now c.name_len-n.result cut.field-0-0.now
    said.front said.front_len said.back cut.ensures.cases.0 cut.field-0-0-test (omega arith) (omega arith) (c.name_len-n.ensures (omega arith))

pub split_at-requires : goal.split_at-requires
split_at-requires c =
    let n : c.name_len-n.result ≡ prefix_len (λ b. not (is_gap b)) c.args.text.now = c.name_len-n.ensures (omega arith) in
    omega (arith, n, prefix_len-le-length (λ b. not (is_gap b)) c.args.text.now)
