use Rattle.std.proofs.Common.{◌∙◌, ap, arith, take}
use Rattle.j39_log.specs.Bus.{third_of}
use Rattle.std.proofs.lemmas.Option.{IfSome_then}
use Rattle.j39_log.proofs.ReaderLemmas.{six_found}
use Rattle.j39_log.proofs.fast.reader.with_six.Goals as goal

pub returns : goal.returns
returns c =
    let bytes = c.args.bytes.now in
    let behind = c.in_ok-behind.ensures.cases in
    let between = c.in_ok-between.ensures.cases in
    IfSome_then c.formed.result c.formed.ensures (λ found h.
    six_found bytes c.in_ok-between.between.now c.args.bus.now found.1.now found.0 c.bus.inside.third_at (omega arith) (omega arith) (c.bus.invariant.2 ∙ ap third_of c.bus.view_is)
    (between.0 ∙ ap (take 16) behind.1) h)
