use Rattle.std.proofs.Common.{◌∙◌, ap, arith, refl, sym}
use Rattle.j39_log.specs.Bus.{third_of}
use Rattle.std.proofs.lemmas.Option.{IfSome_then}
use Rattle.j39_log.proofs.ReaderLemmas.{nine_found}
use Rattle.j39_log.proofs.fast.reader.with_nine.Goals as goal

pub returns : goal.returns
returns c =
    let bytes = c.args.bytes.now in
    let first = c.in_ok-behind.ensures.cases in
    let three = c.in_ok-behind-2.ensures in
    let between = c.in_ok-between.ensures.cases in
    IfSome_then c.formed.result c.formed.ensures (λ found h.
    nine_found bytes c.in_ok-between.between.now three.0 c.in_ok-behind-2.behind.now c.args.bus.now found.1.now found.0 c.bus.inside.third_at _ (omega arith) (omega arith) (c.bus.invariant.2 ∙ ap third_of c.bus.view_is)
    refl (omega arith) three.1 three.2 (sym first.1 ∙ three.3) between.0 h)
