-- Each byte appends its pair.
use Rattle.std.proofs.Common.{◌++◌, refl, sym, ap, ◌∙◌, append_assoc, append-nil, arith}
use Rattle.hex.specs.Hex.{upper_digits}
use Rattle.j39_io.proofs.PrintingLemmas.{encode_with_more, encode_with_none}
use Rattle.j39_io.proofs.printing.push_hex.Goals as goal

pub loop-byte-init : goal.loop-byte-init
loop-byte-init g c =
    (sym (append-nil c.args.out.now.items) ∙ ap (λ xs. c.args.out.now.items ++ xs) (sym (encode_with_none upper_digits)), omega arith)

pub loop-byte-preserved : goal.loop-byte-preserved
loop-byte-preserved g c =
    let more = encode_with_more upper_digits c.args.bytes.now c.loop-byte.byte-index (omega arith) in
    (rw (c.push-in-loop-byte.ensures.items, c.push.ensures.items, c.loop-byte.invariant.0, c.from.ensures, c.from-in-loop-byte.ensures, more, append_assoc, append_assoc) refl, omega arith)
