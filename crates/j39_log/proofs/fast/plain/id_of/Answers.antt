-- No identifier has other bytes than those that the digits write.
use Rattle.std.proofs.Common.{◌≡◌, ◌<◌, ◌^◌, ◌∙◌, ap, arith, subst, w32}
use Rattle.std.specs.Int.{from_be_bytes}
use Rattle.std.specs.Prelude.{IsSome}
use Rattle.std.proofs.lemmas.Bool.{false≢true}
use Rattle.std.proofs.lemmas.Nat.{from_be_bytes-to_be_bytes_4}
use Rattle.hex.proofs.HexLemmas.{decode_of-same}
use Rattle.j39_frame.specs.Identifier.{id_raw}
use Rattle.j39_log.proofs.fast.plain.id_of.Goals as goal

pub returns-clause-none : goal.returns-clause-none
returns-clause-none c = λ none id written.
    let fits : id_raw id < 2 ^ 32 = omega (arith, written.fits) in
    let raw : from_be_bytes w32 c.in_ok-bytes.bytes ≡ id_raw id =
    ap (from_be_bytes w32) (decode_of-same c.args.digits.now _ _ c.in_ok-bytes.ensures.some written.digits_are) ∙ from_be_bytes-to_be_bytes_4 (id_raw id) fits in
    absurd (false≢true (subst IsSome none (c.new.ensures.known.1 (omega (arith, written.fits, raw, c.from_be_bytes.ensures)))))
