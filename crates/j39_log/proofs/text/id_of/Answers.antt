use Rattle.std.proofs.Common.{◌≡◌, ◌∙◌, ap, sym, Ok, arith}
use Rattle.std.specs.Int.{to_be_bytes, w32}
use Rattle.std.proofs.lemmas.Bool.{OnTrue_at}
use Rattle.std.proofs.lemmas.Option.{IfSome_then}
use Rattle.std.proofs.lemmas.Nat.{be_bytes_4}
use Rattle.hex.specs.Hex.{decode_of}
use Rattle.hex.proofs.HexLemmas.{decode_of-ok}
use Rattle.j39_log.proofs.text.id_of.Goals as goal

pub returns-clause-found : goal.returns-clause-found
returns-clause-found c =
    let ok : decode_of c.args.digits.now ≡ Ok c.decode.new.out = OnTrue_at c.if-not-decode.false c.decode.ensures.found in
    let said = decode_of-ok c.args.digits.now c.decode.new.out ok in
    let back = be_bytes_4 c.decode.new.out c.from_be_bytes.result (omega (arith, said.2)) said.3 c.from_be_bytes.ensures in
    IfSome_then c.new.result c.new.ensures.value (λ id is. (ok ∙ ap Ok (sym back) ∙ ap (λ n. Ok (to_be_bytes w32 n)) (sym is), id.fits))
