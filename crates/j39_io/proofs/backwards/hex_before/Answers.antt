-- Each turn writes the digits of the byte before.
use Rattle.std.proofs.Common.{◌≡◌, [], length, drop, sym, subst, ap, ◌∙◌, arith, length-drop}
use Rattle.std.proofs.lemmas.List.{drop_all}
use Rattle.hex.specs.Hex.{encode_upper, upper_digits}
use Rattle.hex.proofs.HexLemmas.{length-encode_with}
use Rattle.j39_io.specs.Backwards.{WritesBefore}
use Rattle.j39_io.proofs.PrintingLemmas.{encode_with_none}
use Rattle.j39_io.proofs.BackwardsLemmas.{before_none, before_then, hex_more}
use Rattle.j39_io.proofs.backwards.hex_before.Goals as goal

pub bytes-init : goal.bytes-init
bytes-init c =
    let bytes = c.args.bytes.now in
    let none : encode_upper (drop (length bytes) bytes) ≡ [] = ap encode_upper (drop_all (length bytes) bytes (omega arith)) ∙ encode_with_none upper_digits in
    (subst (WritesBefore c.args.out.now c.args.out.now c.args.end c.args.end) (sym none) (before_none c.args.out.now c.args.end), omega arith)

pub hex_pair_before-at-requires-clause-room : goal.hex_pair_before-at-requires-clause-room
hex_pair_before-at-requires-clause-room c =
    let starts = c.bytes.invariant.0.starts in
    let long = length-encode_with upper_digits (drop c.bytes.left c.args.bytes.now) in
    let rest = length-drop c.bytes.left c.args.bytes.now in
    omega (arith, starts, long, rest, c.requires.room, c.bytes.invariant.1)

pub bytes-preserved : goal.bytes-preserved
bytes-preserved c = (
  subst (λ t. WritesBefore c.args.out.now c.hex_pair_before-at.new.out c.args.end c.hex_pair_before-at.result t)
      (sym (hex_more c.args.bytes.now c.bytes.left (omega arith) c.bytes.invariant.1))
      (before_then _ _ _ _ _ _ _ _ c.bytes.invariant.0 c.hex_pair_before-at.ensures),
  omega arith,
)

pub returns-clause-written : goal.returns-clause-written
returns-clause-written c =
    let none : c.bytes.left ≡ 0 = omega arith in
    subst (λ n. WritesBefore c.args.out.now c.bytes.out c.args.end c.bytes.at (encode_upper (drop n c.args.bytes.now))) none c.bytes.invariant.0

pub returns-clause-starts : goal.returns-clause-starts
returns-clause-starts c =
    let starts = c.bytes.invariant.0.starts in
    let long = length-encode_with upper_digits (drop c.bytes.left c.args.bytes.now) in
    let rest = length-drop c.bytes.left c.args.bytes.now in
    omega (arith, starts, long, rest)
