-- The address, the spaces and the NAME, the last first.
use Rattle.j39_watch.proofs.Common.{◌≡◌, ◌++◌, ◌∷◌, ◌∙◌, [], ℕ, List, ap, arith, length, take, encode_upper, before_then, name_text}
use Rattle.j39_watch.proofs.CutLemmas.{sender_columns}
use Rattle.j39_watch.specs.Watch.{controller_columns}
use Rattle.j39_watch.proofs.lines.push_sender.Goals as goal

pub push_column-requires-clause-written : goal.push_column-requires-clause-written
push_column-requires-clause-written c =
    (_, before_then _ _ _ _ _ _ _ _ (before_then _ _ _ _ _ _ _ _ c.name_before-end.ensures.written c.bytes_before-gap.ensures.written) c.hex_before-start.ensures.written)

pub returns-clause-cut : goal.returns-clause-cut
unfolding controller_columns
returns-clause-cut c =
    let hex : List ℕ = encode_upper (c.args.address ∷ []) in
    let name : List ℕ = name_text c.args.name in
    let two : length hex ≡ 2 = let a = c.hex_before-start.ensures.written.starts in let b = c.hex_before-start.ensures.starts in omega (arith, a, b) in
    let sixteen : length name ≡ 16 = let a = c.name_before-end.ensures.written.starts in let b = c.name_before-end.ensures.sixteen in omega (arith, a, b) in
    c.push_column.ensures.cut _ (before_then _ _ _ _ _ _ _ _ (before_then _ _ _ _ _ _ _ _ c.name_before-end.ensures.written c.bytes_before-gap.ensures.written) c.hex_before-start.ensures.written)
    ∙ ap (λ (t : List ℕ). take c.args.line.now.width (c.args.line.now.bytes.items ++ t)) (sender_columns hex name two sixteen)
