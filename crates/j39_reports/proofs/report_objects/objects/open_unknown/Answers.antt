-- The moment, the sender and the number of the group.
use Rattle.j39_reports.proofs.Common.{◌≡◌, ◌∙◌, ◌++◌, List, ℕ, ap, append_assoc, codes, decimal, option_map, name_raw, refl, stamp_micros, before_then}
use Rattle.j39_reports.proofs.ForwardLemmas.{part_before}
use Rattle.j39_reports.specs.EntryObject.{moment_members, opening_text, sender_members}
use Rattle.j39_reports.proofs.report_objects.objects.open_unknown.Goals as goal

parts : (moment sender number : List ℕ) → (moment ++ sender) ++ (codes ",\"pgn\":" ++ number) ≡ moment ++ sender ++ codes ",\"pgn\":" ++ number
parts moment sender number = simp append_assoc refl

pub returns-clause-head : goal.returns-clause-head
unfolding opening_text
returns-clause-head c =
    let heard = c.args.heard.now in
    let moment = moment_members (stamp_micros heard.message.stamp) in
    let sender = sender_members heard.message.source heard.destination (option_map name_raw heard.name) in
    part_before _ _ 192 _ _ (before_then _ _ _ _ _ _ _ _ (before_then _ _ _ _ _ _ _ _
    c.digits_before-number.ensures.written c.bytes_before-key.ensures.written) c.heard_before-opening.ensures)
    ∙ parts moment sender (decimal c.raw.result)
    ∙ ap (λ n. moment ++ sender ++ codes ",\"pgn\":" ++ decimal n) c.raw.ensures.value
