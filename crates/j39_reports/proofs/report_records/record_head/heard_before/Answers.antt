-- The parts, one before the other.
use Rattle.j39_reports.proofs.Common.{◌≡◌, ◌++◌, ◌∷◌, [], List, ℕ, append_assoc, option_map, name_raw, refl, stamp_micros, subst, WritesBefore, before_then}
use Rattle.j39_reports.specs.Columns.{heard_fields, moment_fields, sender_fields}
use Rattle.j39_reports.proofs.report_records.record_head.heard_before.Goals as goal

joined : (moment sender heard : List ℕ) → heard ≡ moment ++ (44 ∷ []) ++ sender → moment ++ ((44 ∷ []) ++ sender) ≡ heard
joined moment sender heard is = rw is (simp append_assoc refl)

pub returns : goal.returns
unfolding heard_fields
returns c =
    let heard = c.args.heard.now in
    subst (WritesBefore c.args.out.now c.moment_before.new.out c.args.end c.moment_before.result)
    (joined (moment_fields (stamp_micros heard.message.stamp)) (sender_fields heard.message.source heard.destination (option_map name_raw heard.name))
    (heard_fields (stamp_micros heard.message.stamp) heard.message.source heard.destination (option_map name_raw heard.name)) refl)
    (before_then _ _ _ _ _ _ _ _ (before_then _ _ _ _ _ _ _ _ c.sender_before-sender.ensures.written c.byte_before-first.ensures) c.moment_before.ensures)
