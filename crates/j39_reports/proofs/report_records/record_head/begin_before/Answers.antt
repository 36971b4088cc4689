-- The parts, one before the other.
use Rattle.j39_reports.proofs.Common.{◌≡◌, ◌++◌, ◌∷◌, [], List, ℕ, append_assoc, decimal, option_map, name_raw, pgn_raw, refl, stamp_micros, subst, WritesBefore, before_then}
use Rattle.j39_reports.specs.Columns.{heard_fields}
use Rattle.j39_reports.proofs.report_records.record_head.begin_before.Goals as goal

joined : (fields : List ℕ) (told pgn : ℕ) → told ≡ pgn → fields ++ ((44 ∷ []) ++ decimal told) ≡ fields ++ (44 ∷ []) ++ decimal pgn
joined fields told pgn same = rw same (simp append_assoc refl)

pub returns : goal.returns
returns c =
    let heard = c.args.heard.now in
    subst (WritesBefore c.args.out.now c.heard_before.new.out 192 c.heard_before.result)
    (joined (heard_fields (stamp_micros heard.message.stamp) heard.message.source heard.destination (option_map name_raw heard.name)) c.raw.result (pgn_raw heard.message.pgn) c.raw.ensures.value)
    (before_then _ _ _ _ _ _ _ _ (before_then _ _ _ _ _ _ _ _ c.digits_before-group.ensures.written c.byte_before-comma.ensures) c.heard_before.ensures)
