-- The parts, one before the other.
use Rattle.j39_reports.proofs.Common.{ℕ, List, ◌≡◌, ◌++◌, ◌∷◌, [], refl, ◌∙◌, append_assoc, arith, before_end, before_then, option_map, encode_upper, name_raw, stamp_micros, utc_text}
use Rattle.j39_listen.specs.Report.{name_text}
use Rattle.j39_reports.proofs.lines_in_utc.head_before.Goals as goal

regroup : (moment address name : List ℕ)
    → moment ++ ((32 ∷ []) ++ (address ++ ((32 ∷ []) ++ (name ++ (32 ∷ [])))))
    ≡ moment ++ (32 ∷ []) ++ address ++ (32 ∷ []) ++ name ++ (32 ∷ [])
regroup moment address name = simp append_assoc refl

pub returns-clause-head : goal.returns-clause-head
returns-clause-head c =
    let heard = c.args.heard.now in
    before_end _ _ 48 _ _ (omega arith)
    (before_then _ _ _ _ _ _ _ _ (before_then _ _ _ _ _ _ _ _ (before_then _ _ _ _ _ _ _ _ (before_then _ _ _ _ _ _ _ _ (before_then _ _ _ _ _ _ _ _
    c.byte_before-third.ensures c.name_before-name.ensures.written) c.byte_before-gap.ensures) c.hex_before-address.ensures.written) c.byte_before-first.ensures) c.utc_before.ensures.written)
    ∙ regroup (utc_text (stamp_micros heard.message.stamp)) (encode_upper (heard.message.source ∷ [])) (name_text (option_map name_raw heard.name))
