-- The group's name stands in the block, or not.
use Rattle.j39_reports.proofs.Common.{◌≡◌, ◌∙◌, ◌++◌, ◌∷◌, [], List, ℕ, ap, append_assoc, decimal, drop, refl, subst, option_map, name_raw, pgn_raw, stamp_micros, WritesBefore, later_text, before_then}
use Rattle.j39_reports.proofs.ForwardLemmas.{part_before}
use Rattle.j39_reports.specs.Columns.{heard_fields}
use Rattle.j39_reports.specs.EntryText.{group_called}
use Rattle.j39_reports.proofs.report_records.records.begin_with.Goals as goal

joined : (fields number later : List ℕ) → fields ++ ((44 ∷ number) ++ later) ≡ (fields ++ (44 ∷ []) ++ number) ++ later
joined fields number later = simp append_assoc refl

pub returns-in-Some : goal.returns-in-Some
returns-in-Some c =
    let heard = c.args.heard.now in
    let groups = c.args.known.now.groups.now in
    let pgn = pgn_raw heard.message.pgn in
    let side = c.in-Some.side.now in
    let later = later_text (group_called groups pgn) in
    let fields = heard_fields (stamp_micros heard.message.stamp) heard.message.source heard.destination (option_map name_raw heard.name) in
    let said : drop side.from side.text ≡ (44 ∷ decimal pgn) ++ later =
    c.in-Some.ensures.suits.text_is ∙ ap (λ n. (44 ∷ decimal n) ++ later_text (group_called groups n)) (c.in-Some.ensures.pgn ∙ c.raw.ensures.value) in
    part_before _ _ 192 _ _ (before_then _ _ _ _ _ _ _ _
    (subst (WritesBefore c.args.begin.now.block c.tail_before-group.new.out 192 c.tail_before-group.result) said c.tail_before-group.ensures.written) c.heard_before-begin.ensures)
    ∙ joined fields (decimal pgn) later

pub returns-in-None : goal.returns-in-None
returns-in-None c = rw (c.begin_unknown.ensures.without_group, c.begin_unknown.ensures.head, c.again.ensures) refl
