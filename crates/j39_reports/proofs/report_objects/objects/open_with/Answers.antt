-- The group stands in the block, or not.
use Rattle.j39_reports.proofs.Common.{◌≡◌, ◌∙◌, ◌++◌, List, ℕ, ap, append_assoc, codes, decimal, drop, option_map, name_raw, pgn_raw, refl, stamp_micros, subst, WritesBefore, before_then}
use Rattle.j39_reports.proofs.ForwardLemmas.{part_before}
use Rattle.j39_groups.specs.Names.{group_name_in}
use Rattle.j39_reports.specs.EntryObject.{group_member, moment_members, opening_text, sender_members}
use Rattle.j39_reports.proofs.report_objects.objects.open_with.Goals as goal

parts : (moment sender number group : List ℕ) → (moment ++ sender) ++ (codes ",\"pgn\":" ++ number ++ group) ≡ (moment ++ sender ++ codes ",\"pgn\":" ++ number) ++ group
parts moment sender number group = simp append_assoc refl

pub returns-in-Some : goal.returns-in-Some
unfolding opening_text
returns-in-Some c =
    let heard = c.args.heard.now in
    let groups = c.args.known.now.groups.now in
    let pgn = pgn_raw heard.message.pgn in
    let side = c.in-Some.side.now in
    let said : drop side.from side.text ≡ codes ",\"pgn\":" ++ decimal pgn ++ group_member (group_name_in groups pgn) =
    c.in-Some.ensures.suits.text_is ∙ ap (λ n. codes ",\"pgn\":" ++ decimal n ++ group_member (group_name_in groups n)) (c.in-Some.ensures.pgn ∙ c.raw.ensures.value) in
    part_before _ _ 192 _ _ (before_then _ _ _ _ _ _ _ _
    (subst (WritesBefore c.args.opening.now.block c.tail_before-group.new.out 192 c.tail_before-group.result) said c.tail_before-group.ensures.written) c.heard_before-opening.ensures)
    ∙ parts (moment_members (stamp_micros heard.message.stamp)) (sender_members heard.message.source heard.destination (option_map name_raw heard.name)) (decimal pgn) (group_member (group_name_in groups pgn))

pub returns-in-None : goal.returns-in-None
returns-in-None c = rw (c.open_unknown.ensures.without_group, c.open_unknown.ensures.head, c.again.ensures) refl
