-- The parts, one before the other.
use Rattle.j39_reports.proofs.Common.{address_string, name_string, or_null, List, ℕ, ◌≡◌, ◌++◌, append_assoc, codes, refl, subst, option_map, name_raw, before_then, WritesBefore}
use Rattle.j39_reports.specs.EntryObject.{sender_members}
use Rattle.j39_reports.proofs.report_objects.object_head.sender_before.Goals as goal

regroup : (a b c address destination name : List ℕ) → a ++ (address ++ (b ++ (destination ++ (c ++ name)))) ≡ a ++ address ++ b ++ destination ++ c ++ name
regroup a b c address destination name = simp append_assoc refl

pub returns-clause-written : goal.returns-clause-written
unfolding sender_members
returns-clause-written c =
    let heard = c.args.heard.now in
    subst (WritesBefore c.args.out.now c.bytes_before.new.out c.args.end c.bytes_before.result)
    (regroup (codes ",\"address\":") (codes ",\"destination\":") (codes ",\"name\":") (address_string heard.message.source) (or_null (option_map address_string heard.destination))
    (or_null (option_map name_string (option_map name_raw heard.name))))
    (before_then _ _ _ _ _ _ _ _ (before_then _ _ _ _ _ _ _ _ (before_then _ _ _ _ _ _ _ _ (before_then _ _ _ _ _ _ _ _ (before_then _ _ _ _ _ _ _ _
    c.name_before-name.ensures.written c.bytes_before-name_key.ensures.written) c.destination_before-destination.ensures.written)
    c.bytes_before-destination_key.ensures.written) c.address_before-address.ensures.written) c.bytes_before.ensures.written)
