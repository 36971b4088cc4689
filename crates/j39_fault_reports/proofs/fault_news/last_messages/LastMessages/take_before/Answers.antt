-- What was said there, or what the NAME said elsewhere.
use Rattle.j39_fault_reports.proofs.Common.{◌∙◌, ap, length, length-map, sym}
use Rattle.std.proofs.Common.{option_map}
use Rattle.j39_address.specs.Name.{name_raw}
use Rattle.j39_fault_reports.specs.LastMessages.{name_of, stored_in}
use Rattle.j39_fault_reports.proofs.MoveLemmas.{taken_out, taken_there}
use Rattle.j39_fault_reports.proofs.fault_news.last_messages.LastMessages.take_before.Goals as goal

pub returns-then-is_of : goal.returns-then-is_of
returns-then-is_of c =
    taken_there name_of (option_map name_raw c.args.name) c.args.self.now c.args.address c.requires _ c.take.new.self
    (sym c.is_of.ensures ∙ c.if-is_of.true) c.take.ensures.value c.take.ensures.after

pub returns : goal.returns
returns c =
    let long = ap length (sym c.self.view_is) ∙ length-map c.self.inside.places stored_in ∙ c.self.invariant in
    taken_out name_of (option_map name_raw c.args.name) c.args.self.now c.args.address c.requires c.leave-moved.new.self c.take-here.new.self _ _
    (sym c.is_of.ensures ∙ c.if-is_of.false)
    (c.leave-moved.ensures.left long) (c.leave-moved.ensures.found long) c.take-here.ensures.after c.take-here.ensures.value _ c.either.ensures
