-- What was said there, or what the NAME said elsewhere.
use Rattle.j39_fault_reports.proofs.Common.{◌∙◌, ap, length, length-map, sym}
use Rattle.std.proofs.Common.{option_map}
use Rattle.j39_address.specs.Name.{name_raw}
use Rattle.j39_fault_reports.specs.CurrentPlaces.{name_in, stored_in}
use Rattle.j39_fault_reports.proofs.MoveLemmas.{taken_out, taken_there}
use Rattle.j39_fault_reports.proofs.current_faults.last_actives.LastActives.take_before.Goals as goal

pub returns-then-is_of : goal.returns-then-is_of
returns-then-is_of c =
    taken_there name_in (option_map name_raw c.args.name) c.args.self.now c.args.address c.requires _ c.take_out.new.self
    (sym c.is_of.ensures ∙ c.if-is_of.true) c.take_out.ensures.value c.take_out.ensures.after

pub returns : goal.returns
returns c =
    let long = ap length (sym c.self.view_is) ∙ length-map c.self.inside.places stored_in ∙ c.self.invariant in
    taken_out name_in (option_map name_raw c.args.name) c.args.self.now c.args.address c.requires c.leave-moved.new.self c.take_out-here.new.self _ _
    (sym c.is_of.ensures ∙ c.if-is_of.false)
    (c.leave-moved.ensures.left long) (c.leave-moved.ensures.found long) c.take_out-here.ensures.after c.take_out-here.ensures.value _ c.either.ensures
