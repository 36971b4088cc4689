-- The player at the place takes its frame out.
use Rattle.std.proofs.Common.{◌<◌, length, ltb-true, refl, sym}
use Rattle.std.proofs.lemmas.Option.{slice_get_read}
use Rattle.j39_frame.specs.Stamp.{stamp_micros}
use Rattle.bus_demo.proofs.TellingLemmas.{one_takes}
use Rattle.bus_demo.proofs.bus.Bus.take_frame.Goals as goal

pub returns-clause-takes : goal.returns-clause-takes
returns-clause-takes c =
    let players = c.args.self.now.controllers.items in
    let player = c.in_ok-get_mut.field-0.now in
    let inside : c.args.sender < length players = ltb-true _ _ (sym c.in_ok-get_mut.ensures.item.0) in
    one_takes (stamp_micros c.args.self.now.now) c.args.sender players player _ _ inside
    (slice_get_read players (length players) c.args.sender player refl inside c.in_ok-get_mut.ensures.value)
    (record { takes = c.take_frame.ensures.takes; part = c.take_frame.ensures.part; own = c.take_frame.ensures.rest })
