-- A frame, or another field that holds `#`.
use Rattle.std.proofs.Common.{subst, sym}
use Rattle.std.proofs.lemmas.Bool.{OnTrue_at}
use Rattle.j39_log.specs.Line.{HasParts}
use Rattle.j39_frame.specs.Stamp.{stamp_micros}
use Rattle.j39_log.proofs.LineLemmas.{no_frame_from}
use Rattle.j39_log.proofs.SpacedLemmas.{IsField-frame}
use Rattle.j39_log.proofs.fast.plain.read_plain.Goals as goal

pub returns-in-Some-frame_at : goal.returns-in-Some-frame_at
returns-in-Some-frame_at c =
    let third = c.in-Some.third.now in
    let found = c.in-Some-frame_at.ensures in
    let parts = c.in-Some.ensures (IsField-frame third _ _ found.1) in
    record { third = third; parts = subst (HasParts c.args.line.now c.in-Some.bus.now third) (sym found.0) parts; third_is = found.1 }

pub returns-in-None : goal.returns-in-None
returns-in-None c =
    let parts = c.in-Some.ensures (OnTrue_at c.if-is_field.true c.is_field.ensures) in
    record {
      bus = c.in-Some.bus.now;
      third = c.in-Some.third.now;
      stamp = stamp_micros c.in-Some.stamp;
      parts = parts;
      marked = c.holds_hash.ensures.0 c.if-holds_hash.true;
      no_frame = no_frame_from c.args.line.now _ _ _ parts c.in-None.ensures.only;
    }
