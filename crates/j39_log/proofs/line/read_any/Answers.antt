-- What the third field says of the line.
use Rattle.j39_frame.specs.Stamp.{stamp_micros}
use Rattle.j39_log.proofs.LineLemmas.{no_frame_from, no_other_from, blank_has_no_parts}
use Rattle.j39_log.proofs.line.read_any.Goals as goal

pub returns-in-Unread : goal.returns-in-Unread
returns-in-Unread c =
    let none = c.in-Unread.ensures in
    record {
      no_frame = λ bus frame p. none.0 bus p.third frame.stamp p.parts;
      no_other = λ p. none.0 p.bus p.third p.stamp p.parts;
      no_blank = none.1;
    }

pub returns-in-None : goal.returns-in-None
returns-in-None c =
    let parts = c.in-Three.ensures in
    record {
      bus = c.in-Three.bus.now;
      third = c.in-Three.third.now;
      stamp = stamp_micros c.in-Three.stamp;
      parts = parts;
      marked = c.holds_hash.ensures.0 c.if-holds_hash.true;
      no_frame = no_frame_from c.args.line.now _ _ _ parts c.in-None.ensures.only;
    }

pub returns-in-None-2 : goal.returns-in-None-2
returns-in-None-2 c =
    let parts = c.in-Three.ensures in
    record {
      no_frame = no_frame_from c.args.line.now _ _ _ parts c.in-None.ensures.only;
      no_other = no_other_from c.args.line.now _ _ _ parts (λ h. cc (c.holds_hash.ensures.1 h));
      no_blank = λ b. blank_has_no_parts c.args.line.now _ _ _ b parts;
    }
