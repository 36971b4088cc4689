use Rattle.j39_node.proofs.Common.{◌∙◌, ◌≡◌, claimed_again, found_by_frame, holder_in, if_heard, incoming_of, leaves, made_in_sessions, stamp_micros}
use Rattle.j39_sessions.specs.Shown.{sessions_of}
use Rattle.std.specs.Option.{option_map}
use Rattle.j39_node.proofs.incoming.Incoming.hear.Goals as goal

pub returns-clause-made : goal.returns-clause-made
returns-clause-made c =
    let gone = c.claimed_again-gone.ensures ∙ λ i. claimed_again (holder_in c.args.holders.now) (c.pass.ensures i).called (c.requires.claim i) in
    let found : sessions_of c.leave.new.self ≡ found_by_frame (stamp_micros c.args.now) c.args.frame.now (holder_in c.args.holders.now) (holder_in c.tell.new.holders) (incoming_of c.args.self.now) =
    c.leave.ensures ∙ λ i. leaves (gone i) (holder_in c.tell.new.holders) (c.pass.ensures i).reception in
    c.take_in-made.ensures.made
    ∙ λ i. option_map (λ m. (m.source, m.pgn)) (if_heard c.args.bearing.drives_away c.args.bearing.is_held (made_in_sessions (c.pass.ensures i).clock c.args.frame.now (found i)))
