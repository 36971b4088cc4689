use Rattle.j39_node.proofs.Common.{◌∙◌, ap, arith, List, MessageRecord, nothing, opened, pgn_raw, refl, stamp_micros, who_of, ℕ}
use Rattle.j39_node.proofs.FrameLemmas.{packet_made}
use Rattle.j39_node.proofs.lane.Open.frame.Goals as goal

pub returns : goal.returns
returns c =
    packet_made c.new-2.result (stamp_micros c.args.now) _ c.args.count c.in_ok-_id.bytes _ (opened (who_of nothing c.args.own.now) c.args.self.now) c.in_ok-cut.cut
    c.new-2.ensures.known c.new-2.ensures.value (omega arith) (c.in_ok-id.ensures c.in_ok-_id.bytes) c.in_ok-_id.ensures.value refl
    (c.in_ok-cut.ensures.value ∙ ap (λ (b : List ℕ). (let m : MessageRecord = record { source = c.args.own.now.address; pgn = pgn_raw c.args.self.now.group; bytes = b } in m)) (c.as_slice.ensures.value ∙ ap (λ b. b.items) c.deref.ensures))
    (c.in_ok-_id.ensures.known.0 refl)
