use Rattle.j39_node.proofs.Common.{[], after, asking_of, map, nothing, posted, received_by, refusal_by, request_by, rules, Who, who_of, asker_by, sender_by, ap, ◌∙◌, IncomingRecord, LaneRecord, None, ℕ, SessionsRecord, TransfersRecord, PortRecord, refl}
use Rattle.j39_node.proofs.CallLemmas.{begun_transfers}
use Rattle.j39_node.proofs.controller.Controller.begun.Goals as goal

pub returns : goal.returns
returns c =
    let w : Who = who_of nothing c.args.own in
    record {
      shown = λ i. record (after w []) {
        hold = c.new.ensures i;
        outgoing = map posted (c.new-2.ensures i);
        asking = asking_of (c.new-3.ensures i);
        unread = map received_by (c.new-4.ensures.unread i);
        senders = map sender_by (c.new-4.ensures.unread i);
        requests = map request_by (c.new-5.ensures.waiting i);
        askers = map asker_by (c.new-5.ensures.waiting i);
        acknowledgments = map (refusal_by w) (c.new-5.ensures.due i);
        news = c.none.ensures i;
        missed = c.new-4.ensures.missed i;
        lane = (c.new-7.ensures w ∙ ap (λ (n : ℕ). (let l : LaneRecord = record { current = None; count = 0; next_token = 0; boxes = n } in l)) c.requires.free) i;
        incoming = (c.new-8.ensures ∙ ap (λ (s : SessionsRecord). (let x : IncomingRecord = record { moment = 0; clock = 0; called = record { left = 0; whose = 0 }; reception = s } in x)) c.requires.sessions) i;
        port = (c.new-9.ensures ∙ ap (λ (s : TransfersRecord). (let x : PortRecord = record { state = s; next_token = 0 } in x)) (c.requires.transfers ∙ begun_transfers c.args.own.address c.args.own.transfers c.args.own.fits)) i;
        hearing = c.requires.hearing i;
        broadcast_senders = c.requires.senders i;
      };
      answered = (c.args.own.fits, refl);
      holders = search rules;
    }
