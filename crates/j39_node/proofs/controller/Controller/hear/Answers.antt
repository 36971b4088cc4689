use Rattle.j39_node.proofs.QueueLemmas.{length_rest}
use Rattle.j39_node.proofs.SoundLemmas.{front_length, lost_older, read, sound}
use Rattle.j39_node.proofs.HearingLemmas.{either_news, heard_on, made_sender}
use Rattle.j39_node.specs.Boxes.{in_box}
use Rattle.j39_node.specs.Hearing.{broadcast_senders, found, made_whole, of, sender_in, with_sender}
use Rattle.j39_node.proofs.AskLemmas.{ask_heard}
use Rattle.j39_node.proofs.ReceptionLemmas.{again_is, holders_are, table_is}
use Rattle.j39_node.proofs.Common.{[], if◌then◌else◌, ◌&&◌, ◌++◌, ◌||◌, ◌∙◌, ◌∷◌, ap, asker_by, askers, asking_of, AskRecord, Bool, claim_of, fresh, heard, hearing_of, hears_with, incoming_of, is_coming, is_lost, Knows, length, lost, map, name_raw, nat_lt, not, Option, option_map, option_or, port_of, refusal_by, request_by, stamp_micros, subst, Untold, View, who_of, with_refusal, ℕ, At, Hear, Hold, IncomingRecord, MessageRecord, Who, acknowledged, address_after, age, asked, called, calls_for_claim, claimed_again, clock_at, comes, counted, delayed, double, drop, due, ended, is_any, over_by, got, handed, heard_at, hold_after, holder, holder_in, holds, incoming_after, is_another, is_double, is_for_program, is_refusal_due, is_smaller, is_unheard_in, made_in, source_of, kept, later, made, made_of, min, missed, missed_news, nat_eq, news_after, offered, older, open_ask, owes_claim, patience, reached, received_by, requests, restarts, silence, stamped, standing_of, step, sym, time_heard, told_claims, unheard_by, unheard_news, wait, whole, with_asker, with_request, ◌*◌, ◌+◌, ◌-◌, ◌≡◌, sender_by, FrameRecord, waned, transfers_at, None}
use Rattle.j39_node.specs.Is.{hearing_it}
use Rattle.std.specs.Option.{is_some}
use Rattle.j39_node.proofs.PortLemmas.{clock_is}
use Rattle.j39_transfers.specs.Transfers.{hears as transfers_hear, leaves as transfers_leave, loses as transfers_lose}
use Rattle.j39_node.proofs.CallLemmas.{transfers_heard, passed_is, news_heard, coming_is, heard_standing, holds_is, incoming_heard, made_heard, kept_rest, senders_rest, lost_is, missed_rest, refusal_rest, request_rest, asker_rest, asker_stays, askers_length}
use Rattle.j39_node.proofs.controller.Controller.hear.Goals as goal

pub returns : goal.returns
returns c = λ w H h.
    let f = c.args.frame.now in
    let t = stamp_micros c.args.now in
    let claim_is = c.of-heard.ensures.claim in
    let p = passed_is w H t c.args.self.now.hold c.passed-self.result (ap (λ (v : View). v.hold) h.shown) c.passed-self.ensures in
    let e8 = (c.heard-self-2.ensures ∙ ap (λ (n : ℕ). heard c.is_driven_away.result c.calls_for_claim-calls.result c.is_another-another.result n c.passed-self.result) c.delay.ensures) in
    let s = sound w H h.answered in
    let wants : c.is_for_program-wanted.result ≡ is_for_program w (holds w H t) f =
    c.is_for_program-wanted.ensures ∙ (ap (λ (u : View). is_for_program u.who c.is_held-is_held.result f) h.shown ∙ ap (λ (b : Bool). is_for_program w b f) (holds_is w H t c.passed-self.result c.is_held-is_held.result p c.is_held-is_held.ensures)) in
    let lost_before : c.is_lost-is_lost.result ≡ is_lost (address_after w H) =
    c.is_lost-is_lost.ensures ∙ (ap lost (ap (λ (k : Hold). k.standing) p) ∙ (lost_is (older (step H t) (address_after w H)) ∙ lost_older (step H t) (address_after w H))) in
    let asks_for : (option_map request_by c.fresh-request.result) ≡ fresh w (drop (length (handed H)) (requests w H)) (asked w (holds w H t) f) =
    (c.fresh-request.ensures.request ∙ ap (fresh (who_of w.brought c.args.self.now.own) (map request_by c.args.self.now.desk.waiting.items)) (c.asked-request.ensures.request c.of-heard.ensures))
    ∙ (ap (λ (u : View). fresh u.who (map request_by c.args.self.now.desk.waiting.items) (asked u.who c.is_held-is_held.result f)) h.shown
    ∙ λ i. fresh w ((h.shown i).requests) (asked w (holds_is w H t c.passed-self.result c.is_held-is_held.result p c.is_held-is_held.ensures i) f)) in
    let sender_is : option_map name_raw c.holder-sender.result ≡ holder w H (source_of f.id) =
    c.holder-sender.ensures.value ∙ (ap (holder_in c.args.self.now.holders) (c.source.ensures ∙ ap (λ (g : FrameRecord). source_of g.id) c.frame.view_is) ∙ table_is w c.args.self.now.holders H (source_of f.id) h.holders) in
    let room : nat_lt (length c.args.self.now.desk.waiting.items) 16 ≡ nat_lt (length (requests w H) - length (handed H)) 16 =
    ap (λ (n : ℕ). nat_lt n 16) (length_rest request_by c.args.self.now.desk.waiting.items (length (handed H)) (requests w H) (ap (λ (v : View). v.requests) h.shown)) in
    let place : nat_lt (length c.args.self.now.desk.due.items) 16 ≡ nat_lt (length (due w H) - length (acknowledged H)) 16 =
    ap (λ (n : ℕ). nat_lt n 16) (length_rest (refusal_by w) c.args.self.now.desk.due.items (length (acknowledged H)) (due w H) (ap (λ (v : View). v.acknowledgments) h.shown)) in
    let goes : c.is_driven_away.result ≡ is_smaller w (claim_of f) = c.is_driven_away.ensures ∙ (λ i. is_smaller (h.shown i).who (claim_is i)) in
    let asks : c.calls_for_claim-calls.result ≡ calls_for_claim w (is_lost (address_after w H)) f =
    c.calls_for_claim-calls.ensures c.of-heard.ensures ∙ (ap (λ (u : View). calls_for_claim u.who c.is_lost-is_lost.result f) h.shown ∙ ap (λ (b : Bool). calls_for_claim w b f) lost_before) in
    let others : c.is_another-another.result ≡ is_another w (holds w H t) f =
    c.is_another-another.ensures ∙ (ap (λ (u : View). is_another u.who c.is_held-is_held.result f) h.shown ∙ ap (λ (b : Bool). is_another w b f) (holds_is w H t c.passed-self.result c.is_held-is_held.result p c.is_held-is_held.ensures)) in
    let knows : Knows c.hear-received.new.holders (told_claims w (At t (Hear f) ∷ H)) =
    subst (λ (u : View). Knows c.hear-received.new.holders (if is_double u.who (claim_of f) then told_claims w H else told_claims w H ++ f ∷ [])) h.shown
    (subst (λ (b : Bool). Knows c.hear-received.new.holders (if b then told_claims w H else told_claims w H ++ f ∷ []))
    (c.is_some.ensures ∙ ap is_some (c.double-doubled.ensures ∙ ap (double (who_of w.brought c.args.self.now.own)) claim_is)) (c.hear-received.ensures.knows (told_claims w H) h.holders)) in
    let hold_now : c.heard-self-2.result ≡ hold_after w (At t (Hear f) ∷ H) =
    e8 ∙ ((λ i. heard (goes i) (asks i) (others i) ((h.shown i).who.delay * 600) (p i)) ∙ λ i. record (hold_after w (At t (Hear f) ∷ H)) {
      standing = heard_standing (is_smaller w (claim_of f)) (step H t) (address_after w H) i;
      delay =
          if (calls_for_claim w (is_lost (address_after w H)) f || (is_another w (holds w H t) f && nat_eq (patience w H - step H t) 0))
          && not ((lost_is _ ∙ lost_older (step H t) (address_after w H)) i && owes_claim w H)
          then w.delay * 600
          else delayed w H - step H t;
    }) in
    let stands_now : c.heard-self-2.result.standing ≡ standing_of (address_after w (At t (Hear f) ∷ H)) = ap (λ (k : Hold). k.standing) hold_now in
    let hears_in : incoming_of c.hear-received.new.self ≡ incoming_after w (At t (Hear f) ∷ H) =
    incoming_heard w H c.args.self.now t f c.hear-received.new.holders c.hear-received.new.self c.is_driven_away.result c.is_held-is_held.result h knows goes (holds_is w H t c.passed-self.result c.is_held-is_held.result p c.is_held-is_held.ensures) c.hear-received.ensures.heard in
    let gone_is : c.hear-received.result.gone ≡ restarts w H t f =
    c.hear-received.ensures.restarted ∙ (ap (λ (v : View). claimed_again (holder_in c.args.self.now.holders) (waned (t - v.incoming.moment) v.incoming.called) (claim_of f)) h.shown
    ∙ again_is w c.args.self.now.holders H (waned (t - heard_at H) (called w H)) (claim_of f) h.holders) in
    let on = heard_on w H t f c.hear-received.new.holders c.hear-received.result.gone (stamp_micros c.hear-received.new.self.clock) c.leave-breaks.result c.hear-broadcast.result.is_missed c.hear-broadcast.result.made
    (hearing_of c.args.self.now.hearing) (hearing_of c.leave-breaks.new.self) (hearing_of c.hear-broadcast.new.self) (ap (λ (v : View). v.hearing) h.shown) knows (ap (λ (x : IncomingRecord). x.clock) hears_in) gone_is
    c.leave-breaks.ensures.broken c.leave-breaks.ensures.left
    (c.hear-broadcast.ensures.missed ∙ ap (λ (u : View). is_unheard_in (hearing_of c.leave-breaks.new.self).boxes u.who f (hearing_of c.leave-breaks.new.self).listening) h.shown)
    (λ apart fits. c.hear-broadcast.ensures.made apart fits ∙ ap (λ (u : View). made_of (option_map (λ (p : ℕ × MessageRecord). p.1) (made_in (hearing_of c.leave-breaks.new.self).boxes u.who (holder_in c.hear-received.new.holders (source_of f.id)) (stamp_micros c.hear-received.new.self.clock) f (hearing_of c.leave-breaks.new.self).listening))) h.shown)
    (λ apart fits. c.hear-broadcast.ensures.heard apart fits ∙ ap (λ (u : View). hearing_it u.who (holder_in c.hear-received.new.holders (source_of f.id)) (stamp_micros c.hear-received.new.self.clock) f (hearing_of c.leave-breaks.new.self)) h.shown) in
    let whole_is : c.hear-received.result.made ≡ made_of (whole w H t f) =
    made_heard w H c.args.self.now t f c.hear-received.new.holders c.hear-received.result.made c.is_driven_away.result c.is_held-is_held.result h knows goes (holds_is w H t c.passed-self.result c.is_held-is_held.result p c.is_held-is_held.ensures) c.hear-received.ensures.made in
    let lost_now = is_lost (address_after w (At t (Hear f) ∷ H)) in
    let comes_now = comes w H (time_heard (At t (Hear f) ∷ H)) in
    let silent_is : c.silence-silence.result ≡ silence (wait H - step H t) comes_now lost_now (asking_of c.args.self.now.asking) =
    c.silence-silence.ensures ∙ λ i. silence (hold_now i).wait
    (((c.is_coming-is_coming.ensures ∙ ap (λ (n : ℕ). is_coming n (option_map (λ (x : AskRecord). x.question) (asking_of c.args.self.now.asking)) (incoming_of c.args.self.now.incoming).reception.sessions (hearing_of c.args.self.now.hearing).listening.current) c.clock_at.ensures) ∙ coming_is w H c.args.self.now (later (incoming_of c.args.self.now.incoming).clock (t - (incoming_of c.args.self.now.incoming).moment)) (time_heard (At t (Hear f) ∷ H)) h
    (ap (λ (v : View). later v.incoming.clock (t - v.incoming.moment)) h.shown)) i)
    ((ap lost stands_now ∙ lost_is (address_after w (At t (Hear f) ∷ H))) i) (asking_of c.args.self.now.asking) in
    let made_now : option_or c.hear-received.result.made c.hear-broadcast.result.made ≡ made w H t f =
    ap (λ (y : Option (ℕ × ℕ)). option_or y c.hear-broadcast.result.made) whole_is ∙ ap (option_or (made_of (whole w H t f))) on.made in
    let asked_now = fresh w (drop (length (handed H)) (requests w H)) (asked w (holds w H t) f) in
    let unread_now : length c.args.self.now.inbox.unread.items ≡ length (kept w H) - length (got H) = length_rest received_by c.args.self.now.inbox.unread.items (length (got H)) (kept w H) (ap (λ (v : View). v.unread) h.shown) in
    let time_now : stamp_micros c.clock-clock.result ≡ clock_at w H t =
    c.clock-clock.ensures ∙ (ap (λ (k : Hold). min k.age 9999999999999999) hold_now ∙ clock_is (age w H + step H t)) in
    let state_now : (port_of c.hear-2.new.self).state ≡ transfers_at w (At t (Hear f) ∷ H) =
    c.hear-2.ensures.heard
    ∙ ((λ i. let s = (h.shown i).port.state in if (c.is_lost.ensures ∙ (ap lost stands_now ∙ lost_is (address_after w (At t (Hear f) ∷ H)))) i then transfers_lose (time_now i) s
    else transfers_hear f (time_now i) (transfers_leave None (holders_are w (At t (Hear f) ∷ H) c.hear-received.new.holders knows i) (time_now i) s))
    ∙ transfers_heard w H (is_lost (address_after w (At t (Hear f) ∷ H))) (clock_at w H t) (holder w (At t (Hear f) ∷ H)) f) in
    record {
      shown = λ i. record (h.shown i) {
        hold = hold_now i;
        asking = ((c.hear-3.ensures ∙ ap (λ (o : Option (ℕ × ℕ)). option_map (hears_with (who_of w.brought c.args.self.now.own) c.silence-silence.result f o) (asking_of c.args.self.now.asking)) c.or-made.ensures)
            ∙ ((λ i. option_map (hears_with (h.shown i).who (silent_is i) f (made_now i)) (asking_of c.args.self.now.asking))
            ∙ ((λ i. option_map (hears_with w (silence (wait H - step H t) comes_now lost_now ((h.shown i).asking)) f (made w H t f)) (h.shown i).asking)
            ∙ ask_heard w (open_ask H) (reached H) (wait H - step H t) (ended w H) comes_now lost_now f (made w H t f)))) i;
        unread = (c.offer.ensures.unread ∙ (ap (λ (b : Bool). offered b (stamped f) (map received_by c.args.self.now.inbox.unread.items)) wants
            ∙ kept_rest (is_for_program w (holds w H t) f) (kept w H) _ (length (got H)) (stamped f) (read w H s) (ap (λ (v : View). v.unread) h.shown))) i;
        senders = (c.offer.ensures.senders ∙ (ap (λ (b : Bool). offered b (option_map name_raw c.holder-sender.result) (map sender_by c.args.self.now.inbox.unread.items)) wants
            ∙ senders_rest w H t f _ _ (read w H s) (ap (λ (v : View). v.senders) h.shown) sender_is)) i;
        requests = (c.hear.ensures.waiting ∙ ((λ i. with_request (h.shown i).who (room i) (asks_for i) (map request_by c.args.self.now.desk.waiting.items))
            ∙ request_rest w (nat_lt (length (requests w H) - length (handed H)) 16) (fresh w (drop (length (handed H)) (requests w H)) (asked w (holds w H t) f)) (requests w H)
            (map request_by c.args.self.now.desk.waiting.items) (length (handed H)) (front_length (handed H) (requests w H) s.desk.2) (ap (λ (v : View). v.requests) h.shown))) i;
        askers = (c.hear.ensures.askers (option_map name_raw c.holder-sender.result) (asker_stays _ _ _ c.fresh-request.ensures.same c.asked-request.ensures.asker)
            ∙ ((λ i. with_asker (h.shown i).who (room i) (asks_for i) (sender_is i) (map asker_by c.args.self.now.desk.waiting.items))
            ∙ asker_rest w (nat_lt (length (requests w H) - length (handed H)) 16) asked_now (holder w H (source_of f.id)) (askers w H)
            (map asker_by c.args.self.now.desk.waiting.items) (length (handed H)) (rw (askers_length w H) (front_length (handed H) (requests w H) s.desk.2)) (ap (λ (v : View). v.askers) h.shown))) i;
        acknowledgments = (ap (λ (v : Who). map (refusal_by v) c.hear.new.self.due.items) (sym (ap (λ (v : View). v.who) h.shown))
            ∙ (c.hear.ensures.due ∙ ((λ i. let v = (h.shown i).who in
            with_refusal v (room i) (place i && not (is_refusal_due v (map (refusal_by v) c.args.self.now.desk.due.items) (asks_for i))) (asks_for i) (map (refusal_by v) c.args.self.now.desk.due.items))
            ∙ ((λ i. with_refusal w (nat_lt (length (requests w H) - length (handed H)) 16) (nat_lt (length (due w H) - length (acknowledged H)) 16
            && not (is_refusal_due w ((h.shown i).acknowledgments) asked_now)) asked_now (map (refusal_by w) c.args.self.now.desk.due.items))
            ∙ refusal_rest w (nat_lt (length (requests w H) - length (handed H)) 16)
            (nat_lt (length (due w H) - length (acknowledged H)) 16 && not (is_refusal_due w (drop (length (acknowledged H)) (due w H)) asked_now)) asked_now
            (due w H) (map (refusal_by w) c.args.self.now.desk.due.items) (length (acknowledged H)) (front_length (acknowledged H) (due w H) s.desk.1) (ap (λ (v : View). v.acknowledgments) h.shown))))) i;
        news = ((c.with_missed-self.ensures ∙ ap (λ (u : Untold). (let v : Untold = record { lost = u.lost; another = u.another; doubled = u.doubled; missed = c.leave-breaks.result || u.missed } in v)) (c.with_double.ensures
            ∙ λ i. let u = news_heard c.args.self.now.news _ _ _ _ _ _ _ c.heard-self.ensures c.is_another-another.ensures c.misses-misses.ensures in record {
              lost = (u i).lost;
              another = (u i).another;
              doubled = option_or ((c.double-doubled.ensures ∙ ap (double (who_of w.brought c.args.self.now.own)) claim_is) i) (u i).doubled;
              missed = (u i).missed;
            })) ∙ ((λ i. record {
              lost = (h.shown i).news.lost || (goes i && not (lost_before i));
              another = (h.shown i).news.another || (sym c.is_another-another.ensures ∙ others) i;
              doubled = option_or (double (h.shown i).who (claim_of f)) (h.shown i).news.doubled;
              missed = on.breaks i || ((h.shown i).news.missed || ((wants i && not (nat_lt (unread_now i) 16)) || on.unheard i));
            }) ∙ λ i. record (news_after w (At t (Hear f) ∷ H)) {
              missed = either_news (is_any (over_by w H (At t (Hear f)))) (missed_news w H) (unheard_news w H)
                  (is_for_program w (holds w H t) f && not (nat_lt (length (kept w H) - length (got H)) 16)) (unheard_by w H (At t (Hear f))) i;
            })) i;
        missed = (c.offer.ensures.missed ∙ (ap (λ (b : Bool). counted b (map received_by c.args.self.now.inbox.unread.items) c.args.self.now.inbox.missed) wants
            ∙ missed_rest (is_for_program w (holds w H t) f) (kept w H) _ (length (got H)) (missed w H) _ (ap (λ (v : View). v.unread) h.shown) (ap (λ (v : View). v.missed) h.shown))) i;
        incoming = hears_in i;
        hearing = on.hearing i;
        broadcast_senders = (c.hear-broadcast.ensures.senders
            ∙ ((λ i. with_sender (on.made i) (sender_in (of (source_of f.id) (on.found i).current))
            ((ap (λ v. map (λ b. (in_box b).name) v.items) c.leave-breaks.ensures.whole ∙ ap (λ (v : View). v.broadcast_senders) h.shown) i))
            ∙ made_sender (made_whole w H t f) (sender_in (found w H t f (source_of f.id))) (broadcast_senders w H))) i;
        port = record { state = state_now i; next_token = (c.hear-2.ensures.token ∙ ap (λ (v : View). v.port.next_token) h.shown) i };
      };
      answered = (h.answered, tt);
      holders = knows;
    }
