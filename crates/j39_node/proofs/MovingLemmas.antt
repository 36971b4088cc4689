-- When a controller may move, by what it has; and what it is then.
use Rattle.j39_node.proofs.Common.{[], accepted, and_parts, ap, arith, asked_by, asker_by, AskEnding, asking_of, Bool, Call, Claim, Claims, Controller, eqb-true, false, got, handed, has_given, has_told, HasMoved, hearing_of, HearingRecord, hold_after, hold_moved, holder_in, incoming_of, IncomingRecord, Is, IsHolderAfter, IsLeastFree, IsSettled, kept, Knows, lane_of, LaneRecord, later, length, length-map, List, loses, map, message_by, moment, moved, name_raw, nat_eq, news_of, None, none_of, NoneFree, not, Option, option_map, port_of, PortRecord, posted, Question, received_by, refl, refusal_by, request_by, requests, sender_by, subst, sym, told, told_claims, true, Untold, View, Who, ℕ, ◌&&◌, ◌+◌, ◌-◌, ◌<◌, ◌||◌, ◌∙◌, ◌∷◌, ◌≡◌, ◌≢◌, ◌≤◌, age, opened, At, min, ltb-true, nat_lt, transfers_at}
use Rattle.j39_transfers.specs.Transfers.{can_move, moves}
use Rattle.j39_node.specs.Boxes.{in_box}
use Rattle.std.specs.Option.{is_some}
use Rattle.j39_node.specs.Moving.{begun}
use Rattle.j39_address.proofs.HolderLemmas.{same_holder}
use Rattle.j39_node.proofs.QueueLemmas.{length_rest}
use Rattle.j39_node.proofs.SoundLemmas.{front_length, read, sound}
use Rattle.j39_node.proofs.ReceptionLemmas.{own}
use Rattle.j39_sessions.specs.Seats.{kept_in, sender_in}
use Rattle.j39_sessions.specs.Shown.{sessions_of}
use Rattle.j39_sessions.specs.declared.sessions.Sessions.{Sessions}

-- ---- free addresses

abbrev pub StandsFor : Claims → List (Option Claim) → Type 0
StandsFor table C = (a : ℕ) → IsHolderAfter C a (holder_in table a)

unheld : (table : Claims) (C : List (Option Claim)) (b : ℕ) → StandsFor table C → IsHolderAfter C b None → holder_in table b ≡ None
unheld table C b h f = same_holder C _ b (holder_in table b) None (h b) f

pub least_free : (table : Claims) (C : List (Option Claim)) (a : ℕ) → StandsFor table C → 128 ≤ a → a ≤ 247 → holder_in table a ≡ None
    → ((b : ℕ) → 128 ≤ b → b < a → holder_in table b ≢ None) → IsLeastFree C a
least_free table C a h l u e least =
    (record { least = l; most = u; unheld = subst (λ (o : Option ℕ). IsHolderAfter C a o) e (h a) }, λ b lt f. least b f.least lt (unheld table C b h f.unheld))

pub none_free : (table : Claims) (C : List (Option Claim)) → StandsFor table C
    → ((b : ℕ) → 128 ≤ b → b ≤ 247 → holder_in table b ≢ None) → NoneFree C
none_free table C h none b f = none b f.least f.most (unheld table C b h f.unheld)

-- ---- parts that are empty

empty_is : (a b n : ℕ) → a ≡ b - n → n ≤ b → nat_eq a 0 ≡ true → n ≡ b
empty_is a b n e l z = let y = eqb-true _ _ z in omega (arith, e, l, y)

none_is : {T : Type 0} {U : Type 0} (v : T → U) (o : Option T) → not (is_some o) ≡ true → option_map v o ≡ None
none_is v o e = grind (arith, e)

asked_none : (o : Option Question) (n : ℕ) (e : Option AskEnding) → asked_by o n e ≡ None → o ≡ None
asked_none o n e f = grind (arith, f)

no_news : (a b : Bool) (d : Option ℕ) (c : Bool) → not (a || (b || (is_some d || c))) ≡ true → news_of a b d c ≡ None
no_news a b d c e = grind (arith, e)

none_waits : {T : Type 0} (n : ℕ) (xs : List T) → n ≡ length xs → nat_eq n 0 ≡ true → xs ≡ []
none_waits n [] e g = refl
none_waits n (x ∷ xs) e g = absurd (let z = eqb-true n 0 g in omega (arith, e, z))

-- ---- all of them

-- none is open where it may move
pub moves_from : (w : Who) (H : List Call) (c : Controller) (a : ℕ) → Is w H c → can_move a (port_of c.transfers).state ≡ true → (a < 254) × ((transfers_at w H).running ≡ [])
moves_from w H c a h m =
    let p = and_parts (nat_lt a 254) _ (ap (λ (v : View). can_move a v.port.state) (sym h.shown) ∙ m) in
    (ltb-true _ _ p.0, none_waits _ _ refl p.1)

pub settles : (w : Who) (H : List Call) (c : Controller) (a : ℕ) → Is w H c → (has_told c && has_given c) ≡ true → can_move a (port_of c.transfers).state ≡ true → IsSettled w H
settles w H c a h e m =
    let s = sound w H h.answered in
    let p = and_parts _ _ e in
    let t = and_parts _ _ p.0 in
    let t2 = and_parts _ _ t.1 in
    let g = and_parts _ _ p.1 in
    let g2 = and_parts _ _ g.1 in
    let g3 = and_parts _ _ g2.1 in
    let g4 = and_parts _ _ g3.1 in
    record {
      messages = empty_is _ _ _ (length_rest posted c.outgoing.items (length (told H)) (accepted w H) (ap (λ (v : View). v.outgoing) h.shown)) s.within t.0;
      broadcast = sym (ap (λ (v : View). v.lane.current) h.shown) ∙ none_is _ _ t2.0;
      transfer = (moves_from w H c a h m).1;
      request = asked_none _ _ _ (sym (ap (λ (v : View). v.asking) h.shown) ∙ none_is _ _ t2.1);
      received = empty_is _ _ _ (length_rest received_by c.inbox.unread.items (length (got H)) (kept w H) (ap (λ (v : View). v.unread) h.shown)) (read w H s) g.0;
      requests_taken = empty_is _ _ _ (length_rest request_by c.desk.waiting.items (length (handed H)) (requests w H) (ap (λ (v : View). v.requests) h.shown)) (front_length _ _ s.desk.2) g2.0;
      received_transfer = none_waits _ _ (ap (λ (v : View). length v.incoming.reception.waits) h.shown) g3.0;
      received_broadcast = none_waits _ _ (sym (length-map c.hearing.whole.items (λ b. message_by (in_box b))) ∙ ap (λ (v : View). length v.hearing.listening.waits) h.shown) g4.0;
      news = no_news _ _ _ _ (sym (ap (λ (v : View). not (v.news.lost || (v.news.another || (is_some v.news.doubled || v.news.missed)))) h.shown) ∙ g4.1);
    }

-- ---- it begins anew

nothing : {T : Type 0} {U : Type 0} (v : T → U) (xs : List T) → nat_eq (length xs) 0 ≡ true → map v xs ≡ []
nothing v [] e = refl
nothing v (x ∷ xs) e = absurd (let z = eqb-true _ _ e in omega (arith, z))

none_untold : (u : Untold) → not (u.lost || (u.another || (is_some u.doubled || u.missed))) ≡ true → u ≡ record { lost = false; another = false; doubled = None; missed = false }
none_untold u e = grind (arith, e)

aged : (w : Who) (H : List Call) → moment H ≤ age w H
aged w [] = omega arith
aged w (At now act ∷ H) = let h = aged w H in omega (arith, h)
aged w (call ∷ H) = aged w H

brought_on : (m n : ℕ) → m ≤ n → min n 18446744073709551615 ≡ min (n - m + (m - 0)) 18446744073709551615
brought_on m n l = omega (arith, l)

none_less : (m : ℕ) → m ≡ m - 0
none_less m = omega arith

-- sessions of which none waits, at another address
none_there : (s : Sessions) (own most boxes a : ℕ) → nat_eq (length (sessions_of s).waits) 0 ≡ true → (sessions_of s).most ≡ most → (sessions_of s).boxes ≡ boxes
    → record (loses (sessions_of s)) { own = a } ≡ none_of a most boxes
none_there s own most boxes a e m b = let n = none_waits 0 s.whole.items (sym (eqb-true _ _ e) ∙ length-map s.whole.items kept_in) refl in λ i. record {
  own = a;
  most = m i;
  boxes = b i;
  sessions = [];
  waits = map kept_in (n i);
  senders = map sender_in (n i);
  replies = [];
}

zero_less : (n : ℕ) → 0 ≡ 0 - n
zero_less n = omega arith

pub begins_anew : (w : Who) (H : List Call) (old new : Controller) (a : ℕ) → Is w H old → (has_told old && has_given old) ≡ true
    → new.own.name ≡ old.own.name → new.own.address ≡ a → new.own.delay ≡ old.own.delay → new.own.served.items ≡ old.own.served.items → new.own.subscribed ≡ old.own.subscribed → new.own.boxes ≡ old.own.boxes → new.own.sessions ≡ old.own.sessions → new.own.transfers ≡ old.own.transfers → new.own.window ≡ old.own.window
    → new.hold ≡ hold_moved old.hold
    → new.outgoing ≡ old.outgoing → new.taken ≡ 0 → new.next_token ≡ 0 → new.asking ≡ old.asking → new.inbox.unread ≡ old.inbox.unread → new.inbox.missed ≡ 0
    → new.desk.waiting ≡ old.desk.waiting → new.desk.due.items ≡ [] → new.news ≡ old.news → new.holders ≡ old.holders
    → lane_of (moved w H a) new.lane ≡ record (lane_of (moved w H a) old.lane) { count = 0; next_token = 0 }
    → incoming_of new.incoming ≡ record { moment = old.hold.moment; clock = later 0 old.hold.moment; called = record { left = 0; whose = 0 }; reception = record (loses (incoming_of old.incoming).reception) { own = a } }
    → port_of new.transfers ≡ record { state = moves a (port_of old.transfers).state; next_token = 0 } → can_move a (port_of old.transfers).state ≡ true → ((hearing_of old.hearing).listening.waits ≡ [] → hearing_of new.hearing ≡ record { listening = record { current = []; waits = [] }; boxes = (hearing_of old.hearing).boxes; missed = 0 }) → new.hearing.whole ≡ old.hearing.whole
    → HasMoved w H a new
begins_anew w H old new a h e o1 o2 o5 o3 o4 o6 o7 o9 o8 q1 q2 q3 q4 q5 q6 q7 q8 q9 q10 q11 q12 q15 q16 q17 q18 q20 =
    let p = and_parts _ _ e in
    let t = and_parts _ _ p.0 in
    let t3 = and_parts _ _ t.1 in
    let g = and_parts _ _ p.1 in
    let g2 = and_parts _ _ g.1 in
    let g3 = and_parts _ _ g2.1 in
    let g4 = and_parts _ _ g3.1 in
    let most = ap (λ (v : View). v.incoming.reception.most) h.shown ∙ (own w H).2 in
    let boxes = ap (λ (v : View). v.incoming.reception.boxes) h.shown ∙ (own w H).1 in
    record {
      shown = λ i. record {
        who = record { name = (ap name_raw o1 ∙ ap (λ (v : View). v.who.name) h.shown) i; address = o2 i; delay = (o5 ∙ ap (λ (v : View). v.who.delay) h.shown) i; served = (o3 ∙ ap (λ (v : View). v.who.served) h.shown) i; subscribed = (ap (option_map (λ g. g.items)) o4 ∙ ap (λ (v : View). v.who.subscribed) h.shown) i; boxes = (o6 ∙ ap (λ (v : View). v.who.boxes) h.shown) i; sessions = (o7 ∙ ap (λ (v : View). v.who.sessions) h.shown) i; transfers = (o9 ∙ ap (λ (v : View). v.who.transfers) h.shown) i; window = (o8 ∙ ap (λ (v : View). v.who.window) h.shown) i; brought = (moved w H a).brought };
        hold = (q1 ∙ (ap (λ (v : View). hold_moved v.hold) h.shown ∙ (λ i. record (hold_after (moved w H a) (begun H)) { age = brought_on (moment H) (age w H) (aged w H) i }))) i;
        outgoing = (ap (λ x. map posted x.items) q2 ∙ nothing posted old.outgoing.items t.0) i;
        taken = q3 i;
        token = q4 i;
        asking = (ap asking_of q5 ∙ none_is _ _ t3.1) i;
        unread = (ap (λ x. map received_by x.items) q6 ∙ nothing received_by old.inbox.unread.items g.0) i;
        senders = (ap (λ x. map sender_by x.items) q6 ∙ nothing sender_by old.inbox.unread.items g.0) i;
        requests = (ap (λ x. map request_by x.items) q8 ∙ nothing request_by old.desk.waiting.items g2.0) i;
        askers = (ap (λ x. map asker_by x.items) q8 ∙ nothing asker_by old.desk.waiting.items g2.0) i;
        acknowledgments = map (refusal_by (moved w H a)) (q9 i);
        news = (q10 ∙ none_untold old.news g4.1) i;
        missed = q7 i;
        lane = (q12
            ∙ (λ i. (let l : LaneRecord = record { current = none_is (opened (moved w H a)) old.lane.current t3.0 i; count = 0; next_token = 0; boxes = (h.shown i).lane.boxes } in l))) i;
        incoming = (q15
            ∙ ((λ i. (let m = (h.shown i).hold.moment in let x : IncomingRecord = record { moment = m; clock = later 0 m; called = record { left = 0; whose = 0 }; reception = none_there old.incoming.sessions a w.window w.sessions a g3.0 most boxes i } in x))
            ∙ (λ i. (let x : IncomingRecord = record { moment = moment H; clock = later 0 (none_less (moment H) i); called = record { left = zero_less (moment H - 0) i; whose = 0 }; reception = none_of a w.window w.sessions } in x)))) i;
        port = (q16 ∙ ap (λ (v : View). (let q : PortRecord = record { state = moves a v.port.state; next_token = 0 } in q)) h.shown) i;
        hearing = (q18 (nothing (λ b. message_by (in_box b)) old.hearing.whole.items g4.0) ∙ ap (λ (v : View). (let x : HearingRecord = record { listening = record { current = []; waits = [] }; boxes = v.hearing.boxes; missed = 0 } in x)) h.shown) i;
        broadcast_senders = (ap (λ v. map (λ b. (in_box b).name) v.items) q20 ∙ nothing (λ b. (in_box b).name) old.hearing.whole.items g4.0) i;
      };
      answered = (moves_from w H old a h q17, tt);
      holders = subst (λ t. Knows t (told_claims w H)) (sym q11) h.holders;
    }
