-- Which frame others exchange makes no difference to any answer, whatever comes later.
use Rattle.j39_node.proofs.Common.{all_replies, events, [], accepted, Acknowledge, acknowledged, acknowledgment, Address, address_after, AddressLost, Again, age, all_replies, and-false, announces, another_news, AnotherAtAddress, ap, AreAnswered, arith, Ask, ask_end, Asked, asked, AskEnding, At, blank, Bool, Broadcast, broadcast_end, broadcast_from, broadcasts, by, Call, called, called_for, Calling, calls_for_claim, calls_whom, can_ask, can_broadcast, can_send, can_transfer, claim_address, claim_from, claim_of, claimed, claimed_again, clock, comes, control_of, delayed, destination_of, double, doubled_news, drop, due, end_at, end_of, ended, Ending, events, false, false_from_ne_true, first, found_in, FrameRecord, fresh, got, handed, has_token, Hear, heard_at, hears_in, held_then, holder, holds, if_heard, if◌then◌else◌, is_acknowledgment, is_another, is_any, is_apart, is_asking, is_claim, is_coming, is_for_program, is_held, is_left, is_lost, is_message, is_open, is_packet, is_refusal_due, is_reply, is_session, is_smaller, is_that, is_there, is_transfer, is_unheard_in, IsAnswered, IsAside, kept, later, latest, leaves, length, List, Listening, listening, Lost, lost_news, made, made_in, made_in_sessions, made_of, marks, max, may_go, Message, message_from, message_of, MessageRecord, MessagesMissed, missed_news, moment, NameDoubled, nat_eq, nat_le, nat_lt, news_of, None, not, of_other, Ok, older, open_ask, open_broadcast, OpenBroadcast, Option, option_map, option_or, or-false, over_by, owes_claim, packet_by, packets, packs, past, patience, pause, pgn_of, ps_of, Question, question, reached, Ready, reception, refl, ReleaseBroadcast, ReleaseTransfer, Renew, replies_of, request_for, requests, Send, SessionsRecord, silent_end, slice_get, slice_set, Some, source_of, stamped, staying, step, subst, suc, sym, TakeAskEnded, TakeBroadcastEnded, TakeEnded, TakeFrame, taken_whom, TakeNews, TakeReceived, TakeRequest, takes_in, TakeTransferEnded, those_over, Tick, time_heard, told, Transfer, transfers, transport_control_group, true, turn_frame, turn_of, turns, unheard_news, wait, waned, Who, with_refusal, with_request, Withdraw, yields, ℕ, ◌&&◌, ◌*◌, ◌++◌, ◌+◌, ◌-◌, ◌||◌, ◌↔◌, ◌∙◌, ◌∷◌, ◌≡◌, ◌≢◌, transfers_at, TransfersRecord, carried_by, said, order, is_tried, Err, is_move, clock_at, taken_events, tried_events, transfer_events}
use Rattle.j39_transport.specs.Frames as frames
use Rattle.j39_transport.proofs.FrameFacts.{announcement_facts}
use Rattle.j39_node.proofs.AnswerCases.{answer_by}
use Rattle.j39_node.proofs.HearingLaws as hearing_laws
use Rattle.j39_node.proofs.ListenLemmas.{unequal, unheard_by_kind}
use Rattle.j39_node.proofs.PacketsAnswer.{packs_to_all}
use Rattle.j39_node.proofs.ReceptionLaws.{to_others}
use Rattle.j39_node.proofs.PacketLemmas.{goes_there}
use Rattle.j39_sessions.specs.Sessions.{releases, ticks as sessions_tick}
use Rattle.j39_node.proofs.RequestStrangers.{to_another}
use Rattle.j39_node.proofs.CallLemmas.{transfers_heard}
use Rattle.j39_transfers.specs.Events.{after as transfers_after, Begins}
use Rattle.j39_transfers.specs.Transfers.{answer as transfers_answer, awake, begins as transfers_begin, hears as transfers_hear, leaves as transfers_leave, loses as transfers_lose, sends as transfers_send, tells as transfers_tell, told as ended_told}
use Rattle.std.specs.Result.{is_ok}
use Rattle.j39_node.proofs.StrangerLaws.{open_stays}
use Rattle.j39_node.proofs.ReceptionLemmas.{taken_from, taken_in, taken_is_from, unclaimed_known}
use Rattle.j39_node.proofs.PromptLaws.{answered_from as before}

-- ---- all that an answer hangs on

record State : Type 0 where
  pub moment : ℕ
  pub address : Address
  pub owes : Bool
  pub turns : ℕ
  pub yields : Bool
  pub patience : ℕ
  pub delay : ℕ
  pub accepted : List (ℕ × Message)
  pub reached : ℕ
  pub marks : List Bool
  pub told : List (ℕ × Ending)
  pub broadcasts : List MessageRecord
  pub broadcast : Option (ℕ × MessageRecord)
  pub packets : List Message
  pub pause : ℕ
  pub kept : List (ℕ × Message)
  pub got : List (ℕ × Message)
  pub requests : List Asked
  pub handed : List Asked
  pub due : List Message
  pub acknowledged : List Message
  pub lost : Bool
  pub another : Bool
  pub doubled : Option ℕ
  pub missed : Bool
  pub unheard : Bool
  pub heard_at : ℕ
  pub time : ℕ
  pub holder : ℕ → Option ℕ
  pub called : Calling
  pub reception : SessionsRecord
  pub hearing : Listening
  pub ask : Option Question
  pub wait : ℕ
  pub ended : Option AskEnding
  pub age : ℕ
  pub port : TransfersRecord
  pub transfers : List (ℕ × MessageRecord)

abbrev state : Who → List Call → State
state w H = record {
  moment = moment H;
  address = address_after w H;
  owes = owes_claim w H;
  turns = turns H;
  yields = yields w H;
  patience = patience w H;
  delay = delayed w H;
  accepted = accepted w H;
  reached = reached H;
  marks = marks H;
  told = told H;
  broadcasts = broadcasts w H;
  broadcast = open_broadcast w H;
  packets = packets H;
  pause = pause H;
  kept = kept w H;
  got = got H;
  requests = requests w H;
  handed = handed H;
  due = due w H;
  acknowledged = acknowledged H;
  lost = lost_news w H;
  another = another_news w H;
  doubled = doubled_news w H;
  missed = missed_news w H;
  unheard = unheard_news w H;
  heard_at = heard_at H;
  time = time_heard H;
  holder = holder w H;
  called = called w H;
  reception = reception w H;
  hearing = listening w H;
  ask = open_ask H;
  wait = wait H;
  ended = ended w H;
  age = age w H;
  port = transfers_at w H;
  transfers = transfers w H;
}

-- ---- what a call makes of it

abbrev passes : ℕ → State → State
passes now s = record s {
  moment = now;
  address = older (now - s.moment) s.address;
  patience = s.patience - (now - s.moment);
  delay = s.delay - (now - s.moment);
  pause = s.pause - (now - s.moment);
  wait = s.wait - (now - s.moment);
  age = s.age + (now - s.moment);
}

-- an answer is coming
abbrev comes_at : ℕ → State → Bool
comes_at time s = is_coming time s.ask s.reception.sessions s.hearing.current

-- the address is lost or held, the time, who holds what, the broadcasts that end, and those that are found
abbrev hears_with : Who → ℕ → FrameRecord → Address → Bool → ℕ → (ℕ → Option ℕ) → List OpenBroadcast → Listening → SessionsRecord → State → State
hears_with w when f a held time holds ends found r s = record (passes when s) {
  address = a;
  owes = s.owes || (calls_for_claim w (is_lost s.address) f || (is_another w held f && nat_eq (s.patience - (when - s.moment)) 0));
  patience = if is_another w held f && nat_eq (s.patience - (when - s.moment)) 0 then 5000000 else s.patience - (when - s.moment);
  delay = if (calls_for_claim w (is_lost s.address) f || (is_another w held f && nat_eq (s.patience - (when - s.moment)) 0)) && not (is_lost s.address && s.owes)
      then w.delay * 600 else s.delay - (when - s.moment);
  kept = if is_for_program w held f && nat_lt (length s.kept - length s.got) 16 then s.kept ++ (f.stamp, message_of f) ∷ [] else s.kept;
  requests = with_request w (nat_lt (length s.requests - length s.handed) 16) (fresh w (drop (length s.handed) s.requests) (asked w held f)) s.requests;
  due = with_refusal w (nat_lt (length s.requests - length s.handed) 16)
      (nat_lt (length s.due - length s.acknowledged) 16
      && not (is_refusal_due w (drop (length s.acknowledged) s.due) (fresh w (drop (length s.handed) s.requests) (asked w held f))))
      (fresh w (drop (length s.handed) s.requests) (asked w held f)) s.due;
  lost = s.lost || (is_smaller w (claim_of f) && not (is_lost s.address));
  another = s.another || is_another w held f;
  doubled = option_or (double w (claim_of f)) s.doubled;
  missed = s.missed || (is_for_program w held f && not (nat_lt (length s.kept - length s.got) 16));
  unheard = (is_any ends || is_unheard_in w.boxes w f found) || s.unheard;
  heard_at = when;
  time = time;
  called = called_for 1250000 (calls_whom s.holder f (claim_of f)) (waned (when - s.heard_at) s.called);
  holder = holds;
  reception = takes_in (is_smaller w (claim_of f)) held time (holds (source_of f.id)) f r;
  hearing = hears_in w.boxes w (holds (source_of f.id)) time f found;
  ended =
      first s.ended
      (end_at w s.ask (s.reached) (s.wait - (when - s.moment)) (comes_at time s) (is_lost a) f
      (option_or (made_of (if_heard (is_smaller w (claim_of f)) held (made_in_sessions time f r)))
      (made_of (option_map (λ (x : ℕ × MessageRecord). x.1) (made_in w.boxes w (holds (source_of f.id)) time f found)))));
  port = if is_lost a then transfers_lose (clock (s.age + (when - s.moment))) s.port
      else transfers_hear f (clock (s.age + (when - s.moment))) (transfers_leave None holds (clock (s.age + (when - s.moment))) s.port);
}

abbrev heard : Who → ℕ → FrameRecord → State → State
heard w when f s =
    let holds : ℕ → Option ℕ = λ b. held_then b (of_other w (claim_of f)) (s.holder b) in
    let gone : Option ℕ = claimed_again s.holder (waned (when - s.heard_at) s.called) (claim_of f) in
    hears_with w when f (if is_smaller w (claim_of f) then Lost else older (when - s.moment) s.address) (is_held (older (when - s.moment) s.address))
    (later s.time (when - s.heard_at)) holds (those_over gone holds (later s.time (when - s.heard_at)) s.hearing.current)
    (staying gone holds (later s.time (when - s.heard_at)) s.hearing) (leaves gone holds s.reception) s

abbrev takes_with : ℕ → FrameRecord → (ℕ → Option ℕ) → State → State
takes_with now f holds s = record (passes now s) {
  address = if is_claim f then claimed (older (now - s.moment) s.address) else older (now - s.moment) s.address;
  owes = if is_claim f then false else s.owes;
  turns = if is_claim f || is_acknowledgment f then suc s.turns else 0;
  yields = if is_claim f || is_acknowledgment f then s.yields else is_reply (replies_of s.reception) f;
  reached = if is_claim f || (is_acknowledgment f || is_session f) then s.reached else past s.marks (suc s.reached);
  packets = if is_packet f then s.packets ++ message_of f ∷ [] else s.packets;
  pause = if is_packet f then 150000 else s.pause - (now - s.moment);
  acknowledged = if is_claim f || not (is_acknowledgment f) then s.acknowledged else s.acknowledged ++ message_of f ∷ [];
  wait = if is_message f && has_token s.ask (s.reached) then 1250000 else s.wait - (now - s.moment);
  called = called_for (1250000 + (now - s.heard_at)) (taken_whom (is_claim f) (is_message f) f) s.called;
  holder = holds;
  reception = taken_from (is_claim f) (is_reply (replies_of s.reception) f) holds s.reception;
  unheard = (is_any (if is_claim f then those_over None holds s.time s.hearing.current else []) || false) || s.unheard;
  hearing = if is_claim f then staying None holds s.time s.hearing else s.hearing;
  port = if is_claim f then transfers_leave None holds (clock (s.age + (now - s.moment))) s.port
      else if is_transfer f && not (is_that (message_of f) (slice_get (replies_of s.reception) 0)) then transfers_send (clock (s.age + (now - s.moment))) s.port else s.port;
}

abbrev next : Who → Call → State → State
next w (At when (Hear f)) s = heard w when f s
next w (At now Again) s = record (passes now s) { address = Rattle.j39_node.specs.History.unclaimed (older (now - s.moment) s.address); owes = true; delay = w.delay * 600 }
next w (At now Tick) s = record (passes now s) {
  heard_at = now;
  called = waned (now - s.heard_at) s.called;
  time = later s.time (now - s.heard_at);
  reception = sessions_tick (later s.time (now - s.heard_at)) s.reception;
  unheard = (is_any (those_over None s.holder (later s.time (now - s.heard_at)) s.hearing.current) || false) || s.unheard;
  hearing = staying None s.holder (later s.time (now - s.heard_at)) s.hearing;
}
next w (At now (TakeFrame (Some f))) s = takes_with now f (λ b. if is_claim f then held_then b (claim_of f) (s.holder b) else s.holder b) s
next w (At now (Send d (Ok k))) s = record (passes now s) { accepted = s.accepted ++ (k, message_from w d) ∷ []; marks = s.marks ++ false ∷ [] }
next w (At now (Ask group to (Ok k))) s = record (passes now s) {
  accepted = s.accepted ++ (k, message_from w (request_for group to)) ∷ [];
  marks = s.marks ++ false ∷ [];
  ask = Some (question k group to);
  ended = None;
}
next w (At now (Acknowledge r a (Ok x))) s = record (passes now s) { due = s.due ++ acknowledgment w a r ∷ [] }
next w (At now (Broadcast group bytes (Ok k))) s = record (passes now s) {
  broadcasts = s.broadcasts ++ broadcast_from w group bytes ∷ [];
  broadcast = Some (k, broadcast_from w group bytes);
  packets = [];
  pause = max 100000 (s.pause - (now - s.moment));
}
next w (At now (Transfer priority group to bytes answer)) s = record (passes now s) {
  transfers = if is_ok answer then s.transfers ++ (to, broadcast_from w group bytes) ∷ [] else s.transfers;
  port = if is_tried answer (nat_eq (length s.transfers) 18446744073709551615)
      then transfers_begin (order (length s.transfers) priority group to bytes) (s.holder to) (clock (s.age + (now - s.moment))) s.port else s.port;
}
next w (Withdraw k true) s = record s {
  accepted = slice_set s.accepted k (k, blank);
  marks = slice_set s.marks k true;
  reached = past (slice_set s.marks k true) s.reached;
}
next w (Renew d (Some k)) s = record s { accepted = slice_set s.accepted k (k, message_from w d) }
next w (TakeEnded (Some x)) s = record s { told = s.told ++ x ∷ [] }
next w (TakeReceived (Some x)) s = record s { got = s.got ++ x ∷ [] }
next w (TakeRequest (Some r)) s = record s { handed = s.handed ++ r ∷ [] }
next w (TakeNews (Some AddressLost)) s = record s { lost = false }
next w (TakeNews (Some AnotherAtAddress)) s = record s { another = false }
next w (TakeNews (Some (NameDoubled a))) s = record s { doubled = None }
next w (TakeNews (Some MessagesMissed)) s = record s { missed = false; unheard = false }
next w (TakeBroadcastEnded (Some x)) s = record s { broadcast = None }
next w (TakeTransferEnded (Some x)) s = record s { port = transfers_tell s.port }
next w (TakeAskEnded (Some x)) s = record s { ask = None }
next w (ReleaseTransfer true) s = record s { reception = releases s.reception }
next w (ReleaseBroadcast true) s = record s { hearing = record { current = s.hearing.current; waits = drop 1 s.hearing.waits } }
next w (At now act) s = passes now s
next w call s = s

transfers_took : (w : Who) (H : List Call) (now : ℕ) (b m : Bool) (who : ℕ → Option ℕ) → transfers_after 0 w.transfers (taken_events b m (clock_at w H now) who (transfer_events w H))
    ≡ (if b then transfers_leave None who (clock_at w H now) (transfers_at w H) else if m then transfers_send (clock_at w H now) (transfers_at w H) else transfers_at w H)
transfers_took w H now true m who = refl
transfers_took w H now false true who = refl
transfers_took w H now false false who = refl

transfers_try : (w : Who) (H : List Call) (now priority group to : ℕ) (bytes : List ℕ) (b : Bool)
    → transfers_after 0 w.transfers (tried_events b (Begins (order (length (transfers w H)) priority group to bytes) (holder w H to) (clock_at w H now)) (transfer_events w H))
    ≡ (if b then transfers_begin (order (length (transfers w H)) priority group to bytes) (holder w H to) (clock_at w H now) (transfers_at w H) else transfers_at w H)
transfers_try w H now priority group to bytes true = refl
transfers_try w H now priority group to bytes false = refl

state_is : (w : Who) (call : Call) (H : List Call) → state w (call ∷ H) ≡ next w call (state w H)
state_is w (At now (TakeFrame None)) H = refl
state_is w (At now (Send d (Ok k))) H = refl
state_is w (At now (Ask group to (Ok k))) H = refl
state_is w (At now (Acknowledge r a (Ok x))) H = refl
state_is w (At now (Broadcast group bytes (Ok k))) H = refl
state_is w (At now (Transfer priority group to bytes (Ok k))) H = λ i. record (next w (At now (Transfer priority group to bytes (Ok k))) (state w H)) {
  port = transfers_try w H now priority group to bytes (is_tried (Ok k) (nat_eq (length (transfers w H)) 18446744073709551615)) i;
}
state_is w (At now (Transfer priority group to bytes (Err x))) H = λ i. record (next w (At now (Transfer priority group to bytes (Err x))) (state w H)) {
  port = transfers_try w H now priority group to bytes (is_tried (Err x) (nat_eq (length (transfers w H)) 18446744073709551615)) i;
}
state_is w (Withdraw k false) H = refl
state_is w (Renew d None) H = refl
state_is w (TakeEnded None) H = refl
state_is w (TakeReceived None) H = refl
state_is w (TakeRequest None) H = refl
state_is w (TakeNews None) H = refl
state_is w (TakeNews (Some AddressLost)) H = refl
state_is w (TakeNews (Some AnotherAtAddress)) H = refl
state_is w (TakeNews (Some (NameDoubled a))) H = refl
state_is w (TakeBroadcastEnded None) H = refl
state_is w (TakeTransferEnded None) H = refl
state_is w (TakeAskEnded None) H = refl
state_is w (ReleaseBroadcast false) H = refl
state_is w (At when (Hear f)) H = λ i. record (next w (At when (Hear f)) (state w H)) {
  reception = sym (taken_in w H when f (is_smaller w (claim_of f)) (holds w H when)) i;
  port = sym (transfers_heard w H (is_lost (address_after w (At when (Hear f) ∷ H))) (clock_at w H when) (holder w (At when (Hear f) ∷ H)) f) i;
}
state_is w (At now (TakeFrame (Some f))) H = λ i. record (next w (At now (TakeFrame (Some f))) (state w H)) {
  reception = taken_is_from w (events w H) (holder w (At now (TakeFrame (Some f)) ∷ H)) (is_claim f) (is_reply (all_replies w H) f) i;
  port = transfers_took w H now (is_claim f) (is_move w H f) (holder w (At now (TakeFrame (Some f)) ∷ H)) i;
}
state_is w (ReleaseTransfer false) H = refl
state_is w call H = refl

-- ---- the answers hang on nothing else

abbrev holds_at : State → ℕ → Bool
holds_at s now = is_held (older (now - s.moment) s.address)

abbrev frame_by : Who → State → ℕ → Option (ℕ × Message)
frame_by w s now =
    let left = s.pause - (now - s.moment) in
    let transfer = option_map carried_by (said (clock (s.age + (now - s.moment))) s.port) in
    let due : Ready = record {
      overdue = is_left s.broadcast (length s.packets) && nat_eq left 0;
      reply = nat_lt 0 (length (replies_of s.reception));
      message = nat_lt (s.reached) (length s.accepted);
      packet = is_left s.broadcast (length s.packets) && nat_le left 100000;
      transfer = is_apart transfer (slice_get (replies_of s.reception) 0);
    } in
    let others = turn_frame (turn_of s.yields due) (slice_get (replies_of s.reception) 0) (slice_get s.accepted (s.reached))
    (packet_by s.broadcast (length s.packets) left) transfer in
    let gives = nat_le 2 s.turns && is_there (if holds_at s now then others else None) in
    if (s.owes && (not (is_lost s.address) || nat_eq (s.delay - (now - s.moment)) 0)) && not gives then Some (now, claim_from w (claim_address w s.address))
    else if holds_at s now
    then option_map (λ m. (now, m)) (control_of (if gives then None else slice_get s.due (length s.acknowledged)) others)
    else None

abbrev full_by : State → Bool
full_by s = nat_eq (length s.accepted - length s.told) 16 || nat_eq (length s.accepted) 18446744073709551615

abbrev Answers : Who → State → Call → Type 0
Answers w s (At now (TakeFrame answer)) = option_map stamped answer ≡ frame_by w s now
Answers w s (At now (Send d answer)) = answer ≡ answer_by (holds_at s now) (can_send w d) (full_by s) (length s.accepted)
Answers w s (Renew d answer) = answer ≡ (if can_send w d then latest (message_from w d) (max (s.reached) (length s.told)) 0 s.accepted None else None)
Answers w s (Withdraw k answer) = answer ≡ (not (is_lost s.address) && (nat_le s.reached k && may_go (slice_get s.accepted k)))
Answers w s (TakeEnded answer) = answer ≡ end_of (nat_lt (length s.told) (s.reached)) (is_lost s.address) (slice_get s.accepted (length s.told))
Answers w s (TakeReceived answer) = answer ≡ slice_get s.kept (length s.got)
Answers w s (TakeRequest answer) = answer ≡ slice_get s.requests (length s.handed)
Answers w s (TakeNews answer) = answer ≡ news_of s.lost s.another s.doubled (s.missed || s.unheard)
Answers w s (At now (Acknowledge r answer result)) =
    result ≡ answer_by (holds_at s now) (nat_eq r.destination w.address) (nat_eq (length s.due - length s.acknowledged) 16) tt
Answers w s (At now (Broadcast group bytes answer)) =
    answer ≡ answer_by (holds_at s now) (can_broadcast group bytes) (nat_eq w.transfers 0 || (is_open s.broadcast || nat_eq (length s.broadcasts) 18446744073709551615)) (length s.broadcasts)
Answers w s (TakeBroadcastEnded answer) = answer ≡ broadcast_end s.broadcast (length s.packets) (is_lost s.address)
Answers w s (ReleaseTransfer answer) = answer ≡ nat_lt 0 (length s.reception.waits)
Answers w s (At now (Transfer priority group to bytes answer)) =
    answer ≡ answer_by (holds_at s now) (can_transfer w priority group to bytes)
    (nat_eq (length s.transfers) 18446744073709551615 || not (is_ok (transfers_answer (order (length s.transfers) priority group to bytes) (awake (clock (s.age + (now - s.moment))) s.port)))) (length s.transfers)
Answers w s (TakeTransferEnded answer) = answer ≡ ended_told s.port
Answers w s (At now (Ask group to answer)) = answer ≡ answer_by (holds_at s now) (can_ask w group to) (full_by s || is_asking s.ask) (length s.accepted)
Answers w s (TakeAskEnded answer) = answer ≡ ask_end s.ask (s.reached) s.ended s.wait (comes_at s.time s) (is_lost s.address)
Answers w s (ReleaseBroadcast answer) = answer ≡ nat_lt 0 (length s.hearing.waits)
Answers w s call = Unit {0}

answered : (w : Who) (H : List Call) (call : Call) → IsAnswered w H call → Answers w (state w H) call
answered w H (At now (TakeFrame a)) h = h
answered w H call h = h

answers : (w : Who) (H : List Call) (call : Call) → Answers w (state w H) call → IsAnswered w H call
answers w H (At now (TakeFrame a)) h = h
answers w H call h = h

-- ---- so what is the same now stays the same

same_on : (w : Who) (later A B : List Call) → state w A ≡ state w B → state w (later ++ A) ≡ state w (later ++ B)
same_on w [] A B e = e
same_on w (call ∷ later) A B e = state_is w call (later ++ A) ∙ (ap (next w call) (same_on w later A B e) ∙ sym (state_is w call (later ++ B)))

pub same_answers : (w : Who) (later A B : List Call) → state w A ≡ state w B → (AreAnswered w A → AreAnswered w B) → AreAnswered w (later ++ A)
    → AreAnswered w (later ++ B)
same_answers w [] A B e first h = first h
same_answers w (call ∷ later) A B e first h = (
  same_answers w later A B e first h.0,
  answers w (later ++ B) call (subst (λ (s : State). Answers w s call) (same_on w later A B e) (answered w (later ++ A) call h.1)),
)

-- ---- a frame that others exchange

-- time passes, by which a request may end
abbrev silence_of : Option Question → ℕ → ℕ → Bool → Bool → Option AskEnding
silence_of None n left coming lost = None
silence_of (Some q) n left coming lost = silent_end (nat_lt q.token n) left coming lost

abbrev aside : Who → ℕ → State → State
aside w now s = record (passes now s) {
  heard_at = now;
  called = waned (now - s.heard_at) s.called;
  time = later s.time (now - s.heard_at);
  unheard = (is_any (those_over None s.holder (later s.time (now - s.heard_at)) s.hearing.current) || false) || s.unheard;
  hearing = staying None s.holder (later s.time (now - s.heard_at)) s.hearing;
  ended = first s.ended (silence_of s.ask (s.reached) (s.wait - (now - s.moment)) (comes_at (later s.time (now - s.heard_at)) s) (is_lost (older (now - s.moment) s.address)));
}

-- no announcement and no packet to all
announced_to_all : (f : FrameRecord) → announces f ≡ true → destination_of f.id ≡ Some 255
unfolding frames.group_of frames.destination_of
announced_to_all f e =
    let facts = announcement_facts (by (source_of f.id)) f e in
    let group : pgn_of f.id ≡ transport_control_group = facts.pgn in
    let to : ps_of f.id ≡ 255 = facts.destination in
    goes_there f transport_control_group (omega arith) group ∙ ap Some to

module _ (w : Who) (f : FrameRecord) (a : IsAside w f) where
  elsewhere : (b : ℕ) → a.to ≢ b → destination_of f.id ≢ Some b
  elsewhere b n e = n (let z : Some a.to ≡ Some b = sym a.goes ∙ e in cc)

  here : nat_eq a.to w.address ≡ false
  here = unequal a.to w.address a.not_here

  all : nat_eq a.to 255 ≡ false
  all = unequal a.to 255 a.not_all

  unannounced : announces f ≡ false
  unannounced = false_from_ne_true (announces f) (λ e. elsewhere 255 a.not_all (announced_to_all f e))

  unpacked : packs f ≡ false
  unpacked = false_from_ne_true (packs f) (λ e. elsewhere 255 a.not_all (packs_to_all f e))

  uncalled : (lost : Bool) → calls_for_claim w lost f ≡ false
  uncalled lost = let g = a.goes in let c = a.claims in grind (arith, g, c, all, here)

  unwanted : (held : Bool) → is_for_program w held f ≡ false
  unwanted held = let g = a.goes in grind (arith, g, all, here)

  unasked : (held : Bool) → asked w held f ≡ None
  unasked held = let g = a.goes in grind (arith, g, all, here)

  not_mine : (held : Bool) → is_another w held f ≡ false
  not_mine held = ap (λ (b : Bool). held && (b && not (is_claim f))) (unequal (source_of f.id) w.address a.source) ∙ and-false held

  mine : is_smaller w (claim_of f) ≡ false
  mine = ap (is_smaller w) a.claims

  pub aside_is : (H : List Call) (when : ℕ) → AreAnswered w H → state w (At when (Hear f) ∷ H) ≡ aside w when (state w H)
  aside_is H when right =
      λ i. record (state w (At when (Hear f) ∷ H)) {
        address = lives i;
        owes = owes i;
        patience = (ap (λ (b : Bool). if b && nat_eq (patience w H - step H when) 0 then 5000000 else patience w H - step H when) (not_mine held)) i;
        delay = if (uncalled (is_lost (address_after w H)) i || (not_mine held i && nat_eq (patience w H - step H when) 0)) && not (is_lost (address_after w H) && owes_claim w H)
            then w.delay * 600 else delayed w H - step H when;
        kept = (ap (λ (b : Bool). if b && nat_lt (length (kept w H) - length (got H)) 16 then kept w H ++ (f.stamp, message_of f) ∷ [] else kept w H) (unwanted held)) i;
        requests = with_request w (nat_lt (length (requests w H) - length (handed H)) 16) (fresh w (drop (length (handed H)) (requests w H)) (unasked held i)) (requests w H);
        due = with_refusal w (nat_lt (length (requests w H) - length (handed H)) 16)
            (nat_lt (length (due w H) - length (acknowledged H)) 16
            && not (is_refusal_due w (drop (length (acknowledged H)) (due w H)) (fresh w (drop (length (handed H)) (requests w H)) (unasked held i))))
            (fresh w (drop (length (handed H)) (requests w H)) (unasked held i)) (due w H);
        lost = (ap (λ (b : Bool). lost_news w H || (b && not (is_lost (address_after w H)))) mine ∙ or-false (lost_news w H)) i;
        another = (ap (λ (b : Bool). another_news w H || b) (not_mine held) ∙ or-false (another_news w H)) i;
        doubled = option_or (double w (a.claims i)) (doubled_news w H);
        missed = (ap (λ (b : Bool). missed_news w H || (b && not (nat_lt (length (kept w H) - length (got H)) 16))) (unwanted held) ∙ or-false (missed_news w H)) i;
        unheard = unheard i;
        called = quiets i;
        holder = λ b. held_then b (of_other w (a.claims i)) (holder w H b);
        reception = (to_others w H when f mine (λ b x z. unclaimed_known w H when f b a.claims) (elsewhere w.address a.not_here)) i;
        hearing = hearing_laws.strangers w H when f a.claims unannounced unpacked i;
        ended = ends i;
        port = open_stays w H when f right a.claims (elsewhere w.address a.not_here) i;
      }
    where
      held : Bool
      held = holds w H when

      owes : owes_claim w (At when (Hear f) ∷ H) ≡ owes_claim w H
      owes = grind arith

      quiets : called w (At when (Hear f) ∷ H) ≡ waned (when - heard_at H) (called w H)
      quiets = grind arith

      lives : address_after w (At when (Hear f) ∷ H) ≡ older (step H when) (address_after w H)
      lives = ap (λ (b : Bool). if b then Lost else older (step H when) (address_after w H)) mine

      unheard : unheard_news w (At when (Hear f) ∷ H) ≡ (is_any (over_by w H (At when Tick)) || false) || unheard_news w H
      unheard = λ i. (is_any (those_over (claimed_again (holder w H) (waned (when - heard_at H) (called w H)) (a.claims i)) (λ b. held_then b (of_other w (a.claims i)) (holder w H b)) (time_heard (At when Tick ∷ H)) (listening w H).current)
          || unheard_by_kind w f w.boxes (found_in w H when f) false unannounced unpacked i) || unheard_news w H

      silent : (o : Option Question) (n left : ℕ) (coming lost : Bool) → end_at w o n left coming lost f (made w H when f) ≡ silence_of o n left coming lost
      silent o n left coming lost = let k = λ (q : Question). to_another w H when f q a.to a.goes a.not_all a.not_here in grind (arith, k)

      coming : Bool
      coming = comes w H (time_heard (At when (Hear f) ∷ H))

      ends : ended w (At when (Hear f) ∷ H) ≡ first (ended w H) (silence_of (open_ask H) (reached H) (wait H - step H when) coming (is_lost (older (step H when) (address_after w H))))
      ends =
          ap (λ (x : Address). first (ended w H) (end_at w (open_ask H) (reached H) (wait H - step H when) coming (is_lost x) f (made w H when f))) lives
          ∙ ap (first (ended w H)) (silent (open_ask H) (reached H) (wait H - step H when) coming (is_lost (older (step H when) (address_after w H))))

-- ---- so no answer tells which it was

pub timely : (w : Who) (later H : List Call) (when : ℕ) (f : FrameRecord) → IsAside w f → reception w (At when Tick ∷ H) ≡ reception w H → ended w (At when (Hear f) ∷ H) ≡ ended w H
    → (AreAnswered w (later ++ At when (Hear f) ∷ H) ↔ AreAnswered w (later ++ At when Tick ∷ H))
timely w later H when f a quiet none = (
  λ h. same_answers w later (At when (Hear f) ∷ H) (At when Tick ∷ H) (same (before w later (At when (Hear f) ∷ H) h).0) (λ r. r) h,
  λ h. same_answers w later (At when Tick ∷ H) (At when (Hear f) ∷ H) (sym (same (before w later (At when Tick ∷ H) h).0)) (λ r. r) h,
)
  where
    same : AreAnswered w H → state w (At when (Hear f) ∷ H) ≡ state w (At when Tick ∷ H)
    same right =
        (λ i. record (aside_is w f a H when right i) { ended = none i })
        ∙ λ i. record (state w (At when Tick ∷ H)) { reception = sym quiet i }
