-- A call more.
use Rattle.std.proofs.lemmas.Grind.{common_steps}
use Rattle.j39_node.proofs.KindLemmas.{Kind, kind, kind_by, kind_is, single}
use Rattle.j39_node.proofs.SoundLemmas.FrameCase.{claims as claims_first, acknowledges, replies, sends, packs, transfers}
use Rattle.j39_node.proofs.Common.{made_of, whole, MessageRecord, [], accepted, acknowledged, Address, address_after, after, age, all_replies, all_transfers, ap, AreAnswered, arith, Asked, asked, asked_by, asker_by, askers, asked_whom, asking_of, AskRecord, At, at_in, blank, Bool, Call, called, called_for, calls, can_claim, can_send, claim_address, claim_due, claim_from, claim_goes, claim_of, claimed, Claims, claims, clock, clock_at, comes, cond_some, Controller, counted, delayed, Done, Draft, drop, drop-append-le, drop-map, Due, due, end_of, ended, Ending, ending_of, events, false, first, found_by_frame, FrameRecord, fresh, gives_way, got, handed, has_packets, has_token, Hear, heard_at, hearing_after, hearing_of, held_at, Hold, hold_acknowledged, hold_after, hold_asked, hold_claimed, hold_spoken, hold_went, holder, holder_in, holds, if_heard, IfSome, if◌then◌else◌, Incoming, incoming_after, incoming_of, inl, inr, Is, is_apart, is_asking, is_blank, is_busy, is_claim, is_coming, is_for_program, is_full, is_held, is_left, is_lost, is_open, is_served, is_smaller, is_there, is_turn, IsAnswered, IsOthers, kept, Knows, lane_after, lane_of, latest, le-ltb, leaves, leb-true, led, left_at, length, length-drop, length-map, length-set, less, List, Lost, lost, lt-ltb, ltb-false, ltb-true, made_in_sessions, map, map-append, marks, max, may_claim, may_go, Message, message_from, message_of, min, missed_news, moment, more, Move, nat_eq, nat_le, nat_lt, news_after, next_acknowledgment, next_due, next_frame, next_packet, next_renewed, next_transfer, next_transfer_ended, next_turn, next_withdrawn, None, not, nothing, offered, older, Open, open_ask, opened, Option, option_map, other, Outgoing, owes_claim, packet_by, packets, packets_in, passed, past, pause, paused, place_of, port_after, port_of, posted, reached, Ready, ready_in, refl, refusal_by, Renew, Renews, replies_of, Reply, Request, requests, senders, sessions_after, Single, slice_get, slice_get_past, slice_get_within, slice_set, Some, sooner, source_of, stamp_at, stamped, standing_of, stands, step, subst, suc, sym, TakeEnded, TakeFrame, taken_by, taken_whom, those_over, time_heard, told, told_claims, true, turn_frame, turn_of, turns, unclaimed, unclaims, unheard_news, Untold, View, view, wait, Who, who_of, with_called, with_asker, with_reception, with_refusal, with_request, Withdraw, Withdrawn, yields, ℕ, ◌&&◌, ◌++◌, ◌+◌, ◌-◌, ◌<◌, ◌||◌, ◌∙◌, ◌∷◌, ◌≡◌, ◌≤◌, passed_to, later, carried_by, said, soonest, taken_events, transfer_events, transfers_at, is_over, Running, TransfersRecord, TransferEnding, append-nil, has_some, order, Transfer, Result, Refused, Ok, Err, Full, tried_events, heard_events, is_tried, broadcast_from, TakeTransferEnded}
use Rattle.j39_node.specs.Boxes.{how_many, in_box}
use Rattle.j39_node.specs.Is.{leaving}
use Rattle.j39_node.specs.Reception.{is_waiting}
use Rattle.j39_node.specs.Transfers.{packet_in}
use Rattle.j39_node.specs.Is.{hears}
use Rattle.j39_node.specs.declared.turn.Turn.TheVariants.{Packet}
use Rattle.j39_node.proofs.WithdrawLemmas.{past_rest}
use Rattle.j39_node.specs.declared.hold.Standing.TheVariants as standing
use Rattle.j39_node.proofs.AskLemmas.{asking_is, ask_more, takes, token_of, ask_withdrawn}
use Rattle.j39_node.proofs.ReceptionLemmas.{holders_are, taken_in}
use Rattle.j39_sessions.specs.Sessions.{says as sessions_say}
use Rattle.j39_node.proofs.HearingLemmas.{claimed_on, claimed_says, hearing_same, news_same}
use Rattle.j39_node.proofs.QueueLemmas.{length_one_more, length_rest, First, get_at, get_map, get_of_drop, rest_at, mapped_none}
use Rattle.j39_node.proofs.SoundLemmas.{FrameCase, case_goes, next_is, IsTurn, frame_there, packet_there, some_at, turn_is, sound, held_not_lost, holding_not_lost, lost_older, Sound, withdraw_case, acknowledged_is_due, not_there, other_is}
use Rattle.j39_node.proofs.FrameLemmas.{at_now}
use Rattle.j39_node.proofs.PortLemmas.{clock_is}
use Rattle.j39_transfers.specs.Events.{after as transfers_after, Begins, Moves}
use Rattle.j39_transfers.specs.Transfers.{begins as transfers_begin, end_by, ending, hears as transfers_hear, leaves as transfers_leave, loses as transfers_lose, none_of as no_transfers, listed as listed_rests, rest_by, sends as transfers_send, tells as transfers_tell}
use Rattle.j39_transfers.proofs.LawLemmas.{found_passes, others_none}
use Rattle.std.specs.List.{find}
use Rattle.std.specs.Result.{is_ok}
use Rattle.j39_node.proofs.RenewLemmas.{latest_rest, latest_is, set_rest}

-- ---- the hold

less_is : (s : ℕ) (a : Address) → less s (standing_of a) ≡ standing_of (older s a)
less_is s a = grind arith

pub stands_is : (a : Address) → stands (standing_of a) ≡ is_held a
stands_is a = grind arith

pub lost_is : (a : Address) → lost (standing_of a) ≡ is_lost a
lost_is a = grind arith

abbrev pub Passed : Who → List Call → ℕ → Hold → Type 0
Passed w H now k = k ≡ led w H now

saturates : (a s : ℕ) → min (min a 18446744073709551615 + s) 18446744073709551615 ≡ min (a + s) 18446744073709551615
saturates a s = omega arith

pub passed_is : (w : Who) (H : List Call) (now : ℕ) (old new : Hold) → old ≡ hold_after w H → new ≡ passed now old → Passed w H now new
passed_is w H now old new e f =
    f ∙ (ap (passed now) e ∙ λ i. record (led w H now) { standing = less_is (step H now) (address_after w H) i; age = saturates (age w H) (step H now) i })

pub holds_is : (w : Who) (H : List Call) (now : ℕ) (h : Hold) (b : Bool) → Passed w H now h → b ≡ stands h.standing → b ≡ holds w H now
holds_is w H now h b p e = e ∙ (ap stands (ap (λ (k : Hold). k.standing) p) ∙ stands_is (older (step H now) (address_after w H)))

-- led to this moment, and whether the address is held then
pub led_so : (w : Who) (H : List Call) (now : ℕ) (c : Controller) (new : Hold) (b : Bool) → Is w H c → new ≡ passed now c.hold → b ≡ stands new.standing
    → Passed w H now new × (b ≡ holds w H now)
led_so w H now c new b h e f = let p = passed_is w H now c.hold new (ap (λ (v : View). v.hold) h.shown) e in (p, holds_is w H now new b p f)

-- ---- a call by which nobody else holds an address

pub follows : {w : Who} {H : List Call} {old new : Controller} {call : Call} → Is w H old → new.holders ≡ old.holders → IsAnswered w H call
    → told_claims w (call ∷ H) ≡ told_claims w H → view w new ≡ after w (call ∷ H) → Is w (call ∷ H) new
follows {w} {H} {old} {new} h k answer t v =
    record { shown = v; answered = (h.answered, answer); holders = subst (Knows new.holders) (sym t) (subst (λ table. Knows table (told_claims w H)) (sym k) h.holders) }

-- ---- the lane

pub packet_next : (w : Who) (H : List Call) (c : Controller) (now left : ℕ) → Is w H c → left ≡ pause H - step H now
    → packet_by (lane_of (who_of w.brought c.own) c.lane).current c.lane.count left ≡ next_packet w H now
packet_next w H c now left e f = grind (arith, f)

-- ---- a frame is taken

-- what a history says behind a frame of this kind
abbrev framed : Who → List Call → ℕ → FrameRecord → Kind → View
framed w H now f k =
    let G = At now (TakeFrame (Some f)) ∷ H in
    let n = if k.claim || (k.acknowledgment || k.session) then reached H else past (marks H) (suc (reached H)) in
    record (after w G) {
      hold = record (led w H now) {
        standing = standing_of (if k.claim then claimed (older (step H now) (address_after w H)) else older (step H now) (address_after w H));
        owes_claim = if k.claim then false else owes_claim w H;
        turns = min (if k.claim || k.acknowledgment then suc (turns H) else 0) 2;
        yields = if k.claim || k.acknowledgment then yields w H else k.reply;
        pause = if k.packet then 150000 else pause H - step H now;
        wait = if not (k.claim || (k.acknowledgment || k.session)) && has_token (open_ask H) (reached H) then 1250000 else wait H - step H now;
      };
      taken = n - length (told H);
      asking = asked_by (open_ask H) n (ended w H);
      acknowledgments = drop (length (if k.claim || not k.acknowledgment then acknowledged H else acknowledged H ++ message_of f ∷ [])) (due w H);
      lane = record (lane_after w H) { count = length (if k.packet then packets H ++ message_of f ∷ [] else packets H) };
      incoming = record (incoming_after w H) {
        called = called_for (1250000 + (now - heard_at H)) (taken_whom k.claim (not (k.claim || (k.acknowledgment || k.session))) f) (called w H);
        reception = sessions_after w (taken_by k.claim k.reply (holder w G) (events w H));
      };
      port = record (port_after w H) { state = transfers_after 0 w.transfers (taken_events k.claim k.move (clock_at w H now) (holder w G) (transfer_events w H)) };
    }

-- one that is no claim leaves what is heard
frames : {w : Who} {H : List Call} {old new : Controller} {now : ℕ} {f : FrameRecord} (c : FrameCase w H now f) → Is w H old → new.holders ≡ old.holders
    → (kind_by c).claim ≡ false → view w new ≡ record (framed w H now f (kind_by c)) { news = news_after w H; hearing = hearing_after w H }
    → Is w (At now (TakeFrame (Some f)) ∷ H) new
frames {w} {H} {old} {new} {now} {f} c h e n v =
    let is = kind_is w H now f h.answered c in
    let unclaimed : is_claim f ≡ false = ap (λ (k : Kind). k.claim) is ∙ n in
    follows h e (case_goes c) (ap (λ (b : Bool). if b then told_claims w H ++ f ∷ [] else told_claims w H) unclaimed)
    (v ∙ ((λ i. record (framed w H now f (kind_by c)) { news = news_same w H now f unclaimed i; hearing = hearing_same w H now f unclaimed i })
    ∙ sym (ap (framed w H now f) is)))

-- ---- what is received in packets

pub replies_is : (w : Who) (H : List Call) (c : Controller) → Is w H c → replies_of (incoming_of c.incoming).reception ≡ all_replies w H
replies_is w H c h = ap (λ (v : View). replies_of v.incoming.reception) h.shown

replies_length : (w : Who) (H : List Call) (c : Controller) → Is w H c → length (replies_of (incoming_of c.incoming).reception) ≡ length (all_replies w H)
replies_length w H c h = ap length (replies_is w H c h)

told_is : (w : Who) (H : List Call) (now : ℕ) (f : FrameRecord) → is_claim f ≡ true → told_claims w (At now (TakeFrame (Some f)) ∷ H) ≡ told_claims w H ++ f ∷ []
told_is w H now f e = ap (λ (b : Bool). if b then told_claims w H ++ f ∷ [] else told_claims w H) e

-- its own claim is taken
incoming_claimed : (w : Who) (H : List Call) (old : Controller) (now : ℕ) (f : FrameRecord) (a : ℕ) (table : Claims) → Is w H old → a ≡ source_of f.id → kind w H f ≡ single true false
    → Knows table (told_claims w (At now (TakeFrame (Some f)) ∷ H))
    → with_called (called_for (1250000 + (now - (incoming_of old.incoming).moment)) (Some a) (incoming_of old.incoming).called)
    (with_reception (leaves None (holder_in table) (incoming_of old.incoming).reception) (incoming_of old.incoming))
    ≡ incoming_after w (At now (TakeFrame (Some f)) ∷ H)
incoming_claimed w H old now f a table h at is knows =
    (λ i. let x = (h.shown i).incoming in with_called (called_for (1250000 + (now - x.moment)) (Some (at i)) x.called)
    (with_reception (leaves None (holders_are w (At now (TakeFrame (Some f)) ∷ H) table knows i) x.reception) x))
    ∙ sym (ap (λ (k : Kind). (framed w H now f k).incoming) is)

-- a frame is heard
pub incoming_heard : (w : Who) (H : List Call) (old : Controller) (when : ℕ) (f : FrameRecord) (table : Claims) (new : Incoming) (gone held : Bool) → Is w H old
    → Knows table (told_claims w (At when (Hear f) ∷ H)) → gone ≡ is_smaller w (claim_of f) → held ≡ holds w H when
    → incoming_of new ≡ hears gone held when f (holder_in old.holders) (holder_in table) (incoming_of old.incoming)
    → incoming_of new ≡ incoming_after w (At when (Hear f) ∷ H)
incoming_heard w H old when f table new gone held h knows away stays does =
    does
    ∙ ((λ i. hears (away i) (stays i) when f (holders_are w H old.holders h.holders i) (holders_are w (At when (Hear f) ∷ H) table knows i) (h.shown i).incoming)
    ∙ λ i. with_called (called w (At when (Hear f) ∷ H)) (with_reception (taken_in w H when f (is_smaller w (claim_of f)) (holds w H when) i) (passed_to when (incoming_after w H))))

-- and what is whole by it
pub made_heard : (w : Who) (H : List Call) (old : Controller) (when : ℕ) (f : FrameRecord) (table : Claims) (made : Option (ℕ × ℕ)) (gone held : Bool) → Is w H old
    → Knows table (told_claims w (At when (Hear f) ∷ H)) → gone ≡ is_smaller w (claim_of f) → held ≡ holds w H when
    → made ≡ option_map (λ m. (m.source, m.pgn)) (if_heard gone held (made_in_sessions (later (incoming_of old.incoming).clock (when - (incoming_of old.incoming).moment)) f
    (found_by_frame when f (holder_in old.holders) (holder_in table) (incoming_of old.incoming))))
    → made ≡ made_of (whole w H when f)
made_heard w H old when f table made gone held h knows away stays does =
    does
    ∙ ((λ i. let x = (h.shown i).incoming in option_map (λ m. (m.source, m.pgn)) (if_heard (away i) (stays i) (made_in_sessions (later x.clock (when - x.moment)) f
    (found_by_frame when f (holders_are w H old.holders h.holders i) (holders_are w (At when (Hear f) ∷ H) table knows i) x))))
    ∙ source_and_group (whole w H when f))
  where
    source_and_group : (o : Option MessageRecord) → option_map (λ (m : MessageRecord). (let x : ℕ × ℕ = (m.source, m.pgn) in x)) o ≡ made_of o
    source_and_group None = refl
    source_and_group (Some m) = refl

pub transfer_next : (w : Who) (H : List Call) (c : Controller) (now time : ℕ) → Is w H c → time ≡ min (age w H + step H now) 18446744073709551615
    → option_map carried_by (said (clock time) (port_of c.transfers).state) ≡ next_transfer w H now
transfer_next w H c now time e f =
    (λ i. option_map carried_by (said (clock (f i)) (e.shown i).port.state)) ∙ ap (λ (n : ℕ). option_map carried_by (said n (transfers_at w H))) (clock_is (age w H + step H now))

-- ---- a frame is taken

pub none_due : (w : Who) (H : List Call) (c : Controller) → Is w H c → length c.desk.due.items ≡ 0 → slice_get (due w H) (length (acknowledged H)) ≡ None
none_due w H c h e =
    let a = length_rest (refusal_by w) c.desk.due.items (length (acknowledged H)) (due w H) (ap (λ (v : View). v.acknowledgments) h.shown) in
    slice_get_past (due w H) (length (acknowledged H)) (omega (arith, a, e))

-- ---- who gives way

turns_more : (n : ℕ) → min (suc (min n 2)) 2 ≡ min (suc n) 2
turns_more n = omega arith

-- the next reply or message
pub message_next : (w : Who) (H : List Call) (c : Controller) → Is w H c → is_lost (address_after w H) ≡ false
    → option_map posted (slice_get c.outgoing.items c.taken) ≡ slice_get (accepted w H) (reached H)
message_next w H c h l =
    rest_at posted c.outgoing.items (accepted w H) (length (told H)) (reached H) c.taken (ap (λ (v : View). v.outgoing) h.shown) (ap (λ (v : View). v.taken) h.shown) ((sound w H h.answered).in_turn l)

two_turns : (t n : ℕ) → t ≡ min n 2 → nat_le 2 t ≡ nat_le 2 n
two_turns t n e = grind (arith, e)

lt_less : (a t s : ℕ) → t ≤ s → nat_lt (s - t) (a - t) ≡ nat_lt s a
lt_less a t s l = grind arith

-- what is due, and whose turn it is
sent_due : (w : Who) (H : List Call) (c : Controller) → Is w H c → is_lost (address_after w H) ≡ false
    → nat_lt c.taken (length c.outgoing.items) ≡ nat_lt (reached H) (length (accepted w H))
sent_due w H c h e =
    ap (λ (v : View). nat_lt v.taken (length c.outgoing.items)) h.shown
    ∙ (ap (λ (n : ℕ). nat_lt (reached H - length (told H)) n) (length_rest posted c.outgoing.items (length (told H)) (accepted w H) (ap (λ (v : View). v.outgoing) h.shown))
    ∙ lt_less _ _ _ ((sound w H h.answered).in_turn e))

left_next : (w : Who) (H : List Call) (c : Controller) → Is w H c → is_left (lane_of (who_of w.brought c.own) c.lane).current c.lane.count ≡ has_packets w H
left_next w H c h = ap (λ (u : View). is_left (lane_of u.who c.lane).current c.lane.count) h.shown ∙ ap (λ (v : View). is_left v.lane.current v.lane.count) h.shown

pub turn_next : (w : Who) (H : List Call) (c : Controller) (now : ℕ) (k : Hold) → Is w H c → Passed w H now k → holds w H now ≡ true
    → turn_of k.yields (ready_in c k) ≡ next_turn w H now
turn_next w H c now k h p held = λ i. turn_of (p i).yields (let r : Ready = record {
  overdue = left_next w H c h i && nat_eq (p i).pause 0;
  reply = nat_lt 0 (replies_length w H c h i);
  message = sent_due w H c h (holding_not_lost w H now held) i;
  packet = left_next w H c h i && nat_le (p i).pause 100000;
  transfer = is_apart (transfer_next w H c now k.age h (ap (λ (k : Hold). k.age) p) i) (slice_get (replies_is w H c h i) 0);
} in r)

pub gives_is : (w : Who) (H : List Call) (c : Controller) (now : ℕ) (k : Hold) (b : Bool) → Is w H c → Passed w H now k
    → b ≡ (nat_le 2 k.turns && (stands k.standing && is_turn (turn_of k.yields (ready_in c k)))) → b ≡ gives_way w H now
gives_is w H c now k b h p e =
    e ∙ ((λ i. two_turns k.turns (turns H) (ap (λ (k : Hold). k.turns) p) i && (holds_is w H now k (stands k.standing) p refl i && is_turn (turn_of k.yields (ready_in c k))))
    ∙ ap (λ (b : Bool). nat_le 2 (turns H) && b) (go (holds w H now) refl))
  where
    go : (b : Bool) → holds w H now ≡ b → (b && is_turn (turn_of k.yields (ready_in c k))) ≡ is_there (if b then other w H now else None)
    go true i = ap is_turn (turn_next w H c now k h p i) ∙ frame_there w H now
    go false i = refl

claims_is : (w : Who) (H : List Call) (now : ℕ) (k : Hold) → Passed w H now k → can_claim k ≡ claim_due w H now
claims_is w H now k p = λ i. (p i).owes_claim && (not ((ap lost (ap (λ (k : Hold). k.standing) p) ∙ (lost_is _ ∙ lost_older (step H now) (address_after w H))) i) || nat_eq (p i).delay 0)

pub goes_is : (w : Who) (H : List Call) (now : ℕ) (k : Hold) (gives b : Bool) → Passed w H now k → gives ≡ gives_way w H now → (can_claim k && not gives) ≡ b
    → claim_goes w H now ≡ b
goes_is w H now k gives b p g e = sym ((λ i. claims_is w H now k p i && not (g i))) ∙ e

-- no acknowledgment goes, or the first that is due
pub none_acknowledged : (w : Who) (H : List Call) (c : Controller) (now : ℕ) (gives : Bool) → Is w H c → gives ≡ gives_way w H now
    → (not gives && not (nat_eq (length c.desk.due.items) 0)) ≡ false → next_acknowledgment w H now ≡ None
none_acknowledged w H c now true h g e = ap (λ (b : Bool). if b then None else slice_get (due w H) (length (acknowledged H))) (sym g)
none_acknowledged w H c now false h g e =
    ap (λ (b : Bool). if b then None else slice_get (due w H) (length (acknowledged H))) (sym g) ∙ none_due w H c h (none (length c.desk.due.items) e)
  where
    none : (n : ℕ) → not (nat_eq n 0) ≡ false → n ≡ 0
    none n e = grind (arith, e)

pub due_there : (gives : Bool) (n : ℕ) → (not gives && not (nat_eq n 0)) ≡ true → 0 < n
due_there gives n e = grind (arith, e)

pub one_acknowledged : (w : Who) (H : List Call) (now : ℕ) (gives b : Bool) (m : Message) → gives ≡ gives_way w H now → (not gives && b) ≡ true
    → slice_get (due w H) (length (acknowledged H)) ≡ Some m → next_acknowledgment w H now ≡ Some m
one_acknowledged w H now gives b m e f g = grind (arith, e, f, g)

-- the next that isn't withdrawn, of those that aren't told
past_queued : (w : Who) (G : List Call) (items : List Outgoing) (t n : ℕ) → Sound w G → map posted items ≡ drop t (accepted w G)
    → past (map is_blank (map posted items)) n + t ≡ past (marks G) (n + t)
past_queued w G items t n s e =
    (λ i. past (map is_blank (e i)) n + t)
    ∙ (ap (λ bs. past bs n + t) (sym (drop-map is_blank t (accepted w G)) ∙ ap (drop t) (sym s.marked)) ∙ past_rest (marks G) t n)

pub taken : (w : Who) (H : List Call) (old new : Controller) (now : ℕ) (r : Option FrameRecord) (x : Outgoing) (mid : Hold) → Is w H old
    → IsOthers w H now mid
    → turn_of mid.yields (ready_in old mid) ≡ Some Single → slice_get old.outgoing.items old.taken ≡ Some x → option_map stamped r ≡ Some (now, (posted x).1)
    → new ≡ record old { hold = new.hold; taken = new.taken; asking = new.asking; incoming = new.incoming } → new.taken ≡ past (map is_blank (map posted old.outgoing.items)) (suc old.taken) → (request : Bool) (calls : Option ℕ)
    → incoming_of new.incoming ≡ with_called (called_for (1250000 + (now - (incoming_of old.incoming).moment)) calls (incoming_of old.incoming).called) (incoming_of old.incoming)
    → calls ≡ asked_whom (posted x).1
    → asking_of new.asking ≡ option_map (takes x.token) (asking_of old.asking)
    → request ≡ has_token (option_map (λ (y : AskRecord). y.question) (asking_of old.asking)) x.token → new.hold ≡ hold_asked request mid
    → Is w (At now (TakeFrame r) ∷ H) new
taken w H old new now None x mid h o turn g m e d request calls c1 c2 a1 a2 a3 = absurd (cc)
taken w H old new now (Some f) x mid h o turn g m e d request calls c1 c2 a1 a2 a3 =
    let s = sound w H h.answered in
    let t = s.in_turn (holding_not_lost w H now o.held) in
    let i = sym (message_next w H old h (holding_not_lost w H now o.held)) ∙ ap (option_map posted) g in
    let k : stamped f ≡ (now, (posted x).1) = cc in
    let number = s.numbered (reached H) (posted x) i in
    let asks : calls ≡ asked_whom (message_of f) = c2 ∙ ap (λ (y : ℕ × Message). asked_whom y.1) (sym k) in
    let is : request ≡ has_token (open_ask H) (reached H) =
    a2 ∙ ((λ i. has_token (option_map (λ (y : AskRecord). y.question) (h.shown i).asking) (number i)) ∙ ap (λ o. has_token o (reached H)) (token_of (open_ask H) (reached H) (ended w H))) in
    frames (sends (posted x) o.owes o.held (o.none, sym (turn_next w H old now mid h o.passed o.held) ∙ turn) i k) h (ap (λ c. c.holders) e) refl
    (ap (view w) e ∙ λ i. record (h.shown i) {
      hold = (a3 ∙ λ i. hold_asked (is i) (o.passed i)) i;
      taken = (let a = (ap (λ (v : View). v.taken) h.shown) in let b = past_queued w H old.outgoing.items (length (told H)) (suc old.taken) s (ap (λ (v : View). v.outgoing) h.shown) in
          let c = ap (past (marks H)) (let z : suc old.taken + length (told H) ≡ suc (reached H) = omega (arith, a, t) in z) in
          (let z : new.taken ≡ past (marks H) (suc (reached H)) - length (told H) = omega (arith, b, c, d) in z)) i;
      asking = (a1 ∙ (ap (λ (v : View). option_map (takes x.token) v.asking) h.shown ∙ ask_more w H x.token h.answered number)) i;
      incoming = (c1 ∙ λ i. let y = (h.shown i).incoming in with_called (called_for (1250000 + (now - y.moment)) (asks i) y.called) y) i;
    })

pub taken_none : (w : Who) (H : List Call) (old new : Controller) (now : ℕ) → Is w H old
    → IsOthers w H now new.hold
    → turn_of new.hold.yields (ready_in old new.hold) ≡ None → new ≡ record old { hold = new.hold } → Is w (At now (TakeFrame None) ∷ H) new
taken_none w H old new now h o turn e =
    follows h (ap (λ c. c.holders) e) (sym (next_is w H now None None o.owes o.held o.none (other_is w H now None (sym (turn_next w H old now new.hold h o.passed o.held) ∙ turn)))) refl
    (ap (view w) e ∙ λ i. record (h.shown i) { hold = o.passed i })

pub taken_packet : (w : Who) (H : List Call) (old new : Controller) (now : ℕ) (f : FrameRecord) (mid : Hold) → Is w H old
    → IsOthers w H now mid
    → turn_of mid.yields (ready_in old mid) ≡ Some Packet
    → Some (stamped f) ≡ option_map (at_now now) (packet_by (lane_of (who_of w.brought old.own) old.lane).current old.lane.count mid.pause)
    → new ≡ record old { hold = new.hold; lane = new.lane } → new.hold ≡ paused mid → lane_of w new.lane ≡ record (lane_of w old.lane) { count = new.lane.count }
    → new.lane.count ≡ suc old.lane.count → Is w (At now (TakeFrame (Some f)) ∷ H) new
taken_packet w H old new now f mid h o turn m e e0 e1 more =
    go (next_packet w H now) refl (m ∙ ap (option_map (at_now now)) (packet_next w H old now mid.pause h (ap (λ (k : Hold). k.pause) o.passed)))
  where
    go : (o : Option Message) → next_packet w H now ≡ o → Some (stamped f) ≡ option_map (at_now now) o → Is w (At now (TakeFrame (Some f)) ∷ H) new
    go None q i = absurd (cc)
    go (Some y) q i =
        let k : stamped f ≡ (now, y) = cc in
        frames (packs y o.owes o.held (o.none, sym (turn_next w H old now mid h o.passed o.held) ∙ turn) q k) h (ap (λ c. c.holders) e) refl
        (ap (view w) e ∙ λ i. record (h.shown i) {
          hold = (e0 ∙ ap paused o.passed) i;
          lane = (e1 ∙ λ i. record (h.shown i).lane {
            count = (more ∙ (ap (λ (v : View). suc v.lane.count) h.shown ∙ sym (length_one_more (packets H) (message_of f)))) i;
          }) i;
        })

pub taken_transfer : (w : Who) (H : List Call) (old new : Controller) (now : ℕ) (f : FrameRecord) (mid : Hold) → Is w H old
    → IsOthers w H now mid → turn_of mid.yields (ready_in old mid) ≡ Some Move
    → Some (stamped f) ≡ option_map (at_now now) (option_map carried_by (said (clock mid.age) (port_of old.transfers).state))
    → new ≡ record old { hold = new.hold; transfers = new.transfers }
    → (port_of new.transfers).state ≡ transfers_send (clock mid.age) (port_of old.transfers).state → new.transfers.next_token ≡ old.transfers.next_token
    → new.hold ≡ hold_went mid → Is w (At now (TakeFrame (Some f)) ∷ H) new
taken_transfer w H old new now f mid h o turn u e e0 e1 e3 =
    go (next_transfer w H now) refl (u ∙ ap (option_map (at_now now)) (transfer_next w H old now mid.age h (ap (λ (k : Hold). k.age) o.passed)))
  where
    go : (o : Option Message) → next_transfer w H now ≡ o → Some (stamped f) ≡ option_map (at_now now) o → Is w (At now (TakeFrame (Some f)) ∷ H) new
    go None q i = absurd (cc)
    go (Some y) q i =
        let k : stamped f ≡ (now, y) = cc in
        frames (transfers y o.owes o.held (o.none, sym (turn_next w H old now mid h o.passed o.held) ∙ turn) q k) h (ap (λ c. c.holders) e) refl
        (ap (view w) e ∙ λ i. record (h.shown i) {
          hold = (e3 ∙ ap hold_went o.passed) i;
          port = record {
            state = (e0 ∙ ((λ i. transfers_send (clock (o.passed i).age) (h.shown i).port.state) ∙ ap (λ (n : ℕ). transfers_send n (transfers_at w H)) (clock_is (age w H + step H now)))) i;
            next_token = (e1 ∙ ap (λ (v : View). v.port.next_token) h.shown) i;
          };
        })

pub taken_due : (w : Who) (H : List Call) (old new : Controller) (now : ℕ) (r : Option FrameRecord) (x : Due) (mid : Hold) → Is w H old
    → Passed w H now mid → claim_goes w H now ≡ false → holds w H now ≡ true
    → next_acknowledgment w H now ≡ Some (refusal_by w x) → First (refusal_by w) new.desk.due.items x (length (acknowledged H)) (due w H) → option_map stamped r ≡ Some (now, refusal_by w x)
    → new ≡ record old { hold = new.hold; desk = record { waiting = old.desk.waiting; due = new.desk.due } } → new.hold ≡ hold_acknowledged mid → Is w (At now (TakeFrame r) ∷ H) new
taken_due w H old new now None x mid h p owes held next first m e e0 = absurd (cc)
taken_due w H old new now (Some f) x mid h p owes held next first m e e0 =
    let s = sound w H h.answered in
    let k : stamped f ≡ (now, refusal_by w x) = cc in
    let due_now = acknowledged_is_due w H now (refusal_by w x) next in
    frames (acknowledges (refusal_by w x) owes held due_now.0 k due_now.1) h (ap (λ c. c.holders) e) refl
    (ap (view w) e ∙ λ i. record (h.shown i) {
      hold = (e0 ∙ (ap hold_acknowledged p ∙ λ i. record (led w H now) { turns = turns_more (turns H) i })) i;
      acknowledgments = (first.rest ∙ ap (λ (n : ℕ). drop n (due w H)) (sym (length_one_more (acknowledged H) (message_of f)))) i;
    })

reply_there : (c : Controller) (k : Hold) → turn_of k.yields (ready_in c k) ≡ Some Reply → slice_get (replies_of (incoming_of c.incoming).reception) 0 ≡ None → ⊥
reply_there c k e = some_at (replies_of (incoming_of c.incoming).reception) 0 (subst (IsTurn k.yields (ready_in c k)) e (turn_is k.yields (ready_in c k))).0

pub taken_reply : (w : Who) (H : List Call) (old new : Controller) (now : ℕ) (r : Option FrameRecord) (mid : Hold) → Is w H old → IsOthers w H now mid
    → turn_of mid.yields (ready_in old mid) ≡ Some Reply → option_map stamped r ≡ option_map (at_now now) (slice_get (replies_of (incoming_of old.incoming).reception) 0)
    → incoming_of new.incoming ≡ with_reception (sessions_say (incoming_of old.incoming).reception) (incoming_of old.incoming)
    → new ≡ record old { hold = new.hold; incoming = new.incoming } → new.hold ≡ hold_spoken mid
    → Is w (At now (TakeFrame r) ∷ H) new
taken_reply w H old new now None mid h o turn m e0 e e1 =
    absurd (reply_there old mid turn (none_mapped _ m))
  where
    none_mapped : (o : Option Message) → None ≡ option_map (at_now now) o → o ≡ None
    none_mapped None e = refl
    none_mapped (Some x) e = absurd (cc)
taken_reply w H old new now (Some f) mid h o turn m e0 e e1 = go (slice_get (all_replies w H) 0) refl (m ∙ ap (λ (L : List Message). option_map (at_now now) (slice_get L 0)) (replies_is w H old h))
  where
    go : (x : Option Message) → slice_get (all_replies w H) 0 ≡ x → Some (stamped f) ≡ option_map (at_now now) x → Is w (At now (TakeFrame (Some f)) ∷ H) new
    go None at k = absurd (cc)
    go (Some x) at k =
        let j : stamped f ≡ (now, x) = cc in
        frames (replies x o.owes o.held (o.none, sym (turn_next w H old now mid h o.passed o.held) ∙ turn) at j) h (ap (λ c. c.holders) e) refl
        (ap (view w) e ∙ λ i. record (h.shown i) {
          hold = (e1 ∙ ap hold_spoken o.passed) i;
          incoming = (e0 ∙ λ i. with_reception (sessions_say (h.shown i).incoming.reception) (h.shown i).incoming) i;
        })

-- ---- an end is told

pub told_done : (w : Who) (H : List Call) (old new : Controller) (x : Outgoing) (e : Ending) → e ≡ (if is_blank (posted x) then Withdrawn else Done) → Is w H old
    → First posted new.outgoing.items x (length (told H)) (accepted w H) → 0 < old.taken → new.taken + 1 ≡ old.taken
    → new ≡ record old { outgoing = new.outgoing; taken = new.taken } → Is w (TakeEnded (Some (x.token, e)) ∷ H) new
told_done w H old new x e is h f some less u =
    follows h (ap (λ c. c.holders) u)
    (sym (ap (λ (b : Bool). end_of b (is_lost (address_after w H)) (slice_get (accepted w H) (length (told H)))) before
    ∙ (ap (end_of true (is_lost (address_after w H))) f.is ∙ (ending (is_blank (posted x)) ∙ ap (λ (d : Ending). Some (x.token, d)) (sym is))))) refl
    (ap (view w) u ∙ λ i. record (h.shown i) {
      outgoing = (f.rest ∙ ap (λ (n : ℕ). drop n (accepted w H)) (sym (length_one_more (told H) (x.token, e)))) i;
      taken = (let a = (ap (λ (v : View). v.taken) h.shown) in let b = length_one_more (told H) (x.token, e) in (let z : new.taken ≡ reached H - length (told H ++ (x.token, e) ∷ []) = omega (arith, a, b, less) in z)) i;
    })
  where
    before : nat_lt (length (told H)) (reached H) ≡ true
    before = lt-ltb _ _ (let a = (ap (λ (v : View). v.taken) h.shown) in omega (arith, a, some))

    ending : (b : Bool) → ending_of (not b) true x.token ≡ Some (x.token, if b then Withdrawn else Done)
    ending b = grind arith

pub told_withdrawn : (w : Who) (H : List Call) (old new : Controller) (x : Outgoing) → Is w H old
    → First posted new.outgoing.items x (length (told H)) (accepted w H) → old.taken ≡ 0 → lost old.hold.standing ≡ true → new.taken ≡ old.taken
    → new ≡ record old { outgoing = new.outgoing; taken = new.taken } → Is w (TakeEnded (Some (x.token, Withdrawn)) ∷ H) new
told_withdrawn w H old new x h f none is_away same u =
    follows h (ap (λ c. c.holders) u)
    (sym (ap (λ (b : Bool). end_of b (is_lost (address_after w H)) (slice_get (accepted w H) (length (told H)))) before
    ∙ (ap (λ (b : Bool). end_of false b (slice_get (accepted w H) (length (told H)))) away ∙ ap (end_of false true) f.is))) refl
    (ap (view w) u ∙ λ i. record (h.shown i) {
      outgoing = (f.rest ∙ ap (λ (n : ℕ). drop n (accepted w H)) (sym (length_one_more (told H) (x.token, Withdrawn)))) i;
      taken = (let a = (ap (λ (v : View). v.taken) h.shown) in let b = length_one_more (told H) (x.token, Withdrawn) in (let z : new.taken ≡ reached H - length (told H ++ (x.token, Withdrawn) ∷ []) = omega (arith, a, b, none, same) in z)) i;
    })
  where
    before : nat_lt (length (told H)) (reached H) ≡ false
    before = le-ltb _ _ (let a = (ap (λ (v : View). v.taken) h.shown) in omega (arith, a, none))

    away : is_lost (address_after w H) ≡ true
    away = sym (lost_is (address_after w H)) ∙ (sym (ap (λ (v : View). lost v.hold.standing) h.shown) ∙ is_away)

-- ---- a message is accepted, or a request

pub full_is : (w : Who) (H : List Call) (old : Controller) → Is w H old
    → (nat_eq (length old.outgoing.items) 16 || nat_eq old.next_token 18446744073709551615) ≡ is_full w H
full_is w H old h =
    ap (λ (n : ℕ). nat_eq n 16 || nat_eq old.next_token 18446744073709551615) (length_rest posted old.outgoing.items (length (told H)) (accepted w H) (ap (λ (v : View). v.outgoing) h.shown))
    ∙ ap (λ (v : View). nat_eq (length (accepted w H) - length (told H)) 16 || nat_eq v.token 18446744073709551615) h.shown

-- one more waits
pub posted_more : (w : Who) (H : List Call) (c : Controller) → Is w H c → (x : Outgoing) (m : Message) → posted x ≡ (c.next_token, m) → {items : List Outgoing} → items ≡ c.outgoing.items ++ x ∷ []
    → map posted items ≡ drop (length (told H)) (accepted w H ++ (c.next_token, m) ∷ [])
posted_more w H c h x m is e =
    ap (map posted) e ∙ (map-append posted c.outgoing.items (x ∷ []) ∙ ((λ i. (h.shown i).outgoing ++ is i ∷ []) ∙ sym (drop-append-le (length (told H)) (accepted w H) ((c.next_token, m) ∷ []) (sound w H h.answered).within)))

-- ---- a frame is heard

pub heard_standing : (b : Bool) (s : ℕ) (a : Address) → (if b then standing.Lost else standing_of (older s a)) ≡ standing_of (if b then Lost else older s a)
heard_standing b s a = grind arith

-- one more, or none
rest_grows : {T : Type 0} (b : Bool) (L xs : List T) (n : ℕ) (x : T) → n ≤ length L → xs ≡ drop n L → (if b then xs ++ x ∷ [] else xs) ≡ drop n (if b then L ++ x ∷ [] else L)
rest_grows true L xs n x l e = ap (λ ys. ys ++ x ∷ []) e ∙ sym (drop-append-le n L (x ∷ []) l)
rest_grows false L xs n x l e = e

pub kept_rest : {T : Type 0} (wanted : Bool) (K unread : List T) (n : ℕ) (x : T) → n ≤ length K → unread ≡ drop n K
    → offered wanted x unread ≡ drop n (if wanted && nat_lt (length K - n) 16 then K ++ x ∷ [] else K)
kept_rest wanted K unread n x e f = grind (arith, common_steps, e, f)

-- the NAMEs beside them
one_more : {T : Type 0} {U : Type 0} (b : Bool) (xs : List T) (ys : List U) (x : T) (y : U) → length xs ≡ length ys
    → length (if b then xs ++ x ∷ [] else xs) ≡ length (if b then ys ++ y ∷ [] else ys)
one_more true xs ys x y e = let a = length_one_more xs x in let b = length_one_more ys y in omega (arith, a, b, e)
one_more false xs ys x y e = e

pub senders_length : (w : Who) (H : List Call) → length (senders w H) ≡ length (kept w H)
senders_length w [] = refl
senders_length w (At now (Hear f) ∷ H) =
    one_more (is_for_program w (holds w H now) f && nat_lt (length (kept w H) - length (got H)) 16) (senders w H) (kept w H) (holder w H (source_of f.id)) (f.stamp, message_of f) (senders_length w H)
senders_length w (call ∷ H) = senders_length w H

pub senders_rest : (w : Who) (H : List Call) (now : ℕ) (f : FrameRecord) (unread : List (Option ℕ)) (x : Option ℕ) → length (got H) ≤ length (kept w H)
    → unread ≡ drop (length (got H)) (senders w H) → x ≡ holder w H (source_of f.id)
    → offered (is_for_program w (holds w H now) f) x unread ≡ drop (length (got H)) (senders w (At now (Hear f) ∷ H))
senders_rest w H now f unread x l e is =
    ap (λ (y : Option ℕ). offered (is_for_program w (holds w H now) f) y unread) is
    ∙ (kept_rest (is_for_program w (holds w H now) f) (senders w H) unread (length (got H)) (holder w H (source_of f.id)) (rw (senders_length w H) l) e
    ∙ ap (λ (n : ℕ). drop (length (got H)) (if is_for_program w (holds w H now) f && nat_lt (n - length (got H)) 16 then senders w H ++ holder w H (source_of f.id) ∷ [] else senders w H)) (senders_length w H))

pub missed_rest : (wanted : Bool) (K unread : List (ℕ × Message)) (n m c : ℕ) → unread ≡ drop n K → c ≡ min m 18446744073709551615
    → counted wanted unread c ≡ min (if wanted && not (nat_lt (length K - n) 16) then suc m else m) 18446744073709551615
missed_rest wanted K unread n m c e f = grind (arith, common_steps, e, f)

pub request_rest : (w : Who) (room : Bool) (o : Option Asked) (L xs : List Asked) (n : ℕ) → n ≤ length L → xs ≡ drop n L
    → with_request w room o xs ≡ drop n (with_request w room o L)
request_rest w room None L xs n l e = e
request_rest w room (Some r) L xs n l e = rest_grows (is_served w r.group && room) L xs n r l e

-- one that is fresh is the one that was asked
pub asker_stays : (o p : Option Request) (name : Option ℕ) → IfSome p (λ r. o ≡ Some r) → IfSome o (λ r. asker_by r ≡ name) → IfSome p (λ r. asker_by r ≡ name)
asker_stays o None name e f = e
asker_stays o (Some r) name e f = subst (λ (q : Option Request). IfSome q (λ r. asker_by r ≡ name)) e f

-- the NAMEs beside them
one_asker : (w : Who) (room : Bool) (o : Option Asked) (name : Option ℕ) (names : List (Option ℕ)) (L : List Asked) → length names ≡ length L
    → length (with_asker w room o name names) ≡ length (with_request w room o L)
one_asker w room None name names L e = e
one_asker w room (Some r) name names L e = one_more (is_served w r.group && room) names L name r e

pub askers_length : (w : Who) (H : List Call) → length (askers w H) ≡ length (requests w H)
askers_length w [] = refl
askers_length w (At now (Hear f) ∷ H) =
    one_asker w (nat_lt (length (requests w H) - length (handed H)) 16) (fresh w (drop (length (handed H)) (requests w H)) (asked w (holds w H now) f))
    (holder w H (source_of f.id)) (askers w H) (requests w H) (askers_length w H)
askers_length w (call ∷ H) = askers_length w H

pub asker_rest : (w : Who) (room : Bool) (o : Option Asked) (name : Option ℕ) (L xs : List (Option ℕ)) (n : ℕ) → n ≤ length L → xs ≡ drop n L
    → with_asker w room o name xs ≡ drop n (with_asker w room o name L)
asker_rest w room None name L xs n l e = e
asker_rest w room (Some r) name L xs n l e = rest_grows (is_served w r.group && room) L xs n name l e

pub refusal_rest : (w : Who) (room place : Bool) (o : Option Asked) (L xs : List Message) (n : ℕ) → n ≤ length L → xs ≡ drop n L
    → with_refusal w room place o xs ≡ drop n (with_refusal w room place o L)
refusal_rest w room place None L xs n l e = e
refusal_rest w room place (Some r) L xs n l e = rest_grows ((nat_eq r.destination w.address && place) && not (is_served w r.group && room)) L xs n _ l e

pub news_heard : (u v : Untold) (l a b m n o : Bool) → v ≡ record { lost = l; another = u.another || a; doubled = u.doubled; missed = u.missed || (m || o) } → a ≡ b → m ≡ n
    → v ≡ record { lost = l; another = u.another || b; doubled = u.doubled; missed = u.missed || (n || o) }
news_heard u v l a b m n o x f g = x ∙ λ i. record { lost = l; another = u.another || f i; doubled = u.doubled; missed = u.missed || (g i || o) }

-- an answer is coming
pub coming_is : (w : Who) (H : List Call) (c : Controller) (t time : ℕ) → Is w H c → t ≡ time
    → is_coming t (option_map (λ (x : AskRecord). x.question) (asking_of c.asking)) (incoming_of c.incoming).reception.sessions (hearing_of c.hearing).listening.current
    ≡ comes w H time
coming_is w H c t time e f = grind (arith, f)

-- a broadcast broke off, by a tick or its own claim
pub is_broken : (w : Who) (H : List Call) (b c : Bool) (u : Untold) → u ≡ news_after w H → b ≡ c
    → record u { missed = b || u.missed } ≡ record (news_after w H) { missed = missed_news w H || ((c || false) || unheard_news w H) }
is_broken w H b c u e f = grind (arith, e, f)

-- a message that waits is renewed
renewed_more : (w : Who) (H : List Call) (old new : Controller) (d : Draft) (r : Option ℕ) → Is w H old → r ≡ next_renewed w H d
    → map posted new.outgoing.items ≡ drop (length (told H)) (accepted w (Renew d r ∷ H)) → length (accepted w (Renew d r ∷ H)) ≡ length (accepted w H)
    → new ≡ record old { outgoing = new.outgoing } → Is w (Renew d r ∷ H) new
renewed_more w H old new d r h right is long e =
    follows h (ap (λ c. c.holders) e) right refl
    (ap (view w) e ∙ λ i. record (h.shown i) { outgoing = is i; token = (ap (λ (v : View). v.token) h.shown ∙ sym long) i })

pub none_renewed : (w : Who) (H : List Call) (c : Controller) (d : Draft) → Is w H c → None ≡ next_renewed w H d → Is w (Renew d None ∷ H) c
none_renewed w H c d h e = renewed_more w H c c d None h e (ap (λ (v : View). v.outgoing) h.shown) refl refl

-- the last that is alike, of those that wait or aren't told
pub found_is : (w : Who) (H : List Call) (c : Controller) (d : Draft) → Is w H c
    → latest (message_from w d) (max (reached H) (length (told H))) 0 (accepted w H) None
    ≡ option_map (λ k. k + length (told H)) (latest (message_from w d) c.taken 0 (map posted c.outgoing.items) None)
found_is w H c d h =
    latest_rest (message_from w d) (length (told H)) (max (reached H) (length (told H))) (accepted w H) (omega arith)
    ∙ λ i. option_map (λ k. k + length (told H)) (latest (message_from w d) ((let e = (ap (λ (v : View). v.taken) h.shown) in let z : max (reached H) (length (told H)) - length (told H) ≡ c.taken = omega (arith, e) in z) i) 0
    (sym (ap (λ (v : View). v.outgoing) h.shown) i) None)

pub renewal : (w : Who) (H : List Call) (c : Controller) (d : Draft) (x : Outgoing) (t : ℕ) (o : Option ℕ) → Is w H c → can_send w d ≡ true
    → posted x ≡ (t, message_from (who_of w.brought c.own) d) → o ≡ latest (posted x).1 c.taken 0 (map posted c.outgoing.items) None
    → next_renewed w H d ≡ option_map (λ k. k + length (told H)) o
renewal w H c d x t o h can e f =
    ap (λ (b : Bool). if b then latest (message_from w d) (max (reached H) (length (told H))) 0 (accepted w H) None else None) can
    ∙ (found_is w H c d h ∙ ap (option_map (λ k. k + length (told H)))
    (sym (f ∙ ap (λ (m : Message). latest m c.taken 0 (map posted c.outgoing.items) None)
    (ap (λ (y : ℕ × Message). y.1) e ∙ ap (λ (u : View). message_from u.who d) h.shown))))

pub renews : (w : Who) (H : List Call) (old new : Controller) (d : Draft) (x : Outgoing) (t place : ℕ) (r : Option ℕ) → Is w H old → can_send w d ≡ true
    → posted x ≡ (t, message_from (who_of w.brought old.own) d) → Some place ≡ latest (posted x).1 old.taken 0 (map posted old.outgoing.items) None
    → IfSome r (λ token. Renews old.outgoing.items place (posted x) token new.outgoing.items) → (r ≡ None → length old.outgoing.items ≤ place)
    → new ≡ record old { outgoing = new.outgoing } → Is w (Renew d r ∷ H) new
renews w H old new d x t place None h can e f g n u =
    absurd (elim (latest_is (posted x).1 old.taken 0 place (map posted old.outgoing.items) None (sym f)) [
      | inl z ↦ (let y : None ≡ Some place = z in absurd (cc))
      | inr z ↦ (let a = slice_get_within (map posted old.outgoing.items) (place - 0) z.entry z.is in
          let b = length-map old.outgoing.items posted in let l = n refl in omega (arith, a, b, l))
    ])
renews w H old new d x t place (Some k) h can e f g n u =
    let L = accepted w H in
    let T = length (told H) in
    let at : slice_get L (place + T) ≡ Some (posted g.before) =
    sym (get_at L T place (place + T) (omega arith)) ∙ (ap (λ zs. slice_get zs place) (sym (ap (λ (v : View). v.outgoing) h.shown)) ∙ get_map posted old.outgoing.items place g.before g.was) in
    let token : k ≡ place + T = g.same ∙ (sound w H h.answered).numbered (place + T) (posted g.before) at in
    let message : (posted x).1 ≡ message_from w d = ap (λ (y : ℕ × Message). y.1) e ∙ ap (λ (u : View). message_from u.who d) h.shown in
    renewed_more w H old new d (Some k) h
    (ap Some token ∙ sym (renewal w H old d x t (Some place) h can e f))
    (g.renewed ∙ ((λ i. slice_set ((h.shown i).outgoing) place (k, message i))
    ∙ (sym (set_rest T place L (k, message_from w d)) ∙ ap (λ (n : ℕ). drop T (slice_set L n (k, message_from w d))) (sym token))))
    (length-set L k (k, message_from w d)) u

-- a message is withdrawn, or none is
pub none_withdrawn : (w : Who) (H : List Call) (c : Controller) (k : ℕ) → Is w H c → false ≡ next_withdrawn w H k → Is w (Withdraw k false ∷ H) c
none_withdrawn w H c k h e = record { shown = h.shown; answered = (h.answered, e); holders = h.holders }

is_away : (w : Who) (H : List Call) (c : Controller) → Is w H c → lost c.hold.standing ≡ is_lost (address_after w H)
is_away w H c h = ap (λ (v : View). lost v.hold.standing) h.shown ∙ lost_is (address_after w H)

pub lost_keeps : (w : Who) (H : List Call) (c : Controller) (k : ℕ) → Is w H c → lost c.hold.standing ≡ true → Is w (Withdraw k false ∷ H) c
lost_keeps w H c k h e =
    none_withdrawn w H c k h (sym (ap (λ (b : Bool). not b && (nat_le (reached H) k && may_go (slice_get (accepted w H) k))) (sym (is_away w H c h) ∙ e)))

-- where it waits
place_is : (w : Who) (H : List Call) (c : Controller) (k : ℕ) → Is w H c → is_lost (address_after w H) ≡ false
    → place_of c.taken k (map posted c.outgoing.items) ≡ (if next_withdrawn w H k then Some (k - length (told H)) else None)
place_is w H c k h away =
    ap (place_of c.taken k) (ap (λ (v : View). v.outgoing) h.shown) ∙ (go (drop T L) refl ∙ ap (λ (b : Bool). if not b && (nat_le (reached H) k && may_go (slice_get L k)) then Some (k - T) else None) (sym away))
  where
    L : List (ℕ × Message)
    L = accepted w H

    T : ℕ
    T = length (told H)

    s : Sound w H
    s = sound w H h.answered

    t : T ≤ reached H
    t = s.in_turn away

    none_there : (b : Bool) (o : Option (ℕ × Message)) → (b ≡ true → o ≡ None) → (b && may_go o) ≡ false
    none_there b o e = grind (arith, e)

    less : (a b d : ℕ) → d ≤ a → d ≤ b → nat_le (a - d) (b - d) ≡ nat_le a b
    less a b d x y = grind (arith, x, y)

    go : (D : List (ℕ × Message)) → drop T L ≡ D → place_of c.taken k D ≡ (if nat_le (reached H) k && may_go (slice_get L k) then Some (k - T) else None)
    go [] e = sym (ap (λ (b : Bool). if b then Some (k - T) else None) (none_there (nat_le (reached H) k) (slice_get L k)
        (λ z. slice_get_past L k (let a = leb-true _ _ z in let b = ap length e in let d = length-drop T L in omega (arith, a, b, d, t)))))
    go (x ∷ xs) e = by (nat_lt k T) refl
      where
        first : x.0 ≡ T
        first = s.numbered T x (get_of_drop L T x xs (sym e))

        by : (b : Bool) → nat_lt k T ≡ b → place_of c.taken k (x ∷ xs) ≡ (if nat_le (reached H) k && may_go (slice_get L k) then Some (k - T) else None)
        by true l =
            (λ i. if not (nat_lt k (first i)) && (nat_le c.taken (k - x.0) && may_go (slice_get (x ∷ xs) (k - x.0))) then Some (k - x.0) else None)
            ∙ (ap (λ (b : Bool). if not b && (nat_le c.taken (k - x.0) && may_go (slice_get (x ∷ xs) (k - x.0))) then Some (k - x.0) else None) l
            ∙ sym (ap (λ (b : Bool). if b then Some (k - T) else None) (none_there (nat_le (reached H) k) (slice_get L k)
            (λ z. (let a = leb-true _ _ z in let b = ltb-true _ _ l in absurd (omega (arith, a, b, t)))))))
        by false l =
            let d = ltb-false k T l in
            (λ i. if not (nat_lt k (first i)) && (nat_le ((h.shown i).taken) (k - first i) && may_go (slice_get (sym e i) (k - first i))) then Some (k - first i) else None)
            ∙ (λ i. if not (l i) && (less (reached H) k T t d i && may_go (get_at L T (k - T) k (let z : k ≡ T + (k - T) = omega (arith, d) in z) i)) then Some (k - T) else None)

pub none_at_place : (w : Who) (H : List Call) (c : Controller) (k : ℕ) → Is w H c → lost c.hold.standing ≡ false → None ≡ place_of c.taken k (map posted c.outgoing.items)
    → Is w (Withdraw k false ∷ H) c
none_at_place w H c k h l e = none_withdrawn w H c k h (sym (go (next_withdrawn w H k) (e ∙ place_is w H c k h (sym (is_away w H c h) ∙ l))))
  where
    go : (b : Bool) → None ≡ (if b then Some (k - length (told H)) else None) → b ≡ false
    go b e = grind (arith, e)

pub withdraws : (w : Who) (H : List Call) (old new : Controller) (k place : ℕ) (x : Outgoing) (r : Option ℕ) → Is w H old → lost old.hold.standing ≡ false
    → posted x ≡ (0, blank) → Some place ≡ place_of old.taken k (map posted old.outgoing.items)
    → IfSome r (λ token. Renews old.outgoing.items place (posted x) token new.outgoing.items) → (r ≡ None → length old.outgoing.items ≤ place)
    → new.taken ≡ past (map is_blank (map posted new.outgoing.items)) old.taken
    → new ≡ record old { outgoing = new.outgoing; taken = new.taken } → Is w (Withdraw k true ∷ H) new
withdraws w H old new k place x r h l blanked e f g p u =
    let q = cond_some (next_withdrawn w H k) (k - length (told H)) place (sym (e ∙ place_is w H old k h away)) in go r f g (q.0, sym q.1)
  where
    L : List (ℕ × Message)
    L = accepted w H

    T : ℕ
    T = length (told H)

    away : is_lost (address_after w H) ≡ false
    away = sym (is_away w H old h) ∙ l

    s : Sound w H
    s = sound w H h.answered

    go : (r : Option ℕ) → IfSome r (λ token. Renews old.outgoing.items place (posted x) token new.outgoing.items) → (r ≡ None → length old.outgoing.items ≤ place)
        → (next_withdrawn w H k ≡ true) × (place ≡ k - T) → Is w (Withdraw k true ∷ H) new
    go None f g q =
        let c = withdraw_case w H k (sym q.0) in
        let a = slice_get_within L k c.entry c.is in
        let b = length-map old.outgoing.items posted in let d = ap length (ap (λ (v : View). v.outgoing) h.shown) in let i = length-drop T L in
        let m = g refl in let n = q.1 in let t = s.in_turn away in let v = c.from in absurd (omega (arith, a, b, d, i, m, n, t, v))
    go (Some token) f g q =
        let G = Withdraw k true ∷ H in
        let c = withdraw_case w H k (sym q.0) in
        let t = s.in_turn away in
        let n = q.1 in
        let v = c.from in
        let sum : place + T ≡ k = omega (arith, n, t, v) in
        let at : slice_get L (place + T) ≡ Some (posted f.before) =
        sym (get_at L T place (place + T) (omega arith)) ∙ (ap (λ zs. slice_get zs place) (sym (ap (λ (v : View). v.outgoing) h.shown)) ∙ get_map posted old.outgoing.items place f.before f.was) in
        let same : token ≡ k = f.same ∙ (s.numbered (place + T) (posted f.before) at ∙ sum) in
        let out : map posted new.outgoing.items ≡ drop T (accepted w G) =
        f.renewed ∙ ((λ i. slice_set ((h.shown i).outgoing) place (same i, (ap (λ (y : ℕ × Message). y.1) blanked) i))
        ∙ (sym (set_rest T place L (k, blank)) ∙ ap (λ (m : ℕ). drop T (slice_set L m (k, blank))) sum)) in
        let right : AreAnswered w G = (h.answered, sym q.0) in
        follows h (ap (λ c. c.holders) u) (sym q.0) refl
        (ap (view w) u ∙ λ i. record (h.shown i) {
          outgoing = out i;
          taken = (let a = (ap (λ (v : View). v.taken) h.shown) in let b = past_queued w G new.outgoing.items T old.taken (sound w G right) out in
              let d = ap (past (marks G)) (let z : old.taken + T ≡ reached H = omega (arith, a, t) in z) in
              (let z : new.taken ≡ past (marks G) (reached H) - T = omega (arith, b, d, p) in z)) i;
          token = (ap (λ (v : View). v.token) h.shown ∙ sym (length-set L k (k, blank))) i;
          asking = (ap (λ (v : View). v.asking) h.shown ∙ ask_withdrawn w H k right) i;
        })

-- the address is to be claimed anew
pub unclaims_after : (a : Address) → unclaims (standing_of a) ≡ standing_of (unclaimed a)
unclaims_after a = grind arith

-- ---- when something is due

lt_some : (a b : ℕ) → nat_lt 0 (a - b) ≡ nat_lt b a
lt_some a b = grind arith

waits_is : (w : Who) (H : List Call) (c : Controller) → Is w H c → is_held (address_after w H) ≡ true
    → (nat_lt c.taken (length c.outgoing.items) || (nat_lt 0 (length c.desk.due.items) || nat_lt 0 (length (replies_of (incoming_of c.incoming).reception)))) ≡ is_waiting w H
waits_is w H c h e =
    ap (λ (b : Bool). b || (nat_lt 0 (length c.desk.due.items) || nat_lt 0 (length (replies_of (incoming_of c.incoming).reception))))
    (sent_due w H c h (held_not_lost (address_after w H) e))
    ∙ ap (λ (b : Bool). nat_lt (reached H) (length (accepted w H)) || b)
    (ap (λ (b : Bool). b || nat_lt 0 (length (replies_of (incoming_of c.incoming).reception)))
    (ap (nat_lt 0) (length_rest (refusal_by w) c.desk.due.items (length (acknowledged H)) (due w H) (ap (λ (v : View). v.acknowledgments) h.shown)) ∙ lt_some _ _)
    ∙ ap (λ (n : ℕ). nat_lt (length (acknowledged H)) (length (due w H)) || nat_lt 0 n) (replies_length w H c h))

held_and : (a : Bool) (x y : Bool) → (a ≡ true → x ≡ y) → (a && x) ≡ (a && y)
held_and a x y e = grind (arith, e)

pub frame_due : (w : Who) (H : List Call) (c : Controller) → Is w H c
    → (can_claim c.hold || (stands c.hold.standing && (nat_lt c.taken (length c.outgoing.items) || (nat_lt 0 (length c.desk.due.items)
    || nat_lt 0 (length (replies_of (incoming_of c.incoming).reception))))))
    ≡ (may_claim w H (delayed w H) || (is_held (address_after w H) && is_waiting w H))
frame_due w H c h =
    ap (λ (v : View). can_claim v.hold || (stands v.hold.standing && (nat_lt c.taken (length c.outgoing.items) || (nat_lt 0 (length c.desk.due.items) || nat_lt 0 (length (replies_of (incoming_of c.incoming).reception)))))) h.shown
    ∙ (ap (λ (b : Bool). (owes_claim w H && (not (lost (standing_of (address_after w H))) || nat_eq (delayed w H) 0)) || (b && (nat_lt c.taken (length c.outgoing.items) || (nat_lt 0 (length c.desk.due.items) || nat_lt 0 (length (replies_of (incoming_of c.incoming).reception)))))) (stands_is (address_after w H))
    ∙ (ap (λ (b : Bool). (owes_claim w H && (not b || nat_eq (delayed w H) 0)) || (is_held (address_after w H) && (nat_lt c.taken (length c.outgoing.items) || (nat_lt 0 (length c.desk.due.items) || nat_lt 0 (length (replies_of (incoming_of c.incoming).reception)))))) (lost_is (address_after w H))
    ∙ ap (λ (b : Bool). may_claim w H (delayed w H) || b) (held_and (is_held (address_after w H)) _ _ (waits_is w H c h))))

pub held_at_is : (a : Address) (m : ℕ) → left_at (standing_of a) m ≡ held_at a m
held_at_is a m = grind arith

-- in how long a frame of packets can be taken
pub packets_due : (w : Who) (H : List Call) (c : Controller) → Is w H c
    → sooner (packet_in (is_left (lane_of w c.lane).current c.lane.count) c.hold.pause) (soonest (clock c.hold.age) (port_of c.transfers).state.running)
    ≡ packets_in w H
packets_due w H c h =
    (λ i. sooner (packet_in (is_left (h.shown i).lane.current (h.shown i).lane.count) (h.shown i).hold.pause) (soonest (clock (h.shown i).hold.age) (h.shown i).port.state.running))
    ∙ ap (λ (n : ℕ). sooner (packet_in (has_packets w H) (pause H)) (soonest n (transfers_at w H).running)) (clock_is (age w H))

pub held_due : (w : Who) (H : List Call) (c : Controller) (b : Bool) → Is w H c → b ≡ stands c.hold.standing → b ≡ is_held (address_after w H)
held_due w H c b h e = e ∙ (ap (λ (v : View). stands v.hold.standing) h.shown ∙ stands_is (address_after w H))

-- when something is due, by whether a frame can be taken, and whether the address is held
abbrev pub due_by : Who → List Call → Bool → Bool → Option ℕ
due_by w H b l = if b then stamp_at (moment H) else if l then at_in (moment H) (packets_in w H)
    else if owes_claim w H then stamp_at (moment H + delayed w H) else held_at (address_after w H) (moment H)

pub due_is : (w : Who) (H : List Call) (b l : Bool) → b ≡ (may_claim w H (delayed w H) || (is_held (address_after w H) && is_waiting w H))
    → l ≡ is_held (address_after w H) → due_by w H b l ≡ next_due w H
due_is w H b l e f = ap (λ (x : Bool). due_by w H x l) e ∙ ap (due_by w H (may_claim w H (delayed w H) || (is_held (address_after w H) && is_waiting w H))) f

-- ---- a claim is taken

claims_after : (a : Address) → claims (standing_of a) ≡ standing_of (claimed a)
claims_after a = grind arith

claim_told : (w : Who) (H : List Call) (c : Controller) (a : ℕ) → Is w H c → a ≡ (if lost c.hold.standing then 254 else c.own.address)
    → claim_from (who_of w.brought c.own) a ≡ claim_from w (claim_address w (address_after w H))
claim_told w H c a e f = grind (arith, f)

pub claims_more : (w : Who) (H : List Call) (old new : Controller) (now : ℕ) (f : FrameRecord) (mid : Hold) (a : ℕ) → Is w H old → Passed w H now mid
    → claim_goes w H now ≡ true → new.hold ≡ hold_claimed mid
    → Some (stamped f) ≡ Some (now, claim_from (who_of w.brought old.own) a) → a ≡ (if lost old.hold.standing then 254 else old.own.address)
    → ((F : List FrameRecord) → Knows old.holders F → Knows new.holders (F ++ f ∷ []))
    → incoming_of new.incoming ≡ with_called (called_for (1250000 + (now - (incoming_of old.incoming).moment)) (Some a) (incoming_of old.incoming).called)
    (with_reception (leaves None (holder_in new.holders) (incoming_of old.incoming).reception) (incoming_of old.incoming))
    → (broken : Bool) (t : ℕ) → t ≡ time_heard H → broken ≡ nat_lt 0 (length (those_over None (holder_in new.holders) t (hearing_of old.hearing).listening.current))
    → hearing_of new.hearing ≡ leaving None (holder_in new.holders) t (hearing_of old.hearing) → new.hearing.whole ≡ old.hearing.whole
    → new.news ≡ record { lost = old.news.lost; another = old.news.another; doubled = old.news.doubled; missed = broken || old.news.missed }
    → (port_of new.transfers).state ≡ transfers_leave None (holder_in new.holders) (clock mid.age) (port_of old.transfers).state
    → new.transfers.next_token ≡ old.transfers.next_token
    → new ≡ record old { hold = new.hold; holders = new.holders; incoming = new.incoming; transfers = new.transfers; hearing = new.hearing; news = new.news }
    → Is w (At now (TakeFrame (Some f)) ∷ H) new
claims_more w H old new now f mid a h p owes e0 m at knows drops broken t t1 t2 t3 t4 u x1 x2 e =
    let k : stamped f ≡ (now, claim_from (who_of w.brought old.own) a) = cc in
    let j : stamped f ≡ (now, claim_from w (claim_address w (address_after w H))) = k ∙ ap (λ (x : Message). (now, x)) (claim_told w H old a h at) in
    let kind_now = kind_is w H now f h.answered (claims_first owes j) in
    let n = ap (λ (k : Kind). k.claim) kind_now in
    let knows_now : Knows new.holders (told_claims w (At now (TakeFrame (Some f)) ∷ H)) = subst (Knows new.holders) (sym (told_is w H now f n)) (knows (told_claims w H) h.holders) in
    let was = ap (λ (v : View). v.hearing) h.shown in
    record {
      shown = ap (view w) e ∙ ((λ i. record (h.shown i) {
        hold = (e0 ∙ (ap hold_claimed p ∙ λ i. record (led w H now) { standing = claims_after (older (step H now) (address_after w H)) i; owes_claim = false; turns = turns_more (turns H) i })) i;
        news = (u ∙ is_broken w H broken _ old.news (ap (λ (v : View). v.news) h.shown) (claimed_says w H now f new.holders t (hearing_of old.hearing) broken n was knows_now t1 t2)) i;
        hearing = claimed_on w H now f new.holders t (hearing_of old.hearing) (hearing_of new.hearing) n was knows_now t1 t3 i;
        broadcast_senders = (ap (λ v. map (λ b. (in_box b).name) v.items) t4 ∙ ap (λ (v : View). v.broadcast_senders) h.shown) i;
        incoming = (drops ∙ incoming_claimed w H old now f a new.holders h (sym (ap (λ (x : ℕ × Message). x.1.source) k)) kind_now knows_now) i;
        port = record {
          state = (x1 ∙ ((λ i. transfers_leave None (holders_are w (At now (TakeFrame (Some f)) ∷ H) new.holders knows_now i) (clock (p i).age) (h.shown i).port.state)
              ∙ ap (λ (n : ℕ). transfers_leave None (holder w (At now (TakeFrame (Some f)) ∷ H)) n (transfers_at w H)) (clock_is (age w H + step H now)))) i;
          next_token = (x2 ∙ ap (λ (v : View). v.port.next_token) h.shown) i;
        };
      }) ∙ ap (λ (k : Kind). record (framed w H now f k) { incoming = incoming_after w (At now (TakeFrame (Some f)) ∷ H) }) (sym kind_now));
      answered = (h.answered, case_goes {w = w} {H = H} {now = now} {f = f} (claims_first owes j));
      holders = knows_now;
    }

-- ---- which frame would be taken

pub peeks_claim : (w : Who) (H : List Call) (c : Controller) (now a : ℕ) (r : Option FrameRecord) → Is w H c → claim_goes w H now ≡ true
    → option_map stamped r ≡ Some (now, claim_from (who_of w.brought c.own) a) → a ≡ (if lost c.hold.standing then 254 else c.own.address)
    → option_map stamped r ≡ next_frame w H now
peeks_claim w H c now a r e f g i = grind (arith, f, g, i)

pub peeks_none : (w : Who) (H : List Call) (c : Controller) (now : ℕ) → Is w H c → claim_goes w H now ≡ false → holds w H now ≡ false
    → (let none : Option (ℕ × Message) = None in none) ≡ next_frame w H now
peeks_none w H c now e f g = grind (arith, f, g)

pub peeks_due : (w : Who) (H : List Call) (c : Controller) (now : ℕ) (r : Option FrameRecord) (x : Due) → Is w H c → claim_goes w H now ≡ false
    → holds w H now ≡ true → next_acknowledgment w H now ≡ Some (refusal_by w x) → option_map stamped r ≡ Some (now, refusal_by w x)
    → option_map stamped r ≡ next_frame w H now
peeks_due w H c now r x e f g i j = grind (arith, f, g, i, j)

pub first_acknowledged : (w : Who) (H : List Call) (c : Controller) (now : ℕ) (gives : Bool) (o : Option Due) → Is w H c → gives ≡ gives_way w H now
    → o ≡ (if gives then None else slice_get c.desk.due.items 0) → next_acknowledgment w H now ≡ option_map (refusal_by w) o
first_acknowledged w H c now true o h g e = grind (arith, g, e)
first_acknowledged w H c now false o h g e =
    ap (λ (b : Bool). if b then None else slice_get (due w H) (length (acknowledged H))) (sym g)
    ∙ (sym (rest_at (refusal_by w) c.desk.due.items (due w H) (length (acknowledged H)) (length (acknowledged H)) 0 (ap (λ (v : View). v.acknowledgments) h.shown) (omega arith) (omega arith))
    ∙ sym (ap (option_map (refusal_by w)) e))

pub peeks_other : (w : Who) (H : List Call) (c : Controller) (now : ℕ) (k : Hold) (r : Option FrameRecord) → Is w H c → IsOthers w H now k
    → option_map stamped r ≡ option_map (at_now now) (turn_frame (turn_of k.yields (ready_in c k)) (slice_get (replies_of (incoming_of c.incoming).reception) 0)
    (option_map posted (slice_get c.outgoing.items c.taken)) (packet_by (lane_of (who_of w.brought c.own) c.lane).current c.lane.count k.pause)
    (option_map carried_by (said (clock k.age) (port_of c.transfers).state)))
    → option_map stamped r ≡ next_frame w H now
peeks_other w H c now k r h o m =
    m ∙ ((λ i. option_map (at_now now) (turn_frame (turn_next w H c now k h o.passed o.held i) (slice_get (replies_is w H c h i) 0) (message_next w H c h (holding_not_lost w H now o.held) i)
    (packet_next w H c now k.pause h (ap (λ (k : Hold). k.pause) o.passed) i) (transfer_next w H c now k.age h (ap (λ (k : Hold). k.age) o.passed) i)))
    ∙ sym (next_is w H now None (other w H now) o.owes o.held o.none refl))

-- whose turn it is has a frame
pub single_there : (c : Controller) (k : Hold) → turn_of k.yields (ready_in c k) ≡ Some Single → slice_get c.outgoing.items c.taken ≡ None → ⊥
single_there c k e = some_at c.outgoing.items c.taken (subst (IsTurn k.yields (ready_in c k)) e (turn_is k.yields (ready_in c k))).0

pub packet_goes : (c : Controller) (k : Hold) (now : ℕ) → turn_of k.yields (ready_in c k) ≡ Some Packet
    → (let none : Option (ℕ × Message) = None in none) ≡ option_map (at_now now) (packet_by (lane_of (who_of nothing c.own) c.lane).current c.lane.count k.pause) → ⊥
packet_goes c k now e f = go (packet_by (lane_of (who_of nothing c.own) c.lane).current c.lane.count k.pause) f
    (packet_there (lane_of (who_of nothing c.own) c.lane).current c.lane.count k.pause ∙ due (subst (IsTurn k.yields (ready_in c k)) e (turn_is k.yields (ready_in c k))))
  where
    due : IsTurn k.yields (ready_in c k) (Some Packet) → (is_left (lane_of (who_of nothing c.own) c.lane).current c.lane.count && nat_le k.pause 100000) ≡ true
    due e = grind arith

    go : (o : Option Message) → (let none : Option (ℕ × Message) = None in none) ≡ option_map (at_now now) o → is_there o ≡ true → ⊥
    go o g i = not_there o i (mapped_none (at_now now) o (sym g))

pub move_goes : (c : Controller) (k : Hold) (now : ℕ) → turn_of k.yields (ready_in c k) ≡ Some Move
    → (let none : Option (ℕ × Message) = None in none) ≡ option_map (at_now now) (option_map carried_by (said (clock k.age) (port_of c.transfers).state)) → ⊥
move_goes c k now e f = go (option_map carried_by (said (clock k.age) (port_of c.transfers).state)) (slice_get (replies_of (incoming_of c.incoming).reception) 0)
    (due (subst (IsTurn k.yields (ready_in c k)) e (turn_is k.yields (ready_in c k)))) f
  where
    due : IsTurn k.yields (ready_in c k) (Some Move) → (ready_in c k).transfer ≡ true
    due e = e.1

    go : (o r : Option Message) → is_apart o r ≡ true → (let none : Option (ℕ × Message) = None in none) ≡ option_map (at_now now) o → ⊥
    go None r t g = absurd (cc)
    go (Some m) r t g = absurd (cc)

-- ---- broadcasts

-- a box is free where there is one, and no broadcast is open
free_box : (w : Who) (o : Option Open) (free t : ℕ) (b : Bool) → how_many o + free ≡ min 1 t
    → (nat_eq free 0 || b) ≡ (nat_eq t 0 || (is_open (option_map (opened w) o) || b))
free_box w None free t b e = grind (arith, e)
free_box w (Some x) free t b e = grind (arith, e)

pub busy_is : (w : Who) (H : List Call) (c : Controller) → Is w H c
    → (nat_eq (how_many c.lane.free) 0 || nat_eq c.lane.next_token 18446744073709551615) ≡ is_busy w H
busy_is w H c h =
    free_box w c.lane.current (how_many c.lane.free) w.transfers (nat_eq c.lane.next_token 18446744073709551615) (ap (λ (v : View). v.lane.boxes) h.shown)
    ∙ ap (λ (v : View). nat_eq w.transfers 0 || (is_open v.lane.current || nat_eq v.lane.next_token 18446744073709551615)) h.shown

pub opens_so : (b : Bool) (n k : ℕ) → Some k ≡ (if b then None else Some n) → (b ≡ false) × (k ≡ n)
opens_so true n k e = absurd (cc)
opens_so false n k e = (refl, (let z : k ≡ n = cc in z))

-- ---- requests to others

-- no request can be accepted
pub asks_no_more_is : (w : Who) (H : List Call) (c : Controller) → Is w H c
    → ((nat_eq (length c.outgoing.items) 16 || nat_eq c.next_token 18446744073709551615) || is_asking (option_map (λ (x : AskRecord). x.question) (asking_of c.asking)))
    ≡ (is_full w H || is_asking (open_ask H))
asks_no_more_is w H c h =
    ap (λ (b : Bool). b || is_asking (option_map (λ (x : AskRecord). x.question) (asking_of c.asking))) (full_is w H c h)
    ∙ ap (λ (b : Bool). is_full w H || b)
    (ap (λ (v : View). is_asking (option_map (λ (x : AskRecord). x.question) v.asking)) h.shown ∙ asking_is (open_ask H) (reached H) (ended w H))

-- ---- transfers

-- none is over, so none is told
pub none_ends : (w : Who) (H : List Call) → None ≡ next_transfer_ended w H → transfers_tell (transfers_at w H) ≡ transfers_at w H
none_ends w H e = go (find is_over s.running) refl e
  where
    s : TransfersRecord
    s = transfers_at w H

    some : (x : Running) (q : Option TransferEnding) → has_some q ≡ true → None ≡ option_map (λ e. (let y : ℕ × TransferEnding = (x.token, e) in y)) q → ⊥
    some x None h e = absurd (cc)
    some x (Some y) h e = absurd (cc)

    go : (o : Option Running) → find is_over s.running ≡ o → None ≡ end_by o → transfers_tell s ≡ s
    go None i e = λ j. record s { running = others_none is_over s.running i j; rests = (ap (λ (o : Option Running). s.rests ++ listed_rests (rest_by o)) i ∙ append-nil s.rests) j }
    go (Some x) i e = absurd (some x (ending x) (found_passes is_over s.running x i) e)

pub ends_told : (w : Who) (H : List Call) (r : Option (ℕ × TransferEnding)) → r ≡ next_transfer_ended w H → transfers_tell (transfers_at w H) ≡ transfers_at w (TakeTransferEnded r ∷ H)
ends_told w H None e = none_ends w H e
ends_told w H (Some x) e = refl

-- a frame is heard
pub transfers_heard : (w : Who) (H : List Call) (b : Bool) (now : ℕ) (who : ℕ → Option ℕ) (f : FrameRecord)
    → (if b then transfers_lose now (transfers_at w H) else transfers_hear f now (transfers_leave None who now (transfers_at w H)))
    ≡ transfers_after 0 w.transfers (heard_events b now who f (transfer_events w H))
transfers_heard w H true now who f = refl
transfers_heard w H false now who f = refl

-- a message is handed in that can be sent
module _ (w : Who) (H : List Call) (now priority group to : ℕ) (bytes : List ℕ) where
  abbrev begun_now : TransfersRecord
  begun_now = transfers_begin (order (length (all_transfers w H)) priority group to bytes) (holder w H to) (clock_at w H now) (transfers_at w H)

  pub transfers_tried : (other : Bool) (r : Result ℕ Refused) → r ≡ (if nat_eq (length (all_transfers w H)) 18446744073709551615 || other then Err Full else Ok (length (all_transfers w H)))
      → (if nat_eq (length (all_transfers w H)) 18446744073709551615 then transfers_at w H else begun_now) ≡ transfers_at w (At now (Transfer priority group to bytes r) ∷ H)
  transfers_tried other r e =
      by (nat_eq (length (all_transfers w H)) 18446744073709551615) (tried (nat_eq (length (all_transfers w H)) 18446744073709551615) other (length (all_transfers w H)) r e)
    where
      by : (last : Bool) → is_tried r (nat_eq (length (all_transfers w H)) 18446744073709551615) ≡ not last
          → (if last then transfers_at w H else begun_now) ≡ transfers_at w (At now (Transfer priority group to bytes r) ∷ H)
      by true i = sym (ap (λ (b : Bool). transfers_after 0 w.transfers (tried_events b (Begins (order (length (all_transfers w H)) priority group to bytes) (holder w H to) (clock_at w H now)) (transfer_events w H))) i)
      by false i = sym (ap (λ (b : Bool). transfers_after 0 w.transfers (tried_events b (Begins (order (length (all_transfers w H)) priority group to bytes) (holder w H to) (clock_at w H now)) (transfer_events w H))) i)

      tried : (last other : Bool) (k : ℕ) (r : Result ℕ Refused) → r ≡ (if last || other then Err Full else Ok k) → is_tried r last ≡ not last
      tried last other k r e = grind (arith, e)

  pub tokens_tried : (n : ℕ) (r : Result ℕ Refused) → n ≡ length (all_transfers w H) → (if is_ok r then n + 1 else n) ≡ length (all_transfers w (At now (Transfer priority group to bytes r) ∷ H))
  tokens_tried n (Ok k) e = let m = length_one_more (all_transfers w H) (to, broadcast_from w group bytes) in omega (arith, e, m)
  tokens_tried n (Err x) e = e

-- before the first call
pub begun_transfers : (a n : ℕ) → a < 254 → no_transfers a n ≡ transfers_after 0 n (Moves a ∷ [])
begun_transfers a n l = sym (ap (λ (b : Bool). (let s : TransfersRecord = no_transfers 0 n in if b && true then record s { own = a } else s)) (lt-ltb a 254 l))
