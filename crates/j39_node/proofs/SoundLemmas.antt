-- What every answered history says of what was accepted, sent and told.
use Rattle.j39_node.proofs.Common.{[], accepted, Acknowledge, acknowledged, acknowledgment, acknowledgment_group, Address, address_after, address_claimed_group, Again, All, All-nil, All-push, All-set, all_replies, and-false, and-true, and_parts, Answer, answer_to_ask, ap, append_assoc, AreAnswered, arith, Ask, Asked, asked, At, blank, Bool, bytes_eq-Decides, Call, can_ask, can_send, cases_Bool, claim_address, claim_due, claim_from, claim_goes, claim_of, claimed, claims_anew, cond_both, cond_some, content, control_of, destination_of, Done, Draft, drop, due, end_of, Ending, ending_of, eq-eqb, eqb-true, false, false_from_ne_true, frame_of, FrameRecord, fresh, gives_way, got, handed, has_packets, Hear, holds, if◌then◌else◌, inl, inr, is_acknowledgment, is_apart, is_blank, is_claim, is_held, is_left, is_lost, is_move, is_own_group, is_packet, is_refusal_due, is_same, is_sendable, is_served, is_session, is_smaller, is_some, is_that, is_there, is_transfer, is_turn, IsAnswered, IsFront, IsTrue, kept, latest, leb-true, length, length-append, length-map, length-set, List, Lost, lost, ltb-false, ltb-true, map, map-append, map-set, marks, max, may_go, Message, message_from, message_of, MessageRecord, moment, Move, nat_eq, nat_le, nat_lt, next_acknowledgment, next_ended, next_frame, next_other, next_packet, next_renewed, next_transfer, next_turn, next_withdrawn, None, none-some, not, not-true, not_both, Ok, older, open_ask, open_broadcast, Option, option_map, or_from, or_parts, other, packet_by, packets, packets_of, past, pause, pgn_of, Question, question, reached, Ready, ready, refl, Renew, Reply, request_for, request_group, requests, Send, sent, Single, slice_get, slice_get-map, slice_get_past, slice_get_within, slice_set, Some, some_pair_parts, source_of, stamped, step, subst, suc, sym, take, take-append-le, take-set-le, TakeAskEnded, TakeEnded, TakeFrame, TakeReceived, TakeRequest, told, transport_control_group, transport_data_group, true, Turn, turn_frame, turn_of, turns, unblanked, unclaimed, Who, with_refusal, with_request, Withdraw, Withdrawn, yields, zero, ℕ, ◌&&◌, ◌++◌, ◌-◌, ◌<◌, ◌||◌, ◌↔◌, ◌∙◌, ◌∷◌, ◌≡◌, ◌≤◌, ◌⊎◌}
use Rattle.j39_node.specs.declared.turn.Turn.TheVariants.{Packet}
use Rattle.j39_node.proofs.WithdrawLemmas.{get_front, stops_append, past_more, next_false, past_stops, past_within, set_same, unblanked_more, unblanked_past, unpassed}
use Rattle.j39_node.proofs.ReceptionLemmas.{IsReply, reply_of}
use Rattle.j39_node.proofs.AnswerCases.{ask_accepts, send_accepts, sendable}
use Rattle.j39_node.proofs.PortLemmas.{said_case}
use Rattle.j39_node.proofs.QueueLemmas.{get_append, length_one_more, get_last, all_at}
use Rattle.j39_node.proofs.RenewLemmas.{IsLatest, latest_is, set_get, set_other, no_request}

-- ---- the address

pub lost_older : (s : ℕ) (a : Address) → is_lost (older s a) ≡ is_lost a
lost_older s a = grind arith

pub held_older : (s : ℕ) (a : Address) → is_held a ≡ true → is_held (older s a) ≡ true
held_older s a e = grind (arith, e)

pub lost_unclaimed : (a : Address) → is_lost (unclaimed a) ≡ is_lost a
lost_unclaimed a = grind arith

pub held_not_lost : (a : Address) → is_held a ≡ true → is_lost a ≡ false
held_not_lost a e = grind (arith, e)

pub holding_not_lost : (w : Who) (H : List Call) (now : ℕ) → holds w H now ≡ true → is_lost (address_after w H) ≡ false
holding_not_lost w H now e = sym (lost_older (step H now) (address_after w H)) ∙ held_not_lost _ e

-- where no time passes it is as old as before
pub same_age : (m : ℕ) (a : Address) → older (m - m) a ≡ a
same_age m a = grind arith

-- a call leaves it as old as it then is, or claims it, or loses it, or begins to claim it anew
pub address_cases : (w : Who) (H : List Call) (call : Call) (P : Address → Type 0) → P (older (step H (moment (call ∷ H))) (address_after w H)) → P Lost
    → P (claimed (older (step H (moment (call ∷ H))) (address_after w H)))
    → (claims_anew call ≡ true → P (unclaimed (older (step H (moment (call ∷ H))) (address_after w H)))) → P (address_after w (call ∷ H))
address_cases w H (At when (Hear f)) P left lost claims anew = cond_both (is_smaller w (claim_of f)) _ _ P (λ z. lost) (λ z. left)
address_cases w H (At now (TakeFrame (Some f))) P left lost claims anew = cond_both (is_claim f) _ _ P (λ z. claims) (λ z. left)
address_cases w H (At now Again) P left lost claims anew = anew refl
address_cases w H (At now act) P left lost claims anew = left
address_cases w H call P left lost claims anew = subst P (same_age (moment H) (address_after w H)) left

pub stays_lost : (w : Who) (H : List Call) (call : Call) → is_lost (address_after w H) ≡ true → is_lost (address_after w (call ∷ H)) ≡ true
stays_lost w H call e = grind (arith, e)

-- ---- which frame was taken

-- an acknowledgment that goes is due
pub acknowledged_is_due : (w : Who) (H : List Call) (now : ℕ) (m : Message) → next_acknowledgment w H now ≡ Some m
    → (slice_get (due w H) (length (acknowledged H)) ≡ Some m) × (gives_way w H now ≡ false)
acknowledged_is_due w H now m e = (grind (arith, e), grind (arith, e))

-- not-true acknowledgment goes, and it is the turn of this
abbrev pub IsNext : Who → List Call → ℕ → Turn → Type 0
IsNext w H now turn = (next_acknowledgment w H now ≡ None) × (next_turn w H now ≡ Some turn)

pub data FrameCase (w : Who) (H : List Call) (now : ℕ) (f : FrameRecord) : Type 0 where
  claims : claim_goes w H now ≡ true → stamped f ≡ (now, claim_from w (claim_address w (address_after w H))) → FrameCase w H now f
  acknowledges : (m : Message) → claim_goes w H now ≡ false → holds w H now ≡ true → slice_get (due w H) (length (acknowledged H)) ≡ Some m
      → stamped f ≡ (now, m) → gives_way w H now ≡ false → FrameCase w H now f
  replies : (m : Message) → claim_goes w H now ≡ false → holds w H now ≡ true → IsNext w H now Reply
      → slice_get (all_replies w H) 0 ≡ Some m → stamped f ≡ (now, m) → FrameCase w H now f
  sends : (x : ℕ × Message) → claim_goes w H now ≡ false → holds w H now ≡ true → IsNext w H now Single
      → slice_get (accepted w H) (reached H) ≡ Some x → stamped f ≡ (now, x.1) → FrameCase w H now f
  packs : (m : Message) → claim_goes w H now ≡ false → holds w H now ≡ true → IsNext w H now Packet
      → next_packet w H now ≡ Some m → stamped f ≡ (now, m) → FrameCase w H now f
  transfers : (m : Message) → claim_goes w H now ≡ false → holds w H now ≡ true → IsNext w H now Move
      → next_transfer w H now ≡ Some m → stamped f ≡ (now, m) → FrameCase w H now f

-- the next frame, by what it hangs on
abbrev pub frame_by : Bool → Bool → Option Message → Option Message → Message → ℕ → Option (ℕ × Message)
frame_by owes held a o claim now = if owes then Some (now, claim) else if held then option_map (λ m. (now, m)) (control_of a o) else None

pub frame_case : (w : Who) (H : List Call) (now : ℕ) (f : FrameRecord) → Some (stamped f) ≡ next_frame w H now → FrameCase w H now f
frame_case w H now f e = go (claim_goes w H now) (holds w H now) (next_acknowledgment w H now) refl refl refl e
  where
    by : (t : Option Turn) (r : Option Message) (o : Option (ℕ × Message)) (y z : Option Message) → claim_goes w H now ≡ false → holds w H now ≡ true
        → next_acknowledgment w H now ≡ None → next_turn w H now ≡ t → slice_get (all_replies w H) 0 ≡ r
        → slice_get (accepted w H) (reached H) ≡ o → next_packet w H now ≡ y → next_transfer w H now ≡ z
        → Some (stamped f) ≡ option_map (λ m. (now, m)) (turn_frame t r o y z) → FrameCase w H now f
    by (Some Reply) (Some m) o y z p q n t a b c d i = replies m p q (n, t) a (let u : stamped f ≡ (now, m) = cc in u)
    by (Some Single) r (Some x) y z p q n t a b c d i = sends x p q (n, t) b (let u : stamped f ≡ (now, x.1) = cc in u)
    by (Some Packet) r o (Some m) z p q n t a b c d i = packs m p q (n, t) c (let u : stamped f ≡ (now, m) = cc in u)
    by (Some Move) r o y (Some m) p q n t a b c d i = transfers m p q (n, t) d (let u : stamped f ≡ (now, m) = cc in u)
    by turn r o y z p q n t a b c d i = absurd (cc)

    go : (b h : Bool) (a : Option Message) → claim_goes w H now ≡ b → holds w H now ≡ h → next_acknowledgment w H now ≡ a
        → Some (stamped f) ≡ frame_by b h a (other w H now) (claim_from w (claim_address w (address_after w H))) now → FrameCase w H now f
    go true h a p q n i = claims p (let u : stamped f ≡ (now, claim_from w (claim_address w (address_after w H))) = cc in u)
    go false false a p q n i = absurd (cc)
    go false true (Some m) p q n i =
        let due_now = acknowledged_is_due w H now m n in
        acknowledges m p q due_now.0 (let u : stamped f ≡ (now, m) = cc in u) due_now.1
    go false true None p q n i = by _ _ _ _ _ p q n refl refl refl refl refl i

-- a frame bears the moment at which it is taken
pub stamped_by : {w : Who} {H : List Call} {now : ℕ} {f : FrameRecord} → FrameCase w H now f → (m : Message) × (stamped f ≡ (now, m))
stamped_by (claims o e) = (_, e)
stamped_by (acknowledges m o h g e way) = (m, e)
stamped_by (sends x o h k g e) = (x.1, e)
stamped_by (replies m o h k g e) = (m, e)
stamped_by (packs m o h k g e) = (m, e)
stamped_by (transfers m o h k g e) = (m, e)

-- it is a claim, or the address is held
pub claims_or_held : {w : Who} {H : List Call} {now : ℕ} {f : FrameRecord} → FrameCase w H now f
    → ((claim_goes w H now ≡ true) × (stamped f ≡ (now, claim_from w (claim_address w (address_after w H))))) ⊎ ((claim_goes w H now ≡ false) × (holds w H now ≡ true))
claims_or_held (claims o e) = inl (o, e)
claims_or_held (acknowledges m o h g e way) = inr (o, h)
claims_or_held (replies m o h k g e) = inr (o, h)
claims_or_held (sends x o h k g e) = inr (o, h)
claims_or_held (packs m o h k g e) = inr (o, h)
claims_or_held (transfers m o h k g e) = inr (o, h)

-- ---- whose turn it is

pub none_at : {T : Type 0} (L : List T) (n : ℕ) → nat_lt n (length L) ≡ false → slice_get L n ≡ None
none_at L n e = slice_get_past L n (ltb-false n (length L) e)

pub past_end : {T : Type 0} (L : List T) (n : ℕ) → slice_get L n ≡ None → length L ≤ n
past_end [] n e = omega arith
past_end (x ∷ L) zero e = absurd (cc)
past_end (x ∷ L) (suc n) e = let h = past_end L n e in omega (arith, h)

pub some_at : {T : Type 0} (L : List T) (n : ℕ) → nat_lt n (length L) ≡ true → slice_get L n ≡ None → ⊥
some_at L n e f = absurd (let l = ltb-true n (length L) e in let m = past_end L n f in omega (arith, l, m))

-- what goes before a frame of a transfer isn't due
pub record NothingElse (r : Ready) : Type 0 where
  pub overdue : r.overdue ≡ false
  pub message : r.message ≡ false
  pub packet : r.packet ≡ false

-- what is due where it is the turn of this
abbrev pub IsTurn : Bool → Ready → Option Turn → Type 0
IsTurn y r None = NothingElse r × (r.transfer ≡ false) × (r.reply ≡ false)
IsTurn y r (Some Reply) = (r.reply ≡ true) × (r.overdue ≡ false) × ((y && (r.message || (r.packet || r.transfer))) ≡ false)
IsTurn y r (Some Single) = (r.message ≡ true) × (r.overdue ≡ false) × ((r.reply ≡ false) ⊎ (y ≡ true))
IsTurn y r (Some Packet) = (r.overdue ≡ true) ⊎ ((r.packet ≡ true) × (r.message ≡ false) × ((r.reply ≡ false) ⊎ (y ≡ true)))
IsTurn y r (Some Move) = NothingElse r × (r.transfer ≡ true) × ((r.reply ≡ false) ⊎ (y ≡ true))

pub turn_is : (y : Bool) (r : Ready) → IsTurn y r (turn_of y r)
turn_is y r = go y r.overdue r.reply r.message r.packet r.transfer
  where
    of : Bool → Bool → Bool → Bool → Bool → Ready
    of o a m p t = record { overdue = o; reply = a; message = m; packet = p; transfer = t }

    go : (y o a m p t : Bool) → IsTurn y (of o a m p t) (turn_of y (of o a m p t))
    go y true a m p t = inl refl
    go false false true m p t = (refl, refl, refl)
    go true false true true p t = (refl, refl, inr refl)
    go true false true false true t = inr (refl, refl, inr refl)
    go true false true false false true = (record { overdue = refl; message = refl; packet = refl }, refl, inr refl)
    go true false true false false false = (refl, refl, refl)
    go y false false true p t = (refl, refl, inl refl)
    go y false false false true t = inr (refl, refl, inl refl)
    go y false false false false true = (record { overdue = refl; message = refl; packet = refl }, refl, inl refl)
    go y false false false false false = (record { overdue = refl; message = refl; packet = refl }, refl, refl)

pub turned : (w : Who) (H : List Call) (now : ℕ) (t : Option Turn) → next_turn w H now ≡ t → IsTurn (yields w H) (ready w H now) t
turned w H now t e = subst (IsTurn (yields w H) (ready w H now)) e (turn_is (yields w H) (ready w H now))

-- a frame of the open broadcast that is due is next of it
pub packet_there : (o : Option (ℕ × MessageRecord)) (i left : ℕ) → is_there (packet_by o i left) ≡ (is_left o i && nat_le left 100000)
packet_there o i left = grind arith

pub overdue_due : (b : Bool) (n : ℕ) → (b && nat_eq n 0) ≡ true → (b && nat_le n 100000) ≡ true
overdue_due b n e = grind (arith, e)

pub none_there : (o : Option Message) → is_there o ≡ false → o ≡ None
none_there o e = grind (arith, e)

pub not_there : (o : Option Message) → is_there o ≡ true → o ≡ None → ⊥
not_there o e f = not_both _ (ap is_there f) e

-- a frame of a transfer that is due, and apart from the first reply
pub apart_there : (o a : Option Message) → is_apart o a ≡ true → o ≡ None → ⊥
apart_there o a e f = not_both _ (ap (λ (p : Option Message). is_apart p a) f) e

apart_none : (o a : Option Message) → a ≡ None → is_apart o a ≡ false → o ≡ None
apart_none o a e f = grind (arith, e, f)

-- not-true reply, not-true message, and not-true frame of the open broadcast
pub record Rest (w : Who) (H : List Call) (now : ℕ) : Type 0 where
  pub reply : slice_get (all_replies w H) 0 ≡ None
  pub message : slice_get (accepted w H) (reached H) ≡ None
  pub packet : next_packet w H now ≡ None

-- what goes before frames of transfers isn't there
pub nothing_else : (w : Who) (H : List Call) (now : ℕ) → NothingElse (ready w H now)
    → (slice_get (accepted w H) (reached H) ≡ None) × (next_packet w H now ≡ None)
nothing_else w H now h = (
  none_at (accepted w H) (reached H) h.message,
  none_there _ (packet_there (open_broadcast w H) (length (packets H)) (pause H - step H now) ∙ h.packet),
)

-- whose turn it is has a frame
pub frame_there : (w : Who) (H : List Call) (now : ℕ) → is_turn (next_turn w H now) ≡ is_there (other w H now)
frame_there w H now = go (next_turn w H now) (turned w H now _ refl) _ _ _ _ refl refl refl refl
  where
    there : (o : Option Message) → (o ≡ None → ⊥) → true ≡ is_there o
    there o e = grind (arith, e)

    there_sent : (o : Option (ℕ × Message)) → (o ≡ None → ⊥) → true ≡ is_there (option_map content o)
    there_sent o e = grind (arith, e)

    due_packet : (ready w H now).packet ≡ true → next_packet w H now ≡ None → ⊥
    due_packet e = not_there _ (packet_there (open_broadcast w H) (length (packets H)) (pause H - step H now) ∙ e)

    go : (t : Option Turn) → IsTurn (yields w H) (ready w H now) t → (r : Option Message) (o : Option (ℕ × Message)) (y z : Option Message)
        → slice_get (all_replies w H) 0 ≡ r → slice_get (accepted w H) (reached H) ≡ o → next_packet w H now ≡ y → next_transfer w H now ≡ z
        → is_turn t ≡ is_there (turn_frame t r o y z)
    go None h r o y z a b c d = refl
    go (Some Reply) h r o y z a b c d = there r (λ e. some_at (all_replies w H) 0 h.0 (a ∙ e))
    go (Some Single) h r o y z a b c d = there_sent o (λ e. some_at (accepted w H) (reached H) h.0 (b ∙ e))
    go (Some Packet) (inl h) r o y z a b c d = there y (λ e. due_packet (overdue_due (has_packets w H) (pause H - step H now) h) (c ∙ e))
    go (Some Packet) (inr h) r o y z a b c d = there y (λ e. due_packet h.0 (c ∙ e))
    go (Some Move) h r o y z a b c d = there z (λ e. apart_there (next_transfer w H now) (slice_get (all_replies w H) 0) h.1 (d ∙ e))

-- where none of it goes, none is due
pub none_other : (w : Who) (H : List Call) (now : ℕ) → other w H now ≡ None → Rest w H now × (next_transfer w H now ≡ None)
none_other w H now e = go (next_turn w H now) (turned w H now _ refl) (frame_there w H now ∙ ap is_there e)
  where
    go : (t : Option Turn) → IsTurn (yields w H) (ready w H now) t → is_turn t ≡ false → Rest w H now × (next_transfer w H now ≡ None)
    go None h f =
        let r = none_at (all_replies w H) 0 h.2 in
        let n = nothing_else w H now h.0 in
        (record { reply = r; message = n.0; packet = n.1 }, apart_none (next_transfer w H now) (slice_get (all_replies w H) 0) r h.1)
    go (Some t) h f = absurd (cc)

-- and where none is due, none goes
pub other_none : (w : Who) (H : List Call) (now : ℕ) → Rest w H now → next_transfer w H now ≡ None → other w H now ≡ None
other_none w H now e f = grind (arith, f)

-- ---- who gives way

-- where something gives way the other frame goes
pub given_way : (w : Who) (H : List Call) (now : ℕ) → gives_way w H now ≡ true → (m : Message) × (next_other w H now ≡ Some m) × (next_frame w H now ≡ Some (now, m))
given_way w H now g = go (holds w H now) (other w H now) refl refl (and_parts (nat_le 2 (turns H)) (is_there (next_other w H now)) g).1
  where
    claim : Message
    claim = claim_from w (claim_address w (address_after w H))

    is : (b h : Bool) (o : Option Message) → gives_way w H now ≡ b → holds w H now ≡ h → other w H now ≡ o
        → next_frame w H now ≡ frame_by (claim_due w H now && not b) h (if b then None else slice_get (due w H) (length (acknowledged H))) o claim now
    is b h o p q r = λ i. frame_by (claim_due w H now && not (p i)) (q i) (if p i then None else slice_get (due w H) (length (acknowledged H))) (r i) claim now

    go : (h : Bool) (o : Option Message) → holds w H now ≡ h → other w H now ≡ o → is_there (if h then o else None) ≡ true
        → (m : Message) × ((if h then o else None) ≡ Some m) × (next_frame w H now ≡ Some (now, m))
    go true (Some m) p q t =
        (m, refl, is true true (Some m) g p q ∙ ap (λ (b : Bool). frame_by b true None (Some m) claim now) (and-false (claim_due w H now)))
    go h o p q t = absurd (cc)

-- where not-true frame goes nothing gives way: a claim that is owed goes, and an acknowledgment that is due
pub none_gives : (w : Who) (H : List Call) (now : ℕ) → (let none : Option (ℕ × Message) = None in none) ≡ next_frame w H now → gives_way w H now ≡ false
none_gives w H now e = false_from_ne_true _ (λ g. let x = given_way w H now g in none-some (now, x.0) (e ∙ x.2))

pub claim_is : (w : Who) (H : List Call) (now : ℕ) → gives_way w H now ≡ false → claim_goes w H now ≡ claim_due w H now
claim_is w H now g = ap (λ (b : Bool). claim_due w H now && not b) g ∙ and-true (claim_due w H now)

pub due_is : (w : Who) (H : List Call) (now : ℕ) → gives_way w H now ≡ false → next_acknowledgment w H now ≡ slice_get (due w H) (length (acknowledged H))
due_is w H now g = ap (λ (b : Bool). if b then None else slice_get (due w H) (length (acknowledged H))) g

pub next_is : (w : Who) (H : List Call) (now : ℕ) (a o : Option Message) → claim_goes w H now ≡ false → holds w H now ≡ true
    → next_acknowledgment w H now ≡ a → other w H now ≡ o → next_frame w H now ≡ option_map (λ m. (now, m)) (control_of a o)
next_is w H now a o e f g k = λ i. frame_by (e i) (f i) (g i) (k i) (claim_from w (claim_address w (address_after w H))) now

-- the frame of whose turn it is
pub other_is : (w : Who) (H : List Call) (now : ℕ) (t : Option Turn) → next_turn w H now ≡ t
    → other w H now ≡ turn_frame t (slice_get (all_replies w H) 0) (slice_get (accepted w H) (reached H)) (next_packet w H now) (next_transfer w H now)
other_is w H now t e = grind (arith, e)

-- what a frame is that is taken is what goes next
pub case_goes : {w : Who} {H : List Call} {now : ℕ} {f : FrameRecord} → FrameCase w H now f → Some (stamped f) ≡ next_frame w H now
case_goes e = grind arith

pub none_acknowledged : (w : Who) (H : List Call) (now : ℕ) → next_acknowledgment w H now ≡ None
    → IsTrue (gives_way w H now) ⊎ (slice_get (due w H) (length (acknowledged H)) ≡ None)
none_acknowledged w H now e = elim (cases_Bool (gives_way w H now)) [ inl g ↦ inl g | inr g ↦ inr (sym (due_is w H now g) ∙ e) ]

-- where none is due, none goes
pub none_due_goes : (w : Who) (H : List Call) (now : ℕ) → slice_get (due w H) (length (acknowledged H)) ≡ None → next_acknowledgment w H now ≡ None
none_due_goes w H now e = cond_both (gives_way w H now) _ _ (λ (o : Option Message). o ≡ None) (λ g. refl) (λ g. e)

-- where not-true frame goes from an address that is held, nothing is due
pub record NoneDue (w : Who) (H : List Call) (now : ℕ) : Type 0 where
  pub acknowledgment : slice_get (due w H) (length (acknowledged H)) ≡ None
  pub rest : Rest w H now
  pub transfer : next_transfer w H now ≡ None

pub none_next : (w : Who) (H : List Call) (now : ℕ) → holds w H now ≡ true → (let none : Option (ℕ × Message) = None in none) ≡ next_frame w H now → NoneDue w H now
none_next w H now held e = go (claim_goes w H now) (holds w H now) (next_acknowledgment w H now) (other w H now) held refl refl e
  where
    go : (o h : Bool) (a b : Option Message) → h ≡ true → next_acknowledgment w H now ≡ a → other w H now ≡ b
        → (let none : Option (ℕ × Message) = None in none) ≡ frame_by o h a b (claim_from w (claim_address w (address_after w H))) now → NoneDue w H now
    go false true None None p q r i = let n = none_other w H now r in record {
      acknowledgment = sym (due_is w H now (none_gives w H now e)) ∙ q;
      rest = n.0;
      transfer = n.1;
    }
    go o h a b p q r i = absurd (cc)

-- which frame of a broadcast is next
pub record PacketCase (o : Option (ℕ × MessageRecord)) (i left : ℕ) (m : Message) : Type 0 where
  pub token : ℕ
  pub message : MessageRecord
  pub is : o ≡ Some (token, message)
  pub over : left ≤ 100000
  pub within : i ≤ packets_of message
  pub frame : m ≡ frame_of message i

pub packet_case : (o : Option (ℕ × MessageRecord)) (i left : ℕ) (m : Message) → packet_by o i left ≡ Some m → PacketCase o i left m
packet_case None i left m e = absurd (cc)
packet_case (Some x) i left m e =
    let z = cond_some (nat_le left 100000 && nat_le i (packets_of x.1)) (frame_of x.1 i) m e in
    let y = and_parts (nat_le left 100000) (nat_le i (packets_of x.1)) z.0 in
    record { token = x.0; message = x.1; is = refl; over = leb-true _ _ y.0; within = leb-true _ _ y.1; frame = sym z.1 }

-- a group of sessions is neither that of claims nor that of acknowledgments
abbrev OfSession : ℕ → Type 0
OfSession g =
    (nat_eq g address_claimed_group ≡ false) × (nat_eq g acknowledgment_group ≡ false) × ((nat_eq g transport_control_group || nat_eq g transport_data_group) ≡ true)

of_session : (f : FrameRecord) (g : ℕ) → pgn_of f.id ≡ g → (g ≡ transport_control_group) ⊎ (g ≡ transport_data_group) → OfSession (pgn_of f.id)
of_session f g e k =
    subst OfSession (sym e) (elim k [ inl i ↦ subst OfSession (sym i) (refl, refl, refl) | inr i ↦ subst OfSession (sym i) (refl, refl, refl) ])

-- a reply is not-true frame of a broadcast
pub reply_taken : (own : ℕ) (f : FrameRecord) (now : ℕ) (m : Message) → stamped f ≡ (now, m) → IsReply own m
    → (is_claim f ≡ false) × (is_acknowledgment f ≡ false) × (is_session f ≡ true) × (is_packet f ≡ false)
reply_taken own f now m e g = (grind (arith, e), grind (arith, e), grind (arith, e), grind (arith, e))

-- ---- a frame of a session is one of a broadcast, or of a transfer

pub is_directed : (f : FrameRecord) → is_session f ≡ true → is_packet f ≡ false → is_transfer f ≡ true
is_directed f e g = λ i. e i && not ((sym (ap (λ (b : Bool). b && is_some (destination_of f.id) 255) e) ∙ g) i)

pub no_packet : (f : FrameRecord) → is_session f ≡ false → is_packet f ≡ false
no_packet f e = ap (λ (b : Bool). b && is_some (destination_of f.id) 255) e

pub no_transfer : (f : FrameRecord) → is_session f ≡ false → is_transfer f ≡ false
no_transfer f e = ap (λ (b : Bool). b && not (is_some (destination_of f.id) 255)) e

pub packet_session : (f : FrameRecord) → is_packet f ≡ true → (is_session f ≡ true) × (is_transfer f ≡ false)
packet_session f e = (grind (arith, e), grind (arith, e))

-- a frame is that which it is
pub that_same : (m : Message) → is_that m (Some m) ≡ true
that_same m = λ i. eq-eqb m.group m.group refl i && (same_address m.destination i && (bytes_eq-Decides m.bytes m.bytes).1 refl i)
  where
    same_address : (o : Option ℕ) → is_same o o ≡ true
    same_address o = grind arith

-- the first reply is none of a transfer
pub reply_is : (w : Who) (H : List Call) (f : FrameRecord) (m : Message) → slice_get (all_replies w H) 0 ≡ Some m → message_of f ≡ m
    → is_that (message_of f) (slice_get (all_replies w H) 0) ≡ true
reply_is w H f m e i = ap (is_that (message_of f)) e ∙ (ap (λ x. is_that x (Some m)) i ∙ that_same m)

pub reply_no_move : (w : Who) (H : List Call) (f : FrameRecord) (m : Message) → slice_get (all_replies w H) 0 ≡ Some m → message_of f ≡ m → is_move w H f ≡ false
reply_no_move w H f m e i = ap (λ (b : Bool). is_transfer f && not b) (reply_is w H f m e i) ∙ and-false (is_transfer f)

-- one of a transfer that goes apart from it is not-true reply
pub apart_is : (w : Who) (H : List Call) (now : ℕ) (f : FrameRecord) (m : Message) → next_transfer w H now ≡ Some m → message_of f ≡ m
    → (ready w H now).transfer ≡ true → is_that (message_of f) (slice_get (all_replies w H) 0) ≡ false
apart_is w H now f m e g i = is_apart_of (next_transfer w H now) (slice_get (all_replies w H) 0) m (message_of f) e g i
  where
    is_apart_of : (o r : Option Message) (m n : Message) → o ≡ Some m → n ≡ m → is_apart o r ≡ true → is_that n r ≡ false
    is_apart_of o r m n e g i = ap (λ (x : Message). is_that x r) g ∙ not-true _ (sym (ap (λ (p : Option Message). is_apart p r) e) ∙ i)

pub is_moved : (w : Who) (H : List Call) (f : FrameRecord) → is_transfer f ≡ true → is_that (message_of f) (slice_get (all_replies w H) 0) ≡ false → is_move w H f ≡ true
is_moved w H f e g = λ i. e i && not (g i)

-- what a frame of a transfer is
pub record IsOfTransfer (w : Who) (f : FrameRecord) : Type 0 where
  pub claim : is_claim f ≡ false
  pub plain : is_acknowledgment f ≡ false
  pub session : is_session f ≡ true
  pub packet : is_packet f ≡ false
  pub transfer : is_transfer f ≡ true
  pub source : source_of f.id ≡ w.address

pub transfer_taken : (w : Who) (H : List Call) (now : ℕ) (f : FrameRecord) (m : Message) → AreAnswered w H → stamped f ≡ (now, m) → next_transfer w H now ≡ Some m
    → IsOfTransfer w f
transfer_taken w H now f m right e g =
    let s = said_case w H now m right g in
    let x = of_session f m.group (ap (λ (y : ℕ × Message). y.1.group) e) s.group in
    let to : is_some (destination_of f.id) 255 ≡ false = ap (λ (y : ℕ × Message). is_some y.1.destination 255) e ∙ s.directed in
    record {
      claim = x.0;
      plain = x.1;
      session = x.2;
      packet = λ j. x.2 j && to j;
      transfer = λ j. x.2 j && not (to j);
      source = ap (λ (y : ℕ × Message). y.1.source) e ∙ s.source;
    }

pub packet_taken : (f : FrameRecord) (now : ℕ) (m : Message) (o : Option (ℕ × MessageRecord)) (i left : ℕ) → stamped f ≡ (now, m) → packet_by o i left ≡ Some m
    → (is_claim f ≡ false) × (is_acknowledgment f ≡ false) × (is_packet f ≡ true)
packet_taken f now m o i left e g = (grind (arith, e, g), grind (arith, e, g), grind (arith, e, g))

-- ---- all that is accepted is the controller's own, or was withdrawn

pub record IsOwn (w : Who) (m : Message) : Type 0 where
  pub source : m.source ≡ w.address
  pub group : nat_eq m.group address_claimed_group ≡ false
  pub plain : nat_eq m.group acknowledgment_group ≡ false
  pub single : (nat_eq m.group transport_control_group || nat_eq m.group transport_data_group) ≡ false

abbrev pub Stays : Who → ℕ × Message → Type 0
Stays w x = is_blank x ≡ false → IsOwn w x.1

-- ---- all that is due is an acknowledgment

pub record IsDue (w : Who) (m : Message) : Type 0 where
  pub source : m.source ≡ w.address
  pub group : m.group ≡ acknowledgment_group

due_append : (w : Who) (xs : List Message) (answer : Answer) (r : Asked) → All (IsDue w) xs → All (IsDue w) (xs ++ acknowledgment w answer r ∷ [])
due_append w xs answer r h = All-push (IsDue w) xs (acknowledgment w answer r) h (record { source = refl; group = refl })

-- ---- a list that another begins with

front_append : {T : Type 0} (xs ys : List T) (y : T) → IsFront xs ys → IsFront xs (ys ++ y ∷ [])
front_append xs ys y (zs, e) = (zs ++ y ∷ [], ap (λ l. l ++ y ∷ []) e ∙ append_assoc xs zs (y ∷ []))

front_longer : {T : Type 0} (xs ys : List T) (x : T) → IsFront xs ys → slice_get ys (length xs) ≡ Some x → IsFront (xs ++ x ∷ []) ys
front_longer [] [] x (zs, e) g = absurd (cc)
front_longer [] (y ∷ ys) x (zs, e) g = let z : y ≡ x = cc in (ys, ap (λ u. u ∷ ys) z)
front_longer (u ∷ xs) [] x (zs, e) g = absurd (cc)
front_longer (u ∷ xs) (y ∷ ys) x (zs, e) g =
    let a : y ≡ u = cc in
    let h = front_longer xs ys x (zs, cc) g in
    (h.0, (let b = h.1 in cc))

-- ---- what is so after any answered history

abbrev pub Desked : Who → List Call → Type 0
Desked w H = All (IsDue w) (due w H) × IsFront (acknowledged H) (due w H) × IsFront (handed H) (requests w H)

-- of what was accepted, each with a mark whether it was withdrawn, so many were passed, and these were sent
pub record Posts (w : Who) (all : List (ℕ × Message)) (blanks : List Bool) (n : ℕ) (out : List Message) : Type 0 where
  pub own : All (Stays w) all
  pub marked : blanks ≡ map is_blank all
  pub next : past blanks n ≡ n
  pub passed : n ≤ length all
  pub in_order : out ≡ map content (unblanked (take n all))
  pub numbered : (i : ℕ) (x : ℕ × Message) → slice_get all i ≡ Some x → x.0 ≡ i

pub record Sound (w : Who) (H : List Call) : Type 0 where
  pub posts : Posts w (accepted w H) (marks H) (reached H) (sent H)
  pub open posts use *
  pub within : length (told H) ≤ length (accepted w H)
  pub in_turn : is_lost (address_after w H) ≡ false → length (told H) ≤ reached H
  pub reads : IsFront (got H) (kept w H)
  pub desk : Desked w H

pub front_length : {T : Type 0} (xs ys : List T) → IsFront xs ys → length xs ≤ length ys
front_length xs ys (zs, e) = let b = ap length e in let c = length-append xs zs in omega (arith, b, c)

pub read : (w : Who) (H : List Call) → Sound w H → length (got H) ≤ length (kept w H)
read w H h = front_length (got H) (kept w H) h.reads

-- the message that is next isn't withdrawn
next_stays : (w : Who) (H : List Call) (x : ℕ × Message) → Sound w H → slice_get (accepted w H) (reached H) ≡ Some x → is_blank x ≡ false
next_stays w H x h e =
    next_false (marks H) (reached H) (is_blank x) h.next
    (ap (λ bs. slice_get bs (reached H)) h.marked ∙ (slice_get-map is_blank (accepted w H) (reached H) ∙ ap (option_map is_blank) e))

next_own : (w : Who) (H : List Call) (x : ℕ × Message) → Sound w H → slice_get (accepted w H) (reached H) ≡ Some x → IsOwn w x.1
next_own w H x h e = all_at (Stays w) (accepted w H) (reached H) x h.own e (next_stays w H x h e)

pub many_marks : (w : Who) (H : List Call) → Sound w H → length (marks H) ≡ length (accepted w H)
many_marks w H h = ap length h.marked ∙ length-map (accepted w H) is_blank

-- a call that accepts, sends and tells nothing
rests : (w : Who) (H : List Call) (call : Call) → accepted w (call ∷ H) ≡ accepted w H → marks (call ∷ H) ≡ marks H → (sent (call ∷ H) ≡ sent H) × (reached (call ∷ H) ≡ reached H)
    → told (call ∷ H) ≡ told H → IsFront (got (call ∷ H)) (kept w (call ∷ H)) → Desked w (call ∷ H) → Sound w H → Sound w (call ∷ H)
rests w H call e m f g r d h = record {
  posts = subst (λ (x : List (ℕ × Message) × List Bool × ℕ × List Message). Posts w x.0 x.1 x.2 x.3) (λ i. (sym e i, sym m i, sym f.1 i, sym f.0 i)) h.posts;
  within = (let a = h.within in let b = ap length e in let c = ap length g in omega (arith, a, b, c));
  in_turn = λ l. (let a = h.in_turn (false_from_ne_true _ (λ z. not_both _ l (stays_lost w H call z))) in let b = f.1 in let c = ap length g in omega (arith, a, b, c));
  reads = r;
  desk = d;
}

is_own : (w : Who) (d : Draft) → can_send w d ≡ true → IsOwn w (message_from w d)
is_own w d e =
    let a = and_parts (nat_lt d.priority 8) _ e in
    let b = and_parts (is_sendable d.group) _ a.1 in
    let c = and_parts _ (not (is_own_group d.group || nat_eq d.group acknowledgment_group)) b.0 in
    let k = or_parts (is_own_group d.group) _ (not-true _ c.1) in
    let n = or_parts (nat_eq d.group transport_control_group) _ k.0 in
    let m = or_parts (nat_eq d.group transport_data_group) _ n.1 in
    record { source = refl; group = m.1; plain = k.1; single = or_from _ _ n.0 m.0 }

-- ---- which token was told

pub record Told (w : Who) (H : List Call) (k : ℕ) (e : Ending) : Type 0 where
  pub message : Message
  pub at : slice_get (accepted w H) (length (told H)) ≡ Some (k, message)
  pub over : (length (told H) < reached H) ⊎ (is_lost (address_after w H) ≡ true)
  pub done : e ≡ Done ↔ ((length (told H) < reached H) × (is_blank (k, message) ≡ false))
  pub withdrawn : e ≡ Withdrawn → (is_lost (address_after w H) ≡ true) ⊎ ((length (told H) < reached H) × (is_blank (k, message) ≡ true))

pub told_case : (w : Who) (H : List Call) (k : ℕ) (e : Ending) → Some (k, e) ≡ next_ended w H → Told w H k e
told_case w H k e = go (nat_lt (length (told H)) (reached H)) (is_lost (address_after w H)) (slice_get (accepted w H) (length (told H))) refl refl refl
  where
    at : (y : ℕ × Message) → slice_get (accepted w H) (length (told H)) ≡ Some y → k ≡ y.0 → slice_get (accepted w H) (length (told H)) ≡ Some (k, y.1)
    at y r z = r ∙ ap (λ (n : ℕ). Some (n, y.1)) (sym z)

    go : (b l : Bool) (o : Option (ℕ × Message)) → nat_lt (length (told H)) (reached H) ≡ b → is_lost (address_after w H) ≡ l
        → slice_get (accepted w H) (length (told H)) ≡ o → Some (k, e) ≡ end_of b l o → Told w H k e
    go true l (Some y) p q r i = by (is_blank y) refl i
      where
        before : length (told H) < reached H
        before = ltb-true _ _ p

        by : (b : Bool) → is_blank y ≡ b → Some (k, e) ≡ ending_of (not b) true y.0 → Told w H k e
        by true z i = let x = some_pair_parts k y.0 e Withdrawn i in record {
          message = y.1;
          at = at y r x.0;
          over = inl before;
          done = (λ v. absurd (let u = x.1 in cc), λ v. absurd (not_both _ v.1 z));
          withdrawn = λ v. inr (before, z);
        }
        by false z i = let x = some_pair_parts k y.0 e Done i in record {
          message = y.1;
          at = at y r x.0;
          over = inl before;
          done = (λ v. (before, z), λ v. x.1);
          withdrawn = λ v. absurd (let u = x.1 in cc);
        }
    go false true (Some y) p q r i = let x = some_pair_parts k y.0 e Withdrawn i in record {
      message = y.1;
      at = at y r x.0;
      over = inr q;
      done = (λ v. absurd (let u = x.1 in cc), λ v. absurd (let a = v.0 in let b = ltb-false _ _ p in omega (arith, a, b)));
      withdrawn = λ v. inl q;
    }
    go false false (Some y) p q r i = absurd (cc)
    go b l None p q r i = absurd (cc)

-- ---- the induction

-- what a frame taken is: a claim, an acknowledgment, a message
pub claim_taken : (f : FrameRecord) (now : ℕ) (w : Who) (a : ℕ) → stamped f ≡ (now, claim_from w a) → is_claim f ≡ true
claim_taken f now w a e = let z = ap (λ (x : ℕ × Message). x.1.group) e in eq-eqb _ _ z

-- a message's is none of these, nor of a session
pub own_taken : (w : Who) (f : FrameRecord) (now : ℕ) (x : ℕ × Message) → stamped f ≡ (now, x.1) → IsOwn w x.1
    → (is_claim f ≡ false) × (is_acknowledgment f ≡ false) × (is_session f ≡ false)
own_taken w f now x e g = (grind (arith, e), grind (arith, e), grind (arith, e))

pub claim_single : (f : FrameRecord) → is_claim f ≡ true → is_session f ≡ false
claim_single f e = ap (λ (g : ℕ). nat_eq g transport_control_group || nat_eq g transport_data_group) (eqb-true (pgn_of f.id) address_claimed_group e)

-- one of a session is neither
pub plain_session : (f : FrameRecord) → is_session f ≡ true → (is_claim f || is_acknowledgment f) ≡ false
plain_session f e = grind (arith, e)

pub due_taken : (w : Who) (f : FrameRecord) (now : ℕ) (m : Message) → stamped f ≡ (now, m) → IsDue w m
    → (is_claim f ≡ false) × (is_acknowledgment f ≡ true) × (is_session f ≡ false)
due_taken w f now m e g = (grind (arith, e), grind (arith, e), grind (arith, e))

pub sent_is : (H : List Call) (now : ℕ) (f : FrameRecord) (a b p : Bool) → is_claim f ≡ a → is_acknowledgment f ≡ b → is_session f ≡ p
    → sent (At now (TakeFrame (Some f)) ∷ H) ≡ (if a || (b || p) then sent H else sent H ++ message_of f ∷ [])
sent_is H now f a b p e g i = λ j. if e j || (g j || i j) then sent H else sent H ++ message_of f ∷ []

pub reached_is : (H : List Call) (now : ℕ) (f : FrameRecord) (a b p : Bool) → is_claim f ≡ a → is_acknowledgment f ≡ b → is_session f ≡ p
    → reached (At now (TakeFrame (Some f)) ∷ H) ≡ (if a || (b || p) then reached H else past (marks H) (suc (reached H)))
reached_is H now f a b p e g i = λ j. if e j || (g j || i j) then reached H else past (marks H) (suc (reached H))

pub packets_is : (H : List Call) (now : ℕ) (f : FrameRecord) (p : Bool) → is_packet f ≡ p
    → packets (At now (TakeFrame (Some f)) ∷ H) ≡ (if p then packets H ++ message_of f ∷ [] else packets H)
packets_is H now f p e = ap (λ (y : Bool). if y then packets H ++ message_of f ∷ [] else packets H) e

pub pause_is : (H : List Call) (now : ℕ) (f : FrameRecord) (p : Bool) → is_packet f ≡ p
    → pause (At now (TakeFrame (Some f)) ∷ H) ≡ (if p then 150000 else pause H - step H now)
pause_is H now f p e = ap (λ (y : Bool). if y then 150000 else pause H - step H now) e

pub acknowledged_is : (H : List Call) (now : ℕ) (f : FrameRecord) (a b : Bool) → is_claim f ≡ a → is_acknowledgment f ≡ b
    → acknowledged (At now (TakeFrame (Some f)) ∷ H) ≡ (if a || not b then acknowledged H else acknowledged H ++ message_of f ∷ [])
acknowledged_is H now f a b e g = λ i. if e i || not (g i) then acknowledged H else acknowledged H ++ message_of f ∷ []

pub address_is : (w : Who) (H : List Call) (now : ℕ) (f : FrameRecord) (a : Bool) → is_claim f ≡ a
    → address_after w (At now (TakeFrame (Some f)) ∷ H) ≡ (if a then claimed (older (step H now) (address_after w H)) else older (step H now) (address_after w H))
address_is w H now f a e = ap (λ (b : Bool). if b then claimed (older (step H now) (address_after w H)) else older (step H now) (address_after w H)) e

-- beside messages
sound_beside : (w : Who) (H : List Call) (now : ℕ) (f : FrameRecord) (a b p : Bool) → is_claim f ≡ a → is_acknowledgment f ≡ b → is_session f ≡ p → (a || (b || p)) ≡ true
    → IsFront (if a || not b then acknowledged H else acknowledged H ++ message_of f ∷ []) (due w H) → Sound w H → Sound w (At now (TakeFrame (Some f)) ∷ H)
sound_beside w H now f a b p e k n q front h = rests w H (At now (TakeFrame (Some f))) refl refl (
  sent_is H now f a b p e k n ∙ ap (λ (x : Bool). if x then sent H else sent H ++ message_of f ∷ []) q,
  reached_is H now f a b p e k n ∙ ap (λ (x : Bool). if x then reached H else past (marks H) (suc (reached H))) q,
) refl h.reads
    (h.desk.0, subst (λ xs. IsFront xs (due w H)) (sym (acknowledged_is H now f a b e k)) front, h.desk.2) h

sound_send : (w : Who) (H : List Call) (now : ℕ) (f : FrameRecord) (x : ℕ × Message) → is_claim f ≡ false → is_acknowledgment f ≡ false → is_session f ≡ false → holds w H now ≡ true
    → slice_get (accepted w H) (reached H) ≡ Some x → stamped f ≡ (now, x.1) → Sound w H → Sound w (At now (TakeFrame (Some f)) ∷ H)
sound_send w H now f x e k n held g i h =
    let L = accepted w H in
    let more : sent (At now (TakeFrame (Some f)) ∷ H) ≡ sent H ++ x.1 ∷ [] =
    sent_is H now f false false false e k n ∙ ap (λ (y : ℕ × Message). sent H ++ y.1 ∷ []) i in
    let on = reached_is H now f false false false e k n in
    record {
      posts = record {
        own = h.own;
        marked = h.marked;
        next = ap (past (marks H)) on ∙ (past_stops (marks H) (suc (reached H)) ∙ sym on);
        passed = (let a = past_within (marks H) (suc (reached H)) (let b = slice_get_within L (reached H) x g in let c = many_marks w H h in omega (arith, b, c)) in
            let c = many_marks w H h in omega (arith, a, c, on));
        in_order = more ∙ (ap (λ xs. xs ++ x.1 ∷ []) h.in_order
            ∙ (sym (map-append content (unblanked (take (reached H) L)) (x ∷ []))
            ∙ ap (map content) (sym (unblanked_more L (reached H) x g (next_stays w H x h g))
            ∙ (sym (unblanked_past L (suc (reached H))) ∙ (λ j. unblanked (take (past (sym h.marked j) (suc (reached H))) L)) ∙ ap (λ (m : ℕ). unblanked (take m L)) (sym on)))));
        numbered = h.numbered;
      };
      within = h.within;
      in_turn = λ l. (let a = h.in_turn (holding_not_lost w H now held) in let b = past_more (marks H) (suc (reached H)) in omega (arith, a, b, on));
      reads = h.reads;
      desk = (h.desk.0, subst (λ xs. IsFront xs (due w H)) (sym (acknowledged_is H now f false false e k)) h.desk.1, h.desk.2);
    }

sound_frame : (w : Who) (H : List Call) (now : ℕ) (f : FrameRecord) → AreAnswered w H → FrameCase w H now f → Sound w H → Sound w (At now (TakeFrame (Some f)) ∷ H)
sound_frame w H now f right (claims owes e) h = sound_beside w H now f true _ _ (claim_taken f now w _ e) refl refl refl h.desk.1 h
sound_frame w H now f right (acknowledges m owes held g e way) h =
    let k = due_taken w f now m e (all_at (IsDue w) (due w H) (length (acknowledged H)) m h.desk.0 g) in
    sound_beside w H now f false true _ k.0 k.1 k.2 refl
    (subst (λ (y : Message). IsFront (acknowledged H ++ y ∷ []) (due w H)) (sym (ap content e)) (front_longer (acknowledged H) (due w H) m h.desk.1 g)) h
sound_frame w H now f right (replies m owes held none g e) h =
    let k = reply_taken w.address f now m e (reply_of w H 0 m g) in
    sound_beside w H now f false false true k.0 k.1 k.2 refl h.desk.1 h
sound_frame w H now f right (sends x owes held none g e) h =
    let own = own_taken w f now x e (next_own w H x h g) in sound_send w H now f x own.0 own.1 own.2 held g e h
sound_frame w H now f right (packs m owes held none g e) h =
    let is = packet_taken f now m (open_broadcast w H) (length (packets H)) (pause H - step H now) e g in
    sound_beside w H now f false false true is.0 is.1 (packet_session f is.2).0 refl h.desk.1 h
sound_frame w H now f right (transfers m owes held none g e) h =
    let is = transfer_taken w H now f m right e g in sound_beside w H now f false false true is.claim is.plain is.session refl h.desk.1 h

sound_accept : (w : Who) (H : List Call) (now k : ℕ) (d : Draft) → can_send w d ≡ true → k ≡ length (accepted w H) → Sound w H → Sound w (At now (Send d (Ok k)) ∷ H)
sound_accept w H now k d e g h = record {
  posts = record {
    own = All-push (Stays w) (accepted w H) (k, message_from w d) h.own (λ z. is_own w d e);
    marked = ap (λ bs. bs ++ false ∷ []) h.marked
        ∙ (ap (λ (b : Bool). map is_blank (accepted w H) ++ b ∷ []) (sym (is_own w d e).group) ∙ sym (map-append is_blank (accepted w H) ((k, message_from w d) ∷ [])));
    next = stops_append (marks H) (reached H) (let a = many_marks w H h in let b = h.passed in omega (arith, a, b)) h.next;
    passed = (let a = h.passed in let b = length_one_more (accepted w H) (k, message_from w d) in omega (arith, a, b));
    in_order = h.in_order ∙ ap (λ xs. map content (unblanked xs)) (sym (take-append-le (reached H) (accepted w H) ((k, message_from w d) ∷ []) h.passed));
    numbered = λ i x f. elim (get_append (accepted w H) (k, message_from w d) i x f) [
      | inl old ↦ h.numbered i x old
      | inr new ↦ sym (ap (λ (y : ℕ × Message). y.0) new.1) ∙ (g ∙ sym new.0)
    ];
  };
  within = (let a = h.within in let b = length_one_more (accepted w H) (k, message_from w d) in omega (arith, a, b));
  in_turn = λ l. h.in_turn (sym (lost_older (step H now) (address_after w H)) ∙ l);
  reads = h.reads;
  desk = h.desk;
}

sound_ask : (w : Who) (H : List Call) (now k group to : ℕ) → can_ask w group to ≡ true → k ≡ length (accepted w H) → Sound w H → Sound w (At now (Ask group to (Ok k)) ∷ H)
sound_ask w H now k group to e g h =
    let s = sound_accept w H now k (request_for group to) (sendable w group to e) g h in
    record { posts = s.posts; within = s.within; in_turn = s.in_turn; reads = s.reads; desk = s.desk }

sound_ended : (w : Who) (H : List Call) (x : ℕ × Ending) → Told w H x.0 x.1 → Sound w H → Sound w (TakeEnded (Some x) ∷ H)
sound_ended w H x t h = record {
  posts = h.posts;
  within = (let a = slice_get_within (accepted w H) (length (told H)) (x.0, t.message) t.at in let b = length_one_more (told H) x in omega (arith, a, b));
  in_turn = λ i. (let b = length_one_more (told H) x in elim t.over [ inl l ↦ omega (arith, b, l) | inr l ↦ absurd (not_both _ i l) ]);
  reads = h.reads;
  desk = h.desk;
}

kept_grows : {T : Type 0} (b : Bool) (xs : List T) (x : T) (ys : List T) → IsFront ys xs → IsFront ys (if b then xs ++ x ∷ [] else xs)
kept_grows true xs x ys h = front_append ys xs x h
kept_grows false xs x ys h = h

-- ---- requests

refusal_due : (w : Who) (room place : Bool) (o : Option Asked) (xs : List Message) → All (IsDue w) xs → All (IsDue w) (with_refusal w room place o xs)
refusal_due w room place None xs h = h
refusal_due w room place (Some r) xs h =
    cond_both ((nat_eq r.destination w.address && place) && not (is_served w r.group && room)) _ _ (All (IsDue w)) (λ e. due_append w xs _ r h) (λ e. h)

refusal_front : (w : Who) (room place : Bool) (o : Option Asked) (xs ys : List Message) → IsFront ys xs → IsFront ys (with_refusal w room place o xs)
refusal_front w room place None xs ys h = h
refusal_front w room place (Some r) xs ys h = kept_grows ((nat_eq r.destination w.address && place) && not (is_served w r.group && room)) xs _ ys h

request_front : (w : Who) (room : Bool) (o : Option Asked) (xs ys : List Asked) → IsFront ys xs → IsFront ys (with_request w room o xs)
request_front w room None xs ys h = h
request_front w room (Some r) xs ys h = kept_grows (is_served w r.group && room) xs r ys h

heard_desk : (w : Who) (H : List Call) (when : ℕ) (f : FrameRecord) → Desked w H → Desked w (At when (Hear f) ∷ H)
heard_desk w H when f h =
    let room = nat_lt (length (requests w H) - length (handed H)) 16 in
    let o = fresh w (drop (length (handed H)) (requests w H)) (asked w (holds w H when) f) in
    let place = nat_lt (length (due w H) - length (acknowledged H)) 16 && not (is_refusal_due w (drop (length (acknowledged H)) (due w H)) o) in (
      refusal_due w room place o (due w H) h.0,
      refusal_front w room place o (due w H) (acknowledged H) h.1,
      request_front w room o (requests w H) (handed H) h.2,
    )

-- which message is renewed

pub record RenewCase (w : Who) (H : List Call) (d : Draft) (k : ℕ) : Type 0 where
  pub can : can_send w d ≡ true
  pub is : latest (message_from w d) (max (reached H) (length (told H))) 0 (accepted w H) None ≡ Some k
  pub at : IsLatest (message_from w d) (max (reached H) (length (told H))) 0 k (accepted w H)

pub renew_case : (w : Who) (H : List Call) (d : Draft) (k : ℕ) → Some k ≡ next_renewed w H d → RenewCase w H d k
renew_case w H d k = cond_both (can_send w d) _ _ (λ (o : Option ℕ). Some k ≡ o → RenewCase w H d k)
    (λ c i. record { can = c; is = sym i; at = elim (latest_is (message_from w d) (max (reached H) (length (told H))) 0 k (accepted w H) None (sym i)) [ inl z ↦ absurd (cc) | inr z ↦ z ] })
    (λ c i. absurd (cc))

set_numbered : (xs : List (ℕ × Message)) (k : ℕ) (m : Message) → ((i : ℕ) (x : ℕ × Message) → slice_get xs i ≡ Some x → x.0 ≡ i)
    → (i : ℕ) (x : ℕ × Message) → slice_get (slice_set xs k (k, m)) i ≡ Some x → x.0 ≡ i
set_numbered xs k m h i x e = elim (set_get xs k i (k, m) x e) [ inl z ↦ ap (λ (y : ℕ × Message). y.0) (sym z.1) ∙ sym z.0 | inr z ↦ h i x z ]

sound_renewed : (w : Who) (H : List Call) (d : Draft) (k : ℕ) → RenewCase w H d k → Sound w H → Sound w (Renew d (Some k) ∷ H)
sound_renewed w H d k c h = record {
  posts = record {
    own = All-set (Stays w) (accepted w H) k (k, message_from w d) (λ z. is_own w d c.can) h.own;
    marked = h.marked ∙ sym (map-set is_blank (accepted w H) k (k, message_from w d)
        ∙ (ap (slice_set (map is_blank (accepted w H)) k) plain ∙ set_same (map is_blank (accepted w H)) k false (slice_get-map is_blank (accepted w H) k ∙ there)));
    next = h.next;
    passed = (let a = h.passed in let b = length-set (accepted w H) k (k, message_from w d) in omega (arith, a, b));
    in_order = h.in_order ∙ ap (λ xs. map content (unblanked xs)) (sym (take-set-le (reached H) (accepted w H) k (k, message_from w d) (let l = c.at.from in omega (arith, l))));
    numbered = set_numbered (accepted w H) k (message_from w d) h.numbered;
  };
  within = (let a = h.within in let b = length-set (accepted w H) k (k, message_from w d) in omega (arith, a, b));
  in_turn = h.in_turn;
  reads = h.reads;
  desk = h.desk;
}
  where
    plain : is_blank (k, message_from w d) ≡ false
    plain = (is_own w d c.can).group

    there : option_map is_blank (slice_get (accepted w H) k) ≡ Some false
    there = ap (option_map is_blank) (ap (slice_get (accepted w H)) (let z : k ≡ k - 0 = omega arith in z) ∙ c.at.is)
        ∙ ap Some (sym (ap (λ (g : ℕ). nat_eq g address_claimed_group) (eqb-true (message_from w d).group c.at.entry.1.group
        (and_parts (nat_eq d.priority c.at.entry.1.priority) _ (and_parts (nat_eq d.priority c.at.entry.1.priority && nat_eq d.group c.at.entry.1.group) _ c.at.alike).0).1)) ∙ plain)

-- which message is withdrawn

pub record WithdrawCase (w : Who) (H : List Call) (k : ℕ) : Type 0 where
  pub entry : ℕ × Message
  pub kept : is_lost (address_after w H) ≡ false
  pub from : reached H ≤ k
  pub is : slice_get (accepted w H) k ≡ Some entry
  pub stays : is_blank entry ≡ false
  pub plain : nat_eq entry.1.group request_group ≡ false

pub withdraw_case : (w : Who) (H : List Call) (k : ℕ) → true ≡ next_withdrawn w H k → WithdrawCase w H k
withdraw_case w H k e =
    let a = and_parts (not (is_lost (address_after w H))) _ (sym e) in
    let c = and_parts (nat_le (reached H) k) _ a.1 in
    let x = there (slice_get (accepted w H) k) c.1 in
    record { entry = x.0; kept = not-true _ a.0; from = leb-true _ _ c.0; is = x.1; stays = x.2.0; plain = x.2.1 }
  where
    there : (o : Option (ℕ × Message)) → may_go o ≡ true → (x : ℕ × Message) × (o ≡ Some x) × ((is_blank x ≡ false) × (nat_eq x.1.group request_group ≡ false))
    there None i = absurd (cc)
    there (Some x) i = (x, refl, or_parts _ _ (not-true _ i))

sound_withdrawn : (w : Who) (H : List Call) (k : ℕ) → WithdrawCase w H k → Sound w H → Sound w (Withdraw k true ∷ H)
sound_withdrawn w H k c h =
    let L = accepted w H in
    let bs = slice_set (marks H) k true in
    let marked : bs ≡ map is_blank (slice_set L k (k, blank)) = ap (λ xs. slice_set xs k true) h.marked ∙ sym (map-set is_blank L k (k, blank)) in
    let long : length bs ≡ length L = length-set (marks H) k true ∙ many_marks w H h in
    record {
      posts = record {
        own = All-set (Stays w) L k (k, blank) (λ z. absurd (let y : true ≡ false = z in cc)) h.own;
        marked = marked;
        next = past_stops bs (reached H);
        passed = (let a = past_within bs (reached H) (let b = h.passed in omega (arith, b, long)) in let b = length-set L k (k, blank) in omega (arith, a, b, long));
        in_order = h.in_order ∙ ap (map content) (ap unblanked (sym (take-set-le (reached H) L k (k, blank) c.from))
            ∙ (sym (unblanked_past (slice_set L k (k, blank)) (reached H)) ∙ λ i. unblanked (take (past (sym marked i) (reached H)) (slice_set L k (k, blank)))));
        numbered = set_numbered L k blank h.numbered;
      };
      within = (let a = h.within in let b = length-set L k (k, blank) in omega (arith, a, b));
      in_turn = λ l. (let a = h.in_turn l in let b = past_more bs (reached H) in omega (arith, a, b));
      reads = h.reads;
      desk = h.desk;
    }

sound_more : (w : Who) (H : List Call) (call : Call) → AreAnswered w H → IsAnswered w H call → Sound w H → Sound w (call ∷ H)
sound_more w H (At when (Hear f)) right e h =
    rests w H (At when (Hear f)) refl refl (refl, refl) refl (kept_grows _ (kept w H) (f.stamp, message_of f) (got H) h.reads) (heard_desk w H when f h.desk) h
sound_more w H (At now (TakeFrame (Some f))) right e h = sound_frame w H now f right (frame_case w H now f e) h
sound_more w H (At now (Send d (Ok k))) right e h = let x = send_accepts w H now k d e in sound_accept w H now k d x.1 x.3 h
sound_more w H (At now (Ask group to (Ok k))) right e h = let x = ask_accepts w H now group to k e in sound_ask w H now k group to x.1 x.3 h
sound_more w H (TakeEnded (Some x)) right e h = sound_ended w H x (told_case w H x.0 x.1 e) h
sound_more w H (TakeReceived (Some x)) right e h =
    rests w H (TakeReceived (Some x)) refl refl (refl, refl) refl (front_longer (got H) (kept w H) x h.reads (sym e)) h.desk h
sound_more w H (TakeRequest (Some r)) right e h =
    rests w H (TakeRequest (Some r)) refl refl (refl, refl) refl h.reads (h.desk.0, h.desk.1, front_longer (handed H) (requests w H) r h.desk.2 (sym e)) h
sound_more w H (At now (Acknowledge r answer (Ok x))) right e h = rests w H (At now (Acknowledge r answer (Ok x))) refl refl (refl, refl) refl h.reads
    (due_append w (due w H) answer r h.desk.0, front_append (acknowledged H) (due w H) (acknowledgment w answer r) h.desk.1, h.desk.2) h
sound_more w H (Withdraw k true) right e h = sound_withdrawn w H k (withdraw_case w H k e) h
sound_more w H (Renew d (Some k)) right e h = sound_renewed w H d k (renew_case w H d k e) h
sound_more w H call right e h = rests w H call refl refl (refl, refl) refl h.reads h.desk h

pub sound : (w : Who) (H : List Call) → AreAnswered w H → Sound w H
sound w [] e = record {
  posts = record { own = All-nil (Stays w); marked = refl; next = refl; passed = omega arith; in_order = refl; numbered = λ i x e. absurd (cc) };
  within = omega arith;
  in_turn = λ l. omega arith;
  reads = ([], refl);
  desk = (All-nil (IsDue w), ([], refl), ([], refl));
}
sound w (call ∷ H) e = sound_more w H call e.0 e.1 (sound w H e.0)

-- the message that is next is its own
pub own_of : (w : Who) (H : List Call) (x : ℕ × Message) → AreAnswered w H → slice_get (accepted w H) (reached H) ≡ Some x → IsOwn w x.1
own_of w H x right e = next_own w H x (sound w H right) e

-- ---- a request that is accepted stays where it is

pub grows_on : (w : Who) (H : List Call) (call : Call) (n : ℕ) (x : ℕ × Message) → IsAnswered w H call → nat_eq x.1.group request_group ≡ true
    → slice_get (accepted w H) n ≡ Some x → slice_get (accepted w (call ∷ H)) n ≡ Some x
grows_on w H (At now (Send draft (Ok k))) n x right r e = get_front (accepted w H) _ n x e
grows_on w H (At now (Ask group to (Ok k))) n x right r e = get_front (accepted w H) _ n x e
grows_on w H (Withdraw k true) n x right r e = set_other (accepted w H) k n (k, blank) apart ∙ e
  where
    case : WithdrawCase w H k
    case = withdraw_case w H k right

    apart : n ≡ k → ⊥
    apart z = grind (arith, z)
grows_on w H (Renew draft (Some k)) n x right r e = set_other (accepted w H) k n (k, message_from w draft) (λ z. apart (renew_case w H draft k right).at z) ∙ e
  where
    apart : IsLatest (message_from w draft) (max (reached H) (length (told H))) 0 k (accepted w H) → n ≡ k → ⊥
    apart at z = no_request (message_from w draft) at.entry.1 at.alike
        (ap (λ (y : ℕ × Message). nat_eq y.1.group request_group) (let s : at.entry ≡ x = same at z in s) ∙ r)
      where
        same : (at : IsLatest (message_from w draft) (max (reached H) (length (told H))) 0 k (accepted w H)) → n ≡ k → at.entry ≡ x
        same at z = grind (arith, z)
grows_on w H call n x right r e = e

-- so does the open one's
abbrev RequestAt : Who → List Call → ℕ → Type 0
RequestAt w H k = (x : ℕ × Message) × (slice_get (accepted w H) k ≡ Some x) × (nat_eq x.1.group request_group ≡ true)

request_new : (w : Who) (H : List Call) (now group to k : ℕ) → Ok k ≡ answer_to_ask w H now group to → RequestAt w (At now (Ask group to (Ok k)) ∷ H) k
request_new w H now group to k e =
    let z = (ask_accepts w H now group to k e).3 in (x, ap (slice_get (accepted w H ++ x ∷ [])) z ∙ get_last (accepted w H) x, refl)
  where
    x : ℕ × Message
    x = (k, message_from w (request_for group to))

request_on : (w : Who) (H : List Call) (q : Question) (call : Call) → (open_ask H ≡ Some q → RequestAt w H q.token) → IsAnswered w H call
    → open_ask (call ∷ H) ≡ Some q → RequestAt w (call ∷ H) q.token
request_on w H q (At now (Ask group to (Ok k))) h right i =
    let y : question k group to ≡ q = cc in
    subst (RequestAt w (At now (Ask group to (Ok k)) ∷ H)) (ap (λ (u : Question). u.token) y) (request_new w H now group to k right)
request_on w H q (TakeAskEnded (Some x)) h right i = absurd (cc)
request_on w H q call h right i = let x = h i in (x.0, grows_on w H call q.token x.0 right x.2 x.1, x.2)

request_at : (w : Who) (H : List Call) → AreAnswered w H → (q : Question) → open_ask H ≡ Some q → RequestAt w H q.token
request_at w [] a q e = absurd (cc)
request_at w (call ∷ H) a q e = request_on w H q call (request_at w H a.0 q) a.1 e

-- and isn't withdrawn
pub request_stays : (w : Who) (H : List Call) → AreAnswered w H → (q : Question) → open_ask H ≡ Some q → slice_get (marks H) q.token ≡ Some false
request_stays w H a q e =
    let x = request_at w H a q e in
    ap (λ bs. slice_get bs q.token) (sound w H a).marked
    ∙ (slice_get-map is_blank (accepted w H) q.token ∙ (ap (option_map is_blank) x.1
    ∙ ap (λ (g : ℕ). (let o : Option Bool = Some (nat_eq g address_claimed_group) in o)) (eqb-true x.0.1.group request_group x.2)))

-- a frame of a message is taken: the open request is, if it is its
pub passes_request : (w : Who) (H : List Call) → AreAnswered w H → (q : Question) → open_ask H ≡ Some q
    → nat_lt q.token (past (marks H) (suc (reached H))) ≡ nat_lt q.token (suc (reached H))
passes_request w H a q e = unpassed (marks H) (suc (reached H)) q.token (request_stays w H a q e)
