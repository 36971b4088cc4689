-- What a frame makes of the transfer that is open from an address.
use Rattle.std.proofs.Common.{[], if◌then◌else◌, ◌++◌, ◌&&◌, ◌+◌, ◌==◌, ◌∙◌, ◌∷◌, ◌≡◌, ◌≢◌, ap, arith, Bool, eq-eqb, eqb-true, false, List, None, not, Option, refl, Some, subst, suc, sym, true, ℕ}
use Rattle.std.proofs.lemmas.Bool.{cond_both}
use Rattle.std.specs.Option.{option_map}
use Rattle.j39_frame.specs.Frame.{FrameRecord}
use Rattle.j39_frame.specs.Identifier.{source_of}
use Rattle.j39_transport.specs.Frames as frames
use Rattle.j39_transport.specs.Key.{Directed}
use Rattle.j39_transport.specs.Message.{MessageRecord}
use Rattle.j39_transport.specs.Receiving.{Heard, ReceiverRecord, recv_step, RecvResult, result_of, said_to}
use Rattle.j39_transport.specs.Reception.{asks_again, begun, delivers_message, goes_on, granted_at, grants, is_from, message_of, quiet, Reaction, ReceptionRecord, takes_abort, takes_data, takes_packet, takes_request, takes_signal, takes_tick}
use Rattle.j39_transport.specs.Session.{grown, opened, SessionRecord, touched}
use Rattle.j39_transport.specs.Signals.{Abort, Acknowledgment, BroadcastAnnounce, ClearToSend, Packet, RequestToSend, Signal}
use Rattle.j39_sessions.specs.Sessions.{fewest, listed, number_in, receiving, Session, session_ticked, step_at, strays}
use Rattle.j39_sessions.proofs.StepLemmas.{hushed, quiet_step, said_narrowed, with_most}

-- it asks for nothing to be sent
abbrev pub IsNoRts : Option Signal → Type 0
IsNoRts s = (size packets most pgn : ℕ) → s ≢ Some (RequestToSend size packets most pgn)

-- by what its source says: it ends, or stays, one is requested in its place, the next packet is appended, or it is whole by that
pub data Step (a d : ℕ) (s : Option Signal) : Option SessionRecord → Option SessionRecord → List MessageRecord → Type 0 where
  ends : (o : Option SessionRecord) → Step a d s o None []
  stays : (o : Option SessionRecord) → IsNoRts s → Step a d s o o []
  opens : (o : Option SessionRecord) (size packets most pgn : ℕ) → s ≡ Some (RequestToSend size packets most pgn)
      → Step a d s o (Some (opened (Directed a d) pgn size packets 0)) []
  grows : (x : SessionRecord) (part : List ℕ) → s ≡ Some (Packet (suc x.count) part) → Step a d s (Some x) (Some (grown 0 part x)) []
  makes : (x : SessionRecord) (part : List ℕ) → s ≡ Some (Packet (suc x.count) part) → suc x.count ≡ x.packets
      → Step a d s (Some x) None (message_of (grown 0 part x) ∷ [])

pub loses : (a d : ℕ) (s : Option Signal) (o p : Option SessionRecord) (made : List MessageRecord) → Step a d s o p made → Step a d s o None made
loses a d s o p made (Step.ends q) = Step.ends q
loses a d s o p made (Step.stays q n) = Step.ends q
loses a d s o p made (Step.opens q size packets most pgn e) = Step.ends q
loses a d s o p made (Step.grows x part e) = Step.ends (Some x)
loses a d s o p made (Step.makes x part e w) = Step.makes x part e w

-- what is open, but for its times
abbrev pub bare : Option ReceptionRecord → Option SessionRecord
bare o = option_map (λ r. touched 0 r.message) o

-- ---- a signal

abbrev Reacts : ℕ → ℕ → Option Signal → Option ReceptionRecord → Reaction → Type 0
Reacts a d s o x = Step a d s (bare o) (bare x.session) (listed x.delivers)

same_number : (r : ReceptionRecord) (k : ℕ) (part : List ℕ) → (k == r.message.count + 1) ≡ true → (let s : Option Signal = Some (Packet k part) in s) ≡ Some (Packet (suc r.message.count) part)
same_number r k part e = let z = eqb-true _ _ e in ap (λ (n : ℕ). (let s : Option Signal = Some (Packet n part) in s)) (let y : k ≡ suc r.message.count = omega (arith, z) in y)

by_packet : (a d now k : ℕ) (part : List ℕ) (r : ReceptionRecord) → Reacts a d (Some (Packet k part)) (Some r) (takes_packet k part now r)
unfolding takes_packet goes_on delivers_message asks_again grants granted_at
by_packet a d now k part r =
    cond_both (k == r.message.count + 1) _ _ (Reacts a d (Some (Packet k part)) (Some r))
    (λ e. cond_both (suc r.message.count == r.message.packets) _ _ (Reacts a d (Some (Packet k part)) (Some r))
    (λ w. Step.makes (touched 0 r.message) part (same_number r k part e) (eqb-true _ _ w))
    (λ w. cond_both (suc r.message.count == r.granted) _ _ (Reacts a d (Some (Packet k part)) (Some r))
    (λ g. Step.grows (touched 0 r.message) part (same_number r k part e)) (λ g. Step.grows (touched 0 r.message) part (same_number r k part e))))
    (λ e. cond_both (k == r.granted) _ _ (Reacts a d (Some (Packet k part)) (Some r))
    (λ g. cond_both (r.asks == 2) _ _ (Reacts a d (Some (Packet k part)) (Some r))
    (λ t. Step.ends (bare (Some r))) (λ t. Step.stays (bare (Some r)) (λ size packets most pgn z. absurd (cc))))
    (λ g. Step.stays (bare (Some r)) (λ size packets most pgn z. absurd (cc))))

by_signal : (a d most now : ℕ) (s : Option Signal) (found : Bool) (o : Option ReceptionRecord) → ((r : ReceptionRecord) → o ≡ Some r → (r.message.source ≡ a) × (found ≡ true))
    → Reacts a d s o (takes_signal (Directed a d) (with_most most s) now found o)
unfolding takes_signal takes_data takes_abort takes_request begun grants granted_at
by_signal a d most now None found o h = Step.stays (bare o) (λ size packets asked pgn z. absurd (cc))
by_signal a d most now (Some (BroadcastAnnounce size packets pgn)) found o h = Step.stays (bare o) (λ size packets asked pgn z. absurd (cc))
by_signal a d most now (Some (ClearToSend count next pgn)) found o h = Step.stays (bare o) (λ size packets asked pgn z. absurd (cc))
by_signal a d most now (Some (Acknowledgment size packets pgn)) found o h = Step.stays (bare o) (λ size packets asked pgn z. absurd (cc))
by_signal a d most now (Some (Abort reason pgn)) found None h = Step.ends None
by_signal a d most now (Some (Abort reason pgn)) found (Some r) h =
    cond_both (is_from a r && pgn == r.message.group) (quiet None) (quiet (Some r)) (Reacts a d (Some (Abort reason pgn)) (Some r)) (λ t. Step.ends (bare (Some r))) (λ t. Step.stays (bare (Some r)) (λ size packets asked pgn z. absurd (cc)))
by_signal a d most now (Some (Packet k part)) found None h = Step.ends None
by_signal a d most now (Some (Packet k part)) found (Some r) h =
    subst (λ (t : Bool). Reacts a d (Some (Packet k part)) (Some r) (if t then takes_packet k part now r else quiet (Some r)))
    (sym (eq-eqb a r.message.source (sym (h r refl).0))) (by_packet a d now k part r)
by_signal a d most now (Some (RequestToSend size packets asked pgn)) true None h = Step.opens None size packets asked pgn refl
by_signal a d most now (Some (RequestToSend size packets asked pgn)) false None h = Step.ends None
by_signal a d most now (Some (RequestToSend size packets asked pgn)) true (Some r) h =
    subst (λ (t : Bool). Reacts a d (Some (RequestToSend size packets asked pgn)) (Some r)
    (if not t then record { session = Some r; says = Some (Abort 1 pgn); delivers = None } else grants now (begun (opened (Directed a d) pgn size packets now) (fewest most asked))))
    (sym (eq-eqb a r.message.source (sym (h r refl).0))) (Step.opens (bare (Some r)) size packets asked pgn refl)
by_signal a d most now (Some (RequestToSend size packets asked pgn)) false (Some r) h = absurd (let z = (h r refl).1 in cc)

-- ---- a frame

not_strays : (s : Option Signal) (o : Option ReceptionRecord) → strays (number_in s) o ≡ true → IsNoRts s
not_strays s o e size packets most pgn z = absurd (let y : true ≡ false = sym e ∙ ap (λ (t : Option Signal). strays (number_in t) o) z in cc)

abbrev Steps : ℕ → FrameRecord → Option Session → RecvResult → Type 0
Steps own f o x = Step (source_of f.id) own (said_to own f) (bare (receiving o)) (bare x.after.session) (listed x.delivers)

-- of its source, where its message has room
pub steps : (own most : ℕ) (room : Bool) (f : FrameRecord) (now : ℕ) (o : Option Session)
    → ((r : ReceptionRecord) → receiving o ≡ Some r → (r.message.source ≡ source_of f.id) × (room ≡ true))
    → Steps own f o (step_at own most room f now o)
unfolding recv_step frames.source_of
steps own most room f now o h =
    cond_both (strays (number_in (said_to own f)) (receiving o)) _ _
    (λ bytes. Steps own f o (recv_step r (Heard (record { stamp = f.stamp; id = f.id; bytes = bytes })) now room))
    (λ e. subst (Steps own f o) (sym (quiet_step r (record { stamp = f.stamp; id = f.id; bytes = [] }) now room (hushed own f.stamp f.id)))
    (Step.stays (bare (receiving o)) (not_strays (said_to own f) (receiving o) e)))
    (λ e. subst (λ (s : Option Signal). Steps own f o (result_of own (source_of f.id) (takes_signal (Directed (source_of f.id) own) s now room (receiving o)))) (sym (said_narrowed own most f))
    (by_signal (source_of f.id) own most now (said_to own f) room (receiving o) h))
  where
    r : ReceiverRecord
    r = record { own = own; session = receiving o }

-- ---- a tick

-- ends it, or leaves it but for its times
pub ticked : (own now : ℕ) (x y : Session) → session_ticked own now x ≡ Some y → touched 0 y.reception.message ≡ touched 0 x.reception.message
unfolding recv_step takes_tick asks_again grants granted_at
ticked own now x y e = grind (arith, e)

-- ---- what is asked and what is whole, in order

-- none for a request
abbrev pub mark : Option Signal → List (Option MessageRecord)
mark (Some (RequestToSend size packets most pgn)) = None ∷ []
mark other = []

abbrev pub somes : List (Option MessageRecord) → List MessageRecord
somes [] = []
somes (None ∷ T) = somes T
somes (Some m ∷ T) = m ∷ somes T

abbrev pub all_some : List MessageRecord → List (Option MessageRecord)
all_some [] = []
all_some (m ∷ ms) = Some m ∷ all_some ms

pub somes_more : (T U : List (Option MessageRecord)) → somes (T ++ U) ≡ somes T ++ somes U
somes_more [] U = refl
somes_more (None ∷ T) U = somes_more T U
somes_more (Some m ∷ T) U = ap (λ v. m ∷ v) (somes_more T U)

somes_all : (ms : List MessageRecord) → somes (all_some ms) ≡ ms
somes_all [] = refl
somes_all (m ∷ ms) = ap (λ v. m ∷ v) (somes_all ms)

somes_mark : (s : Option Signal) → somes (mark s) ≡ []
somes_mark None = refl
somes_mark (Some (BroadcastAnnounce size packets pgn)) = refl
somes_mark (Some (RequestToSend size packets most pgn)) = refl
somes_mark (Some (ClearToSend count next pgn)) = refl
somes_mark (Some (Acknowledgment size packets pgn)) = refl
somes_mark (Some (Abort reason pgn)) = refl
somes_mark (Some (Packet number part)) = refl

pub somes_step : (s : Option Signal) (ms : List MessageRecord) → somes (mark s ++ all_some ms) ≡ ms
somes_step s ms = somes_more (mark s) (all_some ms) ∙ λ i. somes_mark s i ++ somes_all ms i

pub no_mark : (s : Option Signal) → IsNoRts s → mark s ≡ []
no_mark None n = refl
no_mark (Some (BroadcastAnnounce size packets pgn)) n = refl
no_mark (Some (RequestToSend size packets most pgn)) n = absurd (n size packets most pgn refl)
no_mark (Some (ClearToSend count next pgn)) n = refl
no_mark (Some (Acknowledgment size packets pgn)) n = refl
no_mark (Some (Abort reason pgn)) n = refl
no_mark (Some (Packet number part)) n = refl
