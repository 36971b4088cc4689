-- What a sender says, and what it makes of an answer.
use Rattle.std.proofs.Common.{◌≡◌, ℕ, ◌+◌, ◌^◌, ◌<◌, ◌≤◌, ◌==◌, nat_lt, nat_le, Bool, true, false, ◌&&◌, List, length, Option, Some, None, refl, sym, ap, ◌∙◌, subst, arith, le-leb, lt-ltb, eq-eqb}
use Rattle.std.proofs.lemmas.Bool.{cond_both}
use Rattle.std.specs.Option.{option_map}
use Rattle.j39_transport.specs.Cutting.{packet_data}
use Rattle.j39_transport.specs.Frames.{agree}
use Rattle.j39_transport.specs.Message.{MessageRecord, IsLong, packets_of}
use Rattle.j39_transport.specs.Net.{handed_back}
use Rattle.j39_transport.specs.Sending.{SenderRecord, SendState, SendResult, Idle, Waiting, Sending, Done, Failed, sends_packet, ticks_in, is_idle, is_waiting, is_running, is_done, may_name, cleared, acknowledged, aborted, hears}
use Rattle.j39_transport.specs.Signals.{Signal, BroadcastAnnounce, RequestToSend, ClearToSend, Acknowledgment, Abort, Packet, written}
use Rattle.j39_transport.proofs.PacketLemmas.{packet_length}
use Rattle.j39_transport.proofs.SignalLemmas.{CanSay, heard_by_sender}

-- ---- a tick

-- what a sender of the message may say; an RTS where it was idle alone
abbrev pub IsOwn : MessageRecord → Bool → Signal → Type 0
IsOwn m idle (BroadcastAnnounce size packets pgn) = ⊥
IsOwn m idle (RequestToSend size packets most pgn) = (idle ≡ true) × (size ≡ length m.bytes) × (packets ≡ packets_of m) × (pgn ≡ m.pgn)
IsOwn m idle (Packet k part) = part ≡ packet_data m.bytes k
IsOwn m idle (Abort reason pgn) = pgn ≡ m.pgn
IsOwn m idle (ClearToSend count next pgn) = ⊥
IsOwn m idle (Acknowledgment size packets pgn) = ⊥

abbrev pub OwnIf : MessageRecord → Bool → Option Signal → Type 0
OwnIf m idle None = Unit {0}
OwnIf m idle (Some a) = IsOwn m idle a

pub record Ticked (s : SenderRecord) (r : SendResult) : Type 0 where
  pub message_is : r.after.message ≡ s.message
  pub destination_is : r.after.destination ≡ s.destination
  pub done_is : is_done s.state ≡ false → is_done r.after.state ≡ false
  pub idle_is : is_idle r.after.state ≡ false
  pub says_own : OwnIf s.message (is_idle s.state) r.says

pub ticked : (s : SenderRecord) (st : SendState) (now : ℕ) → s.state ≡ st → Ticked s (ticks_in st now s)
unfolding ticks_in sends_packet
ticked s Idle now e = record { message_is = refl; destination_is = refl; done_is = λ d. refl; idle_is = refl; says_own = (ap is_idle e, refl, refl, refl) }
ticked s (Waiting limit) now e = cond_both (nat_lt (s.since + limit) now) _ _ (Ticked s)
    (λ t. record { message_is = refl; destination_is = refl; done_is = λ d. refl; idle_is = refl; says_own = refl })
    (λ t. record { message_is = refl; destination_is = refl; done_is = λ d. d; idle_is = ap is_idle e; says_own = tt })
ticked s (Sending next last) now e = record {
  message_is = refl;
  destination_is = refl;
  done_is = λ d. cond_both (next == last) _ _ (λ (t : SendState). is_done t ≡ false) (λ t. refl) (λ t. refl);
  idle_is = cond_both (next == last) _ _ (λ (t : SendState). is_idle t ≡ false) (λ t. refl) (λ t. refl);
  says_own = refl;
}
ticked s Done now e = record { message_is = refl; destination_is = refl; done_is = λ d. d; idle_is = ap is_idle e; says_own = tt }
ticked s (Failed reason) now e = record { message_is = refl; destination_is = refl; done_is = λ d. d; idle_is = ap is_idle e; says_own = tt }

pub pgn_fits : (m : MessageRecord) (pgn : ℕ) → IsLong m → pgn ≡ m.pgn → pgn < 16777216
pgn_fits m pgn l e = let d : m.pgn < 2 ^ 18 = l.message.pgn in omega arith

agrees : (m : MessageRecord) → IsLong m → agree (length m.bytes) (packets_of m) m.pgn ≡ true
agrees m l =
    let a : nat_le 9 (length m.bytes) ≡ true = le-leb _ _ l.least in
    let b : nat_le (length m.bytes) 1785 ≡ true = le-leb _ _ l.message.most in
    let c : (packets_of m == packets_of m) ≡ true = eq-eqb _ _ refl in
    let d : nat_lt m.pgn (2 ^ 18) ≡ true = lt-ltb _ _ l.message.pgn in
    λ i. a i && b i && c i && d i

pub own_can_say : (m : MessageRecord) (idle : Bool) (a : Signal) → IsLong m → IsOwn m idle a → CanSay a
own_can_say m idle (BroadcastAnnounce size packets pgn) l h = absurd h
own_can_say m idle (RequestToSend size packets most pgn) l h =
    let a : size ≡ length m.bytes = h.1 in
    let c : length m.bytes ≤ 1785 = l.message.most in
    record {
      size_fits = omega arith;
      pgn_fits = pgn_fits m pgn l h.3;
      agrees = (λ i. agree (h.1 i) (h.2 i) (h.3 i)) ∙ agrees m l;
    }
own_can_say m idle (Packet k part) l h = ap (λ (b : List ℕ). length b) h ∙ packet_length m.bytes k
own_can_say m idle (Abort reason pgn) l h = pgn_fits m pgn l h
own_can_say m idle (ClearToSend count next pgn) l h = absurd h
own_can_say m idle (Acknowledgment size packets pgn) l h = absurd h

-- ---- an answer

abbrev pub IsAck : Option Signal → Type 0
IsAck None = ⊥
IsAck (Some (BroadcastAnnounce size packets pgn)) = ⊥
IsAck (Some (RequestToSend size packets most pgn)) = ⊥
IsAck (Some (Packet k part)) = ⊥
IsAck (Some (Abort reason pgn)) = ⊥
IsAck (Some (ClearToSend count next pgn)) = ⊥
IsAck (Some (Acknowledgment size packets pgn)) = Unit {0}

-- done only by an acknowledgment, and never idle again
pub record Hears (s : SenderRecord) (ack : Type 0) (r : SenderRecord) : Type 0 where
  pub message_is : r.message ≡ s.message
  pub destination_is : r.destination ≡ s.destination
  pub idle_is : is_idle s.state ≡ false → is_idle r.state ≡ false
  pub done_is : (ack → ⊥) → is_done s.state ≡ false → is_done r.state ≡ false

pub same : (s : SenderRecord) (ack : Type 0) → Hears s ack s
same s ack = record { message_is = refl; destination_is = refl; idle_is = λ h. h; done_is = λ n h. h }

hears_cts : (s : SenderRecord) (count p now : ℕ) → Hears s ⊥ (cleared count p now s)
unfolding cleared
hears_cts s count p now = cond_both (is_waiting s.state) _ _ (Hears s ⊥)
    (λ t. cond_both (count == 0) _ _ (Hears s ⊥)
    (λ u. record { message_is = refl; destination_is = refl; idle_is = λ h. refl; done_is = λ f h. refl })
    (λ u. cond_both (may_name s p) _ _ (Hears s ⊥)
    (λ v. record { message_is = refl; destination_is = refl; idle_is = λ h. refl; done_is = λ f h. refl })
    (λ v. same s ⊥)))
    (λ t. same s ⊥)

hears_ack : (s : SenderRecord) (size packets : ℕ) → Hears s (Unit {0}) (acknowledged size packets s)
unfolding acknowledged
hears_ack s size packets = cond_both (is_waiting s.state && size == length s.message.bytes && packets == packets_of s.message && s.highest == packets_of s.message) _ _ (Hears s (Unit {0}))
    (λ t. record { message_is = refl; destination_is = refl; idle_is = λ h. refl; done_is = λ f h. absurd (f tt) })
    (λ t. same s (Unit {0}))

hears_abort : (s : SenderRecord) (reason : ℕ) → Hears s ⊥ (aborted reason s)
unfolding aborted
hears_abort s reason = cond_both (is_running s.state) _ _ (Hears s ⊥)
    (λ t. record { message_is = refl; destination_is = refl; idle_is = λ h. refl; done_is = λ f h. refl })
    (λ t. same s ⊥)

pub hears_signal : (s : SenderRecord) (a : Signal) (now : ℕ) → Hears s (IsAck (Some a)) (hears (Some a) now s)
unfolding hears
hears_signal s (BroadcastAnnounce size packets pgn) now = same s _
hears_signal s (RequestToSend size packets most pgn) now = same s _
hears_signal s (Packet k part) now = same s _
hears_signal s (ClearToSend count p pgn) now = cond_both (pgn == s.message.pgn) _ _ (Hears s ⊥) (λ t. hears_cts s count p now) (λ t. same s ⊥)
hears_signal s (Acknowledgment size packets pgn) now = cond_both (pgn == s.message.pgn) _ _ (Hears s (Unit {0})) (λ t. hears_ack s size packets) (λ t. same s _)
hears_signal s (Abort reason pgn) now = cond_both (pgn == s.message.pgn) _ _ (Hears s ⊥) (λ t. hears_abort s reason) (λ t. same s ⊥)

-- both ends' addresses
pub record Between (s : SenderRecord) : Type 0 where
  pub source : s.message.source < 254
  pub destination : s.destination < 254

abbrev pub CanSayIf : Option Signal → Type 0
CanSayIf None = Unit {0}
CanSayIf (Some a) = CanSay a

-- the sender hears what the receiver says to it, unless that is lost
pub hears_answer : (s : SenderRecord) (o : Option Signal) (now : ℕ) (is_lost : Bool) → Between s → CanSayIf o
    → Hears s (IsAck o) (handed_back (option_map (written s.destination s.message.source) o) now is_lost s)
hears_answer s None now is_lost b c = same s ⊥
hears_answer s (Some a) now true b c = same s _
hears_answer s (Some a) now false b c =
    subst (λ (r : SendResult). Hears s (IsAck (Some a)) r.after) (sym (heard_by_sender s a now b.destination b.source c)) (hears_signal s a now)
