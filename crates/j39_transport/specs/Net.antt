-- The two ends of directed transfers, one message after another, over a bus that loses frames and has others on it.
use Rattle.std.specs.Prelude.{◌≡◌, ◌≢◌, ◌⊎◌, ℕ, ◌==◌, Bool, true, false, ◌&&◌, not, if◌then◌else◌, List, [], ◌∷◌, Option, Some, None}
use Rattle.std.specs.List.{filter}
use Rattle.j39_frame.specs.Address.{IsAddress}
use Rattle.j39_transport.specs.Frames.{source_of}
use Rattle.j39_transport.specs.Message.{MessageRecord, IsLong}
use Rattle.j39_transport.specs.Cutting.{ToSend, at_moment}
use Rattle.j39_transport.specs.Reception.{ReceptionRecord, is_from}
use Rattle.j39_transport.specs.Sending.{SenderRecord, SendState, SendResult, is_idle, is_running, is_done, send_step, sent_by, new_sender}
use Rattle.j39_transport.specs.Sending as sender
use Rattle.j39_transport.specs.Receiving.{ReceiverRecord, RecvResult, recv_step, new_receiver}
use Rattle.j39_transport.specs.Receiving as receiver

-- the messages whose senders were replaced, with whether those were done; the present sender; the receiver; and what it
-- delivered: in both lists the last first
pub record World : Type 0 where
  pub past : List (MessageRecord × Bool)
  pub sender : SenderRecord
  pub receiver : ReceiverRecord
  pub delivered : List MessageRecord

-- ---- frames that are lost, or handed at once to the other end

abbrev pub with_delivery : Option MessageRecord → List MessageRecord → List MessageRecord
with_delivery None ms = ms
with_delivery (Some m) ms = m ∷ ms

-- the sender, handed a frame
abbrev pub handed_back : Option ToSend → ℕ → Bool → SenderRecord → SenderRecord
handed_back None now is_lost s = s
handed_back (Some f) now is_lost s = if is_lost then s else (send_step s (sender.Heard (at_moment now f)) now).after

-- the receiver takes this step, beside the sender, and its frame goes back
abbrev pub replied : World → SenderRecord → RecvResult → ℕ → Bool → World
replied w s x now is_lost = record {
  past = w.past;
  sender = handed_back x.sends now is_lost s;
  receiver = x.after;
  delivered = with_delivery x.delivers w.delivered;
}

-- a frame is sent, beside the sender, and the receiver is handed it
abbrev pub carried : World → SenderRecord → Option ToSend → ℕ → (is_lost answer_lost found : Bool) → World
carried w s None now is_lost answer_lost found = record w { sender = s }
carried w s (Some f) now is_lost answer_lost found =
    if is_lost then record w { sender = s }
    else replied w s (recv_step w.receiver (receiver.Heard (at_moment now f)) now found) now answer_lost

-- ---- what happens

-- a tick of the sender, whose frame is lost or not, as is the answer to it, for which there is memory or not; a tick of
-- the receiver, whose frame is lost or not; the next message; and a frame of a third controller, which the sender loses
-- or not, and the receiver, whose answer may be lost too
pub data NetEvent : Type 0 where
  SenderTick : (now : ℕ) (is_lost answer_lost found : Bool) → NetEvent
  ReceiverTick : (now : ℕ) (is_lost : Bool) → NetEvent
  Next : MessageRecord → NetEvent
  Third : ToSend → (now : ℕ) (sender_loses receiver_loses answer_lost found : Bool) → NetEvent

abbrev pub is_over : SendState → Bool
is_over s = not (is_idle s) && not (is_running s)

-- the session is of this source
abbrev pub is_busy_with : ℕ → Option ReceptionRecord → Bool
is_busy_with source None = false
is_busy_with source (Some r) = is_from source r

-- the rule of use: the next sender takes the place of one that is over, while the receiver has no session of its
-- source. Each answer of the receiver is on the bus: the sender hears it, also where it goes to a third
unfoldable pub happens : World → NetEvent → World
happens w (SenderTick now is_lost answer_lost found) =
    let x : SendResult = send_step w.sender sender.Tick now in
    carried w x.after (sent_by w.sender x.says) now is_lost answer_lost found
happens w (ReceiverTick now is_lost) = replied w w.sender (recv_step w.receiver receiver.Tick now true) now is_lost
happens w (Next m) =
    if is_over w.sender.state && not (is_busy_with w.sender.message.source w.receiver.session)
    then record {
      past = (w.sender.message, is_done w.sender.state) ∷ w.past;
      sender = new_sender m w.sender.destination;
      receiver = w.receiver;
      delivered = w.delivered;
    }
    else w
happens w (Third f now sender_loses receiver_loses answer_lost found) =
    carried w (handed_back (Some f) now sender_loses w.sender) (Some f) now receiver_loses answer_lost found

unfoldable pub run : List NetEvent → World → World
run [] w = w
run (e ∷ es) w = run es (happens w e)

unfoldable pub start : ℕ → MessageRecord → World
start to m = record { past = []; sender = new_sender m to; receiver = new_receiver to; delivered = [] }

-- ---- the law

-- the messages that were handed to senders, with whether those are done, the last first
abbrev pub handed : World → List (MessageRecord × Bool)
handed w = (w.sender.message, is_done w.sender.state) ∷ w.past

-- the messages of the source among these
abbrev pub of_source : ℕ → List MessageRecord → List MessageRecord
of_source source ms = filter (λ m. m.source == source) ms

-- what was delivered is a subsequence of what was handed over, each at most once, and what is done is in it
abbrev pub Matches : List (MessageRecord × Bool) → List MessageRecord → Type 0
Matches [] delivered = delivered ≡ []
Matches (p ∷ ps) delivered =
    ((p.1 ≡ false) × Matches ps delivered)
    ⊎ ((rest : List MessageRecord) × (delivered ≡ p.0 ∷ rest) × Matches ps rest)

-- a message of this source that is cut
pub record IsFrom (source : ℕ) (m : MessageRecord) : Type 0 where
  pub from : m.source ≡ source
  pub long : IsLong m

-- a frame that neither of the two sends
pub record IsThird (source to : ℕ) (f : ToSend) : Type 0 where
  pub not_source : source_of f.id ≢ source
  pub not_to : source_of f.id ≢ to

-- each next message is of the source, and each frame that comes from elsewhere is a third's
abbrev pub AreBetween : ℕ → ℕ → List NetEvent → Type 0
AreBetween source to [] = Unit {0}
AreBetween source to (SenderTick now a b c ∷ es) = AreBetween source to es
AreBetween source to (ReceiverTick now a ∷ es) = AreBetween source to es
AreBetween source to (Next m ∷ es) = IsFrom source m × AreBetween source to es
AreBetween source to (Third f now a b c d ∷ es) = IsThird source to f × AreBetween source to es

-- no third sends
abbrev pub AreAlone : List NetEvent → Type 0
AreAlone [] = Unit {0}
AreAlone (SenderTick now a b c ∷ es) = AreAlone es
AreAlone (ReceiverTick now a ∷ es) = AreAlone es
AreAlone (Next m ∷ es) = AreAlone es
AreAlone (Third f now a b c d ∷ es) = ⊥

-- from any address to any, with any messages of 9 to 1,785 bytes, whatever happens: what was delivered from this source
abbrev pub TransfersLaw : Type 0
TransfersLaw = (source to : ℕ) → IsAddress source → IsAddress to → (m : MessageRecord) (es : List NetEvent)
    → IsFrom source m → AreBetween source to es
    → Matches (handed (run es (start to m))) (of_source source (run es (start to m)).delivered)

-- where no third sends, that is all that was delivered
abbrev pub TransfersAloneLaw : Type 0
TransfersAloneLaw = (source to : ℕ) → IsAddress source → IsAddress to → (m : MessageRecord) (es : List NetEvent)
    → IsFrom source m → AreBetween source to es → AreAlone es
    → of_source source (run es (start to m)).delivered ≡ (run es (start to m)).delivered
