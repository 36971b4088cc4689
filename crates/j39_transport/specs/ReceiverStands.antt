-- What a receiver stands for: the frames that were handed to it so far.
use Rattle.std.specs.Prelude.{◌≡◌, ◌+◌, ℕ, List, [], ◌∷◌, ◌++◌, take, Option, Some, None}
use Rattle.j39_frame.specs.Frame.{FrameRecord}
use Rattle.j39_transport.specs.Frames.{packets_for}
use Rattle.j39_transport.specs.Message.{MessageRecord}
use Rattle.j39_transport.specs.Reception.{ReceptionRecord}
use Rattle.j39_transport.specs.Receiving.{ReceiverRecord, BoxedReceiver, ReceiverAnswer, HearStep}
use Rattle.j39_transport.specs.Signals.{RequestToSend, Packet, said_between}

-- among these frames stand an RTS of the message, from its source to the own address, and after it its packets
-- numbered 1 to n from there, in this order, and these are their data, joined
pub data AreJoined (own source size pgn : ℕ) : List FrameRecord → ℕ → List ℕ → Type 0 where
  requested : (E : List FrameRecord) (f : FrameRecord) (packets most : ℕ)
      → said_between source own f ≡ Some (RequestToSend size packets most pgn)
      → AreJoined own source size pgn (E ++ f ∷ []) 0 []
  passed : (E : List FrameRecord) (f : FrameRecord) (n : ℕ) (joined : List ℕ)
      → AreJoined own source size pgn E n joined
      → AreJoined own source size pgn (E ++ f ∷ []) n joined
  packed : (E : List FrameRecord) (f : FrameRecord) (n : ℕ) (joined more : List ℕ)
      → AreJoined own source size pgn E n joined
      → said_between source own f ≡ Some (Packet (n + 1) more)
      → AreJoined own source size pgn (E ++ f ∷ []) (n + 1) (joined ++ more)

-- the message is the first size bytes of the joined data of all its packets
pub record WasHanded (own : ℕ) (E : List FrameRecord) (m : MessageRecord) : Type 0 where
  pub size : ℕ
  pub joined : List ℕ
  pub joined_are : AreJoined own m.source size m.pgn E (packets_for size) joined
  pub bytes_are : m.bytes ≡ take size joined

abbrev pub WereHanded : ℕ → List FrameRecord → Option MessageRecord → Type 0
WereHanded own E None = Unit {0}
WereHanded own E (Some m) = WasHanded own E m

-- an open session has the packets that were handed to it after its RTS
pub record IsReceived (own : ℕ) (E : List FrameRecord) (r : ReceptionRecord) : Type 0 where
  pub packets_are : r.message.packets ≡ packets_for r.message.size
  pub joined_are : AreJoined own r.message.source r.message.size r.message.group E r.message.count r.message.bytes

abbrev pub AreReceived : ℕ → List FrameRecord → Option ReceptionRecord → Type 0
AreReceived own E None = Unit {0}
AreReceived own E (Some r) = IsReceived own E r

-- the receiver stands for these frames
abbrev pub ReceiverStandsFor : List FrameRecord → ReceiverRecord → Type 0
ReceiverStandsFor E r = AreReceived r.own E r.session

-- a receiver that was handed f: the step that it took, and that it stands for one frame more
pub record HasHeard (old : BoxedReceiver) (f : FrameRecord) (now : ℕ) (answer : ReceiverAnswer)
    (new : BoxedReceiver) : Type 0 where
  pub takes : HearStep old f now answer new
  pub stands : (E : List FrameRecord) → ReceiverStandsFor E old.state → ReceiverStandsFor (E ++ f ∷ []) new.state
