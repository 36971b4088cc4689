-- What a handle holds, and what its parts do.
use Rattle.std.specs.Prelude.{◌≡◌, ◌&&◌, ◌++◌, ◌∷◌, [], Bool, not, ℕ, zero, suc, ℤ, pos, negsuc, Option, Some, None, List, length}
use Rattle.j39_address.specs.Claim.{claims_of}
use Rattle.j39_address.specs.Holder.{IsHolderAfter}
use Rattle.j39_frame.specs.Frame.{FrameRecord}
use Rattle.j39_frame.specs.Identifier.{pgn_of}
use Rattle.j39_groups.specs.Readings.{is_network_group}
use Rattle.j39_groups.specs.Table.{the_table}
use Rattle.j39_transport.specs.Answers.{IsAnnouncement}
use Rattle.j39_transport.specs.Cutting.{ToSend, without_stamp}
use Rattle.j39_transport.specs.ReceiverStands.{HasHeard}
use Rattle.j39_transport.specs.Receiving.{BoxedReceiver, ReceiverAnswer, RecvStep, Tick}
use Rattle.j39_transport.specs.Sending as sending
use Rattle.j39_transport.specs.AssemblerStep.{AssemblerRecord}
use Rattle.j39_transport.specs.Sending.{SenderRecord}
use Rattle.j39_listen.specs.Heard.{Hearing, HeardAt, HeardAtWith, LeavesNetwork}
use Rattle.j39_listen.specs.Listening.{Hears, WantsMemoryBehind}
use Rattle.j39_frame.specs.Address.{IsAddress}
use Rattle.j39_transport.specs.Message.{MessageRecord, IsLong}
use Rattle.j39_transport.specs.SenderModel.{state_of}
use Rattle.j39_transport.specs.declared.progress.SendState.{SendState}
use Rattle.j39_transport.specs.declared.progress.SendState.TheVariants.{Idle, Waiting, Sending as Busy, Done, Failed}
use Rattle.j39_c.specs.Can.{frame_of}
use Rattle.j39_c.specs.Messages.{hearing_in}
use Rattle.j39_c.specs.declared.can.CanFrame.{CanFrame}
use Rattle.j39_c.specs.declared.message.WholeMessage.{WholeMessage}
use Rattle.j39_c.specs.declared.part.Part.{Part}
use Rattle.j39_c.specs.declared.refusal.Refusal.{Refusal}
use Rattle.j39_c.specs.declared.refusal.Refusal.TheVariants.{BadValue, NoPart, NoMemory, InUse, NoRoom, End, NoAddress, Full}
use Rattle.j39_c.specs.declared.part.Part.TheVariants.{Listening, Receiving, Sending, Assembling, Controlling, Answering, Posting}
use Rattle.j39_listen.specs.declared.listener.Listener as heard
use Rattle.j39_node.specs.declared.controller.Controller.{Controller}
use Rattle.j39_application.specs.declared.answers.Answers.{Answers}
use Rattle.j39_application.specs.declared.outbox.Outbox.{Outbox}

-- the listener that a handle holds; the receiver; the sender; the assembler; the controller; the answers; the outbox
abbrev pub listener_in : Option Part → Option heard.Listener
listener_in (Some (Listening b)) = Some b.part.value
listener_in other = None

abbrev pub receiver_in : Option Part → Option BoxedReceiver
receiver_in (Some (Receiving b)) = Some b.value
receiver_in other = None

abbrev pub sender_in : Option Part → Option SenderRecord
sender_in (Some (Sending b)) = Some b.value
sender_in other = None

abbrev pub assembler_in : Option Part → Option AssemblerRecord
assembler_in (Some (Assembling b)) = Some b.part.value
assembler_in other = None

abbrev pub controller_in : Option Part → Option Controller
controller_in (Some (Controlling b)) = Some b.value
controller_in other = None

abbrev pub answers_in : Option Part → Option Answers
answers_in (Some (Answering b)) = Some b.value
answers_in other = None

abbrev pub outbox_in : Option Part → Option Outbox
outbox_in (Some (Posting b)) = Some b.value
outbox_in other = None

-- the answers, or the outbox, of one handle, with the controller of another
abbrev both : {A B : Type 0} → Option A → Option B → Option (A × B)
both (Some a) (Some b) = Some (a, b)
both a b = None

abbrev pub answering_in : Option Part × Option Part → Option (Answers × Controller)
answering_in parts = both (answers_in parts.0) (controller_in parts.1)

abbrev pub posting_in : Option Part × Option Part → Option (Outbox × Controller)
posting_in parts = both (outbox_in parts.0) (controller_in parts.1)

-- ---- listeners

-- with one frame more it has heard that too, and this is what is heard there, or nothing
pub record HearsMore (old : heard.Listener) (frame : FrameRecord) (message : Option Hearing)
    (new : heard.Listener) : Type 0 where
  pub hears : (F : List FrameRecord) → Hears old F → Hears new (F ++ frame ∷ [])
  pub heard : (F : List FrameRecord) → Hears old F → HeardAt the_table (F ++ frame ∷ []) (length F) message

-- the same, where the caller says whether the frame's group is heard in one frame: one of the network's own never is
pub record HearsMoreAs (is_single : Bool) (old : heard.Listener) (frame : FrameRecord) (message : Option Hearing)
    (new : heard.Listener) : Type 0 where
  pub hears : (F : List FrameRecord) → Hears old F → Hears new (F ++ frame ∷ [])
  pub heard : (singles : ℕ → Bool) → LeavesNetwork singles
      → singles (pgn_of frame.id) ≡ (is_single && not (is_network_group (pgn_of frame.id)))
      → (F : List FrameRecord) → Hears old F → HeardAtWith singles (F ++ frame ∷ []) (length F) message

-- a frame that wants memory: it announces a message of which none is open yet, and no box lies unused
pub record LacksMemory (listener : heard.Listener) (frame : FrameRecord) : Type 0 where
  pub announces : IsAnnouncement frame
  pub wants : (F : List FrameRecord) → Hears listener F → WantsMemoryBehind F frame

-- who holds an address, by the claims that the listener heard
pub record IsHolderBy (listener : heard.Listener) (address : ℕ) (name : Option ℕ) : Type 0 where
  pub holds : (F : List FrameRecord) → Hears listener F → IsHolderAfter (claims_of F) address name

-- ---- receivers

-- a frame that is written out to be sent at a moment
abbrev pub Sends : CanFrame → ℕ → Option ToSend → Type 0
Sends can now sends = (can.micros ≡ now) × (sends ≡ Some (without_stamp (frame_of can)))

-- what is answered in C at a moment: 0 nothing, 1 a frame to send, 2 that and a message of this moment, delivered
abbrev pub IsAnswer : ℕ → ℤ → CanFrame → WholeMessage → ReceiverAnswer → Type 0
IsAnswer now (pos zero) can m a = a ≡ record { sends = None; delivers = None }
IsAnswer now (pos (suc zero)) can m a = Sends can now a.sends × (a.delivers ≡ None)
IsAnswer now (pos (suc (suc n))) can m a = Sends can now a.sends
    × (whole : MessageRecord) × (a.delivers ≡ Some whole)
    × (hearing_in m ≡ record { message = whole; destination = None; stamp = now; name = None })
IsAnswer now (negsuc n) can m a = ⊥

-- it takes the step of a frame at the frame's own moment, stands for it too, and answers so
abbrev pub ReceivesMore : BoxedReceiver → FrameRecord → ℤ → CanFrame → WholeMessage → BoxedReceiver → Type 0
ReceivesMore old frame code can m new =
    (a : ReceiverAnswer) × HasHeard old frame frame.stamp a new × IsAnswer frame.stamp code can m a

-- it takes the step of a tick, and keeps its buffer
pub record LetsPass (old : BoxedReceiver) (now : ℕ) (sends : Option ToSend) (new : BoxedReceiver) : Type 0 where
  pub step : RecvStep old.state Tick now (record { sends = sends; delivers = None }) new.state
  pub buffer : new.has_box ≡ old.has_box

-- whether a session is open, as a number
abbrev pub busy_code : {A : Type 0} → Option A → ℤ
busy_code None = pos 0
busy_code (Some s) = pos 1

-- ---- senders

-- a message of 9 to 1,785 bytes from one address to another
abbrev pub CanSend : MessageRecord → ℕ → Type 0
CanSend m destination = IsLong m × IsAddress destination

-- why there is no sender of it
abbrev pub IsSendRefusal : MessageRecord → ℕ → Refusal → Type 0
IsSendRefusal m destination BadValue = CanSend m destination → ⊥
IsSendRefusal m destination NoMemory = CanSend m destination
IsSendRefusal m destination NoPart = ⊥
IsSendRefusal m destination InUse = ⊥
IsSendRefusal m destination NoRoom = ⊥
IsSendRefusal m destination End = ⊥
IsSendRefusal m destination NoAddress = ⊥
IsSendRefusal m destination Full = ⊥

-- how far a sender is, and the reason where it failed
abbrev pub IsSendCode : SendState → ℤ → ℕ → Type 0
IsSendCode Idle code reason = code ≡ pos 0
IsSendCode Waiting code reason = code ≡ pos 1
IsSendCode Busy code reason = code ≡ pos 2
IsSendCode Done code reason = code ≡ pos 3
IsSendCode (Failed why) code reason = (code ≡ pos 4) × (reason ≡ why)

abbrev pub IsSendState : sending.SendState → ℤ → ℕ → Type 0
IsSendState state code reason = IsSendCode (state_of state) code reason
