-- What calls answer to C: below 0 that nothing was done, and why; 0 nothing more; above it that something is written.
use Rattle.std.specs.Prelude.{◌≡◌, ℕ, zero, suc, ℤ, pos, negsuc, Option, Some, None}
use Rattle.j39_frame.specs.Frame.{FrameRecord}
use Rattle.j39_transport.specs.Cutting.{ToSend, without_stamp}
use Rattle.j39_c.specs.Can.{frame_of}
use Rattle.j39_c.specs.declared.can.CanFrame.{CanFrame}
use Rattle.j39_c.specs.declared.refusal.Refusal.{Refusal}
use Rattle.j39_c.specs.declared.refusal.Refusal.TheVariants.{BadValue, NoPart, NoMemory, InUse, NoRoom, End, NoAddress, Full}

abbrev pub bad_value : ℤ
bad_value = negsuc 0

abbrev pub no_part : ℤ
no_part = negsuc 1

abbrev pub no_memory : ℤ
no_memory = negsuc 2

abbrev pub in_use : ℤ
in_use = negsuc 3

abbrev pub no_room : ℤ
no_room = negsuc 4

abbrev pub end : ℤ
end = negsuc 5

abbrev pub no_address : ℤ
no_address = negsuc 7

abbrev pub full : ℤ
full = negsuc 8

abbrev pub code_of : Refusal → ℤ
code_of BadValue = bad_value
code_of NoPart = no_part
code_of NoMemory = no_memory
code_of InUse = in_use
code_of NoRoom = no_room
code_of End = end
code_of NoAddress = no_address
code_of Full = full

-- the call was done; it did nothing
abbrev pub IsDone : ℤ → Type 0
IsDone (pos n) = Unit {0}
IsDone (negsuc n) = ⊥

abbrev pub IsRefused : ℤ → Type 0
IsRefused (pos n) = ⊥
IsRefused (negsuc n) = Unit {0}

-- what is told, by what a call answered: above 0 what stands in what it writes to
abbrev pub told : {T : Type 0} → ℤ → T → Option T
told (pos zero) x = None
told (pos (suc n)) x = Some x
told (negsuc n) x = None

-- the frame that is to be sent, by what a call answered and wrote out
abbrev pub sent : ℤ → CanFrame → Option FrameRecord
sent code can = told code (frame_of can)

-- the frame of eight bytes that is to be sent
abbrev pub sent_packet : ℤ → CanFrame → Option ToSend
sent_packet code can = told code (without_stamp (frame_of can))

-- a frame that is written out has this moment
abbrev pub IsSentAt : ℤ → CanFrame → ℕ → Type 0
IsSentAt (pos zero) can now = Unit {0}
IsSentAt (pos (suc n)) can now = can.micros ≡ now
IsSentAt (negsuc n) can now = Unit {0}
