-- What is shown of the addresses after the frames of a bus, by who holds them (J1939-81, 4.2).
use Rattle.std.specs.Prelude.{◌≡◌, ℕ, zero, suc, Bool, List, [], ◌++◌, Option, Some, None, filter, length}
use Rattle.std.specs.List.{flat_map, list_any}
use Rattle.j39_frame.specs.Address.{null_address}
use Rattle.j39_frame.specs.Frame.{FrameRecord}
use Rattle.j39_address.specs.Claim.{claims_of}
use Rattle.j39_address.specs.Holder.{IsHolderAfter}
use Rattle.j39_listen.specs.Output.{Output}
use Rattle.j39_listen.specs.declared.filter.Sender.{Sender}

-- what is shown of the addresses below n, rising: of each one what `Shows` says of it and of its holder after F
unfoldable pub ShownBelow : {T : Type 0} → (ℕ → Option ℕ → List T → Type 0) → List FrameRecord → ℕ → List T → Type 0
ShownBelow Shows F zero shown = shown ≡ []
ShownBelow {T} Shows F (suc n) shown =
    (before : List T) × (holder : Option ℕ) × (here : List T) × ShownBelow Shows F n before
    × IsHolderAfter (claims_of F) n holder × Shows n holder here × (shown ≡ before ++ here)

-- of all addresses that can be held
abbrev pub AreShown : {T : Type 0} → (ℕ → Option ℕ → List T → Type 0) → List FrameRecord → List T → Type 0
AreShown Shows F shown = ShownBelow Shows F null_address shown

-- what comes from one of these senders, or all where none are given
abbrev pub shown_from : {T : Type 0} → (T → Sender → Bool) → Option (List Sender) → List T → List T
shown_from is_from None shown = shown
shown_from is_from (Some senders) shown = filter (λ x. list_any (is_from x) senders) shown

-- a line for each; no message counts
abbrev pub lines_of : {T : Type 0} → (T → List ℕ) → List T → Output
lines_of text shown = record { text = flat_map text shown; messages = 0; lines = length shown }
