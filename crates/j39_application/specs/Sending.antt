-- What is handed to a controller, and told by it, in one call each for all ways that a message goes.
use Rattle.std.specs.Prelude.{◌+◌, ◌*◌, ◌%◌, ◌^◌, ◌∷◌, [], ℕ, nat_eq, nat_lt, Option, Some, None, List, Result, length, if◌then◌else◌}
use Rattle.std.specs.Result.{result_map_both}
use Rattle.j39_frame.specs.Pgn.{pgn_raw}
use Rattle.j39_frame.specs.Address.{global_address}
use Rattle.j39_node.specs.History.{Act, Call, Draft}
use Rattle.j39_node.specs.History.Act.{Broadcast, Send, Transfer}
use Rattle.j39_node.specs.History.Call.{TakeAskEnded, TakeBroadcastEnded, TakeEnded, TakeTransferEnded}
use Rattle.j39_node.specs.declared.kinds.Refused.{Refused}
use Rattle.j39_application.specs.declared.sending.End.{End}
use Rattle.j39_application.specs.declared.sending.End.TheVariants as end
use Rattle.j39_application.specs.declared.sending.Outgoing.{Outgoing}
use Rattle.j39_application.specs.declared.sending.Token.{Token}
use Rattle.j39_application.specs.declared.sending.Way.{Way}
use Rattle.j39_application.specs.declared.sending.Way.TheVariants as way

abbrev pub draft_of : Outgoing → Draft
draft_of m = record { priority = m.priority; group = pgn_raw m.group; to = m.to; bytes = m.bytes.now }

-- in one frame up to 8 bytes; else in packets, to all or to one address
abbrev pub way_of : Draft → Way
way_of d =
    if nat_lt 8 (length d.bytes) then (if nat_eq d.to global_address then way.Broadcast else way.Transfer) else way.Frame

-- the call that goes so
abbrev pub sent_by : Way → Draft → Result ℕ Refused → Act
sent_by way.Frame d answer = Send d answer
sent_by way.Broadcast d answer = Broadcast d.group d.bytes answer
sent_by way.Transfer d answer = Transfer d.priority d.group d.to d.bytes answer

abbrev pub sent_as : Draft → Result ℕ Refused → Act
sent_as d answer = sent_by (way_of d) d answer

-- the numbers of what is answered
abbrev pub numbers : Result Token Refused → Result ℕ Refused
numbers answer = result_map_both (λ token. token.number) (λ why. why) answer

-- a token in one number
abbrev pub coded : Way → ℕ → ℕ
coded way.Frame number = (4 * number) % (2 ^ 64)
coded way.Broadcast number = (4 * number + 1) % (2 ^ 64)
coded way.Transfer number = (4 * number + 2) % (2 ^ 64)

-- the way that it went
abbrev pub way_told : End → Way
way_told (end.Frame e) = way.Frame
way_told (end.Broadcast e) = way.Broadcast
way_told (end.Transfer e) = way.Transfer
way_told (end.Request e) = way.Frame

-- the calls that tell so, the newest first: those before it told nothing
abbrev pub ended_by : Option (Token × End) → List Call
ended_by None = TakeAskEnded None ∷ TakeTransferEnded None ∷ TakeBroadcastEnded None ∷ TakeEnded None ∷ []
ended_by (Some (token, end.Frame e)) = TakeEnded (Some (token.number, e)) ∷ []
ended_by (Some (token, end.Broadcast e)) = TakeBroadcastEnded (Some (token.number, e)) ∷ TakeEnded None ∷ []
ended_by (Some (token, end.Transfer e)) =
    TakeTransferEnded (Some (token.number, e)) ∷ TakeBroadcastEnded None ∷ TakeEnded None ∷ []
ended_by (Some (token, end.Request e)) =
    TakeAskEnded (Some (token.number, e)) ∷ TakeTransferEnded None ∷ TakeBroadcastEnded None ∷ TakeEnded None ∷ []
