-- A history of requests that a controller can have had.
use Rattle.std.specs.Prelude.{◌∷◌}
use Rattle.j39_node.specs.Common.{[], Err, FrameRecord, List, None, Ok, Some, ℕ}
use Rattle.j39_node.specs.declared.kinds.Answer.TheVariants.{Nack}
use Rattle.j39_node.specs.declared.kinds.AskEnding.TheVariants.{Answered, Acknowledged, TimedOut}
use Rattle.j39_node.specs.declared.kinds.Refused.TheVariants.{NoAddress, BadValue, Full}
use Rattle.j39_node.specs.History.{Call}
use Rattle.j39_node.specs.History.Call.{At, TakeAskEnded}
use Rattle.j39_node.specs.History.Act.{Ask, Hear, TakeFrame, Tick}
use Rattle.j39_node.specs.Example.{announced_by, first_to_all, last_to_all, own_claim}

-- address 128 asks 11 for group 65226; it answers; or it refuses
abbrev pub asking : ℕ → FrameRecord
asking now = record { stamp = now; id = 417991552; bytes = 202 ∷ 254 ∷ 0 ∷ [] }

abbrev pub answering : ℕ → FrameRecord
answering now = record { stamp = now; id = 419351051; bytes = 1 ∷ 2 ∷ [] }

abbrev pub refusing : ℕ → FrameRecord
refusing now = record { stamp = now; id = 417922827; bytes = 1 ∷ 255 ∷ 255 ∷ 255 ∷ 128 ∷ 202 ∷ 254 ∷ 0 ∷ [] }

-- an answer before the request's frame is taken doesn't count, one after it does; then one is refused, one hears nothing, and one is
-- answered in packets to all; the newest call first
abbrev pub ask_example : List Call
ask_example =
    TakeAskEnded (Some (3, Answered))
    ∷ At 1720000 (Hear (last_to_all 1720000))
    ∷ TakeAskEnded None
    ∷ At 1660000 (Hear (first_to_all 1660000))
    ∷ At 1600000 (Hear (announced_by 11 1600000))
    ∷ At 1590000 (TakeFrame (Some (asking 1590000)))
    ∷ At 1580000 (Ask 65226 11 (Ok 3))
    ∷ TakeAskEnded None
    ∷ TakeAskEnded (Some (2, TimedOut))
    ∷ At 1550000 Tick
    ∷ TakeAskEnded None
    ∷ At 1549999 Tick
    ∷ At 300000 (TakeFrame (Some (asking 300000)))
    ∷ At 299000 (Ask 65226 11 (Ok 2))
    ∷ TakeAskEnded (Some (1, Acknowledged Nack))
    ∷ At 290000 (Hear (refusing 290000))
    ∷ At 280000 (TakeFrame (Some (asking 280000)))
    ∷ At 280000 (Ask 65226 11 (Ok 1))
    ∷ TakeAskEnded (Some (0, Answered))
    ∷ At 270000 (Hear (answering 270000))
    ∷ At 260000 (TakeFrame (Some (asking 260000)))
    ∷ TakeAskEnded None
    ∷ At 255000 (Hear (answering 255000))
    ∷ At 250100 (Ask 65226 12 (Err Full))
    ∷ At 250100 (Ask 65226 11 (Ok 0))
    ∷ At 250100 (Ask 65226 128 (Err BadValue))
    ∷ At 250100 Tick
    ∷ At 250099 (Ask 65226 11 (Err NoAddress))
    ∷ At 100 (TakeFrame (Some (own_claim 100)))
    ∷ []
