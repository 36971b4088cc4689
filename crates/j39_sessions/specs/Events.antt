-- What the sessions of an address went through, the newest first.
use Rattle.std.specs.Prelude.{◌++◌, ◌∷◌}
use Rattle.j39_sessions.specs.Common.{[], FrameRecord, List, MessageRecord, None, Option, option_map, Some, take, ℕ}
use Rattle.j39_sessions.specs.Sessions.{hears, leaves, listed, loses, made, none_of, releases, says, Session, session_ticked, SessionsRecord, ticks}

-- a frame was heard at a time, whose source a NAME holds; time passed; who left by who holds which address; the address was lost; the
-- program released a message; a reply was sent
pub data Event : Type 0 where
  Hears : ℕ → Option ℕ → FrameRecord → Event
  Ticks : ℕ → Event
  Leaves : Option ℕ → (ℕ → Option ℕ) → Event
  Loses : Event
  Releases : Event
  Says : Event

abbrev pub step : Event → SessionsRecord → SessionsRecord
step (Hears now name f) s = hears now name f s
step (Ticks now) s = ticks now s
step (Leaves gone holder) s = leaves gone holder s
step Loses s = loses s
step Releases s = releases s
step Says s = says s

abbrev pub after : ℕ → ℕ → ℕ → List Event → SessionsRecord
after own most boxes [] = none_of own most boxes
after own most boxes (event ∷ E) = step event (after own most boxes E)

abbrev pub heard : List Event → List FrameRecord
heard [] = []
heard (Hears now name f ∷ E) = heard E ++ f ∷ []
heard (event ∷ E) = heard E

-- the messages that were whole, each with the moment of its last packet, and those that were released
abbrev pub delivered : ℕ → ℕ → ℕ → List Event → List (ℕ × MessageRecord)
delivered own most boxes [] = []
delivered own most boxes (Hears now name f ∷ E) = delivered own most boxes E ++ listed (option_map (λ m. (f.stamp, m)) (made now f (after own most boxes E)))
delivered own most boxes (event ∷ E) = delivered own most boxes E

abbrev pub released : ℕ → ℕ → ℕ → List Event → List (ℕ × MessageRecord)
released own most boxes [] = []
released own most boxes (Releases ∷ E) = released own most boxes E ++ take 1 (after own most boxes E).waits
released own most boxes (event ∷ E) = released own most boxes E

-- what a tick leaves of the session of a source
abbrev pub ticked_of : ℕ → ℕ → Option Session → Option Session
ticked_of own now None = None
ticked_of own now (Some x) = session_ticked own now x
