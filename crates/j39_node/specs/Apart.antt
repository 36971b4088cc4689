-- Two histories that differ by what one source sends.
use Rattle.std.specs.Prelude.{◌&&◌, ◌||◌, ◌∷◌, ◌≡◌}
use Rattle.std.specs.List.{filter}
use Rattle.j39_node.specs.Common.{[], Bool, claim_of, false, FrameRecord, IsTrue, List, MessageRecord, nat_eq, None, not, source_of, Some, true, ℕ}
use Rattle.j39_node.specs.History.{Who, Call, is_claim}
use Rattle.j39_node.specs.History.Call.{At}
use Rattle.j39_node.specs.History.Act.{Hear, Tick, TakeFrame}
use Rattle.j39_node.specs.Hearing.{announces, found_in, has_room}
use Rattle.j39_node.specs.Reception.{asks_claims, is_message}

-- a call by which nothing is heard, no time passes for what is heard, and no claim is taken, nor a request for claims
abbrev pub is_quiet : Call → Bool
is_quiet (At now (Hear f)) = false
is_quiet (At now Tick) = false
is_quiet (At now (TakeFrame (Some f))) = not (is_claim f || (is_message f && asks_claims f))
is_quiet call = true

-- an announcement of the source finds a box
abbrev pub FindsBox : Who → ℕ → Call → List Call → Type 0
FindsBox w a (At now (Hear f)) H = source_of f.id ≡ a → IsTrue (announces f) → IsTrue (has_room w.boxes a (found_in w H now f))
FindsBox w a call H = Unit {0}

-- the same calls, but frames of source x in the first, no claims and no requests for claims, for each of which a tick stands in the
-- second, and quiet calls in either; and in both each announcement of source a finds a box
pub data AreApartBy (w : Who) (x a : ℕ) : List Call → List Call → Type 0 where
  none : AreApartBy w x a [] []
  both : (call : Call) (H G : List Call) → FindsBox w a call H → FindsBox w a call G → AreApartBy w x a H G → AreApartBy w x a (call ∷ H) (call ∷ G)
  stranger : (now : ℕ) (f : FrameRecord) (H G : List Call) → source_of f.id ≡ x → claim_of f ≡ None → asks_claims f ≡ false → AreApartBy w x a H G
      → AreApartBy w x a (At now (Hear f) ∷ H) (At now Tick ∷ G)
  first : (call : Call) (H G : List Call) → is_quiet call ≡ true → AreApartBy w x a H G → AreApartBy w x a (call ∷ H) G
  second : (call : Call) (H G : List Call) → is_quiet call ≡ true → AreApartBy w x a H G → AreApartBy w x a H (call ∷ G)

-- the messages of a source
abbrev pub sent_by : ℕ → List (ℕ × MessageRecord) → List (ℕ × MessageRecord)
sent_by a = filter (λ m. nat_eq a m.1.source)
