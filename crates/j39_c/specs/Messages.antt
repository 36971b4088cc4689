-- A message as C has it.
use Rattle.std.specs.Prelude.{ℕ, zero, suc, ℤ, Option, Some, None, take}
use Rattle.j39_listen.specs.Heard.{Hearing}
use Rattle.j39_c.specs.Codes.{told}
use Rattle.j39_c.specs.declared.message.WholeMessage.{WholeMessage}

-- a number, unless the mark is 0
abbrev pub marked : ℕ → ℕ → Option ℕ
marked zero n = None
marked (suc mark) n = Some n

-- the message that it says
abbrev pub hearing_in : WholeMessage → Hearing
hearing_in m = record {
  message = record { source = m.source; pgn = m.pgn; bytes = take m.len m.data };
  destination = marked m.is_addressed m.destination;
  stamp = m.micros;
  name = marked m.is_named m.name;
}

-- the message that is heard, by what a call answered and wrote out
abbrev pub message_in : ℤ → WholeMessage → Option Hearing
message_in code m = told code (hearing_in m)
