-- The command `cut --source N --pgn N --at STAMP --bus B HEX`.
use Rattle.std.specs.Prelude.{◌≡◌, ◌≤◌, ◌+◌, ◌-◌, ◌*◌, ◌^◌, ◌∷◌, ℕ, true, List, [], Some}
use Rattle.std.specs.Prelude.{Result, Ok, Err, codes, drop, length, slice_index, take}
use Rattle.std.specs.Str.Parse.{AllDigits, digits_value}
use Rattle.clap.specs.Words.{App, Text, new_app, with_rule}
use Rattle.hex.specs.Hex.{decode_of}
use Rattle.hex.specs.declared.error.FromHexError.{FromHexError}
use Rattle.j39_log.specs.Bus.{IsBusName}
use Rattle.j39_cli.specs.Answer.{check}
use Rattle.j39_cli.specs.Form.{Form, Meaning, option, shows, value}
use Rattle.j39_cli.specs.Numbers.{IsNumberBelow}
use Rattle.j39_cli.specs.Outgoing.{EndsInTime, IsOutgoing, OutgoingRecord, cut_text, outgoing}
use Rattle.j39_cli.specs.Rules.{option_rule, value_rule}
use Rattle.j39_cli.specs.declared.task.Argument.TheVariants.{At, Bus, Hex, Pgn, Source}
use Rattle.j39_cli.specs.declared.task.Task.{Task}
use Rattle.j39_cli.specs.declared.task.Task.TheVariants.{Cut}

abbrev pub cut_app : App
cut_app =
    with_rule (with_rule (with_rule (with_rule (with_rule (new_app (codes "cut")) (option_rule (codes "source") true))
    (option_rule (codes "pgn") true)) (option_rule (codes "at") true)) (option_rule (codes "bus") true))
    (value_rule (codes "hex") true)

-- ---- its values

-- the six digits at the end of a moment, and the digits before its point
abbrev pub micros_of : List ℕ → List ℕ
micros_of text = drop (length text - 6) text

abbrev pub seconds_of : List ℕ → List ℕ
seconds_of text = take (length text - 7) text

abbrev pub point : ℕ
point = 0x2E

-- 1 to 10 digits, `.`, 6 digits
pub record IsMomentText (text : List ℕ) : Type 0 where
  pub some : 8 ≤ length text
  pub fits : length text ≤ 17
  pub pointed : slice_index text (length text - 7) ≡ point
  pub seconds : AllDigits 10 (seconds_of text)
  pub micros : AllDigits 10 (micros_of text)

-- the moment in microseconds
abbrev pub moment_value : List ℕ → ℕ
moment_value text = digits_value 10 (seconds_of text) * 10 ^ 6 + digits_value 10 (micros_of text)

-- the bytes of pairs of hex digits of either case; none for other text
abbrev pub decoded : Result (List ℕ) FromHexError → List ℕ
decoded (Ok bytes) = bytes
decoded (Err e) = []

abbrev pub payload_of : List ℕ → List ℕ
payload_of text = decoded (decode_of text)

-- 9 to 1,785 pairs of hex digits
abbrev pub IsPayloadText : List ℕ → Type 0
IsPayloadText text =
    (decode_of text ≡ Ok (payload_of text)) × (9 ≤ length (payload_of text)) × (length (payload_of text) ≤ 1785)

-- ---- its answer

-- the message that its texts are of
abbrev pub outgoing_of : Text → Text → Text → Text → Text → OutgoingRecord
outgoing_of source pgn at bus hex =
    outgoing (digits_value 10 source) (digits_value 10 pgn) (moment_value at) bus (payload_of hex)

abbrev pub IsCutTask : OutgoingRecord → Task → Type 0
IsCutTask o (Cut o') = o' ≡ o
IsCutTask o t = ⊥

-- ---- the command

abbrev pub cut_form : Text → Text → Text → Text → Text → Form
cut_form source pgn at bus hex = record {
  called = codes "cut";
  arguments = option (codes "source") (Some source) ∷ option (codes "pgn") (Some pgn) ∷ option (codes "at") (Some at)
      ∷ option (codes "bus") (Some bus) ∷ value (codes "hex") (Some hex) ∷ [];
  checks = check (IsNumberBelow 254 source) Source ∷ check (IsNumberBelow (2 ^ 18) pgn) Pgn ∷ check (IsMomentText at) At
      ∷ check (IsBusName bus) Bus ∷ check (IsPayloadText hex) Hex ∷ check (EndsInTime (outgoing_of source pgn at bus hex)) At ∷ [];
  Is = IsCutTask (outgoing_of source pgn at bus hex);
}

abbrev pub cut_meaning : OutgoingRecord → Meaning
cut_meaning o = shows (IsOutgoing o) (λ _. cut_text o)
