-- What is asked for of what a log has: `--spn`, `--from`, `--to`, `--pgn`, `--since` and `--until`.
use Rattle.std.specs.Prelude.{◌≡◌, ◌∷◌, [], true, false, ◌≤◌, ◌⊎◌, ◌^◌, ℕ, Bool, List, Option, codes, drop, if◌then◌else◌, length, nat_le, option_map, take}
use Rattle.std.specs.Str.{bytes_eq}
use Rattle.std.specs.Str.Parse.{AllDigits, digits_value}
use Rattle.clap.specs.Words.{App, first_value, with_rule}
use Rattle.clap.specs.declared.parser.matches.Found.{Found}
use Rattle.j39_listen.specs.Filter.{FilterRecord}
use Rattle.j39_listen.specs.declared.filter.Moment.{Moment}
use Rattle.j39_listen.specs.declared.filter.Moment.TheVariants.{At, Behind}
use Rattle.j39_listen.specs.declared.filter.Sender.{Sender}
use Rattle.j39_listen.specs.declared.filter.Sender.TheVariants.{Address, Named}
use Rattle.j39_cli.specs.Answer.{Check, value_check}
use Rattle.j39_cli.specs.Form.{ArgumentText, option}
use Rattle.j39_cli.specs.Lists.{IsListOf, values_in}
use Rattle.j39_cli.specs.Numbers.{IsNumberBelow}
use Rattle.j39_cli.specs.Rules.{option_rule}
use Rattle.j39_cli.specs.Seconds.{AreSeconds, seconds_value}
use Rattle.j39_cli.specs.Spns.{IsSpnList, spns_in}
use Rattle.j39_cli.specs.UtcMoment.{IsUtc, is_utc, utc_value}
use Rattle.j39_cli.specs.declared.asked.Asked.{Asked}
use Rattle.j39_cli.specs.declared.task.Argument.TheVariants as argument

-- ---- senders

-- one or two hex digits of an address, or the 16 of a NAME
pub record IsSender (word : List ℕ) : Type 0 where
  pub digits : AllDigits 16 word
  pub some : 1 ≤ length word
  pub long : (length word ≤ 2) ⊎ (length word ≡ 16)

abbrev pub sender_in : List ℕ → Sender
sender_in word =
    if nat_le (length word) 2 then Address (digits_value 16 word)
    else Named (record { bits = digits_value 16 word })

abbrev pub IsSenderList : List ℕ → Type 0
IsSenderList = IsListOf IsSender

abbrev pub senders_in : List ℕ → List Sender
senders_in = values_in sender_in

-- ---- destinations

-- one or two hex digits
pub record IsAddressWord (word : List ℕ) : Type 0 where
  pub digits : AllDigits 16 word
  pub some : 1 ≤ length word
  pub short : length word ≤ 2

abbrev pub IsAddressList : List ℕ → Type 0
IsAddressList = IsListOf IsAddressWord

abbrev pub addresses_in : List ℕ → List ℕ
addresses_in = values_in (digits_value 16)

-- ---- groups

-- numbers of 18 bits, in decimal
abbrev pub IsPgnList : List ℕ → Type 0
IsPgnList = IsListOf (IsNumberBelow (2 ^ 18))

abbrev pub pgns_in : List ℕ → List ℕ
pgns_in = values_in (digits_value 10)

-- ---- moments

-- a stamp, in seconds or as a date and time in UTC
pub record IsStamp (text : List ℕ) : Type 0 where
  pub utc : is_utc text ≡ true → IsUtc text
  pub seconds : is_utc text ≡ false → AreSeconds text

abbrev pub stamp_in : List ℕ → ℕ
stamp_in text = if is_utc text then utc_value text else seconds_value text

-- a stamp; or behind `+` so long behind the first frame
abbrev pub is_behind : List ℕ → Bool
is_behind text = bytes_eq (take 1 text) (codes "+")

pub record IsMoment (text : List ℕ) : Type 0 where
  pub behind : is_behind text ≡ true → AreSeconds (drop 1 text)
  pub at : is_behind text ≡ false → IsStamp text

abbrev pub moment_in : List ℕ → Moment
moment_in text = if is_behind text then Behind (seconds_value (drop 1 text)) else At (stamp_in text)

-- ---- all of them

-- the texts of what is asked for, where they are given
pub record AskedTexts : Type 0 where
  pub spn : Option (List ℕ)
  pub from : Option (List ℕ)
  pub to : Option (List ℕ)
  pub pgn : Option (List ℕ)
  pub since : Option (List ℕ)
  pub until : Option (List ℕ)

abbrev pub asked_found : Found → AskedTexts
asked_found found = record {
  spn = first_value found (codes "spn");
  from = first_value found (codes "from");
  to = first_value found (codes "to");
  pgn = first_value found (codes "pgn");
  since = first_value found (codes "since");
  until = first_value found (codes "until");
}

-- what is asked for is what these texts say
pub record IsAsked (texts : AskedTexts) (asked : Asked) : Type 0 where
  pub spns_are : asked.spns ≡ option_map spns_in texts.spn
  pub from_is : asked.from ≡ option_map senders_in texts.from
  pub to_is : asked.to ≡ option_map addresses_in texts.to
  pub pgns_are : asked.pgns ≡ option_map pgns_in texts.pgn
  pub since_is : asked.since ≡ option_map moment_in texts.since
  pub until_is : asked.until ≡ option_map moment_in texts.until

-- their words, in this order, and what they have to be
abbrev pub with_asked : App → App
with_asked command =
    with_rule (with_rule (with_rule (with_rule (with_rule (with_rule command (option_rule (codes "spn") false))
    (option_rule (codes "from") false)) (option_rule (codes "to") false)) (option_rule (codes "pgn") false))
    (option_rule (codes "since") false)) (option_rule (codes "until") false)

abbrev pub asked_arguments : AskedTexts → List ArgumentText
asked_arguments texts =
    option (codes "spn") texts.spn ∷ option (codes "from") texts.from ∷ option (codes "to") texts.to
    ∷ option (codes "pgn") texts.pgn ∷ option (codes "since") texts.since ∷ option (codes "until") texts.until ∷ []

abbrev pub asked_checks : AskedTexts → List Check
asked_checks texts =
    value_check IsSpnList argument.Spn texts.spn ∷ value_check IsSenderList argument.From texts.from
    ∷ value_check IsAddressList argument.To texts.to ∷ value_check IsPgnList argument.Pgns texts.pgn
    ∷ value_check IsMoment argument.Since texts.since ∷ value_check IsMoment argument.Until texts.until ∷ []

-- the filter of it, which speaks of no parameter
abbrev pub filter_in : Asked → FilterRecord
filter_in asked =
    record { from = asked.from; to = asked.to; pgns = asked.pgns; since = asked.since; until = asked.until }
