-- Which entries of a report are asked for (own). Who holds an address, and which message is whole, all frames decide: a filter
-- chooses among the entries of the whole report.
use Rattle.std.specs.Prelude.{◌≡◌, ◌+◌, ◌==◌, ◌&&◌, ℕ, Bool, true, false, List, [], ◌∷◌, Option, Some, None, filter, length, nat_le, unwrap_or}
use Rattle.std.specs.List.{flat_map, list_any}
use Rattle.std.specs.Option.{option_map}
use Rattle.j39_address.specs.Name.{name_raw}
use Rattle.j39_frame.specs.Frame.{FrameRecord}
use Rattle.j39_groups.specs.Row.{RowRecord}
use Rattle.j39_listen.specs.Heard.{AreHeard, Hearing}
use Rattle.j39_listen.specs.Output.{Making, Output}
use Rattle.j39_listen.specs.Report.{Entry, Form, entries_of, entry_text}
use Rattle.j39_listen.specs.declared.filter.Filter.{Filter}
use Rattle.j39_listen.specs.declared.filter.Moment.{Moment}
use Rattle.j39_listen.specs.declared.filter.Moment.TheVariants.{At, Behind}
use Rattle.j39_listen.specs.declared.filter.Sender.{Sender}
use Rattle.j39_listen.specs.declared.filter.Sender.TheVariants.{Address, Named}

-- the senders, destinations and groups, and the first and the last moment that are asked for; all where none are given
pub record FilterRecord : Type 0 where
  pub from : Option (List Sender)
  pub to : Option (List ℕ)
  pub pgns : Option (List ℕ)
  pub since : Option Moment
  pub until : Option Moment

abbrev pub filter_of : Filter → FilterRecord
filter_of f = record {
  from = option_map (λ senders. senders.now) f.from;
  to = option_map (λ addresses. addresses.now) f.to;
  pgns = option_map (λ pgns. pgns.now) f.pgns;
  since = f.since;
  until = f.until;
}

-- nothing is asked for, so that all is taken
abbrev pub no_filter : FilterRecord
no_filter = record { from = None; to = None; pgns = None; since = None; until = None }

-- one of these passes, or none are given
abbrev pub is_asked : {T : Type 0} → (T → Bool) → Option (List T) → Bool
is_asked test None = true
is_asked test (Some asked) = list_any test asked

-- this NAME held the address
abbrev pub is_name : ℕ → Option ℕ → Bool
is_name name None = false
is_name name (Some holder) = holder == name

-- a sender is meant by its address, or by the NAME that held its address then, whatever the address
abbrev pub is_sender : ℕ → Option ℕ → Sender → Bool
is_sender address holder (Address asked) = asked == address
is_sender address holder (Named asked) = is_name (name_raw asked) holder

-- what has no destination goes to all, as what is sent to 255 does
abbrev pub goes_to : Option ℕ → ℕ
goes_to destination = unwrap_or destination 255

-- a moment is a stamp, or so long behind the first frame of the bus
abbrev pub moment_micros : ℕ → Moment → ℕ
moment_micros first (At micros) = micros
moment_micros first (Behind span) = first + span

abbrev pub is_since : ℕ → ℕ → Option Moment → Bool
is_since first stamp None = true
is_since first stamp (Some moment) = nat_le (moment_micros first moment) stamp

abbrev pub is_until : ℕ → ℕ → Option Moment → Bool
is_until first stamp None = true
is_until first stamp (Some moment) = nat_le stamp (moment_micros first moment)

-- so are its sender, its destination and its group
abbrev pub is_listed : FilterRecord → ℕ → Option ℕ → Option ℕ → ℕ → Bool
is_listed f address name destination pgn =
    is_asked (is_sender address name) f.from
    && (is_asked (λ asked. asked == goes_to destination) f.to && is_asked (λ asked. asked == pgn) f.pgns)

-- where the first frame has this stamp, this one lies between the moments that are asked for, which both take their own
abbrev pub is_in_time : FilterRecord → ℕ → ℕ → Bool
is_in_time f first stamp = is_since first stamp f.since && is_until first stamp f.until

-- what was sent so is asked for: by its stamp, and by its sender, its destination and its group
abbrev pub asks_for : FilterRecord → ℕ → ℕ → ℕ → Option ℕ → Option ℕ → ℕ → Bool
asks_for f first stamp address name destination pgn =
    is_in_time f first stamp && is_listed f address name destination pgn

-- so is the entry
abbrev pub takes : FilterRecord → ℕ → Entry → Bool
takes f first e = asks_for f first e.stamp e.address e.name e.destination e.pgn

-- or the message, with all of its entries
abbrev pub takes_message : FilterRecord → ℕ → Hearing → Bool
takes_message f first h = asks_for f first h.stamp h.message.source h.name h.destination h.message.pgn

-- the messages that are asked for, in order
abbrev pub messages_taken : FilterRecord → ℕ → List Hearing → List Hearing
messages_taken f first heard = filter (takes_message f first) heard

-- those between the moments
abbrev pub in_time : FilterRecord → ℕ → List Hearing → List Hearing
in_time f first heard = filter (λ h. is_in_time f first h.stamp) heard

-- the stamp of the first frame, where there is one
abbrev pub first_of : List FrameRecord → Option ℕ
first_of [] = None
first_of (f ∷ F) = Some f.stamp

abbrev pub first_stamp : List FrameRecord → ℕ
first_stamp F = unwrap_or (first_of F) 0

-- the entries that are asked for, in the order of the report
abbrev pub taken : FilterRecord → ℕ → List Entry → List Entry
taken f first entries = filter (takes f first) entries

-- these stand among the others, in the same order
pub data IsAmong : List Entry → List Entry → Type 0 where
  nothing : IsAmong [] []
  kept : (e : Entry) (some all : List Entry) → IsAmong some all → IsAmong (e ∷ some) (e ∷ all)
  left : (e : Entry) (some all : List Entry) → IsAmong some all → IsAmong some (e ∷ all)

-- each message that is heard counts, and each line that is written
abbrev pub filtered_of : Form → List RowRecord → FilterRecord → ℕ → List Hearing → Output
filtered_of form groups f first heard = record {
  text = flat_map (form groups) (taken f first (flat_map (entries_of groups) heard));
  messages = length heard;
  lines = length (taken f first (flat_map (entries_of groups) heard));
}

-- the entries of the report that are asked for, whatever the bus is called, in a form
abbrev pub MakesFilteredIn : Form → List RowRecord → FilterRecord → Making
MakesFilteredIn form groups f bus F output =
    (heard : List Hearing) × AreHeard groups F heard × (output ≡ filtered_of form groups f (first_stamp F) heard)

-- a line for each
abbrev pub MakesFiltered : List RowRecord → FilterRecord → Making
MakesFiltered = MakesFilteredIn (λ groups. entry_text)
