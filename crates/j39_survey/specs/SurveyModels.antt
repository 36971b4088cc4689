-- What the code's values show, and what each stands for.
use Rattle.std.specs.Prelude.{◌≡◌, ◌<◌, ◌==◌, ◌/◌, ◌%◌, ◌∷◌, [], ℕ, List, Bool, Option, None, Some, length, map, get_or, option_map}
use Rattle.std.specs.Int.{bit_at}
use Rattle.std.specs.List.{IsDistinct, list_any}
use Rattle.std.specs.Str.{bytes_eq}
use Rattle.j39_memory.specs.ByGroup.{values_of}
use Rattle.j39_frame.specs.Frame.{FrameRecord}
use Rattle.j39_frame.specs.Groups.{IsHeardGroup, place_of_group}
use Rattle.j39_frame.specs.Identifier.{source_of}
use Rattle.j39_frame.specs.Stamp.{stamp_micros}
use Rattle.j39_log.specs.Log.{bus_of, frames_of}
use Rattle.j39_listen.specs.Counting.{capped}
use Rattle.j39_listen.specs.Heard.{Hearing}
use Rattle.j39_listen.specs.Listening.{Hears}
use Rattle.j39_survey.specs.GroupCounts.{ArePutTogether, Came, came_in, controllers_in, senders_in, silences_in, spread_of}
use Rattle.j39_survey.specs.GroupCounts as counted
use Rattle.j39_survey.specs.Interfaces.{InterfaceRecord, interfaces_of, last_behind, told_in, untold_in}
use Rattle.j39_survey.specs.LogLines.{LogLine, Seen, UnreadRecord, has_log_line, others_in, seen_in, spelled_in, unread_in}
use Rattle.j39_survey.specs.OtherLines.{OthersRecord, others_of}
use Rattle.j39_survey.specs.SurveyText as rows
use Rattle.j39_survey.specs.UnreadLines.{ShownRecord, are_printed, shown_in}
use Rattle.j39_rows.specs.Models.{cell_of}
use Rattle.j39_survey.specs.declared.surveys.addresses.Addresses.{Addresses}
use Rattle.j39_survey.specs.declared.surveys.arrivals.Arrivals.{Arrivals}
use Rattle.j39_survey.specs.declared.surveys.distances.Distances.{Distances}
use Rattle.j39_survey.specs.declared.surveys.distances.Silence.{Silence}
use Rattle.j39_survey.specs.declared.surveys.distances.Spread.{Spread}
use Rattle.j39_survey.specs.declared.surveys.group_table.GroupCount.{GroupCount}
use Rattle.j39_survey.specs.declared.surveys.group_table.GroupTable.{GroupTable}
use Rattle.j39_survey.specs.declared.surveys.interfaces.InterfaceCounts.{InterfaceCounts}
use Rattle.j39_survey.specs.declared.surveys.interfaces.Interfaces.{Interfaces}
use Rattle.j39_survey.specs.declared.surveys.others.Others.{Others}
use Rattle.j39_survey.specs.declared.surveys.log_survey.Survey.{Survey}
use Rattle.j39_survey.specs.declared.surveys.senders.Senders.{Senders}
use Rattle.j39_survey.specs.declared.surveys.survey_row.SurveyRow.{SurveyRow}
use Rattle.j39_survey.specs.declared.surveys.traffic.Traffic.{Traffic}
use Rattle.j39_survey.specs.declared.surveys.unread.UnreadLine.{UnreadLine}
use Rattle.j39_survey.specs.declared.surveys.unread.UnreadLines.{UnreadLines}

-- ---- addresses

abbrev pub has_bit : ℕ → ℕ → Bool
has_bit word at = bit_at word at == 1

unfoldable pub has_address : Addresses → ℕ → Bool
has_address set a = has_bit (get_or set.words (a / 64) 0) (a % 64)

-- ---- groups

-- it came from these addresses, one after the other, of which the controllers' are noted
pub record HaveSent (senders : Senders) (sources : List ℕ) : Type 0 where
  pub count_is : senders.count ≡ senders_in sources
  pub heard_are : (a : ℕ) → has_address senders.heard a ≡ list_any (λ x. a == x) (controllers_in sources)

abbrev pub silence_record : Silence → counted.Silence
silence_record s = record { since = stamp_micros s.since; length = s.length }

abbrev pub spread_record : Spread → counted.Spread
spread_record s = record { count = s.count; sum = s.sum; least = s.least; longest = silence_record s.longest }

-- the last of some moments
abbrev pub last_in : List ℕ → Option ℕ
last_in [] = None
last_in (x ∷ xs) = Some (last_behind x xs)

-- it came at these moments, one after the other
pub record HaveMeasured (distances : Distances) (moments : List ℕ) : Type 0 where
  pub last_is : option_map stamp_micros distances.last ≡ last_in moments
  pub spread_is : option_map spread_record distances.spread ≡ spread_of (silences_in moments)

-- it came with these frames
pub record HaveArrived (arrivals : Arrivals) (frames : List FrameRecord) : Type 0 where
  pub count_is : arrivals.count ≡ capped (length frames)
  pub senders_are : HaveSent arrivals.senders (map (λ f. source_of f.id) frames)
  pub distances_are : HaveMeasured arrivals.distances (map (λ f. f.stamp) frames)

-- this came of the group
pub record HasCounted (count : GroupCount) (c : Came) : Type 0 where
  pub arrived : HaveArrived count.arrivals c.frames
  pub frames_is : count.frames ≡ capped c.own
  pub announced_is : count.announced ≡ capped c.announced
  pub whole_is : count.whole ≡ capped c.whole

-- this came of each group
pub record HaveCounted (table : GroupTable) (came : ℕ → Came) : Type 0 where
  pub all : length (values_of table.counts) ≡ 17344
  pub each : (pgn : ℕ) (d : GroupCount) → IsHeardGroup pgn
      → HasCounted (get_or (values_of table.counts) (place_of_group pgn) d) (came pgn)

-- the traffic of an interface was these frames, in which these messages in packets were heard
pub record HasMet (traffic : Traffic) (F : List FrameRecord) (heard : List Hearing) : Type 0 where
  pub hears : Hears traffic.listener F
  pub are_heard : ArePutTogether F heard
  pub counted : HaveCounted traffic.groups (came_in F heard)

-- ---- interfaces

abbrev pub interface_record : InterfaceCounts → InterfaceRecord
interface_record i = record {
  name = i.name.items;
  frames = i.frames;
  first = stamp_micros i.first;
  last = stamp_micros i.last;
  back = i.back;
}

pub record HaveMet (interfaces : Interfaces) (seen : List Seen) : Type 0 where
  pub told_are : map interface_record interfaces.told.items ≡ interfaces_of seen
  pub untold_is : interfaces.untold ≡ capped (untold_in seen)
  pub apart : IsDistinct bytes_eq (told_in seen)

-- where the interfaces know the place of one, it is this one's
abbrev pub IsPlaced : Interfaces → Option (List ℕ) → Type 0
IsPlaced interfaces bus = (d : InterfaceCounts) → interfaces.place < length interfaces.told.items
    → bus ≡ Some (get_or interfaces.told.items interfaces.place d).name.items

-- ---- other lines and unread ones

abbrev pub others_record : Others → OthersRecord
others_record o = record {
  standard = o.standard;
  remote = o.remote;
  flexible = o.flexible;
  error = o.error;
  odd = o.odd;
}

abbrev pub shown_record : UnreadLine → ShownRecord
shown_record line = record { number = line.number; front = line.front.items; is_cut = line.is_cut }

pub record HaveNoted (lines : UnreadLines) (unread : List UnreadRecord) : Type 0 where
  pub count_is : lines.count ≡ capped (length unread)
  pub first_are : map shown_record lines.first.items ≡ shown_in unread
  pub printed_is : lines.are_printed ≡ are_printed unread

-- ---- rows

abbrev pub row_shown : SurveyRow → rows.SurveyRow
row_shown row = record {
  kind = row.kind.now;
  lines = cell_of row.lines;
  interface = cell_of row.interface;
  pgn = cell_of row.pgn;
  frames = cell_of row.frames;
  first = option_map stamp_micros row.first;
  last = option_map stamp_micros row.last;
  back = cell_of row.back;
  announced = cell_of row.announced;
  whole = cell_of row.whole;
  addresses = cell_of row.addresses;
  least = cell_of row.least;
  mean = cell_of row.mean;
  most = cell_of row.most;
  since = option_map stamp_micros row.since;
  class = cell_of row.class;
  name = cell_of row.name;
  standard = cell_of row.standard;
  remote = cell_of row.remote;
  flexible = cell_of row.flexible;
  error = cell_of row.error;
  odd = cell_of row.odd;
  line = cell_of row.line;
  text = cell_of row.text;
}

-- ---- all lines so far

-- the traffic is that of the given interface, or of the first frame's
pub record HasSurveyed (survey : Survey) (given : Option (List ℕ)) (lines : List LogLine) : Type 0 where
  pub lines_are : survey.lines ≡ capped (length lines)
  pub interfaces_are : HaveMet survey.interfaces (seen_in lines)
  pub bus_is : survey.bus ≡ bus_of given (spelled_in lines)
  pub placed : IsPlaced survey.interfaces survey.bus
  pub heard : List Hearing
  pub met : HasMet survey.traffic (frames_of given (spelled_in lines)) heard
  pub others_are : others_record survey.others ≡ others_of (others_in lines)
  pub unread_are : HaveNoted survey.unread (unread_in lines)
  pub has_form : survey.has_log_line ≡ has_log_line lines
