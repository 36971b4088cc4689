-- What contracts see of the code's types.
use Rattle.std.specs.Prelude.{ℕ}
use Rattle.std.specs.Option.{option_map}
use Rattle.j39_frame.specs.Stamp.{stamp_micros}
use Rattle.j39_groups.specs.Models.{scale_record}
use Rattle.j39_groups.specs.Value.{ValueRecord, number, on, off, error, reserved, indicator, text}
use Rattle.j39_memory.specs.Stored.{value_of}
use Rattle.j39_listen.specs.Report.{Entry}
use Rattle.j39_reports.specs.Summary.{Range, Row}
use Rattle.j39_reports.specs.declared.summaries.statistics.Statistics.{Statistics}
use Rattle.j39_reports.specs.declared.summaries.statistics.Sample.{Sample}
use Rattle.j39_reports.specs.declared.summaries.statistics.NumberRange.{NumberRange}
use Rattle.j39_reports.specs.declared.summaries.stored_value.StoredValue.{StoredValue}
use Rattle.j39_reports.specs.declared.summaries.stored_value.StoredValue.TheVariants as kept
use Rattle.j39_reports.specs.declared.summaries.stored_value.StoredValue.TheVariants.{On, Off, Error, Reserved, Indicator, Text}
use Rattle.j39_reports.specs.declared.summaries.word.Word.{Word}
use Rattle.j39_reports.specs.declared.summaries.word.Word.TheVariants as word
use Rattle.j39_frame.specs.declared.origin.Origin.{Origin}

abbrev pub kept_value : StoredValue → ValueRecord
kept_value (kept.Number n scale) = number n (scale_record scale)
kept_value On = on
kept_value Off = off
kept_value Error = error
kept_value Reserved = reserved
kept_value Indicator = indicator
kept_value (Text copy) = text (value_of copy).items

abbrev pub word_value : Word → ValueRecord
word_value word.On = on
word_value word.Off = off
word_value word.Error = error
word_value word.Reserved = reserved
word_value word.Indicator = indicator

abbrev pub entry_at : Origin → ℕ → ValueRecord → Entry
entry_at origin stamp value = record {
  stamp = stamp;
  address = origin.address;
  destination = origin.destination;
  name = origin.name;
  pgn = origin.pgn;
  spn = origin.spn;
  value = value;
}

abbrev pub entry_seen : Origin → Sample → Entry
entry_seen origin seen = entry_at origin (stamp_micros seen.stamp) (kept_value seen.value)

abbrev pub range_of_span : NumberRange → Range
range_of_span span = record { slot = scale_record span.scale; least = span.least; most = span.most }

-- the row of what was seen of an origin
abbrev pub row_shown : Origin × Statistics → Row
row_shown (origin, statistics) = record {
  first = entry_seen origin statistics.first;
  last = entry_seen origin statistics.last;
  count = statistics.count;
  words = statistics.words;
  range = option_map range_of_span statistics.range;
}
