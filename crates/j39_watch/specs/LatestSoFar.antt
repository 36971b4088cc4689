-- The steps of a watch's values, entry by entry.
use Rattle.std.specs.Prelude.{◌≡◌, ◌==◌, ◌+◌, ◌++◌, ◌/◌, ℕ, List, if◌then◌else◌, map, reverse}
use Rattle.std.specs.List.{prefix_len}
use Rattle.j39_frame.specs.declared.origin.Origin.{Origin}
use Rattle.j39_groups.specs.Sightings.{SightingRecord, absent, told, told_in}
use Rattle.j39_groups.specs.Value.{ValueRecord}
use Rattle.j39_listen.specs.Counting.{capped}
use Rattle.j39_listen.specs.Heard.{Hearing}
use Rattle.j39_listen.specs.Report.{Entry, entry_of}
use Rattle.j39_memory.specs.ByOrigin.{pairs_of}
use Rattle.j39_reports.specs.MessageHeads.{IsHeadOf}
use Rattle.j39_reports.specs.RowModels.{entry_at, entry_seen}
use Rattle.j39_reports.specs.Summary.{firsts, last_of, origin_of, values_like}
use Rattle.j39_reports.specs.SummaryRun.{WantsRow}
use Rattle.j39_watch.specs.Watch.{Latest, came, is_in, second}
use Rattle.j39_watch.specs.declared.latest.Latest as code
use Rattle.j39_watch.specs.declared.values.Values.{Values}

-- the last value of an origin, how many came in its second, and how many in the one before
pub record LatestRow : Type 0 where
  pub origin : Origin
  pub last : Entry
  pub within : ℕ
  pub before : ℕ

abbrev pub second_of : Entry → ℕ
second_of e = e.stamp / second

-- of some entries, all of one origin, of which the first is given
abbrev pub latest_over : Entry → List Entry → LatestRow
latest_over first es = record {
  origin = origin_of first;
  last = last_of first es;
  within = capped (prefix_len (is_in (second_of (last_of first es))) (reverse es));
  before = capped (came (second_of (last_of first es)) es);
}

-- of one entry
abbrev pub latest_begun : Entry → LatestRow
latest_begun e = record { origin = origin_of e; last = e; within = 1; before = 0 }

-- with one entry more
abbrev pub latest_grown : LatestRow → Entry → LatestRow
latest_grown row e = record {
  origin = row.origin;
  last = e;
  within = if second_of e == second_of row.last then capped (row.within + 1) else 1;
  before =
      if second_of e == second_of row.last then row.before
      else (if second_of e == second_of row.last + 1 then row.within else 0);
}

-- how many came in the second before this one
abbrev pub came_before : LatestRow → ℕ → ℕ
came_before row now =
    if now == second_of row.last then row.before else (if now == second_of row.last + 1 then row.within else 0)

-- what a watch shows of it
abbrev pub latest_at : ℕ → LatestRow → Latest
latest_at now row = record { entry = row.last; came = came_before row (now / second) }

abbrev pub latest_row : Origin × code.Latest → LatestRow
latest_row (origin, latest) = record {
  origin = origin;
  last = entry_seen origin latest.seen;
  within = latest.within;
  before = latest.before;
}

-- whatever its origin
abbrev pub HasFollowed : code.Latest → ℕ → ValueRecord → code.Latest → Type 0
HasFollowed old stamp value new =
    (origin : Origin) → latest_row (origin, new) ≡ latest_grown (latest_row (origin, old)) (entry_at origin stamp value)

-- the rows are those of these entries
abbrev pub AreLatest : List (Origin × code.Latest) → List Entry → Type 0
AreLatest rows entries = map latest_row rows ≡ map (λ first. latest_over first (values_like first entries)) (firsts entries)

-- the entries before a message, and the message
pub record Behind : Type 0 where
  pub before : List Entry
  pub hearing : Hearing

-- the rows are those of the entries before the message and of what it told so far
pub record HasFollowedMessage (message : Behind) (values : Values) (sightings : List SightingRecord) : Type 0 where
  pub are_latest : AreLatest (pairs_of values.rows) (message.before ++ map (entry_of message.hearing) (told_in sightings))
  pub head_is : IsHeadOf values.head message.hearing

-- where they want memory: at the first value of an origin, and at a text
abbrev pub WantsRoomAt : Behind → List SightingRecord → SightingRecord → Type 0
WantsRoomAt message before (told reading) =
    WantsRow (message.before ++ map (entry_of message.hearing) (told_in before)) (entry_of message.hearing reading)
WantsRoomAt message before (absent spn) = ⊥
