-- The values that were published, by a table of parameters, and what a report tells of them.
use Rattle.std.specs.Prelude.{◌≡◌, ℕ, zero, suc, Bool, false, not, ◌&&◌, ◌==◌, List, [], ◌++◌, length, filter}
use Rattle.std.specs.List.{flat_map, list_any}
use Rattle.j39_frame.specs.Frame.{FrameRecord}
use Rattle.j39_groups.specs.Row.{RowRecord}
use Rattle.j39_listen.specs.Filter.{FilterRecord, taken}
use Rattle.j39_listen.specs.Heard.{Hearing, frame_at, sent_to}
use Rattle.j39_listen.specs.Loss.{LostTogether, Repeated, Thinned}
use Rattle.j39_listen.specs.Published.{Item, Published, Publishing, is_publisher, last_place}
use Rattle.j39_listen.specs.Report.{Entry, entries_of}

-- an item as it is heard at its last place, under its publisher's NAME
abbrev pub hearing_of_item : List FrameRecord → Item → Hearing
hearing_of_item F item = record {
  message = item.message;
  destination = sent_to item.message.pgn (frame_at F (last_place item)).id;
  stamp = (frame_at F (last_place item)).stamp;
  name =
      item.publisher.name;
}

-- the items whose last place is i, but for those that have a place in X
abbrev pub ending : Publishing → (ℕ → Bool) → ℕ → List Item
ending P X i = filter (λ item. last_place item == i && not (list_any X item.places)) P.items

-- an entry for each reading of each item whose last place is below n, by rising last place
abbrev pub values_below : List RowRecord → List FrameRecord → Publishing → (ℕ → Bool) → ℕ → List Entry
values_below groups F P X zero = []
values_below groups F P X (suc n) = values_below groups F P X n
    ++ flat_map (λ item. entries_of groups (hearing_of_item F item)) (ending P X n)

-- the values published in F, without the items that have a place in X
abbrev pub values : List RowRecord → List FrameRecord → Publishing → (ℕ → Bool) → List Entry
values groups F P X = values_below groups F P X (length F)

abbrev pub no_place : ℕ → Bool
no_place i = false

-- the entries of a report that are under addresses of publishers
abbrev pub kept_to : Publishing → List Entry → List Entry
kept_to P entries = filter (λ e. is_publisher P e.address) entries

-- ---- what the report of a list of frames tells of publishers

-- for whatever was published in F: exactly the values published, in order of completion
abbrev pub TellsPublished : List RowRecord → List FrameRecord → List Entry → Type 0
TellsPublished groups F entries = (P : Publishing) → Published groups F P
    → kept_to P entries ≡ values groups F P no_place

-- where G is what is left of the frames F: exactly the values of the messages that lost no packet
abbrev pub TellsThinned : List RowRecord → List FrameRecord → List Entry → Type 0
TellsThinned groups G entries = (F : List FrameRecord) (P : Publishing) (X : ℕ → Bool)
    → Published groups F P → Thinned F G X → LostTogether F P X → kept_to P entries ≡ values groups F P X

-- where H has some of the packets that are left more than once: the same
abbrev pub TellsRepeated : List RowRecord → List FrameRecord → List Entry → Type 0
TellsRepeated groups H entries = (F G : List FrameRecord) (P : Publishing) (X : ℕ → Bool)
    → Published groups F P → Thinned F G X → LostTogether F P X → Repeated G H → kept_to P entries ≡ values groups F P X

-- what a filter takes of a report tells of what was published exactly what it takes of these values, whatever packets were lost
-- and repeated
pub record TellsTaken (which : FilterRecord) (first : ℕ) (groups : List RowRecord) (H : List FrameRecord) (entries : List Entry)
    : Type 0 where
  pub published : (P : Publishing) → Published groups H P → kept_to P entries ≡ taken which first (values groups H P no_place)
  pub thinned : (F : List FrameRecord) (P : Publishing) (X : ℕ → Bool) → Published groups F P → Thinned F H X → LostTogether F P X
      → kept_to P entries ≡ taken which first (values groups F P X)
  pub repeated : (F G : List FrameRecord) (P : Publishing) (X : ℕ → Bool) → Published groups F P → Thinned F G X
      → LostTogether F P X → Repeated G H → kept_to P entries ≡ taken which first (values groups F P X)
