-- What publishers sent: messages from addresses that they hold, with at most one broadcast and one transfer for each
-- destination open (J1939-21, 5.10; J1939-81, 4.2). A message in one frame is of a group that a table reports.
use Rattle.std.specs.Prelude.{◌≡◌, ◌≢◌, ◌⊎◌, ℕ, suc, ◌+◌, ◌-◌, ◌<◌, ◌≤◌, Bool, true, false, ◌||◌, ◌==◌, List, length, map, slice_get, slice_index, Option, Some, All}
use Rattle.std.specs.List.{Contains, list_any}
use Rattle.std.specs.List.Sorted.{IsStrictlyIncreasing}
use Rattle.j39_frame.specs.Address.{IsAddress}
use Rattle.j39_frame.specs.Frame.{FrameRecord}
use Rattle.j39_frame.specs.Identifier.{pgn_of, source_of}
use Rattle.j39_groups.specs.Readings.{is_reported_in}
use Rattle.j39_groups.specs.Row.{RowRecord}
use Rattle.j39_transport.specs.Assembly.{count_below}
use Rattle.j39_transport.specs.Carries.{Carries}
use Rattle.j39_transport.specs.Events.{rivals}
use Rattle.j39_transport.specs.Frames.{is_announcement, is_clear_to_send, is_end, is_packet}
use Rattle.j39_transport.specs.Key.{Key, limit, sender}
use Rattle.j39_transport.specs.Key.Key.{Broadcast, Directed}
use Rattle.j39_transport.specs.Message.{MessageRecord}
use Rattle.j39_address.specs.Claim.{claims_of}
use Rattle.j39_address.specs.Holder.{IsHolder}
use Rattle.j39_listen.specs.Heard.{frame_at, frames_only}

-- who sends from this address: the NAME that holds it, or somebody where nobody does
pub record Publisher : Type 0 where
  pub name : Option ℕ
  pub address : ℕ

-- a message of a publisher, and the places of the frames that carry it, under this key where there are several
pub record Item : Type 0 where
  pub publisher : Publisher
  pub key : Key
  pub message : MessageRecord
  pub places : List ℕ

-- who published, and what
pub record Publishing : Type 0 where
  pub publishers : List Publisher
  pub items : List Item

abbrev pub first_place : Item → ℕ
first_place item = slice_index item.places 0

abbrev pub last_place : Item → ℕ
last_place item = slice_index item.places (length item.places - 1)

-- from its first place to its last
abbrev pub Spans : Item → ℕ → Type 0
Spans item j = (first_place item ≤ j) × (j ≤ last_place item)

abbrev pub is_publisher : Publishing → ℕ → Bool
is_publisher P address = list_any (λ p. p.address == address) P.publishers

-- place j is one of the n-th item's; of exactly one item's
abbrev pub StandsIn : Publishing → ℕ → ℕ → Type 0
StandsIn P n j = (item : Item) × (slice_get P.items n ≡ Some item) × Contains item.places j

abbrev pub StandsInOne : Publishing → ℕ → Type 0
StandsInOne P j = (n : ℕ) × StandsIn P n j × ((m : ℕ) → StandsIn P m j → m ≡ n)

-- the number of a packet
abbrev pub number_at : List FrameRecord → ℕ → ℕ
number_at F j = slice_index (frame_at F j).bytes 0

-- ---- one item

-- a frame of the item's own, or a CTS of its pair and group
abbrev pub is_frame_of : List FrameRecord → Item → ℕ → Bool
is_frame_of F item j = list_any (λ p. p == j) item.places || is_clear_to_send item.key item.message.pgn (frame_at F j)

-- two such frames, one after the other
pub record AreSuccessive (F : List FrameRecord) (item : Item) (a b : ℕ) : Type 0 where
  pub order : a < b
  pub earlier : Spans item a × (is_frame_of F item a ≡ true)
  pub later : Spans item b × (is_frame_of F item b ≡ true)
  pub none_between : (q : ℕ) → a < q → q < b → is_frame_of F item q ≡ false

-- a publisher sent the item: the frames at its places carry its message
pub record IsSent (groups : List RowRecord) (F : List FrameRecord) (P : Publishing) (item : Item) : Type 0 where
  pub of_a_publisher : Contains P.publishers item.publisher
  pub source_is : item.message.source ≡ item.publisher.address
  pub reported : length item.message.bytes ≤ 8 → is_reported_in groups item.message.pgn ≡ true
  pub rising : IsStrictlyIncreasing item.places
  pub inside : last_place item < length F
  pub carried : Carries item.key item.message (map (frame_at F) item.places)
  -- from its first place to its last the publisher's NAME, or nobody, holds the address
  pub held : (j : ℕ) → Spans item j → IsHolder (claims_of F) j item.publisher.address item.publisher.name
  -- its frames are near enough to one another
  pub in_time : (a b : ℕ) → AreSuccessive F item a b → (frame_at F b).stamp ≤ (frame_at F a).stamp + limit item.key
  -- no acknowledgment and no abort ends it, and fewer than sixteen directed announcements stand behind its own
  pub unended : (j : ℕ) → Spans item j → is_end item.key item.message.pgn (frame_at F j) ≡ false
  pub young : count_below (rivals item.key) (frames_only F) (suc (last_place item))
      < 16 + count_below (rivals item.key) (frames_only F) (suc (first_place item))

-- ---- all of them

-- two messages in packets, both broadcasts of one publisher, or both its transfers to one destination
pub record AreAlike (x y : Item) : Type 0 where
  pub publisher : x.publisher ≡ y.publisher
  pub key : x.key ≡ y.key
  pub long_x : 9 ≤ length x.message.bytes
  pub long_y : 9 ≤ length y.message.bytes

-- q is the item's first place behind j
pub record IsNextPlace (item : Item) (j q : ℕ) : Type 0 where
  pub behind : j < q
  pub stands : Contains item.places q
  pub first : (r : ℕ) → Contains item.places r → j < r → q ≤ r

-- the packet at place j has a number that no open message of the key needs: none is open there, or it isn't that of the
-- message's next packet
abbrev pub IsSpare : List FrameRecord → Publishing → Key → ℕ → Type 0
IsSpare F P k j = (n : ℕ) (item : Item) → slice_get P.items n ≡ Some item → item.key ≡ k → Spans item j
    → (q : ℕ) → IsNextPlace item j q → number_at F j ≢ number_at F q

abbrev pub NeverBack : List FrameRecord → Type 0
NeverBack F = (i j : ℕ) → i < j → j < length F → (frame_at F i).stamp ≤ (frame_at F j).stamp

-- in F the publishers sent these items, and nothing else that would be heard
pub record Published (groups : List RowRecord) (F : List FrameRecord) (P : Publishing) : Type 0 where
  pub addresses : All (λ p. IsAddress p.address) P.publishers
  pub distinct : (m n : ℕ) (p : Publisher) → slice_get P.publishers m ≡ Some p → slice_get P.publishers n ≡ Some p
      → m ≡ n
  pub sent : (n : ℕ) (item : Item) → slice_get P.items n ≡ Some item → IsSent groups F P item
  -- two items that are alike stand one behind the other
  pub apart : (m n : ℕ) (x y : Item) → slice_get P.items m ≡ Some x → slice_get P.items n ≡ Some y → m ≢ n
      → AreAlike x y
      → (last_place x < first_place y) ⊎ (last_place y < first_place x)
  -- each frame of a reported group and each announcement from their addresses stands in one item
  pub reported : (j : ℕ) → j < length F → is_publisher P (source_of (frame_at F j).id) ≡ true
      → is_reported_in groups (pgn_of (frame_at F j).id) ≡ true → StandsInOne P j
  pub announced : (j : ℕ) (k : Key) → is_publisher P (sender k) ≡ true → is_announcement k (frame_at F j) ≡ true
      → StandsInOne P j
  -- each packet too, but for those of broadcasts that no announcement precedes, and for spare ones of transfers
  pub broadcast : (j s : ℕ) → is_publisher P s ≡ true → is_packet (Broadcast s) (frame_at F j) ≡ true
      → StandsInOne P j ⊎ ((q : ℕ) → q < j → is_announcement (Broadcast s) (frame_at F q) ≡ false)
  pub directed : (j s d : ℕ) → is_publisher P s ≡ true → is_packet (Directed s d) (frame_at F j) ≡ true
      → StandsInOne P j ⊎ IsSpare F P (Directed s d) j
  pub never_back : NeverBack F
