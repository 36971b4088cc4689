-- Broadcasts in packets that are heard (J1939-21, 5.10.3.5 and 5.13.3), one of each source: what a history says of them.
use Rattle.std.specs.Prelude.{if◌then◌else◌, ◌&&◌, ◌*◌, ◌++◌, ◌+◌, ◌-◌, ◌||◌, ◌∷◌, ◌≡◌, ◌≤◌}
use Rattle.std.specs.List.{filter, find}
use Rattle.j39_node.specs.Common.{[], Bool, broadcast_limit, by, CarriesCut, drop, false, FrameRecord, is_announcement, is_packet, is_same, is_there, IsTrue, length, List, listed, MessageRecord, min, nat_eq, nat_le, nat_lt, None, not, Option, packets_for, pgn_named, size_named, slice_index, Some, source_of, suc, take, true, ℕ}
use Rattle.j39_node.specs.declared.kinds.News.TheVariants.{MessagesMissed}
use Rattle.j39_node.specs.History.{Who, Call, is_claim, is_own_group, is_some, is_subscribed, stamp_at}
use Rattle.j39_node.specs.History.Call.{At, TakeNews, ReleaseBroadcast}
use Rattle.j39_node.specs.History.Act.{Hear, Tick, TakeFrame}
use Rattle.j39_node.specs.Reception.{KeepsHolder, frames_heard, heard_at, holder, restarts, time_heard}
use Rattle.j39_node.specs.Transfers.{sooner}

-- what was announced and by whom, how many packets were appended and their data, the moment and the time of the last, or of the
-- announcement before the first, the time since which its source has one open, and the NAME that held its source
pub record OpenBroadcast : Type 0 where
  pub source : ℕ
  pub group : ℕ
  pub size : ℕ
  pub count : ℕ
  pub bytes : List ℕ
  pub stamp : ℕ
  pub time : ℕ
  pub since : ℕ
  pub name : Option ℕ

-- the last packet came
abbrev pub is_whole : OpenBroadcast → Bool
is_whole x = nat_le x.size (length x.bytes)

-- broadcasts of one source that take one another's place may take so long till one of n packets is whole (own)
abbrev pub account : ℕ → ℕ
account n = (n + 1) * broadcast_limit

-- till when its next packet may come
abbrev pub expires : OpenBroadcast → ℕ
expires x = min (x.time + broadcast_limit) (x.since + account (packets_for x.size))

-- that is over
abbrev pub is_late : ℕ → OpenBroadcast → Bool
is_late now x = nat_lt (expires x) now

-- ---- those that are open, and the whole ones that wait for the program, the oldest first

pub record Listening : Type 0 where
  pub current : List OpenBroadcast
  pub waits : List (ℕ × MessageRecord)

-- the open one of a source, and those of others
abbrev pub of : ℕ → List OpenBroadcast → Option OpenBroadcast
of source = find (λ x. nat_eq source x.source)

abbrev pub others : ℕ → List OpenBroadcast → List OpenBroadcast
others source = filter (λ x. not (nat_eq source x.source))

abbrev pub without_source : ℕ → Listening → Listening
without_source source l = record { current = others source l.current; waits = l.waits }

-- of n boxes one is free
abbrev pub has_box : ℕ → Listening → Bool
has_box n l = nat_lt (length l.current + length l.waits) n

-- an announcement is heard in the box of the open one of its source, or in a free one
abbrev pub has_room : ℕ → ℕ → Listening → Bool
has_room n source l = is_there (of source l.current) || has_box n l

-- ---- a frame at a time

-- it announces a message to all (BAM)
abbrev pub announces : FrameRecord → Bool
announces f = is_announcement (by (source_of f.id)) f

abbrev pub packs : FrameRecord → Bool
packs f = is_packet (by (source_of f.id)) f

abbrev pub begun : Option ℕ → ℕ → ℕ → FrameRecord → OpenBroadcast
begun name since now f = record {
  source = source_of f.id;
  group = pgn_named f;
  size = size_named f;
  count = 0;
  bytes = [];
  stamp = f.stamp;
  time = now;
  since = since;
  name = name;
}

-- its account: that of the one whose place it takes, or else it begins now
abbrev pub since_in : ℕ → Option OpenBroadcast → ℕ
since_in now None = now
since_in now (Some x) = x.since

-- a message of this group isn't for the program: the group is the stack's own, or isn't subscribed
abbrev pub is_ignored : Who → ℕ → Bool
is_ignored w group = is_own_group group || not (is_subscribed w group)

-- an announcement of a message for the program
abbrev pub is_wanted : Who → FrameRecord → Bool
is_wanted w f = announces f && not (is_ignored w (pgn_named f))

-- one that isn't for the program opens nothing
abbrev pub opens : Who → Option ℕ → ℕ → FrameRecord → Option OpenBroadcast → Option OpenBroadcast
opens w name now f o = if is_ignored w (pgn_named f) then None else Some (begun name (since_in now o) now f)

-- the packet of the next number is appended
abbrev pub grown : ℕ → FrameRecord → OpenBroadcast → OpenBroadcast
grown now f x = record x { count = suc x.count; bytes = x.bytes ++ drop 1 f.bytes; stamp = f.stamp; time = now }

-- a higher number ends it: a packet was lost. A lower one is a repeat, and ignored
abbrev pub skips : FrameRecord → OpenBroadcast → Bool
skips f x = nat_lt (suc x.count) (slice_index f.bytes 0)

abbrev pub goes_on : ℕ → FrameRecord → OpenBroadcast → Option OpenBroadcast
goes_on now f x = if skips f x then None else if nat_eq (slice_index f.bytes 0) (suc x.count) then Some (grown now f x) else Some x

abbrev pub packed : ℕ → FrameRecord → Option OpenBroadcast → Option OpenBroadcast
packed now f None = None
packed now f (Some x) = goes_on now f x

-- what the frame makes of the open one of its source, where there is room for one or not
abbrev pub hears : Who → Option ℕ → ℕ → FrameRecord → Bool → Option OpenBroadcast → Option OpenBroadcast
hears w name now f room o = if announces f then (if room then opens w name now f o else o) else if packs f then packed now f o else o

abbrev pub message_by : OpenBroadcast → ℕ × MessageRecord
message_by x = (x.stamp, record { source = x.source; pgn = x.group; bytes = take x.size x.bytes })

-- the message that is whole, or the one that stays open
abbrev pub whole_of : Option OpenBroadcast → Option (ℕ × MessageRecord)
whole_of None = None
whole_of (Some x) = if is_whole x then Some (message_by x) else None

abbrev pub part_of : Option OpenBroadcast → List OpenBroadcast
part_of None = []
part_of (Some x) = if is_whole x then [] else x ∷ []

abbrev pub with_one : Option OpenBroadcast → Listening → Listening
with_one o l = record { current = l.current ++ part_of o; waits = l.waits ++ listed (whole_of o) }

-- what is no announcement and no packet changes nothing
abbrev pub hears_in : ℕ → Who → Option ℕ → ℕ → FrameRecord → Listening → Listening
hears_in n w name now f l =
    if announces f || packs f
    then with_one (hears w name now f (has_room n (source_of f.id) l) (of (source_of f.id) l.current)) (without_source (source_of f.id) l)
    else l

-- the message that it makes whole
abbrev pub made_in : ℕ → Who → Option ℕ → ℕ → FrameRecord → Listening → Option (ℕ × MessageRecord)
made_in n w name now f l =
    if announces f || packs f
    then whole_of (hears w name now f (has_room n (source_of f.id) l) (of (source_of f.id) l.current))
    else None

-- the packet leaves a gap
abbrev pub is_gap : FrameRecord → Option OpenBroadcast → Bool
is_gap f None = false
is_gap f (Some x) = skips f x

-- the frame ends the open one of its source, or announces a message for the program that isn't heard
abbrev pub is_unheard : Who → FrameRecord → Bool → Option OpenBroadcast → Bool
is_unheard w f room o = if announces f then (if room then is_there o else not (is_ignored w (pgn_named f))) else packs f && is_gap f o

abbrev pub is_unheard_in : ℕ → Who → FrameRecord → Listening → Bool
is_unheard_in n w f l = is_unheard w f (has_room n (source_of f.id) l) (of (source_of f.id) l.current)

-- another NAME holds its source than at its announcement, or none does, or its holder restarted
abbrev pub is_left : Option ℕ → (ℕ → Option ℕ) → OpenBroadcast → Bool
is_left gone holder x = is_some gone x.source || not (is_same x.name (holder x.source))

-- it is over
abbrev pub is_over : Option ℕ → (ℕ → Option ℕ) → ℕ → OpenBroadcast → Bool
is_over gone holder now x = is_left gone holder x || is_late now x

abbrev pub those_over : Option ℕ → (ℕ → Option ℕ) → ℕ → List OpenBroadcast → List OpenBroadcast
those_over gone holder now = filter (is_over gone holder now)

abbrev pub stay : Option ℕ → (ℕ → Option ℕ) → ℕ → List OpenBroadcast → List OpenBroadcast
stay gone holder now = filter (λ x. not (is_over gone holder now x))

abbrev pub staying : Option ℕ → (ℕ → Option ℕ) → ℕ → Listening → Listening
staying gone holder now l = record { current = stay gone holder now l.current; waits = l.waits }

-- ---- the history

abbrev pub listening : Who → List Call → Listening
listening w [] = record { current = []; waits = [] }
listening w (At now (Hear f) ∷ H) =
    hears_in w.boxes w (holder w (At now (Hear f) ∷ H) (source_of f.id)) (time_heard (At now (Hear f) ∷ H)) f
    (staying (restarts w H now f) (holder w (At now (Hear f) ∷ H)) (time_heard (At now (Hear f) ∷ H)) (listening w H))
listening w (At now Tick ∷ H) = staying None (holder w H) (time_heard (At now Tick ∷ H)) (listening w H)
listening w (At now (TakeFrame (Some f)) ∷ H) =
    if is_claim f then staying None (holder w (At now (TakeFrame (Some f)) ∷ H)) (time_heard H) (listening w H) else listening w H
listening w (ReleaseBroadcast true ∷ H) = record { current = (listening w H).current; waits = drop 1 (listening w H).waits }
listening w (call ∷ H) = listening w H

-- the open broadcast of a source, and the whole ones that wait, each with the moment of its last packet
abbrev pub hearing : Who → List Call → ℕ → Option OpenBroadcast
hearing w H source = of source (listening w H).current

abbrev pub waiting : Who → List Call → List (ℕ × MessageRecord)
waiting w H = (listening w H).waits

-- what f finds, of all and of its source
abbrev pub found_in : Who → List Call → ℕ → FrameRecord → Listening
found_in w H now f = staying (restarts w H now f) (holder w (At now (Hear f) ∷ H)) (time_heard (At now (Hear f) ∷ H)) (listening w H)

abbrev pub found : Who → List Call → ℕ → FrameRecord → ℕ → Option OpenBroadcast
found w H now f source = of source (found_in w H now f).current

-- what an announcement opens by it
abbrev pub opened : Who → List Call → ℕ → FrameRecord → OpenBroadcast
opened w H now f =
    begun (holder w (At now (Hear f) ∷ H) (source_of f.id)) (since_in (time_heard (At now (Hear f) ∷ H)) (found w H now f (source_of f.id)))
    (time_heard (At now (Hear f) ∷ H)) f

-- those that are over by the call: their source has another holder, or they are late
abbrev pub over_by : Who → List Call → Call → List OpenBroadcast
over_by w H (At now (Hear f)) =
    those_over (restarts w H now f) (holder w (At now (Hear f) ∷ H)) (time_heard (At now (Hear f) ∷ H)) (listening w H).current
over_by w H (At now Tick) = those_over None (holder w H) (time_heard (At now Tick ∷ H)) (listening w H).current
over_by w H (At now (TakeFrame (Some f))) =
    if is_claim f then those_over None (holder w (At now (TakeFrame (Some f)) ∷ H)) (time_heard H) (listening w H).current else []
over_by w H call = []

abbrev pub unheard_by : Who → List Call → Call → Bool
unheard_by w H (At now (Hear f)) = is_unheard_in w.boxes w f (found_in w H now f)
unheard_by w H call = false

-- how many announcements for the program were heard, how many of their messages broke off or weren't heard, and whether that is news
abbrev pub more : Bool → ℕ → ℕ
more b n = if b then suc n else n

abbrev pub with_all : List OpenBroadcast → ℕ → ℕ
with_all [] n = n
with_all (x ∷ xs) n = suc (with_all xs n)

abbrev pub is_any : List OpenBroadcast → Bool
is_any [] = false
is_any (x ∷ xs) = true

abbrev pub announced : Who → List Call → ℕ
announced w [] = 0
announced w (At now (Hear f) ∷ H) = more (is_wanted w f) (announced w H)
announced w (call ∷ H) = announced w H

abbrev pub unheard : Who → List Call → ℕ
unheard w [] = 0
unheard w (call ∷ H) = more (unheard_by w H call) (with_all (over_by w H call) (unheard w H))

abbrev pub unheard_news : Who → List Call → Bool
unheard_news w [] = false
unheard_news w (TakeNews (Some MessagesMissed) ∷ H) = false
unheard_news w (call ∷ H) = (is_any (over_by w H call) || unheard_by w H call) || unheard_news w H

-- ---- which messages

-- what f makes whole
abbrev pub made_whole : Who → List Call → ℕ → FrameRecord → Option (ℕ × MessageRecord)
made_whole w H now f =
    made_in w.boxes w (holder w (At now (Hear f) ∷ H) (source_of f.id)) (time_heard (At now (Hear f) ∷ H)) f (found_in w H now f)

-- those that were whole
abbrev pub whole_broadcasts : Who → List Call → List (ℕ × MessageRecord)
whole_broadcasts w [] = []
whole_broadcasts w (At now (Hear f) ∷ H) = whole_broadcasts w H ++ listed (made_whole w H now f)
whole_broadcasts w (call ∷ H) = whole_broadcasts w H

-- those that the program got
abbrev pub got_broadcasts : Who → List Call → List (ℕ × MessageRecord)
got_broadcasts w [] = []
got_broadcasts w (ReleaseBroadcast true ∷ H) = got_broadcasts w H ++ take 1 (waiting w H)
got_broadcasts w (call ∷ H) = got_broadcasts w H

-- the NAME that held its source at its announcement, and since
abbrev pub sender_in : Option OpenBroadcast → Option ℕ
sender_in None = None
sender_in (Some x) = x.name

-- with that of one that is made whole
abbrev pub with_sender : {T : Type 0} → Option T → Option ℕ → List (Option ℕ) → List (Option ℕ)
with_sender None name names = names
with_sender (Some made) name names = names ++ name ∷ []

-- of those that wait
abbrev pub broadcast_senders : Who → List Call → List (Option ℕ)
broadcast_senders w [] = []
broadcast_senders w (At now (Hear f) ∷ H) = with_sender (made_whole w H now f) (sender_in (found w H now f (source_of f.id))) (broadcast_senders w H)
broadcast_senders w (ReleaseBroadcast true ∷ H) = drop 1 (broadcast_senders w H)
broadcast_senders w (call ∷ H) = broadcast_senders w H

-- ---- of one sender

-- no announcement of a, nor a packet of it but one of a number that came, where n did
abbrev pub is_beside : ℕ → ℕ → FrameRecord → Bool
is_beside a n f = not (nat_eq (source_of f.id) a) || (not (announces f) && (not (packs f) || nat_le (slice_index f.bytes 0) n))

-- some of these, in order, and between them nothing else of a
pub data IsPartOf (a : ℕ) : List FrameRecord → List FrameRecord → Type 0 where
  ended : IsPartOf a [] []
  passed : (f : FrameRecord) (part all : List FrameRecord) → IsTrue (is_beside a (length part) f) → IsPartOf a part all → IsPartOf a part (all ++ f ∷ [])
  chosen : (f : FrameRecord) (part all : List FrameRecord) → IsPartOf a part all → IsPartOf a (part ++ f ∷ []) (all ++ f ∷ [])

-- an announcement of the message was heard and its packets after it, in order, and of its source nothing between them but packets of
-- numbers that came before; and since, one NAME held its source, or none did
pub record WasBroadcast (w : Who) (H : List Call) (m : MessageRecord) : Type 0 where
  pub later : List Call
  pub at : ℕ
  pub first : FrameRecord
  pub earlier : List Call
  pub is : H ≡ later ++ At at (Hear first) ∷ earlier
  pub packets : List FrameRecord
  pub part : IsPartOf m.source packets (frames_heard later)
  pub carries : CarriesCut (by m.source) m first packets
  pub one : KeepsHolder w m.source later (At at (Hear first) ∷ earlier)

-- ---- when one is over by itself

abbrev pub earliest : List OpenBroadcast → Option ℕ
earliest [] = None
earliest (x ∷ xs) = sooner (Some (expires x)) (earliest xs)

abbrev pub late_at : Option ℕ → ℕ → ℕ → Option ℕ
late_at None last clock = None
late_at (Some e) last clock = stamp_at (last + (suc e - clock))

-- the first moment at which a tick ends one, by when the last one was
abbrev pub hearing_tick : Who → List Call → Option ℕ
hearing_tick w H = late_at (earliest (listening w H).current) (heard_at H) (time_heard H)

-- ---- what every history says of them

-- seven bytes of each packet came, and more are to come
abbrev pub IsFit : OpenBroadcast → Type 0
IsFit x = (length x.bytes ≡ 7 * x.count) × (x.size ≤ 1785) × (is_whole x ≡ false)

-- no two are of one source
abbrev pub AreApart : List OpenBroadcast → Type 0
AreApart [] = Unit {0}
AreApart (x ∷ xs) = (of x.source xs ≡ None) × AreApart xs
