-- Who is at which address after the frames of a bus (J1939-81, 4.2), as it was seen, and its row.
use Rattle.std.specs.Prelude.{◌++◌, ◌≡◌, ◌==◌, ◌&&◌, ◌⊎◌, ◌<◌, ◌≤◌, ◌-◌, ℕ, Bool, true, false, List, [], ◌∷◌, Option, Some, None, codes, filter, if◌then◌else◌, length, map, nat_lt, option_and_then}
use Rattle.std.specs.List.{last_or}
use Rattle.std.specs.Option.{option_map}
use Rattle.j39_frame.specs.Identifier.{source_of}
use Rattle.j39_frame.specs.Frame.{FrameRecord}
use Rattle.j39_address.specs.Claim.{Claim, claim_of, claims_of}
use Rattle.j39_address.specs.Holder.{Holds}
use Rattle.j39_address.specs.Name.{fields_of}
use Rattle.j39_names.specs.Naming.{function_by, maker_by}
use Rattle.j39_names.specs.declared.naming.Named.{Named}
use Rattle.j39_survey.specs.ByAddress.{AreShown, lines_of, shown_from}
use Rattle.j39_listen.specs.Filter.{is_sender}
use Rattle.j39_listen.specs.Headed.{Columned}
use Rattle.j39_listen.specs.Heard.{frame_at}
use Rattle.j39_listen.specs.Output.{Making}
use Rattle.j39_listen.specs.declared.filter.Sender.{Sender}
use Rattle.j39_listen.specs.declared.format.Format.{Format}
use Rattle.j39_rows.specs.Row.{dash, name_column}
use Rattle.j39_survey.specs.GroupCounts.{Silence, silences_in, spread_of}
use Rattle.j39_survey.specs.Nodes.{node_head}
use Rattle.j39_rows.specs.Row.{ColumnRecord, beside_lines, if_any, in_all, micros_cell, or_nothing, row_text, seconds_cell, text, utc_cell}

-- who is at an address: the NAME that holds it and the stamp of its last claim of it, or neither; the stamp of the last frame
-- from there; how long ago that is, where it is long; and the longest silence before it, where that is long
pub record Presence : Type 0 where
  pub address : ℕ
  pub name : Option ℕ
  pub claimed : Option ℕ
  pub heard : Option ℕ
  pub silent : Option ℕ
  pub longest : Option Silence

abbrev pub is_from : ℕ → FrameRecord → Bool
is_from a f = source_of f.id == a

-- the NAME claims the address
abbrev pub is_claim : ℕ → ℕ → Option Claim → Bool
is_claim name a None = false
is_claim name a (Some c) = c.name == name && c.address == a

-- the stamp of the last of the frames that are so, or none
unfoldable pub last_stamp : (FrameRecord → Bool) → List FrameRecord → Option ℕ
last_stamp is F = option_map (λ f. f.stamp) (last_or None (filter is F))

-- the least silence that is told where nothing else is said: five seconds (own)
abbrev pub long_silence : ℕ
long_silence = 5000000

-- how long nothing was heard by now, where that is as long as this
abbrev pub silent_for : ℕ → Option ℕ → Option ℕ → Option ℕ
silent_for long None heard = None
silent_for long (Some now) None = None
silent_for long (Some now) (Some heard) = if nat_lt (now - heard) long then None else Some (now - heard)

-- the same of an address, by the last frame of all
abbrev pub silent_at : ℕ → List FrameRecord → ℕ → Option ℕ
silent_at long F a = silent_for long (last_stamp (λ f. true) F) (last_stamp (is_from a) F)

abbrev pub if_long : ℕ → Option Silence → Option Silence
if_long long None = None
if_long long (Some s) = if nat_lt s.length long then None else Some s

-- the stamps of the frames from an address
abbrev pub stamps_from : List FrameRecord → ℕ → List ℕ
stamps_from F a = map (λ f. f.stamp) (filter (is_from a) F)

-- the first of the longest silences between two frames from there, one behind the other, where it is told
abbrev pub longest_at : ℕ → List FrameRecord → ℕ → Option Silence
longest_at long F a = if_long long (option_map (λ s. s.longest) (spread_of (silences_in (stamps_from F a))))

-- somebody talks at a without holding it: a frame came from there, and from then on nobody held a (so that it was no claim)
pub record Talks (F : List FrameRecord) (a : ℕ) : Type 0 where
  pub at : ℕ
  pub inside : at < length F
  pub from : source_of (frame_at F at).id ≡ a
  pub unheld : (i name : ℕ) → at < i → i ≤ length F → Holds (claims_of F) i name a → ⊥

-- who is at the address after F: the NAME that holds it; where nobody does, who talks there all the same, or nobody
abbrev pub ShowsPresence : ℕ → List FrameRecord → ℕ → Option ℕ → List Presence → Type 0
ShowsPresence long F a (Some name) here = here ≡ record {
  address = a;
  name = Some name;
  claimed = last_stamp (λ f. is_claim name a (claim_of f)) F;
  heard = last_stamp (is_from a) F;
  silent = silent_at long F a;
  longest = longest_at long F a;
} ∷ []
ShowsPresence long F a None here =
    (Talks F a × (here ≡ record { address = a; name = None; claimed = None; heard = last_stamp (is_from a) F; silent = silent_at long F a; longest = longest_at long F a } ∷ []))
    ⊎ ((Talks F a → ⊥) × (here ≡ []))

-- who is at all addresses after F
abbrev pub AreSeenNodes : ℕ → List FrameRecord → List Presence → Type 0
AreSeenNodes long F nodes = AreShown (ShowsPresence long F) F nodes

-- a moment, or a dash in lines
abbrev pub moment_column : List ℕ → Option ℕ → ColumnRecord
moment_column name moment = in_all name dash (or_nothing seconds_cell moment)

-- the same in UTC
abbrev pub utc_column : List ℕ → Option ℕ → ColumnRecord
utc_column name moment = beside_lines name (or_nothing utc_cell moment)

-- what a number is called, if that is known; in lines behind the column's name
abbrev pub called_column : List ℕ → Option (List ℕ) → ColumnRecord
called_column name called = in_all name (if_any (codes " " ++ name ++ codes " ")) (or_nothing text called)

-- what a NAME's function is called, and who made its controller, by names of one's own first
abbrev pub function_of : List Named → Option ℕ → Option (List ℕ)
function_of own name = option_and_then (λ n. function_by own (fields_of n).function) name

abbrev pub maker_of : List Named → Option ℕ → Option (List ℕ)
maker_of own name = option_and_then (λ n. maker_by own (fields_of n).manufacturer) name

-- behind the address: the NAME, when it was claimed last, when heard last, for how long it was silent at the end, and for how long
-- at most before that, since when, and what the NAME says
abbrev pub seen_columns : List Named → Presence → List ColumnRecord
seen_columns own node =
    name_column node.name ∷ moment_column (codes "claimed") node.claimed ∷ utc_column (codes "claimed_utc") node.claimed
    ∷ moment_column (codes "heard") node.heard ∷ utc_column (codes "heard_utc") node.heard
    ∷ in_all (codes "silent") (if_any (codes " silent ")) (or_nothing micros_cell node.silent)
    ∷ in_all (codes "longest") (if_any (codes " longest ")) (or_nothing micros_cell (option_map (λ s. s.length) node.longest))
    ∷ in_all (codes "since_stamp") (if_any (codes " since ")) (or_nothing seconds_cell (option_map (λ s. s.since) node.longest))
    ∷ utc_column (codes "since_utc") (option_map (λ s. s.since) node.longest)
    ∷ called_column (codes "function") (function_of own node.name) ∷ called_column (codes "manufacturer") (maker_of own node.name) ∷ []

-- its row in each form
abbrev pub seen_in : List Named → Format → Presence → List ℕ
seen_in own form node = row_text form (node_head node.address) (seen_columns own node)

-- the names of the columns
abbrev pub seen_names : List ℕ
seen_names = codes "address,name,claimed,claimed_utc,heard,heard_utc,silent,longest,since_stamp,since_utc,function,manufacturer\r\n"

-- it is meant by its address, or by the NAME that holds that
abbrev pub is_seen_node : Presence → Sender → Bool
is_seen_node node asked = is_sender node.address node.name asked

-- by which names of one's own and how they are written, the least silence that is told, and the senders that are asked for
pub record SeenAskedRecord : Type 0 where
  pub own : List Named
  pub form : Format
  pub silence : ℕ
  pub from : Option (List Sender)

-- who is at an address after the frames, whatever their bus is called, and is asked for
abbrev pub MakesSeenNodesIn : SeenAskedRecord → Making
MakesSeenNodesIn asked bus F output =
    (nodes : List Presence) × AreSeenNodes asked.silence F nodes
    × (output ≡ lines_of (seen_in asked.own asked.form) (shown_from is_seen_node asked.from nodes))

-- a line, a record or an object for each
abbrev pub MakesSeenNodes : SeenAskedRecord → Making
MakesSeenNodes asked = Columned seen_names asked.form (MakesSeenNodesIn asked)
