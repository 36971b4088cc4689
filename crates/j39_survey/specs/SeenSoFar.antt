-- The steps of a list of who is seen at the addresses: nothing is written before its end.
use Rattle.std.specs.Prelude.{◌≡◌, ◌<◌, ◌∷◌, ℕ, List, [], Option, Some, None, true, false, get_or, if◌then◌else◌, map}
use Rattle.std.specs.Option.{option_map}
use Rattle.j39_address.specs.Claim.{claim_of, claims_of}
use Rattle.j39_address.specs.Claims.{Knows, holder_in}
use Rattle.j39_address.specs.Name.{name_raw}
use Rattle.j39_address.specs.Holder.{IsHolderAfter}
use Rattle.j39_frame.specs.Frame.{FrameRecord}
use Rattle.j39_frame.specs.Stamp.{stamp_micros}
use Rattle.j39_survey.specs.ByAddress.{shown_from}
use Rattle.j39_survey.specs.SeenNodes.{Presence, SeenAskedRecord, Talks, if_long, is_claim, is_seen_node, last_stamp, seen_in, silent_for, stamps_from}
use Rattle.j39_listen.specs.Output.{Output, nothing}
use Rattle.j39_survey.specs.GroupCounts.{Silence}
use Rattle.j39_survey.specs.SurveyModels.{HaveMeasured, silence_record, spread_record}
use Rattle.j39_survey.specs.declared.node_lists.seen.SeenList.{SeenList}
use Rattle.j39_survey.specs.declared.node_lists.seen.Node.{Node}
use Rattle.j39_survey.specs.declared.node_lists.seen.Seen.{Seen}
use Rattle.j39_survey.specs.declared.node_lists.seen.SeenAsked.{SeenAsked}

-- this was seen of the address in F
pub record HasSeen (F : List FrameRecord) (a : ℕ) (seen : Seen) : Type 0 where
  pub talks : seen.talks ≡ true → Talks F a
  pub silent : seen.talks ≡ false → Talks F a → ⊥
  pub measured : HaveMeasured seen.distances (stamps_from F a)
  pub claimed : (name : ℕ) → IsHolderAfter (claims_of F) a (Some name)
      → option_map stamp_micros seen.claimed ≡ last_stamp (λ f. is_claim name a (claim_of f)) F

abbrev pub unseen : Seen
unseen = record { talks = false; distances = record { last = None; spread = None }; claimed = None }

abbrev pub seen_at : SeenList → ℕ → Seen
seen_at list a = get_or list.seen a unseen

-- what is asked for
abbrev pub asked_of : SeenAsked → SeenAskedRecord
asked_of asked = record { own = asked.own.now; form = asked.format; silence = asked.silence; from = option_map (λ senders. senders.now) asked.from }

-- the frames F were seen, to be written as is asked
pub record HasSeenAll (asked : SeenAskedRecord) (list : SeenList) (F : List FrameRecord) (output : Output) : Type 0 where
  pub knows : Knows list.claims F
  pub sees : (a : ℕ) → a < 254 → HasSeen F a (seen_at list a)
  pub last_is : option_map stamp_micros list.last ≡ last_stamp (λ f. true) F
  pub asked_is : asked_of list.asked ≡ asked
  pub nothing : output ≡ nothing

-- its longest silence, where it is long
abbrev pub longest_of : ℕ → Seen → Option Silence
longest_of long seen = if_long long (option_map (λ s. s.longest) (option_map spread_record seen.distances.spread))

-- who is at an address, as it was seen by now
abbrev pub presence : ℕ → Option ℕ → ℕ → Seen → Option ℕ → List Presence
presence long now a seen (Some name) = record {
  address = a;
  name = Some name;
  claimed = option_map stamp_micros seen.claimed;
  heard = option_map stamp_micros seen.distances.last;
  silent = silent_for long now (option_map stamp_micros seen.distances.last);
  longest = longest_of long seen;
} ∷ []
presence long now a seen None =
    if seen.talks
    then record {
      address = a;
      name = None;
      claimed = None;
      heard = option_map stamp_micros seen.distances.last;
      silent = silent_for long now (option_map stamp_micros seen.distances.last);
      longest = longest_of long seen;
    } ∷ []
    else []

abbrev pub presence_in : SeenList → ℕ → List Presence
presence_in list a = presence list.asked.silence (option_map stamp_micros list.last) a (seen_at list a) (holder_in list.claims a)

-- the line of an address, if who is there is asked for
abbrev pub seen_lines : SeenList → ℕ → List (List ℕ)
seen_lines list a = map (seen_in list.asked.own.now list.asked.format) (shown_from is_seen_node (asked_of list.asked).from (presence_in list a))

-- what a node of the code shows
abbrev pub presence_of : Node → Presence
presence_of node = record {
  address = node.address;
  name = option_map name_raw node.name;
  claimed = option_map stamp_micros node.claimed;
  heard = option_map stamp_micros node.heard;
  silent = node.silent;
  longest = option_map silence_record node.longest;
}

abbrev pub nodes_shown : Option Node → List Presence
nodes_shown None = []
nodes_shown (Some node) = presence_of node ∷ []
