-- Who is seen at the addresses, as an account writes them.
use Rattle.std.proofs.Common.{◌≡◌, ◌<◌, ◌^◌, ℕ, Bool, true, false, List, [], ◌∷◌, Option, Some, None, length, map, refl, subst, sym, ap, ◌∙◌, arith, inl, inr, if◌then◌else◌}
use Rattle.std.specs.Io.KnownBytes.{Appends}
use Rattle.std.specs.List.{concat}
use Rattle.std.specs.Option.{option_map}
use Rattle.j39_frame.specs.Frame.{FrameRecord}
use Rattle.j39_frame.specs.Stamp.{stamp_micros}
use Rattle.j39_io.specs.Device.{AppendsFront}
use Rattle.j39_address.specs.Claim.{claims_of}
use Rattle.j39_address.specs.Claims.{holder_in}
use Rattle.j39_address.specs.Holder.{IsHolderAfter}
use Rattle.j39_listen.specs.AccountCalls.{Begins, Closes, MakesOne, StopsAtEnd}
use Rattle.j39_survey.specs.ByAddress.{lines_of, shown_from}
use Rattle.j39_survey.specs.NodesSoFar.{all_below}
use Rattle.j39_listen.specs.Output.{Output}
use Rattle.j39_survey.specs.SeenNodes.{MakesSeenNodesIn, Presence, SeenAskedRecord, ShowsPresence, if_long, is_from, is_seen_node, last_stamp, longest_at, seen_in, silent_for}
use Rattle.j39_survey.specs.GroupCounts.{Silence, Spread}
use Rattle.j39_survey.specs.SeenSoFar.{HasSeen, HasSeenAll, asked_of, longest_of, presence, presence_in, seen_at, seen_lines}
use Rattle.j39_survey.specs.declared.node_lists.seen.Seen.{Seen}
use Rattle.j39_survey.specs.declared.node_lists.seen.SeenList.{SeenList}
use Rattle.j39_survey.proofs.SeenLemmas.{heard_last}
use Rattle.j39_survey.proofs.ByAddressLemmas.{Makes, begins_empty, closes_lines, lines_are, one_text, shown_is, stops_lines}

shows_one : (long : ℕ) (F : List FrameRecord) (a : ℕ) (o : Option ℕ) (x y : List Presence) → ShowsPresence long F a o x → ShowsPresence long F a o y → x ≡ y
shows_one long F a (Some name) x y is_x is_y = is_x ∙ sym is_y
shows_one long F a None x y (inl (talks, is_x)) (inl (_, is_y)) = is_x ∙ sym is_y
shows_one long F a None x y (inl (talks, is_x)) (inr (silent, is_y)) = absurd (silent talks)
shows_one long F a None x y (inr (silent, is_x)) (inl (talks, is_y)) = absurd (silent talks)
shows_one long F a None x y (inr (silent, is_x)) (inr (_, is_y)) = is_x ∙ sym is_y

-- one text is made of some frames
pub seen_nodes_one : (asked : SeenAskedRecord) → MakesOne (MakesSeenNodesIn asked)
seen_nodes_one asked = one_text (ShowsPresence asked.silence) (seen_in asked.own asked.form) (shown_from is_seen_node asked.from) (shows_one asked.silence)

longest_is : (long : ℕ) (F : List FrameRecord) (a : ℕ) (seen : Seen) → HasSeen F a seen → longest_of long seen ≡ longest_at long F a
longest_is long F a seen has = ap (λ (o : Option Spread). if_long long (option_map (λ s. s.longest) o)) has.measured.spread_is

-- what was seen is who is there
shows : (long : ℕ) (F : List FrameRecord) (now : Option ℕ) (a : ℕ) (seen : Seen) (o : Option ℕ) → now ≡ last_stamp (λ f. true) F → HasSeen F a seen
    → IsHolderAfter (claims_of F) a o → ShowsPresence long F a o (presence long now a seen o)
shows long F now a seen (Some name) last has holds =
    let heard = heard_last seen.distances F a has.measured in
    λ i. record {
      address = a;
      name = Some name;
      claimed = has.claimed name holds i;
      heard = heard i;
      silent = silent_for long (last i) (heard i);
      longest = longest_is long F a seen has i;
    } ∷ []
shows long F now a seen None last has holds = by seen.talks refl
  where
    here : Option ℕ → Option ℕ → Option Silence → Presence
    here by_now heard longest = record { address = a; name = None; claimed = None; heard = heard; silent = silent_for long by_now heard; longest = longest }

    heard : option_map stamp_micros seen.distances.last ≡ last_stamp (is_from a) F
    heard = heard_last seen.distances F a has.measured

    by : (b : Bool) → seen.talks ≡ b → ShowsPresence long F a None (if b then here now (option_map stamp_micros seen.distances.last) (longest_of long seen) ∷ [] else [])
    by true so = inl (has.talks so, λ i. here (last i) (heard i) (longest_is long F a seen has i) ∷ [])
    by false not_so = inr (has.silent not_so, refl)

chosen : SeenList → List Presence
chosen list = shown_from is_seen_node (asked_of list.asked).from (all_below (presence_in list) 254)

lines_chosen : (list : SeenList) → all_below (seen_lines list) 254 ≡ map (seen_in list.asked.own.now list.asked.format) (chosen list)
unfolding chosen
lines_chosen list = lines_are (seen_in list.asked.own.now list.asked.format) is_seen_node (asked_of list.asked).from (presence_in list) 254

makes_chosen : (asked : SeenAskedRecord) (list : SeenList) → Makes (λ bus. HasSeenAll asked) (MakesSeenNodesIn asked) list (seen_in list.asked.own.now list.asked.format) (chosen list)
unfolding chosen
makes_chosen asked list = λ bus F before has. (
  ap (λ (o : Output). o.text) has.nothing,
  subst (λ (a : SeenAskedRecord). MakesSeenNodesIn a bus F (lines_of (seen_in list.asked.own.now list.asked.format) (chosen list))) has.asked_is (
    all_below (presence_in list) 254,
    shown_is (ShowsPresence list.asked.silence F) F (presence_in list) (holder_in list.claims) 254 (omega arith) has.knows
        (λ a below. shows list.asked.silence F (option_map stamp_micros list.last) a (seen_at list a) (holder_in list.claims a) has.last_is (has.sees a below) (has.knows a)),
    refl,
  ),
)

pub seen_begin : (asked : SeenAskedRecord) → Begins (λ bus. HasSeenAll asked) (MakesSeenNodesIn asked)
seen_begin asked = begins_empty (λ bus. HasSeenAll asked) (MakesSeenNodesIn asked) (λ bus a F before has. ap (λ (o : Output). o.text) has.nothing)

pub seen_close : (asked : SeenAskedRecord) (a : SeenList) (lines : ℕ) (old new : Option (List ℕ)) → lines < 2 ^ 64
    → lines ≡ length (all_below (seen_lines a) 254) → Appends old new (concat (all_below (seen_lines a) 254))
    → Closes (λ bus. HasSeenAll asked) (MakesSeenNodesIn asked) a (record { messages = 0; lines = lines }) old new
seen_close asked a lines old new fits count written =
    closes_lines (λ bus. HasSeenAll asked) (MakesSeenNodesIn asked) a (seen_in a.asked.own.now a.asked.format) (chosen a) _ lines old new (lines_chosen a) fits count written (makes_chosen asked a)

pub seen_stop : (asked : SeenAskedRecord) (a : SeenList) (old new : Option (List ℕ)) → AppendsFront old new (concat (all_below (seen_lines a) 254))
    → StopsAtEnd (λ bus. HasSeenAll asked) (MakesSeenNodesIn asked) a old new
seen_stop asked a old new front =
    stops_lines (λ bus. HasSeenAll asked) (MakesSeenNodesIn asked) a (seen_in a.asked.own.now a.asked.format) (chosen a) _ old new (lines_chosen a) (seen_nodes_one asked) front (makes_chosen asked a)
