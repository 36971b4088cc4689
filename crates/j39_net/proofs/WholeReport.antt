-- The report of the log has the broadcasts of members.
use Rattle.std.proofs.Common.{[], if◌then◌else◌, ◌++◌, ◌<◌, ◌^◌, ◌∙◌, ◌∷◌, ◌≡◌, ◌≢◌, ◌≤◌, ap, append_assoc, arith, Bool, false, inl, inr, length, List, Option, refl, Some, subst, suc, sym, true, zero, ℕ}
use Rattle.std.proofs.lemmas.Grind.{flat_map-append}
use Rattle.std.proofs.lemmas.List.{map-append}
use Rattle.std.proofs.lemmas.List.Elements.{All-head, All-tail}
use Rattle.std.specs.List.{All, flat_map, slice_get}
use Rattle.j39_frame.specs.Frame.{FrameRecord}
use Rattle.j39_frame.specs.Identifier.{source_of}
use Rattle.j39_groups.specs.Row.{RowRecord}
use Rattle.j39_address.specs.Claim.{Claim, claims_of}
use Rattle.j39_address.specs.Holder.{ClaimsAt, IsHolder}
use Rattle.j39_listen.specs.Heard.{frame_at, frames_only, Hearing, IsHeard, sent_to}
use Rattle.j39_listen.specs.Report.{entries_of, Entry, IsReport}
use Rattle.j39_transport.specs.Assembly.{last_of, Whole}
use Rattle.j39_transport.specs.Events as event
use Rattle.j39_transport.specs.Events.{Event}
use Rattle.j39_transport.specs.Events.Event.{Frame}
use Rattle.j39_transport.specs.Key.{Broadcast}
use Rattle.j39_transport.specs.Message.{IsLong, MessageRecord, packets_of}
use Rattle.j39_node.proofs.LaneLaws.{packed_by}
use Rattle.j39_node.proofs.LaneLemmas.{laned, opened_by}
use Rattle.j39_node.proofs.PromptLaws.{answered_from}
use Rattle.j39_node.proofs.SoundLemmas.{frame_case}
use Rattle.j39_node.proofs.Tests.{not_both}
use Rattle.j39_node.specs.Hearing.{packs}
use Rattle.j39_node.specs.History.{all_frames, broadcasts, Call, frame_of, frames, is_claim, is_packet, Message, message_of, open_broadcast, packets}
use Rattle.j39_node.specs.History.Call.{At}
use Rattle.j39_node.specs.History.Act.{TakeFrame}
use Rattle.j39_node.specs.Is.{AreAnswered}
use Rattle.j39_net.proofs.BroadcastFacts.{announces_no_claim, packet_packs, packs_no_claim}
use Rattle.j39_net.proofs.ChainLemmas.{announced_by, announces_there, at_log, ends_last, events, stands, StandsFor, whole_in}
use Rattle.j39_net.proofs.CourseLemmas.{all_front, Course, Coursed, coursed, IsOpenAt, push_length}
use Rattle.j39_net.proofs.JoinLemmas.{heard_in, inside, there, under}
use Rattle.j39_net.proofs.PartLemmas.{is_by, same_message}
use Rattle.j39_net.proofs.ReportLemmas.{get_front, holder_by, own_split}
use Rattle.j39_net.proofs.WholeLemmas.{all_count, CameAt, come_at, come_push, course_in, frames_append, own_place, OwnPlace}
use Rattle.j39_net.specs.Net.{Come, hears, IsLater, IsAnnouncedAt, IsMember, IsNoClaim, IsTimely, IsUnrivalled, log, Member, Net, OnlySends, others, own, Passed}

-- ---- a net in which less may be missing

come_weaker : (delay : ℕ) (P Q : FrameRecord → Type 0) → ((f : FrameRecord) → P f → Q f) → (fs gs : List FrameRecord) → Come delay P fs gs → Come delay Q fs gs
come_weaker delay P Q h [] [] c = tt
come_weaker delay P Q h [] (g ∷ gs) c = absurd c
come_weaker delay P Q h (f ∷ fs) [] c = (h f c.0, come_weaker delay P Q h fs [] c.1)
come_weaker delay P Q h (f ∷ fs) (g ∷ gs) (inl c) = inl (c.0, come_weaker delay P Q h fs gs c.1)
come_weaker delay P Q h (f ∷ fs) (g ∷ gs) (inr c) = inr (h f c.0, come_weaker delay P Q h fs (g ∷ gs) c.1)

net_weaker : (delay now : ℕ) (P Q : FrameRecord → Type 0) → ((f : FrameRecord) → P f → Q f) → (L : List Passed) (members : List Member) → Net delay now P L members → Net delay now Q L members
net_weaker delay now P Q h L members net = record {
  ordered = net.ordered;
  answered = net.answered;
  in_time = net.in_time;
  sent = λ i m e. come_weaker delay P Q h (frames m.history) (own i L) (net.sent i m e);
  heard = λ i m e. come_weaker delay P Q h (others i m.since L) (hears m.history) (net.heard i m e);
  address = net.address;
  name = net.name;
  apart = net.apart;
}

-- ---- places

abbrev frame_event : Passed → Event
frame_event x = Frame x.frame

same_passed : (x y : Passed) → Some x ≡ Some y → x ≡ y
same_passed x y e = cc

abbrev announces_at : ℕ → Event → Bool
announces_at c e = event.announces (Broadcast c) e

get_mid : {T : Type 0} (A B : List T) (x : T) → slice_get (A ++ x ∷ B) (length A) ≡ Some x
get_mid [] B x = refl
get_mid (y ∷ A) B x = get_mid A B x

all_at : {T : Type 0} (P : T → Type 0) (xs : List T) (q : ℕ) (x : T) → All P xs → slice_get xs q ≡ Some x → P x
all_at P [] q x h e = absurd (cc)
all_at P (y ∷ xs) zero x h e = subst P (let z : y ≡ x = cc in z) (All-head P y xs h)
all_at P (y ∷ xs) (suc q) x h e = all_at P xs q x (All-tail P y xs h) e

claim_before : (C : List (Option Claim)) (k a n : ℕ) → IsHolder C k a (Some n) → (q : ℕ) × (q < k) × ClaimsAt C q n a
claim_before C zero a n h = absurd h
claim_before C (suc k) a n h = (h.0, h.1.before, h.1.claims)

abbrev open_at : ℕ → MessageRecord → Option (ℕ × MessageRecord)
open_at k b = Some (k, b)

same_open : (k t : ℕ) (c b : MessageRecord) → open_at k c ≡ open_at t b → c ≡ b
same_open k t c b e =
    let x : ℕ × MessageRecord = (k, c) in
    let y : ℕ × MessageRecord = (t, b) in
    let z : x ≡ y = cc in ap (λ (v : ℕ × MessageRecord). v.1) z

one_less : (n : ℕ) → 2 ≤ n → (j : ℕ) × (n ≡ suc j)
one_less zero l = absurd (omega (arith, l))
one_less (suc n) l = (n, refl)

long_packets : (b : MessageRecord) → IsLong b → 2 ≤ packets_of b
long_packets b l = let n = l.least in omega (arith, n)

-- ---- the last frame of a broadcast

module _ (delay now i at token : ℕ) (L : List Passed) (members : List Member) (m : Member) (later earlier : List Call) (f : FrameRecord) (b : MessageRecord)
    (net : Net delay now (λ f. IsNoClaim members f × (source_of f.id ≢ m.who.address)) L members) (member : IsMember members i m) (only : OnlySends L i m.who.address)
    (fits : All (λ (b : MessageRecord). b.pgn < 2 ^ 18) (broadcasts m.who earlier)) (is : m.history ≡ later ++ At at (TakeFrame (Some f)) ∷ earlier)
    (one : is_packet f ≡ true) (current : open_broadcast m.who earlier ≡ Some (token, b)) (all : packets (At at (TakeFrame (Some f)) ∷ earlier) ≡ all_frames b) where
  abbrev a : ℕ
  a = m.who.address

  abbrev H : List Call
  H = At at (TakeFrame (Some f)) ∷ earlier

  abbrev Missing : FrameRecord → Type 0
  Missing f = IsNoClaim members f × (source_of f.id ≢ a)

  right : AreAnswered m.who H
  right = answered_from m.who later H (subst (AreAnswered m.who) is (net.answered i m member))

  -- it is the frame that comes next
  next : (message_of f ≡ frame_of b (length (packets earlier))) × (b.source ≡ a)
  next =
      let p = packed_by m.who earlier at f right.0 one (frame_case m.who earlier at f right.1) in
      let own = (opened_by m.who _ _ _ (open_broadcast m.who earlier) (p.token, p.message) (laned m.who earlier right.0) p.current).source in
      let y : p.message ≡ b = same_open p.token token p.message b (sym p.current ∙ current) in
      (p.is ∙ ap (λ (v : MessageRecord). frame_of v (length (packets earlier))) y, ap (λ (v : MessageRecord). v.source) (sym y) ∙ own)

  source_is : source_of f.id ≡ a
  source_is = ap (λ (v : Message). v.source) next.0 ∙ next.1

  count : length (packets earlier) ≡ packets_of b
  count =
      let s : packets H ≡ packets earlier ++ message_of f ∷ [] = ap (λ (t : Bool). if t then packets earlier ++ message_of f ∷ [] else packets earlier) one in
      let n = ap length (sym s ∙ all) ∙ all_count b in
      let k = push_length (packets earlier) (message_of f) in
      omega (arith, n, k)

  c : Coursed m.who H
  c = coursed m.who H (net.address i m member) fits right

  course : Course a c.announced (Some (b, suc (packets_of b))) (frames earlier ++ f ∷ [])
  course = go (c.current (token, b) current)
    where
      go : IsOpenAt (broadcasts m.who H) c.announced c.last (packets H) b → Course a c.announced (Some (b, suc (packets_of b))) (frames earlier ++ f ∷ [])
      go (inl h) = absurd (let n = ap length (sym h.3 ∙ all) ∙ all_count b in omega (arith, n))
      go (inr h) =
          let n : suc h.0 ≡ suc (packets_of b) = sym h.1 ∙ (ap length all ∙ all_count b) in
          subst (λ j. Course a c.announced (Some (b, j)) (frames earlier ++ f ∷ [])) n (subst (λ o. Course a c.announced o (frames earlier ++ f ∷ [])) h.2 c.course)

  came : CameAt delay Missing (frames earlier) (own i L) f
  came =
      come_at delay Missing (frames earlier) f (frames later) (own i L) (λ z. z.1 source_is)
      (subst (λ fs. Come delay Missing fs (own i L)) (ap frames is ∙ (frames_append later H ∙ append_assoc (frames earlier) (f ∷ []) (frames later))) (net.sent i m member))

  place : OwnPlace i L came.before came.frame
  place = own_place i L came.before came.after came.frame came.is

  abbrev front : List Passed
  front = place.before ++ place.passed ∷ []

  split : L ≡ front ++ place.after
  split = place.is ∙ sym (append_assoc place.before (place.passed ∷ []) place.after)

  standing : StandsFor a (events front) (Some (b, suc (packets_of b)))
  standing =
      let e : own i front ≡ came.before ++ came.frame ∷ [] = own_split i place.before [] place.passed (is_by place.passed.by i place.by) ∙ λ k. place.own_before k ++ place.frame k ∷ [] in
      stands i a front (all_front (λ x. is_claim x.frame ≡ false → source_of x.frame.id ≡ a → x.by ≡ Some i) front place.after
      (subst (All (λ x. is_claim x.frame ≡ false → source_of x.frame.id ≡ a → x.by ≡ Some i)) split only)) c.announced (Some (b, suc (packets_of b)))
      (subst (Course a c.announced (Some (b, suc (packets_of b)))) (sym e)
      (course_in delay a Missing (λ f z s. z.1 s) c.announced (Some (b, suc (packets_of b))) (frames earlier ++ f ∷ []) course (came.before ++ came.frame ∷ [])
      (come_push delay Missing (frames earlier) came.before f came.frame came.is_later came.come)))

  -- ---- where it stands

  last : (packs place.passed.frame ≡ true) × (source_of place.passed.frame.id ≡ a)
  last =
      let j = one_less (packets_of b) (long_packets b standing.1) in
      let e : message_of place.passed.frame ≡ frame_of b (suc j.0) =
      ap message_of place.frame ∙ (same_message delay f came.frame came.is_later ∙ (next.0 ∙ ap (frame_of b) (count ∙ j.1))) in
      let p = packet_packs b j.0 place.passed.frame standing.1 e in
      (p.0, p.1 ∙ next.1)

  abbrev k : ℕ
  k = length place.before

  abbrev start : ℕ
  start = standing.0.start

  ends : last_of start standing.0.places ≡ k
  ends = ends_last a place.before place.passed b (suc (packets_of b)) last.0 last.1 standing.0

  stands_at : slice_get L k ≡ Some place.passed
  stands_at = ap (λ G. slice_get G k) place.is ∙ get_mid place.before place.after place.passed

  before : start ≤ k
  before = let o = standing.0.ordered in let e = ends in omega (arith, o, e)

  logs : log L ≡ log front ++ log place.after
  logs = ap log split ∙ map-append (λ (x : Passed). x.frame) front place.after

  whole : IsTimely (log L) a b.pgn start k → (w : Whole (frames_only (log L)) k (Broadcast a) b.pgn b.bytes) × (w.start ≡ start)
  whole timely =
      subst (λ F. (w : Whole (frames_only F) k (Broadcast a) b.pgn b.bytes) × (w.start ≡ start)) (sym logs)
      (whole_in a (log front) (log place.after) b standing.0 (net.address i m member) k ends (subst (λ F. IsTimely F a b.pgn start k) logs timely))

  abbrev plain_net : Net delay now (IsNoClaim members) L members
  plain_net = net_weaker delay now Missing (IsNoClaim members) (λ f z. z.0) L members net

  -- it is held from the first place to the last
  holder : IsUnrivalled L k i m.who → (j : ℕ) → start ≤ j → j ≤ k → IsHolder (claims_of (log L)) j a (Some m.who.name)
  holder alone j l r =
      let n : start < length (events front) = (let o = standing.0.ordered in let h = standing.0.inside in omega (arith, o, h)) in
      let y = at_log front start n in
      let e = announces_there a y.0.frame (sym (ap (announces_at a) y.2) ∙ standing.0.announced) in
      let y_at : slice_get L start ≡ Some y.0 = ap (λ G. slice_get G start) split ∙ get_front front place.after start y.0 y.1 in
      let plain = announces_no_claim y.0.frame e.0 in
      let by = all_at (λ x. is_claim x.frame ≡ false → source_of x.frame.id ≡ a → x.by ≡ Some i) L start y.0 only y_at plain e.1 in
      let s = before in
      let first = under delay now i start L members m y.0 plain_net member y_at by plain (λ q x c u. alone q x c (omega (arith, u, s))) in
      let end = under delay now i k L members m place.passed plain_net member stands_at place.by (packs_no_claim place.passed.frame last.0) alone in
      let q = claim_before (claims_of (log L)) start a m.who.name first.holder in
      let t = q.1 in
      holder_by (claims_of (log L)) j q.0 m.who.name a (net.address i m member) (λ u c v w. end.each u c (omega (arith, v, r)) w) (omega (arith, t, l)) q.2

  announced : IsAnnouncedAt L a k start
  announced =
      let n : start < length (events front) = (let o = standing.0.ordered in let h = standing.0.inside in omega (arith, o, h)) in
      let y = at_log front start n in
      record {
        before = before;
        passed = y.0;
        stands = ap (λ G. slice_get G start) split ∙ get_front front place.after start y.0 y.1;
        announces_it = announces_there a y.0.frame (sym (ap (announces_at a) y.2) ∙ standing.0.announced);
        none_behind = λ q x l r e d s.
            let h : q < length (events front) = (let z = standing.0.inside in let e = ends in omega (arith, z, e, r)) in
            let z = at_log front q h in
            let same = same_passed z.0 x (sym (ap (λ G. slice_get G q) split ∙ get_front front place.after q z.0 z.1) ∙ e) in
            not_both (event.announces (Broadcast a) (Frame x.frame)) (sym (ap (announces_at a) (z.2 ∙ ap (λ (v : Passed). frame_event v) same)) ∙ standing.0.quiet q l h) (announced_by a x.frame s d);
      }

  abbrev hearing : Hearing
  hearing = record { message = b; destination = sent_to b.pgn place.passed.frame.id; stamp = place.passed.frame.stamp; name = Some m.who.name }

  heard_it : (groups : List RowRecord) → IsUnrivalled L k i m.who → IsTimely (log L) a b.pgn start k → IsHeard groups (log L) k hearing
  heard_it groups alone timely =
      let w = whole timely in
      let e : frame_at (log L) k ≡ place.passed.frame = there L k place.passed (record { stamp = 0; id = 0; bytes = [] }) stands_at in
      let own : b.source ≡ a = next.1 in
      let s = before in
      record {
        carried = inr (record {
          key = Broadcast a;
          source_is = sym own;
          whole = w.0;
          same_holder = λ j l r. subst (λ c. IsHolder (claims_of (log L)) j c (Some m.who.name)) (sym own) (holder alone j (let z = w.1 in omega (arith, l, z)) r);
        });
        held_by = subst (λ c. IsHolder (claims_of (log L)) k c (Some m.who.name)) (sym own) (holder alone k s (omega arith));
        destination_is = sym (ap (λ (g : FrameRecord). sent_to b.pgn g.id) e);
        stamp_is = sym (ap (λ (g : FrameRecord). g.stamp) e);
      }

  pub whole_reported : (groups : List RowRecord) (entries : List Entry) → IsReport groups (log L) entries
      → (k : ℕ) × (start : ℕ) × (x : Passed) × (slice_get L k ≡ Some x) × IsLater delay f x.frame × IsAnnouncedAt L m.who.address k start
      × (IsUnrivalled L k i m.who → IsTimely (log L) m.who.address b.pgn start k
      → (before : List Entry) × (after : List Entry) × (entries ≡ before ++ (entries_of groups (record {
        message = b;
        destination = sent_to b.pgn x.frame.id;
        stamp = x.frame.stamp;
        name = Some m.who.name;
      }) ++ after)))
  whole_reported groups entries report = (
    k,
    start,
    place.passed,
    stands_at,
    subst (IsLater delay f) (sym place.frame) came.is_later,
    announced,
    λ alone timely.
        let h = heard_in groups (log L) k (length (log L)) hearing report.0 (inside L k place.passed stands_at) (heard_it groups alone timely) report.1 in (
          flat_map (entries_of groups) h.before,
          flat_map (entries_of groups) h.after,
          report.2 ∙ (ap (flat_map (entries_of groups)) h.is ∙ flat_map-append (entries_of groups) h.before (hearing ∷ h.after)),
        ),
  )
