-- A broadcast that is in the log is whole there.
use Rattle.std.proofs.Common.{[], append-nil, if◌then◌else◌, ◌&&◌, ◌++◌, ◌+◌, ◌*◌, ◌<◌, ◌∙◌, ◌∷◌, ◌≡◌, ◌≤◌, ap, append_assoc, arith, Bool, eq-eqb, false, filter, inl, inr, length, length-append, List, nat_eq, nat_lt, None, Option, refl, Some, subst, suc, sym, take, true, zero, ℕ}
use Rattle.std.specs.Prelude.{replicate}
use Rattle.std.proofs.lemmas.Bool.{cases_Bool, cases_eq, cases_lt, false_from_ne_true, ne_eqb}
use Rattle.std.proofs.lemmas.List.{get_or_append_left, length-map, map-append, take-take, take_at}
use Rattle.std.specs.List.{slice_get}
use Rattle.j39_frame.specs.Address.{IsAddress}
use Rattle.j39_frame.specs.Frame.{FrameRecord}
use Rattle.j39_frame.specs.Identifier.{source_of}
use Rattle.j39_listen.specs.Heard.{frame_at, frames_only}
use Rattle.j39_node.specs.Hearing.{announces, packs}
use Rattle.j39_node.specs.History.{frame_of, is_claim, is_packet as is_one, is_some, message_of}
use Rattle.j39_net.proofs.BroadcastFacts.{announcement, announces_no_claim, announces_packet, IsAnnouncement, not_announces, packet, packet_packs, packs_no_claim, packs_packet}
use Rattle.j39_net.proofs.BroadcastLemmas.{Latest, latest, none_pushed}
use Rattle.j39_net.proofs.CourseLemmas.{all_front, all_last, Course}
use Rattle.j39_net.proofs.PartLemmas.{is_by}
use Rattle.j39_net.proofs.ReportLemmas.{own_split}
use Rattle.j39_node.proofs.Tests.{not_both}
use Rattle.j39_transport.proofs.FrameFacts.{announcement_facts, packet_facts}
use Rattle.j39_transport.specs.Frames as frames
use Rattle.j39_transport.specs.Frames.{is_announcement, is_packet}
use Rattle.j39_transport.proofs.PacketLemmas.{joined_more}
use Rattle.j39_transport.specs.Assembly.{AreSuccessive, count_below, IsFirstAfter, joined_at, last_of, Links, Whole}
use Rattle.j39_transport.specs.Cutting.{packet_data}
use Rattle.j39_transport.specs.Events as event
use Rattle.j39_transport.specs.Events.{at, Event}
use Rattle.j39_transport.specs.Events.Event.{Frame, Forget}
use Rattle.j39_transport.specs.Key.{Broadcast, Key}
use Rattle.j39_transport.specs.Message.{IsLong, MessageRecord, packets_of}
use Rattle.j39_net.specs.Net.{IsTimely, log, OnlySends, own, Passed}

-- the events of the log
abbrev pub events : List Passed → List Event
events L = frames_only (log L)

-- ---- one event more

at_front : (E R : List Event) (q : ℕ) → q < length E → at (E ++ R) q ≡ at E q
at_front E R q l = get_or_append_left E R (Forget 255) q l

at_end : (E R : List Event) (e : Event) → at (E ++ e ∷ R) (length E) ≡ e
at_end [] R e = refl
at_end (x ∷ E) R e = at_end E R e

first_more : (E R : List Event) (k : Key) (q j p : ℕ) → p < length E → IsFirstAfter E k q j p → IsFirstAfter (E ++ R) k q j p
first_more E R k q j p l h = record {
  later = h.later;
  stands = ap (event.is_numbered k j) (at_front E R p l) ∙ h.stands;
  first = λ r a b. ap (event.is_numbered k j) (at_front E R r (omega (arith, b, l))) ∙ h.first r a b;
}

pub links_more : (E R : List Event) (k : Key) (p0 : ℕ) (ps : List ℕ) → last_of p0 ps < length E → Links E k p0 ps → Links (E ++ R) k p0 ps
links_more E R k p0 [] l h = tt
links_more E R k p0 (p ∷ ps) l h =
    (first_more E R k (last_of p0 ps) (length (p ∷ ps)) p l h.0, links_more E R k p0 ps (let a = h.0.later in omega (arith, a, l)) h.1)

pub payloads_more : (E R : List Event) (k : Key) (p0 : ℕ) (ps : List ℕ) → last_of p0 ps < length E → Links E k p0 ps → joined_at (E ++ R) ps ≡ joined_at E ps
payloads_more E R k p0 [] l h = refl
payloads_more E R k p0 (p ∷ ps) l h =
    λ i. payloads_more E R k p0 ps (let a = h.0.later in omega (arith, a, l)) h.1 i ++ event.payload (at_front E R p l i)

-- ---- the broadcast that was announced last

-- it is announced at a place, and the packets that were sent stand behind it; in all behind it nothing else of this address does
pub record Stands (a : ℕ) (E : List Event) (b : MessageRecord) (j : ℕ) : Type 0 where
  pub start : ℕ
  pub places : List ℕ
  pub count : suc (length places) ≡ j
  pub inside : last_of start places < length E
  pub ordered : start ≤ last_of start places
  pub announced : event.announces (Broadcast a) (at E start) ≡ true
  pub size : event.size (at E start) ≡ length b.bytes
  pub packets : event.packets (at E start) ≡ packets_of b
  pub group : event.group (at E start) ≡ b.pgn
  pub links : Links E (Broadcast a) start places
  pub joined : joined_at E places ≡ take (7 * length places) (b.bytes ++ replicate 7 255)
  pub quiet : (q : ℕ) → start < q → q < length E → event.announces (Broadcast a) (at E q) ≡ false
  pub none_behind : (q : ℕ) → last_of start places < q → q < length E → event.sends (Broadcast a) (at E q) ≡ false

one_longer : (E : List Event) (e : Event) → length (E ++ e ∷ []) ≡ suc (length E)
one_longer E e = let a = length-append E (e ∷ []) in omega (arith, a)

-- of each event of a longer list
each_event : (P : Event → Type 0) (E : List Event) (e : Event) (from q : ℕ) → ((r : ℕ) → from < r → r < length E → P (at E r)) → P e → from < q → q < length (E ++ e ∷ []) → P (at (E ++ e ∷ []) q)
each_event P E e from q h last l m = elim (cases_eq q (length E)) [
  | inl z ↦ subst P (sym (ap (at (E ++ e ∷ [])) z ∙ at_end E [] e)) last
  | inr n ↦ let k : q < length E = (let a = one_longer E e in omega (arith, a, m, n)) in subst P (sym (at_front E (e ∷ []) q k)) (h q l k)
]

-- something else stands behind it
stands_on : (a : ℕ) (E : List Event) (e : Event) (b : MessageRecord) (j : ℕ) → event.announces (Broadcast a) e ≡ false → event.sends (Broadcast a) e ≡ false → Stands a E b j → Stands a (E ++ e ∷ []) b j
stands_on a E e b j c d h =
    let s : h.start < length E = (let o = h.ordered in let l = h.inside in omega (arith, o, l)) in
    let same = at_front E (e ∷ []) h.start s in
    record {
      start = h.start;
      places = h.places;
      count = h.count;
      inside = let l = h.inside in let n = one_longer E e in omega (arith, l, n);
      ordered = h.ordered;
      announced = ap (event.announces (Broadcast a)) same ∙ h.announced;
      size = ap event.size same ∙ h.size;
      packets = ap event.packets same ∙ h.packets;
      group = ap event.group same ∙ h.group;
      links = links_more E (e ∷ []) (Broadcast a) h.start h.places h.inside h.links;
      joined = payloads_more E (e ∷ []) (Broadcast a) h.start h.places h.inside h.links ∙ h.joined;
      quiet = λ q l m. each_event (λ x. event.announces (Broadcast a) x ≡ false) E e h.start q h.quiet c l m;
      none_behind = λ q l m. each_event (λ x. event.sends (Broadcast a) x ≡ false) E e (last_of h.start h.places) q h.none_behind d l m;
    }

-- it is announced
stands_anew : (a : ℕ) (E : List Event) (e : Event) (b : MessageRecord) → event.announces (Broadcast a) e ≡ true → event.size e ≡ length b.bytes → event.packets e ≡ packets_of b
    → event.group e ≡ b.pgn → Stands a (E ++ e ∷ []) b 1
stands_anew a E e b c size packets group =
    let same = at_end E [] e in
    let n = one_longer E e in
    record {
      start = length E;
      places = [];
      count = refl;
      inside = omega (arith, n);
      ordered = omega arith;
      announced = ap (event.announces (Broadcast a)) same ∙ c;
      size = ap event.size same ∙ size;
      packets = ap event.packets same ∙ packets;
      group = ap event.group same ∙ group;
      links = tt;
      joined = refl;
      quiet = λ q l m. absurd (omega (arith, l, m, n));
      none_behind = λ q l m. absurd (omega (arith, l, m, n));
    }

-- its next packet stands behind it
stands_more : (a : ℕ) (E : List Event) (e : Event) (b : MessageRecord) (j : ℕ) → suc j ≤ packets_of b → event.announces (Broadcast a) e ≡ false → event.sends (Broadcast a) e ≡ true
    → event.number e ≡ suc j → event.payload e ≡ packet_data b.bytes (suc j) → Stands a E b (suc j) → Stands a (E ++ e ∷ []) b (suc (suc j))
stands_more a E e b j few c sends number payload h =
    let s : h.start < length E = (let o = h.ordered in let l = h.inside in omega (arith, o, l)) in
    let same = at_front E (e ∷ []) h.start s in
    let n = one_longer E e in
    let here = at_end E [] e in
    let k : length h.places ≡ j = (let z = h.count in omega (arith, z)) in
    record {
      start = h.start;
      places = length E ∷ h.places;
      count = ap suc h.count;
      inside = omega (arith, n);
      ordered = let l = h.inside in let o = h.ordered in omega (arith, l, o);
      announced = ap (event.announces (Broadcast a)) same ∙ h.announced;
      size = ap event.size same ∙ h.size;
      packets = ap event.packets same ∙ h.packets;
      group = ap event.group same ∙ h.group;
      links = (
        record {
          later = h.inside;
          stands = (λ i. event.sends (Broadcast a) (here i) && nat_eq (event.number (here i)) (suc (length h.places)))
              ∙ λ i. sends i && eq-eqb (event.number e) (suc (length h.places)) (number ∙ ap suc (sym k)) i;
          first = λ r l m. (λ i. event.sends (Broadcast a) (at_front E (e ∷ []) r m i) && nat_eq (event.number (at_front E (e ∷ []) r m i)) (suc (length h.places)))
              ∙ ap (λ (t : Bool). t && nat_eq (event.number (at E r)) (suc (length h.places))) (h.none_behind r l m);
        },
        links_more E (e ∷ []) (Broadcast a) h.start h.places h.inside h.links,
      );
      joined =
          (λ i. payloads_more E (e ∷ []) (Broadcast a) h.start h.places h.inside h.links i ++ event.payload (here i))
          ∙ ((λ i. h.joined i ++ (payload ∙ ap (packet_data b.bytes) (let z : suc j ≡ length h.places + 1 = omega (arith, k) in z)) i)
          ∙ (joined_more b.bytes (length h.places) (omega (arith, few, k)) ∙ ap (λ (m : ℕ). take (7 * m) (b.bytes ++ replicate 7 255)) (let z : length h.places + 1 ≡ suc (length h.places) = omega arith in z)));
      quiet = λ q l m. each_event (λ x. event.announces (Broadcast a) x ≡ false) E e h.start q h.quiet c l m;
      none_behind = λ q l m. absurd (omega (arith, l, m, n));
    }

-- ---- through the log

pub announced_by : (a : ℕ) (f : FrameRecord) → source_of f.id ≡ a → announces f ≡ true → event.announces (Broadcast a) (Frame f) ≡ true
unfolding event.announces
announced_by a f s e = subst (λ b. is_announcement (Broadcast b) f ≡ true) s e

sent_by : (a : ℕ) (f : FrameRecord) → source_of f.id ≡ a → packs f ≡ true → event.sends (Broadcast a) (Frame f) ≡ true
unfolding event.sends
sent_by a f s e = subst (λ b. is_packet (Broadcast b) f ≡ true) s e

not_announced : (a : ℕ) (f : FrameRecord) → (announces f ≡ true → source_of f.id ≡ a → ⊥) → event.announces (Broadcast a) (Frame f) ≡ false
unfolding event.announces frames.source_of
not_announced a f c = false_from_ne_true (is_announcement (Broadcast a) f) (λ e.
    let s = (announcement_facts (Broadcast a) f e).source in c (subst (λ b. is_announcement (Broadcast b) f ≡ true) (sym s) e) s)

not_sent : (a : ℕ) (f : FrameRecord) → (packs f ≡ true → source_of f.id ≡ a → ⊥) → event.sends (Broadcast a) (Frame f) ≡ false
unfolding event.sends frames.source_of
not_sent a f c = false_from_ne_true (is_packet (Broadcast a) f) (λ e.
    let s = (packet_facts (Broadcast a) f e).source in c (subst (λ b. is_packet (Broadcast b) f ≡ true) (sym s) e) s)

abbrev pub StandsFor : ℕ → List Event → Option (MessageRecord × ℕ) → Type 0
StandsFor a E None = Unit {0}
StandsFor a E (Some x) = Stands a E x.0 x.1 × IsLong x.0 × (x.0.source ≡ a)

beside_all : (a : ℕ) (E : List Event) (f : FrameRecord) (o : Option (MessageRecord × ℕ)) → (announces f ≡ true → source_of f.id ≡ a → ⊥) → (packs f ≡ true → source_of f.id ≡ a → ⊥)
    → StandsFor a E o → StandsFor a (E ++ Frame f ∷ []) o
beside_all a E f None c d h = tt
beside_all a E f (Some x) c d h = (stands_on a E (Frame f) x.0 x.1 (not_announced a f c) (not_sent a f d) h.0, h.1, h.2)

begins_all : (a : ℕ) (E : List Event) (f : FrameRecord) (b : MessageRecord) → IsLong b → b.source ≡ a → IsAnnouncement b f → StandsFor a (E ++ Frame f ∷ []) (Some (b, 1))
unfolding event.size event.packets event.group
begins_all a E f b long own i =
    (stands_anew a E (Frame f) b (announced_by a f (i.source ∙ own) i.announces) i.size i.count i.pgn, long, own)

goes_all : (a : ℕ) (E : List Event) (f : FrameRecord) (b : MessageRecord) (j : ℕ) → message_of f ≡ frame_of b (suc j) → suc j ≤ packets_of b → StandsFor a E (Some (b, suc j))
    → StandsFor a (E ++ Frame f ∷ []) (Some (b, suc (suc j)))
unfolding event.number event.payload
goes_all a E f b j m l h =
    let i = packet b j f m in
    let s = packet_packs b j f h.1 m in
    (stands_more a E (Frame f) b j l (not_announced a f (λ e t. not_announces f i.group e)) (sent_by a f (s.1 ∙ h.2) s.0) i.number i.carried h.0, h.1, h.2)

data Snoc : List Passed → Type 0 where
  empty : Snoc []
  push : (L : List Passed) (x : Passed) → Snoc L → Snoc (L ++ x ∷ [])

from_front : (D L : List Passed) → Snoc D → Snoc (D ++ L)
from_front D [] s = subst Snoc (sym (append-nil D)) s
from_front D (x ∷ L) s = subst Snoc (append_assoc D (x ∷ []) L) (from_front (D ++ x ∷ []) L (push D x s))

course_none : (a : ℕ) (A : List MessageRecord) (o : Option (MessageRecord × ℕ)) (hs : List FrameRecord) → Course a A o hs → hs ≡ [] → o ≡ None
course_none a A o hs Course.none e = refl
course_none a A o hs (Course.beside B q xs x p c) e = absurd (none_pushed xs x e)
course_none a A o hs (Course.begins B q xs x b long own m c) e = absurd (none_pushed xs x e)
course_none a A o hs (Course.goes_on B xs x b j m l c) e = absurd (none_pushed xs x e)

own_push : (i : ℕ) (L : List Passed) (x : Passed) → is_some x.by i ≡ true → own i (L ++ x ∷ []) ≡ own i L ++ x.frame ∷ []
own_push i L x e = own_split i L [] x e

both_same : (i : ℕ) (y : Passed) (F G : List Passed) (t : Bool) → log F ≡ log G → log (if t then y ∷ F else F) ≡ log (if t then y ∷ G else G)
both_same i y F G true h = ap (λ v. y.frame ∷ v) h
both_same i y F G false h = h

own_same : (i : ℕ) (L : List Passed) (x : Passed) → is_some x.by i ≡ false → own i (L ++ x ∷ []) ≡ own i L
own_same i [] x e = ap (λ (t : Bool). log (if t then x ∷ [] else [])) e
own_same i (y ∷ L) x e = both_same i y (filter (λ v. is_some v.by i) (L ++ x ∷ [])) (filter (λ v. is_some v.by i) L) (is_some y.by i) (own_same i L x e)

events_push : (L : List Passed) (x : Passed) → events (L ++ x ∷ []) ≡ events L ++ Frame x.frame ∷ []
events_push L x = ap frames_only (map-append (λ (v : Passed). v.frame) L (x ∷ [])) ∙ map-append (λ (f : FrameRecord). Frame f) (log L) (x.frame ∷ [])

-- it is claimed, or member i sends it
abbrev pub IsOwn : ℕ → ℕ → Passed → Type 0
IsOwn i a x = is_claim x.frame ≡ false → source_of x.frame.id ≡ a → x.by ≡ Some i

own_case : (i a : ℕ) (L : List Passed) (x : Passed) (A : List MessageRecord) (o : Option (MessageRecord × ℕ)) → is_some x.by i ≡ true → Course a A o (own i (L ++ x ∷ []))
    → ((B : List MessageRecord) (q : Option (MessageRecord × ℕ)) → Course a B q (own i L) → StandsFor a (events L) q) → StandsFor a (events L ++ Frame x.frame ∷ []) o
own_case i a L x A o e course ih = go (latest a A o (own i (L ++ x ∷ [])) course (own i L) x.frame (own_push i L x e))
  where
    go : Latest a A o (own i L) x.frame → StandsFor a (events L ++ Frame x.frame ∷ []) o
    go (Latest.is_beside n c) = beside_all a (events L) x.frame o
        (λ z s. not_both (is_one x.frame) n (announces_packet x.frame z)) (λ z s. not_both (is_one x.frame) n (packs_packet x.frame z)) (ih A o c)
    go (Latest.has_begun A0 q b d r long own m c) =
        subst (StandsFor a (events L ++ Frame x.frame ∷ [])) (sym r) (begins_all a (events L) x.frame b long own (announcement b x.frame long m))
    go (Latest.has_gone b j r m l c) = subst (StandsFor a (events L ++ Frame x.frame ∷ [])) (sym r) (goes_all a (events L) x.frame b j m l (ih A (Some (b, suc j)) c))

other_case : (i a : ℕ) (L : List Passed) (x : Passed) (A : List MessageRecord) (o : Option (MessageRecord × ℕ)) → is_some x.by i ≡ false → IsOwn i a x → Course a A o (own i (L ++ x ∷ []))
    → ((B : List MessageRecord) (q : Option (MessageRecord × ℕ)) → Course a B q (own i L) → StandsFor a (events L) q) → StandsFor a (events L ++ Frame x.frame ∷ []) o
other_case i a L x A o e own_only course ih =
    beside_all a (events L) x.frame o
    (λ z s. not_both (is_some x.by i) e (is_by x.by i (own_only (announces_no_claim x.frame z) s)))
    (λ z s. not_both (is_some x.by i) e (is_by x.by i (own_only (packs_no_claim x.frame z) s)))
    (ih A o (subst (Course a A o) (own_same i L x e) course))

walk : (i a : ℕ) (L : List Passed) → Snoc L → OnlySends L i a → (A : List MessageRecord) (o : Option (MessageRecord × ℕ)) → Course a A o (own i L) → StandsFor a (events L) o
walk i a L Snoc.empty only A o course = subst (StandsFor a []) (sym (course_none a A o [] course refl)) tt
walk i a L (Snoc.push M x s) only A o course =
    let before = walk i a M s (all_front (IsOwn i a) M (x ∷ []) only) in
    subst (λ E. StandsFor a E o) (sym (events_push M x)) (elim (cases_Bool (is_some x.by i)) [
      | inl e ↦ own_case i a M x A o e course before
      | inr e ↦ other_case i a M x A o e (all_last (IsOwn i a) M x only) course before
    ])

pub stands : (i a : ℕ) (L : List Passed) → OnlySends L i a → (A : List MessageRecord) (o : Option (MessageRecord × ℕ)) → Course a A o (own i L) → StandsFor a (events L) o
stands i a L = walk i a L (from_front [] L empty)

-- ---- the whole message

ends_none : (a g q : ℕ) (F : List FrameRecord) → IsAddress a → event.ends (Broadcast a) g (at (frames_only F) q) ≡ false
unfolding event.ends frames.is_end
ends_none a g q [] h = ap (λ (t : Bool). t && nat_lt a 254) (ne_eqb a 255 (λ e. omega (arith, e, h)))
ends_none a g zero (f ∷ F) h = refl
ends_none a g (suc q) (f ∷ F) h = ends_none a g q F h

no_rival : (a : ℕ) (e : Event) → event.rivals (Broadcast a) e ≡ false
unfolding event.rivals frames.is_rival
no_rival a (Frame f) = refl
no_rival a (Forget t) = refl

none_rival : (a : ℕ) (E : List Event) (n : ℕ) → count_below (event.rivals (Broadcast a)) E n ≡ 0
none_rival a E zero = refl
none_rival a E (suc n) =
    ap (λ (t : Bool). if t then suc (count_below (event.rivals (Broadcast a)) E n) else count_below (event.rivals (Broadcast a)) E n) (no_rival a (at E n)) ∙ none_rival a E n

stamp_is : (F : List FrameRecord) (q : ℕ) → event.stamp (at (frames_only F) q) ≡ (frame_at F q).stamp
unfolding event.stamp
stamp_is [] q = refl
stamp_is (f ∷ F) zero = refl
stamp_is (f ∷ F) (suc q) = stamp_is F q

bytes_in : (b : MessageRecord) (n : ℕ) (size : ℕ) (joined : List ℕ) → length b.bytes ≤ 7 * n → size ≡ length b.bytes → joined ≡ take (7 * n) (b.bytes ++ replicate 7 255) → b.bytes ≡ take size joined
bytes_in b n size joined l s j =
    sym ((λ t. take (s t) (j t)) ∙ (take-take (length b.bytes) (7 * n) (b.bytes ++ replicate 7 255) l ∙ take_at b.bytes (replicate 7 255) (length b.bytes) refl))

-- in a log that begins with these frames
pub whole_in : (a : ℕ) (F G : List FrameRecord) (b : MessageRecord) (h : Stands a (frames_only F) b (suc (packets_of b))) → IsAddress a → (k : ℕ) → last_of h.start h.places ≡ k
    → IsTimely (F ++ G) a b.pgn h.start k → (w : Whole (frames_only (F ++ G)) k (Broadcast a) b.pgn b.bytes) × (w.start ≡ h.start)
whole_in a F G b h address k ends timely =
    let E = frames_only F in
    let R = frames_only G in
    let all : frames_only (F ++ G) ≡ E ++ R = map-append (λ (f : FrameRecord). Frame f) F G in
    subst (λ D. (w : Whole D k (Broadcast a) b.pgn b.bytes) × (w.start ≡ h.start)) (sym all)
    (let s : h.start < length E = (let o = h.ordered in let l = h.inside in omega (arith, o, l)) in
    let same = at_front E R h.start s in
    let n : length h.places ≡ packets_of b = (let c = h.count in omega (arith, c)) in
    let joined = payloads_more E R (Broadcast a) h.start h.places h.inside h.links ∙ h.joined in (
      record {
        start = h.start;
        places = h.places;
        chain = record {
          announced = ap (event.announces (Broadcast a)) same ∙ h.announced;
          group_is = sym (ap event.group same ∙ h.group);
          few = (let p = ap event.packets same ∙ h.packets in omega (arith, n, p));
          links = links_more E R (Broadcast a) h.start h.places h.inside h.links;
          runs = record {
            quiet = λ q l m. (
              ap (event.announces (Broadcast a)) (at_front E R q (let i = h.inside in omega (arith, m, i))) ∙ h.quiet q l (let i = h.inside in omega (arith, m, i)),
              ap (event.ends (Broadcast a) b.pgn) (at_front E R q (let i = h.inside in omega (arith, m, i))) ∙ ends_none a b.pgn q F address,
            );
            in_time = λ p q l m y.
                let t = timely p q l (omega (arith, m, ends)) (subst (λ D. AreSuccessive D (Broadcast a) b.pgn p q) (sym all) y) in
                let u = ap (λ D. event.stamp (at D q)) (sym all) ∙ stamp_is (F ++ G) q in
                let v = ap (λ D. event.stamp (at D p)) (sym all) ∙ stamp_is (F ++ G) p in
                omega (arith, t, u, v);
            young = (let z = none_rival a (E ++ R) (suc (last_of h.start h.places)) in let y = none_rival a (E ++ R) (suc h.start) in omega (arith, z, y));
          };
        };
        full = n ∙ sym (ap event.packets same ∙ h.packets);
        ends_at = ends;
        bytes_are = bytes_in b (length h.places) (event.size (at (E ++ R) h.start)) (joined_at (E ++ R) h.places) (omega (arith, n)) (ap event.size same ∙ h.size) joined;
      },
      refl,
    ))

-- the frame of an event
pub at_log : (L : List Passed) (q : ℕ) → q < length (events L) → (x : Passed) × (slice_get L q ≡ Some x) × (at (events L) q ≡ Frame x.frame)
at_log [] q l = absurd (omega (arith, l))
at_log (x ∷ L) zero l = (x, refl, refl)
at_log (x ∷ L) (suc q) l = at_log L q (omega (arith, l))

pub announces_there : (a : ℕ) (f : FrameRecord) → event.announces (Broadcast a) (Frame f) ≡ true → (announces f ≡ true) × (source_of f.id ≡ a)
unfolding event.announces frames.source_of
announces_there a f e = let s = (announcement_facts (Broadcast a) f e).source in (subst (λ b. is_announcement (Broadcast b) f ≡ true) (sym s) e, s)

-- the last packet stands last
pub ends_last : (a : ℕ) (A : List Passed) (x : Passed) (b : MessageRecord) (j : ℕ) → packs x.frame ≡ true → source_of x.frame.id ≡ a → (h : Stands a (events (A ++ x ∷ [])) b j)
    → last_of h.start h.places ≡ length A
ends_last a A x b j p s h =
    let e = events_push A x in
    let n : length (events A) ≡ length A = length-map (log A) (λ (f : FrameRecord). Frame f) ∙ length-map A (λ (v : Passed). v.frame) in
    let long : length (events (A ++ x ∷ [])) ≡ suc (length (events A)) = ap length e ∙ one_longer (events A) (Frame x.frame) in
    let here : at (events (A ++ x ∷ [])) (length (events A)) ≡ Frame x.frame = ap (λ E. at E (length (events A))) e ∙ at_end (events A) [] (Frame x.frame) in
    let l = h.inside in
    elim (cases_lt (last_of h.start h.places) (length (events A))) [
      | inl z ↦ absurd (not_both (event.sends (Broadcast a) (Frame x.frame))
          (sym (ap (event.sends (Broadcast a)) here) ∙ h.none_behind (length (events A)) z (omega (arith, long))) (sent_by a x.frame s p))
      | inr z ↦ omega (arith, z, n, long, l)
    ]
