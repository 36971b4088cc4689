-- Frames of a third controller, beside a transfer between two others.
use Rattle.std.proofs.Common.{◌≡◌, ℕ, ◌+◌, ◌<◌, ◌==◌, nat_lt, Bool, true, false, cond, not, ◌&&◌, List, ◌∷◌, Option, Some, None, refl, sym, ap, ◌∙◌, arith, ne_eqb, eq-eqb, eqb-true}
use Rattle.std.proofs.lemmas.Bool.{cond_both, cond-false, and_parts, both_ways, false_from_ne_true}
use Rattle.std.specs.Option.{option_map}
use Rattle.j39_frame.specs.Frame.{FrameRecord}
use Rattle.j39_transport.specs.Cutting.{ToSend, at_moment}
use Rattle.j39_transport.specs.Frames.{source_of, destination_of}
use Rattle.j39_transport.specs.Key.{Key, sender}
use Rattle.j39_transport.specs.Message.{MessageRecord}
use Rattle.j39_transport.specs.Net.{with_delivery, handed_back, of_source}
use Rattle.j39_transport.specs.Reception.{ReceptionRecord, Reaction, quiet, granted_at, grants, asks_again, begun, delivers_message, goes_on, takes_packet, is_from, is_taken, takes_request, takes_data, takes_abort, takes_signal, limit_of, takes_tick}
use Rattle.j39_transport.specs.Sending.{SenderRecord, hears, send_step}
use Rattle.j39_transport.specs.Session.{SessionRecord, opened, grown, touched}
use Rattle.j39_transport.specs.Signals.{Signal, BroadcastAnnounce, RequestToSend, ClearToSend, Acknowledgment, Abort, Packet, said_between, said_by, group_with, written}
use Rattle.j39_transport.proofs.FrameLemmas.{IsTransportGroup, is_control_group, is_data_group, ps_is}

-- ---- whose session it is

-- of the source of the session, if there is one
abbrev pub IfOpen : (ℕ → Type 0) → Option ReceptionRecord → Type 0
IfOpen P None = Unit {0}
IfOpen P (Some r) = P r.message.source

abbrev pub IfGiven : (ℕ → Type 0) → Option MessageRecord → Type 0
IfGiven P None = Unit {0}
IfGiven P (Some m) = P m.source

abbrev pub IsNot : ℕ → ℕ → Type 0
IsNot source v = v ≡ source → ⊥

abbrev pub Fits : ℕ → Type 0
Fits v = v < 256

pub source_fits : (id : ℕ) → Fits (source_of id)
unfolding source_of
source_fits id = omega arith

-- it holds of the session and of what is delivered
pub record Keeps (P : ℕ → Type 0) (x : Reaction) : Type 0 where
  pub session_is : IfOpen P x.session
  pub delivers_is : IfGiven P x.delivers

keeps_quiet : (P : ℕ → Type 0) (o : Option ReceptionRecord) → IfOpen P o → Keeps P (quiet o)
keeps_quiet P o h = record { session_is = h; delivers_is = tt }

keeps_grants : (P : ℕ → Type 0) (now : ℕ) (r : ReceptionRecord) → P r.message.source → Keeps P (grants now r)
unfolding grants granted_at
keeps_grants P now r h = record { session_is = h; delivers_is = tt }

keeps_asks : (P : ℕ → Type 0) (now : ℕ) (r : ReceptionRecord) → P r.message.source → Keeps P (asks_again now r)
unfolding asks_again
keeps_asks P now r h = cond_both (r.asks == 2) _ _ (Keeps P)
    (λ t. record { session_is = tt; delivers_is = tt })
    (λ t. keeps_grants P now (record r { asks = r.asks + 1 }) h)

keeps_goes_on : (P : ℕ → Type 0) (now : ℕ) (r : ReceptionRecord) → P r.message.source → Keeps P (goes_on now r)
unfolding goes_on delivers_message
keeps_goes_on P now r h = cond_both (r.message.count == r.message.packets) _ _ (Keeps P)
    (λ t. record { session_is = tt; delivers_is = h })
    (λ t. cond_both (r.message.count == r.granted) _ _ (Keeps P) (λ u. keeps_grants P now r h) (λ u. keeps_quiet P (Some r) h))

keeps_packet : (P : ℕ → Type 0) (number : ℕ) (part : List ℕ) (now : ℕ) (r : ReceptionRecord) → P r.message.source → Keeps P (takes_packet number part now r)
unfolding takes_packet
keeps_packet P number part now r h = cond_both (number == r.message.count + 1) _ _ (Keeps P)
    (λ t. keeps_goes_on P now (record r { message = grown now part r.message; fresh = false }) h)
    (λ t. cond_both (number == r.granted) _ _ (Keeps P)
    (λ u. keeps_asks P now r h)
    (λ u. keeps_quiet P (Some (record r { message = touched now r.message; fresh = false })) h))

keeps_request : (P : ℕ → Type 0) (x : SessionRecord) (most now : ℕ) (found : Bool) (o : Option ReceptionRecord) → P x.source → IfOpen P o → Keeps P (takes_request x most now found o)
unfolding takes_request begun
keeps_request P x most now found o p h = cond_both (is_taken x.source o) _ _ (Keeps P)
    (λ t. record { session_is = h; delivers_is = tt })
    (λ t. cond_both found _ _ (Keeps P)
    (λ u. keeps_grants P now (begun x most) p)
    (λ u. record { session_is = h; delivers_is = tt }))

-- it holds still, where it holds of the one who speaks
pub keeps_signal : (P : ℕ → Type 0) (k : Key) (a : Option Signal) (now : ℕ) (found : Bool) (o : Option ReceptionRecord) → P (sender k) → IfOpen P o
    → Keeps P (takes_signal k a now found o)
unfolding takes_signal takes_data takes_abort
keeps_signal P k None now found o p h = keeps_quiet P o h
keeps_signal P k (Some (BroadcastAnnounce size packets pgn)) now found o p h = keeps_quiet P o h
keeps_signal P k (Some (RequestToSend size packets most pgn)) now found o p h = keeps_request P (opened k pgn size packets now) most now found o p h
keeps_signal P k (Some (ClearToSend count next pgn)) now found o p h = keeps_quiet P o h
keeps_signal P k (Some (Acknowledgment size packets pgn)) now found o p h = keeps_quiet P o h
keeps_signal P k (Some (Abort reason pgn)) now found None p h = keeps_quiet P None h
keeps_signal P k (Some (Abort reason pgn)) now found (Some r) p h = cond_both (is_from (sender k) r && pgn == r.message.group) _ _ (Keeps P)
    (λ t. keeps_quiet P None tt) (λ t. keeps_quiet P (Some r) h)
keeps_signal P k (Some (Packet number part)) now found None p h = keeps_quiet P None h
keeps_signal P k (Some (Packet number part)) now found (Some r) p h = cond_both (is_from (sender k) r) _ _ (Keeps P)
    (λ t. keeps_packet P number part now r h) (λ t. keeps_quiet P (Some r) h)

pub keeps_tick : (P : ℕ → Type 0) (now : ℕ) (o : Option ReceptionRecord) → IfOpen P o → Keeps P (takes_tick now o)
unfolding takes_tick
keeps_tick P now None h = keeps_quiet P None h
keeps_tick P now (Some r) h = cond_both (nat_lt (r.message.last + limit_of r) now) _ _ (Keeps P) (λ t. keeps_asks P now r h) (λ t. keeps_quiet P (Some r) h)

-- ---- who has no session changes none

pub record Unmoved (r : ReceptionRecord) (x : Reaction) : Type 0 where
  pub session_is : x.session ≡ Some r
  pub delivers_is : x.delivers ≡ None

pub not_from : (source : ℕ) (r : ReceptionRecord) → IsNot source r.message.source → is_from source r ≡ false
not_from source r n = ne_eqb source r.message.source (λ e. n (sym e))

pub third_signal : (k : Key) (a : Option Signal) (now : ℕ) (found : Bool) (r : ReceptionRecord) → IsNot (sender k) r.message.source
    → Unmoved r (takes_signal k a now found (Some r))
unfolding takes_signal takes_data takes_abort takes_request
third_signal k None now found r n = record { session_is = refl; delivers_is = refl }
third_signal k (Some (BroadcastAnnounce size packets pgn)) now found r n = record { session_is = refl; delivers_is = refl }
third_signal k (Some (RequestToSend size packets most pgn)) now found r n = cond_both (is_taken (sender k) (Some r)) _ _ (Unmoved r)
    (λ t. record { session_is = refl; delivers_is = refl })
    (λ t. absurd (both_ways _ t (ap not (not_from (sender k) r n))))
third_signal k (Some (ClearToSend count next pgn)) now found r n = record { session_is = refl; delivers_is = refl }
third_signal k (Some (Acknowledgment size packets pgn)) now found r n = record { session_is = refl; delivers_is = refl }
third_signal k (Some (Abort reason pgn)) now found r n = cond_both (is_from (sender k) r && pgn == r.message.group) _ _ (Unmoved r)
    (λ t. absurd (both_ways _ (ap (λ (b : Bool). b && pgn == r.message.group) (not_from (sender k) r n)) t))
    (λ t. record { session_is = refl; delivers_is = refl })
third_signal k (Some (Packet number part)) now found r n = cond_both (is_from (sender k) r) _ _ (Unmoved r)
    (λ t. absurd (both_ways _ (not_from (sender k) r n) t))
    (λ t. record { session_is = refl; delivers_is = refl })

-- ---- what isn't for the sender

says_nothing : (s d : ℕ) (f : FrameRecord) → (source_of f.id ≡ s → destination_of f.id ≡ d → ⊥) → said_between s d f ≡ None
unfolding said_between
says_nothing s d f n = cond-false (source_of f.id == s && destination_of f.id == d) (said_by f) None
    (false_from_ne_true _ (λ t. (let p = and_parts (source_of f.id == s) (destination_of f.id == d) t in n (eqb-true _ _ p.0) (eqb-true _ _ p.1))))

-- a frame that says nothing from the destination to the source
hears_nothing : (s : SenderRecord) (f : ToSend) (now : ℕ) (is_lost : Bool) → said_between s.destination s.message.source (at_moment now f) ≡ None
    → handed_back (Some f) now is_lost s ≡ s
unfolding send_step hears
hears_nothing s f now true e = refl
hears_nothing s f now false e = ap (λ (a : Option Signal). hears a now s) e

-- a frame of a third
pub third_unheard : (s : SenderRecord) (f : ToSend) (now : ℕ) (is_lost : Bool) → IsNot s.destination (source_of f.id) → handed_back (Some f) now is_lost s ≡ s
third_unheard s f now is_lost n = hears_nothing s f now is_lost
    (says_nothing s.destination s.message.source (at_moment now f) (λ a b. n a))

group_is : (a : Signal) → IsTransportGroup (group_with a)
group_is (BroadcastAnnounce size packets pgn) = is_control_group
group_is (RequestToSend size packets most pgn) = is_control_group
group_is (ClearToSend count next pgn) = is_control_group
group_is (Acknowledgment size packets pgn) = is_control_group
group_is (Abort reason pgn) = is_control_group
group_is (Packet number part) = is_data_group

goes_to_it : (own third : ℕ) (a : Signal) → own < 256 → third < 256 → destination_of (written own third a).id ≡ third
unfolding destination_of written
goes_to_it own third a h k = let g = group_is a in ps_is (written own third a).id (group_with a) g.front own third refl g.group_is h k

-- an answer to a third
pub answer_unheard : (s : SenderRecord) (own third : ℕ) (o : Option Signal) (now : ℕ) (is_lost : Bool) → own < 256 → third < 256 → IsNot s.message.source third
    → handed_back (option_map (written own third) o) now is_lost s ≡ s
answer_unheard s own third None now is_lost h k n = refl
answer_unheard s own third (Some a) now is_lost h k n = hears_nothing s (written own third a) now is_lost
    (says_nothing s.destination s.message.source (at_moment now (written own third a))
    (λ b c. n (sym (goes_to_it own third a h k) ∙ c)))

-- ---- what was delivered of a source

pub none_of_source : (source : ℕ) (o : Option MessageRecord) (ms : List MessageRecord) → IfGiven (IsNot source) o → of_source source (with_delivery o ms) ≡ of_source source ms
none_of_source source None ms n = refl
none_of_source source (Some m) ms n = ap (λ (b : Bool). cond b (m ∷ of_source source ms) (of_source source ms)) (ne_eqb m.source source n)

pub one_of_source : (source : ℕ) (m : MessageRecord) (ms : List MessageRecord) → m.source ≡ source → of_source source (m ∷ ms) ≡ m ∷ of_source source ms
one_of_source source m ms e = ap (λ (b : Bool). cond b (m ∷ of_source source ms) (of_source source ms)) (eq-eqb m.source source e)
