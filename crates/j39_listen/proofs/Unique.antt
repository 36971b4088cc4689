-- What is heard, what is reported and what is forgotten are determined.
use Rattle.j39_transport.proofs.Taken.{whole_ends}
use Rattle.j39_listen.proofs.Reported.{not_single, packet_group, reported_leaves}
use Rattle.j39_transport.proofs.Unique.{one_message}
use Rattle.j39_address.proofs.OrderLemmas.{same_rising}
use Rattle.j39_listen.specs.Report.{IsReport}
use Rattle.std.proofs.Common.{◌≡◌, ◌⊎◌, ℕ, zero, suc, ◌+◌, Bool, true, List, [], ◌∷◌, ◌++◌, map, length, Option, Some, None, refl, sym, ap, ◌∙◌, subst, inl, inr, flat_map, arith, append-nil, append_assoc, length-append}
use Rattle.j39_address.proofs.HolderLemmas.{same_holder}
use Rattle.j39_address.specs.Claim.{Claim, claims_of}
use Rattle.j39_address.specs.Holder.{IsHolder}
use Rattle.j39_frame.specs.Frame.{FrameRecord}
use Rattle.j39_groups.specs.Readings.{is_reported_in}
use Rattle.j39_groups.specs.Row.{RowRecord}
use Rattle.j39_listen.proofs.Causal.{heard_below_same, same_below_append}
use Rattle.j39_listen.proofs.Events.{ev_sends}
use Rattle.j39_listen.specs.Forgets.{Changed, WithForgets}
use Rattle.j39_listen.specs.Heard.{AreHeardWith, HeardAtWith, HeardBelowWith, Hearing, IsAssembled, IsHeardWith, IsSingleWith, LeavesNetwork, frame_at, frames_only, or_none, sent_to}
use Rattle.j39_listen.specs.Report.{Entry, entries_of}
use Rattle.j39_transport.specs.Events.{Event}
use Rattle.j39_transport.specs.Events.Event.{Frame, Forget}
use Rattle.j39_transport.specs.Frames.{is_packet}
use Rattle.j39_transport.specs.Key.{sender}
use Rattle.j39_transport.specs.Message.{MessageRecord}

-- ---- what is heard

pub assembled_packet : (F : List FrameRecord) (i : ℕ) (m : MessageRecord) (name : Option ℕ) (h : IsAssembled F i m name) → is_packet h.key (frame_at F i) ≡ true
assembled_packet F i m name h = sym (ev_sends F h.key i) ∙ (whole_ends (frames_only F) i h.key m.pgn m.bytes h.whole).0

-- no frame of a group that is heard in one frame ends a message of many
pub not_both : (singles : ℕ → Bool) → LeavesNetwork singles → (F : List FrameRecord) (i : ℕ) (m n : MessageRecord) (name : Option ℕ) → IsSingleWith singles F i m → IsAssembled F i n name → ⊥
not_both singles leaves F i m n name h k = not_single singles leaves _ h.single (packet_group k.key (frame_at F i) (assembled_packet F i n name k))

pub message_same : (m n : MessageRecord) → m.source ≡ n.source → m.pgn ≡ n.pgn → m.bytes ≡ n.bytes → m ≡ n
message_same m n a b c =
    ap (λ (x : ℕ). record { source = x; pgn = m.pgn; bytes = m.bytes }) a
    ∙ (ap (λ (x : ℕ). record { source = n.source; pgn = x; bytes = m.bytes }) b ∙ ap (λ (x : List ℕ). record { source = n.source; pgn = n.pgn; bytes = x }) c)

pub hearing_same : (h k : Hearing) → h.message ≡ k.message → h.destination ≡ k.destination → h.stamp ≡ k.stamp → h.name ≡ k.name → h ≡ k
hearing_same h k a d b c =
    ap (λ (x : MessageRecord). record { message = x; destination = h.destination; stamp = h.stamp; name = h.name }) a
    ∙ (ap (λ (x : Option ℕ). record { message = k.message; destination = x; stamp = h.stamp; name = h.name }) d
    ∙ (ap (λ (x : ℕ). record { message = k.message; destination = k.destination; stamp = x; name = h.name }) b
    ∙ ap (λ (x : Option ℕ). record { message = k.message; destination = k.destination; stamp = k.stamp; name = x }) c))

one_heard : (singles : ℕ → Bool) → LeavesNetwork singles → (F : List FrameRecord) (i : ℕ) (m n : MessageRecord) (o p : Option ℕ) → IsSingleWith singles F i m ⊎ IsAssembled F i m o → IsSingleWith singles F i n ⊎ IsAssembled F i n p → m ≡ n
one_heard singles leaves F i m n o p (inl h) (inl k) = message_same m n (sym h.source_is ∙ k.source_is) (sym h.pgn_is ∙ k.pgn_is) (sym h.bytes_are ∙ k.bytes_are)
one_heard singles leaves F i m n o p (inl h) (inr k) = absurd (not_both singles leaves F i m n p h k)
one_heard singles leaves F i m n o p (inr h) (inl k) = absurd (not_both singles leaves F i n m o k h)
one_heard singles leaves F i m n o p (inr h) (inr k) =
    let u = one_message (frames_only F) i h.key k.key m.pgn n.pgn m.bytes n.bytes h.whole k.whole in
    message_same m n (sym h.source_is ∙ (ap sender u.0 ∙ k.source_is)) u.1 u.2

pub heard_unique : (singles : ℕ → Bool) → LeavesNetwork singles → (F : List FrameRecord) (i : ℕ) (h k : Hearing) → IsHeardWith singles F i h → IsHeardWith singles F i k → h ≡ k
heard_unique singles leaves F i h k x y =
    let m : h.message ≡ k.message = one_heard singles leaves F i h.message k.message h.name k.name x.carried y.carried in
    hearing_same h k m (x.destination_is ∙ (ap (λ (t : MessageRecord). sent_to t.pgn (frame_at F i).id) m ∙ sym y.destination_is)) (x.stamp_is ∙ sym y.stamp_is)
    (same_holder (claims_of F) i h.message.source h.name k.name x.held_by (subst (λ (t : MessageRecord). IsHolder (claims_of F) i t.source k.name) (sym m) y.held_by))

pub heard_at_unique : (singles : ℕ → Bool) → LeavesNetwork singles → (F : List FrameRecord) (i : ℕ) (o p : Option Hearing) → HeardAtWith singles F i o → HeardAtWith singles F i p → o ≡ p
heard_at_unique singles leaves F i None None h k = refl
heard_at_unique singles leaves F i None (Some y) h k = absurd (h y k)
heard_at_unique singles leaves F i (Some x) None h k = absurd (k x h)
heard_at_unique singles leaves F i (Some x) (Some y) h k = ap (λ (z : Hearing). Some z) (heard_unique singles leaves F i x y h k)

pub heard_below_unique : (singles : ℕ → Bool) → LeavesNetwork singles → (F : List FrameRecord) (n : ℕ) (hs ks : List Hearing) → HeardBelowWith singles F n hs → HeardBelowWith singles F n ks → hs ≡ ks
heard_below_unique singles leaves F zero hs ks h k = h ∙ sym k
heard_below_unique singles leaves F (suc n) hs ks h k =
    let a : h.0 ≡ k.0 = heard_below_unique singles leaves F n h.0 k.0 h.2 k.2 in
    let b : h.1 ≡ k.1 = heard_at_unique singles leaves F n h.1 k.1 h.3 k.3 in
    h.4 ∙ (ap (λ (xs : List Hearing). xs ++ or_none h.1) a ∙ (ap (λ (o : Option Hearing). k.0 ++ or_none o) b ∙ sym k.4))

-- ---- what is heard in the first frames comes first

below : (singles : ℕ → Bool) (F : List FrameRecord) (k m : ℕ) (hs : List Hearing) → HeardBelowWith singles F (k + m) hs
    → (before : List Hearing) × (rest : List Hearing) × HeardBelowWith singles F m before × (hs ≡ before ++ rest)
below singles F zero m hs h = (hs, [], subst (λ (n : ℕ). HeardBelowWith singles F n hs) (omega arith) h, sym (append-nil hs))
below singles F (suc k) m hs h =
    let next : suc k + m ≡ suc (k + m) = omega arith in
    let g = subst (λ (n : ℕ). HeardBelowWith singles F n hs) next h in
    let b = below singles F k m g.0 g.2 in
    (b.0, b.1 ++ or_none g.1, b.2, g.4 ∙ ap (λ (x : List Hearing). x ++ or_none g.1) b.3 ∙ append_assoc b.0 b.1 (or_none g.1))

pub heard_first : (singles : ℕ → Bool) → LeavesNetwork singles → (F G : List FrameRecord) (all first : List Hearing) → AreHeardWith singles (F ++ G) all → AreHeardWith singles F first → (rest : List Hearing) × (all ≡ first ++ rest)
heard_first singles leaves F G all first whole part =
    let len : length (F ++ G) ≡ length G + length F = length-append F G ∙ omega arith in
    let b = below singles (F ++ G) (length G) (length F) all (subst (λ (n : ℕ). HeardBelowWith singles (F ++ G) n all) len whole) in
    let same = heard_below_unique singles leaves (F ++ G) (length F) b.0 first b.2 (heard_below_same singles F (F ++ G) (length F) first (same_below_append F G (length F) (omega arith)) part) in
    (b.1, b.3 ∙ ap (λ (x : List Hearing). x ++ b.1) same)

pub report_unique : (groups : List RowRecord) (F : List FrameRecord) (es fs : List Entry) → IsReport groups F es → IsReport groups F fs → es ≡ fs
report_unique groups F es fs h k = h.2 ∙ (ap (λ (hs : List Hearing). flat_map (entries_of groups) hs) (heard_below_unique (is_reported_in groups) (reported_leaves groups) F (length F) h.0 k.0 h.1 k.1) ∙ sym k.2)

-- ---- what is forgotten

pub changed_unique : (C : List (Option Claim)) (n : ℕ) (gone away : List ℕ) → Changed C n gone → Changed C n away → gone ≡ away
changed_unique C n gone away h k =
    same_rising gone away h.rising k.rising (λ a l. k.all a (h.changed a l)) (λ a l. h.all a (k.changed a l))

pub forgets_unique : (F : List FrameRecord) (n : ℕ) (E D : List Event) → WithForgets F n E → WithForgets F n D → E ≡ D
forgets_unique F zero E D h k = h ∙ sym k
forgets_unique F (suc n) E D h k =
    let a : h.0 ≡ k.0 = forgets_unique F n h.0 k.0 h.2 k.2 in
    let b : h.1 ≡ k.1 = changed_unique (claims_of F) n h.1 k.1 h.3 k.3 in
    h.4 ∙ (ap (λ (x : List Event). (x ++ Frame (frame_at F n) ∷ []) ++ map (λ t. Forget t) h.1) a
    ∙ (ap (λ (x : List ℕ). (k.0 ++ Frame (frame_at F n) ∷ []) ++ map (λ t. Forget t) x) b ∙ sym k.4))
