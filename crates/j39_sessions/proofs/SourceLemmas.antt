-- Of one source: what a claim leaves, what a frame delivers and says, and when a tick does something.
use Rattle.j39_sessions.proofs.Common.{[], Abort, after, All, ap, append-nil, AreApart, arith, asks_again, begun, Bool, cond_both, delivers_message, Directed, earliest, eq-eqb, eqb-true, Event, false, fewest, filter, FrameRecord, from, goes_on, granted_at, grants, has_room, Heard, Hears, hears, if◌then◌else◌, inl, inr, is_left, is_of, is_of_session, is_open, is_over, is_taken, Leaves, leaves, length, length-append, length-drop, limit_in, limit_of, List, listed, longest, Loses, made, MessageRecord, name_by, narrowed, nat_eq, nat_lt, ne_eqb, None, not, number_in, of, Option, option_map, others, Reaction, ReceiverRecord, receiving, ReceptionRecord, recv_step, RecvResult, refl, Releases, replied, replies_ticked, Reply, reply_to, result_of, said, said_to, Says, says, Session, session_by, session_ticked, sessions_ticked, SessionsRecord, shown, Signal, slice_get, Some, sooner, source_of, step_at, step_in, stepped, strays, subst, suc, sym, takes_abort, takes_data, takes_packet, takes_request, takes_signal, takes_tick, tick_of, Ticks, ticks, ToSend, true, unsaid, without, written, ℕ, ◌&&◌, ◌++◌, ◌+◌, ◌-◌, ◌<◌, ◌==◌, ◌||◌, ◌∙◌, ◌∷◌, ◌≡◌, ◌≢◌, ◌≤◌, ◌⊎◌}
use Rattle.std.proofs.lemmas.Bool.{and_parts, lt-ltb, ltb-false, ltb-true}
use Rattle.std.proofs.lemmas.List.Elements.{All-append, All-cons, All-drop, All-filter, All-head, All-nil, All-tail}
use Rattle.j39_transport.specs.Frames as frames
use Rattle.j39_transport.specs.Reception.{quiet}
use Rattle.j39_transport.specs.Signals.{Acknowledgment, BroadcastAnnounce, bytes_with, ClearToSend, Packet, RequestToSend}
use Rattle.j39_sessions.proofs.LawLemmas.{Fits, IsFrom, its_heard, new, new_from, none_filtered, to_others, of_another, own_fits, ticked_from}
use Rattle.j39_sessions.proofs.HandedLemmas.{all_others, Few, few_of, Fewer}
use Rattle.j39_sessions.proofs.StepLemmas.{hushed, quiet_step, said_narrowed, said_shown, with_most}
use Rattle.j39_sessions.proofs.BoxLemmas.{none_other}

-- ---- who leaves

abbrev pub kept : (Session → Bool) → Option Session → Option Session
kept p None = None
kept p (Some x) = if p x then Some x else None

pub of_filter : (p : Session → Bool) (a : ℕ) (xs : List Session) → AreApart xs → of a (filter p xs) ≡ kept p (of a xs)
of_filter p a [] h = refl
of_filter p a (x ∷ xs) h = go (of_filter p a xs h.1) (nat_eq a (from x)) refl (p x) refl
  where
    go : of a (filter p xs) ≡ kept p (of a xs) → (b : Bool) → nat_eq a (from x) ≡ b → (c : Bool) → p x ≡ c
        → of a (if c then x ∷ filter p xs else filter p xs) ≡ kept p (if b then Some x else of a xs)
    go k true e true g = (λ i. if e i then Some x else of a (filter p xs)) ∙ sym (ap (λ (b : Bool). if b then Some x else None) g)
    go k true e false g = none_filtered p a xs (ap (λ (n : ℕ). of n xs) (eqb-true _ _ e) ∙ h.0) ∙ sym (ap (λ (b : Bool). if b then Some x else None) g)
    go k false e true g = (λ i. if e i then Some x else of a (filter p xs)) ∙ k
    go k false e false g = k

pub of_kept : (q : Session → Bool) (o : Option Session) (x : Session) → kept (λ y. not (q y)) o ≡ Some x → (o ≡ Some x) × (q x ≡ false)
of_kept q None x e = absurd (cc)
of_kept q (Some y) x e = go (q y) refl e
  where
    go : (b : Bool) → q y ≡ b → (if not b then Some y else None) ≡ Some x → (Some y ≡ Some x) × (q x ≡ false)
    go true i g = absurd (cc)
    go false i g = let z : y ≡ x = cc in (g, ap q (sym z) ∙ i)

of_later : (a : ℕ) (x y : Session) (xs : List Session) → of (from x) xs ≡ None → of a xs ≡ Some y → of a (x ∷ xs) ≡ Some y
of_later a x y xs n e = go (nat_eq a (from x)) refl
  where
    go : (b : Bool) → nat_eq a (from x) ≡ b → (if b then Some x else of a xs) ≡ Some y
    go true i = absurd (let z : None ≡ Some y = sym n ∙ (ap (λ (m : ℕ). of m xs) (sym (eqb-true _ _ i)) ∙ e) in cc)
    go false i = e

all_pass : (q : Session → Bool) (xs : List Session) → AreApart xs → ((a : ℕ) (x : Session) → of a xs ≡ Some x → q x ≡ false)
    → (filter (λ x. not (q x)) xs ≡ xs) × (filter q xs ≡ [])
all_pass q [] h k = (refl, refl)
all_pass q (x ∷ xs) h k =
    let first = k (from x) x (ap (λ (b : Bool). if b then Some x else of (from x) xs) (eq-eqb (from x) (from x) refl)) in
    let rest = all_pass q xs h.1 (λ a y e. k a y (of_later a x y xs h.0 e)) in
    (grind (arith, first, rest), grind (arith, first, rest))

-- none does
pub none_left : (gone : Option ℕ) (holder : ℕ → Option ℕ) (s : SessionsRecord) → AreApart s.sessions → ((a : ℕ) (x : Session) → of a s.sessions ≡ Some x → is_left gone holder x ≡ false)
    → leaves gone holder s ≡ s
none_left gone holder s h k = let a = all_pass (is_left gone holder) s.sessions h k in λ i. record s { sessions = a.0 i; replies = unsaid (a.1 i) s.replies }

-- ---- what a frame delivers is of its source

abbrev Gives : (ℕ → Type 0) → Option MessageRecord → Type 0
Gives P None = Unit {0}
Gives P (Some m) = P m.source

gives_signal : (P : ℕ → Type 0) (source own : ℕ) (s : Option Signal) (now : ℕ) (found : Bool) (o : Option ReceptionRecord) → (is_taken source o ≡ false → P source) → Fits P o
    → Gives P (takes_signal (Directed source own) s now found o).delivers
unfolding takes_signal takes_data takes_abort takes_request takes_packet begun goes_on delivers_message asks_again grants granted_at
gives_signal P source own s now found o l h = grind (arith, l, h)

pub delivers_its : (own most : ℕ) (room : Bool) (f : FrameRecord) (now : ℕ) (o : Option Session) (m : MessageRecord) → IsFrom (source_of f.id) o
    → (step_at own most room f now o).delivers ≡ Some m → m.source ≡ source_of f.id
unfolding recv_step frames.source_of
delivers_its own most room f now o m h e = go (step_at own most room f now o).delivers e
    (gives_signal (λ b. b ≡ source_of f.id) (source_of f.id) own _ now room (receiving o) (λ e. refl) (own_fits (source_of f.id) o h))
  where
    go : (d : Option MessageRecord) → d ≡ Some m → Gives (λ b. b ≡ source_of f.id) d → m.source ≡ source_of f.id
    go None e g = absurd (cc)
    go (Some x) e g = let z : x ≡ m = cc in ap (λ (y : MessageRecord). y.source) (sym z) ∙ g

-- ---- acknowledged on the wire

-- an end-of-message acknowledgment is said of a message that is delivered, and of no other
abbrev Acknowledges : Option Signal → Option MessageRecord → Type 0
Acknowledges None d = d ≡ None
Acknowledges (Some (Acknowledgment size packets pgn)) d = (m : MessageRecord) × (d ≡ Some m)
Acknowledges (Some (ClearToSend count next pgn)) d = d ≡ None
Acknowledges (Some (Abort reason pgn)) d = d ≡ None
Acknowledges (Some (BroadcastAnnounce size packets pgn)) d = ⊥
Acknowledges (Some (RequestToSend size packets most pgn)) d = ⊥
Acknowledges (Some (Packet number part)) d = ⊥

acknowledges : (source own : ℕ) (s : Option Signal) (now : ℕ) (found : Bool) (o : Option ReceptionRecord)
    → (let x = takes_signal (Directed source own) s now found o in Acknowledges x.says x.delivers)
unfolding takes_signal takes_data takes_abort takes_request takes_packet begun goes_on delivers_message asks_again grants granted_at
acknowledges source own s now found o = grind arith

-- its first byte is that of an acknowledgment just where a message is delivered
abbrev pub Tells : Option ToSend → Option MessageRecord → Type 0
Tells says d = ((m : MessageRecord) → d ≡ Some m → (x : ToSend) × (says ≡ Some x) × (slice_get x.bytes 0 ≡ Some 19))
    × ((x : ToSend) → says ≡ Some x → slice_get x.bytes 0 ≡ Some 19 → (m : MessageRecord) × (d ≡ Some m))

tells : (own a : ℕ) (s : Option Signal) (d : Option MessageRecord) → Acknowledges s d → Tells (option_map (written own a) s) d
unfolding written
tells own a (Some (Acknowledgment size count pgn)) d h = (λ m e. (_, refl, refl), λ x e b. (h.0, h.1))
tells own a s d h = (λ m e. absurd (grind (arith, h, e)), λ x e b. absurd (grind (arith, h, e, b)))

pub step_tells : (own most : ℕ) (room : Bool) (f : FrameRecord) (now : ℕ) (o : Option Session) → Tells (step_at own most room f now o).sends (step_at own most room f now o).delivers
unfolding recv_step frames.source_of
step_tells own most room f now o = tells own (source_of f.id) _ _ (acknowledges (source_of f.id) own _ now room (receiving o))

-- ---- when a tick says something

quiet_one : (own now : ℕ) (x : Session) → now ≤ limit_in x → ((tick_of own now x).after.session ≡ Some x.reception) × ((tick_of own now x).sends ≡ None)
unfolding recv_step takes_tick
quiet_one own now x l = (grind (arith, l), grind (arith, l))

soonest : (now l : ℕ) (o : Option ℕ) → ((m : ℕ) → sooner (Some l) o ≡ Some m → now ≤ m) → (now ≤ l) × ((m : ℕ) → o ≡ Some m → now ≤ m)
soonest now l None h = (h l refl, λ m e. absurd (cc))
soonest now l (Some n) h = let k = h _ refl in (omega (arith, k), λ m e. (let z : n ≡ m = cc in omega (arith, k, z)))

quiet_all : (own now : ℕ) (xs : List Session) (replies : List Reply) → ((m : ℕ) → earliest xs ≡ Some m → now ≤ m) → (sessions_ticked own now xs ≡ xs) × (replies_ticked own now xs replies ≡ replies)
quiet_all own now [] replies h = (refl, refl)
quiet_all own now (x ∷ xs) replies h =
    let b = soonest now (limit_in x) (earliest xs) h in
    let q = quiet_one own now x b.0 in
    let r = quiet_all own now xs replies b.1 in (
      λ i. listed (option_map (session_by x.since x.name) (q.0 i)) ++ r.0 i,
      ap (λ (o : Option ToSend). replies_ticked own now xs (replied (from x) o replies)) q.1 ∙ r.1,
    )

pub tick_waits : (now : ℕ) (s : SessionsRecord) → ((m : ℕ) → earliest s.sessions ≡ Some m → now ≤ m) → ticks now s ≡ s
tick_waits now s h = let q = quiet_all s.own now s.sessions s.replies h in λ i. record s { sessions = q.0 i; replies = q.1 i }

-- whose it is
pub soonest_is : (xs : List Session) (m : ℕ) → AreApart xs → earliest xs ≡ Some m → (a : ℕ) × (x : Session) × (of a xs ≡ Some x) × (limit_in x ≡ m)
soonest_is [] m h e = absurd (cc)
soonest_is (x ∷ xs) m h e = go (earliest xs) refl e (soonest_is xs)
  where
    here : limit_in x ≡ m → (a : ℕ) × (y : Session) × (of a (x ∷ xs) ≡ Some y) × (limit_in y ≡ m)
    here l = (from x, x, ap (λ (b : Bool). if b then Some x else of (from x) xs) (eq-eqb (from x) (from x) refl), l)

    go : (o : Option ℕ) → earliest xs ≡ o → sooner (Some (limit_in x)) (earliest xs) ≡ Some m
        → ((n : ℕ) → AreApart xs → earliest xs ≡ Some n → (a : ℕ) × (y : Session) × (of a xs ≡ Some y) × (limit_in y ≡ n)) → (a : ℕ) × (y : Session) × (of a (x ∷ xs) ≡ Some y) × (limit_in y ≡ m)
    go None i e k = here (grind (arith, i, e))
    go (Some n) i e k = by (nat_lt n (limit_in x)) refl
      where
        by : (b : Bool) → nat_lt n (limit_in x) ≡ b → (a : ℕ) × (y : Session) × (of a (x ∷ xs) ≡ Some y) × (limit_in y ≡ m)
        by true l = let r = k n h.1 i in (r.0, r.1, of_later r.0 x r.1 xs h.0 r.2, r.3 ∙ grind (arith, i, e, l))
        by false l = here (grind (arith, i, e, l))

-- it asks again, or aborts
abbrev Asks : Signal → Type 0
Asks a = (slice_get (bytes_with a) 0 ≡ Some 17) ⊎ (slice_get (bytes_with a) 0 ≡ Some 255)

asks_something : (now : ℕ) (x : ReceptionRecord) → (a : Signal) × ((asks_again now x).says ≡ Some a) × Asks a
unfolding asks_again grants
asks_something now x =
    cond_both (x.asks == 2) _ _ (λ (y : Reaction). (a : Signal) × (y.says ≡ Some a) × Asks a) (λ t. (_, refl, inr refl)) (λ t. (_, refl, inl refl))

pub tick_says : (own now : ℕ) (x : Session) → limit_in x < now
    → (y : ToSend) × ((slice_get y.bytes 0 ≡ Some 17) ⊎ (slice_get y.bytes 0 ≡ Some 255)) × ((tick_of own now x).sends ≡ Some y)
unfolding recv_step takes_tick written
tick_says own now x l =
    cond_both (is_over now x) _ _ (λ (u : RecvResult). (y : ToSend) × ((slice_get y.bytes 0 ≡ Some 17) ⊎ (slice_get y.bytes 0 ≡ Some 255)) × (u.sends ≡ Some y))
    (λ g. (written own (from x) (Abort 3 x.reception.message.group), inr refl, refl))
    (λ g. (let n = ltb-false (x.since + longest x.reception.message.packets) now g in
    let a = asks_something now x.reception in (
      written own (from x) a.0,
      a.2,
      ap (λ (b : Bool). option_map (written own (from x)) (if b then asks_again now x.reception else quiet (Some x.reception)).says) (lt-ltb (x.reception.message.last + limit_of x.reception) now (omega (arith, n, l)))
          ∙ ap (λ (o : Option Signal). option_map (written own (from x)) o) a.1,
    )))

-- ---- over all

pub made_tells : (s : SessionsRecord) (f : FrameRecord) (now : ℕ) → Tells (said now f s) (made now f s)
made_tells s f now = go (is_of_session s.own f)
  where
    x : RecvResult
    x = step_in now f s

    go : (b : Bool) → Tells (if b then x.sends else None) (if b then x.delivers else None)
    go true = step_tells s.own s.most (has_room (source_of f.id) s) f now (of (source_of f.id) s.sessions)
    go false = (λ m e. absurd (cc), λ x e b. absurd (cc))

-- ---- by the source that is asked for

module _ (s : SessionsRecord) (now : ℕ) (name : Option ℕ) (f : FrameRecord) (a : ℕ) (Q : Option Session → Type 0) where
  -- a frame is of another, or of no session, or its source's takes its step
  pub heard_cases : AreApart s.sessions → ((source_of f.id ≢ a) ⊎ (is_of_session s.own f ≡ false) → Q (of a s.sessions)) → (source_of f.id ≡ a → is_of_session s.own f ≡ true → Q (new s now name f))
      → Q (of a (hears now name f s).sessions)
  heard_cases h aside its = go (nat_eq (source_of f.id) a) refl
    where
      by : source_of f.id ≡ a → (b : Bool) → is_of_session s.own f ≡ b → Q (of a (hears now name f s).sessions)
      by i true k = subst Q (sym (ap (λ (n : ℕ). of n (hears now name f s).sessions) (sym i) ∙ its_heard s now name f k h)) (its i k)
      by i false k = subst (λ (b : Bool). Q (of a (if b then stepped (source_of f.id) now name f (of (source_of f.id) s.sessions) (step_in now f s) s else s).sessions)) (sym k) (aside (inr k))

      go : (b : Bool) → nat_eq (source_of f.id) a ≡ b → Q (of a (hears now name f s).sessions)
      go true i = by (eqb-true _ _ i) (is_of_session s.own f) refl
      go false i = let n = λ (e : source_of f.id ≡ a). (let z : true ≡ false = sym (eq-eqb _ _ e) ∙ i in absurd (cc)) in subst Q (sym (of_another s now name f a n)) (aside (inl n))

-- with no session none is delivered
pub none_from : (r : ReceiverRecord) (f : FrameRecord) (now : ℕ) (found : Bool) → r.session ≡ None → (recv_step r (Heard f) now found).delivers ≡ None
unfolding recv_step takes_signal takes_data takes_abort takes_request grants
none_from r f now found e = grind (arith, e)

pub none_made : (s : SessionsRecord) (now : ℕ) (f : FrameRecord) → of (source_of f.id) s.sessions ≡ None → made now f s ≡ None
none_made s now f e = go (is_of_session s.own f)
  where
    go : (b : Bool) → (if b then (step_in now f s).delivers else None) ≡ None
    go true = none_from _ _ now _ (ap receiving e)
    go false = refl

-- a packet of who has no session changes nothing
none_packet : (own most : ℕ) (room : Bool) (f : FrameRecord) (now k : ℕ) (part : List ℕ) → said_to own f ≡ Some (Packet k part)
    → step_at own most room f now None ≡ record { after = record { own = own; session = None }; sends = None; delivers = None }
unfolding recv_step takes_signal takes_data frames.source_of
none_packet own most room f now k part says =
    ap (λ (s : Option Signal). result_of own (source_of f.id) (takes_signal (Directed (source_of f.id) own) s now room None)) (said_shown own most f ∙ ap (with_most most) says)

pub packet_of_none : (s : SessionsRecord) (now : ℕ) (name : Option ℕ) (f : FrameRecord) (k : ℕ) (part : List ℕ) → of (source_of f.id) s.sessions ≡ None
    → said_to s.own f ≡ Some (Packet k part) → hears now name f s ≡ s
packet_of_none s now name f k part e says = go (is_of_session s.own f)
  where
    x : RecvResult
    x = step_in now f s

    quiet_one : x ≡ record { after = record { own = s.own; session = None }; sends = None; delivers = None }
    quiet_one = ap (λ (o : Option Session). step_at s.own s.most (has_room (source_of f.id) s) f now o) e ∙ none_packet s.own s.most (has_room (source_of f.id) s) f now k part says

    go : (b : Bool) → (if b then stepped (source_of f.id) now name f (of (source_of f.id) s.sessions) x s else s) ≡ s
    go false = refl
    go true = (λ i. stepped (source_of f.id) now name f (e i) (quiet_one i) s) ∙ λ i. record s {
      sessions = (append-nil (others (source_of f.id) s.sessions) ∙ none_other (source_of f.id) s.sessions e) i;
      waits = append-nil s.waits i;
      senders = append-nil s.senders i;
    }

-- a packet that strays changes nothing
pub stray_step : (own most : ℕ) (room : Bool) (f : FrameRecord) (now : ℕ) (x : Session) (k : ℕ) (part : List ℕ) → said_to own f ≡ Some (Packet k part) → k ≢ suc x.reception.message.count
    → k ≢ x.reception.granted → step_at own most room f now (Some x) ≡ record { after = record { own = own; session = Some x.reception }; sends = None; delivers = None }
stray_step own most room f now x k part says a b =
    let q : strays (number_in (said_to own f)) (Some x.reception) ≡ true = ap (λ (s : Option Signal). strays (number_in s) (Some x.reception)) says ∙ grind (arith, a, b) in
    quiet_step (record { own = own; session = Some x.reception }) (shown own most (Some x.reception) f) now room
    (ap (λ (c : Bool). said_to own (record { stamp = f.stamp; id = f.id; bytes = if c then [] else narrowed most f })) q ∙ hushed own f.stamp f.id)

-- ---- to whom something is said

pub session_below : (own : ℕ) (f : FrameRecord) → is_of_session own f ≡ true → source_of f.id < 254
session_below own f e = ltb-true _ _ (and_parts _ _ (and_parts _ _ e).0).0

-- what is said to a source leaves what is said to others
pub without_replied : (a : ℕ) (o : Option ToSend) (replies : List Reply) → without a (replied a o replies) ≡ without a replies
without_replied a None replies = refl
without_replied a (Some f) replies =
    cond_both (nat_lt (length (without a replies)) 16) _ _ (λ (xs : List Reply). without a xs ≡ without a replies)
    (λ e. more (without a replies) ∙ twice replies) (λ e. twice replies)
  where
    twice : (xs : List Reply) → without a (without a xs) ≡ without a xs
    twice [] = refl
    twice (x ∷ xs) = let h = twice xs in grind (arith, h)

    more : (xs : List Reply) → without a (xs ++ record { to = a; bytes = f.bytes } ∷ []) ≡ without a xs
    more [] = ap (λ (b : Bool). if not b then record { to = a; bytes = f.bytes } ∷ [] else []) (eq-eqb a a refl)
    more (x ∷ xs) = let h = more xs in grind (arith, h)

said_to_all : (a : ℕ) (o : Option ToSend) (replies : List Reply) → a < 254 → All (λ m. m.to < 254) replies → All (λ m. m.to < 254) (replied a o replies)
said_to_all a None replies l h = h
said_to_all a (Some f) replies l h =
    let k = All-filter (λ m. not (nat_eq a m.to)) (λ m. m.to < 254) replies h in
    cond_both (nat_lt (length (without a replies)) 16) _ _ (All (λ m. m.to < 254)) (λ e. All-append (λ m. m.to < 254) (without a replies) _ k (All-cons (λ m. m.to < 254) _ [] l (All-nil _))) (λ e. k)

-- each goes to an address, from an address that each session is of
pub record Below (s : SessionsRecord) : Type 0 where
  pub sessions : All (λ x. from x < 254) s.sessions
  pub replies : All (λ m. m.to < 254) s.replies

below_listed : (a : ℕ) (o : Option Session) → IsFrom a o → a < 254 → All (λ x. from x < 254) (listed o)
below_listed a None h l = All-nil _
below_listed a (Some x) h l = All-cons (λ x. from x < 254) x [] (subst (λ (n : ℕ). n < 254) (sym h) l) (All-nil _)

below_others : (a : ℕ) (xs : List Session) → All (λ x. from x < 254) xs → All (λ x. from x < 254) (others a xs)
below_others a xs h = all_others (λ x. from x < 254) a xs h

below_ticked : (own now : ℕ) (xs : List Session) (replies : List Reply) → All (λ x. from x < 254) xs → All (λ m. m.to < 254) replies
    → All (λ x. from x < 254) (sessions_ticked own now xs) × All (λ m. m.to < 254) (replies_ticked own now xs replies)
below_ticked own now [] replies h k = (h, k)
below_ticked own now (x ∷ xs) replies h k =
    let l = All-head (λ x. from x < 254) x xs h in
    let r = below_ticked own now xs (replied (from x) (tick_of own now x).sends replies) (All-tail (λ x. from x < 254) x xs h) (said_to_all (from x) _ replies l k) in
    (All-append (λ x. from x < 254) (listed (session_ticked own now x)) _ (below_listed (from x) (session_ticked own now x) (ticked_from own now x) l) r.0, r.1)

below_unsaid : (xs : List Session) (replies : List Reply) → All (λ m. m.to < 254) replies → All (λ m. m.to < 254) (unsaid xs replies)
below_unsaid [] replies h = h
below_unsaid (x ∷ xs) replies h = below_unsaid xs (without (from x) replies) (All-filter (λ m. not (nat_eq (from x) m.to)) (λ m. m.to < 254) replies h)

pub below : (own most boxes : ℕ) (E : List Event) → Below (after own most boxes E)
below own most boxes [] = record { sessions = All-nil _; replies = All-nil _ }
below own most boxes (Hears now name f ∷ E) = go (is_of_session s.own f) refl (below own most boxes E)
  where
    s : SessionsRecord
    s = after own most boxes E

    go : (b : Bool) → is_of_session s.own f ≡ b → Below s → Below (if b then stepped (source_of f.id) now name f (of (source_of f.id) s.sessions) (step_in now f s) s else s)
    go true e h = let l = session_below s.own f e in record {
      sessions = All-append (λ x. from x < 254) (others (source_of f.id) s.sessions) _ (below_others (source_of f.id) s.sessions h.sessions) (below_listed (source_of f.id) (new s now name f) (new_from s now name f) l);
      replies = said_to_all (source_of f.id) (step_in now f s).sends s.replies l h.replies;
    }
    go false e h = h
below own most boxes (Ticks now ∷ E) =
    let h = below own most boxes E in let k = below_ticked (after own most boxes E).own now (after own most boxes E).sessions (after own most boxes E).replies h.sessions h.replies in record { sessions = k.0; replies = k.1 }
below own most boxes (Leaves gone holder ∷ E) =
    let h = below own most boxes E in
    record {
      sessions = All-filter (λ x. not (is_left gone holder x)) (λ x. from x < 254) (after own most boxes E).sessions h.sessions;
      replies = below_unsaid (filter (is_left gone holder) (after own most boxes E).sessions) (after own most boxes E).replies h.replies;
    }
below own most boxes (Loses ∷ E) = record { sessions = All-nil _; replies = All-nil _ }
below own most boxes (Releases ∷ E) = let h = below own most boxes E in record { sessions = h.sessions; replies = h.replies }
below own most boxes (Says ∷ E) = let h = below own most boxes E in record { sessions = h.sessions; replies = All-drop (λ m. m.to < 254) 1 (after own most boxes E).replies h.replies }

-- ---- one of a group

abbrev pub of_group : ℕ → Option Session → Bool
of_group group None = false
of_group group (Some x) = nat_eq x.reception.message.group group

-- it is that of its source
pub open_of : (a group : ℕ) (xs : List Session) → AreApart xs → is_open a group xs ≡ of_group group (of a xs)
open_of a group [] h = refl
open_of a group (x ∷ xs) h = go (nat_eq a (from x)) refl (open_of a group xs h.1)
  where
    go : (b : Bool) → nat_eq a (from x) ≡ b → is_open a group xs ≡ of_group group (of a xs) → (is_of a group x || is_open a group xs) ≡ of_group group (if b then Some x else of a xs)
    go true e k =
        let z = eqb-true _ _ e in
        let rest : is_open a group xs ≡ false = k ∙ ap (of_group group) (ap (λ (n : ℕ). of n xs) z ∙ h.0) in
        grind (arith, z, rest)
    go false e k = let z : nat_eq (from x) a ≡ false = ne_eqb _ _ (λ i. (let y : true ≡ false = sym (eq-eqb a (from x) (sym i)) ∙ e in absurd (cc))) in (λ i. (z i && nat_eq x.reception.message.group group) || is_open a group xs) ∙ k

-- ---- how many packets are granted

asked_signal : (most source own : ℕ) (now size packets asked pgn : ℕ) (o : Option ReceptionRecord) (r : ReceptionRecord) → 1 ≤ asked → is_taken source o ≡ false
    → (takes_signal (Directed source own) (Some (RequestToSend size packets (fewest most asked) pgn)) now true o).session ≡ Some r → r.most ≤ asked
unfolding takes_signal takes_request begun grants granted_at
asked_signal most source own now size packets asked pgn o r l t e = grind (arith, l, t, e)

pub asked_step : (own most : ℕ) (f : FrameRecord) (now : ℕ) (o : Option Session) (size packets asked pgn : ℕ) (r : ReceptionRecord) → said_to own f ≡ Some (RequestToSend size packets asked pgn)
    → 1 ≤ asked → IsFrom (source_of f.id) o → (step_at own most true f now o).after.session ≡ Some r → r.most ≤ asked
unfolding recv_step frames.source_of
asked_step own most f now o size packets asked pgn r says l h e =
    asked_signal most (source_of f.id) own now size packets asked pgn (receiving o) r l (untaken o h)
    (ap (λ (s : Option Signal). (takes_signal (Directed (source_of f.id) own) s now true (receiving o)).session)
    (sym (ap (λ (b : Bool). said_to own (record { stamp = f.stamp; id = f.id; bytes = if b then [] else narrowed most f })) (ap (λ (s : Option Signal). strays (number_in s) (receiving o)) says ∙ none_strays (receiving o))
    ∙ (said_narrowed own most f ∙ ap (with_most most) says))) ∙ e)
  where
    none_strays : (p : Option ReceptionRecord) → strays None p ≡ false
    none_strays p = refl

    untaken : (o : Option Session) → IsFrom (source_of f.id) o → is_taken (source_of f.id) (receiving o) ≡ false
    untaken o h = grind (arith, h)

-- a CTS grants so many
grants_signal : (most source own : ℕ) (s : Option Signal) (now : ℕ) (found : Bool) (o : Option ReceptionRecord) (count next pgn : ℕ) → 1 ≤ most → Few most o
    → (takes_signal (Directed source own) (with_most most s) now found o).says ≡ Some (ClearToSend count next pgn) → count ≤ most
unfolding takes_signal takes_data takes_abort takes_request takes_packet begun goes_on delivers_message asks_again grants granted_at
grants_signal most source own s now found o count next pgn l h e = grind (arith, l, h, e)

grants_said : (own a most n : ℕ) (s : Option Signal) (d : Option MessageRecord) (y : ToSend) → Acknowledges s d → ((count next pgn : ℕ) → s ≡ Some (ClearToSend count next pgn) → count ≤ most)
    → option_map (written own a) s ≡ Some y → slice_get y.bytes 0 ≡ Some 17 → slice_get y.bytes 1 ≡ Some n → n ≤ most
unfolding written
grants_said own a most n (Some (ClearToSend count next pgn)) d y h l e b c =
    let z : written own a (ClearToSend count next pgn) ≡ y = cc in
    let m : Some count ≡ Some n = ap (λ (x : ToSend). slice_get x.bytes 1) z ∙ c in
    let i : count ≡ n = cc in subst (λ (k : ℕ). k ≤ most) i (l count next pgn refl)
grants_said own a most n s d y h l e b c = absurd (grind (arith, h, e, b))

grants_step : (own most : ℕ) (room : Bool) (f : FrameRecord) (now n : ℕ) (o : Option Session) (y : ToSend) → 1 ≤ most → Few most (receiving o) → (step_at own most room f now o).sends ≡ Some y
    → slice_get y.bytes 0 ≡ Some 17 → slice_get y.bytes 1 ≡ Some n → n ≤ most
unfolding recv_step frames.source_of
grants_step own most room f now n o y l h e b c =
    cond_both (strays (number_in (said_to own f)) (receiving o)) _ _ (λ bytes. (recv_step r (Heard (record { stamp = f.stamp; id = f.id; bytes = bytes })) now room).sends ≡ Some y → n ≤ most)
    (λ i e. absurd (let z : None ≡ Some y = sym (ap (λ (x : RecvResult). x.sends) (quiet_step r (record { stamp = f.stamp; id = f.id; bytes = [] }) now room (hushed own f.stamp f.id))) ∙ e in cc))
    (λ i e. by (ap (λ (s : Option Signal). option_map (written own (source_of f.id)) (takes_signal (Directed (source_of f.id) own) s now room (receiving o)).says) (sym (said_narrowed own most f)) ∙ e)) e
  where
    r : ReceiverRecord
    r = record { own = own; session = receiving o }

    by : option_map (written own (source_of f.id)) (takes_signal (Directed (source_of f.id) own) (with_most most (said_to own f)) now room (receiving o)).says ≡ Some y → n ≤ most
    by e = grants_said own (source_of f.id) most n _ _ y (acknowledges (source_of f.id) own (with_most most (said_to own f)) now room (receiving o))
        (λ count next pgn i. grants_signal most (source_of f.id) own (said_to own f) now room (receiving o) count next pgn l h i) e b c

pub grants_few : (s : SessionsRecord) (f : FrameRecord) (now n : ℕ) (y : ToSend) → 1 ≤ s.most → All (Fewer s.most) s.sessions → said now f s ≡ Some y → slice_get y.bytes 0 ≡ Some 17
    → slice_get y.bytes 1 ≡ Some n → n ≤ s.most
grants_few s f now n y l h e b c = go (is_of_session s.own f) e
  where
    go : (t : Bool) → (if t then (step_in now f s).sends else None) ≡ Some y → n ≤ s.most
    go true e = grants_step s.own s.most (has_room (source_of f.id) s) f now n (of (source_of f.id) s.sessions) y l (few_of s.most (source_of f.id) s.sessions h) e b c
    go false e = absurd (cc)

-- ---- what a tick says is said

reply_last : (a : ℕ) (xs : List Reply) (bytes : List ℕ) → reply_to a (without a xs ++ record { to = a; bytes = bytes } ∷ []) ≡ Some (record { to = a; bytes = bytes })
reply_last a [] bytes = ap (λ (b : Bool). if b then Some (record { to = a; bytes = bytes }) else None) (eq-eqb a a refl)
reply_last a (x ∷ xs) bytes = let h = reply_last a xs bytes in grind (arith, h)

without_most : (a : ℕ) (xs : List Reply) → length (without a xs) ≤ length xs
without_most a [] = omega arith
without_most a (x ∷ xs) = let h = without_most a xs in grind (arith, h)

replied_most : (a : ℕ) (o : Option ToSend) (xs : List Reply) → length (replied a o xs) ≤ length xs + 1
replied_most a None xs = omega arith
replied_most a (Some f) xs =
    let h = without_most a xs in
    let k = length-append (without a xs) (record { to = a; bytes = f.bytes } ∷ []) in
    cond_both (nat_lt (length (without a xs)) 16) _ _ (λ (ys : List Reply). length ys ≤ length xs + 1) (λ e. omega (arith, h, k)) (λ e. omega (arith, h))

-- of others
rest_says : (own now a : ℕ) (xs : List Session) (replies : List Reply) → of a xs ≡ None → reply_to a (replies_ticked own now xs replies) ≡ reply_to a replies
rest_says own now a [] replies e = refl
rest_says own now a (x ∷ xs) replies e = go (nat_eq a (from x)) refl e (rest_says own now a xs)
  where
    go : (b : Bool) → nat_eq a (from x) ≡ b → (if b then Some x else of a xs) ≡ None → ((r : List Reply) → of a xs ≡ None → reply_to a (replies_ticked own now xs r) ≡ reply_to a r)
        → reply_to a (replies_ticked own now xs (replied (from x) (tick_of own now x).sends replies)) ≡ reply_to a replies
    go true i e h = absurd (cc)
    go false i e h = h _ e ∙ to_others (from x) a (tick_of own now x).sends replies (λ z. (let y : true ≡ false = sym (eq-eqb a (from x) (sym z)) ∙ i in absurd (cc)))

pub tick_told : (own now a : ℕ) (xs : List Session) (replies : List Reply) (x : Session) (y : ToSend) → AreApart xs → of a xs ≡ Some x → (tick_of own now x).sends ≡ Some y
    → length replies + length xs ≤ 16 → reply_to a (replies_ticked own now xs replies) ≡ Some (record { to = a; bytes = y.bytes })
tick_told own now a [] replies x y h e s l = absurd (cc)
tick_told own now a (z ∷ xs) replies x y h e s l = go (nat_eq a (from z)) refl e (λ r. tick_told own now a xs r x y h.1)
  where
    go : (b : Bool) → nat_eq a (from z) ≡ b → (if b then Some z else of a xs) ≡ Some x
        → ((r : List Reply) → of a xs ≡ Some x → (tick_of own now x).sends ≡ Some y → length r + length xs ≤ 16 → reply_to a (replies_ticked own now xs r) ≡ Some (record { to = a; bytes = y.bytes }))
        → reply_to a (replies_ticked own now xs (replied (from z) (tick_of own now z).sends replies)) ≡ Some (record { to = a; bytes = y.bytes })
    go true i e k =
        let same : z ≡ x = cc in
        let m = without_most a replies in
        rest_says own now a xs (replied (from z) (tick_of own now z).sends replies) (ap (λ (n : ℕ). of n xs) (eqb-true _ _ i) ∙ h.0)
        ∙ ((λ j. reply_to a (replied (sym (eqb-true _ _ i) j) ((ap (λ (u : Session). (tick_of own now u).sends) same ∙ s) j) replies))
        ∙ (ap (λ (b : Bool). reply_to a (if b then without a replies ++ record { to = a; bytes = y.bytes } ∷ [] else without a replies)) (lt-ltb (length (without a replies)) 16 (omega (arith, m, l)))
        ∙ reply_last a replies y.bytes))
    go false i e k = let m = replied_most (from z) (tick_of own now z).sends replies in k _ e s (omega (arith, m, l))

-- ---- the NAMEs of what waits

pub paired : (own most boxes : ℕ) (E : List Event) → length (after own most boxes E).senders ≡ length (after own most boxes E).waits
paired own most boxes [] = refl
paired own most boxes (Hears now name f ∷ E) = go (is_of_session (after own most boxes E).own f) (paired own most boxes E)
  where
    s : SessionsRecord
    s = after own most boxes E

    named : MessageRecord → Option ℕ
    named m = name_by name (of (source_of f.id) s.sessions)

    stamped : MessageRecord → ℕ × MessageRecord
    stamped m = (f.stamp, m)

    one : (p : MessageRecord → Option ℕ) (q : MessageRecord → ℕ × MessageRecord) (o : Option MessageRecord) → length (listed (option_map p o)) ≡ length (listed (option_map q o))
    one p q o = grind arith

    go : (b : Bool) → length s.senders ≡ length s.waits
        → length (if b then stepped (source_of f.id) now name f (of (source_of f.id) s.sessions) (step_in now f s) s else s).senders
        ≡ length (if b then stepped (source_of f.id) now name f (of (source_of f.id) s.sessions) (step_in now f s) s else s).waits
    go true h =
        length-append s.senders (listed (option_map named (step_in now f s).delivers))
        ∙ ((λ i. h i + one named stamped (step_in now f s).delivers i) ∙ sym (length-append s.waits (listed (option_map stamped (step_in now f s).delivers))))
    go false h = h
paired own most boxes (Releases ∷ E) =
    let h = paired own most boxes E in
    length-drop 1 (after own most boxes E).senders ∙ (ap (λ n. n - 1) h ∙ sym (length-drop 1 (after own most boxes E).waits))
paired own most boxes (event ∷ E) = paired own most boxes E
