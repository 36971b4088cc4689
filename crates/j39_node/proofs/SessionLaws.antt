-- A session ends by itself; and what is sent to it whole is received.
use Rattle.j39_node.proofs.Common.{[], Abort, all_replies, ap, append-nil, arith, At, begins, Bool, Bring, brings, Call, claim_of, eqb-true, events, false, first, found_by, FrameRecord, Hear, heard_at, heard_by, holder, holds, is_claim, is_reply, is_same, is_smaller, IsOpenOf, IsPacket, IsTrue, known, later, List, listed, longest, made_in_sessions, MessageRecord, moment, nat_eq, NeverBack, None, of_source, opens, Option, option_map, Packet, passed_in, reception, ReceptionRecord, RecvResult, refl, ReleaseTransfer, RequestToSend, restarts, said_to, says, Session, session, sessions_after, SessionsRecord, Some, source_of, Spares, spares, StaysOpen, still, subst, suc, sym, take, TakeFrame, taken_by, Tick, TicksWithin, time_heard, timer_t2, ToSend, true, unticked_in, Who, whole, written, ℕ, ◌*◌, ◌++◌, ◌+◌, ◌-◌, ◌<◌, ◌∙◌, ◌∷◌, ◌≡◌, ◌≢◌, ◌≤◌}
use Rattle.j39_sessions.specs.Events.{Event, Hears, Leaves, Releases, Says, Ticks as TicksBy, ticked_of}
use Rattle.j39_sessions.specs.Packets.{begins as begins_by, Bring as BringBy, brings as brings_by, spares as spares_by}
use Rattle.j39_sessions.specs.Sessions.{from, has_room, is_of_session, is_that as is_address, name_by, replied, session_by, session_ticked, since_by, step_at, tick_of}
use Rattle.j39_sessions.proofs.BringLemmas.{goes_next, last_step, next_of, next_step, received as received_by, session_said}
use Rattle.j39_sessions.proofs.LawLemmas.{kept_ticked, not_over, senders_made, waits_made}
use Rattle.j39_sessions.proofs.SourceLemmas.{packet_of_none, stray_step}
use Rattle.j39_node.proofs.PacketLemmas.{said_no_claim, session_no_claim}
use Rattle.j39_node.proofs.ReceptionLaws.{found_before, heard_is, hear_cases, is_same_of, not_driven, not_lost, says_it, says_step, steps, tick_is, ticked_some, unclaimed_found, unheld, was_before, whole_is, whole_step}
use Rattle.j39_node.proofs.ReceptionLemmas.{its_source, left, own, unclaimed_known}
use Rattle.j39_node.proofs.RestartLaws.{differs}
use Rattle.j39_transport.specs.Session.{grown}

-- ---- its account

-- what a frame makes of it, where it is open then
kept_since : (since : ℕ) (name : Option ℕ) (r : Option ReceptionRecord) (y : Session) → option_map (session_by since name) r ≡ Some y → (y.since ≡ since) × (y.name ≡ name)
kept_since since name None y e = absurd (cc)
kept_since since name (Some r) y e = let z : session_by since name r ≡ y = cc in (ap (λ (x : Session). x.since) (sym z), ap (λ (x : Session). x.name) (sym z))

pub begins_anew : (w : Who) (H : List Call) (when a : ℕ) (f : FrameRecord) (y : Session) → session w H a ≡ None → session w (At when (Hear f) ∷ H) a ≡ Some y
    → y.since ≡ time_heard (At when (Hear f) ∷ H)
begins_anew w H when a f y none e =
    hear_cases w H when f a (λ (o : Option Session). o ≡ Some y → y.since ≡ time_heard (At when (Hear f) ∷ H)) (λ l e. absurd (cc))
    (λ n e. absurd (let was = found_before w H when f a y e in let z : None ≡ Some y = sym none ∙ was.is in cc))
    (λ l h i q o k e. (kept_since _ _ _ y e).0 ∙ first i o k) e
  where
    first : source_of f.id ≡ a → (o : Option Session) → of_source (source_of f.id) (found_by w H when f).sessions ≡ o
        → since_by (time_heard (At when (Hear f) ∷ H)) o ≡ time_heard (At when (Hear f) ∷ H)
    first i None k = refl
    first i (Some x) k = absurd (let was = found_before w H when f a x (ap (λ (n : ℕ). of_source n (found_by w H when f).sessions) (sym i) ∙ k) in let z : None ≡ Some x = sym none ∙ was.is in cc)

-- the account and the NAME of one are those of the other
abbrev IsSame : Session → Session → Type 0
IsSame x y = (y.since ≡ x.since) × (y.name ≡ x.name)

same_one : (o : Option Session) (x y : Session) → o ≡ Some x → o ≡ Some y → IsSame x y
same_one o x y e g = let z : Some y ≡ Some x = sym g ∙ e in let u : y ≡ x = cc in (ap (λ (s : Session). s.since) u, ap (λ (s : Session). s.name) u)

pub runs : (w : Who) (H : List Call) (call : Call) (a : ℕ) (x y : Session) → session w H a ≡ Some x → session w (call ∷ H) a ≡ Some y → IsSame x y
runs w H (At when (Hear f)) a x y e g =
    hear_cases w H when f a (λ (o : Option Session). o ≡ Some y → IsSame x y) (λ l g. absurd (cc))
    (λ n g. same_one (session w H a) x y e (found_before w H when f a y g).is)
    (λ l h i q o k g. (let z = on i q o k in let s = kept_since _ _ _ y g in
    (s.0 ∙ ap (since_by (time_heard (At when (Hear f) ∷ H))) z, s.1 ∙ ap (name_by (holder w (At when (Hear f) ∷ H) (source_of f.id))) z))) g
  where
    on : source_of f.id ≡ a → is_of_session w.address f ≡ true → (o : Option Session) → of_source (source_of f.id) (found_by w H when f).sessions ≡ o → o ≡ Some x
    on i q o k = sym k ∙ ((λ j. of_source (i j) (unclaimed_found w H when f (session_no_claim w.address f q) j).sessions) ∙ e)
runs w H (At now Tick) a x y e g =
    let t = ticked_some w.address (time_heard (At now Tick ∷ H)) (session w H a) y (sym (tick_is w H now a) ∙ g) in
    let k = kept_ticked w.address (time_heard (At now Tick ∷ H)) t.0 y t.2 in
    let s = same_one (session w H a) x t.0 e t.1 in (k.0 ∙ s.0, k.1 ∙ s.1)
runs w H call a x y e g = same_one (session w H a) x y e (was_before w H call refl a y g).is

-- ---- a tick behind its time

pub over : (w : Who) (H : List Call) (now a : ℕ) (x : Session) → session w (At now Tick ∷ H) a ≡ Some x → time_heard (At now Tick ∷ H) ≤ x.since + longest x.reception.message.packets
over w H now a x e = not_over w.address w.window w.sessions (time_heard (At now Tick ∷ H)) a (events w H) x e

aborts_by : (own now : ℕ) (x : Session) → x.since + longest x.reception.message.packets < now
    → (session_ticked own now x ≡ None) × ((tick_of own now x).sends ≡ Some (written own (from x) (Abort 3 x.reception.message.group)))
aborts_by own now x l = (grind (arith, l), grind (arith, l))

pub aborts : (w : Who) (H : List Call) (now a : ℕ) (x : Session) → session w H a ≡ Some x → x.since + longest x.reception.message.packets < time_heard (At now Tick ∷ H)
    → (session w (At now Tick ∷ H) a ≡ None) × ((tick_of w.address (time_heard (At now Tick ∷ H)) x).sends ≡ Some (written w.address a (Abort 3 x.reception.message.group)))
aborts w H now a x e l =
    let k = aborts_by w.address (time_heard (At now Tick ∷ H)) x l in
    (tick_is w H now a ∙ (ap (ticked_of w.address (time_heard (At now Tick ∷ H))) e ∙ k.0), k.1 ∙ ap (λ (b : ℕ). Some (written w.address b (Abort 3 x.reception.message.group))) (its_source w H a x e))

-- ---- to a driver that ticks

-- from a call that hears a frame, or a tick, what passes is what its time shows
record Clock (later E : List Call) : Type 0 where
  sum : time_heard (later ++ E) + (moment (later ++ E) - heard_at (later ++ E)) ≡ time_heard E + passed_in later E
  order : heard_at (later ++ E) ≤ moment (later ++ E)

clock : (later E : List Call) → heard_at E ≡ moment E → NeverBack later E → time_heard E + passed_in later E < 10000000000000000 → Clock later E
clock [] E e n l = record { sum = omega (arith, e); order = omega (arith, e) }
clock (call ∷ later) E e n l =
    let z : time_heard E + passed_in later E < 10000000000000000 = omega (arith, l) in
    go call (clock later E e n.0 z) n.1 l
  where
    go : (call : Call) → Clock later E → moment (later ++ E) ≤ moment (call ∷ later ++ E) → time_heard E + passed_in (call ∷ later) E < 10000000000000000
        → Clock (call ∷ later) E
    go (At now (Hear f)) c m l = let s = c.sum in let o = c.order in record { sum = omega (arith, s, o, m, l); order = omega arith }
    go (At now Tick) c m l = let s = c.sum in let o = c.order in record { sum = omega (arith, s, o, m, l); order = omega arith }
    go call c m l = let s = c.sum in let o = c.order in record { sum = omega (arith, s, o, m, l); order = omega (arith, o, m) }

opened : (n : ℕ) (o : Option Session) → IsOpenOf n o → (x : Session) × (o ≡ Some x)
opened n None h = absurd h
opened n (Some x) h = (x, refl)

open_now : (w : Who) (a n : ℕ) (later E : List Call) → StaysOpen w a n later E → IsOpenOf n (session w (later ++ E) a)
open_now w a n [] E h = h
open_now w a n (call ∷ later) E h = h.1

-- what stays open through all calls, and at each tick is at most so old, is so old but for what passed since the last tick
pub ages : (E : List Call) (L : ℕ) (Stays : List Call → Type 0) → heard_at E ≡ moment E → ((call : Call) (later : List Call) → Stays (call ∷ later) → Stays later)
    → ((now : ℕ) (later : List Call) → Stays (At now Tick ∷ later) → time_heard (At now Tick ∷ later ++ E) ≤ time_heard E + L)
    → (g : ℕ) (later : List Call) → Stays later → TicksWithin g later E → NeverBack later E → time_heard E + passed_in later E < 10000000000000000
    → passed_in later E ≤ L + g
ages E L Stays e rest tick g later s t b l = let a = aged later s b l in let u = unticked later t in omega (arith, a, u)
  where
    aged : (later : List Call) → Stays later → NeverBack later E → time_heard E + passed_in later E < 10000000000000000 → passed_in later E ≤ L + unticked_in later E
    aged [] s b l = omega arith
    aged (call ∷ later) s b l = go call s (clock (call ∷ later) E e b l) (aged later (rest call later s) b.0 (omega (arith, l)))
      where
        go : (call : Call) → Stays (call ∷ later) → Clock (call ∷ later) E → passed_in later E ≤ L + unticked_in later E
            → passed_in (call ∷ later) E ≤ L + unticked_in (call ∷ later) E
        go call e f g = grind (arith, g)

    unticked : (later : List Call) → TicksWithin g later E → unticked_in later E ≤ g
    unticked [] h = omega arith
    unticked (At now Tick ∷ later) h = omega arith
    unticked (call ∷ later) h = h.1

-- what stays open on one account, that a tick leaves only where it is at most so old, ends
pub account_ends : {X : Type 0} (E : List Call) (L : ℕ) (box : List Call → Option X) (since : List Call → X → ℕ) (Stays : List Call → Type 0) → heard_at E ≡ moment E
    → ((x : X) → box E ≡ Some x → since E x ≡ time_heard E) → ((later : List Call) → Stays later → (x : X) × (box (later ++ E) ≡ Some x))
    → ((call : Call) (later : List Call) → Stays (call ∷ later) → Stays later)
    → ((call : Call) (later : List Call) (x y : X) → Stays (call ∷ later) → box (later ++ E) ≡ Some x → box (call ∷ later ++ E) ≡ Some y → since (call ∷ later ++ E) y ≡ since (later ++ E) x)
    → ((now : ℕ) (later : List Call) (x : X) → Stays (At now Tick ∷ later) → box (At now Tick ∷ later ++ E) ≡ Some x → time_heard (At now Tick ∷ later ++ E) ≤ since (At now Tick ∷ later ++ E) x + L)
    → (g : ℕ) (later : List Call) → Stays later → TicksWithin g later E → NeverBack later E → time_heard E + passed_in later E < 10000000000000000
    → passed_in later E ≤ L + g
account_ends {X} E L box since Stays e first opens rest runs tick =
    ages E L Stays e rest (λ now later s. (let x = opens (At now Tick ∷ later) s in let t = tick now later x.0 s x.1 in let k = since_is (At now Tick ∷ later) s x.0 x.1 in omega (arith, t, k)))
  where
    since_is : (later : List Call) → Stays later → (y : X) → box (later ++ E) ≡ Some y → since (later ++ E) y ≡ time_heard E
    since_is [] s y i = first y i
    since_is (call ∷ later) s y i = let x = opens later (rest call later s) in runs call later x.0 y s x.1 i ∙ since_is later (rest call later s) x.0 x.1

pub ends : (w : Who) (later earlier : List Call) (g n at a : ℕ) (f : FrameRecord) → session w earlier a ≡ None
    → StaysOpen w a n later (At at (Hear f) ∷ earlier) → TicksWithin g later (At at (Hear f) ∷ earlier) → NeverBack later (At at (Hear f) ∷ earlier)
    → time_heard (At at (Hear f) ∷ earlier) + passed_in later (At at (Hear f) ∷ earlier) < 10000000000000000
    → passed_in later (At at (Hear f) ∷ earlier) ≤ (n + 3) * timer_t2 + g
ends w later earlier g n at a f none =
    let E = At at (Hear f) ∷ earlier in
    account_ends E (longest n) (λ H. session w H a) (λ H x. x.since) (λ later. StaysOpen w a n later E) refl (λ x i. begins_anew w earlier at a f x none i)
    (λ later h. opened n (session w (later ++ E) a) (open_now w a n later E h)) (λ call later h. h.0) (λ call later x y h i k. (runs w (later ++ E) call a x y i k).0)
    (λ now later x h i. (let o = over w (later ++ E) now a x i in let m = subst (IsOpenOf n) i h.1 in omega (arith, o, m))) g later

-- ---- a packet of a session

-- what a frame makes whole
pub next : (w : Who) (H : List Call) (when : ℕ) (f : FrameRecord) (x : Session) (part : List ℕ) → holds w H when ≡ true → session w H (source_of f.id) ≡ Some x
    → said_to w.address f ≡ Some (Packet (suc x.reception.message.count) part) → suc x.reception.message.count ≢ x.reception.message.packets
    → (y : Session) × (session w (At when (Hear f) ∷ H) (source_of f.id) ≡ Some y) × (y.reception.message ≡ grown (time_heard (At when (Hear f) ∷ H)) part x.reception.message)
next w H when f x part held e says n =
    let t = time_heard (At when (Hear f) ∷ H) in
    let g = goes_next t (next_of t part x.reception) refl n in (
      session_by x.since x.name g.0,
      steps w H when f (Some x) held (session_said w.address f _ says) e
          ∙ ap (option_map (session_by x.since x.name))
          (ap (λ (y : RecvResult). y.after.session) (next_step w.address w.window (has_room (source_of f.id) (reception w H)) f t x part (sym (its_source w H (source_of f.id) x e)) says) ∙ g.1),
      g.2,
    )

waits_on : (w : Who) (H : List Call) (when : ℕ) (f : FrameRecord) (m : MessageRecord) → holds w H when ≡ true → claim_of f ≡ None → whole w H when f ≡ Some m
    → (reception w (At when (Hear f) ∷ H)).waits ≡ (reception w H).waits ++ (f.stamp, m) ∷ []
waits_on w H when f m held none e =
    let t = time_heard (At when (Hear f) ∷ H) in
    ap (λ (s : SessionsRecord). s.waits) (heard_is w H when f held none)
    ∙ (waits_made (reception w H) t (holder w (At when (Hear f) ∷ H) (source_of f.id)) f
    ∙ ap (λ (o : Option MessageRecord). (reception w H).waits ++ listed (option_map (λ m. (f.stamp, m)) o)) (sym (whole_is w H when f held none) ∙ e))

-- the last one
pub last_one : (w : Who) (H : List Call) (when : ℕ) (f : FrameRecord) (x : Session) (part : List ℕ) (m : MessageRecord) → holds w H when ≡ true → session w H (source_of f.id) ≡ Some x
    → said_to w.address f ≡ Some (Packet (suc x.reception.message.count) part) → suc x.reception.message.count ≡ x.reception.message.packets
    → m ≡ record { source = source_of f.id; pgn = x.reception.message.group; bytes = take x.reception.message.size (x.reception.message.bytes ++ part) }
    → (whole w H when f ≡ Some m) × (session w (At when (Hear f) ∷ H) (source_of f.id) ≡ None) × ((reception w (At when (Hear f) ∷ H)).waits ≡ (reception w H).waits ++ (f.stamp, m) ∷ [])
last_one w H when f x part m held e says n is =
    let t = time_heard (At when (Hear f) ∷ H) in
    let room = has_room (source_of f.id) (reception w H) in
    let from_it = its_source w H (source_of f.id) x e in
    let s = last_step w.address w.window room f t x part (sym from_it) says n in
    let of = session_said w.address f _ says in
    let none = said_no_claim w.address f (Packet (suc x.reception.message.count) part) says in
    let made = whole_step w H when f (Some x) held of none e
    ∙ (s.0 ∙ ap Some (ap (λ (b : ℕ). (let r : MessageRecord = record { source = b; pgn = x.reception.message.group; bytes = take x.reception.message.size (x.reception.message.bytes ++ part) } in r)) from_it ∙ sym is)) in
    (made, steps w H when f (Some x) held of e ∙ ap (option_map (session_by x.since x.name)) s.1, waits_on w H when f m held none made)

-- ---- one that strays

pub strayed : (w : Who) (H : List Call) (when k : ℕ) (f : FrameRecord) (x : Session) (part : List ℕ) → session w H (source_of f.id) ≡ Some x → said_to w.address f ≡ Some (Packet k part)
    → k ≢ suc x.reception.message.count → k ≢ x.reception.granted
    → ((a : ℕ) → session w (At when (Hear f) ∷ H) a ≡ session w H a) × ((reception w (At when (Hear f) ∷ H)).waits ≡ (reception w H).waits)
    × ((reception w (At when (Hear f) ∷ H)).senders ≡ (reception w H).senders) × ((reception w (At when (Hear f) ∷ H)).replies ≡ (reception w H).replies)
strayed w H when k f x part e says a b = let r = go (holds w H when) refl in (its, r.0, r.1, r.2)
  where
    t : ℕ
    t = time_heard (At when (Hear f) ∷ H)

    none : claim_of f ≡ None
    none = said_no_claim w.address f (Packet k part) says

    of : is_of_session w.address f ≡ true
    of = session_said w.address f _ says

    room : Bool
    room = has_room (source_of f.id) (reception w H)

    step : step_at w.address w.window room f t (Some x) ≡ record { after = record { own = w.address; session = Some x.reception }; sends = None; delivers = None }
    step = stray_step w.address w.window room f t x k part says a b

    its : (c : ℕ) → session w (At when (Hear f) ∷ H) c ≡ session w H c
    its c =
        hear_cases w H when f c (λ (p : Option Session). p ≡ session w H c) (λ l. absurd (let z : true ≡ false = sym l ∙ not_driven w f none in cc))
        (λ n. ap (λ (s : SessionsRecord). of_source c s.sessions) (unclaimed_found w H when f none))
        (λ l h q r p g. by q p (sym g ∙ (ap (λ (s : SessionsRecord). of_source (source_of f.id) s.sessions) (unclaimed_found w H when f none) ∙ e)))
      where
        n : Option ℕ
        n = holder w (At when (Hear f) ∷ H) (source_of f.id)

        by : source_of f.id ≡ c → (p : Option Session) → p ≡ Some x
            → option_map (session_by (since_by t p) (name_by n p)) (step_at w.address w.window (has_room (source_of f.id) (found_by w H when f)) f t p).after.session ≡ session w H c
        by q p g =
            ap (λ (o : Option Session). option_map (session_by (since_by t o) (name_by n o)) (step_at w.address w.window (has_room (source_of f.id) (found_by w H when f)) f t o).after.session) g
            ∙ (ap (λ (y : RecvResult). option_map (session_by x.since x.name) y.after.session) (stray_step w.address w.window (has_room (source_of f.id) (found_by w H when f)) f t x k part says a b)
            ∙ (sym e ∙ ap (session w H) q))

    go : (h : Bool) → holds w H when ≡ h → ((reception w (At when (Hear f) ∷ H)).waits ≡ (reception w H).waits) × ((reception w (At when (Hear f) ∷ H)).senders ≡ (reception w H).senders)
        × ((reception w (At when (Hear f) ∷ H)).replies ≡ (reception w H).replies)
    go false i = let same = unheld w H when f i none in (ap (λ (s : SessionsRecord). s.waits) same, ap (λ (s : SessionsRecord). s.senders) same, ap (λ (s : SessionsRecord). s.replies) same)
    go true i = (
      ap (λ (s : SessionsRecord). s.waits) (heard_is w H when f i none)
          ∙ (waits_made (reception w H) t (holder w (At when (Hear f) ∷ H) (source_of f.id)) f
          ∙ (ap (λ (o : Option MessageRecord). (reception w H).waits ++ listed (option_map (λ m. (f.stamp, m)) o)) (sym (whole_is w H when f i none) ∙ (whole_step w H when f (Some x) i of none e ∙ ap (λ (y : RecvResult). y.delivers) step))
          ∙ append-nil (reception w H).waits)),
      ap (λ (s : SessionsRecord). s.senders) (heard_is w H when f i none)
          ∙ (senders_made (reception w H) t (holder w (At when (Hear f) ∷ H) (source_of f.id)) f
          ∙ (ap (λ (o : Option MessageRecord). (reception w H).senders ++ listed (option_map (λ (m : MessageRecord). name_by (holder w (At when (Hear f) ∷ H) (source_of f.id)) (session w H (source_of f.id))) o))
          (sym (whole_is w H when f i none) ∙ (whole_step w H when f (Some x) i of none e ∙ ap (λ (y : RecvResult). y.delivers) step))
          ∙ append-nil (reception w H).senders)),
      says_it w H when f i none
          ∙ ap (λ (o : Option ToSend). replied (source_of f.id) o (reception w H).replies) (says_step w H when f (Some x) i of none e ∙ ap (λ (y : RecvResult). y.sends) step),
    )

-- one of who has no session
pub of_none : (w : Who) (H : List Call) (when k : ℕ) (f : FrameRecord) (part : List ℕ) → session w H (source_of f.id) ≡ None → said_to w.address f ≡ Some (Packet k part)
    → reception w (At when (Hear f) ∷ H) ≡ reception w H
of_none w H when k f part e says = go (holds w H when) refl
  where
    none : claim_of f ≡ None
    none = said_no_claim w.address f (Packet k part) says

    go : (h : Bool) → holds w H when ≡ h → reception w (At when (Hear f) ∷ H) ≡ reception w H
    go false i = unheld w H when f i none
    go true i =
        heard_is w H when f i none
        ∙ packet_of_none (reception w H) (time_heard (At when (Hear f) ∷ H)) (holder w (At when (Hear f) ∷ H) (source_of f.id)) f k part e
        (ap (λ (n : ℕ). said_to n f) (own w H).0 ∙ says)

-- ---- all of them

-- what its sessions went through behind its first frame, and who holds its source
record Mapped (w : Who) (s : ℕ) (name : Option ℕ) (first later : List Call) (k last : ℕ) (joined : List ℕ) : Type 0 where
  E : List Event
  is : events w (later ++ first) ≡ E ++ events w first
  brings : BringBy w.address s name (time_heard first) E k joined last
  held : holder w (later ++ first) s ≡ name

-- a claim by which its source has the holder that it had, and which restarts nobody there
spares_claim : (w : Who) (H : List Call) (when s : ℕ) (f : FrameRecord) (name : Option ℕ) → holder w H s ≡ name → holder w (At when (Hear f) ∷ H) s ≡ known w H when f s
    → (is_address s (restarts w H when f) ≡ false) × (is_same name (holder w (At when (Hear f) ∷ H) s) ≡ true) × (holder w (At when (Hear f) ∷ H) s ≡ name)
spares_claim w H when s f name h q = go (restarts w H when f) refl
  where
    same : holder w (At when (Hear f) ∷ H) s ≡ holder w H s → (is_same name (holder w (At when (Hear f) ∷ H) s) ≡ true) × (holder w (At when (Hear f) ∷ H) s ≡ name)
    same e = (is_same_of name (holder w (At when (Hear f) ∷ H) s) (sym (e ∙ h)), e ∙ h)

    go : (gone : Option ℕ) → restarts w H when f ≡ gone
        → (is_address s gone ≡ false) × (is_same name (holder w (At when (Hear f) ∷ H) s) ≡ true) × (holder w (At when (Hear f) ∷ H) s ≡ name)
    go None i = let m = same (q ∙ ap (λ (g : Option ℕ). still g (holder w H) s) i) in (refl, m.0, m.1)
    go (Some b) i = by (nat_eq s b) refl
      where
        still_is : nat_eq s b ≡ false → still (Some b) (holder w H) s ≡ holder w H s
        still_is k = grind (arith, k)

        by : (t : Bool) → nat_eq s b ≡ t → (t ≡ false) × (is_same name (holder w (At when (Hear f) ∷ H) s) ≡ true) × (holder w (At when (Hear f) ∷ H) s ≡ name)
        by true k = absurd (differs w H when s f (i ∙ ap Some (sym (eqb-true _ _ k))) q)
        by false k = let m = same (q ∙ (ap (λ (g : Option ℕ). still g (holder w H) s) i ∙ still_is k)) in (refl, m.0, m.1)

spared_frame : (w : Who) (s : ℕ) (first : List Call) (name : Option ℕ) (rest : List Call) (k last : ℕ) (joined : List ℕ) (now : ℕ) (f : FrameRecord) → Mapped w s name first rest k last joined
    → Spares w s last (rest ++ first) (At now (Hear f)) → Mapped w s name first (At now (Hear f) ∷ rest) k last joined
spared_frame w s first name rest k last joined now f g q = go (is_smaller w (claim_of f)) refl (holds w H now) refl
  where
    H : List Call
    H = rest ++ first

    t : ℕ
    t = time_heard (At now (Hear f) ∷ H)

    n : Option ℕ
    n = holder w (At now (Hear f) ∷ H) (source_of f.id)

    L : Event
    L = Leaves (restarts w H now f) (holder w (At now (Hear f) ∷ H))

    c : (is_address s (restarts w H now f) ≡ false) × (is_same name (holder w (At now (Hear f) ∷ H) s) ≡ true) × (holder w (At now (Hear f) ∷ H) s ≡ name)
    c = spares_claim w H now s f name g.held q.1

    left_it : BringBy w.address s name (time_heard first) (L ∷ g.E) k joined last
    left_it = spares_by g.E k last joined L g.brings (c.0, c.1)

    go : (x : Bool) → is_smaller w (claim_of f) ≡ x → (y : Bool) → holds w H now ≡ y → Mapped w s name first (At now (Hear f) ∷ rest) k last joined
    go true i y j = absurd (let z : true ≡ false = sym i ∙ not_lost (is_smaller w (claim_of f)) _ q.2 in cc)
    go false i true j = record {
      E = Hears t n f ∷ L ∷ g.E;
      is = (λ z. heard_by (i z) (j z) t n f (left w H now f)) ∙ ap (λ (E : List Event). Hears t n f ∷ L ∷ E) g.is;
      brings = spares_by (L ∷ g.E) k last joined (Hears t n f) left_it q.0;
      held = c.2;
    }
    go false i false j = record {
      E = L ∷ g.E;
      is = (λ z. heard_by (i z) (j z) t n f (left w H now f)) ∙ ap (λ (E : List Event). L ∷ E) g.is;
      brings = left_it;
      held = c.2;
    }

spared_taken : (w : Who) (s : ℕ) (first : List Call) (name : Option ℕ) (rest : List Call) (k last : ℕ) (joined : List ℕ) (now : ℕ) (f : FrameRecord) → Mapped w s name first rest k last joined
    → holder w (At now (TakeFrame (Some f)) ∷ rest ++ first) s ≡ holder w (rest ++ first) s → Mapped w s name first (At now (TakeFrame (Some f)) ∷ rest) k last joined
spared_taken w s first name rest k last joined now f g q = go (is_claim f) refl (is_reply (all_replies w H) f) refl
  where
    H : List Call
    H = rest ++ first

    holds_it : ℕ → Option ℕ
    holds_it = holder w (At now (TakeFrame (Some f)) ∷ H)

    go : (x : Bool) → is_claim f ≡ x → (y : Bool) → is_reply (all_replies w H) f ≡ y → Mapped w s name first (At now (TakeFrame (Some f)) ∷ rest) k last joined
    go true i y j = record {
      E = Leaves None holds_it ∷ g.E;
      is = (λ z. taken_by (i z) (j z) holds_it (events w H)) ∙ ap (λ (E : List Event). Leaves None holds_it ∷ E) g.is;
      brings = spares_by g.E k last joined (Leaves None holds_it) g.brings (refl, is_same_of name (holds_it s) (sym (q ∙ g.held)));
      held = q ∙ g.held;
    }
    go false i true j = record {
      E = Says ∷ g.E;
      is = (λ z. taken_by (i z) (j z) holds_it (events w H)) ∙ ap (λ (E : List Event). Says ∷ E) g.is;
      brings = spares_by g.E k last joined Says g.brings tt;
      held = q ∙ g.held;
    }
    go false i false j = record {
      E = g.E;
      is = (λ z. taken_by (i z) (j z) holds_it (events w H)) ∙ g.is;
      brings = g.brings;
      held = q ∙ g.held;
    }

mapped : (w : Who) (s : ℕ) (first : List Call) (name : Option ℕ) → holder w first s ≡ name → (later : List Call) (k last : ℕ) (joined : List ℕ) → Bring w s first later k joined last
    → Mapped w s name first later k last joined
mapped w s first name h _ _ _ _ begins = record { E = []; is = refl; brings = begins_by; held = h }
mapped w s first name h _ _ _ _ (brings rest k last now joined part f b p) =
    let g = mapped w s first name h rest k last joined b in
    let H = rest ++ first in
    let none = said_no_claim w.address f _ p.says in
    let c = spares_claim w H now s f name g.held (unclaimed_known w H now f s none) in
    let t = time_heard (At now (Hear f) ∷ H) in
    let n = holder w (At now (Hear f) ∷ H) (source_of f.id) in
    record {
      E = Hears t n f ∷ Leaves (restarts w H now f) (holder w (At now (Hear f) ∷ H)) ∷ g.E;
      is = (λ i. heard_by (not_driven w f none i) (p.held i) t n f (left w H now f)) ∙ ap (λ (E : List Event). Hears t n f ∷ Leaves (restarts w H now f) (holder w (At now (Hear f) ∷ H)) ∷ E) g.is;
      brings = brings_by _ k last t joined part n f (spares_by g.E k last joined (Leaves (restarts w H now f) (holder w (At now (Hear f) ∷ H))) g.brings (c.0, c.1))
          (record { source = p.source; says = p.says; in_time = p.in_time });
      held = c.2;
    }
mapped w s first name h _ _ _ _ (spares rest k last joined (At now (Hear f)) b q) =
    spared_frame w s first name rest k last joined now f (mapped w s first name h rest k last joined b) q
mapped w s first name h _ _ _ _ (spares rest k last joined (At now Tick) b q) =
    let g = mapped w s first name h rest k last joined b in
    let t = time_heard (At now Tick ∷ rest ++ first) in
    record { E = TicksBy t ∷ g.E; is = ap (λ (E : List Event). TicksBy t ∷ E) g.is; brings = spares_by g.E k last joined (TicksBy t) g.brings q; held = g.held }
mapped w s first name h _ _ _ _ (spares rest k last joined (At now (TakeFrame (Some f))) b q) =
    spared_taken w s first name rest k last joined now f (mapped w s first name h rest k last joined b) q
mapped w s first name h _ _ _ _ (spares rest k last joined (ReleaseTransfer true) b q) =
    let g = mapped w s first name h rest k last joined b in
    record { E = Releases ∷ g.E; is = ap (λ (E : List Event). Releases ∷ E) g.is; brings = spares_by g.E k last joined Releases g.brings tt; held = g.held }
mapped w s first name h _ _ _ _ (spares rest k last joined (ReleaseTransfer false) b q) =
    let g = mapped w s first name h rest k last joined b in record { E = g.E; is = g.is; brings = g.brings; held = g.held }
mapped w s first name h _ _ _ _ (spares rest k last joined call b q) =
    let g = mapped w s first name h rest k last joined b in record { E = g.E; is = g.is; brings = g.brings; held = g.held }

pub received : (w : Who) (later earlier : List Call) (at now : ℕ) (rts f : FrameRecord) (size n most pgn last : ℕ) (joined part : List ℕ) (m : MessageRecord)
    → IsTrue (holds w earlier at) → session w earlier (source_of rts.id) ≡ None → IsTrue (has_room (source_of rts.id) (reception w earlier))
    → said_to w.address rts ≡ Some (RequestToSend size (suc n) most pgn) → Bring w (source_of rts.id) (At at (Hear rts) ∷ earlier) later n joined last
    → IsPacket w (source_of rts.id) (suc n) last part (later ++ At at (Hear rts) ∷ earlier) now f
    → m ≡ record { source = source_of rts.id; pgn = pgn; bytes = take size (joined ++ part) }
    → (whole w (later ++ At at (Hear rts) ∷ earlier) now f ≡ Some m)
    × ((reception w (At now (Hear f) ∷ later ++ At at (Hear rts) ∷ earlier)).waits ≡ (reception w (later ++ At at (Hear rts) ∷ earlier)).waits ++ (f.stamp, m) ∷ [])
received w later earlier at now rts f size n most pgn last joined part m held free room says b p is = (made, waits_on w H now f m p.held none made)
  where
    first : List Call
    first = At at (Hear rts) ∷ earlier

    H : List Call
    H = later ++ first

    s : ℕ
    s = source_of rts.id

    start : ℕ
    start = time_heard first

    name : Option ℕ
    name = holder w first s

    none : claim_of f ≡ None
    none = said_no_claim w.address f _ p.says

    unclaimed : claim_of rts ≡ None
    unclaimed = said_no_claim w.address rts _ says

    g : Mapped w s name first later n last joined
    g = mapped w s first name refl later n last joined b

    begun : events w H ≡ g.E ++ Hears start name rts ∷ left w earlier at rts
    begun = g.is ∙ λ i. g.E ++ heard_by (not_driven w rts unclaimed i) (held i) start name rts (left w earlier at rts)

    same : sessions_after w (left w earlier at rts) ≡ reception w earlier
    same = unclaimed_found w earlier at rts unclaimed

    made : whole w H now f ≡ Some m
    made =
        whole_is w H now f p.held none
        ∙ (ap (λ (E : List Event). made_in_sessions (time_heard (At now (Hear f) ∷ H)) f (sessions_after w E)) begun
        ∙ received_by w.address w.window w.sessions (left w earlier at rts) g.E start size n most pgn last (time_heard (At now (Hear f) ∷ H)) name rts f joined part m
        (ap (λ (x : SessionsRecord). of_source s x.sessions) same ∙ free) (ap (has_room s) same ∙ room) says g.brings (record { source = p.source; says = p.says; in_time = p.in_time }) is)
