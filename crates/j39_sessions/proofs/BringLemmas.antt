-- What is sent to it whole is received.
use Rattle.j39_sessions.proofs.Common.{[], if◌then◌else◌, ◌&&◌, ◌*◌, ◌++◌, ◌+◌, ◌<◌, ◌==◌, ◌||◌, ◌∙◌, ◌∷◌, ◌≡◌, ◌≢◌, ◌≤◌, ◌⊎◌, after, answers, ap, arith, asks_again, begun, Bool, cond_both, delivers_message, Directed, eqb-true, Event, false, filter, FrameRecord, from, goes_on, granted_at, grants, has_room, Heard, hears, Hears, inl, inr, is_left, is_of_session, is_over, leaves, Leaves, length, limit_of, List, listed, longest, Loses, made, MessageRecord, name_by, nat_eq, nat_lt, None, not, of, Option, option_map, Reaction, receiving, ReceptionRecord, recv_step, RecvResult, refl, Releases, result_of, said_to, Says, Session, session_by, session_ticked, SessionsRecord, shown, Signal, since_by, Some, source_of, step, step_at, step_in, stepped, subst, suc, sym, take, takes_data, takes_packet, takes_request, takes_signal, takes_tick, Tick, tick_of, ticked_of, Ticks, true, ℕ, said_between, pgn_of, ps_of}
use Rattle.j39_transport.specs.Frames as frames
use Rattle.j39_transport.specs.Protocol.{timer_t1}
use Rattle.j39_transport.specs.Reception.{message_of}
use Rattle.j39_transport.specs.Session.{grown, opened as opens, SessionRecord}
use Rattle.j39_transport.specs.Signals.{Packet, RequestToSend, said_by}
use Rattle.j39_sessions.specs.Packets.{begins, Bring, brings, is_of_sender, IsPacket, Spares, spares}
use Rattle.j39_sessions.proofs.LawLemmas.{of_another, of_its, own_is, ticked_alone}
use Rattle.j39_sessions.proofs.StepLemmas.{hushed, said_narrowed, said_shown, with_most}

-- what says something is of a session
pub session_said : (own : ℕ) (f : FrameRecord) (s : Signal) → said_to own f ≡ Some s → is_of_session own f ≡ true
unfolding said_to said_between said_by frames.source_of frames.destination_of frames.group_of
session_said own f s e = grind (arith, e)

-- what isn't changes nothing
aside : (s : SessionsRecord) (now : ℕ) (name : Option ℕ) (f : FrameRecord) → is_of_session s.own f ≡ false → hears now name f s ≡ s
aside s now name f e = ap (λ (b : Bool). if b then stepped (source_of f.id) now name f (of (source_of f.id) s.sessions) (step_in now f s) s else s) e

-- ---- a packet of an open session

-- with the next packet
abbrev pub next_of : ℕ → List ℕ → ReceptionRecord → ReceptionRecord
next_of now part r = record r { message = grown now part r.message; fresh = false }

pub next_step : (own most : ℕ) (room : Bool) (f : FrameRecord) (now : ℕ) (x : Session) (part : List ℕ) → source_of f.id ≡ x.reception.message.source
    → said_to own f ≡ Some (Packet (suc x.reception.message.count) part)
    → step_at own most room f now (Some x) ≡ result_of own (source_of f.id) (goes_on now (next_of now part x.reception))
unfolding recv_step takes_signal takes_data takes_packet frames.source_of
next_step own most room f now x part from says = let m = said_narrowed own most f in grind (arith, from, says, m)

-- not the last one
pub goes_next : (now : ℕ) (r : ReceptionRecord) → r.message.last ≡ now → (r.message.count ≡ r.message.packets → ⊥)
    → (y : ReceptionRecord) × ((goes_on now r).session ≡ Some y) × (y.message ≡ r.message)
unfolding goes_on grants granted_at
goes_next now r l n =
    cond_both (r.message.count == r.message.packets) _ _ (λ (z : Reaction). (y : ReceptionRecord) × (z.session ≡ Some y) × (y.message ≡ r.message))
    (λ t. absurd (n (eqb-true _ _ t)))
    (λ t. cond_both (r.message.count == r.granted) _ _ (λ (z : Reaction). (y : ReceptionRecord) × (z.session ≡ Some y) × (y.message ≡ r.message))
    (λ u. (_, refl, λ i. record r.message { last = sym l i })) (λ u. (r, refl, refl)))

-- the last one
pub last_step : (own most : ℕ) (room : Bool) (f : FrameRecord) (now : ℕ) (x : Session) (part : List ℕ) → source_of f.id ≡ x.reception.message.source
    → said_to own f ≡ Some (Packet (suc x.reception.message.count) part) → suc x.reception.message.count ≡ x.reception.message.packets
    → ((step_at own most room f now (Some x)).delivers ≡ Some (message_of (grown now part x.reception.message))) × ((step_at own most room f now (Some x)).after.session ≡ None)
unfolding goes_on delivers_message
last_step own most room f now x part from says n = let s = next_step own most room f now x part from says in (grind (arith, s, n), grind (arith, s, n))

-- what isn't the sender's
spared_step : (own most : ℕ) (room : Bool) (f : FrameRecord) (now : ℕ) (x : Session) → is_of_sender (said_to own f) ≡ false → (step_at own most room f now (Some x)).after.session ≡ Some x.reception
unfolding recv_step takes_signal frames.source_of
spared_step own most room f now x n = let k = hushed own f.stamp f.id in let m = said_narrowed own most f in grind (arith, n, k, m)

-- a tick in time
spared_tick : (own now : ℕ) (x : Session) → now ≤ x.reception.message.last + timer_t1 → now ≤ x.since + longest x.reception.message.packets → session_ticked own now x ≡ Some x
unfolding recv_step takes_tick
spared_tick own now x l m = let k = least x.reception in grind (arith, l, m, k)
  where
    least : (r : ReceptionRecord) → timer_t1 ≤ limit_of r
    least r = grind arith

-- the one that stays
kept_of : (p : Session → Bool) (a : ℕ) (xs : List Session) (x : Session) → of a xs ≡ Some x → p x ≡ true → of a (filter p xs) ≡ Some x
kept_of p a [] x e g = absurd (cc)
kept_of p a (y ∷ xs) x e g = let h = kept_of p a xs x in grind (arith, h, e, g)

-- ---- a session of s, of this message, opened at this time under this name, in which so many packets were appended

abbrev came : ℕ → ℕ → ℕ → ℕ → ℕ → ℕ → ℕ → List ℕ → SessionRecord
came own s size n pgn k last joined = record (opens (Directed s own) pgn size n last) { count = k; bytes = joined }

record Stands (own most boxes : ℕ) (E : List Event) (s : ℕ) (name : Option ℕ) (size n pgn start k last : ℕ) (joined : List ℕ) : Type 0 where
  session : Session
  is : of s (after own most boxes E).sessions ≡ Some session
  message : session.reception.message ≡ came own s size n pgn k last joined
  since : session.since ≡ start
  named : session.name ≡ name
  soon : last ≤ start + k * timer_t1

opens_step : (own most : ℕ) (f : FrameRecord) (now size n asked pgn : ℕ) → said_to own f ≡ Some (RequestToSend size n asked pgn)
    → (r : ReceptionRecord) × ((step_at own most true f now None).after.session ≡ Some r) × (r.message ≡ came own (source_of f.id) size n pgn 0 now [])
unfolding recv_step takes_signal takes_request frames.source_of grants granted_at begun
opens_step own most f now size n asked pgn e =
    subst (λ (s : Option Signal). (r : ReceptionRecord) × ((result_of own (source_of f.id) (takes_signal (Directed (source_of f.id) own) s now true None)).after.session ≡ Some r)
    × (r.message ≡ came own (source_of f.id) size n pgn 0 now [])) (sym (said_shown own most f ∙ ap (with_most most) e)) (_, refl, refl)

module _ (own most boxes : ℕ) where
  opened : (E : List Event) (now size n asked pgn : ℕ) (name : Option ℕ) (f : FrameRecord) → of (source_of f.id) (after own most boxes E).sessions ≡ None
      → has_room (source_of f.id) (after own most boxes E) ≡ true → said_to own f ≡ Some (RequestToSend size n asked pgn)
      → Stands own most boxes (Hears now name f ∷ E) (source_of f.id) name size n pgn now 0 now []
  opened E now size n asked pgn name f none room says =
      let x = opens_step own most f now size n asked pgn says in
      record {
        session = session_by now name x.0;
        is = of_its own most boxes now name f E None (session_said own f _ says) (sym none)
            ∙ (ap (λ (b : Bool). option_map (session_by now name) (step_at own most b f now None).after.session) room ∙ ap (option_map (session_by now name)) x.1);
        message = x.2;
        since = refl;
        named = refl;
        soon = omega arith;
      }

  -- what its session becomes by a frame of its source
  its_step : (E : List Event) (now : ℕ) (other : Option ℕ) (f : FrameRecord) (x : Session) (s : Signal) → of (source_of f.id) (after own most boxes E).sessions ≡ Some x → said_to own f ≡ Some s
      → of (source_of f.id) (after own most boxes (Hears now other f ∷ E)).sessions
      ≡ option_map (session_by x.since x.name) (step_at own most (has_room (source_of f.id) (after own most boxes E)) f now (Some x)).after.session
  its_step E now other f x s e says = of_its own most boxes now other f E (Some x) (session_said own f s says) (sym e)

  module _ (s : ℕ) (name : Option ℕ) (size n pgn start : ℕ) where
    its : {E : List Event} {k last : ℕ} {joined : List ℕ} (h : Stands own most boxes E s name size n pgn start k last joined) → from h.session ≡ s
    its h = ap (λ (m : SessionRecord). m.source) h.message

    spared : (E : List Event) (event : Event) (k last : ℕ) (joined : List ℕ) (h : Stands own most boxes E s name size n pgn start k last joined) → k < n → Spares own s name last event
        → of s (after own most boxes (event ∷ E)).sessions ≡ Some h.session
    spared E (Hears now other f) k last joined h l (inl d) = of_another (after own most boxes E) now other f s d ∙ h.is
    spared E (Hears now other f) k last joined h l (inr none) = go (nat_eq (source_of f.id) s) refl
      where
        x : Session
        x = h.session

        go : (b : Bool) → nat_eq (source_of f.id) s ≡ b → of s (after own most boxes (Hears now other f ∷ E)).sessions ≡ Some h.session
        go false d = of_another (after own most boxes E) now other f s (λ z. (let y = sym d ∙ Rattle.j39_sessions.proofs.Common.eq-eqb _ _ z in absurd (cc))) ∙ h.is
        go true d = mine (is_of_session own f) refl
          where
            a : source_of f.id ≡ s
            a = eqb-true _ _ d

            is : of (source_of f.id) (after own most boxes E).sessions ≡ Some x
            is = ap (λ (m : ℕ). of m (after own most boxes E).sessions) a ∙ h.is

            mine : (b : Bool) → is_of_session own f ≡ b → of s (after own most boxes (Hears now other f ∷ E)).sessions ≡ Some x
            mine true q =
                ap (λ (m : ℕ). of m (after own most boxes (Hears now other f ∷ E)).sessions) (sym a)
                ∙ (of_its own most boxes now other f E (Some x) q (sym is)
                ∙ ap (option_map (session_by x.since x.name)) (spared_step own most (has_room (source_of f.id) (after own most boxes E)) f now x none))
            mine false q =
                ap (λ (z : SessionsRecord). of s z.sessions) (aside (after own most boxes E) now other f (ap (λ (m : ℕ). is_of_session m f) (own_is own most boxes E).0 ∙ q)) ∙ h.is
    spared E (Ticks now) k last joined h l q =
        ticked_alone own most boxes now s E
        ∙ (ap (ticked_of own now) h.is
        ∙ (let m = ap (λ (m : SessionRecord). m.last) h.message in
        let p = ap (λ (m : SessionRecord). m.packets) h.message in
        let o = h.soon in
        let i = h.since in
        spared_tick own now h.session (omega (arith, m, q)) (omega (arith, m, p, o, i, q, l))))
    spared E (Leaves gone holder) k last joined h l q =
        kept_of (λ x. not (is_left gone holder x)) s (after own most boxes E).sessions h.session h.is (let a = its h in let b = h.named in let c = q.0 in let d = q.1 in grind (arith, a, b, c, d))
    spared E Loses k last joined h l q = absurd q
    spared E Releases k last joined h l q = h.is
    spared E Says k last joined h l q = h.is

    -- the next packet, but the last
    packed : (E : List Event) (now k last : ℕ) (other : Option ℕ) (f : FrameRecord) (joined part : List ℕ) → Stands own most boxes E s name size n pgn start k last joined → suc k < n
        → IsPacket own s (suc k) last part now f → Stands own most boxes (Hears now other f ∷ E) s name size n pgn start (suc k) now (joined ++ part)
    packed E now k last other f joined part h l p =
        let x = h.session in
        let count = ap (λ (m : SessionRecord). m.count) h.message in
        let says : said_to own f ≡ Some (Packet (suc x.reception.message.count) part) = p.says ∙ ap (λ (m : ℕ). Some (Packet (suc m) part)) (sym count) in
        let from_it : source_of f.id ≡ x.reception.message.source = p.source ∙ sym (its h) in
        let is : of (source_of f.id) (after own most boxes E).sessions ≡ Some x = ap (λ (m : ℕ). of m (after own most boxes E).sessions) p.source ∙ h.is in
        let g = goes_next now (next_of now part x.reception) refl (λ z. (let y = ap (λ (m : SessionRecord). m.packets) h.message in absurd (omega (arith, z, y, count, l)))) in
        record {
          session = session_by x.since x.name g.0;
          is = ap (λ (m : ℕ). of m (after own most boxes (Hears now other f ∷ E)).sessions) (sym p.source)
              ∙ (its_step E now other f x _ is p.says
              ∙ ap (option_map (session_by x.since x.name)) (ap (λ (y : RecvResult). y.after.session) (next_step own most (has_room (source_of f.id) (after own most boxes E)) f now x part from_it says) ∙ g.1));
          message = g.2 ∙ ap (grown now part) h.message;
          since = h.since;
          named = h.named;
          soon = let y = p.in_time in let z = h.soon in omega (arith, y, z);
        }

    stands : (E : List Event) → Stands own most boxes E s name size n pgn start 0 start [] → (later : List Event) (k last : ℕ) (joined : List ℕ)
        → Bring own s name start later k joined last → k < n → Stands own most boxes (later ++ E) s name size n pgn start k last joined
    stands E h _ _ _ _ begins l = h
    stands E h _ _ _ _ (spares rest k last joined event b q) l =
        let g = stands E h rest k last joined b l in
        record { session = g.session; is = spared (rest ++ E) event k last joined g l q; message = g.message; since = g.since; named = g.named; soon = g.soon }
    stands E h _ _ _ _ (brings rest k last now joined part other f b p) l =
        packed (rest ++ E) now k last other f joined part (stands E h rest k last joined b (omega (arith, l))) l p

    made_whole : (E : List Event) (now last : ℕ) (f : FrameRecord) (joined part : List ℕ) (j : ℕ) (m : MessageRecord) → n ≡ suc j → Stands own most boxes E s name size n pgn start j last joined
        → IsPacket own s n last part now f → m ≡ record { source = s; pgn = pgn; bytes = take size (joined ++ part) } → made now f (after own most boxes E) ≡ Some m
    made_whole E now last f joined part j m e h p is =
        let x = h.session in
        let count = ap (λ (m : SessionRecord). m.count) h.message in
        let packets = ap (λ (m : SessionRecord). m.packets) h.message in
        let says : said_to own f ≡ Some (Packet (suc x.reception.message.count) part) =
        p.says ∙ ap (λ (m : ℕ). Some (Packet m part)) (let z : n ≡ suc x.reception.message.count = omega (arith, e, count) in z) in
        let own_e = (own_is own most boxes E).0 in
        let most_e = (own_is own most boxes E).2 in
        ap (λ (b : Bool). if b then (step_in now f (after own most boxes E)).delivers else None) (ap (λ (m : ℕ). is_of_session m f) own_e ∙ session_said own f _ p.says)
        ∙ ((λ i. (step_at (own_e i) (most_e i) (has_room (source_of f.id) (after own most boxes E)) f now ((ap (λ (m : ℕ). of m (after own most boxes E).sessions) p.source ∙ h.is) i)).delivers)
        ∙ ((last_step own most (has_room (source_of f.id) (after own most boxes E)) f now x part (p.source ∙ sym (its h)) says (omega (arith, count, packets, e))).0
        ∙ ap Some (ap (λ (y : SessionRecord). message_of (grown now part y)) h.message ∙ sym is)))

pub received : (own most boxes : ℕ) (E later : List Event) (start size n asked pgn last now : ℕ) (name : Option ℕ) (rts f : FrameRecord) (joined part : List ℕ) (m : MessageRecord)
    → of (source_of rts.id) (after own most boxes E).sessions ≡ None → has_room (source_of rts.id) (after own most boxes E) ≡ true → said_to own rts ≡ Some (RequestToSend size (suc n) asked pgn)
    → Bring own (source_of rts.id) name start later n joined last → IsPacket own (source_of rts.id) (suc n) last part now f
    → m ≡ record { source = source_of rts.id; pgn = pgn; bytes = take size (joined ++ part) }
    → made now f (after own most boxes (later ++ Hears start name rts ∷ E)) ≡ Some m
received own most boxes E later start size n asked pgn last now name rts f joined part m none room says b p is =
    made_whole own most boxes (source_of rts.id) name size (suc n) pgn start (later ++ Hears start name rts ∷ E) now last f joined part n m refl
    (stands own most boxes (source_of rts.id) name size (suc n) pgn start (Hears start name rts ∷ E) (opened own most boxes E start size (suc n) asked pgn name rts none room says) later n last joined b (omega arith)) p is
