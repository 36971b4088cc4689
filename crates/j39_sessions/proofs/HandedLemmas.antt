-- What is put together was heard of one source.
use Rattle.j39_sessions.proofs.Common.{Abort, All, All-append, All-cons, All-filter, All-head, All-nil, All-tail, All-weaker, AreReceived, Bool, Directed, Event, FrameRecord, Heard, Hears, IsReceived, Leaves, List, Loses, MessageRecord, None, Option, ReceiverRecord, ReceptionRecord, RecvResult, Session, SessionsRecord, Signal, Some, Tick, Ticks, WasHanded, WereHanded, [], after, answer_in, ap, arith, asks_again, begun, cond_both, delivers_message, false, from, goes_on, granted_at, grants, has_room, heard, hears, if◌then◌else◌, is_left, is_of_session, is_over, length, listed, made, name_by, nat_eq, nat_lt, not, number_in, of, option_map, others, receiving, recv_step, refl, replied, result_of, said_to, session_by, session_ticked, sessions_ticked, since_by, source_of, step_at, step_in, stepped, strays, subst, sym, takes_abort, takes_data, takes_packet, takes_request, takes_signal, takes_tick, tick_of, true, written, ℕ, ◌++◌, ◌+◌, ◌∙◌, ◌∷◌, ◌≡◌, ◌≤◌}
use Rattle.j39_transport.specs.Frames as frames
use Rattle.j39_transport.specs.Frames.{packets_for}
use Rattle.j39_transport.specs.ReceiverStands.{AreJoined, passed}
use Rattle.j39_transport.specs.Session.{SessionRecord}
use Rattle.j39_transport.specs.Signals.{RequestToSend}
use Rattle.j39_transport.proofs.Handed.{stands_more, stands_still, were_handed}
use Rattle.j39_sessions.proofs.LawLemmas.{own_is}
use Rattle.j39_sessions.proofs.StepLemmas.{hushed, quiet_step, refusing, said_narrowed, said_shown, with_most}

-- the packets of a session are among the frames
abbrev Among : ℕ → List FrameRecord → Session → Type 0
Among own F x = IsReceived own F x.reception

on_more : (own : ℕ) (F : List FrameRecord) (f : FrameRecord) (x : Session) → Among own F x → Among own (F ++ f ∷ []) x
on_more own F f x h = record { packets_are = h.packets_are; joined_are = passed F f _ _ h.joined_are }

-- so are those of the session of a source
its_packets : (own : ℕ) (F : List FrameRecord) (a : ℕ) (xs : List Session) → All (Among own F) xs → AreReceived own F (receiving (of a xs))
its_packets own F a [] h = tt
its_packets own F a (x ∷ xs) h = cond_both (nat_eq a (from x)) (Some x) (of a xs) (λ (o : Option Session). AreReceived own F (receiving o)) (λ e. All-head (Among own F) x xs h) (λ e. its_packets own F a xs (All-tail (Among own F) x xs h))

pub all_others : (P : Session → Type 0) (a : ℕ) (xs : List Session) → All P xs → All P (others a xs)
all_others P a [] h = h
all_others P a (x ∷ xs) h = cond_both (nat_eq a (from x)) xs (x ∷ others a xs) (All P) (λ e. All-tail P x xs h) (λ e. All-cons P x (others a xs) (All-head P x xs h) (all_others P a xs (All-tail P x xs h)))

all_listed : (own : ℕ) (F : List FrameRecord) (since : ℕ) (name : Option ℕ) (r : Option ReceptionRecord) → AreReceived own F r → All (Among own F) (listed (option_map (session_by since name) r))
all_listed own F since name None h = All-nil _
all_listed own F since name (Some r) h = All-cons (Among own F) (session_by since name r) [] h (All-nil _)

-- ---- a step

pub record Handed (own : ℕ) (F : List FrameRecord) (x : RecvResult) : Type 0 where
  pub session : AreReceived own F x.after.session
  pub delivers : WereHanded own F x.delivers

handed_frame : (own : ℕ) (F : List FrameRecord) (o : Option ReceptionRecord) (f : FrameRecord) (now : ℕ) (found : Bool) → AreReceived own F o
    → Handed own (F ++ f ∷ []) (recv_step (record { own = own; session = o }) (Heard f) now found)
unfolding recv_step
handed_frame own F o f now found h =
    let r : ReceiverRecord = record { own = own; session = o } in
    record {
      session = stands_more F r f now found h;
      delivers = were_handed F r f now found (answer_in (recv_step r (Heard f) now found)) refl h;
    }

more_received : (own : ℕ) (F : List FrameRecord) (f : FrameRecord) (o : Option ReceptionRecord) → AreReceived own F o → AreReceived own (F ++ f ∷ []) o
more_received own F f None h = tt
more_received own F f (Some r) h = record { packets_are = h.packets_are; joined_are = passed F f _ _ h.joined_are }

-- the message of a session
abbrev message_in : Option ReceptionRecord → Option SessionRecord
message_in o = option_map (λ r. r.message) o

by_message : (own : ℕ) (F : List FrameRecord) (o p : Option ReceptionRecord) → message_in o ≡ message_in p → AreReceived own F o → AreReceived own F p
by_message own F None None e h = tt
by_message own F None (Some q) e h = absurd (cc)
by_message own F (Some r) None e h = absurd (cc)
by_message own F (Some r) (Some q) e h =
    let z : r.message ≡ q.message = cc in
    record {
      packets_are = subst (λ (m : SessionRecord). m.packets ≡ packets_for m.size) z h.packets_are;
      joined_are = subst (λ (m : SessionRecord). AreJoined own m.source m.size m.group F m.count m.bytes) z h.joined_are;
    }

-- how many packets may be granted is no matter of the message
same_message : (own source most now : ℕ) (found : Bool) (s : Option Signal) (o : Option ReceptionRecord)
    → (message_in (takes_signal (Directed source own) s now found o).session ≡ message_in (takes_signal (Directed source own) (with_most most s) now found o).session)
    × ((takes_signal (Directed source own) s now found o).delivers ≡ (takes_signal (Directed source own) (with_most most s) now found o).delivers)
unfolding takes_signal takes_request grants granted_at begun
same_message own source most now found s o = (grind arith, grind arith)

-- what is shown of it is the frame, or one that takes no more at once, or says nothing
pub handed_step : (own most : ℕ) (F : List FrameRecord) (room : Bool) (f : FrameRecord) (now : ℕ) (o : Option Session) → AreReceived own F (receiving o)
    → Handed own (F ++ f ∷ []) (step_at own most room f now o)
unfolding recv_step frames.source_of
handed_step own most F room f now o h =
    cond_both (strays (number_in (said_to own f)) (receiving o)) _ _ (λ bytes. Handed own (F ++ f ∷ []) (recv_step r (Heard (record { stamp = f.stamp; id = f.id; bytes = bytes })) now room))
    (λ e. subst (Handed own (F ++ f ∷ [])) (sym (quiet_step r (record { stamp = f.stamp; id = f.id; bytes = [] }) now room (hushed own f.stamp f.id)))
    (record { session = more_received own F f (receiving o) h; delivers = tt }))
    (λ e. subst (λ (s : Option Signal). Handed own (F ++ f ∷ []) (result_of own (source_of f.id) (takes_signal (Directed (source_of f.id) own) s now room (receiving o)))) (sym (said_narrowed own most f))
    (let k = handed_frame own F (receiving o) f now room h in
    let m = same_message own (source_of f.id) most now room (said_to own f) (receiving o) in
    record { session = by_message own (F ++ f ∷ []) _ _ m.0 k.session; delivers = subst (WereHanded own (F ++ f ∷ [])) m.1 k.delivers }))
  where
    r : ReceiverRecord
    r = record { own = own; session = receiving o }

pub handed_tick : (own : ℕ) (F : List FrameRecord) (now : ℕ) (x : Session) → Among own F x → AreReceived own F (tick_of own now x).after.session
unfolding recv_step
handed_tick own F now x h =
    cond_both (is_over now x) _ _ (λ (y : RecvResult). AreReceived own F y.after.session) (λ e. tt)
    (λ e. stands_still F (record { own = own; session = Some x.reception }) now (answer_in (recv_step (record { own = own; session = Some x.reception }) Tick now true)) _ (record { found = true; after = refl; answers = refl }) h)

all_ticked : (own : ℕ) (F : List FrameRecord) (now : ℕ) (xs : List Session) → All (Among own F) xs → All (Among own F) (sessions_ticked own now xs)
all_ticked own F now [] h = h
all_ticked own F now (x ∷ xs) h = All-append (Among own F) (listed (session_ticked own now x)) (sessions_ticked own now xs)
    (all_listed own F x.since x.name (tick_of own now x).after.session (handed_tick own F now x (All-head (Among own F) x xs h))) (all_ticked own F now xs (All-tail (Among own F) x xs h))

-- ---- over all

all_heard : (s : SessionsRecord) (F : List FrameRecord) (now : ℕ) (name : Option ℕ) (f : FrameRecord) → All (Among s.own F) s.sessions → All (Among s.own (F ++ f ∷ [])) (hears now name f s).sessions
all_heard s F now name f h =
    cond_both (is_of_session s.own f) (stepped a now name f o (step_in now f s) s) s (λ (x : SessionsRecord). All (Among s.own (F ++ f ∷ [])) x.sessions)
    (λ e. All-append (Among s.own (F ++ f ∷ [])) (others a s.sessions) _
    (All-weaker (Among s.own F) (Among s.own (F ++ f ∷ [])) (λ x g. on_more s.own F f x g) (others a s.sessions) (all_others (Among s.own F) a s.sessions h))
    (all_listed s.own (F ++ f ∷ []) (since_by now o) (name_by name o) (step_in now f s).after.session (handed_step s.own s.most F (has_room a s) f now o (its_packets s.own F a s.sessions h)).session))
    (λ e. All-weaker (Among s.own F) (Among s.own (F ++ f ∷ [])) (λ x g. on_more s.own F f x g) s.sessions h)
  where
    a : ℕ
    a = source_of f.id

    o : Option Session
    o = of a s.sessions

all_handed : (own most boxes : ℕ) (E : List Event) → All (Among own (heard E)) (after own most boxes E).sessions
all_handed own most boxes [] = All-nil _
all_handed own most boxes (Hears now name f ∷ E) =
    let e = (own_is own most boxes E).0 in
    subst (λ (n : ℕ). All (Among n (heard E ++ f ∷ [])) (hears now name f (after own most boxes E)).sessions) e
    (all_heard (after own most boxes E) (heard E) now name f (subst (λ (n : ℕ). All (Among n (heard E)) (after own most boxes E).sessions) (sym e) (all_handed own most boxes E)))
all_handed own most boxes (Ticks now ∷ E) =
    subst (λ (n : ℕ). All (Among own (heard E)) (sessions_ticked n now (after own most boxes E).sessions)) (sym (own_is own most boxes E).0) (all_ticked own (heard E) now (after own most boxes E).sessions (all_handed own most boxes E))
all_handed own most boxes (Leaves gone holder ∷ E) = All-filter (λ x. not (is_left gone holder x)) (Among own (heard E)) (after own most boxes E).sessions (all_handed own most boxes E)
all_handed own most boxes (Loses ∷ E) = All-nil _
all_handed own most boxes (event ∷ E) = all_handed own most boxes E

pub was_handed : (own most boxes now : ℕ) (name : Option ℕ) (f : FrameRecord) (E : List Event) (m : MessageRecord) → made now f (after own most boxes E) ≡ Some m → WasHanded own (heard (Hears now name f ∷ E)) m
was_handed own most boxes now name f E m e = go (is_of_session (after own most boxes E).own f) e
  where
    s : SessionsRecord
    s = after own most boxes E

    handed : WereHanded own (heard E ++ f ∷ []) (step_in now f s).delivers
    handed = subst (λ (n : ℕ). WereHanded n (heard E ++ f ∷ []) (step_in now f s).delivers) (own_is own most boxes E).0
        (handed_step s.own s.most (heard E) (has_room (source_of f.id) s) f now (of (source_of f.id) s.sessions)
        (its_packets s.own (heard E) (source_of f.id) s.sessions (subst (λ (n : ℕ). All (Among n (heard E)) s.sessions) (sym (own_is own most boxes E).0) (all_handed own most boxes E)))).delivers

    go : (b : Bool) → (if b then (step_in now f s).delivers else None) ≡ Some m → WasHanded own (heard E ++ f ∷ []) m
    go true i = subst (WereHanded own (heard E ++ f ∷ [])) i handed
    go false i = absurd (cc)

-- ---- where all boxes are in use

abort_step : (own most : ℕ) (f : FrameRecord) (now size packets asked pgn : ℕ) → said_to own f ≡ Some (RequestToSend size packets asked pgn)
    → (step_at own most false f now None).sends ≡ Some (written own (source_of f.id) (Abort 2 pgn))
unfolding recv_step takes_signal takes_request frames.source_of
abort_step own most f now size packets asked pgn e =
    ap (λ (s : Option Signal). (result_of own (source_of f.id) (takes_signal (Directed (source_of f.id) own) s now false None)).sends) (said_shown own most f ∙ ap (with_most most) e)

pub refuses : (own most boxes now size packets asked pgn : ℕ) (name : Option ℕ) (f : FrameRecord) (E : List Event) → is_of_session own f ≡ true → said_to own f ≡ Some (RequestToSend size packets asked pgn)
    → of (source_of f.id) (after own most boxes E).sessions ≡ None → nat_lt (length (after own most boxes E).sessions + length (after own most boxes E).waits) boxes ≡ false
    → hears now name f (after own most boxes E)
    ≡ record (after own most boxes E) { replies = replied (source_of f.id) (Some (written own (source_of f.id) (Abort 2 pgn))) (after own most boxes E).replies }
refuses own most boxes now size packets asked pgn name f E is e g l =
    let s = after own most boxes E in
    let o = own_is own most boxes E in
    (refusing s now name f (ap (λ (n : ℕ). is_of_session n f) o.0 ∙ is) g (ap (λ (n : ℕ). nat_lt (length s.sessions + length s.waits) n) o.1 ∙ l)).1
    ∙ λ i. (let z : SessionsRecord = record s { replies = replied (source_of f.id) (((λ j. (step_at (o.0 j) (o.2 j) false f now None).sends) ∙ abort_step own most f now size packets asked pgn e) i) s.replies } in z)

-- ---- how many packets are granted at once

abbrev pub Few : ℕ → Option ReceptionRecord → Type 0
Few most None = Unit {0}
Few most (Some r) = r.most ≤ most

few_signal : (most source own : ℕ) (s : Option Signal) (now : ℕ) (found : Bool) (o : Option ReceptionRecord) → 1 ≤ most → Few most o
    → Few most (takes_signal (Directed source own) (with_most most s) now found o).session
unfolding takes_signal takes_data takes_abort takes_request takes_packet begun goes_on delivers_message asks_again grants granted_at
few_signal most source own s now found o l h = grind (arith, l, h)

few_tick : (most now : ℕ) (o : Option ReceptionRecord) → Few most o → Few most (takes_tick now o).session
unfolding takes_tick asks_again grants granted_at
few_tick most now o h = grind (arith, h)

few_step : (own most : ℕ) (room : Bool) (f : FrameRecord) (now : ℕ) (o : Option Session) → 1 ≤ most → Few most (receiving o) → Few most (step_at own most room f now o).after.session
unfolding recv_step frames.source_of
few_step own most room f now o l h =
    cond_both (strays (number_in (said_to own f)) (receiving o)) _ _ (λ bytes. Few most (recv_step r (Heard (record { stamp = f.stamp; id = f.id; bytes = bytes })) now room).after.session)
    (λ e. subst (λ (x : RecvResult). Few most x.after.session) (sym (quiet_step r (record { stamp = f.stamp; id = f.id; bytes = [] }) now room (hushed own f.stamp f.id))) h)
    (λ e. subst (λ (s : Option Signal). Few most (takes_signal (Directed (source_of f.id) own) s now room (receiving o)).session) (sym (said_narrowed own most f)) (few_signal most (source_of f.id) own (said_to own f) now room (receiving o) l h))
  where
    r : ReceiverRecord
    r = record { own = own; session = receiving o }

abbrev pub Fewer : ℕ → Session → Type 0
Fewer most x = x.reception.most ≤ most

pub few_of : (most a : ℕ) (xs : List Session) → All (Fewer most) xs → Few most (receiving (of a xs))
few_of most a [] h = tt
few_of most a (x ∷ xs) h = cond_both (nat_eq a (from x)) (Some x) (of a xs) (λ (o : Option Session). Few most (receiving o)) (λ e. All-head (Fewer most) x xs h) (λ e. few_of most a xs (All-tail (Fewer most) x xs h))

few_listed : (most since : ℕ) (name : Option ℕ) (r : Option ReceptionRecord) → Few most r → All (Fewer most) (listed (option_map (session_by since name) r))
few_listed most since name None h = All-nil _
few_listed most since name (Some r) h = All-cons (Fewer most) (session_by since name r) [] h (All-nil _)

few_ticked : (own most now : ℕ) (xs : List Session) → All (Fewer most) xs → All (Fewer most) (sessions_ticked own now xs)
unfolding recv_step
few_ticked own most now [] h = h
few_ticked own most now (x ∷ xs) h = All-append (Fewer most) (listed (session_ticked own now x)) (sessions_ticked own now xs)
    (cond_both (is_over now x) _ _ (λ (y : RecvResult). All (Fewer most) (listed (option_map (session_by x.since x.name) y.after.session))) (λ e. All-nil _)
    (λ e. few_listed most x.since x.name (takes_tick now (Some x.reception)).session (few_tick most now (Some x.reception) (All-head (Fewer most) x xs h)))) (few_ticked own most now xs (All-tail (Fewer most) x xs h))

few_heard : (s : SessionsRecord) (now : ℕ) (name : Option ℕ) (f : FrameRecord) → 1 ≤ s.most → All (Fewer s.most) s.sessions → All (Fewer s.most) (hears now name f s).sessions
few_heard s now name f l h =
    cond_both (is_of_session s.own f) (stepped a now name f o (step_in now f s) s) s (λ (x : SessionsRecord). All (Fewer s.most) x.sessions)
    (λ e. All-append (Fewer s.most) (others a s.sessions) _ (all_others (Fewer s.most) a s.sessions h)
    (few_listed s.most (since_by now o) (name_by name o) (step_in now f s).after.session (few_step s.own s.most (has_room a s) f now o l (few_of s.most a s.sessions h)))) (λ e. h)
  where
    a : ℕ
    a = source_of f.id

    o : Option Session
    o = of a s.sessions

pub all_few : (own most boxes : ℕ) (E : List Event) → 1 ≤ most → All (Fewer most) (after own most boxes E).sessions
all_few own most boxes [] l = All-nil _
all_few own most boxes (Hears now name f ∷ E) l =
    let e = (own_is own most boxes E).2 in
    subst (λ (n : ℕ). All (Fewer n) (hears now name f (after own most boxes E)).sessions) e
    (few_heard (after own most boxes E) now name f (subst (λ (n : ℕ). 1 ≤ n) (sym e) l) (subst (λ (n : ℕ). All (Fewer n) (after own most boxes E).sessions) (sym e) (all_few own most boxes E l)))
all_few own most boxes (Ticks now ∷ E) l = few_ticked (after own most boxes E).own most now (after own most boxes E).sessions (all_few own most boxes E l)
all_few own most boxes (Leaves gone holder ∷ E) l = All-filter (λ x. not (is_left gone holder x)) (Fewer most) (after own most boxes E).sessions (all_few own most boxes E l)
all_few own most boxes (Loses ∷ E) l = All-nil _
all_few own most boxes (event ∷ E) l = all_few own most boxes E l
