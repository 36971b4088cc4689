-- What all that sessions went through leaves.
use Rattle.j39_sessions.proofs.Common.{[], if◌then◌else◌, ◌+◌, ◌++◌, ◌∙◌, ◌∷◌, ◌≡◌, ◌≢◌, ◌≤◌, ◌⊎◌, ◌||◌, after, ap, append-nil, append_assoc, AreApart, arith, asks_again, begun, Bool, cond_both, delivered, delivers_message, drop, Directed, eqb-true, Event, eq-eqb, false, filter, FrameRecord, from, goes_on, granted_at, grants, has_room, has_some, Heard, hears, Hears, is_left, is_of_session, is_over, is_taken, Leaves, length, length-append, length-drop, List, listed, longest, Loses, ltb-true, made, MessageRecord, name_by, nat_eq, nat_lt, ne_eqb, None, not, of, Option, option_map, others, ReceiverRecord, ReceptionRecord, receiving, recv_step, RecvResult, refl, released, Releases, replied, Reply, reply_to, said_to, Says, Session, session_by, session_ticked, sessions_ticked, SessionsRecord, shown, Signal, since_by, Some, source_of, step_at, step_in, stepped, subst, sym, take, takes_abort, takes_data, takes_packet, takes_request, takes_signal, takes_tick, ticked_of, tick_of, Ticks, true, without, ℕ, ToSend}
use Rattle.j39_transport.specs.Frames as frames
use Rattle.j39_sessions.proofs.StepLemmas.{refuses_step}

-- ---- lists of sessions

pub none_filtered : (p : Session → Bool) (a : ℕ) (xs : List Session) → of a xs ≡ None → of a (filter p xs) ≡ None
none_filtered p a [] e = refl
none_filtered p a (x ∷ xs) e = let h = none_filtered p a xs in grind (arith, h, e)

apart_filter : (p : Session → Bool) (xs : List Session) → AreApart xs → AreApart (filter p xs)
apart_filter p [] h = tt
apart_filter p (x ∷ xs) h = cond_both (p x) (x ∷ filter p xs) (filter p xs) AreApart (λ e. (none_filtered p (from x) xs h.0, apart_filter p xs h.1)) (λ e. apart_filter p xs h.1)

none_others : (a b : ℕ) (xs : List Session) → of b xs ≡ None → of b (others a xs) ≡ None
none_others a b [] e = refl
none_others a b (x ∷ xs) e = let h = none_others a b xs in grind (arith, h, e)

apart_others : (a : ℕ) (xs : List Session) → AreApart xs → AreApart (others a xs)
apart_others a [] h = tt
apart_others a (x ∷ xs) h = cond_both (nat_eq a (from x)) xs (x ∷ others a xs) AreApart (λ e. h.1) (λ e. (none_others a (from x) xs h.0, apart_others a xs h.1))

-- without the one of a source there is none of it
gone_others : (a : ℕ) (xs : List Session) → AreApart xs → of a (others a xs) ≡ None
gone_others a [] h = refl
gone_others a (x ∷ xs) h = go (nat_eq a (from x)) refl (gone_others a xs h.1)
  where
    go : (b : Bool) → nat_eq a (from x) ≡ b → of a (others a xs) ≡ None → of a (if b then xs else x ∷ others a xs) ≡ None
    go true e k = ap (λ (n : ℕ). of n xs) (eqb-true _ _ e) ∙ h.0
    go false e k = ap (λ (b : Bool). if b then Some x else of a (others a xs)) e ∙ k

same_others : (a b : ℕ) (xs : List Session) → a ≢ b → of b (others a xs) ≡ of b xs
same_others a b [] n = refl
same_others a b (x ∷ xs) n = let h = same_others a b xs n in grind (arith, h, n)

of_append : (a : ℕ) (xs ys : List Session) → of a xs ≡ None → of a (xs ++ ys) ≡ of a ys
of_append a [] ys e = refl
of_append a (x ∷ xs) ys e = let h = of_append a xs ys in grind (arith, h, e)

of_before : (a : ℕ) (xs ys : List Session) → of a ys ≡ None → of a (xs ++ ys) ≡ of a xs
of_before a [] ys e = e
of_before a (x ∷ xs) ys e = let h = of_before a xs ys e in grind (arith, h)

apart_more : (xs : List Session) (y : Session) → AreApart xs → of (from y) xs ≡ None → AreApart (xs ++ y ∷ [])
apart_more [] y h e = (refl, tt)
apart_more (x ∷ xs) y h e =
    let n = of_before (from x) xs (y ∷ []) in
    let k = h.0 in
    (grind (arith, n, k, e), apart_more xs y h.1 (grind (arith, e)))

pub source_at : (a : ℕ) (xs : List Session) (y : Session) → of a xs ≡ Some y → from y ≡ a
source_at a [] y e = absurd (cc)
source_at a (x ∷ xs) y e = let h = source_at a xs y in grind (arith, e, h)

-- one that is added has this source, or there is none
abbrev pub IsFrom : ℕ → Option Session → Type 0
IsFrom a None = Unit {0}
IsFrom a (Some y) = from y ≡ a

listed_from : (a b : ℕ) (o : Option Session) → IsFrom a o → a ≢ b → of b (listed o) ≡ None
listed_from a b None h n = refl
listed_from a b (Some y) h n = ap (λ (t : Bool). if t then Some y else None) (ne_eqb b (from y) (λ z. n (sym h ∙ sym z)))

listed_its : (a : ℕ) (o : Option Session) → IsFrom a o → of a (listed o) ≡ o
listed_its a None h = refl
listed_its a (Some y) h = ap (λ (t : Bool). if t then Some y else None) (eq-eqb a (from y) (sym h))

apart_listed : (a : ℕ) (xs : List Session) (o : Option Session) → AreApart xs → of a xs ≡ None → IsFrom a o → AreApart (xs ++ listed o)
apart_listed a xs None h e i = subst AreApart (sym (append-nil xs)) h
apart_listed a xs (Some y) h e i = apart_more xs y h (ap (λ (n : ℕ). of n xs) i ∙ e)

-- ---- a step at a frame

-- the source of a session
abbrev pub Fits : (ℕ → Type 0) → Option ReceptionRecord → Type 0
Fits P None = Unit {0}
Fits P (Some r) = P r.message.source

fits_signal : (P : ℕ → Type 0) (source own : ℕ) (s : Option Signal) (now : ℕ) (found : Bool) (o : Option ReceptionRecord) → (is_taken source o ≡ false → P source) → Fits P o
    → Fits P (takes_signal (Directed source own) s now found o).session
unfolding takes_signal takes_data takes_abort takes_request takes_packet begun goes_on delivers_message asks_again grants granted_at
fits_signal P source own s now found o l h = grind (arith, l, h)

pub own_fits : (a : ℕ) (o : Option Session) → IsFrom a o → Fits (λ b. b ≡ a) (receiving o)
own_fits a o h = grind (arith, h)

-- a session behind a frame of a source is of that source
step_from : (own most : ℕ) (room : Bool) (f : FrameRecord) (now : ℕ) (o : Option Session) (since : ℕ) (name : Option ℕ) → IsFrom (source_of f.id) o
    → IsFrom (source_of f.id) (option_map (session_by since name) (step_at own most room f now o).after.session)
unfolding recv_step frames.source_of
step_from own most room f now o since name h =
    made_from (step_at own most room f now o).after.session
    (fits_signal (λ b. b ≡ source_of f.id) (source_of f.id) own (said_to own (shown own most (receiving o) f)) now room (receiving o) (λ e. refl) (own_fits (source_of f.id) o h))
  where
    made_from : (r : Option ReceptionRecord) → Fits (λ b. b ≡ source_of f.id) r → IsFrom (source_of f.id) (option_map (session_by since name) r)
    made_from None k = tt
    made_from (Some r) k = k

pub of_from : (a : ℕ) (xs : List Session) → IsFrom a (of a xs)
of_from a xs = go (of a xs) refl
  where
    go : (o : Option Session) → of a xs ≡ o → IsFrom a o
    go None e = tt
    go (Some y) e = source_at a xs y e

module _ (s : SessionsRecord) (now : ℕ) (name : Option ℕ) (f : FrameRecord) where
  abbrev a : ℕ
  a = source_of f.id

  abbrev pub new : Option Session
  new = option_map (session_by (since_by now (of a s.sessions)) (name_by name (of a s.sessions))) (step_in now f s).after.session

  pub new_from : IsFrom a new
  new_from = step_from s.own s.most (has_room a s) f now (of a s.sessions) (since_by now (of a s.sessions)) (name_by name (of a s.sessions)) (of_from a s.sessions)

  pub apart_heard : AreApart s.sessions → AreApart (hears now name f s).sessions
  apart_heard h = cond_both (is_of_session s.own f) (stepped a now name f (of a s.sessions) (step_in now f s) s) s (λ (x : SessionsRecord). AreApart x.sessions)
      (λ e. apart_listed a (others a s.sessions) new (apart_others a s.sessions h) (gone_others a s.sessions h) new_from) (λ e. h)

  pub its_heard : is_of_session s.own f ≡ true → AreApart s.sessions → of a (hears now name f s).sessions ≡ new
  its_heard e h =
      ap (λ (b : Bool). of a (if b then stepped a now name f (of a s.sessions) (step_in now f s) s else s).sessions) e
      ∙ (of_append a (others a s.sessions) (listed new) (gone_others a s.sessions h) ∙ listed_its a new new_from)

  pub of_another : (b : ℕ) → a ≢ b → of b (hears now name f s).sessions ≡ of b s.sessions
  of_another b n = cond_both (is_of_session s.own f) (stepped a now name f (of a s.sessions) (step_in now f s) s) s (λ (x : SessionsRecord). of b x.sessions ≡ of b s.sessions)
      (λ e. of_before b (others a s.sessions) (listed new) (listed_from a b new new_from n) ∙ same_others a b s.sessions n) (λ e. refl)

-- ---- replies

none_without : (a b : ℕ) (xs : List Reply) → a ≢ b → reply_to b (without a xs) ≡ reply_to b xs
none_without a b [] n = refl
none_without a b (x ∷ xs) n = let h = none_without a b xs n in grind (arith, h, n)

reply_append : (b : ℕ) (xs : List Reply) (y : Reply) → nat_eq b y.to ≡ false → reply_to b (xs ++ y ∷ []) ≡ reply_to b xs
reply_append b [] y e = ap (λ (t : Bool). if t then Some y else None) e
reply_append b (x ∷ xs) y e = let h = reply_append b xs y e in grind (arith, h)

pub to_others : (a b : ℕ) (o : Option ToSend) (xs : List Reply) → a ≢ b → reply_to b (replied a o xs) ≡ reply_to b xs
to_others a b None xs n = refl
to_others a b (Some x) xs n = cond_both (nat_lt (length (without a xs)) 16) _ _ (λ (ys : List Reply). reply_to b ys ≡ reply_to b xs)
    (λ e. reply_append b (without a xs) (record { to = a; bytes = x.bytes }) (ne_eqb b a (λ z. n (sym z))) ∙ none_without a b xs n) (λ e. none_without a b xs n)

pub to_another : (s : SessionsRecord) (now b : ℕ) (name : Option ℕ) (f : FrameRecord) → source_of f.id ≢ b → reply_to b (hears now name f s).replies ≡ reply_to b s.replies
to_another s now b name f n =
    cond_both (is_of_session s.own f) (stepped (source_of f.id) now name f (of (source_of f.id) s.sessions) (step_in now f s) s) s (λ (x : SessionsRecord). reply_to b x.replies ≡ reply_to b s.replies)
    (λ e. to_others (source_of f.id) b (step_in now f s).sends s.replies n) (λ e. refl)

-- ---- a tick

ticked_fits : (P : ℕ → Type 0) (now : ℕ) (o : Option ReceptionRecord) → Fits P o → Fits P (takes_tick now o).session
unfolding takes_tick asks_again grants granted_at
ticked_fits P now o h = grind (arith, h)

pub ticked_from : (own now : ℕ) (x : Session) → IsFrom (from x) (session_ticked own now x)
unfolding recv_step
ticked_from own now x = cond_both (is_over now x) _ _ (λ (r : RecvResult). IsFrom (from x) (option_map (session_by x.since x.name) r.after.session)) (λ e. tt)
    (λ e. made_from (takes_tick now (Some x.reception)).session (ticked_fits (λ b. b ≡ from x) now (Some x.reception) refl))
  where
    made_from : (r : Option ReceptionRecord) → Fits (λ b. b ≡ from x) r → IsFrom (from x) (option_map (session_by x.since x.name) r)
    made_from None k = tt
    made_from (Some r) k = k

none_ticked : (own now b : ℕ) (xs : List Session) → of b xs ≡ None → of b (sessions_ticked own now xs) ≡ None
none_ticked own now b [] e = refl
none_ticked own now b (x ∷ xs) e = go (nat_eq b (from x)) refl e (none_ticked own now b xs)
  where
    go : (t : Bool) → nat_eq b (from x) ≡ t → (if t then Some x else of b xs) ≡ None → (of b xs ≡ None → of b (sessions_ticked own now xs) ≡ None)
        → of b (listed (session_ticked own now x) ++ sessions_ticked own now xs) ≡ None
    go true i e h = absurd (cc)
    go false i e h =
        of_append b (listed (session_ticked own now x)) (sessions_ticked own now xs)
        (listed_from (from x) b (session_ticked own now x) (ticked_from own now x) (λ z. (let k = eq-eqb b (from x) (sym z) in absurd (let y = sym i ∙ k in cc)))) ∙ h e

apart_front : (a : ℕ) (o : Option Session) (ys : List Session) → IsFrom a o → of a ys ≡ None → AreApart ys → AreApart (listed o ++ ys)
apart_front a None ys i e h = h
apart_front a (Some y) ys i e h = (ap (λ (n : ℕ). of n ys) i ∙ e, h)

apart_ticked : (own now : ℕ) (xs : List Session) → AreApart xs → AreApart (sessions_ticked own now xs)
apart_ticked own now [] h = tt
apart_ticked own now (x ∷ xs) h = apart_front (from x) (session_ticked own now x) (sessions_ticked own now xs) (ticked_from own now x) (none_ticked own now (from x) xs h.0) (apart_ticked own now xs h.1)

-- ---- over all

pub own_is : (own most boxes : ℕ) (E : List Event) → ((after own most boxes E).own ≡ own) × ((after own most boxes E).boxes ≡ boxes) × ((after own most boxes E).most ≡ most)
own_is own most boxes [] = (refl, refl, refl)
own_is own most boxes (Hears now name f ∷ E) =
    let h = own_is own most boxes E in
    let s = after own most boxes E in
    cond_both (is_of_session s.own f) (stepped (source_of f.id) now name f (of (source_of f.id) s.sessions) (step_in now f s) s) s (λ (x : SessionsRecord). (x.own ≡ own) × (x.boxes ≡ boxes) × (x.most ≡ most)) (λ e. h) (λ e. h)
own_is own most boxes (event ∷ E) = own_is own most boxes E

pub each_apart : (own most boxes : ℕ) (E : List Event) → AreApart (after own most boxes E).sessions
each_apart own most boxes [] = tt
each_apart own most boxes (Hears now name f ∷ E) = apart_heard (after own most boxes E) now name f (each_apart own most boxes E)
each_apart own most boxes (Ticks now ∷ E) = apart_ticked (after own most boxes E).own now (after own most boxes E).sessions (each_apart own most boxes E)
each_apart own most boxes (Leaves gone holder ∷ E) = apart_filter (λ x. not (is_left gone holder x)) (after own most boxes E).sessions (each_apart own most boxes E)
each_apart own most boxes (Loses ∷ E) = tt
each_apart own most boxes (event ∷ E) = each_apart own most boxes E

pub of_its : (own most boxes now : ℕ) (name : Option ℕ) (f : FrameRecord) (E : List Event) (o : Option Session) → is_of_session own f ≡ true → o ≡ of (source_of f.id) (after own most boxes E).sessions
    → of (source_of f.id) (hears now name f (after own most boxes E)).sessions
    ≡ option_map (session_by (since_by now o) (name_by name o)) (step_at own most (has_room (source_of f.id) (after own most boxes E)) f now o).after.session
of_its own most boxes now name f E o e i =
    let h = (own_is own most boxes E).0 in
    let k = (own_is own most boxes E).2 in
    its_heard (after own most boxes E) now name f (ap (λ (n : ℕ). is_of_session n f) h ∙ e) (each_apart own most boxes E)
    ∙ λ j. option_map (session_by (since_by now (sym i j)) (name_by name (sym i j))) (step_at (h j) (k j) (has_room (source_of f.id) (after own most boxes E)) f now (sym i j)).after.session

-- ---- the boxes

-- how many there are beside the one of a source
rest_count : (b : ℕ) (xs : List Session) → length xs ≡ length (others b xs) + (if has_some (of b xs) then 1 else 0)
rest_count b [] = refl
rest_count b (x ∷ xs) = let h = rest_count b xs in grind (arith, h)

-- at a step what stays open or what is whole: one at most, and none where there is no room
over_step : (r : ReceiverRecord) (f : FrameRecord) (now : ℕ) (found : Bool) → ((recv_step r (Heard f) now found).delivers ≡ None) ⊎ ((recv_step r (Heard f) now found).after.session ≡ None)
unfolding recv_step takes_signal takes_data takes_abort takes_request takes_packet begun goes_on delivers_message asks_again grants granted_at
over_step r f now found = grind arith

count_one : (P : ℕ → ReceptionRecord → Session) (Q : MessageRecord → ℕ × MessageRecord) (n : ℕ) (o : Option ReceptionRecord) (d : Option MessageRecord) → (d ≡ None) ⊎ (o ≡ None)
    → length (listed (option_map (P n) o)) + length (listed (option_map Q d)) ≤ 1
count_one P Q n o d h = grind (arith, h)

count_none : (P : ReceptionRecord → Session) (Q : MessageRecord → ℕ × MessageRecord) (o : Option ReceptionRecord) (d : Option MessageRecord) → o ≡ None → d ≡ None
    → length (listed (option_map P o)) + length (listed (option_map Q d)) ≡ 0
count_none P Q o d e g = grind (arith, e, g)

fit_ticked : (own now : ℕ) (xs : List Session) → length (sessions_ticked own now xs) ≤ length xs
fit_ticked own now [] = omega arith
fit_ticked own now (x ∷ xs) =
    let h = fit_ticked own now xs in
    let k = length-append (listed (session_ticked own now x)) (sessions_ticked own now xs) in
    let m = one (session_ticked own now x) in
    omega (arith, h, k, m)
  where
    one : (o : Option Session) → length (listed o) ≤ 1
    one o = grind arith

fit_filter : (p : Session → Bool) (xs : List Session) → length (filter p xs) ≤ length xs
fit_filter p [] = omega arith
fit_filter p (x ∷ xs) = let h = fit_filter p xs in grind (arith, h)

none_open : (o : Option Session) → has_some o ≡ false → receiving o ≡ None
none_open o e = grind (arith, e)

fit_heard : (s : SessionsRecord) (now : ℕ) (name : Option ℕ) (f : FrameRecord) → length s.sessions + length s.waits ≤ s.boxes → length (hears now name f s).sessions + length (hears now name f s).waits ≤ s.boxes
fit_heard s now name f h =
    cond_both (is_of_session s.own f) (stepped a now name f o x s) s (λ (y : SessionsRecord). length y.sessions + length y.waits ≤ s.boxes) (λ e. counted (has_some o) refl (nat_lt (length s.sessions + length s.waits) s.boxes) refl) (λ e. h)
  where
    a : ℕ
    a = source_of f.id

    o : Option Session
    o = of a s.sessions

    x : RecvResult
    x = step_in now f s

    P : ReceptionRecord → Session
    P = session_by (since_by now o) (name_by name o)

    Q : MessageRecord → ℕ × MessageRecord
    Q m = (f.stamp, m)

    sums : length (stepped a now name f o x s).sessions + length (stepped a now name f o x s).waits
        ≡ length (others a s.sessions) + length s.waits + (length (listed (option_map P x.after.session)) + length (listed (option_map Q x.delivers)))
    sums =
        let k = length-append (others a s.sessions) (listed (option_map P x.after.session)) in
        let m = length-append s.waits (listed (option_map Q x.delivers)) in
        omega (arith, k, m)

    counted : (t : Bool) → has_some o ≡ t → (u : Bool) → nat_lt (length s.sessions + length s.waits) s.boxes ≡ u
        → length (stepped a now name f o x s).sessions + length (stepped a now name f o x s).waits ≤ s.boxes
    counted true e u g =
        let r = rest_count a s.sessions ∙ ap (λ (t : Bool). length (others a s.sessions) + (if t then 1 else 0)) e in
        let c = count_one (λ n. P) Q 0 x.after.session x.delivers (over_step _ _ _ _) in
        omega (arith, sums, r, c, h)
    counted false e true g =
        let r = rest_count a s.sessions ∙ ap (λ (t : Bool). length (others a s.sessions) + (if t then 1 else 0)) e in
        let c = count_one (λ n. P) Q 0 x.after.session x.delivers (over_step _ _ _ _) in
        let l = ltb-true _ _ g in
        omega (arith, sums, r, c, l)
    counted false e false g =
        let r = rest_count a s.sessions ∙ ap (λ (t : Bool). length (others a s.sessions) + (if t then 1 else 0)) e in
        let q = refuses_step (record { own = s.own; session = receiving o }) (shown s.own s.most (receiving o) f) now (none_open o e) in
        let room : has_room a s ≡ false = (λ i. e i || g i) in
        let c = count_none P Q x.after.session x.delivers (ap (λ (b : Bool). (step_at s.own s.most b f now o).after.session) room ∙ q.0) (ap (λ (b : Bool). (step_at s.own s.most b f now o).delivers) room ∙ q.1) in
        omega (arith, sums, r, c, h)

pub all_fit : (own most boxes : ℕ) (E : List Event) → length (after own most boxes E).sessions + length (after own most boxes E).waits ≤ boxes
all_fit own most boxes [] = omega arith
all_fit own most boxes (Hears now name f ∷ E) =
    let b = (own_is own most boxes E).1 in
    subst (λ (n : ℕ). length (hears now name f (after own most boxes E)).sessions + length (hears now name f (after own most boxes E)).waits ≤ n) b
    (fit_heard (after own most boxes E) now name f (subst (λ (n : ℕ). length (after own most boxes E).sessions + length (after own most boxes E).waits ≤ n) (sym b) (all_fit own most boxes E)))
all_fit own most boxes (Ticks now ∷ E) = let h = all_fit own most boxes E in let k = fit_ticked (after own most boxes E).own now (after own most boxes E).sessions in omega (arith, h, k)
all_fit own most boxes (Leaves gone holder ∷ E) = let h = all_fit own most boxes E in let k = fit_filter (λ x. not (is_left gone holder x)) (after own most boxes E).sessions in omega (arith, h, k)
all_fit own most boxes (Loses ∷ E) = let h = all_fit own most boxes E in omega (arith, h)
all_fit own most boxes (Releases ∷ E) = let h = all_fit own most boxes E in let k = length-drop 1 (after own most boxes E).waits in omega (arith, h, k)
all_fit own most boxes (Says ∷ E) = all_fit own most boxes E

-- ---- time

over_by : (own now : ℕ) (x y : Session) → session_ticked own now x ≡ Some y → now ≤ y.since + longest y.reception.message.packets
unfolding recv_step takes_tick asks_again grants granted_at
over_by own now x y e = grind (arith, e)

-- of each source a tick does to its session what it does to one alone
pub its_ticked : (own now b : ℕ) (xs : List Session) → AreApart xs → of b (sessions_ticked own now xs) ≡ ticked_of own now (of b xs)
its_ticked own now b [] h = refl
its_ticked own now b (x ∷ xs) h = go (nat_eq b (from x)) refl (its_ticked own now b xs h.1)
  where
    go : (t : Bool) → nat_eq b (from x) ≡ t → of b (sessions_ticked own now xs) ≡ ticked_of own now (of b xs)
        → of b (listed (session_ticked own now x) ++ sessions_ticked own now xs) ≡ ticked_of own now (if t then Some x else of b xs)
    go true e k =
        let z : b ≡ from x = eqb-true _ _ e in
        of_before b (listed (session_ticked own now x)) (sessions_ticked own now xs) (ap (λ (n : ℕ). of n (sessions_ticked own now xs)) z ∙ none_ticked own now (from x) xs h.0)
        ∙ (ap (λ (n : ℕ). of n (listed (session_ticked own now x))) z ∙ listed_its (from x) (session_ticked own now x) (ticked_from own now x))
    go false e k =
        of_append b (listed (session_ticked own now x)) (sessions_ticked own now xs)
        (listed_from (from x) b (session_ticked own now x) (ticked_from own now x) (λ z. (let y = sym e ∙ eq-eqb b (from x) (sym z) in absurd (cc)))) ∙ k

pub ticked_alone : (own most boxes now b : ℕ) (E : List Event) → of b (after own most boxes (Ticks now ∷ E)).sessions ≡ ticked_of own now (of b (after own most boxes E).sessions)
ticked_alone own most boxes now b E =
    its_ticked (after own most boxes E).own now b (after own most boxes E).sessions (each_apart own most boxes E) ∙ ap (λ (n : ℕ). ticked_of n now (of b (after own most boxes E).sessions)) (own_is own most boxes E).0

pub not_over : (own most boxes now b : ℕ) (E : List Event) (y : Session) → of b (after own most boxes (Ticks now ∷ E)).sessions ≡ Some y → now ≤ y.since + longest y.reception.message.packets
not_over own most boxes now b E y e = go (of b (after own most boxes E).sessions) (sym (ticked_alone own most boxes now b E) ∙ e)
  where
    go : (o : Option Session) → ticked_of own now o ≡ Some y → now ≤ y.since + longest y.reception.message.packets
    go None i = absurd (cc)
    go (Some x) i = over_by own now x y i

-- what one is opened with it keeps
pub kept_ticked : (own now : ℕ) (x y : Session) → session_ticked own now x ≡ Some y → (y.since ≡ x.since) × (y.name ≡ x.name)
kept_ticked own now x y e = go (tick_of own now x).after.session e
  where
    go : (o : Option ReceptionRecord) → option_map (session_by x.since x.name) o ≡ Some y → (y.since ≡ x.since) × (y.name ≡ x.name)
    go None i = absurd (cc)
    go (Some r) i = let z : session_by x.since x.name r ≡ y = cc in (sym (ap (λ (u : Session). u.since) z), sym (ap (λ (u : Session). u.name) z))

pub kept_heard : (own most boxes now : ℕ) (name : Option ℕ) (f : FrameRecord) (E : List Event) (y : Session) → is_of_session own f ≡ true
    → of (source_of f.id) (hears now name f (after own most boxes E)).sessions ≡ Some y
    → (y.since ≡ since_by now (of (source_of f.id) (after own most boxes E).sessions)) × (y.name ≡ name_by name (of (source_of f.id) (after own most boxes E).sessions))
kept_heard own most boxes now name f E y e g =
    let o = of (source_of f.id) (after own most boxes E).sessions in
    go o (step_at own most (has_room (source_of f.id) (after own most boxes E)) f now o).after.session (sym (of_its own most boxes now name f E o e refl) ∙ g)
  where
    go : (o : Option Session) (r : Option ReceptionRecord) → option_map (session_by (since_by now o) (name_by name o)) r ≡ Some y → (y.since ≡ since_by now o) × (y.name ≡ name_by name o)
    go o None i = absurd (cc)
    go o (Some r) i = let z : session_by (since_by now o) (name_by name o) r ≡ y = cc in (sym (ap (λ (u : Session). u.since) z), sym (ap (λ (u : Session). u.name) z))

-- ---- which messages

-- what waits behind a frame
pub waits_made : (s : SessionsRecord) (now : ℕ) (name : Option ℕ) (f : FrameRecord) → (hears now name f s).waits ≡ s.waits ++ listed (option_map (λ m. (f.stamp, m)) (made now f s))
waits_made s now name f = go (is_of_session s.own f)
  where
    go : (b : Bool) → (if b then stepped (source_of f.id) now name f (of (source_of f.id) s.sessions) (step_in now f s) s else s).waits
        ≡ s.waits ++ listed (option_map (λ m. (f.stamp, m)) (if b then (step_in now f s).delivers else None))
    go true = refl
    go false = sym (append-nil s.waits)

pub senders_made : (s : SessionsRecord) (now : ℕ) (name : Option ℕ) (f : FrameRecord)
    → (hears now name f s).senders ≡ s.senders ++ listed (option_map (λ m. name_by name (of (source_of f.id) s.sessions)) (made now f s))
senders_made s now name f = go (is_of_session s.own f)
  where
    go : (b : Bool) → (if b then stepped (source_of f.id) now name f (of (source_of f.id) s.sessions) (step_in now f s) s else s).senders
        ≡ s.senders ++ listed (option_map (λ m. name_by name (of (source_of f.id) s.sessions)) (if b then (step_in now f s).delivers else None))
    go true = refl
    go false = sym (append-nil s.senders)

pub in_order : (own most boxes : ℕ) (E : List Event) → delivered own most boxes E ≡ released own most boxes E ++ (after own most boxes E).waits
in_order own most boxes [] = refl
in_order own most boxes (Hears now name f ∷ E) =
    ap (λ xs. xs ++ listed (option_map (λ m. (f.stamp, m)) (made now f (after own most boxes E)))) (in_order own most boxes E)
    ∙ (append_assoc (released own most boxes E) (after own most boxes E).waits _ ∙ ap (λ xs. released own most boxes E ++ xs) (sym (waits_made (after own most boxes E) now name f)))
in_order own most boxes (Releases ∷ E) =
    in_order own most boxes E ∙ (ap (λ xs. released own most boxes E ++ xs) (sym (first_rest (after own most boxes E).waits)) ∙ sym (append_assoc (released own most boxes E) (take 1 (after own most boxes E).waits) (drop 1 (after own most boxes E).waits)))
  where
    first_rest : (xs : List (ℕ × MessageRecord)) → take 1 xs ++ drop 1 xs ≡ xs
    first_rest [] = refl
    first_rest (x ∷ xs) = refl
in_order own most boxes (event ∷ E) = in_order own most boxes E
