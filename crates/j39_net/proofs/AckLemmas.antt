-- What is acknowledged was whole behind the last request.
use Rattle.std.proofs.Common.{[], if◌then◌else◌, ◌++◌, ◌<◌, ◌∙◌, ◌∷◌, ◌≡◌, ◌≢◌, ap, append-nil, append_assoc, arith, Bool, eq-eqb, false, filter, inl, inr, List, nat_eq, None, not, Option, refl, Some, subst, sym, true, ℕ}
use Rattle.std.proofs.lemmas.Bool.{cases_eq, cond_both}
use Rattle.std.proofs.lemmas.List.Elements.{All-cons, All-drop, All-filter, All-nil, All-tail, All-weaker}
use Rattle.std.specs.List.{All, slice_get}
use Rattle.std.specs.Option.{option_map}
use Rattle.j39_frame.specs.Frame.{FrameRecord}
use Rattle.j39_frame.specs.Identifier.{source_of}
use Rattle.j39_transport.specs.Cutting.{ToSend}
use Rattle.j39_transport.specs.Frames as frames
use Rattle.j39_transport.specs.Key.{Directed}
use Rattle.j39_transport.specs.Message.{MessageRecord}
use Rattle.j39_transport.specs.Receiving.{Heard, recv_step, RecvResult, said_to}
use Rattle.j39_transport.specs.Reception.{asks_again, granted_at, grants, ReceptionRecord, takes_request, takes_signal, takes_tick}
use Rattle.j39_transport.specs.Signals.{Abort, Acknowledgment, BroadcastAnnounce, ClearToSend, Packet, RequestToSend, said_between, Signal, written}
use Rattle.j39_sessions.proofs.SourceLemmas.{step_tells}
use Rattle.j39_sessions.proofs.StepLemmas.{said_narrowed, with_most}
use Rattle.j39_sessions.specs.Sessions.{fewest, from, has_room, hears as hears_one, is_left, is_of_session, is_over, leaves, listed, made, narrowed, number_in, of, receiving, replied, Reply, Session, SessionsRecord, step_at, step_in, stepped, strays, tick_of, without}
use Rattle.j39_address.specs.Claim.{claim_of}
use Rattle.j39_sessions.specs.Events.{Event}
use Rattle.j39_node.proofs.ReceptionLemmas.{left, own as own_is}
use Rattle.j39_node.specs.History.{address_after, Call, holds, is_claim, is_smaller, step, Who}
use Rattle.j39_node.specs.History.Call.{At, ReleaseTransfer}
use Rattle.j39_node.specs.History.Act.{Hear, TakeFrame, Tick}
use Rattle.j39_node.specs.Prompt.{claims_anew}
use Rattle.j39_node.specs.Reception.{events, found_by, heard_by, holder, if_heard, is_reply, reception, replies as all_replies, restarts, sessions_after, taken_by, time_heard, whole}
use Rattle.j39_net.proofs.CourseLemmas.{all_front, all_last}
use Rattle.j39_net.specs.Net.{hears, IsNoRequest}
use Rattle.j39_net.proofs.HearLemmas.{its_whole, wholes}
use Rattle.j39_net.proofs.ReplyLemmas.{all_replied, all_ticked, all_unsaid}
use Rattle.j39_net.proofs.SessionLemmas.{empty, IsEmpty, leaves_empty, older_held, none_asked, none_of_session, not_from, results_are, said_is, same_said, source_is, stamped_is, trace}
use Rattle.j39_net.proofs.StepLemmas.{all_some, IsNoRts, mark, no_mark}

-- it ends with what was whole
abbrev pub EndsWhole : List (Option MessageRecord) → Type 0
EndsWhole T = (V : List (Option MessageRecord)) × (m : MessageRecord) × (T ≡ V ++ Some m ∷ [])

-- an acknowledgment to a is of that
abbrev pub IsOfIt : ℕ → List (Option MessageRecord) → Reply → Type 0
IsOfIt a T y = y.to ≡ a → slice_get y.bytes 0 ≡ Some 19 → EndsWhole T

-- what is whole besides keeps that
pub ends_more : (T : List (Option MessageRecord)) (ms : List MessageRecord) → EndsWhole T → EndsWhole (T ++ all_some ms)
ends_more T [] h = subst EndsWhole (sym (append-nil T)) h
ends_more T (m ∷ ms) h = subst EndsWhole (append_assoc T (Some m ∷ []) (all_some ms)) (ends_more (T ++ Some m ∷ []) ms (T, m, refl))

-- ---- what is said

-- a request is answered
request_says : (a own now : ℕ) (size packets most pgn : ℕ) (found : Bool) (o : Option ReceptionRecord)
    → (takes_signal (Directed a own) (Some (RequestToSend size packets most pgn)) now found o).says ≢ None
unfolding takes_signal takes_request grants
request_says a own now size packets most pgn found o e = absurd (grind (arith, e))

written_none : (own a : ℕ) (s : Option Signal) → option_map (written own a) s ≡ None → s ≡ None
written_none own a None e = refl
written_none own a (Some s) e = absurd (cc)

rts_says : (own most : ℕ) (room : Bool) (f : FrameRecord) (now : ℕ) (o : Option Session) (size packets asked pgn : ℕ) → said_to own f ≡ Some (RequestToSend size packets asked pgn)
    → (step_at own most room f now o).sends ≢ None
unfolding recv_step frames.source_of
rts_says own most room f now o size packets asked pgn e z =
    let shows : strays (number_in (said_to own f)) (receiving o) ≡ false = ap (λ (s : Option Signal). strays (number_in s) (receiving o)) e in
    let says : said_to own (record { stamp = f.stamp; id = f.id; bytes = narrowed most f }) ≡ Some (RequestToSend size packets (fewest most asked) pgn) = said_narrowed own most f ∙ ap (with_most most) e in
    request_says (source_of f.id) own now size packets (fewest most asked) pgn room (receiving o)
    (written_none own (source_of f.id) _
    (sym (λ i. option_map (written own (source_of f.id)) (takes_signal (Directed (source_of f.id) own) (says i) now room (receiving o)).says)
    ∙ (ap (λ (b : Bool). (recv_step (record { own = own; session = receiving o }) (Heard (record { stamp = f.stamp; id = f.id; bytes = if b then [] else narrowed most f })) now room).sends) (sym shows) ∙ z)))

-- a tick acknowledges nothing
abbrev Repeats : Option Signal → Type 0
Repeats None = Unit {0}
Repeats (Some (ClearToSend count next pgn)) = Unit {0}
Repeats (Some (Abort reason pgn)) = Unit {0}
Repeats (Some (Acknowledgment size packets pgn)) = ⊥
Repeats (Some (BroadcastAnnounce size packets pgn)) = ⊥
Repeats (Some (RequestToSend size packets most pgn)) = ⊥
Repeats (Some (Packet number part)) = ⊥

ticks_repeat : (now : ℕ) (o : Option ReceptionRecord) → Repeats (takes_tick now o).says
unfolding takes_tick asks_again grants granted_at
ticks_repeat now o = grind arith

repeats_no : (own a : ℕ) (s : Option Signal) (y : ToSend) → Repeats s → option_map (written own a) s ≡ Some y → slice_get y.bytes 0 ≢ Some 19
unfolding written
repeats_no own a s y h e z = absurd (grind (arith, h, e, z))

tick_no : (own now : ℕ) (x : Session) (y : ToSend) → (tick_of own now x).sends ≡ Some y → slice_get y.bytes 0 ≢ Some 19
unfolding recv_step
tick_no own now x y =
    cond_both (is_over now x) _ _ (λ (r : RecvResult). r.sends ≡ Some y → slice_get y.bytes 0 ≢ Some 19)
    (λ t e. repeats_no own (from x) (Some (Abort 3 x.reception.message.group)) y tt e)
    (λ t e. repeats_no own (from x) (takes_tick now (Some x.reception)).says y (ticks_repeat now (Some x.reception)) e)

-- ---- a frame is heard

without_it : (a : ℕ) (xs : List Reply) → All (λ (y : Reply). nat_eq a y.to ≡ false) (without a xs)
without_it a [] = All-nil (λ (y : Reply). nat_eq a y.to ≡ false)
without_it a (y ∷ xs) = go (nat_eq a y.to) refl (without_it a xs)
  where
    go : (b : Bool) → nat_eq a y.to ≡ b → All (λ (y : Reply). nat_eq a y.to ≡ false) (without a xs) → All (λ (y : Reply). nat_eq a y.to ≡ false) (if not b then y ∷ without a xs else without a xs)
    go true e h = h
    go false e h = All-cons (λ (y : Reply). nat_eq a y.to ≡ false) y (without a xs) e h

none_to : (a : ℕ) (T : List (Option MessageRecord)) (xs : List Reply) → All (IsOfIt a T) (without a xs)
none_to a T xs =
    All-weaker (λ (y : Reply). nat_eq a y.to ≡ false) (IsOfIt a T)
    (λ y e z. absurd (let x : true ≡ false = sym (eq-eqb a y.to (sym z)) ∙ e in cc)) (without a xs) (without_it a xs)

module _ (s : SessionsRecord) (now : ℕ) (name : Option ℕ) (f : FrameRecord) (V : List (Option MessageRecord)) where
  abbrev Added : ℕ → List (Option MessageRecord)
  Added a = V ++ (mark (said_between a s.own f) ++ all_some (wholes a (listed (option_map (λ m. (f.stamp, m)) (made now f s)))))

  -- what asks for nothing
  unasked : (a : ℕ) (ys : List Reply) → IsNoRts (said_between a s.own f) → All (IsOfIt a V) ys → All (IsOfIt a (Added a)) ys
  unasked a ys n h =
      All-weaker (IsOfIt a V) (IsOfIt a (Added a))
      (λ y k e z. subst (λ M. EndsWhole (V ++ (M ++ all_some (wholes a (listed (option_map (λ m. (f.stamp, m)) (made now f s))))))) (sym (no_mark (said_between a s.own f) n))
      (ends_more V (wholes a (listed (option_map (λ m. (f.stamp, m)) (made now f s)))) (k e z))) ys h

  made_is : is_of_session s.own f ≡ true → wholes (source_of f.id) (listed (option_map (λ m. (f.stamp, m)) (made now f s))) ≡ listed (step_in now f s).delivers
  made_is q =
      its_whole (source_of f.id) (option_map (λ m. (f.stamp, m)) (made now f s)) (λ p e. source_is s now name f p.1 (stamped_is f.stamp (made now f s) p e))
      ∙ (results_are f.stamp (made now f s) ∙ ap (λ (t : Bool). listed (if t then (step_in now f s).delivers else None)) q)

  its : source_of f.id < 254 → is_of_session s.own f ≡ true → All (IsOfIt (source_of f.id) V) s.replies
      → All (IsOfIt (source_of f.id) (Added (source_of f.id))) (replied (source_of f.id) (step_in now f s).sends s.replies)
  its l q h =
      let a = source_of f.id in
      let x = step_in now f s in
      all_replied (IsOfIt a (Added a)) a x.sends s.replies
      (λ n. unasked a s.replies (λ size packets most pgn e. rts_says s.own s.most (has_room a s) f now (of a s.sessions) size packets most pgn (said_is s.own f l ∙ e) n) h)
      (none_to a (Added a) s.replies)
      (λ y e z b. (let m = (step_tells s.own s.most (has_room a s) f now (of a s.sessions)).1 y e b in (
        V ++ mark (said_between a s.own f),
        m.0,
        ap (λ (ms : List MessageRecord). V ++ (mark (said_between a s.own f) ++ all_some ms)) (made_is q ∙ ap listed m.1) ∙ sym (append_assoc V (mark (said_between a s.own f)) (Some m.0 ∷ [])),
      )))

  another : (a : ℕ) → source_of f.id ≢ a → All (IsOfIt a V) s.replies → All (IsOfIt a (Added a)) (replied (source_of f.id) (step_in now f s).sends s.replies)
  another a n h =
      unasked a (replied (source_of f.id) (step_in now f s).sends s.replies) (none_asked (said_between a s.own f) (not_from a s.own f n))
      (all_replied (IsOfIt a V) (source_of f.id) (step_in now f s).sends s.replies (λ z. h)
      (All-filter (λ (m : Reply). not (nat_eq (source_of f.id) m.to)) (IsOfIt a V) s.replies h) (λ y e z. absurd (n z)))

  pub heard_acks : (a : ℕ) → a < 254 → All (IsOfIt a V) s.replies → All (IsOfIt a (Added a)) (hears_one now name f s).replies
  heard_acks a l h = go (is_of_session s.own f) refl
    where
      go : (b : Bool) → is_of_session s.own f ≡ b
          → All (IsOfIt a (Added a)) (if b then stepped (source_of f.id) now name f (of (source_of f.id) s.sessions) (step_in now f s) s else s).replies
      go false q = unasked a s.replies (none_of_session s f a l q) h
      go true q = elim (cases_eq (source_of f.id) a) [
        | inl e ↦ subst (λ (b : ℕ). All (IsOfIt b (Added b)) (replied (source_of f.id) (step_in now f s).sends s.replies)) e
            (its (let m = l in omega (arith, m, e)) q (subst (λ (b : ℕ). All (IsOfIt b V) s.replies) (sym e) h))
        | inr n ↦ another a n h
      ]

-- ---- a history

leaves_acks : (a : ℕ) (T : List (Option MessageRecord)) (gone : Option ℕ) (holds : ℕ → Option ℕ) (s : SessionsRecord) → All (IsOfIt a T) s.replies → All (IsOfIt a T) (leaves gone holds s).replies
leaves_acks a T gone holds s h = all_unsaid (IsOfIt a T) (filter (is_left gone holds) s.sessions) s.replies h

taken_acks : (w : Who) (a : ℕ) (T : List (Option MessageRecord)) (E : List Event) (holds : ℕ → Option ℕ) (x y : Bool) → All (IsOfIt a T) (sessions_after w E).replies
    → All (IsOfIt a T) (sessions_after w (taken_by x y holds E)).replies
taken_acks w a T E holds true y h = leaves_acks a T None holds (sessions_after w E) h
taken_acks w a T E holds false true h = All-drop (IsOfIt a T) 1 (sessions_after w E).replies h
taken_acks w a T E holds false false h = h

module _ (w : Who) (H : List Call) (now a : ℕ) (f : FrameRecord) where
  abbrev Then : Bool → Bool → Type 0
  Then x y =
      All (IsOfIt a (trace w a H ++ (mark (said_between a w.address f) ++ all_some (wholes a (listed (option_map (λ m. (f.stamp, m)) (if_heard x y (made (time_heard (At now (Hear f) ∷ H)) f (found_by w H now f)))))))))
      (sessions_after w (heard_by x y (time_heard (At now (Hear f) ∷ H)) (holder w (At now (Hear f) ∷ H) (source_of f.id)) f (left w H now f))).replies

  then_acks : a < 254 → (holds w H now ≡ false → IsEmpty (reception w H)) → All (IsOfIt a (trace w a H)) (reception w H).replies → (x y : Bool) → holds w H now ≡ y → Then x y
  then_acks l e h true y i = All-nil _
  then_acks l e h false false i =
      subst (All (IsOfIt a (trace w a H ++ (mark (said_between a w.address f) ++ []))))
      (sym (leaves_empty (restarts w H now f) (holder w (At now (Hear f) ∷ H)) (reception w H) (e i)).1) (All-nil _)
  then_acks l e h false true i =
      let s = found_by w H now f in
      subst (λ (n : ℕ). All (IsOfIt a (trace w a H ++ (mark (said_between a n f) ++ all_some (wholes a (listed (option_map (λ m. (f.stamp, m)) (made (time_heard (At now (Hear f) ∷ H)) f s)))))))
      (hears_one (time_heard (At now (Hear f) ∷ H)) (holder w (At now (Hear f) ∷ H) (source_of f.id)) f s).replies) (own_is w H).0
      (heard_acks s (time_heard (At now (Hear f) ∷ H)) (holder w (At now (Hear f) ∷ H) (source_of f.id)) f (trace w a H) a l
      (leaves_acks a (trace w a H) (restarts w H now f) (holder w (At now (Hear f) ∷ H)) (reception w H) h))

-- an acknowledgment that waits to be said is of what was whole last, behind the last request
pub acks : (w : Who) (a : ℕ) → a < 254 → (H : List Call) → All (λ call. claims_anew call ≡ false) H → All (IsOfIt a (trace w a H)) (reception w H).replies
acks w a l [] n = All-nil (IsOfIt a [])
acks w a l (At now (Hear f) ∷ H) n =
    let rest = All-tail (λ call. claims_anew call ≡ false) (At now (Hear f)) H n in
    then_acks w H now a f l (λ i. empty w H rest (older_held (step H now) (address_after w H) i)) (acks w a l H rest) (is_smaller w (claim_of f)) (holds w H now) refl
acks w a l (At now Tick ∷ H) n =
    all_ticked (IsOfIt a (trace w a H)) (reception w H).own (time_heard (At now Tick ∷ H)) (reception w H).sessions (reception w H).replies
    (λ x y e z k. absurd (tick_no (reception w H).own (time_heard (At now Tick ∷ H)) x y e k))
    (acks w a l H (All-tail (λ call. claims_anew call ≡ false) (At now Tick) H n))
acks w a l (At now (TakeFrame (Some f)) ∷ H) n =
    taken_acks w a (trace w a H) (events w H) (holder w (At now (TakeFrame (Some f)) ∷ H)) (is_claim f) (is_reply (all_replies w H) f)
    (acks w a l H (All-tail (λ call. claims_anew call ≡ false) (At now (TakeFrame (Some f))) H n))
acks w a l (ReleaseTransfer true ∷ H) n = acks w a l H (All-tail (λ call. claims_anew call ≡ false) (ReleaseTransfer true) H n)
acks w a l (ReleaseTransfer false ∷ H) n = acks w a l H (All-tail (λ call. claims_anew call ≡ false) (ReleaseTransfer false) H n)
acks w a l (call ∷ H) n = acks w a l H (All-tail (λ call. claims_anew call ≡ false) call H n)

-- where nothing is requested behind it
pub ends_later : (w : Who) (a : ℕ) (later H : List Call) → All (IsNoRequest a w.address) (hears later) → EndsWhole (trace w a H) → EndsWhole (trace w a (later ++ H))
ends_later w a [] H n h = h
ends_later w a (At now (Hear f) ∷ later) H n h =
    let new = wholes a (listed (option_map (λ m. (f.stamp, m)) (whole w (later ++ H) now f))) in
    let g : FrameRecord = record { stamp = now; id = f.id; bytes = f.bytes } in
    subst (λ M. EndsWhole (trace w a (later ++ H) ++ (M ++ all_some new)))
    (sym (no_mark (said_between a w.address f) (λ size packets most pgn e. all_last (IsNoRequest a w.address) (hears later) g n size packets most pgn (same_said a w.address f g refl refl ∙ e))))
    (ends_more (trace w a (later ++ H)) new (ends_later w a later H (all_front (IsNoRequest a w.address) (hears later) (g ∷ []) n) h))
ends_later w a (call ∷ later) H n h = ends_later w a later H n h
