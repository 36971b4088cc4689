-- What a step of one box leaves.
use Rattle.j39_sessions.proofs.Common.{Bool, BoxedReceiver, Directed, FrameRecord, Heard, IfSome, IsOpenAt, IsSome, List, MessageRecord, None, Option, ReceiverRecord, Receives, ReceptionRecord, RecvResult, Reply, Session, SessionsRecord, Signal, Some, Tick, ToSend, [], and_parts, answers, ap, append-nil, arith, asks_again, begun, broadcast_in, bytes_of, cond_both, control_in, delivers_message, false, fewest, filter, from, goes_on, granted_at, grants, has_some, hears, if◌then◌else◌, is_of_session, is_over, is_request, kept_in, length, length-set, lent_in, listed, longest, made, map, narrowed, nat_eq, nat_lt, new_receiver, not, number_in, of, option_map, or_blank, others, packed_in, pgn_of, put_in, receiving, recv_step, refl, replied, request_in, result_of, said_between, said_by, said_to, session_in, session_with, shown, slice_index, slice_set, source_of, stamp_micros, step_at, strays, subst, sym, takes_abort, takes_data, takes_packet, takes_request, takes_signal, takes_tick, tick_of, transport_control_group, true, without, ℕ, ◌&&◌, ◌++◌, ◌+◌, ◌<◌, ◌∙◌, ◌∷◌, ◌≡◌, ◌≢◌}
use Rattle.std.proofs.lemmas.List.{get_or-set_other, get_or-set_same}
use Rattle.j39_transport.specs.Frames as frames
use Rattle.j39_transport.specs.Frames.{names_message}
use Rattle.j39_transport.specs.Signals.{RequestToSend, said_by as says_by}
use Rattle.j39_sessions.proofs.BoxLemmas.{none_other}
use Rattle.std.specs.declared.boxed.Box.{Box}
use Rattle.std.specs.Global.{Global}
use Rattle.j39_sessions.specs.declared.seat.Seat.{Seat}
use Rattle.j39_sessions.specs.declared.sessions.Said.{Said}

-- ---- what is to be said

-- what is filtered out of the code's list isn't in what it says
pub without_is : (a : ℕ) (xs : List Said) → map said_by (filter (λ x. not (nat_eq a x.to)) xs) ≡ without a (map said_by xs)
without_is a [] = refl
without_is a (x ∷ xs) = let h = without_is a xs in grind (arith, h)

-- of what is said the bytes alone count
pub same_replied : (a : ℕ) (x y : Option ToSend) (replies : List Reply) → bytes_of x ≡ bytes_of y → replied a x replies ≡ replied a y replies
same_replied a x y replies e = grind (arith, e)

-- ---- a frame that says nothing

-- a frame with no bytes
pub hushed : (own stamp id : ℕ) → said_to own (record { stamp = stamp; id = id; bytes = [] }) ≡ None
unfolding said_to said_between says_by
hushed own stamp id = grind arith

pub quiet_step : (r : ReceiverRecord) (f : FrameRecord) (now : ℕ) (found : Bool) → said_to r.own f ≡ None → recv_step r (Heard f) now found ≡ record { after = r; sends = None; delivers = None }
unfolding recv_step takes_signal
quiet_step r f now found e = ap (λ s. result_of r.own (frames.source_of f.id) (takes_signal (Directed (frames.source_of f.id) r.own) s now found r.session)) e

-- a packet that strays isn't shown to the receiver
pub stray_heard : (r : BoxedReceiver) (most : ℕ) (f : FrameRecord) (now : ℕ) → r.has_box ≡ true → strays (number_in (said_to r.state.own f)) r.state.session ≡ true
    → Receives r (shown r.state.own most r.state.session f) now (record { says = None; made = None }) r
stray_heard r most f now box e =
    let q = quiet_step r.state (shown r.state.own most r.state.session f) now true
    (ap (λ (b : Bool). said_to r.state.own (record { stamp = f.stamp; id = f.id; bytes = if b then [] else narrowed most f })) e ∙ hushed r.state.own f.stamp f.id) in
    record {
      state = sym (ap (λ (x : RecvResult). x.after) q);
      box = box;
      says = sym (ap (λ (x : RecvResult). bytes_of x.sends) q);
      made = sym (ap (λ (x : RecvResult). option_map (λ m. (m.source, m.pgn)) x.delivers) q);
      lends = subst (λ (x : RecvResult). IfSome x.delivers (λ m. r.lent ≡ Some (now, m))) (sym q) tt;
    }

-- ---- a step at a frame

-- what is said, where no more may be granted
abbrev pub with_most : ℕ → Option Signal → Option Signal
with_most most (Some (RequestToSend size packets asked pgn)) = Some (RequestToSend size packets (fewest most asked) pgn)
with_most most other = other

-- the other bytes of an RTS stay
record Else (xs ys : List ℕ) : Type 0 where
  size : length ys ≡ length xs
  at : (k : ℕ) → k ≢ 4 → slice_index ys k ≡ slice_index xs k

else_set : (xs : List ℕ) (v : ℕ) → Else xs (slice_set xs 4 v)
else_set xs v = record { size = length-set xs 4 v; at = λ k n. get_or-set_other xs 4 k v 0 n }

not_request : (own most : ℕ) (f : FrameRecord) → is_request f ≡ false → said_to own f ≡ with_most most (said_to own f)
unfolding said_to said_between says_by control_in request_in broadcast_in packed_in frames.source_of frames.destination_of frames.group_of
not_request own most f e = grind (arith, e)

-- what a control frame says
control_same : (most v : ℕ) (f g : FrameRecord) → g.id ≡ f.id → g.bytes ≡ slice_set f.bytes 4 v → length f.bytes ≡ 8 → nat_eq (slice_index f.bytes 0) 16 ≡ true
    → v ≡ fewest most (slice_index f.bytes 4) → control_in g ≡ with_most most (control_in f)
unfolding control_in request_in names_message
control_same most v f g id bytes l e is =
    let a0 = (else_set f.bytes v).at 0 (λ z. absurd (omega (arith, z))) in
    let a1 = (else_set f.bytes v).at 1 (λ z. absurd (omega (arith, z))) in
    let a2 = (else_set f.bytes v).at 2 (λ z. absurd (omega (arith, z))) in
    let a3 = (else_set f.bytes v).at 3 (λ z. absurd (omega (arith, z))) in
    let a5 = (else_set f.bytes v).at 5 (λ z. absurd (omega (arith, z))) in
    let a6 = (else_set f.bytes v).at 6 (λ z. absurd (omega (arith, z))) in
    let a7 = (else_set f.bytes v).at 7 (λ z. absurd (omega (arith, z))) in
    let a4 = get_or-set_same f.bytes 4 v 0 (omega (arith, l)) in
    grind (arith, id, bytes, e, is, a0, a1, a2, a3, a4, a5, a6, a7)

is_asked : (own most v : ℕ) (f : FrameRecord) → is_request f ≡ true → v ≡ fewest most (slice_index f.bytes 4)
    → said_to own (record { stamp = f.stamp; id = f.id; bytes = slice_set f.bytes 4 v }) ≡ with_most most (said_to own f)
unfolding said_to said_between says_by frames.source_of frames.destination_of frames.group_of
is_asked own most v f e is =
    let k = and_parts (nat_eq (pgn_of f.id) transport_control_group) (nat_eq (slice_index f.bytes 0) 16) e in
    let l = (else_set f.bytes v).size in
    let c = λ (m : length f.bytes ≡ 8). control_same most v f (record { stamp = f.stamp; id = f.id; bytes = slice_set f.bytes 4 v }) refl refl m k.1 is in
    grind (arith, k, l, c)

pub said_narrowed : (own most : ℕ) (f : FrameRecord) → said_to own (record { stamp = f.stamp; id = f.id; bytes = narrowed most f }) ≡ with_most most (said_to own f)
said_narrowed own most f =
    cond_both (is_request f) _ _ (λ (bytes : List ℕ). said_to own (record { stamp = f.stamp; id = f.id; bytes = bytes }) ≡ with_most most (said_to own f))
    (λ e. is_asked own most (fewest most (slice_index f.bytes 4)) f e refl) (λ e. not_request own most f e)

-- with no session no packet strays
pub said_shown : (own most : ℕ) (f : FrameRecord) → said_to own (shown own most None f) ≡ with_most most (said_to own f)
said_shown own most f = ap (λ (b : Bool). said_to own (record { stamp = f.stamp; id = f.id; bytes = if b then [] else narrowed most f })) (none_strays (number_in (said_to own f))) ∙ said_narrowed own most f
  where
    none_strays : (k : Option ℕ) → strays k None ≡ false
    none_strays k = grind arith

-- a refusal says the same
same_refusal : (own source most now : ℕ) (s : Option Signal) → takes_signal (Directed source own) (with_most most s) now false None ≡ takes_signal (Directed source own) s now false None
unfolding takes_signal takes_data takes_abort takes_request
same_refusal own source most now s = grind arith

-- by who has no session
pub refused : (own most : ℕ) (r : ReceiverRecord) (f : FrameRecord) (now : ℕ) (x : RecvResult) → r ≡ new_receiver own → recv_step r (Heard f) now false ≡ x
    → step_at own most false f now None ≡ x
unfolding recv_step frames.source_of
refused own most r f now x e g =
    ap (λ (s : Option Signal). result_of own (source_of f.id) (takes_signal (Directed (source_of f.id) own) s now false None)) (said_shown own most f)
    ∙ (ap (result_of own (source_of f.id)) (same_refusal own (source_of f.id) most now (said_to own f)) ∙ (ap (λ (s : ReceiverRecord). recv_step s (Heard f) now false) (sym e) ∙ g))

receiving_is : (x : Seat) (s : Option ReceptionRecord) → receiving (option_map (session_with x) s) ≡ s
receiving_is x s = grind arith

-- the step of a box is that of its session
pub step_is : (own most : ℕ) (f : FrameRecord) (now : ℕ) (x : Seat) (o : Option Session) → x.receiver.state.own ≡ own → o ≡ option_map (session_with x) x.receiver.state.session
    → step_at own most true f now o ≡ recv_step x.receiver.state (Heard (shown x.receiver.state.own most x.receiver.state.session f)) now true
step_is own most f now x o at e =
    let r = ap receiving e ∙ receiving_is x x.receiver.state.session in
    λ i. recv_step (record { own = sym at i; session = r i }) (Heard (shown (sym at i) most (r i) f)) now true

pub own_after : (r : ReceiverRecord) (f : FrameRecord) (now : ℕ) (found : Bool) → (recv_step r (Heard f) now found).after.own ≡ r.own
unfolding recv_step
own_after r f now found = refl

-- what is whole leaves no session
pub whole_closes : (r : ReceiverRecord) (f : FrameRecord) (now : ℕ) (found : Bool) → has_some (recv_step r (Heard f) now found).delivers ≡ true
    → (recv_step r (Heard f) now found).after.session ≡ None
unfolding recv_step takes_signal takes_data takes_abort takes_request takes_packet begun goes_on delivers_message asks_again grants granted_at
whole_closes r f now found e = grind (arith, e)

pub none_there : {T : Type 0} (o : Option T) (b : Bool) → b ≡ has_some o → b ≡ false → o ≡ None
none_there o b e f = grind (arith, e, f)

-- the message that a box tells is there
pub is_made : (o : Option MessageRecord) (x : Option (ℕ × ℕ)) → x ≡ option_map (λ m. (m.source, m.pgn)) o → has_some x ≡ has_some o
is_made o x e = grind (arith, e)

-- and it keeps it
pub is_kept : (b : Box Seat Global) (f : FrameRecord) (now : ℕ) (o : Option MessageRecord) → stamp_micros b.value.stamp ≡ f.stamp
    → IfSome o (λ m. b.value.receiver.lent ≡ Some (now, m)) → IfSome o (λ m. kept_in b ≡ (f.stamp, m))
is_kept b f now None e h = tt
is_kept b f now (Some m) e h = λ i. (e i, lent_in (h i))

-- where its message is whole
pub put_whole : (s : SessionsRecord) (a since : ℕ) (name : Option ℕ) (f : FrameRecord) (x : RecvResult) (kept : ℕ × MessageRecord) → has_some x.delivers ≡ true → x.after.session ≡ None
    → IfSome x.delivers (λ m. kept ≡ (f.stamp, m))
    → (let z : SessionsRecord = record { own = s.own; most = s.most; boxes = s.boxes + 1; sessions = s.sessions; waits = s.waits ++ kept ∷ []; senders = s.senders ++ name ∷ []; replies = replied a x.sends s.replies } in z)
    ≡ record (put_in a since name f x s) { boxes = s.boxes + 1 }
put_whole s a since name f x kept e n k = grind (arith, e, n, k, append-nil)

-- where it isn't
pub put_open : (s : SessionsRecord) (a since : ℕ) (name : Option ℕ) (f : FrameRecord) (x : RecvResult) → x.delivers ≡ None
    → (let z : SessionsRecord = record { own = s.own; most = s.most; boxes = s.boxes + 1; sessions = s.sessions ++ listed (option_map (λ r. record { reception = r; since = since; name = name }) x.after.session); waits = s.waits; senders = s.senders; replies = replied a x.sends s.replies } in z)
    ≡ record (put_in a since name f x s) { boxes = s.boxes + 1 }
put_open s a since name f x e = grind (arith, e, append-nil)

-- ---- where there is no room

pub refuses_step : (r : ReceiverRecord) (f : FrameRecord) (now : ℕ) → r.session ≡ None
    → ((recv_step r (Heard f) now false).after.session ≡ None) × ((recv_step r (Heard f) now false).delivers ≡ None)
unfolding recv_step takes_signal takes_data takes_abort takes_request
refuses_step r f now e = (grind (arith, e), grind (arith, e))

pub refusing : (s : SessionsRecord) (now : ℕ) (name : Option ℕ) (f : FrameRecord) → is_of_session s.own f ≡ true → of (source_of f.id) s.sessions ≡ None
    → nat_lt (length s.sessions + length s.waits) s.boxes ≡ false
    → (made now f s ≡ None) × (hears now name f s ≡ record s { replies = replied (source_of f.id) (step_at s.own s.most false f now None).sends s.replies })
refusing s now name f e g l =
    let q = refuses_step (record { own = s.own; session = None }) (shown s.own s.most None f) now refl in
    let o = none_other (source_of f.id) s.sessions g in
    (grind (arith, e, g, l, q), grind (arith, e, g, l, q, o, append-nil))

-- ---- a tick

pub own_ticked : (own now : ℕ) (x : Session) → (tick_of own now x).after.own ≡ own
unfolding recv_step
own_ticked own now x = grind arith

-- of an open session whose time isn't over it is the receiver's
pub tick_is : (s : ReceiverRecord) (x : Session) (now : ℕ) (found : Bool) → IsSome s.session → x.reception ≡ or_blank s.session → is_over now x ≡ false
    → tick_of s.own now x ≡ recv_step s Tick now found
unfolding recv_step
tick_is s x now found some is over = go s.session some is
  where
    go : (o : Option ReceptionRecord) → IsSome o → x.reception ≡ or_blank o → tick_of s.own now x ≡ recv_step (record { own = s.own; session = o }) Tick now found
    go None h e = absurd (cc)
    go (Some r) h e =
        ap (λ (b : Bool). if b then result_of s.own (from x) (answers None (Rattle.j39_sessions.proofs.Common.Abort 3 x.reception.message.group)) else recv_step (record { own = s.own; session = Some x.reception }) Tick now true) over
        ∙ ap (λ (q : ReceptionRecord). recv_step (record { own = s.own; session = Some q }) Tick now true) e

-- ---- where nothing was taken out

pub none_left : {T : Type 0} (o : Option T) (n : ℕ) → (0 < n → IsSome o) → o ≡ None → n ≡ 0
none_left o n f e = grind (arith, f, e)
