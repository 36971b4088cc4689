-- What a receiver answers requests nothing.
use Rattle.std.proofs.Common.{[], ◌++◌, ◌≡◌, ◌≢◌, ◌∷◌, arith, Bool, filter, length, List, nat_eq, nat_lt, None, not, Option, refl, slice_index, Some, subst, ℕ}
use Rattle.std.proofs.lemmas.Bool.{cond_both}
use Rattle.std.proofs.lemmas.List.Elements.{All-append, All-cons, All-drop, All-filter, All-nil}
use Rattle.std.specs.List.{All}
use Rattle.std.specs.Option.{option_map}
use Rattle.j39_frame.specs.Frame.{FrameRecord}
use Rattle.j39_frame.specs.Identifier.{source_of}
use Rattle.j39_transport.specs.Cutting.{ToSend}
use Rattle.j39_transport.specs.Frames as frames
use Rattle.j39_transport.specs.Key.{Directed}
use Rattle.j39_transport.specs.Receiving.{recv_step, RecvResult}
use Rattle.j39_transport.specs.Reception.{asks_again, begun, delivers_message, goes_on, granted_at, grants, ReceptionRecord, takes_abort, takes_data, takes_packet, takes_request, takes_signal, takes_tick}
use Rattle.j39_transport.specs.Signals.{Abort, Acknowledgment, BroadcastAnnounce, ClearToSend, Packet, RequestToSend, Signal, written}
use Rattle.j39_sessions.specs.Events.{after, Event, Hears, Leaves, Loses, Releases, Says, Ticks}
use Rattle.j39_sessions.specs.Sessions.{from, has_room, hears, is_left, is_of_session, is_over, of, places, replied, replies_ticked, Reply, Session, SessionsRecord, step_at, step_in, stepped, tick_of, unsaid, without}

-- its first byte isn't that of a request (RTS)
abbrev pub IsAnswer : Reply → Type 0
IsAnswer x = slice_index x.bytes 0 ≢ 16

abbrev SaysAnswer : Option ToSend → Type 0
SaysAnswer None = Unit {0}
SaysAnswer (Some x) = slice_index x.bytes 0 ≢ 16

abbrev Answers : Option Signal → Type 0
Answers None = Unit {0}
Answers (Some (Acknowledgment size packets pgn)) = Unit {0}
Answers (Some (ClearToSend count next pgn)) = Unit {0}
Answers (Some (Abort reason pgn)) = Unit {0}
Answers (Some (BroadcastAnnounce size packets pgn)) = ⊥
Answers (Some (RequestToSend size packets most pgn)) = ⊥
Answers (Some (Packet number part)) = ⊥

answers : (source own : ℕ) (s : Option Signal) (now : ℕ) (found : Bool) (o : Option ReceptionRecord) → Answers (takes_signal (Directed source own) s now found o).says
unfolding takes_signal takes_data takes_abort takes_request takes_packet begun goes_on delivers_message asks_again grants granted_at
answers source own s now found o = grind arith

ticks_answer : (now : ℕ) (o : Option ReceptionRecord) → Answers (takes_tick now o).says
unfolding takes_tick asks_again grants granted_at
ticks_answer now o = grind arith

is_written : (own a : ℕ) (s : Option Signal) → Answers s → SaysAnswer (option_map (written own a) s)
unfolding written
is_written own a None h = tt
is_written own a (Some (Acknowledgment size packets pgn)) h = λ e. absurd (omega (arith, e))
is_written own a (Some (ClearToSend count next pgn)) h = λ e. absurd (omega (arith, e))
is_written own a (Some (Abort reason pgn)) h = λ e. absurd (omega (arith, e))
is_written own a (Some (BroadcastAnnounce size packets pgn)) h = absurd h
is_written own a (Some (RequestToSend size packets most pgn)) h = absurd h
is_written own a (Some (Packet number part)) h = absurd h

step_answers : (own most : ℕ) (room : Bool) (f : FrameRecord) (now : ℕ) (o : Option Session) → SaysAnswer (step_at own most room f now o).sends
unfolding recv_step frames.source_of
step_answers own most room f now o = is_written own (source_of f.id) _ (answers (source_of f.id) own _ now room _)

tick_answers : (own now : ℕ) (x : Session) → SaysAnswer (tick_of own now x).sends
unfolding recv_step
tick_answers own now x =
    cond_both (is_over now x) _ _ (λ (y : RecvResult). SaysAnswer y.sends) (λ e. is_written own (from x) (Some (Abort 3 x.reception.message.group)) tt)
    (λ e. is_written own (from x) (takes_tick now (Some x.reception)).says (ticks_answer now (Some x.reception)))

-- ---- those that wait

module _ (P : Reply → Type 0) where
  others_are : (a : ℕ) (xs : List Reply) → All P xs → All P (without a xs)
  others_are a xs h = All-filter (λ (m : Reply). not (nat_eq a m.to)) P xs h

  -- where none is said all stay; else those to others, and it
  pub all_replied : (a : ℕ) (o : Option ToSend) (xs : List Reply) → (o ≡ None → All P xs) → All P (without a xs) → ((y : ToSend) → o ≡ Some y → P (record { to = a; bytes = y.bytes }))
      → All P (replied a o xs)
  all_replied a None xs stay other new = stay refl
  all_replied a (Some x) xs stay other new =
      cond_both (nat_lt (length (without a xs)) places) (without a xs ++ record { to = a; bytes = x.bytes } ∷ []) (without a xs) (All P)
      (λ t. All-append P (without a xs) (record { to = a; bytes = x.bytes } ∷ []) other (All-cons P (record { to = a; bytes = x.bytes }) [] (new x refl) (All-nil P))) (λ t. other)

  pub all_ticked : (own now : ℕ) (xs : List Session) (replies : List Reply) → ((x : Session) (y : ToSend) → (tick_of own now x).sends ≡ Some y → P (record { to = from x; bytes = y.bytes }))
      → All P replies → All P (replies_ticked own now xs replies)
  all_ticked own now [] replies new h = h
  all_ticked own now (x ∷ xs) replies new h =
      all_ticked own now xs (replied (from x) (tick_of own now x).sends replies) new
      (all_replied (from x) (tick_of own now x).sends replies (λ e. h) (others_are (from x) replies h) (new x))

  pub all_unsaid : (xs : List Session) (replies : List Reply) → All P replies → All P (unsaid xs replies)
  all_unsaid [] replies h = h
  all_unsaid (x ∷ xs) replies h = all_unsaid xs (without (from x) replies) (others_are (from x) replies h)

said_some : (o : Option ToSend) (y : ToSend) → o ≡ Some y → SaysAnswer o → slice_index y.bytes 0 ≢ 16
said_some o y e h = subst SaysAnswer e h

all_heard : (s : SessionsRecord) (now : ℕ) (name : Option ℕ) (f : FrameRecord) → All IsAnswer s.replies → All IsAnswer (hears now name f s).replies
all_heard s now name f h =
    cond_both (is_of_session s.own f) (stepped (source_of f.id) now name f (of (source_of f.id) s.sessions) (step_in now f s) s) s (λ (x : SessionsRecord). All IsAnswer x.replies)
    (λ e. all_replied IsAnswer (source_of f.id) (step_in now f s).sends s.replies (λ n. h) (others_are IsAnswer (source_of f.id) s.replies h)
    (λ y n. said_some (step_in now f s).sends y n (step_answers s.own s.most (has_room (source_of f.id) s) f now (of (source_of f.id) s.sessions)))) (λ e. h)

pub all_answer : (own most boxes : ℕ) (E : List Event) → All IsAnswer (after own most boxes E).replies
all_answer own most boxes [] = All-nil IsAnswer
all_answer own most boxes (Hears now name f ∷ E) = all_heard (after own most boxes E) now name f (all_answer own most boxes E)
all_answer own most boxes (Ticks now ∷ E) =
    let s = after own most boxes E in
    all_ticked IsAnswer s.own now s.sessions s.replies (λ x y e. said_some (tick_of s.own now x).sends y e (tick_answers s.own now x)) (all_answer own most boxes E)
all_answer own most boxes (Leaves gone holder ∷ E) =
    all_unsaid IsAnswer (filter (is_left gone holder) (after own most boxes E).sessions) (after own most boxes E).replies (all_answer own most boxes E)
all_answer own most boxes (Loses ∷ E) = All-nil IsAnswer
all_answer own most boxes (Releases ∷ E) = all_answer own most boxes E
all_answer own most boxes (Says ∷ E) = All-drop IsAnswer 1 (after own most boxes E).replies (all_answer own most boxes E)
