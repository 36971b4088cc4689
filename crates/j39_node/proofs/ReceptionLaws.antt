-- The laws of messages that come in packets: what each call makes of the session of a source.
use Rattle.j39_node.proofs.Common.{[], Abort, Address, address_after, Again, All, all_replies, ap, append-nil, AreReceived, arith, asked, At, Bool, Call, CameFromOne, claim_of, claimed, Controller, delivered, destination_of, Directed, drop, earliest_session, eqb-true, events, false, filter, first, found_by, FrameRecord, frames_heard, got_transfers, granted_at, grants, has_some, Hear, heard_at, heard_by, held_then, holder, holds, if_heard, if◌then◌else◌, inl, inr, Is, is_acknowledgment, is_claim, is_held, is_lost, is_move, is_overdue, is_reply, is_same, is_smaller, is_transfer, IsReceived, IsTrue, KeepsHolder, known, known_by, later, leaves, length, List, listed, Lost, lost, lt-ltb, made_in_sessions, map, Message, message_of, MessageRecord, moment, Move, nat_eq, nat_lt, next_acknowledgment, None, not, not-false, not_both, of, of_source, older, Option, option_map, or_parts, reception, ReceptionRecord, recv_step, refl, ReleaseTransfer, RequestToSend, restarts, result_of, said_from, said_to, said_to_frame, SaidReply, says, Session, session, session_tick, sessions_after, SessionsRecord, Signal, Single, slice_get, Some, source_of, stamp_at, step, still, subst, suc, sym, take, TakeFrame, taken_by, takes_request, takes_signal, Tick, tick_at, time_heard, ToSend, true, WereHanded, Who, whole, written, yields, ℕ, ◌++◌, ◌+◌, ◌-◌, ◌<◌, ◌||◌, ◌↔◌, ◌∙◌, ◌∷◌, ◌≡◌, ◌≢◌, ◌≤◌, ◌⊎◌}
use Rattle.j39_sessions.specs.Events.{delivered as delivered_by, Event, released as released_by_events}
use Rattle.j39_sessions.specs.Sessions.{reply_to, sessions_ticked, from, has_room, hears as sessions_hear, is_left, is_of_session, is_that as is_address, name_by, receiving, replied, replies_ticked, said, session_by, session_ticked, since_by, step_at, step_in, stepped, tick_of, unsaid, without}
use Rattle.j39_sessions.specs.Events.{ticked_of}
use Rattle.j39_sessions.proofs.HandedLemmas.{all_few, Fewer, handed_step, handed_tick, refuses}
use Rattle.j39_sessions.proofs.LawLemmas.{senders_made, each_apart, of_from, kept_ticked, ticked_alone, in_order as in_order_of_events, of_its}
use Rattle.j39_sessions.proofs.SourceLemmas.{grants_few, tick_told, soonest_is, delivers_its, heard_cases, kept, made_tells, none_from, none_left, of_filter, of_kept, tick_says, tick_waits as waits_by, without_replied}
use Rattle.j39_node.proofs.ReceptionLemmas.{apart, found_was, reply_of, HeardSince, its_source, left, own, since_now, since_on, taken_is, unclaimed_known}
use Rattle.j39_node.proofs.HearingLemmas.{same_is}
use Rattle.j39_node.proofs.PacketLemmas.{not_session, session_no_claim, said_no_claim}
use Rattle.j39_sessions.proofs.BringLemmas.{session_said}
use Rattle.j39_sessions.proofs.StepLemmas.{said_shown, with_most}
use Rattle.j39_transport.specs.Reception.{begun as opens}
use Rattle.j39_node.proofs.SoundLemmas.{none_next, turned, FrameCase, frame_case, lost_older, lost_unclaimed}
use Rattle.j39_node.proofs.SoundLemmas.FrameCase.{claims, acknowledges, replies, sends, packs, transfers}
use Rattle.j39_node.proofs.KindLemmas.{claims_it, acknowledges_it, replies_it}
use Rattle.j39_node.specs.declared.turn.Turn.TheVariants.{Packet}
use Rattle.std.proofs.lemmas.Bool.{cases_lt, cond-true}
use Rattle.std.proofs.lemmas.Option.{cond_some}
use Rattle.j39_node.proofs.RestartLaws.{differs, means}
use Rattle.j39_transport.specs.Frames as frames
use Rattle.j39_transport.specs.ReceiverStands.{passed, WasHanded}

-- ---- which calls touch sessions

-- a call by which neither a frame is heard, nor time passes
abbrev pub is_other : Call → Bool
is_other (At now (Hear f)) = false
is_other (At now Tick) = false
is_other call = true

-- what a call leaves of the sessions that it doesn't step
pub record Was (w : Who) (H : List Call) (call : Call) (a : ℕ) (x : Session) : Type 0 where
  pub is : session w H a ≡ Some x
  pub holder_is : holder w (call ∷ H) a ≡ known_by w call H a

-- the NAME of what isn't left holds its source
name_is : (gone : Option ℕ) (holds : ℕ → Option ℕ) (x : Session) → is_left gone holds x ≡ false → (is_address (from x) gone ≡ false) × (x.name ≡ holds (from x))
name_is gone holds x e = let p = or_parts _ _ e in (p.0, same_is _ _ (not-false _ p.1))

named_found : (w : Who) (H : List Call) (when : ℕ) (f : FrameRecord) (a : ℕ) (x : Session) → of_source a (found_by w H when f).sessions ≡ Some x → x.name ≡ holder w (At when (Hear f) ∷ H) a
named_found w H when f a x e =
    let was = found_was w H when f a x e in
    (name_is (restarts w H when f) (holder w (At when (Hear f) ∷ H)) x was.1).1 ∙ ap (holder w (At when (Hear f) ∷ H)) (its_source w H a x was.0)

module _ (w : Who) (H : List Call) (when : ℕ) (f : FrameRecord) (a : ℕ) where
  abbrev time : ℕ
  time = time_heard (At when (Hear f) ∷ H)

  abbrev name : Option ℕ
  name = holder w (At when (Hear f) ∷ H) (source_of f.id)

  -- what the session of a source becomes by a frame: the address is lost; the frame is none of its session; or it takes its step
  pub hear_cases : (Q : Option Session → Type 0) → (is_smaller w (claim_of f) ≡ true → Q None)
      → ((holds w H when ≡ false) ⊎ ((source_of f.id ≢ a) ⊎ (is_of_session w.address f ≡ false)) → Q (of_source a (found_by w H when f).sessions))
      → (is_smaller w (claim_of f) ≡ false → holds w H when ≡ true → source_of f.id ≡ a → is_of_session w.address f ≡ true
      → (o : Option Session) → of_source (source_of f.id) (found_by w H when f).sessions ≡ o
      → Q (option_map (session_by (since_by time o) (name_by name o)) (step_at w.address w.window (has_room (source_of f.id) (found_by w H when f)) f time o).after.session))
      → Q (session w (At when (Hear f) ∷ H) a)
  hear_cases Q lost aside its = go (is_smaller w (claim_of f)) refl (holds w H when) refl
    where
      s : SessionsRecord
      s = found_by w H when f

      o : ((found_by w H when f).own ≡ w.address) × ((found_by w H when f).boxes ≡ w.sessions) × ((found_by w H when f).most ≡ w.window)
      o = own w H

      here : (source_of f.id ≢ a) ⊎ (is_of_session s.own f ≡ false) → (source_of f.id ≢ a) ⊎ (is_of_session w.address f ≡ false)
      here (inl n) = inl n
      here (inr e) = inr (ap (λ (n : ℕ). is_of_session n f) (sym o.0) ∙ e)

      go : (x : Bool) → is_smaller w (claim_of f) ≡ x → (y : Bool) → holds w H when ≡ y → Q (of_source a (sessions_after w (heard_by x y time name f (left w H when f))).sessions)
      go true i y k = lost i
      go false i false k = aside (inl k)
      go false i true k =
          heard_cases s time name f a Q (each_apart w.address w.window w.sessions (left w H when f))
          (λ n. aside (inr (here n)))
          (λ e q. subst (λ (n : ℕ). Q (option_map (session_by (since_by time (of_source (source_of f.id) s.sessions)) (name_by name (of_source (source_of f.id) s.sessions))) (step_at n s.most (has_room (source_of f.id) s) f time (of_source (source_of f.id) s.sessions)).after.session)) (sym o.0)
          (subst (λ (n : ℕ). Q (option_map (session_by (since_by time (of_source (source_of f.id) s.sessions)) (name_by name (of_source (source_of f.id) s.sessions))) (step_at w.address n (has_room (source_of f.id) s) f time (of_source (source_of f.id) s.sessions)).after.session)) (sym o.2)
          (its i k e (ap (λ (n : ℕ). is_of_session n f) (sym o.0) ∙ q) (of_source (source_of f.id) s.sessions) refl)))

-- by a tick
pub tick_is : (w : Who) (H : List Call) (now a : ℕ) → session w (At now Tick ∷ H) a ≡ ticked_of w.address (time_heard (At now Tick ∷ H)) (session w H a)
tick_is w H now a = ticked_alone w.address w.window w.sessions (time_heard (At now Tick ∷ H)) a (events w H)

pub ticked_some : (own now : ℕ) (o : Option Session) (y : Session) → ticked_of own now o ≡ Some y → (x : Session) × (o ≡ Some x) × (session_ticked own now x ≡ Some y)
ticked_some own now None y e = absurd (cc)
ticked_some own now (Some x) y e = (x, refl, e)

-- by what else is called
named_only : (w : Who) (H : List Call) → ((a : ℕ) (x : Session) → session w H a ≡ Some x → x.name ≡ holder w H a) → (call : Call) → is_other call ≡ true
    → (a : ℕ) (x : Session) → session w (call ∷ H) a ≡ Some x → Was w H call a x
named_only w H n (At now (TakeFrame (Some f))) o a x e = go (is_claim f) refl (is_reply (all_replies w H) f) refl e
  where
    G : List Call
    G = At now (TakeFrame (Some f)) ∷ H

    same : is_claim f ≡ false → holder w G a ≡ holder w H a
    same e = ap (λ (b : Bool). if b then held_then a (claim_of f) (holder w H a) else holder w H a) e

    go : (b : Bool) → is_claim f ≡ b → (c : Bool) → is_reply (all_replies w H) f ≡ c → of_source a (sessions_after w (taken_by b c (holder w G) (events w H))).sessions ≡ Some x → Was w H (At now (TakeFrame (Some f))) a x
    go true i c k e =
        let was = of_kept (is_left None (holder w G)) (session w H a) x (sym (of_filter (λ y. not (is_left None (holder w G) y)) a (reception w H).sessions (apart w H)) ∙ e) in
        record { is = was.0; holder_is = ap (holder w G) (sym (its_source w H a x was.0)) ∙ (sym (name_is None (holder w G) x was.1).1 ∙ n a x was.0) }
    go false i true k e = record { is = e; holder_is = same i }
    go false i false k e = record { is = e; holder_is = same i }
named_only w H n (ReleaseTransfer true) o a x e = record { is = e; holder_is = refl }
named_only w H n (ReleaseTransfer false) o a x e = record { is = e; holder_is = refl }
named_only w H n (At now (Hear f)) o a x e = absurd (cc)
named_only w H n (At now Tick) o a x e = absurd (cc)
named_only w H n call o a x e = record { is = e; holder_is = refl }

pub named : (w : Who) (H : List Call) (a : ℕ) (x : Session) → session w H a ≡ Some x → x.name ≡ holder w H a
named w [] a x e = absurd (cc)
named w (At when (Hear f) ∷ H) a x e =
    hear_cases w H when f a (λ (o : Option Session). o ≡ Some x → x.name ≡ holder w (At when (Hear f) ∷ H) a) (λ l e. absurd (cc)) (λ n e. named_found w H when f a x e)
    (λ l h i q o k e. name_of i o k (by_name _ _ _ x e)) e
  where
    by_name : (since : ℕ) (name : Option ℕ) (r : Option ReceptionRecord) (x : Session) → option_map (session_by since name) r ≡ Some x → x.name ≡ name
    by_name since name None x e = absurd (cc)
    by_name since name (Some r) x e = let z : session_by since name r ≡ x = cc in ap (λ (y : Session). y.name) (sym z)

    name_of : source_of f.id ≡ a → (o : Option Session) → of_source (source_of f.id) (found_by w H when f).sessions ≡ o → x.name ≡ name_by (holder w (At when (Hear f) ∷ H) (source_of f.id)) o
        → x.name ≡ holder w (At when (Hear f) ∷ H) a
    name_of i None k e = e ∙ ap (holder w (At when (Hear f) ∷ H)) i
    name_of i (Some y) k e = e ∙ (named_found w H when f (source_of f.id) y k ∙ ap (holder w (At when (Hear f) ∷ H)) i)
named w (At now Tick ∷ H) a x e =
    let t = ticked_some w.address (time_heard (At now Tick ∷ H)) (session w H a) x (sym (tick_is w H now a) ∙ e) in
    (kept_ticked w.address (time_heard (At now Tick ∷ H)) t.0 x t.2).1 ∙ named w H a t.0 t.1
named w (call ∷ H) a x e = let was = named_only w H (named w H) call refl a x e in named w H a x was.is ∙ sym was.holder_is

pub was_before : (w : Who) (H : List Call) (call : Call) → is_other call ≡ true → (a : ℕ) (x : Session) → session w (call ∷ H) a ≡ Some x → Was w H call a x
was_before w H call = named_only w H (named w H) call

-- what a frame finds has its holder
pub found_before : (w : Who) (H : List Call) (when : ℕ) (f : FrameRecord) (a : ℕ) (x : Session) → of_source a (found_by w H when f).sessions ≡ Some x → Was w H (At when (Hear f)) a x
found_before w H when f a x e =
    let was = found_was w H when f a x e in
    let n = name_is (restarts w H when f) (holder w (At when (Hear f) ∷ H)) x was.1 in
    let s = its_source w H a x was.0 in
    let k = named_found w H when f a x e in
    let l = named w H a x was.0 in
    record { is = was.0; holder_is = sym k ∙ (l ∙ stays (restarts w H when f) (ap (λ (b : ℕ). is_address b (restarts w H when f)) (sym s) ∙ n.0)) }
  where
    stays : (gone : Option ℕ) → is_address a gone ≡ false → holder w H a ≡ still gone (holder w H) a
    stays None e = refl
    stays (Some b) e = grind (arith, e)

-- ---- frames that aren't for a session

pub is_same_of : (m n : Option ℕ) → m ≡ n → is_same m n ≡ true
is_same_of m n e = grind (arith, e)

-- one whose source has its holder still isn't left
pub not_left : (w : Who) (H : List Call) (when : ℕ) (f : FrameRecord) (a : ℕ) (x : Session) → from x ≡ a → x.name ≡ holder w H a → holder w (At when (Hear f) ∷ H) a ≡ known w H when f a
    → is_left (restarts w H when f) (holder w (At when (Hear f) ∷ H)) x ≡ false
not_left w H when f a x i n h = go (restarts w H when f) refl
  where
    still_is : (b : ℕ) → nat_eq a b ≡ false → holder w H a ≡ still (Some b) (holder w H) a
    still_is b k = grind (arith, k)

    same : (g : Option ℕ) → restarts w H when f ≡ g → holder w H a ≡ still g (holder w H) a → not (is_same x.name (holder w (At when (Hear f) ∷ H) (from x))) ≡ false
    same g e k =
        ap not (is_same_of x.name _ (n ∙ (k ∙ (ap (λ (g : Option ℕ). still g (holder w H) a) (sym e) ∙ (sym h ∙ ap (holder w (At when (Hear f) ∷ H)) (sym i))))))

    go : (gone : Option ℕ) → restarts w H when f ≡ gone → is_left gone (holder w (At when (Hear f) ∷ H)) x ≡ false
    go None e = same None e refl
    go (Some b) e = by (nat_eq a b) refl
      where
        by : (t : Bool) → nat_eq a b ≡ t → is_left (Some b) (holder w (At when (Hear f) ∷ H)) x ≡ false
        by true k = absurd (differs w H when a f (e ∙ ap Some (sym (eqb-true _ _ k))) h)
        by false k = let m = same (Some b) e (still_is b k) in (λ j. (ap (λ (c : ℕ). nat_eq c b) i ∙ k) j || m j)

-- none is left by a frame where each has its holder still
pub all_found : (w : Who) (H : List Call) (when : ℕ) (f : FrameRecord)
    → ((a : ℕ) (x : Session) → session w H a ≡ Some x → holder w (At when (Hear f) ∷ H) a ≡ known w H when f a) → found_by w H when f ≡ reception w H
all_found w H when f same =
    none_left (restarts w H when f) (holder w (At when (Hear f) ∷ H)) (reception w H) (apart w H)
    (λ a x e. not_left w H when f a x (its_source w H a x e) (named w H a x e) (same a x e))

-- nor by one that claims nothing
unclaimed_still : (w : Who) (H : List Call) (when : ℕ) (f : FrameRecord) (a : ℕ) → claim_of f ≡ None → known w H when f a ≡ holder w H a
unclaimed_still w H when f a e = grind (arith, e)

pub unclaimed_found : (w : Who) (H : List Call) (when : ℕ) (f : FrameRecord) → claim_of f ≡ None → found_by w H when f ≡ reception w H
unclaimed_found w H when f e = all_found w H when f (λ a x g. unclaimed_known w H when f a e)

pub not_driven : (w : Who) (f : FrameRecord) → claim_of f ≡ None → is_smaller w (claim_of f) ≡ false
not_driven w f e = ap (is_smaller w) e

-- what claims nothing is heard at the address that is held
pub heard_is : (w : Who) (H : List Call) (when : ℕ) (f : FrameRecord) → holds w H when ≡ true → claim_of f ≡ None
    → reception w (At when (Hear f) ∷ H) ≡ sessions_hear (time_heard (At when (Hear f) ∷ H)) (holder w (At when (Hear f) ∷ H) (source_of f.id)) f (reception w H)
heard_is w H when f held none =
    (λ i. sessions_after w (heard_by (not_driven w f none i) (held i) (time_heard (At when (Hear f) ∷ H)) (holder w (At when (Hear f) ∷ H) (source_of f.id)) f (left w H when f)))
    ∙ ap (sessions_hear (time_heard (At when (Hear f) ∷ H)) (holder w (At when (Hear f) ∷ H) (source_of f.id)) f) (unclaimed_found w H when f none)

-- and where it isn't held, nothing is
pub unheld : (w : Who) (H : List Call) (when : ℕ) (f : FrameRecord) → holds w H when ≡ false → claim_of f ≡ None → reception w (At when (Hear f) ∷ H) ≡ reception w H
unheld w H when f held none =
    (λ i. sessions_after w (heard_by (not_driven w f none i) (held i) (time_heard (At when (Hear f) ∷ H)) (holder w (At when (Hear f) ∷ H) (source_of f.id)) f (left w H when f)))
    ∙ unclaimed_found w H when f none

-- so its session takes its step
pub steps : (w : Who) (H : List Call) (when : ℕ) (f : FrameRecord) (o : Option Session) → holds w H when ≡ true → is_of_session w.address f ≡ true → session w H (source_of f.id) ≡ o
    → session w (At when (Hear f) ∷ H) (source_of f.id)
    ≡ option_map (session_by (since_by (time_heard (At when (Hear f) ∷ H)) o) (name_by (holder w (At when (Hear f) ∷ H) (source_of f.id)) o))
    (step_at w.address w.window (has_room (source_of f.id) (reception w H)) f (time_heard (At when (Hear f) ∷ H)) o).after.session
steps w H when f o held of e =
    ap (λ (s : SessionsRecord). of_source (source_of f.id) s.sessions) (heard_is w H when f held (session_no_claim w.address f of))
    ∙ of_its w.address w.window w.sessions (time_heard (At when (Hear f) ∷ H)) (holder w (At when (Hear f) ∷ H) (source_of f.id)) f (events w H) o of (sym e)

-- what isn't of a session changes none where each has its holder still
pub aside : (w : Who) (H : List Call) (when : ℕ) (f : FrameRecord) → is_smaller w (claim_of f) ≡ false → is_of_session w.address f ≡ false → found_by w H when f ≡ reception w H
    → reception w (At when (Hear f) ∷ H) ≡ reception w H
aside w H when f e n same = go (is_smaller w (claim_of f)) e (holds w H when) ∙ same
  where
    t : ℕ
    t = time_heard (At when (Hear f) ∷ H)

    name : Option ℕ
    name = holder w (At when (Hear f) ∷ H) (source_of f.id)

    go : (x : Bool) → x ≡ false → (y : Bool) → sessions_after w (heard_by x y t name f (left w H when f)) ≡ found_by w H when f
    go true i y = absurd (cc)
    go false i false = refl
    go false i true =
        ap (λ (b : Bool). if b then stepped (source_of f.id) t name f (of_source (source_of f.id) (found_by w H when f).sessions) (step_in t f (found_by w H when f)) (found_by w H when f) else found_by w H when f)
        (ap (λ (m : ℕ). is_of_session m f) (own w H).0 ∙ n)

pub to_others : (w : Who) (H : List Call) (when : ℕ) (f : FrameRecord) → is_smaller w (claim_of f) ≡ false
    → ((a : ℕ) (x : Session) → session w H a ≡ Some x → holder w (At when (Hear f) ∷ H) a ≡ known w H when f a)
    → destination_of f.id ≢ Some w.address → reception w (At when (Hear f) ∷ H) ≡ reception w H
to_others w H when f e same n = aside w H when f e (not_session w.address f n) (all_found w H when f same)

pub not_lost : (b : Bool) (a : Address) → is_lost (if b then Lost else a) ≡ false → b ≡ false
not_lost b a e = grind (arith, e)

-- where the session's source has its holder still, it is found
pub is_found : (w : Who) (H : List Call) (when : ℕ) (f : FrameRecord) (a : ℕ) (x : Session) → holder w (At when (Hear f) ∷ H) a ≡ known w H when f a → session w H a ≡ Some x
    → of_source a (found_by w H when f).sessions ≡ Some x
is_found w H when f a x same e =
    of_filter (λ y. not (is_left (restarts w H when f) (holder w (At when (Hear f) ∷ H)) y)) a (reception w H).sessions (apart w H)
    ∙ (ap (kept (λ y. not (is_left (restarts w H when f) (holder w (At when (Hear f) ∷ H)) y))) e
    ∙ ap (λ (b : Bool). if not b then Some x else None) (not_left w H when f a x (its_source w H a x e) (named w H a x e) same))

-- and stays, if the frame is no other step of it
pub spared : (w : Who) (H : List Call) (when a : ℕ) (f : FrameRecord) (x : Session) → is_smaller w (claim_of f) ≡ false → of_source a (found_by w H when f).sessions ≡ Some x
    → (holds w H when ≡ true → source_of f.id ≡ a → is_of_session w.address f ≡ true
    → (step_at w.address w.window (has_room (source_of f.id) (found_by w H when f)) f (time_heard (At when (Hear f) ∷ H)) (Some x)).after.session ≡ Some x.reception)
    → session w (At when (Hear f) ∷ H) a ≡ Some x
spared w H when a f x lost e its = go (is_smaller w (claim_of f)) lost (holds w H when) refl
  where
    s : SessionsRecord
    s = found_by w H when f

    o : (s.own ≡ w.address) × (s.boxes ≡ w.sessions) × (s.most ≡ w.window)
    o = own w H

    t : ℕ
    t = time_heard (At when (Hear f) ∷ H)

    name : Option ℕ
    name = holder w (At when (Hear f) ∷ H) (source_of f.id)

    go : (x' : Bool) → x' ≡ false → (y : Bool) → holds w H when ≡ y → of_source a (sessions_after w (heard_by x' y t name f (left w H when f))).sessions ≡ Some x
    go true i y k = absurd (cc)
    go false i false k = e
    go false i true k =
        heard_cases s t name f a (λ (p : Option Session). p ≡ Some x) (each_apart w.address w.window w.sessions (left w H when f)) (λ n. e)
        (λ q r. (let at : of_source (source_of f.id) s.sessions ≡ Some x = ap (λ (n : ℕ). of_source n s.sessions) q ∙ e in
        (λ j. option_map (session_by (since_by t (at j)) (name_by name (at j))) (step_at (o.0 j) (o.2 j) (has_room (source_of f.id) s) f t (at j)).after.session)
        ∙ ap (option_map (session_by x.since x.name)) (its k q (ap (λ (n : ℕ). is_of_session n f) (sym o.0) ∙ r))))

pub from_others : (w : Who) (H : List Call) (when a : ℕ) (f : FrameRecord) (x : Session) → is_lost (address_after w (At when (Hear f) ∷ H)) ≡ false
    → holder w (At when (Hear f) ∷ H) a ≡ known w H when f a → session w H a ≡ Some x → source_of f.id ≢ a → session w (At when (Hear f) ∷ H) a ≡ Some x
from_others w H when a f x lost same e n =
    spared w H when a f x (not_lost (is_smaller w (claim_of f)) _ lost) (is_found w H when f a x same e) (λ h i q. absurd (n i))

-- one whose source restarts ends
pub ended_by : (w : Who) (H : List Call) (when a : ℕ) (f : FrameRecord) → restarts w H when f ≡ Some a → session w (At when (Hear f) ∷ H) a ≡ None
ended_by w H when a f g =
    hear_cases w H when f a (λ (o : Option Session). o ≡ None) (λ l. refl) (λ n. none)
    (λ l h i q o k. absurd (let m = (means w H when a f).0 g in let z : None ≡ Some m.0 = sym (session_no_claim w.address f q) ∙ m.1 in cc))
  where
    none : of_source a (found_by w H when f).sessions ≡ None
    none = go (of_source a (found_by w H when f).sessions) refl
      where
        go : (o : Option Session) → of_source a (found_by w H when f).sessions ≡ o → o ≡ None
        go None e = refl
        go (Some x) e = absurd (differs w H when a f g (found_before w H when f a x e).holder_is)

-- ---- each once, in order

list_none : {T : Type 0} (xs : List T) → xs ≡ xs ++ []
list_none xs = sym (append-nil xs)

delivered_is : (w : Who) (H : List Call) → delivered w H ≡ delivered_by w.address w.window w.sessions (events w H)
delivered_is w [] = refl
delivered_is w (At when (Hear f) ∷ H) = go (delivered_is w H) (is_smaller w (claim_of f)) (holds w H when)
  where
    t : ℕ
    t = time_heard (At when (Hear f) ∷ H)

    name : Option ℕ
    name = holder w (At when (Hear f) ∷ H) (source_of f.id)

    go : delivered w H ≡ delivered_by w.address w.window w.sessions (events w H) → (x y : Bool)
        → delivered w H ++ listed (option_map (λ m. (f.stamp, m)) (if_heard x y (made_in_sessions t f (found_by w H when f)))) ≡ delivered_by w.address w.window w.sessions (heard_by x y t name f (left w H when f))
    go h true y = append-nil (delivered w H) ∙ h
    go h false false = append-nil (delivered w H) ∙ h
    go h false true = ap (λ xs. xs ++ listed (option_map (λ m. (f.stamp, m)) (made_in_sessions t f (found_by w H when f)))) h
delivered_is w (At now (TakeFrame (Some f)) ∷ H) = go (delivered_is w H) (is_claim f) (is_reply (all_replies w H) f)
  where
    go : delivered w H ≡ delivered_by w.address w.window w.sessions (events w H) → (x y : Bool)
        → delivered w H ≡ delivered_by w.address w.window w.sessions (taken_by x y (holder w (At now (TakeFrame (Some f)) ∷ H)) (events w H))
    go h true y = h
    go h false true = h
    go h false false = h
delivered_is w (ReleaseTransfer true ∷ H) = delivered_is w H
delivered_is w (ReleaseTransfer false ∷ H) = delivered_is w H
delivered_is w (call ∷ H) = delivered_is w H

got_is : (w : Who) (H : List Call) → got_transfers w H ≡ released_by_events w.address w.window w.sessions (events w H)
got_is w [] = refl
got_is w (At when (Hear f) ∷ H) = go (got_is w H) (is_smaller w (claim_of f)) (holds w H when)
  where
    go : got_transfers w H ≡ released_by_events w.address w.window w.sessions (events w H) → (x y : Bool)
        → got_transfers w H ≡ released_by_events w.address w.window w.sessions (heard_by x y (time_heard (At when (Hear f) ∷ H)) (holder w (At when (Hear f) ∷ H) (source_of f.id)) f (left w H when f))
    go h true y = h
    go h false true = h
    go h false false = h
got_is w (At now (TakeFrame (Some f)) ∷ H) = go (got_is w H) (is_claim f) (is_reply (all_replies w H) f)
  where
    go : got_transfers w H ≡ released_by_events w.address w.window w.sessions (events w H) → (x y : Bool)
        → got_transfers w H ≡ released_by_events w.address w.window w.sessions (taken_by x y (holder w (At now (TakeFrame (Some f)) ∷ H)) (events w H))
    go h true y = h
    go h false true = h
    go h false false = h
got_is w (ReleaseTransfer true ∷ H) = ap (λ xs. xs ++ take 1 (reception w H).waits) (got_is w H)
got_is w (ReleaseTransfer false ∷ H) = got_is w H
got_is w (call ∷ H) = got_is w H

pub in_order : (w : Who) (H : List Call) → delivered w H ≡ got_transfers w H ++ (reception w H).waits
in_order w H = delivered_is w H ∙ (in_order_of_events w.address w.window w.sessions (events w H) ∙ ap (λ xs. xs ++ (reception w H).waits) (sym (got_is w H)))

pub released : (w : Who) (H : List Call) (c : Controller) (answer : Bool) → Is w (ReleaseTransfer answer ∷ H) c
    → (answer ≡ true ↔ ((x : ℕ × MessageRecord) × (xs : List (ℕ × MessageRecord)) × ((reception w H).waits ≡ x ∷ xs)))
released w H c answer is = some_waits answer (reception w H).waits is.answered.1
  where
    some_waits : {T : Type 0} (b : Bool) (xs : List T) → b ≡ nat_lt 0 (length xs) → (b ≡ true ↔ ((x : T) × (ys : List T) × (xs ≡ x ∷ ys)))
    some_waits b [] e = (λ z. (let y : true ≡ false = sym z ∙ e in absurd (cc)), λ z. (let y = z.2 in absurd (cc)))
    some_waits b (x ∷ xs) e = (λ z. (x, xs, refl), λ z. grind (arith, e))

-- ---- of one sender

-- the frames heard since its RTS hand over its packets
abbrev Handed : Who → ReceptionRecord → List Call → ℕ → FrameRecord → Type 0
Handed w r later at first = IsReceived w.address (frames_heard (later ++ At at (Hear first) ∷ [])) r

of_some : (since : ℕ) (name : Option ℕ) (r : Option ReceptionRecord) (x : Session) → option_map (session_by since name) r ≡ Some x → r ≡ Some x.reception
of_some since name None x e = absurd (cc)
of_some since name (Some r) x e = let z : session_by since name r ≡ x = cc in ap (λ (y : Session). Some y.reception) z

-- a call later
goes_on : (w : Who) (H : List Call) (call : Call) (a : ℕ) (x : Session) (r : ReceptionRecord) → Was w H call a x → HeardSince w H a (Handed w x.reception)
    → ((later : List Call) (at : ℕ) (first : FrameRecord) → Handed w x.reception later at first → Handed w r (call ∷ later) at first) → HeardSince w (call ∷ H) a (Handed w r)
goes_on w H call a x r was h on = since_on w H call a (Handed w x.reception) (Handed w r) h was.holder_is on

received_by : (own : ℕ) (F : List FrameRecord) (o : Option ReceptionRecord) (r : ReceptionRecord) → o ≡ Some r → AreReceived own F o → IsReceived own F r
received_by own F o r e h = subst (AreReceived own F) e h

pub begun : (w : Who) (H : List Call) (a : ℕ) (x : Session) → session w H a ≡ Some x → HeardSince w H a (Handed w x.reception)
begun w [] a x e = absurd (cc)
begun w (At when (Hear f) ∷ H) a x e =
    hear_cases w H when f a (λ (o : Option Session). o ≡ Some x → HeardSince w (At when (Hear f) ∷ H) a (Handed w x.reception)) (λ l e. absurd (cc))
    (λ n e. (let was = found_before w H when f a x e in
    goes_on w H (At when (Hear f)) a x x.reception was (begun w H a x was.is) (λ later at first s. record { packets_are = s.packets_are; joined_are = passed _ f _ _ s.joined_are })))
    (λ l h i q o k e. by i o k (of_some _ _ _ x e) (λ y was. begun w H a y was)) e
  where
    t : ℕ
    t = time_heard (At when (Hear f) ∷ H)

    by : source_of f.id ≡ a → (o : Option Session) → of_source (source_of f.id) (found_by w H when f).sessions ≡ o
        → (step_at w.address w.window (has_room (source_of f.id) (found_by w H when f)) f t o).after.session ≡ Some x.reception
        → ((y : Session) → session w H a ≡ Some y → HeardSince w H a (Handed w y.reception)) → HeardSince w (At when (Hear f) ∷ H) a (Handed w x.reception)
    by i None k e before =
        since_now w H when f a (Handed w x.reception) (received_by w.address (f ∷ []) _ x.reception e (handed_step w.address w.window [] (has_room (source_of f.id) (found_by w H when f)) f t None tt).session)
    by i (Some y) k e before =
        let was = found_before w H when f a y (ap (λ (n : ℕ). of_source n (found_by w H when f).sessions) (sym i) ∙ k) in
        goes_on w H (At when (Hear f)) a y x.reception was (before y was.is)
        (λ later at first s. received_by w.address _ _ x.reception e (handed_step w.address w.window (frames_heard (later ++ At at (Hear first) ∷ [])) (has_room (source_of f.id) (found_by w H when f)) f t (Some y) s).session)
begun w (At now Tick ∷ H) a x e =
    let t = ticked_some w.address (time_heard (At now Tick ∷ H)) (session w H a) x (sym (tick_is w H now a) ∙ e) in
    goes_on w H (At now Tick) a t.0 x.reception (record { is = t.1; holder_is = refl }) (begun w H a t.0 t.1)
    (λ later at first s. received_by w.address _ _ x.reception (of_some _ _ _ x t.2) (handed_tick w.address (frames_heard (later ++ At at (Hear first) ∷ [])) (time_heard (At now Tick ∷ H)) t.0 s))
begun w (call ∷ H) a x e = let was = was_before w H call refl a x e in goes_on w H call a x x.reception was (begun w H a x was.is) (λ later at first s. s)

-- what is made whole, by whom
made_by : (own most : ℕ) (room : Bool) (f : FrameRecord) (t : ℕ) (o : Option Session) (m : MessageRecord) → (step_at own most room f t o).delivers ≡ Some m → (y : Session) × (o ≡ Some y)
made_by own most room f t None m e = absurd (let z : None ≡ Some m = sym (none_from _ _ t room refl) ∙ e in cc)
made_by own most room f t (Some y) m e = (y, refl)

-- the message that a frame makes whole
pub whole_cases : (w : Who) (H : List Call) (when : ℕ) (f : FrameRecord) (m : MessageRecord) → whole w H when f ≡ Some m
    → (holds w H when ≡ true) × (is_of_session w.address f ≡ true)
    × ((step_at w.address w.window (has_room (source_of f.id) (found_by w H when f)) f (time_heard (At when (Hear f) ∷ H)) (of_source (source_of f.id) (found_by w H when f).sessions)).delivers ≡ Some m)
whole_cases w H when f m e = go (is_smaller w (claim_of f)) (holds w H when) (is_of_session (found_by w H when f).own f) refl e
  where
    s : SessionsRecord
    s = found_by w H when f

    o : (s.own ≡ w.address) × (s.boxes ≡ w.sessions) × (s.most ≡ w.window)
    o = own w H

    t : ℕ
    t = time_heard (At when (Hear f) ∷ H)

    go : (x y b : Bool) → is_of_session s.own f ≡ b → if_heard x y (if b then (step_in t f s).delivers else None) ≡ Some m
        → (y ≡ true) × (is_of_session w.address f ≡ true)
        × ((step_at w.address w.window (has_room (source_of f.id) s) f t (of_source (source_of f.id) s.sessions)).delivers ≡ Some m)
    go true y b i e = absurd (cc)
    go false false b i e = absurd (cc)
    go false true false i e = absurd (cc)
    go false true true i e = (
      refl,
      ap (λ (n : ℕ). is_of_session n f) (sym o.0) ∙ i,
      (λ j. (step_at (sym o.0 j) (sym o.2 j) (has_room (source_of f.id) s) f t (of_source (source_of f.id) s.sessions)).delivers) ∙ e,
    )

pub whole_source : (w : Who) (H : List Call) (when : ℕ) (f : FrameRecord) (m : MessageRecord) → whole w H when f ≡ Some m → m.source ≡ source_of f.id
whole_source w H when f m e =
    delivers_its w.address w.window (has_room (source_of f.id) (found_by w H when f)) f (time_heard (At when (Hear f) ∷ H)) (of_source (source_of f.id) (found_by w H when f).sessions) m
    (of_from (source_of f.id) (found_by w H when f).sessions) (whole_cases w H when f m e).2

-- what isn't of a session makes none
pub none_whole : (w : Who) (H : List Call) (when : ℕ) (f : FrameRecord) → is_of_session w.address f ≡ false → whole w H when f ≡ None
none_whole w H when f n = go (whole w H when f) refl
  where
    go : (o : Option MessageRecord) → whole w H when f ≡ o → o ≡ None
    go None e = refl
    go (Some m) e = absurd (let z : false ≡ true = sym n ∙ (whole_cases w H when f m e).1 in cc)

pub came : (w : Who) (H : List Call) (when : ℕ) (f : FrameRecord) (m : MessageRecord) → whole w H when f ≡ Some m → CameFromOne w (At when (Hear f) ∷ H) m
came w H when f m e = go (of_source (source_of f.id) (found_by w H when f).sessions) refl (whole_cases w H when f m e).2
  where
    a : ℕ
    a = source_of f.id

    room : Bool
    room = has_room a (found_by w H when f)

    t : ℕ
    t = time_heard (At when (Hear f) ∷ H)

    go : (o : Option Session) → of_source a (found_by w H when f).sessions ≡ o → (step_at w.address w.window room f t o).delivers ≡ Some m → CameFromOne w (At when (Hear f) ∷ H) m
    go o k d =
        let y = made_by w.address w.window room f t o m d in
        let was = found_before w H when f a y.0 (k ∙ y.1) in
        let from = delivers_its w.address w.window room f t (Some y.0) m (its_source w H a y.0 was.is) (ap (λ (o : Option Session). (step_at w.address w.window room f t o).delivers) (sym y.1) ∙ d) in
        let s = since_on w H (At when (Hear f)) a (Handed w y.0.reception) (λ later at first. WasHanded w.address (frames_heard (later ++ At at (Hear first) ∷ [])) m) (begun w H a y.0 was.is) was.holder_is
        (λ later at first h. subst (WereHanded w.address (frames_heard (later ++ At at (Hear first) ∷ []) ++ f ∷ [])) (ap (λ (o : Option Session). (step_at w.address w.window room f t o).delivers) (sym y.1) ∙ d)
        (handed_step w.address w.window (frames_heard (later ++ At at (Hear first) ∷ [])) room f t (Some y.0) h).delivers) in
        record {
          later = s.later;
          at = s.at;
          first = s.first;
          earlier = s.earlier;
          is = s.is;
          handed = s.stands;
          one = subst (λ (b : ℕ). KeepsHolder w b s.later (At s.at (Hear s.first) ∷ s.earlier)) (sym from) s.one;
        }

-- ---- what is said

pub acknowledged_is : (w : Who) (H : List Call) (when : ℕ) (f : FrameRecord) (m : MessageRecord) → whole w H when f ≡ Some m → (x : ToSend) × (said_to_frame w H when f ≡ Some x) × (slice_get x.bytes 0 ≡ Some 19)
acknowledged_is w H when f m = go (is_smaller w (claim_of f)) (holds w H when)
  where
    s : SessionsRecord
    s = found_by w H when f

    t : ℕ
    t = time_heard (At when (Hear f) ∷ H)

    go : (x y : Bool) → if_heard x y (made_in_sessions t f s) ≡ Some m → (z : ToSend) × (if_heard x y (said t f s) ≡ Some z) × (slice_get z.bytes 0 ≡ Some 19)
    go true y e = absurd (cc)
    go false false e = absurd (cc)
    go false true e = (made_tells s f t).0 m e

pub only_whole : (w : Who) (H : List Call) (when : ℕ) (f : FrameRecord) (x : ToSend) → said_to_frame w H when f ≡ Some x → slice_get x.bytes 0 ≡ Some 19 → (m : MessageRecord) × (whole w H when f ≡ Some m)
only_whole w H when f z = go (is_smaller w (claim_of f)) (holds w H when)
  where
    s : SessionsRecord
    s = found_by w H when f

    t : ℕ
    t = time_heard (At when (Hear f) ∷ H)

    go : (x y : Bool) → if_heard x y (said t f s) ≡ Some z → slice_get z.bytes 0 ≡ Some 19 → (m : MessageRecord) × (if_heard x y (made_in_sessions t f s) ≡ Some m)
    go true y e b = absurd (cc)
    go false false e b = absurd (cc)
    go false true e b = (made_tells s f t).1 z e b

said_by_it : (s : SessionsRecord) (now : ℕ) (name : Option ℕ) (f : FrameRecord) → (sessions_hear now name f s).replies ≡ replied (source_of f.id) (said now f s) s.replies
said_by_it s now name f = go (is_of_session s.own f)
  where
    go : (b : Bool) → (if b then stepped (source_of f.id) now name f (of_source (source_of f.id) s.sessions) (step_in now f s) s else s).replies
        ≡ replied (source_of f.id) (if b then (step_in now f s).sends else None) s.replies
    go true = refl
    go false = refl

-- by the step of its session
pub says_step : (w : Who) (H : List Call) (when : ℕ) (f : FrameRecord) (o : Option Session) → holds w H when ≡ true → is_of_session w.address f ≡ true → claim_of f ≡ None
    → session w H (source_of f.id) ≡ o
    → said_to_frame w H when f ≡ (step_at w.address w.window (has_room (source_of f.id) (reception w H)) f (time_heard (At when (Hear f) ∷ H)) o).sends
says_step w H when f o held of none e =
    let t = time_heard (At when (Hear f) ∷ H) in
    (λ i. if_heard (not_driven w f none i) (held i) (said t f (unclaimed_found w H when f none i)))
    ∙ (ap (λ (b : Bool). if b then (step_in t f (reception w H)).sends else None) (ap (λ (n : ℕ). is_of_session n f) (own w H).0 ∙ of)
    ∙ λ i. (step_at ((own w H).0 i) ((own w H).2 i) (has_room (source_of f.id) (reception w H)) f t (e i)).sends)

-- the message that is whole by it
pub whole_is : (w : Who) (H : List Call) (when : ℕ) (f : FrameRecord) → holds w H when ≡ true → claim_of f ≡ None
    → whole w H when f ≡ made_in_sessions (time_heard (At when (Hear f) ∷ H)) f (reception w H)
whole_is w H when f held none = λ i. if_heard (not_driven w f none i) (held i) (made_in_sessions (time_heard (At when (Hear f) ∷ H)) f (unclaimed_found w H when f none i))

pub whole_step : (w : Who) (H : List Call) (when : ℕ) (f : FrameRecord) (o : Option Session) → holds w H when ≡ true → is_of_session w.address f ≡ true → claim_of f ≡ None
    → session w H (source_of f.id) ≡ o
    → whole w H when f ≡ (step_at w.address w.window (has_room (source_of f.id) (reception w H)) f (time_heard (At when (Hear f) ∷ H)) o).delivers
whole_step w H when f o held of none e =
    let t = time_heard (At when (Hear f) ∷ H) in
    whole_is w H when f held none
    ∙ (ap (λ (b : Bool). if b then (step_in t f (reception w H)).delivers else None) (ap (λ (n : ℕ). is_of_session n f) (own w H).0 ∙ of)
    ∙ λ i. (step_at ((own w H).0 i) ((own w H).2 i) (has_room (source_of f.id) (reception w H)) f t (e i)).delivers)

-- what is said waits
pub says_it : (w : Who) (H : List Call) (when : ℕ) (f : FrameRecord) → holds w H when ≡ true → claim_of f ≡ None
    → (reception w (At when (Hear f) ∷ H)).replies ≡ replied (source_of f.id) (said_to_frame w H when f) (reception w H).replies
says_it w H when f held none =
    let t = time_heard (At when (Hear f) ∷ H) in
    ap (λ (s : SessionsRecord). s.replies) (heard_is w H when f held none)
    ∙ (said_by_it (reception w H) t (holder w (At when (Hear f) ∷ H) (source_of f.id)) f
    ∙ λ i. replied (source_of f.id) (if_heard (sym (not_driven w f none) i) (sym held i) (said t f (sym (unclaimed_found w H when f none) i))) (reception w H).replies)

-- ---- a session begins

begin_step : (own most : ℕ) (f : FrameRecord) (now size count asked pgn : ℕ) → said_to own f ≡ Some (RequestToSend size count asked pgn)
    → (r : ReceptionRecord) × (y : ToSend) × ((step_at own most true f now None).after.session ≡ Some r) × ((step_at own most true f now None).sends ≡ Some y) × (slice_get y.bytes 0 ≡ Some 17)
unfolding recv_step takes_signal takes_request frames.source_of grants granted_at opens written
begin_step own most f now size count asked pgn e =
    subst (λ (s : Option Signal). (r : ReceptionRecord) × (y : ToSend) × ((result_of own (source_of f.id) (takes_signal (Directed (source_of f.id) own) s now true None)).after.session ≡ Some r)
    × ((result_of own (source_of f.id) (takes_signal (Directed (source_of f.id) own) s now true None)).sends ≡ Some y) × (slice_get y.bytes 0 ≡ Some 17)) (sym (said_shown own most f ∙ ap (with_most most) e)) (_, _, refl, refl, refl)

pub session_begins : (w : Who) (H : List Call) (when : ℕ) (f : FrameRecord) (size count most pgn : ℕ) → holds w H when ≡ true → session w H (source_of f.id) ≡ None
    → has_room (source_of f.id) (reception w H) ≡ true → said_to w.address f ≡ Some (RequestToSend size count most pgn)
    → (x : Session) × (y : ToSend) × (session w (At when (Hear f) ∷ H) (source_of f.id) ≡ Some x) × (said_to_frame w H when f ≡ Some y) × (slice_get y.bytes 0 ≡ Some 17)
    × ((reception w (At when (Hear f) ∷ H)).replies ≡ replied (source_of f.id) (Some y) (reception w H).replies)
session_begins w H when f size count most pgn held free room says =
    let t = time_heard (At when (Hear f) ∷ H) in
    let name = holder w (At when (Hear f) ∷ H) (source_of f.id) in
    let of = session_said w.address f (RequestToSend size count most pgn) says in
    let none = said_no_claim w.address f (RequestToSend size count most pgn) says in
    let x = begin_step w.address w.window f t size count most pgn says in
    let said = says_step w H when f None held of none free ∙ (ap (λ (b : Bool). (step_at w.address w.window b f t None).sends) room ∙ x.3) in (
      session_by t name x.0,
      x.1,
      steps w H when f None held of free
          ∙ (ap (λ (b : Bool). option_map (session_by t name) (step_at w.address w.window b f t None).after.session) room ∙ ap (option_map (session_by t name)) x.2),
      said,
      x.4,
      says_it w H when f held none ∙ ap (λ (o : Option ToSend). replied (source_of f.id) o (reception w H).replies) said,
    )

-- ---- the NAME of what is whole

pub sender_kept : (w : Who) (H : List Call) (when : ℕ) (f : FrameRecord) (m : MessageRecord) → whole w H when f ≡ Some m
    → (reception w (At when (Hear f) ∷ H)).senders ≡ (reception w H).senders ++ holder w (At when (Hear f) ∷ H) m.source ∷ []
sender_kept w H when f m e =
    ap (λ (s : SessionsRecord). s.senders) (heard_is w H when f k.0 none)
    ∙ (senders_made (reception w H) t name f
    ∙ ((λ i. (reception w H).senders ++ listed (option_map (λ (m : MessageRecord). name_by name (session w H a)) ((sym (whole_is w H when f k.0 none) ∙ e) i)))
    ∙ ap (λ (n : Option ℕ). (reception w H).senders ++ n ∷ []) (named_by (session w H a) refl ∙ ap (holder w (At when (Hear f) ∷ H)) (sym (whole_source w H when f m e)))))
  where
    a : ℕ
    a = source_of f.id

    t : ℕ
    t = time_heard (At when (Hear f) ∷ H)

    name : Option ℕ
    name = holder w (At when (Hear f) ∷ H) a

    k : (holds w H when ≡ true) × (is_of_session w.address f ≡ true)
        × ((step_at w.address w.window (has_room a (found_by w H when f)) f t (of_source a (found_by w H when f).sessions)).delivers ≡ Some m)
    k = whole_cases w H when f m e

    none : claim_of f ≡ None
    none = session_no_claim w.address f k.1

    named_by : (o : Option Session) → session w H a ≡ o → name_by name o ≡ name
    named_by None i = refl
    named_by (Some x) i = named w H a x i ∙ sym (unclaimed_known w H when f a none ∙ unclaimed_still w H when f a none)

-- ---- a CTS, and what a tick says

pub grants_within : (w : Who) (H : List Call) (when n : ℕ) (f : FrameRecord) (y : ToSend) → 1 ≤ w.window → said_to_frame w H when f ≡ Some y → slice_get y.bytes 0 ≡ Some 17
    → slice_get y.bytes 1 ≡ Some n → n ≤ w.window
grants_within w H when n f y l e b c = go (is_smaller w (claim_of f)) (holds w H when) e
  where
    most : (found_by w H when f).most ≡ w.window
    most = (own w H).2

    go : (x y' : Bool) → if_heard x y' (said (time_heard (At when (Hear f) ∷ H)) f (found_by w H when f)) ≡ Some y → n ≤ w.window
    go true y' e = absurd (cc)
    go false false e = absurd (cc)
    go false true e = subst (λ (k : ℕ). n ≤ k) most (grants_few (found_by w H when f) f (time_heard (At when (Hear f) ∷ H)) n y (subst (λ (k : ℕ). 1 ≤ k) (sym most) l)
        (subst (λ (k : ℕ). All (Fewer k) (found_by w H when f).sessions) (sym most) (all_few w.address w.window w.sessions (left w H when f) l)) e b c)

pub told_by_tick : (w : Who) (H : List Call) (now a : ℕ) (x : Session) (y : ToSend) → session w H a ≡ Some x → (tick_of w.address (time_heard (At now Tick ∷ H)) x).sends ≡ Some y
    → length (reception w H).replies + length (reception w H).sessions ≤ 16 → reply_to a (reception w (At now Tick ∷ H)).replies ≡ Some (record { to = a; bytes = y.bytes })
told_by_tick w H now a x y e s l =
    tick_told (reception w H).own (time_heard (At now Tick ∷ H)) a (reception w H).sessions (reception w H).replies x y (apart w H) e
    (ap (λ (n : ℕ). (tick_of n (time_heard (At now Tick ∷ H)) x).sends) (own w H).0 ∙ s) l

-- ---- where all boxes are in use

pub refuses_all : (w : Who) (H : List Call) (when : ℕ) (f : FrameRecord) (size count most pgn : ℕ) → holds w H when ≡ true → said_to w.address f ≡ Some (RequestToSend size count most pgn)
    → has_room (source_of f.id) (reception w H) ≡ false
    → reception w (At when (Hear f) ∷ H) ≡ record (reception w H) { replies = replied (source_of f.id) (Some (written w.address (source_of f.id) (Abort 2 pgn))) (reception w H).replies }
refuses_all w H when f size count most pgn held says full =
    let p = or_parts _ _ full in
    heard_is w H when f held (said_no_claim w.address f (RequestToSend size count most pgn) says)
    ∙ refuses w.address w.window w.sessions (time_heard (At when (Hear f) ∷ H)) size count most pgn (holder w (At when (Hear f) ∷ H) (source_of f.id)) f (events w H)
    (session_said w.address f (RequestToSend size count most pgn) says) says (none_of_some (session w H (source_of f.id)) p.0)
    (ap (λ (n : ℕ). nat_lt (length (reception w H).sessions + length (reception w H).waits) n) (sym (own w H).1) ∙ p.1)
  where
    none_of_some : (o : Option Session) → has_some o ≡ false → o ≡ None
    none_of_some o e = grind (arith, e)

-- ---- frames of others

pub waits_stay : (w : Who) (H : List Call) (when : ℕ) (f : FrameRecord) → session w H (source_of f.id) ≡ None → (reception w (At when (Hear f) ∷ H)).waits ≡ (reception w H).waits
waits_stay w H when f e = go (is_smaller w (claim_of f)) (holds w H when)
  where
    s : SessionsRecord
    s = found_by w H when f

    t : ℕ
    t = time_heard (At when (Hear f) ∷ H)

    name : Option ℕ
    name = holder w (At when (Hear f) ∷ H) (source_of f.id)

    none : of_source (source_of f.id) s.sessions ≡ None
    none = of_filter (λ y. not (is_left (restarts w H when f) (holder w (At when (Hear f) ∷ H)) y)) (source_of f.id) (reception w H).sessions (apart w H)
        ∙ ap (kept (λ y. not (is_left (restarts w H when f) (holder w (At when (Hear f) ∷ H)) y))) e

    kept_waits : (b : Bool) → is_of_session s.own f ≡ b → (if b then stepped (source_of f.id) t name f (of_source (source_of f.id) s.sessions) (step_in t f s) s else s).waits ≡ s.waits
    kept_waits false i = refl
    kept_waits true i =
        ap (λ (d : Option MessageRecord). s.waits ++ listed (option_map (λ m. (f.stamp, m)) d)) (none_from _ _ t (has_room (source_of f.id) s) (ap receiving none)) ∙ append-nil s.waits

    go : (x y : Bool) → (sessions_after w (heard_by x y t name f (left w H when f))).waits ≡ (reception w H).waits
    go true y = refl
    go false false = refl
    go false true = kept_waits (is_of_session s.own f) refl

pub replies_stay : (w : Who) (H : List Call) (when : ℕ) (f : FrameRecord) → claim_of f ≡ None
    → without (source_of f.id) (reception w (At when (Hear f) ∷ H)).replies ≡ without (source_of f.id) (reception w H).replies
replies_stay w H when f none = go (holds w H when) refl
  where
    go : (y : Bool) → holds w H when ≡ y → without (source_of f.id) (reception w (At when (Hear f) ∷ H)).replies ≡ without (source_of f.id) (reception w H).replies
    go true k = ap (without (source_of f.id)) (says_it w H when f k none) ∙ without_replied (source_of f.id) (said_to_frame w H when f) (reception w H).replies
    go false k =
        (λ i. without (source_of f.id) (sessions_after w (heard_by (not_driven w f none i) (k i) (time_heard (At when (Hear f) ∷ H)) (holder w (At when (Hear f) ∷ H) (source_of f.id)) f (left w H when f))).replies)
        ∙ ap (λ (s : SessionsRecord). without (source_of f.id) s.replies) (unclaimed_found w H when f none)

-- ---- a reply that is taken

pub replies_first : (w : Who) (H : List Call) (c : Controller) (now : ℕ) (f : FrameRecord) → Is w (At now (TakeFrame (Some f)) ∷ H) c → IsTrue (is_transfer f) → is_move w H f ≡ false
    → IsTrue (holds w H now) × (source_of f.id ≡ w.address) × (slice_get (all_replies w H) 0 ≡ Some (message_of f)) × (next_acknowledgment w H now ≡ None)
replies_first w H c now f is t away = go (frame_case w H now f is.answered.1)
  where
    replied : is_reply (all_replies w H) f ≡ true
    replied = grind (arith, t, away)

    go : FrameCase w H now f
        → IsTrue (holds w H now) × (source_of f.id ≡ w.address) × (slice_get (all_replies w H) 0 ≡ Some (message_of f)) × (next_acknowledgment w H now ≡ None)
    go (replies m o h n g e) = (
      h,
      ap (λ (y : ℕ × Message). y.1.source) e ∙ (reply_of w H 0 m g).source,
      g ∙ ap (λ (y : ℕ × Message). Some y.1) (sym e),
      n.0,
    )
    go case = absurd (not_both _ (replies_it w H now f is.answered.0 case) replied)

-- one that waits goes before all but claims, acknowledgments and an overdue frame of a broadcast, unless it yields
pub replies_before : (w : Who) (H : List Call) (c : Controller) (now : ℕ) (f : FrameRecord) (m : Message) → Is w (At now (TakeFrame (Some f)) ∷ H) c
    → slice_get (all_replies w H) 0 ≡ Some m → is_claim f ≡ false → is_acknowledgment f ≡ false → is_overdue w H now ≡ false → yields w H ≡ false → message_of f ≡ m
replies_before w H c now f m is at k a late first = go (frame_case w H now f is.answered.1)
  where
    some_there : (L : List Message) (m : Message) → slice_get L 0 ≡ Some m → nat_lt 0 (length L) ≡ true
    some_there [] m e = absurd (cc)
    some_there (x ∷ L) m e = grind arith

    waits : nat_lt 0 (length (all_replies w H)) ≡ true
    waits = some_there (all_replies w H) m at

    go : FrameCase w H now f → message_of f ≡ m
    go (claims o e) = absurd (not_both _ k (claims_it w H now f is.answered.0 (claims o e)))
    go (acknowledges x o h g e way) = absurd (not_both _ a (acknowledges_it w H now f is.answered.0 (acknowledges x o h g e way)))
    go (replies x o h n g e) = let z : Some x ≡ Some m = sym g ∙ at in ap (λ (y : ℕ × Message). y.1) e ∙ (let y : x ≡ m = cc in y)
    go (sends x o h n g e) = absurd (let t = (turned w H now (Some Single) n.1).2 in grind (arith, t, waits, first))
    go (packs x o h n g e) = absurd (let t = turned w H now (Some Packet) n.1 in grind (arith, t, late, waits, first))
    go (transfers x o h n g e) = absurd (let t = (turned w H now (Some Move) n.1).2 in grind (arith, t, waits, first))

pub taken_rest : (w : Who) (H : List Call) (now : ℕ) (f : FrameRecord) → is_claim f ≡ false → IsTrue (is_transfer f) → is_move w H f ≡ false
    → (reception w (At now (TakeFrame (Some f)) ∷ H)).replies ≡ drop 1 (reception w H).replies
taken_rest w H now f k t m = ap (λ (E : List Event). (sessions_after w E).replies) (taken_is w H now f false true k (grind (arith, t, m)))

pub others_taken : (w : Who) (H : List Call) (now : ℕ) (f : FrameRecord) → is_claim f ≡ false → (is_transfer f ≡ false) ⊎ IsTrue (is_move w H f)
    → (reception w (At now (TakeFrame (Some f)) ∷ H)).replies ≡ (reception w H).replies
others_taken w H now f k h = ap (λ (E : List Event). (sessions_after w E).replies) (taken_is w H now f false false k (grind (arith, h)))

-- where no frame is taken, none waits
pub none_replied : (w : Who) (H : List Call) (c : Controller) (now : ℕ) → Is w (At now (TakeFrame None) ∷ H) c → IsTrue (holds w H now) → (reception w H).replies ≡ []
none_replied w H c now is held = none (reception w H).replies (none_next w H now held is.answered.1).rest.reply
  where
    none : (L : List SaidReply) → slice_get (map (said_from (reception w H).own) L) 0 ≡ None → L ≡ []
    none [] e = refl
    none (x ∷ L) e = absurd (cc)

-- ---- from an address that is lost

pub record Silent (s : SessionsRecord) : Type 0 where
  pub sessions : s.sessions ≡ []
  pub replies : s.replies ≡ []

silent_left : (gone : Option ℕ) (holds : ℕ → Option ℕ) (s : SessionsRecord) → Silent s → Silent (leaves gone holds s)
silent_left gone holds s h = record {
  sessions = ap (filter (λ x. not (is_left gone holds x))) h.sessions;
  replies = (λ i. unsaid (filter (is_left gone holds) (h.sessions i)) s.replies) ∙ h.replies;
}

not_held : (s : ℕ) (a : Address) → is_lost a ≡ true → is_held (older s a) ≡ false
not_held s a e = grind (arith, e)

lost_before : (b : Bool) (s : ℕ) (a : Address) → is_lost (if b then Lost else older s a) ≡ true → b ≡ false → is_lost a ≡ true
lost_before b s a e f = grind (arith, e, f)

claim_lost : (b : Bool) (s : ℕ) (a : Address) → is_lost (if b then Rattle.j39_node.specs.History.claimed (older s a) else older s a) ≡ true → is_lost a ≡ true
claim_lost b s a e = grind (arith, e)

pub silent : (w : Who) (H : List Call) → is_lost (address_after w H) ≡ true → Silent (reception w H)
silent w [] e = record { sessions = refl; replies = refl }
silent w (At when (Hear f) ∷ H) e = go (is_smaller w (claim_of f)) (lost_before (is_smaller w (claim_of f)) (step H when) (address_after w H) e) (holds w H when) refl (silent w H)
  where
    go : (x : Bool) → (x ≡ false → is_lost (address_after w H) ≡ true) → (y : Bool) → holds w H when ≡ y → (is_lost (address_after w H) ≡ true → Silent (reception w H))
        → Silent (sessions_after w (heard_by x y (time_heard (At when (Hear f) ∷ H)) (holder w (At when (Hear f) ∷ H) (source_of f.id)) f (left w H when f)))
    go true l y k s = record { sessions = refl; replies = refl }
    go false l true k s = absurd (let z : true ≡ false = sym k ∙ not_held (step H when) (address_after w H) (l refl) in cc)
    go false l false k s = silent_left (restarts w H when f) (holder w (At when (Hear f) ∷ H)) (reception w H) (s (l refl))
silent w (At now Tick ∷ H) e =
    let h = silent w H (sym (lost_older (step H now) (address_after w H)) ∙ e) in
    let t = time_heard (At now Tick ∷ H) in
    record {
      sessions = ap (sessions_ticked (reception w H).own t) h.sessions;
      replies = (λ i. replies_ticked (reception w H).own t (h.sessions i) (reception w H).replies) ∙ h.replies;
    }
silent w (At now (TakeFrame (Some f)) ∷ H) e = go (is_claim f) (is_reply (all_replies w H) f) (silent w H (claim_lost (is_claim f) (step H now) (address_after w H) e))
  where
    go : (x y : Bool) → Silent (reception w H) → Silent (sessions_after w (taken_by x y (holder w (At now (TakeFrame (Some f)) ∷ H)) (events w H)))
    go true y h = silent_left None (holder w (At now (TakeFrame (Some f)) ∷ H)) (reception w H) h
    go false true h = record { sessions = h.sessions; replies = ap (drop 1) h.replies }
    go false false h = h
silent w (ReleaseTransfer true ∷ H) e = let h = silent w H e in record { sessions = h.sessions; replies = h.replies }
silent w (ReleaseTransfer false ∷ H) e = silent w H e
silent w (At now Again ∷ H) e = silent w H (sym (lost_older (step H now) (address_after w H)) ∙ (sym (lost_unclaimed _) ∙ e))
silent w (call ∷ H) e = silent w H (let z = lost_older (step H (moment (call ∷ H))) (address_after w H) in cc)

-- ---- when a tick says something

-- a limit isn't over before the moment that is told
pub before_moment : (limit last time now : ℕ) → last ≤ now → now < 10000000000000000 → ((t : ℕ) → stamp_at (last + (suc limit - time)) ≡ Some t → now < t)
    → later time (now - last) ≤ limit
before_moment limit last time now l m q = elim (cases_lt (last + (suc limit - time)) 10000000000000000) [
  | inl g ↦ (let h = q _ (cond-true _ _ _ (lt-ltb _ _ g)) in omega (arith, h, l))
  | inr z ↦ omega (arith, z, m, l)
]

pub tick_waits : (w : Who) (H : List Call) (now : ℕ) → heard_at H ≤ now → now < 10000000000000000 → ((t : ℕ) → session_tick w H ≡ Some t → now < t)
    → reception w (At now Tick ∷ H) ≡ reception w H
tick_waits w H now l m q =
    waits_by (time_heard (At now Tick ∷ H)) (reception w H)
    (λ limit e. before_moment limit (heard_at H) (time_heard H) now l m (λ t g. q t (ap (λ (o : Option ℕ). tick_at o (heard_at H) (time_heard H)) e ∙ g)))

-- a limit is over from the moment on that is told
pub after_moment : (limit last time t now : ℕ) → stamp_at (last + (suc limit - time)) ≡ Some t → t ≤ now → time + (t - last) < 10000000000000000
    → limit < later time (now - last)
after_moment limit last time t now e l m = let k = (cond_some _ _ _ e).1 in omega (arith, k, l, m)

pub some_tick : (w : Who) (H : List Call) (now t : ℕ) → session_tick w H ≡ Some t → t ≤ now → time_heard H + (t - heard_at H) < 10000000000000000
    → (a : ℕ) × (x : Session) × (y : ToSend) × (session w H a ≡ Some x) × ((slice_get y.bytes 0 ≡ Some 17) ⊎ (slice_get y.bytes 0 ≡ Some 255))
    × ((tick_of w.address (time_heard (At now Tick ∷ H)) x).sends ≡ Some y)
some_tick w H now t e l m = go (earliest_session (reception w H).sessions) refl e
  where
    go : (o : Option ℕ) → earliest_session (reception w H).sessions ≡ o → tick_at o (heard_at H) (time_heard H) ≡ Some t
        → (a : ℕ) × (x : Session) × (y : ToSend) × (session w H a ≡ Some x) × ((slice_get y.bytes 0 ≡ Some 17) ⊎ (slice_get y.bytes 0 ≡ Some 255))
        × ((tick_of w.address (time_heard (At now Tick ∷ H)) x).sends ≡ Some y)
    go None i g = absurd (cc)
    go (Some limit) i g =
        let s = soonest_is (reception w H).sessions limit (apart w H) i in
        let y = tick_says w.address (time_heard (At now Tick ∷ H)) s.1 (let k = after_moment limit (heard_at H) (time_heard H) t now g l m in let z = s.3 in omega (arith, k, z)) in
        (s.0, s.1, y.0, s.2, y.1, y.2)
