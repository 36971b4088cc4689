-- A broadcast of which nothing is lost is whole where it is heard, or one is counted as unheard.
use Rattle.std.proofs.Common.{[], append-nil, if◌then◌else◌, ◌&&◌, ◌*◌, ◌++◌, ◌+◌, ◌-◌, ◌<◌, ◌^◌, ◌||◌, ◌∙◌, ◌∷◌, ◌≡◌, ◌≤◌, ◌⊎◌, ap, append_assoc, arith, Bool, drop, eq-eqb, false, filter, inl, inr, le-leb, length, length-append, List, map, None, not, Ok, Option, refl, slice_index, Some, subst, suc, sym, true, zero, ℕ}
use Rattle.std.proofs.lemmas.Bool.{cases_Bool, cases_eq, cases_lt, false_from_ne_true, ltb-true}
use Rattle.std.proofs.lemmas.List.{length-map, map-append}
use Rattle.std.proofs.lemmas.List.Elements.{Contains-append_left, Contains-push, filter-append}
use Rattle.std.specs.List.{All, Contains, slice_get}
use Rattle.j39_frame.specs.Frame.{FrameRecord}
use Rattle.j39_frame.specs.Identifier.{source_of}
use Rattle.j39_transport.specs.Frames.{packets_for, pgn_named}
use Rattle.j39_transport.specs.Message.{IsLong, MessageRecord, packets_of}
use Rattle.j39_node.proofs.AnswerCases.{Accepts, broadcast_accepts}
use Rattle.j39_node.proofs.HearingLaws.{begins_there, heard_or_counted, next_appended, others_leave, whole_made}
use Rattle.j39_node.proofs.HearingLemmas as HearingLemmas
use Rattle.j39_node.proofs.HearingLemmas.{all_more, drop_one, Kept, of_its, open_part, packs_eight, source_at, stands, stands_found, Stood}
use Rattle.j39_node.proofs.LaneLemmas.{lane_end, LaneEnd, laned, Opened, opened_by}
use Rattle.j39_node.proofs.ListenLemmas.{all_of}
use Rattle.j39_node.proofs.PromptLaws.{answered_from}
use Rattle.j39_node.proofs.QueueLemmas.{get_last}
use Rattle.j39_node.proofs.RestartLaws.{gone}
use Rattle.j39_node.proofs.Tests.{not_both}
use Rattle.j39_node.specs.Hearing.{announces, expires, found, found_in, grown, has_box, has_room, hearing, hears as hears_it, is_late, is_over, is_whole, Listening, listening, made_whole, message_by, of, OpenBroadcast, opened, over_by, packs, since_in, stay, staying, those_over, unheard, whole_broadcasts}
use Rattle.j39_node.specs.History.{address_after, all_frames, broadcast_from, broadcasts, Call, can_broadcast, first_frames, frame_of, frames, holds, is_busy, is_claim, is_lost, is_own_group, is_packet, is_subscribed, Message, message_of, moment, open_broadcast, packets, told_broadcasts, Who}
use Rattle.j39_node.specs.History.Call.{At, ReleaseBroadcast, TakeBroadcastEnded}
use Rattle.j39_node.specs.History.Act.{Broadcast, Hear, TakeFrame, Tick}
use Rattle.j39_node.specs.Is.{AreAnswered}
use Rattle.j39_node.specs.Prompt.{IsSteady}
use Rattle.j39_node.specs.Reception.{heard_at, holder, known_by, restarts, still, time_heard}
use Rattle.j39_node.specs.declared.kinds.Ending.TheVariants.{Done}
use Rattle.j39_sessions.specs.Sessions.{listed}
use Rattle.j39_net.proofs.BroadcastFacts.{announcement, announces_packet, IsAnnouncement, IsPacket, not_announces, packet, packet_packs, packs_packet}
use Rattle.j39_net.proofs.BroadcastLemmas.{Fits, one_more, push_same, whole_is}
use Rattle.j39_net.proofs.CloseLemmas.{are_close}
use Rattle.j39_net.proofs.CourseLemmas.{all_front, all_last, long_by}
use Rattle.j39_net.proofs.HearLemmas.{grown_is, stamped}
use Rattle.j39_net.proofs.NetLemmas.{none_in}
use Rattle.j39_net.proofs.SpanLemmas.{AreClose, close_within, is_of, its, its_heard, none_accepted, own_packets, parts, taken_since, Travels}
use Rattle.j39_net.proofs.WholeLemmas.{first_count, frames_append}
use Rattle.j39_net.specs.Net.{Come, hears, InTime, IsMember, IsNoneOf, IsWelcome, Member, Net, OnlySends, own, Passed, whole_since}

-- ---- what a call leaves

-- one stays, or some are over
pub stays_or_over : (p : OpenBroadcast → Bool) (a : ℕ) (xs : List OpenBroadcast) (y : OpenBroadcast) → of a xs ≡ Some y
    → (of a (filter (λ x. not (p x)) xs) ≡ Some y) ⊎ ((0 < length (filter p xs)) × (p y ≡ true))
stays_or_over p a [] y e = absurd (cc)
stays_or_over p a (x ∷ xs) y e = let h = stays_or_over p a xs y in grind (arith, h, e)

-- where its source keeps its holder it is late
over_late : (away : Option ℕ) (before after : ℕ → Option ℕ) (now : ℕ) (y : OpenBroadcast) → y.name ≡ before y.source → ((n : ℕ) → away ≡ Some n → (m : ℕ) × (after n ≡ Some m))
    → is_over away after now y ≡ true → after y.source ≡ still away before y.source → is_late now y ≡ true
over_late away before after now y e g o k = grind (arith, e, g, o, k)

-- time as it is told
heard_before : (start end : ℕ) (H : List Call) → InTime start end H → heard_at H ≤ end
heard_before start end [] t = omega arith
heard_before start end (At now (Hear f) ∷ H) t = t.0
heard_before start end (At now Tick ∷ H) t = t.0
heard_before start end (At now x ∷ H) t = let h = heard_before start now H t.1 in let l = t.0 in omega (arith, h, l)
heard_before start end (call ∷ H) t = heard_before start end H t

in_time_of : (start end : ℕ) (later H : List Call) → InTime start end (later ++ H) → (e : ℕ) × InTime start e H
in_time_of start end [] H t = (end, t)
in_time_of start end (At now x ∷ later) H t = in_time_of start now later H t.1
in_time_of start end (call ∷ later) H t = in_time_of start end later H t

goes_by : (start end : ℕ) (call : Call) (H : List Call) → InTime start end (call ∷ H)
    → (heard_at H ≤ heard_at (call ∷ H)) × (time_heard (call ∷ H) ≤ time_heard H + (heard_at (call ∷ H) - heard_at H))
goes_by start end (At now (Hear f)) H t = let h = heard_before start now H t.1 in (h, omega arith)
goes_by start end (At now Tick) H t = let h = heard_before start now H t.1 in (h, omega arith)
goes_by start end call H t = (omega arith, omega arith)

module _ (w : Who) (a : ℕ) where
  not_fewer : (call : Call) (H : List Call) → unheard w H ≤ unheard w (call ∷ H)
  not_fewer call H = let m = all_more (over_by w H call) (unheard w H) in grind (arith, m)

  -- it is counted, and late unless its source has another holder
  abbrev IsOver : Call → List Call → OpenBroadcast → Type 0
  IsOver call H y = (unheard w H < unheard w (call ∷ H)) × (holder w (call ∷ H) a ≡ known_by w call H a → is_late (time_heard (call ∷ H)) y ≡ true)

  one_stays : (call : Call) (H : List Call) (gone : Option ℕ) (y : OpenBroadcast) → over_by w H call ≡ those_over gone (holder w (call ∷ H)) (time_heard (call ∷ H)) (listening w H).current
      → known_by w call H a ≡ still gone (holder w H) a → ((n : ℕ) → gone ≡ Some n → (m : ℕ) × (holder w (call ∷ H) n ≡ Some m)) → hearing w H a ≡ Some y
      → (of a (stay gone (holder w (call ∷ H)) (time_heard (call ∷ H)) (listening w H).current) ≡ Some y) ⊎ IsOver call H y
  one_stays call H gone y o k g e = elim (stays_or_over (is_over gone (holder w (call ∷ H)) (time_heard (call ∷ H))) a (listening w H).current y e) [
    | inl s ↦ inl s
    | inr l ↦ inr (
      (let m = all_more (over_by w H call) (unheard w H) in let n = ap length o in let z = l.0 in grind (arith, m, n, z)),
      λ same.
          let s = source_at a (listening w H).current y e in
          let named = (all_of (HearingLemmas.Open (Stood w H)) a (listening w H).current y (stands w H).all e).1.named in
          over_late gone (holder w H) (holder w (call ∷ H)) (time_heard (call ∷ H)) y named g l.1
          (subst (λ c. holder w (call ∷ H) c ≡ still gone (holder w H) c) (sym s) (same ∙ k)),
    )
  ]

  is_found : (H : List Call) (now : ℕ) (f : FrameRecord) (y : OpenBroadcast) → hearing w H a ≡ Some y → (found w H now f a ≡ Some y) ⊎ IsOver (At now (Hear f)) H y
  is_found H now f y e = one_stays (At now (Hear f)) H (restarts w H now f) y refl refl (λ n i. (gone w H now n f i).1) e

  -- no frame of a broadcast from there is heard
  abbrev IsBeside : Call → Type 0
  IsBeside (At now (Hear f)) = is_of a f ≡ false
  IsBeside call = Unit {0}

  beside_frame : (H : List Call) (now : ℕ) (f : FrameRecord) → is_of a f ≡ false → hearing w (At now (Hear f) ∷ H) a ≡ found w H now f a
  beside_frame H now f i = elim (cases_eq (source_of f.id) a) [
    | inr n ↦ others_leave w H now a f n
    | inl s ↦
        let no : (b : Bool) → (b ≡ true → is_packet f ≡ true) → b ≡ false =
        λ b p. false_from_ne_true b (λ t. not_both (is_of a f) i (λ k. p t k && eq-eqb (source_of f.id) a s k)) in
        let K = At now (Hear f) ∷ H in
        let o = found w H now f (source_of f.id) in
        let r = has_room w.boxes (source_of f.id) (found_in w H now f) in
        subst (λ c. hearing w K c ≡ found w H now f c) s
        (of_its w.boxes w (holder w K (source_of f.id)) (time_heard K) f (found_in w H now f)
        ∙ ap (λ (b : Bool). if b then open_part (hears_it w (holder w K (source_of f.id)) (time_heard K) f r o) else o) (λ k. no (announces f) (announces_packet f) k || no (packs f) (packs_packet f) k))
  ]

  beside : (call : Call) (H : List Call) (y : OpenBroadcast) → IsBeside call → hearing w H a ≡ Some y → (hearing w (call ∷ H) a ≡ Some y) ⊎ IsOver call H y
  beside (At now (Hear f)) H y i e = subst (λ o. (o ≡ Some y) ⊎ IsOver (At now (Hear f)) H y) (sym (beside_frame H now f i)) (is_found H now f y e)
  beside (At now Tick) H y i e = one_stays (At now Tick) H None y refl refl (λ n i. absurd (cc)) e
  beside (At now (TakeFrame (Some f))) H y i e = elim (cases_Bool (is_claim f)) [
    | inl t ↦ subst (λ o. (o ≡ Some y) ⊎ IsOver call H y) (sym (ap (λ (b : Bool). of a (if b then taken else listening w H).current) t))
        (one_stays call H None y (ap (λ (b : Bool). if b then those_over None (holder w (call ∷ H)) (time_heard H) (listening w H).current else []) t) refl (λ n i. absurd (cc)) e)
    | inr t ↦ inl (ap (λ (b : Bool). of a (if b then taken else listening w H).current) t ∙ e)
  ]
    where
      call : Call
      call = At now (TakeFrame (Some f))

      taken : Listening
      taken = staying None (holder w (call ∷ H)) (time_heard H) (listening w H)
  beside (ReleaseBroadcast true) H y i e = inl e
  beside call H y i e = inl e

view : {T : Type 0} (xs : List T) → (xs ≡ []) ⊎ ((us : List T) × (u : T) × (xs ≡ us ++ u ∷ []))
view [] = inl refl
view (x ∷ xs) = elim (view xs) [ inl e ↦ inr ([], x, ap (λ v. x ∷ v) e) | inr h ↦ inr (x ∷ h.0, h.1, ap (λ v. x ∷ v) h.2) ]

close_front : (t : ℕ) (us : List FrameRecord) (y : FrameRecord) → AreClose t (us ++ y ∷ []) → AreClose t us
close_front t [] y h = tt
close_front t (u ∷ []) y h = tt
close_front t (u ∷ v ∷ us) y h = (h.0, close_front t (v ∷ us) y h.1)

close_last : (t : ℕ) (us : List FrameRecord) (x y : FrameRecord) → AreClose t ((us ++ x ∷ []) ++ y ∷ []) → y.stamp ≤ x.stamp + t
close_last t [] x y h = h.0
close_last t (u ∷ []) x y h = h.1.0
close_last t (u ∷ v ∷ us) x y h = close_last t (v ∷ us) x y h.1

-- behind so many
still_there : {T : Type 0} (n : ℕ) (xs ys : List T) (x : T) → Contains (drop n xs) x → Contains (drop n (xs ++ ys)) x
still_there zero xs ys x h = Contains-append_left xs ys x h
still_there (suc n) [] ys x h = absurd (none_in x h)
still_there (suc n) (z ∷ xs) ys x h = still_there n xs ys x h

last_there : {T : Type 0} (n : ℕ) (xs : List T) (x : T) → n ≤ length xs → Contains (drop n (xs ++ x ∷ [])) x
last_there zero xs x l = Contains-push xs x
last_there (suc n) [] x l = absurd (omega (arith, l))
last_there (suc n) (z ∷ xs) x l = last_there n xs x (omega (arith, l))

fewer_whole : (w : Who) (behind H : List Call) → length (whole_broadcasts w H) ≤ length (whole_broadcasts w (behind ++ H))
fewer_whole w [] H = omega arith
fewer_whole w (At now (Hear f) ∷ behind) H =
    let h = fewer_whole w behind H in let n = length-append (whole_broadcasts w (behind ++ H)) (listed (made_whole w (behind ++ H) now f)) in omega (arith, h, n)
fewer_whole w (call ∷ behind) H = fewer_whole w behind H

-- ---- the broadcast, whose frames come at such moments, and whose packets are in time by T

module _ (w : Who) (b : MessageRecord) (IsThen : ℕ → Type 0) (T : Type 0) where
  abbrev a : ℕ
  a = b.source

  abbrev IsFine : List Call → ℕ → FrameRecord → List Call → Type 0
  IsFine behind when first before = IsWelcome w behind before when first × T

  -- the next of its frames is overdue
  abbrev IsOverdue : ℕ → ℕ → List Call → Type 0
  IsOverdue c last H = (c ≤ packets_of b) × (last + 750000 < heard_at H)

  record IsTimed (last : ℕ) (y : OpenBroadcast) (H : List Call) : Type 0 where
    behind : last ≤ heard_at H
    time : time_heard H ≤ y.time + (heard_at H - last)
    since : y.time ≤ y.since + y.count * 750000

  -- where c frames of it came, the last at this moment, its packets are open, it is whole, or one was counted since
  data Status (c last : ℕ) (fine : Type 0) (before H : List Call) : Type 0 where
    counted : unheard w before < unheard w H → (fine → IsOverdue c last H) → Status c last fine before H
    whole : Contains (whole_since w before H) b → Status c last fine before H
    current : (y : OpenBroadcast) → c ≤ packets_of b → unheard w before ≤ unheard w H → hearing w H a ≡ Some y → Fits b c y → suc y.count ≡ c → (fine → IsTimed last y H)
        → Status c last fine before H

  pub record Begun (c last : ℕ) (H : List Call) : Type 0 where
    pub behind : List Call
    pub when : ℕ
    pub first : FrameRecord
    pub before : List Call
    pub is : H ≡ behind ++ At when (Hear first) ∷ before
    pub announces : message_of first ≡ frame_of b 0
    pub since : IsThen when
    status : Status c last (IsFine behind when first before) before H

  late_is : (c last : ℕ) (y : OpenBroadcast) (H : List Call) → c ≤ packets_of b → Fits b c y → suc y.count ≡ c → IsTimed last y H → is_late (time_heard H) y ≡ true → IsOverdue c last H
  late_is c last y H l f n t e =
      let z = ltb-true (expires y) (time_heard H) e in
      let p = ap packets_for f.size in
      let i = t.time in
      let s = t.since in
      let q = t.behind in (l, omega (arith, z, p, i, s, q, l, n))

  more_whole : (before : List Call) (call : Call) (H : List Call) → Contains (whole_since w before H) b → Contains (whole_since w before (call ∷ H)) b
  more_whole before (At now (Hear f)) H h =
      subst (λ ms. Contains (drop (length (whole_broadcasts w before)) ms) b) (sym (map-append (λ (x : ℕ × MessageRecord). x.1) (whole_broadcasts w H) (listed (made_whole w H now f))))
      (still_there (length (whole_broadcasts w before)) (map (λ x. x.1) (whole_broadcasts w H)) (map (λ x. x.1) (listed (made_whole w H now f))) b h)
  more_whole before call H h = h

  -- one call more
  module _ (start end : ℕ) (call : Call) (H : List Call) (time : InTime start end (call ∷ H)) (c last : ℕ) (g : Begun c last H) where
    abbrev K : List Call
    K = call ∷ H

    abbrev Finely : Type 0
    Finely = IsFine (call ∷ g.behind) g.when g.first g.before

    earlier : Finely → IsFine g.behind g.when g.first g.before
    earlier f = (record { box = f.0.box; none = f.0.none; holder = f.0.holder.1 }, f.1)

    keeps : Finely → holder w K a ≡ known_by w call H a
    keeps f =
        let s = ap (λ (m : Message). m.source) g.announces in
        subst (λ G. holder w (call ∷ G) a ≡ known_by w call G a) (sym g.is) (subst (λ s. holder w (call ∷ g.behind ++ At g.when (Hear g.first) ∷ g.before) s ≡ known_by w call (g.behind ++ At g.when (Hear g.first) ∷ g.before) s) s f.0.holder.0)

    timed : (y : OpenBroadcast) → IsTimed last y H → IsTimed last y K
    timed y t =
        let m = goes_by start end call H time in
        let l = m.0 in
        let r = m.1 in
        let i = t.time in
        let q = t.behind in record { behind = omega (arith, l, q); time = omega (arith, l, r, i, q); since = t.since }

    late : (y : OpenBroadcast) → c ≤ packets_of b → Fits b c y → suc y.count ≡ c → (IsFine g.behind g.when g.first g.before → IsTimed last y H) → IsOver w a call H y → Finely → IsOverdue c last K
    late y l e n t o f = late_is c last y K l e n (timed y (t (earlier f))) (o.1 (keeps f))

    by_call : (d next : ℕ) → (IsOverdue c last H → Finely → IsOverdue d next K)
        → ((y : OpenBroadcast) → c ≤ packets_of b → unheard w g.before ≤ unheard w H → hearing w H a ≡ Some y → Fits b c y → suc y.count ≡ c → (IsFine g.behind g.when g.first g.before → IsTimed last y H)
        → Status d next Finely g.before K) → Begun d next K
    by_call d next o k = record { behind = call ∷ g.behind; when = g.when; first = g.first; before = g.before; is = ap (λ G. call ∷ G) g.is; announces = g.announces; since = g.since; status = go g.status }
      where
        go : Status c last (IsFine g.behind g.when g.first g.before) g.before H → Status d next Finely g.before K
        go (counted l h) = counted (let n = not_fewer w a call H in omega (arith, l, n)) (λ f. o (h (earlier f)) f)
        go (whole h) = whole (more_whole g.before call H h)
        go (current y l u e f n t) = k y l u e f n t

    passes : IsBeside w a call → Begun c last K
    passes i =
        by_call c last (λ o f. (let m = (goes_by start end call H time).0 in let l = o.1 in (o.0, omega (arith, l, m)))) (λ y l u e f n t. elim (beside w a call H y i e) [
          | inl k ↦ current y l (let z = not_fewer w a call H in omega (arith, u, z)) k f n (λ q. timed y (t (earlier q)))
          | inr o ↦ counted (let z = o.0 in omega (arith, u, z)) (late y l f n t o)
        ])

    ended : packets_of b < c → Begun c last K
    ended m = by_call c last (λ o f. absurd (let l = o.0 in omega (arith, l, m))) (λ y l u e f n t. absurd (omega (arith, l, m)))

  module _ (long : IsLong b) (own : is_own_group b.pgn ≡ false) (subscribed : is_subscribed w b.pgn ≡ true) where
    begins : (H : List Call) (now : ℕ) (f : FrameRecord) → message_of f ≡ frame_of b 0 → IsThen now → Begun 1 now (At now (Hear f) ∷ H)
    begins H now f m l = record { behind = []; when = now; first = f; before = H; is = refl; announces = m; since = l; status = status (cases_Bool (has_box w.boxes (found_in w H now f))) }
      where
        K : List Call
        K = At now (Hear f) ∷ H

        i : IsAnnouncement b f
        i = announcement b f long m

        own_it : is_own_group (pgn_named f) ≡ false
        own_it = ap is_own_group i.pgn ∙ own

        subscribed_it : is_subscribed w (pgn_named f) ≡ true
        subscribed_it = ap (is_subscribed w) i.pgn ∙ subscribed

        opened_it : hearing w K (source_of f.id) ≡ Some (opened w H now f) → Status 1 now (IsFine [] now f H) H K
        opened_it e = current (opened w H now f) (let n = long.least in omega (arith, n)) (not_fewer w a (At now (Hear f)) H) (ap (hearing w K) (sym i.source) ∙ e)
            (record { source = i.source; group = i.pgn; size = i.size; count = omega arith; bytes = refl }) refl
            (λ q. record { behind = omega arith; time = omega arith; since = (let z = ap (since_in (time_heard K)) q.0.none in omega (arith, z)) })

        status : (has_box w.boxes (found_in w H now f) ≡ true) ⊎ (has_box w.boxes (found_in w H now f) ≡ false) → Status 1 now (IsFine [] now f H) H K
        status (inl r) = opened_it (begins_there w H now f i.announces own_it subscribed_it (inl (ltb-true _ _ r)))
        status (inr r) = elim (heard_or_counted w H now f i.announces own_it subscribed_it) [
          | inl e ↦ opened_it e
          | inr e ↦ counted (omega (arith, e)) (λ q. absurd (not_both (has_box w.boxes (found_in w H now f)) r q.0.box))
        ]

    -- the next packet finds what is open
    module _ (j : ℕ) (H : List Call) (now : ℕ) (f : FrameRecord) (m : message_of f ≡ frame_of b (suc j)) where
      abbrev G : List Call
      G = At now (Hear f) ∷ H

      module _ (before : List Call) (fine : Type 0) (y : OpenBroadcast) (u : unheard w before ≤ unheard w H) (fewer : length (whole_broadcasts w before) ≤ length (whole_broadcasts w H)) (k : found w H now f a ≡ Some y) (fits : Fits b (suc j) y) (n : suc y.count ≡ suc j)
          (in_time : fine → time_heard G ≤ y.since + suc y.count * 750000) where
        abbrev z : OpenBroadcast
        z = grown (time_heard G) f y

        i : IsPacket b j f
        i = packet b j f m

        p : (packs f ≡ true) × (source_of f.id ≡ a)
        p = packet_packs b j f long m

        no : announces f ≡ false
        no = false_from_ne_true (announces f) (not_announces f i.group)

        found_it : found w H now f (source_of f.id) ≡ Some y
        found_it = ap (found w H now f) p.1 ∙ k

        number : slice_index f.bytes 0 ≡ suc y.count
        number = i.number ∙ sym n

        kept : HearingLemmas.Open (Kept w (At now (Hear f)) H) y
        kept = all_of (HearingLemmas.Open (Kept w (At now (Hear f)) H)) a (found_in w H now f).current y (stands_found w H now f).all k

        longer : Fits b (suc (suc j)) z
        longer = one_more b j (stamped now f) y z (packet b j (stamped now f) m) (grown_is (time_heard G) now f y number kept.0) fits

        is_full : length b.bytes ≤ 7 * suc j → is_whole z ≡ true
        is_full l =
            let s = kept.1.stood.sevens in
            let c = length-append y.bytes (drop 1 f.bytes) in
            let d = drop_one f.bytes (packs_eight f p.0) in
            let e = fits.size in le-leb y.size (length (y.bytes ++ drop 1 f.bytes)) (omega (arith, l, s, c, d, e, n))

        packed : Status (suc (suc j)) now fine before G
        packed = elim (cases_lt (7 * suc j) (length b.bytes)) [
          | inl l ↦ current z (omega (arith, l)) (let c = not_fewer w a (At now (Hear f)) H in omega (arith, u, c))
              (ap (hearing w G) (sym p.1) ∙ next_appended w H now f y no p.0 found_it number (let s = kept.1.stood.sevens in let e = fits.size in omega (arith, l, s, e, n))) longer (ap suc n)
              (λ q. record { behind = omega arith; time = omega arith; since = in_time q })
          | inr l ↦
              let e = whole_made w H now f y no p.0 found_it number (let s = kept.1.stood.sevens in let e = fits.size in omega (arith, l, s, e, n)) in
              let W = map (λ (x : ℕ × MessageRecord). x.1) (whole_broadcasts w H) in
              let n = length-map (whole_broadcasts w H) (λ (x : ℕ × MessageRecord). x.1) in
              whole (subst (λ o. Contains (drop (length (whole_broadcasts w before)) (map (λ x. x.1) (whole_broadcasts w H ++ listed o))) b) (sym e)
              (subst (λ ms. Contains (drop (length (whole_broadcasts w before)) ms) b) (sym (map-append (λ (x : ℕ × MessageRecord). x.1) (whole_broadcasts w H) (message_by z ∷ [])))
              (subst (λ m. Contains (drop (length (whole_broadcasts w before)) (W ++ (message_by z).1 ∷ [])) m) (whole_is b (suc (suc j)) z longer (is_full l))
              (last_there (length (whole_broadcasts w before)) W (message_by z).1 (omega (arith, fewer, n))))))
        ]

      fewer : {c last : ℕ} (g : Begun c last H) → length (whole_broadcasts w g.before) ≤ length (whole_broadcasts w H)
      fewer g =
          let x = fewer_whole w (At g.when (Hear g.first) ∷ []) g.before in
          let y = fewer_whole w g.behind (At g.when (Hear g.first) ∷ g.before) in
          let e = ap (λ (K : List Call). length (whole_broadcasts w K)) g.is in omega (arith, x, y, e)

      packs_on : (start end last : ℕ) → InTime start end G → (T → now ≤ last + 750000) → Begun (suc j) last H → Begun (suc (suc j)) now G
      packs_on start end last t in_time g =
          by_call start end (At now (Hear f)) H t (suc j) last g (suc (suc j)) now
          (λ o q. absurd (let l = o.1 in let r = in_time q.1 in let s = (goes_by start end (At now (Hear f)) H t).0 in omega (arith, l, r, s)))
          (λ y l u e fits n d. elim (is_found w a H now f y e) [
            | inl k ↦ packed g.before (IsFine (At now (Hear f) ∷ g.behind) g.when g.first g.before) y u (fewer g) k fits n
                (λ q. (let x = timed start end (At now (Hear f)) H t (suc j) last g y (d (earlier start end (At now (Hear f)) H t (suc j) last g q)) in let r = in_time q.1 in let s = x.time in let c = x.since in omega (arith, r, s, c)))
            | inr o ↦ counted (let s = o.0 in omega (arith, u, s))
                (λ q. absurd (let z = (late start end (At now (Hear f)) H t (suc j) last g y l fits n d o q).1 in let r = in_time q.1 in omega (arith, z, r)))
          ])

    -- ---- frame by frame, behind those of before

    -- the last of these frames came at this moment
    abbrev EndsAt : List FrameRecord → ℕ → Type 0
    EndsAt B last = (us : List FrameRecord) × (x : FrameRecord) × (B ≡ us ++ x ∷ []) × (x.stamp ≡ last)

    abbrev Came : ℕ → List FrameRecord → List Call → Type 0
    Came zero B H = Unit {0}
    Came (suc j) B H = (last : ℕ) × EndsAt B last × Begun (suc j) last H

    next_one : (start end : ℕ) (H : List Call) (now : ℕ) (f x : FrameRecord) (B : List FrameRecord) (j : ℕ) → InTime start end (At now (Hear f) ∷ H) → message_of f ≡ frame_of b j → IsThen now → now ≡ x.stamp
        → (T → AreClose 750000 (B ++ x ∷ [])) → Came j B H → Begun (suc j) now (At now (Hear f) ∷ H)
    next_one start end H now f x B zero t m s e c g = begins H now f m s
    next_one start end H now f x B (suc j) t m s e c g =
        packs_on j H now f m start end g.0 t
        (λ q. (let h = g.1 in let l = close_last 750000 h.0 h.1 x (subst (λ us. AreClose 750000 (us ++ x ∷ [])) h.2 (c q)) in let r = h.3 in omega (arith, l, r, e))) g.2

    module _ (A : List FrameRecord) where
      abbrev IsWalked : List Call → Type 0
      IsWalked H = (B : List FrameRecord) (c : ℕ) → its a (hears H) ≡ A ++ B → map message_of B ≡ first_frames b c → All (λ f. IsThen f.stamp) B → (T → AreClose 750000 B) → Came c B H

      one_heard : (start end : ℕ) (H : List Call) (now : ℕ) (f : FrameRecord) (B : List FrameRecord) (j : ℕ) (t : Bool) → InTime start end (At now (Hear f) ∷ H) → is_of a f ≡ t
          → its a (hears H) ++ (if t then stamped now f ∷ [] else []) ≡ A ++ B → map message_of B ≡ first_frames b (suc j) → All (λ f. IsThen f.stamp) B → (T → AreClose 750000 B) → IsWalked H
          → Came (suc j) B (At now (Hear f) ∷ H)
      one_heard start end H now f B j false t i e m s c rec =
          let g = rec B (suc j) (sym (append-nil (its a (hears H))) ∙ e) m s c in (g.0, g.1, passes start end (At now (Hear f)) H t (suc j) g.0 g.2 i)
      one_heard start end H now f B j true t i e m s c rec = elim (view B) [
        | inl n ↦ absurd (let x = ap length (sym (ap (map message_of) n) ∙ m) in let y = first_count b (suc j) in omega (arith, x, y))
        | inr v ↦
            let p = push_same (its a (hears H)) (A ++ v.0) (stamped now f) v.1 (e ∙ (ap (λ us. A ++ us) v.2 ∙ sym (append_assoc A v.0 (v.1 ∷ [])))) in
            let q = push_same (map message_of v.0) (first_frames b j) (message_of v.1) (frame_of b j) (sym (map-append message_of v.0 (v.1 ∷ [])) ∙ (ap (map message_of) (sym v.2) ∙ m)) in
            let all = subst (All (λ f. IsThen f.stamp)) v.2 s in
            let close : T → AreClose 750000 (v.0 ++ v.1 ∷ []) = λ x. subst (AreClose 750000) v.2 (c x) in
            let stamp : now ≡ v.1.stamp = ap (λ (f : FrameRecord). f.stamp) p.1 in (
              now,
              (v.0, v.1, v.2, sym stamp),
              next_one start end H now f v.1 v.0 j t (ap message_of p.1 ∙ q.1) (subst IsThen (sym stamp) (all_last (λ f. IsThen f.stamp) v.0 v.1 all)) stamp close
                  (rec v.0 j p.0 q.0 (all_front (λ f. IsThen f.stamp) v.0 (v.1 ∷ []) all) (λ x. close_front 750000 v.0 v.1 (close x))),
            )
      ]

      walked : (start end : ℕ) (H : List Call) → InTime start end H → IsWalked H
      walked start end H t B zero e m s c = tt
      walked start end [] t B (suc j) e m s c =
          absurd (let x = ap length e in let y = length-append A B in let z = ap length m in let u = length-map B message_of in let v = first_count b (suc j) in omega (arith, x, y, z, u, v))
      walked start end (At now (Hear f) ∷ H) t B (suc j) e m s c =
          one_heard start end H now f B j (is_of a f) t refl (sym (filter-append (is_of a) (hears H) (stamped now f ∷ [])) ∙ e) m s c (λ B d e m s c. walked start now H t.1 B d e m s c)
      walked start end (call ∷ H) t B (suc j) e m s c =
          let r = in_time_of start end (call ∷ []) H t in let g = walked start r.0 H r.1 B (suc j) e m s c in (g.0, g.1, passes start end call H t (suc j) g.0 g.2 tt)

      -- and what comes behind them
      abbrev pub IsThere : List Call → Type 0
      IsThere H = (last : ℕ) × Begun (suc (packets_of b)) last H

      one_behind : (H : List Call) (x r : FrameRecord) (B R : List FrameRecord) (t : Bool) → its a (hears H) ++ (if t then x ∷ [] else []) ≡ B ++ r ∷ R
          → ((R : List FrameRecord) → its a (hears H) ≡ B ++ R → IsThere H) → IsThere H
      one_behind H x r B R false e rec = rec (r ∷ R) (sym (append-nil (its a (hears H))) ∙ e)
      one_behind H x r B R true e rec = elim (view (r ∷ R)) [
        | inl n ↦ absurd (cc)
        | inr v ↦ rec v.0 (push_same (its a (hears H)) (B ++ v.0) x v.1 (e ∙ (ap (λ us. B ++ us) v.2 ∙ sym (append_assoc B v.0 (v.1 ∷ []))))).0
      ]

      pub all_heard : (start end : ℕ) (H : List Call) → InTime start end H → (B R : List FrameRecord) → its a (hears H) ≡ (A ++ B) ++ R → map message_of B ≡ all_frames b → All (λ f. IsThen f.stamp) B
          → (T → AreClose 750000 B) → IsThere H
      all_heard start end H t B [] e m s c = let g = walked start end H t B (suc (packets_of b)) (e ∙ append-nil (A ++ B)) m s c in (g.0, g.2)
      all_heard start end [] t B (r ∷ R) e m s c = absurd (let x = ap length e in let y = length-append (A ++ B) (r ∷ R) in omega (arith, x, y))
      all_heard start end (At now (Hear f) ∷ H) t B (r ∷ R) e m s c =
          let g = one_behind H (stamped now f) r (A ++ B) R (is_of a f) (sym (filter-append (is_of a) (hears H) (stamped now f ∷ [])) ∙ e) (λ R e. all_heard start now H t.1 B R e m s c) in
          (g.0, ended start end (At now (Hear f)) H t (suc (packets_of b)) g.0 g.1 (omega arith))
      all_heard start end (call ∷ H) t B (r ∷ R) e m s c =
          let q = in_time_of start end (call ∷ []) H t in
          let g = all_heard start q.0 H q.1 B (r ∷ R) e m s c in (g.0, ended start end call H t (suc (packets_of b)) g.0 g.1 (omega arith))

-- ---- from its acceptance on

own_group : (group : ℕ) (bytes : List ℕ) → can_broadcast group bytes ≡ true → is_own_group group ≡ false
own_group group bytes e = grind (arith, e)

module _ (delay now i j k at group : ℕ) (bytes : List ℕ) (L : List Passed) (members : List Member) (m n : Member) (after later earlier : List Call)
    (net : Net delay now (IsNoneOf (all_frames (broadcast_from m.who group bytes))) L members) (hm : IsMember members i m) (hn : IsMember members j n) (apart : i ≡ j → ⊥)
    (only : OnlySends L i m.who.address) (fits : group < 2 ^ 18)
    (is : m.history ≡ after ++ (TakeBroadcastEnded (Some (k, Done)) ∷ later ++ At at (Broadcast group bytes (Ok k)) ∷ earlier)) where
  abbrev w : Who
  w = m.who

  abbrev b : MessageRecord
  b = broadcast_from w group bytes

  abbrev B : List Call
  B = At at (Broadcast group bytes (Ok k)) ∷ earlier

  abbrev H : List Call
  H = later ++ B

  told : AreAnswered w (TakeBroadcastEnded (Some (k, Done)) ∷ H)
  told = answered_from w after (TakeBroadcastEnded (Some (k, Done)) ∷ H) (subst (AreAnswered w) is (net.answered i m hm))

  accepted : Accepts (holds w earlier at) (can_broadcast group bytes) (is_busy w earlier) (length (broadcasts w earlier)) k
  accepted = broadcast_accepts w earlier at group k bytes (answered_from w later B told.0).1

  long : IsLong b
  long = long_by w group bytes (net.address i m hm) fits accepted.1

  -- all its frames were taken, and none of another
  done : (c : MessageRecord) × (open_broadcast w H ≡ Some (k, c)) × (packets H ≡ all_frames c)
  done = go (lane_end (open_broadcast w H) (length (packets H)) (is_lost (address_after w H)) (k, Done) told.1)
    where
      go : LaneEnd (open_broadcast w H) (length (packets H)) (is_lost (address_after w H)) (k, Done) → (c : MessageRecord) × (open_broadcast w H ≡ Some (k, c)) × (packets H ≡ all_frames c)
      go (LaneEnd.broken c f l lost d) = absurd (cc)
      go (LaneEnd.complete c f l d) =
          let o = opened_by w _ _ _ (open_broadcast w H) (k, c) (laned w H told.0) f in
          (c, f, o.frames ∙ ap (first_frames c) (let x = o.within in let z : length (packets H) ≡ suc (packets_of c) = omega (arith, x, l) in z))

  opened_it : Opened w (length (told_broadcasts H)) (broadcasts w H) (packets H) (k, done.0)
  opened_it = opened_by w _ _ _ (open_broadcast w H) (k, done.0) (laned w H told.0) done.1

  none_since : length (broadcasts w H) ≤ length (broadcasts w B)
  none_since = let x = opened_it.count in let y = accepted.3 in let s = length-append (broadcasts w earlier) (b ∷ []) in omega (arith, x, y, s)

  its_frames : map message_of (its b.source (frames later)) ≡ all_frames b
  its_frames =
      let h = none_accepted w later B none_since in
      let last : Some done.0 ≡ Some b =
      sym opened_it.last ∙ (ap (slice_get (broadcasts w H)) accepted.3 ∙ (ap (λ bs. slice_get bs (length (broadcasts w earlier))) h.1 ∙ get_last (broadcasts w earlier) b)) in
      let same : done.0 ≡ b = cc in
      ap (map message_of) (own_packets w later B told.0) ∙ (sym h.0 ∙ (done.2 ∙ ap all_frames same))

  abbrev IsThen : ℕ → Type 0
  IsThen t = (at ≤ t) × (t ≤ moment H + delay + delay)

  abbrev IsQuick : ℕ → Type 0
  IsQuick g = IsSteady g later B × (150000 + 3 * g + 2 * delay ≤ 750000)

  pub got : n.since ≤ at → is_subscribed n.who group ≡ true
      → (behind : List Call) × (when : ℕ) × (f : FrameRecord) × (before : List Call) × (n.history ≡ behind ++ At when (Hear f) ∷ before) × (message_of f ≡ frame_of b 0) × (at ≤ when) × (when ≤ moment H + 2 * delay)
      × (Contains (whole_since n.who before n.history) b ⊎ (unheard n.who before < unheard n.who n.history))
      × ((g : ℕ) → IsWelcome n.who behind before when f → IsSteady g later B → 150000 + 3 * g + 2 * delay ≤ 750000 → Contains (whole_since n.who before n.history) b)
  got there subscribed =
      let all : frames m.history ≡ frames earlier ++ (frames later ++ frames after) = ap frames is
      ∙ (frames_append after (TakeBroadcastEnded (Some (k, Done)) ∷ H) ∙ (ap (λ v. v ++ frames after) (frames_append later B) ∙ append_assoc (frames earlier) (frames later) (frames after))) in
      let p = parts delay i j n.since b.source (IsNoneOf (all_frames b)) (frames earlier) (frames later ++ frames after) L (hears n.history)
      (record { only = only; sent = subst (λ fs. Come delay (IsNoneOf (all_frames b)) fs (own i L)) all (net.sent i m hm); heard = net.heard j n hn }) in
      let q = parts delay i j n.since b.source (IsNoneOf (all_frames b)) (frames later) (frames after) p.passed_then p.heard_then p.rest in
      let t = in_time_of m.since now after (TakeBroadcastEnded (Some (k, Done)) ∷ H) (subst (InTime m.since now) is (net.in_time i m hm)) in
      let r = its_heard delay i j n.since b.source at (moment H) (frames later) q.passed q.heard apart
      (subst (λ X. Travels delay i j n.since b.source (IsNoneOf X) (frames later) q.passed q.heard) (sym its_frames) q.first)
      (taken_since w later earlier m.since t.0 at (moment H) (Broadcast group bytes (Ok k)) told.0 t.1 (omega arith)) there in
      let e : its b.source (hears n.history) ≡ (its b.source p.heard ++ its b.source q.heard) ++ its b.source q.heard_then =
      ap (its b.source) (p.is ∙ (ap (λ v. p.heard ++ v) q.is ∙ sym (append_assoc p.heard q.heard q.heard_then)))
      ∙ (filter-append (is_of b.source) (p.heard ++ q.heard) q.heard_then ∙ ap (λ v. v ++ its b.source q.heard_then) (filter-append (is_of b.source) p.heard q.heard)) in
      let close : (g : ℕ) × IsQuick g → AreClose 750000 (its b.source q.heard) =
      λ c.
      let x = 150000 + 3 * c.0 in
      let y = are_close w B c.0 k done.0 m.since t.0 later told.0 t.1 c.1.0 done.1 none_since in
      close_within (x + delay + delay) 750000 (its b.source q.heard) (let l = c.1.1 in omega (arith, l)) (r.2 x (subst (AreClose x) (sym (own_packets w later B told.0)) y)) in
      let g = (all_heard n.who b IsThen ((g : ℕ) × IsQuick g) long (own_group group bytes accepted.1) subscribed (its b.source p.heard) n.since now n.history (net.in_time j n hn)
      (its b.source q.heard) (its b.source q.heard_then) e (r.0 ∙ its_frames) r.1 close) in
      let h = result g.1.status in
      let from = g.1.since.0 in
      let to = g.1.since.1 in
      (g.1.behind, g.1.when, g.1.first, g.1.before, g.1.is, g.1.announces, from, omega (arith, to), elim h [ inl x ↦ inl x | inr x ↦ inr x.0 ], λ t f c l. elim h [ inl x ↦ x | inr x ↦ absurd (x.1 (f, (t, (c, l)))) ])
    where
      result : {last : ℕ} {fine : Type 0} {before : List Call} → Status n.who b IsThen ((g : ℕ) × IsQuick g) (suc (packets_of b)) last fine before n.history
          → Contains (whole_since n.who before n.history) b ⊎ ((unheard n.who before < unheard n.who n.history) × (fine → ⊥))
      result (Status.counted l h) = inr (l, λ f. (let z = (h f).0 in absurd (omega (arith, z))))
      result (Status.whole h) = inl h
      result (Status.current y l u e f n t) = absurd (omega (arith, l))
