-- The laws of broadcasts in packets that are heard.
use Rattle.j39_node.proofs.Common.{[], if◌then◌else◌, ◌*◌, ◌++◌, ◌+◌, ◌-◌, ◌<◌, ◌||◌, ◌↔◌, ◌∙◌, ◌∷◌, ◌≡◌, ◌≢◌, ◌≤◌, ◌⊎◌, account, announced, announces, ap, append_assoc, AreApart, arith, At, Bool, broadcast_limit, by, Call, called, claim_of, claimed_again, Controller, drop, earliest, expires, false, found, found_in, FrameRecord, got_broadcasts, grown, has_room, has_some, Hear, heard_at, hearing, hearing_tick, hears_it, held_then, holder, IfSome, inl, inr, Is, is_ignored, is_late, is_own_group, is_same, is_subscribed, is_wanted, is_whole, IsHeardOf, IsTrue, known, late_at, leb-true, length, length-append, length-drop, length-take-le, List, listed, listening, ltb-false, made_whole, message_by, MessageRecord, min, more, NeverBack, None, not, not_both, of, of_other, OpenBroadcast, opens, Option, or_parts, over_by, packed, packets_for, packs, passed_in, pgn_named, refl, ReleaseBroadcast, restarts, since_in, slice_index, Some, sooner, source_of, stay, StaysHeard, still, subst, suc, sym, take, take-append-drop, TakeFrame, those_over, Tick, TicksWithin, time_heard, true, unheard, unheard_by, unheard_news, waiting, WasBroadcast, Who, whole_broadcasts, whole_of, with_all, ℕ, waned}
use Rattle.std.specs.List.{All, filter}
use Rattle.std.proofs.lemmas.Bool.{cases_Bool}
use Rattle.std.proofs.lemmas.List.Elements.{All-head, All-tail}
use Rattle.std.proofs.lemmas.List.Filters.{length-filter_both}
use Rattle.j39_node.specs.Hearing.{broadcast_senders, goes_on, is_left, is_over, opened, sender_in, with_sender}
use Rattle.j39_transport.proofs.FrameFacts.{announcement_facts}
use Rattle.j39_transport.specs.Frames.{is_announcement}
use Rattle.j39_node.proofs.ReceptionLaws.{after_moment, before_moment}
use Rattle.j39_node.proofs.ListenLemmas.{all_of, begun_open}
use Rattle.j39_node.proofs.HearingLemmas.{Kept, Open, Stands, Stood, all_more, all_own, drop_one, every, heard_counts, kept_by, of_another, of_filter, of_its, one, open_part, packs_eight, result_stood, same_is, same_same, source_at, stands, stands_found, waits_made}
use Rattle.j39_node.proofs.FrameLemmas.{lt_false}
use Rattle.j39_node.proofs.RestartLaws.{gone}
use Rattle.j39_node.proofs.SessionLaws.{account_ends as ends}

-- ---- each once, in order

pub in_order : (who : Who) (H : List Call) → whole_broadcasts who H ≡ got_broadcasts who H ++ waiting who H
in_order who [] = refl
in_order who (At when (Hear f) ∷ H) =
    let G = At when (Hear f) ∷ H in
    ap (λ z. z ++ listed (made_whole who H when f)) (in_order who H)
    ∙ (append_assoc (got_broadcasts who H) (waiting who H) (listed (made_whole who H when f))
    ∙ ap (λ z. got_broadcasts who H ++ z) (sym (waits_made who.boxes who (holder who G (source_of f.id)) (time_heard G) f (found_in who H when f))))
in_order who (At now (TakeFrame (Some f)) ∷ H) = let h = in_order who H in grind (arith, h)
in_order who (ReleaseBroadcast true ∷ H) =
    in_order who H
    ∙ (ap (λ z. got_broadcasts who H ++ z) (sym (take-append-drop 1 (waiting who H))) ∙ sym (append_assoc (got_broadcasts who H) (take 1 (waiting who H)) (drop 1 (waiting who H))))
in_order who (call ∷ H) = in_order who H

-- a sender for each that waits
with_each : (o : Option (ℕ × MessageRecord)) (name : Option ℕ) (names : List (Option ℕ)) (xs : List (ℕ × MessageRecord)) → length names ≡ length xs
    → length (with_sender o name names) ≡ length (xs ++ listed o)
with_each o name names xs e = grind (arith, e, length-append)

pub each_sender : (who : Who) (H : List Call) → length (broadcast_senders who H) ≡ length (waiting who H)
each_sender who [] = refl
each_sender who (At when (Hear f) ∷ H) =
    let G = At when (Hear f) ∷ H in
    with_each (made_whole who H when f) (sender_in (found who H when f (source_of f.id))) (broadcast_senders who H) (waiting who H) (each_sender who H)
    ∙ ap length (sym (waits_made who.boxes who (holder who G (source_of f.id)) (time_heard G) f (found_in who H when f)))
each_sender who (At now (TakeFrame (Some f)) ∷ H) = let h = each_sender who H in grind (arith, h)
each_sender who (ReleaseBroadcast true ∷ H) = let h = each_sender who H in grind (arith, h)
each_sender who (call ∷ H) = each_sender who H

pub released : (who : Who) (H : List Call) (c : Controller) (answer : Bool) → Is who (ReleaseBroadcast answer ∷ H) c
    → (answer ≡ true ↔ ((x : ℕ × MessageRecord) × (xs : List (ℕ × MessageRecord)) × (waiting who H ≡ x ∷ xs)))
released who H c answer is = let e = is.answered.1 in (λ z. grind (arith, e, z), λ z. (let k = z.2 in grind (arith, e, k)))

-- ---- what a frame finds

-- it stays, where it isn't over
abbrev is_kept : Who → List Call → ℕ → FrameRecord → OpenBroadcast → Bool
is_kept who H when f x = not (is_over (restarts who H when f) (holder who (At when (Hear f) ∷ H)) (time_heard (At when (Hear f) ∷ H)) x)

found_of : (who : Who) (H : List Call) (when a : ℕ) (f : FrameRecord) → found who H when f a ≡ kept_by (is_kept who H when f) (hearing who H a)
found_of who H when a f = of_filter (is_kept who H when f) a (listening who H).current (stands who H).apart

kept_is : (p : OpenBroadcast → Bool) (o : Option OpenBroadcast) (x : OpenBroadcast) → kept_by p o ≡ Some x → (o ≡ Some x) × (p x ≡ true)
kept_is p o x e = (grind (arith, e), grind (arith, e))

pub none_found : (who : Who) (H : List Call) (when a : ℕ) (f : FrameRecord) (x : OpenBroadcast) → found who H when f a ≡ Some x → hearing who H a ≡ Some x
none_found who H when a f x e = (kept_is (is_kept who H when f) (hearing who H a) x (sym (found_of who H when a f) ∙ e)).0

named : (who : Who) (H : List Call) (a : ℕ) (x : OpenBroadcast) → hearing who H a ≡ Some x → (x.name ≡ holder who H a) × (x.source ≡ a)
named who H a x e =
    let s = source_at a (listening who H).current x e in
    ((all_of (Open (Stood who H)) a (listening who H).current x (stands who H).all e).1.named ∙ ap (holder who H) s, s)

-- it is left where its source has another holder than it had, or restarts
left_is : (away : Option ℕ) (before after : ℕ → Option ℕ) (x : OpenBroadcast) → x.name ≡ before x.source → ((n : ℕ) → away ≡ Some n → (m : ℕ) × (after n ≡ Some m))
    → is_left away after x ≡ not (is_same (still away before x.source) (after x.source))
left_is away before after x e h = grind (arith, e, h)

pub found_means : (who : Who) (H : List Call) (when a : ℕ) (f : FrameRecord) (x : OpenBroadcast) → hearing who H a ≡ Some x
    → (found who H when f a ≡ Some x ↔ ((holder who (At when (Hear f) ∷ H) a ≡ known who H when f a) × (is_late (time_heard (At when (Hear f) ∷ H)) x ≡ false)))
found_means who H when a f x e = (
  λ z. (let k = (kept_is (is_kept who H when f) (hearing who H a) x (sym (found_of who H when a f) ∙ z)).1 in let l = left in (sym (same_is _ _ (grind (arith, k, l))), grind (arith, k))),
  λ z. (let l = left in let s = same_same (known who H when f a) in let same = z.0 in let late = z.1 in
      found_of who H when a f ∙ (ap (kept_by (is_kept who H when f)) e ∙ grind (arith, l, s, same, late))),
)
  where
    left : is_left (restarts who H when f) (holder who (At when (Hear f) ∷ H)) x ≡ not (is_same (known who H when f a) (holder who (At when (Hear f) ∷ H) a))
    left =
        let n = named who H a x e in
        left_is (restarts who H when f) (holder who H) (holder who (At when (Hear f) ∷ H)) x (n.0 ∙ ap (holder who H) (sym n.1)) (λ m i. (gone who H when m f i).1)
        ∙ ap (λ (b : ℕ). not (is_same (known who H when f b) (holder who (At when (Hear f) ∷ H) b))) n.1

pub found_known : (who : Who) (H : List Call) (when a : ℕ) (f : FrameRecord) (x : OpenBroadcast) → found who H when f a ≡ Some x
    → (holder who (At when (Hear f) ∷ H) a ≡ known who H when f a) × (is_late (time_heard (At when (Hear f) ∷ H)) x ≡ false)
found_known who H when a f x e = (found_means who H when a f x (none_found who H when a f x e)).0 e

pub none_known : (who : Who) (H : List Call) (when a : ℕ) (f : FrameRecord) → holder who (At when (Hear f) ∷ H) a ≢ known who H when f a → found who H when f a ≡ None
none_known who H when a f n = go (found who H when f a) refl
  where
    go : (o : Option OpenBroadcast) → found who H when f a ≡ o → found who H when f a ≡ None
    go None i = i
    go (Some x) i = absurd (n (found_known who H when a f x i).0)

pub released_leaves : (who : Who) (H : List Call) (answer : Bool) → (listening who (ReleaseBroadcast answer ∷ H)).current ≡ (listening who H).current
released_leaves who H answer = grind arith

pub others_leave : (who : Who) (H : List Call) (when a : ℕ) (f : FrameRecord) → source_of f.id ≢ a → hearing who (At when (Hear f) ∷ H) a ≡ found who H when f a
others_leave who H when a f n =
    of_another who.boxes who (holder who (At when (Hear f) ∷ H) (source_of f.id)) (time_heard (At when (Hear f) ∷ H)) f (found_in who H when f) a n

-- ---- packets

module _ (who : Who) (H : List Call) (when : ℕ) (f : FrameRecord) where
  abbrev pub K : List Call
  K = At when (Hear f) ∷ H

  abbrev pub s : ℕ
  s = source_of f.id

  abbrev pub room : Bool
  room = has_room who.boxes s (found_in who H when f)

  -- what the frame makes of the one of its source
  abbrev pub of_it : Option OpenBroadcast
  of_it = hears_it who (holder who K s) (time_heard K) f room (found who H when f s)

  its : (announces f || packs f) ≡ true → hearing who K s ≡ open_part of_it
  its e = of_its who.boxes who (holder who K s) (time_heard K) f (found_in who H when f) ∙ ap (λ (b : Bool). if b then open_part of_it else found who H when f s) e

  module _ (x : OpenBroadcast) (e : announces f ≡ false) (p : IsTrue (packs f)) (k : found who H when f s ≡ Some x) where
    kind : (announces f || packs f) ≡ true
    kind = λ i. e i || p i

    packet : of_it ≡ goes_on (time_heard K) f x
    packet = λ i. if e i then (if room then opens who (holder who K s) (time_heard K) f (found who H when f s) else found who H when f s) else if p i then packed (time_heard K) f (k i) else k i

    longer : length (x.bytes ++ drop 1 f.bytes) ≡ length x.bytes + 7
    longer = let a = length-append x.bytes (drop 1 f.bytes) in let b = drop_one f.bytes (packs_eight f p) in omega (arith, a, b)

    pub next_appended : slice_index f.bytes 0 ≡ suc x.count → length x.bytes + 7 < x.size → hearing who K s ≡ Some (grown (time_heard K) f x)
    next_appended m n = let l = longer in its kind ∙ (ap open_part packet ∙ grind (arith, m, n, l))

    pub whole_made : slice_index f.bytes 0 ≡ suc x.count → x.size ≤ length x.bytes + 7 → made_whole who H when f ≡ Some (message_by (grown (time_heard K) f x))
    whole_made m n = let l = longer in (λ i. if kind i then whole_of (packet i) else None) ∙ grind (arith, m, n, l)

    pub repeat_ignored : slice_index f.bytes 0 ≤ x.count → hearing who K s ≡ Some x
    repeat_ignored n =
        let w : is_whole x ≡ false = (all_of (Open (Kept who (At when (Hear f)) H)) s (found_in who H when f).current x (stands_found who H when f).all k).0 in
        its kind ∙ (ap open_part packet ∙ grind (arith, n, w))

    pub gap_ends : suc x.count < slice_index f.bytes 0 → hearing who K s ≡ None
    gap_ends n = its kind ∙ (ap open_part packet ∙ grind (arith, n))

  -- what is no claim leaves who holds an address
  pub strangers : claim_of f ≡ None → announces f ≡ false → packs f ≡ false → listening who K ≡ listening who (At when Tick ∷ H)
  strangers e g i = grind (arith, e, g, i)

  -- ---- announcements

  module _ (e : announces f ≡ true) where
    module _ (own : is_own_group (pgn_named f) ≡ false) (subscribed : IsTrue (is_subscribed who (pgn_named f))) where
      for_program : is_ignored who (pgn_named f) ≡ false
      for_program = λ i. own i || not (subscribed i)

      begins : room ≡ true → hearing who K s ≡ Some (opened who H when f)
      begins r =
          let b = begun_open (holder who K s) (since_in (time_heard K) (found who H when f s)) (time_heard K) f e in
          let i = for_program in
          its (ap (λ (b : Bool). b || packs f) e) ∙ grind (arith, e, r, i, b)

      counted : room ≡ false → unheard who K ≡ suc (length (over_by who H (At when (Hear f))) + unheard who H)
      counted r = let i = for_program in let a = all_more (over_by who H (At when (Hear f))) (unheard who H) in grind (arith, e, r, i, a)

      pub heard_or_counted : (hearing who K s ≡ Some (opened who H when f)) ⊎ (unheard who K ≡ suc (length (over_by who H (At when (Hear f))) + unheard who H))
      heard_or_counted = elim (cases_Bool room) [ inl r ↦ inl (begins r) | inr r ↦ inr (counted r) ]

      pub full : hearing who K s ≢ Some (opened who H when f)
          → (who.boxes ≡ length (found_in who H when f).current + length (waiting who H)) × ((a : ℕ) (x : OpenBroadcast) → found who H when f a ≡ Some x
          → (s ≢ a) × (is_late (time_heard K) x ≡ false))
      full n = elim (cases_Bool room) [
        | inl r ↦ absurd (n (begins r))
        | inr r ↦
            let z = or_parts (has_some (found who H when f s)) _ r in
            let l = ltb-false _ _ z.1 in
            let m = (stands_found who H when f).room in (
              omega (arith, l, m),
              λ a x k. (λ q. absurd (let y : has_some (found who H when f s) ≡ true = ap has_some (ap (found who H when f) q ∙ k) in not_both _ z.0 y), (found_known who H when a f x k).1),
            )
      ]

pub as_ticked : (who : Who) (H : List Call) (when a : ℕ) (f : FrameRecord) → claim_of f ≡ None → source_of f.id ≢ a
    → hearing who (At when (Hear f) ∷ H) a ≡ hearing who (At when Tick ∷ H) a
as_ticked who H when a f e n =
    others_leave who H when a f n
    ∙ λ i. of a (stay (claimed_again (holder who H) (waned (when - heard_at H) (called who H)) (e i))
    (λ b. held_then b (of_other who (e i)) (holder who H b)) (time_heard (At when Tick ∷ H)) (listening who H).current)

pub begins_there : (who : Who) (H : List Call) (when : ℕ) (f : FrameRecord) → announces f ≡ true → is_own_group (pgn_named f) ≡ false → IsTrue (is_subscribed who (pgn_named f))
    → (length (found_in who H when f).current + length (waiting who H) < who.boxes) ⊎ ((x : OpenBroadcast) × (found who H when f (source_of f.id) ≡ Some x))
    → hearing who (At when (Hear f) ∷ H) (source_of f.id) ≡ Some (opened who H when f)
begins_there who H when f e own subscribed h = begins who H when f e own subscribed (there h)
  where
    there : (length (found_in who H when f).current + length (waiting who H) < who.boxes) ⊎ ((x : OpenBroadcast) × (found who H when f (source_of f.id) ≡ Some x)) → room who H when f ≡ true
    there h = grind (arith, h)

pub boxes : (who : Who) (H : List Call) → length (listening who H).current + length (waiting who H) ≤ who.boxes
boxes who H = (stands who H).room

-- ---- all that was announced is whole, counted or open

over_count : (gone : Option ℕ) (holds : ℕ → Option ℕ) (now : ℕ) (xs : List OpenBroadcast) → length (those_over gone holds now xs) + length (stay gone holds now xs) ≡ length xs
over_count gone holds now xs = length-filter_both (is_over gone holds now) (λ x. not (is_over gone holds now x)) (λ x. refl) xs

left_counts : (gone : Option ℕ) (holds : ℕ → Option ℕ) (now : ℕ) (xs : List OpenBroadcast) (a n m : ℕ) → a ≡ n + m + length xs
    → a ≡ n + with_all (those_over gone holds now xs) m + length (stay gone holds now xs)
left_counts gone holds now xs a n m e = let o = over_count gone holds now xs in let r = all_more (those_over gone holds now xs) m in omega (arith, e, o, r)

more_is : (b : Bool) (n : ℕ) → more b n ≡ n + one b
more_is b n = grind arith

pub exact : (who : Who) (H : List Call) → announced who H ≡ length (whole_broadcasts who H) + unheard who H + length (listening who H).current
exact who [] = refl
exact who (At when (Hear f) ∷ H) =
    let G = At when (Hear f) ∷ H in
    let n = exact who H in
    let o = over_count (restarts who H when f) (holder who G) (time_heard G) (listening who H).current in
    let d = heard_counts who.boxes who (holder who G (source_of f.id)) (time_heard G) f (found_in who H when f) (stands_found who H when f).apart in
    let m = length-append (whole_broadcasts who H) (listed (made_whole who H when f)) in
    let p = more_is (is_wanted who f) (announced who H) in
    let q = more_is (unheard_by who H (At when (Hear f))) (with_all (over_by who H (At when (Hear f))) (unheard who H)) in
    let r = all_more (over_by who H (At when (Hear f))) (unheard who H) in
    omega (arith, n, o, d, m, p, q, r)
exact who (At now Tick ∷ H) = left_counts None (holder who H) (time_heard (At now Tick ∷ H)) (listening who H).current _ _ _ (exact who H)
exact who (At now (TakeFrame (Some f)) ∷ H) =
    let n = exact who H in
    let l = left_counts None (holder who (At now (TakeFrame (Some f)) ∷ H)) (time_heard H) (listening who H).current (announced who H) (length (whole_broadcasts who H)) (unheard who H) n in
    grind (arith, n, l)
exact who (ReleaseBroadcast true ∷ H) = exact who H
exact who (call ∷ H) = exact who H

-- ---- news

pub some_unheard : (who : Who) (H : List Call) → IsTrue (unheard_news who H) → 0 < unheard who H
some_unheard who [] e = absurd (cc)
some_unheard who (call ∷ H) e = let h = some_unheard who H in grind (arith, h, e)

pub is_told : (who : Who) (H : List Call) (call : Call) → unheard who (call ∷ H) ≢ unheard who H → IsTrue (unheard_news who (call ∷ H))
is_told who H call e = grind (arith, e)

-- ---- what is heard is for the program

not_ignored : (who : Who) (group : ℕ) → is_ignored who group ≡ false → IsTrue (is_subscribed who group) × (is_own_group group ≡ false)
not_ignored who group e = (grind (arith, e), grind (arith, e))

-- what is whole by a frame is what it makes of the one of its source
pub made_is : (who : Who) (H : List Call) (when : ℕ) (f : FrameRecord) (p : ℕ × MessageRecord) → made_whole who H when f ≡ Some p
    → (z : OpenBroadcast) × (hears_it who (holder who (At when (Hear f) ∷ H) (source_of f.id)) (time_heard (At when (Hear f) ∷ H)) f (room who H when f) (found who H when f (source_of f.id)) ≡ Some z)
    × (is_whole z ≡ true) × (p ≡ message_by z)
made_is who H when f p = of_some (announces f || packs f) _
  where
    of_some : (b : Bool) (o : Option OpenBroadcast) → (if b then whole_of o else None) ≡ Some p → (z : OpenBroadcast) × (o ≡ Some z) × (is_whole z ≡ true) × (p ≡ message_by z)
    of_some b o k = grind (arith, k)

made_stood : (who : Who) (H : List Call) (when : ℕ) (f : FrameRecord) (p : ℕ × MessageRecord) → made_whole who H when f ≡ Some p
    → (z : OpenBroadcast) × Stood who (At when (Hear f) ∷ H) z × (is_whole z ≡ true) × (p ≡ message_by z)
made_stood who H when f p e =
    let z = made_is who H when f p e in
    (z.0, subst (λ (o : Option OpenBroadcast). IfSome o (Stood who (At when (Hear f) ∷ H))) z.1 (result_stood who H when f (stands_found who H when f)), z.2, z.3)

pub wanted_whole : (who : Who) (H : List Call) (when : ℕ) (f : FrameRecord) (p : ℕ × MessageRecord) → made_whole who H when f ≡ Some p
    → IsTrue (is_subscribed who p.1.pgn) × (is_own_group p.1.pgn ≡ false)
wanted_whole who H when f p e =
    let z = made_stood who H when f p e in
    subst (λ (m : ℕ × MessageRecord). IsTrue (is_subscribed who m.1.pgn) × (is_own_group m.1.pgn ≡ false)) (sym z.3) (not_ignored who z.0.group z.1.wanted)

-- ---- of one sender

-- all its packets came
done : (who : Who) (H : List Call) (x : OpenBroadcast) → Stood who H x → is_whole x ≡ true → WasBroadcast who H (message_by x).1
done who H x k w =
    let h = k.sent in
    let c = h.stands.2 in
    let enough : x.size ≤ length x.bytes = leb-true _ _ w in
    let size : length (take x.size x.bytes) ≡ x.size = length-take-le x.size x.bytes enough in
    let facts = announcement_facts (by (source_of h.first.id)) h.first c.announced in
    record {
      later = h.later;
      at = h.at;
      first = h.first;
      earlier = h.earlier;
      is = h.is;
      packets = h.stands.0;
      part = h.stands.1;
      one = h.one;
      carries = record {
        long = (let a = facts.large in let b = c.size in omega (arith, a, b, size));
        source = refl;
        announced = subst (λ (a : ℕ). is_announcement (by a) h.first ≡ true) (sym c.source) c.announced;
        size = sym c.size ∙ sym size;
        pgn = sym c.group;
        count = (let a = facts.count in let b = c.size in let n = c.count in let d = c.few in let s = k.sevens in omega (arith, a, b, n, d, s, enough));
        numbered = c.numbered;
        padding = drop x.size x.bytes;
        few = (let d = c.few in let l = length-drop x.size x.bytes in omega (arith, d, l, enough));
        joined_are = c.bytes ∙ sym (take-append-drop x.size x.bytes);
      };
    }

pub came : (who : Who) (H : List Call) (when : ℕ) (f : FrameRecord) (p : ℕ × MessageRecord) → made_whole who H when f ≡ Some p → WasBroadcast who (At when (Hear f) ∷ H) p.1
came who H when f p e =
    let z = made_stood who H when f p e in
    subst (λ (m : ℕ × MessageRecord). WasBroadcast who (At when (Hear f) ∷ H) m.1) (sym z.3) (done who (At when (Hear f) ∷ H) z.0 z.1 z.2)

-- ---- a tick

-- of the soonest and the rest
none_sooner : (m now : ℕ) (o : Option ℕ) → ((e : ℕ) → sooner (Some m) o ≡ Some e → now ≤ e) → (now ≤ m) × ((e : ℕ) → o ≡ Some e → now ≤ e)
none_sooner m now None h = (h m refl, λ e z. absurd (cc))
none_sooner m now (Some n) h = let l = h (min m n) refl in (omega (arith, l), λ e z. (let k : n ≡ e = cc in omega (arith, k, l)))

none_over : (holds : ℕ → Option ℕ) (now : ℕ) (xs : List OpenBroadcast) → All (λ x. x.name ≡ holds x.source) xs → ((e : ℕ) → earliest xs ≡ Some e → now ≤ e) → stay None holds now xs ≡ xs
none_over holds now [] h q = refl
none_over holds now (x ∷ xs) h q =
    let l = none_sooner (expires x) now (earliest xs) q in
    (λ i. if not (not ((ap (λ (o : Option ℕ). is_same o (holds x.source)) (All-head (λ x. x.name ≡ holds x.source) x xs h) ∙ same_same (holds x.source)) i) || lt_false _ _ l.0 i)
    then x ∷ stay None holds now xs else stay None holds now xs)
    ∙ ap (λ ys. x ∷ ys) (none_over holds now xs (All-tail (λ x. x.name ≡ holds x.source) x xs h) l.1)

some_over : (holds : ℕ → Option ℕ) (now e : ℕ) (xs : List OpenBroadcast) → earliest xs ≡ Some e → e < now → 0 < length (those_over None holds now xs)
some_over holds now e [] g l = absurd (cc)
some_over holds now e (x ∷ xs) g l = let h = λ (k : ℕ). some_over holds now k xs in grind (arith, h, g, l)

pub tick_keeps : (who : Who) (H : List Call) (now : ℕ) → heard_at H ≤ now → now < 10000000000000000 → ((t : ℕ) → hearing_tick who H ≡ Some t → now < t)
    → listening who (At now Tick ∷ H) ≡ listening who H
tick_keeps who H now l m q =
    λ i. record {
      current =
          none_over (holder who H) (time_heard (At now Tick ∷ H)) (listening who H).current (λ i d k. ((stands who H).all i d k).1.named)
          (λ e z. before_moment e (heard_at H) (time_heard H) now l m (λ t k. q t (ap (λ (o : Option ℕ). late_at o (heard_at H) (time_heard H)) z ∙ k))) i;
      waits = (listening who H).waits;
    }

pub tick_ends : (who : Who) (H : List Call) (now t : ℕ) → hearing_tick who H ≡ Some t → t ≤ now → time_heard H + (t - heard_at H) < 10000000000000000
    → 0 < length (over_by who H (At now Tick))
tick_ends who H now t e l m = go (earliest (listening who H).current) refl e
  where
    go : (o : Option ℕ) → earliest (listening who H).current ≡ o → late_at o (heard_at H) (time_heard H) ≡ Some t → 0 < length (over_by who H (At now Tick))
    go None i k = absurd (cc)
    go (Some n) i k = some_over (holder who H) (time_heard (At now Tick ∷ H)) n (listening who H).current i (after_moment n (heard_at H) (time_heard H) t now k l m)

-- ---- its account

-- its account is that of the one whose place it takes, or else begins now
account_is : (who : Who) (H : List Call) (when a : ℕ) (f : FrameRecord) (y : OpenBroadcast) → hearing who (At when (Hear f) ∷ H) a ≡ Some y
    → y.since ≡ since_in (time_heard (At when (Hear f) ∷ H)) (found who H when f a)
account_is who H when a f y e =
    (all_of (Open Q) a (listening who (At when (Hear f) ∷ H)).current y
    (every who.boxes who (holder who (At when (Hear f) ∷ H) (source_of f.id)) now f (found_in who H when f) P Q (λ since z b i. z) (λ z b g n k. sym (ap (since_in now) k.1)) (λ z b g. sym (ap (since_in now) g))
    (λ i d l. ((h.all i d l).0, all_own (found_in who H when f).current h.apart i d l))) e).1
    ∙ ap (λ (b : ℕ). since_in now (found who H when f b)) (source_at a (listening who (At when (Hear f) ∷ H)).current y e)
  where
    now : ℕ
    now = time_heard (At when (Hear f) ∷ H)

    h : Stands who (Kept who (At when (Hear f)) H) (found_in who H when f)
    h = stands_found who H when f

    P : OpenBroadcast → Type 0
    P z = found who H when f z.source ≡ Some z

    Q : OpenBroadcast → Type 0
    Q z = z.since ≡ since_in now (found who H when f z.source)

pub account_begins : (who : Who) (H : List Call) (when a : ℕ) (f : FrameRecord) (x : OpenBroadcast) → found who H when f a ≡ None → hearing who (At when (Hear f) ∷ H) a ≡ Some x
    → x.since ≡ time_heard (At when (Hear f) ∷ H)
account_begins who H when a f x n e = account_is who H when a f x e ∙ ap (since_in (time_heard (At when (Hear f) ∷ H))) n

-- it isn't over
goes_past : (p : OpenBroadcast → Bool) (a : ℕ) (xs : List OpenBroadcast) (x : OpenBroadcast) → AreApart xs → of a xs ≡ Some x → of a (filter p xs) ≡ None
    → of a (filter (λ y. not (p y)) xs) ≡ Some x
goes_past p a xs x h e n =
    let k : kept_by p (Some x) ≡ None = ap (kept_by p) (sym e) ∙ (sym (of_filter p a xs h) ∙ n) in
    let b : p x ≡ false = grind (arith, k) in
    of_filter (λ y. not (p y)) a xs h ∙ (ap (kept_by (λ y. not (p y))) e ∙ ap (λ (v : Bool). if not v then Some x else None) b)

one_is : (o : Option OpenBroadcast) (x y : OpenBroadcast) → o ≡ Some x → o ≡ Some y → y.since ≡ x.since
one_is o x y e g = let z : Some x ≡ Some y = sym e ∙ g in let q : x ≡ y = cc in ap (λ (u : OpenBroadcast). u.since) (sym q)

account_goes : (who : Who) (H : List Call) (when a : ℕ) (f : FrameRecord) (x y : OpenBroadcast) → found who H when f a ≡ Some x → hearing who (At when (Hear f) ∷ H) a ≡ Some y → y.since ≡ x.since
account_goes who H when a f x y n e = account_is who H when a f y e ∙ ap (since_in (time_heard (At when (Hear f) ∷ H))) n

pub account_runs : (who : Who) (H : List Call) (call : Call) (a : ℕ) (x y : OpenBroadcast) → hearing who H a ≡ Some x → hearing who (call ∷ H) a ≡ Some y
    → of a (over_by who H call) ≡ None → y.since ≡ x.since
account_runs who H (At when (Hear f)) a x y e g n =
    account_goes who H when a f x y
    (goes_past (is_over (restarts who H when f) (holder who (At when (Hear f) ∷ H)) (time_heard (At when (Hear f) ∷ H))) a (listening who H).current x (stands who H).apart e n) g
account_runs who H (At now Tick) a x y e g n =
    one_is _ x y (goes_past (is_over None (holder who H) (time_heard (At now Tick ∷ H))) a (listening who H).current x (stands who H).apart e n) g
account_runs who H (At now (TakeFrame (Some f))) a x y e g n =
    let p = goes_past (is_over None (holder who (At now (TakeFrame (Some f)) ∷ H)) (time_heard H)) a (listening who H).current x (stands who H).apart e in
    grind (arith, e, g, n, p)
account_runs who H (ReleaseBroadcast true) a x y e g n = one_is (hearing who H a) x y e g
account_runs who H call a x y e g n = one_is (hearing who H a) x y e g

-- in time, by both
pub in_account : (now : ℕ) (x : OpenBroadcast) → is_late now x ≡ false → (now ≤ x.time + broadcast_limit) × (now ≤ x.since + account (packets_for x.size))
in_account now x e = let l = ltb-false (expires x) now e in (omega (arith, l), omega (arith, l))

pub found_timely : (who : Who) (H : List Call) (when a : ℕ) (f : FrameRecord) (x : OpenBroadcast) → found who H when f a ≡ Some x
    → (time_heard (At when (Hear f) ∷ H) ≤ x.time + broadcast_limit) × (time_heard (At when (Hear f) ∷ H) ≤ x.since + account (packets_for x.size))
found_timely who H when a f x e = in_account _ x (found_known who H when a f x e).1

pub ticked_timely : (who : Who) (H : List Call) (now a : ℕ) (x : OpenBroadcast) → hearing who (At now Tick ∷ H) a ≡ Some x
    → (time_heard (At now Tick ∷ H) ≤ x.time + broadcast_limit) × (time_heard (At now Tick ∷ H) ≤ x.since + account (packets_for x.size))
ticked_timely who H now a x e =
    let p = λ (y : OpenBroadcast). not (is_over None (holder who H) (time_heard (At now Tick ∷ H)) y) in
    let k = (kept_is p (hearing who H a) x (sym (of_filter p a (listening who H).current (stands who H).apart) ∙ e)).1 in
    in_account _ x (grind (arith, k))

heard_of : (n : ℕ) (o : Option OpenBroadcast) → IsHeardOf n o → (x : OpenBroadcast) × (o ≡ Some x)
heard_of n None h = absurd h
heard_of n (Some x) h = (x, refl)

heard_now : (who : Who) (a n : ℕ) (later E : List Call) → StaysHeard who a n later E → IsHeardOf n (hearing who (later ++ E) a)
heard_now who a n [] E h = h
heard_now who a n (call ∷ later) E h = h.2

pub account_ends : (who : Who) (later earlier : List Call) (g n at a : ℕ) (f : FrameRecord) → found who earlier at f a ≡ None
    → StaysHeard who a n later (At at (Hear f) ∷ earlier) → TicksWithin g later (At at (Hear f) ∷ earlier) → NeverBack later (At at (Hear f) ∷ earlier)
    → time_heard (At at (Hear f) ∷ earlier) + passed_in later (At at (Hear f) ∷ earlier) < 10000000000000000
    → passed_in later (At at (Hear f) ∷ earlier) ≤ (n + 1) * broadcast_limit + g
account_ends who later earlier g n at a f none =
    let E = At at (Hear f) ∷ earlier in
    ends E (account n) (λ H. hearing who H a) (λ H x. x.since) (λ later. StaysHeard who a n later E) refl (λ x i. account_begins who earlier at a f x none i)
    (λ later h. heard_of n (hearing who (later ++ E) a) (heard_now who a n later E h)) (λ call later h. h.0) (λ call later x y h i k. account_runs who (later ++ E) call a x y i k h.1)
    (λ now later x h i. (let o = (ticked_timely who (later ++ E) now a x i).1 in let m = subst (IsHeardOf n) i h.2 in omega (arith, o, m))) g later
