-- The laws.
use Rattle.std.proofs.lemmas.Grind.{common_steps}
use Rattle.j39_node.proofs.Common.{[], accepted, acknowledged, acknowledgment, acknowledgment_group, Address, address_after, address_claimed_group, AddressLost, age, all_replies, and-false, and_from, and_parts, AnotherAtAddress, answers_another, ap, append-nil, AreAnswered, arith, Asked, asked, At, at_in, Bool, Busy, Call, called, calls, cases_Bool, cases_lt, Claim, claim_address, claim_due, claim_from, claim_goes, claim_of, Claimed, cond_both, content, Controller, delayed, double, doubled_news, Draft, drop, due, end_of, Ending, eq-eqb, eqb-true, false, first, FrameRecord, frames, fresh, gives_way, got, handed, HasDouble, Hear, held_at, holds, if◌then◌else◌, inl, inr, Is, is_acknowledgment, is_alike, is_another, is_apart, is_blank, is_claim, is_double, is_for_program, is_held, is_lost, is_move, is_refusal_due, is_reply, is_served, is_smaller, is_subscribed, is_there, is_transfer, IsFront, IsTrue, kept, later, le-leb, le-ltb, leb-false, length, length-append, List, long_by, Lost, lost_news, lt-ltb, ltb-false, marks, may_claim, may_go, Message, message_from, message_of, MessagesMissed, missed, missed_news, moment, Move, Nack, NameDoubled, nat_eq, nat_le, nat_lt, ne_eqb, News, news_of, next_acknowledgment, next_due, next_frame, next_long, next_other, next_packet, next_transfer, next_withdrawn, None, NoneTold, not, not_both, NotClaimed, older, open_broadcast, Option, option_map, option_or, or_cases, or_left, or_parts, or_right, other, owes_claim, packets, passed_in, patience, pause, pgn_of, reached, ready, refl, refusal_waits, Renew, Reply, request_group, requests, slice_get, slice_get-map, slice_get_within, Some, source_of, stamp_at, stamped, status_after, status_of, step, subst, suc, sym, TakeEnded, TakeFrame, TakeNews, takes_other, Tick, told, true, turns, unclaimed, waits_already, Who, with_refusal, with_request, Withdraw, yields, ℕ, ◌&&◌, ◌*◌, ◌++◌, ◌+◌, ◌-◌, ◌<◌, ◌||◌, ◌↔◌, ◌∙◌, ◌∷◌, ◌≡◌, ◌≢◌, ◌≤◌, ◌⊎◌}
use Rattle.j39_node.proofs.PromptLaws.{answered_from}
use Rattle.j39_node.specs.History.{heard, Again}
use Rattle.j39_node.specs.Reception.{is_waiting}
use Rattle.j39_address.specs.declared.status.Status.TheVariants as status
use Rattle.j39_node.proofs.ReceptionLemmas.{reply_of}
use Rattle.j39_node.proofs.DueLemmas.{both_none, from_long, quiet_long, then_long}
use Rattle.j39_node.proofs.QueueLemmas.{length_one_more, all_at}
use Rattle.j39_node.proofs.SoundLemmas.{apart_is, is_moved, IsTurn, claim_single, no_transfer, none_there, packet_session, packet_there, own_taken, turned, Rest, none_at, none_next, none_other, other_none, claim_is, given_way, none_acknowledged, none_due_goes, none_gives, FrameCase, Sound, claim_taken, IsDue, due_taken, frame_by, frame_case, held_older, own_of, packet_case, packet_taken, sound, transfer_taken, holding_not_lost, renew_case, WithdrawCase, withdraw_case, past_end, Told, told_case, stamped_by, claims_or_held, stays_lost}
use Rattle.j39_node.proofs.KnownLemmas.{fresh_one}
use Rattle.j39_node.proofs.LaneLemmas.{laned, opened_by}
use Rattle.j39_node.proofs.CallLemmas.{due_by}
use Rattle.j39_node.proofs.SoundLemmas.FrameCase.{claims, acknowledges, replies, sends, packs, transfers}
use Rattle.j39_node.proofs.RenewLemmas.{none_past}
use Rattle.j39_node.proofs.KindLemmas.{kind_by, claims_it, acknowledges_it}

-- ---- sources

frame : (w : Who) (H : List Call) (c : Controller) (now : ℕ) (f : FrameRecord) → Is w (At now (TakeFrame (Some f)) ∷ H) c → FrameCase w H now f
frame w H c now f is = frame_case w H now f is.answered.1

pub moments : (w : Who) (H : List Call) (c : Controller) (now : ℕ) (f : FrameRecord) → Is w (At now (TakeFrame (Some f)) ∷ H) c → f.stamp ≡ now
moments w H c now f is = ap (λ (x : ℕ × Message). x.0) (stamped_by (frame w H c now f is)).1

pub source_by : (w : Who) (H : List Call) (now : ℕ) (f : FrameRecord) → AreAnswered w (At now (TakeFrame (Some f)) ∷ H)
    → (message_of f ≡ claim_from w (claim_address w (address_after w H)))
    ⊎ (IsTrue (holds w H now) × (source_of f.id ≡ w.address) × (pgn_of f.id ≢ address_claimed_group))
source_by w H now f right = go (frame_case w H now f right.1)
  where
    no_claim : (c : FrameCase w H now f) → (kind_by c).claim ≡ false → pgn_of f.id ≢ address_claimed_group
    no_claim c k z = not_both (is_claim f) (claims_it w H now f right.0 c ∙ k) (eq-eqb (pgn_of f.id) address_claimed_group z)

    go : FrameCase w H now f → (message_of f ≡ claim_from w (claim_address w (address_after w H)))
        ⊎ (IsTrue (holds w H now) × (source_of f.id ≡ w.address) × (pgn_of f.id ≢ address_claimed_group))
    go (claims o e) = inl (ap content e)
    go (acknowledges m o h g e way) =
        inr (h, ap (λ (y : ℕ × Message). y.1.source) e ∙ (all_at (IsDue w) (due w H) (length (acknowledged H)) m (sound w H right.0).desk.0 g).source, no_claim (acknowledges m o h g e way) refl)
    go (replies m o h k g e) =
        inr (h, ap (λ (y : ℕ × Message). y.1.source) e ∙ (reply_of w H 0 m g).source, no_claim (replies m o h k g e) refl)
    go (sends x o h k g e) = inr (h, ap (λ (y : ℕ × Message). y.1.source) e ∙ (own_of w H x right.0 g).source, no_claim (sends x o h k g e) refl)
    go (packs m o h k g e) =
        let p = packet_case (open_broadcast w H) (length (packets H)) (pause H - step H now) m g in
        let is_own = (opened_by w _ _ _ (open_broadcast w H) (p.token, p.message) (laned w H right.0) p.is).source in
        inr (h, ap (λ (y : ℕ × Message). y.1.source) e ∙ (ap (λ (y : Message). y.source) p.frame ∙ is_own), no_claim (packs m o h k g e) refl)
    go (transfers m o h k g e) = inr (h, (transfer_taken w H now f m right.0 e g).source, no_claim (transfers m o h k g e) refl)

pub sources : (w : Who) (H : List Call) (c : Controller) (now : ℕ) (f : FrameRecord) → Is w (At now (TakeFrame (Some f)) ∷ H) c
    → (message_of f ≡ claim_from w (claim_address w (address_after w H)))
    ⊎ (IsTrue (holds w H now) × (source_of f.id ≡ w.address) × (pgn_of f.id ≢ address_claimed_group))
sources w H c now f is = source_by w H now f is.answered

-- ---- accounted once

pub told_is : (w : Who) (H : List Call) (c : Controller) (k : ℕ) (e : Ending) → Is w (TakeEnded (Some (k, e)) ∷ H) c → Told w H k e
told_is w H c k e is = told_case w H k e is.answered.1

pub in_turn : (w : Who) (H : List Call) (c : Controller) (k : ℕ) (e : Ending) → Is w (TakeEnded (Some (k, e)) ∷ H) c → (k ≡ length (told H)) × (k < length (accepted w H))
in_turn w H c k e is =
    let t = told_is w H c k e is in
    let a : k ≡ length (told H) = (sound w H is.answered.0).numbered (length (told H)) (k, t.message) t.at in
    (a, (let b = slice_get_within (accepted w H) (length (told H)) (k, t.message) t.at in omega (arith, a, b)))

none_ended : (b l : Bool) (o : Option (ℕ × Message)) → None ≡ end_of b l o → (o ≡ None) ⊎ ((b ≡ false) × (l ≡ false))
none_ended b l None e = inl refl
none_ended false false (Some x) e = inr (refl, refl)
none_ended b l (Some x) e = absurd (grind (arith, e))

pub sent_within : (w : Who) (H : List Call) → Sound w H → reached H ≤ length (accepted w H)
sent_within w H s = s.passed

pub all_told : (w : Who) (H : List Call) (c : Controller) → Is w (TakeEnded None ∷ H) c
    → (reached H ≤ length (told H)) × (IsTrue (is_lost (address_after w H)) → length (told H) ≡ length (accepted w H))
all_told w H c is = go (none_ended _ _ _ is.answered.1)
  where
    s : Sound w H
    s = sound w H is.answered.0

    go : (slice_get (accepted w H) (length (told H)) ≡ None) ⊎ ((nat_lt (length (told H)) (reached H) ≡ false) × (is_lost (address_after w H) ≡ false))
        → (reached H ≤ length (told H)) × (IsTrue (is_lost (address_after w H)) → length (told H) ≡ length (accepted w H))
    go (inl e) =
        let a = past_end (accepted w H) (length (told H)) e in
        let b = sent_within w H s in
        (omega (arith, a, b), λ l. (let d = s.within in omega (arith, a, d)))
    go (inr e) = (ltb-false _ _ e.0, λ l. absurd (let z : true ≡ false = sym l ∙ e.1 in cc))

-- ---- done means

-- a token's mark
pub mark_at : (w : Who) (H : List Call) (k : ℕ) (m : Message) → Sound w H → slice_get (accepted w H) (length (told H)) ≡ Some (k, m) → k ≡ length (told H)
    → slice_get (marks H) k ≡ Some (is_blank (k, m))
mark_at w H k m s e z =
    (λ i. slice_get (s.marked i) (z i)) ∙ (slice_get-map is_blank (accepted w H) (length (told H)) ∙ ap (option_map is_blank) e)

-- ---- what is withdrawn

pub withdrawn_is : (w : Who) (H : List Call) (c : Controller) (k : ℕ) (answer : Bool) → Is w (Withdraw k answer ∷ H) c
    → (answer ≡ true ↔ ((is_lost (address_after w H) ≡ false) × (reached H ≤ k) × ((m : Message) × (slice_get (accepted w H) k ≡ Some (k, m))
    × (nat_eq m.group request_group ≡ false) × (slice_get (marks H) k ≡ Some false))))
withdrawn_is w H c k answer is = (λ z. to (withdraw_case w H k (sym z ∙ is.answered.1)), λ z. is.answered.1 ∙ from z.0 z.1 z.2)
  where
    s : Sound w H
    s = sound w H is.answered.0

    marked : (x : ℕ × Message) → slice_get (accepted w H) k ≡ Some x → slice_get (marks H) k ≡ Some (is_blank x)
    marked x e = ap (λ bs. slice_get bs k) s.marked ∙ (slice_get-map is_blank (accepted w H) k ∙ ap (option_map is_blank) e)

    to : WithdrawCase w H k → (is_lost (address_after w H) ≡ false) × (reached H ≤ k) × ((m : Message) × (slice_get (accepted w H) k ≡ Some (k, m))
        × (nat_eq m.group request_group ≡ false) × (slice_get (marks H) k ≡ Some false))
    to y = (
      y.kept,
      y.from,
      (
        y.entry.1,
        y.is ∙ ap (λ (i : ℕ). (let z : Option (ℕ × Message) = Some (i, y.entry.1) in z)) (s.numbered k y.entry y.is),
        y.plain,
        marked y.entry y.is ∙ ap (λ (b : Bool). (let o : Option Bool = Some b in o)) y.stays,
      ),
    )

    from : is_lost (address_after w H) ≡ false → reached H ≤ k → (m : Message) × (slice_get (accepted w H) k ≡ Some (k, m))
        × (nat_eq m.group request_group ≡ false) × (slice_get (marks H) k ≡ Some false) → next_withdrawn w H k ≡ true
    from l a z =
        let b : Some (is_blank (k, z.0)) ≡ Some false = sym (marked (k, z.0) z.1) ∙ z.3 in
        let d : is_blank (k, z.0) ≡ false = cc in
        (λ i. not (l i) && (nat_le (reached H) k && may_go (z.1 i))) ∙ λ i. le-leb (reached H) k a i && not (d i || z.2 i)

-- ---- what send answers

pub full_parts : (a t : ℕ) → (nat_eq (a - t) 16 || nat_eq a 18446744073709551615) ≡ true → (a ≡ t + 16) ⊎ (a ≡ 18446744073709551615)
full_parts a t e = elim (or_cases (nat_eq (a - t) 16) _ e) [
  | inl f ↦ inl (let z = eqb-true (a - t) 16 f in omega (arith, z))
  | inr f ↦ inr (eqb-true a 18446744073709551615 f)
]

pub full_from : (a t : ℕ) → (a ≡ t + 16) ⊎ (a ≡ 18446744073709551615) → (nat_eq (a - t) 16 || nat_eq a 18446744073709551615) ≡ true
full_from a t e = grind (arith, e)

-- ---- received

whole_rest : {T : Type 0} (xs ys r : List T) → ys ≡ xs ++ r → length ys ≤ length xs → xs ≡ ys
whole_rest xs ys [] f l = sym (f ∙ append-nil xs)
whole_rest xs ys (r ∷ rs) f l = absurd (let b = ap length f in let d = length-append xs (r ∷ rs) in omega (arith, b, d, l))

pub whole : {T : Type 0} (xs ys : List T) → IsFront xs ys → length ys ≤ length xs → xs ≡ ys
whole xs ys (zs, e) l = whole_rest xs ys zs e l

count_one : (b r : Bool) (xs ys : List (ℕ × Message)) (x : ℕ × Message) (m : ℕ) → length ys + m ≡ length xs
    → length (if b && r then ys ++ x ∷ [] else ys) + (if b && not r then suc m else m) ≡ length (if b then xs ++ x ∷ [] else xs)
count_one b r xs ys x m e = grind (arith, common_steps, e)

pub counted : (w : Who) (H : List Call) → length (kept w H) + missed w H ≡ length (heard w H)
counted w [] = refl
counted w (At when (Hear f) ∷ H) = count_one (is_for_program w (holds w H when) f) (nat_lt (length (kept w H) - length (got H)) 16) (heard w H) (kept w H) (f.stamp, message_of f) (missed w H) (counted w H)
counted w (call ∷ H) = counted w H

pub not_subscribed : (w : Who) (H : List Call) (when : ℕ) (f : FrameRecord) → is_subscribed w (pgn_of f.id) ≡ false
    → (kept w (At when (Hear f) ∷ H) ≡ kept w H) × (missed w (At when (Hear f) ∷ H) ≡ missed w H)
not_subscribed w H when f e = (grind (arith, e), grind (arith, e))

pub missed_full : (w : Who) (H : List Call) (when : ℕ) (f : FrameRecord) → missed w (At when (Hear f) ∷ H) ≢ missed w H → length (got H) + 16 ≤ length (kept w H)
missed_full w H when f e = grind (arith, e)

-- ---- claims

owed : (w : Who) (H : List Call) (now : ℕ) (f : FrameRecord) → FrameCase w H now f → claim_goes w H now ≡ true
    → message_of f ≡ claim_from w (claim_address w (address_after w H))
owed w H now f c p = elim (claims_or_held c) [ inl x ↦ ap content x.1 | inr y ↦ absurd (not_both _ y.0 p) ]

-- what is owed stays owed until a frame is taken
pub still_owed : (w : Who) (later H : List Call) → frames later ≡ [] → owes_claim w H ≡ true → owes_claim w (later ++ H) ≡ true
still_owed w [] H e o = o
still_owed w (At when (Hear f) ∷ later) H e o = or_left _ _ (still_owed w later H e o)
still_owed w (At now (TakeFrame (Some f)) ∷ later) H e o = absurd (let a = ap length e in let b = length_one_more (frames later) f in omega (arith, a, b))
still_owed w (At now Again ∷ later) H e o = refl
still_owed w (call ∷ later) H e o = still_owed w later H e o

-- where a frame is taken, a claim that is owed may go
taken_due : (w : Who) (H : List Call) (now : ℕ) (f : FrameRecord) → FrameCase w H now f → owes_claim w H ≡ true → claim_due w H now ≡ true
taken_due w H now f e g = grind (arith, g)

-- it goes now, or gives way
pub claimed_or_not : (w : Who) (H : List Call) (c : Controller) (now : ℕ) (g : FrameRecord) → Is w (At now (TakeFrame (Some g)) ∷ H) c → owes_claim w H ≡ true
    → IsTrue (gives_way w H now) ⊎ (message_of g ≡ claim_from w (claim_address w (address_after w H)))
claimed_or_not w H c now g is o =
    let f = frame w H c now g is in
    elim (cases_Bool (gives_way w H now)) [ inl e ↦ inl e | inr e ↦ inr (owed w H now g f (claim_is w H now e ∙ taken_due w H now g f o)) ]

-- no frame is taken between
same_turns : (later H : List Call) → frames later ≡ [] → turns (later ++ H) ≡ turns H
same_turns [] H e = refl
same_turns (At now (TakeFrame (Some f)) ∷ later) H e = absurd (let a = ap length e in let b = length_one_more (frames later) f in omega (arith, a, b))
same_turns (call ∷ later) H e = same_turns later H e

-- what goes where others give way is neither a claim nor an acknowledgment
other_plain : (w : Who) (H : List Call) (now : ℕ) (f : FrameRecord) → AreAnswered w H → FrameCase w H now f → gives_way w H now ≡ true
    → (is_claim f ≡ false) × (is_acknowledgment f ≡ false)
other_plain w H now f right (claims o e) g = absurd (not_both _ (ap not g) (and_parts (claim_due w H now) (not (gives_way w H now)) o).1)
other_plain w H now f right (acknowledges m o h k e way) g = absurd (not_both _ way g)
other_plain w H now f right case g = (claims_it w H now f right case, acknowledges_it w H now f right case)

-- and the one after it does, where it gave way
pub second_claim : (w : Who) (H later between : List Call) (c : Controller) (last now when : ℕ) (f g i : FrameRecord)
    → Is w (At last (TakeFrame (Some i)) ∷ between ++ (At now (TakeFrame (Some g)) ∷ later ++ At when (Hear f) ∷ H)) c → frames later ≡ [] → frames between ≡ []
    → IsTrue (calls w H when f) → IsTrue (gives_way w (later ++ At when (Hear f) ∷ H) now)
    → message_of i ≡ claim_from w (claim_address w (address_after w (between ++ (At now (TakeFrame (Some g)) ∷ later ++ At when (Hear f) ∷ H))))
second_claim w H later between c last now when f g i is none none_between called gives =
    elim (claimed_or_not w (between ++ (At now (TakeFrame (Some g)) ∷ later ++ At when (Hear f) ∷ H)) c last i is (still_owed w between (At now (TakeFrame (Some g)) ∷ later ++ At when (Hear f) ∷ H) none_between still)) [
      | inl again ↦ absurd (few (turns (between ++ (At now (TakeFrame (Some g)) ∷ later ++ At when (Hear f) ∷ H))) (and_parts (nat_le 2 (turns (between ++ (At now (TakeFrame (Some g)) ∷ later ++ At when (Hear f) ∷ H)))) _ again).0 (same_turns between (At now (TakeFrame (Some g)) ∷ later ++ At when (Hear f) ∷ H) none_between ∙ over))
      | inr claim ↦ claim
    ]
  where
    few : (n : ℕ) → nat_le 2 n ≡ true → n ≡ 0 → ⊥
    few n e z = grind (arith, z)

    right : AreAnswered w (At now (TakeFrame (Some g)) ∷ later ++ At when (Hear f) ∷ H)
    right = answered_from w between (At now (TakeFrame (Some g)) ∷ later ++ At when (Hear f) ∷ H) is.answered.0

    plain : (is_claim g ≡ false) × (is_acknowledgment g ≡ false)
    plain = other_plain w (later ++ At when (Hear f) ∷ H) now g right.0 (frame_case w (later ++ At when (Hear f) ∷ H) now g right.1) gives

    still : owes_claim w (At now (TakeFrame (Some g)) ∷ later ++ At when (Hear f) ∷ H) ≡ true
    still = ap (λ (b : Bool). if b then false else owes_claim w (later ++ At when (Hear f) ∷ H)) plain.0 ∙ still_owed w later (At when (Hear f) ∷ H) none (or_right (owes_claim w H) _ called)

    over : turns (At now (TakeFrame (Some g)) ∷ later ++ At when (Hear f) ∷ H) ≡ 0
    over = ap (λ (b : Bool). if b then suc (turns (later ++ At when (Hear f) ∷ H)) else 0) (ap (λ (b : Bool). b || is_acknowledgment g) plain.0 ∙ plain.1)

-- another at the address isn't answered again for 5 seconds
pub answered_once : (w : Who) (H later : List Call) (when now : ℕ) (f g : FrameRecord) → IsTrue (answers_another w H when f)
    → passed_in later (At when (Hear f) ∷ H) + step (later ++ At when (Hear f) ∷ H) now < 5000000
    → answers_another w (later ++ At when (Hear f) ∷ H) now g ≡ false
answered_once w H later when now f g e l =
    let p = patient later in
    never (is_another w (holds w (later ++ At when (Hear f) ∷ H) now) g) (patience w (later ++ At when (Hear f) ∷ H) - step (later ++ At when (Hear f) ∷ H) now)
    (omega (arith, p, l))
  where
    begins : 5000000 ≤ patience w (At when (Hear f) ∷ H)
    begins = let z = ap (λ (b : Bool). if b then 5000000 else patience w H - step H when) e in omega (arith, z)

    more : (b : Bool) (p s q : ℕ) → 5000000 ≤ p + q → 5000000 ≤ (if b then 5000000 else p - s) + (q + s)
    more b p s q e = grind (arith, e)

    patient : (later : List Call) → 5000000 ≤ patience w (later ++ At when (Hear f) ∷ H) + passed_in later (At when (Hear f) ∷ H)
    patient [] = let b = begins in omega (arith, b)
    patient (At now (Hear g) ∷ later) = let h = patient later in grind (arith, h)
    patient (call ∷ later) = let h = patient later in omega (arith, h)

    never : (b : Bool) (n : ℕ) → 0 < n → (b && nat_eq n 0) ≡ false
    never b n e = grind (arith, e)

-- ---- none is silenced

-- behind two claims or acknowledgments in a row goes what else is due
pub takes_turns : (w : Who) (H later between : List Call) (c : Controller) (last second first : ℕ) (f g i : FrameRecord) (m : Message)
    → Is w (At last (TakeFrame (Some i)) ∷ between ++ (At second (TakeFrame (Some g)) ∷ later ++ At first (TakeFrame (Some f)) ∷ H)) c
    → frames later ≡ [] → frames between ≡ [] → IsTrue (is_claim f || is_acknowledgment f) → IsTrue (is_claim g || is_acknowledgment g)
    → next_other w (between ++ (At second (TakeFrame (Some g)) ∷ later ++ At first (TakeFrame (Some f)) ∷ H)) last ≡ Some m → message_of i ≡ m
takes_turns w H later between c last second first f g i m is none none_between p q e =
    let x = given_way w (between ++ (At second (TakeFrame (Some g)) ∷ later ++ At first (TakeFrame (Some f)) ∷ H)) last (and_from (nat_le 2 (turns (between ++ (At second (TakeFrame (Some g)) ∷ later ++ At first (TakeFrame (Some f)) ∷ H)))) (is_there (next_other w (between ++ (At second (TakeFrame (Some g)) ∷ later ++ At first (TakeFrame (Some f)) ∷ H)) last)) two (ap is_there e)) in
    let s : Some (stamped i) ≡ Some (last, x.0) = is.answered.1 ∙ x.2 in
    let y : Some x.0 ≡ Some m = sym x.1 ∙ e in
    let z : x.0 ≡ m = cc in
    let t : stamped i ≡ (last, x.0) = cc in ap (λ (y : ℕ × Message). y.1) t ∙ z
  where
    twice : (n k m : ℕ) → n ≡ k → k ≡ suc (suc m) → nat_le 2 n ≡ true
    twice n k m e f = grind (arith, e, f)

    two : nat_le 2 (turns (between ++ (At second (TakeFrame (Some g)) ∷ later ++ At first (TakeFrame (Some f)) ∷ H))) ≡ true
    two = twice (turns (between ++ (At second (TakeFrame (Some g)) ∷ later ++ At first (TakeFrame (Some f)) ∷ H))) (turns (At second (TakeFrame (Some g)) ∷ later ++ At first (TakeFrame (Some f)) ∷ H)) (turns H) (same_turns between (At second (TakeFrame (Some g)) ∷ later ++ At first (TakeFrame (Some f)) ∷ H) none_between)
        (ap (λ (b : Bool). if b then suc (turns (later ++ At first (TakeFrame (Some f)) ∷ H)) else 0) q
        ∙ ap suc (same_turns later (At first (TakeFrame (Some f)) ∷ H) none ∙ ap (λ (b : Bool). if b then suc (turns H) else 0) p))

-- behind a reply the next yields, as long as no other frame but claims and acknowledgments is taken
still_yields : (w : Who) (later H : List Call) → NoneTold takes_other later → yields w H ≡ true → yields w (later ++ H) ≡ true
still_yields w [] H n e = e
still_yields w (call ∷ later) H e f = let h = still_yields w later H in grind (arith, h, e, f)

yields_then : (w : Who) (H : List Call) (now : ℕ) (f : FrameRecord) → is_reply (all_replies w H) f ≡ true → yields w (At now (TakeFrame (Some f)) ∷ H) ≡ true
yields_then w H now f e = grind (arith, e)

-- and behind it what else is due goes before the next reply
pub behind_a_reply : (w : Who) (H later : List Call) (c : Controller) (last first : ℕ) (f i : FrameRecord)
    → Is w (At last (TakeFrame (Some i)) ∷ later ++ At first (TakeFrame (Some f)) ∷ H) c → IsTrue (is_reply (all_replies w H) f) → NoneTold takes_other later
    → (reached (later ++ At first (TakeFrame (Some f)) ∷ H) < length (accepted w (later ++ At first (TakeFrame (Some f)) ∷ H)))
    ⊎ ((next_packet w (later ++ At first (TakeFrame (Some f)) ∷ H) last ≢ None)
    ⊎ IsTrue (is_apart (next_transfer w (later ++ At first (TakeFrame (Some f)) ∷ H) last) (slice_get (all_replies w (later ++ At first (TakeFrame (Some f)) ∷ H)) 0)))
    → (is_transfer i ≡ false) ⊎ IsTrue (is_move w (later ++ At first (TakeFrame (Some f)) ∷ H) i)
behind_a_reply w H later c last first f i is t none due_one = go (frame_case w G last i is.answered.1)
  where
    G : List Call
    G = later ++ At first (TakeFrame (Some f)) ∷ H

    waits : (ready w G last).message ≡ false → (ready w G last).packet ≡ false → (ready w G last).transfer ≡ false → ⊥
    waits a b d = elim due_one [
      | inl l ↦ not_both _ a (lt-ltb _ _ l)
      | inr n ↦ elim n [
        | inl p ↦ p (none_there _ (packet_there (open_broadcast w G) (length (packets G)) (pause G - step G last) ∙ b))
        | inr q ↦ not_both _ d q
      ]
    ]

    yield : IsTurn (yields w G) (ready w G last) (Some Reply) → ⊥
    yield x =
        let r = ready w G last in
        let z = or_parts _ _ (sym (ap (λ (y : Bool). y && (r.message || (r.packet || r.transfer))) (still_yields w later _ none (yields_then w H first f t))) ∙ x.2) in
        let y = or_parts _ _ z.1 in waits z.0 y.0 y.1

    go : FrameCase w G last i → (is_transfer i ≡ false) ⊎ IsTrue (is_move w G i)
    go (claims o e) = inl (no_transfer i (claim_single i (claim_taken i last w _ e)))
    go (acknowledges m o h g e way) = inl (no_transfer i (due_taken w i last m e (all_at (IsDue w) (due w G) (length (acknowledged G)) m (sound w G is.answered.0).desk.0 g)).2)
    go (replies m o h n g e) = absurd (yield (turned w G last (Some Reply) n.1))
    go (sends x o h n g e) = inl (no_transfer i (own_taken w i last x e (own_of w G x is.answered.0 g)).2)
    go (packs m o h n g e) = inl (packet_session i (packet_taken i last m (open_broadcast w G) (length (packets G)) (pause G - step G last) e g).2).1
    go (transfers m o h n g e) = inr (is_moved w G i (transfer_taken w G last i m is.answered.0 e g).transfer
        (apart_is w G last i m g (ap (λ (y : ℕ × Message). y.1) e) (turned w G last (Some Move) n.1).1))

no_first : {T : Type 0} (L : List T) → slice_get L 0 ≡ None → L ≡ []
no_first [] e = refl
no_first (x ∷ L) e = absurd (cc)

-- a message or a reply that waits is due, and so is a frame of packets
pub others_due : (w : Who) (H : List Call) (now : ℕ) → IsTrue (holds w H now)
    → (reached H < length (accepted w H)) ⊎ (((all_replies w H) ≢ []) ⊎ (next_long w H now ≢ None)) → next_other w H now ≢ None
others_due w H now held one e = go one
  where
    n : Rest w H now × (next_transfer w H now ≡ None)
    n = none_other w H now (sym (ap (λ (b : Bool). if b then other w H now else None) held) ∙ e)

    go : (reached H < length (accepted w H)) ⊎ (((all_replies w H) ≢ []) ⊎ (next_long w H now ≢ None)) → ⊥
    go (inl s) = let a = past_end (accepted w H) (reached H) n.0.message in omega (arith, s, a)
    go (inr (inl r)) = r (no_first (all_replies w H) n.0.reply)
    go (inr (inr l)) = l (ap (λ o. long_by o (next_transfer w H now)) n.0.packet ∙ n.1)

no_claim_left : (w : Who) (H : List Call) (now : ℕ) → claim_goes w H now ≡ true → (let none : Option (ℕ × Message) = None in none) ≡ next_frame w H now → ⊥
no_claim_left w H now e f = grind (arith, e, f)

pub most_delayed : (w : Who) (H : List Call) → delayed w H ≤ w.delay * 600
most_delayed w [] = omega arith
most_delayed w (At now (Hear f) ∷ H) =
    let l = most_delayed w H in
    cond_both (calls w H now f && not (is_lost (address_after w H) && owes_claim w H)) _ _ (λ n. n ≤ w.delay * 600) (λ z. omega arith) (λ z. omega (arith, l))
most_delayed w (At now Again ∷ H) = omega arith
most_delayed w (call ∷ H) = let z = most_delayed w H in omega (arith, z)

-- 'cannot claim' waits, and nothing goes before it
still_lost : (w : Who) (later H : List Call) → is_lost (address_after w H) ≡ true → is_lost (address_after w (later ++ H)) ≡ true
still_lost w [] H e = e
still_lost w (call ∷ later) H e = stays_lost w (later ++ H) call (still_lost w later H e)

still_delayed : (w : Who) (later H : List Call) → frames later ≡ [] → is_lost (address_after w H) ≡ true → owes_claim w H ≡ true
    → w.delay * 600 ≤ delayed w H → w.delay * 600 ≤ delayed w (later ++ H) + passed_in later H
still_delayed w [] H e l o d = omega (arith, d)
still_delayed w (At when (Hear f) ∷ later) H e l o d =
    let z = still_delayed w later H e l o d in
    let y : delayed w (At when (Hear f) ∷ later ++ H) ≡ delayed w (later ++ H) - step (later ++ H) when =
    (λ i. if calls w (later ++ H) when f && not (still_lost w later H l i && still_owed w later H e o i) then w.delay * 600 else delayed w (later ++ H) - step (later ++ H) when)
    ∙ ap (λ (b : Bool). if b then w.delay * 600 else delayed w (later ++ H) - step (later ++ H) when) (and-false (calls w (later ++ H) when f)) in omega (arith, z, y)
still_delayed w (At now (TakeFrame (Some f)) ∷ later) H e l o d = absurd (let a = ap length e in let b = length_one_more (frames later) f in omega (arith, a, b))
still_delayed w (At now Again ∷ later) H e l o d = omega arith
still_delayed w (call ∷ later) H e l o d = let z = still_delayed w later H e l o d in omega (arith, z)

pub cannot_claim_waits : (w : Who) (H later : List Call) (c : Controller) (when now : ℕ) (f : FrameRecord) (answer : Option FrameRecord)
    → Is w (At now (TakeFrame answer) ∷ later ++ At when (Hear f) ∷ H) c → frames later ≡ [] → IsTrue (is_smaller w (claim_of f)) → is_lost (address_after w H) ≡ false
    → passed_in later (At when (Hear f) ∷ H) + step (later ++ At when (Hear f) ∷ H) now < w.delay * 600 → answer ≡ None
cannot_claim_waits w H later c when now f None is none away stood l = refl
cannot_claim_waits w H later c when now f (Some g) is none away stood l = absurd (go (frame w K c now g is))
  where
    G : List Call
    G = At when (Hear f) ∷ H

    K : List Call
    K = later ++ G

    called : calls w H when f ≡ true
    called = grind arith

    lost_then : is_lost (address_after w G) ≡ true
    lost_then = ap (λ (b : Bool). is_lost (if b then Lost else older (step H when) (address_after w H))) away

    begins : delayed w G ≡ w.delay * 600
    begins = λ i. if called i && not (stood i && owes_claim w H) then w.delay * 600 else delayed w H - step H when

    left : w.delay * 600 ≤ delayed w K + passed_in later G
    left = still_delayed w later G none lost_then (or_right (owes_claim w H) _ called) (let b = begins in omega (arith, b))

    undue : claim_due w K now ≡ false
    undue = (λ i. owes_claim w K && (not (still_lost w later G lost_then i) || ne_eqb (delayed w K - step K now) 0 (λ z. let a = left in omega (arith, a, l, z)) i))
        ∙ and-false (owes_claim w K)

    away_from : holds w K now ≡ true → ⊥
    away_from h = not_both _ (holding_not_lost w K now h) (still_lost w later G lost_then)

    go : FrameCase w K now g → ⊥
    go c = elim (claims_or_held c) [ inl x ↦ not_both _ undue (and_parts (claim_due w K now) (not (gives_way w K now)) x.0).0 | inr y ↦ away_from y.1 ]

-- claimed anew, it isn't held till a claim is taken
abbrev unheld : Address → Bool
unheld NotClaimed = true
unheld (Claimed e) = false
unheld Lost = true

unheld_so : (a : Address) → unheld (unclaimed a) ≡ true
unheld_so a = grind arith

unheld_on : (b : Bool) (s : ℕ) (a : Address) → unheld a ≡ true → unheld (if b then Lost else older s a) ≡ true
unheld_on b s a e = grind (arith, e)

never_held : (s : ℕ) (a : Address) → unheld a ≡ true → is_held (older s a) ≡ false
never_held s a e = grind (arith, e)

still_unheld : (w : Who) (later H : List Call) → frames later ≡ [] → unheld (address_after w H) ≡ true → unheld (address_after w (later ++ H)) ≡ true
still_unheld w [] H e o = o
still_unheld w (At when (Hear f) ∷ later) H e o = unheld_on (is_smaller w (claim_of f)) (step (later ++ H) when) _ (still_unheld w later H e o)
still_unheld w (At now (TakeFrame (Some f)) ∷ later) H e o = absurd (let a = ap length e in let b = length_one_more (frames later) f in omega (arith, a, b))
still_unheld w (At now Again ∷ later) H e o = unheld_so _
still_unheld w (call ∷ later) H e o = let z = unheld_on false (step (later ++ H) (moment (call ∷ later ++ H))) _ (still_unheld w later H e o) in let h = still_unheld w later H e o in cc

pub anew_claims : (w : Who) (H later : List Call) (c : Controller) (when now : ℕ) (g : FrameRecord)
    → Is w (At now (TakeFrame (Some g)) ∷ later ++ At when Again ∷ H) c → frames later ≡ []
    → message_of g ≡ claim_from w (claim_address w (address_after w (later ++ At when Again ∷ H)))
anew_claims w H later c when now g is none = elim (claims_or_held (frame w K c now g is)) [ inl x ↦ ap content x.1 | inr y ↦ absurd (away_from y.1) ]
  where
    K : List Call
    K = later ++ At when Again ∷ H

    away_from : holds w K now ≡ true → ⊥
    away_from h = not_both _ (never_held (step K now) (address_after w K) (still_unheld w later (At when Again ∷ H) none (unheld_so _))) h

pub claims_at_once : (w : Who) (H : List Call) (c : Controller) (now : ℕ) (answer : Option FrameRecord) → Is w (At now (TakeFrame answer) ∷ H) c
    → IsTrue (owes_claim w H) → (IsTrue (is_lost (address_after w H)) → delayed w H ≤ step H now) → answer ≢ None
claims_at_once w H c now answer e f g = grind (arith, f, g)

pub claims_only : (w : Who) (H : List Call) (c : Controller) (now : ℕ) (f : FrameRecord) → Is w (At now (TakeFrame (Some f)) ∷ H) c
    → pgn_of f.id ≡ address_claimed_group → IsTrue (owes_claim w H)
claims_only w H c now f is z = go (frame w H c now f is)
  where
    go : FrameCase w H now f → owes_claim w H ≡ true
    go (claims o e) = (and_parts (owes_claim w H) _ (and_parts (claim_due w H now) (not (gives_way w H now)) o).0).0
    go c = absurd (not_both _ (claims_it w H now f is.answered.0 c) (eq-eqb (pgn_of f.id) address_claimed_group z))

-- ---- who

pub held_now : (a : Address) (e : ℕ) → is_held (older (e - e) a) ≡ is_held a
held_now a e = grind arith

pub holding_is : (w : Who) (x : Address) (a : ℕ) → (status_of w x ≡ status.Holding a ↔ ((a ≡ w.address) × (is_held x ≡ true)))
holding_is w x a = grind arith

cannot_is : (w : Who) (x : Address) → (status_of w x ≡ status.Cannot ↔ (is_lost x ≡ true))
cannot_is w x = grind arith

pub cannot : (w : Who) (H : List Call) → (status_after w H ≡ status.Cannot ↔ IsTrue (is_lost (address_after w H)))
cannot w H = cannot_is w (address_after w H)

-- ---- requests

-- what it asks for, where none like it waits
abbrev pub counts : Who → List Call → ℕ → FrameRecord → Option Asked
counts w H when f = fresh w (drop (length (handed H)) (requests w H)) (asked w (holds w H when) f)

pub asked_case : (w : Who) (H : List Call) (when : ℕ) (f : FrameRecord) (o : Option Asked) → counts w H when f ≡ o
    → (requests w (At when (Hear f) ∷ H) ≡ with_request w (nat_lt (length (requests w H) - length (handed H)) 16) o (requests w H))
    × (due w (At when (Hear f) ∷ H) ≡ with_refusal w (nat_lt (length (requests w H) - length (handed H)) 16)
    (nat_lt (length (due w H) - length (acknowledged H)) 16 && not (is_refusal_due w (drop (length (acknowledged H)) (due w H)) o)) o (due w H))
asked_case w H when f o e = (grind (arith, e), grind (arith, e))

pub counts_one : (w : Who) (H : List Call) (when : ℕ) (f : FrameRecord) (r : Asked) → asked w (holds w H when) f ≡ Some r
    → (is_served w r.group ≡ false) ⊎ (waits_already w H r ≡ false) → counts w H when f ≡ Some r
counts_one w H when f r e new = ap (fresh w (drop (length (handed H)) (requests w H))) e ∙ fresh_one w (drop (length (handed H)) (requests w H)) r new

pub has_room : (a b : ℕ) → a < b + 16 → nat_lt (a - b) 16 ≡ true
has_room a b l = lt-ltb _ _ (omega (arith, l))

pub has_none : (a b : ℕ) → b + 16 ≤ a → nat_lt (a - b) 16 ≡ false
has_none a b l = grind arith

-- what one adds, by whether its group is served, there is room, it came to the address, and its refusal has a place
pub asked_adds : (w : Who) (H : List Call) (when : ℕ) (f : FrameRecord) (r : Asked) (s room at place : Bool) → counts w H when f ≡ Some r → is_served w r.group ≡ s
    → nat_lt (length (requests w H) - length (handed H)) 16 ≡ room → nat_eq r.destination w.address ≡ at
    → (nat_lt (length (due w H) - length (acknowledged H)) 16 && not (refusal_waits w H r)) ≡ place
    → (requests w (At when (Hear f) ∷ H) ≡ (if s && room then requests w H ++ r ∷ [] else requests w H))
    × (due w (At when (Hear f) ∷ H) ≡ (if (at && place) && not (s && room) then due w H ++ acknowledgment w (if s then Busy else Nack) r ∷ [] else due w H))
asked_adds w H when f r s room at place e g i j k = (grind (arith, e, g, i, j, k), grind (arith, e, g, i, j, k))

pub off : (b c : Bool) → (b && not (true && true)) ≡ false
off b c = grind arith

-- where it isn't refused
pub unrefused : (w : Who) (H : List Call) (when : ℕ) (f : FrameRecord) (r : Asked) → asked w (holds w H when) f ≡ Some r
    → (r.destination ≢ w.address) ⊎ ((nat_lt (length (due w H) - length (acknowledged H)) 16 && not (refusal_waits w H r)) ≡ false)
    → due w (At when (Hear f) ∷ H) ≡ due w H
unrefused w H when f r e g = grind (arith, e, g)

-- ---- acknowledgments

pub all_acknowledged : (w : Who) (H : List Call) (now : ℕ) → AreAnswered w H → next_acknowledgment w H now ≡ None
    → IsTrue (gives_way w H now) ⊎ (acknowledged H ≡ due w H)
all_acknowledged w H now right e = elim (none_acknowledged w H now e) [
  | inl g ↦ inl g
  | inr n ↦ inr (whole (acknowledged H) (due w H) (sound w H right).desk.1 (past_end (due w H) (length (acknowledged H)) n))
]

pub acknowledged_first : (w : Who) (H : List Call) (c : Controller) (now : ℕ) (f : FrameRecord) → Is w (At now (TakeFrame (Some f)) ∷ H) c
    → pgn_of f.id ≢ address_claimed_group → pgn_of f.id ≢ acknowledgment_group → IsTrue (gives_way w H now) ⊎ (acknowledged H ≡ due w H)
acknowledged_first w H c now f is n m = go (frame w H c now f is)
  where
    go : FrameCase w H now f → IsTrue (gives_way w H now) ⊎ (acknowledged H ≡ due w H)
    go (claims o e) = absurd (n (eqb-true _ _ (claim_taken f now w _ e)))
    go (acknowledges x o h g e way) =
        absurd (m (ap (λ (y : ℕ × Message). y.1.group) e ∙ (all_at (IsDue w) (due w H) (length (acknowledged H)) x (sound w H is.answered.0).desk.0 g).group))
    go (replies m o h k g e) = all_acknowledged w H now is.answered.0 k.0
    go (sends x o h k g e) = all_acknowledged w H now is.answered.0 k.0
    go (packs x o h k g e) = all_acknowledged w H now is.answered.0 k.0
    go (transfers x o h k g e) = all_acknowledged w H now is.answered.0 k.0

-- ---- the newest value

pub newest : (w : Who) (H : List Call) (c : Controller) (d : Draft) (k j : ℕ) (m : Message) → Is w (Renew d (Some k) ∷ H) c → k < j
    → slice_get (accepted w H) j ≡ Some (j, m) → is_alike (message_from w d) m ≡ false
newest w H c d k j m is l e =
    let r = renew_case w H d k is.answered.1 in
    let f = r.at.from in
    none_past (message_from w d) _ j (accepted w H) (Some k) (j, m) r.is e (omega (arith, f, l)) (λ i z. let y : k ≡ i = cc in omega (arith, y, l))

-- ---- quiet till due

-- what is before a moment that a stamp can tell is before it
pub before_stamp : (now m : ℕ) → now < 10000000000000000 → ((t : ℕ) → stamp_at m ≡ Some t → now < t) → now < m
before_stamp now m l q = elim (cases_lt m 10000000000000000) [
  | inl f ↦ q m (ap (λ (b : Bool). if b then Some m else None) (lt-ltb m 10000000000000000 f))
  | inr f ↦ omega (arith, f, l)
]

-- where no address is held, nothing was accepted or is due that could be taken
Quiet : Who → List Call → ℕ → Type 0
Quiet w H now = (t : ℕ) → next_due w H ≡ Some t → now < t

not_due : (w : Who) (H : List Call) (now : ℕ) (b : Bool) → moment H ≤ now → now < 10000000000000000 → Quiet w H now
    → (may_claim w H (delayed w H) || (is_held (address_after w H) && is_waiting w H)) ≡ b → b ≡ false
unfolding Quiet
not_due w H now false l m q e = refl
not_due w H now true l m q e =
    absurd (let z = q (moment H) (ap (λ (b : Bool). due_by w H b (is_held (address_after w H))) e
    ∙ ap (λ (b : Bool). if b then Some (moment H) else None) (lt-ltb (moment H) 10000000000000000 (omega (arith, l, m)))) in omega (arith, z, l))

not_held_yet : (w : Who) (H : List Call) (now : ℕ) (a : Address) → moment H ≤ now → now < 10000000000000000
    → ((t : ℕ) → held_at a (moment H) ≡ Some t → now < t) → is_held a ≡ false → is_held (older (now - moment H) a) ≡ false
not_held_yet w H now (Claimed n) l m q e =
    short n _ (moment H) now small (before_stamp now (moment H + (250000 - n)) m (λ t f. q t (ap (λ (b : Bool). if b then stamp_at (moment H + (250000 - n)) else None) small ∙ f))) refl l
  where
    small : nat_lt n 250000 ≡ true
    small = lt-ltb n 250000 (leb-false 250000 n e)

    short : (k d s x : ℕ) → nat_lt k 250000 ≡ true → x < d → d ≡ s + (250000 - k) → s ≤ x → nat_le 250000 (k + (x - s)) ≡ false
    short k d s x f g i j = grind arith
not_held_yet w H now a l m q e = refl

none_by : (h : Bool) (x y : Option Message) (m : Message) (now : ℕ) → (h ≡ false) ⊎ ((x ≡ None) × (y ≡ None)) → frame_by false h x y m now ≡ None
none_by h x y m now e = grind (arith, e)

lost_unheld : (a : Address) → is_lost a ≡ true → unheld a ≡ true
lost_unheld a e = grind (arith, e)

lost_not_held : (a : Address) → is_lost a ≡ true → is_held a ≡ false
lost_not_held a e = grind (arith, e)

-- what next_due tells where no frame can be taken at the moment of the last call
due_later : (w : Who) (H : List Call) (l : Bool) → (may_claim w H (delayed w H) || (is_held (address_after w H) && is_waiting w H)) ≡ false
    → is_held (address_after w H) ≡ l → next_due w H ≡ due_by w H false l
due_later w H l e f = grind (arith, e, f)

-- the next frame of packets isn't due yet
still_waits : (w : Who) (H : List Call) (now n : ℕ) → moment H ≤ now → now < 10000000000000000 → Quiet w H now
    → next_due w H ≡ stamp_at (moment H + n) → step H now < n
unfolding Quiet
still_waits w H now n l m q e = let y = before_stamp now (moment H + n) m (λ t f. q t (e ∙ f)) in omega (arith, y, l)

nothing_taken : (w : Who) (H : List Call) (now : ℕ) → moment H ≤ now → now < 10000000000000000 → Quiet w H now → next_frame w H now ≡ None
unfolding Quiet
nothing_taken w H now l m q =
    ap (λ (b : Bool). frame_by b (holds w H now) (next_acknowledgment w H now) (other w H now) c now) (ap (λ (b : Bool). b && not (gives_way w H now)) (unclaimed_now (owes_claim w H) (is_lost (address_after w H)) refl refl))
    ∙ none_by (holds w H now) _ _ c now (held (is_held (address_after w H)) refl)
  where
    c : Message
    c = claim_from w (claim_address w (address_after w H))

    n : (may_claim w H (delayed w H) || (is_held (address_after w H) && is_waiting w H)) ≡ false
    n = not_due w H now _ l m q refl

    o : (may_claim w H (delayed w H) ≡ false) × ((is_held (address_after w H) && is_waiting w H) ≡ false)
    o = or_parts (may_claim w H (delayed w H)) _ n

    may_now : owes_claim w H ≡ true → is_lost (address_after w H) ≡ false → ⊥
    may_now a b = not_both _ o.0 (λ i. a i && (not (b i) || nat_eq (delayed w H) 0))

    unclaimed_now : (a b : Bool) → owes_claim w H ≡ a → is_lost (address_after w H) ≡ b → claim_due w H now ≡ false
    unclaimed_now false b i j = ap (λ (x : Bool). x && (not (is_lost (address_after w H)) || nat_eq (delayed w H - step H now) 0)) i
    unclaimed_now true false i j = absurd (may_now i j)
    unclaimed_now true true i j =
        let k = still_waits w H now (delayed w H) l m q (due_later w H false n (lost_not_held (address_after w H) j)
        ∙ ap (λ (x : Bool). if x then stamp_at (moment H + delayed w H) else held_at (address_after w H) (moment H)) i) in
        λ t. i t && (not (j t) || ne_eqb (delayed w H - step H now) 0 (λ z. omega (arith, z, k)) t)

    not_yet : (a b : Bool) → owes_claim w H ≡ a → is_lost (address_after w H) ≡ b → is_held (address_after w H) ≡ false → holds w H now ≡ false
    not_yet a true i j z = never_held (step H now) (address_after w H) (lost_unheld (address_after w H) j)
    not_yet true false i j z = absurd (may_now i j)
    not_yet false false i j z = not_held_yet w H now (address_after w H) l m
        (λ t e. q t (due_later w H false n z ∙ (ap (λ (x : Bool). if x then stamp_at (moment H + delayed w H) else held_at (address_after w H) (moment H)) i ∙ e))) z

    long : is_held (address_after w H) ≡ true → (next_packet w H now ≡ None) × (next_transfer w H now ≡ None)
    long z = both_none _ _ (quiet_long w H now (λ k f. still_waits w H now k l m q (due_later w H true n z ∙ ap (at_in (moment H)) f)))

    held : (b : Bool) → is_held (address_after w H) ≡ b → (holds w H now ≡ false) ⊎ ((next_acknowledgment w H now ≡ None) × (other w H now ≡ None))
    held false z = inl (not_yet _ _ refl refl z)
    held true z =
        let v = or_parts _ _ (sym (ap (λ (b : Bool). b && is_waiting w H) z) ∙ o.1) in
        let u = or_parts _ _ v.1 in
        inr (
          none_due_goes w H now (none_at (due w H) (length (acknowledged H)) u.0),
          other_none w H now (record {
            reply = none_at (all_replies w H) 0 u.1;
            message = none_at (accepted w H) (reached H) v.0;
            packet = (long z).0;
          }) (long z).1,
        )

pub quiet : (w : Who) (H : List Call) (c : Controller) (now : ℕ) (answer : Option FrameRecord) → Is w (At now (TakeFrame answer) ∷ H) c → moment H ≤ now
    → now < 10000000000000000 → ((t : ℕ) → next_due w H ≡ Some t → now < t) → answer ≡ None
unfolding Quiet
quiet w H c now None is l m q = refl
quiet w H c now (Some f) is l m q = absurd (let z = is.answered.1 ∙ nothing_taken w H now l m q in cc)

pub ticks : (w : Who) (H : List Call) (now later : ℕ) → moment H ≤ now → now ≤ later → holds w (At now Tick ∷ H) later ≡ holds w H later
ticks w H now later e f = grind (arith, e, f)

there : {T : Type 0} (L : List T) (n : ℕ) → slice_get L n ≡ None → nat_lt n (length L) ≡ false
there L n e = le-ltb n (length L) (past_end L n e)

-- one is taken where the claim is owed, one waits, or one of packets is due
none_taken : (w : Who) (H : List Call) (c : Controller) (now : ℕ) → Is w (At now (TakeFrame None) ∷ H) c
    → (next_due w H ≡ due_by w H false true → next_long w H now ≡ None → ⊥)
    → (may_claim w H (delayed w H) ≡ false → next_due w H ≡ due_by w H false false → is_held (address_after w H) ≡ false → ⊥) → ⊥
none_taken w H c now is long later = go (may_claim w H (delayed w H)) (is_held (address_after w H)) (is_waiting w H) refl refl refl
  where
    stays : gives_way w H now ≡ false
    stays = none_gives w H now is.answered.1

    may_still : (o b : Bool) (d s : ℕ) → (o && (not b || nat_eq d 0)) ≡ true → (o && (not b || nat_eq (d - s) 0)) ≡ true
    may_still o b d s e = grind (arith, e)

    none : (h x : Bool) → may_claim w H (delayed w H) ≡ false → is_held (address_after w H) ≡ h → is_waiting w H ≡ x → (h && x) ≡ false
        → (may_claim w H (delayed w H) || (is_held (address_after w H) && is_waiting w H)) ≡ false
    none h x p q r s = ap (λ (u : Bool). u || (is_held (address_after w H) && is_waiting w H)) p ∙ (ap (λ (u : Bool). u && is_waiting w H) q ∙ (ap (λ (u : Bool). h && u) r ∙ s))

    go : (o h x : Bool) → may_claim w H (delayed w H) ≡ o → is_held (address_after w H) ≡ h → is_waiting w H ≡ x → ⊥
    go true h x p q r = no_claim_left w H now (claim_is w H now stays ∙ may_still (owes_claim w H) (is_lost (address_after w H)) (delayed w H) (step H now) p) is.answered.1
    go false true true p q r =
        let n = none_next w H now (held_older _ (address_after w H) q) is.answered.1 in
        let a = there (due w H) (length (acknowledged H)) n.acknowledgment in
        let b = there (accepted w H) (reached H) n.rest.message in
        let v = there (all_replies w H) 0 n.rest.reply in
        let d : is_waiting w H ≡ false =
        ap (λ (u : Bool). u || (nat_lt (length (acknowledged H)) (length (due w H)) || nat_lt 0 (length (all_replies w H)))) b
        ∙ (ap (λ (u : Bool). u || nat_lt 0 (length (all_replies w H))) a ∙ v) in
        not_both _ d r
    go false true false p q r =
        let n = none_next w H now (held_older _ (address_after w H) q) is.answered.1 in
        long (due_later w H true (none true false p q r refl) q) (ap (λ o. long_by o (next_transfer w H now)) n.rest.packet ∙ n.transfer)
    go false false x p q r = later p (due_later w H false (none false x p q r refl) q) q

not_at_once : (w : Who) (H : List Call) → may_claim w H (delayed w H) ≡ false
    → (if owes_claim w H then stamp_at (moment H + delayed w H) else held_at (address_after w H) (moment H)) ≡ Some (moment H) → ⊥
not_at_once w H e f = grind (arith, e, f)

pub due_now : (w : Who) (H : List Call) (c : Controller) (now : ℕ) (answer : Option FrameRecord) → Is w (At now (TakeFrame answer) ∷ H) c
    → next_due w H ≡ Some (moment H) → answer ≢ None
due_now w H c now (Some f) is e z = absurd (cc)
due_now w H c now None is e z =
    none_taken w H c now is (λ d k. from_long w H now (sym d ∙ e) k) (λ p d q. not_at_once w H p (sym d ∙ e))

pub due_then : (w : Who) (H : List Call) (c : Controller) (now t : ℕ) (answer : Option FrameRecord) → Is w (At now (TakeFrame answer) ∷ H) c
    → next_due w H ≡ Some t → t ≤ now → IsTrue (is_held (address_after w H)) → age w H + step H t < 10000000000000000 → answer ≢ None
due_then w H c now t (Some f) is e l held m z = absurd (cc)
due_then w H c now t None is e l held m z =
    none_taken w H c now is (λ d k. then_long w H now t l m (sym d ∙ e) k) (λ p d q. not_both _ q held)

-- ---- news

pub news_case : (a b : Bool) (d : Option ℕ) (c : Bool) (n : News) → Some n ≡ news_of a b d c
    → ((n ≡ AddressLost) × (a ≡ true)) ⊎ ((n ≡ AnotherAtAddress) × (b ≡ true)) ⊎ ((address : ℕ) × (n ≡ NameDoubled address) × (d ≡ Some address)) ⊎ ((n ≡ MessagesMissed) × (c ≡ true))
news_case true b d c n e = inl ((let z : n ≡ AddressLost = cc in z), refl)
news_case false true d c n e = inr (inl ((let z : n ≡ AnotherAtAddress = cc in z), refl))
news_case false false (Some a) c n e = inr (inr (inl (a, (let z : n ≡ NameDoubled a = cc in z), refl)))
news_case false false None true n e = inr (inr (inr ((let z : n ≡ MessagesMissed = cc in z), refl)))
news_case false false None false n e = absurd (cc)

pub no_news : (a b : Bool) (d : Option ℕ) (c : Bool) → None ≡ news_of a b d c → (a ≡ false) × (b ≡ false) × (d ≡ None) × (c ≡ false)
no_news a b d c e = (grind (arith, e), grind (arith, e), grind (arith, e), grind (arith, e))

-- another of its NAME

pub double_is : (w : Who) (c : Claim) → nat_eq c.name w.name ≡ true → (double w (Some c) ≡ Some c.address) × (is_double w (Some c) ≡ true)
double_is w c e = (ap (λ (b : Bool). if b then Some c.address else None) e, ap (λ (b : Bool). Rattle.std.specs.Option.is_some (if b then Some c.address else None)) e)

double_later : (w : Who) (a : ℕ) (H : List Call) (call : Call) → HasDouble w a H → HasDouble w a (call ∷ H)
double_later w a H call h = record { later = call ∷ h.later; at = h.at; claim = h.claim; earlier = h.earlier; is = ap (λ (G : List Call). call ∷ G) h.is; of_it = h.of_it }

pub double_claimed : (w : Who) (H : List Call) (a : ℕ) → doubled_news w H ≡ Some a → HasDouble w a H
double_claimed w [] a e = absurd (cc)
double_claimed w (At now (Hear f) ∷ H) a e = go (double_claimed w H a) (claim_of f) refl e
  where
    go : (doubled_news w H ≡ Some a → HasDouble w a H) → (o : Option Claim) → claim_of f ≡ o → option_or (double w o) (doubled_news w H) ≡ Some a
        → HasDouble w a (At now (Hear f) ∷ H)
    go before None k = λ i. double_later w a H (At now (Hear f)) (before i)
    go before (Some c) k = cond_both (nat_eq c.name w.name) _ _ (λ (o : Option ℕ). option_or o (doubled_news w H) ≡ Some a → HasDouble w a (At now (Hear f) ∷ H))
        (λ m i. (let n = eqb-true c.name w.name m in let s : c.address ≡ a = cc in
        record { later = []; at = now; claim = f; earlier = H; is = refl; of_it = k ∙ λ t. Some (record { name = n t; address = s t }) }))
        (λ m i. double_later w a H (At now (Hear f)) (before i))
double_claimed w (TakeNews (Some (NameDoubled b)) ∷ H) a e = absurd (cc)
double_claimed w (call ∷ H) a e = double_later w a H call (double_claimed w H a e)

pub lost_is_lost : (w : Who) (H : List Call) → IsTrue (lost_news w H) → IsTrue (is_lost (address_after w H))
lost_is_lost w [] e = absurd (cc)
lost_is_lost w (call ∷ H) e = let h = lost_is_lost w H in grind (arith, h, e)

pub some_missed : (w : Who) (H : List Call) → IsTrue (missed_news w H) → 0 < missed w H
some_missed w [] e = absurd (cc)
some_missed w (At when (Hear f) ∷ H) e =
    elim (or_cases (missed_news w H) (is_for_program w (holds w H when) f && not (nat_lt (length (kept w H) - length (got H)) 16)) e) [
      | inl z ↦ let l = some_missed w H z in
          cond_both (is_for_program w (holds w H when) f && not (nat_lt (length (kept w H) - length (got H)) 16)) _ _ (λ n. 0 < n) (λ z. omega arith) (λ z. l)
      | inr z ↦ subst (λ (b : Bool). 0 < (if b then suc (missed w H) else missed w H)) (sym z) (omega arith)
    ]
some_missed w (TakeNews (Some MessagesMissed) ∷ H) e = absurd (cc)
some_missed w (call ∷ H) e = some_missed w H e
