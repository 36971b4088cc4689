-- Which announcements need a box, and when an assembler has one that lies unused.
use Rattle.std.proofs.Common.{◌≡◌, ◌⊎◌, ℕ, suc, ◌+◌, ◌<◌, Bool, true, false, ◌||◌, List, [], ◌∷◌, ◌++◌, length, take, get_or, slice_set, Option, Some, None, refl, sym, ap, ◌∙◌, subst, inl, inr, arith, length-append, ltb-true}
use Rattle.std.proofs.lemmas.Bool.{both_ways, cases_eq, cases_lt, or_right}
use Rattle.std.proofs.lemmas.List.{get_or-set_same, get_or-set_other, get_or-take, get_or_past}
use Rattle.j39_frame.specs.Frame.{FrameRecord}
use Rattle.j39_transport.specs.Answers.{Outcome, Whole, Taken, Ignored, AnswersAt, WholeBy}
use Rattle.j39_transport.specs.Boxes.{HasOpen, NeedsBox, HasSpare, freed, kept, WantsMemory}
use Rattle.j39_transport.specs.OpenAtEvent.{pair_of}
use Rattle.j39_transport.specs.Events.{Event, at as event_at}
use Rattle.j39_transport.specs.Events.Event.{Frame, Forget}
use Rattle.j39_transport.specs.Frames.{source_of, destination_of, is_announcement}
use Rattle.j39_transport.specs.Signals.{Signal, BroadcastAnnounce, RequestToSend, ClearToSend, Acknowledgment, Abort, Packet, said_by}
use Rattle.j39_transport.specs.Key.{Key}
use Rattle.j39_transport.specs.Key.Key.{Broadcast, Directed}
use Rattle.j39_transport.specs.Message.{MessageRecord}
use Rattle.j39_transport.specs.Sessions.{Sessions, at, is_of, find, find_from}
use Rattle.j39_transport.specs.Session.{SessionRecord, opened}
use Rattle.j39_transport.specs.Stands.{IsSession, IsOpenOrNone, AreKept, Stands}
use Rattle.j39_transport.specs.AssemblerStep.{AssemblerRecord, OpenMessagesRecord, Moved, Ends, Grows, Stays, Late, announced, answer, answer_by, answer_to_packet, fed, forgot, key_of, is_whole, LacksBox, moves, new_assembler, place_for, room, spare_after, spare_left, state_after, told, told_at}
use Rattle.j39_transport.specs.Protocol.{broadcast_limit, directed_limit}
use Rattle.j39_transport.proofs.AllKeys.{announced_key, table_new}
use Rattle.j39_transport.proofs.AnswerLemmas.{answers_at}
use Rattle.j39_transport.proofs.FramePlaces.{ev_announces}
use Rattle.j39_transport.proofs.PlaceLemmas.{Found, found}
use Rattle.j39_transport.proofs.ReadLemmas.{Facts, read_is}
use Rattle.j39_transport.proofs.StepLemmas.{kept_after, kept_forgotten}
use Rattle.j39_transport.proofs.TableLemmas.{set_same}
use Rattle.j39_transport.proofs.Tables.{is_pair, pair_is, same_pair}

-- ---- the keys that have a message open, and their places

abbrev Keeps : OpenMessagesRecord → Key → Type 0
Keeps a (Broadcast s) = (s < 254) × (x : SessionRecord) × (at a.broadcasts s ≡ Some x)
Keeps a (Directed s d) = (i : ℕ) × (x : SessionRecord) × (at a.directed i ≡ Some x) × (is_of s d (Some x) ≡ true)

same_frame : (f g : FrameRecord) → Frame f ≡ Frame g → f ≡ g
same_frame f g e = cc (e)

no_frame : (t : ℕ) (f : FrameRecord) → Forget t ≡ Frame f → ⊥
no_frame t f e = cc (e)

some_not_none : {A : Type 0} (x : A) → ◌≡◌ {A = Option A} (Some x) None → ⊥
some_not_none x e = cc (e)

has_open : (E : List Event) (k : Key) (x : SessionRecord) → IsSession E k x → HasOpen E k
has_open E k x h = (x.count, (x.group, h.start, h.places, h.open_by, sym h.count_is))

module _ (E : List Event) (a : OpenMessagesRecord) (h : AreKept E a) where
  keeps : (k : Key) → HasOpen E k → Keeps a k
  keeps (Broadcast s) o =
      let l : s < 254 = ltb-true _ _ (announced_key (Broadcast s) (event_at E o.1.1) o.1.3.announced) in
      go l (at a.broadcasts s) refl (h.broadcasts.each s l)
    where
      go : s < 254 → (q : Option SessionRecord) → at a.broadcasts s ≡ q → IsOpenOrNone E (Broadcast s) (at a.broadcasts s) → Keeps a (Broadcast s)
      go l None e w = absurd ((subst (λ (p : Option SessionRecord). IsOpenOrNone E (Broadcast s) p) e w) o.1.0 o.1.1 o.1.2 o.1.3)
      go l (Some x) e w = (l, x, e)
  keeps (Directed s d) o =
      let k = h.directed.all s d o.1.0 o.1.1 o.1.2 o.1.3 in
      (k.0, k.1, k.2, is_pair s d k.1 k.3 k.4)

  is_kept : (k : Key) → Keeps a k → HasOpen E k
  is_kept (Broadcast s) w = has_open E (Broadcast s) w.1 (subst (λ (q : Option SessionRecord). IsOpenOrNone E (Broadcast s) q) w.2 (h.broadcasts.each s w.0))
  is_kept (Directed s d) w = subst (λ (k : Key). HasOpen E k) (same_pair s d w.1 (pair_is s d w.1 w.3)) (has_open E (pair_of w.1) w.1 (h.directed.each w.0 w.1 w.2).session)

  broadcasts_size : length a.broadcasts ≡ 254
  broadcasts_size = h.broadcasts.size_is

  directed_size : length a.directed ≡ 16
  directed_size = h.directed.size_is

-- ---- an announcement whose place is empty

-- it is of a key with none open
none_kept : (a : OpenMessagesRecord) (k : Key) → place_for a k ≡ None → Keeps a k → ⊥
unfolding find
none_kept a (Broadcast s) e w = some_not_none w.1 (sym w.2 ∙ e)
none_kept a (Directed s d) e w = go (find_from s d 0 a.directed) (found s d 0 a.directed) e
  where
    go : (o : Option ℕ) → Found s d 0 a.directed o → at a.directed (room o) ≡ None → ⊥
    go None n e = both_ways _ (n w.0) (ap (is_of s d) w.2 ∙ w.3)
    go (Some j) f e = both_ways false refl (sym (ap (is_of s d) (ap (at a.directed) (let z : j ≡ 0 + f.0 = f.1 in let y : f.0 ≡ j = omega arith in y) ∙ e)) ∙ f.3)

-- and the oldest place is empty too
none_oldest : (s d : ℕ) (t : Sessions) → at t (room (find s d t)) ≡ None → find s d t ≡ None
unfolding find
none_oldest s d t e = go (find_from s d 0 t) (found s d 0 t) e
  where
    go : (o : Option ℕ) → Found s d 0 t o → at t (room o) ≡ None → o ≡ None
    go None n e = refl
    go (Some j) f e = absurd (both_ways false refl (sym (ap (is_of s d) (ap (at t) (let z : j ≡ 0 + f.0 = f.1 in let y : f.0 ≡ j = omega arith in y) ∙ e)) ∙ f.3))

-- whatever is kept is kept on
keeps_on : (a : OpenMessagesRecord) (k : Key) (x : SessionRecord) (j : Key) → length a.directed ≡ 16 → length a.broadcasts ≡ 254 → place_for a k ≡ None → Keeps a j → Keeps (announced a k x) j
keeps_on a (Broadcast s) x (Broadcast t) sized many e w = elim (cases_eq t s) [
  | inl i ↦ (w.0, x, ap (λ n. at (slice_set a.broadcasts s (Some x)) n) i ∙ get_or-set_same a.broadcasts s (Some x) None (let l : t < 254 = w.0 in omega arith))
  | inr n ↦ (w.0, w.1, get_or-set_other a.broadcasts s t (Some x) None n ∙ w.2)
]
keeps_on a (Broadcast s) x (Directed t u) sized many e w = w
keeps_on a (Directed s d) x (Broadcast t) sized many e w = w
keeps_on a (Directed s d) x (Directed t u) sized many e w =
    let r : find s d a.directed ≡ None = none_oldest s d a.directed e in
    let o : at a.directed 15 ≡ None = subst (λ q. at a.directed (room q) ≡ None) r e in
    let l : w.0 < 15 = below_oldest a.directed w.0 w.1 sized o w.2 in
    let z : slice_set a.directed (room (find s d a.directed)) None ≡ a.directed = set_same a.directed (room (find s d a.directed)) e in (
      suc w.0,
      w.1,
      ap (λ t. get_or (take 15 t) w.0 None) z ∙ (get_or-take 15 a.directed w.0 None l ∙ w.2),
      w.3,
    )
  where
    below_oldest : (t : Sessions) (i : ℕ) (y : SessionRecord) → length t ≡ 16 → at t 15 ≡ None → at t i ≡ Some y → i < 15
    below_oldest t i y n o p = elim (cases_lt i 15) [
      | inl l ↦ l
      | inr g ↦ absurd (elim (cases_eq i 15) [
        | inl q ↦ some_not_none y (sym p ∙ (ap (at t) q ∙ o))
        | inr q ↦ some_not_none y (sym p ∙ get_or_past t i None (omega arith))
      ])
    ]

module _ (E : List Event) (f : FrameRecord) (a : AssemblerRecord) (h : Stands E a) where
  needs_box : (k : Key) (g n p : ℕ) → is_announcement k f ≡ true → AreKept (E ++ Frame f ∷ []) (announced a.sessions k (opened k g n p f.stamp)) → place_for a.sessions k ≡ None → NeedsBox E (Frame f)
  needs_box k g n p is next e = record {
    key = k;
    announced = ev_announces k f ∙ is;
    none_open = λ o. none_kept a.sessions k e (keeps E a.sessions h.kept k o);
    ends_none = λ j o.
        is_kept (E ++ Frame f ∷ []) (announced a.sessions k (opened k g n p f.stamp)) next j
        (keeps_on a.sessions k (opened k g n p f.stamp) j (directed_size E a.sessions h.kept) (broadcasts_size E a.sessions h.kept) e (keeps E a.sessions h.kept j o));
  }

  wanting : (k : Key) (g n p : ℕ) → is_announcement k f ≡ true → AreKept (E ++ Frame f ∷ []) (announced a.sessions k (opened k g n p f.stamp)) → (place_for a.sessions k ≡ None) × (a.has_spare ≡ false) → WantsMemory E f
  wanting k g n p is next w = record {
    needs = needs_box k g n p is next w.0;
    none_unused = λ s. both_ways _ w.1 (h.spare s);
  }

  wants_by : (r : Option Signal) → Facts f r → AreKept (E ++ Frame f ∷ []) (state_after a.sessions f r) → LacksBox a.sessions a.has_spare f r → WantsMemory E f
  unfolding state_after
  wants_by None c next w = absurd w
  wants_by (Some (BroadcastAnnounce n p g)) c next w = wanting (Broadcast (source_of f.id)) g n p c.announces_it next w
  wants_by (Some (RequestToSend n p most g)) c next w = wanting (Directed (source_of f.id) (destination_of f.id)) g n p c.announces_it next w
  wants_by (Some (ClearToSend count n g)) c next w = absurd w
  wants_by (Some (Acknowledgment n p g)) c next w = absurd w
  wants_by (Some (Abort reason g)) c next w = absurd w
  wants_by (Some (Packet n bs)) c next w = absurd w

  pub wants_memory : LacksBox a.sessions a.has_spare f (said_by f) → WantsMemory E f
  wants_memory w = wants_by (said_by f) (read_is f) (kept_after E f a.sessions h.kept) w

-- ---- the box that lies unused

-- where one lies unused after one event more: a message became whole, or one lay there and wasn't needed
abbrev IsFreed : List Event → Event → Type 0
IsFreed E e = (f : FrameRecord) × (m : MessageRecord) × (e ≡ Frame f) × WholeBy E f m

abbrev IsLeft : List Event → Event → Type 0
IsLeft E e = HasSpare E × (NeedsBox E e → ⊥)

same_last : (A B : List Event) (a b : Event) → A ++ a ∷ [] ≡ B ++ b ∷ [] → (A ≡ B) × (a ≡ b)
same_last [] [] a b q = (refl, cc (q))
same_last [] (y ∷ B) a b q = absurd (omega (arith, ap length q, length-append B (b ∷ [])))
same_last (x ∷ A) [] a b q = absurd (omega (arith, ap length q, length-append A (a ∷ [])))
same_last (x ∷ A) (y ∷ B) a b q =
    let h : x ≡ y = cc (q) in
    let t : A ++ a ∷ [] ≡ B ++ b ∷ [] = cc (q) in
    let r = same_last A B a b t in
    ((λ i. h i ∷ r.0 i), r.1)

unused_by : (D : List Event) → HasSpare D → (E : List Event) (e : Event) → D ≡ E ++ e ∷ [] → IsFreed E e ⊎ IsLeft E e
unused_by _ (freed A f m w) E e q =
    let r = same_last A E (Frame f) e q in
    inl (f, m, sym r.1, subst (λ (X : List Event). WholeBy X f m) r.0 w)
unused_by _ (kept A a s n) E e q =
    let r = same_last A E a e q in
    inr (subst HasSpare r.0 s, subst (λ (X : List Event). NeedsBox X e → ⊥) r.0 (subst (λ (x : Event). NeedsBox A x → ⊥) r.1 n))

-- whether a message is whole doesn't hang on its source
whole_by : (s t stamp : ℕ) (m : Moved) → is_whole (answer_by s stamp m) ≡ is_whole (answer_by t stamp m)
whole_by s t stamp (Ends x) = refl
whole_by s t stamp (Grows x) = refl
whole_by s t stamp (Stays x) = refl
whole_by s t stamp Late = refl

whole_told : (s t limit number stamp : ℕ) (part : List ℕ) (o : Option SessionRecord) → is_whole (told s limit number part stamp o) ≡ is_whole (told t limit number part stamp o)
whole_told s t limit number stamp part None = refl
whole_told s t limit number stamp part (Some x) = whole_by s t stamp (moves limit number part stamp x)

whole_packet : (a : OpenMessagesRecord) (s t stamp : ℕ) (k : Key) (number : ℕ) (part : List ℕ) → is_whole (answer_to_packet a s stamp k number part) ≡ is_whole (answer_to_packet a t stamp k number part)
whole_packet a s t stamp (Broadcast n) number part = whole_told s t broadcast_limit number stamp part (at a.broadcasts n)
whole_packet a s t stamp (Directed n d) number part = go (find n d a.directed)
  where
    go : (o : Option ℕ) → is_whole (told_at o (told s directed_limit number part stamp) a.directed) ≡ is_whole (told_at o (told t directed_limit number part stamp) a.directed)
    go None = refl
    go (Some i) = whole_told s t directed_limit number stamp part (at a.directed i)

whole_answered : (E : List Event) (f : FrameRecord) (m : MessageRecord) (o : Outcome) → AnswersAt E f o → WholeBy E f m → is_whole o ≡ true
whole_answered E f m (Whole s g b t) h w = refl
whole_answered E f m Taken h w = absurd (h.1 m w)
whole_answered E f m Ignored h w = absurd (h.1 m w)

module _ (E : List Event) (f : FrameRecord) (a : AssemblerRecord) (h : Stands E a) where
  freed_box : (m : MessageRecord) → WholeBy E f m → (r : Option Signal) → AnswersAt E f (answer a.sessions f r) → spare_after a.sessions a.has_spare f r ≡ true
  unfolding answer spare_after
  freed_box m w None o = absurd (o.1 m w)
  freed_box m w (Some (BroadcastAnnounce n p g)) o = absurd (o.1 m w)
  freed_box m w (Some (RequestToSend n p most g)) o = absurd (o.1 m w)
  freed_box m w (Some (ClearToSend count next g)) o = absurd (o.1 m w)
  freed_box m w (Some (Acknowledgment n p g)) o = absurd (o.1 m w)
  freed_box m w (Some (Abort reason g)) o = absurd (o.1 m w)
  freed_box m w (Some (Packet n bs)) o =
      ap (λ (b : Bool). b || a.has_spare) (whole_packet a.sessions 0 (source_of f.id) f.stamp (key_of f) n bs ∙ whole_answered E f m (answer_to_packet a.sessions (source_of f.id) f.stamp (key_of f) n bs) o w)

  left_place : a.has_spare ≡ true → (NeedsBox E (Frame f) → ⊥) → (k : Key) (g n p : ℕ) → is_announcement k f ≡ true → AreKept (E ++ Frame f ∷ []) (announced a.sessions k (opened k g n p f.stamp)) → spare_left (place_for a.sessions k) a.has_spare ≡ true
  left_place b none k g n p is next = go (place_for a.sessions k) refl
    where
      go : (o : Option SessionRecord) → place_for a.sessions k ≡ o → spare_left o a.has_spare ≡ true
      go None e = absurd (none (needs_box E f a h k g n p is next e))
      go (Some x) e = b

  left_box : a.has_spare ≡ true → (NeedsBox E (Frame f) → ⊥) → (r : Option Signal) → Facts f r → AreKept (E ++ Frame f ∷ []) (state_after a.sessions f r) → spare_after a.sessions a.has_spare f r ≡ true
  unfolding spare_after state_after
  left_box b none None c next = b
  left_box b none (Some (BroadcastAnnounce n p g)) c next = left_place b none (Broadcast (source_of f.id)) g n p c.announces_it next
  left_box b none (Some (RequestToSend n p most g)) c next = left_place b none (Directed (source_of f.id) (destination_of f.id)) g n p c.announces_it next
  left_box b none (Some (ClearToSend count n g)) c next = b
  left_box b none (Some (Acknowledgment n p g)) c next = b
  left_box b none (Some (Abort reason g)) c next = b
  left_box b none (Some (Packet n bs)) c next = or_right _ _ b

  spare_on : HasSpare (E ++ Frame f ∷ []) → spare_after a.sessions a.has_spare f (said_by f) ≡ true
  spare_on s = elim (unused_by (E ++ Frame f ∷ []) s E (Frame f) refl) [
    | inl w ↦ freed_box w.1 (let e : w.0 ≡ f = same_frame w.0 f (sym w.2) in subst (λ (x : FrameRecord). WholeBy E x w.1) e w.3) (said_by f) (answers_at E f a.sessions h.kept)
    | inr w ↦ left_box (h.spare w.0) w.1 (said_by f) (read_is f) (kept_after E f a.sessions h.kept)
  ]

-- ---- what an assembler stands for

pub stands_after : (E : List Event) (f : FrameRecord) (a : AssemblerRecord) → Stands E a → Stands (E ++ Frame f ∷ []) (fed a f (said_by f))
stands_after E f a h = record { kept = kept_after E f a.sessions h.kept; spare = spare_on E f a h }

pub stands_forgotten : (E : List Event) (t : ℕ) (a : AssemblerRecord) → Stands E a → Stands (E ++ Forget t ∷ []) (forgot a t)
stands_forgotten E t a h = record {
  kept = kept_forgotten E t a.sessions h.kept;
  spare = λ s. elim (unused_by (E ++ Forget t ∷ []) s E (Forget t) refl) [
    | inl w ↦ absurd (no_frame t w.0 w.2)
    | inr w ↦ h.spare w.0
  ];
}

none_yet : (D : List Event) → HasSpare D → D ≡ [] → ⊥
none_yet _ (freed A f m w) e = omega (arith, ap length e, length-append A (Frame f ∷ []))
none_yet _ (kept A a s n) e = omega (arith, ap length e, length-append A (a ∷ []))

pub stands_new : Stands [] new_assembler
stands_new = record { kept = table_new; spare = λ s. absurd (none_yet [] s refl) }
