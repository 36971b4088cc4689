-- The sessions of all keys together, and their step.
use Rattle.std.proofs.Common.{◌≡◌, ◌≢◌, ℕ, ◌<◌, true, false, if◌then◌else◌, List, [], ◌∷◌, ◌++◌, length, get_or, Option, Some, None, refl, sym, ap, ◌∙◌, subst, inl, inr, arith, nat_lt, ◌==◌, eqb-true, ltb-true, append_assoc, append-nil}
use Rattle.std.proofs.lemmas.Bool.{cases_eq, cond_both, cond-false, and_parts, both_ways, false_from_ne_true}
use Rattle.std.proofs.lemmas.List.{get_or-set_same, get_or-set_other, length-set, get_or-replicate, length-replicate}
use Rattle.j39_transport.specs.Key.{Key, is_key}
use Rattle.j39_transport.specs.Frames.{is_clear_to_send, is_end, is_rival}
use Rattle.j39_transport.specs.Key.Key.{Broadcast, Directed}
use Rattle.j39_transport.specs.Events.{Event, at, announces, sends, ends, rivals, grants}
use Rattle.j39_transport.specs.Events.Event.{Frame, Forget}
use Rattle.j39_transport.proofs.FrameFacts.{packet_facts, announcement_facts}
use Rattle.j39_transport.proofs.OneMore.{stands_new}
use Rattle.j39_transport.proofs.Moving.{YoungIn, other_stands, opened_aged}
use Rattle.j39_transport.proofs.Tables.{directed_new, directed_more, directed_stands, lookup}
use Rattle.j39_transport.specs.OpenAtEvent.{step, from_of, broadcast_step, table_step}
use Rattle.j39_transport.specs.Session.{SessionRecord}
use Rattle.j39_transport.specs.Sessions.{Sessions}
use Rattle.j39_transport.specs.AssemblerStep.{OpenMessagesRecord, empty_state}
use Rattle.j39_transport.specs.Stands.{IsOpenOrNone, AreBroadcasts, AreKept}
use Rattle.j39_transport.proofs.MoveLemmas.{moved_none}

-- ---- the state

pub table_new : AreKept [] empty_state
table_new = record {
  broadcasts = record {
    size_is = length-replicate {A = Option SessionRecord} 254 None;
    each = λ s l. subst (λ (o : Option SessionRecord). IsOpenOrNone [] (Broadcast s) o) (sym (get_or-replicate 254 s None None l)) (stands_new (Broadcast s));
  };
  directed = directed_new;
}

-- an event is nothing to the broadcasts of another source
others : (s : ℕ) (e : Event) → s ≢ from_of e → (announces (Broadcast s) e ≡ false) × (sends (Broadcast s) e ≡ false) × ((g : ℕ) → ends (Broadcast s) g e ≡ false) × ((g : ℕ) → grants (Broadcast s) g e ≡ false)
unfolding announces sends ends grants is_end is_clear_to_send
others s (Frame f) n = (false_from_ne_true _ (λ k. n (sym (announcement_facts (Broadcast s) f k).source)), false_from_ne_true _ (λ k. n (sym (packet_facts (Broadcast s) f k).source)), (λ g. refl), (λ g. refl))
others s (Forget t) n = (refl, refl, (λ g. false_from_ne_true _ (λ k. n (eqb-true _ _ (and_parts (s == t) (nat_lt s 254) k).0))), (λ g. refl))

-- an event that is nothing to the broadcast of a source
pub quiet_step : (e : Event) (s : ℕ) (o : Option SessionRecord) → announces (Broadcast s) e ≡ false → sends (Broadcast s) e ≡ false → ((g : ℕ) → grants (Broadcast s) g e ≡ false) → ((g : ℕ) → ends (Broadcast s) g e ≡ false)
    → step (Broadcast s) e o ≡ o
quiet_step e s None a b c d = cond-false _ _ _ a
quiet_step e s (Some x) a b c d = cond-false _ _ _ a ∙ moved_none (Broadcast s) e x a b (c x.group) (d x.group)

step_other : (s : ℕ) (e : Event) (o : Option SessionRecord) → s ≢ from_of e → step (Broadcast s) e o ≡ o
step_other s e o n = let t = others s e n in quiet_step e s o t.0 t.1 t.3 t.2

-- nothing is a rival of a broadcast
pub broadcast_stands : (E : List Event) (e : Event) (s : ℕ) (o : Option SessionRecord) → IsOpenOrNone E (Broadcast s) o → IsOpenOrNone (E ++ e ∷ []) (Broadcast s) (step (Broadcast s) e o)
unfolding rivals is_rival
broadcast_stands E e s o h = cond_both (announces (Broadcast s) e) _ _ (IsOpenOrNone (E ++ e ∷ []) (Broadcast s))
    (λ a. (opened_aged E e (Broadcast s) a).session)
    (λ a. other_stands E e (Broadcast s) o h a (young o h))
  where
    none : (e : Event) → rivals (Broadcast s) e ≡ false
    none (Frame f) = refl
    none (Forget t) = refl

    young : (o : Option SessionRecord) (h : IsOpenOrNone E (Broadcast s) o) → YoungIn E e (Broadcast s) o h
    young None h = tt
    young (Some x) h = λ r. absurd (both_ways _ (none e) r)

broadcasts_more : (E : List Event) (e : Event) (T : Sessions) → AreBroadcasts E T → AreBroadcasts (E ++ e ∷ []) (broadcast_step e T)
broadcasts_more E e T h = record {
  size_is = length-set T (from_of e) (step (Broadcast (from_of e)) e (get_or T (from_of e) None)) ∙ h.size_is;
  each = λ s l. elim (cases_eq s (from_of e)) [
    | inl i ↦
        (let z : length T ≡ 254 = h.size_is in
        let w : from_of e < length T = omega arith in
        let r : get_or (broadcast_step e T) s None ≡ step (Broadcast s) e (get_or T s None) =
        ap (λ (x : ℕ). get_or (broadcast_step e T) x None) i ∙ (get_or-set_same T (from_of e) (step (Broadcast (from_of e)) e (get_or T (from_of e) None)) None w ∙ ap (λ (x : ℕ). step (Broadcast x) e (get_or T x None)) (sym i)) in
        subst (λ (o : Option SessionRecord). IsOpenOrNone (E ++ e ∷ []) (Broadcast s) o) (sym r) (broadcast_stands E e s (get_or T s None) (h.each s l)))
    | inr n ↦
        (let r : get_or (broadcast_step e T) s None ≡ step (Broadcast s) e (get_or T s None) =
        get_or-set_other T (from_of e) s (step (Broadcast (from_of e)) e (get_or T (from_of e) None)) None n ∙ sym (step_other s e (get_or T s None) n) in
        subst (λ (o : Option SessionRecord). IsOpenOrNone (E ++ e ∷ []) (Broadcast s) o) (sym r) (broadcast_stands E e s (get_or T s None) (h.each s l)))
  ];
}

-- one event more
pub table_more : (E : List Event) (e : Event) (T : OpenMessagesRecord) → AreKept E T → AreKept (E ++ e ∷ []) (table_step e T)
table_more E e T h = record { broadcasts = broadcasts_more E e T.broadcasts h.broadcasts; directed = directed_more E e T.directed h.directed }

abbrev pub table_run : List Event → OpenMessagesRecord → OpenMessagesRecord
table_run [] T = T
table_run (e ∷ es) T = table_run es (table_step e T)

pub table_all : (E es : List Event) (T : OpenMessagesRecord) → AreKept E T → AreKept (E ++ es) (table_run es T)
table_all E [] T h = subst (λ (x : List Event). AreKept x T) (sym (append-nil E)) h
table_all E (e ∷ es) T h = subst (λ (x : List Event). AreKept x (table_run es (table_step e T))) (append_assoc E (e ∷ []) es) (table_all (E ++ e ∷ []) es (table_step e T) (table_more E e T h))

-- ---- the session of a key

abbrev pub session_of : OpenMessagesRecord → Key → Option SessionRecord
session_of T (Broadcast s) = if nat_lt s 254 then get_or T.broadcasts s None else None
session_of T (Directed s d) = lookup s d T.directed

pub announced_key : (k : Key) (e : Event) → announces k e ≡ true → is_key k ≡ true
unfolding announces
announced_key k (Frame f) h = (announcement_facts k f h).key
announced_key k (Forget t) h = absurd (both_ways false refl h)

pub table_stands : (E : List Event) (T : OpenMessagesRecord) → AreKept E T → (k : Key) → IsOpenOrNone E k (session_of T k)
table_stands E T h (Broadcast s) = cond_both (nat_lt s 254) _ _ (λ (o : Option SessionRecord). IsOpenOrNone E (Broadcast s) o)
    (λ t. h.broadcasts.each s (ltb-true _ _ t))
    (λ t g p0 ps o. both_ways _ t (announced_key (Broadcast s) (at E p0) o.announced))
table_stands E T h (Directed s d) = directed_stands E T.directed h.directed s d
