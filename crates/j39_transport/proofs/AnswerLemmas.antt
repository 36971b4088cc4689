-- What an assembler answers is what the definitions say.
use Rattle.std.proofs.Common.{◌≡◌, ℕ, suc, ◌+◌, Bool, true, false, if◌then◌else◌, List, [], ◌∷◌, ◌++◌, length, drop, take, slice_index, Option, Some, None, refl, sym, ap, ◌∙◌, subst, inl, inr, arith, nat_lt, ◌==◌, eqb-true, ltb-true}
use Rattle.std.proofs.lemmas.Bool.{cond_both, cond-true, cond-false, and_parts, and_from, both_ways, eqb-false}
use Rattle.j39_frame.specs.Frame.{FrameRecord}
use Rattle.j39_transport.specs.Key.{Key, sender, limit}
use Rattle.j39_transport.specs.Frames.{source_of, destination_of, is_announcement, is_packet}
use Rattle.j39_transport.specs.Key.Key.{Broadcast, Directed}
use Rattle.j39_transport.specs.Events.{Event, sends, number, payload, stamp}
use Rattle.j39_transport.specs.Events.Event.{Frame}
use Rattle.j39_transport.specs.OpenAtEvent.{is_over}
use Rattle.j39_transport.specs.Session.{SessionRecord}
use Rattle.j39_transport.specs.Sessions.{Sessions, at, is_of, find, find_from}
use Rattle.j39_transport.specs.Signals.{Signal, BroadcastAnnounce, RequestToSend, ClearToSend, Acknowledgment, Abort, Packet, said_by}
use Rattle.j39_transport.specs.AssemblerStep.{OpenMessagesRecord, moves, packed, granted, closed, finished, with_place, state_after, state_without, without_broadcast, room, empty_state, told, told_at, answer, answer_by, answer_to_packet, key_of}
use Rattle.j39_transport.specs.AssemblerStep as steps
use Rattle.j39_transport.specs.Answers as answers
use Rattle.j39_transport.specs.Session as sessions
use Rattle.j39_transport.specs.Protocol.{clear_to_send, acknowledgment, connection_abort, broadcast_limit, directed_limit}
use Rattle.j39_transport.specs.Stands.{AreKept, IsOpenOrNone}
use Rattle.j39_transport.proofs.FrameFacts.{packet_facts, sends-others}
use Rattle.j39_transport.proofs.ReadLemmas.{IsControl, IsPacking, Facts, read_is}
use Rattle.j39_transport.proofs.MoveLemmas.{sent_over}
use Rattle.j39_transport.proofs.FramePlaces.{ev_announces, ev_sends, announced_no_packet, packet_key, ev_stamp}
use Rattle.j39_transport.proofs.ControlPlaces.{no_pack, no_opening}
use Rattle.j39_transport.specs.Answers.{IsPartial, AnswersAt, IsTaken, NoneWhole}
use Rattle.j39_transport.specs.Assembly.{Whole}
use Rattle.j39_transport.proofs.Completing.{Continues, Completes, whole_from, whole_only}
use Rattle.j39_transport.proofs.Taken.{Grows, partial_iff, assembled_sent}
use Rattle.j39_transport.proofs.Tables.{lookup, directed_stands}
use Rattle.j39_transport.proofs.AllKeys.{table_stands, session_of}
use Rattle.j39_transport.proofs.StepLemmas.{packet_no_announcement}

module _ (E : List Event) (f : FrameRecord) (a : OpenMessagesRecord) (h : AreKept E a) where
  -- a message that lacks a packet still takes packets alone
  partial_sent : (k : Key) (g : ℕ) → IsPartial (E ++ Frame f ∷ []) (length E) k g → is_packet k f ≡ true
  partial_sent k g p =
      let c = (partial_iff E (Frame f) k (session_of a k) (table_stands E a h k) g).1 p in
      sym (ev_sends k f) ∙ (and_parts (sends k (Frame f)) (number (Frame f) == suc c.session.count) c.continues.is_next).0

  no_packet_no_whole : ((k : Key) → is_packet k f ≡ false) → NoneWhole E f
  no_packet_no_whole n m w = both_ways _ (n w.0) (assembled_sent E f w.0 m.pgn m.bytes w.2)

  ignored : ((k : Key) → is_announcement k f ≡ false) → ((k : Key) → is_packet k f ≡ false) → AnswersAt E f answers.Ignored
  ignored n m = ((λ t. elim t [ inl j ↦ both_ways _ (n j.0) j.1 | inr j ↦ both_ways _ (m j.0) (partial_sent j.0 j.1 j.2) ]), no_packet_no_whole m)

  -- ---- a packet of k, which has the session o

  module _ (k : Key) (p : is_packet k f ≡ true) where
    only_key : (j : Key) → is_packet j f ≡ true → j ≡ k
    only_key j q = packet_key j k f q p

    none_grows : (o : Option SessionRecord) → IsOpenOrNone E k o → ((g : ℕ) → Grows E (Frame f) k o g → ⊥) → IsTaken E f → ⊥
    none_grows o s n (inl j) = both_ways _ (packet_no_announcement k j.0 f p) j.1
    none_grows o s n (inr j) =
        let e = only_key j.0 (partial_sent j.0 j.1 j.2) in
        n j.1 ((partial_iff E (Frame f) k o s j.1).1 (subst (λ (x : Key). IsPartial (E ++ Frame f ∷ []) (length E) x j.1) e j.2))

    none_completes : (o : Option SessionRecord) → IsOpenOrNone E k o → ((g : ℕ) (b : List ℕ) → Completes E (Frame f) k o g b → ⊥) → NoneWhole E f
    none_completes o s n m w =
        let e = only_key w.0 (assembled_sent E f w.0 m.pgn m.bytes w.2) in
        n m.pgn m.bytes (whole_only E (Frame f) k o s m.pgn m.bytes (subst (λ (x : Key). Whole (E ++ Frame f ∷ []) (length E) x m.pgn m.bytes) e w.2))

    packet_over : (x : SessionRecord) → is_over k (Frame f) x ≡ nat_lt (x.last + limit k) f.stamp
    packet_over x =
        let o = sends-others k k k x.group (Frame f) (ev_sends k f ∙ p) in
        sent_over k (Frame f) x o.no_announcement (ev_sends k f ∙ p) o.no_grant o.no_end ∙ ap (nat_lt (x.last + limit k)) (ev_stamp f)

    told_is : (o : Option SessionRecord) → IsOpenOrNone E k o → AnswersAt E f (told (sender k) (limit k) (slice_index f.bytes 0) (drop 1 f.bytes) f.stamp o)
    unfolding moves number payload stamp
    told_is None s = (none_grows None s (λ g c. cc (c.was)), none_completes None s (λ g b c. cc (c.was)))
    told_is (Some x) s =
        subst (λ (n : ℕ). AnswersAt E f (answer_by (sender k) f.stamp (if nat_lt (x.last + limit k) f.stamp then steps.Late else if slice_index f.bytes 0 == n then (if n == x.packets then steps.Ends (sessions.grown f.stamp (drop 1 f.bytes) x) else steps.Grows (sessions.grown f.stamp (drop 1 f.bytes) x)) else steps.Stays (sessions.touched f.stamp x))))
        (let e : suc x.count ≡ x.count + 1 = omega arith in e)
        (go (nat_lt (x.last + limit k) f.stamp) (slice_index f.bytes 0 == suc x.count) (suc x.count == x.packets) refl refl refl)
      where
        is_it : (y : SessionRecord) → ◌≡◌ {A = Option SessionRecord} (Some x) (Some y) → y ≡ x
        is_it y e = cc (e)

        goes_on : (c : SessionRecord) → c ≡ x → Continues E (Frame f) k c → Continues E (Frame f) k x
        goes_on c e t = subst (λ (y : SessionRecord). Continues E (Frame f) k y) e t

        ignored_by : (Continues E (Frame f) k x → ⊥) → AnswersAt E f answers.Ignored
        ignored_by n = (none_grows (Some x) s (λ g c. n (goes_on c.session (is_it c.session c.was) c.continues)), none_completes (Some x) s (λ g b c. n (goes_on c.session (is_it c.session c.was) c.continues)))

        continues : nat_lt (x.last + limit k) f.stamp ≡ false → (slice_index f.bytes 0 == suc x.count) ≡ true → Continues E (Frame f) k x
        continues l n = record { is_next = and_from (sends k (Frame f)) (number (Frame f) == suc x.count) (ev_sends k f ∙ p) n; not_over = packet_over x ∙ l }

        go : (l n c : Bool) → nat_lt (x.last + limit k) f.stamp ≡ l → (slice_index f.bytes 0 == suc x.count) ≡ n → (suc x.count == x.packets) ≡ c
            → AnswersAt E f (answer_by (sender k) f.stamp (if l then steps.Late else if n then (if c then steps.Ends (sessions.grown f.stamp (drop 1 f.bytes) x) else steps.Grows (sessions.grown f.stamp (drop 1 f.bytes) x)) else steps.Stays (sessions.touched f.stamp x)))
        go true n c l m q = ignored_by (λ t. both_ways _ t.not_over (packet_over x ∙ l))
        go false false c l m q = ignored_by (λ t. both_ways _ m (and_parts (sends k (Frame f)) (number (Frame f) == suc x.count) t.is_next).1)
        go false true true l m q = (
          refl,
          (
            k,
            refl,
            whole_from E (Frame f) k (Some x) s x.group (take x.size (x.bytes ++ drop 1 f.bytes))
                (record { session = x; was = refl; continues = continues l m; is_last = eqb-true _ _ q; group_is = refl; bytes_are = refl }),
          ),
        )
        go false true false l m q = (
          inr (k, x.group, (partial_iff E (Frame f) k (Some x) s x.group).0 (record { session = x; was = refl; continues = continues l m; not_last = eqb-false _ _ q; group_is = refl })),
          none_completes (Some x) s (λ g b c. eqb-false _ _ q (subst (λ (y : SessionRecord). suc y.count ≡ y.packets) (is_it c.session c.was) c.is_last)),
        )

-- ---- the session of a pair

abbrev LookedIs : ℕ → ℕ → ℕ → Sessions → Option ℕ → Type 0
LookedIs s d k t None = lookup s d t ≡ None
LookedIs s d k t (Some j) = (i : ℕ) × (j ≡ k + i) × (lookup s d t ≡ at t i)

looked_later : (s d k : ℕ) (p : Option SessionRecord) (t : Sessions) (o : Option ℕ) → lookup s d (p ∷ t) ≡ lookup s d t → LookedIs s d (suc k) t o → LookedIs s d k (p ∷ t) o
looked_later s d k p t None e h = e ∙ h
looked_later s d k p t (Some j) e h = (suc h.0, (let l : j ≡ suc k + h.0 = h.1 in omega arith), e ∙ h.2)

looked_is : (s d k : ℕ) (t : Sessions) → LookedIs s d k t (find_from s d k t)
unfolding find_from lookup
looked_is s d k [] = refl
looked_is s d k (p ∷ t) = cond_both (is_of s d p) _ _ (LookedIs s d k (p ∷ t))
    (λ a. (0, omega arith, cond-true (is_of s d p) p (lookup s d t) a))
    (λ a. looked_later s d k p t (find_from s d (suc k) t) (cond-false (is_of s d p) p (lookup s d t) a) (looked_is s d (suc k) t))

module _ (E : List Event) (f : FrameRecord) (a : OpenMessagesRecord) (h : AreKept E a) where
  packs_broadcast : (s : ℕ) → is_packet (Broadcast s) f ≡ true → AnswersAt E f (told s broadcast_limit (slice_index f.bytes 0) (drop 1 f.bytes) f.stamp (at a.broadcasts s))
  packs_broadcast s p = told_is E f a h (Broadcast s) p (at a.broadcasts s) (h.broadcasts.each s (ltb-true _ _ (packet_facts (Broadcast s) f p).key))

  packs_directed : (s d : ℕ) → is_packet (Directed s d) f ≡ true → AnswersAt E f (told_at (find s d a.directed) (told s directed_limit (slice_index f.bytes 0) (drop 1 f.bytes) f.stamp) a.directed)
  unfolding find
  packs_directed s d p = go (find_from s d 0 a.directed) (looked_is s d 0 a.directed)
    where
      stood : (o : Option SessionRecord) → lookup s d a.directed ≡ o → AnswersAt E f (told s directed_limit (slice_index f.bytes 0) (drop 1 f.bytes) f.stamp o)
      stood o e = told_is E f a h (Directed s d) p o (subst (λ (q : Option SessionRecord). IsOpenOrNone E (Directed s d) q) e (directed_stands E a.directed h.directed s d))

      go : (o : Option ℕ) → LookedIs s d 0 a.directed o → AnswersAt E f (told_at o (told s directed_limit (slice_index f.bytes 0) (drop 1 f.bytes) f.stamp) a.directed)
      go None e = stood None e
      go (Some j) e = stood (at a.directed j) (e.2 ∙ ap (at a.directed) (let z : j ≡ 0 + e.0 = e.1 in let i : e.0 ≡ j = omega arith in i))

  announcement_answer : (k : Key) → is_announcement k f ≡ true → AnswersAt E f answers.Taken
  announcement_answer k p = (inl (k, p), no_packet_no_whole E f a h (λ j. sym (ev_sends j f) ∙ announced_no_packet k j f p))

  control_answer : (b s d g : ℕ) → IsControl b s d g f → AnswersAt E f answers.Ignored
  control_answer b s d g c = ignored E f a h (λ k. sym (ev_announces k f) ∙ no_opening b s d g f c k) (λ k. sym (ev_sends k f) ∙ no_pack b s d g f c k)

  packet_answer : (k : Key) (n : ℕ) (bs : List ℕ) → IsPacking k n bs f → AnswersAt E f (answer_to_packet a (source_of f.id) f.stamp k n bs)
  packet_answer (Broadcast s) n bs c = subst (λ (o : answers.Outcome). AnswersAt E f o) (λ i. told (sym (packet_facts (Broadcast s) f c.packs_it).source i) broadcast_limit (sym c.number_is i) (sym c.data_are i) f.stamp (at a.broadcasts s)) (packs_broadcast s c.packs_it)
  packet_answer (Directed s d) n bs c = subst (λ (o : answers.Outcome). AnswersAt E f o) (λ i. told_at (find s d a.directed) (told (sym (packet_facts (Directed s d) f c.packs_it).source i) directed_limit (sym c.number_is i) (sym c.data_are i) f.stamp) a.directed) (packs_directed s d c.packs_it)

  answer_is : (r : Option Signal) → Facts f r → AnswersAt E f (answer a f r)
  unfolding answer
  answer_is None c = ignored E f a h c.no_announcement c.no_packet
  answer_is (Some (BroadcastAnnounce n p g)) c = announcement_answer (Broadcast (source_of f.id)) c.announces_it
  answer_is (Some (RequestToSend n p most g)) c = announcement_answer (Directed (source_of f.id) (destination_of f.id)) c.announces_it
  answer_is (Some (ClearToSend count next g)) c = control_answer clear_to_send _ _ g c
  answer_is (Some (Acknowledgment n p g)) c = control_answer acknowledgment _ _ g c
  answer_is (Some (Abort reason g)) c = control_answer connection_abort _ _ g c
  answer_is (Some (Packet n bs)) c = packet_answer (key_of f) n bs c

  pub answers_at : AnswersAt E f (answer a f (said_by f))
  answers_at = answer_is (said_by f) (read_is f)
