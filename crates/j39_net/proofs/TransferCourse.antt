-- The course of the transfers of a member to one address.
use Rattle.std.proofs.Common.{[], if◌then◌else◌, ◌++◌, ◌<◌, ◌^◌, ◌∙◌, ◌∷◌, ◌≡◌, ◌≢◌, ◌≤◌, ◌⊎◌, ap, arith, Bool, eq-eqb, false, filter, inl, inr, List, map, nat_eq, nat_lt, None, not, Ok, Option, refl, slice_index, Some, subst, sym, true, ℕ, ◌&&◌, append-nil, option_map, eqb-true}
use Rattle.std.proofs.lemmas.Bool.{and_parts, cases_Bool, cases_eq, ne_eqb}
use Rattle.std.proofs.lemmas.Option.{none-some, same_Some}
use Rattle.std.proofs.lemmas.List.{map-append}
use Rattle.std.proofs.lemmas.List.Elements.{filter-append}
use Rattle.std.specs.List.{All}
use Rattle.j39_frame.specs.Frame.{FrameRecord}
use Rattle.j39_frame.specs.Identifier.{destination_of, pgn_of, ps_of}
use Rattle.j39_transport.specs.Cutting.{packet_data}
use Rattle.j39_transport.specs.Message.{IsLong, MessageRecord, packets_of}
use Rattle.j39_transport.specs.Sending.{request_of}
use Rattle.j39_transport.specs.Signals.{Packet, said_between}
use Rattle.j39_node.proofs.AnswerCases.{transfer_accepts}
use Rattle.j39_node.proofs.ChangeLemmas.{Change, change, Sent, sent_case}
use Rattle.j39_node.proofs.MoveLemmas.{heard_open_same, moved_open, none_first}
use Rattle.j39_node.proofs.OpenLemmas.{begun_to, heard_open, open_begun}
use Rattle.j39_node.proofs.PacketLemmas.{goes_there}
use Rattle.j39_node.proofs.TransferEnds.{between}
use Rattle.j39_node.proofs.Tests.{not_both}
use Rattle.j39_node.proofs.PortLemmas.{left_same, sent_same}
use Rattle.j39_node.proofs.SoundLemmas.{frame_case}
use Rattle.j39_node.specs.History.{address_after, broadcast_from, Call, can_broadcast, frames, is_lost, is_some, Message, message_of, Who}
use Rattle.j39_node.specs.History.Call.{At}
use Rattle.j39_node.specs.History.Act.{Hear, TakeFrame, Transfer}
use Rattle.j39_node.specs.Is.{AreAnswered}
use Rattle.j39_node.specs.Moves.{begins as opens, is_move_to, moves}
use Rattle.j39_node.specs.Reception.{holder, is_move}
use Rattle.j39_node.specs.Transfers.{clock_at, move, open_to, transfers}
use Rattle.j39_transfers.specs.Transfers.{leaves_in, sends_in, to as to_whom, Transfer as Running}
use Rattle.j39_transfers.proofs.StepLemmas.{IsSame}
use Rattle.j39_transport.specs.Sending.{new_sender}
use Rattle.j39_net.proofs.CourseLemmas.{all_front, all_last, long_by}
use Rattle.j39_net.proofs.MoveCourse.{beside_by, IsBeside, kind_of, MoveKind, not_moved, says_packet, says_request}
use Rattle.j39_net.proofs.PartLemmas.{part_longer, part_push}
use Rattle.j39_net.specs.Net.{IsPart, messages_to}

-- these frames request these messages to d, one after the other, and behind each request stand packets of it alone
pub data Course (a d : ℕ) : List MessageRecord → List FrameRecord → Type 0 where
  none : Course a d [] []
  beside : (A : List MessageRecord) (fs : List FrameRecord) (f : FrameRecord) → IsBeside a d f → Course a d A fs → Course a d A (fs ++ f ∷ [])
  begins : (A : List MessageRecord) (fs : List FrameRecord) (f : FrameRecord) (b : MessageRecord) → IsLong b → b.source ≡ a → said_between a d f ≡ Some (request_of b)
      → Course a d A fs → Course a d (A ++ b ∷ []) (fs ++ f ∷ [])
  packs : (A : List MessageRecord) (fs : List FrameRecord) (f : FrameRecord) (b : MessageRecord) (i : ℕ) → said_between a d f ≡ Some (Packet i (packet_data b.bytes i)) → i ≤ packets_of b
      → Course a d (A ++ b ∷ []) fs → Course a d (A ++ b ∷ []) (fs ++ f ∷ [])

-- the open transfer isn't requested yet, or is the last that was
abbrev pub IsOpenAt : List MessageRecord → List MessageRecord → List Message → MessageRecord → Type 0
IsOpenAt all A taken b =
    ((taken ≡ []) × IsLong b × (bs : List MessageRecord) × (all ≡ bs ++ b ∷ []) × IsPart A bs) ⊎ ((taken ≢ []) × (before : List MessageRecord) × (A ≡ before ++ b ∷ []))

pub record Coursed (w : Who) (d : ℕ) (H : List Call) : Type 0 where
  pub asked : List MessageRecord
  pub course : Course w.address d asked (frames H)
  pub part : IsPart asked (messages_to d (transfers w H))
  pub current : (t : Running) → open_to w d H ≡ Some t → IsOpenAt (messages_to d (transfers w H)) asked (moves w d H) t.sender.message

-- it was open before
record Was (o : Option Running) (t : Running) : Type 0 where
  running : Running
  is : o ≡ Some running
  message : t.sender.message ≡ running.sender.message

was_map : (g : Running → Running) (o : Option Running) (t : Running) → ((x : Running) → IsSame x.sender (g x).sender) → option_map g o ≡ Some t → Was o t
was_map g None t k e = absurd (cc)
was_map g (Some u) t k e = record { running = u; is = refl; message = ap (λ (v : Running). v.sender.message) (sym (same_Some (g u) t e)) ∙ (k u).1 }

was_more : (w : Who) (d : ℕ) (H : List Call) (call : Call) (o q : Option Running) → Change w d H call o q → opens d call ≡ false → (t : Running) → q ≡ Some t → Was o t
was_more w d H call o q (Change.hears now f x) b t e = was_map (heard_open (is_lost (address_after w (At now (Hear f) ∷ H))) (holder w (At now (Hear f) ∷ H)) f (clock_at w H now)) x t
    (heard_open_same (is_lost (address_after w (At now (Hear f) ∷ H))) (holder w (At now (Hear f) ∷ H)) f (clock_at w H now)) e
was_more w d H call o q (Change.claims now f x c m) b t e = was_map (leaves_in None (holder w (At now (TakeFrame (Some f)) ∷ H)) (clock_at w H now)) x t
    (left_same (holder w (At now (TakeFrame (Some f)) ∷ H)) (clock_at w H now)) e
was_more w d H call o q (Change.sends now f s z m) b t e = was_map (sends_in (clock_at w H now)) (Some s.running) t (sent_same (clock_at w H now)) e
was_more w d H call o q (Change.starts now priority group to k bytes i z) b t e = absurd (not_both _ b (eq-eqb to d z))
was_more w d H call o q (Change.ends x r z) b t e = absurd (cc)
was_more w d H call o q (Change.stays c x b2 m n i u v) b t e = record { running = t; is = e; message = refl }

module _ (w : Who) (d : ℕ) where
  was : (H : List Call) (call : Call) → AreAnswered w (call ∷ H) → opens d call ≡ false → (t : Running) → open_to w d (call ∷ H) ≡ Some t → Was (open_to w d H) t
  was H call right b t e = was_more w d H call (open_to w d H) (open_to w d (call ∷ H)) (change w d call H right) b t e

  goes_on : (H : List Call) (call : Call) → AreAnswered w (call ∷ H) → opens d call ≡ false → frames (call ∷ H) ≡ frames H → transfers w (call ∷ H) ≡ transfers w H → moves w d (call ∷ H) ≡ moves w d H
      → Coursed w d H → Coursed w d (call ∷ H)
  goes_on H call right b fs ts ms c = record {
    asked = c.asked;
    course = subst (Course w.address d c.asked) (sym fs) c.course;
    part = subst (λ ts. IsPart c.asked (messages_to d ts)) (sym ts) c.part;
    current = λ t e.
        let u = was H call right b t e in
        subst (λ ts. IsOpenAt (messages_to d ts) c.asked (moves w d (call ∷ H)) t.sender.message) (sym ts)
        (subst (λ xs. IsOpenAt (messages_to d (transfers w H)) c.asked xs t.sender.message) (sym ms)
        (subst (IsOpenAt (messages_to d (transfers w H)) c.asked (moves w d H)) (sym u.message) (c.current u.running u.is)));
  }

  -- ---- a frame is taken

  -- one that isn't of the transfer to it
  not_to : (H : List Call) (f : FrameRecord) → d < 254 → is_move_to w d H f ≡ false → IsBeside w.address d f
  not_to H f small e = go (cases_Bool (is_move w H f))
    where
      there : ps_of f.id ≡ d → (group : ℕ) → group < 2 ^ 16 → pgn_of f.id ≡ group → destination_of f.id ≡ Some (ps_of f.id) → is_some (destination_of f.id) d ≡ true
      there p group l g k = ap (λ (o : Option ℕ). is_some o d) k ∙ eq-eqb (ps_of f.id) d p

      go : (is_move w H f ≡ true) ⊎ (is_move w H f ≡ false) → IsBeside w.address d f
      go (inr n) = not_moved w H f d small n w.address
      go (inl m) =
          let n : is_some (destination_of f.id) d ≡ false = sym (ap (λ (b : Bool). b && is_some (destination_of f.id) d) m) ∙ e in
          beside_by w.address d f
          (λ p g z. not_both _ n (there p 60416 (omega arith) g (goes_there f 60416 (omega arith) g)))
          (λ p g. not_both _ n (there p 60160 (omega arith) g (goes_there f 60160 (omega arith) g)))

  frame_beside : (H : List Call) (now : ℕ) (f : FrameRecord) → d < 254 → AreAnswered w (At now (TakeFrame (Some f)) ∷ H) → is_move_to w d H f ≡ false → Coursed w d H → Coursed w d (At now (TakeFrame (Some f)) ∷ H)
  frame_beside H now f small right e c = record {
    asked = c.asked;
    course = Course.beside c.asked (frames H) f (not_to H f small e) c.course;
    part = c.part;
    current = λ t o.
        let u = was H (At now (TakeFrame (Some f))) right refl t o in
        subst (λ (b : Bool). IsOpenAt (messages_to d (transfers w H)) c.asked (if b then moves w d H ++ message_of f ∷ [] else moves w d H) t.sender.message) (sym e)
        (subst (IsOpenAt (messages_to d (transfers w H)) c.asked (moves w d H)) (sym u.message) (c.current u.running u.is));
  }

  module _ (H : List Call) (now : ℕ) (f : FrameRecord) (right : AreAnswered w (At now (TakeFrame (Some f)) ∷ H)) (is : is_move_to w d H f ≡ true) (s : Sent w H now f) (to : to_whom s.running ≡ d) where
    abbrev t : Running
    t = s.running

    abbrev b : MessageRecord
    b = t.sender.message

    abbrev K : List Call
    K = At now (TakeFrame (Some f)) ∷ H

    taken : moves w d K ≡ moves w d H ++ message_of f ∷ []
    taken = ap (λ (t : Bool). if t then moves w d H ++ message_of f ∷ [] else moves w d H) is

    was_it : open_to w d H ≡ Some t
    was_it = ap (λ (n : ℕ). open_to w n H) (sym to) ∙ s.is

    same : (u : Running) → open_to w d K ≡ Some u → u.sender.message ≡ b
    same u e =
        let v = was H (At now (TakeFrame (Some f))) right refl u e in
        v.message ∙ ap (λ (r : Running). r.sender.message) (same_Some v.running t (sym v.is ∙ was_it))

    some : moves w d K ≢ []
    some e = some_pushed (moves w d H) (sym taken ∙ e)
      where
        some_pushed : (xs : List Message) → xs ++ message_of f ∷ [] ≡ [] → ⊥
        some_pushed [] e = absurd (cc)
        some_pushed (x ∷ xs) e = absurd (cc)

    -- of it so many were requested, the last of them this
    moved : (A : List MessageRecord) → Course w.address d (A ++ b ∷ []) (frames K) → IsPart (A ++ b ∷ []) (messages_to d (transfers w H)) → Coursed w d K
    moved A c p = record {
      asked = A ++ b ∷ [];
      course = c;
      part = p;
      current = λ u e. inr (some, A, ap (λ (m : MessageRecord). A ++ m ∷ []) (sym (same u e)));
    }

    to_it : w.address < 254 → d < 254 → b.source ≡ w.address → message_of f ≡ move d b s.signal → (c : Coursed w d H) → MoveKind b (moves w d H) s.signal
        → IsOpenAt (messages_to d (transfers w H)) c.asked (moves w d H) b → Coursed w d K
    to_it l m own frame c (MoveKind.requests n z) (inl o) =
        moved c.asked
        (Course.begins c.asked (frames H) f b o.1 own (says_request w.address d b f l m o.1 own (frame ∙ ap (move d b) z)) c.course)
        (subst (IsPart (c.asked ++ b ∷ [])) (sym o.3) (part_push c.asked o.2 b o.4))
    to_it l m own frame c (MoveKind.requests n z) (inr o) = absurd (o.0 n)
    to_it l m own frame c (MoveKind.packs i n k z) (inl o) = absurd (n o.0)
    to_it l m own frame c (MoveKind.packs i n k z) (inr o) =
        moved o.1
        (Course.packs o.1 (frames H) f b i (says_packet w.address d i b f l m own (frame ∙ ap (move d b) z)) k (subst (λ A. Course w.address d A (frames H)) o.2 c.course))
        (subst (λ A. IsPart A (messages_to d (transfers w H))) o.2 c.part)
    to_it l m own frame c (MoveKind.aborts reason n z) (inl o) = absurd (n o.0)
    to_it l m own frame c (MoveKind.aborts reason n z) (inr o) =
        moved o.1
        (Course.beside (o.1 ++ b ∷ []) (frames H) f
        (beside_by w.address d f (λ p g y. absurd (let x = ap (λ bs. slice_index bs 0) (ap (λ (m : Message). m.bytes) (frame ∙ ap (move d b) z)) in omega (arith, x, y)))
        (λ p g. absurd (let x = ap (λ (m : Message). m.group) (frame ∙ ap (move d b) z) in omega (arith, x, g))))
        (subst (λ A. Course w.address d A (frames H)) o.2 c.course))
        (subst (λ A. IsPart A (messages_to d (transfers w H))) o.2 c.part)

    frame_moved : w.address < 254 → d < 254 → Coursed w d H → Coursed w d K
    frame_moved l m c =
        to_it l m (between w d H t right.0 was_it).source (s.frame ∙ ap (λ (n : ℕ). move n b s.signal) to) c
        (kind_of t (clock_at w H now) (moves w d H) s.signal (moved_open w d H t right.0 was_it) s.said) (c.current t was_it)

  taken_one : (H : List Call) (now : ℕ) (f : FrameRecord) → w.address < 254 → d < 254 → AreAnswered w (At now (TakeFrame (Some f)) ∷ H) → Coursed w d H
      → (is_move_to w d H f ≡ true) ⊎ (is_move_to w d H f ≡ false) → Coursed w d (At now (TakeFrame (Some f)) ∷ H)
  taken_one H now f l m right c (inl e) =
      let p = and_parts (is_move w H f) (is_some (destination_of f.id) d) e in
      let s = sent_case w H now f right.0 (frame_case w H now f right.1) p.0 in
      frame_moved H now f right e s (eqb-true _ _ (sym (ap (λ (x : Message). is_some x.destination d) s.frame) ∙ p.1)) l m c
  taken_one H now f l m right c (inr e) = frame_beside H now f m right e c

  -- ---- one is accepted

  messages_more : (T : List (ℕ × MessageRecord)) (to : ℕ) (b : MessageRecord) → messages_to d (T ++ (to, b) ∷ []) ≡ messages_to d T ++ messages_to d ((to, b) ∷ [])
  messages_more T to b =
      ap (map (λ (x : ℕ × MessageRecord). x.1)) (filter-append (λ (x : ℕ × MessageRecord). nat_eq x.0 d) T ((to, b) ∷ []))
      ∙ map-append (λ (x : ℕ × MessageRecord). x.1) (filter (λ (x : ℕ × MessageRecord). nat_eq x.0 d) T) (filter (λ (x : ℕ × MessageRecord). nat_eq x.0 d) ((to, b) ∷ []))

  one_more : (to : ℕ) (b : MessageRecord) → to ≡ d → messages_to d ((to, b) ∷ []) ≡ b ∷ []
  one_more to b e = ap (λ (t : Bool). map (λ (x : ℕ × MessageRecord). x.1) (if t then (to, b) ∷ [] else [])) (eq-eqb to d e)

  none_more : (T : List (ℕ × MessageRecord)) (to : ℕ) (b : MessageRecord) → to ≢ d → messages_to d T ++ messages_to d ((to, b) ∷ []) ≡ messages_to d T
  none_more T to b n =
      ap (λ (t : Bool). messages_to d T ++ map (λ (x : ℕ × MessageRecord). x.1) (if t then (to, b) ∷ [] else [])) (ne_eqb to d n) ∙ append-nil (messages_to d T)

  accepted_one : (H : List Call) (now priority group to k : ℕ) (bytes : List ℕ) → AreAnswered w (At now (Transfer priority group to bytes (Ok k)) ∷ H) → IsLong (broadcast_from w group bytes) → Coursed w d H
      → Coursed w d (At now (Transfer priority group to bytes (Ok k)) ∷ H)
  unfolding new_sender
  accepted_one H now priority group to k bytes right long c =
      let b = broadcast_from w group bytes in
      record {
        asked = c.asked;
        course = c.course;
        part = subst (IsPart c.asked) (sym (messages_more (transfers w H) to b)) (part_longer c.asked (messages_to d (transfers w H)) (messages_to d ((to, b) ∷ [])) c.part);
        current = λ t i. elim (cases_eq to d) [
          | inl z ↦
              let h = open_begun w now priority group to k bytes H right.0 right.1 in
              let y = same_Some (begun_to w H now priority group to bytes) t (sym h.1 ∙ (ap (λ (n : ℕ). open_to w n (At now (Transfer priority group to bytes (Ok k)) ∷ H)) z ∙ i)) in
              subst (λ (v : List Message). IsOpenAt (messages_to d (transfers w H ++ (to, b) ∷ [])) c.asked v t.sender.message) (sym (ap (λ (q : Bool). if q then [] else moves w d H) (eq-eqb to d z)))
              (subst (IsOpenAt (messages_to d (transfers w H ++ (to, b) ∷ [])) c.asked []) (ap (λ (v : Running). v.sender.message) y)
              (inl (refl, long, messages_to d (transfers w H), messages_more (transfers w H) to b ∙ ap (λ xs. messages_to d (transfers w H) ++ xs) (one_more to b z), c.part)))
          | inr z ↦
              let u = was H (At now (Transfer priority group to bytes (Ok k))) right (ne_eqb to d z) t i in
              subst (λ (v : List Message). IsOpenAt (messages_to d (transfers w H ++ (to, b) ∷ [])) c.asked v t.sender.message) (sym (ap (λ (q : Bool). if q then [] else moves w d H) (ne_eqb to d z)))
              (subst (λ (v : List MessageRecord). IsOpenAt v c.asked (moves w d H) t.sender.message) (sym (messages_more (transfers w H) to b ∙ none_more (transfers w H) to b z))
              (subst (IsOpenAt (messages_to d (transfers w H)) c.asked (moves w d H)) (sym u.message) (c.current u.running u.is)))
        ];
      }

  pub coursed : (H : List Call) → w.address < 254 → d < 254 → All (λ (x : ℕ × MessageRecord). x.1.pgn < 2 ^ 18) (transfers w H) → AreAnswered w H → Coursed w d H
  coursed [] l m fits right = record { asked = []; course = Course.none; part = tt; current = λ t e. absurd (none-some t (sym (none_first w d right) ∙ e)) }
  coursed (At now (Hear f) ∷ H) l m fits right = goes_on H (At now (Hear f)) right refl refl refl refl (coursed H l m fits right.0)
  coursed (At now (TakeFrame (Some f)) ∷ H) l m fits right = taken_one H now f l m right (coursed H l m fits right.0) (cases_Bool (is_move_to w d H f))
  coursed (At now (Transfer priority group to bytes (Ok k)) ∷ H) l m fits right =
      let b = broadcast_from w group bytes in
      accepted_one H now priority group to k bytes right
      (long_by w group bytes l (all_last (λ (x : ℕ × MessageRecord). x.1.pgn < 2 ^ 18) (transfers w H) (to, b) fits)
      (and_parts (can_broadcast group bytes) (nat_lt to 254 && not (nat_eq to w.address))
      (and_parts (nat_lt priority 8) (can_broadcast group bytes && (nat_lt to 254 && not (nat_eq to w.address))) (transfer_accepts w H now priority group to k bytes right.1).1).1).0)
      (coursed H l m (all_front (λ (x : ℕ × MessageRecord). x.1.pgn < 2 ^ 18) (transfers w H) ((to, b) ∷ []) fits) right.0)
  coursed (call ∷ H) l m fits right = goes_on H call right refl refl refl refl (coursed H l m fits right.0)
