-- What every answered history says of broadcasts.
use Rattle.j39_node.proofs.Common.{[], ◌++◌, ◌-◌, ◌<◌, ◌∙◌, ◌∷◌, ◌≡◌, ◌≤◌, address_after, answer_to_broadcast, ap, AreAnswered, arith, At, Bool, Broadcast, broadcast_end, broadcast_from, broadcasts, Call, Done, Ending, false, first_frames, frame_of, FrameRecord, is_lost, is_open, is_packet, length, List, ltb-true, Message, MessageRecord, nat_lt, None, Ok, open_broadcast, Option, packets, packets_of, pause, refl, slice_get, Some, step, subst, suc, sym, TakeBroadcastEnded, TakeFrame, told_broadcasts, true, Who, Withdrawn, ℕ, ltb-false, or_parts, nat_eq}
use Rattle.j39_node.proofs.QueueLemmas.{length_one_more, get_last}
use Rattle.j39_node.proofs.SoundLemmas.{FrameCase, PacketCase, frame_case, packet_case, packet_taken, packets_is}
use Rattle.j39_node.proofs.SoundLemmas.FrameCase.{packs}
use Rattle.j39_node.proofs.AnswerCases.{broadcast_accepts}
use Rattle.j39_node.proofs.KindLemmas.{packs_it}

-- ---- how a broadcast ended

pub data LaneEnd (o : Option (ℕ × MessageRecord)) (i : ℕ) (lost : Bool) (x : ℕ × Ending) : Type 0 where
  complete : (m : MessageRecord) → o ≡ Some (x.0, m) → packets_of m < i → x.1 ≡ Done → LaneEnd o i lost x
  broken : (m : MessageRecord) → o ≡ Some (x.0, m) → i ≤ packets_of m → lost ≡ true → x.1 ≡ Withdrawn → LaneEnd o i lost x

pub ended_one : {o : Option (ℕ × MessageRecord)} {i : ℕ} {lost : Bool} {x : ℕ × Ending} → LaneEnd o i lost x → (m : MessageRecord) × (o ≡ Some (x.0, m))
ended_one (complete m f l d) = (m, f)
ended_one (broken m f l a d) = (m, f)

pub lane_end : (o : Option (ℕ × MessageRecord)) (i : ℕ) (lost : Bool) (x : ℕ × Ending) → Some x ≡ broadcast_end o i lost → LaneEnd o i lost x
lane_end None i lost x e = absurd (cc)
lane_end (Some y) i lost x e = go (nat_lt (packets_of y.1) i) lost refl refl e
  where
    same : x.0 ≡ y.0 → Some y ≡ Some (x.0, y.1)
    same z = ap (λ (k : ℕ). (let u : Option (ℕ × MessageRecord) = Some (k, y.1) in u)) (sym z)

    go : (b l : Bool) → nat_lt (packets_of y.1) i ≡ b → lost ≡ l → Some x ≡ Rattle.j39_node.specs.Is.ending_of b l y.0 → LaneEnd (Some y) i lost x
    go true l p q r = let z : x ≡ (y.0, Done) = cc in complete y.1 (same (ap (λ (u : ℕ × Ending). u.0) z)) (ltb-true _ _ p) (ap (λ (u : ℕ × Ending). u.1) z)
    go false true p q r =
        let z : x ≡ (y.0, Withdrawn) = cc in broken y.1 (same (ap (λ (u : ℕ × Ending). u.0) z)) (ltb-false _ _ p) q (ap (λ (u : ℕ × Ending). u.1) z)
    go false false p q r = absurd (cc)

-- ---- the open broadcast

-- it is the last that was accepted, and what was taken since are its first frames
pub record Opened (w : Who) (told : ℕ) (all : List MessageRecord) (taken : List Message) (x : ℕ × MessageRecord) : Type 0 where
  pub token : x.0 ≡ told
  pub last : slice_get all x.0 ≡ Some x.1
  pub count : suc x.0 ≡ length all
  pub source : x.1.source ≡ w.address
  pub frames : taken ≡ first_frames x.1 (length taken)
  pub within : length taken ≤ suc (packets_of x.1)

abbrev pub Laned : Who → ℕ → List MessageRecord → List Message → Option (ℕ × MessageRecord) → Type 0
Laned w told all taken None = told ≡ length all
Laned w told all taken (Some x) = Opened w told all taken x

pub closed : (w : Who) (told : ℕ) (all : List MessageRecord) (taken : List Message) (o : Option (ℕ × MessageRecord)) → Laned w told all taken o
    → is_open o ≡ false → told ≡ length all
closed w told all taken o e f = grind (arith, f)

pub stands_open : (w : Who) (told : ℕ) (all : List MessageRecord) (taken : List Message) (o : Option (ℕ × MessageRecord)) → Laned w told all taken o
    → is_open o ≡ true → length all ≡ suc told
stands_open w told all taken o e f = grind (arith, f)

pub opened_by : (w : Who) (told : ℕ) (all : List MessageRecord) (taken : List Message) (o : Option (ℕ × MessageRecord)) (x : ℕ × MessageRecord)
    → Laned w told all taken o → o ≡ Some x → Opened w told all taken x
opened_by w told all taken o x h e = subst (Laned w told all taken) e h

grows : (w : Who) (told : ℕ) (all : List MessageRecord) (xs : List Message) (m : Message) (o : Option (ℕ × MessageRecord)) (left : ℕ)
    → PacketCase o (length xs) left m → Laned w told all xs o → Laned w told all (xs ++ m ∷ []) o
grows w told all xs m None left p h = absurd (let z = p.is in cc)
grows w told all xs m (Some x) left p h =
    let z = p.is in
    let same : p.message ≡ x.1 = cc in
    record {
      token = h.token;
      last = h.last;
      count = h.count;
      source = h.source;
      frames = ap (λ ys. ys ++ m ∷ []) h.frames
          ∙ (ap (λ (y : Message). first_frames x.1 (length xs) ++ y ∷ []) (p.frame ∙ ap (λ (r : MessageRecord). frame_of r (length xs)) same)
          ∙ ap (first_frames x.1) (sym (length_one_more xs m)));
      within = (let a = p.within in let b = length_one_more xs m in let d = ap packets_of same in omega (arith, a, b, d));
    }

-- a frame is taken
lane_frame : (w : Who) (H : List Call) (now : ℕ) (f : FrameRecord) → AreAnswered w H → FrameCase w H now f
    → Laned w (length (told_broadcasts H)) (broadcasts w H) (packets H) (open_broadcast w H)
    → Laned w (length (told_broadcasts H)) (broadcasts w H) (packets (At now (TakeFrame (Some f)) ∷ H)) (open_broadcast w H)
lane_frame w H now f right case h = go case
  where
    same : is_packet f ≡ false → Laned w (length (told_broadcasts H)) (broadcasts w H) (packets (At now (TakeFrame (Some f)) ∷ H)) (open_broadcast w H)
    same e = subst (λ xs. Laned w (length (told_broadcasts H)) (broadcasts w H) xs (open_broadcast w H)) (sym (packets_is H now f false e)) h

    go : FrameCase w H now f → Laned w (length (told_broadcasts H)) (broadcasts w H) (packets (At now (TakeFrame (Some f)) ∷ H)) (open_broadcast w H)
    go (packs m o k n g e) =
        let is = packet_taken f now m (open_broadcast w H) (length (packets H)) (pause H - step H now) e g in
        subst (λ xs. Laned w (length (told_broadcasts H)) (broadcasts w H) xs (open_broadcast w H))
        (sym (packets_is H now f true is.2 ∙ ap (λ (y : ℕ × Message). packets H ++ y.1 ∷ []) e))
        (grows w (length (told_broadcasts H)) (broadcasts w H) (packets H) m (open_broadcast w H) (pause H - step H now)
        (packet_case (open_broadcast w H) (length (packets H)) (pause H - step H now) m g) h)
    go case = same (packs_it w H now f right case)

-- a broadcast is accepted
lane_opens : (w : Who) (H : List Call) (now group k : ℕ) (bytes : List ℕ) → Ok k ≡ answer_to_broadcast w H now group bytes
    → Laned w (length (told_broadcasts H)) (broadcasts w H) (packets H) (open_broadcast w H)
    → Opened w (length (told_broadcasts H)) (broadcasts w H ++ broadcast_from w group bytes ∷ []) [] (k, broadcast_from w group bytes)
lane_opens w H now group k bytes e h =
    let x = broadcast_accepts w H now group k bytes e in
    let n = x.3 in
    let t = closed w (length (told_broadcasts H)) (broadcasts w H) (packets H) (open_broadcast w H) h (or_parts _ _ (or_parts (nat_eq w.transfers 0) _ x.2).1).0 in
    record {
      token = n ∙ sym t;
      last = ap (slice_get (broadcasts w H ++ broadcast_from w group bytes ∷ [])) n ∙ get_last (broadcasts w H) (broadcast_from w group bytes);
      count = ap suc n ∙ sym (length_one_more (broadcasts w H) (broadcast_from w group bytes));
      source = refl;
      frames = refl;
      within = omega arith;
    }

-- its end is told
lane_closes : (w : Who) (H : List Call) (x : ℕ × Ending) → LaneEnd (open_broadcast w H) (length (packets H)) (is_lost (address_after w H)) x
    → Laned w (length (told_broadcasts H)) (broadcasts w H) (packets H) (open_broadcast w H)
    → length (told_broadcasts H ++ x ∷ []) ≡ length (broadcasts w H)
lane_closes w H x c h =
    let e = ended_one c in
    let o = opened_by w _ _ _ (open_broadcast w H) (x.0, e.0) h e.1 in
    let a = o.token in let b = o.count in let n = length_one_more (told_broadcasts H) x in omega (arith, a, b, n)

pub laned : (w : Who) (H : List Call) → AreAnswered w H → Laned w (length (told_broadcasts H)) (broadcasts w H) (packets H) (open_broadcast w H)
laned w [] e = refl
laned w (At now (TakeFrame (Some f)) ∷ H) e = lane_frame w H now f e.0 (frame_case w H now f e.1) (laned w H e.0)
laned w (At now (Broadcast group bytes (Ok k)) ∷ H) e = lane_opens w H now group k bytes e.1 (laned w H e.0)
laned w (TakeBroadcastEnded (Some x) ∷ H) e =
    lane_closes w H x (lane_end (open_broadcast w H) (length (packets H)) (is_lost (address_after w H)) x e.1) (laned w H e.0)
laned w (call ∷ H) e = laned w H e.0
