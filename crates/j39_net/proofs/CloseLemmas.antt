-- To a driver that takes one frame at least in each g those of a broadcast are close.
use Rattle.std.proofs.Common.{[], append-nil, if◌then◌else◌, ◌||◌, ◌*◌, ◌-◌, ◌++◌, ◌+◌, ◌<◌, ◌∙◌, ◌∷◌, ◌≡◌, ◌≤◌, ◌⊎◌, ap, arith, Bool, eq-eqb, false, filter, inl, inr, length, length-append, List, nat_eq, nat_le, None, Ok, Option, refl, Some, subst, sym, true, ℕ}
use Rattle.std.proofs.lemmas.Bool.{and_from, cases_Bool, cases_lt, leb-false, or_parts}
use Rattle.std.proofs.lemmas.List.Elements.{filter-append}
use Rattle.j39_frame.specs.Frame.{FrameRecord}
use Rattle.j39_transport.specs.Message.{MessageRecord, packets_of}
use Rattle.j39_node.proofs.LaneLaws.{held_then, overdue_goes_by, Packed, packed_by}
use Rattle.j39_node.proofs.PromptLaws.{Fate, later_on, no_packet}
use Rattle.j39_node.proofs.SoundLemmas.{frame_case, FrameCase, held_older, none_next, packets_is, pause_is, stamped_by}
use Rattle.j39_node.proofs.SteadyLaws.{few_turns, held_holds, steers, turn_more, turn_most, turn_time, turns_then}
use Rattle.j39_node.proofs.Tests.{not_both}
use Rattle.std.specs.Option.{is_some as is_there}
use Rattle.j39_node.specs.History.{address_after, broadcast_from, broadcasts, Call, frames, holds, is_acknowledgment, is_claim, is_held, is_left, is_lost, is_packet, Message, moment, open_broadcast, packets, pause, step, turns, Who}
use Rattle.j39_node.specs.History.Call.{At, TakeBroadcastEnded}
use Rattle.j39_node.specs.History.Act.{Broadcast, TakeFrame}
use Rattle.j39_node.specs.Is.{AreAnswered, is_overdue, IsAnswered, next_other, packet_by}
use Rattle.j39_node.specs.Prompt.{claims_anew, IsSteady, since_take}
use Rattle.j39_net.proofs.SpanLemmas.{AreClose, fewer_accepted, moment_before}
use Rattle.j39_net.specs.Net.{InTime}

close_push : (t : ℕ) (us : List FrameRecord) (x y : FrameRecord) → AreClose t (us ++ x ∷ []) → y.stamp ≤ x.stamp + t → AreClose t ((us ++ x ∷ []) ++ y ∷ [])
close_push t [] x y h l = (l, tt)
close_push t (u ∷ []) x y h l = (h.0, (l, tt))
close_push t (u ∷ v ∷ us) x y h l = (h.0, close_push t (v ∷ us) x y h.1 l)

not_lost : (w : Who) (H : List Call) (now : ℕ) → holds w H now ≡ true → is_lost (address_after w H) ≡ true → ⊥
not_lost w H now h l = grind (arith, h, l)

due : (w : Who) (H : List Call) (now : ℕ) → holds w H now ≡ true → is_overdue w H now ≡ true → is_there (next_other w H now) ≡ true
due w H now e f = grind (arith, e, f)

module _ (w : Who) (B : List Call) (g k : ℕ) (m : MessageRecord) where
  -- since the frame z its time runs
  abbrev Runs : FrameRecord → List Call → Type 0
  Runs z later = (z.stamp ≤ moment (later ++ B)) × (moment (later ++ B) ≤ z.stamp + 150000 + (turn_time g (turns (later ++ B)) + since_take later B)) × (pause (later ++ B) ≤ (z.stamp + 150000) - moment (later ++ B))

  abbrev IsOver : List Call → Type 0
  IsOver later = packets_of m < length (packets (later ++ B))

  record Close (later : List Call) : Type 0 where
    close : AreClose (150000 + 3 * g) (filter is_packet (frames later))
    last : (filter is_packet (frames later) ≡ []) ⊎ ((us : List FrameRecord) × (z : FrameRecord) × (filter is_packet (frames later) ≡ us ++ z ∷ [])
        × Fate (address_after w (later ++ B)) (IsOver later) (Runs z later))

  runs_on : (z : FrameRecord) (call : Call) (later : List Call) → moment (later ++ B) ≤ moment (call ∷ later ++ B) → pause (call ∷ later ++ B) ≡ pause (later ++ B) - step (later ++ B) (moment (call ∷ later ++ B))
      → since_take (call ∷ later) B ≡ since_take later B + step (later ++ B) (moment (call ∷ later ++ B)) → turns (call ∷ later ++ B) ≡ turns (later ++ B) → Runs z later → Runs z (call ∷ later)
  runs_on z call later l p v u r =
      let a = r.0 in let b = r.1 in let c = r.2 in let t = ap (turn_time g) u in (omega (arith, a, l), omega (arith, b, l, v, t), omega (arith, c, l, p))

  -- no frame of it is taken
  beside : (call : Call) (later : List Call) → claims_anew call ≡ false → filter is_packet (frames (call ∷ later)) ≡ filter is_packet (frames later) → packets (call ∷ later ++ B) ≡ packets (later ++ B)
      → ((z : FrameRecord) → is_held (address_after w (later ++ B)) ≡ true → Runs z later → IsOver (call ∷ later) ⊎ Runs z (call ∷ later)) → Close later → Close (call ∷ later)
  beside call later n e p k c = record {
    close = subst (AreClose (150000 + 3 * g)) (sym e) c.close;
    last = elim c.last [
      | inl i ↦ inl (e ∙ i)
      | inr i ↦ inr (i.0, i.1, e ∙ i.2, later_on w (later ++ B) call n (λ o. (let q = ap length p in omega (arith, o, q))) (λ h z r. k i.1 h r) i.3)
    ];
  }

  frame_taken : (now : ℕ) (f : FrameRecord) (later : List Call) → AreAnswered w (later ++ B) → IsAnswered w (later ++ B) (At now (TakeFrame (Some f))) → moment (later ++ B) ≤ now
      → since_take later B + step (later ++ B) now ≤ g → open_broadcast w (later ++ B) ≡ Some (k, m) → is_packet f ≡ true → Close later → Close (At now (TakeFrame (Some f)) ∷ later)
  frame_taken now f later right a l q o e c = record {
    close = subst (AreClose (150000 + 3 * g)) (sym F) (elim c.last [
      | inl i ↦ subst (λ us. AreClose (150000 + 3 * g) (us ++ f ∷ [])) (sym i) tt
      | inr i ↦ subst (λ us. AreClose (150000 + 3 * g) (us ++ f ∷ [])) (sym i.2) (close_push (150000 + 3 * g) i.0 i.1 f (subst (AreClose (150000 + 3 * g)) i.2 c.close) (apart i.1 i.3))
    ]);
    last = inr (
      filter is_packet (frames later),
      f,
      F,
      Fate.runs (held_then w (later ++ B) now f p e)
          (omega (arith, stamp), omega (arith, stamp), (let z = pause_is (later ++ B) now f true e in omega (arith, stamp, z))),
    );
  }
    where
      F : filter is_packet (frames later ++ f ∷ []) ≡ filter is_packet (frames later) ++ f ∷ []
      F = filter-append is_packet (frames later) (f ∷ []) ∙ ap (λ (t : Bool). filter is_packet (frames later) ++ (if t then f ∷ [] else [])) e

      p : Packed w (later ++ B) now f
      p = packed_by w (later ++ B) now f right e (frame_case w (later ++ B) now f a)

      stamp : f.stamp ≡ now
      stamp = ap (λ (x : ℕ × Message). x.0) (stamped_by (frame_case w (later ++ B) now f a)).1

      within : length (packets (later ++ B)) ≤ packets_of m
      within =
          let y : Some (p.token, p.message) ≡ Some (k, m) = sym p.current ∙ o in
          let x : (p.token, p.message) ≡ (k, m) = cc in
          let s = ap (λ (v : ℕ × MessageRecord). packets_of v.1) x in
          let r = p.within in omega (arith, s, r)

      apart : (z : FrameRecord) → Fate (address_after w (later ++ B)) (IsOver later) (Runs z later) → f.stamp ≤ z.stamp + (150000 + 3 * g)
      apart z (Fate.over x) = absurd (let y = within in omega (arith, x, y))
      apart z (Fate.gone x) = absurd (not_lost w (later ++ B) now p.held x)
      apart z (Fate.runs h r) = let b = r.1 in let t = turn_most g (turns (later ++ B)) in omega (arith, b, l, q, stamp, t)

  -- another is: in time, or a claim or an acknowledgment, of which two at most go before one that is overdue
  another_taken : (now : ℕ) (f : FrameRecord) (later : List Call) → AreAnswered w (later ++ B) → IsAnswered w (later ++ B) (At now (TakeFrame (Some f))) → moment (later ++ B) ≤ now
      → since_take later B + step (later ++ B) now ≤ g → open_broadcast w (later ++ B) ≡ Some (k, m) → is_packet f ≡ false → (z : FrameRecord) → is_held (address_after w (later ++ B)) ≡ true
      → Runs z later → IsOver (At now (TakeFrame (Some f)) ∷ later) ⊎ Runs z (At now (TakeFrame (Some f)) ∷ later)
  another_taken now f later right a l q o i z e r = elim (cases_lt 0 left) [
    | inl x ↦ inr (runs (let b = r.2 in omega (arith, b, l, x)))
    | inr x ↦ by (nat_le (length (packets H)) (packets_of m)) refl x
  ]
    where
      H : List Call
      H = later ++ B

      left : ℕ
      left = pause H - step H now

      case : FrameCase w H now f
      case = frame_case w H now f a

      runs : now ≤ z.stamp + 150000 + turn_time g (turns (At now (TakeFrame (Some f)) ∷ H)) → Runs z (At now (TakeFrame (Some f)) ∷ later)
      runs x = let b = r.0 in let c = r.2 in let p = pause_is H now f false i in (omega (arith, b, l), omega (arith, x), omega (arith, c, l, p))

      steer : is_overdue w H now ≡ true → (b : Bool) → (is_claim f || is_acknowledgment f) ≡ b → b ≡ true
      steer d true s = refl
      steer d false s = absurd (not_both (is_packet f) i (overdue_goes_by w H now f right case d (or_parts (is_claim f) (is_acknowledgment f) s).0 (or_parts (is_claim f) (is_acknowledgment f) s).1))

      by : (b : Bool) → nat_le (length (packets H)) (packets_of m) ≡ b → left ≤ 0 → IsOver (At now (TakeFrame (Some f)) ∷ later) ⊎ Runs z (At now (TakeFrame (Some f)) ∷ later)
      by false y x = inl (let l = leb-false _ _ y in let n = ap length (packets_is H now f false i) in omega (arith, l, n))
      by true y x =
          let d : is_overdue w H now ≡ true = and_from _ (nat_eq left 0) (ap (λ (o : Option (ℕ × MessageRecord)). is_left o (length (packets H))) o ∙ y) (eq-eqb left 0 (omega (arith, x))) in
          let s : (is_claim f || is_acknowledgment f) ≡ true = steer d (is_claim f || is_acknowledgment f) refl in
          let n = few_turns w H now f case (due w H now (held_holds w H now e) d) (steers w H now f right case) s in
          let u = ap (turn_time g) (turns_then H now f true s) in
          let v = turn_more g (turns H) n in
          let b = r.1 in inr (runs (omega (arith, b, l, q, u, v)))

  close_by : (start end : ℕ) (later : List Call) → AreAnswered w (later ++ B) → InTime start end (later ++ B) → IsSteady g later B → open_broadcast w (later ++ B) ≡ Some (k, m)
      → length (broadcasts w (later ++ B)) ≤ length (broadcasts w B) → Close later
  close_by start end [] right t p o n = record { close = tt; last = inl refl }
  close_by start end (At now (Broadcast group bytes (Ok j)) ∷ later) right t p o n =
      absurd (let h = fewer_accepted w later B in let l = length-append (broadcasts w (later ++ B)) (broadcast_from w group bytes ∷ []) in omega (arith, h, l, n))
  close_by start end (TakeBroadcastEnded (Some x) ∷ later) right t p o n = absurd (cc)
  close_by start end (At now (TakeFrame (Some f)) ∷ later) right t p o n =
      let c = close_by start now later right.0 t.1 p.0 o n in
      let l = moment_before start now (later ++ B) t.1 in
      elim (cases_Bool (is_packet f)) [
        | inl e ↦ frame_taken now f later right.0 right.1 l p.1.0 o e c
        | inr e ↦ beside (At now (TakeFrame (Some f))) later refl
            (filter-append is_packet (frames later) (f ∷ []) ∙ (ap (λ (t : Bool). filter is_packet (frames later) ++ (if t then f ∷ [] else [])) e ∙ append-nil (filter is_packet (frames later))))
            (packets_is (later ++ B) now f false e) (another_taken now f later right.0 right.1 l p.1.0 o e) c
      ]
  close_by start end (At now (TakeFrame None) ∷ later) right t p o n =
      let l = moment_before start now (later ++ B) t.1 in
      beside (At now (TakeFrame None)) later refl refl refl
      (λ z h r. elim (no_packet k m (length (packets (later ++ B))) (pause (later ++ B) - step (later ++ B) now)
      (ap (λ (o : Option (ℕ × MessageRecord)). packet_by o (length (packets (later ++ B))) (pause (later ++ B) - step (later ++ B) now)) (sym o)
      ∙ (none_next w (later ++ B) now (held_older (step (later ++ B) now) (address_after w (later ++ B)) h) right.1).rest.packet)) [
        | inl y ↦ inl y
        | inr y ↦ inr (let a = r.0 in let c = r.2 in (omega (arith, a, l), omega (arith, c, y, l), omega (arith, c, l)))
      ]) (close_by start now later right.0 t.1 p.0 o n)
  close_by start end (At now x ∷ later) right t p o n =
      beside (At now x) later p.1.1 refl refl (λ z h r. inr (runs_on z (At now x) later (moment_before start now (later ++ B) t.1) refl refl refl r)) (close_by start now later right.0 t.1 p.0 o n)
  close_by start end (call ∷ later) right t p o n =
      beside call later p.1.1 refl refl (λ z h r. inr (runs_on z call later (omega arith) (omega arith) refl refl r)) (close_by start end later right.0 t p.0 o n)

  pub are_close : (start end : ℕ) (later : List Call) → AreAnswered w (later ++ B) → InTime start end (later ++ B) → IsSteady g later B → open_broadcast w (later ++ B) ≡ Some (k, m)
      → length (broadcasts w (later ++ B)) ≤ length (broadcasts w B) → AreClose (150000 + 3 * g) (filter is_packet (frames later))
  are_close start end later right t p o n = (close_by start end later right t p o n).close
