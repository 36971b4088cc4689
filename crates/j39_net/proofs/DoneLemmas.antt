-- What is told as done was made whole.
use Rattle.std.proofs.Common.{[], append-nil, if◌then◌else◌, ◌++◌, ◌*◌, ◌+◌, ◌<◌, ◌^◌, ◌&&◌, ◌||◌, ◌∙◌, ◌∷◌, ◌≡◌, ◌≢◌, ◌≤◌, ◌⊎◌, ap, append_assoc, arith, Bool, eq-eqb, false, filter, inl, inr, length, length-append, List, map, nat_eq, nat_le, not, Ok, Option, refl, slice_index, Some, subst, sym, true, ℕ}
use Rattle.std.proofs.lemmas.Bool.{cases_Bool, cond_both}
use Rattle.std.proofs.lemmas.List.Elements.{All-head, All-tail, Contains-push}
use Rattle.std.specs.List.{All, Contains, slice_get}
use Rattle.j39_frame.specs.Frame.{FrameRecord}
use Rattle.j39_frame.specs.Identifier.{destination_of, pgn_of, ps_of, source_of}
use Rattle.j39_transport.specs.Message.{MessageRecord, packets_of}
use Rattle.j39_transport.specs.Sending as sending
use Rattle.j39_transport.specs.Sending.{aborted, new_sender, send_step, SenderRecord, Tick}
use Rattle.j39_transport.specs.Signals.{Acknowledgment, said_between, Signal}
use Rattle.j39_node.proofs.ChangeLemmas.{Sent, sent_case}
use Rattle.j39_node.proofs.MoveLemmas.{Arises, heard_sender, left_sender, listed, moved_open, traced}
use Rattle.j39_node.proofs.OpenLemmas.{open_told}
use Rattle.j39_node.proofs.TransferEnds.{between, done_by, named_open, open_at}
use Rattle.std.proofs.lemmas.Option.{same_Some}
use Rattle.j39_node.proofs.MoveSteps.{done_given_up, done_heard, done_ticked, StateFits}
use Rattle.j39_node.proofs.PacketLemmas.{goes_there}
use Rattle.j39_node.proofs.QueueLemmas.{get_last}
use Rattle.j39_node.proofs.SoundLemmas.{frame_case, stamped_by}
use Rattle.j39_node.proofs.WithdrawLemmas.{get_front}
use Rattle.j39_node.proofs.PromptLaws.{answered_from}
use Rattle.j39_node.proofs.AnswerCases.{transfer_accepts}
use Rattle.j39_node.proofs.Tests.{not_both}
use Rattle.j39_node.specs.History.{address_after, broadcast_from, Call, frames, is_claim, is_lost, is_some, Message, Who}
use Rattle.j39_node.specs.History.Call.{At, TakeTransferEnded}
use Rattle.j39_node.specs.History.Act.{Hear, TakeFrame, Transfer}
use Rattle.j39_node.specs.Is.{AreAnswered}
use Rattle.j39_node.specs.Moves.{begins, Happened, moves, NoneBegins}
use Rattle.j39_node.specs.Prompt.{claims_anew}
use Rattle.j39_node.specs.Reception.{delivered, holder, is_move, session}
use Rattle.j39_node.specs.Transfers.{clock_at, open_to, says, transfers}
use Rattle.j39_transfers.specs.Transfers.{gives_up, to as to_whom, Transfer as Running}
use Rattle.j39_transfers.specs.declared.kinds.Ending.TheVariants.{Done}
use Rattle.j39_net.proofs.AckLemmas.{acks, ends_later, EndsWhole, IsOfIt}
use Rattle.j39_net.proofs.MoveCourse.{first_reply, Goes, its_reply, kind_of, MoveKind, parts_of}
use Rattle.j39_net.proofs.ReportLemmas.{source_in, taken_at}
use Rattle.j39_net.proofs.CourseLemmas.{all_front}
use Rattle.std.proofs.lemmas.List.Elements.{filter-append}
use Rattle.std.proofs.lemmas.List.{map-append}
use Rattle.j39_net.proofs.NetLemmas.{behind_it, behind_one, first_of_them, head_or_tail, within}
use Rattle.j39_net.proofs.SessionLemmas.{hears_transfers, plain, same_said, trace, wholes_are}
use Rattle.j39_net.proofs.StepLemmas.{somes, somes_more}
use Rattle.j39_net.proofs.TransferCourse.{Course, coursed, IsOpenAt}
use Rattle.j39_net.proofs.TransferLemmas.{heard_once}
use Rattle.j39_net.proofs.CarriedLemmas.{joined}
use Rattle.j39_net.proofs.BroadcastLemmas.{push_same}
use Rattle.j39_net.proofs.HearLemmas.{wholes}
use Rattle.j39_net.specs.Net.{acknowledged, acknowledges, Come, hears, InTime, IsLater, IsMember, IsNoRequest, log, Member, messages_to, Net, NoneLate, OnlySends, others, own, Passed}

-- ---- an acknowledgment is taken

first_is : (bs : List ℕ) → slice_index bs 0 ≡ 19 → slice_get bs 0 ≡ Some 19
first_is [] e = absurd (omega (arith, e))
first_is (x ∷ bs) e = ap (λ (n : ℕ). (let o : Option ℕ = Some n in o)) e

-- no frame of a transfer of its own is one
no_move : (w : Who) (H : List Call) (now : ℕ) (f : FrameRecord) → AreAnswered w H → Sent w H now f → pgn_of f.id ≡ 60416 → slice_index f.bytes 0 ≡ 19 → ⊥
no_move w H now f right s g z = go (kind_of s.running (clock_at w H now) (moves w (to_whom s.running) H) s.signal (moved_open w (to_whom s.running) H s.running right s.is) s.said)
  where
    go : MoveKind s.running.sender.message (moves w (to_whom s.running) H) s.signal → ⊥
    go (MoveKind.requests n e) = absurd (let x = ap (λ (m : Message). slice_index m.bytes 0) (s.frame ∙ ap (says s.running.sender) e) in omega (arith, x, z))
    go (MoveKind.packs i n k e) = absurd (let x = ap (λ (m : Message). m.group) (s.frame ∙ ap (says s.running.sender) e) in omega (arith, x, g))
    go (MoveKind.aborts reason n e) = absurd (let x = ap (λ (m : Message). slice_index m.bytes 0) (s.frame ∙ ap (says s.running.sender) e) in omega (arith, x, z))

-- what is acknowledged to a was whole, behind its last request
taken_ack : (w : Who) (H : List Call) (now a : ℕ) (f : FrameRecord) (size packets pgn : ℕ) → AreAnswered w (At now (TakeFrame (Some f)) ∷ H) → All (λ call. claims_anew call ≡ false) H → a < 254
    → said_between w.address a f ≡ Some (Acknowledgment size packets pgn) → EndsWhole (trace w a H)
taken_ack w H now a f size packets pgn right n l e = go (cases_Bool (is_move w H f))
  where
    p : Goes w.address a f (Some (Acknowledgment size packets pgn))
    p = parts_of w.address a f (Acknowledgment size packets pgn) e

    there : destination_of f.id ≡ Some (ps_of f.id)
    there = goes_there f 60416 (omega arith) p.kind.0

    go : (is_move w H f ≡ true) ⊎ (is_move w H f ≡ false) → EndsWhole (trace w a H)
    go (inl m) = absurd (no_move w H now f right.0 (sent_case w H now f right.0 (frame_case w H now f right.1) m) p.kind.0 p.kind.1)
    go (inr m) =
        let r = first_reply w H f a l m (its_reply w H f a l m p.destination (ap (λ (g : ℕ). nat_eq g 60416 || nat_eq g 60160) p.kind.0) there) in
        let to : r.0.to ≡ a = (let z : Some r.0.to ≡ Some a = sym r.3 ∙ (there ∙ ap (λ (m : ℕ). (let o : Option ℕ = Some m in o)) p.destination) in cc) in
        All-head (IsOfIt a (trace w a H)) r.0 r.1 (subst (All (IsOfIt a (trace w a H))) r.2 (acks w a l H n)) to
        (ap (λ bs. slice_get bs 0) (sym r.4) ∙ first_is f.bytes p.kind.1)

-- ---- it is told

-- its destination acknowledged it
abbrev pub IsAcked : Who → ℕ → MessageRecord → List Call → Call → Type 0
IsAcked w to m earlier (At now (Hear f)) = said_between to w.address f ≡ Some (Acknowledgment (length m.bytes) (packets_of m) m.pgn)
IsAcked w to m earlier call = ⊥

arises : (w : Who) (a : ℕ) → Arises w a (λ x. x.sender.state ≡ sending.Done) (λ m. IsAcked w a m)
unfolding new_sender
arises w a = record {
  begins_not = λ H now priority group bytes q. (let z : sending.Idle ≡ sending.Done = q in absurd (cc));
  by_hearing = λ H when f x right e.
      heard_sender (λ (s : SenderRecord). s.state ≡ sending.Done → (x.sender.state ≡ sending.Done) ⊎ IsAcked w a x.sender.message H (At when (Hear f)))
      (is_lost (address_after w (At when (Hear f) ∷ H))) (holder w (At when (Hear f) ∷ H)) f (clock_at w H when) x (λ q. inl q)
      (λ q. elim (done_heard x.sender f (clock_at w H when) q) [
        | inl z ↦ inl z
        | inr z ↦ inr ((λ i. said_between (sym (open_at w a H x e) i) (sym (between w a H x right e).source i) f) ∙ z.says)
      ]);
  by_claiming = λ H now f x right e q. inl (ap (λ (s : SenderRecord). s.state) (sym (left_sender (holder w (At now (TakeFrame (Some f)) ∷ H)) (clock_at w H now) x)) ∙ q);
  by_sending = λ H now f s right z q. inl (cond_both (gives_up s.running) (aborted 5 s.running.sender) (send_step s.running.sender Tick (clock_at w H now)).after
      (λ (r : SenderRecord). r.state ≡ sending.Done → s.running.sender.state ≡ sending.Done) (λ z. done_given_up s.running.sender 5) (λ z. done_ticked s.running.sender (clock_at w H now)) q);
}

pub record IsDone (w : Who) (H : List Call) (k : ℕ) : Type 0 where
  pub running : Running
  pub is : open_to w (to_whom running) H ≡ Some running
  pub token : running.token ≡ k
  pub state : running.sender.state ≡ sending.Done
  pub acked : Happened (to_whom running) (IsAcked w (to_whom running) running.sender.message) H

pub told_done : (w : Who) (H : List Call) (k : ℕ) → AreAnswered w (TakeTransferEnded (Some (k, Done)) ∷ H) → IsDone w H k
told_done w H k right =
    let t = open_told w H (k, Done) right.1 in
    let a = to_whom t.running in
    let done = done_by t.running.sender.state t.running.broken (named_open w a H t.running right.0 t.is).broken t.ends in
    record {
      running = t.running;
      is = t.is;
      token = t.token;
      state = done;
      acked = traced w a (λ u. u.sender.state ≡ sending.Done) (λ m. IsAcked w a m) (arises w a) H t.running right.0 t.is done;
    }

-- ---- what is heard from an address was taken there

record Place (xs us : List Passed) (y : Passed) (p : Passed → Bool) : Type 0 where
  before : List Passed
  after : List Passed
  is : xs ≡ before ++ y ∷ after
  before_it : filter p before ≡ us

filter_place : (p : Passed → Bool) (xs us vs : List Passed) (y : Passed) → filter p xs ≡ us ++ y ∷ vs → Place xs us y p
filter_place p [] us vs y e = absurd (let a = ap length e in let b = length-append us (y ∷ vs) in omega (arith, a, b))
filter_place p (x ∷ xs) us vs y e = go (p x) refl us e (λ us e. filter_place p xs us vs y e)
  where
    go : (b : Bool) → p x ≡ b → (us : List Passed) → (if b then x ∷ filter p xs else filter p xs) ≡ us ++ y ∷ vs → ((us : List Passed) → filter p xs ≡ us ++ y ∷ vs → Place xs us y p) → Place (x ∷ xs) us y p
    go true i [] e rec = record { before = []; after = xs; is = (let z : x ≡ y = cc in ap (λ v. v ∷ xs) z); before_it = refl }
    go true i (u ∷ us) e rec =
        let z : x ≡ u = cc in
        let r : filter p xs ≡ us ++ y ∷ vs = cc in
        let h = rec us r in
        record {
          before = x ∷ h.before;
          after = h.after;
          is = ap (λ v. x ∷ v) h.is;
          before_it = ap (λ (t : Bool). if t then x ∷ filter p h.before else filter p h.before) i ∙ λ k. z k ∷ h.before_it k;
        }
    go false i us e rec =
        let h = rec us e in
        record { before = x ∷ h.before; after = h.after; is = ap (λ v. x ∷ v) h.is; before_it = ap (λ (t : Bool). if t then x ∷ filter p h.before else filter p h.before) i ∙ h.before_it }

record Logged (xs : List Passed) (us : List FrameRecord) (f : FrameRecord) : Type 0 where
  before : List Passed
  passed : Passed
  after : List Passed
  is : xs ≡ before ++ passed ∷ after
  before_it : log before ≡ us
  frame : passed.frame ≡ f

log_place : (xs : List Passed) (us vs : List FrameRecord) (f : FrameRecord) → log xs ≡ us ++ f ∷ vs → Logged xs us f
log_place [] us vs f e = absurd (let a = ap length e in let b = length-append us (f ∷ vs) in omega (arith, a, b))
log_place (x ∷ xs) [] vs f e = record { before = []; passed = x; after = xs; is = refl; before_it = refl; frame = (let z : x.frame ≡ f = cc in z) }
log_place (x ∷ xs) (u ∷ us) vs f e =
    let z : x.frame ≡ u = cc in
    let r : log xs ≡ us ++ f ∷ vs = cc in
    let h = log_place xs us vs f r in
    record { before = x ∷ h.before; passed = h.passed; after = h.after; is = ap (λ v. x ∷ v) h.is; before_it = (λ k. z k ∷ h.before_it k); frame = h.frame }

-- ---- how many

counted : (t u : Bool) (x y : FrameRecord) (X Y : List FrameRecord) → (t ≡ true → u ≡ true) → length X ≤ length Y → length (if t then x ∷ X else X) ≤ length (if u then y ∷ Y else Y)
counted true true x y X Y e l = omega (arith, l)
counted true false x y X Y e l = absurd (let z = e refl in cc)
counted false true x y X Y e l = omega (arith, l)
counted false false x y X Y e l = l

one_more : (u : Bool) (y : FrameRecord) (Y : List FrameRecord) (n : ℕ) → n ≤ length Y → n ≤ length (if u then y ∷ Y else Y)
one_more true y Y n l = omega (arith, l)
one_more false y Y n l = l

none_more : (t : Bool) (x : FrameRecord) (X : List FrameRecord) (n : ℕ) → (t ≡ true → ⊥) → length X ≤ n → length (if t then x ∷ X else X) ≤ n
none_more true x X n e l = absurd (e refl)
none_more false x X n e l = l

module _ (d a : ℕ) (b : MessageRecord) where
  abbrev counts : FrameRecord → Bool
  counts f = acknowledges b (said_between d a f)

  count_more : (F G : List FrameRecord) → acknowledged d a b F ≤ acknowledged d a b (F ++ G)
  count_more F G = let e = ap length (filter-append counts F G) in let l = length-append (filter counts F) (filter counts G) in omega (arith, e, l)

  count_come : (delay : ℕ) (missing : FrameRecord → Type 0) (fs gs : List FrameRecord) → Come delay missing fs gs → acknowledged d a b gs ≤ acknowledged d a b fs
  count_come delay missing [] [] c = omega arith
  count_come delay missing [] (g ∷ gs) c = absurd c
  count_come delay missing (f ∷ fs) [] c = omega arith
  count_come delay missing (f ∷ fs) (g ∷ gs) (inl c) =
      counted (counts g) (counts f) g f (filter counts gs) (filter counts fs) (λ e. ap (acknowledges b) (sym (same_said d a f g c.0.id c.0.bytes)) ∙ e) (count_come delay missing fs gs c.1)
  count_come delay missing (f ∷ fs) (g ∷ gs) (inr c) = one_more (counts f) f (filter counts fs) (acknowledged d a b (g ∷ gs)) (count_come delay missing fs (g ∷ gs) c.1)

  says_of : (s : Option Signal) → acknowledges b s ≡ true → (size packets pgn : ℕ) × (s ≡ Some (Acknowledgment size packets pgn))
  says_of (Some (Acknowledgment size packets pgn)) e = (size, packets, pgn, refl)
  says_of s e = absurd (let z : false ≡ true = e in cc)

  -- they come from d alone
  by_it : (j : ℕ) (x : Passed) → (is_claim x.frame ≡ false → source_of x.frame.id ≡ d → x.by ≡ Some j) → counts x.frame ≡ true → is_some x.by j ≡ true
  by_it j x o e =
      let s = says_of (said_between d a x.frame) e in
      let p = parts_of d a x.frame (Acknowledgment s.0 s.1 s.2) s.3 in
      ap (λ (o : Option ℕ). is_some o j) (o (ap (λ (g : ℕ). nat_eq g 60928) p.kind.0) p.source) ∙ eq-eqb j j refl

  count_by : (i j start : ℕ) (L : List Passed) → OnlySends L j d → acknowledged d a b (others i start L) ≤ acknowledged d a b (own j L)
  count_by i j start [] o = omega arith
  count_by i j start (x ∷ L) o =
      one (not (is_some x.by i) && nat_le start x.frame.stamp) (is_some x.by j) refl (by_it j x (All-head (λ y. is_claim y.frame ≡ false → source_of y.frame.id ≡ d → y.by ≡ Some j) x L o))
      (count_by i j start L (All-tail (λ y. is_claim y.frame ≡ false → source_of y.frame.id ≡ d → y.by ≡ Some j) x L o))
    where
      one : (t c : Bool) → is_some x.by j ≡ c → (counts x.frame ≡ true → is_some x.by j ≡ true) → acknowledged d a b (others i start L) ≤ acknowledged d a b (own j L)
          → acknowledged d a b (log (if t then x ∷ filter (λ y. not (is_some y.by i) && nat_le start y.frame.stamp) L else filter (λ y. not (is_some y.by i) && nat_le start y.frame.stamp) L))
          ≤ acknowledged d a b (log (if c then x ∷ filter (λ y. is_some y.by j) L else filter (λ y. is_some y.by j) L))
      one true true e by l = counted (counts x.frame) (counts x.frame) x.frame x.frame (filter counts (others i start L)) (filter counts (own j L)) (λ z. z) l
      one true false e by l = none_more (counts x.frame) x.frame (filter counts (others i start L)) (acknowledged d a b (own j L)) (λ z. not_both (is_some x.by j) e (by z)) l
      one false true e by l = one_more (counts x.frame) x.frame (filter counts (own j L)) (acknowledged d a b (others i start L)) l
      one false false e by l = l

-- ---- places

contains_filter : {T : Type 0} (p : T → Bool) (xs : List T) (x : T) → Contains (filter p xs) x → Contains xs x
contains_filter p [] x h = h
contains_filter p (y ∷ xs) x h = go (p y) h (contains_filter p xs x)
  where
    go : (b : Bool) → Contains (if b then y ∷ filter p xs else filter p xs) x → (Contains (filter p xs) x → Contains xs x) → Contains (y ∷ xs) x
    go true h rec = elim (head_or_tail y (filter p xs) x h) [ inl e ↦ first_of_them y x xs e | inr t ↦ behind_one y xs x (rec t) ]
    go false h rec = behind_one y xs x (rec h)

hears_behind : (later H : List Call) → (rest : List FrameRecord) × (hears (later ++ H) ≡ hears H ++ rest)
hears_behind [] H = ([], sym (append-nil (hears H)))
hears_behind (At now (Hear f) ∷ later) H =
    let r = hears_behind later H in
    let x = record { stamp = now; id = f.id; bytes = f.bytes } ∷ [] in
    (r.0 ++ x, ap (λ v. v ++ x) r.1 ∙ append_assoc (hears H) r.0 x)
hears_behind (call ∷ later) H = hears_behind later H

all_at : {T : Type 0} (P : T → Type 0) (xs ys : List T) (y : T) → All P (xs ++ y ∷ ys) → P y
all_at P [] ys y h = All-head P y ys h
all_at P (x ∷ xs) ys y h = all_at P xs ys y (All-tail P x (xs ++ y ∷ ys) h)

-- the message that was accepted
transfers_behind : (w : Who) (later H : List Call) → (rest : List (ℕ × MessageRecord)) × (transfers w (later ++ H) ≡ transfers w H ++ rest)
transfers_behind w [] H = ([], sym (append-nil (transfers w H)))
transfers_behind w (At now (Transfer priority group to bytes (Ok k)) ∷ later) H =
    let r = transfers_behind w later H in
    let x = (to, broadcast_from w group bytes) ∷ [] in
    (r.0 ++ x, ap (λ v. v ++ x) r.1 ∙ append_assoc (transfers w H) r.0 x)
transfers_behind w (call ∷ later) H = transfers_behind w later H

accepted_is : (w : Who) (later earlier : List Call) (at priority group to k : ℕ) (bytes : List ℕ) → AreAnswered w (later ++ At at (Transfer priority group to bytes (Ok k)) ∷ earlier)
    → slice_get (transfers w (later ++ At at (Transfer priority group to bytes (Ok k)) ∷ earlier)) k ≡ Some (to, broadcast_from w group bytes)
accepted_is w later earlier at priority group to k bytes right =
    let a = answered_from w later (At at (Transfer priority group to bytes (Ok k)) ∷ earlier) right in
    let n : k ≡ length (transfers w earlier) = (transfer_accepts w earlier at priority group to k bytes a.1).3 in
    let r = transfers_behind w later (At at (Transfer priority group to bytes (Ok k)) ∷ earlier) in
    let x : ℕ × MessageRecord = (to, broadcast_from w group bytes) in
    ap (λ (T : List (ℕ × MessageRecord)). slice_get T k) r.1 ∙ get_front (transfers w earlier ++ x ∷ []) r.0 k x (ap (slice_get (transfers w earlier ++ x ∷ [])) n ∙ get_last (transfers w earlier) x)

-- what happened since none was accepted, is behind this
since_accepted : (a : ℕ) (later later2 earlier earlier2 : List Call) (x call : Call) → later ++ x ∷ earlier ≡ later2 ++ call ∷ earlier2 → begins a x ≡ true → begins a call ≡ false → NoneBegins a later2
    → (mid : List Call) × (earlier2 ≡ mid ++ x ∷ earlier)
since_accepted a [] [] earlier earlier2 x call e b c n = absurd (let z : x ≡ call = cc in let y : true ≡ false = sym b ∙ (ap (begins a) z ∙ c) in cc)
since_accepted a [] (y ∷ later2) earlier earlier2 x call e b c n = absurd (let z : x ≡ y = cc in let v : true ≡ false = sym b ∙ (ap (begins a) z ∙ n.0) in cc)
since_accepted a (y ∷ later) [] earlier earlier2 x call e b c n = (later, (let z : later ++ x ∷ earlier ≡ earlier2 = cc in sym z))
since_accepted a (y ∷ later) (v ∷ later2) earlier earlier2 x call e b c n =
    since_accepted a later later2 earlier earlier2 x call (let z : later ++ x ∷ earlier ≡ later2 ++ call ∷ earlier2 = cc in z) b c n.1

record Acked (w : Who) (H : List Call) (to : ℕ) (m : MessageRecord) : Type 0 where
  later : List Call
  at : ℕ
  frame : FrameRecord
  earlier : List Call
  is : H ≡ later ++ At at (Hear frame) ∷ earlier
  since : NoneBegins to later
  says : said_between to w.address frame ≡ Some (Acknowledgment (length m.bytes) (packets_of m) m.pgn)

acked_at : (w : Who) (H : List Call) (to : ℕ) (m : MessageRecord) → Happened to (IsAcked w to m) H → Acked w H to m
acked_at w H to m h = go h.call h.is h.so
  where
    go : (call : Call) → H ≡ h.later ++ call ∷ h.earlier → IsAcked w to m h.earlier call → Acked w H to m
    go (At now (Hear f)) e s = record { later = h.later; at = now; frame = f; earlier = h.earlier; is = e; since = h.since; says = s }
    go call e s = absurd s

all_behind : {T : Type 0} (P : T → Type 0) (xs ys : List T) (y : T) → All P (xs ++ y ∷ ys) → All P ys
all_behind P [] ys y h = All-tail P y ys h
all_behind P (x ∷ xs) ys y h = all_behind P xs ys y (All-tail P x (xs ++ y ∷ ys) h)

behind_told : {T : Type 0} (G H later earlier : List T) (x y : T) → G ≡ x ∷ H → H ≡ later ++ y ∷ earlier → G ≡ (x ∷ later) ++ y ∷ earlier
behind_told G H later earlier x y e i = e ∙ ap (λ v. x ∷ v) i

own_at : (j : ℕ) (xs ys : List Passed) (x : Passed) → is_some x.by j ≡ true → own j (xs ++ x ∷ ys) ≡ own j xs ++ x.frame ∷ own j ys
own_at j xs ys x e =
    ap log (filter-append (λ (y : Passed). is_some y.by j) xs (x ∷ ys) ∙ ap (λ (t : Bool). filter (λ y. is_some y.by j) xs ++ (if t then x ∷ filter (λ y. is_some y.by j) ys else filter (λ y. is_some y.by j) ys)) e)
    ∙ map-append (λ (y : Passed). y.frame) (filter (λ y. is_some y.by j) xs) (x ∷ filter (λ y. is_some y.by j) ys)

-- ---- from the call that heard it to the call that took it

-- its place in the log, and what of the log came before it
record InLog (delay : ℕ) (missing : FrameRecord → Type 0) (i start : ℕ) (L : List Passed) (g : FrameRecord) (heard : List FrameRecord) : Type 0 where
  before : List Passed
  passed : Passed
  after : List Passed
  is : L ≡ before ++ passed ∷ after
  is_later : IsLater delay passed.frame g
  come : Come delay missing (others i start before) heard

in_log : (delay : ℕ) (missing : FrameRecord → Type 0) (i start : ℕ) (L : List Passed) (G G1 G2 : List FrameRecord) (g : FrameRecord) → Come delay missing (others i start L) G → G ≡ G1 ++ g ∷ G2
    → InLog delay missing i start L g G1
in_log delay missing i start L G G1 G2 g c e =
    let s = source_in delay missing G1 G2 g (others i start L) (subst (Come delay missing (others i start L)) e c) in
    let x = log_place (filter (λ y. not (is_some y.by i) && nat_le start y.frame.stamp) L) s.earlier s.after s.frame s.is in
    let l = filter_place (λ y. not (is_some y.by i) && nat_le start y.frame.stamp) L x.before x.after x.passed x.is in
    record {
      before = l.before;
      passed = x.passed;
      after = l.after;
      is = l.is;
      is_later = subst (λ f. IsLater delay f g) (sym x.frame) s.is_later;
      come = subst (λ F. Come delay missing F G1) (sym (ap log l.before_it ∙ x.before_it)) s.come;
    }

record FromTaken (delay : ℕ) (missing : FrameRecord → Type 0) (H : List Call) (g : FrameRecord) (own_before : List FrameRecord) : Type 0 where
  later : List Call
  at : ℕ
  frame : FrameRecord
  earlier : List Call
  is : H ≡ later ++ At at (TakeFrame (Some frame)) ∷ earlier
  is_later : IsLater delay frame g
  come : Come delay missing (frames earlier) own_before

from_taken : (delay : ℕ) (missing : FrameRecord → Type 0) (j : ℕ) (L before after : List Passed) (x : Passed) (H : List Call) → L ≡ before ++ x ∷ after → is_some x.by j ≡ true
    → Come delay missing (frames H) (own j L) → FromTaken delay missing H x.frame (own j before)
from_taken delay missing j L before after x H e by c =
    let s = source_in delay missing (own j before) (own j after) x.frame (frames H) (subst (Come delay missing (frames H)) (ap (own j) e ∙ own_at j before after x by) c) in
    let t = taken_at H s.frame s.earlier s.after s.is in
    record {
      later = t.later;
      at = t.at;
      frame = s.frame;
      earlier = t.earlier;
      is = t.is;
      is_later = s.is_later;
      come = subst (λ F. Come delay missing F (own j before)) (sym t.before_it) s.come;
    }

moment_is : (w : Who) (H later earlier : List Call) (at : ℕ) (f : FrameRecord) → AreAnswered w H → H ≡ later ++ At at (TakeFrame (Some f)) ∷ earlier → f.stamp ≡ at
moment_is w H later earlier at f right e =
    let r = answered_from w later (At at (TakeFrame (Some f)) ∷ earlier) (subst (AreAnswered w) e right) in
    ap (λ (x : ℕ × Message). x.0) (stamped_by (frame_case w earlier at f r.1)).1

said_there : (d a : ℕ) (f x g : FrameRecord) (delay : ℕ) → IsLater delay f x → IsLater delay x g → said_between d a f ≡ said_between d a g
said_there d a f x g delay l k = sym (same_said d a f g (k.id ∙ l.id) (k.bytes ∙ l.bytes))

-- the split of what was heard
heard_split : (G later E : List Call) (at : ℕ) (f : FrameRecord) → G ≡ later ++ At at (Hear f) ∷ E → (rest : List FrameRecord) × (hears G ≡ hears E ++ record { stamp = at; id = f.id; bytes = f.bytes } ∷ rest)
heard_split G later E at f e =
    let r = hears_behind later (At at (Hear f) ∷ E) in
    (r.0, ap hears e ∙ (r.1 ∙ append_assoc (hears E) (record { stamp = at; id = f.id; bytes = f.bytes } ∷ []) r.0))

heard_front : (d a : ℕ) (b : MessageRecord) (E mid earlier : List Call) (x : Call) → E ≡ mid ++ x ∷ earlier → acknowledged d a b (hears earlier) ≤ acknowledged d a b (hears E)
heard_front d a b E mid earlier x e =
    let r = hears_behind mid (x ∷ earlier) in
    let s = hears_behind (x ∷ []) earlier in
    subst (λ F. acknowledged d a b (hears earlier) ≤ acknowledged d a b F) (sym (ap hears e ∙ (r.1 ∙ (ap (λ F. F ++ r.0) s.1 ∙ append_assoc (hears earlier) s.0 r.0))))
    (count_more d a b (hears earlier) (s.0 ++ r.0))

its_own : (b : MessageRecord) → acknowledges b (Some (Acknowledgment (length b.bytes) (packets_of b) b.pgn)) ≡ true
its_own b = λ i. eq-eqb (length b.bytes) (length b.bytes) refl i && (eq-eqb (packets_of b) (packets_of b) refl i && eq-eqb b.pgn b.pgn refl i)

-- the acknowledgment that was heard, in the log
acked_by : (d a j : ℕ) (b : MessageRecord) (delay : ℕ) (L before after : List Passed) (x : Passed) (g : FrameRecord) → L ≡ before ++ x ∷ after → OnlySends L j d → IsLater delay x.frame g
    → said_between d a g ≡ Some (Acknowledgment (length b.bytes) (packets_of b) b.pgn) → is_some x.by j ≡ true
acked_by d a j b delay L before after x g e o l s =
    by_it d a b j x (all_at (λ y. is_claim y.frame ≡ false → source_of y.frame.id ≡ d → y.by ≡ Some j) before after x (subst (λ L. OnlySends L j d) e o))
    (ap (acknowledges b) (sym (same_said d a x.frame g l.id l.bytes) ∙ s) ∙ its_own b)

front_only : (d j : ℕ) (L before after : List Passed) (x : Passed) → L ≡ before ++ x ∷ after → OnlySends L j d → OnlySends before j d
front_only d j L before after x e o =
    all_front (λ y. is_claim y.frame ≡ false → source_of y.frame.id ≡ d → y.by ≡ Some j) before (x ∷ after) (subst (λ L. OnlySends L j d) e o)

-- ---- all of it

module _ (delay now i j k at priority group : ℕ) (bytes : List ℕ) (L : List Passed) (members : List Member) (m n : Member) (later earlier : List Call)
    (net : Net delay now (IsNoRequest m.who.address n.who.address) L members) (hm : IsMember members i m) (hn : IsMember members j n) where
  abbrev a : ℕ
  a = m.who.address

  abbrev d : ℕ
  d = n.who.address

  abbrev b : MessageRecord
  b = broadcast_from m.who group bytes

  abbrev H : List Call
  H = later ++ At at (Transfer priority group d bytes (Ok k)) ∷ earlier

  -- the acknowledgment that was heard was taken in time
  record Came (says : FrameRecord → Type 0) : Type 0 where
    behind : List Call
    moment : ℕ
    frame : FrameRecord
    before : List Call
    is : n.history ≡ behind ++ At moment (TakeFrame (Some frame)) ∷ before
    said : says frame
    in_time : at ≤ moment + 2 * delay
    many : acknowledged d a b (hears earlier) ≤ acknowledged d a b (frames before)

  taken_for : OnlySends L j d → (is : m.history ≡ TakeTransferEnded (Some (k, Done)) ∷ H) → (x : Acked m.who H d b) → Came (λ f. said_between d a f ≡ Some (Acknowledgment (length b.bytes) (packets_of b) b.pgn))
  taken_for o is x =
      let mid = since_accepted d later x.later earlier x.earlier (At at (Transfer priority group d bytes (Ok k))) (At x.at (Hear x.frame)) x.is (eq-eqb d d refl) refl x.since in
      let told = TakeTransferEnded (Some (k, Done)) in
      let whole : m.history ≡ (told ∷ x.later) ++ At x.at (Hear x.frame) ∷ x.earlier = behind_told m.history H x.later x.earlier told (At x.at (Hear x.frame)) is x.is in
      let time = behind_it m.since now x.at (Hear x.frame) (told ∷ x.later) x.earlier (subst (InTime m.since now) whole (net.in_time i m hm)) in
      let late = (within m.since x.at at (Transfer priority group d bytes (Ok k)) mid.0 earlier (subst (InTime m.since x.at) mid.1 time)).1 in
      let g : FrameRecord = record { stamp = x.at; id = x.frame.id; bytes = x.frame.bytes } in
      let all = heard_split m.history (told ∷ x.later) x.earlier x.at x.frame whole in
      let log = in_log delay (IsNoRequest a d) i m.since L (hears m.history) (hears x.earlier) all.0 g (net.heard i m hm) all.1 in
      let by = acked_by d a j b delay L log.before log.after log.passed g log.is o log.is_later (same_said d a x.frame g refl refl ∙ x.says) in
      let t = from_taken delay (IsNoRequest a d) j L log.before log.after log.passed n.history log.is by (net.sent j n hn) in
      record {
        behind = t.later;
        moment = t.at;
        frame = t.frame;
        before = t.earlier;
        is = t.is;
        said = said_there d a t.frame log.passed.frame g delay t.is_later log.is_later ∙ (same_said d a x.frame g refl refl ∙ x.says);
        in_time = soon t.frame.stamp t.at log.passed.frame.stamp x.at (moment_is n.who n.history t.later t.earlier t.at t.frame (net.answered j n hn) t.is) t.is_later.in_time log.is_later.in_time late;
        many =
            enough (acknowledged d a b (hears earlier)) (acknowledged d a b (hears x.earlier)) (acknowledged d a b (others i m.since log.before)) (acknowledged d a b (own j log.before))
            (acknowledged d a b (frames t.earlier)) (heard_front d a b x.earlier mid.0 earlier (At at (Transfer priority group d bytes (Ok k))) mid.1)
            (count_come d a b delay (IsNoRequest a d) (others i m.since log.before) (hears x.earlier) log.come) (count_by d a b i j m.since log.before (front_only d j L log.before log.after log.passed log.is o))
            (count_come d a b delay (IsNoRequest a d) (frames t.earlier) (own j log.before) t.come);
      }
    where
      soon : (stamp taken log heard : ℕ) → stamp ≡ taken → log ≤ stamp + delay → heard ≤ log + delay → at ≤ heard → at ≤ taken + 2 * delay
      soon stamp taken log heard e p q r = omega (arith, e, p, q, r)

      enough : (p q r s t : ℕ) → p ≤ q → q ≤ r → r ≤ s → s ≤ t → p ≤ t
      enough p q r s t a b c d = omega (arith, a, b, c, d)

  -- it was the last that was whole
  is_whole : i ≢ j → OnlySends L i a → All (λ call. claims_anew call ≡ false) n.history → All (λ (x : ℕ × MessageRecord). x.1.pgn < 2 ^ 18) (transfers m.who H)
      → m.history ≡ TakeTransferEnded (Some (k, Done)) ∷ H → (x : IsDone m.who H k) → AreAnswered m.who H → x.running.sender.message ≡ b → to_whom x.running ≡ d
      → EndsWhole (trace n.who a n.history) → Contains (map (λ x. x.1) (delivered n.who n.history)) b
  is_whole apart o anew fits is x right message destination ends =
      let c = coursed m.who d H (net.address i m hm) (net.address j n hn) fits right in
      let e = joined delay i j n.since a (IsNoRequest a d) (λ f g id bytes h size packets most pgn z. h size packets most pgn (same_said a d f g id bytes ∙ z)) apart L 0
      (frames m.history) (hears n.history) net.ordered o (net.sent i m hm) (net.heard j n hn) in
      let last = (heard_once a d e.early e.rest (hears n.history) e.join c.asked (plain (session n.who n.history a)) (trace n.who a n.history)
      (subst (Course a d c.asked) (sym (ap frames is) ∙ e.is) c.course) (hears_transfers n.who a (net.address i m hm) n.history anew)).1 ends.0 ends.1 ends.2 in
      let whole : Contains (wholes a (delivered n.who n.history)) ends.1 =
      subst (λ W. Contains W ends.1) (sym (ap somes ends.2 ∙ somes_more ends.0 (Some ends.1 ∷ [])) ∙ wholes_are n.who a n.history) (Contains-push (somes ends.0) ends.1) in
      subst (Contains (map (λ x. x.1) (delivered n.who n.history))) (requested c.asked last.0 ends.1 last.1 (c.current x.running there))
      (contains_filter (λ (x : MessageRecord). nat_eq x.source a) (map (λ x. x.1) (delivered n.who n.history)) ends.1 whole)
    where
      there : open_to m.who d H ≡ Some x.running
      there = ap (λ (n : ℕ). open_to m.who n H) (sym destination) ∙ x.is

      some_moves : moves m.who d H ≢ []
      some_moves = subst (StateFits (packets_of x.running.sender.message) x.running.sender.highest (moves m.who d H)) x.state (moved_open m.who d H x.running right there).state

      requested : (A before : List MessageRecord) (y : MessageRecord) → A ≡ before ++ y ∷ [] → IsOpenAt (messages_to d (transfers m.who H)) A (moves m.who d H) x.running.sender.message → y ≡ b
      requested A before y e (inl z) = absurd (some_moves z.0)
      requested A before y e (inr z) = (push_same before z.1 y x.running.sender.message (sym e ∙ z.2)).1 ∙ message

  pub received : i ≢ j → OnlySends L i a → OnlySends L j d → All (λ call. claims_anew call ≡ false) n.history → All (λ (x : ℕ × MessageRecord). x.1.pgn < 2 ^ 18) (transfers m.who m.history)
      → m.history ≡ TakeTransferEnded (Some (k, Done)) ∷ H → NoneLate a d b (2 * delay) at earlier n.history → Contains (map (λ x. x.1) (delivered n.who n.history)) b
  received apart o q anew fits is late =
      let right = subst (AreAnswered m.who) is (net.answered i m hm) in
      let x = told_done m.who H k right in
      let same = ap (slice_get (transfers m.who H)) (sym x.token) ∙ (listed m.who (to_whom x.running) H x.running right.0 x.is).at in
      let z : Some (d, b) ≡ Some (to_whom x.running, x.running.sender.message) = sym (accepted_is m.who later earlier at priority group d k bytes right.0) ∙ same in
      let y : (d, b) ≡ (to_whom x.running, x.running.sender.message) = same_Some _ _ z in
      let to : d ≡ to_whom x.running = ap (λ (v : ℕ × MessageRecord). v.0) y in
      let message : b ≡ x.running.sender.message = ap (λ (v : ℕ × MessageRecord). v.1) y in
      let taken = taken_for q is (acked_at m.who H d b (subst (λ v. Happened d (IsAcked m.who d v) H) (sym message) (subst (λ v. Happened v (IsAcked m.who v x.running.sender.message) H) (sym to) x.acked))) in
      is_whole apart o anew (subst (λ G. All (λ (x : ℕ × MessageRecord). x.1.pgn < 2 ^ 18) (transfers m.who G)) is fits) is x right.0 (sym message) (sym to)
      (ends taken (late taken.behind taken.before taken.moment taken.frame taken.is taken.said))
    where
      ends : (t : Came (λ f. said_between d a f ≡ Some (Acknowledgment (length b.bytes) (packets_of b) b.pgn)))
          → (t.moment + 2 * delay < at) ⊎ ((acknowledged d a b (frames t.before) < acknowledged d a b (hears earlier)) ⊎ All (IsNoRequest a d) (hears t.behind))
          → EndsWhole (trace n.who a n.history)
      ends t (inl l) = absurd (let u = t.in_time in omega (arith, u, l))
      ends t (inr (inl l)) = absurd (let u = t.many in omega (arith, u, l))
      ends t (inr (inr none)) =
          subst (λ G. EndsWhole (trace n.who a G)) (sym t.is)
          (ends_later n.who a t.behind (At t.moment (TakeFrame (Some t.frame)) ∷ t.before) none
          (taken_ack n.who t.before t.moment a t.frame (length b.bytes) (packets_of b) b.pgn
          (answered_from n.who t.behind (At t.moment (TakeFrame (Some t.frame)) ∷ t.before) (subst (AreAnswered n.who) t.is (net.answered j n hn)))
          (all_behind (λ call. claims_anew call ≡ false) t.behind t.before (At t.moment (TakeFrame (Some t.frame))) (subst (All (λ call. claims_anew call ≡ false)) t.is anew)) (net.address i m hm) t.said))
