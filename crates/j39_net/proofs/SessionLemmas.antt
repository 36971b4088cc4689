-- What a member hears of the transfers of one address.
use Rattle.std.proofs.Common.{[], if◌then◌else◌, ◌++◌, ◌+◌, ◌<◌, ◌||◌, ◌∙◌, ◌∷◌, ◌≡◌, ◌≢◌, ◌⊎◌, ap, arith, Bool, drop, false, filter, inl, inr, length, List, lt-ltb, nat_lt, None, not, Option, refl, Some, subst, sym, true, ℕ}
use Rattle.std.proofs.lemmas.Bool.{cases_eq}
use Rattle.std.proofs.lemmas.List.Elements.{All-head, All-tail}
use Rattle.std.specs.List.{All}
use Rattle.std.specs.Option.{is_some as is_there, option_map}
use Rattle.j39_frame.specs.Frame.{FrameRecord}
use Rattle.j39_frame.specs.Identifier.{source_of}
use Rattle.j39_address.specs.Claim.{claim_of}
use Rattle.j39_transport.specs.Message.{MessageRecord}
use Rattle.j39_transport.specs.Receiving.{said_to}
use Rattle.j39_transport.specs.Session.{SessionRecord, touched}
use Rattle.j39_transport.specs.Frames as frames
use Rattle.j39_transport.specs.Frames.{names_message}
use Rattle.j39_transport.specs.Reception.{ReceptionRecord}
use Rattle.j39_transport.specs.Signals.{broadcast_in, control_in, packet_in, request_in, RequestToSend, said_between, said_by, Signal}
use Rattle.j39_node.proofs.ReceptionLaws.{tick_is, ticked_some, was_before}
use Rattle.j39_node.proofs.ReceptionLemmas.{found_was, left, own as own_is}
use Rattle.j39_node.proofs.Tests.{not_both}
use Rattle.j39_node.specs.History.{Address, address_after, Call, claimed, holds, is_claim, is_held, is_smaller, older, step, Who}
use Rattle.j39_node.specs.History.Address.{Claimed, Lost, NotClaimed}
use Rattle.j39_node.specs.History.Call.{At, ReleaseTransfer}
use Rattle.j39_node.specs.History.Act.{Again, Hear, TakeFrame, Tick}
use Rattle.j39_node.specs.Prompt.{claims_anew}
use Rattle.j39_node.specs.Reception.{delivered, events, found_by, heard_by, holder, if_heard, is_reply, reception, replies, restarts, session, sessions_after, taken_by, time_heard, whole}
use Rattle.j39_sessions.specs.Sessions.{AreApart, has_room, hears as hears_one, is_left, is_of_session, leaves, listed, made, name_by, of, receiving, replies_ticked, Session, session_by, sessions_ticked, SessionsRecord, since_by, step_in, unsaid}
use Rattle.j39_sessions.specs.Events.{Event}
use Rattle.j39_sessions.proofs.BringLemmas.{session_said}
use Rattle.j39_sessions.proofs.LawLemmas.{each_apart, new, of_from, source_at}
use Rattle.j39_sessions.proofs.SourceLemmas.{delivers_its, heard_cases}
use Rattle.j39_net.proofs.HearLemmas.{Hears, its_whole, none_whole, of_result, stamped, wholes, wholes_more}
use Rattle.j39_net.proofs.StepLemmas.{all_some, bare, IsNoRts, mark, somes, somes_more, somes_step, Step, steps, ticked}
use Rattle.j39_net.specs.Net.{hears}

-- ---- where the address isn't held none is open, and none waits to be said

pub older_held : (s : ℕ) (a : Address) → is_held (older s a) ≡ false → is_held a ≡ false
older_held s NotClaimed e = refl
older_held s Lost e = refl
older_held s (Claimed n) e = grind (arith, e)

claimed_held : (a : Address) (b : Bool) → is_held (if b then claimed a else a) ≡ false → is_held a ≡ false
claimed_held a false e = e
claimed_held NotClaimed true e = refl
claimed_held Lost true e = refl
claimed_held (Claimed n) true e = e

abbrev pub IsEmpty : SessionsRecord → Type 0
IsEmpty s = (s.sessions ≡ []) × (s.replies ≡ [])

pub leaves_empty : (gone : Option ℕ) (holds : ℕ → Option ℕ) (s : SessionsRecord) → IsEmpty s → IsEmpty (leaves gone holds s)
leaves_empty gone holds s h =
    (ap (filter (λ x. not (is_left gone holds x))) h.0, (λ i. unsaid (filter (is_left gone holds) (h.0 i)) (h.1 i)))

taken_empty : (w : Who) (E : List Event) (holds : ℕ → Option ℕ) (x y : Bool) → IsEmpty (sessions_after w E) → IsEmpty (sessions_after w (taken_by x y holds E))
taken_empty w E holds true y h = leaves_empty None holds (sessions_after w E) h
taken_empty w E holds false true h = (h.0, ap (drop 1) h.1)
taken_empty w E holds false false h = h

pub empty : (w : Who) (H : List Call) → All (λ call. claims_anew call ≡ false) H → is_held (address_after w H) ≡ false → IsEmpty (reception w H)
empty w [] n e = (refl, refl)
empty w (At now (Hear f) ∷ H) n e =
    go (λ z. empty w H (All-tail (λ call. claims_anew call ≡ false) (At now (Hear f)) H n) z) (is_smaller w (claim_of f)) e
  where
    go : (is_held (address_after w H) ≡ false → IsEmpty (reception w H)) → (b : Bool) → is_held (if b then Lost else older (step H now) (address_after w H)) ≡ false
        → IsEmpty (sessions_after w (heard_by b (holds w H now) (time_heard (At now (Hear f) ∷ H)) (holder w (At now (Hear f) ∷ H) (source_of f.id)) f (left w H now f)))
    go rec true z = (refl, refl)
    go rec false z =
        subst (λ (y : Bool). IsEmpty (sessions_after w (heard_by false y (time_heard (At now (Hear f) ∷ H)) (holder w (At now (Hear f) ∷ H) (source_of f.id)) f (left w H now f)))) (sym z)
        (leaves_empty (restarts w H now f) (holder w (At now (Hear f) ∷ H)) (reception w H) (rec (older_held (step H now) (address_after w H) z)))
empty w (At now Tick ∷ H) n e =
    let h = empty w H (All-tail (λ call. claims_anew call ≡ false) (At now Tick) H n) (older_held (step H now) (address_after w H) e) in
    (ap (sessions_ticked (reception w H).own (time_heard (At now Tick ∷ H))) h.0, (λ i. replies_ticked (reception w H).own (time_heard (At now Tick ∷ H)) (h.0 i) (h.1 i)))
empty w (At now (TakeFrame (Some f)) ∷ H) n e =
    taken_empty w (events w H) (holder w (At now (TakeFrame (Some f)) ∷ H)) (is_claim f) (is_reply (replies w H) f)
    (empty w H (All-tail (λ call. claims_anew call ≡ false) (At now (TakeFrame (Some f))) H n)
    (older_held (step H now) (address_after w H) (claimed_held (older (step H now) (address_after w H)) (is_claim f) e)))
empty w (At now Again ∷ H) n e = absurd (let z = All-head (λ call. claims_anew call ≡ false) (At now Again) H n in cc)
empty w (At now act ∷ H) n e = empty w H (All-tail (λ call. claims_anew call ≡ false) (At now act) H n) (older_held (step H now) (address_after w H) e)
empty w (ReleaseTransfer true ∷ H) n e = let h = empty w H (All-tail (λ call. claims_anew call ≡ false) (ReleaseTransfer true) H n) e in (h.0, h.1)
empty w (ReleaseTransfer false ∷ H) n e = empty w H (All-tail (λ call. claims_anew call ≡ false) (ReleaseTransfer false) H n) e
empty w (call ∷ H) n e = empty w H (All-tail (λ call. claims_anew call ≡ false) call H n) e

held : (w : Who) (H : List Call) (now : ℕ) → All (λ call. claims_anew call ≡ false) H → (a : ℕ) (x : Session) → session w H a ≡ Some x → holds w H now ≡ true
held w H now n a x e = go (holds w H now) refl
  where
    go : (b : Bool) → holds w H now ≡ b → holds w H now ≡ true
    go true i = i
    go false i = absurd (let none = empty w H n (older_held (step H now) (address_after w H) i) in let z : None ≡ Some x = ap (of a) (sym none.0) ∙ e in cc)

-- ---- what a frame says, from one address to another

pub same_said : (a d : ℕ) (f g : FrameRecord) → g.id ≡ f.id → g.bytes ≡ f.bytes → said_between a d g ≡ said_between a d f
unfolding said_between said_by control_in request_in broadcast_in packet_in names_message
same_said a d f g e b = λ i. said_between a d (record { stamp = 0; id = e i; bytes = b i })

pub said_is : (own : ℕ) (f : FrameRecord) → source_of f.id < 254 → said_to own f ≡ said_between (source_of f.id) own f
unfolding said_to frames.source_of
said_is own f l = ap (λ (t : Bool). if t then said_between (source_of f.id) own f else None) (lt-ltb (source_of f.id) 254 l)

pub not_from : (a d : ℕ) (f : FrameRecord) → source_of f.id ≢ a → said_between a d f ≡ None
unfolding said_between frames.source_of
not_from a d f n = grind (arith, n)

pub none_asked : (s : Option Signal) → s ≡ None → IsNoRts s
none_asked s e size packets most pgn z = absurd (let y : None ≡ Some (RequestToSend size packets most pgn) = sym e ∙ z in cc)

-- ---- a frame is heard

-- what is open, but for its times
abbrev pub plain : Option Session → Option SessionRecord
plain o = bare (receiving o)

receiving_by : (since : ℕ) (name : Option ℕ) (r : Option ReceptionRecord) → receiving (option_map (session_by since name) r) ≡ r
receiving_by since name None = refl
receiving_by since name (Some r) = refl

pub results_are : (stamp : ℕ) (o : Option MessageRecord) → of_result (option_map (λ m. (stamp, m)) o) ≡ listed o
results_are stamp None = refl
results_are stamp (Some m) = refl

pub stamped_is : (stamp : ℕ) (o : Option MessageRecord) (p : ℕ × MessageRecord) → option_map (λ m. (stamp, m)) o ≡ Some p → o ≡ Some p.1
stamped_is stamp None p e = absurd (cc)
stamped_is stamp (Some m) p e = let z : (stamp, m) ≡ p = cc in ap (λ (v : ℕ × MessageRecord). (let o : Option MessageRecord = Some v.1 in o)) z

room_for : (s : SessionsRecord) (a : ℕ) (r : ReceptionRecord) → receiving (of a s.sessions) ≡ Some r → (r.message.source ≡ a) × (has_room a s ≡ true)
room_for s a r e = go (of a s.sessions) refl
  where
    go : (o : Option Session) → of a s.sessions ≡ o → (r.message.source ≡ a) × (has_room a s ≡ true)
    go None i = absurd (let z : None ≡ Some r = ap receiving (sym i) ∙ e in cc)
    go (Some x) i =
        let y : Some x.reception ≡ Some r = ap receiving (sym i) ∙ e in
        let z : x.reception ≡ r = cc in (
          ap (λ (q : ReceptionRecord). q.message.source) (sym z) ∙ source_at a s.sessions x i,
          ap (λ (o : Option Session). is_there o || nat_lt (length s.sessions + length s.waits) s.boxes) i,
        )

-- what is of no session asks for nothing
pub none_of_session : (s : SessionsRecord) (f : FrameRecord) (a : ℕ) → a < 254 → is_of_session s.own f ≡ false → IsNoRts (said_between a s.own f)
none_of_session s f a l q size packets most pgn z = elim (cases_eq (source_of f.id) a) [
  | inl e ↦ absurd (not_both (is_of_session s.own f) q (session_said s.own f (RequestToSend size packets most pgn)
      (said_is s.own f (let m = l in omega (arith, m, e)) ∙ (ap (λ (n : ℕ). said_between n s.own f) e ∙ z))))
  | inr n ↦ none_asked (said_between a s.own f) (not_from a s.own f n) size packets most pgn z
]

-- what sessions make of it
module _ (s : SessionsRecord) (now : ℕ) (name : Option ℕ) (f : FrameRecord) where
  abbrev Makes : ℕ → Option Session → Type 0
  Makes a p = Step a s.own (said_between a s.own f) (plain (of a s.sessions)) (plain p) (wholes a (listed (option_map (λ m. (f.stamp, m)) (made now f s))))

  pub source_is : (m : MessageRecord) → made now f s ≡ Some m → m.source ≡ source_of f.id
  source_is m = go (is_of_session s.own f)
    where
      go : (b : Bool) → (if b then (step_in now f s).delivers else None) ≡ Some m → m.source ≡ source_of f.id
      go true e = delivers_its s.own s.most (has_room (source_of f.id) s) f now (of (source_of f.id) s.sessions) m (of_from (source_of f.id) s.sessions) e
      go false e = absurd (cc)

  its : source_of f.id < 254 → is_of_session s.own f ≡ true → Makes (source_of f.id) (new s now name f)
  its l q =
      let a = source_of f.id in
      let o = of a s.sessions in
      let x = step_in now f s in
      subst (Step a s.own (said_between a s.own f) (plain o) (plain (new s now name f)))
      (sym (its_whole a (option_map (λ m. (f.stamp, m)) (made now f s)) (λ p e. source_is p.1 (stamped_is f.stamp (made now f s) p e))
      ∙ (results_are f.stamp (made now f s) ∙ ap (λ (t : Bool). listed (if t then x.delivers else None)) q)))
      (subst (λ (r : Option ReceptionRecord). Step a s.own (said_between a s.own f) (plain o) (bare r) (listed x.delivers)) (sym (receiving_by (since_by now o) (name_by name o) x.after.session))
      (subst (λ (t : Option Signal). Step a s.own t (plain o) (bare x.after.session) (listed x.delivers)) (said_is s.own f l)
      (steps s.own s.most (has_room a s) f now o (λ r e. room_for s a r e))))

  aside : (a : ℕ) → a < 254 → (source_of f.id ≢ a) ⊎ (is_of_session s.own f ≡ false) → Makes a (of a s.sessions)
  aside a l (inl n) =
      subst (Step a s.own (said_between a s.own f) (plain (of a s.sessions)) (plain (of a s.sessions)))
      (sym (none_whole a (option_map (λ m. (f.stamp, m)) (made now f s)) (λ p e z. n (sym (source_is p.1 (stamped_is f.stamp (made now f s) p e)) ∙ z))))
      (Step.stays (plain (of a s.sessions)) (none_asked (said_between a s.own f) (not_from a s.own f n)))
  aside a l (inr q) =
      subst (λ (t : Bool). Step a s.own (said_between a s.own f) (plain (of a s.sessions)) (plain (of a s.sessions)) (wholes a (listed (option_map (λ m. (f.stamp, m)) (if t then (step_in now f s).delivers else None)))))
      (sym q) (Step.stays (plain (of a s.sessions)) (none_of_session s f a l q))

  pub by_sessions : (a : ℕ) → a < 254 → AreApart s.sessions → Makes a (of a (hears_one now name f s).sessions)
  by_sessions a l h =
      heard_cases s now name f a (Makes a) h (aside a l)
      (λ e q. subst (λ (b : ℕ). Makes b (new s now name f)) e (its (let m = l in omega (arith, m, e)) q))

-- ---- a history

module _ (w : Who) (H : List Call) (now a : ℕ) (f : FrameRecord) where
  abbrev Then : Bool → Bool → Type 0
  Then x y =
      Step a w.address (said_between a w.address f) (plain (of a (found_by w H now f).sessions))
      (plain (of a (sessions_after w (heard_by x y (time_heard (At now (Hear f) ∷ H)) (holder w (At now (Hear f) ∷ H) (source_of f.id)) f (left w H now f))).sessions))
      (wholes a (listed (option_map (λ m. (f.stamp, m)) (if_heard x y (made (time_heard (At now (Hear f) ∷ H)) f (found_by w H now f))))))

  -- where the address isn't held none is open
  step_by : a < 254 → ((x : Session) → session w H a ≡ Some x → holds w H now ≡ true) → (x y : Bool) → holds w H now ≡ y → Then x y
  step_by l h true y i = Step.ends (plain (of a (found_by w H now f).sessions))
  step_by l h false false i = go (of a (found_by w H now f).sessions) refl
    where
      go : (o : Option Session) → of a (found_by w H now f).sessions ≡ o → Step a w.address (said_between a w.address f) (plain o) (plain o) []
      go None e = Step.ends None
      go (Some x) e = absurd (not_both (holds w H now) i (h x (found_was w H now f a x e).0))
  step_by l h false true i =
      let s = found_by w H now f in
      subst (λ (n : ℕ). Step a n (said_between a n f) (plain (of a s.sessions)) (plain (of a (hears_one (time_heard (At now (Hear f) ∷ H)) (holder w (At now (Hear f) ∷ H) (source_of f.id)) f s).sessions))
      (wholes a (listed (option_map (λ m. (f.stamp, m)) (made (time_heard (At now (Hear f) ∷ H)) f s))))) (own_is w H).0
      (by_sessions s (time_heard (At now (Hear f) ∷ H)) (holder w (At now (Hear f) ∷ H) (source_of f.id)) f a l (each_apart w.address w.window w.sessions (left w H now f)))

  heard_step : a < 254 → ((x : Session) → session w H a ≡ Some x → holds w H now ≡ true)
      → Step a w.address (said_between a w.address f) (plain (of a (found_by w H now f).sessions)) (plain (session w (At now (Hear f) ∷ H) a))
      (wholes a (listed (option_map (λ m. (f.stamp, m)) (whole w H now f))))
  heard_step l h = step_by l h (is_smaller w (claim_of f)) (holds w H now) refl

-- a frame's step, and what it adds
pub record Asks (a d : ℕ) (g : FrameRecord) (o p : Option SessionRecord) (T : List (Option MessageRecord)) : Type 0 where
  pub made : List MessageRecord
  pub step : Step a d (said_between a d g) o p made
  pub adds : T ≡ mark (said_between a d g) ++ all_some made

abbrev pub adds_by : Who → List Call → ℕ → ℕ → FrameRecord → List (Option MessageRecord)
adds_by w H now a f = mark (said_between a w.address f) ++ all_some (wholes a (listed (option_map (λ m. (f.stamp, m)) (whole w H now f))))

-- the requests of an address that were heard, and what was whole of it
abbrev pub trace : Who → ℕ → List Call → List (Option MessageRecord)
trace w a [] = []
trace w a (At now (Hear f) ∷ H) = trace w a H ++ adds_by w H now a f
trace w a (call ∷ H) = trace w a H

pub wholes_are : (w : Who) (a : ℕ) (H : List Call) → somes (trace w a H) ≡ wholes a (delivered w H)
wholes_are w a [] = refl
wholes_are w a (At now (Hear f) ∷ H) =
    let new = listed (option_map (λ m. (f.stamp, m)) (whole w H now f)) in
    somes_more (trace w a H) (adds_by w H now a f)
    ∙ ((λ i. wholes_are w a H i ++ somes_step (said_between a w.address f) (wholes a new) i) ∙ sym (wholes_more a (delivered w H) new))
wholes_are w a (call ∷ H) = wholes_are w a H

-- one that is open is still, or it is over
goes_on : (w : Who) (a : ℕ) (gs : List FrameRecord) (T : List (Option MessageRecord)) (o p : Option Session) → ((y : Session) → p ≡ Some y → (x : Session) × (o ≡ Some x) × (touched 0 y.reception.message ≡ touched 0 x.reception.message))
    → Hears (Asks a w.address) gs (plain o) T → Hears (Asks a w.address) gs (plain p) T
goes_on w a gs T o None h k = Hears.loses gs (plain o) T k
goes_on w a gs T o (Some y) h k =
    let z = h y refl in
    subst (λ q. Hears (Asks a w.address) gs q T) (ap plain z.1 ∙ ap (λ (r : SessionRecord). (let q : Option SessionRecord = Some r in q)) (sym z.2)) k

pub hears_transfers : (w : Who) (a : ℕ) → a < 254 → (H : List Call) → All (λ call. claims_anew call ≡ false) H
    → Hears (Asks a w.address) (hears H) (plain (session w H a)) (trace w a H)
hears_transfers w a l [] n = Hears.none
hears_transfers w a l (At now (Hear f) ∷ H) n =
    let rest = All-tail (λ call. claims_anew call ≡ false) (At now (Hear f)) H n in
    let new = option_map (λ m. (f.stamp, m)) (whole w H now f) in
    let same = same_said a w.address f (stamped now f) refl refl in
    Hears.heard (hears H) (stamped now f) (plain (of a (found_by w H now f).sessions)) (plain (session w (At now (Hear f) ∷ H) a)) (trace w a H) (adds_by w H now a f)
    (record {
      made = wholes a (listed new);
      step = subst (λ (t : Option Signal). Step a w.address t (plain (of a (found_by w H now f).sessions)) (plain (session w (At now (Hear f) ∷ H) a)) (wholes a (listed new))) (sym same)
          (heard_step w H now a f l (λ x e. held w H now rest a x e));
      adds = ap (λ (t : Option Signal). mark t ++ all_some (wholes a (listed new))) (sym same);
    })
    (goes_on w a (hears H) (trace w a H) (session w H a) (of a (found_by w H now f).sessions) (λ y e. (y, (found_was w H now f a y e).0, refl)) (hears_transfers w a l H rest))
hears_transfers w a l (At now Tick ∷ H) n =
    goes_on w a (hears H) (trace w a H) (session w H a) (session w (At now Tick ∷ H) a)
    (λ y e. (let t = ticked_some w.address (time_heard (At now Tick ∷ H)) (session w H a) y (sym (tick_is w H now a) ∙ e) in
    (t.0, t.1, ticked w.address (time_heard (At now Tick ∷ H)) t.0 y t.2)))
    (hears_transfers w a l H (All-tail (λ call. claims_anew call ≡ false) (At now Tick) H n))
hears_transfers w a l (call ∷ H) n =
    goes_on w a (hears H) (trace w a H) (session w H a) (session w (call ∷ H) a) (λ y e. (y, (was_before w H call refl a y e).is, refl))
    (hears_transfers w a l H (All-tail (λ call. claims_anew call ≡ false) call H n))
