-- What a member hears of broadcasts of one address.
use Rattle.std.proofs.Common.{[], if◌then◌else◌, ◌++◌, ◌||◌, ◌∙◌, ◌∷◌, ◌≡◌, ◌≢◌, ap, Bool, drop, eq-eqb, eqb-true, false, filter, inl, inr, List, map, nat_eq, None, not, Option, refl, slice_index, Some, subst, suc, sym, true, ℕ}
use Rattle.std.proofs.lemmas.Bool.{cases_eq, ne_eqb, or_parts}
use Rattle.std.proofs.lemmas.List.{map-append}
use Rattle.std.proofs.lemmas.List.Elements.{filter-append}
use Rattle.std.specs.Option.{is_some as is_there}
use Rattle.j39_frame.specs.Frame.{FrameRecord}
use Rattle.j39_frame.specs.Identifier.{source_of}
use Rattle.j39_transport.specs.Frames as frame
use Rattle.j39_transport.specs.Frames.{pgn_named, size_named}
use Rattle.j39_transport.specs.Message.{MessageRecord}
use Rattle.j39_node.proofs.HearingLaws.{none_found, others_leave}
use Rattle.j39_node.proofs.HearingLemmas.{Kept, kept_by, of_filter, of_its, Open, open_part, stands, stands_found}
use Rattle.j39_node.proofs.ListenLemmas.{all_of, begun_open}
use Rattle.j39_node.proofs.PacketsAnswer.{made_by_packet}
use Rattle.j39_node.specs.Hearing.{announces, begun, found, found_in, grown, has_box, has_room, hearing, is_ignored, is_over, is_whole, listening, made_whole, message_by, of, OpenBroadcast, opens as opens_it, packed, packs, since_in, skips, staying, whole_broadcasts, whole_of}
use Rattle.j39_node.specs.History.{Call, is_claim, Who}
use Rattle.j39_node.specs.History.Call.{At, ReleaseBroadcast}
use Rattle.j39_node.specs.History.Act.{Hear, TakeFrame, Tick}
use Rattle.j39_node.specs.Reception.{holder, time_heard}
use Rattle.j39_sessions.specs.Sessions.{listed}
use Rattle.j39_net.specs.Net.{hears}

-- ---- a frame at a time

-- the packet of the next number is appended
pub record IsGrown (g : FrameRecord) (x y : OpenBroadcast) : Type 0 where
  pub source : y.source ≡ x.source
  pub group : y.group ≡ x.group
  pub size : y.size ≡ x.size
  pub count : y.count ≡ suc x.count
  pub bytes : y.bytes ≡ x.bytes ++ drop 1 g.bytes
  pub number : slice_index g.bytes 0 ≡ suc x.count
  pub lacked : is_whole x ≡ false

-- a broadcast that is announced
pub record IsBegun (a : ℕ) (g : FrameRecord) (y : OpenBroadcast) : Type 0 where
  pub source : y.source ≡ a
  pub group : y.group ≡ pgn_named g
  pub size : y.size ≡ size_named g
  pub count : y.count ≡ 0
  pub bytes : y.bytes ≡ []

-- what a frame makes of the open broadcast of an address, and what is whole by it
pub data Step (a : ℕ) (g : FrameRecord) : Option OpenBroadcast → Option OpenBroadcast → List MessageRecord → Type 0 where
  ends : (o : Option OpenBroadcast) → Step a g o None []
  stays : (o : Option OpenBroadcast) → (source_of g.id ≡ a → announces g ≡ false) → Step a g o o []
  opens : (o : Option OpenBroadcast) (y : OpenBroadcast) → source_of g.id ≡ a → announces g ≡ true → IsBegun a g y → Step a g o (Some y) []
  grows : (x y : OpenBroadcast) → source_of g.id ≡ a → packs g ≡ true → IsGrown g x y → Step a g (Some x) (Some y) []
  makes : (x y : OpenBroadcast) → source_of g.id ≡ a → packs g ≡ true → IsGrown g x y → is_whole y ≡ true → Step a g (Some x) None ((message_by y).1 ∷ [])

-- what is heard leaves this open, and these were whole, by what a frame makes of it
pub data Hears {S T : Type 0} (Step : FrameRecord → Option S → Option S → List T → Type 0) : List FrameRecord → Option S → List T → Type 0 where
  none : Hears Step [] None []
  loses : (gs : List FrameRecord) (o : Option S) (W : List T) → Hears Step gs o W → Hears Step gs None W
  heard : (gs : List FrameRecord) (g : FrameRecord) (o p : Option S) (W made : List T) → Step g o p made → Hears Step gs o W → Hears Step (gs ++ g ∷ []) p (W ++ made)

abbrev pub Listens : ℕ → List FrameRecord → Option OpenBroadcast → List MessageRecord → Type 0
Listens a = Hears (Step a)

-- the frame with the moment of the call
abbrev pub stamped : ℕ → FrameRecord → FrameRecord
stamped now f = record { stamp = now; id = f.id; bytes = f.bytes }

pub same_announces : (f g : FrameRecord) → g.id ≡ f.id → g.bytes ≡ f.bytes → announces g ≡ announces f
unfolding frame.is_announcement frame.goes frame.names_message
same_announces f g e d = λ i. announces (record { stamp = 0; id = e i; bytes = d i })

pub same_packs : (f g : FrameRecord) → g.id ≡ f.id → g.bytes ≡ f.bytes → packs g ≡ packs f
unfolding frame.is_packet frame.goes
same_packs f g e d = λ i. packs (record { stamp = 0; id = e i; bytes = d i })

-- ---- one frame of its own

abbrev pub of_result : Option (ℕ × MessageRecord) → List MessageRecord
of_result o = map (λ x. x.1) (listed o)

-- by what a frame makes of it
abbrev StepTo : ℕ → FrameRecord → Option OpenBroadcast → Option OpenBroadcast → Type 0
StepTo a g o z = Step a g o (open_part z) (of_result (whole_of z))

-- one that isn't whole stays open
left_open : (a : ℕ) (g : FrameRecord) (o : Option OpenBroadcast) (y : OpenBroadcast) → is_whole y ≡ false → Step a g o (Some y) [] → StepTo a g o (Some y)
left_open a g o y e s =
    subst (λ (t : Bool). Step a g o (if t then None else Some y) (of_result (if t then Some (message_by y) else None))) (sym e) s

begins_it : (a when since now : ℕ) (name : Option ℕ) (f : FrameRecord) (o : Option OpenBroadcast) → source_of f.id ≡ a → announces f ≡ true
    → StepTo a (stamped when f) o (Some (begun name since now f))
begins_it a when since now name f o s e =
    left_open a (stamped when f) o (begun name since now f) (begun_open name since now f e)
    (opens o (begun name since now f) s (same_announces f (stamped when f) refl refl ∙ e) (record { source = s; group = refl; size = refl; count = refl; bytes = refl }))

by_announcement : (w : Who) (name : Option ℕ) (now when a : ℕ) (f : FrameRecord) (room ignored : Bool) (o : Option OpenBroadcast) → source_of f.id ≡ a
    → announces f ≡ true → (room ≡ false → o ≡ None)
    → StepTo a (stamped when f) o (if room then (if ignored then None else Some (begun name (since_in now o) now f)) else o)
by_announcement w name now when a f true true o s e r = ends o
by_announcement w name now when a f true false o s e r = begins_it a when (since_in now o) now name f o s e
by_announcement w name now when a f false ignored o s e r = subst (λ z. StepTo a (stamped when f) z z) (sym (r refl)) (ends None)

pub grown_is : (now when : ℕ) (f : FrameRecord) (x : OpenBroadcast) → slice_index f.bytes 0 ≡ suc x.count → is_whole x ≡ false → IsGrown (stamped when f) x (grown now f x)
grown_is now when f x n e = record { source = refl; group = refl; size = refl; count = refl; bytes = refl; number = n; lacked = e }

appended : (now when a : ℕ) (f : FrameRecord) (x : OpenBroadcast) (t : Bool) → is_whole (grown now f x) ≡ t → source_of f.id ≡ a → packs f ≡ true
    → slice_index f.bytes 0 ≡ suc x.count → is_whole x ≡ false
    → Step a (stamped when f) (Some x) (if t then None else Some (grown now f x)) (of_result (if t then Some (message_by (grown now f x)) else None))
appended now when a f x true i s e n l =
    makes x (grown now f x) s (same_packs f (stamped when f) refl refl ∙ e) (grown_is now when f x n l) i
appended now when a f x false i s e n l = grows x (grown now f x) s (same_packs f (stamped when f) refl refl ∙ e) (grown_is now when f x n l)

by_number : (now when a : ℕ) (f : FrameRecord) (x : OpenBroadcast) (skip next : Bool) → nat_eq (slice_index f.bytes 0) (suc x.count) ≡ next → source_of f.id ≡ a
    → announces f ≡ false → packs f ≡ true → is_whole x ≡ false
    → StepTo a (stamped when f) (Some x) (if skip then None else if next then Some (grown now f x) else Some x)
by_number now when a f x true next n s e p l = ends (Some x)
by_number now when a f x false true n s e p l = appended now when a f x (is_whole (grown now f x)) refl s p (eqb-true _ _ n) l
by_number now when a f x false false n s e p l =
    left_open a (stamped when f) (Some x) x l (stays (Some x) (λ z. same_announces f (stamped when f) refl refl ∙ e))

by_packet : (now when a : ℕ) (f : FrameRecord) (o : Option OpenBroadcast) → source_of f.id ≡ a → announces f ≡ false → packs f ≡ true
    → ((x : OpenBroadcast) → o ≡ Some x → is_whole x ≡ false) → StepTo a (stamped when f) o (packed now f o)
by_packet now when a f None s e p l = ends None
by_packet now when a f (Some x) s e p l =
    by_number now when a f x (skips f x) (nat_eq (slice_index f.bytes 0) (suc x.count)) refl s e p (l x refl)

-- ---- whole messages of one address

abbrev pub is_of : ℕ → MessageRecord → Bool
is_of a m = nat_eq m.source a

abbrev pub wholes : ℕ → List (ℕ × MessageRecord) → List MessageRecord
wholes a ms = filter (is_of a) (map (λ x. x.1) ms)

pub wholes_more : (a : ℕ) (xs ys : List (ℕ × MessageRecord)) → wholes a (xs ++ ys) ≡ wholes a xs ++ wholes a ys
wholes_more a xs ys = ap (filter (is_of a)) (map-append (λ (x : ℕ × MessageRecord). x.1) xs ys) ∙ filter-append (is_of a) (map (λ x. x.1) xs) (map (λ x. x.1) ys)

pub its_whole : (a : ℕ) (o : Option (ℕ × MessageRecord)) → ((p : ℕ × MessageRecord) → o ≡ Some p → p.1.source ≡ a) → wholes a (listed o) ≡ of_result o
its_whole a None h = refl
its_whole a (Some p) h = ap (λ (t : Bool). if t then p.1 ∷ [] else []) (eq-eqb p.1.source a (h p refl))

pub none_whole : (a : ℕ) (o : Option (ℕ × MessageRecord)) → ((p : ℕ × MessageRecord) → o ≡ Some p → p.1.source ≢ a) → wholes a (listed o) ≡ []
none_whole a None h = refl
none_whole a (Some p) h = ap (λ (t : Bool). if t then p.1 ∷ [] else []) (ne_eqb p.1.source a (h p refl))

-- ---- a history

module _ (w : Who) (H : List Call) (now : ℕ) (f : FrameRecord) where
  abbrev K : List Call
  K = At now (Hear f) ∷ H

  abbrev a : ℕ
  a = source_of f.id

  abbrev o : Option OpenBroadcast
  o = found w H now f a

  abbrev time : ℕ
  time = time_heard K

  abbrev name : Option ℕ
  name = holder w K a

  abbrev room : Bool
  room = has_room w.boxes a (found_in w H now f)

  abbrev result : Bool → Bool → Option OpenBroadcast
  result b c = if b then (if room then opens_it w name time f o else o) else if c then packed time f o else o

  abbrev open_by : Bool → Bool → Option OpenBroadcast
  open_by b c = if b || c then open_part (result b c) else o

  abbrev made_by : Bool → Bool → Option (ℕ × MessageRecord)
  made_by b c = if b || c then whole_of (result b c) else None

  no_room : room ≡ false → o ≡ None
  no_room r = none_there o (or_parts (is_there o) (has_box w.boxes (found_in w H now f)) r).0
    where
      none_there : (o : Option OpenBroadcast) → is_there o ≡ false → o ≡ None
      none_there None e = refl
      none_there (Some x) e = absurd (cc)

  not_whole : (x : OpenBroadcast) → o ≡ Some x → is_whole x ≡ false
  not_whole x e = (all_of (Open (Kept w (At now (Hear f)) H)) a (found_in w H now f).current x (stands_found w H now f).all e).0

  kinds : (b c : Bool) → announces f ≡ b → packs f ≡ c → Step a (stamped now f) o (open_by b c) (of_result (made_by b c))
  kinds true c e p = by_announcement w name time now a f room (is_ignored w (pgn_named f)) o refl e no_room
  kinds false true e p = by_packet time now a f o refl e p not_whole
  kinds false false e p = stays o (λ z. same_announces f (stamped now f) refl refl ∙ e)

  pub own_step : Step a (stamped now f) o (hearing w K a) (wholes a (listed (made_whole w H now f)))
  own_step =
      subst (λ p. Step a (stamped now f) o p (wholes a (listed (made_whole w H now f)))) (sym (of_its w.boxes w name time f (found_in w H now f)))
      (subst (Step a (stamped now f) o (open_by (announces f) (packs f))) (sym (its_whole a (made_whole w H now f) (λ p e. (made_by_packet w H now f p e).1)))
      (kinds (announces f) (packs f) refl refl))

pub found_listens : (w : Who) (H : List Call) (now b : ℕ) (f : FrameRecord) (W : List MessageRecord) → Listens b (hears H) (hearing w H b) W → Listens b (hears H) (found w H now f b) W
found_listens w H now b f W h = go (found w H now f b) refl
  where
    go : (o : Option OpenBroadcast) → found w H now f b ≡ o → Listens b (hears H) o W
    go None e = loses (hears H) (hearing w H b) W h
    go (Some x) e = subst (λ p. Listens b (hears H) p W) (none_found w H now b f x e) h

-- what was open and whole before is, with what the frame makes
heard_one : (w : Who) (H : List Call) (now b : ℕ) (f : FrameRecord) (p : Option OpenBroadcast)
    → Step b (stamped now f) (found w H now f b) p (wholes b (listed (made_whole w H now f)))
    → Listens b (hears H) (hearing w H b) (wholes b (whole_broadcasts w H))
    → Listens b (hears (At now (Hear f) ∷ H)) p (wholes b (whole_broadcasts w (At now (Hear f) ∷ H)))
heard_one w H now b f p s h =
    subst (Listens b (hears H ++ stamped now f ∷ []) p) (sym (wholes_more b (whole_broadcasts w H) (listed (made_whole w H now f))))
    (heard (hears H) (stamped now f) (found w H now f b) p (wholes b (whole_broadcasts w H)) (wholes b (listed (made_whole w H now f))) s
    (found_listens w H now b f (wholes b (whole_broadcasts w H)) h))

another_step : (w : Who) (H : List Call) (now b : ℕ) (f : FrameRecord) → (source_of f.id ≡ b → ⊥)
    → Step b (stamped now f) (found w H now f b) (hearing w (At now (Hear f) ∷ H) b) (wholes b (listed (made_whole w H now f)))
another_step w H now b f n =
    subst (λ p. Step b (stamped now f) (found w H now f b) p (wholes b (listed (made_whole w H now f)))) (sym (others_leave w H now b f n))
    (subst (Step b (stamped now f) (found w H now f b) (found w H now f b))
    (sym (none_whole b (made_whole w H now f) (λ p e d. n (sym (made_by_packet w H now f p e).1 ∙ d))))
    (stays (found w H now f b) (λ z. absurd (n z))))

either_step : (w : Who) (H : List Call) (now b : ℕ) (f : FrameRecord)
    → Step b (stamped now f) (found w H now f b) (hearing w (At now (Hear f) ∷ H) b) (wholes b (listed (made_whole w H now f)))
either_step w H now b f = elim (cases_eq (source_of f.id) b) [
  | inl e ↦ subst (λ b. Step b (stamped now f) (found w H now f b) (hearing w (At now (Hear f) ∷ H) b) (wholes b (listed (made_whole w H now f)))) e (own_step w H now f)
  | inr n ↦ another_step w H now b f n
]

kept_listens : (b : ℕ) (gs : List FrameRecord) (W : List MessageRecord) (p : OpenBroadcast → Bool) (o : Option OpenBroadcast) → Listens b gs o W → Listens b gs (kept_by p o) W
kept_listens b gs W p None h = h
kept_listens b gs W p (Some x) h = kept (p x)
  where
    kept : (t : Bool) → Listens b gs (if t then Some x else None) W
    kept true = h
    kept false = loses gs (Some x) W h

-- those that are over end
stay_listens : (w : Who) (H : List Call) (b : ℕ) (gs : List FrameRecord) (W : List MessageRecord) (p : OpenBroadcast → Bool) → Listens b gs (hearing w H b) W
    → Listens b gs (of b (filter p (listening w H).current)) W
stay_listens w H b gs W p h =
    subst (λ o. Listens b gs o W) (sym (of_filter p b (listening w H).current (stands w H).apart)) (kept_listens b gs W p (hearing w H b) h)

took_listens : (w : Who) (H : List Call) (now b : ℕ) (f : FrameRecord) (gs : List FrameRecord) (W : List MessageRecord) (t : Bool) → Listens b gs (hearing w H b) W
    → Listens b gs (of b (if t then staying None (holder w (At now (TakeFrame (Some f)) ∷ H)) (time_heard H) (listening w H) else listening w H).current) W
took_listens w H now b f gs W true h =
    stay_listens w H b gs W (λ x. not (is_over None (holder w (At now (TakeFrame (Some f)) ∷ H)) (time_heard H) x)) h
took_listens w H now b f gs W false h = h

pub listens : (w : Who) (H : List Call) (b : ℕ) → Listens b (hears H) (hearing w H b) (wholes b (whole_broadcasts w H))
listens w [] b = none
listens w (At now (Hear f) ∷ H) b = heard_one w H now b f (hearing w (At now (Hear f) ∷ H) b) (either_step w H now b f) (listens w H b)
listens w (At now Tick ∷ H) b =
    stay_listens w H b (hears H) (wholes b (whole_broadcasts w H)) (λ x. not (is_over None (holder w H) (time_heard (At now Tick ∷ H)) x)) (listens w H b)
listens w (At now (TakeFrame (Some f)) ∷ H) b =
    took_listens w H now b f (hears H) (wholes b (whole_broadcasts w H)) (is_claim f) (listens w H b)
listens w (ReleaseBroadcast true ∷ H) b = listens w H b
listens w (call ∷ H) b = listens w H b
