-- A message of one frame that is accepted where nothing was due is the next that is taken.
use Rattle.std.proofs.Common.{[], if◌then◌else◌, ◌&&◌, ◌+◌, ◌++◌, ◌-◌, ◌∙◌, ◌∷◌, ◌≡◌, ◌||◌, ap, append_assoc, arith, Bool, Err, false, length, List, nat_eq, None, not, Ok, Option, refl, Result, slice_get, Some, subst, sym, true, ℕ}
use Rattle.std.proofs.lemmas.Bool.{false_from_ne_true}
use Rattle.std.proofs.lemmas.Option.{none-some}
use Rattle.std.specs.Option.{option_map}
use Rattle.j39_frame.specs.Frame.{FrameRecord}
use Rattle.j39_node.proofs.Common.{all_replies, claim_due, gives_way, has_packets, lt-ltb, next_acknowledgment, next_packet, next_transfer, other}
use Rattle.j39_node.proofs.LawLemmas.{sent_within}
use Rattle.j39_node.proofs.PromptLaws.{answered_from}
use Rattle.j39_node.proofs.QueueLemmas.{get_last, length_one_more, mapped_some}
use Rattle.j39_node.proofs.SoundLemmas.{claim_is, frame_by, held_older, next_is, none_due_goes, none_gives, none_next, not_there, overdue_due, packet_there, past_end, some_at, sound}
use Rattle.j39_node.specs.History.{accepted, acknowledged, Address, address_after, Call, claim_address, claim_from, content, delayed, due, holds, is_held, is_lost, Message, message_from, message_of, older, open_broadcast, owes_claim, packets, pause, reached, request_for, step, Who}
use Rattle.j39_node.specs.History.Act.{Ask, Send, TakeFrame}
use Rattle.j39_node.specs.History.Address.{Claimed, Lost, NotClaimed}
use Rattle.j39_node.specs.History.Call.{At}
use Rattle.j39_node.specs.Is.{AreAnswered, Is, is_overdue, next_frame, packet_by, ready, stamped, turn_frame, turn_of}
use Rattle.j39_node.specs.Reception.{yields}
use Rattle.j39_node.specs.declared.controller.Controller.{Controller}
use Rattle.j39_node.specs.declared.kinds.Refused.{Refused}
use Rattle.j39_node.specs.declared.kinds.Refused.TheVariants as why
use Rattle.j39_application.specs.Outbox.{AreDone, calls, Deed, Does, draft_to, Errand, goes_by, hands_in, IsTurn, last_frame, Letter, Message as Carries, OutboxRecord, Request, Stands}
use Rattle.j39_application.specs.Outbox.Does.{gone, handed_in, waits}
use Rattle.j39_application.specs.Sending.{sent_by}
use Rattle.j39_application.specs.declared.letter.Settled.{Settled}
use Rattle.j39_application.specs.declared.letter.Settled.TheVariants as settled
use Rattle.j39_application.specs.declared.sending.Token.{Token}
use Rattle.j39_application.specs.declared.sending.Way.{Way}
use Rattle.j39_application.specs.declared.sending.Way.TheVariants as way
use Rattle.j39_application.proofs.OutboxLemmas.{done_at}

no_time : (now : ℕ) (a : Address) → older (now - now) a ≡ a
no_time now NotClaimed = refl
no_time now (Claimed e) = ap Claimed (let z : e + (now - now) ≡ e = omega arith in z)
no_time now Lost = refl

as_lost : (s : ℕ) (a : Address) → is_lost (older s a) ≡ is_lost a
as_lost s NotClaimed = refl
as_lost s (Claimed e) = refl
as_lost s Lost = refl

held_by : (h : Bool) (k : ℕ) (x : Result ℕ Refused) → Ok k ≡ (if h then x else Err why.NoAddress) → h ≡ true
held_by true k x e = refl
held_by false k x e = absurd cc

-- behind K none is taken, and then, at the same moment, one more is accepted
module _ (w : Who) (K : List Call) (now : ℕ) where
  abbrev G : List Call
  G = At now (TakeFrame None) ∷ K

  next_with : (L : List Call) (x : ℕ × Message) → claim_due w L now ≡ false → holds w L now ≡ true → slice_get (due w L) (length (acknowledged L)) ≡ None
      → slice_get (all_replies w L) 0 ≡ None → next_packet w L now ≡ None → accepted w L ≡ accepted w K ++ x ∷ [] → reached L ≡ length (accepted w K)
      → next_frame w L now ≡ Some (now, x.1)
  next_with L x c h a r p e n =
      next_is w L now None (Some x.1) (ap (λ (b : Bool). b && not (gives_way w L now)) c) h (none_due_goes w L now a)
      (single ∙ ap (option_map content) is)
    where
      overdue : is_overdue w L now ≡ false
      overdue = false_from_ne_true _ (λ o. not_there (next_packet w L now)
          (packet_there (open_broadcast w L) (length (packets L)) (pause L - step L now) ∙ overdue_due (has_packets w L) (pause L - step L now) o) p)

      reply : (ready w L now).reply ≡ false
      reply = false_from_ne_true _ (λ o. some_at (all_replies w L) 0 o r)

      message : (ready w L now).message ≡ true
      message = lt-ltb (reached L) (length (accepted w L)) (let z = ap length e in let l = length_one_more (accepted w K) x in omega (arith, z, l, n))

      single : other w L now ≡ option_map content (slice_get (accepted w L) (reached L))
      single = λ i. turn_frame (turn_of (yields w L) (record (ready w L now) { overdue = overdue i; reply = reply i; message = message i }))
          (slice_get (all_replies w L) 0) (slice_get (accepted w L) (reached L)) (next_packet w L now) (next_transfer w L now)

      is : slice_get (accepted w L) (reached L) ≡ Some x
      is = (λ i. slice_get (e i) (n i)) ∙ get_last (accepted w K) x

  none_due : holds w K now ≡ true → (let none : Option (ℕ × Message) = None in none) ≡ next_frame w K now → claim_due w K now ≡ false
  none_due h e = sym (claim_is w K now (none_gives w K now e)) ∙ false_from_ne_true _ (λ c. none-some _ (e
      ∙ ap (λ (b : Bool). frame_by b (holds w K now) (next_acknowledgment w K now) (other w K now) (claim_from w (claim_address w (address_after w K))) now) c))

  abbrev Then : List Call
  Then = At now (TakeFrame None) ∷ G

  goes : (L : List Call) (x : ℕ × Message) → AreAnswered w G → holds w G now ≡ true
      → (claim_due w Then now ≡ false → holds w Then now ≡ true → next_packet w Then now ≡ None → slice_get (due w K) (length (acknowledged K)) ≡ None
      → slice_get (all_replies w K) 0 ≡ None → reached K ≡ length (accepted w K) → next_frame w L now ≡ Some (now, x.1))
      → next_frame w L now ≡ Some (now, x.1)
  goes L x right held all =
      let b = older (step K now) (address_after w K) in
      let earlier : holds w K now ≡ true = ap is_held (sym (no_time now b)) ∙ held in
      let none = none_next w K now earlier right.1 in
      let left : ((delayed w K - step K now) - (now - now)) - (now - now) ≡ delayed w K - step K now = omega arith in
      let paused : ((pause K - step K now) - (now - now)) - (now - now) ≡ pause K - step K now = omega arith in
      let lost = as_lost (now - now) b ∙ as_lost (step K now) (address_after w K) in
      all ((λ i. owes_claim w K && (not (lost i) || nat_eq (left i) 0)) ∙ none_due earlier right.1)
      (held_older (now - now) (older (now - now) b) held)
      (ap (packet_by (open_broadcast w K) (length (packets K))) paused ∙ none.rest.packet)
      none.acknowledgment none.rest.reply
      (let m = past_end (accepted w K) (reached K) none.rest.message in let s = sent_within w K (sound w K right.0) in omega (arith, m, s))

  taken : (L : List Call) (m : Message) (frame : Option FrameRecord) → option_map stamped frame ≡ next_frame w L now → next_frame w L now ≡ Some (now, m)
      → (f : FrameRecord) × (frame ≡ Some f) × (message_of f ≡ m)
  taken L m frame e n = let z = mapped_some stamped frame (now, m) (e ∙ n) in (z.0, z.1, ap (λ (y : ℕ × Message). y.1) z.2)

  at_once : (e : Errand) (a k : ℕ) (frame : Option FrameRecord) → goes_by e a ≡ way.Frame
      → AreAnswered w (At now (TakeFrame frame) ∷ hands_in now e a (Ok k) ∷ G)
      → (f : FrameRecord) × (frame ≡ Some f) × (message_of f ≡ message_from w (draft_to a e))
  at_once (Carries priority group bytes) a k frame y h =
      let d = draft_to a (Carries priority group bytes) in
      let L : List Call = At now (Send d (Ok k)) ∷ G in
      let r = subst (λ (x : Way). AreAnswered w (At now (TakeFrame frame) ∷ At now (sent_by x d (Ok k)) ∷ G)) y h in
      let x : ℕ × Message = (k, message_from w d) in
      taken L (message_from w d) frame r.1 (goes L x r.0.0 (held_by _ k _ r.0.1) (λ c g p u v n. next_with L x c g u v p refl n))
  at_once (Request group) a k frame y h =
      let L : List Call = At now (Ask group a (Ok k)) ∷ G in
      let x : ℕ × Message = (k, message_from w (request_for group a)) in
      taken L (message_from w (request_for group a)) frame h.1 (goes L x h.0.0 (held_by _ k _ h.0.1) (λ c g p u v n. next_with L x c g u v p refl n))

-- ---- by turns

module _ (w : Who) (H : List Call) (now : ℕ) where
  before : (earlier : List Deed) → last_frame earlier ≡ None → (K : List Call) × (calls now earlier ++ H ≡ At now (TakeFrame None) ∷ K)
  before [] z = (H, refl)
  before (d ∷ earlier) z = ((d.calls ++ calls now earlier) ++ H, ap (λ (o : Option FrameRecord). At now (TakeFrame o) ∷ ((d.calls ++ calls now earlier) ++ H)) z)

  answered : (later ds : List Deed) → AreAnswered w (calls now (later ++ ds) ++ H) → AreAnswered w (calls now ds ++ H)
  answered [] ds r = r
  answered (d ∷ later) ds r =
      let C = calls now (later ++ ds) in
      answered later ds (answered_from w d.calls (C ++ H) (subst (AreAnswered w) (append_assoc d.calls C H) r.0))

  is_last : (later : List Deed) (d : Deed) (earlier : List Deed) (f : FrameRecord) → AreDone w H now (later ++ d ∷ earlier) → d.frame ≡ Some f
      → last_frame (later ++ d ∷ earlier) ≡ Some f
  is_last [] d earlier f t e = e
  is_last (x ∷ later) d earlier f t e = absurd (none-some f (sym t.1 ∙ is_last later d earlier f t.2 e))

abbrev Goes : Who → List Call → Letter → Option FrameRecord → Type 0
Goes w H o frame = (a : ℕ) × (f : FrameRecord) × Stands w H o.name a × (frame ≡ Some f) × (message_of f ≡ message_from w (draft_to a o.errand))

refused_or_kept : (b : Bool) (token : Token) → (if b then Some (settled.Refused why.NoAddress) else None) ≡ Some (settled.HandedIn token) → ⊥
refused_or_kept true token e = cc
refused_or_kept false token e = cc

module _ (w : Who) (G K : List Call) (now : ℕ) (frame : Option FrameRecord) (token : Token) (is : G ≡ At now (TakeFrame None) ∷ K) (by : token.way ≡ way.Frame) where
  by_frame : (o next : Letter) (C : List Call) (how : Option Settled) → Does w G now o C next how → how ≡ Some (settled.HandedIn token)
      → AreAnswered w (At now (TakeFrame frame) ∷ C ++ G) → Goes w G o frame
  by_frame o _ _ _ (handed_in a (Ok t) s y) e r =
      let q : token ≡ t = cc in
      let z = at_once w K now o.errand a t.number frame (sym y ∙ (ap (λ (x : Token). x.way) (sym q) ∙ by))
      (subst (λ (M : List Call). AreAnswered w (At now (TakeFrame frame) ∷ hands_in now o.errand a (Ok t.number) ∷ M)) is r) in
      (a, z.0, s, z.1, z.2)
  by_frame o _ _ _ (handed_in a (Err why.NoAddress) s y) e r = absurd (refused_or_kept (nat_eq o.left 0) token e)
  by_frame o _ _ _ (handed_in a (Err why.BadValue) s y) e r = absurd cc
  by_frame o _ _ _ (handed_in a (Err why.Full) s y) e r = absurd cc
  by_frame o _ _ _ (waits s l) e r = absurd cc
  by_frame o _ _ _ (gone s z) e r = absurd cc

pub goes_at_once : (w : Who) (H : List Call) (c : Controller) (now : ℕ) (s : OutboxRecord) (later : List Deed) (d : Deed) (earlier : List Deed)
    (rest : List Letter) (token : Token) → IsTurn w H now s (later ++ d ∷ earlier) rest → Is w (calls now (later ++ d ∷ earlier) ++ H) c
    → d.settled ≡ Some (settled.HandedIn token) → token.way ≡ way.Frame → Goes w (calls now earlier ++ H) d.letter (last_frame (later ++ d ∷ earlier))
goes_at_once w H c now s later d earlier rest token t is e by =
    let does = done_at w H now later d earlier t.does in
    let k = before w H now earlier does.1 in
    let r = answered w H now later (d ∷ earlier) is.answered in
    let z = by_frame w (calls now earlier ++ H) k.0 now d.frame token k.1 by d.letter d.after d.calls d.settled does.0 e
    (subst (λ (M : List Call). AreAnswered w (At now (TakeFrame d.frame) ∷ M)) (append_assoc d.calls (calls now earlier) H) r) in
    (z.0, z.1, z.2, is_last w H now later d earlier z.1 t.does z.3, z.4)
