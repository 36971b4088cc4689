-- A message in packets answers a request by the frame that makes it whole, be it to this address or to all.
use Rattle.j39_node.proofs.Common.{[], and_from, and_parts, Answered, ap, AreApart, arith, At, Bool, Call, comes, comes_by, comes_in, destination_of, eq-eqb, eqb-true, false, found_in, FrameRecord, Hear, hearing, holder, IfSome, if◌then◌else◌, inl, inr, is_coming, is_late, is_session_open, IsTrue, List, list_any, listening, made_whole, MessageRecord, nat_eq, None, not, of, open_ask, OpenBroadcast, Option, or-true, packs, Question, reception, refl, says_to, seeks, Session, session, Some, source_of, subst, sym, time_heard, true, Who, ℕ, ◌<◌, ◌||◌, ◌↔◌, ◌∙◌, ◌∷◌, ◌≡◌, ◌⊎◌}
use Rattle.j39_node.specs.Hearing.{is_whole as is_full}
use Rattle.j39_transport.specs.Frames as frames
use Rattle.j39_node.proofs.HearingLaws.{made_is}
use Rattle.j39_node.proofs.HearingLemmas.{Kept, Open, result_is, result_source, stands, stands_found}
use Rattle.j39_node.proofs.ListenLemmas.{begun_open}
use Rattle.j39_node.proofs.ReceptionLemmas.{apart}
use Rattle.j39_sessions.proofs.SourceLemmas.{of_group, open_of}

-- ---- a message of the group, from whom was asked, answers

seeks_by : (q : Question) (source group : ℕ) → group ≡ q.group → (q.to ≡ 255) ⊎ (source ≡ q.to) → seeks q (Some (source, group)) ≡ true
seeks_by q source group e f = grind (arith, e, f)

pub answers_by : (w : Who) (q : Question) (f : FrameRecord) (m : MessageRecord) (o : Option (ℕ × ℕ)) → o ≡ Some (m.source, m.pgn) → m.pgn ≡ q.group
    → (q.to ≡ 255) ⊎ (m.source ≡ q.to) → says_to w q f o ≡ Some Answered
answers_by w q f m o e g i = grind (arith, e, g, i)

-- ---- a broadcast is made whole by _ a _ packet to all

pub made_by_packet : (who : Who) (H : List Call) (when : ℕ) (f : FrameRecord) (p : ℕ × MessageRecord) → made_whole who H when f ≡ Some p
    → (packs f ≡ true) × (p.1.source ≡ source_of f.id)
made_by_packet who H when f p e =
    let G = At when (Hear f) ∷ H in
    let name = holder who G (source_of f.id) in
    let z = made_is who H when f p e in
    let q = result_is who.boxes who name (time_heard G) f (found_in who H when f) (Open (Kept who (At when (Hear f)) H)) (λ y. is_full y ≡ true → packs f ≡ true)
    (λ since z a i w. absurd (let k : true ≡ false = sym w ∙ begun_open name since (time_heard G) f a in cc)) (λ y b k m g w. b)
    (λ y a k m g w. absurd (let n : true ≡ false = sym w ∙ g.0 in cc)) (stands_found who H when f).all in
    let s = result_source who.boxes who name (time_heard G) f (found_in who H when f) in (
      subst (λ (o : Option OpenBroadcast). IfSome o (λ y. is_full y ≡ true → packs f ≡ true)) z.1 q z.2,
      ap (λ (m : ℕ × MessageRecord). m.1.source) z.3 ∙ subst (λ (o : Option OpenBroadcast). IfSome o (λ y. y.source ≡ source_of f.id)) z.1 s,
    )

pub packs_to_all : (f : FrameRecord) → packs f ≡ true → destination_of f.id ≡ Some 255
unfolding frames.is_packet frames.goes frames.group_of frames.source_of frames.destination_of
packs_to_all f e = grind (arith, e)

-- ---- so it isn't one to this address

pub to_another : (own : ℕ) (d : Option ℕ) → own < 254 → d ≡ Some 255 → d ≡ Some own → ⊥
to_another own d l e g = absurd (let z : Some 255 ≡ Some own = sym e ∙ g in let y : 255 ≡ own = cc in omega (arith, y, l))

-- ---- one that is on its way

seeks_from : (q : Question) (source group : ℕ) → seeks q (Some (source, group)) ≡ true → (group ≡ q.group) × ((q.to ≡ 255) ⊎ (source ≡ q.to))
seeks_from q source group e = (grind (arith, e), grind (arith, e))

abbrev InSession : Who → List Call → Question → Type 0
InSession w H q = (x : Session) × (session w H q.to ≡ Some x) × (x.reception.message.group ≡ q.group)

abbrev InBroadcast : Who → List Call → ℕ → Question → Type 0
InBroadcast w H time q =
    (x : OpenBroadcast) × (a : ℕ) × (hearing w H a ≡ Some x) × (is_late time x ≡ false) × (x.group ≡ q.group) × ((q.to ≡ 255) ⊎ (x.source ≡ q.to))

-- one of those that are open
any_open : (p : OpenBroadcast → Bool) (xs : List OpenBroadcast) → AreApart xs → list_any p xs ≡ true → (x : OpenBroadcast) × (of x.source xs ≡ Some x) × (p x ≡ true)
any_open p [] h e = absurd (cc)
any_open p (x ∷ xs) h e = go (p x) refl e (any_open p xs h.1)
  where
    go : (b : Bool) → p x ≡ b → (b || list_any p xs) ≡ true → (list_any p xs ≡ true → (y : OpenBroadcast) × (of y.source xs ≡ Some y) × (p y ≡ true))
        → (y : OpenBroadcast) × (of y.source (x ∷ xs) ≡ Some y) × (p y ≡ true)
    go true i z k = (x, ap (λ (b : Bool). if b then Some x else of x.source xs) (eq-eqb x.source x.source refl), i)
    go false i z k = let y = k z in (y.0, later y.0 y.1 (nat_eq y.0.source x.source) refl, y.2)
      where
        later : (y : OpenBroadcast) → of y.source xs ≡ Some y → (b : Bool) → nat_eq y.source x.source ≡ b → (if b then Some x else of y.source xs) ≡ Some y
        later y e b f = grind (arith, e, f)

open_any : (p : OpenBroadcast → Bool) (a : ℕ) (xs : List OpenBroadcast) (x : OpenBroadcast) → of a xs ≡ Some x → p x ≡ true → list_any p xs ≡ true
open_any p a [] x e g = absurd (cc)
open_any p a (y ∷ xs) x e g = let h = open_any p a xs x in grind (arith, h, e, g)

pub comes_means : (w : Who) (H : List Call) (time : ℕ) (q : Question) → open_ask H ≡ Some q → (IsTrue (comes w H time) ↔ (InSession w H q ⊎ InBroadcast w H time q))
comes_means w H time q o = (
  λ z. split (is_session_open q.to q.group (reception w H).sessions) (comes_in time q (listening w H).current) refl refl
      (sym (ap (λ (x : Option Question). is_coming time x (reception w H).sessions (listening w H).current) o) ∙ z),
  from,
)
  where
    opens : is_session_open q.to q.group (reception w H).sessions ≡ of_group q.group (session w H q.to)
    opens = open_of q.to q.group (reception w H).sessions (apart w H)

    by_session : (s : Option Session) → session w H q.to ≡ s → of_group q.group s ≡ true → InSession w H q
    by_session None i e = absurd (cc)
    by_session (Some x) i e = (x, i, eqb-true _ _ e)

    by_broadcast : comes_in time q (listening w H).current ≡ true → InBroadcast w H time q
    by_broadcast e =
        let x = any_open (comes_by time q) (listening w H).current (stands w H).apart e in
        let p = and_parts (not (is_late time x.0)) (seeks q (Some (x.0.source, x.0.group))) x.2 in
        let s = seeks_from q x.0.source x.0.group p.1 in
        let l : is_late time x.0 ≡ false = (let k = p.0 in grind (arith, k)) in (x.0, x.0.source, x.1, l, s.0, s.1)

    split : (a b : Bool) → is_session_open q.to q.group (reception w H).sessions ≡ a → comes_in time q (listening w H).current ≡ b → (a || b) ≡ true → InSession w H q ⊎ InBroadcast w H time q
    split true b i j z = inl (by_session (session w H q.to) refl (sym opens ∙ i))
    split false true i j z = inr (by_broadcast j)
    split false false i j z = absurd (cc)

    from : InSession w H q ⊎ InBroadcast w H time q → IsTrue (comes w H time)
    from (inl (x, i, g)) =
        ap (λ (p : Option Question). is_coming time p (reception w H).sessions (listening w H).current) o
        ∙ ap (λ (b : Bool). b || comes_in time q (listening w H).current) (opens ∙ (ap (of_group q.group) i ∙ eq-eqb _ _ g))
    from (inr (x, a, i, l, g, t)) =
        ap (λ (p : Option Question). is_coming time p (reception w H).sessions (listening w H).current) o
        ∙ (ap (λ (b : Bool). is_session_open q.to q.group (reception w H).sessions || b)
        (open_any (comes_by time q) a (listening w H).current x i (and_from _ _ (ap not l) (seeks_by q x.source x.group g t)))
        ∙ or-true (is_session_open q.to q.group (reception w H).sessions))
