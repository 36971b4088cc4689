-- What is taken comes.
use Rattle.std.proofs.Common.{[], if◌then◌else◌, ◌&&◌, ◌++◌, ◌+◌, ◌-◌, ◌*◌, ◌<◌, ◌∙◌, ◌∷◌, ◌≡◌, ◌≢◌, ◌≤◌, ◌⊎◌, ap, arith, Bool, false, inl, inr, length, List, map, nat_lt, not, Some, subst, suc, sym, true, ℕ}
use Rattle.std.proofs.lemmas.List.{map-append}
use Rattle.std.proofs.lemmas.List.Elements.{Contains-append_left, Contains-push}
use Rattle.std.specs.List.{Contains, slice_get}
use Rattle.j39_frame.specs.Frame.{FrameRecord}
use Rattle.j39_node.proofs.PromptLaws.{answered_from}
use Rattle.j39_node.proofs.SoundLemmas.{frame_case, stamped_by}
use Rattle.j39_node.specs.History.{Call, content, frames, got, holds, is_for_program, kept, Message, message_of, missed, Who}
use Rattle.j39_node.specs.History.Call.{At}
use Rattle.j39_node.specs.History.Act.{Hear, TakeFrame}
use Rattle.j39_node.specs.Is.{AreAnswered}
use Rattle.j39_net.proofs.NetLemmas.{Came, come_of, heard_at, passed_to, taken_in}
use Rattle.j39_net.proofs.ReportLemmas.{place_of}
use Rattle.j39_net.specs.Net.{hears, IsLater, IsMember, Member, Net, others, own, Passed}

module _ (delay now i at : ℕ) (L : List Passed) (members : List Member) (m : Member) (later earlier : List Call) (f : FrameRecord)
    (net : Net delay now (λ f. now < f.stamp + delay) L members) (hm : IsMember members i m) (is : m.history ≡ later ++ At at (TakeFrame (Some f)) ∷ earlier) where
  moment_is : f.stamp ≡ at
  moment_is =
      let right = answered_from m.who later (At at (TakeFrame (Some f)) ∷ earlier) (subst (AreAnswered m.who) is (net.answered i m hm)) in
      ap (λ (x : ℕ × Message). x.0) (stamped_by (frame_case m.who earlier at f right.1)).1

  placed : at + delay ≤ now → Came delay f (own i L)
  placed l = elim (come_of delay (λ f. now < f.stamp + delay) (frames m.history) (own i L) f (net.sent i m hm)
      (subst (λ H. Contains (frames H) f) (sym is) (taken_in later earlier at f))) [
        | inl late ↦ absurd (let s = moment_is in omega (arith, late, s, l))
        | inr on ↦ on
      ]

  pub on_the_bus : at + delay ≤ now → (k : ℕ) × (x : Passed) × (slice_get L k ≡ Some x) × (x.by ≡ Some i) × IsLater delay f x.frame
  on_the_bus l =
      let on = placed l in
      let p = place_of i L on.frame on.stands in
      (p.place, p.passed, p.stands, p.by, subst (IsLater delay f) (sym p.frame) on.is_later)

  pub heard : (j : ℕ) (n : Member) → IsMember members j n → i ≢ j → n.since ≤ at → at + 2 * delay ≤ now
      → (behind : List Call) × (when : ℕ) × (g : FrameRecord) × (before : List Call) × (n.history ≡ behind ++ At when (Hear g) ∷ before)
      × (g.id ≡ f.id) × (g.bytes ≡ f.bytes) × (at ≤ when) × (when ≤ at + 2 * delay)
  heard j n hn apart there l =
      let on = placed (omega (arith, l)) in
      let s = moment_is in
      let a = on.is_later.behind in
      let b = on.is_later.in_time in
      elim (come_of delay (λ f. now < f.stamp + delay) (others j n.since L) (hears n.history) on.frame (net.heard j n hn)
      (passed_to i j n.since L on.frame apart (omega (arith, there, s, a)) on.stands)) [
        | inl late ↦ absurd (omega (arith, late, s, b, l))
        | inr got ↦
            let h = heard_at n.history got.frame got.stands in
            let c = got.is_later.behind in
            let d = got.is_later.in_time in (
              h.later,
              got.frame.stamp,
              h.frame,
              h.earlier,
              h.is,
              h.id ∙ (got.is_later.id ∙ on.is_later.id),
              h.bytes ∙ (got.is_later.bytes ∙ on.is_later.bytes),
              omega (arith, s, a, c),
              omega (arith, s, b, d),
            )
      ]

-- ---- what is heard for the program is kept, or counted

contains_if : (b : Bool) (xs : List (ℕ × Message)) (y : ℕ × Message) (x : Message) → Contains (map content xs) x → Contains (map content (if b then xs ++ y ∷ [] else xs)) x
contains_if true xs y x h = subst (λ zs. Contains zs x) (sym (map-append content xs (y ∷ []))) (Contains-append_left (map content xs) (content y ∷ []) x h)
contains_if false xs y x h = h

kept_later : (w : Who) (later H : List Call) (x : Message) → Contains (map content (kept w H)) x → Contains (map content (kept w (later ++ H))) x
kept_later w [] H x h = h
kept_later w (At now (Hear f) ∷ later) H x h =
    contains_if (is_for_program w (holds w (later ++ H) now) f && nat_lt (length (kept w (later ++ H)) - length (got (later ++ H))) 16)
    (kept w (later ++ H)) (f.stamp, message_of f) x (kept_later w later H x h)
kept_later w (call ∷ later) H x h = kept_later w later H x h

more_missed : (b : Bool) (n : ℕ) → 0 < n → 0 < (if b then suc n else n)
more_missed b n l = grind (arith, l)

missed_later : (w : Who) (later H : List Call) → 0 < missed w H → 0 < missed w (later ++ H)
missed_later w [] H l = l
missed_later w (At now (Hear f) ∷ later) H l =
    more_missed (is_for_program w (holds w (later ++ H) now) f && not (nat_lt (length (kept w (later ++ H)) - length (got (later ++ H))) 16))
    (missed w (later ++ H)) (missed_later w later H l)
missed_later w (call ∷ later) H l = missed_later w later H l

-- what is for it wherever it is
for_it : (w : Who) (held : Bool) (f : FrameRecord) → is_for_program w false f ≡ true → is_for_program w held f ≡ true
for_it w false f e = e
for_it w true f e = grind (arith, e)

kept_or_missed : (w : Who) (H : List Call) (now : ℕ) (f : FrameRecord) (b room : Bool) → b ≡ true
    → Contains (map content (if b && room then kept w H ++ (f.stamp, message_of f) ∷ [] else kept w H)) (message_of f) ⊎ (0 < (if b && not room then suc (missed w H) else missed w H))
kept_or_missed w H now f true true e =
    inl (subst (λ zs. Contains zs (message_of f)) (sym (map-append content (kept w H) ((f.stamp, message_of f) ∷ []))) (Contains-push (map content (kept w H)) (message_of f)))
kept_or_missed w H now f true false e = inr (omega arith)
kept_or_missed w H now f false room e = absurd (cc)

pub delivered : (delay now i j at : ℕ) (L : List Passed) (members : List Member) (m n : Member) (later earlier : List Call) (f : FrameRecord)
    → Net delay now (λ f. now < f.stamp + delay) L members → IsMember members i m → IsMember members j n → i ≢ j
    → m.history ≡ later ++ At at (TakeFrame (Some f)) ∷ earlier → n.since ≤ at → at + 2 * delay ≤ now → is_for_program n.who false f ≡ true
    → Contains (map content (kept n.who n.history)) (message_of f) ⊎ (0 < missed n.who n.history)
delivered delay now i j at L members m n later earlier f net hm hn apart is there l for =
    let h = heard delay now i at L members m later earlier f net hm is j n hn apart there l in
    let same : message_of h.2 ≡ message_of f = (λ k. message_of (record { stamp = 0; id = h.5 k; bytes = h.6 k })) in
    let its : is_for_program n.who false h.2 ≡ true = (λ k. is_for_program n.who false (record { stamp = 0; id = h.5 k; bytes = h.6 k })) ∙ for in
    elim (kept_or_missed n.who h.3 h.1 h.2 (is_for_program n.who (holds n.who h.3 h.1) h.2) (nat_lt (length (kept n.who h.3) - length (got h.3)) 16)
    (for_it n.who (holds n.who h.3 h.1) h.2 its)) [
      | inl x ↦ inl (subst (λ H. Contains (map content (kept n.who H)) (message_of f)) (sym h.4)
          (kept_later n.who h.0 (At h.1 (Hear h.2) ∷ h.3) (message_of f) (subst (Contains (map content (kept n.who (At h.1 (Hear h.2) ∷ h.3)))) same x)))
      | inr x ↦ inr (subst (λ H. 0 < missed n.who H) (sym h.4) (missed_later n.who h.0 (At h.1 (Hear h.2) ∷ h.3) x))
    ]
