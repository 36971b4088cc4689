-- A frame that is heard twice at once.
use Rattle.std.proofs.Common.{[], ap, Bool, eq-eqb, false, if◌then◌else◌, inl, inr, not, ◌-◌, ◌||◌, ◌∙◌, ◌∷◌, ◌≡◌, arith, List, None, Option, refl, slice_index, Some, subst, suc, sym, true, ℕ}
use Rattle.std.proofs.lemmas.Bool.{false_from_ne_true}
use Rattle.std.proofs.lemmas.List.Filters.{length-filter_both}
use Rattle.std.specs.Option.{is_some as is_there}
use Rattle.j39_frame.specs.Frame.{FrameRecord}
use Rattle.j39_frame.specs.Identifier.{source_of}
use Rattle.j39_address.specs.Claim.{Claim, claim_of}
use Rattle.j39_transport.specs.Message.{MessageRecord}
use Rattle.j39_node.proofs.HearingLaws.{found_known, found_means, none_found}
use Rattle.j39_node.proofs.HearingLemmas.{of_its, open_part, stands}
use Rattle.j39_node.proofs.PacketsAnswer.{made_by_packet}
use Rattle.j39_node.proofs.RestartLaws.{differs}
use Rattle.j39_node.proofs.Tests.{not_both}
use Rattle.j39_sessions.specs.Sessions.{listed}
use Rattle.j39_node.specs.Hearing.{announces, begun, found, found_in, has_box, has_room, hearing, is_late, is_over, listening, made_whole, OpenBroadcast, opens as opens_it, packed, packs, since_in}
use Rattle.j39_node.specs.History.{Call, is_some, of_other, Who}
use Rattle.j39_node.specs.History.Call.{At}
use Rattle.j39_node.specs.History.Act.{Hear}
use Rattle.j39_node.specs.Reception.{called, called_for, Calling, calls_whom, claimed_again, heard_at, held_then, holder, known, later, restarts, time_heard, waned}
use Rattle.j39_net.proofs.BroadcastFacts.{announces_group, not_packs}
use Rattle.j39_net.proofs.HeardWhole.{stays_or_over}
use Rattle.j39_net.proofs.HearLemmas.{IsBegun, of_result, own_step, same_announces, its_whole, same_packs, stamped, Step, wholes}
use Rattle.j39_net.specs.Net.{IsAsFar}

pub held_twice : (a : ℕ) (c : Option Claim) (holder : Option ℕ) → held_then a c (held_then a c holder) ≡ held_then a c holder
held_twice a None holder = refl
held_twice a (Some c) None = grind arith
held_twice a (Some c) (Some n) = grind arith

-- a restart is met the first time
restarts_once : (before after : ℕ → Option ℕ) (at a : ℕ) (k : Calling) (f : FrameRecord) (o : Option Claim) → claimed_again after (waned (at - at) (called_for 1250000 (calls_whom before f o) k)) o ≡ Some a
    → claimed_again before k o ≡ Some a
restarts_once before after at a k f None e = e
restarts_once before after at a k f (Some c) e = let z : at - at ≡ 0 = omega arith in let r = eq-eqb c.address c.address refl in grind (arith, e, z, r)

-- what a packet leaves open lacks another
not_next : (time : ℕ) (f : FrameRecord) (o : Option OpenBroadcast) (x : OpenBroadcast) → open_part (packed time f o) ≡ Some x → slice_index f.bytes 0 ≡ suc x.count → ⊥
not_next time f None x e n = absurd (cc)
not_next time f (Some y) x e n = grind (arith, e, n)

same_time : (u step at : ℕ) → later (later u step) (at - at) ≡ later u step
same_time u step at = grind arith

-- what an announcement leaves open is begun by it
begun_by : (a : ℕ) (g : FrameRecord) (o p : Option OpenBroadcast) (made : List MessageRecord) (x : OpenBroadcast) → Step a g o p made → source_of g.id ≡ a → announces g ≡ true → p ≡ Some x → IsBegun a g x
begun_by a g o p made x (Step.ends q) s e h = absurd (cc)
begun_by a g o p made x (Step.stays q r) s e h = absurd (not_both (announces g) (r s) e)
begun_by a g o p made x (Step.opens q y r i n) s e h = subst (IsBegun a g) (let z : y ≡ x = cc in z) n
begun_by a g o p made x (Step.grows u y r i k) s e h = absurd (not_packs g (announces_group g e) i)
begun_by a g o p made x (Step.makes u y r i k m) s e h = absurd (cc)

module _ (w : Who) (f : FrameRecord) where
  abbrev a : ℕ
  a = source_of f.id

  -- what the frame leaves open of its source
  abbrev leaves : Bool → Bool → Option ℕ → ℕ → Bool → Option OpenBroadcast → Option OpenBroadcast
  leaves b c name t room o = if b || c then open_part (if b then (if room then opens_it w name t f o else o) else if c then packed t f o else o) else o

  -- what stays open isn't late by it, and stays so by another
  stays_again : (b room room' : Bool) (name name' : Option ℕ) (t u : ℕ) (o : Option OpenBroadcast) (x : OpenBroadcast) → leaves false b name t room o ≡ Some x → ((y : OpenBroadcast) → o ≡ Some y → is_late t y ≡ false)
      → (is_late t x ≡ false) × (leaves false b name' u room' (Some x) ≡ Some x) × ((y : OpenBroadcast) × (o ≡ Some y))
  stays_again b room room' name name' t u None x e l = absurd (grind (arith, e))
  stays_again b room room' name name' t u (Some y) x e l = let n = l y refl in (grind (arith, e, n), grind (arith, e), (y, refl))

  -- what an announcement opens it opens again
  opens_again : (b box room : Bool) (name name' : Option ℕ) (t u : ℕ) (o p : Option OpenBroadcast) (x : OpenBroadcast) → leaves true b name t (is_there o || box) o ≡ Some x → room ≡ true
      → (y : OpenBroadcast) × (leaves true b name' u room p ≡ Some y)
  opens_again b box room name name' t u o p x e r = (begun name' (since_in u p) u f, grind (arith, e, r))

  it_leaves : (H : List Call) (at : ℕ) (b : Bool) → announces f ≡ b
      → hearing w (At at (Hear f) ∷ H) a ≡ leaves b (packs f) (holder w (At at (Hear f) ∷ H) a) (time_heard (At at (Hear f) ∷ H)) (has_room w.boxes a (found_in w H at f)) (found w H at f a)
  it_leaves H at b e =
      let K = At at (Hear f) ∷ H in
      of_its w.boxes w (holder w K a) (time_heard K) f (found_in w H at f)
      ∙ ap (λ (b : Bool). leaves b (packs f) (holder w K a) (time_heard K) (has_room w.boxes a (found_in w H at f)) (found w H at f a)) e

  module _ (H : List Call) (at : ℕ) where
    abbrev K : List Call
    K = At at (Hear f) ∷ H

    none_next : (now : ℕ) (x : OpenBroadcast) → found w K now f a ≡ Some x → packs f ≡ true → slice_index f.bytes 0 ≡ suc x.count → ⊥
    none_next now x e p n =
        let no = false_from_ne_true (announces f) (λ t. not_packs f (announces_group f t) p) in
        let left = it_leaves H at false no ∙ ap (λ (c : Bool). leaves false c (holder w K a) (time_heard K) (has_room w.boxes a (found_in w H at f)) (found w H at f a)) p in
        not_next (time_heard K) f (found w H at f a) x (sym left ∙ none_found w K now a f x e) n

    twice : (now : ℕ) (o q : Option OpenBroadcast) (made : List MessageRecord) → found w K now f a ≡ o → Step a (stamped now f) o q made
        → (made ≡ []) × ((x y : OpenBroadcast) → hearing w K a ≡ Some x → q ≡ Some y → IsAsFar x y)
    twice now o q made d (Step.ends u) = (refl, λ x y e g. absurd (cc))
    twice now o q made d (Step.stays u r) = (
      refl,
      λ x y e g. (let z : Some y ≡ Some x = sym (none_found w K now a f y (d ∙ g)) ∙ e in let s : y ≡ x = cc in (λ i. (s i).group, λ i. (s i).size, λ i. (s i).count, λ i. (s i).bytes)),
    )
    twice now o q made d (Step.opens v u s e n) = (
      refl,
      λ x y h g.
          let z : u ≡ y = cc in
          let b = subst (IsBegun a (stamped now f)) z n in
          let c = begun_by a (stamped at f) (found w H at f a) (hearing w K a) _ x (own_step w H at f) refl (same_announces (stamped now f) (stamped at f) refl refl ∙ e) h in
          (b.group ∙ sym c.group, b.size ∙ sym c.size, b.count ∙ sym c.count, b.bytes ∙ sym c.bytes),
    )
    twice now o q made d (Step.grows x y s e k) = absurd (none_next now x d (same_packs (stamped now f) f refl refl ∙ e) k.number)
    twice now o q made d (Step.makes x y s e k m) = absurd (none_next now x d (same_packs (stamped now f) f refl refl ∙ e) k.number)

    pub all_twice : (now : ℕ) → (made_whole w K now f ≡ None) × ((x y : OpenBroadcast) → hearing w K a ≡ Some x → hearing w (At now (Hear f) ∷ K) a ≡ Some y → IsAsFar x y)
    all_twice now =
        let t = twice now (found w K now f a) (hearing w (At now (Hear f) ∷ K) a) (wholes a (listed (made_whole w K now f))) refl (own_step w K now f) in
        (none_of (made_whole w K now f) (sym (its_whole a (made_whole w K now f) (λ p e. (made_by_packet w K now f p e).1)) ∙ t.0), t.1)
      where
        none_of : (o : Option (ℕ × MessageRecord)) → of_result o ≡ [] → o ≡ None
        none_of None e = refl
        none_of (Some p) e = absurd (cc)

    -- of the same moment it stays
    its_holder : (y : OpenBroadcast) → found w H at f a ≡ Some y → holder w (At at (Hear f) ∷ K) a ≡ known w K at f a
    its_holder y e =
        held_twice a (of_other w (claim_of f)) (holder w H a)
        ∙ sym (ap (λ (b : Bool). if b then None else holder w K a) (is_none (restarts w K at f) (λ r. absurd (differs w H at a f (restarts_once (holder w H) (holder w K) at a (waned (at - heard_at H) (called w H)) f (claim_of f) r) (found_known w H at a f y e).0))))
      where
        is_none : (o : Option ℕ) → (o ≡ Some a → ⊥) → is_some o a ≡ false
        is_none None n = refl
        is_none (Some b) n = false_from_ne_true (is_some (Some b) a) (λ t. n (grind (arith, t)))

    room_again : (x : OpenBroadcast) → hearing w K a ≡ Some x → has_room w.boxes a (found_in w K at f) ≡ true
    room_again x e =
        let over = is_over (restarts w K at f) (holder w (At at (Hear f) ∷ K)) (time_heard (At at (Hear f) ∷ K)) in
        let both = length-filter_both over (λ y. not (over y)) (λ y. refl) (listening w K).current in
        let room = (stands w K).room in
        elim (stays_or_over over a (listening w K).current x e) [
          | inl s ↦ ap (λ (o : Option OpenBroadcast). is_there o || has_box w.boxes (found_in w K at f)) s
          | inr l ↦ let c = l.0 in grind (arith, c, both, room)
        ]

    pub stays : (x : OpenBroadcast) → hearing w K a ≡ Some x → (y : OpenBroadcast) × (hearing w (At at (Hear f) ∷ K) a ≡ Some y)
    stays x e = go (announces f) refl
      where
        G : List Call
        G = At at (Hear f) ∷ K

        go : (b : Bool) → announces f ≡ b → (y : OpenBroadcast) × (hearing w G a ≡ Some y)
        go true t =
            let y = opens_again (packs f) (has_box w.boxes (found_in w H at f)) (has_room w.boxes a (found_in w K at f)) (holder w K a) (holder w G a) (time_heard K) (time_heard G)
            (found w H at f a) (found w K at f a) x (sym (it_leaves H at true t) ∙ e) (room_again x e) in (y.0, it_leaves K at true t ∙ y.1)
        go false t =
            let r = has_room w.boxes a (found_in w K at f) in
            let n = stays_again (packs f) (has_room w.boxes a (found_in w H at f)) r (holder w K a) (holder w G a) (time_heard K) (time_heard G) (found w H at f a) x (sym (it_leaves H at false t) ∙ e)
            (λ y o. (found_known w H at a f y o).1) in
            let late = ap (λ (u : ℕ). is_late u x) (same_time (time_heard H) (at - heard_at H) at) ∙ n.0 in
            let there = (found_means w K at a f x e).1 (its_holder n.2.0 n.2.1, late) in
            (x, it_leaves K at false t ∙ (ap (leaves false (packs f) (holder w G a) (time_heard G) r) there ∙ n.1))
