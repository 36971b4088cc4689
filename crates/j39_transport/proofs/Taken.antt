-- A packet that a session takes without being whole: it ends a chain that is not full. For `Unique` and the answers of `Assembler`.
use Rattle.std.proofs.Common.{◌≡◌, ◌≢◌, ◌↔◌, ℕ, suc, ◌<◌, ◌≤◌, true, List, [], ◌∷◌, ◌++◌, length, Option, Some, None, refl, sym, ap, ◌∙◌, subst, arith}
use Rattle.j39_transport.specs.Key.{Key}
use Rattle.j39_transport.specs.Frames.{is_packet}
use Rattle.j39_frame.specs.Frame.{FrameRecord}
use Rattle.j39_transport.specs.Events.{Event, at, sends, packets}
use Rattle.j39_transport.specs.Assembly.{last_of, Links, Chain, Whole}
use Rattle.j39_transport.specs.Events.Event.{Frame}
use Rattle.j39_transport.specs.Answers.{IsPartial}
use Rattle.std.proofs.lemmas.Bool.{and_parts}
use Rattle.j39_transport.proofs.Agreeing.{announced_within, at_before, at_new}
use Rattle.j39_transport.proofs.FrameFacts.{announces-packets}
use Rattle.j39_transport.proofs.Chains.{Links-from}
use Rattle.j39_transport.proofs.Completing.{Continues, chain_new, chain_continued}
use Rattle.j39_transport.specs.Session.{SessionRecord}
use Rattle.j39_transport.specs.Stands.{IsOpenOrNone}

-- it ends with a packet, after its announcement
pub whole_ends : (E : List Event) (i : ℕ) (s : Key) (g : ℕ) (b : List ℕ) (w : Whole E i s g b) → (sends s (at E i) ≡ true) × (w.start < i)
whole_ends E i s g b w = go w.places refl
  where
    go : (ps : List ℕ) → w.places ≡ ps → (sends s (at E i) ≡ true) × (w.start < i)
    go [] e =
        let n : 0 < packets (at E w.start) = announces-packets s (at E w.start) w.chain.announced in
        let f : length w.places ≡ packets (at E w.start) = w.full in
        let z : length w.places ≡ 0 = ap length e in
        absurd (omega arith)
    go (p ∷ ps) e =
        let l : Links E s w.start (p ∷ ps) = subst (λ (qs : List ℕ). Links E s w.start qs) e w.chain.links in
        let q : p ≡ i = sym (ap (last_of w.start) e) ∙ w.ends_at in
        let f : w.start ≤ last_of w.start ps = Links-from E s w.start ps l.1 in
        let m : last_of w.start ps < p = l.0.later in
        (subst (λ (t : ℕ). sends s (at E t) ≡ true) q (and_parts _ _ l.0.stands).0, omega arith)

sends_frame : (s : Key) (f : FrameRecord) → sends s (Frame f) ≡ is_packet s f
unfolding sends
sends_frame s f = refl

-- only its own key has a message that is whole with f
pub assembled_sent : (E : List Event) (f : FrameRecord) (s : Key) (g : ℕ) (b : List ℕ) → Whole (E ++ Frame f ∷ []) (length E) s g b → is_packet s f ≡ true
assembled_sent E f s g b w = sym (sends_frame s f) ∙ (sym (ap (sends s) (at_new E (Frame f))) ∙ (whole_ends (E ++ Frame f ∷ []) (length E) s g b w).0)

module _ (E : List Event) (e : Event) (s : Key) where
  pub record Grows (o : Option SessionRecord) (g : ℕ) : Type 0 where
    pub session : SessionRecord
    pub was : o ≡ Some session
    pub continues : Continues E e s session
    pub not_last : suc session.count ≢ session.packets
    pub group_is : g ≡ session.group

  partial_from : (o : Option SessionRecord) → IsOpenOrNone E s o → (g : ℕ) → Grows o g → IsPartial (E ++ e ∷ []) (length E) s g
  partial_from None h g c = absurd (cc (c.was))
  partial_from (Some y) h g c =
      let was : Some y ≡ Some c.session = c.was in
      let x : c.session ≡ y = cc in
      let c' : Continues E e s y = subst (λ (z : SessionRecord). Continues E e s z) x c.continues in
      let d : suc y.count ≢ y.packets = subst (λ (z : SessionRecord). suc z.count ≢ z.packets) x c.not_last in
      let n : y.count ≡ length h.places = h.count_is in
      let m : y.packets ≡ packets (at E h.start) = h.packets_are in
      let l : h.start < length E = announced_within E s h.start h.open_by.announced in
      let i : packets (at (E ++ e ∷ []) h.start) ≡ packets (at E h.start) = ap packets (at_before E e h.start l) in
      let few : length h.places < packets (at E h.start) = h.open_by.few in
      record { start = h.start; places = length E ∷ h.places; chain = subst (λ (q : ℕ). Chain (E ++ e ∷ []) s q h.start (length E ∷ h.places)) (sym (c.group_is ∙ ap (λ (z : SessionRecord). z.group) x)) (chain_new E e s y h c'); ends_at = refl; some = omega arith; lacks = omega arith }

  partial_only : (o : Option SessionRecord) → IsOpenOrNone E s o → (g : ℕ) → IsPartial (E ++ e ∷ []) (length E) s g → Grows o g
  partial_only o h g w = go w.places refl
    where
      go : (ps : List ℕ) → w.places ≡ ps → Grows o g
      go [] i = absurd (let z : length w.places ≡ 0 = ap length i in let k : 0 < length w.places = w.some in omega arith)
      go (p ∷ ps) i =
          let j : p ≡ length E = sym (ap (last_of w.start) i) ∙ w.ends_at in
          let k : w.places ≡ length E ∷ ps = i ∙ ap (λ (q : ℕ). q ∷ ps) j in
          let c = chain_continued E e s o h g w.start ps (subst (λ (qs : List ℕ). Chain (E ++ e ∷ []) s g w.start qs) k w.chain) in
          let t = c.stood in
          let l : t.start < length E = announced_within E s t.start t.open_by.announced in
          let f1 : length w.places ≡ suc (length ps) = ap length k in
          let f2 : length ps ≡ length t.places = ap length c.places_are in
          let f3 : packets (at (E ++ e ∷ []) w.start) ≡ packets (at E t.start) = ap packets (ap (at (E ++ e ∷ [])) c.start_is ∙ at_before E e t.start l) in
          let f4 : c.session.count ≡ length t.places = t.count_is in
          let f5 : c.session.packets ≡ packets (at E t.start) = t.packets_are in
          let f6 : length w.places < packets (at (E ++ e ∷ []) w.start) = w.lacks in
          record { session = c.session; was = c.was; continues = c.continues; not_last = λ z. let o : ⊥ = omega arith in o; group_is = c.group_is }

  pub partial_iff : (o : Option SessionRecord) → IsOpenOrNone E s o → (g : ℕ) → Grows o g ↔ IsPartial (E ++ e ∷ []) (length E) s g
  partial_iff o h g = (partial_from o h g, partial_only o h g)
