-- A message is whole in E(F) at the place of F[i] exactly where it is whole in F with one holder from its announcement on.
use Rattle.std.proofs.Common.{◌≡◌, ◌↔◌, ℕ, zero, suc, ◌<◌, ◌≤◌, true, false, List, length, Option, refl, sym, ap, ◌∙◌, subst, inl, inr, arith}
use Rattle.std.proofs.lemmas.Bool.{cases_lt, cases_eq, both_ways, false_from_ne_true}
use Rattle.j39_listen.proofs.Rising.{changes_of}
use Rattle.j39_listen.proofs.Held.{holder_of, held_is, held_only}
use Rattle.j39_address.specs.Claim.{claims_of}
use Rattle.j39_address.specs.Holder.{IsHolder}
use Rattle.j39_frame.specs.Frame.{FrameRecord}
use Rattle.j39_address.proofs.OrderLemmas.{cases_option}
use Rattle.j39_listen.proofs.Forgets.{InBoth, whole_down, whole_up}
use Rattle.j39_listen.proofs.Gaps.{ForgetOf, Forgotten, ends-forgets, forget_of, forgets, forgets-ends, forgotten, gap_is_aside, gaps, one_rest, part, part_le, placed}
use Rattle.j39_listen.proofs.Masks.{Same, one_in_H}
use Rattle.j39_transport.proofs.Taken.{whole_ends}
use Rattle.j39_listen.specs.Forgets.{WithForgets}
use Rattle.j39_listen.specs.Heard.{IsAssembled, frames_only}
use Rattle.j39_transport.proofs.FrameFacts.{announcement_facts, key_below}
use Rattle.j39_transport.specs.Events.{Event, announces}
use Rattle.j39_transport.specs.Assembly.{Whole, last_of}
use Rattle.j39_transport.specs.Events.{at}
use Rattle.j39_transport.specs.Events.Event.{Frame, Forget}
use Rattle.j39_transport.specs.Key.{Key, is_key, sender}
use Rattle.j39_transport.specs.Message.{MessageRecord}

-- ---- one holder over a stretch

constant : {A : Type 0} (f : ℕ → A) (p i : ℕ) → ((j : ℕ) → p ≤ j → j < i → f j ≡ f (suc j)) → (j : ℕ) → p ≤ j → j ≤ i → f j ≡ f i
constant f p zero h j l m = ap f (let e : j ≡ 0 = omega arith in e)
constant f p (suc i) h j l m = elim (cases_eq j (suc i)) [
  | inl e ↦ ap f e
  | inr n ↦ constant f p i (λ k u v. h k u (omega arith)) j l (omega arith) ∙ h i (omega arith) (omega arith)
]

pub announces_key : (s : Key) (e : Event) → announces s e ≡ true → is_key s ≡ true
unfolding announces
announces_key s (Frame f) h = (announcement_facts s f h).key
announces_key s (Forget t) h = absurd (both_ways false refl h)

-- ---- E(F) against F

module _ (F : List FrameRecord) (E : List Event) (h : WithForgets F (length F) E) where
  -- the place of a frame of F
  place_of : (p c : ℕ) → Same (λ i. false) (gaps E) (frames_only F) E p c → p < length F → (B : List Event) × WithForgets F p B × (c ≡ length B)
  place_of p c sm l =
      let a = part F (length F) p E (omega arith) h in
      let b = placed F E a.before p h l a.stands in
      (a.before, a.stands, one_in_H (λ i. false) (gaps E) (frames_only F) E (one_rest F E h) sm b.same)

  assembled_from : (i : ℕ) (B : List Event) (k : Key) (m : MessageRecord) (name : Option ℕ) → i < length F → WithForgets F i B → sender k ≡ m.source
      → Whole E (length B) k m.pgn m.bytes → IsHolder (claims_of F) i m.source name → IsAssembled F i m name
  assembled_from i B k m name l wf src w held =
      go (whole_down (frames_only F) E (gaps E) (one_rest F E h) k m.pgn (gap_is_aside E k m.pgn) (length B) i m.bytes (placed F E B i h l wf).same w)
    where
      go : InBoth (frames_only F) E (gaps E) (one_rest F E h) k m.pgn (gap_is_aside E k m.pgn) (length B) i m.bytes → IsAssembled F i m name
      go r =
          let u : r.whole_D.start < i = (whole_ends (frames_only F) i k m.pgn m.bytes r.whole_D).1 in
          let c = place_of r.whole_D.start r.whole_E.start r.start_same (omega arith) in
          let key : is_key k ≡ true = announces_key k (at E r.whole_E.start) r.whole_E.chain.announced in
          let below : m.source < 254 = subst (λ (s : ℕ). s < 254) src (key_below k key) in
          let step : ((j : ℕ) → r.whole_D.start ≤ j → j < i → holder_of (claims_of F) j m.source ≡ holder_of (claims_of F) (suc j) m.source) = λ j x y.
          elim (cases_option (holder_of (claims_of F) j m.source) (holder_of (claims_of F) (suc j) m.source)) [
            | inl e ↦ e
            | inr d ↦ absurd (unbroken r.whole_E key c.0 c.1 c.2 j (part_le F r.whole_D.start j c.0)
                (forgotten F (length F) E m.source j _ _ h (omega arith) below (held_is (claims_of F) j m.source) (held_is (claims_of F) (suc j) m.source) d) x y)
          ] in
          let name_is : name ≡ holder_of (claims_of F) i m.source = held_only (claims_of F) i m.source name held in
          record {
            key = k;
            source_is = src;
            whole = r.whole_D;
            same_holder = λ j x y. subst (λ (o : Option ℕ). IsHolder (claims_of F) j m.source o)
                (constant (λ (t : ℕ). holder_of (claims_of F) t m.source) r.whole_D.start i step j x y ∙ sym name_is) (held_is (claims_of F) j m.source);
          }
        where
          unbroken : (we : Whole E (length B) k m.pgn m.bytes) → is_key k ≡ true → (A : List Event) {p : ℕ} → WithForgets F p A → we.start ≡ length A → (j : ℕ)
              → ((C : List Event) → p ≤ j → WithForgets F p A → WithForgets F j C → length A ≤ length C)
              → Forgotten F E m.source j → p ≤ j → j < i → ⊥
          unbroken we key A a e j le f x y =
              let l1 : length A ≤ length f.before = le f.before x a f.stands in
              let l2 : length f.after ≤ length B = part_le F (suc j) i f.after B y f.stands_after wf in
              let l3 : length f.before < f.place = f.low in
              let l4 : f.place < length f.after = f.high in
              let en : last_of we.start we.places ≡ length B = we.ends_at in
              both_ways _ (we.chain.runs.quiet f.place (omega arith) (omega arith)).1
              (forgets-ends k m.pgn (at E f.place) key (subst (λ (s : ℕ). forgets s (at E f.place) ≡ true) (sym src) f.is_forget))

  assembled_only : (i : ℕ) (B : List Event) (m : MessageRecord) (name : Option ℕ) → i < length F → WithForgets F i B
      → (b : IsAssembled F i m name) → Whole E (length B) b.key m.pgn m.bytes
  assembled_only i B m name l k b =
      whole_up (frames_only F) E (gaps E) (one_rest F E h) b.key m.pgn (gap_is_aside E b.key m.pgn) i (length B) m.bytes (placed F E B i h l k).same b.whole
      (λ c sm q x y g. false_from_ne_true _ (λ t.
      let u : b.whole.start < i = (whole_ends (frames_only F) i b.key m.pgn m.bytes b.whole).1 in
      let z = place_of b.whole.start c sm (omega arith) in
      let v : length B < length E = (placed F E B i h l k).same.h_below in
      unbroken q z.0 z.1 (let e : c ≡ length z.0 = z.2 in omega arith) y u
      (forget_of F (length F) E m.source q h (omega arith) (subst (λ (s : ℕ). forgets s (at E q) ≡ true) b.source_is (ends-forgets b.key m.pgn (at E q) g t)))))
    where
      unbroken : (q : ℕ) (A : List Event) → WithForgets F b.whole.start A → length A < q → q < length B → b.whole.start < i → ForgetOf F m.source q → ⊥
      unbroken q A a x y u f =
          let lo : length f.before < q = f.low in
          let hi : q < length f.after = f.high in
          let after_start : b.whole.start ≤ f.frame = elim (cases_lt f.frame b.whole.start) [
            | inl g ↦ absurd (let n : length f.after ≤ length A = part_le F (suc f.frame) b.whole.start f.after A g f.stands_after a in omega arith)
            | inr g ↦ g
          ] in
          let before_end : f.frame < i = elim (cases_lt f.frame i) [
            | inl g ↦ g
            | inr g ↦ absurd (let n : length B ≤ length f.before = part_le F i f.frame B f.before g k f.stands in omega arith)
          ] in
          (changes_of _ _ _ f.changed).only m.source name name f.listed (b.same_holder f.frame after_start (omega arith)) (b.same_holder (suc f.frame) (omega arith) before_end) refl

  -- both ways
  pub assembled_iff : (i : ℕ) (B : List Event) (m : MessageRecord) (name : Option ℕ) → i < length F → WithForgets F i B
      → (((k : Key) × (sender k ≡ m.source) × Whole E (length B) k m.pgn m.bytes) × IsHolder (claims_of F) i m.source name) ↔ IsAssembled F i m name
  assembled_iff i B m name l k = (
    (λ w. assembled_from i B w.0.0 m name l k w.0.1 w.0.2 w.1),
    (λ b. ((b.key, b.source_is, assembled_only i B m name l k b), b.same_holder i (let u : b.whole.start < i = (whole_ends (frames_only F) i b.key m.pgn m.bytes b.whole).1 in omega arith) (omega arith))),
  )
