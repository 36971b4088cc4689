-- A broadcast that was taken is whole in the log.
use Rattle.std.proofs.Common.{[], append-nil, if◌then◌else◌, ◌&&◌, ◌||◌, nat_eq, ◌++◌, ◌∙◌, ◌∷◌, ◌≡◌, ◌⊎◌, ap, append_assoc, arith, Bool, false, filter, inl, inr, length, length-append, List, Option, refl, Some, subst, suc, sym, true, zero, ℕ}
use Rattle.j39_frame.specs.Frame.{FrameRecord}
use Rattle.j39_frame.specs.Identifier.{source_of}
use Rattle.j39_transport.specs.Message.{MessageRecord, packets_of}
use Rattle.j39_node.specs.History.{all_frames, Call, first_frames, frame_of, frames, is_some, Message}
use Rattle.j39_node.specs.History.Call.{At}
use Rattle.j39_node.specs.History.Act.{TakeFrame}
use Rattle.j39_net.proofs.BroadcastLemmas.{none_pushed, same_last}
use Rattle.j39_net.proofs.CourseLemmas.{Course, push_length}
use Rattle.j39_net.proofs.PartLemmas.{same_message}
use Rattle.j39_net.proofs.ReportLemmas.{by_it}
use Rattle.j39_net.specs.Net.{Come, IsLater, log, own, Passed}

-- ---- of which frames the last came

module _ (delay : ℕ) (missing : FrameRecord → Type 0) where
  pub skip : (f : FrameRecord) (fs gs : List FrameRecord) → missing f → Come delay missing fs gs → Come delay missing (f ∷ fs) gs
  skip f fs [] m c = (m, c)
  skip f fs (g ∷ gs) m c = inr (m, c)

  -- the last frame came, or is missing
  pub record CameLast (fs gs : List FrameRecord) (f : FrameRecord) : Type 0 where
    pub before : List FrameRecord
    pub frame : FrameRecord
    pub is : gs ≡ before ++ frame ∷ []
    pub is_later : IsLater delay f frame
    pub come : Come delay missing fs before

  come_last : (fs : List FrameRecord) (f : FrameRecord) (gs : List FrameRecord) → Come delay missing (fs ++ f ∷ []) gs → (missing f × Come delay missing fs gs) ⊎ CameLast fs gs f
  come_last [] f [] c = inl (c.0, tt)
  come_last [] f (g ∷ []) (inl c) = inr (record { before = []; frame = g; is = refl; is_later = c.0; come = tt })
  come_last [] f (g ∷ x ∷ gs) (inl c) = absurd c.1
  come_last [] f (g ∷ gs) (inr c) = absurd c.1
  come_last (y ∷ fs) f [] c = elim (come_last fs f [] c.1) [
    | inl h ↦ inl (h.0, (c.0, h.1))
    | inr h ↦ absurd (none_pushed h.before h.frame (sym h.is))
  ]
  come_last (y ∷ fs) f (g ∷ gs) (inl c) = elim (come_last fs f gs c.1) [
    | inl h ↦ inl (h.0, inl (c.0, h.1))
    | inr h ↦ inr (record { before = g ∷ h.before; frame = h.frame; is = ap (λ v. g ∷ v) h.is; is_later = h.is_later; come = inl (c.0, h.come) })
  ]
  come_last (y ∷ fs) f (g ∷ gs) (inr c) = elim (come_last fs f (g ∷ gs) c.1) [
    | inl h ↦ inl (h.0, inr (c.0, h.1))
    | inr h ↦ inr (record { before = h.before; frame = h.frame; is = h.is; is_later = h.is_later; come = skip y fs h.before c.0 h.come })
  ]

  -- a frame that isn't missing came
  pub record CameAt (us gs : List FrameRecord) (f : FrameRecord) : Type 0 where
    pub before : List FrameRecord
    pub frame : FrameRecord
    pub after : List FrameRecord
    pub is : gs ≡ before ++ frame ∷ after
    pub is_later : IsLater delay f frame
    pub come : Come delay missing us before

  none_between : (xs ys : List FrameRecord) (g : FrameRecord) → [] ≡ xs ++ g ∷ ys → ⊥
  none_between xs ys g e = let a = ap length e in let b = length-append xs (g ∷ ys) in absurd (omega (arith, a, b))

  pub come_at : (us : List FrameRecord) (f : FrameRecord) (vs gs : List FrameRecord) → (missing f → ⊥) → Come delay missing (us ++ f ∷ vs) gs → CameAt us gs f
  come_at [] f vs [] n c = absurd (n c.0)
  come_at [] f vs (g ∷ gs) n (inl c) = record { before = []; frame = g; after = gs; is = refl; is_later = c.0; come = tt }
  come_at [] f vs (g ∷ gs) n (inr c) = absurd (n c.0)
  come_at (y ∷ us) f vs [] n c = let h = come_at us f vs [] n c.1 in absurd (none_between h.before h.after h.frame h.is)
  come_at (y ∷ us) f vs (g ∷ gs) n (inl c) =
      let h = come_at us f vs gs n c.1 in
      record { before = g ∷ h.before; frame = h.frame; after = h.after; is = ap (λ v. g ∷ v) h.is; is_later = h.is_later; come = inl (c.0, h.come) }
  come_at (y ∷ us) f vs (g ∷ gs) n (inr c) =
      let h = come_at us f vs (g ∷ gs) n c.1 in
      record { before = h.before; frame = h.frame; after = h.after; is = h.is; is_later = h.is_later; come = skip y us h.before c.0 h.come }

  pub come_push : (us cs0 : List FrameRecord) (f g : FrameRecord) → IsLater delay f g → Come delay missing us cs0 → Come delay missing (us ++ f ∷ []) (cs0 ++ g ∷ [])
  come_push [] [] f g l c = inl (l, tt)
  come_push [] (a ∷ cs0) f g l c = absurd c
  come_push (u ∷ us) [] f g l c = inr (c.0, come_push us [] f g l c.1)
  come_push (u ∷ us) (a ∷ cs0) f g l (inl c) = inl (c.0, come_push us cs0 f g l c.1)
  come_push (u ∷ us) (a ∷ cs0) f g l (inr c) = inr (c.0, come_push us (a ∷ cs0) f g l c.1)

-- ---- the course of what is in the log

-- a frame of a broadcast
abbrev is_one : Message → Bool
is_one m = (nat_eq m.group 60416 || nat_eq m.group 60160) && is_some m.destination 255

course_source : (a : ℕ) (A : List MessageRecord) (o : Option (MessageRecord × ℕ)) (fs : List FrameRecord) → Course a A o fs → (b : MessageRecord) (j : ℕ) → o ≡ Some (b, j) → b.source ≡ a
course_source a A o fs Course.none b j e = absurd (cc)
course_source a A o fs (Course.beside B q xs x p c) b j e = course_source a B q xs c b j e
course_source a A o fs (Course.begins B q xs x d long own m c) b j e =
    sym (ap (λ (v : MessageRecord). v.source) (same_last b d j 1 e).0) ∙ own
course_source a A o fs (Course.goes_on B xs x d i m l c) b j e =
    sym (ap (λ (v : MessageRecord). v.source) (same_last b d j (suc (suc i)) e).0) ∙ course_source a B (Some (d, suc i)) xs c d (suc i) refl

pub course_in : (delay a : ℕ) (missing : FrameRecord → Type 0) → ((f : FrameRecord) → missing f → source_of f.id ≡ a → ⊥) → (A : List MessageRecord) (o : Option (MessageRecord × ℕ)) (fs : List FrameRecord)
    → Course a A o fs → (gs : List FrameRecord) → Come delay missing fs gs → Course a A o gs
course_in delay a missing n A o fs Course.none [] c = Course.none
course_in delay a missing n A o fs Course.none (g ∷ gs) c = absurd c
course_in delay a missing n A o fs (Course.beside B q xs x p k) gs c = elim (come_last delay missing xs x gs c) [
  | inl h ↦ course_in delay a missing n B q xs k gs h.1
  | inr h ↦ subst (Course a B q) (sym h.is) (Course.beside B q h.before h.frame (ap (λ (m : Message). is_one m) (same_message delay x h.frame h.is_later) ∙ p) (course_in delay a missing n B q xs k h.before h.come))
]
course_in delay a missing n A o fs (Course.begins B q xs x b long own m k) gs c = elim (come_last delay missing xs x gs c) [
  | inl h ↦ absurd (n x h.0 (ap (λ (v : Message). v.source) m ∙ own))
  | inr h ↦ subst (Course a (B ++ b ∷ []) (Some (b, 1))) (sym h.is)
      (Course.begins B q h.before h.frame b long own (same_message delay x h.frame h.is_later ∙ m) (course_in delay a missing n B q xs k h.before h.come))
]
course_in delay a missing n A o fs (Course.goes_on B xs x b j m l k) gs c = elim (come_last delay missing xs x gs c) [
  | inl h ↦ absurd (n x h.0 (ap (λ (v : Message). v.source) m ∙ course_source a B (Some (b, suc j)) xs k b (suc j) refl))
  | inr h ↦ subst (Course a B (Some (b, suc (suc j)))) (sym h.is)
      (Course.goes_on B h.before h.frame b j (same_message delay x h.frame h.is_later ∙ m) l (course_in delay a missing n B (Some (b, suc j)) xs k h.before h.come))
]

-- ---- its place

pub record OwnPlace (i : ℕ) (L : List Passed) (cs0 : List FrameRecord) (g : FrameRecord) : Type 0 where
  pub before : List Passed
  pub passed : Passed
  pub after : List Passed
  pub is : L ≡ before ++ passed ∷ after
  pub own_before : own i before ≡ cs0
  pub frame : passed.frame ≡ g
  pub by : passed.by ≡ Some i

place_step : (i : ℕ) (y : Passed) (L : List Passed) (cs0 bs : List FrameRecord) (g : FrameRecord) (t : Bool) → is_some y.by i ≡ t
    → ((cs : List FrameRecord) → own i L ≡ cs ++ g ∷ bs → OwnPlace i L cs g)
    → log (if t then y ∷ filter (λ v. is_some v.by i) L else filter (λ v. is_some v.by i) L) ≡ cs0 ++ g ∷ bs → OwnPlace i (y ∷ L) cs0 g
place_step i y L [] bs g true e ih h =
    let z : y.frame ≡ g = cc in record { before = []; passed = y; after = L; is = refl; own_before = refl; frame = z; by = by_it y.by i e }
place_step i y L (x ∷ cs0) bs g true e ih h =
    let z : y.frame ≡ x = cc in
    let r : own i L ≡ cs0 ++ g ∷ bs = cc in
    let p = ih cs0 r in
    record {
      before = y ∷ p.before;
      passed = p.passed;
      after = p.after;
      is = ap (λ v. y ∷ v) p.is;
      own_before = ap (λ (t : Bool). log (if t then y ∷ filter (λ v. is_some v.by i) p.before else filter (λ v. is_some v.by i) p.before)) e ∙ λ k. z k ∷ p.own_before k;
      frame = p.frame;
      by = p.by;
    }
place_step i y L cs0 bs g false e ih h =
    let p = ih cs0 h in
    record {
      before = y ∷ p.before;
      passed = p.passed;
      after = p.after;
      is = ap (λ v. y ∷ v) p.is;
      own_before = ap (λ (t : Bool). log (if t then y ∷ filter (λ v. is_some v.by i) p.before else filter (λ v. is_some v.by i) p.before)) e ∙ p.own_before;
      frame = p.frame;
      by = p.by;
    }

pub own_place : (i : ℕ) (L : List Passed) (cs0 bs : List FrameRecord) (g : FrameRecord) → own i L ≡ cs0 ++ g ∷ bs → OwnPlace i L cs0 g
own_place i [] cs0 bs g e = absurd (let a = ap length e in let b = length-append cs0 (g ∷ bs) in omega (arith, a, b))
own_place i (y ∷ L) cs0 bs g e = place_step i y L cs0 bs g (is_some y.by i) refl (λ ds h. own_place i L ds bs g h) e

-- the frames that were taken behind a call
pub frames_append : (later H : List Call) → frames (later ++ H) ≡ frames H ++ frames later
frames_append [] H = sym (append-nil (frames H))
frames_append (At now (TakeFrame (Some f)) ∷ later) H = ap (λ v. v ++ f ∷ []) (frames_append later H) ∙ append_assoc (frames H) (frames later) (f ∷ [])
frames_append (call ∷ later) H = frames_append later H

pub first_count : (b : MessageRecord) (n : ℕ) → length (first_frames b n) ≡ n
first_count b zero = refl
first_count b (suc n) = push_length (first_frames b n) (frame_of b n) ∙ ap suc (first_count b n)

pub all_count : (b : MessageRecord) → length (all_frames b) ≡ suc (packets_of b)
all_count b = first_count b (suc (packets_of b))
