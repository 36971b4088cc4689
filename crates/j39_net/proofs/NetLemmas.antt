-- What a net says of the frames that its members take and hear.
use Rattle.std.proofs.Common.{[], if◌then◌else◌, ◌&&◌, le-leb, nat_le, ◌++◌, ◌+◌, ◌∙◌, ◌∷◌, ◌≡◌, ◌≤◌, ◌⊎◌, ap, arith, Bool, eqb-true, false, filter, inl, inr, List, None, not, Option, refl, Some, subst, sym, true, ℕ}
use Rattle.std.proofs.lemmas.List.Elements.{Contains-append_left, Contains-append_right, Contains-append_cases, Contains-push, Contains-push_cases}
use Rattle.std.specs.List.{Contains}
use Rattle.j39_frame.specs.Frame.{FrameRecord}
use Rattle.j39_node.specs.History.{Act, Call, frames, is_some, step}
use Rattle.j39_node.specs.Since.{passed_in}
use Rattle.j39_node.specs.History.Call.{At}
use Rattle.j39_node.specs.History.Act.{Hear, TakeFrame}
use Rattle.j39_net.specs.Net.{Come, InTime, IsLater, Passed, hears, log, others, own}

-- ---- lists

pub none_in : {T : Type 0} (x : T) → Contains [] x → ⊥
none_in x h = let l = h.1 in absurd (omega (arith, l))

pub head_or_tail : {T : Type 0} (x : T) (xs : List T) (y : T) → Contains (x ∷ xs) y → (x ≡ y) ⊎ Contains xs y
head_or_tail x xs y h = elim (Contains-append_cases (x ∷ []) xs y h) [
  | inl one ↦ elim (Contains-push_cases [] x y one) [ inl none ↦ absurd (none_in y none) | inr e ↦ inl e ]
  | inr rest ↦ inr rest
]

pub behind_one : {T : Type 0} (x : T) (xs : List T) (y : T) → Contains xs y → Contains (x ∷ xs) y
behind_one x xs y h = Contains-append_right (x ∷ []) xs y h

pub first_of_them : {T : Type 0} (x y : T) (xs : List T) → x ≡ y → Contains (x ∷ xs) y
first_of_them x y xs e = subst (Contains (x ∷ xs)) e (Contains-append_left (x ∷ []) xs x (Contains-push [] x))

-- ---- frames that come

-- what comes of a frame
pub record Came (delay : ℕ) (f : FrameRecord) (gs : List FrameRecord) : Type 0 where
  pub frame : FrameRecord
  pub is_later : IsLater delay f frame
  pub stands : Contains gs frame

pub come_of : (delay : ℕ) (missing : FrameRecord → Type 0) (fs gs : List FrameRecord) (f : FrameRecord) → Come delay missing fs gs → Contains fs f
    → missing f ⊎ Came delay f gs
come_of delay missing [] gs f c h = absurd (none_in f h)
come_of delay missing (x ∷ fs) [] f c h =
    elim (head_or_tail x fs f h) [ inl e ↦ inl (subst missing e c.0) | inr t ↦ come_of delay missing fs [] f c.1 t ]
come_of delay missing (x ∷ fs) (g ∷ gs) f (inl c) h = elim (head_or_tail x fs f h) [
  | inl e ↦ inr (record { frame = g; is_later = subst (λ y. IsLater delay y g) e c.0; stands = first_of_them g g gs refl })
  | inr t ↦ elim (come_of delay missing fs gs f c.1 t) [
    | inl z ↦ inl z
    | inr z ↦ inr (record { frame = z.frame; is_later = z.is_later; stands = behind_one g gs z.frame z.stands })
  ]
]
come_of delay missing (x ∷ fs) (g ∷ gs) f (inr c) h =
    elim (head_or_tail x fs f h) [ inl e ↦ inl (subst missing e c.0) | inr t ↦ come_of delay missing fs (g ∷ gs) f c.1 t ]

-- what one member sent stands among what others sent to another
pub same_member : (o : Option ℕ) (i j : ℕ) → is_some o i ≡ true → is_some o j ≡ true → i ≡ j
same_member None i j e f = absurd (cc)
same_member (Some k) i j e f = sym (eqb-true k i e) ∙ eqb-true k j f

passed_on : (c : Bool) (j start : ℕ) (x : Passed) (L : List Passed) (f : FrameRecord) → Contains (others j start L) f
    → Contains (log (if c then x ∷ filter (λ y. not (is_some y.by j) && nat_le start y.frame.stamp) L
    else filter (λ y. not (is_some y.by j) && nat_le start y.frame.stamp) L)) f
passed_on true j start x L f h = behind_one x.frame (others j start L) f h
passed_on false j start x L f h = h

passed_one : (a b : Bool) (i j start : ℕ) (x : Passed) (L : List Passed) (f : FrameRecord) → (i ≡ j → ⊥)
    → (Contains (own i L) f → Contains (others j start L) f) → is_some x.by i ≡ a → is_some x.by j ≡ b → start ≤ f.stamp
    → Contains (log (if a then x ∷ filter (λ y. is_some y.by i) L else filter (λ y. is_some y.by i) L)) f
    → Contains (log (if not b && nat_le start x.frame.stamp then x ∷ filter (λ y. not (is_some y.by j) && nat_le start y.frame.stamp) L
    else filter (λ y. not (is_some y.by j) && nat_le start y.frame.stamp) L)) f
passed_one true true i j start x L f n h e d l t = absurd (n (same_member x.by i j e d))
passed_one true false i j start x L f n h e d l t = elim (head_or_tail x.frame (own i L) f t) [
  | inl same ↦ subst (λ (c : Bool). Contains (log (if c then x ∷ filter (λ y. not (is_some y.by j) && nat_le start y.frame.stamp) L
      else filter (λ y. not (is_some y.by j) && nat_le start y.frame.stamp) L)) f)
      (sym (le-leb start x.frame.stamp (let s = ap (λ (v : FrameRecord). v.stamp) same in omega (arith, l, s)))) (first_of_them x.frame f (others j start L) same)
  | inr rest ↦ passed_on (nat_le start x.frame.stamp) j start x L f (h rest)
]
passed_one false true i j start x L f n h e d l t = h t
passed_one false false i j start x L f n h e d l t = passed_on (nat_le start x.frame.stamp) j start x L f (h t)

pub passed_to : (i j start : ℕ) (L : List Passed) (f : FrameRecord) → (i ≡ j → ⊥) → start ≤ f.stamp → Contains (own i L) f → Contains (others j start L) f
passed_to i j start [] f n l h = h
passed_to i j start (x ∷ L) f n l h =
    passed_one (is_some x.by i) (is_some x.by j) i j start x L f n (passed_to i j start L f n l) refl refl l h

-- ---- frames that were taken, and heard

pub taken_in : (later E : List Call) (at : ℕ) (f : FrameRecord) → Contains (frames (later ++ At at (TakeFrame (Some f)) ∷ E)) f
taken_in [] E at f = Contains-push (frames E) f
taken_in (At now (TakeFrame (Some g)) ∷ later) E at f =
    Contains-append_left (frames (later ++ At at (TakeFrame (Some f)) ∷ E)) (g ∷ []) f (taken_in later E at f)
taken_in (call ∷ later) E at f = taken_in later E at f

-- it was heard at a call of H
pub record HeardAt (f : FrameRecord) (H : List Call) : Type 0 where
  pub later : List Call
  pub frame : FrameRecord
  pub earlier : List Call
  pub is : H ≡ later ++ At f.stamp (Hear frame) ∷ earlier
  pub id : frame.id ≡ f.id
  pub bytes : frame.bytes ≡ f.bytes

one_more : (call : Call) (H : List Call) (f : FrameRecord) → HeardAt f H → HeardAt f (call ∷ H)
one_more call H f h = record { later = call ∷ h.later; frame = h.frame; earlier = h.earlier; is = ap (λ G. call ∷ G) h.is; id = h.id; bytes = h.bytes }

pub heard_at : (H : List Call) (f : FrameRecord) → Contains (hears H) f → HeardAt f H
heard_at [] f h = absurd (none_in f h)
heard_at (At now (Hear g) ∷ H) f h =
    elim (Contains-push_cases (hears H) (record { stamp = now; id = g.id; bytes = g.bytes }) f h) [
      | inl t ↦ one_more (At now (Hear g)) H f (heard_at H f t)
      | inr e ↦ record {
        later = [];
        frame = g;
        earlier = H;
        is = ap (λ (k : FrameRecord). At k.stamp (Hear g) ∷ H) e;
        id = ap (λ (k : FrameRecord). k.id) e;
        bytes = ap (λ (k : FrameRecord). k.bytes) e;
      }
    ]
heard_at (call ∷ H) f h = one_more call H f (heard_at H f h)

-- ---- time

pub ordered : (start end : ℕ) (H : List Call) → InTime start end H → start ≤ end
ordered start end [] t = t
ordered start end (At now act ∷ H) t = let a = t.0 in let b = ordered start now H t.1 in omega (arith, a, b)
ordered start end (call ∷ H) t = ordered start end H t

pub within : (start end at : ℕ) (act : Act) (later E : List Call) → InTime start end (later ++ At at act ∷ E) → (start ≤ at) × (at ≤ end)
within start end at act [] E t = (ordered start at E t.1, t.0)
within start end at act (At now x ∷ later) E t =
    let h = within start now at act later E t.1 in let a = h.1 in let b = t.0 in (h.0, omega (arith, a, b))
within start end at act (call ∷ later) E t = within start end at act later E t

-- what stands before a call
pub behind_it : (start end at : ℕ) (act : Act) (later E : List Call) → InTime start end (later ++ At at act ∷ E) → InTime start at E
behind_it start end at act [] E t = t.1
behind_it start end at act (At now x ∷ later) E t = behind_it start now at act later E t.1
behind_it start end at act (call ∷ later) E t = behind_it start end at act later E t

-- what passes behind a call
pub elapsed : (start end at : ℕ) (act : Act) (later E : List Call) → InTime start end (later ++ At at act ∷ E)
    → at + (passed_in later (At at act ∷ E) + step (later ++ At at act ∷ E) end) ≤ end
elapsed start end at act [] E t = let a = t.0 in omega (arith, a)
elapsed start end at act (At now x ∷ later) E t =
    let h = elapsed start now at act later E t.1 in let a = t.0 in omega (arith, h, a)
elapsed start end at act (call ∷ later) E t = let h = elapsed start end at act later E t in omega (arith, h)
