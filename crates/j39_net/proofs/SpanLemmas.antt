-- What is heard of the frames that a member takes from one call to another.
use Rattle.std.proofs.Common.{[], append-nil, if◌then◌else◌, ◌&&◌, ◌++◌, ◌+◌, ◌||◌, ◌∙◌, ◌∷◌, ◌≡◌, ◌≤◌, ap, append_assoc, arith, Bool, eq-eqb, eqb-true, false, filter, inl, inr, le-leb, length, length-append, List, map, nat_eq, nat_le, not, Ok, refl, Some, subst, sym, true, ℕ}
use Rattle.std.proofs.lemmas.Bool.{and_parts}
use Rattle.std.proofs.lemmas.List.{map-append}
use Rattle.std.proofs.lemmas.List.Elements.{All-cons, All-filter, All-head, All-nil, All-push, All-tail, filter-append}
use Rattle.std.specs.List.{All, Contains}
use Rattle.j39_frame.specs.Frame.{FrameRecord}
use Rattle.j39_frame.specs.Identifier.{pgn_of, source_of}
use Rattle.j39_node.proofs.LaneLaws.{packed_by}
use Rattle.j39_node.proofs.LaneLemmas.{laned, opened_by}
use Rattle.j39_node.proofs.SoundLemmas.{frame_case, stamped_by}
use Rattle.j39_node.specs.History.{Act, broadcast_from, broadcasts, Call, frames, is_claim, is_packet, is_session, is_some, Message, message_of, moment, open_broadcast, packets, Who}
use Rattle.j39_node.specs.History.Call.{At}
use Rattle.j39_node.specs.History.Act.{Broadcast, TakeFrame}
use Rattle.j39_node.specs.Is.{AreAnswered}
use Rattle.j39_net.proofs.CourseLemmas.{all_front}
use Rattle.j39_net.proofs.NetLemmas.{behind_one, first_of_them, head_or_tail, same_member, within}
use Rattle.j39_net.proofs.PartLemmas.{is_by, same_message}
use Rattle.j39_net.proofs.WholeLemmas.{skip}
use Rattle.j39_net.specs.Net.{Come, InTime, IsLater, IsNoneOf, log, OnlySends, others, own, Passed}

-- ---- frames of broadcasts of one address

abbrev pub is_of : ℕ → FrameRecord → Bool
is_of a f = is_packet f && nat_eq (source_of f.id) a

abbrev pub its : ℕ → List FrameRecord → List FrameRecord
its a fs = filter (is_of a) fs

-- its moment lies between these
abbrev pub IsIn : ℕ → ℕ → FrameRecord → Type 0
IsIn at end f = (at ≤ f.stamp) × (f.stamp ≤ end)

-- each of these frames is at most so long behind the one before it
abbrev pub AreClose : ℕ → List FrameRecord → Type 0
AreClose t (f ∷ g ∷ F) = (g.stamp ≤ f.stamp + t) × AreClose t (g ∷ F)
AreClose t F = Unit {0}

contains_mapped : (fs : List FrameRecord) (f : FrameRecord) → Contains fs f → Contains (map message_of fs) (message_of f)
contains_mapped [] f h = absurd (let l = h.1 in omega (arith, l))
contains_mapped (x ∷ fs) f h = elim (head_or_tail x fs f h) [
  | inl e ↦ first_of_them (message_of x) (message_of f) (map message_of fs) (ap message_of e)
  | inr t ↦ behind_one (message_of x) (map message_of fs) (message_of f) (contains_mapped fs f t)
]

later_of : (b : Bool) (f x : FrameRecord) (fs : List FrameRecord) → Contains fs x → Contains (if b then f ∷ fs else fs) x
later_of true f x fs h = behind_one f fs x h
later_of false f x fs h = h

module _ (delay : ℕ) where
  -- all come
  abbrev pub AllCome : List FrameRecord → List FrameRecord → Type 0
  AllCome fs gs = Come delay (λ f. ⊥) fs gs

  one_comes : (b c : Bool) (f g : FrameRecord) (fs gs : List FrameRecord) → c ≡ b → IsLater delay f g → AllCome fs gs → AllCome (if b then f ∷ fs else fs) (if c then g ∷ gs else gs)
  one_comes true true f g fs gs e l h = inl (l, h)
  one_comes false false f g fs gs e l h = h
  one_comes true false f g fs gs e l h = absurd (cc)
  one_comes false true f g fs gs e l h = absurd (cc)

  -- of these messages
  abbrev AreOf : List Message → List FrameRecord → Type 0
  AreOf X fs = (f : FrameRecord) → Contains fs f → Contains X (message_of f)

  one_lost : (b : Bool) (X : List Message) (f : FrameRecord) (fs gs : List FrameRecord) → IsNoneOf X f → (AreOf X fs → AllCome fs gs) → AreOf X (if b then f ∷ fs else fs)
      → AllCome (if b then f ∷ fs else fs) gs
  one_lost true X f fs gs n k h = absurd (n (h f (first_of_them f f fs refl)))
  one_lost false X f fs gs n k h = k h

  its_come : (a : ℕ) (X : List Message) (fs gs : List FrameRecord) → Come delay (IsNoneOf X) fs gs → AreOf X (its a fs) → AllCome (its a fs) (its a gs)
  its_come a X [] [] c h = tt
  its_come a X [] (g ∷ gs) c h = absurd c
  its_come a X (f ∷ fs) [] c h = one_lost (is_of a f) X f (its a fs) [] c.0 (its_come a X fs [] c.1) h
  its_come a X (f ∷ fs) (g ∷ gs) (inl c) h =
      one_comes (is_of a f) (is_of a g) f g (its a fs) (its a gs) (λ k. is_of a (record { stamp = 0; id = c.0.id k; bytes = c.0.bytes k })) c.0
      (its_come a X fs gs c.1 (λ x m. h x (later_of (is_of a f) f x (its a fs) m)))
  its_come a X (f ∷ fs) (g ∷ gs) (inr c) h = one_lost (is_of a f) X f (its a fs) (its a (g ∷ gs)) c.0 (its_come a X fs (g ∷ gs) c.1) h

  all_same : (fs gs : List FrameRecord) → AllCome fs gs → map message_of gs ≡ map message_of fs
  all_same [] [] c = refl
  all_same [] (g ∷ gs) c = absurd c
  all_same (f ∷ fs) [] c = absurd c.0
  all_same (f ∷ fs) (g ∷ gs) (inl c) = λ k. same_message delay f g c.0 k ∷ all_same fs gs c.1 k
  all_same (f ∷ fs) (g ∷ gs) (inr c) = absurd c.0

  come_since : (at end : ℕ) (missing : FrameRecord → Type 0) (fs gs : List FrameRecord) → Come delay missing fs gs → All (IsIn at end) fs → All (IsIn at (end + delay)) gs
  come_since at end missing [] [] c h = All-nil (IsIn at (end + delay))
  come_since at end missing [] (g ∷ gs) c h = absurd c
  come_since at end missing (f ∷ fs) [] c h = All-nil (IsIn at (end + delay))
  come_since at end missing (f ∷ fs) (g ∷ gs) (inl c) h =
      let s = All-head (IsIn at end) f fs h in
      let l = s.0 in
      let m = s.1 in
      let b = c.0.behind in
      let d = c.0.in_time in
      All-cons (IsIn at (end + delay)) g gs (omega (arith, l, b), omega (arith, m, d)) (come_since at end missing fs gs c.1 (All-tail (IsIn at end) f fs h))
  come_since at end missing (f ∷ fs) (g ∷ gs) (inr c) h = come_since at end missing fs (g ∷ gs) c.1 (All-tail (IsIn at end) f fs h)

  first_later : (f g : FrameRecord) (fs gs : List FrameRecord) → AllCome (f ∷ fs) (g ∷ gs) → IsLater delay f g
  first_later f g fs gs (inl c) = c.0
  first_later f g fs gs (inr c) = absurd c.0

  come_close : (t : ℕ) (fs gs : List FrameRecord) → AllCome fs gs → AreClose t fs → AreClose (t + delay) gs
  come_close t fs [] c h = tt
  come_close t fs (g ∷ []) c h = tt
  come_close t [] (g ∷ y ∷ gs) c h = absurd c
  come_close t (f ∷ []) (g ∷ y ∷ gs) (inl c) h = absurd c.1
  come_close t (f ∷ x ∷ fs) (g ∷ y ∷ gs) (inl c) h =
      let a = c.0.behind in let b = (first_later x y fs gs c.1).in_time in let d = h.0 in (omega (arith, a, b, d), come_close t (x ∷ fs) (y ∷ gs) c.1 h.1)
  come_close t (f ∷ fs) (g ∷ y ∷ gs) (inr c) h = absurd c.0

pub close_within : (s t : ℕ) (fs : List FrameRecord) → s ≤ t → AreClose s fs → AreClose t fs
close_within s t [] l h = tt
close_within s t (f ∷ []) l h = tt
close_within s t (f ∷ g ∷ fs) l h = let a = h.0 in (omega (arith, a, l), close_within s t (g ∷ fs) l h.1)

-- ---- on the bus

module _ (i j start a : ℕ) (apart : i ≡ j → ⊥) where
  logged_one : (b c t : Bool) (x : Passed) (F G : List Passed) → is_some x.by i ≡ b → is_some x.by j ≡ c → is_of a x.frame ≡ t → (t ≡ true → b ≡ true)
      → All (λ f. start ≤ f.stamp) (log (if b then x ∷ F else F)) → (All (λ f. start ≤ f.stamp) (log F) → its a (log G) ≡ its a (log F))
      → its a (log (if not c && nat_le start x.frame.stamp then x ∷ G else G)) ≡ its a (log (if b then x ∷ F else F))
  logged_one true true t x F G e d k o s ih = absurd (apart (same_member x.by i j e d))
  logged_one true false t x F G e d k o s ih =
      ap (λ (t : Bool). its a (log (if t then x ∷ G else G))) (le-leb start x.frame.stamp (All-head (λ f. start ≤ f.stamp) x.frame (log F) s))
      ∙ ap (λ v. if is_of a x.frame then x.frame ∷ v else v) (ih (All-tail (λ f. start ≤ f.stamp) x.frame (log F) s))
  logged_one false c true x F G e d k o s ih = absurd (let z = o refl in cc)
  logged_one false c false x F G e d k o s ih = go (not c && nat_le start x.frame.stamp)
    where
      go : (t : Bool) → its a (log (if t then x ∷ G else G)) ≡ its a (log F)
      go true = ap (λ (t : Bool). if t then x.frame ∷ its a (log G) else its a (log G)) k ∙ ih s
      go false = ih s

  its_sender : (x : Passed) → (is_claim x.frame ≡ false → source_of x.frame.id ≡ a → x.by ≡ Some i) → is_of a x.frame ≡ true → is_some x.by i ≡ true
  its_sender x o e =
      let p = and_parts (is_packet x.frame) (nat_eq (source_of x.frame.id) a) e in
      is_by x.by i (o (no_claim (pgn_of x.frame.id) (and_parts (is_session x.frame) _ p.0).0) (eqb-true (source_of x.frame.id) a p.1))
    where
      no_claim : (g : ℕ) → (nat_eq g 60416 || nat_eq g 60160) ≡ true → nat_eq g 60928 ≡ false
      no_claim g e = grind (arith, e)

  logged : (L : List Passed) → OnlySends L i a → All (λ f. start ≤ f.stamp) (own i L) → its a (others j start L) ≡ its a (own i L)
  logged [] o s = refl
  logged (x ∷ L) o s =
      logged_one (is_some x.by i) (is_some x.by j) (is_of a x.frame) x (filter (λ y. is_some y.by i) L) (filter (λ y. not (is_some y.by j) && nat_le start y.frame.stamp) L) refl refl refl
      (its_sender x (All-head (λ y. is_claim y.frame ≡ false → source_of y.frame.id ≡ a → y.by ≡ Some i) x L o)) s
      (logged L (All-tail (λ y. is_claim y.frame ≡ false → source_of y.frame.id ≡ a → y.by ≡ Some i) x L o))

-- ---- in two parts

come_parts : (delay : ℕ) (missing : FrameRecord → Type 0) (fs us gs : List FrameRecord) → Come delay missing (fs ++ us) gs
    → (hs : List FrameRecord) × (vs : List FrameRecord) × (gs ≡ hs ++ vs) × Come delay missing fs hs × Come delay missing us vs
come_parts delay missing [] us gs c = ([], gs, refl, tt, c)
come_parts delay missing (f ∷ fs) us [] c =
    let r = come_parts delay missing fs us [] c.1 in (r.0, r.1, r.2, skip delay missing f fs r.0 c.0 r.3, r.4)
come_parts delay missing (f ∷ fs) us (g ∷ gs) (inl c) =
    let r = come_parts delay missing fs us gs c.1 in (g ∷ r.0, r.1, ap (λ v. g ∷ v) r.2, inl (c.0, r.3), r.4)
come_parts delay missing (f ∷ fs) us (g ∷ gs) (inr c) =
    let r = come_parts delay missing fs us (g ∷ gs) c.1 in (r.0, r.1, r.2, skip delay missing f fs r.0 c.0 r.3, r.4)

log_parts : (p : Passed → Bool) (xs : List Passed) (us vs : List FrameRecord) → log (filter p xs) ≡ us ++ vs
    → (ys : List Passed) × (zs : List Passed) × (xs ≡ ys ++ zs) × (log (filter p ys) ≡ us) × (log (filter p zs) ≡ vs)
log_parts p xs [] vs e = ([], xs, refl, refl, e)
log_parts p [] (u ∷ us) vs e = absurd (cc)
log_parts p (x ∷ xs) (u ∷ us) vs e = go (p x) refl e (log_parts p xs)
  where
    go : (b : Bool) → p x ≡ b → log (if b then x ∷ filter p xs else filter p xs) ≡ u ∷ us ++ vs
        → ((us vs : List FrameRecord) → log (filter p xs) ≡ us ++ vs → (ys : List Passed) × (zs : List Passed) × (xs ≡ ys ++ zs) × (log (filter p ys) ≡ us) × (log (filter p zs) ≡ vs))
        → (ys : List Passed) × (zs : List Passed) × (x ∷ xs ≡ ys ++ zs) × (log (filter p ys) ≡ u ∷ us) × (log (filter p zs) ≡ vs)
    go true i e rec =
        let z : x.frame ≡ u = cc in
        let r = rec us vs (cc) in
        (x ∷ r.0, r.1, ap (λ v. x ∷ v) r.2, ap (λ (t : Bool). log (if t then x ∷ filter p r.0 else filter p r.0)) i ∙ λ k. z k ∷ r.3 k, r.4)
    go false i e rec =
        let r = rec (u ∷ us) vs e in
        (x ∷ r.0, r.1, ap (λ v. x ∷ v) r.2, ap (λ (t : Bool). log (if t then x ∷ filter p r.0 else filter p r.0)) i ∙ r.3, r.4)

all_back : {T : Type 0} (P : T → Type 0) (xs ys : List T) → All P (xs ++ ys) → All P ys
all_back P [] ys h = h
all_back P (x ∷ xs) ys h = all_back P xs ys (All-tail P x (xs ++ ys) h)

-- what a member takes, what passes on the bus, and what another hears
pub record Travels (delay i j start a : ℕ) (missing : FrameRecord → Type 0) (fs : List FrameRecord) (L : List Passed) (gs : List FrameRecord) : Type 0 where
  pub only : OnlySends L i a
  pub sent : Come delay missing fs (own i L)
  pub heard : Come delay missing (others j start L) gs

module _ (delay i j start a : ℕ) (missing : FrameRecord → Type 0) where
  pub record Parts (fs us gs : List FrameRecord) : Type 0 where
    pub passed : List Passed
    pub passed_then : List Passed
    pub heard : List FrameRecord
    pub heard_then : List FrameRecord
    pub is : gs ≡ heard ++ heard_then
    pub first : Travels delay i j start a missing fs passed heard
    pub rest : Travels delay i j start a missing us passed_then heard_then

  pub parts : (fs us : List FrameRecord) (L : List Passed) (gs : List FrameRecord) → Travels delay i j start a missing (fs ++ us) L gs → Parts fs us gs
  parts fs us L gs t =
      let c = come_parts delay missing fs us (own i L) t.sent in
      let l = log_parts (λ x. is_some x.by i) L c.0 c.1 c.2 in
      let theirs : Passed → Bool = λ x. not (is_some x.by j) && nat_le start x.frame.stamp in
      let only = subst (λ K. OnlySends K i a) l.2 t.only in
      let h = come_parts delay missing (others j start l.0) (others j start l.1) gs
      (subst (λ fs. Come delay missing fs gs) (ap (others j start) l.2 ∙ (ap log (filter-append theirs l.0 l.1) ∙ map-append (λ (x : Passed). x.frame) (filter theirs l.0) (filter theirs l.1))) t.heard) in
      record {
        passed = l.0;
        passed_then = l.1;
        heard = h.0;
        heard_then = h.1;
        is = h.2;
        first = record { only = all_front (λ x. is_claim x.frame ≡ false → source_of x.frame.id ≡ a → x.by ≡ Some i) l.0 l.1 only; sent = subst (Come delay missing fs) (sym l.3) c.3; heard = h.3 };
        rest = record { only = all_back (λ x. is_claim x.frame ≡ false → source_of x.frame.id ≡ a → x.by ≡ Some i) l.0 l.1 only; sent = subst (Come delay missing us) (sym l.4) c.4; heard = h.4 };
      }

-- where no frame of broadcasts that is taken is missing, they are heard
pub its_heard : (delay i j start a at end : ℕ) (fs : List FrameRecord) (L : List Passed) (gs : List FrameRecord) → (i ≡ j → ⊥)
    → Travels delay i j start a (IsNoneOf (map message_of (its a fs))) fs L gs → All (IsIn at end) fs → start ≤ at
    → (map message_of (its a gs) ≡ map message_of (its a fs)) × All (IsIn at (end + delay + delay)) (its a gs) × ((t : ℕ) → AreClose t (its a fs) → AreClose (t + delay + delay) (its a gs))
its_heard delay i j start a at end fs L gs apart t s l =
    let X = map message_of (its a fs) in
    let on = its_come delay a X fs (own i L) t.sent (λ f h. contains_mapped (its a fs) f h) in
    let all = come_since delay at end (IsNoneOf X) fs (own i L) t.sent s in
    let same = logged i j start a apart L t.only (λ n d k. (let z = (all n d k).0 in omega (arith, z, l))) in
    let from = all_same delay (its a fs) (its a (own i L)) on in
    let there = its_come delay a X (others j start L) gs t.heard
    (λ f h. subst (λ Y. Contains Y (message_of f)) from (contains_mapped (its a (own i L)) f (subst (λ us. Contains us f) same h))) in (
      all_same delay (its a (others j start L)) (its a gs) there ∙ (ap (map message_of) same ∙ from),
      come_since delay at (end + delay) (λ f. ⊥) (its a (others j start L)) (its a gs) there
          (subst (All (IsIn at (end + delay))) (sym same) (All-filter (is_of a) (IsIn at (end + delay)) (own i L) all)),
      λ t h. come_close delay (t + delay) (its a (others j start L)) (its a gs) there
          (subst (AreClose (t + delay)) (sym same) (come_close delay t (its a fs) (its a (own i L)) on h)),
    )

-- ---- what is taken

pub moment_before : (start end : ℕ) (H : List Call) → InTime start end H → moment H ≤ end
moment_before start end [] t = omega arith
moment_before start end (At now x ∷ H) t = t.0
moment_before start end (call ∷ H) t = moment_before start end H t

pub taken_since : (w : Who) (later E : List Call) (start end at top : ℕ) (act : Act) → AreAnswered w (later ++ At at act ∷ E) → InTime start end (later ++ At at act ∷ E)
    → moment (later ++ At at act ∷ E) ≤ top → All (IsIn at top) (frames later)
taken_since w [] E start end at top act right t l = All-nil (IsIn at top)
taken_since w (At now (TakeFrame (Some f)) ∷ later) E start end at top act right t l =
    All-push (IsIn at top) (frames later) f (taken_since w later E start now at top act right.0 t.1 (let b = moment_before start now (later ++ At at act ∷ E) t.1 in omega (arith, b, l)))
    (let m = ap (λ (x : ℕ × Message). x.0) (stamped_by (frame_case w (later ++ At at act ∷ E) now f right.1)).1 in let b = (within start now at act later E t.1).1 in (omega (arith, m, b), omega (arith, m, l)))
taken_since w (At now x ∷ later) E start end at top act right t l = taken_since w later E start now at top act right.0 t.1 (let b = moment_before start now (later ++ At at act ∷ E) t.1 in omega (arith, b, l))
taken_since w (call ∷ later) E start end at top act right t l = taken_since w later E start end at top act right.0 t l

-- broadcasts that are accepted
pub fewer_accepted : (w : Who) (later B : List Call) → length (broadcasts w B) ≤ length (broadcasts w (later ++ B))
fewer_accepted w [] B = omega arith
fewer_accepted w (At now (Broadcast group bytes (Ok k)) ∷ later) B =
    let h = fewer_accepted w later B in let l = length-append (broadcasts w (later ++ B)) (broadcast_from w group bytes ∷ []) in omega (arith, h, l)
fewer_accepted w (call ∷ later) B = fewer_accepted w later B

-- where none is accepted, what is taken of broadcasts is of the one before
pub none_accepted : (w : Who) (later B : List Call) → length (broadcasts w (later ++ B)) ≤ length (broadcasts w B)
    → (packets (later ++ B) ≡ packets B ++ map message_of (filter is_packet (frames later))) × (broadcasts w (later ++ B) ≡ broadcasts w B)
none_accepted w [] B l = (sym (append-nil (packets B)), refl)
none_accepted w (At now (Broadcast group bytes (Ok k)) ∷ later) B l =
    absurd (let h = fewer_accepted w later B in let n = length-append (broadcasts w (later ++ B)) (broadcast_from w group bytes ∷ []) in omega (arith, h, n, l))
none_accepted w (At now (TakeFrame (Some f)) ∷ later) B l =
    let h = none_accepted w later B l in
    (one (is_packet f) h.0 ∙ ap (λ us. packets B ++ map message_of us) (sym (filter-append is_packet (frames later) (f ∷ []))), h.1)
  where
    F : List FrameRecord
    F = filter is_packet (frames later)

    one : (t : Bool) → packets (later ++ B) ≡ packets B ++ map message_of F
        → (if t then packets (later ++ B) ++ message_of f ∷ [] else packets (later ++ B)) ≡ packets B ++ map message_of (F ++ (if t then f ∷ [] else []))
    one true h =
        ap (λ v. v ++ message_of f ∷ []) h ∙ (append_assoc (packets B) (map message_of F) (message_of f ∷ []) ∙ ap (λ v. packets B ++ v) (sym (map-append message_of F (f ∷ []))))
    one false h = h ∙ ap (λ us. packets B ++ map message_of us) (sym (append-nil F))
none_accepted w (call ∷ later) B l = none_accepted w later B l

-- it comes from the own address
pub own_packets : (w : Who) (later B : List Call) → AreAnswered w (later ++ B) → its w.address (frames later) ≡ filter is_packet (frames later)
own_packets w [] B right = refl
own_packets w (At now (TakeFrame (Some f)) ∷ later) B right =
    filter-append (is_of w.address) (frames later) (f ∷ [])
    ∙ ((λ k. own_packets w later B right.0 k ++ (if its_own (is_packet f) refl k then f ∷ [] else [])) ∙ sym (filter-append is_packet (frames later) (f ∷ [])))
  where
    its_own : (t : Bool) → is_packet f ≡ t → (t && nat_eq (source_of f.id) w.address) ≡ t
    its_own false e = refl
    its_own true e =
        let p = packed_by w (later ++ B) now f right.0 e (frame_case w (later ++ B) now f right.1) in
        eq-eqb (source_of f.id) w.address (ap (λ (m : Message). m.source) p.is
        ∙ (opened_by w _ _ _ (open_broadcast w (later ++ B)) (p.token, p.message) (laned w (later ++ B) right.0) p.current).source)
own_packets w (call ∷ later) B right = own_packets w later B right.0
