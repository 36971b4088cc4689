-- What a member sends is heard under its NAME.
use Rattle.std.proofs.Common.{[], if◌then◌else◌, ◌&&◌, ◌==◌, nat_lt, ◌++◌, ◌^◌, ◌<◌, ◌∙◌, ◌∷◌, ◌≡◌, ◌≤◌, ◌⊎◌, ap, arith, Bool, eq-eqb, eqb-true, false, filter, get_or, inl, inr, length, length-append, List, nat_eq, None, Option, refl, Some, subst, suc, sym, true, zero, ℕ}
use Rattle.std.proofs.lemmas.Bool.{and_parts, cases_Bool, cases_eq}
use Rattle.byteorder.specs.Endian.{little_number}
use Rattle.std.proofs.lemmas.List.Elements.{Contains-push_cases}
use Rattle.std.specs.List.{Contains, slice_get}
use Rattle.j39_address.specs.Claim.{Claim, claim_of, claims_of}
use Rattle.j39_address.specs.Holder.{ClaimsAt, HoldsWithin, IsHolder}
use Rattle.j39_frame.specs.Address.{IsAddress}
use Rattle.j39_frame.specs.Frame.{FrameRecord}
use Rattle.j39_frame.specs.Identifier.{pgn_of, source_of}
use Rattle.j39_node.specs.History.{Call, Who, address_after, frames, is_claim, is_lost, is_some}
use Rattle.j39_node.specs.Is.{AreAnswered}
use Rattle.j39_node.specs.History.Call.{At}
use Rattle.j39_node.specs.History.Act.{TakeFrame}
use Rattle.j39_node.proofs.Tests.{not_both}
use Rattle.j39_net.proofs.PartLemmas.{is_by}
use Rattle.std.proofs.lemmas.Option.{slice_get_within}
use Rattle.j39_net.proofs.NetLemmas.{behind_one, come_of, first_of_them, head_or_tail, taken_in}
use Rattle.j39_net.proofs.ShareLemmas.{Claims, claims_its, its_claim, same_claim}
use Rattle.j39_net.specs.Net.{Come, IsLater, IsMember, IsNoClaim, IsUnrivalled, Member, Passed, log, own}

-- ---- lists

pub record Split {T : Type 0} (xs : List T) (k : ℕ) (x : T) : Type 0 where
  pub before : List T
  pub after : List T
  pub is : xs ≡ before ++ x ∷ after
  pub long : length before ≡ k

pub split_at : {T : Type 0} (xs : List T) (k : ℕ) (x : T) → slice_get xs k ≡ Some x → Split xs k x
split_at [] k x e = absurd (cc)
split_at (y ∷ xs) zero x e = record { before = []; after = xs; is = (let z : y ≡ x = cc in ap (λ v. v ∷ xs) z); long = refl }
split_at (y ∷ xs) (suc k) x e =
    let s = split_at xs k x e in record { before = y ∷ s.before; after = s.after; is = ap (λ v. y ∷ v) s.is; long = ap suc s.long }

-- what stands where one is put behind
pub push_cases : {T : Type 0} (xs us vs : List T) (g f : T) → xs ++ g ∷ [] ≡ us ++ f ∷ vs → ((xs ≡ us) × (g ≡ f)) ⊎ ((ws : List T) × (xs ≡ us ++ f ∷ ws))
push_cases [] [] vs g f e = inl (refl, (let z : g ≡ f = cc in z))
push_cases (x ∷ xs) [] vs g f e = inr (xs, (let z : x ≡ f = cc in ap (λ v. v ∷ xs) z))
push_cases [] (u ∷ us) vs g f e = absurd (let a = ap length e in let b = length-append us (f ∷ vs) in omega (arith, a, b))
push_cases (x ∷ xs) (u ∷ us) vs g f e =
    let head : x ≡ u = cc in
    let tail : xs ++ g ∷ [] ≡ us ++ f ∷ vs = cc in
    elim (push_cases xs us vs g f tail) [
      | inl h ↦ inl (λ i. head i ∷ h.0 i, h.1)
      | inr h ↦ inr (h.0, λ i. head i ∷ h.1 i)
    ]

-- ---- frames that come

-- the frame of which g came, and those of which what stands before g came
pub record Source (delay : ℕ) (missing : FrameRecord → Type 0) (fs : List FrameRecord) (g : FrameRecord) (before : List FrameRecord) : Type 0 where
  pub earlier : List FrameRecord
  pub frame : FrameRecord
  pub after : List FrameRecord
  pub is : fs ≡ earlier ++ frame ∷ after
  pub is_later : IsLater delay frame g
  pub come : Come delay missing earlier before

module _ (delay : ℕ) (missing : FrameRecord → Type 0) where
  behind_another : (f : FrameRecord) (fs : List FrameRecord) (g : FrameRecord) (some all : List FrameRecord) (s : Source delay missing fs g some)
      → Come delay missing (f ∷ s.earlier) all → Source delay missing (f ∷ fs) g all
  behind_another f fs g some all s c = record { earlier = f ∷ s.earlier; frame = s.frame; after = s.after; is = ap (λ v. f ∷ v) s.is; is_later = s.is_later; come = c }

  pub source_in : (before after : List FrameRecord) (g : FrameRecord) (fs : List FrameRecord) → Come delay missing fs (before ++ g ∷ after) → Source delay missing fs g before
  source_in [] after g [] c = absurd c
  source_in [] after g (f ∷ fs) (inl c) = record { earlier = []; frame = f; after = fs; is = refl; is_later = c.0; come = tt }
  source_in [] after g (f ∷ fs) (inr c) = let s = source_in [] after g fs c.1 in behind_another f fs g [] [] s (c.0, s.come)
  source_in (b ∷ before) after g [] c = absurd c
  source_in (b ∷ before) after g (f ∷ fs) (inl c) =
      let s = source_in before after g fs c.1 in behind_another f fs g before (b ∷ before) s (inl (c.0, s.come))
  source_in (b ∷ before) after g (f ∷ fs) (inr c) =
      let s = source_in (b ∷ before) after g fs c.1 in behind_another f fs g (b ∷ before) (b ∷ before) s (inr (c.0, s.come))

-- the call that took a frame, and what was taken before it
pub record TakenAt (H : List Call) (f : FrameRecord) (before : List FrameRecord) : Type 0 where
  pub later : List Call
  pub at : ℕ
  pub earlier : List Call
  pub is : H ≡ later ++ At at (TakeFrame (Some f)) ∷ earlier
  pub before_it : frames earlier ≡ before

one_call : (call : Call) (H : List Call) (f : FrameRecord) (before : List FrameRecord) → TakenAt H f before → TakenAt (call ∷ H) f before
one_call call H f before t = record { later = call ∷ t.later; at = t.at; earlier = t.earlier; is = ap (λ G. call ∷ G) t.is; before_it = t.before_it }

pub taken_at : (H : List Call) (f : FrameRecord) (before after : List FrameRecord) → frames H ≡ before ++ f ∷ after → TakenAt H f before
taken_at [] f before after e = absurd (let a = ap length e in let b = length-append before (f ∷ after) in omega (arith, a, b))
taken_at (At now (TakeFrame (Some g)) ∷ H) f before after e = elim (push_cases (frames H) before after g f e) [
  | inl h ↦ record { later = []; at = now; earlier = H; is = ap (λ k. At now (TakeFrame (Some k)) ∷ H) h.1; before_it = h.0 }
  | inr h ↦ one_call (At now (TakeFrame (Some g))) H f before (taken_at H f before h.0 h.1)
]
taken_at (call ∷ H) f before after e = one_call call H f before (taken_at H f before after e)

pub taken_here : (H : List Call) (f : FrameRecord) → Contains (frames H) f → (before : List FrameRecord) × TakenAt H f before
taken_here [] f h = let l = h.1 in absurd (omega (arith, l))
taken_here (At now (TakeFrame (Some g)) ∷ H) f h = elim (Contains-push_cases (frames H) g f h) [
  | inl t ↦ let x = taken_here H f t in (x.0, one_call (At now (TakeFrame (Some g))) H f x.0 x.1)
  | inr e ↦ (frames H, record { later = []; at = now; earlier = H; is = ap (λ k. At now (TakeFrame (Some k)) ∷ H) e; before_it = refl })
]
taken_here (call ∷ H) f h = let x = taken_here H f h in (x.0, one_call call H f x.0 x.1)

-- of what a frame came
pub came_from : (delay : ℕ) (missing : FrameRecord → Type 0) (fs gs : List FrameRecord) (g : FrameRecord) → Come delay missing fs gs → Contains gs g
    → (f : FrameRecord) × Contains fs f × IsLater delay f g
came_from delay missing [] [] g c h = let l = h.1 in absurd (omega (arith, l))
came_from delay missing [] (x ∷ gs) g c h = absurd c
came_from delay missing (f ∷ fs) [] g c h = let l = h.1 in absurd (omega (arith, l))
came_from delay missing (f ∷ fs) (x ∷ gs) g (inl c) h = elim (head_or_tail x gs g h) [
  | inl e ↦ (f, first_of_them f f fs refl, subst (IsLater delay f) e c.0)
  | inr t ↦ let z = came_from delay missing fs gs g c.1 t in (z.0, behind_one f fs z.0 z.1, z.2)
]
came_from delay missing (f ∷ fs) (x ∷ gs) g (inr c) h = let z = came_from delay missing fs (x ∷ gs) g c.1 h in (z.0, behind_one f fs z.0 z.1, z.2)

-- ---- places of the log

own_at : (i : ℕ) (A : List Passed) (q : ℕ) (x : Passed) → slice_get A q ≡ Some x → x.by ≡ Some i → Contains (own i A) x.frame
own_at i [] q x e b = absurd (cc)
own_at i (y ∷ A) zero x e b =
    let z : y ≡ x = cc in
    subst (λ (t : Bool). Contains (log (if t then y ∷ filter (λ v. is_some v.by i) A else filter (λ v. is_some v.by i) A)) x.frame) (sym (is_by y.by i (ap (λ (v : Passed). v.by) z ∙ b)))
    (first_of_them y.frame x.frame (own i A) (ap (λ (v : Passed). v.frame) z))
own_at i (y ∷ A) (suc q) x e b = more (is_some y.by i) (own_at i A q x e b)
  where
    more : (t : Bool) → Contains (own i A) x.frame → Contains (log (if t then y ∷ filter (λ v. is_some v.by i) A else filter (λ v. is_some v.by i) A)) x.frame
    more true h = behind_one y.frame (own i A) x.frame h
    more false h = h

pub record Place (i : ℕ) (A : List Passed) (g : FrameRecord) : Type 0 where
  pub place : ℕ
  pub passed : Passed
  pub stands : slice_get A place ≡ Some passed
  pub frame : passed.frame ≡ g
  pub by : passed.by ≡ Some i

one_behind : (i : ℕ) (y : Passed) (A : List Passed) (g : FrameRecord) → Place i A g → Place i (y ∷ A) g
one_behind i y A g p = record { place = suc p.place; passed = p.passed; stands = p.stands; frame = p.frame; by = p.by }

pub by_it : (o : Option ℕ) (i : ℕ) → is_some o i ≡ true → o ≡ Some i
by_it None i e = absurd (cc)
by_it (Some k) i e = ap (λ (n : ℕ). (let z : Option ℕ = Some n in z)) (eqb-true k i e)

place_one : (i : ℕ) (y : Passed) (A : List Passed) (g : FrameRecord) (t : Bool) → is_some y.by i ≡ t → (Contains (own i A) g → Place i A g)
    → Contains (log (if t then y ∷ filter (λ v. is_some v.by i) A else filter (λ v. is_some v.by i) A)) g → Place i (y ∷ A) g
place_one i y A g true e h c = elim (head_or_tail y.frame (own i A) g c) [
  | inl z ↦ record { place = 0; passed = y; stands = refl; frame = z; by = by_it y.by i e }
  | inr z ↦ one_behind i y A g (h z)
]
place_one i y A g false e h c = one_behind i y A g (h c)

pub place_of : (i : ℕ) (A : List Passed) (g : FrameRecord) → Contains (own i A) g → Place i A g
place_of i [] g h = let l = h.1 in absurd (omega (arith, l))
place_of i (y ∷ A) g h = place_one i y A g (is_some y.by i) refl (place_of i A g) h

pub get_front : {T : Type 0} (A B : List T) (q : ℕ) (x : T) → slice_get A q ≡ Some x → slice_get (A ++ B) q ≡ Some x
get_front [] B q x e = absurd (cc)
get_front (y ∷ A) B zero x e = e
get_front (y ∷ A) B (suc q) x e = get_front A B q x e

get_back : {T : Type 0} (A B : List T) (q : ℕ) (x : T) → q < length A → slice_get (A ++ B) q ≡ Some x → slice_get A q ≡ Some x
get_back [] B q x l e = absurd (omega (arith, l))
get_back (y ∷ A) B zero x l e = e
get_back (y ∷ A) B (suc q) x l e = get_back A B q x (omega (arith, l)) e

-- ---- claims of the log

claims_at : (L : List Passed) (q : ℕ) (x : Passed) → slice_get L q ≡ Some x → get_or (claims_of (log L)) q None ≡ claim_of x.frame
claims_at [] q x e = absurd (cc)
claims_at (y ∷ L) zero x e = let z : y ≡ x = cc in ap (λ (v : Passed). claim_of v.frame) z
claims_at (y ∷ L) (suc q) x e = claims_at L q x e

claimed_at : (L : List Passed) (q : ℕ) (c : Claim) → get_or (claims_of (log L)) q None ≡ Some c → (x : Passed) × (slice_get L q ≡ Some x) × (claim_of x.frame ≡ Some c)
claimed_at [] q c e = absurd (cc)
claimed_at (y ∷ L) zero c e = (y, refl, e)
claimed_at (y ∷ L) (suc q) c e = claimed_at L q c e

is_of_claim : (b : Bool) (o : Option Claim) (c : Claim) → (if b then o else None) ≡ Some c → b ≡ true
is_of_claim true o c e = refl
is_of_claim false o c e = absurd (cc)

claims_one : (f : FrameRecord) (c : Claim) → claim_of f ≡ Some c → is_claim f ≡ true
claims_one f c e =
    (and_parts (pgn_of f.id == 60928) (length f.bytes == 8) (and_parts (pgn_of f.id == 60928 && length f.bytes == 8) (nat_lt (source_of f.id) 255)
    (is_of_claim (pgn_of f.id == 60928 && length f.bytes == 8 && nat_lt (source_of f.id) 255) (Some (record { name = little_number 8 f.bytes; address = source_of f.id })) c e)).0).0

-- the last place before k
record Last (p : ℕ → Bool) (k : ℕ) : Type 0 where
  pub place : ℕ
  pub before : place < k
  pub such : p place ≡ true
  pub none_behind : (r : ℕ) → place < r → r < k → p r ≡ false

last_one : (p : ℕ → Bool) (k q : ℕ) (b : Bool) → p k ≡ b → (q < k → Last p k) → q < suc k → p q ≡ true → Last p (suc k)
last_one p k q true f h l e = record { place = k; before = omega arith; such = f; none_behind = λ r a b. absurd (omega (arith, a, b)) }
last_one p k q false f h l e = elim (cases_eq q k) [
  | inl z ↦ absurd (let y : true ≡ false = sym e ∙ (ap p z ∙ f) in cc)
  | inr n ↦
      let x = h (omega (arith, l, n)) in
      record {
        place = x.place;
        before = let a = x.before in omega (arith, a);
        such = x.such;
        none_behind = λ r a b. elim (cases_eq r k) [ inl z ↦ ap p z ∙ f | inr m ↦ x.none_behind r a (omega (arith, b, m)) ];
      }
]

last_such : (p : ℕ → Bool) (k q : ℕ) → q < k → p q ≡ true → Last p k
last_such p zero q l e = absurd (omega (arith, l))
last_such p (suc k) q l e = last_one p k q (p k) refl (λ z. last_such p k q z e) l e

-- ---- the holder

-- a claim by this NAME
abbrev is_of_name : ℕ → Option Claim → Bool
is_of_name n None = false
is_of_name n (Some c) = nat_eq c.name n

name_it : (n : ℕ) (o : Option Claim) → is_of_name n o ≡ true → (c : Claim) × (o ≡ Some c) × (c.name ≡ n)
name_it n None e = absurd (cc)
name_it n (Some c) e = (c, refl, eqb-true c.name n e)

-- each claim before k is the member's own of its address, or none that touches it
pub record Beside (name address : ℕ) (c : Claim) : Type 0 where
  pub other : c.name ≡ name → ⊥
  pub larger : c.address ≡ address → name < c.name

abbrev pub Each : List (Option Claim) → ℕ → ℕ → ℕ → Type 0
Each C k name address = (q : ℕ) (c : Claim) → q < k → get_or C q None ≡ Some c → ((c.name ≡ name) × (c.address ≡ address)) ⊎ Beside name address c

no_smaller : (C : List (Option Claim)) (k name address : ℕ) → Each C k name address → (q m : ℕ) → q < k → m < name → ClaimsAt C q m address → ⊥
no_smaller C k name address each q m l less e = elim (each q (record { name = m; address = address }) l e) [
  | inl z ↦ (let a = z.0 in omega (arith, a, less))
  | inr z ↦ (let a = z.larger refl in omega (arith, a, less))
]

none_held : (C : List (Option Claim)) (k name address : ℕ) → Each C k name address → (bound j m : ℕ) → j ≤ k → m < name → HoldsWithin bound C j m address → ⊥
none_held C k name address each zero j m l less h = absurd h
none_held C k name address each (suc bound) j m l less h =
    let b = h.1.before in no_smaller C k name address each h.0 m (omega (arith, b, l)) less h.1.claims

last_holds : (C : List (Option Claim)) (k name address : ℕ) → IsAddress address → Each C k name address → Last (λ q. is_of_name name (get_or C q None)) k → IsHolder C k address (Some name)
last_holds C zero name address a each x = absurd (let l = x.before in omega (arith, l))
last_holds C (suc bound) name address a each x =
    let z = name_it name (get_or C x.place None) x.such in (
      x.place,
      record {
        address = a;
        before = x.before;
        claims = elim (each x.place z.0 x.before z.1) [
          | inl its ↦ z.1 ∙ λ i. Some (record { name = its.0 i; address = its.1 i })
          | inr beside ↦ absurd (beside.other z.2)
        ];
        claims_no_more = λ r b l m e. (let y = ap (is_of_name name) e ∙ eq-eqb name name refl in let w : false ≡ true = sym (x.none_behind r l m) ∙ y in absurd (cc));
        no_smaller_claims = λ r m l h less e. no_smaller C (suc bound) name address each r m h less e;
        no_smaller_held = λ m less h. none_held C (suc bound) name address each bound x.place m (let l = x.before in omega (arith, l)) less h;
      },
    )

pub holder_by : (C : List (Option Claim)) (k q name address : ℕ) → IsAddress address → Each C k name address → q < k → ClaimsAt C q name address → IsHolder C k address (Some name)
holder_by C k q name address a each l e =
    last_holds C k name address a each (last_such (λ r. is_of_name name (get_or C r None)) k q l (ap (is_of_name name) e ∙ eq-eqb name name refl))

-- ---- what a member sent

pub own_split : (i : ℕ) (A B : List Passed) (x : Passed) → is_some x.by i ≡ true → own i (A ++ x ∷ B) ≡ own i A ++ x.frame ∷ own i B
own_split i [] B x e = ap (λ (t : Bool). log (if t then x ∷ filter (λ v. is_some v.by i) B else filter (λ v. is_some v.by i) B)) e
own_split i (y ∷ A) B x e = own_more (is_some y.by i) y (filter (λ v. is_some v.by i) (A ++ x ∷ B)) (filter (λ v. is_some v.by i) A) (x.frame ∷ own i B) (own_split i A B x e)
  where
    own_more : (t : Bool) (y : Passed) (F G : List Passed) (rest : List FrameRecord) → log F ≡ log G ++ rest
        → log (if t then y ∷ F else F) ≡ log (if t then y ∷ G else G) ++ rest
    own_more true y F G rest e = ap (λ v. y.frame ∷ v) e
    own_more false y F G rest e = e

-- the call by which a member took a frame of the log, and what was taken before
pub record Sent (delay : ℕ) (missing : FrameRecord → Type 0) (w : Who) (H : List Call) (g : FrameRecord) (before : List FrameRecord) : Type 0 where
  pub later : List Call
  pub at : ℕ
  pub frame : FrameRecord
  pub earlier : List Call
  pub is : H ≡ later ++ At at (TakeFrame (Some frame)) ∷ earlier
  pub is_later : IsLater delay frame g
  pub come : Come delay missing (frames earlier) before

pub sent_by : (delay : ℕ) (missing : FrameRecord → Type 0) (w : Who) (H : List Call) (i : ℕ) (A B : List Passed) (x : Passed) → x.by ≡ Some i
    → Come delay missing (frames H) (own i (A ++ x ∷ B)) → Sent delay missing w H x.frame (own i A)
sent_by delay missing w H i A B x by c =
    let s = source_in delay missing (own i A) (own i B) x.frame (frames H) (subst (Come delay missing (frames H)) (own_split i A B x (is_by x.by i by)) c) in
    let t = taken_at H s.frame s.earlier s.after s.is in
    record { later = t.later; at = t.at; frame = s.frame; earlier = t.earlier; is = t.is; is_later = s.is_later; come = subst (λ fs. Come delay missing fs (own i A)) (sym t.before_it) s.come }

module _ (delay : ℕ) (members : List Member) (L A B : List Passed) (i k : ℕ) (m : Member) (x : Passed) (member : IsMember members i m)
    (is : L ≡ A ++ x ∷ B) (long : length A ≡ k) (small : m.who.name < 2 ^ 64) (address : IsAddress m.who.address)
    (earlier : List Call) (answered : AreAnswered m.who earlier) (kept : is_lost (address_after m.who earlier) ≡ true → ⊥)
    (come : Come delay (IsNoClaim members) (frames earlier) (own i A)) (alone : IsUnrivalled L k i m.who) where
  own_claim : (q : ℕ) (y : Passed) (c : Claim) → q < k → slice_get L q ≡ Some y → claim_of y.frame ≡ Some c → y.by ≡ Some i → Some c ≡ its_claim m.who
  own_claim q y c l e f by =
      let in_front = get_back A (x ∷ B) q y (omega (arith, l, long)) (sym (ap (λ G. slice_get G q) is) ∙ e) in
      let s = came_from delay (IsNoClaim members) (frames earlier) (own i A) y.frame come (own_at i A q y in_front by) in
      let t = (taken_here earlier s.0 s.1).1 in
      let same = same_claim s.0 y.frame s.2.id s.2.bytes in
      sym f ∙ (same ∙ (claims_its m.who earlier t.later t.earlier t.at s.0 small address answered t.is kept (claims_one s.0 c (sym same ∙ f))).1)

  pub each : Each (claims_of (log L)) k m.who.name m.who.address
  each q c l e =
      let y = claimed_at L q c e in
      elim (cases_Bool (is_some y.0.by i)) [
        | inl b ↦ inl (let z = own_claim q y.0 c l y.1 y.2 (by_it y.0.by i b) in (name_in c m.who z, address_in c m.who z))
        | inr b ↦ inr (let z = alone q y.0 c l y.1 y.2 (λ d. not_both (is_some y.0.by i) b (is_by y.0.by i d)) in record { other = z.0; larger = z.1 })
      ]
    where
      name_in : (c : Claim) (w : Who) → Some c ≡ its_claim w → c.name ≡ w.name
      name_in c w e = let z : c ≡ record { name = w.name; address = w.address } = cc in ap (λ (d : Claim). d.name) z

      address_in : (c : Claim) (w : Who) → Some c ≡ its_claim w → c.address ≡ w.address
      address_in c w e = let z : c ≡ record { name = w.name; address = w.address } = cc in ap (λ (d : Claim). d.address) z

  pub held_there : (at : ℕ) → Claims m.who earlier at → IsHolder (claims_of (log L)) k m.who.address (Some m.who.name)
  held_there at c =
      elim (come_of delay (IsNoClaim members) (frames earlier) (own i A) c.claim come (subst (λ H. Contains (frames H) c.claim) (sym c.is) (taken_in c.later c.earlier at c.claim))) [
        | inl plain ↦ absurd (plain i m member c.claims)
        | inr on ↦
            let p = place_of i A on.frame on.stands in
            let l : p.place < k = (let a = slice_get_within A p.place p.passed p.stands in omega (arith, a, long)) in
            let e : slice_get L p.place ≡ Some p.passed = ap (λ G. slice_get G p.place) is ∙ get_front A (x ∷ B) p.place p.passed p.stands in
            let f : claim_of p.passed.frame ≡ its_claim m.who = ap claim_of p.frame ∙ (same_claim c.claim on.frame on.is_later.id on.is_later.bytes ∙ c.claims) in
            holder_by (claims_of (log L)) k p.place m.who.name m.who.address address each l (claims_at L p.place p.passed e ∙ f)
      ]
