-- Broadcasts in packets that are heard, call by call.
use Rattle.j39_node.proofs.Common.{[], if◌then◌else◌, ◌&&◌, ◌*◌, ◌++◌, ◌+◌, ◌<◌, ◌||◌, ◌∙◌, ◌∷◌, ◌≡◌, ◌≢◌, ◌≤◌, ◌⊎◌, announces, and_parts, ap, append-nil, AreApart, AreNumbered, arith, At, Bool, by, Call, chosen, claim_of, Claims, cond_both, drop, eq-eqb, eqb-false, eqb-true, false, flat_map-append, found, found_in, FrameRecord, frames_heard, get_or, goes, grown, has_room, has_some, Hear, hearing_after, HearingRecord, hears_in, hears_it, held_then, holder, holder_in, IfSome, inl, inr, is_any, is_beside, is_claim, is_ignored, is_same, is_some, is_unheard_in, is_wanted, is_whole, IsFit, IsPartOf, Key, known_by, Knows, leb-false, length, length-append, length-drop, List, listed, Listening, listening, made_in, made_of, made_whole, MessageRecord, min, more, nat_eq, nat_lt, news_after, None, not, not-true, of, OpenBroadcast, Option, option_map, option_or, or_parts, others, over_by, packed, packs, part_of, pgn_named, refl, ReleaseBroadcast, restarts, since_in, size_named, slice_index, Some, source_of, stay, staying, still, subst, suc, sym, TakeFrame, those_over, Tick, time_heard, told_claims, true, unheard, unheard_by, Who, whole_of, with_all, with_one, without_source, ℕ}
use Rattle.std.specs.List.{All, filter}
use Rattle.std.proofs.lemmas.Bool.{cases_Bool, ne_eqb}
use Rattle.std.proofs.lemmas.List.Filters.{length-filter_both}
use Rattle.std.proofs.lemmas.List.Elements.{All-append, All-cons, All-filter, All-nil, All-weaker, filter_passes}
use Rattle.j39_node.specs.Hearing.{begun, ended, has_box, is_gap, is_over, passed, with_sender}
use Rattle.j39_node.specs.Is.{hearing_it, leaving}
use Rattle.j39_transport.proofs.FrameFacts.{announcement_facts}
use Rattle.j39_transport.specs.Carries.{joined}
use Rattle.j39_transport.specs.Frames.{is_packet}
use Rattle.j39_node.proofs.ListenLemmas.{all_of}
use Rattle.j39_node.proofs.ReceptionLemmas.{HeardSince, holders_are, since_now, since_on}

-- ---- of each source one at most

-- the one of a source, of two lists
of_append : (a : ℕ) (xs ys : List OpenBroadcast) → of a (xs ++ ys) ≡ option_or (of a xs) (of a ys)
of_append a [] ys = refl
of_append a (x ∷ xs) ys = let h = of_append a xs ys in grind (arith, h)

none_filtered : (p : OpenBroadcast → Bool) (a : ℕ) (xs : List OpenBroadcast) → of a xs ≡ None → of a (filter p xs) ≡ None
none_filtered p a [] e = refl
none_filtered p a (x ∷ xs) e = let h = none_filtered p a xs in grind (arith, h, e)

pub apart_filter : (p : OpenBroadcast → Bool) (xs : List OpenBroadcast) → AreApart xs → AreApart (filter p xs)
apart_filter p [] h = tt
apart_filter p (x ∷ xs) h = cond_both (p x) (x ∷ filter p xs) (filter p xs) AreApart (λ e. (none_filtered p x.source xs h.0, apart_filter p xs h.1)) (λ e. apart_filter p xs h.1)

-- the one of a source that stays
abbrev pub kept_by : (OpenBroadcast → Bool) → Option OpenBroadcast → Option OpenBroadcast
kept_by p None = None
kept_by p (Some x) = if p x then Some x else None

pub of_filter : (p : OpenBroadcast → Bool) (a : ℕ) (xs : List OpenBroadcast) → AreApart xs → of a (filter p xs) ≡ kept_by p (of a xs)
of_filter p a [] h = refl
of_filter p a (x ∷ xs) h = let k = of_filter p a xs h.1 in let n = none_filtered p x.source xs h.0 in grind (arith, k, n)

of_others : (a s : ℕ) (xs : List OpenBroadcast) → of a (others s xs) ≡ (if nat_eq a s then None else of a xs)
of_others a s [] = grind arith
of_others a s (x ∷ xs) = let h = of_others a s xs in grind (arith, h)

pub source_at : (a : ℕ) (xs : List OpenBroadcast) (y : OpenBroadcast) → of a xs ≡ Some y → y.source ≡ a
source_at a [] y e = absurd (cc)
source_at a (x ∷ xs) y e = let h = source_at a xs y in grind (arith, e, h)

apart_more : (xs : List OpenBroadcast) (y : OpenBroadcast) → AreApart xs → of y.source xs ≡ None → AreApart (xs ++ y ∷ [])
apart_more [] y h e = (refl, tt)
apart_more (x ∷ xs) y h e = let a = of_append x.source xs (y ∷ []) in let n = h.0 in (grind (arith, a, n, e), apart_more xs y h.1 (grind (arith, e)))

-- each is the one of its source
pub all_own : (xs : List OpenBroadcast) → AreApart xs → All (λ x. of x.source xs ≡ Some x) xs
all_own [] h = All-nil _
all_own (x ∷ xs) h = let k = all_own xs h.1 in grind (arith, k)

-- ---- a frame, and the one of its source

-- it leaves another: of another source it is, or a lower number
abbrev pub Leaves : FrameRecord → OpenBroadcast → Type 0
Leaves f x = (source_of f.id ≢ x.source) ⊎ ((announces f ≡ false) × ((packs f ≡ false) ⊎ (slice_index f.bytes 0 ≤ x.count)))

-- it isn't whole
abbrev pub Open : (OpenBroadcast → Type 0) → OpenBroadcast → Type 0
Open P x = (is_whole x ≡ false) × P x

-- the one that stays open
abbrev pub open_part : Option OpenBroadcast → Option OpenBroadcast
open_part None = None
open_part (Some y) = if is_whole y then None else Some y

part_at : (a s : ℕ) (o : Option OpenBroadcast) → IfSome o (λ y. y.source ≡ s) → of a (part_of o) ≡ (if nat_eq a s then open_part o else None)
part_at a s o e = grind (arith, e)

-- one, or none
abbrev pub one : Bool → ℕ
one b = more b 0

-- how many there are beside that of a source
rest_count : (a : ℕ) (xs : List OpenBroadcast) → AreApart xs → length xs ≡ length (others a xs) + one (has_some (of a xs))
rest_count a [] h = refl
rest_count a (x ∷ xs) h = let k = rest_count a xs h.1 in let n = h.0 in grind (arith, k, n)

part_count : (o : Option OpenBroadcast) → length (part_of o) + length (listed (whole_of o)) ≡ one (has_some o)
part_count o = grind arith

box_free : (m n : ℕ) → m ≤ n → one (nat_lt m n) + m ≤ n
box_free m n l = grind (arith, l)

module _ (n : ℕ) (w : Who) (name : Option ℕ) (now : ℕ) (f : FrameRecord) (l : Listening) where
  abbrev pub s : ℕ
  s = source_of f.id

  abbrev pub result : Option OpenBroadcast
  result = hears_it w name now f (has_room n s l) (of s l.current)

  -- what becomes of the one of its source
  pub result_is : (P Q : OpenBroadcast → Type 0)
      → ((since : ℕ) → since ≡ since_in now (of s l.current) → announces f ≡ true → is_ignored w (pgn_named f) ≡ false → Q (begun name since now f))
      → ((y : OpenBroadcast) → packs f ≡ true → of s l.current ≡ Some y → slice_index f.bytes 0 ≡ suc y.count → P y → Q (grown now f y))
      → ((y : OpenBroadcast) → announces f ≡ false → of s l.current ≡ Some y → (packs f ≡ false) ⊎ (slice_index f.bytes 0 ≤ y.count) → P y → Q y) → All P l.current → IfSome result Q
  result_is P Q begins grows stays h = let k = λ (y : OpenBroadcast). all_of P s l.current y h in grind (arith, begins, grows, stays, k)

  pub result_source : IfSome result (λ y. y.source ≡ s)
  result_source =
      result_is (λ y. Unit {0}) (λ y. y.source ≡ s) (λ since z e i. refl) (λ y p k m h. source_at s l.current y k) (λ y a k m h. source_at s l.current y k) (λ i d m. tt)

  -- what becomes of all
  pub every : (P Q : OpenBroadcast → Type 0)
      → ((since : ℕ) → since ≡ since_in now (of s l.current) → announces f ≡ true → is_ignored w (pgn_named f) ≡ false → Q (begun name since now f))
      → ((y : OpenBroadcast) → packs f ≡ true → of s l.current ≡ Some y → slice_index f.bytes 0 ≡ suc y.count → Open P y → Q (grown now f y))
      → ((y : OpenBroadcast) → Leaves f y → P y → Q y) → All (Open P) l.current → All (Open Q) (hears_in n w name now f l).current
  every P Q begins grows stays h = cond_both (announces f || packs f) (with_one result (without_source s l)) l (λ m. All (Open Q) m.current)
      (λ e. All-append (Open Q) (others s l.current) (part_of result) apart_ones
      (last result (result_is (Open P) Q begins grows (λ y a k m g. stays y (inr (a, m)) g.1) h)))
      (λ e. (let k = or_parts _ _ e in All-weaker (Open P) (Open Q) (λ y g. (g.0, stays y (inr (k.0, inl k.1)) g.1)) l.current h))
    where
      apart_ones : All (Open Q) (others s l.current)
      apart_ones = λ i d m.
          let g = All-filter (λ x. not (nat_eq s x.source)) (Open P) l.current h i d m in
          (g.0, stays _ (inl (eqb-false s _ (not-true _ (filter_passes (λ x. not (nat_eq s x.source)) l.current i d m)))) g.1)

      last : (o : Option OpenBroadcast) → IfSome o Q → All (Open Q) (part_of o)
      last None k = All-nil (Open Q)
      last (Some y) k = cond_both (is_whole y) [] (y ∷ []) (All (Open Q)) (λ e. All-nil (Open Q)) (λ e. All-cons (Open Q) y [] (e, k) (All-nil (Open Q)))

  pub apart_heard : AreApart l.current → AreApart (hears_in n w name now f l).current
  apart_heard h = cond_both (announces f || packs f) (with_one result (without_source s l)) l (λ m. AreApart m.current) (λ e. with result result_source) (λ e. h)
    where
      kept : AreApart (others s l.current ++ [])
      kept = subst AreApart (sym (append-nil (others s l.current))) (apart_filter (λ x. not (nat_eq s x.source)) l.current h)

      with : (o : Option OpenBroadcast) → IfSome o (λ y. y.source ≡ s) → AreApart (others s l.current ++ part_of o)
      with None k = kept
      with (Some y) k = cond_both (is_whole y) [] (y ∷ []) (λ ys. AreApart (others s l.current ++ ys)) (λ e. kept)
          (λ e. apart_more (others s l.current) y (apart_filter (λ x. not (nat_eq s x.source)) l.current h) (of_others y.source s l.current ∙ ap (λ (b : Bool). if b then None else of y.source l.current) (eq-eqb _ _ k)))

  -- of each source
  of_each : (a : ℕ) → (announces f || packs f) ≡ true → of a (hears_in n w name now f l).current ≡ (if nat_eq a s then open_part result else of a l.current)
  of_each a e =
      ap (λ (b : Bool). of a (if b then with_one result (without_source s l) else l).current) e
      ∙ (of_append a (others s l.current) (part_of result)
      ∙ ((λ i. option_or (of_others a s l.current i) (part_at a s result result_source i)) ∙ either (nat_eq a s) (open_part result) (of a l.current)))
    where
      either : (b : Bool) (o p : Option OpenBroadcast) → option_or (if b then None else p) (if b then o else None) ≡ (if b then o else p)
      either b o p = grind arith

  -- of another source, and of its own
  pub of_another : (a : ℕ) → s ≢ a → of a (hears_in n w name now f l).current ≡ of a l.current
  of_another a d = elim (cases_Bool (announces f || packs f)) [
    | inl e ↦ of_each a e ∙ ap (λ (b : Bool). if b then open_part result else of a l.current) (ne_eqb a s (λ z. d (sym z)))
    | inr e ↦ ap (λ (b : Bool). of a (if b then with_one result (without_source s l) else l).current) e
  ]

  pub of_its : of s (hears_in n w name now f l).current ≡ (if announces f || packs f then open_part result else of s l.current)
  of_its = elim (cases_Bool (announces f || packs f)) [
    | inl e ↦ of_each s e ∙ (ap (λ (b : Bool). if b then open_part result else of s l.current) (eq-eqb s s refl) ∙ ap (λ (b : Bool). if b then open_part result else of s l.current) (sym e))
    | inr e ↦ (λ i. of s (if e i then with_one result (without_source s l) else l).current) ∙ ap (λ (b : Bool). if b then open_part result else of s l.current) (sym e)
  ]

  -- it is appended to those that wait where it is whole
  pub waits_made : (hears_in n w name now f l).waits ≡ l.waits ++ listed (made_in n w name now f l)
  waits_made = grind (arith, append-nil)

  -- by what the frame is
  counted : (a p i r : Bool) (o : Option OpenBroadcast) → one (a && not i) + one (has_some o)
      ≡ one (has_some (if a then (if has_some o || r then (if i then None else Some (begun name (since_in now o) now f)) else o) else if p then packed now f o else o))
      + one (if a then (if has_some o || r then has_some o else not i) else p && is_gap f o)
  counted a p i r None = grind arith
  counted a p i r (Some y) = grind arith

  -- one that is announced, and those that are open, are whole, unheard or open
  pub heard_counts : AreApart l.current → one (is_wanted w f) + length l.current ≡ length (listed (made_in n w name now f l)) + one (is_unheard_in n w f l) + length (hears_in n w name now f l).current
  heard_counts h =
      let c = counted (announces f) (packs f) (is_ignored w (pgn_named f)) (has_box n l) (of s l.current) in
      let r = rest_count s l.current h in
      let p = part_count result in
      let a = length-append (others s l.current) (part_of result) in
      grind (arith, c, r, p, a)

  -- a box is free for one that is announced and isn't unheard
  room_for : (a p i r o g : Bool) → one (a && not i) ≤ one (if a then (if o || r then o else not i) else p && g) + one r
  room_for a p i r o g = grind arith

  pub room_heard : AreApart l.current → length l.current + length l.waits ≤ n → length (hears_in n w name now f l).current + length (hears_in n w name now f l).waits ≤ n
  room_heard h r =
      let c = heard_counts h in
      let m = ap length waits_made ∙ length-append l.waits (listed (made_in n w name now f l)) in
      let o : one (is_wanted w f) ≤ one (is_unheard_in n w f l) + one (has_box n l) =
      room_for (announces f) (packs f) (is_ignored w (pgn_named f)) (has_box n l) (has_some (of s l.current)) (is_gap f (of s l.current)) in
      let b = box_free (length l.current + length l.waits) n r in
      omega (arith, c, m, o, b)

-- ---- what every history says of them

pub same_same : (o : Option ℕ) → is_same o o ≡ true
same_same o = grind arith

pub same_is : (o p : Option ℕ) → is_same o p ≡ true → o ≡ p
same_is o p e = grind (arith, e)

pub drop_one : (xs : List ℕ) → length xs ≡ 8 → length (drop 1 xs) ≡ 7
drop_one xs e = grind (arith, e)

pub packs_eight : (f : FrameRecord) → packs f ≡ true → length f.bytes ≡ 8
unfolding is_packet goes
packs_eight f e = eqb-true _ _ (and_parts _ _ (and_parts _ _ e).1).1

-- its announcement, and the packets that came
pub record Came (x : OpenBroadcast) (first : FrameRecord) (packets : List FrameRecord) : Type 0 where
  pub source : x.source ≡ source_of first.id
  pub announced : announces first ≡ true
  pub group : x.group ≡ pgn_named first
  pub size : x.size ≡ size_named first
  pub count : length packets ≡ x.count
  pub numbered : AreNumbered (by x.source) 1 packets
  pub bytes : joined packets ≡ x.bytes
  pub few : length x.bytes < x.size + 7

-- they are of what was heard since, and nothing of its source between them but repeats
abbrev pub Sent : OpenBroadcast → List Call → ℕ → FrameRecord → Type 0
Sent x later at first = (packets : List FrameRecord) × IsPartOf x.source packets (frames_heard later) × Came x first packets

-- seven bytes of each packet; who held its source at its announcement does; it is for the program; and one sent it
pub record Stood (w : Who) (H : List Call) (x : OpenBroadcast) : Type 0 where
  pub sevens : length x.bytes ≡ 7 * x.count
  pub small : x.size ≤ 1785
  pub named : x.name ≡ holder w H x.source
  pub wanted : is_ignored w x.group ≡ false
  pub sent : HeardSince w H x.source (Sent x)

-- and a call leaves its source's holder
pub record Kept (w : Who) (call : Call) (H : List Call) (x : OpenBroadcast) : Type 0 where
  pub stood : Stood w H x
  pub same : holder w (call ∷ H) x.source ≡ known_by w call H x.source
  pub named : x.name ≡ holder w (call ∷ H) x.source

pub fit : (w : Who) (call : Call) (H : List Call) (x : OpenBroadcast) → Open (Kept w call H) x → IsFit x
fit w call H x k = (k.1.stood.sevens, k.1.stood.small, k.0)

pub record Stands (w : Who) (P : OpenBroadcast → Type 0) (l : Listening) : Type 0 where
  pub all : All (Open P) l.current
  pub apart : AreApart l.current
  pub room : length l.current + length l.waits ≤ w.boxes

stands_as : (w : Who) (P Q : OpenBroadcast → Type 0) (l : Listening) → ((x : OpenBroadcast) → P x → Q x) → Stands w P l → Stands w Q l
stands_as w P Q l g h = record { all = All-weaker (Open P) (Open Q) (λ x k. (k.0, g x k.1)) l.current h.all; apart = h.apart; room = h.room }

-- one that isn't over has the holder that it had
here_is : (away : Option ℕ) (holds : ℕ → Option ℕ) (now : ℕ) (x : OpenBroadcast) → not (is_over away holds now x) ≡ true → (is_some away x.source ≡ false) × (x.name ≡ holds x.source)
here_is away holds now x e = (grind (arith, e), same_is _ _ (grind (arith, e)))

pub shorter : (p : OpenBroadcast → Bool) (xs : List OpenBroadcast) → length (filter p xs) ≤ length xs
shorter p xs = let d = length-filter_both p (λ y. not (p y)) (λ y. refl) xs in omega (arith, d)

-- those that aren't over by a call are kept
stands_kept : (w : Who) (call : Call) (H : List Call) (gone : Option ℕ) (now : ℕ) → ((a : ℕ) → known_by w call H a ≡ still gone (holder w H) a) → Stands w (Stood w H) (listening w H)
    → Stands w (Kept w call H) (staying gone (holder w (call ∷ H)) now (listening w H))
stands_kept w call H gone now k h = record {
  all = λ i d m.
      let g = All-filter p (Open (Stood w H)) (listening w H).current h.all i d m in
      let x = get_or (stay gone (holder w (call ∷ H)) now (listening w H).current) i d in
      let e = here_is gone (holder w (call ∷ H)) now x (filter_passes p (listening w H).current i d m) in (
        g.0,
        record { stood = g.1; same = sym e.1 ∙ (g.1.named ∙ sym (k x.source ∙ ap (λ (b : Bool). if b then None else holder w H x.source) e.0)); named = e.1 },
      );
  apart = apart_filter p (listening w H).current h.apart;
  room = (let a = shorter p (listening w H).current in let r = h.room in omega (arith, a, r));
}
  where
    p : OpenBroadcast → Bool
    p x = not (is_over gone (holder w (call ∷ H)) now x)

-- what stays open behind a call: no frame is heard, or one beside its packets
goes_on_by : (w : Who) (call : Call) (H : List Call) (x : OpenBroadcast)
    → ((packets : List FrameRecord) (later : List Call) → length packets ≡ x.count → IsPartOf x.source packets (frames_heard later) → IsPartOf x.source packets (frames_heard (call ∷ later)))
    → Kept w call H x → Stood w (call ∷ H) x
goes_on_by w call H x beside k = record {
  sevens = k.stood.sevens;
  small = k.stood.small;
  named = k.named;
  wanted = k.stood.wanted;
  sent = since_on w H call x.source (Sent x) (Sent x) k.stood.sent k.same (λ later at first s. (s.0, beside s.0 later s.2.count s.1, s.2));
}

goes_quiet : (w : Who) (call : Call) (H : List Call) → ((G : List Call) → frames_heard (call ∷ G) ≡ frames_heard G) → (x : OpenBroadcast) → Kept w call H x → Stood w (call ∷ H) x
goes_quiet w call H quiet x = goes_on_by w call H x (λ packets later c. subst (IsPartOf x.source packets) (sym (quiet later)))

passes_it : (w : Who) (H : List Call) (when : ℕ) (f : FrameRecord) (x : OpenBroadcast) → Leaves f x → Kept w (At when (Hear f)) H x → Stood w (At when (Hear f) ∷ H) x
passes_it w H when f x b = goes_on_by w (At when (Hear f)) H x (λ packets later c. passed f packets (frames_heard later) (ap (λ (n : ℕ). is_beside x.source n f) c ∙ beside b))
  where
    beside : Leaves f x → is_beside x.source x.count f ≡ true
    beside h = grind (arith, h)

-- one begins
anew : (w : Who) (H : List Call) (since when : ℕ) (f : FrameRecord) → announces f ≡ true → is_ignored w (pgn_named f) ≡ false
    → Stood w (At when (Hear f) ∷ H) (begun (holder w (At when (Hear f) ∷ H) (source_of f.id)) since (time_heard (At when (Hear f) ∷ H)) f)
anew w H since when f e i = record {
  sevens = refl;
  small = (announcement_facts (by (source_of f.id)) f e).small;
  named = refl;
  wanted = i;
  sent = since_now w H when f (source_of f.id) (Sent (begun (holder w (At when (Hear f) ∷ H) (source_of f.id)) since (time_heard (At when (Hear f) ∷ H)) f))
      ([], ended, record { source = refl; announced = e; group = refl; size = refl; count = refl; numbered = tt; bytes = refl; few = omega arith });
}

numbered_more : (k : Key) (n : ℕ) (fs : List FrameRecord) (f : FrameRecord) → AreNumbered k n fs → is_packet k f ≡ true → slice_index f.bytes 0 ≡ n + length fs
    → AreNumbered k n (fs ++ f ∷ [])
numbered_more k n [] f h e g = (e, (omega (arith, g)), tt)
numbered_more k n (x ∷ fs) f h e g = (h.0, h.1, numbered_more k (n + 1) fs f h.2 e (omega (arith, g)))

-- a packet is appended
appends : (w : Who) (H : List Call) (when now : ℕ) (f : FrameRecord) (x : OpenBroadcast) → packs f ≡ true → source_of f.id ≡ x.source → slice_index f.bytes 0 ≡ suc x.count
    → Open (Kept w (At when (Hear f)) H) x → Stood w (At when (Hear f) ∷ H) (grown now f x)
appends w H when now f x p s n k =
    let a = length-append x.bytes (drop 1 f.bytes) in
    let b = drop_one f.bytes (packs_eight f p) in
    let seven = k.1.stood.sevens in
    let lacks = leb-false _ _ k.0 in
    record {
      sevens = omega (arith, a, b, seven);
      small = k.1.stood.small;
      named = k.1.named;
      wanted = k.1.stood.wanted;
      sent = since_on w H (At when (Hear f)) x.source (Sent x) (Sent (grown now f x)) k.1.stood.sent k.1.same (λ later at first t.
          (let c = t.2.count in (
            t.0 ++ f ∷ [],
            chosen f t.0 (frames_heard later) t.1,
            record {
              source = t.2.source;
              announced = t.2.announced;
              group = t.2.group;
              size = t.2.size;
              count = (let d = length-append t.0 (f ∷ []) in omega (arith, d, c));
              numbered = numbered_more (by x.source) 1 t.0 f t.2.numbered (subst (λ (a : ℕ). is_packet (by a) f ≡ true) s p) (omega (arith, n, c));
              bytes = flat_map-append (λ g. drop 1 g.bytes) t.0 (f ∷ []) ∙ ap (λ z. joined t.0 ++ z) (append-nil (drop 1 f.bytes)) ∙ ap (λ z. z ++ drop 1 f.bytes) t.2.bytes;
              few = omega (arith, a, b, lacks);
            },
          )));
    }

module _ (w : Who) (H : List Call) (when : ℕ) (f : FrameRecord) (h : Stands w (Kept w (At when (Hear f)) H) (found_in w H when f)) where
  appended : (y : OpenBroadcast) → packs f ≡ true → found w H when f (source_of f.id) ≡ Some y → slice_index f.bytes 0 ≡ suc y.count → Open (Kept w (At when (Hear f)) H) y
      → Stood w (At when (Hear f) ∷ H) (grown (time_heard (At when (Hear f) ∷ H)) f y)
  appended y p k = appends w H when (time_heard (At when (Hear f) ∷ H)) f y p (sym (source_at (source_of f.id) (found_in w H when f).current y k))

  -- what the frame makes of the one of its source
  pub result_stood : IfSome (hears_it w (holder w (At when (Hear f) ∷ H) (source_of f.id)) (time_heard (At when (Hear f) ∷ H)) f (has_room w.boxes (source_of f.id) (found_in w H when f)) (found w H when f (source_of f.id)))
      (Stood w (At when (Hear f) ∷ H))
  result_stood =
      result_is w.boxes w (holder w (At when (Hear f) ∷ H) (source_of f.id)) (time_heard (At when (Hear f) ∷ H)) f (found_in w H when f) (Open (Kept w (At when (Hear f)) H))
      (Stood w (At when (Hear f) ∷ H)) (λ since z e i. anew w H since when f e i) appended (λ y a k m g. passes_it w H when f y (inr (a, m)) g.1) h.all

  stands_heard : Stands w (Stood w (At when (Hear f) ∷ H)) (listening w (At when (Hear f) ∷ H))
  stands_heard = record {
    all = every w.boxes w (holder w (At when (Hear f) ∷ H) (source_of f.id)) (time_heard (At when (Hear f) ∷ H)) f (found_in w H when f) (Kept w (At when (Hear f)) H)
        (Stood w (At when (Hear f) ∷ H)) (λ since z e i. anew w H since when f e i) appended (passes_it w H when f) h.all;
    apart = apart_heard w.boxes w (holder w (At when (Hear f) ∷ H) (source_of f.id)) (time_heard (At when (Hear f) ∷ H)) f (found_in w H when f) h.apart;
    room = room_heard w.boxes w (holder w (At when (Hear f) ∷ H) (source_of f.id)) (time_heard (At when (Hear f) ∷ H)) f (found_in w H when f) h.apart h.room;
  }

-- what leaves its source's holder and no frame is heard by
stands_quiet : (w : Who) (call : Call) (H : List Call) (l : Listening) → ((G : List Call) → frames_heard (call ∷ G) ≡ frames_heard G) → ((a : ℕ) → holder w (call ∷ H) a ≡ holder w H a)
    → ((a : ℕ) → known_by w call H a ≡ holder w H a) → Stands w (Stood w H) l → Stands w (Stood w (call ∷ H)) l
stands_quiet w call H l quiet same known =
    stands_as w (Stood w H) (Stood w (call ∷ H)) l (λ x k. goes_quiet w call H quiet x (record { stood = k; same = same x.source ∙ sym (known x.source); named = k.named ∙ sym (same x.source) }))

pub stands : (w : Who) (H : List Call) → Stands w (Stood w H) (listening w H)
stands w [] = record { all = All-nil (Open (Stood w [])); apart = tt; room = omega arith }
stands w (At now (Hear f) ∷ H) = stands_heard w H now f (stands_kept w (At now (Hear f)) H (restarts w H now f) (time_heard (At now (Hear f) ∷ H)) (λ a. refl) (stands w H))
stands w (At now Tick ∷ H) =
    stands_as w (Kept w (At now Tick) H) (Stood w (At now Tick ∷ H)) (listening w (At now Tick ∷ H)) (goes_quiet w (At now Tick) H (λ G. refl))
    (stands_kept w (At now Tick) H None (time_heard (At now Tick ∷ H)) (λ a. refl) (stands w H))
stands w (At now (TakeFrame (Some f)) ∷ H) = go (is_claim f) refl (stands w H)
  where
    call : Call
    call = At now (TakeFrame (Some f))

    go : (b : Bool) → is_claim f ≡ b → Stands w (Stood w H) (listening w H)
        → Stands w (Stood w (call ∷ H)) (if b then staying None (holder w (call ∷ H)) (time_heard H) (listening w H) else listening w H)
    go true e h = stands_as w (Kept w call H) (Stood w (call ∷ H)) _ (goes_quiet w call H (λ G. refl)) (stands_kept w call H None (time_heard H) (λ a. refl) h)
    go false e h = stands_quiet w call H (listening w H) (λ G. refl) (λ a. ap (λ (b : Bool). if b then held_then a (claim_of f) (holder w H a) else holder w H a) e) (λ a. refl) h
stands w (ReleaseBroadcast true ∷ H) =
    let h = stands_quiet w (ReleaseBroadcast true) H (listening w H) (λ G. refl) (λ a. refl) (λ a. refl) (stands w H) in
    record { all = h.all; apart = h.apart; room = (let r = h.room in let d = length-drop 1 (listening w H).waits in omega (arith, r, d)) }
stands w (call ∷ H) = stands_quiet w call H (listening w H) (λ G. refl) (λ a. refl) (λ a. refl) (stands w H)

pub stands_found : (w : Who) (H : List Call) (when : ℕ) (f : FrameRecord) → Stands w (Kept w (At when (Hear f)) H) (found_in w H when f)
stands_found w H when f = stands_kept w (At when (Hear f)) H (restarts w H when f) (time_heard (At when (Hear f) ∷ H)) (λ a. refl) (stands w H)

-- ---- what is counted, and is news

pub all_more : (xs : List OpenBroadcast) (n : ℕ) → with_all xs n ≡ length xs + n
all_more [] n = omega arith
all_more (x ∷ xs) n = let h = all_more xs n in omega (arith, h)

pub any_is : (xs : List OpenBroadcast) → nat_lt 0 (length xs) ≡ is_any xs
any_is xs = grind arith

pub missed_all : (xs : List OpenBroadcast) (n m : ℕ) → n ≡ min m 18446744073709551615 → min (n + length xs) 18446744073709551615 ≡ min (with_all xs m) 18446744073709551615
missed_all xs n m e = let h = all_more xs m in omega (arith, h, e)

pub missed_more : (b c : Bool) (n m : ℕ) → n ≡ min m 18446744073709551615 → b ≡ c
    → (if b then min (n + 1) 18446744073709551615 else n) ≡ min (more c m) 18446744073709551615
missed_more b c n m e g = grind (arith, e, g)

-- those that are over end
pub leaves_after : (w : Who) (H : List Call) (gone : Option ℕ) (holds : ℕ → Option ℕ) (now : ℕ) (x : HearingRecord) → x ≡ hearing_after w H
    → leaving gone holds now x ≡ record {
      listening = staying gone holds now (listening w H);
      boxes = w.boxes;
      missed = min (with_all (those_over gone holds now (listening w H).current) (unheard w H)) 18446744073709551615;
    }
leaves_after w H gone holds now x e = let m = missed_all (those_over gone holds now (listening w H).current) _ (unheard w H) refl in grind (arith, e, m)

-- news that stands, or is new: of messages of one frame, and of broadcasts
pub either_news : (e a b c d : Bool) → (e || ((a || b) || (c || d))) ≡ ((a || c) || ((e || d) || b))
either_news e a b c d = grind arith

-- what a frame that is taken makes of it, by whether it is a claim
abbrev taken : Who → List Call → ℕ → FrameRecord → Bool → HearingRecord
taken w H now f b = record {
  listening = if b then staying None (holder w (At now (TakeFrame (Some f)) ∷ H)) (time_heard H) (listening w H) else listening w H;
  boxes = w.boxes;
  missed = min (with_all (if b then those_over None (holder w (At now (TakeFrame (Some f)) ∷ H)) (time_heard H) (listening w H).current else []) (unheard w H)) 18446744073709551615;
}

pub hearing_same : (w : Who) (H : List Call) (now : ℕ) (f : FrameRecord) → is_claim f ≡ false → hearing_after w H ≡ hearing_after w (At now (TakeFrame (Some f)) ∷ H)
hearing_same w H now f e = sym (ap (taken w H now f) e)

pub news_same : (w : Who) (H : List Call) (now : ℕ) (f : FrameRecord) → is_claim f ≡ false → news_after w H ≡ news_after w (At now (TakeFrame (Some f)) ∷ H)
news_same w H now f e = grind (arith, e)

-- by the table, whether any ends
says_any : (w : Who) (H : List Call) (away : Option ℕ) (holds : ℕ → Option ℕ) (now : ℕ) (table : ℕ → Option ℕ) (t : ℕ) (x : HearingRecord) (b : Bool) → x ≡ hearing_after w H → table ≡ holds → t ≡ now
    → b ≡ nat_lt 0 (length (those_over away table t x.listening.current)) → b ≡ is_any (those_over away holds now (listening w H).current)
says_any w H away holds now table t x b e k g h = h ∙ ((λ i. nat_lt 0 (length (those_over away (k i) (g i) (e i).listening.current))) ∙ any_is (those_over away holds now (listening w H).current))

-- its own claim is taken
pub claimed_on : (w : Who) (H : List Call) (now : ℕ) (f : FrameRecord) (new : Claims) (t : ℕ) (x y : HearingRecord) → is_claim f ≡ true → x ≡ hearing_after w H
    → Knows new (told_claims w (At now (TakeFrame (Some f)) ∷ H)) → t ≡ time_heard H → y ≡ leaving None (holder_in new) t x → y ≡ hearing_after w (At now (TakeFrame (Some f)) ∷ H)
claimed_on w H now f new t x y n e k g h =
    h ∙ ((λ i. leaving None (holders_are w (At now (TakeFrame (Some f)) ∷ H) new k i) (g i) x)
    ∙ (leaves_after w H None (holder w (At now (TakeFrame (Some f)) ∷ H)) (time_heard H) x e ∙ sym (ap (taken w H now f) n)))

pub claimed_says : (w : Who) (H : List Call) (now : ℕ) (f : FrameRecord) (new : Claims) (t : ℕ) (x : HearingRecord) (b : Bool) → is_claim f ≡ true → x ≡ hearing_after w H
    → Knows new (told_claims w (At now (TakeFrame (Some f)) ∷ H)) → t ≡ time_heard H → b ≡ nat_lt 0 (length (those_over None (holder_in new) t x.listening.current))
    → b ≡ is_any (over_by w H (At now (TakeFrame (Some f))))
claimed_says w H now f new t x b n e k g h =
    says_any w H None (holder w (At now (TakeFrame (Some f)) ∷ H)) (time_heard H) (holder_in new) t x b e (holders_are w (At now (TakeFrame (Some f)) ∷ H) new k) g h
    ∙ sym (ap (λ (c : Bool). is_any (if c then those_over None (holder w (At now (TakeFrame (Some f)) ∷ H)) (time_heard H) (listening w H).current else [])) n)

-- time passes
pub ticked_on : (w : Who) (H : List Call) (now : ℕ) (old : Claims) (t : ℕ) (x y : HearingRecord) → x ≡ hearing_after w H → Knows old (told_claims w H) → t ≡ time_heard (At now Tick ∷ H)
    → y ≡ leaving None (holder_in old) t x → y ≡ hearing_after w (At now Tick ∷ H)
ticked_on w H now old t x y e k g h = h ∙ ((λ i. leaving None (holders_are w H old k i) (g i) x) ∙ leaves_after w H None (holder w H) (time_heard (At now Tick ∷ H)) x e)

pub ticked_says : (w : Who) (H : List Call) (now : ℕ) (old : Claims) (t : ℕ) (x : HearingRecord) (b : Bool) → x ≡ hearing_after w H → Knows old (told_claims w H) → t ≡ time_heard (At now Tick ∷ H)
    → b ≡ nat_lt 0 (length (those_over None (holder_in old) t x.listening.current)) → b ≡ is_any (over_by w H (At now Tick))
ticked_says w H now old t x b e k g h = says_any w H None (holder w H) (time_heard (At now Tick ∷ H)) (holder_in old) t x b e (holders_are w H old k) g h

-- whether one is made whole, told by its source and group
pub made_sender : (o : Option (ℕ × MessageRecord)) (name : Option ℕ) (names : List (Option ℕ))
    → with_sender (made_of (option_map (λ (p : ℕ × MessageRecord). p.1) o)) name names ≡ with_sender o name names
made_sender o name names = grind arith

-- what a frame makes of it
pub record HeardOn (w : Who) (H : List Call) (when : ℕ) (f : FrameRecord) (broken u : Bool) (m : Option (ℕ × ℕ)) (l : Listening) (y : HearingRecord) : Type 0 where
  pub breaks : broken ≡ is_any (over_by w H (At when (Hear f)))
  pub unheard : u ≡ unheard_by w H (At when (Hear f))
  pub made : m ≡ made_of (option_map (λ (p : ℕ × MessageRecord). p.1) (made_whole w H when f))
  pub found : l ≡ found_in w H when f
  pub hearing : y ≡ hearing_after w (At when (Hear f) ∷ H)

pub heard_on : (w : Who) (H : List Call) (when : ℕ) (f : FrameRecord) (new : Claims) (gone : Option ℕ) (t : ℕ) (broken u : Bool) (made : Option (ℕ × ℕ)) (x m y : HearingRecord)
    → x ≡ hearing_after w H → Knows new (told_claims w (At when (Hear f) ∷ H)) → t ≡ time_heard (At when (Hear f) ∷ H) → gone ≡ restarts w H when f
    → broken ≡ nat_lt 0 (length (those_over gone (holder_in new) t x.listening.current)) → m ≡ leaving gone (holder_in new) t x
    → u ≡ is_unheard_in m.boxes w f m.listening
    → (AreApart m.listening.current → All IsFit m.listening.current → made ≡ made_of (option_map (λ (p : ℕ × MessageRecord). p.1) (made_in m.boxes w (holder_in new (source_of f.id)) t f m.listening)))
    → (AreApart m.listening.current → All IsFit m.listening.current → y ≡ hearing_it w (holder_in new (source_of f.id)) t f m)
    → HeardOn w H when f broken u made m.listening y
heard_on w H when f new gone t broken u made x m y e k g r b e1 e2 e3 e4 =
    let G = At when (Hear f) ∷ H in
    let h = holders_are w G new k in
    let found : m ≡ record {
      listening = found_in w H when f;
      boxes = w.boxes;
      missed = min (with_all (over_by w H (At when (Hear f))) (unheard w H)) 18446744073709551615;
    } = e1 ∙ ((λ i. leaving (r i) (h i) (g i) x) ∙ leaves_after w H (restarts w H when f) (holder w G) (time_heard G) x e) in
    let s = stands_found w H when f in
    let apart = subst (λ (n : HearingRecord). AreApart n.listening.current) (sym found) s.apart in
    let fits = subst (λ (n : HearingRecord). All IsFit n.listening.current) (sym found) (All-weaker (Open (Kept w (At when (Hear f)) H)) IsFit (fit w (At when (Hear f)) H) (found_in w H when f).current s.all) in
    record {
      breaks = b ∙ ((λ i. nat_lt 0 (length (those_over (r i) (h i) (g i) (e i).listening.current))) ∙ any_is (over_by w H (At when (Hear f))));
      unheard = e2 ∙ ap (λ (n : HearingRecord). is_unheard_in n.boxes w f n.listening) found;
      made = e3 apart fits ∙ λ i. made_of (option_map (λ (p : ℕ × MessageRecord). p.1) (made_in (found i).boxes w (h i (source_of f.id)) (g i) f (found i).listening));
      found = ap (λ (n : HearingRecord). n.listening) found;
      hearing = e4 apart fits ∙ ((λ i. hearing_it w (h i (source_of f.id)) (g i) f (found i))
          ∙ λ i. record {
            listening = listening w G;
            boxes = w.boxes;
            missed = missed_more (unheard_by w H (At when (Hear f))) _ (min (with_all (over_by w H (At when (Hear f))) (unheard w H)) 18446744073709551615) (with_all (over_by w H (At when (Hear f))) (unheard w H)) refl refl i;
          });
    }
