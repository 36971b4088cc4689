-- No more messages of codes come whole than are announced: each has an announcement of its own.
use Rattle.j39_fault_reports.proofs.Common.{◌≡◌, ◌≤◌, ◌<◌, ◌+◌, ◌||◌, ◌==◌, ◌∙◌, ℕ, zero, suc, true, false, List, [], ◌∷◌, ◌++◌, Option, Some, None, ap, ap₂, append-nil, arith, inl, inr, length, ltb-true, nat_lt, refl, slice_index, subst, sym, Bool, count_by, get_or, is_some, All, and_parts, cases_Bool, both_ways, false_from_ne_true, or_cases, All-get_or, kind_of, FrameRecord, IsFrame, announced_by, Links, Whole, last_of, at, packets, names_message, pgn_named, Key, goes_to, is_key, opening, sender, transport_control_group, announcement_facts, one_key, AreHeardWith, HeardAtWith, HeardBelowWith, Hearing, IsHeardWith, frame_at, frames_only, or_none}
use Rattle.std.proofs.Common.{eqb-true, eq-eqb}
use Rattle.j39_transport.specs.Frames.{goes, is_announcement}
use Rattle.j39_transport.specs.Key.Key.{Broadcast, Directed}
use Rattle.j39_transport.specs.Signals.{said_by, control_in, broadcast_in, request_in}
use Rattle.j39_transport.proofs.Chains.{Links-unique}
use Rattle.j39_listen.proofs.Events.{announcement_within, ev_announces, ev_group}
use Rattle.j39_fault_reports.specs.Broken.{announces_codes, is_code_group, is_whole}
use Rattle.j39_listen.specs.Counting.{one_if}
use Rattle.j39_listen.proofs.CountLemmas.{count_by-append, count_here}

-- ---- how many of the first n numbers pass a test

abbrev count : (ℕ → Bool) → ℕ → ℕ
count p zero = 0
count p (suc n) = one_if (p n) + count p n

count_none : (n : ℕ) → count (λ x. false) n ≡ 0
count_none zero = refl
count_none (suc n) = let none = count_none n in omega (arith, none)

one_of_more : (a b : Bool) → (a ≡ true → b ≡ true) → one_if a ≤ one_if b
one_of_more true b more = rw (more refl) (omega arith)
one_of_more false b more = omega arith

count_of_more : (p q : ℕ → Bool) (n : ℕ) → ((x : ℕ) → p x ≡ true → q x ≡ true) → count p n ≤ count q n
count_of_more p q zero more = omega arith
count_of_more p q (suc n) more = let rest = count_of_more p q n more in let one = one_of_more (p n) (q n) (more n) in omega (arith, rest, one)

count_same : (p q : ℕ → Bool) (n : ℕ) → ((x : ℕ) → x < n → p x ≡ q x) → count p n ≡ count q n
count_same p q zero same = refl
count_same p q (suc n) same = ap₂ (λ (a b : ℕ). a + b) (ap one_if (same n (omega arith))) (count_same p q n (λ x l. same x (omega arith)))

-- one number more that passes
abbrev with_one : ℕ → (ℕ → Bool) → ℕ → Bool
with_one s p x = x == s || p x

elsewhere : (s : ℕ) (p : ℕ → Bool) (x : ℕ) → (x == s) ≡ false → with_one s p x ≡ p x
elsewhere s p x apart = ap (λ (b : Bool). b || p x) apart

below_it : (s x : ℕ) → x < s → (x == s) ≡ false
below_it s x l = false_from_ne_true _ (λ is. let e : x ≡ s = eqb-true _ _ is in absurd (omega (arith, e)))

count_one_more : (s : ℕ) (p : ℕ → Bool) (n : ℕ) → s < n → p s ≡ false → count (with_one s p) n ≡ suc (count p n)
count_one_more s p zero l fails = absurd (omega arith)
count_one_more s p (suc n) l fails = elim (cases_Bool (n == s)) [
  | inl is ↦
      let e : n ≡ s = eqb-true _ _ is in
      let here : one_if (with_one s p n) ≡ 1 = ap (λ (b : Bool). one_if (b || p n)) is in
      let there : one_if (p n) ≡ 0 = ap one_if (ap p e ∙ fails) in
      let rest = count_same (with_one s p) p n (λ x below. elsewhere s p x (below_it s x (omega (arith, e)))) in
      omega (arith, here, there, rest)
  | inr apart ↦
      let here : one_if (with_one s p n) ≡ one_if (p n) = ap one_if (elsewhere s p n apart) in
      let rest = count_one_more s p n (let other : n ≡ s → ⊥ = λ e. both_ways _ apart (eq-eqb _ _ e) in omega (arith, other)) fails in
      omega (arith, here, rest)
]

count_from_one : (p : ℕ → Bool) (n : ℕ) → count p (suc n) ≡ one_if (p 0) + count (λ x. p (suc x)) n
count_from_one p zero = refl
count_from_one p (suc n) = let rest = count_from_one p n in omega (arith, rest)

count_places : {X : Type 0} (t : X → Bool) (d : X) (xs : List X) → count (λ i. t (get_or xs i d)) (length xs) ≡ count_by t xs
count_places t d [] = refl
count_places t d (x ∷ xs) =
    count_from_one (λ i. t (get_or (x ∷ xs) i d)) (length xs) ∙ ap₂ (λ (a b : ℕ). a + b) (count_here t x) (count_places t d xs)
    ∙ sym (count_by-append t (x ∷ []) xs)

-- ---- an announcement names the group of its message

announcement_length : (k : Key) (f : FrameRecord) → is_announcement k f ≡ true → length f.bytes ≡ 8
unfolding is_announcement goes
announcement_length k f h =
    let a = and_parts _ (names_message f) h in
    let b = and_parts _ (slice_index f.bytes 0 == opening k) a.0 in
    let c = and_parts (is_key k) (goes transport_control_group (sender k) (goes_to k) f) b.0 in
    eqb-true _ _ (and_parts _ (length f.bytes == 8) c.1).1

names_group : (k : Key) (f : FrameRecord) → is_announcement k f ≡ true → announced_by f ≡ Some (pgn_named f)
unfolding said_by control_in broadcast_in request_in
names_group (Broadcast s) f h =
    let a = announcement_facts (Broadcast s) f h in
    rw (a.pgn, announcement_length (Broadcast s) f h, a.first, a.source, a.destination, a.key, a.names) refl
names_group (Directed s d) f h =
    let a = announcement_facts (Directed s d) f h in
    rw (a.pgn, announcement_length (Directed s d) f h, a.first, a.source, a.destination, a.key, a.names) refl

one_announced : (j k : Key) (f : FrameRecord) → is_announcement j f ≡ true → is_announcement k f ≡ true → j ≡ k
one_announced j k f x y =
    let a = announcement_facts j f x in
    let b = announcement_facts k f y in
    one_key j k a.key b.key (sym a.source ∙ b.source) (sym a.destination ∙ b.destination)

-- ---- where a message that is whole at a place was announced

record Begins (F : List FrameRecord) (i s : ℕ) : Type 0 where
  key : Key
  pgn : ℕ
  bytes : List ℕ
  whole : Whole (frames_only F) i key pgn bytes
  start_is : whole.start ≡ s

one_end : (F : List FrameRecord) (i j s : ℕ) → Begins F i s → Begins F j s → i ≡ j
one_end F i j s x y =
    let E = frames_only F in
    let w = x.whole in
    let v = y.whole in
    let start : w.start ≡ v.start = x.start_is ∙ sym y.start_is in
    let key : x.key ≡ y.key = one_announced x.key y.key (frame_at F w.start) (sym (ev_announces F x.key w.start) ∙ w.chain.announced)
    (subst (λ (p : ℕ). is_announcement y.key (frame_at F p) ≡ true) (sym start) (sym (ev_announces F y.key v.start) ∙ v.chain.announced)) in
    let links : Links E x.key w.start v.places =
    subst (λ (k : Key). Links E k w.start v.places) (sym key) (subst (λ (p : ℕ). Links E y.key p v.places) (sym start) v.chain.links) in
    let places : w.places ≡ v.places = Links-unique E x.key w.start w.places v.places (w.full ∙ ap (λ (p : ℕ). packets (at E p)) start ∙ sym v.full) w.chain.links links in
    sym w.ends_at ∙ ap₂ last_of start places ∙ v.ends_at

record Start (F : List FrameRecord) (i : ℕ) : Type 0 where
  place : ℕ
  inside : place < length F
  announced : announces_codes (frame_at F place) ≡ true
  begins : Begins F i place

-- a message of codes with more bytes than a frame has
start_of : (singles : ℕ → Bool) (F : List FrameRecord) (i : ℕ) (h : Hearing) → All IsFrame F → IsHeardWith singles F i h → is_whole h ≡ true → Start F i
start_of singles F i h frames heard whole =
    let is = and_parts (is_some (kind_of h.message.pgn)) (nat_lt 8 (length h.message.bytes)) whole in
    elim heard.carried [
      | inl single ↦
          let few = (All-get_or IsFrame F i (record { stamp = 0; id = 0; bytes = [] }) single.inside frames).len in
          let same = ap length single.bytes_are in
          absurd (let many : 8 < length h.message.bytes = ltb-true _ _ is.1 in omega (arith, few, same, many))
      | inr a ↦
          let w = a.whole in
          let f = frame_at F w.start in
          let announced : is_announcement a.key f ≡ true = sym (ev_announces F a.key w.start) ∙ w.chain.announced in
          let inside = announcement_within F a.key w.start announced in
          let group : h.message.pgn ≡ pgn_named f = w.chain.group_is ∙ ev_group F w.start inside in
          record {
            place = w.start;
            inside = inside;
            announced = ap is_code_group (names_group a.key f announced) ∙ ap (λ (g : ℕ). is_some (kind_of g)) (sym group) ∙ is.0;
            begins = record { key = a.key; pgn = h.message.pgn; bytes = h.message.bytes; whole = w; start_is = refl };
          }
    ]

-- ---- each whole message has one of its own

record Starts (F : List FrameRecord) (n : ℕ) (heard : List Hearing) : Type 0 where
  used : ℕ → Bool
  counted : count used (length F) ≡ count_by is_whole heard
  announced : (s : ℕ) → used s ≡ true → announces_codes (frame_at F s) ≡ true
  below : (s : ℕ) → used s ≡ true → (i : ℕ) × (i < n) × Begins F i s

same_starts : (F : List FrameRecord) (n : ℕ) (heard more : List Hearing) → count_by is_whole more ≡ count_by is_whole heard → Starts F n heard → Starts F (suc n) more
same_starts F n heard more same x = record {
  used = x.used;
  counted = x.counted ∙ sym same;
  announced = x.announced;
  below = λ s is. let b = x.below s is in (b.0, (let l = b.1 in omega (arith, l)), b.2);
}

next_start : (F : List FrameRecord) (n : ℕ) (heard : List Hearing) (h : Hearing) → is_whole h ≡ true → Starts F n heard → Start F n → Starts F (suc n) (heard ++ h ∷ [])
next_start F n heard h whole x start =
    let unused : x.used start.place ≡ false = false_from_ne_true _ (λ is. let b = x.below start.place is in
    let e : b.0 ≡ n = one_end F b.0 n start.place b.2 start.begins in let l = b.1 in absurd (omega (arith, e, l))) in
    record {
      used = with_one start.place x.used;
      counted = count_one_more start.place x.used (length F) start.inside unused ∙ (let more = count_by-append is_whole heard (h ∷ []) in
          let one : one_if true ≡ count_by is_whole (h ∷ []) = ap one_if (sym whole) ∙ count_here is_whole h in let before = x.counted in omega (arith, more, one, before));
      announced = λ s is. elim (or_cases (s == start.place) (x.used s) is) [
        | inl here ↦ subst (λ (p : ℕ). announces_codes (frame_at F p) ≡ true) (sym (eqb-true _ _ here)) start.announced
        | inr before ↦ x.announced s before
      ];
      below = λ s is. elim (or_cases (s == start.place) (x.used s) is) [
        | inl here ↦ (n, omega arith, subst (Begins F n) (sym (eqb-true _ _ here)) start.begins)
        | inr before ↦ (let b = x.below s before in (b.0, (let l = b.1 in omega (arith, l)), b.2))
      ];
    }

starts_next : (singles : ℕ → Bool) (F : List FrameRecord) → All IsFrame F → (n : ℕ) (heard : List Hearing) (o : Option Hearing) → Starts F n heard → HeardAtWith singles F n o
    → Starts F (suc n) (heard ++ or_none o)
starts_next singles F frames n heard None x at = same_starts F n heard (heard ++ []) (ap (count_by is_whole) (append-nil heard)) x
starts_next singles F frames n heard (Some h) x at = elim (cases_Bool (is_whole h)) [
  | inl whole ↦ next_start F n heard h whole x (start_of singles F n h frames at whole)
  | inr single ↦ same_starts F n heard (heard ++ h ∷ []) (let more = count_by-append is_whole heard (h ∷ []) in
      let none : one_if false ≡ count_by is_whole (h ∷ []) = ap one_if (sym single) ∙ count_here is_whole h in omega (arith, more, none)) x
]

starts_below : (singles : ℕ → Bool) (F : List FrameRecord) → All IsFrame F → (n : ℕ) (heard : List Hearing) → HeardBelowWith singles F n heard → Starts F n heard
starts_below singles F frames zero heard none = record {
  used = λ x. false;
  counted = count_none (length F) ∙ ap (count_by is_whole) (sym none);
  announced = λ s is. absurd (both_ways _ refl is);
  below = λ s is. absurd (both_ways _ refl is);
}
starts_below singles F frames (suc n) heard (before, o, below, here, is) =
    subst (Starts F (suc n)) (sym is) (starts_next singles F frames n before o (starts_below singles F frames n before below) here)

pub few_whole : (singles : ℕ → Bool) (F : List FrameRecord) (heard : List Hearing) → All IsFrame F → AreHeardWith singles F heard
    → count_by is_whole heard ≤ count_by announces_codes F
few_whole singles F heard frames are =
    let x = starts_below singles F frames (length F) heard are in
    let few = count_of_more x.used (λ i. announces_codes (frame_at F i)) (length F) x.announced in
    let all = count_places announces_codes (record { stamp = 0; id = 0; bytes = [] }) F in
    let counted = x.counted in
    omega (arith, few, all, counted)
