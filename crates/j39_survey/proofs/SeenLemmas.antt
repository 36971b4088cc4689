-- What was seen of an address, one frame more.
use Rattle.std.proofs.Common.{◌≡◌, ◌≢◌, ◌⊎◌, ◌==◌, ◌&&◌, ◌<◌, ◌≤◌, not, ℕ, suc, arith, Bool, true, false, List, [], ◌∷◌, ◌++◌, Option, Some, None, length, filter, map, replicate, refl, sym, ap, ◌∙◌, subst, inl, inr, append-nil, eqb-true, eq-eqb}
use Rattle.std.specs.Prelude.{get_or, is_some, nat_lt, slice_set, unwrap_or}
use Rattle.std.specs.List.{last_or}
use Rattle.std.specs.Option.{option_map}
use Rattle.std.proofs.lemmas.Bool.{cases_Bool, cases_eq, cases_lt, cond-false, cond-true, ne_eqb}
use Rattle.std.proofs.lemmas.Grind.{get_or-set_at}
use Rattle.std.proofs.lemmas.List.{get_or_append_left, get_or_push, get_or-replicate, get_or-set_other, length-map, length_push, map-append}
use Rattle.std.proofs.lemmas.List.Elements.{filter-append}
use Rattle.j39_address.proofs.NotingLemmas.{claims_of-push}
use Rattle.j39_address.proofs.HolderLemmas.{held_after, holder_agree, holder_is, holder_push, same_holder}
use Rattle.j39_address.specs.Claim.{Claim, claim_of, claims_of}
use Rattle.j39_address.specs.Holder.{Holds, IsHolderAfter}
use Rattle.j39_frame.specs.Frame.{FrameRecord}
use Rattle.j39_frame.specs.Address.{global_address}
use Rattle.j39_frame.specs.Identifier.{pgn_of, source_of}
use Rattle.j39_frame.specs.Network.{address_claimed_group}
use Rattle.j39_frame.specs.Stamp.{stamp_micros}
use Rattle.j39_survey.specs.SeenNodes.{Talks, is_claim, is_from, last_stamp, stamps_from}
use Rattle.j39_survey.specs.Interfaces.{last_behind}
use Rattle.j39_survey.specs.SurveyModels.{HaveMeasured, last_in}
use Rattle.j39_survey.specs.declared.surveys.distances.Distances.{Distances}
use Rattle.j39_survey.specs.SeenSoFar.{HasSeen, unseen}
use Rattle.j39_survey.specs.declared.node_lists.seen.Seen.{Seen}

and_false : (b : Bool) → (b && false) ≡ false
and_false true = refl
and_false false = refl

pub is_some-map : {T U : Type 0} (f : T → U) (o : Option T) → is_some (option_map f o) ≡ is_some o
is_some-map f None = refl
is_some-map f (Some x) = refl

-- ---- the last stamp

last_or-push : (o : Option FrameRecord) (xs : List FrameRecord) (x : FrameRecord) → last_or o (xs ++ x ∷ []) ≡ Some x
last_or-push o [] x = refl
last_or-push o (y ∷ xs) x = last_or-push (Some y) xs x

pub last_stamp-this : (is : FrameRecord → Bool) (F : List FrameRecord) (f : FrameRecord) → is f ≡ true → last_stamp is (F ++ f ∷ []) ≡ Some f.stamp
unfolding last_stamp
last_stamp-this is F f so =
    ap (λ xs. option_map (λ (g : FrameRecord). g.stamp) (last_or None xs)) (filter-append is F (f ∷ []) ∙ ap (λ xs. filter is F ++ xs) (cond-true _ _ _ so))
    ∙ ap (option_map (λ (g : FrameRecord). g.stamp)) (last_or-push None (filter is F) f)

pub last_stamp-other : (is : FrameRecord → Bool) (F : List FrameRecord) (f : FrameRecord) → is f ≡ false → last_stamp is (F ++ f ∷ []) ≡ last_stamp is F
unfolding last_stamp
last_stamp-other is F f not_so =
    ap (λ xs. option_map (λ (g : FrameRecord). g.stamp) (last_or None xs))
    (filter-append is F (f ∷ []) ∙ ap (λ xs. filter is F ++ xs) (cond-false _ _ _ not_so) ∙ append-nil (filter is F))

-- ---- the stamps

pub stamps-this : (F : List FrameRecord) (f : FrameRecord) (a : ℕ) → is_from a f ≡ true → stamps_from (F ++ f ∷ []) a ≡ stamps_from F a ++ f.stamp ∷ []
stamps-this F f a so =
    ap (map (λ (g : FrameRecord). g.stamp)) (filter-append (is_from a) F (f ∷ []) ∙ ap (λ xs. filter (is_from a) F ++ xs) (cond-true _ _ _ so))
    ∙ map-append (λ (g : FrameRecord). g.stamp) (filter (is_from a) F) (f ∷ [])

stamps-other : (F : List FrameRecord) (f : FrameRecord) (a : ℕ) → is_from a f ≡ false → stamps_from (F ++ f ∷ []) a ≡ stamps_from F a
stamps-other F f a not_so =
    ap (map (λ (g : FrameRecord). g.stamp)) (filter-append (is_from a) F (f ∷ []) ∙ ap (λ xs. filter (is_from a) F ++ xs) (cond-false _ _ _ not_so) ∙ append-nil (filter (is_from a) F))

last_of_stamps : (x : FrameRecord) (xs : List FrameRecord) → Some (last_behind x.stamp (map (λ f. f.stamp) xs)) ≡ option_map (λ f. f.stamp) (last_or (Some x) xs)
last_of_stamps x [] = refl
last_of_stamps x (y ∷ ys) = last_of_stamps y ys

last_of_all : (xs : List FrameRecord) → last_in (map (λ f. f.stamp) xs) ≡ option_map (λ f. f.stamp) (last_or None xs)
last_of_all [] = refl
last_of_all (x ∷ xs) = last_of_stamps x xs

-- the last moment is that of the last frame
pub heard_last : (d : Distances) (F : List FrameRecord) (a : ℕ) → HaveMeasured d (stamps_from F a) → option_map stamp_micros d.last ≡ last_stamp (is_from a) F
unfolding last_stamp
heard_last d F a measured = measured.last_is ∙ last_of_all (filter (is_from a) F)

-- ---- the holder

-- who holds an address behind a frame claims it by that frame, or held it before
held_before : (F : List FrameRecord) (f : FrameRecord) (a n : ℕ) → a < 254 → IsHolderAfter (claims_of (F ++ f ∷ [])) a (Some n)
    → (claim_of f ≡ Some (record { name = n; address = a })) ⊎ IsHolderAfter (claims_of F) a (Some n)
held_before F f a n below held =
    let before = holder_is (claims_of F) (length (claims_of F)) a in
    let C : claims_of (F ++ f ∷ []) ≡ claims_of F ++ claim_of f ∷ [] = claims_of-push F f in
    let next = holder_push (claims_of F) (claim_of f) a before.0 below before.1 in
    go (claim_of f) before.0 before.1
    (same_holder (claims_of F ++ claim_of f ∷ []) (length (claims_of F ++ claim_of f ∷ [])) a _ _ next
    (subst (λ (D : List (Option Claim)). IsHolderAfter D a (Some n)) C held))
  where
    named : (x y : ℕ) → Some x ≡ Some y → x ≡ y
    named x y same = ap (λ (o : Option ℕ). unwrap_or o x) same

    claims : (c : Claim) → c.name ≡ n → c.address ≡ a → Some c ≡ Some (record { name = n; address = a })
    claims c name address = λ i. Some (record { name = name i; address = address i })

    go : (c : Option Claim) (o : Option ℕ) → IsHolderAfter (claims_of F) a o → held_after a c o ≡ Some n
        → (c ≡ Some (record { name = n; address = a })) ⊎ IsHolderAfter (claims_of F) a (Some n)
    go None o was same = inr (subst (λ (p : Option ℕ). IsHolderAfter (claims_of F) a p) same was)
    go (Some c) None was same = elim (cases_Bool (c.address == a)) [
      | inl here ↦ inl (claims c (named c.name n (sym (cond-true _ _ _ here) ∙ same)) (eqb-true _ _ here))
      | inr else ↦ absurd (let none : None ≡ Some n = sym (cond-false _ _ _ else) ∙ same in cc)
    ]
    go (Some c) (Some m) was same = elim (cases_Bool (c.address == a)) [
      | inl here ↦
          let inner = sym (cond-true _ _ _ here) ∙ same in
          elim (cases_Bool (nat_lt m c.name)) [
            | inl less ↦ inr (subst (λ (p : Option ℕ). IsHolderAfter (claims_of F) a p) (sym (cond-true _ _ _ less) ∙ inner) was)
            | inr more ↦ inl (claims c (named c.name n (sym (cond-false _ _ _ more) ∙ inner)) (eqb-true _ _ here))
          ]
      | inr else ↦
          let inner = sym (cond-false _ _ _ else) ∙ same in
          elim (cases_Bool (m == c.name)) [
            | inl left ↦ absurd (let none : None ≡ Some n = sym (cond-true _ _ _ left) ∙ inner in cc)
            | inr stays ↦ inr (subst (λ (p : Option ℕ). IsHolderAfter (claims_of F) a p) (sym (cond-false _ _ _ stays) ∙ inner) was)
          ]
    ]

-- ---- claims

-- a claim comes from the address that it claims
claim_from : (f : FrameRecord) (c : Claim) → claim_of f ≡ Some c → source_of f.id ≡ c.address
claim_from f c is = elim (cases_Bool (pgn_of f.id == address_claimed_group && length f.bytes == 8 && nat_lt (source_of f.id) global_address)) [
  | inl so ↦ ap (λ (o : Option Claim). (unwrap_or o c).address) (sym (cond-true _ _ _ so) ∙ is)
  | inr not_so ↦ absurd (let none : None ≡ Some c = sym (cond-false _ _ _ not_so) ∙ is in cc)
]

is_claim-this : (n a : ℕ) (c : Claim) → c.name ≡ n → c.address ≡ a → is_claim n a (Some c) ≡ true
is_claim-this n a c name address = ap (λ x. x && c.address == a) (eq-eqb c.name n name) ∙ eq-eqb c.address a address

is_claim-other : (n a : ℕ) (c : Claim) → c.name ≢ n → is_claim n a (Some c) ≡ false
is_claim-other n a c name = ap (λ x. x && c.address == a) (ne_eqb c.name n name)

-- no claim of another address is one of this
is_claim-elsewhere : (f : FrameRecord) (n a : ℕ) → source_of f.id ≢ a → is_claim n a (claim_of f) ≡ false
is_claim-elsewhere f n a else = go (claim_of f) refl
  where
    go : (c : Option Claim) → claim_of f ≡ c → is_claim n a c ≡ false
    go None is = refl
    go (Some c) is = ap (λ x. c.name == n && x) (ne_eqb c.address a (λ z. else (claim_from f c is ∙ z))) ∙ and_false (c.name == n)

-- ---- who talks

abbrev any_frame : FrameRecord
any_frame = record { stamp = 0; id = 0; bytes = [] }

-- the claims before the last frame are those before it
claims_before : (F : List FrameRecord) (f : FrameRecord) (j : ℕ) → j < length F → get_or (claims_of (F ++ f ∷ [])) j None ≡ get_or (claims_of F) j None
claims_before F f j below =
    let long : length (claims_of F) ≡ length F = length-map F claim_of in
    ap (λ C. get_or C j None) (claims_of-push F f) ∙ get_or_append_left (claims_of F) (claim_of f ∷ []) None j (omega (arith, long))

long_claims : (F : List FrameRecord) (f : FrameRecord) → length (claims_of (F ++ f ∷ [])) ≡ suc (length F)
long_claims F f =
    let long : length (claims_of (F ++ f ∷ [])) ≡ length (F ++ f ∷ []) = length-map (F ++ f ∷ []) claim_of in
    omega (arith, long, length_push F f)

held_then : (F : List FrameRecord) (f : FrameRecord) (i n a : ℕ) → i ≤ length F → Holds (claims_of (F ++ f ∷ [])) i n a → Holds (claims_of F) i n a
held_then F f i n a fits held = holder_agree (claims_of (F ++ f ∷ [])) (claims_of F) i a (Some n) (λ j below. claims_before F f j (omega arith)) held

held_still : (F : List FrameRecord) (f : FrameRecord) (i n a : ℕ) → i ≤ length F → Holds (claims_of F) i n a → Holds (claims_of (F ++ f ∷ [])) i n a
held_still F f i n a fits held = holder_agree (claims_of F) (claims_of (F ++ f ∷ [])) i a (Some n) (λ j below. sym (claims_before F f j (omega arith))) held

-- a frame from there, behind which nobody holds it
talks_now : (F : List FrameRecord) (f : FrameRecord) (a : ℕ) → source_of f.id ≡ a → IsHolderAfter (claims_of (F ++ f ∷ [])) a None → Talks (F ++ f ∷ []) a
talks_now F f a here unheld = record {
  at = length F;
  inside = omega (arith, length_push F f);
  from = ap (λ (g : FrameRecord). source_of g.id) (get_or_push F f any_frame (length F) refl) ∙ here;
  unheld = λ i n later within held.
      let last : i ≡ length (claims_of (F ++ f ∷ [])) = omega (arith, long_claims F f, length_push F f) in
      unheld n (subst (λ (k : ℕ). Holds (claims_of (F ++ f ∷ [])) k n a) last held);
}

-- who holds an address doesn't talk there without holding it
held_silent : (F : List FrameRecord) (a n : ℕ) → IsHolderAfter (claims_of F) a (Some n) → Talks F a → ⊥
held_silent F a n held t =
    let long : length (claims_of F) ≡ length F = length-map F claim_of in
    let inside = t.inside in
    t.unheld (length (claims_of F)) n (omega (arith, long)) (omega (arith, long)) held

-- a frame from elsewhere changes nothing of this
talks_on : (F : List FrameRecord) (f : FrameRecord) (a : ℕ) → a < 254 → source_of f.id ≢ a → Talks F a → Talks (F ++ f ∷ []) a
talks_on F f a below else t =
    let inside = t.inside in
    let long : length (claims_of F) ≡ length F = length-map F claim_of in
    record {
      at = t.at;
      inside = omega (arith, length_push F f);
      from = ap (λ (g : FrameRecord). source_of g.id) (get_or_append_left F (f ∷ []) any_frame t.at inside) ∙ t.from;
      unheld = λ i n later within held. elim (cases_lt (length F) i) [
        | inl last ↦
            let end : i ≡ length (claims_of (F ++ f ∷ [])) = omega (arith, long_claims F f, length_push F f) in
            elim (held_before F f a n below (subst (λ (k : ℕ). Holds (claims_of (F ++ f ∷ [])) k n a) end held)) [
              | inl own ↦ else (claim_from f (record { name = n; address = a }) own)
              | inr was ↦ t.unheld (length (claims_of F)) n (omega (arith, long)) (omega (arith, long)) was
            ]
        | inr earlier ↦ t.unheld i n later earlier (held_then F f i n a earlier held)
      ];
    }

talked : (F : List FrameRecord) (f : FrameRecord) (a : ℕ) → source_of f.id ≢ a → Talks (F ++ f ∷ []) a → Talks F a
talked F f a else t = elim (cases_lt t.at (length F)) [
  | inl inside ↦ record {
    at = t.at;
    inside = inside;
    from = sym (ap (λ (g : FrameRecord). source_of g.id) (get_or_append_left F (f ∷ []) any_frame t.at inside)) ∙ t.from;
    unheld = λ i n later within held. t.unheld i n later (omega (arith, length_push F f)) (held_still F f i n a within held);
  }
  | inr past ↦
      let inside = t.inside in
      let last : length F ≡ t.at = omega (arith, length_push F f) in
      absurd (else (sym (ap (λ (g : FrameRecord). source_of g.id) (get_or_push F f any_frame t.at last)) ∙ t.from))
]

-- ---- one frame more

-- a frame from elsewhere
pub seen_elsewhere : (F : List FrameRecord) (f : FrameRecord) (a : ℕ) (seen : Seen) → a < 254 → source_of f.id ≢ a → HasSeen F a seen → HasSeen (F ++ f ∷ []) a seen
seen_elsewhere F f a seen below else has =
    let away : is_from a f ≡ false = ne_eqb (source_of f.id) a else in
    record {
      talks = λ so. talks_on F f a below else (has.talks so);
      silent = λ not_so t. has.silent not_so (talked F f a else t);
      measured = subst (HaveMeasured seen.distances) (sym (stamps-other F f a away)) has.measured;
      claimed = λ n held. elim (held_before F f a n below held) [
        | inl own ↦ absurd (else (claim_from f (record { name = n; address = a }) own))
        | inr was ↦ has.claimed n was ∙ sym (last_stamp-other (λ g. is_claim n a (claim_of g)) F f (is_claim-elsewhere f n a else))
      ];
    }

-- a frame from there tells who talks: whoever does while nobody holds the address behind it
module _ (F : List FrameRecord) (f : FrameRecord) (a : ℕ) (here : source_of f.id ≡ a) where
  now_talks : (o : Option ℕ) (talks : Bool) → is_some o ≡ not talks → IsHolderAfter (claims_of (F ++ f ∷ [])) a o → talks ≡ true → Talks (F ++ f ∷ []) a
  now_talks None talks is holds so = talks_now F f a here holds
  now_talks (Some n) talks is holds so = absurd (let none : true ≡ false = is ∙ ap not so in cc)

  now_silent : (o : Option ℕ) (talks : Bool) → is_some o ≡ not talks → IsHolderAfter (claims_of (F ++ f ∷ [])) a o → talks ≡ false → Talks (F ++ f ∷ []) a → ⊥
  now_silent None talks is holds not_so t = let so : false ≡ true = is ∙ ap not not_so in cc
  now_silent (Some n) talks is holds not_so t = held_silent (F ++ f ∷ []) a n holds t

-- a frame that is no claim
pub seen_talk : (F : List FrameRecord) (f : FrameRecord) (a : ℕ) (old new : Seen) (holder : Option ℕ) → a < 254 → source_of f.id ≡ a → claim_of f ≡ None → HasSeen F a old
    → IsHolderAfter (claims_of (F ++ f ∷ [])) a holder → is_some holder ≡ not new.talks → HaveMeasured new.distances (stamps_from F a ++ f.stamp ∷ []) → new.claimed ≡ old.claimed → HasSeen (F ++ f ∷ []) a new
seen_talk F f a old new holder below here none has holds talks measured claimed = record {
  talks = now_talks F f a here holder new.talks talks holds;
  silent = now_silent F f a here holder new.talks talks holds;
  measured = subst (HaveMeasured new.distances) (sym (stamps-this F f a (eq-eqb (source_of f.id) a here))) measured;
  claimed = λ n held. elim (held_before F f a n below held) [
    | inl own ↦ absurd (let no : None ≡ Some (record { name = n; address = a }) = sym none ∙ own in cc)
    | inr was ↦ ap (option_map stamp_micros) claimed ∙ has.claimed n was ∙ sym (last_stamp-other (λ g. is_claim n a (claim_of g)) F f (ap (is_claim n a) none))
  ];
}

-- a claim, behind which this NAME holds the address
pub seen_claim : (F : List FrameRecord) (f : FrameRecord) (c : Claim) (a : ℕ) (old new : Seen) (holder : Option ℕ) → a < 254 → source_of f.id ≡ a → claim_of f ≡ Some c → HasSeen F a old
    → IsHolderAfter (claims_of (F ++ f ∷ [])) a holder → is_some holder ≡ not new.talks → HaveMeasured new.distances (stamps_from F a ++ f.stamp ∷ [])
    → (holder ≡ Some c.name → option_map stamp_micros new.claimed ≡ Some f.stamp) → (holder ≢ Some c.name → new.claimed ≡ old.claimed) → HasSeen (F ++ f ∷ []) a new
seen_claim F f c a old new holder below here is has holds talks measured own other =
    let address : c.address ≡ a = sym (claim_from f c is) ∙ here in
    record {
      talks = now_talks F f a here holder new.talks talks holds;
      silent = now_silent F f a here holder new.talks talks holds;
      measured = subst (HaveMeasured new.distances) (sym (stamps-this F f a (eq-eqb (source_of f.id) a here))) measured;
      claimed = λ n held.
          let same : holder ≡ Some n = same_holder (claims_of (F ++ f ∷ [])) (length (claims_of (F ++ f ∷ []))) a holder (Some n) holds held in
          elim (cases_eq c.name n) [
            | inl e ↦ own (same ∙ ap (λ (x : ℕ). Some x) (sym e)) ∙ sym (last_stamp-this (λ g. is_claim n a (claim_of g)) F f (ap (is_claim n a) is ∙ is_claim-this n a c e address))
            | inr ne ↦ elim (held_before F f a n below held) [
              | inl claims ↦ absurd (ne (ap (λ (o : Option Claim). (unwrap_or o c).name) (sym is ∙ claims)))
              | inr was ↦
                  ap (option_map stamp_micros) (other (λ z. ne (ap (λ (o : Option ℕ). unwrap_or o n) (sym z ∙ same)))) ∙ has.claimed n was
                  ∙ sym (last_stamp-other (λ g. is_claim n a (claim_of g)) F f (ap (is_claim n a) is ∙ is_claim-other n a c ne))
            ]
          ];
    }

-- of no frames
pub seen_none : (a : ℕ) → HasSeen [] a unseen
unfolding last_stamp
seen_none a = record {
  talks = λ so. absurd (cc);
  silent = λ not_so t. let inside : t.at < 0 = t.inside in absurd (omega arith);
  measured = record { last_is = refl; spread_is = refl };
  claimed = λ n held. refl;
}

-- ---- all addresses

-- this was seen of the address of the frame, and of the others what was seen before
pub seen_more : (F : List FrameRecord) (f : FrameRecord) (list : List Seen) (at : ℕ) (new : Seen) → at < length list → source_of f.id ≡ at
    → ((a : ℕ) → a < 254 → HasSeen F a (get_or list a unseen)) → HasSeen (F ++ f ∷ []) at new
    → (a : ℕ) → a < 254 → HasSeen (F ++ f ∷ []) a (get_or (slice_set list at new) a unseen)
seen_more F f list at new within here before now a below = elim (cases_eq a at) [
  | inl e ↦
      subst (λ (s : Seen). HasSeen (F ++ f ∷ []) a s) (sym (get_or-set_at list at a new unseen e within))
      (subst (λ (b : ℕ). HasSeen (F ++ f ∷ []) b new) (sym e) now)
  | inr ne ↦
      subst (λ (s : Seen). HasSeen (F ++ f ∷ []) a s) (sym (get_or-set_other list at a new unseen ne))
      (seen_elsewhere F f a (get_or list a unseen) below (λ z. ne (sym z ∙ here)) (before a below))
]

pub seen_none_at : (a : ℕ) → a < 254 → HasSeen [] a (get_or (replicate 254 unseen) a unseen)
seen_none_at a below = subst (λ (s : Seen). HasSeen [] a s) (sym (get_or-replicate 254 a unseen unseen below)) (seen_none a)
