-- Letters by turns, and what became of each.
use Rattle.std.proofs.Common.{[], if◌then◌else◌, ◌&&◌, ◌+◌, ◌++◌, ◌-◌, ◌<◌, ◌≤◌, ◌∙◌, ◌∷◌, ◌≡◌, ◌⊎◌, ap, append-nil, append_assoc, arith, Bool, drop, Err, false, IfOk, inl, inr, length, List, map, nat_eq, None, Ok, Option, refl, Result, Some, subst, sym, take, true, ℕ}
use Rattle.std.proofs.lemmas.Bool.{cases_order}
use Rattle.std.proofs.lemmas.List.{length-map}
use Rattle.std.proofs.lemmas.List.Elements.{Contains-append_cases, Contains-push_cases}
use Rattle.std.specs.List.{Contains}
use Rattle.j39_frame.specs.Frame.{FrameRecord}
use Rattle.j39_node.specs.History.{Call, Who}
use Rattle.j39_node.specs.History.Act.{TakeFrame}
use Rattle.j39_node.specs.History.Call.{At}
use Rattle.j39_node.specs.Is.{Is}
use Rattle.j39_node.specs.declared.controller.Controller.{Controller}
use Rattle.j39_node.specs.declared.kinds.Refused.{Refused}
use Rattle.j39_node.specs.declared.kinds.Refused.TheVariants as why
use Rattle.j39_application.proofs.CourseLemmas.{count_append, count_next, one}
use Rattle.j39_application.specs.Outbox.{aged, AreDone, calls, Deed, Does, ends, Errand, goes_by, hands_in, IsMet, IsTake, IsTurn, keeps, can_go, has_room, kept, kept_anew, last_frame, left_by, Letter, letters_of, older, OutboxRecord, patience, put, settled_by, settled_of, numbered, Stands, StandsNowhere, turned}
use Rattle.j39_application.specs.Outbox.Does.{gone, handed_in, waits}
use Rattle.j39_application.specs.Outbox.IsTake.{turns}
use Rattle.j39_application.specs.OutboxCourse.{after, AreTurns, Event, Gets, is_gone, is_handed_in, is_refused, Tells, times_among, times_kept, times_settled, times_told, Turns}
use Rattle.j39_transfers.specs.Transfers.{listed}
use Rattle.j39_application.specs.Answers.{LeadsOn}
use Rattle.j39_application.specs.Kept.{stays}
use Rattle.j39_application.specs.Sending.{numbers}
use Rattle.j39_application.specs.declared.letter.Settled.{Settled}
use Rattle.j39_application.specs.declared.letter.Settled.TheVariants as settled
use Rattle.j39_application.specs.declared.sending.Token.{Token}

-- ---- one has its turn

pub is_met : (now : ℕ) (o : Letter) (a : ℕ) (answer : Result Token Refused) (how : Option Settled) (old new : Controller)
    → ((w : Who) (H : List Call) → Is w H old → Stands w H o.name a) → IfOk answer (λ token. token.way ≡ goes_by o.errand a)
    → LeadsOn (hands_in now o.errand a (numbers answer) ∷ []) old new → how ≡ settled_by o.left answer → (left : ℕ) → left ≡ left_by o.left answer
    → IsMet now o (record o { left = left }) how old new
is_met now o a answer how old new s y l e left k =
    let C : List Call = hands_in now o.errand a (numbers answer) ∷ [] in
    let next : Letter = record o { left = left } in
    record {
      calls = C;
      does = λ w H h. subst (λ (x : ℕ). Does w H now o C (record o { left = x }) how) (sym k)
          (subst (λ (x : Option Settled). Does w H now o C (record o { left = left_by o.left answer }) x) (sym e) (handed_in a answer (s w H h) y));
      leads = l;
    }

abbrev pub IsNowhere : ℕ → Controller → Type 0
IsNowhere name c = (w : Who) (H : List Call) → Is w H c → StandsNowhere w H name

pub is_over : (now : ℕ) (o : Letter) (c : Controller) → IsNowhere o.name c → o.left ≡ 0 → IsMet now o o (Some settled.Gone) c c
is_over now o c n z = record { calls = []; does = λ w H h. gone (n w H h) z; leads = λ w H h. h }

pub is_waiting : (now : ℕ) (o : Letter) (c : Controller) → IsNowhere o.name c → (o.left ≡ 0 → ⊥) → IsMet now o o None c c
is_waiting now o c n z = record { calls = []; does = λ w H h. waits (n w H h) (omega (arith, z)); leads = λ w H h. h }

-- ---- all have their turn

-- k of n had it, by which the controller went from b to c, those in front were settled before, and this was taken last
pub record IsUnderWay (now n k : ℕ) (all left : List Letter) (before behind : List (ℕ × Settled)) (b c : Controller) (frame : Option FrameRecord) : Type 0 where
  pub deeds : List Deed
  pub rest : List Letter
  pub seen : letters_of deeds ++ rest ≡ all
  pub does : (w : Who) (H : List Call) → Is w H b → AreDone w H now deeds
  pub stand : left ≡ rest ++ kept deeds
  pub ended : behind ≡ before ++ settled_of deeds
  pub last : last_frame deeds ≡ frame
  pub count : length rest + k ≡ n
  pub leads : LeadsOn (calls now deeds) b c

-- this is taken
abbrev pub Takes : ℕ → Option FrameRecord → Controller → Controller → Type 0
Takes now frame b c = LeadsOn (At now (TakeFrame frame) ∷ []) b c

pub begins : {X : Type 0} (v : X → Letter) (now n : ℕ) (all : List Letter) (xs : List X) (before : List (ℕ × Settled)) (b c : Controller)
    → map v xs ≡ all → n ≡ length xs → Takes now None b c → IsUnderWay now n 0 all (map v xs) before before b c None
begins v now n all xs before b c e l t = record {
  deeds = [];
  rest = map v xs;
  seen = e;
  does = λ w H h. tt;
  stand = sym (append-nil (map v xs));
  ended = sym (append-nil before);
  last = refl;
  count = let z : length (map v xs) ≡ length xs = length-map xs v in omega arith;
  leads = t;
}

-- what the turn of the first does
abbrev pub MeetsFirst : ℕ → List Letter → List Letter → List (ℕ × Settled) → List (ℕ × Settled) → Controller → Controller → Type 0
MeetsFirst now old left before behind b c =
    (o : Letter) (R : List Letter) → old ≡ o ∷ R → (next : Letter) × (how : Option Settled)
    × IsMet now o next how b c × (left ≡ R ++ stays how next) × (behind ≡ before ++ ends how o.number)

-- as a box tells it
as_told : (now : ℕ) (o next : Letter) (how : Option Settled) (end : Option (ℕ × Settled)) (R left : List Letter) (before behind : List (ℕ × Settled))
    (b c : Controller) → end ≡ numbered o.number how → IsMet now o next how b c → left ≡ R ++ stays end next → behind ≡ before ++ listed end
    → (next : Letter) × (how : Option Settled) × IsMet now o next how b c × (left ≡ R ++ stays how next) × (behind ≡ before ++ ends how o.number)
as_told now o next None end R left before behind b c e m l q =
    (next, None, m, l ∙ ap (λ (x : Option (ℕ × Settled)). R ++ stays x next) e, q ∙ ap (λ (x : Option (ℕ × Settled)). before ++ listed x) e)
as_told now o next (Some s) end R left before behind b c e m l q =
    (next, Some s, m, l ∙ ap (λ (x : Option (ℕ × Settled)). R ++ stays x next) e, q ∙ ap (λ (x : Option (ℕ × Settled)). before ++ listed x) e)

pub as_first : (now : ℕ) (end : Option (ℕ × Settled)) (old left : List Letter) (before behind : List (ℕ × Settled)) (b c : Controller)
    → ((o : Letter) (R : List Letter) → old ≡ o ∷ R → (next : Letter)
    × ((how : Option Settled) × (end ≡ numbered o.number how) × IsMet now o next how b c) × (left ≡ R ++ stays end next))
    → behind ≡ before ++ listed end → MeetsFirst now old left before behind b c
as_first now end old left before behind b c g q o R e =
    let f = g o R e in as_told now o f.0 f.1.0 end R left before behind b c f.1.1 f.1.2 f.2 q

module _ (now n k : ℕ) (all old left : List Letter) (first before behind : List (ℕ × Settled)) (a b c d : Controller) (frame : Option FrameRecord) where
  pub goes_on : IsUnderWay now n k all old first before a b None → k < n → MeetsFirst now old left before behind b c → Takes now frame c d
      → IsUnderWay now n (k + 1) all left first behind a d frame
  goes_on u l g t = go u.rest refl
    where
      go : (rest : List Letter) → u.rest ≡ rest → IsUnderWay now n (k + 1) all left first behind a d frame
      go [] e = absurd (let z : length u.rest ≡ 0 = ap length e in let s = u.count in omega arith)
      go (o ∷ R) e =
          let s = g o (R ++ kept u.deeds) (u.stand ∙ ap (λ os. os ++ kept u.deeds) e) in
          let met = s.2 in
          let x : Deed = record { letter = o; calls = met.calls; after = s.0; settled = s.1; frame = frame } in
          let C : List Call = calls now u.deeds in
          record {
            deeds = x ∷ u.deeds;
            rest = R;
            seen = append_assoc (letters_of u.deeds) (o ∷ []) R ∙ (ap (λ os. letters_of u.deeds ++ os) (sym e) ∙ u.seen);
            does = λ w H h. (met.does w (C ++ H) (u.leads w H h), u.last, u.does w H h);
            stand = s.3 ∙ append_assoc R (kept u.deeds) (stays s.1 s.0);
            ended = s.4 ∙ (ap (λ xs. xs ++ ends s.1 o.number) u.ended ∙ append_assoc first (settled_of u.deeds) (ends s.1 o.number));
            last = refl;
            count = let z : length u.rest ≡ length (o ∷ R) = ap length e in let s = u.count in omega arith;
            leads = λ w H h. t w ((x.calls ++ C) ++ H) (subst (λ (K : List Call). Is w K c) (sym (append_assoc x.calls C H)) (met.leads w (C ++ H) (u.leads w H h)));
          }

-- all had it, or a frame was taken
pub is_take : (now n k : ℕ) (s new : OutboxRecord) (b c : Controller) (frame : Option FrameRecord)
    → IsUnderWay now n k (older now s) new.letters s.settled new.settled b c frame → (frame ≡ None → n ≤ k)
    → new.boxes ≡ s.boxes → new.accepted ≡ s.accepted → new.moment ≡ now → IsTake now s b c frame new
is_take now n k s new b c frame u all e f m =
    subst (λ (o : Option FrameRecord). IsTake now s b c o new) u.last
    (subst (λ (x : OutboxRecord). IsTake now s b c (last_frame u.deeds) x) is (turns u.deeds u.rest (λ w H h. record { each = u.seen; does = u.does w H h; all = none }) u.leads))
  where
    empty : (rest : List Letter) → length rest ≡ 0 → rest ≡ []
    empty [] z = refl
    empty (o ∷ R) z = absurd (omega (arith, z))

    none : last_frame u.deeds ≡ None → u.rest ≡ []
    none z = empty u.rest (let q = all (sym u.last ∙ z) in let l = u.count in omega (arith, q, l))

    is : turned now u.deeds u.rest s ≡ new
    is = λ i. record { boxes = sym e i; accepted = sym f i; moment = sym m i; letters = sym u.stand i; settled = sym u.ended i }

-- ---- each has one fate

number_stays : (w : Who) (H : List Call) (now : ℕ) (o next : Letter) (C : List Call) (how : Option Settled) → Does w H now o C next how → next.number ≡ o.number
number_stays w H now o _ _ _ (handed_in a answer s y) = refl
number_stays w H now o _ _ _ (waits s l) = refl
number_stays w H now o _ _ _ (gone s z) = refl

abbrev is_of : ℕ → Letter → Bool
is_of n o = nat_eq n o.number

abbrev is_so : (Settled → Bool) → ℕ → ℕ × Settled → Bool
is_so so n x = nat_eq n x.0 && so x.1

one_end : (b : Bool) (s : Settled) → one b ≡ one (b && is_handed_in s) + (one (b && is_refused s) + one (b && is_gone s))
one_end true (settled.HandedIn token) = refl
one_end true (settled.Refused why) = refl
one_end true settled.Gone = refl
one_end false (settled.HandedIn token) = refl
one_end false (settled.Refused why) = refl
one_end false settled.Gone = refl

abbrev fates : ℕ → List (ℕ × Settled) → ℕ
fates n xs = times_among is_handed_in n xs + (times_among is_refused n xs + times_among is_gone n xs)

fates_append : (n : ℕ) (xs ys : List (ℕ × Settled)) → fates n (xs ++ ys) ≡ fates n xs + fates n ys
fates_append n xs ys =
    let a = count_append (is_so is_handed_in n) xs ys in
    let b = count_append (is_so is_refused n) xs ys in
    let c = count_append (is_so is_gone n) xs ys in
    omega arith

-- one stays, or is settled in one way
one_deed : (n : ℕ) (o next : Letter) (how : Option Settled) → next.number ≡ o.number
    → one (is_of n o) ≡ times_kept n (stays how next) + fates n (ends how o.number)
one_deed n o next None e =
    let a : times_kept n (next ∷ []) ≡ one (is_of n next) + 0 = count_next (is_of n) next [] in
    let b : one (is_of n next) ≡ one (is_of n o) = ap (λ (m : ℕ). one (nat_eq n m)) e in
    let z : fates n [] ≡ 0 = refl in
    omega arith
one_deed n o next (Some s) e =
    let x : ℕ × Settled = (o.number, s) in
    let a : times_among is_handed_in n (x ∷ []) ≡ one (nat_eq n o.number && is_handed_in s) + 0 = count_next (is_so is_handed_in n) x [] in
    let b : times_among is_refused n (x ∷ []) ≡ one (nat_eq n o.number && is_refused s) + 0 = count_next (is_so is_refused n) x [] in
    let c : times_among is_gone n (x ∷ []) ≡ one (nat_eq n o.number && is_gone s) + 0 = count_next (is_so is_gone n) x [] in
    let y = one_end (nat_eq n o.number) s in
    let z : times_kept n [] ≡ 0 = refl in
    omega arith

deeds_counted : (w : Who) (H : List Call) (now n : ℕ) (ds : List Deed) → AreDone w H now ds
    → times_kept n (letters_of ds) ≡ times_kept n (kept ds) + fates n (settled_of ds)
deeds_counted w H now n [] t = refl
deeds_counted w H now n (d ∷ ds) t =
    let h = deeds_counted w H now n ds t.2 in
    let all : times_kept n (letters_of (d ∷ ds)) ≡ times_kept n (letters_of ds) + times_kept n (d.letter ∷ []) = count_append (is_of n) (letters_of ds) (d.letter ∷ []) in
    let last : times_kept n (d.letter ∷ []) ≡ one (is_of n d.letter) + 0 = count_next (is_of n) d.letter [] in
    let those : times_kept n (kept (d ∷ ds)) ≡ times_kept n (kept ds) + times_kept n (stays d.settled d.after) = count_append (is_of n) (kept ds) (stays d.settled d.after) in
    let ended : fates n (settled_of (d ∷ ds)) ≡ fates n (settled_of ds) + fates n (ends d.settled d.letter.number) = fates_append n (settled_of ds) (ends d.settled d.letter.number) in
    let mine = one_deed n d.letter d.after d.settled (number_stays w (calls now ds ++ H) now d.letter d.after d.calls d.settled t.0) in
    omega arith

kept_aged : (n time : ℕ) (os : List Letter) → times_kept n (map (aged time) os) ≡ times_kept n os
kept_aged n time [] = refl
kept_aged n time (o ∷ os) =
    count_next (is_of n) (aged time o) (map (aged time) os) ∙ (ap (λ m. one (is_of n o) + m) (kept_aged n time os) ∙ sym (count_next (is_of n) o os))

abbrev ended : ℕ → List Event → ℕ
ended n E = times_settled is_handed_in n E + (times_settled is_refused n E + times_settled is_gone n E)

abbrev total : ℕ → ℕ → List Event → ℕ
total boxes n E = times_kept n (after boxes E).letters + ended n E

-- those that were accepted are counted once, and the others not
abbrev IsCounted : ℕ → ℕ → ℕ → Type 0
IsCounted n accepted times = (n < accepted → times ≡ 1) × (accepted ≤ n → times ≡ 0)

same_one : (n m : ℕ) → n ≡ m → one (nat_eq n m) ≡ 1
same_one n m e = grind (arith, e)

other_one : (n m : ℕ) → (n ≡ m → ⊥) → one (nat_eq n m) ≡ 0
other_one n m e = grind (arith, e)

-- one more is accepted
one_more : (n accepted times : ℕ) → IsCounted n accepted times → IsCounted n (accepted + 1) (times + one (nat_eq n accepted))
one_more n accepted times h = elim (cases_order n accepted) [
  | inl e ↦ let z = h.1 (omega (arith, e)) in let o = same_one n accepted e in ((λ l. omega (arith, z, o)), (λ l. absurd (omega (arith, l, e))))
  | inr c ↦ elim c [
    | inl l ↦ let z = h.0 l in let o = other_one n accepted (λ e. omega (arith, l, e)) in ((λ l. omega (arith, z, o)), (λ m. absurd (omega (arith, l, m))))
    | inr l ↦ let z = h.1 (omega (arith, l)) in let o = other_one n accepted (λ e. omega (arith, l, e)) in ((λ m. absurd (omega (arith, l, m))), (λ m. omega (arith, z, o)))
  ]
]

kept_after_put : (boxes now name n : ℕ) (e : Errand) (s : OutboxRecord) (more : ℕ) → IsCounted n s.accepted (times_kept n s.letters + more)
    → IsCounted n (put now name e s).accepted (times_kept n (put now name e s).letters + more)
kept_after_put boxes now name n e s more h = go (has_room s)
  where
    mine : Letter
    mine = kept_anew s.accepted name e

    grown : times_kept n (older now s ++ mine ∷ []) + more ≡ (times_kept n s.letters + more) + one (nat_eq n s.accepted)
    grown =
        let a : times_kept n (older now s ++ mine ∷ []) ≡ times_kept n (older now s) + times_kept n (mine ∷ []) = count_append (is_of n) (older now s) (mine ∷ []) in
        let b : times_kept n (older now s) ≡ times_kept n s.letters = kept_aged n (now - s.moment) s.letters in
        let c : times_kept n (mine ∷ []) ≡ one (nat_eq n s.accepted) + 0 = count_next (is_of n) mine [] in
        omega arith

    room : OutboxRecord
    room = record s { accepted = s.accepted + 1; moment = now; letters = older now s ++ mine ∷ [] }

    go : (b : Bool) → IsCounted n (if b then room else s).accepted (times_kept n (if b then room else s).letters + more)
    go true = subst (λ (t : ℕ). IsCounted n (s.accepted + 1) t) (sym grown) (one_more n s.accepted (times_kept n s.letters + more) h)
    go false = h

counted_after : (boxes now name n : ℕ) (e : Errand) (E : List Event) → IsCounted n (after boxes E).accepted (total boxes n E) → (b : Bool)
    → IsCounted n (if b then put now name e (after boxes E) else after boxes E).accepted
    (times_kept n (if b then put now name e (after boxes E) else after boxes E).letters + ended n E)
counted_after boxes now name n e E h true = kept_after_put boxes now name n e (after boxes E) (ended n E) h
counted_after boxes now name n e E h false = h

counted : (boxes n : ℕ) (E : List Event) → AreTurns boxes E → IsCounted n (after boxes E).accepted (total boxes n E)
counted boxes n [] t = ((λ l. absurd (let z : n < 0 = l in omega (arith, z))), (λ l. refl))
counted boxes n (Gets now name e ∷ E) t = counted_after boxes now name n e E (counted boxes n E t) (can_go e)
counted boxes n (Turns now ds rest ∷ E) t =
    let s = after boxes E in
    let h : IsCounted n s.accepted (times_kept n s.letters + ended n E) = counted boxes n E t.1 in
    let turn = t.0.2 in
    let a = deeds_counted t.0.0 t.0.1 now n ds turn.does in
    let b : times_kept n (letters_of ds ++ rest) ≡ times_kept n s.letters = ap (times_kept n) turn.each ∙ kept_aged n (now - s.moment) s.letters in
    let l : times_kept n (letters_of ds ++ rest) ≡ times_kept n (letters_of ds) + times_kept n rest = count_append (is_of n) (letters_of ds) rest in
    let r : times_kept n (rest ++ kept ds) ≡ times_kept n rest + times_kept n (kept ds) = count_append (is_of n) rest (kept ds) in
    let same : times_kept n (rest ++ kept ds) + ((times_among is_handed_in n (settled_of ds) + times_settled is_handed_in n E)
    + ((times_among is_refused n (settled_of ds) + times_settled is_refused n E) + (times_among is_gone n (settled_of ds) + times_settled is_gone n E)))
    ≡ times_kept n s.letters + ended n E = omega arith in
    subst (λ (x : ℕ). IsCounted n s.accepted x) (sym same) h
counted boxes n (Tells ∷ E) t = counted boxes n E t

pub one_fate : (boxes : ℕ) (E : List Event) (n : ℕ) → AreTurns boxes E → n < (after boxes E).accepted
    → times_kept n (after boxes E).letters + (times_settled is_handed_in n E + (times_settled is_refused n E + times_settled is_gone n E)) ≡ 1
one_fate boxes E n t l = (counted boxes n E t).0 l

-- ---- each is told once

split_first : (so : Settled → Bool) (n : ℕ) (xs : List (ℕ × Settled)) → times_among so n xs ≡ times_among so n (take 1 xs) + times_among so n (drop 1 xs)
split_first so n [] = refl
split_first so n (x ∷ xs) =
    let a : times_among so n (x ∷ xs) ≡ one (is_so so n x) + times_among so n xs = count_next (is_so so n) x xs in
    let b : times_among so n (x ∷ []) ≡ one (is_so so n x) + 0 = count_next (is_so so n) x [] in
    omega arith

settled_after_put : (so : Settled → Bool) (now name n : ℕ) (e : Errand) (s : OutboxRecord) → times_among so n (keeps now name e s).settled ≡ times_among so n s.settled
settled_after_put so now name n e s = go (can_go e) (has_room s)
  where
    room : OutboxRecord
    room = record s { accepted = s.accepted + 1; moment = now; letters = older now s ++ kept_anew s.accepted name e ∷ [] }

    go : (a b : Bool) → times_among so n (if a then (if b then room else s) else s).settled ≡ times_among so n s.settled
    go true true = refl
    go true false = refl
    go false true = refl
    go false false = refl

pub each_told : (so : Settled → Bool) (boxes : ℕ) (E : List Event) (n : ℕ) → times_settled so n E
    ≡ times_among so n (after boxes E).settled + times_told so n boxes E
each_told so boxes [] n = refl
each_told so boxes (Gets now name e ∷ E) n =
    each_told so boxes E n ∙ ap (λ (m : ℕ). m + times_told so n boxes E) (sym (settled_after_put so now name n e (after boxes E)))
each_told so boxes (Turns now ds rest ∷ E) n =
    let h : times_settled so n E ≡ times_among so n (after boxes E).settled + times_told so n boxes E = each_told so boxes E n in
    let a : times_among so n ((after boxes E).settled ++ settled_of ds) ≡ times_among so n (after boxes E).settled + times_among so n (settled_of ds) = count_append (is_so so n) (after boxes E).settled (settled_of ds) in
    let g : times_among so n (settled_of ds) + times_settled so n E ≡ times_among so n ((after boxes E).settled ++ settled_of ds) + times_told so n boxes E = omega arith in
    g
each_told so boxes (Tells ∷ E) n =
    let h : times_settled so n E ≡ times_among so n (after boxes E).settled + times_told so n boxes E = each_told so boxes E n in
    let a = split_first so n (after boxes E).settled in
    let g : times_settled so n E ≡ times_among so n (drop 1 (after boxes E).settled)
    + (times_among so n (take 1 (after boxes E).settled) + times_told so n boxes E) = omega arith in
    g

-- ---- where it goes

pub done_at : (w : Who) (H : List Call) (now : ℕ) (later : List Deed) (d : Deed) (earlier : List Deed) → AreDone w H now (later ++ d ∷ earlier)
    → AreDone w H now (d ∷ earlier)
done_at w H now [] d earlier t = t
done_at w H now (x ∷ later) d earlier t = done_at w H now later d earlier t.2

abbrev GoesTo : Who → List Call → ℕ → Letter → Call → Type 0
GoesTo w H now o call = (a : ℕ) × (answer : Result ℕ Refused) × (call ≡ hands_in now o.errand a answer) × Stands w H o.name a

handed_to : (w : Who) (H : List Call) (now : ℕ) (o next : Letter) (C : List Call) (how : Option Settled) (call : Call) → Does w H now o C next how
    → Contains C call → GoesTo w H now o call
handed_to w H now o _ _ _ call (handed_in a answer s y) h = elim (Contains-push_cases [] (hands_in now o.errand a (numbers answer)) call h) [
  | inl k ↦ absurd (let l = k.1 in omega arith)
  | inr e ↦ (a, numbers answer, sym e, s)
]
handed_to w H now o _ _ _ call (waits s l) h = absurd (let l = h.1 in omega arith)
handed_to w H now o _ _ _ call (gone s z) h = absurd (let l = h.1 in omega arith)

pub to_its_name : (w : Who) (H : List Call) (now : ℕ) (s : OutboxRecord) (later : List Deed) (d : Deed) (earlier : List Deed) (rest : List Letter) (call : Call)
    → IsTurn w H now s (later ++ d ∷ earlier) rest → Contains d.calls call → GoesTo w (calls now earlier ++ H) now d.letter call
to_its_name w H now s later d earlier rest call t h =
    handed_to w (calls now earlier ++ H) now d.letter d.after d.calls d.settled call (done_at w H now later d earlier t.does).0 h

refused_or_kept : (b : Bool) → (if b then Some (settled.Refused why.NoAddress) else None) ≡ Some settled.Gone → ⊥
refused_or_kept true e = cc
refused_or_kept false e = cc

never_gone : (left : ℕ) (answer : Result Token Refused) → settled_by left answer ≡ Some settled.Gone → ⊥
never_gone left (Ok token) e = cc
never_gone left (Err why.NoAddress) e = refused_or_kept (nat_eq left 0) e
never_gone left (Err why.BadValue) e = cc
never_gone left (Err why.Full) e = cc

went : (w : Who) (H : List Call) (now : ℕ) (o next : Letter) (C : List Call) (how : Option Settled) → Does w H now o C next how
    → how ≡ Some settled.Gone → StandsNowhere w H o.name × (o.left ≡ 0)
went w H now o _ _ _ (handed_in a answer s y) e = absurd (never_gone o.left answer e)
went w H now o _ _ _ (waits s l) e = absurd cc
went w H now o _ _ _ (gone s z) e = (s, z)

pub by_nobody : (w : Who) (H : List Call) (now : ℕ) (s : OutboxRecord) (later : List Deed) (d : Deed) (earlier : List Deed) (rest : List Letter)
    → IsTurn w H now s (later ++ d ∷ earlier) rest → d.settled ≡ Some settled.Gone
    → StandsNowhere w (calls now earlier ++ H) d.letter.name × (d.letter.left ≡ 0)
by_nobody w H now s later d earlier rest t e =
    went w (calls now earlier ++ H) now d.letter d.after d.calls d.settled (done_at w H now later d earlier t.does).0 e

none_left : (b : Bool) (left : ℕ) → nat_eq left 0 ≡ b → (if b then Some (settled.Refused why.NoAddress) else None) ≡ Some (settled.Refused why.NoAddress)
    → left ≡ 0
none_left true left b e = grind (arith, b)
none_left false left b e = absurd cc

abbrev IsRefused : ℕ → Letter → List Call → Type 0
IsRefused now o C = (a : ℕ) × (C ≡ hands_in now o.errand a (Err why.NoAddress) ∷ []) × (o.left ≡ 0)

refused_by : (now : ℕ) (o : Letter) (a : ℕ) (answer : Result Token Refused) → settled_by o.left answer ≡ Some (settled.Refused why.NoAddress)
    → IsRefused now o (hands_in now o.errand a (numbers answer) ∷ [])
refused_by now o a (Ok token) e = absurd cc
refused_by now o a (Err why.NoAddress) e = (a, refl, none_left (nat_eq o.left 0) o.left refl e)
refused_by now o a (Err why.BadValue) e = absurd cc
refused_by now o a (Err why.Full) e = absurd cc

was_refused : (w : Who) (H : List Call) (now : ℕ) (o next : Letter) (C : List Call) (how : Option Settled) → Does w H now o C next how
    → how ≡ Some (settled.Refused why.NoAddress) → IsRefused now o C
was_refused w H now o _ _ _ (handed_in a answer s y) e = refused_by now o a answer e
was_refused w H now o _ _ _ (waits s l) e = absurd cc
was_refused w H now o _ _ _ (gone s z) e = absurd cc

pub by_nothing : (w : Who) (H : List Call) (now : ℕ) (s : OutboxRecord) (later : List Deed) (d : Deed) (earlier : List Deed) (rest : List Letter)
    → IsTurn w H now s (later ++ d ∷ earlier) rest → d.settled ≡ Some (settled.Refused why.NoAddress) → IsRefused now d.letter d.calls
by_nothing w H now s later d earlier rest t e =
    was_refused w (calls now earlier ++ H) now d.letter d.after d.calls d.settled (done_at w H now later d earlier t.does).0 e

-- ---- none waits too long

some_if_kept : (b : Bool) (left : ℕ) → nat_eq left 0 ≡ b → (if b then Some (settled.Refused why.NoAddress) else None) ≡ None → 0 < left
some_if_kept true left b e = absurd cc
some_if_kept false left b e = grind (arith, b)

left_then : (left : ℕ) (answer : Result Token Refused) → settled_by left answer ≡ None → 0 < left_by left answer
left_then left (Ok token) e = absurd cc
left_then left (Err why.NoAddress) e = some_if_kept (nat_eq left 0) left refl e
left_then left (Err why.BadValue) e = absurd cc
left_then left (Err why.Full) e = let z : 0 < patience = omega arith in z

left_after : (w : Who) (H : List Call) (now : ℕ) (o next : Letter) (C : List Call) (how : Option Settled) → Does w H now o C next how
    → how ≡ None → 0 < next.left
left_after w H now o _ _ _ (handed_in a answer s y) e = left_then o.left answer e
left_after w H now o _ _ _ (waits s l) e = l
left_after w H now o _ _ _ (gone s z) e = absurd cc

kept_left : (w : Who) (H : List Call) (now : ℕ) (ds : List Deed) (o : Letter) → AreDone w H now ds → Contains (kept ds) o → 0 < o.left
kept_left w H now [] o t h = absurd (let l = h.1 in omega arith)
kept_left w H now (d ∷ ds) o t h = elim (Contains-append_cases (kept ds) _ o h) [
  | inl k ↦ kept_left w H now ds o t.2 k
  | inr k ↦ go d.settled t.0 k
]
  where
    mine : Contains [] o ⊎ (d.after ≡ o) → Does w (calls now ds ++ H) now d.letter d.calls d.after None → 0 < o.left
    mine (inl k) does = absurd (let l = k.1 in omega arith)
    mine (inr e) does = subst (λ (x : Letter). 0 < x.left) e (left_after w (calls now ds ++ H) now d.letter d.after d.calls None does refl)

    go : (how : Option Settled) → Does w (calls now ds ++ H) now d.letter d.calls d.after how → Contains (stays how d.after) o → 0 < o.left
    go None does k = mine (Contains-push_cases [] d.after o k) does
    go (Some s) does k = absurd (let l = k.1 in omega arith)

pub some_left : (w : Who) (H : List Call) (now : ℕ) (s : OutboxRecord) (ds : List Deed) (rest : List Letter) (o : Letter)
    → IsTurn w H now s ds rest → last_frame ds ≡ None → Contains (rest ++ kept ds) o → 0 < o.left
some_left w H now s ds rest o t n h =
    kept_left w H now ds o t.does (subst (λ (os : List Letter). Contains (os ++ kept ds) o) (t.all n) h)
