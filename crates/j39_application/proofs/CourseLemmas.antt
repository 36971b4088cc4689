-- What became of each request that was taken.
use Rattle.std.proofs.Common.{[], if◌then◌else◌, ◌&&◌, ◌+◌, ◌++◌, ◌-◌, ◌≢◌, ◌∙◌, ◌∷◌, ◌≡◌, ◌⊎◌, ap, arith, Bool, Err, false, inl, inr, length, List, map, nat_le, None, refl, Some, subst, sym, true, ℕ}
use Rattle.std.proofs.lemmas.List.Elements.{All-head, All-tail, Contains-append_left, Contains-append_right, Contains-append_cases, Contains-push_cases}
use Rattle.std.proofs.lemmas.List.Sums.{sum_by-append, sum_by-cons}
use Rattle.std.specs.List.{All, Contains, count_by}
use Rattle.j39_frame.specs.Address.{global_address}
use Rattle.j39_node.specs.History.{Asked, Call, repeats}
use Rattle.j39_node.specs.declared.kinds.Refused.TheVariants.{Full}
use Rattle.j39_application.specs.Answers.{aged, answered, AnswersRecord, calls, Deed, Does, Fate, is_fate, IsTurn, kept, lacks, older, Open, opened, refuses, requests_of}
use Rattle.j39_application.specs.Answers.Does.{unrefused, waits}
use Rattle.j39_application.specs.Answers.Fate.{Dropped, HandedIn, Stays, ToldBusy}
use Rattle.j39_application.specs.Course.{after, AreTurns, Event, Gives, Takes, times_done, times_ended, times_open, times_taken, Turns}

abbrev pub one : Bool → ℕ
one b = if b then 1 else 0

pub count_next : {X : Type 0} (p : X → Bool) (x : X) (xs : List X) → count_by p (x ∷ xs) ≡ one (p x) + count_by p xs
count_next p x xs = sum_by-cons (λ x. one (p x)) x xs

pub count_append : {X : Type 0} (p : X → Bool) (xs ys : List X) → count_by p (xs ++ ys) ≡ count_by p xs + count_by p ys
count_append p xs ys = sum_by-append (λ x. one (p x)) xs ys

count_if : {X : Type 0} (p : X → Bool) (x : X) (b : Bool) → count_by p (if b then x ∷ [] else []) ≡ (if b then one (p x) else 0)
count_if p x true = let a = count_next p x [] in let z : count_by p [] ≡ 0 = refl in omega arith
count_if p x false = refl

abbrev is_like : Asked → Open → Bool
is_like r o = repeats r o.asked

abbrev has_fate : Fate → Asked → Deed → Bool
has_fate f r d = repeats r d.request.asked && is_fate f d.fate

open_aged : (r : Asked) (time : ℕ) (os : List Open) → times_open r (map (aged time) os) ≡ times_open r os
open_aged r time [] = refl
open_aged r time (o ∷ os) =
    count_next (is_like r) (aged time o) (map (aged time) os) ∙ (ap (λ n. one (is_like r o) + n) (open_aged r time os) ∙ sym (count_next (is_like r) o os))

open_answered : (r x : Asked) (bytes : List ℕ) (os : List Open) → times_open r (answered x bytes os) ≡ times_open r os
open_answered r x bytes [] = refl
open_answered r x bytes (o ∷ os) = go (lacks x o) (open_answered r x bytes os)
  where
    go : (b : Bool) → times_open r (answered x bytes os) ≡ times_open r os
        → times_open r (if b then record o { answer = Some bytes } ∷ os else o ∷ answered x bytes os) ≡ times_open r (o ∷ os)
    go true h = refl
    go false h = count_next (is_like r) o (answered x bytes os) ∙ (ap (λ n. one (is_like r o) + n) h ∙ sym (count_next (is_like r) o os))

-- each has one fate
one_fate : (b : Bool) (f : Fate) → one b ≡ (if is_fate Stays f then one b else 0)
    + (one (b && is_fate HandedIn f) + (one (b && is_fate ToldBusy f) + one (b && is_fate Dropped f)))
one_fate true Stays = refl
one_fate true HandedIn = refl
one_fate true ToldBusy = refl
one_fate true Dropped = refl
one_fate false Stays = refl
one_fate false HandedIn = refl
one_fate false ToldBusy = refl
one_fate false Dropped = refl

deeds_counted : (r : Asked) (ds : List Deed) → times_open r (requests_of ds)
    ≡ times_open r (kept ds) + (times_done HandedIn r ds + (times_done ToldBusy r ds + times_done Dropped r ds))
deeds_counted r [] = refl
deeds_counted r (d ∷ ds) =
    let b = is_like r d.request in
    let mine : List Open = if is_fate Stays d.fate then d.request ∷ [] else [] in
    let h = deeds_counted r ds in
    let all : times_open r (requests_of (d ∷ ds)) ≡ times_open r (requests_of ds) + count_by (is_like r) (d.request ∷ []) = count_append (is_like r) (requests_of ds) (d.request ∷ []) in
    let last : count_by (is_like r) (d.request ∷ []) ≡ one b + 0 = count_next (is_like r) d.request [] in
    let those : times_open r (kept (d ∷ ds)) ≡ times_open r (kept ds) + count_by (is_like r) mine = count_append (is_like r) (kept ds) mine in
    let stays = count_if (is_like r) d.request (is_fate Stays d.fate) in
    let fates = one_fate b d.fate in
    let sent : times_done HandedIn r (d ∷ ds) ≡ one (b && is_fate HandedIn d.fate) + times_done HandedIn r ds = count_next (has_fate HandedIn r) d ds in
    let busy : times_done ToldBusy r (d ∷ ds) ≡ one (b && is_fate ToldBusy d.fate) + times_done ToldBusy r ds = count_next (has_fate ToldBusy r) d ds in
    let dropped : times_done Dropped r (d ∷ ds) ≡ one (b && is_fate Dropped d.fate) + times_done Dropped r ds = count_next (has_fate Dropped r) d ds in
    omega arith

-- a request, or none, is taken behind the others
with_taken : (boxes now : ℕ) (E : List Event) (r : Asked) (more : List Open) → times_open r (older now (after boxes E) ++ more)
    ≡ times_open r (after boxes E).requests + times_open r more
with_taken boxes now E r more =
    let s = after boxes E in
    let a : times_open r (older now s ++ more) ≡ times_open r (older now s) + times_open r more = count_append (is_like r) (older now s) more in
    let b : times_open r (older now s) ≡ times_open r s.requests = open_aged r (now - s.moment) s.requests in
    omega arith

abbrev ended : Asked → List Event → ℕ
ended r E = times_ended HandedIn r E + (times_ended ToldBusy r E + times_ended Dropped r E)

pub accounted : (boxes : ℕ) (E : List Event) (r : Asked) → AreTurns boxes E → times_taken r E
    ≡ times_open r (after boxes E).requests + (times_ended HandedIn r E + (times_ended ToldBusy r E + times_ended Dropped r E))
accounted boxes [] r t = refl
accounted boxes (Takes now None ∷ E) r t =
    let h : times_taken r E ≡ times_open r (after boxes E).requests + ended r E = accounted boxes E r t in
    let a = with_taken boxes now E r [] in
    let z : times_open r [] ≡ 0 = refl in
    let g : times_taken r E ≡ times_open r (older now (after boxes E) ++ []) + ended r E = omega arith in
    g
accounted boxes (Takes now (Some x) ∷ E) r t =
    let h : times_taken r E ≡ times_open r (after boxes E).requests + ended r E = accounted boxes E r t in
    let a = with_taken boxes now E r (opened x ∷ []) in
    let z : times_open r (opened x ∷ []) ≡ one (repeats r x) + 0 = count_next (is_like r) (opened x) [] in
    let g : one (repeats r x) + times_taken r E ≡ times_open r (older now (after boxes E) ++ opened x ∷ []) + ended r E = omega arith in
    g
accounted boxes (Gives x bytes ∷ E) r t =
    let s = after boxes E in
    let h : times_taken r E ≡ times_open r s.requests + ended r E = accounted boxes E r t in
    let e : times_open r (after boxes (Gives x bytes ∷ E)).requests ≡ times_open r s.requests = go (nat_le (length bytes) 1785) in
    let g : times_taken r E ≡ times_open r (after boxes (Gives x bytes ∷ E)).requests + ended r E = omega arith in
    g
  where
    go : (b : Bool) → times_open r (if b then record (after boxes E) { requests = answered x bytes (after boxes E).requests } else after boxes E).requests
        ≡ times_open r (after boxes E).requests
    go true = open_answered r x bytes (after boxes E).requests
    go false = refl
accounted boxes (Turns now ds ∷ E) r t =
    let s = after boxes E in
    let h : times_taken r E ≡ times_open r s.requests + ended r E = accounted boxes E r t.1 in
    let a = deeds_counted r ds in
    let b : times_open r (requests_of ds) ≡ times_open r s.requests = ap (times_open r) t.0.each ∙ open_aged r (now - s.moment) s.requests in
    let g : times_taken r E ≡ times_open r (kept ds) + ((times_done HandedIn r ds + times_ended HandedIn r E)
    + ((times_done ToldBusy r ds + times_ended ToldBusy r E) + (times_done Dropped r ds + times_ended Dropped r E))) = omega arith in
    g

-- ---- none is late

unrefused_full : (now : ℕ) (o : Open) (C : List Call) → Does now o C Stays → o.left ≡ 0 → o.asked.destination ≢ global_address → Contains C (refuses now o (Err Full))
unrefused_full now o _ (waits C v l) z n = absurd (omega arith)
unrefused_full now o _ (unrefused C v l m) z n = (0, omega arith, refl)

late_kept : (now : ℕ) (ds : List Deed) (o : Open) → All (λ d. Does now d.request d.calls d.fate) ds → Contains (kept ds) o
    → o.left ≡ 0 → o.asked.destination ≢ global_address → Contains (calls ds) (refuses now o (Err Full))
late_kept now [] o all h z n = absurd (let l = h.1 in omega arith)
late_kept now (d ∷ ds) o all h z n = elim (Contains-append_cases (kept ds) _ o h) [
  | inl k ↦ Contains-append_right d.calls (calls ds) _ (late_kept now ds o (All-tail (λ (d : Deed). Does now d.request d.calls d.fate) d ds all) k z n)
  | inr k ↦ Contains-append_left d.calls (calls ds) _ (go d.fate (All-head (λ (d : Deed). Does now d.request d.calls d.fate) d ds all) k)
]
  where
    mine : Contains [] o ⊎ (d.request ≡ o) → Does now d.request d.calls Stays → Contains d.calls (refuses now o (Err Full))
    mine (inl k) does = absurd (let l = k.1 in omega arith)
    mine (inr e) does = unrefused_full now o d.calls (subst (λ (x : Open). Does now x d.calls Stays) e does) z n

    go : (f : Fate) → Does now d.request d.calls f → Contains (if is_fate Stays f then d.request ∷ [] else []) o → Contains d.calls (refuses now o (Err Full))
    go Stays does k = mine (Contains-push_cases [] d.request o k) does
    go HandedIn does k = absurd (let l = k.1 in omega arith)
    go ToldBusy does k = absurd (let l = k.1 in omega arith)
    go Dropped does k = absurd (let l = k.1 in omega arith)

pub none_late : (now : ℕ) (s : AnswersRecord) (ds : List Deed) (o : Open) → IsTurn now s ds → Contains (kept ds) o
    → o.left ≡ 0 → o.asked.destination ≢ global_address → Contains (calls ds) (refuses now o (Err Full))
none_late now s ds o t h z n = late_kept now ds o t.does h z n
