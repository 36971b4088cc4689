-- Answers in their list, one given, and all by turns.
use Rattle.std.proofs.Common.{[], if◌then◌else◌, ◌&&◌, ◌+◌, ◌++◌, ◌<◌, ◌≢◌, ◌≤◌, ◌∙◌, ◌∷◌, ◌≡◌, ap, append_assoc, arith, Bool, Err, false, get_or, length, List, map, nat_le, not, None, Ok, Option, refl, Result, set, Some, subst, suc, sym, true, zero, ℕ}
use Rattle.std.proofs.lemmas.List.Elements.{All-cons}
use Rattle.std.specs.List.{All, position, position_or_len}
use Rattle.std.specs.Option.{is_some}
use Rattle.j39_frame.specs.Address.{global_address}
use Rattle.j39_node.specs.History.{Asked, Call, Draft}
use Rattle.j39_node.specs.History.Act.{Acknowledge}
use Rattle.j39_node.specs.History.Call.{At}
use Rattle.j39_node.specs.Is.{Is}
use Rattle.j39_node.specs.declared.controller.Controller.{Controller}
use Rattle.j39_node.specs.declared.kinds.Answer.TheVariants.{Busy}
use Rattle.j39_node.specs.declared.kinds.Refused.{Refused}
use Rattle.j39_node.specs.declared.kinds.Refused.TheVariants.{Full}
use Rattle.j39_application.specs.Kept.{stays as stays_in}
use Rattle.j39_application.specs.Sending.{sent_as}
use Rattle.j39_application.specs.Answers.{answered, answers, AnswersRecord, calls, Deed, Does, hands_in, is_fate, IsLeft, IsMet, kept, lacks, LeadsOn, Open, refuses, reply, requests_of}
use Rattle.j39_application.specs.Answers.Does.{accepted, refused, too_late, unrefusable, unrefused, unsendable, waits}
use Rattle.j39_application.specs.Answers.Fate.{Dropped, HandedIn, Stays, ToldBusy}
use Rattle.j39_application.specs.Answers.IsVain.{full}

-- ---- one is given

abbrev pub given : List ℕ → Open → Open
given bytes o = record o { answer = Some bytes }

none_within : {T : Type 0} (p : T → Bool) (xs : List T) → None ≡ position p xs → length xs ≤ position_or_len p xs
none_within p xs e = grind (arith, e)

some_within : {T : Type 0} (p : T → Bool) (xs : List T) (k : ℕ) → Some k ≡ position p xs → (k ≡ position_or_len p xs) × (k < length xs)
some_within p xs k e = grind (arith, e)

module _ {X : Type 0} (v : X → Open) (r : Asked) (bytes : List ℕ) (d x : X) where
  abbrev Puts : ℕ → List X → Type 0
  Puts n xs = v x ≡ given bytes (v (get_or xs n d)) → map v (set xs n x) ≡ answered r bytes (map v xs)

  first : (xs : List X) → position_or_len (λ y. lacks r (v y)) xs < length xs → Puts (position_or_len (λ y. lacks r (v y)) xs) xs
  first [] l = absurd (omega (arith, l))
  first (y ∷ xs) l = go (lacks r (v y)) refl (position_or_len (λ y. lacks r (v y)) xs) (first xs) l
    where
      go : (b : Bool) → lacks r (v y) ≡ b → (n : ℕ) → (n < length xs → Puts n xs) → (if not b then 1 + n else 0) < length (y ∷ xs)
          → Puts (if not b then 1 + n else 0) (y ∷ xs)
      go true i n h l e =
          ap (λ (o : Open). o ∷ map v xs) e
          ∙ sym (ap (λ (b : Bool). if b then given bytes (v y) ∷ map v xs else v y ∷ answered r bytes (map v xs)) i)
      go false i n h l e =
          let q = h (omega (arith, l)) in
          let p : Puts (suc n) (y ∷ xs) = λ e. ap (λ os. v y ∷ os) (q e) ∙ sym (ap (λ (b : Bool). if b then given bytes (v y) ∷ map v xs else v y ∷ answered r bytes (map v xs)) i) in
          subst (λ (m : ℕ). Puts m (y ∷ xs)) (let z : suc n ≡ 1 + n = omega arith in z) p e

  pub given_at : (xs : List X) (k : ℕ) → Some k ≡ position (λ y. lacks r (v y)) xs → Puts k xs
  given_at xs k e =
      let w = some_within (λ y. lacks r (v y)) xs k e in
      subst (λ (m : ℕ). Puts m xs) (sym w.0) (first xs (subst (λ (m : ℕ). m < length xs) w.0 w.1))

none_given : {X : Type 0} (v : X → Open) (r : Asked) (bytes : List ℕ) (xs : List X) → length xs ≤ position_or_len (λ y. lacks r (v y)) xs
    → answered r bytes (map v xs) ≡ map v xs
none_given v r bytes [] l = refl
none_given v r bytes (y ∷ xs) l = let h = none_given v r bytes xs in grind (arith, h, l)

pub given_to_none : {X : Type 0} (v : X → Open) (r : Asked) (bytes : List ℕ) (xs : List X) → None ≡ position (λ y. lacks r (v y)) xs
    → answered r bytes (map v xs) ≡ map v xs
given_to_none v r bytes xs e = none_given v r bytes xs (none_within (λ y. lacks r (v y)) xs e)

kept_as_it_was : {X : Type 0} (v : X → Open) (d x : X) (xs : List X) (k : ℕ) → v x ≡ v (get_or xs k d) → map v (set xs k x) ≡ map v xs
kept_as_it_was v d x [] k e = refl
kept_as_it_was v d x (y ∷ xs) zero e = ap (λ (o : Open). o ∷ map v xs) e
kept_as_it_was v d x (y ∷ xs) (suc k) e = ap (λ os. v y ∷ os) (kept_as_it_was v d x xs k e)

answers_by : (r : Asked) (bytes : List ℕ) (s : AnswersRecord) (os : List Open) (b : Bool) → os ≡ (if b then answered r bytes s.requests else s.requests)
    → (let t : AnswersRecord = record s { requests = os } in t) ≡ (if b then record s { requests = answered r bytes s.requests } else s)
answers_by r bytes s os true e = λ i. (let t : AnswersRecord = record s { requests = e i } in t)
answers_by r bytes s os false e = λ i. (let t : AnswersRecord = record s { requests = e i } in t)

-- the box at this place holds the answer, if that is short enough
pub keeps : {X : Type 0} (v : X → Open) (r : Asked) (bytes : List ℕ) (d x : X) (xs : List X) (k : ℕ) (s : AnswersRecord) (b : Bool)
    → Some k ≡ position (λ y. lacks r (v y)) xs → b ≡ nat_le (length bytes) 1785 → s.requests ≡ map v xs
    → v x ≡ (if b then given bytes (v (get_or xs k d)) else v (get_or xs k d))
    → (let t : AnswersRecord = record s { requests = map v (set xs k x) } in t) ≡ answers r bytes s
keeps v r bytes d x xs k s b e f m h =
    let q = go b h in
    answers_by r bytes s (map v (set xs k x)) (nat_le (length bytes) 1785)
    (subst (λ (b : Bool). map v (set xs k x) ≡ (if b then answered r bytes s.requests else s.requests)) f
    (subst (λ os. map v (set xs k x) ≡ (if b then answered r bytes os else os)) (sym m) q))
  where
    go : (b : Bool) → v x ≡ (if b then given bytes (v (get_or xs k d)) else v (get_or xs k d)) → map v (set xs k x) ≡ (if b then answered r bytes (map v xs) else map v xs)
    go true h = given_at v r bytes d x xs k e h
    go false h = kept_as_it_was v d x xs k h

pub keeps_none : {X : Type 0} (v : X → Open) (r : Asked) (bytes : List ℕ) (xs : List X) (s : AnswersRecord)
    → None ≡ position (λ y. lacks r (v y)) xs → s.requests ≡ map v xs → s ≡ answers r bytes s
keeps_none v r bytes xs s e m = answers_by r bytes s s.requests (nat_le (length bytes) 1785) (go (nat_le (length bytes) 1785))
  where
    go : (b : Bool) → s.requests ≡ (if b then answered r bytes s.requests else s.requests)
    go true = sym (subst (λ os. answered r bytes os ≡ os) (sym m) (given_to_none v r bytes xs e))
    go false = refl

pub and_so : (b q : Bool) → q ≡ true → b ≡ (b && q)
and_so true q e = sym e
and_so false q e = refl

pub and_not : (b q : Bool) → q ≡ false → false ≡ (b && q)
and_not true q e = sym e
and_not false q e = refl

-- ---- one has its turn

pub stays : (t : ℕ) (o : Open) (old new : Controller) → IsLeft t o old new → (o.left ≡ 0 → ⊥) → IsMet t o false old new
stays t o old new h n = record { calls = h.calls; fate = Stays; does = waits h.calls h.vain (omega arith); ends = refl; leads = h.leads }

-- it is handed in, by a draft of these bytes
module _ (t : ℕ) (o : Open) (bytes slice : List ℕ) (d : Draft) (r : Result ℕ Refused) (old new : Controller) (a : o.answer ≡ Some bytes) (e : d ≡ reply o.asked slice)
    (s : slice ≡ bytes) (g : LeadsOn (At t (sent_as d r) ∷ []) old new) where
  goes : (x : Result ℕ Refused) → r ≡ x → LeadsOn (hands_in t o bytes x ∷ []) old new
  goes x f = subst (λ (z : Call). LeadsOn (z ∷ []) old new) (λ i. At t (sent_as ((e ∙ ap (reply o.asked) s) i) (f i))) g

  pub goes_in : (token : ℕ) → r ≡ Ok token → IsMet t o true old new
  goes_in token f = record { calls = hands_in t o bytes (Ok token) ∷ []; fate = HandedIn; does = accepted bytes token a; ends = refl; leads = goes (Ok token) f }

  pub never_goes : (why : Refused) → r ≡ Err why → why ≢ Full → IsMet t o true old new
  never_goes why f n = record { calls = hands_in t o bytes (Err why) ∷ []; fate = Dropped; does = unsendable bytes why a n; ends = refl; leads = goes (Err why) f }

  pub finds_no_room : r ≡ Err Full → IsLeft t o old new
  finds_no_room f = record { calls = hands_in t o bytes (Err Full) ∷ []; vain = full bytes a; leads = goes (Err Full) f }

-- it is refused
module _ (t : ℕ) (o : Open) (q : Asked) (r : Result (Unit {0}) Refused) (first old new : Controller) (h : IsLeft t o first old) (z : o.left ≡ 0)
    (n : o.asked.destination ≢ global_address) (e : q ≡ o.asked) (g : LeadsOn (At t (Acknowledge q Busy r) ∷ []) old new) where
  follows : (x : Result (Unit {0}) Refused) → r ≡ x → LeadsOn (refuses t o x ∷ h.calls) first new
  follows x f w H i = subst (λ (z : Call). LeadsOn (z ∷ []) old new) (λ i. At t (Acknowledge (e i) Busy (f i))) g w (h.calls ++ H) (h.leads w H i)

  pub is_told : r ≡ Ok tt → IsMet t o true first new
  is_told f = record { calls = refuses t o (Ok tt) ∷ h.calls; fate = ToldBusy; does = refused h.calls h.vain z n; ends = refl; leads = follows (Ok tt) f }

  pub is_never_told : (why : Refused) → r ≡ Err why → why ≢ Full → IsMet t o true first new
  is_never_told why f m =
      record { calls = refuses t o (Err why) ∷ h.calls; fate = Dropped; does = unrefusable h.calls why h.vain z n m; ends = refl; leads = follows (Err why) f }

  pub is_not_told_yet : r ≡ Err Full → IsMet t o false first new
  is_not_told_yet f = record { calls = refuses t o (Err Full) ∷ h.calls; fate = Stays; does = unrefused h.calls h.vain z n; ends = refl; leads = follows (Err Full) f }

pub is_too_late : (t : ℕ) (o : Open) (first old : Controller) → IsLeft t o first old → o.left ≡ 0 → o.asked.destination ≡ global_address → IsMet t o true first old
is_too_late t o first old h z e = record { calls = h.calls; fate = Dropped; does = too_late h.calls h.vain z e; ends = refl; leads = h.leads }

-- ---- all have their turn

-- k of n had it, by which the controller went from b to c
pub record IsUnderWay (now n k : ℕ) (all left : List Open) (b c : Controller) : Type 0 where
  pub deeds : List Deed
  pub rest : List Open
  pub seen : requests_of deeds ++ rest ≡ all
  pub does : All (λ d. Does now d.request d.calls d.fate) deeds
  pub stand : left ≡ rest ++ kept deeds
  pub count : length rest + k ≡ n
  pub leads : LeadsOn (calls deeds) b c

-- what the turn of the first does
abbrev pub MeetsFirst : ℕ → List Open → List Open → Controller → Controller → Type 0
MeetsFirst now old left b c =
    (o : Open) (R : List Open) → old ≡ o ∷ R → (settled : Bool) × IsMet now o settled b c × (left ≡ R ++ (if settled then [] else o ∷ []))

-- as a box tells it
as_told : (now : ℕ) (o after : Open) (end : Option (Unit {0})) (R left : List Open) (b c : Controller) → after ≡ o → IsMet now o (is_some end) b c
    → left ≡ R ++ stays_in end after → (settled : Bool) × IsMet now o settled b c × (left ≡ R ++ (if settled then [] else o ∷ []))
as_told now o after None R left b c e m l = (false, m, l ∙ ap (λ (x : Open). R ++ x ∷ []) e)
as_told now o after (Some u) R left b c e m l = (true, m, l)

pub as_first : (now : ℕ) (end : Option (Unit {0})) (old left : List Open) (b c : Controller)
    → ((o : Open) (R : List Open) → old ≡ o ∷ R → (after : Open) × ((after ≡ o) × IsMet now o (is_some end) b c) × (left ≡ R ++ stays_in end after))
    → MeetsFirst now old left b c
as_first now end old left b c g o R e = let f = g o R e in as_told now o f.0 end R left b c f.1.0 f.1.1 f.2

kept_by : (o : Open) (settled stays : Bool) → settled ≡ not stays → (if settled then [] else o ∷ []) ≡ (if stays then o ∷ [] else [])
kept_by o settled true e = ap (λ (b : Bool). if b then [] else o ∷ []) e
kept_by o settled false e = ap (λ (b : Bool). if b then [] else o ∷ []) e

module _ (now n k : ℕ) (all old left : List Open) (a b c : Controller) where
  pub goes_on : IsUnderWay now n k all old a b → k < n → MeetsFirst now old left b c → IsUnderWay now n (k + 1) all left a c
  goes_on u l g = go u.rest refl
    where
      go : (rest : List Open) → u.rest ≡ rest → IsUnderWay now n (k + 1) all left a c
      go [] e = absurd (let z : length u.rest ≡ 0 = ap length e in let s = u.count in omega arith)
      go (o ∷ R) e =
          let s = g o (R ++ kept u.deeds) (u.stand ∙ ap (λ os. os ++ kept u.deeds) e) in
          let d : Deed = record { request = o; calls = s.1.calls; fate = s.1.fate } in
          let mine : List Open = if is_fate Stays d.fate then o ∷ [] else [] in
          record {
            deeds = d ∷ u.deeds;
            rest = R;
            seen = append_assoc (requests_of u.deeds) (o ∷ []) R ∙ (ap (λ os. requests_of u.deeds ++ os) (sym e) ∙ u.seen);
            does = All-cons (λ (d : Deed). Does now d.request d.calls d.fate) d u.deeds s.1.does u.does;
            stand = s.2 ∙ (ap (λ os. (R ++ kept u.deeds) ++ os) (kept_by o s.0 (is_fate Stays d.fate) s.1.ends) ∙ append_assoc R (kept u.deeds) mine);
            count = let z : length u.rest ≡ length (o ∷ R) = ap length e in let s = u.count in omega arith;
            leads = λ w H h. subst (λ (K : List Call). Is w K c) (sym (append_assoc d.calls (calls u.deeds) H)) (s.1.leads w (calls u.deeds ++ H) (u.leads w H h));
          }
