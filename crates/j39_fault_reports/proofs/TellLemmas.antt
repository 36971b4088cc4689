-- What was said last, and what of it is news.
use Rattle.j39_fault_reports.proofs.Common.{◌≡◌, ◌≢◌, ◌∙◌, ◌<◌, ◌≤◌, ◌==◌, ◌&&◌, not, ℕ, Bool, true, false, List, [], ◌∷◌, ◌++◌, Option, Some, None, ap, append-nil, arith, filter, length, nat_le, refl, replicate, length-set, inl, inr, slice_set, subst, sym, if◌then◌else◌, take, take_all, cases_Bool, cases_eq, cond-true, cond-false, eq-eqb, ne_eqb, get_or-replicate, length-replicate, get_or-set_other, get_or-set_same, filter-append, last_or, kind_of, Kind, Active, Previous, EmissionPending, EmissionActive, EmissionPrevious, Pending, Permanent, Hearing, is_same_or_none, version_for, Conversion, Version}
use Rattle.std.proofs.Common.{option_map}
use Rattle.j39_faults.specs.FaultGroups.{cleared_in}
use Rattle.j39_faults.specs.Sameness.{tells_same}
use Rattle.j39_fault_reports.specs.News.{goes_on, last_from, says_other}
use Rattle.j39_fault_reports.specs.Remembered.{IsFirst, IsFirstBy, IsSaid, Remembers, kept, noted, said_at, said_in, tells_changes, tells_changes_of}
use Rattle.j39_fault_reports.specs.FaultChanges.{last_bytes}
use Rattle.j39_fault_reports.specs.Places.{HaveTaken, IsKept, kept_before}
use Rattle.j39_fault_reports.specs.Spoken.{Spoken, active_among, continued_by, is_active, is_active_message, is_of_active, sent_before, spoken_in}
use Rattle.j39_fault_reports.specs.declared.fault_news.telling.Telling.{Telling}
use Rattle.j39_fault_reports.specs.declared.fault_news.telling.Telling.TheVariants.{News, All, Changes}
use Rattle.j39_fault_reports.proofs.MoveLemmas.{before_kept, moved_kept, none_spoken, spoken_more, spoken_none}
use Rattle.j39_fault_reports.specs.LastMessages.{LastMessages, LastRecord, at, differs, name_of, said_before}
use Rattle.j39_fault_reports.specs.declared.fault_news.last_faults.LastFaults.{LastFaults}
use Rattle.std.proofs.lemmas.Option.{none-some, same_Some}

-- ---- the last message of a group from an address

pub last_or-push : {X : Type 0} (o : Option X) (xs : List X) (x : X) → last_or o (xs ++ x ∷ []) ≡ Some x
last_or-push o [] x = refl
last_or-push o (y ∷ xs) x = last_or-push (Some y) xs x

abbrev is_of : ℕ → ℕ → Hearing → Bool
is_of pgn a h = h.message.pgn == pgn && h.message.source == a

last_from_same : (pgn a : ℕ) (ms : List Hearing) (m : Hearing) → is_of pgn a m ≡ true → last_from pgn a (ms ++ m ∷ []) ≡ Some m
unfolding last_from
last_from_same pgn a ms m same =
    ap (last_or None) (filter-append (is_of pgn a) ms (m ∷ []) ∙ ap (λ xs. filter (is_of pgn a) ms ++ xs) (cond-true _ _ _ same)) ∙ last_or-push None (filter (is_of pgn a) ms) m

last_from_other : (pgn a : ℕ) (ms : List Hearing) (m : Hearing) → is_of pgn a m ≡ false → last_from pgn a (ms ++ m ∷ []) ≡ last_from pgn a ms
unfolding last_from
last_from_other pgn a ms m other =
    ap (last_or None) (filter-append (is_of pgn a) ms (m ∷ []) ∙ ap (λ xs. filter (is_of pgn a) ms ++ xs) (cond-false _ _ _ other) ∙ append-nil (filter (is_of pgn a) ms))

is_of_same : (pgn a : ℕ) (m : Hearing) → m.message.pgn ≡ pgn → m.message.source ≡ a → is_of pgn a m ≡ true
is_of_same pgn a m p s = ap (λ x. x && m.message.source == a) (eq-eqb m.message.pgn pgn p) ∙ eq-eqb m.message.source a s

is_of_other : (pgn a : ℕ) (m : Hearing) → m.message.pgn ≡ pgn → m.message.source ≢ a → is_of pgn a m ≡ false
is_of_other pgn a m p s = ap (λ x. x && m.message.source == a) (eq-eqb m.message.pgn pgn p) ∙ ne_eqb m.message.source a s

is_of_else : (pgn a : ℕ) (m : Hearing) → m.message.pgn ≢ pgn → is_of pgn a m ≡ false
is_of_else pgn a m p = ap (λ x. x && m.message.source == a) (ne_eqb m.message.pgn pgn p)

-- ---- what is kept at the beginning

pub last_from_none : (pgn a : ℕ) → last_from pgn a [] ≡ None
unfolding last_from
last_from_none pgn a = refl

none_at : (places : LastMessages) (pgn a : ℕ) → places ≡ replicate 256 None → a < 256 → at places a ≡ option_map said_in (last_from pgn a [])
none_at places pgn a is l = ap (λ (t : LastMessages). at t a) is ∙ get_or-replicate 256 a None None l ∙ ap (option_map said_in) (sym (last_from_none pgn a))

abbrev none_said : Option LastRecord
none_said = None

pub remembers_none : (l : LastFaults) → l.active ≡ replicate 256 None → l.previous ≡ replicate 256 None → l.emission_pending ≡ replicate 256 None
    → l.emission_active ≡ replicate 256 None → l.emission_previous ≡ replicate 256 None → l.pending ≡ replicate 256 None
    → l.permanent ≡ replicate 256 None → (telling : Telling) → Remembers telling l []
remembers_none l active previous emission_pending emission_active emission_previous pending permanent telling = record {
  places = λ kind. ap length (none_kept kind) ∙ length-replicate 256 none_said;
  said = λ pgn a kind is untold k. none_at (kept l kind) pgn a (none_kept kind) k;
  follows = λ on a k. subst (λ (said : List Hearing). IsKept name_of IsSaid said (said_at l Active a)) (sym (spoken_none a))
      (ap (λ (t : LastMessages). at t a) active ∙ get_or-replicate 256 a None None k);
  whole = λ m pgn a e. absurd (none-some m (sym (last_from_none pgn a) ∙ e));
}
  where
    none_kept : (kind : Kind) → kept l kind ≡ replicate 256 None
    none_kept Active = active
    none_kept Previous = previous
    none_kept EmissionPending = emission_pending
    none_kept EmissionActive = emission_active
    none_kept EmissionPrevious = emission_previous
    none_kept Pending = pending
    none_kept Permanent = permanent

-- ---- the group of a kind

abbrev group_of : Kind → ℕ
group_of Active = 65226
group_of Previous = 65227
group_of EmissionPending = 65231
group_of EmissionActive = 65236
group_of EmissionPrevious = 64949
group_of Pending = 64898
group_of Permanent = 64896

-- it is that of the first, or of one behind
or_behind : (pgn : ℕ) (first kind : Kind) (behind : Option Kind) → (behind ≡ Some kind → pgn ≡ group_of kind)
    → (if pgn == group_of first then Some first else behind) ≡ Some kind → pgn ≡ group_of kind
or_behind pgn first kind behind then_is is = elim (cases_eq pgn (group_of first)) [
  | inl e ↦ e ∙ ap group_of (same_Some _ _ (sym (cond-true _ _ _ (eq-eqb pgn (group_of first) e)) ∙ is))
  | inr n ↦ then_is (sym (cond-false _ _ _ (ne_eqb pgn (group_of first) n)) ∙ is)
]

group_is : (pgn : ℕ) (kind : Kind) → kind_of pgn ≡ Some kind → pgn ≡ group_of kind
group_is pgn kind is =
    or_behind pgn Active kind _ (λ b0. or_behind pgn Previous kind _ (λ b1. or_behind pgn EmissionPending kind _ (λ b2. or_behind pgn EmissionActive kind _ (λ b3. or_behind pgn EmissionPrevious kind _ (λ b4. or_behind pgn Pending kind _ (λ b5. or_behind pgn Permanent kind _ (λ b6. absurd (none-some _ b6)) b5) b4) b3) b2) b1) b0) is

-- ---- of which codes changes are told

pub active_is : (telling : Telling) (kind : Kind) → tells_changes telling kind ≡ true → kind ≡ Active
active_is News kind is = cc
active_is All kind is = cc
active_is Changes Active is = refl
active_is Changes Previous is = cc
active_is Changes EmissionPending is = cc
active_is Changes EmissionActive is = cc
active_is Changes EmissionPrevious is = cc
active_is Changes Pending is = cc
active_is Changes Permanent is = cc

tells_active : (telling : Telling) (kind : Kind) → tells_changes telling kind ≡ true → tells_changes telling Active ≡ true
tells_active telling kind on = ap (tells_changes telling) (sym (active_is telling kind on)) ∙ on

never_active : (telling : Telling) (kind : Kind) → tells_changes telling kind ≡ false → tells_changes telling Active ≡ true → kind ≢ Active
never_active telling kind untold on e = (let no : true ≡ false = sym on ∙ ap (tells_changes telling) (sym e) ∙ untold in cc)

unheard : (telling : Telling) (kind : Kind) → tells_changes telling kind ≡ false → tells_changes telling Active ≡ true → is_active kind ≡ false
unheard News kind untold on = cc
unheard All kind untold on = cc
unheard Changes kind untold on = untold

not_among : (ms : List Hearing) (m : Hearing) → is_active_message m ≡ false → active_among (ms ++ m ∷ []) ≡ active_among ms
not_among ms m isnt =
    filter-append is_active_message ms (m ∷ []) ∙ ap (λ xs. filter is_active_message ms ++ xs) (cond-false _ _ _ isnt) ∙ append-nil (filter is_active_message ms)

are_among : (ms : List Hearing) (m : Hearing) → is_active_message m ≡ true → active_among (ms ++ m ∷ []) ≡ active_among ms ++ m ∷ []
are_among ms m is = filter-append is_active_message ms (m ∷ []) ∙ ap (λ xs. filter is_active_message ms ++ xs) (cond-true _ _ _ is)

-- ---- one message more

set_at : (places : LastMessages) (pgn : ℕ) (ms : List Hearing) (m : Hearing) → length places ≡ 256 → m.message.pgn ≡ pgn
    → ((a : ℕ) → a < 256 → at places a ≡ option_map said_in (last_from pgn a ms))
    → (a : ℕ) → a < 256 → at (slice_set places m.message.source (Some (said_in m))) a ≡ option_map said_in (last_from pgn a (ms ++ m ∷ []))
set_at places pgn ms m len is has a l = elim (cases_eq m.message.source a) [
  | inl e ↦ ap (λ (i : ℕ). at (slice_set places i (Some (said_in m))) a) e ∙ get_or-set_same places a (Some (said_in m)) None (omega arith)
      ∙ ap (option_map said_in) (sym (last_from_same pgn a ms m (is_of_same pgn a m is e)))
  | inr n ↦ get_or-set_other places m.message.source a (Some (said_in m)) None (λ e. n (sym e)) ∙ has a l
      ∙ ap (option_map said_in) (sym (last_from_other pgn a ms m (is_of_other pgn a m is n)))
]

else_at : (places : LastMessages) (pgn : ℕ) (ms : List Hearing) (m : Hearing) → m.message.pgn ≢ pgn
    → ((a : ℕ) → a < 256 → at places a ≡ option_map said_in (last_from pgn a ms))
    → (a : ℕ) → a < 256 → at places a ≡ option_map said_in (last_from pgn a (ms ++ m ∷ []))
else_at places pgn ms m other has a l = has a l ∙ ap (option_map said_in) (sym (last_from_other pgn a ms m (is_of_else pgn a m other)))

whole_more : (ms : List Hearing) (m : Hearing) → length m.message.bytes ≤ 1785
    → ((x : Hearing) (pgn a : ℕ) → last_from pgn a ms ≡ Some x → take 1785 x.message.bytes ≡ x.message.bytes)
    → (x : Hearing) (pgn a : ℕ) → last_from pgn a (ms ++ m ∷ []) ≡ Some x → take 1785 x.message.bytes ≡ x.message.bytes
whole_more ms m short whole x pgn a e = elim (cases_Bool (is_of pgn a m)) [
  | inl same ↦ (let is : m ≡ x = some_is (sym (last_from_same pgn a ms m same) ∙ e) in
      subst (λ (y : Hearing). take 1785 y.message.bytes ≡ y.message.bytes) is (take_all 1785 m.message.bytes short))
  | inr other ↦ whole x pgn a (sym (last_from_other pgn a ms m other) ∙ e)
]
  where
    some_is : {x y : Hearing} → Some x ≡ Some y → x ≡ y
    some_is e = cc

-- what was noted of a kind, and of another one
noted_there : (l : LastFaults) (kind : Kind) (a : ℕ) (s : LastRecord) → kept (noted l kind a s) kind ≡ slice_set (kept l kind) a (Some s)
noted_there l Active a s = refl
noted_there l kind a s = refl

noted_else : (l : LastFaults) (kind other : Kind) (a : ℕ) (s : LastRecord) → kind ≢ other → kept (noted l kind a s) other ≡ kept l other
noted_else l Active Active a s n = absurd (n refl)
noted_else l Previous Previous a s n = absurd (n refl)
noted_else l EmissionPending EmissionPending a s n = absurd (n refl)
noted_else l EmissionActive EmissionActive a s n = absurd (n refl)
noted_else l EmissionPrevious EmissionPrevious a s n = absurd (n refl)
noted_else l Pending Pending a s n = absurd (n refl)
noted_else l Permanent Permanent a s n = absurd (n refl)
noted_else l kind other a s n = refl

-- as many places
noted_length : (l : LastFaults) (kind other : Kind) (a : ℕ) (s : LastRecord) → length (kept (noted l kind a s) other) ≡ length (kept l other)
noted_length l Active Active a s = length-set l.active a (Some s)
noted_length l Previous Previous a s = length-set l.previous a (Some s)
noted_length l EmissionPending EmissionPending a s = length-set l.emission_pending a (Some s)
noted_length l EmissionActive EmissionActive a s = length-set l.emission_active a (Some s)
noted_length l EmissionPrevious EmissionPrevious a s = length-set l.emission_previous a (Some s)
noted_length l Pending Pending a s = length-set l.pending a (Some s)
noted_length l Permanent Permanent a s = length-set l.permanent a (Some s)
noted_length l kind other a s = refl

same_kind : (pgn : ℕ) (kind other : Kind) → kind_of pgn ≡ Some kind → kind_of pgn ≡ Some other → kind ≡ other
same_kind pgn kind other is also = same_Some _ _ (sym is ∙ also)

module _ (telling : Telling) (l l' : LastFaults) (ms : List Hearing) (m : Hearing) (kind : Kind) (is : kind_of m.message.pgn ≡ Some kind) (h : Remembers telling l ms) where
  -- another kind has another group
  other_group : (pgn : ℕ) (other : Kind) → kind_of pgn ≡ Some other → kind ≢ other → m.message.pgn ≢ pgn
  other_group pgn other of apart = λ e. apart (same_kind m.message.pgn kind other is (ap kind_of e ∙ of))

  module _ (untold : tells_changes telling kind ≡ false) (notes : l' ≡ noted l kind m.message.source (said_in m)) where
    there : kept l' kind ≡ slice_set (kept l kind) m.message.source (Some (said_in m))
    there = ap (λ (x : LastFaults). kept x kind) notes ∙ noted_there l kind m.message.source (said_in m)

    else_there : (other : Kind) → kind ≢ other → kept l' other ≡ kept l other
    else_there other apart = ap (λ (x : LastFaults). kept x other) notes ∙ noted_else l kind other m.message.source (said_in m) apart

    -- what is said of a kind behind the message: by its group, or by another one
    said_then : (pgn a : ℕ) (other : Kind) → kind_of pgn ≡ Some other → tells_changes telling other ≡ false → a < 256
        → said_at l' other a ≡ option_map said_in (last_from pgn a (ms ++ m ∷ []))
    said_then pgn a other of also k = elim (cases_eq m.message.pgn pgn) [
      | inl e ↦ (let one : kind ≡ other = same_kind m.message.pgn kind other is (ap kind_of e ∙ of) in
          subst (λ (x : Kind). said_at l' x a ≡ option_map said_in (last_from pgn a (ms ++ m ∷ []))) one
          (ap (λ (t : LastMessages). at t a) there ∙ set_at (kept l kind) pgn ms m (h.places kind) e (λ b j. h.said pgn b kind (of ∙ ap (λ (x : Kind). Some x) (sym one)) untold j) a k))
      | inr n ↦ (let apart : kind ≢ other = (λ one. n (group_is m.message.pgn kind is ∙ ap group_of one ∙ sym (group_is pgn other of))) in
          ap (λ (t : LastMessages). at t a) (else_there other apart) ∙ else_at (kept l other) pgn ms m n (λ b j. h.said pgn b other of also j) a k)
    ]

    places_then : (other : Kind) → length (kept l' other) ≡ 256
    places_then other = ap (λ (x : LastFaults). length (kept x other)) notes ∙ noted_length l kind other m.message.source (said_in m) ∙ h.places other

    pub remembers_more : length m.message.bytes ≤ 1785 → Remembers telling l' (ms ++ m ∷ [])
    remembers_more short = record {
      places = places_then;
      said = said_then;
      follows = λ on a k.
          let other : is_active_message m ≡ false = ap (λ (o : Option Kind). is_of_active o && nat_le 2 (length m.message.bytes)) is ∙ ap (λ b. b && nat_le 2 (length m.message.bytes)) (unheard telling kind untold on) in
          subst (λ (hs : List Hearing). IsKept name_of IsSaid (spoken_in hs a) (said_at l' Active a)) (sym (not_among ms m other))
          (subst (IsKept name_of IsSaid (spoken_in (active_among ms) a)) (sym (ap (λ (t : LastMessages). at t a) (else_there Active (never_active telling kind untold on)))) (h.follows on a k));
      whole = whole_more ms m short h.whole;
    }

  -- its controller's last message of active codes
  module _ (on : tells_changes telling kind ≡ true) (alone : l' ≡ record l { active = l'.active })
      (taken : HaveTaken name_of l.active m.name m.message.source (said_in m) l'.active) (active : is_active_message m ≡ true) (below : m.message.source < 256) where
    else_kept : (other : Kind) → other ≢ Active → kept l' other ≡ kept l other
    else_kept Active apart = absurd (apart refl)
    else_kept Previous apart = ap (λ (x : LastFaults). x.previous) alone
    else_kept EmissionPending apart = ap (λ (x : LastFaults). x.emission_pending) alone
    else_kept EmissionActive apart = ap (λ (x : LastFaults). x.emission_active) alone
    else_kept EmissionPrevious apart = ap (λ (x : LastFaults). x.emission_previous) alone
    else_kept Pending apart = ap (λ (x : LastFaults). x.pending) alone
    else_kept Permanent apart = ap (λ (x : LastFaults). x.permanent) alone

    as_many : (other : Kind) → length (kept l' other) ≡ 256
    as_many Active = taken.places (h.places Active)
    as_many Previous = ap (λ (x : LastFaults). length x.previous) alone ∙ h.places Previous
    as_many EmissionPending = ap (λ (x : LastFaults). length x.emission_pending) alone ∙ h.places EmissionPending
    as_many EmissionActive = ap (λ (x : LastFaults). length x.emission_active) alone ∙ h.places EmissionActive
    as_many EmissionPrevious = ap (λ (x : LastFaults). length x.emission_previous) alone ∙ h.places EmissionPrevious
    as_many Pending = ap (λ (x : LastFaults). length x.pending) alone ∙ h.places Pending
    as_many Permanent = ap (λ (x : LastFaults). length x.permanent) alone ∙ h.places Permanent

    pub remembers_followed : length m.message.bytes ≤ 1785 → Remembers telling l' (ms ++ m ∷ [])
    remembers_followed short = record {
      places = as_many;
      said = λ pgn a other of untold k.
          let apart : other ≢ Active = never_active telling other untold (tells_active telling kind on) in
          let n = other_group pgn other of (λ one. apart (sym one ∙ active_is telling kind on)) in
          ap (λ (t : LastMessages). at t a) (else_kept other apart) ∙ else_at (kept l other) pgn ms m n (λ b j. h.said pgn b other of untold j) a k;
      follows = λ on a k.
          subst (λ (hs : List Hearing). IsKept name_of IsSaid (spoken_in hs a) (said_at l' Active a)) (sym (are_among ms m active))
          (subst (λ (s : Spoken). IsKept name_of IsSaid (s a) (said_at l' Active a)) (sym (spoken_more (λ a. []) (active_among ms) m))
          (moved_kept name_of IsSaid (spoken_in (active_among ms)) l.active (h.follows on) m (said_in m) l'.active below (h.places Active) taken refl (refl, take_all 1785 m.message.bytes short) a k));
      whole = whole_more ms m short h.whole;
    }

-- ---- who asks to clear codes says none

pub by_request : (pgn : ℕ) (bytes : List ℕ) (kind : Kind) → cleared_in pgn bytes ≡ Some kind → pgn ≡ 59904
unfolding cleared_in
by_request pgn bytes kind is = elim (cases_eq pgn 59904) [
  | inl e ↦ e
  | inr n ↦ absurd (none-some _ (sym (cond-false _ _ _ (ne_eqb pgn 59904 n)) ∙ is))
]

pub remembers_asked : (telling : Telling) (l : LastFaults) (ms : List Hearing) (m : Hearing) (kind : Kind) → cleared_in m.message.pgn m.message.bytes ≡ Some kind → Remembers telling l ms
    → length m.message.bytes ≤ 1785 → Remembers telling l (ms ++ m ∷ [])
remembers_asked telling l ms m kind asks h short = record {
  places = h.places;
  said = λ pgn a other of untold k. else_at (kept l other) pgn ms m (apart pgn other of) (λ b j. h.said pgn b other of untold j) a k;
  follows = λ on a k. subst (λ (hs : List Hearing). IsKept name_of IsSaid (spoken_in hs a) (said_at l Active a))
      (sym (not_among ms m (ap (λ (n : ℕ). is_of_active (kind_of n) && nat_le 2 (length m.message.bytes)) (by_request m.message.pgn m.message.bytes kind asks)))) (h.follows on a k);
  whole = whole_more ms m short h.whole;
}
  where
    apart : (pgn : ℕ) (other : Kind) → kind_of pgn ≡ Some other → m.message.pgn ≢ pgn
    apart pgn other of = λ e.
        none-some _ (sym (ap kind_of (sym e ∙ by_request m.message.pgn m.message.bytes kind asks)) ∙ of)

-- ---- news

differs_by : (v : Option Version) (o : Option Hearing) (m : Hearing) → ((x : Hearing) → o ≡ Some x → take 1785 x.message.bytes ≡ x.message.bytes)
    → differs v (option_map said_in o) m.message.bytes m.name ≡ says_other v o m
differs_by v None m whole = refl
differs_by v (Some x) m whole = ap (λ bs. not (tells_same v bs m.message.bytes && is_same_or_none x.name m.name)) (whole x refl)

pub news_is : (telling : Telling) (cs : List Conversion) (l : LastFaults) (ms : List Hearing) (m : Hearing) (kind : Kind) → Remembers telling l ms → kind_of m.message.pgn ≡ Some kind
    → tells_changes telling kind ≡ false → m.message.source < 256
    → differs (version_for cs m.name) (said_at l kind m.message.source) m.message.bytes m.name
    ≡ says_other (version_for cs m.name) (last_from m.message.pgn m.message.source ms) m
news_is telling cs l ms m kind h is untold k =
    ap (λ o. differs (version_for cs m.name) o m.message.bytes m.name) (h.said m.message.pgn m.message.source kind is untold k)
    ∙ differs_by (version_for cs m.name) (last_from m.message.pgn m.message.source ms) m (λ x e. h.whole x m.message.pgn m.message.source e)

-- what its controller said before
pub before_is : (l : LastFaults) (ms : List Hearing) (m : Hearing) → Remembers Changes l ms → m.message.source < 256
    → said_before (kept_before name_of l.active m.name m.message.source) m.name ≡ last_bytes (sent_before (spoken_in (active_among ms)) m)
before_is l ms m h k = by _ _ (before_kept name_of IsSaid (spoken_in (active_among ms)) l.active (h.follows refl) m.name m.message.source k)
  where
    by : (said : List Hearing) (place : Option LastRecord) → IsKept name_of IsSaid said place → said_before place m.name ≡ last_bytes (continued_by m.name said)
    by [] place none = ap (λ (p : Option LastRecord). said_before p m.name) none
    by (x ∷ e) place (s, some, called, (is, whole)) = ap (λ (p : Option LastRecord). said_before p m.name) (some ∙ ap (λ (r : LastRecord). Some r) is) ∙ go (goes_on x.name m.name)
      where
        go : (b : Bool) → (if b then take 1785 x.message.bytes else []) ≡ last_bytes (if b then x ∷ e else [])
        go true = whole
        go false = refl

-- nothing is kept for an address where it said nothing, or its controller speaks elsewhere
pub first_is : (telling : Telling) (l : LastFaults) (ms : List Hearing) (m : Hearing) (kind : Kind) → Remembers telling l ms → kind_of m.message.pgn ≡ Some kind → m.message.source < 256
    → said_at l kind m.message.source ≡ None → IsFirst telling ms m
first_is telling l ms m kind h is k none = subst (λ (o : Option Kind). IsFirstBy (tells_changes_of telling o) ms m) (sym is) (by (tells_changes telling kind) refl)
  where
    go : (o : Option Hearing) → option_map said_in o ≡ None → o ≡ None
    go None e = refl
    go (Some x) e = cc

    by : (b : Bool) → tells_changes telling kind ≡ b → IsFirstBy b ms m
    by true on = none_spoken name_of IsSaid (spoken_in (active_among ms) m.message.source) (said_at l Active m.message.source) (h.follows (tells_active telling kind on) m.message.source k)
        (ap (λ (x : Kind). said_at l x m.message.source) (sym (active_is telling kind on)) ∙ none)
    by false untold = go (last_from m.message.pgn m.message.source ms) (sym (h.said m.message.pgn m.message.source kind is untold k) ∙ none)
