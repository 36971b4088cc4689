-- What is kept of each address, with one message of active codes more, and what is written of it.
use Rattle.j39_fault_reports.proofs.Common.{◌≡◌, ◌∙◌, ◌+◌, ◌<◌, ◌≤◌, ◌||◌, ◌++◌, ◌∷◌, [], ℕ, zero, suc, Bool, true, false, List, Option, Some, None, refl, sym, ap, arith, inl, inr, is_some, length, map, replicate, subst, if◌then◌else◌, list_any, cases_Bool, cond-false, cond-true, get_or-replicate, length-replicate, map-map, is_same_fault, lamps_of, named_in, Code, Conversion, Lamps, capped, Hearing}
use Rattle.j39_faults.proofs.NamedLemmas.{named_same}
use Rattle.std.specs.Prelude.{◌↔◌}
use Rattle.j39_faults.specs.Changes.{change_from, change_since, grew}
use Rattle.j39_faults.specs.Codes.{codes_of}
use Rattle.j39_faults.specs.Conversions.{codes_by}
use Rattle.j39_faults.specs.declared.change.Change.TheVariants.{Again, Set}
use Rattle.j39_fault_reports.specs.FaultChanges.{last_bytes}
use Rattle.j39_fault_reports.specs.CurrentPlaces.{LastRecord, LastActives, StandingRecord, at, continued, found_in, going_on, is_same_code, last_by, name_in, standings_under}
use Rattle.j39_fault_reports.specs.CurrentSoFar.{AreKept, IsLast, kept_of, lights_shown, now_shown, nows_shown, standing_of, told_so_far}
use Rattle.j39_fault_reports.specs.Faults.{codes_or_none}
use Rattle.j39_fault_reports.specs.FaultsNow.{codes_in, earliest, lights_by, lights_in, lit, named, names, naming, now_by, now_in, told_below}
use Rattle.j39_fault_reports.specs.News.{goes_on}
use Rattle.j39_fault_reports.specs.Places.{HaveTaken, IsKept, kept_before}
use Rattle.j39_fault_reports.specs.Spoken.{Spoken, continued_by, nearest, sent_before, spoken_in}
use Rattle.j39_fault_reports.proofs.MoveLemmas.{before_kept, moved_kept, none_spoken, spoken_more, spoken_none}

-- ---- which codes a message names

same_none : (ks : List Code) → list_any (λ o. is_same_code o None) (map (λ (k : Code). Some k) ks) ≡ false
same_none [] = refl
same_none (k ∷ ks) = same_none ks

same_some : (ks : List Code) (code : Code) → list_any (λ o. is_same_code o (Some code)) (map (λ (k : Code). Some k) ks) ≡ is_some (named_in ks code)
same_some [] code = refl
same_some (k ∷ ks) code = elim (cases_Bool (is_same_fault k code)) [
  | inl is ↦ ap (λ b. b || list_any (λ o. is_same_code o (Some code)) (map (λ (k : Code). Some k) ks)) is ∙ sym (ap (λ (o : Option Code). is_some o) (cond-true _ _ _ is))
  | inr isnt ↦ ap (λ b. b || list_any (λ o. is_same_code o (Some code)) (map (λ (k : Code). Some k) ks)) isnt ∙ same_some ks code ∙ sym (ap (λ (o : Option Code). is_some o) (cond-false _ _ _ isnt))
]

names_any : (ks : List Code) (code : Option Code) → list_any (λ o. is_same_code o code) (codes_or_none ks) ≡ names ks code
names_any [] None = refl
names_any [] (Some code) = refl
names_any (k ∷ ks) None = same_none ks
names_any (k ∷ ks) (Some code) = same_some (k ∷ ks) code

-- the same ones name one code
names_same : (ks : List Code) (a b : Option Code) → is_same_code a b ≡ true → names ks a ≡ names ks b
names_same ks None None same = refl
names_same ks None (Some b) same = cc
names_same ks (Some a) None same = cc
names_same ks (Some a) (Some b) same = by ks
  where
    by : (ks : List Code) → names ks (Some a) ≡ names ks (Some b)
    by [] = refl
    by (k ∷ ks) = ap (λ (o : Option Code). is_some o) (named_same a b same (k ∷ ks))

module _ (cs : List Conversion) where
  naming_same : (a b : Option Code) → is_same_code a b ≡ true → (ms : List Hearing) → naming cs a ms ≡ naming cs b ms
  unfolding naming
  naming_same a b same [] = refl
  naming_same a b same (m ∷ ms) = λ i. if names_same (codes_in cs m) a b same i then m ∷ naming_same a b same ms i else []

  naming_none : (code : Option Code) → naming cs code [] ≡ []
  unfolding naming
  naming_none code = refl

  naming_more : (code : Option Code) (m : Hearing) (ms : List Hearing) → names (codes_in cs m) code ≡ true → naming cs code (m ∷ ms) ≡ m ∷ naming cs code ms
  unfolding naming
  naming_more code m ms is = cond-true _ _ _ is

  naming_ends : (code : Option Code) (m : Hearing) (ms : List Hearing) → names (codes_in cs m) code ≡ false → naming cs code (m ∷ ms) ≡ []
  unfolding naming
  naming_ends code m ms isnt = cond-false _ _ _ isnt

  -- ---- a code that is named again

  module _ (x : Hearing) (e : List Hearing) (code : Option Code) where
    -- of the messages that name a code, this is kept
    abbrev Found : Bool → Option StandingRecord → Type 0
    Found false o = o ≡ None
    Found true o = (s : StandingRecord) × (o ≡ Some s) × (s.since ≡ earliest x.stamp (naming cs code e)) × (s.often ≡ capped (length (naming cs code e) + 1))

    -- the first of the codes of the last that is the same one
    found_by : (os : List (Option Code)) → Found (list_any (λ o. is_same_code o code) os) (found_in (map (standing_of cs x e) os) code)
    found_by [] = refl
    found_by (o ∷ os) = by (is_same_code o code) refl (found_by os)
      where
        by : (b : Bool) → is_same_code o code ≡ b → Found (list_any (λ o. is_same_code o code) os) (found_in (map (standing_of cs x e) os) code)
            → Found (list_any (λ o. is_same_code o code) (o ∷ os)) (found_in (map (standing_of cs x e) (o ∷ os)) code)
        by true same later = rw same (
          standing_of cs x e o,
          refl,
          ap (earliest x.stamp) (naming_same o code same e),
          ap (λ (xs : List Hearing). capped (length xs + 1)) (naming_same o code same e),
        )
        by false other later = rw other later

  module _ (m : Hearing) (code : Option Code) where
    abbrev Stands : Option StandingRecord → List Hearing → Type 0
    Stands o before = going_on o code m.stamp ≡ standing_of cs m before code

    -- behind these, of which this is kept
    stands_anew : (o : Option StandingRecord) (before : List Hearing) → o ≡ None → naming cs code before ≡ [] → Stands o before
    stands_anew o before none unnamed =
        ap (λ (o : Option StandingRecord). going_on o code m.stamp) none
        ∙ (λ i. record { code = code; since = earliest m.stamp (sym unnamed i); often = capped (length (sym unnamed i) + 1) })

    stands_by : (x : Hearing) (e : List Hearing) (b : Bool) (o : Option StandingRecord) → names (codes_in cs x) code ≡ b → Found x e code b o → Stands o (x ∷ e)
    stands_by x e false o isnt none = stands_anew o (x ∷ e) none (naming_ends code x e isnt)
    stands_by x e true o is (s, some, since, often) =
        let more = naming_more code x e is in
        ap (λ (o : Option StandingRecord). going_on o code m.stamp) some
        ∙ (λ i. record {
          code = code;
          since = (since ∙ sym (ap (earliest m.stamp) more)) i;
          often = (count often ∙ sym (ap (λ (xs : List Hearing). capped (length xs + 1)) more)) i;
        })
      where
        count : s.often ≡ capped (length (naming cs code e) + 1) → capped (s.often + 1) ≡ capped (length (x ∷ naming cs code e) + 1)
        count often = omega (arith, often)

    each_standing : (before : List Hearing) (place : Option LastRecord) → IsKept name_in (IsLast cs) before place
        → continued (standings_under place m.name) m.stamp code ≡ standing_of cs m (continued_by m.name before) code
    each_standing [] place none =
        ap (λ (p : Option LastRecord). continued (standings_under p m.name) m.stamp code) none ∙ stands_anew None [] refl (naming_none code)
    each_standing (x ∷ e) place (last, some, called, (lamps, is, last_is)) =
        ap (λ (p : Option LastRecord). continued (standings_under p m.name) m.stamp code) (some ∙ ap (λ (l : LastRecord). Some l) last_is) ∙ by (goes_on x.name m.name)
      where
        os : List (Option Code)
        os = codes_or_none (codes_in cs x)

        by : (b : Bool) → going_on (found_in (if b then map (standing_of cs x e) os else []) code) code m.stamp ≡ standing_of cs m (if b then x ∷ e else []) code
        by false = stands_anew None [] refl (naming_none code)
        by true = stands_by x e (list_any (λ o. is_same_code o code) os) (found_in (map (standing_of cs x e) os) code) (sym (names_any (codes_in cs x) code)) (found_by x e code os)

-- ---- a code that is set

no_codes : codes_by None [] ≡ []
unfolding codes_of
no_codes = refl

names_some : (ks : List Code) (code : Code) → names ks (Some code) ≡ is_some (named_in ks code)
names_some [] code = refl
names_some (k ∷ ks) code = refl

never_set : (b : Bool) → (if b then Some Again else None) ≡ Some Set → ⊥
never_set true e = cc
never_set false e = cc

pub set_begins : (code : Code) (sent : List Hearing) → (change_since (codes_by None (last_bytes sent)) code ≡ Some Set) ↔ (naming [] (Some code) sent ≡ [])
set_begins code [] = (λ is. naming_none [] (Some code), λ none. ap (λ ks. change_since ks code) no_codes)
set_begins code (x ∷ e) = by (named_in (codes_in [] x) code) refl
  where
    by : (o : Option Code) → named_in (codes_in [] x) code ≡ o → (change_since (codes_in [] x) code ≡ Some Set) ↔ (naming [] (Some code) (x ∷ e) ≡ [])
    by None is = (λ set. naming_ends [] (Some code) x e (names_some (codes_in [] x) code ∙ ap (λ (o : Option Code). is_some o) is), λ none. ap (λ o. change_from o code) is)
    by (Some old) is = (
      λ set. absurd (never_set (grew old.count code.count) (sym (ap (λ o. change_from o code) is) ∙ set)),
      λ none. absurd (let no : x ∷ naming [] (Some code) e ≡ [] = sym (naming_more [] (Some code) x e (names_some (codes_in [] x) code ∙ ap (λ (o : Option Code). is_some o) is)) ∙ none in cc),
    )

-- ---- all addresses

pub kept_more : (cs : List Conversion) (ms : List Hearing) (m : Hearing) (lamps : Lamps) (old new : LastActives) → lamps_of m.message.bytes ≡ Some lamps
    → m.message.source < 256 → AreKept cs old ms
    → HaveTaken name_in old m.name m.message.source (last_by cs (kept_before name_in old m.name m.message.source) m lamps) new → AreKept cs new (ms ++ m ∷ [])
kept_more cs ms m lamps old new is short kept taken = record {
  places_are = taken.places kept.places_are;
  each = λ a l. subst (λ (s : Spoken). IsKept name_in (IsLast cs) (s a) (at new a)) (sym (spoken_more (λ a. []) ms m))
      (moved_kept name_in (IsLast cs) spoken old kept.each m (last_by cs (kept_before name_in old m.name m.message.source) m lamps) new short kept.places_are taken refl (lamps, is, kept_is) a l);
}
  where
    spoken : Spoken
    spoken = spoken_in ms

    kept_is : last_by cs (kept_before name_in old m.name m.message.source) m lamps ≡ kept_of cs m (sent_before spoken m) lamps
    kept_is = λ i. record {
      name = m.name;
      stamp = m.stamp;
      destination = m.destination;
      pgn = m.message.pgn;
      lamps = lamps;
      standings = map (λ code. each_standing cs m code (nearest spoken m.name m.message.source) (kept_before name_in old m.name m.message.source)
          (before_kept name_in (IsLast cs) spoken old kept.each m.name m.message.source short) i) (codes_or_none (codes_in cs m));
    }

pub kept_none : (cs : List Conversion) (places : LastActives) → places ≡ replicate 256 None → AreKept cs places []
kept_none cs places is = record {
  places_are = ap length is ∙ length-replicate 256 nothing;
  each = λ a l. subst (λ (said : List Hearing). IsKept name_in (IsLast cs) said (at places a)) (sym (spoken_none a))
      (ap (λ (p : LastActives). at p a) is ∙ get_or-replicate 256 a None None l);
}
  where
    nothing : Option LastRecord
    nothing = None

-- where nothing is kept, no controller spoke last
pub first_here : (cs : List Conversion) (places : LastActives) (ms : List Hearing) (a : ℕ) → AreKept cs places ms → a < 256 → at places a ≡ None
    → spoken_in ms a ≡ []
first_here cs places ms a kept l none = none_spoken name_in (IsLast cs) (spoken_in ms a) (at places a) (kept.each a l) none

-- ---- what is written

shown_at : (cs : List Conversion) (a : ℕ) (said : List Hearing) (place : Option LastRecord) → IsKept name_in (IsLast cs) said place → nows_shown a place ≡ now_in cs a said
shown_at cs a [] place none = ap (nows_shown a) none
shown_at cs a (x ∷ e) place (last, some, called, (lamps, is, last_is)) =
    ap (nows_shown a) (some ∙ ap (λ (l : LastRecord). Some l) last_is) ∙ map-map (now_shown a (kept_of cs x e lamps)) (standing_of cs x e) (codes_or_none (codes_in cs x))
    ∙ sym (ap (now_by cs a x e) is)

lights_at : (cs : List Conversion) (a : ℕ) (said : List Hearing) (place : Option LastRecord) → IsKept name_in (IsLast cs) said place
    → lights_shown a place ≡ lights_in a said
lights_at cs a [] place none = ap (lights_shown a) none
lights_at cs a (x ∷ e) place (last, some, called, (lamps, is, last_is)) =
    ap (lights_shown a) (some ∙ ap (λ (l : LastRecord). Some l) last_is) ∙ sym (ap (lights_by a x) is)

pub told_all : (cs : List Conversion) (ms : List Hearing) (places : LastActives) → AreKept cs places ms → (n : ℕ) → n ≤ 256 → told_so_far places n ≡ told_below cs ms n
unfolding told_so_far told_below
told_all cs ms places kept zero l = refl
told_all cs ms places kept (suc n) l =
    λ i. told_all cs ms places kept n (omega arith) i
    ++ (map (λ f. lit f) (lights_at cs n (spoken_in ms n) (at places n) (kept.each n (omega arith)) i)
    ++ map (λ n. named n) (shown_at cs n (spoken_in ms n) (at places n) (kept.each n (omega arith)) i))
