-- The interfaces of some frames, and of one more.
use Rattle.j39_survey.proofs.Common.{◌≡◌, ◌==◌, ◌||◌, ◌+◌, ◌++◌, ◌<◌, ◌≤◌, ℕ, List, [], ◌∷◌, Bool, true, false, not, length, refl, sym, ap, ap₂, ◌∙◌, append-nil, arith, map, take, take_all, length-take, drop, take-append-drop, subst, zero, suc, Option, Some, None, unwrap_or, get_or, AllByRecursion, or-false, if◌then◌else◌, nat_lt, list_any, refill, bytes_eq, le-ltb, ne_eqb, or_right, set, length-map, map-append, take_more, take-append-le, filter_map-append, list_any-append, capped}
use Rattle.j39_survey.specs.Firsts.{firsts}
use Rattle.j39_listen.specs.Counting.{one_if}
use Rattle.j39_survey.specs.Interfaces.{InterfaceRecord, elsewhere, falls_behind, falls_in, first_of, interface_of, last_behind, last_of, names_in, of_stamps, stamp_on, stamps_on, told_in, untold_in}
use Rattle.j39_survey.specs.LogLines.{Seen}
use Rattle.j39_survey.specs.SurveySoFar.{met_on, no_frames, with_stamp}
use Rattle.j39_survey.specs.SurveyModels.{HaveMet, interface_record}
use Rattle.j39_survey.specs.declared.surveys.interfaces.InterfaceCounts.{InterfaceCounts}
use Rattle.j39_survey.specs.declared.surveys.interfaces.Interfaces.{Interfaces}
use Rattle.std.proofs.lemmas.List.{length_push}
use Rattle.j39_listen.proofs.CountLemmas.{capped_more, capped_sum, count_by-append}
use Rattle.std.specs.List.{IsDistinct, position}
use Rattle.std.proofs.lemmas.List.Quantifiers.{position-Some}
use Rattle.std.proofs.lemmas.Map.Keys.{apart_from_distinct, IsDistinct-push}
use Rattle.std.proofs.lemmas.List.{get_or-map, map-set}
use Rattle.std.proofs.lemmas.List.Folds.{list_any_at}
use Rattle.j39_survey.proofs.FirstsLemmas.{any_firsts, bytes_refl, bytes_same, firsts-new, firsts-old, firsts_any}

-- ---- one stamp more

last_behind-more : (x : ℕ) (ys : List ℕ) (y : ℕ) → last_behind x (ys ++ y ∷ []) ≡ y
last_behind-more x [] y = refl
last_behind-more x (z ∷ ys) y = last_behind-more z ys y

falls_behind-more : (x : ℕ) (ys : List ℕ) (y : ℕ) → falls_behind x (ys ++ y ∷ []) ≡ falls_behind x ys + one_if (nat_lt y (last_behind x ys))
falls_behind-more x [] y = omega arith
falls_behind-more x (z ∷ ys) y =
    let later = falls_behind-more z ys y in
    omega (arith, later)

falls_in-more : (xs : List ℕ) (y : ℕ) → falls_in (xs ++ y ∷ []) ≡ falls_in xs + one_if (nat_lt y (last_of xs))
falls_in-more [] y = rw (le-ltb y 0 (omega arith)) refl
falls_in-more (x ∷ xs) y = falls_behind-more x xs y

first_of-more : (xs : List ℕ) (y : ℕ) → first_of (xs ++ y ∷ []) ≡ (if capped (length xs) == 0 then y else first_of xs)
first_of-more [] y = refl
first_of-more (x ∷ xs) y = rw (ne_eqb (capped (length (x ∷ xs))) 0 (omega arith)) refl

of_stamps-more : (name xs : List ℕ) (y : ℕ) → of_stamps name (xs ++ y ∷ []) ≡ with_stamp y (of_stamps name xs)
of_stamps-more name xs y =
    let frames = ap capped (length_push xs y) ∙ sym (capped_more (capped (length xs)) (length xs) refl) in
    let back = ap capped (falls_in-more xs y) ∙ sym (capped_sum (capped (falls_in xs)) (falls_in xs) (one_if (nat_lt y (last_of xs))) refl) in
    let first = first_of-more xs y in
    let last = last_behind-more 0 xs y in
    λ i. record { name = name; frames = frames i; first = first i; last = last i; back = back i }

-- ---- one frame more

bytes_sym : (a b : List ℕ) → bytes_eq a b ≡ bytes_eq b a
bytes_sym a b =
    elim (bytes_eq a b) as (λ t. bytes_eq a b ≡ t → t ≡ bytes_eq b a) [
      | true ↦ λ e. sym (ap (λ (x : List ℕ). bytes_eq b x) (bytes_same a b e) ∙ bytes_refl b)
      | false ↦ λ e.
          elim (bytes_eq b a) as (λ t. bytes_eq b a ≡ t → false ≡ t) [
            | true ↦ λ k. sym e ∙ ap (λ (x : List ℕ). bytes_eq a x) (bytes_same b a k) ∙ bytes_refl a
            | false ↦ λ k. refl
          ] refl
    ] refl

pub interface_of-more : (seen : List Seen) (s : Seen) (n : List ℕ) → met_on s.bus s.content.stamp (interface_of seen n) ≡ interface_of (seen ++ s ∷ []) n
unfolding interface_of
interface_of-more seen s n =
    elim (bytes_eq s.bus n) as (λ t. bytes_eq s.bus n ≡ t → met_on s.bus s.content.stamp (interface_of seen n) ≡ interface_of (seen ++ s ∷ []) n) [
      | true ↦ λ e.
          let stamps : stamps_on n (seen ++ s ∷ []) ≡ stamps_on n seen ++ s.content.stamp ∷ [] = filter_map-append (stamp_on n) seen (s ∷ []) ∙ rw e refl in
          rw e (sym (ap (of_stamps n) stamps ∙ of_stamps-more n (stamps_on n seen) s.content.stamp))
      | false ↦ λ e.
          let stamps : stamps_on n (seen ++ s ∷ []) ≡ stamps_on n seen = filter_map-append (stamp_on n) seen (s ∷ []) ∙ rw e (append-nil (stamps_on n seen)) in
          rw e (sym (ap (of_stamps n) stamps))
    ] refl

pub map-met : (seen : List Seen) (s : Seen) (names : List (List ℕ)) → map (met_on s.bus s.content.stamp) (map (interface_of seen) names) ≡ map (interface_of (seen ++ s ∷ [])) names
map-met seen s [] = refl
map-met seen s (n ∷ names) = ap₂ (λ (x : InterfaceRecord) (xs : List InterfaceRecord). x ∷ xs) (interface_of-more seen s n) (map-met seen s names)

-- whether an interface is told
pub any_told : (n : List ℕ) (seen : List Seen) (names : List (List ℕ)) → list_any (λ i. bytes_eq n i.name) (map (interface_of seen) names) ≡ list_any (bytes_eq n) names
unfolding interface_of
any_told n seen [] = refl
any_told n seen (x ∷ names) = ap (λ t. bytes_eq n x || t) (any_told n seen names)

-- ---- which interfaces are told

abbrev buses : List Seen → List (List ℕ)
buses seen = map (λ s. s.bus) seen

buses-more : (seen : List Seen) (s : Seen) → buses (seen ++ s ∷ []) ≡ buses seen ++ s.bus ∷ []
buses-more seen s = map-append (λ (s : Seen). s.bus) seen (s ∷ [])

any_take : (p : List ℕ → Bool) (k : ℕ) (xs : List (List ℕ)) → list_any p (take k xs) ≡ true → list_any p xs ≡ true
any_take p k xs some =
    let whole = list_any-append p (take k xs) (drop k xs) in
    subst (λ ys. list_any p ys ≡ true) (take-append-drop k xs) (whole ∙ rw some refl)

elsewhere-more : (names : List (List ℕ)) (seen : List Seen) (s : Seen) → elsewhere names (seen ++ s ∷ []) ≡ elsewhere names seen + one_if (not (list_any (bytes_eq s.bus) names))
elsewhere-more names seen s = by_test (list_any (bytes_eq s.bus) names) refl
  where
    by_test : (b : Bool) → list_any (bytes_eq s.bus) names ≡ b → elsewhere names (seen ++ s ∷ []) ≡ elsewhere names seen + one_if (not (list_any (bytes_eq s.bus) names))
    by_test true e = count_by-append (λ (s : Seen). not (list_any (bytes_eq s.bus) names)) seen (s ∷ []) ∙ rw e refl
    by_test false e = count_by-append (λ (s : Seen). not (list_any (bytes_eq s.bus) names)) seen (s ∷ []) ∙ rw e refl

-- of an interface that is told
pub met_told : (seen : List Seen) (s : Seen) → list_any (bytes_eq s.bus) (told_in seen) ≡ true
    → (told_in (seen ++ s ∷ []) ≡ told_in seen) × (untold_in (seen ++ s ∷ []) ≡ untold_in seen)
unfolding told_in
met_told seen s some =
    let old : list_any (bytes_eq s.bus) (buses seen) ≡ true = any_firsts bytes_eq (bytes_eq s.bus) (buses seen) (any_take (bytes_eq s.bus) 16 (names_in seen) some) in
    let told : told_in (seen ++ s ∷ []) ≡ told_in seen =
    ap (λ ns. take 16 (firsts bytes_eq ns)) (buses-more seen s) ∙ ap (take 16) (firsts-old bytes_eq (buses seen) s.bus old) in (
      told,
      ap (λ ns. elsewhere ns (seen ++ s ∷ [])) told ∙ elsewhere-more (told_in seen) seen s ∙ rw some (omega arith),
    )

-- of one more, where sixteen are told
pub met_full : (seen : List Seen) (s : Seen) → list_any (bytes_eq s.bus) (told_in seen) ≡ false → length (told_in seen) ≡ 16
    → (told_in (seen ++ s ∷ []) ≡ told_in seen) × (untold_in (seen ++ s ∷ []) ≡ untold_in seen + 1)
unfolding told_in
met_full seen s none full =
    let long : 16 ≤ length (names_in seen) = omega (arith, length-take 16 (names_in seen)) in
    let told : told_in (seen ++ s ∷ []) ≡ told_in seen =
    ap (λ ns. take 16 (firsts bytes_eq ns)) (buses-more seen s)
    ∙ elim (list_any (bytes_eq s.bus) (buses seen)) as (λ t. list_any (bytes_eq s.bus) (buses seen) ≡ t → take 16 (firsts bytes_eq (buses seen ++ s.bus ∷ [])) ≡ take 16 (names_in seen)) [
      | true ↦ λ old. ap (take 16) (firsts-old bytes_eq (buses seen) s.bus old)
      | false ↦ λ new. ap (take 16) (firsts-new bytes_eq (buses seen) s.bus new) ∙ take-append-le 16 (names_in seen) (s.bus ∷ []) long
    ] refl in (
      told,
      ap (λ ns. elsewhere ns (seen ++ s ∷ [])) told ∙ elsewhere-more (told_in seen) seen s ∙ rw none refl,
    )

none_elsewhere : (names : List (List ℕ)) (seen : List Seen) → ((n : List ℕ) → list_any (bytes_eq n) (buses seen) ≡ true → list_any (bytes_eq n) names ≡ true) → elsewhere names seen ≡ 0
none_elsewhere names [] all = refl
none_elsewhere names (s ∷ seen) all =
    let here : list_any (bytes_eq s.bus) names ≡ true = all s.bus (rw (bytes_refl s.bus) refl) in
    rw here (none_elsewhere names seen (λ n k. all n (or_right (bytes_eq n s.bus) (list_any (bytes_eq n) (buses seen)) k)))

no_stamps : (n : List ℕ) (seen : List Seen) → list_any (bytes_eq n) (buses seen) ≡ false → stamps_on n seen ≡ []
no_stamps n [] none = refl
no_stamps n (s ∷ seen) none =
    elim (bytes_eq n s.bus) as (λ t. bytes_eq n s.bus ≡ t → stamps_on n (s ∷ seen) ≡ []) [
      | true ↦ λ e. let no : true ≡ false = sym (rw e refl) ∙ none in cc
      | false ↦ λ e.
          let rest : list_any (bytes_eq n) (buses seen) ≡ false = rw e at none in
          rw (bytes_sym s.bus n, e) (no_stamps n seen rest)
    ] refl

-- of one more, where there is room
pub met_new : (seen : List Seen) (s : Seen) → list_any (bytes_eq s.bus) (told_in seen) ≡ false → length (told_in seen) < 16
    → (told_in (seen ++ s ∷ []) ≡ told_in seen ++ s.bus ∷ []) × (untold_in (seen ++ s ∷ []) ≡ untold_in seen) × (stamps_on s.bus seen ≡ [])
unfolding told_in
met_new seen s none room =
    let short : length (names_in seen) < 16 = omega (arith, length-take 16 (names_in seen)) in
    let all : take 16 (names_in seen) ≡ names_in seen = take_all 16 (names_in seen) (omega arith) in
    let new : list_any (bytes_eq s.bus) (buses seen) ≡ false =
    elim (list_any (bytes_eq s.bus) (buses seen)) as (λ t. list_any (bytes_eq s.bus) (buses seen) ≡ t → t ≡ false) [
      | true ↦ λ old. sym (ap (list_any (bytes_eq s.bus)) all ∙ firsts_any s.bus (buses seen) old) ∙ none
      | false ↦ λ e. refl
    ] refl in
    let names : names_in (seen ++ s ∷ []) ≡ names_in seen ++ s.bus ∷ [] = ap (firsts bytes_eq) (buses-more seen s) ∙ firsts-new bytes_eq (buses seen) s.bus new in
    let fits : length (names_in (seen ++ s ∷ [])) ≤ 16 = rw (names, length_push) (omega arith) in
    let all' : take 16 (names_in (seen ++ s ∷ [])) ≡ names_in (seen ++ s ∷ []) = take_all 16 (names_in (seen ++ s ∷ [])) fits in
    let before : untold_in seen ≡ 0 = none_elsewhere (told_in seen) seen (λ n k. ap (list_any (bytes_eq n)) all ∙ firsts_any n (buses seen) k) in
    let after : untold_in (seen ++ s ∷ []) ≡ 0 = none_elsewhere (told_in (seen ++ s ∷ [])) (seen ++ s ∷ []) (λ n k. ap (list_any (bytes_eq n)) all' ∙ firsts_any n (buses (seen ++ s ∷ [])) k) in (
      all' ∙ names ∙ ap (λ ns. ns ++ s.bus ∷ []) (sym all),
      after ∙ sym before,
      no_stamps s.bus seen new,
    )

-- ---- what was met of a frame more

length_told : (seen : List Seen) (names : List (List ℕ)) → length (map (interface_of seen) names) ≡ length names
length_told seen [] = refl
length_told seen (n ∷ names) = ap (λ k. suc k) (length_told seen names)

pub add_told : (a b : Interfaces) (seen : List Seen) (s : Seen) → HaveMet a seen
    → map interface_record b.told.items ≡ map (met_on s.bus s.content.stamp) (map interface_record a.told.items) → b.untold ≡ a.untold
    → list_any (λ i. bytes_eq s.bus i.name) (map interface_record a.told.items) ≡ true → HaveMet b (seen ++ s ∷ [])
add_told a b seen s h met untold some =
    let told : list_any (bytes_eq s.bus) (told_in seen) ≡ true = sym (any_told s.bus seen (told_in seen)) ∙ ap (list_any (λ i. bytes_eq s.bus i.name)) (sym h.told_are) ∙ some in
    let m = met_told seen s told in
    record {
      told_are = met ∙ ap (map (met_on s.bus s.content.stamp)) h.told_are ∙ map-met seen s (told_in seen) ∙ ap (map (interface_of (seen ++ s ∷ []))) (sym m.0);
      untold_is = untold ∙ h.untold_is ∙ ap capped (sym m.1);
      apart = subst (IsDistinct bytes_eq) (sym m.0) h.apart;
    }

pub add_full : (a b : Interfaces) (seen : List Seen) (s : Seen) → HaveMet a seen
    → map interface_record b.told.items ≡ map (met_on s.bus s.content.stamp) (map interface_record a.told.items) → b.untold ≡ capped (a.untold + 1)
    → list_any (λ i. bytes_eq s.bus i.name) (map interface_record a.told.items) ≡ false → length a.told.items ≡ 16 → HaveMet b (seen ++ s ∷ [])
add_full a b seen s h met untold none full =
    let told : list_any (bytes_eq s.bus) (told_in seen) ≡ false = sym (any_told s.bus seen (told_in seen)) ∙ ap (list_any (λ i. bytes_eq s.bus i.name)) (sym h.told_are) ∙ none in
    let len : length (told_in seen) ≡ 16 = sym (length_told seen (told_in seen)) ∙ ap length (sym h.told_are) ∙ length-map a.told.items interface_record ∙ full in
    let m = met_full seen s told len in
    record {
      told_are = met ∙ ap (map (met_on s.bus s.content.stamp)) h.told_are ∙ map-met seen s (told_in seen) ∙ ap (map (interface_of (seen ++ s ∷ []))) (sym m.0);
      untold_is = untold ∙ capped_more a.untold (untold_in seen) h.untold_is ∙ ap capped (sym m.1);
      apart = subst (IsDistinct bytes_eq) (sym m.0) h.apart;
    }

-- the interface of the frame alone
new_of : (seen : List Seen) (s : Seen) → stamps_on s.bus seen ≡ [] → with_stamp s.content.stamp (no_frames s.bus) ≡ interface_of (seen ++ s ∷ []) s.bus
unfolding interface_of
new_of seen s none =
    let stamps : stamps_on s.bus (seen ++ s ∷ []) ≡ [] ++ s.content.stamp ∷ [] =
    filter_map-append (stamp_on s.bus) seen (s ∷ []) ∙ rw (none, bytes_refl s.bus) refl in
    sym (ap (of_stamps s.bus) stamps ∙ of_stamps-more s.bus [] s.content.stamp)

pub add_new : (a b : Interfaces) (i : InterfaceCounts) (seen : List Seen) (s : Seen) → HaveMet a seen
    → (items : List InterfaceCounts) → map interface_record items ≡ map (met_on s.bus s.content.stamp) (map interface_record a.told.items)
    → b.told.items ≡ items ++ i ∷ [] → interface_record i ≡ with_stamp s.content.stamp (no_frames s.bus) → b.untold ≡ a.untold
    → list_any (λ i. bytes_eq s.bus i.name) (map interface_record a.told.items) ≡ false → length a.told.items < 16 → HaveMet b (seen ++ s ∷ [])
add_new a b i seen s h items met pushed is untold none room =
    let told : list_any (bytes_eq s.bus) (told_in seen) ≡ false = sym (any_told s.bus seen (told_in seen)) ∙ ap (list_any (λ i. bytes_eq s.bus i.name)) (sym h.told_are) ∙ none in
    let len : length (told_in seen) ≡ length a.told.items = sym (length_told seen (told_in seen)) ∙ ap length (sym h.told_are) ∙ length-map a.told.items interface_record in
    let m = met_new seen s told (omega arith) in
    let old : map interface_record items ≡ map (interface_of (seen ++ s ∷ [])) (told_in seen) = met ∙ ap (map (met_on s.bus s.content.stamp)) h.told_are ∙ map-met seen s (told_in seen) in
    record {
      told_are = ap (map interface_record) pushed ∙ map-append interface_record items (i ∷ [])
          ∙ ap₂ (λ (xs : List InterfaceRecord) (x : InterfaceRecord). xs ++ x ∷ []) old (is ∙ new_of seen s m.2)
          ∙ sym (ap (map (interface_of (seen ++ s ∷ []))) m.0 ∙ map-append (interface_of (seen ++ s ∷ [])) (told_in seen) (s.bus ∷ []));
      untold_is = untold ∙ h.untold_is ∙ ap capped (sym m.1);
      apart = subst (IsDistinct bytes_eq) (sym m.0) (IsDistinct-push (record { refl = bytes_refl; symm = bytes_sym; congr = λ x y z e. ap (λ n. bytes_eq n z) (bytes_same x y e) }) (told_in seen) s.bus h.apart told);
    }

-- ---- one whose place is known

told_names : (seen : List Seen) (names : List (List ℕ)) → map (λ (r : InterfaceRecord). r.name) (map (interface_of seen) names) ≡ names
unfolding interface_of
told_names seen [] = refl
told_names seen (n ∷ names) = ap (λ ns. n ∷ ns) (told_names seen names)

met_none : (name : List ℕ) (stamp : ℕ) (rs : List InterfaceRecord) → AllByRecursion (λ n. bytes_eq name n ≡ false) (map (λ (r : InterfaceRecord). r.name) rs) → map (met_on name stamp) rs ≡ rs
met_none name stamp [] all = refl
met_none name stamp (r ∷ rs) all = ap₂ (λ (x : InterfaceRecord) (xs : List InterfaceRecord). x ∷ xs) (rw all.0 refl) (met_none name stamp rs all.1)

-- the name of one is no other's
met_once : (stamp : ℕ) (rs : List InterfaceRecord) (i : ℕ) (d : InterfaceRecord) → i < length rs → IsDistinct bytes_eq (map (λ (r : InterfaceRecord). r.name) rs)
    → map (met_on (get_or rs i d).name stamp) rs ≡ set rs i (with_stamp stamp (get_or rs i d))
unfolding IsDistinct
met_once stamp [] i d below apart = absurd (omega arith)
met_once stamp (r ∷ rs) zero d below apart =
    ap₂ (λ (x : InterfaceRecord) (xs : List InterfaceRecord). x ∷ xs) (rw (bytes_refl r.name) refl) (met_none r.name stamp rs apart.0)
met_once stamp (r ∷ rs) (suc i) d below apart =
    let less : i < length rs = omega (arith, below) in
    let named = get_or-map (λ (r : InterfaceRecord). r.name) rs i d d.name less in
    let other = apart_from_distinct bytes_eq (map (λ (r : InterfaceRecord). r.name) (r ∷ rs)) 0 (suc i) d.name apart (omega arith) (omega (arith, less, length-map rs (λ (r : InterfaceRecord). r.name))) in
    ap₂ (λ (x : InterfaceRecord) (xs : List InterfaceRecord). x ∷ xs) (rw (bytes_sym (get_or rs i d).name r.name, sym named, other) refl) (met_once stamp rs i d less apart.1)

pub add_at : (a b : Interfaces) (seen : List Seen) (s : Seen) (i : ℕ) (x d : InterfaceCounts) → HaveMet a seen → i < length a.told.items → b.told.items ≡ set a.told.items i x
    → interface_record x ≡ with_stamp s.content.stamp (interface_record (get_or a.told.items i d)) → s.bus ≡ (get_or a.told.items i d).name.items → b.untold ≡ a.untold → HaveMet b (seen ++ s ∷ [])
add_at a b seen s i x d h below changed is named untold =
    let rs = map interface_record a.told.items in
    let e = interface_record d in
    let within : i < length rs = omega (arith, below, length-map a.told.items interface_record) in
    let here : get_or rs i e ≡ interface_record (get_or a.told.items i d) = get_or-map interface_record a.told.items i d e below in
    let name : s.bus ≡ (get_or rs i e).name = named ∙ ap (λ (r : InterfaceRecord). r.name) (sym here) in
    let apart : IsDistinct bytes_eq (map (λ (r : InterfaceRecord). r.name) rs) =
    subst (IsDistinct bytes_eq) (sym (ap (map (λ (r : InterfaceRecord). r.name)) h.told_are ∙ told_names seen (told_in seen))) h.apart in
    add_told a b seen s h
    (ap (map interface_record) changed ∙ map-set interface_record a.told.items i x
    ∙ ap (set rs i) (is ∙ ap (with_stamp s.content.stamp) (sym here)) ∙ sym (ap (λ n. map (met_on n s.content.stamp) rs) name ∙ met_once s.content.stamp rs i e within apart))
    untold
    (list_any_at (λ r. bytes_eq s.bus r.name) rs i e within (ap (λ n. bytes_eq n (get_or rs i e).name) name ∙ bytes_refl (get_or rs i e).name))

-- where one was found it stands
pub placed_at : (told : List InterfaceCounts) (name : List ℕ) (place : Option ℕ) → place ≡ position (λ (i : InterfaceCounts). bytes_eq i.name.items name) told → length told ≤ 16
    → (d : InterfaceCounts) → unwrap_or place 16 < length told → Some name ≡ Some (get_or told (unwrap_or place 16) d).name.items
placed_at told name None e fits d less = absurd (omega (arith, fits, less))
placed_at told name (Some i) e fits d less =
    ap (λ (ns : List ℕ). Some ns) (sym (bytes_same _ _ (position-Some (λ (i : InterfaceCounts). bytes_eq i.name.items name) told i d (sym e)).1))

-- ---- one interface after the other

pub met_at : {X : Type 0} (view : X → InterfaceRecord) (g : InterfaceRecord → InterfaceRecord) (told init : List X) (i : ℕ) (x d : X) → i < length init
    → map view told ≡ map g (map view (take i init)) ++ map view (drop i init) → view x ≡ g (view (get_or told i d))
    → map view (set told i x) ≡ map g (map view (take (suc i) init)) ++ map view (drop (suc i) init)
met_at view g told [] i x d below e is = absurd (omega arith)
met_at view g [] (y ∷ init) zero x d below e is = cc
met_at view g (t ∷ told) (y ∷ init) zero x d below e is =
    let head : view t ≡ view y = cc in
    let tail : map view told ≡ map view init = cc in
    ap₂ (λ (r : InterfaceRecord) (rs : List InterfaceRecord). r ∷ rs) (is ∙ ap g head) tail
met_at view g [] (y ∷ init) (suc i) x d below e is = cc
met_at view g (t ∷ told) (y ∷ init) (suc i) x d below e is =
    let head : view t ≡ g (view y) = cc in
    let tail : map view told ≡ map g (map view (take i init)) ++ map view (drop i init) = cc in
    ap₂ (λ (r : InterfaceRecord) (rs : List InterfaceRecord). r ∷ rs) head (met_at view g told init i x d (omega arith) tail is)

pub same_at : {X : Type 0} (view : X → InterfaceRecord) (g : InterfaceRecord → InterfaceRecord) (told init : List X) (i : ℕ) (d : X) → i < length init
    → map view told ≡ map g (map view (take i init)) ++ map view (drop i init) → view (get_or told i d) ≡ view (get_or init i d)
same_at view g told [] i d below e = absurd (omega arith)
same_at view g [] (y ∷ init) zero d below e = cc
same_at view g (t ∷ told) (y ∷ init) zero d below e = cc
same_at view g [] (y ∷ init) (suc i) d below e = cc
same_at view g (t ∷ told) (y ∷ init) (suc i) d below e =
    let tail : map view told ≡ map g (map view (take i init)) ++ map view (drop i init) = cc in
    same_at view g told init i d (omega arith) tail

pub any_more : {X : Type 0} (view : X → InterfaceRecord) (p : InterfaceRecord → Bool) (init : List X) (i : ℕ) (d : X) → i < length init
    → list_any p (map view (take (i + 1) init)) ≡ (list_any p (map view (take i init)) || p (view (get_or init i d)))
any_more view p init i d below =
    ap (λ xs. list_any p (map view xs)) (take_more init i d below) ∙ ap (list_any p) (map-append view (take i init) (get_or init i d ∷ []))
    ∙ list_any-append p (map view (take i init)) (view (get_or init i d) ∷ []) ∙ ap (λ b. list_any p (map view (take i init)) || b) (or-false (p (view (get_or init i d))))

-- ---- what the calls made of the interfaces

-- the interfaces were looked at one by one, for a frame on this one
pub record HasLooked (a : Interfaces) (items : List InterfaceCounts) (name : List ℕ) (stamp : ℕ) (is_told : Bool) : Type 0 where
  pub met : map interface_record items ≡ map (met_on name stamp) (map interface_record a.told.items)
  pub found : is_told ≡ list_any (λ i. bytes_eq name i.name) (map interface_record a.told.items)
  pub len : length items ≡ length a.told.items

pub looked : (a : Interfaces) (now items : List InterfaceCounts) (name : List ℕ) (stamp : ℕ) (is_told : Bool) → now ≡ a.told.items
    → map interface_record items ≡ map (met_on name stamp) (map interface_record now)
    → is_told ≡ list_any (λ i. bytes_eq name i.name) (map interface_record now) → length items ≡ length now → HasLooked a items name stamp is_told
looked a now items name stamp is_told same met found len = record {
  met = met ∙ ap (λ xs. map (met_on name stamp) (map interface_record xs)) same;
  found = found ∙ ap (λ xs. list_any (λ i. bytes_eq name i.name) (map interface_record xs)) same;
  len = len ∙ ap length same;
}

pub refill_all : (a : Interfaces) (items : List InterfaceCounts) → length items ≡ length a.told.items → refill (length a.told.items) a.told.items items ≡ items
refill_all a items len =
    take-append-le (length a.told.items) items (drop (length items) a.told.items) (omega arith) ∙ take_all (length a.told.items) items (omega arith)

module _ (a b : Interfaces) (items : List InterfaceCounts) (seen : List Seen) (s : Seen) (name : List ℕ) (stamp : ℕ) (is_told : Bool) (l : HasLooked a items name stamp is_told)
    (is : s.bus ≡ name) (at : s.content.stamp ≡ stamp) (h : HaveMet a seen) where
  met_here : map interface_record items ≡ map (met_on s.bus s.content.stamp) (map interface_record a.told.items)
  met_here = l.met ∙ ap₂ (λ (n : List ℕ) (x : ℕ). map (met_on n x) (map interface_record a.told.items)) (sym is) (sym at)

  found_here : list_any (λ i. bytes_eq s.bus i.name) (map interface_record a.told.items) ≡ is_told
  found_here = ap (λ n. list_any (λ i. bytes_eq n i.name) (map interface_record a.told.items)) is ∙ sym l.found

  pub looked_told : b.told.items ≡ refill (length a.told.items) a.told.items items → b.untold ≡ a.untold → is_told ≡ true → HaveMet b (seen ++ s ∷ [])
  looked_told same untold some = add_told a b seen s h (ap (map interface_record) (same ∙ refill_all a items l.len) ∙ met_here) untold (found_here ∙ some)

  pub looked_full : b.told.items ≡ refill (length a.told.items) a.told.items items → b.untold ≡ capped (a.untold + 1) → is_told ≡ false
      → length (refill (length a.told.items) a.told.items items) ≡ 16 → HaveMet b (seen ++ s ∷ [])
  looked_full same untold none full =
      add_full a b seen s h (ap (map interface_record) (same ∙ refill_all a items l.len) ∙ met_here) untold (found_here ∙ none)
      (sym l.len ∙ ap length (sym (refill_all a items l.len)) ∙ full)

  pub looked_new : (i : InterfaceCounts) → b.told.items ≡ refill (length a.told.items) a.told.items items ++ i ∷ [] → interface_record i ≡ with_stamp stamp (no_frames name)
      → b.untold ≡ a.untold → is_told ≡ false → length (refill (length a.told.items) a.told.items items) < 16 → HaveMet b (seen ++ s ∷ [])
  looked_new i pushed made untold none room =
      let all = refill_all a items l.len in
      let len : length a.told.items ≡ length (refill (length a.told.items) a.told.items items) = sym l.len ∙ ap length (sym all) in
      add_new a b i seen s h items met_here (pushed ∙ ap (λ (xs : List InterfaceCounts). xs ++ i ∷ []) all)
      (made ∙ ap₂ (λ (x : ℕ) (n : List ℕ). with_stamp x (no_frames n)) (sym at) (sym is)) untold (found_here ∙ none) (omega arith)
