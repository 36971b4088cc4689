-- One of the logs isn't opened.
use Rattle.std.proofs.Common.{◌≡◌, ◌<◌, ◌++◌, ℕ, zero, suc, List, [], ◌∷◌, None, Option, arith, length, map, slice_index_or, subst, ◌+◌, ◌∙◌, ap, refl, sym, take}
use Rattle.std.proofs.lemmas.List.{get_or-map, length-map, map-append}
use Rattle.std.proofs.lemmas.List.Elements.{All-append}
use Rattle.std.specs.List.{All, Contains}
use Rattle.std.specs.Borrow.{Bor}
use Rattle.j39_cli.specs.FileEnds.{IsEndsOfSome, ends_record}
use Rattle.j39_cli.specs.declared.file_ends.FileEnds.{FileEnds}
use Rattle.j1939.specs.Opened.{IsUnopened}
use Rattle.j1939.specs.declared.input.Unopened.{Unopened}
use Rattle.j1939.specs.declared.input.Unopened.TheVariants.{File, Folder, Memory}

only_one : (x y : List ℕ) → Contains (x ∷ []) y → x ≡ y
only_one x y (zero, fits, is) = is
only_one x y (suc k, fits, is) = absurd (omega (arith, fits))

-- it is one of them where it is this one of them
pub unopened_among : (x : List ℕ) (xs : List (List ℕ)) (why : Unopened) → Contains xs x → IsUnopened (x ∷ []) why → IsUnopened xs why
unopened_among x xs (File name) among is = subst (Contains xs) (only_one x name.now is) among
unopened_among x xs (Folder name) among is = subst (Contains xs) (only_one x name.now is) among
unopened_among x xs Memory among is = tt

-- of those behind the first
pub unopened_later : (files behind : List (Bor (List ℕ))) (first d : Bor (List ℕ)) (k : ℕ) (why : Unopened) → files ≡ first ∷ behind → k < length behind
    → IsUnopened ((slice_index_or behind k d).now ∷ []) why → IsUnopened (map (λ file. file.now) files) why
unopened_later files behind first d k why is fits one =
    unopened_among (slice_index_or behind k d).now (map (λ file. file.now) files) why (rw is (among behind k fits)) one
  where
    among : (xs : List (Bor (List ℕ))) (i : ℕ) → i < length xs
        → Contains (first.now ∷ map (λ file. file.now) xs) (slice_index_or xs i d).now
    among xs i lt =
        let long = length-map xs (λ (file : Bor (List ℕ)). file.now) in
        (suc i, omega (arith, lt, long), get_or-map (λ (file : Bor (List ℕ)). file.now) xs i d _ lt)

-- one more that was looked at
pub seen_more : (seen new : List FileEnds) (ends : FileEnds) → All IsEndsOfSome (map ends_record seen) → IsEndsOfSome (ends_record ends) → new ≡ seen ++ ends ∷ []
    → All IsEndsOfSome (map ends_record new)
seen_more seen new ends all one is =
    rw (is, map-append ends_record seen (ends ∷ [])) (All-append IsEndsOfSome (map ends_record seen) (ends_record ends ∷ []) all alone)
  where
    alone : All IsEndsOfSome (ends_record ends ∷ [])
    alone zero d fits = one
    alone (suc k) d fits = absurd (omega (arith, fits))

abbrev pub names : List FileEnds → List (List ℕ)
names seen = map (λ ends. ends.file.now) seen

abbrev pub texts : List (Bor (List ℕ)) → List (List ℕ)
texts files = map (λ file. file.now) files

texts_more : (files : List (Bor (List ℕ))) (k : ℕ) (d : Bor (List ℕ)) → k < length files
    → texts (take (suc k) files) ≡ texts (take k files) ++ (slice_index_or files k d).now ∷ []
texts_more [] k d fits = absurd (omega (arith, fits))
texts_more (file ∷ files) zero d fits = refl
texts_more (file ∷ files) (suc k) d fits = ap (λ names. file.now ∷ names) (texts_more files k d (omega (arith, fits)))

-- one more of those behind the first
pub named_next : (files behind : List (Bor (List ℕ))) (first d : Bor (List ℕ)) (k n : ℕ) (seen new : List FileEnds) (ends : FileEnds) → files ≡ first ∷ behind
    → k < length behind → names seen ≡ texts (take (k + 1) files) → new ≡ seen ++ ends ∷ [] → ends.file.now ≡ (slice_index_or behind k d).now → n ≡ k + 1 + 1
    → names new ≡ texts (take n files)
named_next files behind first d k n seen new ends is fits so one named next =
    let here : k + 1 ≡ suc k = omega arith in
    let more : n ≡ suc (suc k) = omega (arith, next) in
    rw (one, map-append (λ (e : FileEnds). e.file.now) seen (ends ∷ []), more, is)
    ((λ i. (rw (here, is) at so) i ++ named i ∷ []) ∙ sym (texts_more (first ∷ behind) (suc k) d (omega (arith, fits))))

-- what these logs hold: std doesn't say
abbrev pub unknown : {L : Type 0} → List L → List (Option (List ℕ))
unknown logs = map (λ log. None) logs

pub unknown_length : {L : Type 0} (logs : List L) → length (unknown logs) ≡ length logs
unknown_length logs = length-map logs (λ log. None)
