-- The bus of a run, its frames and its other lines, as lines follow one another.
use Rattle.std.proofs.Common.{◌≡◌, ◌+◌, ℕ, List, [], ◌∷◌, ◌++◌, Option, Some, None, Bool, refl, sym, ap, ap₂, ◌∙◌, arith, append_assoc}
use Rattle.std.specs.Prelude.{unwrap_or, count_by}
use Rattle.std.specs.List.{AllByRecursion, filter_map}
use Rattle.std.proofs.lemmas.List.Elements.{filter_map-append}
use Rattle.std.proofs.lemmas.Grind.{common_steps}
use Rattle.j39_frame.specs.Frame.{FrameRecord}
use Rattle.j39_log.specs.Log.{HasNoNewline, ended, SpellEach, bus_of, first_bus, frame_on, frames_of, is_other_on, others_of}
use Rattle.j39_log.specs.Spelled.{Spelled, frame, other, unread, blank, Spells}

pub bus_of-frame : (bus : Option (List ℕ)) (name : List ℕ) (f : FrameRecord) → bus_of bus (frame name f ∷ []) ≡ Some (unwrap_or bus name)
bus_of-frame None name f = refl
bus_of-frame (Some b) name f = refl

pub bus_of-kept : (bus : Option (List ℕ)) (s : Spelled) → first_bus (s ∷ []) ≡ None → bus ≡ bus_of bus (s ∷ [])
bus_of-kept None s e = sym e
bus_of-kept (Some b) s e = refl

pub bus_of-append : (bus : Option (List ℕ)) (xs ys : List Spelled) → bus_of bus (xs ++ ys) ≡ bus_of (bus_of bus xs) ys
bus_of-append (Some b) xs ys = refl
bus_of-append None [] ys = refl
bus_of-append None (frame name f ∷ xs) ys = refl
bus_of-append None (other ∷ xs) ys = bus_of-append None xs ys
bus_of-append None (unread ∷ xs) ys = bus_of-append None xs ys
bus_of-append None (blank ∷ xs) ys = bus_of-append None xs ys

-- before a bus is known no line is a frame
pub frames_before : (bus : Option (List ℕ)) (xs : List Spelled) → first_bus xs ≡ None → filter_map (frame_on bus) xs ≡ []
frames_before bus [] e = refl
frames_before bus (frame name f ∷ xs) e = cc
frames_before bus (other ∷ xs) e = frames_before bus xs e
frames_before bus (unread ∷ xs) e = frames_before bus xs e
frames_before bus (blank ∷ xs) e = frames_before bus xs e

pub count_by-append : (p : Spelled → Bool) (xs ys : List Spelled) → count_by p (xs ++ ys) ≡ count_by p xs + count_by p ys
count_by-append p xs ys = grind (arith, common_steps)

pub others_before : (a b : Option (List ℕ)) (xs : List Spelled) → first_bus xs ≡ None → count_by (is_other_on a) xs ≡ count_by (is_other_on b) xs
others_before a b [] e = refl
others_before a b (frame name f ∷ xs) e = cc
others_before a b (other ∷ xs) e =
    count_by-append (is_other_on a) (other ∷ []) xs ∙ ap (λ n. 1 + n) (others_before a b xs e) ∙ sym (count_by-append (is_other_on b) (other ∷ []) xs)
others_before a b (unread ∷ xs) e = others_before a b xs e
others_before a b (blank ∷ xs) e = others_before a b xs e

-- the first lines are met alike with the bus that they make known and with the one of all lines
pub frames_of-front : (bus : Option (List ℕ)) (xs ys : List Spelled) → filter_map (frame_on (bus_of bus (xs ++ ys))) xs ≡ frames_of bus xs
frames_of-front (Some b) xs ys = refl
frames_of-front None xs ys =
    elim (first_bus xs) as (λ o. first_bus xs ≡ o → filter_map (frame_on (bus_of None (xs ++ ys))) xs ≡ filter_map (frame_on (first_bus xs)) xs) [
      | None ↦ λ e. frames_before _ xs e ∙ sym (frames_before _ xs e)
      | Some b ↦ λ e. ap (λ (o : Option (List ℕ)). filter_map (frame_on o) xs) (bus_of-append None xs ys ∙ ap (λ (o : Option (List ℕ)). bus_of o ys) e ∙ sym e)
    ] refl

pub others_of-front : (bus : Option (List ℕ)) (xs ys : List Spelled) → count_by (is_other_on (bus_of bus (xs ++ ys))) xs ≡ others_of bus xs
others_of-front (Some b) xs ys = refl
others_of-front None xs ys =
    elim (first_bus xs) as (λ o. first_bus xs ≡ o → count_by (is_other_on (bus_of None (xs ++ ys))) xs ≡ count_by (is_other_on (first_bus xs)) xs) [
      | None ↦ λ e. others_before _ _ xs e
      | Some b ↦ λ e. ap (λ (o : Option (List ℕ)). count_by (is_other_on o) xs) (bus_of-append None xs ys ∙ ap (λ (o : Option (List ℕ)). bus_of o ys) e ∙ sym e)
    ] refl

pub frames_of-append : (bus : Option (List ℕ)) (xs ys : List Spelled) → frames_of bus (xs ++ ys) ≡ frames_of bus xs ++ frames_of (bus_of bus xs) ys
frames_of-append bus xs ys =
    filter_map-append (frame_on (bus_of bus (xs ++ ys))) xs ys
    ∙ ap₂ (λ (a b : List FrameRecord). a ++ b) (frames_of-front bus xs ys)
    (ap (λ (o : Option (List ℕ)). filter_map (frame_on o) ys) (bus_of-append bus xs ys))

pub others_of-append : (bus : Option (List ℕ)) (xs ys : List Spelled) → others_of bus (xs ++ ys) ≡ others_of bus xs + others_of (bus_of bus xs) ys
others_of-append bus xs ys =
    count_by-append (is_other_on (bus_of bus (xs ++ ys))) xs ys
    ∙ ap₂ (λ (a b : ℕ). a + b) (others_of-front bus xs ys)
    (ap (λ (o : Option (List ℕ)). count_by (is_other_on o) ys) (bus_of-append bus xs ys))

pub whole-more : (lines : List (List ℕ)) (line : List ℕ) → AllByRecursion HasNoNewline lines → HasNoNewline line → AllByRecursion HasNoNewline (lines ++ (line ∷ []))
whole-more [] line h k = (k, tt)
whole-more (x ∷ lines) line h k = (h.0, whole-more lines line h.1 k)

pub spell-more : (lines : List (List ℕ)) (spelled : List Spelled) (line : List ℕ) (s : Spelled) → SpellEach lines spelled → Spells line s → SpellEach (lines ++ (line ∷ [])) (spelled ++ (s ∷ []))
spell-more [] [] line s h k = (k, tt)
spell-more [] (y ∷ spelled) line s h k = absurd h
spell-more (x ∷ lines) [] line s h k = absurd h
spell-more (x ∷ lines) (y ∷ spelled) line s h k = (h.0, spell-more lines spelled line s h.1 k)

pub ended-more : (lines : List (List ℕ)) (line rest : List ℕ) → ended lines ++ (line ++ (10 ∷ rest)) ≡ ended (lines ++ (line ∷ [])) ++ rest
ended-more [] line rest = sym (append_assoc line (10 ∷ []) rest)
ended-more (x ∷ lines) line rest =
    append_assoc x (10 ∷ ended lines) (line ++ (10 ∷ rest))
    ∙ ap (λ t. x ++ (10 ∷ t)) (ended-more lines line rest)
    ∙ sym (append_assoc x (10 ∷ ended (lines ++ (line ∷ []))) rest)

-- the bytes of the lines so far, with those of one line more
pub ended-line : (taken begun front line rest : List ℕ) (lines : List (List ℕ)) → taken ≡ ended lines ++ begun → line ≡ begun ++ front
    → taken ++ (front ++ (10 ∷ rest)) ≡ ended (lines ++ (line ∷ [])) ++ rest
ended-line taken begun front line rest lines is line_is =
    ap (λ t. t ++ (front ++ (10 ∷ rest))) is ∙ append_assoc (ended lines) begun (front ++ (10 ∷ rest))
    ∙ ap (λ t. ended lines ++ t) (sym (append_assoc begun front (10 ∷ rest)) ∙ ap (λ t. t ++ (10 ∷ rest)) (sym line_is))
    ∙ ended-more lines line rest
