-- The codes that are left, a place after another.
use Rattle.std.proofs.Common.{◌≡◌, ℕ, suc, ◌+◌, ◌-◌, ◌<◌, ◌≤◌, List, [], ◌∷◌, Some, None, length, refl, ap, ◌∙◌, arith}
use Rattle.std.specs.List.{cons_option, range_with_len}
use Rattle.j39_faults.specs.declared.code.Code.{Code}
use Rattle.j39_faults.specs.declared.codes.Codes.{Codes}
use Rattle.j39_faults.specs.Codes.{code_at, codes_of, places_of}
use Rattle.j39_faults.specs.CodesLeft.{codes_left}

-- numbers from a place on, of which there is one
range_first : (place end : ℕ) → place < end → range_with_len place (end - place) ≡ place ∷ range_with_len (place + 1) (end - (place + 1))
range_first place end before = let count : end - place ≡ suc (end - (place + 1)) = omega arith in rw count refl

-- before the first place there is none
pub all_left : (codes : Codes) → codes.place ≡ 0 → codes_left codes ≡ codes_of codes.payload.now
unfolding codes_left codes_of
all_left codes first = let all : places_of codes.payload.now - 0 ≡ places_of codes.payload.now = omega arith in rw (first, all) refl

-- the code at the next place, if there is one, and those behind it
next_place : (codes : Codes) → codes.place < places_of codes.payload.now
    → codes_left codes ≡ cons_option (code_at codes.payload.now codes.place) (codes_left (record codes { place = codes.place + 1 }))
unfolding codes_left
next_place codes before = rw (range_first codes.place (places_of codes.payload.now) before) refl

pub code_there : (codes : Codes) (code : Code) → codes.place < places_of codes.payload.now → code_at codes.payload.now codes.place ≡ Some code
    → codes_left codes ≡ code ∷ codes_left (record codes { place = codes.place + 1 })
code_there codes code before there = next_place codes before ∙ ap (λ found. cons_option found (codes_left (record codes { place = codes.place + 1 }))) there

pub none_there : (codes : Codes) → codes.place < places_of codes.payload.now → code_at codes.payload.now codes.place ≡ None
    → codes_left codes ≡ codes_left (record codes { place = codes.place + 1 })
none_there codes before there = next_place codes before ∙ ap (λ found. cons_option found (codes_left (record codes { place = codes.place + 1 }))) there

-- behind the last place there is none
pub no_place : (codes : Codes) → places_of codes.payload.now ≤ codes.place → codes_left codes ≡ []
unfolding codes_left
no_place codes behind = let count : places_of codes.payload.now - codes.place ≡ 0 = omega arith in rw count refl

pub fewer : (codes rest : List Code) (code : Code) → codes ≡ code ∷ rest → length rest < length codes
fewer codes rest code told = let count : length codes ≡ suc (length rest) = ap length told in omega arith
