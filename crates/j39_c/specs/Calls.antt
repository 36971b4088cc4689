-- What a call at a handle answers, and what it leaves as it was.
use Rattle.std.specs.Prelude.{◌≡◌, ◌≢◌, ◌≤ℤ◌, ◌⊎◌, ℕ, ℤ, pos, List, [], ◌∷◌, Option, None, IfSome, IsSome, IsSomeAnd, drop}
use Rattle.j39_c.specs.Codes.{IsDone, IsRefused, bad_value, in_use, no_memory, no_part}
use Rattle.j39_c.specs.declared.part.Part.{Part}

-- a call that opens a handle, which holds `old` before it and `new` after it: `fits` says that the values it is given are in
-- range, and `is_new` which part it makes
pub record Opens {P : Type 0} (part_in : Option Part → Option P) (fits : Type 0) (old : Option Part) (code : ℤ)
    (new : Option Part) (is_new : P → Type 0) : Type 0 where
  -- done: the handle holds such a part
  pub made : IsDone code → (code ≡ pos 0) × fits × IsSomeAnd (part_in new) is_new
  -- the handle holds a part already
  pub taken : IsSome old → code ≡ in_use
  -- a value is out of its range
  pub bad : old ≡ None → (fits → ⊥) → code ≡ bad_value
  -- else memory alone is wanted
  pub wanted : old ≡ None → fits → IsRefused code → code ≡ no_memory
  -- refused: the handle is as it was
  pub refused : IsRefused code → new ≡ old

-- a call that asks the part of a handle, which holds `old` before it and `new` after it, or the parts of two: `fits` says
-- that the values it is given are in range, `does` what becomes of the part, and `wants` when memory may be refused
pub record Asks {H P : Type 0} (part_in : H → Option P) (fits : Type 0) (old : H) (code : ℤ) (new : H)
    (does : P → P → Type 0) (wants : P → Type 0) : Type 0 where
  -- done: that became of the part
  pub done : fits → IsDone code → IfSome (part_in old) (λ o. IsSomeAnd (part_in new) (λ n. does o n))
  -- refused, though the handle holds such a part: memory was
  pub wanted : fits → IsRefused code → IfSome (part_in old) (λ o. (code ≡ no_memory) × wants o)
  -- the handle holds no such part: it is as it was
  pub foreign : fits → part_in old ≡ None → (code ≡ no_part) × (new ≡ old)
  -- a value is out of its range: the handle is as it was
  pub bad : (fits → ⊥) → (code ≡ bad_value) × (new ≡ old)

-- a call that the part of a handle answers, also by a refusal: `does` says what becomes of the part by that answer
pub record Tries {P : Type 0} (part_in : Option Part → Option P) (fits : Type 0) (old : Option Part) (code : ℤ)
    (new : Option Part) (does : P → P → Type 0) : Type 0 where
  -- the part answered
  pub done : fits → IfSome (part_in old) (λ o. IsSomeAnd (part_in new) (λ n. does o n))
  -- the handle holds no such part: it is as it was
  pub foreign : fits → part_in old ≡ None → (code ≡ no_part) × (new ≡ old)
  -- a value is out of its range: the handle is as it was
  pub bad : (fits → ⊥) → (code ≡ bad_value) × (new ≡ old)

-- for a call that never wants memory
abbrev pub Never : {P : Type 0} → P → Type 0
Never part = ⊥

-- it is one of these
abbrev pub IsOneOf : List ℤ → ℤ → Type 0
IsOneOf [] code = ⊥
IsOneOf (c ∷ []) code = code ≡ c
IsOneOf (c ∷ d ∷ cs) code = (code ≡ c) ⊎ IsOneOf (d ∷ cs) code

-- what a call may answer: 0 to `most`, or one of these refusals
pub record Answers (most : ℕ) (refusals : List ℤ) (code : ℤ) : Type 0 where
  pub at_most : code ≤ℤ pos most
  pub refused : IsRefused code → IsOneOf refusals code

-- what a call writes to is filled at these answers alone: at each other one it stays as it was
abbrev pub Fills : List ℤ → ℤ → Type 0 → Type 0
Fills [] code stays = stays
Fills (c ∷ cs) code stays = code ≢ c → Fills cs code stays

-- a call fills as many items at the front of what it writes to as it answers, and the rest stays as it was
pub record FillsFront (code : ℤ) (old new : List ℕ) : Type 0 where
  pub rest : (n : ℕ) → code ≡ pos n → drop n new ≡ drop n old
  pub kept : IsRefused code → new ≡ old

-- a call that never refuses writes out what was found, at these answers
pub record Puts {T : Type 0} (found : Option T) (most : ℕ) (filled : List ℤ) (code : ℤ) (told : Option T) (stays : Type 0)
    : Type 0 where
  pub done : IsDone code
  pub at_most : code ≤ℤ pos most
  pub value : told ≡ found
  pub fills : Fills filled code stays
