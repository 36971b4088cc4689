-- Lines of a log.
use Rattle.std.specs.Prelude.{◌≡◌, ◌≢◌, ◌≤◌, ◌⊎◌, ℕ, List, [], ◌∷◌, ◌++◌, length, Contains, codes}
use Rattle.j39_io.specs.Chars.{carriage_return, hash}
use Rattle.j39_frame.specs.Frame.{FrameRecord}
use Rattle.j39_log.specs.Bus.{IsBusName}
use Rattle.j39_log.specs.Fields.{IsSpaced}
use Rattle.j39_log.specs.Text.{IsStampText, IsFrameText}

-- the body of a line is the line without one CR at its end
pub record IsBody (line body : List ℕ) : Type 0 where
  pub cr : List ℕ
  pub line_is : line ≡ body ++ cr
  pub cr_is : (cr ≡ carriage_return ∷ []) ⊎ ((cr ≡ []) × ((front : List ℕ) → line ≢ front ++ (carriage_return ∷ [])))

-- nothing, or one field `R` or `T`
abbrev pub IsFlags : List (List ℕ) → Type 0
IsFlags flags = (flags ≡ []) ⊎ ((flags ≡ codes "R" ∷ []) ⊎ (flags ≡ codes "T" ∷ []))

-- the line is a stamp, a bus, a third field, and at most one of `R` and `T`, with spaces between
pub record HasParts (line bus third : List ℕ) (stamp : ℕ) : Type 0 where
  pub short : length line ≤ 256
  pub body : List ℕ
  pub body_is : IsBody line body
  pub first : List ℕ
  pub flags : List (List ℕ)
  pub fields_are : IsSpaced (first ∷ bus ∷ third ∷ flags) body
  pub stamp_is : IsStampText first stamp
  pub bus_is : IsBusName bus
  pub flags_are : IsFlags flags

-- the line spells this frame of this bus
pub record IsFrameLine (line bus : List ℕ) (frame : FrameRecord) : Type 0 where
  pub third : List ℕ
  pub parts : HasParts line bus third frame.stamp
  pub third_is : IsFrameText third frame.id frame.bytes

-- the line has a frame's parts, and a third field that holds `#` and spells no frame
pub record IsOtherLine (line : List ℕ) : Type 0 where
  pub bus : List ℕ
  pub third : List ℕ
  pub stamp : ℕ
  pub parts : HasParts line bus third stamp
  pub marked : Contains third hash
  pub no_frame : (b : List ℕ) (f : FrameRecord) → IsFrameLine line b f → ⊥

-- the line has spaces alone
pub record IsBlankLine (line : List ℕ) : Type 0 where
  pub short : length line ≤ 256
  pub body : List ℕ
  pub body_is : IsBody line body
  pub fields_are : IsSpaced [] body

-- the line is none of these
pub record IsUnreadLine (line : List ℕ) : Type 0 where
  pub no_frame : (bus : List ℕ) (frame : FrameRecord) → IsFrameLine line bus frame → ⊥
  pub no_other : IsOtherLine line → ⊥
  pub no_blank : IsBlankLine line → ⊥
