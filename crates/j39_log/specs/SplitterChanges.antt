-- The steps of a splitter: how it is changed, before a line is lent out of it.
use Rattle.std.specs.Prelude.{◌≡◌, ◌≢◌, ◌<◌, ◌≤◌, ◌+◌, ⊤, ℕ, List, [], ◌++◌, Bool, true, false, length}
use Rattle.j39_log.specs.Log.{HasNoNewline}
use Rattle.j39_log.specs.Splitter.{EndsLine, HasBegun, IsKept}
use Rattle.j39_log.specs.declared.splitter.PieceStep.{PieceStep}
use Rattle.j39_log.specs.declared.splitter.PieceStep.TheVariants.{GoesOn, HoldsLine, EndsLineAt}
use Rattle.j39_log.specs.declared.splitter.Splitter.{Splitter}

-- the splitter keeps a line that was handed out
pub record HasEnded (splitter : Splitter) (line : List ℕ) : Type 0 where
  pub ended : splitter.has_ended ≡ true
  pub kept : IsKept line splitter.kept.items splitter.has_more

-- what was taken lies in the piece
abbrev pub StepFits : PieceStep → List ℕ → Type 0
StepFits GoesOn piece = ⊤
StepFits (HoldsLine line) piece = length line.now < length piece
StepFits (EndsLineAt taken) piece = (0 < taken) × (taken ≤ length piece)

-- what a piece made of a splitter that had begun this line
abbrev pub Steps : PieceStep → List ℕ → List ℕ → Splitter → Type 0
Steps GoesOn begun piece new = HasNoNewline piece × HasBegun new (begun ++ piece)
Steps (HoldsLine line) begun piece new = EndsLine begun piece line.now (length line.now + 1) × HasBegun new []
Steps (EndsLineAt taken) begun piece new = (line : List ℕ) × EndsLine begun piece line taken × HasEnded new line

-- what the end of the log made of it
abbrev pub Finishes : Bool → List ℕ → Splitter → Type 0
Finishes true begun new = (begun ≢ []) × HasEnded new begun
Finishes false begun new = (begun ≡ []) × HasBegun new []
