-- The steps of a run to a frame that asks for memory.
use Rattle.std.specs.Prelude.{◌≡◌, ◌≢◌, ℕ, List, [], ◌∷◌, Option}
use Rattle.j39_frame.specs.Frame.{FrameRecord}
use Rattle.j39_log.specs.Log.{bus_of, frames_of}
use Rattle.j39_log.specs.Spelled.{Spelled, Spells}
use Rattle.j39_log.specs.Splitter.{EndsLine}
use Rattle.j39_listen.specs.LinesSoFar.{IsNamed}
use Rattle.j39_listen.specs.Output.{Output, Meeting}
use Rattle.j39_listen.specs.declared.lines.Lines.{Lines}
use Rattle.j39_listen.specs.Asking.{Wanting}

-- what a line spells is a frame of the bus that asks for memory, whatever the account has met
pub record AsksLine {A : Type 0} (has_met : Meeting A) (asks : Wanting) (s : Spelled) (bus : Option (List ℕ))
    (a : A) : Type 0 where
  pub at : FrameRecord
  pub is_on : frames_of bus (s ∷ []) ≡ at ∷ []
  pub asked : (name : List ℕ) → IsNamed (bus_of bus (s ∷ [])) name → (F : List FrameRecord) (output : Output)
      → has_met name a F output → asks F at

-- so is some reading of a line
abbrev pub AsksAs : {A : Type 0} → Meeting A → Wanting → List ℕ → Lines A → Type 0
AsksAs has_met asks line p = (s : Spelled) × Spells line s × AsksLine has_met asks s p.bus p.account

-- so is the line that the bytes end
pub record AsksIn {A : Type 0} (has_met : Meeting A) (asks : Wanting) (begun bytes : List ℕ)
    (p : Lines A) : Type 0 where
  pub line : List ℕ
  pub n : ℕ
  pub ends : EndsLine begun bytes line n
  pub spelled : Spelled
  pub spells : Spells line spelled
  pub line_asks : AsksLine has_met asks spelled p.bus p.account

-- so is the last line
pub record AsksLast {A : Type 0} (has_met : Meeting A) (asks : Wanting) (begun : List ℕ) (p : Lines A) : Type 0 where
  pub some : begun ≢ []
  pub spelled : Spelled
  pub spells : Spells begun spelled
  pub line_asks : AsksLine has_met asks spelled p.bus p.account
