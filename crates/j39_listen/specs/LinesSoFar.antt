-- The steps of a run, line by line: each by the definitions over that line alone, whatever was met before.
use Rattle.std.specs.Prelude.{◌≡◌, ◌+◌, ◌∷◌, [], ℕ, List, Option, length, unwrap_or}
use Rattle.j39_log.specs.Log.{bus_of, frames_of, others_of, unread_of}
use Rattle.j39_log.specs.Spelled.{Spelled, Spells}
use Rattle.j39_listen.specs.AccountCalls.{Meets, Stops}
use Rattle.j39_listen.specs.Counting.{capped}
use Rattle.j39_listen.specs.Output.{Making, Meeting}
use Rattle.j39_listen.specs.declared.counts.Met.{Met}
use Rattle.j39_listen.specs.declared.counts.Met.TheVariants.{Blank, Frame, Other, Unread}
use Rattle.j39_listen.specs.declared.counts.Tally.{Tally}

-- two tallies together
abbrev pub sum_of : Tally → Tally → Tally
sum_of a b = record {
  frames = capped (a.frames + b.frames);
  other = capped (a.other + b.other);
  unread =
      capped (a.unread + b.unread);
}

-- what a line counts for
abbrev pub met_tally : Met → Tally
met_tally Frame = record { frames = 1; other = 0; unread = 0 }
met_tally Other = record { frames = 0; other = 1; unread = 0 }
met_tally Unread = record { frames = 0; other = 0; unread = 1 }
met_tally Blank = record { frames = 0; other = 0; unread = 0 }

-- what the lines count for that spell this
unfoldable pub tally_of : Option (List ℕ) → List Spelled → Tally
tally_of given spelled = record {
  frames = capped (length (frames_of given spelled));
  other = capped (others_of given spelled);
  unread = capped (unread_of spelled);
}

-- the bus of the run has this name, if it is known yet
abbrev pub IsNamed : Option (List ℕ) → List ℕ → Type 0
IsNamed bus name = unwrap_or bus name ≡ name

-- what a line spells was met
pub record MeetsLine {A : Type 0} (has_met : Meeting A) (s : Spelled) (bus bus' : Option (List ℕ)) (a a' : A)
    (met : Tally) (old new : Option (List ℕ)) : Type 0 where
  pub bus_is : bus' ≡ bus_of bus (s ∷ [])
  pub met_is : met ≡ tally_of bus (s ∷ [])
  pub meets : (name : List ℕ) → IsNamed (bus_of bus (s ∷ [])) name
      → Meets (has_met name) a a' (frames_of bus (s ∷ [])) old new

-- a fault of the writer came in what the line spells
abbrev pub StopsLine : {A : Type 0} → Meeting A → Making → Spelled → Option (List ℕ) → A → Option (List ℕ)
    → Option (List ℕ) → Type 0
StopsLine has_met makes s bus a old new =
    (name : List ℕ) → IsNamed (bus_of bus (s ∷ [])) name
    → Stops (has_met name) (makes name) a (frames_of bus (s ∷ [])) old new

-- some line spells this
abbrev pub IsSpelling : Spelled → Type 0
IsSpelling spelled = (line : List ℕ) × Spells line spelled
