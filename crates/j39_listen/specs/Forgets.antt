-- The frames of a bus with what a claim makes a listener forget.
use Rattle.std.specs.Prelude.{◌≡◌, ◌≢◌, ℕ, zero, suc, List, [], ◌∷◌, ◌++◌, map, Option}
use Rattle.std.specs.List.{Contains}
use Rattle.std.specs.List.Sorted.{IsStrictlyIncreasing}
use Rattle.j39_frame.specs.Frame.{FrameRecord}
use Rattle.j39_transport.specs.Events.{Event}
use Rattle.j39_transport.specs.Events.Event.{Frame, Forget}
use Rattle.j39_address.specs.Claim.{Claim, claims_of}
use Rattle.j39_address.specs.Holder.{IsHolder}
use Rattle.j39_listen.specs.Heard.{frame_at}

-- the holder of a changes at place n: from nobody, or to nobody, too
abbrev pub ChangesAt : List (Option Claim) → ℕ → ℕ → Type 0
ChangesAt C n a = (old new : Option ℕ) → IsHolder C n a old → IsHolder C (suc n) a new → old ≢ new

-- the addresses whose holder the claim at place n changes, rising
pub record Changed (C : List (Option Claim)) (n : ℕ) (gone : List ℕ) : Type 0 where
  pub rising : IsStrictlyIncreasing gone
  pub changed : (a : ℕ) → Contains gone a → ChangesAt C n a
  pub all : (a : ℕ) → ChangesAt C n a → Contains gone a

-- the first n frames of F, and after each claim a forget of every address whose holder it changes
abbrev pub WithForgets : List FrameRecord → ℕ → List Event → Type 0
WithForgets F zero E = E ≡ []
WithForgets F (suc n) E =
    (before : List Event) × (gone : List ℕ) × WithForgets F n before × Changed (claims_of F) n gone
    × (E ≡ (before ++ Frame (frame_at F n) ∷ []) ++ map (λ a. Forget a) gone)
