-- What a table of holders stands for.
use Rattle.std.specs.Prelude.{ℕ, zero, suc, List, get_or, Option, None, Some}
use Rattle.std.specs.Option.{option_map}
use Rattle.j39_address.specs.declared.claims.Claims.{Claims}
use Rattle.j39_address.specs.declared.name.Name.{Name}
use Rattle.j39_address.specs.Name.{name_raw}
use Rattle.j39_frame.specs.Frame.{FrameRecord}
use Rattle.j39_address.specs.Claim.{Claim, claims_of}
use Rattle.j39_address.specs.Holder.{IsHolderAfter}

-- the NAME at a place; 0 for none
abbrev pub name_if : ℕ → Name → Option Name
name_if zero n = None
name_if (suc k) n = Some n

-- the holder of a that the table has
abbrev pub holder_in : Claims → ℕ → Option ℕ
holder_in table a = option_map name_raw (name_if (get_or table.are_held a 0) (get_or table.names a (record { bits = 0 })))

-- the table has, for each address, its holder after the claims
abbrev pub StandsFor : Claims → List (Option Claim) → Type 0
StandsFor table C = (a : ℕ) → IsHolderAfter C a (holder_in table a)

-- the table has, for each address, its holder after the frames
abbrev pub Knows : Claims → List FrameRecord → Type 0
Knows table frames = StandsFor table (claims_of frames)
