-- What a node is called with.
use Rattle.std.specs.Prelude.{ℕ, Option, Some, None}
use Rattle.j39_frame.specs.Frame.{FrameRecord}
use Rattle.j39_address.specs.Claim.{Claim, claim_of}
use Rattle.j39_address.specs.Command.{Command}
use Rattle.j39_address.specs.Request.{request_of}

-- it is started, time passes, it hears a claim or a request for address claims to this destination, or another frame, or
-- it is commanded
pub data Call : Type 0 where
  Start : Call
  Tick : Call
  Heard : Claim → Call
  Asked : ℕ → Call
  Other : Call
  Commanded : Command → Call

abbrev pub call_for : Option Claim → Option ℕ → Call
call_for (Some claim) request = Heard claim
call_for None (Some destination) = Asked destination
call_for None None = Other

-- what a frame is to a node
abbrev pub call_of : FrameRecord → Call
call_of f = call_for (claim_of f) (request_of f)
