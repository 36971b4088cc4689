-- How far a controller is with its address, in its own counts.
use Rattle.std.specs.Prelude.{if◌then◌else◌, ◌&&◌, ◌+◌, ◌-◌, ◌||◌}
use Rattle.j39_node.specs.Common.{answer_time, Bool, claim_time, false, last_count, max, min, nat_eq, nat_lt, None, not, Option, packet_time, patience_time, slack, suc, true, ℕ}
use Rattle.j39_node.specs.declared.hold.Hold.{Hold}
use Rattle.j39_node.specs.declared.hold.Standing.{Standing}
use Rattle.j39_node.specs.declared.hold.Standing.TheVariants as standing
use Rattle.j39_node.specs.History.{Address, stamp_at}
use Rattle.j39_node.specs.History.Address.{NotClaimed, Claimed, Lost}

-- it counts what is left of the 250 ms
abbrev pub standing_of : Address → Standing
standing_of NotClaimed = standing.Idle
standing_of (Claimed e) = standing.Claimed (claim_time - e)
standing_of Lost = standing.Lost

abbrev pub less : ℕ → Standing → Standing
less s standing.Idle = standing.Idle
less s (standing.Claimed left) = standing.Claimed (left - s)
less s standing.Lost = standing.Lost

abbrev pub lost : Standing → Bool
lost standing.Lost = true
lost standing.Idle = false
lost (standing.Claimed left) = false

-- a claim that is owed may go
abbrev pub can_claim : Hold → Bool
can_claim h = h.owes_claim && (not (lost h.standing) || nat_eq h.delay 0)

abbrev pub passed : ℕ → Hold → Hold
passed now h = record {
  moment = now;
  standing = less (now - h.moment) h.standing;
  owes_claim = h.owes_claim;
  turns = h.turns;
  yields = h.yields;
  patience = h.patience - (now - h.moment);
  delay = h.delay - (now - h.moment);
  pause = h.pause - (now - h.moment);
  age = min (h.age + (now - h.moment)) last_count;
  wait = h.wait - (now - h.moment);
}

-- a frame was heard: whether it drives away from the address, calls for a claim, or is another's from the address that is held
abbrev pub answers : Bool → Hold → Bool
answers another h = another && nat_eq h.patience 0

abbrev pub heard : Bool → Bool → Bool → ℕ → Hold → Hold
heard drives_away calls another delay h = record {
  moment = h.moment;
  standing = if drives_away then standing.Lost else h.standing;
  owes_claim = h.owes_claim || (calls || answers another h);
  turns = h.turns;
  yields = h.yields;
  patience = if answers another h then patience_time else h.patience;
  delay = if (calls || answers another h) && not (lost h.standing && h.owes_claim) then delay else h.delay;
  pause = h.pause;
  age = h.age;
  wait = h.wait;
}

-- nothing was claimed, and the first claim is owed
abbrev pub first : Hold
first = record { moment = 0; standing = standing.Idle; owes_claim = true; turns = 0; yields = false; patience = 0; delay = 0; pause = 0; age = 0; wait = 0 }

-- it moves: it begins anew at the same moment, and is as old
abbrev pub moved : Hold → Hold
moved h = record (passed h.moment first) { age = h.age }

-- it is to be claimed anew
abbrev pub unclaims : Standing → Standing
unclaims standing.Idle = standing.Idle
unclaims (standing.Claimed left) = standing.Idle
unclaims standing.Lost = standing.Lost

abbrev pub anew : ℕ → Hold → Hold
anew delay h = record h { standing = unclaims h.standing; owes_claim = true; delay = delay }

abbrev pub claims : Standing → Standing
claims standing.Idle = standing.Claimed claim_time
claims (standing.Claimed left) = standing.Claimed left
claims standing.Lost = standing.Lost

-- a claim was taken; an acknowledgment; a frame of a session to an address
abbrev pub claimed : Hold → Hold
claimed h = record h { standing = claims h.standing; owes_claim = false; turns = min (suc h.turns) 2 }

abbrev pub acknowledged : Hold → Hold
acknowledged h = record h { turns = min (suc h.turns) 2 }

abbrev pub went : Hold → Hold
went h = record h { turns = 0; yields = false }

abbrev pub spoken : Hold → Hold
spoken h = record h { turns = 0; yields = true }

-- a frame of a broadcast was taken
abbrev pub paused : Hold → Hold
paused h = record h { turns = 0; yields = false; pause = packet_time }

-- a broadcast was accepted
abbrev pub opens : Hold → Hold
opens h = record h { pause = max slack h.pause }

-- a message was taken: whether it was the request
abbrev pub asked : Bool → Hold → Hold
asked b h = record h { turns = 0; yields = false; wait = if b then answer_time else h.wait }

abbrev pub stands : Standing → Bool
stands standing.Idle = false
stands (standing.Claimed left) = nat_eq left 0
stands standing.Lost = false

abbrev pub left_at : Standing → ℕ → Option ℕ
left_at standing.Idle m = None
left_at (standing.Claimed left) m = if nat_lt 0 left then stamp_at (m + left) else None
left_at standing.Lost m = None
