use Rattle.std.proofs.Common.{map, take}
use Rattle.bus_demo.specs.Scenario.{ArePlayed, HaveAddresses, member_of}
use Rattle.bus_demo.proofs.bus.scenario.play.Given as goal

-- the roles so far are played
abbrev pub invariant-loop-place : goal.invariant-loop-place
invariant-loop-place l = HaveAddresses (map member_of (take l.place l.roles)) → ArePlayed (map member_of (take l.place l.roles)) l.players.items
