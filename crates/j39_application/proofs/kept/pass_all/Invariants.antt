use Rattle.std.proofs.Common.{◌≡◌, ◌++◌, drop, map, take}
use Rattle.j39_application.specs.Kept.{views}
use Rattle.j39_application.proofs.kept.pass_all.Given as goal

-- those before this one are older, and those from here on are as they were
abbrev pub invariant-loop-waiting : goal.invariant-loop-waiting
invariant-loop-waiting g l =
    let w = g.T.Waits in
    views w.shown l.current ≡ map (w.later l.time) (views w.shown (take l.waiting-index l.initial.current)) ++ views w.shown (drop l.waiting-index l.initial.current)
