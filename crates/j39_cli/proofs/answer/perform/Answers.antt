-- The run is on the task's own bus, for its own address, and its fault is told.
use Rattle.j39_cli.proofs.Common.{◌≡◌, ◌<◌, ℕ, List, Option, subst, arith, Turn, AsksForBoxes, MakesAnswers}
use Rattle.j39_address.specs.Name.{name_raw}
use Rattle.j39_address.specs.Node.{idle_node}
use Rattle.j39_cli.specs.LogCommand.{IsRun}
use Rattle.j39_cli.proofs.RunLemmas.{ended_err, ended_some, is_run, told_as}
use Rattle.j39_cli.proofs.answer.perform.Goals as goal

of_address : (name address address' : ℕ) (bus : Option (List ℕ)) (status : ℕ) (log out err : Turn) → address ≡ address'
    → IsRun AsksForBoxes (MakesAnswers (idle_node name address)) bus status log out err
    → IsRun AsksForBoxes (MakesAnswers (idle_node name address')) bus status log out err
of_address name address address' bus status log out err is h =
    subst (λ (a : ℕ). IsRun AsksForBoxes (MakesAnswers (idle_node name a)) bus status log out err) is h

pub returns-in-Ok-Some-clause-run : goal.returns-in-Ok-Some-clause-run
returns-in-Ok-Some-clause-run g c =
    let name = name_raw c.args.name in
    let number = c.number-address.result in
    let below : number < 254 = omega (arith, c.number-address.ensures.value, c.number-address.ensures.is_address) in
    let h = rw c.in-Ok-Some.field-0-is at (c.in-Ok-Some.ensures.ran below) in
    of_address name number c.args.address.now c.args.bus.now c.tell_end.result _ _ _ c.number-address.ensures.value
    (is_run AsksForBoxes (MakesAnswers (idle_node name number)) _ c.args.bus.now h.0 c.tell_end.result _ _ _ c.copy_of.ensures h.2
    (told_as _ h.0 _ _ _ (ended_some h.0 c.in-Ok-Some.counts h.1) c.tell_end.ensures.told))

pub returns-in-Err-clause-run : goal.returns-in-Err-clause-run
returns-in-Err-clause-run g c =
    let name = name_raw c.args.name in
    let number = c.number-address.result in
    let below : number < 254 = omega (arith, c.number-address.ensures.value, c.number-address.ensures.is_address) in
    let h = c.in-Err.ensures.ran below in
    of_address name number c.args.address.now c.args.bus.now c.tell_end-in-Err.result _ _ _ c.number-address.ensures.value
    (is_run AsksForBoxes (MakesAnswers (idle_node name number)) _ c.args.bus.now h.0 c.tell_end-in-Err.result _ _ _ c.copy_of.ensures h.2
    (told_as _ h.0 _ _ _ (ended_err h.0 c.in-Err.fault h.1) c.tell_end-in-Err.ensures.told))
