-- What the first write didn't take is put behind what it took.
use Rattle.std.proofs.Common.{◌++◌, take, ap, ◌∙◌, take-append-drop}
use Rattle.j39_io.specs.declared.device.DeviceFault.{DeviceFault}
use Rattle.j39_io.proofs.PutsLemmas.{puts_as, puts_then}
use Rattle.j39_io.proofs.device.put_all.Goals as goal

pub returns-clause-puts : goal.returns-clause-puts
returns-clause-puts g c =
    let all = c.args.bytes.now in
    let n = c.in_ok-n.n in
    puts_as _ all _ _ (ap (λ xs. take n all ++ xs) c.split_at.ensures.back ∙ take-append-drop n all)
    (puts_then {E = DeviceFault} (take n all) _ n _ _ _ _ (record { written = c.in_ok-n.ensures.bytes; front = tt; mark = c.in_ok-n.ensures.mark }) c.put_rest.ensures.puts)
