-- What is written are the fault's words.
use Rattle.std.proofs.Common.{◌≡◌, rules}
use Rattle.j39_table.specs.FaultWords.{fault_text}
use Rattle.j39_web.proofs.RoomLemmas.{put_overflows}
use Rattle.j39_web.proofs.texts.fault_words.Goals as goal

pub returns-clause-too_small : goal.returns-clause-too_small
returns-clause-too_small c = λ fails.
    let ran = c.put_all-ran.ensures.puts in
    let says : c.as_slice.result.now ≡ fault_text c.args.fault = search rules in
    put_overflows (fault_text c.args.fault) c.put_all-ran.result c.written.result _ _ _ _ _ _ _
    (search rules) (rw says at ran.written) (rw says at ran.front) (search rules) c.written.ensures.ok (c.told.ensures.too_small fails) (search rules)
