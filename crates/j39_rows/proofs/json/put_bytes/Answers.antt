-- After a fault a front of the bytes that are left was written.
use Rattle.std.proofs.Common.{◌∙◌}
use Rattle.j39_io.proofs.PutsLemmas.{puts_as, puts_until}
use Rattle.j39_rows.specs.Json.{character_text}
use Rattle.j39_rows.proofs.json.put_bytes.Goals as goal

pub returns-in_err-put_all : goal.returns-in_err-put_all
returns-in_err-put_all g c =
    puts_until character_text c.args.bytes.now c.loop-byte.byte-index _ tt _ _ _ _ _ c.loop-byte-test.true c.from_residual.ensures.0
    c.loop-byte.invariant (puts_as _ _ _ _ (c.as_slice.ensures.value ∙ c.character.ensures) c.in_err-put_all.ensures.puts)
