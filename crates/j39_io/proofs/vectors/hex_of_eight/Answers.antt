use Rattle.std.proofs.Common.{◌∙◌, refl}
use Rattle.j39_io.proofs.VectorLemmas.{digits_are}
use Rattle.j39_io.proofs.vectors.hex_of_eight.Goals as goal

pub returns : goal.returns
returns c = c.digits_of.ensures ∙ digits_are _ _ refl c.args.bytes.now c.told-bytes c.fits-bytes
