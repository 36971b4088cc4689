use Rattle.std.proofs.Common.{arith, replicate, w8}
use Rattle.std.proofs.lemmas.Simd.{below_from_Fits}
use Rattle.j39_log.proofs.FormLemmas.{saturates}
use Rattle.j39_log.proofs.fast.form.above_hex.Goals as goal

pub returns : goal.returns
returns c = saturates c.args.values (replicate 16 15) (below_from_Fits w8 c.args.values c.fits-values.1) (omega arith, omega arith)
