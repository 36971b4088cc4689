use Rattle.std.proofs.Common.{w8}
use Rattle.std.specs.Simd.Lanes.{zip2}
use Rattle.std.proofs.lemmas.Simd.{below_from_Fits}
use Rattle.j39_log.specs.Form.{over}
use Rattle.j39_log.proofs.FormLemmas.{all_each, over_below, saturates}
use Rattle.j39_log.proofs.fast.form.outside.Goals as goal

pub returns-clause-value : goal.returns-clause-value
returns-clause-value c = saturates (zip2 over c.args.block.now c.args.least) c.args.above (over_below c.args.block.now c.args.least) (below_from_Fits w8 c.args.above c.fits-above.1)

pub returns-clause-bytes : goal.returns-clause-bytes
returns-clause-bytes c = all_each c.args.least (below_from_Fits w8 c.args.least c.fits-least.1)
