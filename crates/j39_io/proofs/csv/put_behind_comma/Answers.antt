-- The comma and the field, one after the other.
use Rattle.std.proofs.Common.{◌∷◌, []}
use Rattle.j39_io.proofs.PutsLemmas.{puts_first, puts_then}
use Rattle.j39_io.specs.Records.{comma, field_text}
use Rattle.j39_io.proofs.csv.put_behind_comma.Goals as goal

pub returns-in_err-put_all : goal.returns-in_err-put_all
returns-in_err-put_all g c = puts_first (comma ∷ []) (field_text c.args.field.now) _ _ _ c.from_residual.ensures.0 c.in_err-put_all.ensures.puts

pub returns : goal.returns
returns g c = puts_then (comma ∷ []) (field_text c.args.field.now) _ _ _ _ _ c.in_ok-put_all.ensures.puts c.put_field.ensures
