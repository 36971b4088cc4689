use Rattle.std.proofs.Common.{◌∙◌, sym}
use Rattle.std.proofs.lemmas.Bool.{OnTrue_from, eq-eqb, eqb-true}
use Rattle.j39_log.proofs.LaneLemmas.{all_below, limit_mask, none_set}
use Rattle.j39_log.proofs.fast.lanes.are_below.Goals as goal

pub returns-clause-so : goal.returns-clause-so
returns-clause-so g c =
    OnTrue_from _ _ (λ e. none_set c.args.limit c.args.v (sym (limit_mask g.row.N c.args.limit c.args.v c.fits-v.0 c.requires) ∙ eqb-true _ 0 e))

pub returns-clause-no : goal.returns-clause-no
returns-clause-no g c = λ all. eq-eqb _ 0 (limit_mask g.row.N c.args.limit c.args.v c.fits-v.0 c.requires ∙ all_below c.args.limit c.args.v all)
