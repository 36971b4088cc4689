use Rattle.std.proofs.lemmas.Bool.{not-true}
use Rattle.j39_reports.proofs.JsonLemmas.{plain_string}
use Rattle.j39_reports.proofs.json.is_plain.Goals as goal

pub returns : goal.returns
returns c = λ plain. plain_string c.args.text.now (c.may_be_marked.ensures (not-true _ plain))
