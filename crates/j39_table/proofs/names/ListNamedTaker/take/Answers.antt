-- The name stands behind those that were there, and none of them has its number.
use Rattle.std.proofs.Common.{◌++◌, ◌≡◌, ◌∙◌, [], ◌∷◌, ap, false, subst}
use Rattle.std.specs.List.{list_any}
use Rattle.j39_names.specs.Naming.{is_of}
use Rattle.j39_table.specs.Names.{IsWrongName}
use Rattle.j39_table.proofs.NameLemmas.{AreNew-push}
use Rattle.j39_table.proofs.names.ListNamedTaker.take.Goals as goal

pub returns-in-Ok-push : goal.returns-in-Ok-push
returns-in-Ok-push c text count read is has =
    let named = c.in-Ok.named in
    let new = subst (λ names. list_any (is_of named.kind named.number) names ≡ false) (c.as_slice.ensures.value ∙ has.0) c.in-Ok.ensures.is_new in
    (named, c.in-Ok.ensures.spelled, (c.in-Ok-push.ensures.ok ∙ ap (λ names. names ++ (named ∷ [])) has.0, AreNew-push [] read.rows named has.1 new))

pub returns-in-Err : goal.returns-in-Err
returns-in-Err c text count read is has = record {
  line = c.args.line.now;
  count = count;
  number_is = is;
  before = read;
  wrong = subst (λ names. IsWrongName c.args.line.now names c.in-Err.fault) (c.as_slice.ensures.value ∙ has.0) c.in-Err.ensures;
}
