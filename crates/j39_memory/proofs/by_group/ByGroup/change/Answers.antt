-- What was changed before is changed.
use Rattle.std.proofs.Common.{◌≡◌, ◌<◌, ◌∙◌, ap, arith, get_or, length, subst, sym}
use Rattle.std.proofs.lemmas.List.{get_or_default}
use Rattle.j39_memory.specs.ByGroup.{values_of}
use Rattle.j39_memory.proofs.IndexLemmas.{changed, shown_at}
use Rattle.j39_memory.proofs.by_group.ByGroup.change.Goals as goal

pub returns-then-at-len : goal.returns-then-at-len
returns-then-at-len g c =
    let self = c.args.self.now in
    let index = self.index.items in
    let values = self.values.items in
    let place = c.args.place in
    let at = c.from-at.result in
    let value = c.make.new.value in
    let within : place < length index = omega (arith, self.all, c.requires) in
    let here : at ≡ get_or index place 65535 = c.from-at.ensures ∙ c.index.ensures ∙ get_or_default index place _ 65535 within in
    let some : at < length values = omega (arith, c.if-at-len.true, c.len.ensures, self.values.ok.0) in
    let was : get_or (values_of self) place value ≡ c.index_mut.result.now =
    shown_at index values self.start value place within ∙ ap (λ i. get_or values i self.start) (sym here)
    ∙ get_or_default values at self.start c.index_mut.result.now some ∙ sym c.index_mut.ensures.value in (
      value,
      subst (λ v. g.C.GroupChange.changes c.args.change v value) (sym was) c.make.ensures,
      changed index values self.start self.all self.sound place c.requires at value here some,
    )
