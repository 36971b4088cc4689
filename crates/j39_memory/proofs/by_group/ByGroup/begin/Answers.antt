-- A value more.
use Rattle.std.proofs.Common.{◌≡◌, ◌<◌, ◌∙◌, ap, arith, get_or, length, subst, sym}
use Rattle.std.proofs.lemmas.List.{get_or_past}
use Rattle.j39_memory.specs.ByGroup.{values_of}
use Rattle.j39_memory.proofs.IndexLemmas.{begun_by, has_room, pushed, shown_at}
use Rattle.j39_memory.proofs.by_group.ByGroup.begin.Goals as goal

pub returns : goal.returns
returns g c =
    let self = c.args.self.now in
    let index = self.index.items in
    let values = self.values.items in
    let place = c.args.place in
    let none = c.requires.untouched in
    let within : place < length index = omega (arith, self.all, c.requires.within) in
    let few = has_room index values self.start self.all self.sound place c.requires.within none in
    let long : c.len-at.result ≡ length values = c.len-at.ensures ∙ self.values.ok.0 in
    let fine = c.push.ensures.succeeds (omega (arith, few, self.values.ok.0, self.room)) in
    let was : get_or (values_of self) place c.make.new.value ≡ self.start =
    shown_at index values self.start c.make.new.value place within ∙ get_or_past values (get_or index place 65535) self.start none in (
      c.make.new.value,
      subst (λ v. g.C.GroupChange.changes c.args.change v c.make.new.value) (sym was) c.make.ensures,
      begun_by index values self.start self.all self.sound place c.requires.within c.push.new.self.items c.len-at.result c.make.new.value
          (c.push.ensures.items ∙ pushed c.push.result _ _ fine) long none,
    )
