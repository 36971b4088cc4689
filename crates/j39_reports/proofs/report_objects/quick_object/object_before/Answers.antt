-- The parts, one before the other.
use Rattle.j39_reports.proofs.Common.{List, ℕ, Option, Bool, true, ◌≡◌, ◌++◌, ap, if◌then◌else◌, subst, sym, before_then, WritesBefore}
use Rattle.j39_reports.specs.EntryObject.{group_member}
use Rattle.j39_reports.specs.Forwards.{head_text}
use Rattle.j39_reports.specs.MessageObjects.{opened}
use Rattle.j39_reports.specs.declared.head.Head.{Head}
use Rattle.j39_reports.proofs.report_objects.quick_object.object_before.Goals as goal

all : (o : Head) (group : Option (List ℕ)) (later : List ℕ) → o.has_group ≡ true → head_text o ++ later ≡ opened o group ++ later
all o group later has = sym (ap (λ (b : Bool). (if b then head_text o else head_text o ++ group_member group) ++ later) has)

pub returns-clause-written : goal.returns-clause-written
returns-clause-written c = λ group.
    subst (WritesBefore c.args.out.now c.slice_before.new.out 2048 c.slice_before.result) (all c.args.opening.now group _ c.if-not-opening.false)
    (before_then _ _ _ _ _ _ _ _ (before_then _ _ _ _ _ _ _ _ c.in_ok-behind.ensures.written c.in_ok-number.ensures.written)
    (subst (WritesBefore c.parameter_before.new.out c.slice_before.new.out c.in_ok-number.number c.slice_before.result) c.bytes.ensures c.slice_before.ensures))
