-- Its bits are there, or they are not.
use Rattle.std.proofs.Common.{◌∙◌, sym}
use Rattle.j39_io.proofs.DeviceLemmas.{on_err_from}
use Rattle.j39_groups.specs.Models.{row_record}
use Rattle.j39_groups.specs.Visits.{with_medium}
use Rattle.j39_groups.proofs.ReadyLemmas.{field_sound}
use Rattle.j39_groups.proofs.RowLemmas.{row_is}
use Rattle.j39_groups.proofs.VisitLemmas.{sees_absent, sees_nothing, stops_at, takes_none}
use Rattle.j39_groups.proofs.visiting.visit_nothing.Goals as goal

pub holds_number-requires : goal.holds_number-requires
holds_number-requires g c = field_sound c.args.row.now.field (row_is c.args.row.now c.requires.row).sound

pub returns-then-holds_number-clause-taken : goal.returns-then-holds_number-clause-taken
returns-then-holds_number-clause-taken g c =
    rw (← sees_absent c.args.bytes.now (row_record c.args.row.now) (sym c.holds_number.ensures ∙ c.if-holds_number.true) c.requires.nothing) c.visit_absent.ensures.taken

pub returns-then-holds_number-clause-stopped : goal.returns-then-holds_number-clause-stopped
returns-then-holds_number-clause-stopped g c = on_err_from c.visit_absent.result _ _
    (λ wanted. rw (← sees_absent c.args.bytes.now (row_record c.args.row.now) (sym c.holds_number.ensures ∙ c.if-holds_number.true) c.requires.nothing)
    (stops_at (with_medium g.V.ReadingVisitor.has_taken) (λ s before at. g.V.ReadingVisitor.has_stopped s before at c.visit_absent.new.self c.visit_absent.new.medium) (c.args.visitor.now, c.args.medium.now) _ wanted)) c.visit_absent.ensures.stopped

pub returns-else-holds_number-clause-taken : goal.returns-else-holds_number-clause-taken
returns-else-holds_number-clause-taken g c =
    rw (← sees_nothing c.args.bytes.now (row_record c.args.row.now) (sym c.holds_number.ensures ∙ c.if-holds_number.false) c.requires.nothing)
    (takes_none (with_medium g.V.ReadingVisitor.has_taken) (c.args.visitor.now, c.args.medium.now))
