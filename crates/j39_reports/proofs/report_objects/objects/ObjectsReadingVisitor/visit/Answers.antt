-- The object of the reading behind the others.
use Rattle.j39_reports.proofs.Common.{◌∷◌, [], filter_map-append, on_err, value_of, told_by, told_in, visited}
use Rattle.j39_reports.specs.EntryObject.{entry_object}
use Rattle.j39_reports.proofs.ForwardLemmas.{gathers_as}
use Rattle.j39_reports.proofs.EntryLemmas.{stops_here, takes_this}
use Rattle.j39_reports.proofs.ObjectLemmas.{object_is}
use Rattle.j39_reports.proofs.report_objects.objects.ObjectsReadingVisitor.visit.Goals as goal

pub returns-in_err-put_entry-clause-stopped : goal.returns-in_err-put_entry-clause-stopped
returns-in_err-put_entry-clause-stopped g c =
    on_err c.from_residual.result _ (λ subject before has.
    rw (filter_map-append told_by before (visited c.args.spn c.args.value ∷ []))
    (stops_here entry_object subject (told_in before) _ _ c.args.self.now.lines _ _ _ _ has.have
    (gathers_as _ _ _ _ _ _ (object_is subject.groups subject.hearing c.args.self.now has.is_opened c.args.spn (value_of c.args.value)) c.in_err-put_entry.ensures)))

pub returns-clause-taken : goal.returns-clause-taken
returns-clause-taken g c = λ subject before has.
    rw (filter_map-append told_by before (visited c.args.spn c.args.value ∷ []))
    (record {
      is_opened = record { by = has.is_opened.by; opening_is = has.is_opened.opening_is; pgn_is = has.is_opened.pgn_is };
      have = takes_this entry_object subject (told_in before) _ c.args.self.now.lines _ _ _ _ _ _ has.have c.saturating_add-self.ensures
          (gathers_as _ _ _ _ _ _ (object_is subject.groups subject.hearing c.args.self.now has.is_opened c.args.spn (value_of c.args.value)) c.in_ok-put_entry.ensures);
    })
