-- A frame of another group announces nothing.
use Rattle.j39_fault_reports.proofs.Common.{◌∙◌, ◌==◌, ap, sym, FrameRecord, pgn_of, transport_control_group}
use Rattle.j39_fault_reports.proofs.BrokenLemmas.{announces_none}
use Rattle.j39_fault_reports.proofs.fault_news.announced.announces.Goals as goal

pub returns-then-not-is_transport_control : goal.returns-then-not-is_transport_control
returns-then-not-is_transport_control c =
    sym (announces_none c.args.frame.now (ap (λ (x : FrameRecord). pgn_of x.id == transport_control_group) (sym c.frame.view_is)
    ∙ sym c.is_transport_control.ensures ∙ c.if-not-is_transport_control.true))
