use Rattle.std.proofs.Common.{[], refl}
use Rattle.j39_fault_reports.proofs.CurrentLemmas.{kept_none}
use Rattle.j39_fault_reports.proofs.SilenceLemmas.{no_frames}
use Rattle.j39_fault_reports.proofs.FaultAccountLemmas.{same_announced}
use Rattle.j39_fault_reports.proofs.current_faults.account.FaultsNow.new.Goals as goal

pub returns : goal.returns
returns c = record {
  form_is = refl;
  by = refl;
  conversions_are = refl;
  chooses = c.new.ensures;
  heard = [];
  are_heard = refl;
  hears = c.new-2.ensures;
  are_kept = kept_none c.args.conversions.now c.new-3.result c.new-3.ensures;
  messages_are = refl;
  announced_is = same_announced _ _ c.default.ensures.0 c.default.ensures.1;
  last_is = no_frames _;
  nothing_yet = refl;
}
