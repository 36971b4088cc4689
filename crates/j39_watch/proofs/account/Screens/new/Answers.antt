-- Nothing was heard.
use Rattle.std.proofs.Common.{Bor, List, [], ap, option_map, refl}
use Rattle.j39_groups.specs.Row.{RowRecord}
use Rattle.j39_frame.specs.Stamp.{stamp_micros}
use Rattle.j39_fault_reports.proofs.CurrentLemmas.{kept_none}
use Rattle.j39_watch.proofs.account.Screens.new.Goals as goal

pub returns : goal.returns
returns c = record {
  keeps = record {
    named = refl;
    by = ap (λ (x : Bor (List RowRecord)). x.now) c.new.ensures;
    size_is = refl;
    last_is = ap (option_map stamp_micros) c.new-6.ensures;
    chooses = c.new-2.ensures;
    hears = c.new-3.ensures;
    heard = [];
    are_heard = refl;
    are_latest = c.new-5.ensures;
    faults = [];
    are_faults = refl;
    are_kept = kept_none [] _ c.new-4.ensures;
    messages_are = refl;
  };
  drawn = refl;
}
