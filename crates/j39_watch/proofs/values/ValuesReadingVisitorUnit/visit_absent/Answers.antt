-- The values stay.
use Rattle.j39_memory.specs.ByOrigin.{pairs_of}
use Rattle.j39_reports.proofs.TakenLemmas.{told_same}
use Rattle.j39_watch.proofs.Common.{subst}
use Rattle.j39_watch.specs.LatestSoFar.{AreLatest}
use Rattle.j39_watch.proofs.values.ValuesReadingVisitorUnit.visit_absent.Goals as goal

pub returns-clause-taken : goal.returns-clause-taken
returns-clause-taken c = λ message before has.
    record {
      are_latest = subst (AreLatest (pairs_of c.args.self.now.rows)) (told_same message.before message.hearing before c.args.arg2) has.are_latest;
      head_is = has.head_is;
    }
