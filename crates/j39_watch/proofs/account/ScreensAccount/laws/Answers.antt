use Rattle.j39_watch.proofs.WatchLemmas.{watch_begins, watch_one}
use Rattle.j39_watch.proofs.account.ScreensAccount.laws.Goals as goal

pub returns-clause-begins : goal.returns-clause-begins
returns-clause-begins c = λ subject. watch_begins subject.naming subject.groups subject.which subject.size

pub returns-clause-one : goal.returns-clause-one
returns-clause-one c = λ subject. watch_one subject.naming subject.groups subject.which subject.size
