use Rattle.j39_web.specs.SeriesSoFar.{series_form}
use Rattle.j39_web.proofs.SeriesAccountLemmas.{series_begins, whole_one}
use Rattle.j39_web.proofs.series.SeriesAccountAccount.laws.Goals as goal

pub returns : goal.returns
returns c = record { begins = λ subject. series_begins subject; one = λ subject. whole_one (series_form subject.of) subject.rows }
