use Rattle.j39_fault_reports.proofs.FaultAccountLemmas.{news_begins, news_one_in}
use Rattle.j39_fault_reports.proofs.fault_news.account.FaultNewsAccount.laws.Goals as goal

pub returns : goal.returns
returns c = record { begins = λ (form, subject). news_begins form subject; one = λ (form, subject). news_one_in form subject }
