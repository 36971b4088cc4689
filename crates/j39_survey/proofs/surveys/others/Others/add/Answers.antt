-- A line more, of one of the kinds.
use Rattle.j39_survey.proofs.Common.{◌≡◌, ◌+◌, ◌∙◌, sym, arith, capped}
use Rattle.j39_survey.specs.SurveyModels.{others_record}
use Rattle.j39_survey.proofs.OtherLemmas.{others_more}
use Rattle.j39_survey.proofs.surveys.others.Others.add.Goals as goal

pub returns-in-Standard : goal.returns-in-Standard
returns-in-Standard c = λ texts text is h.
    let more : c.saturating_add-self.result ≡ capped (c.args.self.now.standard + 1) = omega arith in
    others_more texts text _ (others_record c.args.self.now) _ h (sym is ∙ c.in-Standard.is)
    (λ i. record { standard = more i; remote = c.args.self.now.remote; flexible = c.args.self.now.flexible; error = c.args.self.now.error; odd = c.args.self.now.odd })

pub returns-in-Remote : goal.returns-in-Remote
returns-in-Remote c = λ texts text is h.
    let more : c.saturating_add-self-in-Remote.result ≡ capped (c.args.self.now.remote + 1) = omega arith in
    others_more texts text _ (others_record c.args.self.now) _ h (sym is ∙ c.in-Remote.is)
    (λ i. record { standard = c.args.self.now.standard; remote = more i; flexible = c.args.self.now.flexible; error = c.args.self.now.error; odd = c.args.self.now.odd })

pub returns-in-Flexible : goal.returns-in-Flexible
returns-in-Flexible c = λ texts text is h.
    let more : c.saturating_add-self-in-Flexible.result ≡ capped (c.args.self.now.flexible + 1) = omega arith in
    others_more texts text _ (others_record c.args.self.now) _ h (sym is ∙ c.in-Flexible.is)
    (λ i. record { standard = c.args.self.now.standard; remote = c.args.self.now.remote; flexible = more i; error = c.args.self.now.error; odd = c.args.self.now.odd })

pub returns-in-Error : goal.returns-in-Error
returns-in-Error c = λ texts text is h.
    let more : c.saturating_add-self-in-Error.result ≡ capped (c.args.self.now.error + 1) = omega arith in
    others_more texts text _ (others_record c.args.self.now) _ h (sym is ∙ c.in-Error.is)
    (λ i. record { standard = c.args.self.now.standard; remote = c.args.self.now.remote; flexible = c.args.self.now.flexible; error = more i; odd = c.args.self.now.odd })

pub returns-in-Odd : goal.returns-in-Odd
returns-in-Odd c = λ texts text is h.
    let more : c.saturating_add-self-in-Odd.result ≡ capped (c.args.self.now.odd + 1) = omega arith in
    others_more texts text _ (others_record c.args.self.now) _ h (sym is ∙ c.in-Odd.is)
    (λ i. record { standard = c.args.self.now.standard; remote = c.args.self.now.remote; flexible = c.args.self.now.flexible; error = c.args.self.now.error; odd = more i })
