-- A line more, told where five are not told yet.
use Rattle.j39_survey.proofs.Common.{◌≡◌, ◌<◌, ◌+◌, ◌&&◌, ◌∙◌, ap, refl, sym, length, arith, eqb-true, eqb-false, capped}
use Rattle.j39_survey.proofs.UnreadLemmas.{noted_full, noted_more}
use Rattle.j39_survey.proofs.surveys.unread.UnreadLines.add.Goals as goal

pub returns-then-not-is_full : goal.returns-then-not-is_full
returns-then-not-is_full c = λ unread line raw number h.
    let more : c.saturating_add-self.result ≡ capped (c.args.self.now.count + 1) = omega arith in
    let some = eqb-false _ 5 (sym c.is_full.ensures.value ∙ c.if-not-is_full.true) in
    let room : length c.args.self.now.first.items < 5 = omega (arith, some, c.is_full.ensures.fits) in
    noted_more c.args.self.now _ c.told_of.result unread line h more (ap (λ b. c.args.self.now.are_printed && b) (c.is_printed_line.ensures line.text raw))
    c.push.ensures.items (c.told_of.ensures line raw number) room

pub returns-else-not-is_full : goal.returns-else-not-is_full
returns-else-not-is_full c = λ unread line raw number h.
    let more : c.saturating_add-self.result ≡ capped (c.args.self.now.count + 1) = omega arith in
    let full = eqb-true _ 5 (sym c.is_full.ensures.value ∙ c.if-not-is_full.false) in
    noted_full c.args.self.now _ unread line h more (ap (λ b. c.args.self.now.are_printed && b) (c.is_printed_line.ensures line.text raw)) refl full
