-- A frame of an interface that is told, of one that is not, and of a new one.
use Rattle.j39_survey.proofs.Common.{◌≡◌, ◌<◌, ◌+◌, ◌∙◌, ap, refl, sym, length, arith, refill, eqb-true, eqb-false, capped, stamp_micros}
use Rattle.j39_survey.specs.SurveySoFar.{with_stamp}
use Rattle.j39_survey.proofs.InterfaceLemmas.{looked, looked_full, looked_new, looked_told}
use Rattle.j39_survey.proofs.surveys.interfaces.Interfaces.add.Goals as goal

pub returns-then-meet-clause-met : goal.returns-then-meet-clause-met
returns-then-meet-clause-met c = λ seen s named is at h.
    let l = looked c.args.self.now _ c.meet.new.told c.args.name.now (stamp_micros c.args.stamp) c.meet.result c.as_mut_slice.ensures.value c.meet.ensures.met c.meet.ensures.found c.meet.auto.told in
    looked_told c.args.self.now _ c.meet.new.told seen s c.args.name.now (stamp_micros c.args.stamp) c.meet.result l is at h refl refl c.if-meet.true

pub returns-then-is_full-clause-met : goal.returns-then-is_full-clause-met
returns-then-is_full-clause-met c = λ seen s named is at h.
    let l = looked c.args.self.now _ c.meet.new.told c.args.name.now (stamp_micros c.args.stamp) c.meet.result c.as_mut_slice.ensures.value c.meet.ensures.met c.meet.ensures.found c.meet.auto.told in
    let full = eqb-true _ 16 (sym c.is_full.ensures.value ∙ c.if-is_full.true) in
    let more : c.saturating_add-self.result ≡ capped (c.args.self.now.untold + 1) = omega arith in
    looked_full c.args.self.now _ c.meet.new.told seen s c.args.name.now (stamp_micros c.args.stamp) c.meet.result l is at h refl more c.if-meet.false full

pub returns-else-is_full-clause-met : goal.returns-else-is_full-clause-met
returns-else-is_full-clause-met c = λ seen s named is at h.
    let l = looked c.args.self.now _ c.meet.new.told c.args.name.now (stamp_micros c.args.stamp) c.meet.result c.as_mut_slice.ensures.value c.meet.ensures.met c.meet.ensures.found c.meet.auto.told in
    let some = eqb-false _ 16 (sym c.is_full.ensures.value ∙ c.if-is_full.false) in
    let a = c.args.self.now in
    let room : length (refill (length a.told.items) a.told.items c.meet.new.told) < 16 = omega (arith, some, c.is_full.ensures.fits) in
    looked_new a _ c.meet.new.told seen s c.args.name.now (stamp_micros c.args.stamp) c.meet.result l is at h _ c.push.ensures.items
    (c.add.ensures ∙ ap (with_stamp (stamp_micros c.args.stamp)) (c.named-interface.ensures named)) refl c.if-meet.false room
