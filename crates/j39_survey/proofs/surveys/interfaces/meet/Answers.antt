-- One interface after the other.
use Rattle.j39_survey.proofs.Common.{◌≡◌, ◌||◌, ◌∙◌, ap, ap₂, sym, Bool, get_or, add-one, bytes_eq, stamp_micros}
use Rattle.j39_survey.specs.Interfaces.{InterfaceRecord}
use Rattle.j39_survey.specs.SurveyModels.{interface_record}
use Rattle.j39_survey.specs.SurveySoFar.{met_on}
use Rattle.j39_survey.proofs.InterfaceLemmas.{any_more, met_at, same_at}
use Rattle.j39_survey.proofs.surveys.interfaces.meet.Goals as goal

pub loop-interface-preserved : goal.loop-interface-preserved
loop-interface-preserved c =
    let i = c.loop-interface.interface-index in
    let told = c.loop-interface.told in
    let init = c.args.told.now in
    let x = c.interface-item.result in
    let g = met_on c.args.name.now (stamp_micros c.args.stamp) in
    let below = c.loop-interface-test.true in
    let inv = c.loop-interface.invariant in
    let same = same_at interface_record g told init i x below inv.0 in
    let found : c.add_where-is_told.result ≡ bytes_eq c.args.name.now (interface_record (get_or told i x)).name = c.add_where-is_told.ensures.found in (
      rw (add-one i) (met_at interface_record g told init i c.add_where-is_told.new.self x below inv.0 c.add_where-is_told.ensures.met),
      ap₂ (λ (a b : Bool). a || b) inv.1 (found ∙ ap (λ (r : InterfaceRecord). bytes_eq c.args.name.now r.name) same)
          ∙ sym (any_more interface_record (λ r. bytes_eq c.args.name.now r.name) init i x below),
    )
