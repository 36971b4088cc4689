use Rattle.j39_survey.proofs.Common.{◌≡◌, ◌++◌, take, drop, map, list_any, bytes_eq, stamp_micros}
use Rattle.j39_survey.specs.SurveyModels.{interface_record}
use Rattle.j39_survey.specs.SurveySoFar.{met_on}
use Rattle.j39_survey.proofs.surveys.interfaces.meet.Given as goal

-- the interfaces before this one were looked at, and those from here on are as they were
abbrev pub invariant-loop-interface : goal.invariant-loop-interface
invariant-loop-interface l =
    (map interface_record l.told ≡ map (met_on l.name (stamp_micros l.stamp)) (map interface_record (take l.interface-index l.initial.told))
    ++ map interface_record (drop l.interface-index l.initial.told))
    × (l.is_told ≡ list_any (λ i. bytes_eq l.name i.name) (map interface_record (take l.interface-index l.initial.told)))
