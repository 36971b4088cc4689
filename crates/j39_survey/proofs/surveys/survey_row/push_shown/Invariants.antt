use Rattle.j39_survey.proofs.Common.{◌≡◌, ◌≤◌, ◌+◌, ◌*◌, ◌++◌, take, flat_map}
use Rattle.arrayvec.specs.ArrayVec.{array_vec_len}
use Rattle.j39_survey.specs.SurveyText.{byte_text}
use Rattle.j39_survey.proofs.surveys.survey_row.push_shown.Given as goal

-- the bytes so far have their texts
abbrev pub invariant-loop-byte : goal.invariant-loop-byte
invariant-loop-byte l =
    (l.text.items ≡ l.initial.text.items ++ flat_map byte_text (take l.byte-index l.bytes))
    × (array_vec_len l.text ≤ array_vec_len l.initial.text + 4 * l.byte-index)
