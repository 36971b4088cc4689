-- The word of the address is changed at its bit.
use Rattle.std.proofs.Common.{◌<◌, ◌/◌, ◌%◌, ◌∙◌, ap, length, get_or, not, rules, bit_or, ◌^◌}
use Rattle.j39_survey.proofs.AddressLemmas.{one_more}
use Rattle.j39_survey.specs.SurveyModels.{has_bit, has_address}
use Rattle.j39_survey.proofs.surveys.addresses.Addresses.add.Goals as goal

pub returns-clause-new : goal.returns-clause-new
unfolding has_address
returns-clause-new c =
    ap not (c.has_bit-is_new.ensures ∙ ap (λ k. has_bit (get_or c.args.self.now.words k 0) (c.args.address % 64)) c.from-at.ensures)

pub returns-clause-added : goal.returns-clause-added
unfolding has_address
returns-clause-added c = λ a.
    let at = c.from-at.ensures in
    let within : c.args.address / 64 < length c.args.self.now.words = search rules in
    rw at (one_more c.args.self.now.words c.args.address a c.with_bit.result within
    (c.with_bit.ensures ∙ ap (λ k. bit_or (get_or c.args.self.now.words k 0) (2 ^ (c.args.address % 64))) at))
