-- What was appended for each lamp is the text.
use Rattle.std.proofs.Common.{◌≡◌, ◌∙◌}
use Rattle.j39_faults.proofs.LampLemmas.{all_joined, lamps_in_a_row}
use Rattle.j39_faults.proofs.lamp_names.lamps_in_words.Goals as goal

pub returns-clause-text : goal.returns-clause-text
returns-clause-text c =
    let row : c.push_lamp-4.new.text.items ≡ lamps_in_a_row c.args.lamps = cc in row ∙ all_joined c.args.lamps
