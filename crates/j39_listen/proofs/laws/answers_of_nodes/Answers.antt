use Rattle.j39_listen.proofs.AnswerExisting.{answers_exist, command_exists, one_list_of_answers}
use Rattle.j39_listen.proofs.laws.answers_of_nodes.Goals as goal

pub returns : goal.returns
returns c = record { at_a_frame = command_exists; some = answers_exist; one = one_list_of_answers }
