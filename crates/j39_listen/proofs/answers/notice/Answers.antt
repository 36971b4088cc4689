-- A message is heard at the frame or none, and it commands or not.
use Rattle.std.proofs.Common.{◌∷◌, ◌++◌, [], length, refl, None, Some}
use Rattle.std.specs.Option.{option_map}
use Rattle.j39_address.specs.Command.{command_by}
use Rattle.j39_listen.specs.HeardModel.{hearing_of}
use Rattle.j39_listen.proofs.AnswerLemmas.{heard_command, not_none, silent_command}
use Rattle.j39_listen.proofs.Causal.{frame_new}
use Rattle.j39_listen.proofs.answers.notice.Goals as goal

pub returns-in-Ok-None-clause-notices : goal.returns-in-Ok-None-clause-notices
returns-in-Ok-None-clause-notices c = λ F h.
    let silent = rw c.in-Ok-None.field-0-is at (c.in-Ok-None.ensures.heard F h) in
    record { heard = None; heard_at = silent; messages_are = refl; commanded = silent_command (F ++ c.args.frame.now ∷ []) (length F) silent }

pub returns-in-Ok-Some-clause-notices : goal.returns-in-Ok-Some-clause-notices
returns-in-Ok-Some-clause-notices c = λ F h.
    let hearing = hearing_of c.in-Ok-Some.heard in
    let heard = rw c.in-Ok-Some.field-0-is at (c.in-Ok-Some.ensures.heard F h) in
    record {
      heard = Some hearing;
      heard_at = heard;
      messages_are = refl;
      commanded = heard_command (F ++ c.args.frame.now ∷ []) (length F) hearing c.args.frame.now (option_map command_by c.command_in.result) heard (frame_new F c.args.frame.now)
          (λ command is. c.command_in.ensures.to_all (not_none command_by c.command_in.result command is)) c.command_in.ensures.command;
    }
