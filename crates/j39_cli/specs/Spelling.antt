-- What clap meets in the words of a command line, however they spell it: an option behind FILE too, and `--bus=can0`.
use Rattle.std.specs.Prelude.{◌≡◌, List, [], Option, Some}
use Rattle.clap.specs.Words.{Row, Text, fault_of, subcommand_of}
use Rattle.j39_cli.specs.Command.{line_app}
use Rattle.j39_cli.specs.CommandWords.{CommandWords, HasTexts}

-- the command that clap entered is s, with its texts
pub record IsEntered (command : Option (Text × List Row)) (s : CommandWords) : Type 0 where
  pub met : Text × List Row
  pub met_is : command ≡ Some met
  pub texts : HasTexts s met

-- clap finds no fault in the words, of which the first is the program's name, and enters the command s
pub record IsSpelled (words : List Text) (s : CommandWords) : Type 0 where
  pub faultless : fault_of line_app words ≡ []
  pub enters : IsEntered (subcommand_of line_app words) s
