-- What the program says where it has no task.
use Rattle.std.specs.Prelude.{◌++◌, ◌∷◌, ℕ, List, [], Option, Some, None, codes, string_bytes}
use Rattle.j39_io.specs.Chars.{newline}
use Rattle.j39_cli.specs.Answer.{argument_form, argument_text}
use Rattle.j39_cli.specs.declared.task.Argument.{Argument}
use Rattle.j39_cli.specs.declared.task.ParseFault.{ParseFault}
use Rattle.j39_cli.specs.declared.task.ParseFault.TheVariants.{Memory, Usage, BadValue, Help}

-- the words ask for help
abbrev pub IsHelp : ParseFault → Type 0
IsHelp Memory = ⊥
IsHelp (Usage text) = ⊥
IsHelp (BadValue argument) = ⊥
IsHelp (Help text) = Unit {0}

-- the words are no command, or one of its values is out of range
abbrev pub IsWrongLine : ParseFault → Type 0
IsWrongLine Memory = ⊥
IsWrongLine (Usage text) = Unit {0}
IsWrongLine (BadValue argument) = Unit {0}
IsWrongLine (Help text) = ⊥

-- a line of the program's own on standard error
abbrev pub error_line : List ℕ → List ℕ → List ℕ
error_line words name = codes "j1939: " ++ (words ++ (name ++ newline ∷ []))

-- of a folder in the place of a file
abbrev pub folder_line : List ℕ → List ℕ
folder_line folder = error_line folder (codes " is a folder")

-- what an argument takes, in a line of its own
abbrev pub form_line : Option (List ℕ) → List ℕ
form_line None = []
form_line (Some form) = error_line form []

-- of a value that is wrong
abbrev pub wrong_value : Argument → List ℕ
wrong_value argument = error_line (codes "bad value for ") (argument_text argument) ++ form_line (argument_form argument)

-- what standard output is told
abbrev pub out_words : ParseFault → List ℕ
out_words Memory = []
out_words (Usage text) = []
out_words (BadValue argument) = []
out_words (Help text) = string_bytes text

-- what standard error is told
abbrev pub error_words : ParseFault → List ℕ
error_words Memory = error_line (codes "out of memory") []
error_words (Usage text) = string_bytes text
error_words (BadValue argument) = wrong_value argument
error_words (Help text) = []
