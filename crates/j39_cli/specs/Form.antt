-- What a command is: its words, and what a task comes to.
use Rattle.std.specs.Prelude.{◌≡◌, ◌≢◌, ◌⊎◌, ◌==◌, ◌∷◌, ◌++◌, ℕ, Bool, true, false, List, [], Option, Some, None, codes, option_map, unwrap_or}
use Rattle.std.specs.Option.{option_map_or}
use Rattle.j39_io.specs.Turn.{Turn}
use Rattle.clap.specs.Words.{Row, Text, all_of, first_of, first_value, matched_of, raw_values}
use Rattle.clap.specs.declared.parser.matches.Found.{Found}
use Rattle.j39_groups.specs.Row.{RowRecord}
use Rattle.j39_names.specs.Naming.{NamingRecord}
use Rattle.j39_cli.specs.Answer.{Check}
use Rattle.j39_cli.specs.Rules.{is_given}
use Rattle.j39_cli.specs.WholeText.{IsShown}
use Rattle.j39_cli.specs.declared.task.Task.{Task}

-- ---- words

-- an argument of a command, by its name, with its text where it is given: `--name TEXT`, the flag `--name`, a value that
-- stands alone, or as many as there are
pub data ArgumentText : Type 0 where
  option : Text → Option Text → ArgumentText
  flag : Text → Bool → ArgumentText
  value : Text → Option Text → ArgumentText
  values : Text → List Text → ArgumentText

-- how an option and a flag are spelled
abbrev pub spelled : Text → Text
spelled name = codes "--" ++ name

-- the words of an argument: none where it isn't given
abbrev pub argument_words : ArgumentText → List Text
argument_words (option name None) = []
argument_words (option name (Some text)) = spelled name ∷ text ∷ []
argument_words (flag name false) = []
argument_words (flag name true) = spelled name ∷ []
argument_words (value name None) = []
argument_words (value name (Some text)) = text ∷ []
argument_words (values name texts) = texts

abbrev pub words_in : List ArgumentText → List Text
words_in [] = []
words_in (x ∷ xs) = argument_words x ++ words_in xs

abbrev pub hyphen : ℕ
hyphen = 0x2D

-- a value stands in a word of its own: one letter, as `-`, or more with no `-` in front
abbrev pub IsValue : Text → Type 0
IsValue [] = ⊥
IsValue (letter ∷ []) = Unit {0}
IsValue (first ∷ second ∷ rest) = (first == hyphen) ≡ false

abbrev pub IsValueIfGiven : Option Text → Type 0
IsValueIfGiven None = Unit {0}
IsValueIfGiven (Some text) = IsValue text

abbrev pub AreValues : List Text → Type 0
AreValues [] = Unit {0}
AreValues (text ∷ texts) = IsValue text × AreValues texts

abbrev pub HasValue : ArgumentText → Type 0
HasValue (option name text) = IsValueIfGiven text
HasValue (flag name is_set) = Unit {0}
HasValue (value name text) = IsValueIfGiven text
HasValue (values name texts) = AreValues texts

-- each argument has its value in a word of its own
abbrev pub HaveValues : List ArgumentText → Type 0
HaveValues [] = Unit {0}
HaveValues (x ∷ xs) = HasValue x × HaveValues xs

-- all texts that clap met of an argument
abbrev pub texts_of : Text → List Row → List Text
texts_of name rows = unwrap_or (all_of name rows) []

-- a text that must be given: empty where it isn't found
abbrev pub text_found : Found → Text → Text
text_found found argument = option_map_or (λ text. text) (first_value found argument) []

-- the texts of an argument that takes as many as there are
abbrev pub texts_found : Found → Text → List Text
texts_found found argument = unwrap_or (option_map raw_values (matched_of found argument)) []

abbrev pub HasText : List Row → ArgumentText → Type 0
HasText rows (option name text) = first_of name rows ≡ text
HasText rows (flag name is_set) = is_given (first_of name rows) ≡ is_set
HasText rows (value name text) = first_of name rows ≡ text
HasText rows (values name texts) = texts_of name rows ≡ texts

-- these are the texts that clap met
abbrev pub HaveTexts : List Row → List ArgumentText → Type 0
HaveTexts rows [] = Unit {0}
HaveTexts rows (x ∷ xs) = HasText rows x × HaveTexts rows xs

-- memory is wanted to keep the values of an argument that takes as many as there are, where some are given
abbrev pub WantsMemory : List ArgumentText → Type 0
WantsMemory [] = ⊥
WantsMemory (option name text ∷ xs) = WantsMemory xs
WantsMemory (flag name is_set ∷ xs) = WantsMemory xs
WantsMemory (value name text ∷ xs) = WantsMemory xs
WantsMemory (values name texts ∷ xs) = (texts ≢ []) ⊎ WantsMemory xs

-- a command with the texts of its values: its name, its arguments in the order of the words behind it, of which those that
-- must be given have a text, what they have to be, and the task that it is
pub record Form : Type 1 where
  pub called : Text
  pub arguments : List ArgumentText
  pub checks : List Check
  pub Is : Task → Type 0

-- ---- tasks

-- a task with its values: each FILE, `--table` and `--names`, where they are given; the head of its lines, `--head`; whether the values are those that the command line
-- takes; whether it reads a log; and by a table of parameters its status, and what it leaves of the reader, the writer
-- and the error writer
pub record Meaning : Type 1 where
  pub file : List (List ℕ)
  pub table : Option (List ℕ)
  pub names : Option (List ℕ)
  pub head : Option (List ℕ)
  pub InRange : Type 0
  pub reads_log : Bool
  pub Performs : NamingRecord → ℕ → Turn → Turn → Turn → Type 0

-- a task that reads no log, and writes this text of a table
abbrev pub shows : Type 0 → (List RowRecord → List ℕ) → Meaning
shows InRange text = record {
  file = [];
  table = None;
  names = None;
  head = None;
  InRange = InRange;
  reads_log = false;
  Performs = λ naming status log out err. IsShown (text naming.rows) status out err;
}
