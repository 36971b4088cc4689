-- What the program does for its words: a task over its log and by its table, or what is told in its place.
use Rattle.std.specs.Prelude.{◌≡◌, ◌⊎◌, ◌↔◌, ◌∷◌, ℕ, false, true, IfOk, List, [], MatchOption, MatchResult, Option, codes, length, map}
use Rattle.std.specs.List.{All, Contains}
use Rattle.j39_io.specs.Turn.{Device, Turn}
use Rattle.j39_groups.specs.Row.{RowRecord}
use Rattle.j39_groups.specs.Table.{the_table}
use Rattle.j39_names.specs.Naming.{NamingRecord}
use Rattle.j39_names.specs.declared.naming.Named.{Named}
use Rattle.j39_table.specs.Names.{IsNamesFault, IsNamesOf}
use Rattle.j39_table.specs.Tables.{IsFaultOf, IsTableOf}
use Rattle.j39_table.specs.declared.fault.TableFault.{TableFault}
use Rattle.j39_table.specs.declared.fault.TableFault.TheVariants.{Memory}
use Rattle.j39_cli.specs.Answer.{Answer}
use Rattle.j39_cli.specs.CommandWords.{CommandWords, HasValues, IsAnswer, words_of}
use Rattle.j39_cli.specs.Joined.{joined_known}
use Rattle.j39_cli.specs.LogCommand.{inputs_of}
use Rattle.j39_cli.specs.FileEnds.{Ends, IsEndsOfSome, files_text}
use Rattle.j39_cli.specs.OwnTable.{table_line}
use Rattle.j39_cli.specs.Refusal.{IsHelp, IsWrongLine, error_line, error_words, folder_line, out_words}
use Rattle.j39_cli.specs.Spelling.{IsSpelled}
use Rattle.j39_cli.specs.Task.{IsPerformed, asks_input_twice, files_of, names_of, table_of}
use Rattle.j39_cli.specs.Tells.{Tells}
use Rattle.j39_cli.specs.Unknown.{asks_for_unknown, unknown_text}
use Rattle.j39_cli.specs.declared.task.ParseFault.{ParseFault}
use Rattle.j39_cli.specs.declared.task.ParseFault.TheVariants as refused
use Rattle.j39_cli.specs.declared.task.Task.{Task}

-- this line alone is told, with status 1
pub record TellsLine (line : List ℕ) (status : ℕ) (out err : Turn) : Type 0 where
  pub status_is : status ≡ 1
  pub silent : out.new ≡ out.old
  pub told : Tells err line

-- that this is a folder is told
abbrev pub TellsFolder : List ℕ → ℕ → Turn → Turn → Type 0
TellsFolder file status out err = TellsLine (folder_line file) status out err

-- that a file can't be opened is told
abbrev pub TellsUnopened : List ℕ → ℕ → Turn → Turn → Type 0
TellsUnopened file status out err = TellsLine (error_line (codes "cannot open ") file) status out err

-- what is wrong with the table or the names of this name is told
abbrev pub TellsFault : List ℕ → TableFault → ℕ → Turn → Turn → Type 0
TellsFault name fault status out err = TellsLine (table_line name fault) status out err

-- the task was performed by these names over what each of its FILEs holds, one behind the other, as one log that no fault has
-- come to; before that it was told which of them is no log and which begins before the end of those before it, by what was seen at
-- both ends of each
pub record IsDoneOver (naming : NamingRecord) (task : Task) (status : ℕ) (out err : Turn) : Type 0 where
  pub ends : List Ends
  pub of_each : map (λ (e : Ends). e.file) ends ≡ files_of task
  pub seen : All IsEndsOfSome ends
  pub between : Device
  pub told : Tells (record { old = err.old; new = between }) (files_text ends)
  pub held : List (Option (List ℕ))
  pub each : length held ≡ length (inputs_of (files_of task))
  pub log : Turn
  pub joined : log.old.bytes ≡ joined_known held
  pub sound : log.old.has_failed ≡ false
  pub performed : IsPerformed naming task status log out (record { old = between; new = err.new })

-- so it was; or one of its FILEs can't be opened or is a folder, or memory for all of them was refused, and nothing is written
abbrev pub IsDoneOnce : NamingRecord → Task → ℕ → Turn → Turn → Type 0
IsDoneOnce naming task status out err =
    IsDoneOver naming task status out err
    ⊎ (((file : List ℕ) × Contains (files_of task) file × (TellsUnopened file status out err ⊎ TellsFolder file status out err))
    ⊎ TellsLine (error_line (codes "out of memory") []) status out err)

-- no row has any of the parameters that are asked for: that is told, and no log is opened
pub record FindsNone (rows : List RowRecord) (task : Task) (status : ℕ) (out err : Turn) : Type 0 where
  pub status_is : status ≡ 2
  pub none_found : asks_for_unknown rows task ≡ true
  pub silent : out.new ≡ out.old
  pub told : Tells err (unknown_text rows task)

-- it was done behind the words on those that no row has
pub record IsDoneBehind (naming : NamingRecord) (task : Task) (status : ℕ) (out err : Turn) : Type 0 where
  pub some_found : asks_for_unknown naming.rows task ≡ false
  pub between : Device
  pub told : Tells (record { old = err.old; new = between }) (unknown_text naming.rows task)
  pub done : IsDoneOnce naming task status out (record { old = between; new = err.new })

abbrev pub IsDoneBy : NamingRecord → Task → ℕ → Turn → Turn → Type 0
IsDoneBy naming task status out err = FindsNone naming.rows task status out err ⊎ IsDoneBehind naming task status out err

-- a file has a text, and this was done by it; or the file can't be read, or is a folder, or memory for its text was refused
abbrev pub IsDoneByFile : (List ℕ → ℕ → Turn → Turn → Type 0) → List ℕ → ℕ → Turn → Turn → Type 0
IsDoneByFile ByText name status out err =
    ((text : List ℕ) × ByText text status out err)
    ⊎ (TellsUnopened name status out err ⊎ (TellsFolder name status out err ⊎ TellsFault name Memory status out err))

-- the task was done by these names of one's own and the rows that a table's text says; or the text says none, and why is told
abbrev pub IsDoneByText : List Named → List ℕ → Task → List ℕ → ℕ → Turn → Turn → Type 0
IsDoneByText own name task text status out err =
    ((rows : List RowRecord) × IsTableOf text rows × IsDoneBy (record { own = own; rows = rows }) task status out err)
    ⊎ ((fault : TableFault) × IsFaultOf text fault × TellsFault name fault status out err)

-- the task was done by these names of one's own and the table that it names, or else the built-in one
abbrev pub IsDoneNaming : List Named → Task → ℕ → Turn → Turn → Type 0
IsDoneNaming own task status out err =
    MatchOption (table_of task) (IsDoneBy (record { own = own; rows = the_table }) task status out err)
    (λ name. IsDoneByFile (IsDoneByText own name task) name status out err)

-- so it was by the names that a text says; or the text says none, and why is told
abbrev pub IsDoneByNames : List ℕ → Task → List ℕ → ℕ → Turn → Turn → Type 0
IsDoneByNames name task text status out err =
    ((own : List Named) × IsNamesOf text own × IsDoneNaming own task status out err)
    ⊎ ((fault : TableFault) × IsNamesFault text fault × TellsFault name fault status out err)

-- so it was by the names of one's own that it names, or else by none
abbrev pub IsDone : Task → ℕ → Turn → Turn → Type 0
IsDone task status out err =
    MatchOption (names_of task) (IsDoneNaming [] task status out err)
    (λ name. IsDoneByFile (IsDoneByNames name task) name status out err)

-- standard input is asked for twice: that is told, and nothing is opened
pub record AsksInputTwice (task : Task) (status : ℕ) (out err : Turn) : Type 0 where
  pub status_is : status ≡ 2
  pub is_twice : asks_input_twice task ≡ true
  pub silent : out.new ≡ out.old
  pub told : Tells err (error_line (codes "standard input (-) twice among FILE") [])

-- ---- the words

-- what `parse` may answer to the words, of which the first is the program's name
pub record IsParsed (words : List (List ℕ)) (answer : Answer) : Type 0 where
  -- a command that is spelled as the help says is answered
  pub spelled : (program : List ℕ) (s : CommandWords) → HasValues s → words ≡ program ∷ words_of s → IsAnswer s answer
  -- a task is that of a command that the words spell
  pub task : IfOk answer (λ _. (s : CommandWords) × IsSpelled words s × IsAnswer s answer)

-- there is no task, and why is told: 0 for help, 1 for want of memory, 2 for wrong words
pub record TellsWhy (fault : ParseFault) (status : ℕ) (out err : Turn) : Type 0 where
  pub help : (status ≡ 0) ↔ IsHelp fault
  pub memory : (status ≡ 1) ↔ (fault ≡ refused.Memory)
  pub wrong : (status ≡ 2) ↔ IsWrongLine fault
  pub out_told : Tells out (out_words fault)
  pub err_told : Tells err (error_words fault)

-- the task that the words ask for was done, or why there is none is told
pub record Follows (words : List (List ℕ)) (status : ℕ) (out err : Turn) : Type 0 where
  pub answer : Answer
  pub parsed : IsParsed words answer
  pub ends : MatchResult answer (λ task. AsksInputTwice task status out err ⊎ ((asks_input_twice task ≡ false) × IsDone task status out err)) (λ fault. TellsWhy fault status out err)
