-- What answers a command: its task, or why there is none.
use Rattle.std.specs.Prelude.{◌≡◌, ◌≢◌, ◌∷◌, [], ℕ, List, Option, Some, None, Result, Ok, Err, codes}
use Rattle.std.specs.Option.{ForSome}
use Rattle.clap.specs.Words.{Text}
use Rattle.j39_log.specs.Bus.{IsBusName}
use Rattle.j39_cli.specs.declared.task.Argument.{Argument}
use Rattle.j39_cli.specs.declared.task.Argument.TheVariants as argument
use Rattle.j39_cli.specs.declared.task.LogInput.{LogInput}
use Rattle.j39_cli.specs.declared.task.Task.{Task}
use Rattle.j39_cli.specs.declared.task.ParseFault.{ParseFault}
use Rattle.j39_cli.specs.declared.task.ParseFault.TheVariants as fault

-- an argument as help spells it
abbrev pub argument_text : Argument → List ℕ
argument_text argument.Bus = codes "--bus"
argument_text argument.Name = codes "--name"
argument_text argument.Address = codes "--address"
argument_text argument.Source = codes "--source"
argument_text argument.Pgn = codes "--pgn"
argument_text argument.Pgns = codes "--pgn"
argument_text argument.At = codes "--at"
argument_text argument.Hex = codes "HEX"
argument_text argument.Spn = codes "--spn"
argument_text argument.From = codes "--from"
argument_text argument.To = codes "--to"
argument_text argument.Since = codes "--since"
argument_text argument.Until = codes "--until"
argument_text argument.Every = codes "--every"
argument_text argument.Silent = codes "--silent"
argument_text argument.Conversion = codes "--conversion"
argument_text argument.Rows = codes "--rows"
argument_text argument.Width = codes "--width"
argument_text argument.Together = codes "--all, --changes, --now together"
argument_text argument.Forms = codes "--csv, --json, --utc together"

-- what it takes, told where the value is wrong, but for those of which that line stands alone
abbrev pub argument_form : Argument → Option (List ℕ)
argument_form argument.Bus = None
argument_form argument.Name = None
argument_form argument.Address = None
argument_form argument.Source = None
argument_form argument.Pgn = None
argument_form argument.At = None
argument_form argument.Hex = None
argument_form argument.Pgns = Some (codes "--pgn takes up to 32 numbers below 262144 (decimal) with commas between, as 61444,65262")
argument_form argument.Spn = Some (codes "--spn takes up to 32 numbers below 524288 with commas between, as 190,110")
argument_form argument.From = Some (codes "--from takes up to 32 addresses (hex) or NAMEs (16 hex digits) with commas between, as 00,8000000001401234")
argument_form argument.To = Some (codes "--to takes up to 32 addresses (hex) with commas between, as 0B,FF")
argument_form argument.Since = Some (codes "--since takes 1700000000.5, 2023-11-14T22:13:20Z, or +90 behind the first frame")
argument_form argument.Until = Some (codes "--until takes 1700000000.5, 2023-11-14T22:13:20Z, or +90 behind the first frame")
argument_form argument.Every = Some (codes "--every takes seconds from 0.000001 to 86400, as 0.5")
argument_form argument.Silent = Some (codes "--silent takes seconds, as 0.5")
argument_form argument.Conversion = Some (codes "--conversion takes versions from 1 to 3, as 2, or of NAMEs, as 8000000001401234=1,2")
argument_form argument.Rows = Some (codes "--rows takes 2 to 1000")
argument_form argument.Width = Some (codes "--width takes 20 to 512")
argument_form argument.Together = Some (codes "one of --all, --changes and --now goes at a time")
argument_form argument.Forms = Some (codes "one of --csv, --json and --utc goes at a time")

-- ---- the answer to a command that is spelled

abbrev pub Answer : Type 0
Answer = Result Task ParseFault

-- this one, or memory was refused
abbrev pub IsMemory : ParseFault → Type 0
IsMemory fault.Memory = Unit {0}
IsMemory (fault.Usage text) = ⊥
IsMemory (fault.BadValue a) = ⊥
IsMemory (fault.Help text) = ⊥

abbrev pub OrMemory : {T : Type 0} → (T → Type 0) → Result T ParseFault → Type 0
OrMemory Is (Ok x) = Is x
OrMemory Is (Err e) = IsMemory e

-- this argument's value is wrong, or memory was refused
abbrev pub IsFaultOf : Argument → ParseFault → Type 0
IsFaultOf a fault.Memory = Unit {0}
IsFaultOf a (fault.Usage text) = ⊥
IsFaultOf a (fault.BadValue b) = b ≡ a
IsFaultOf a (fault.Help text) = ⊥

abbrev pub IsWrong : {T : Type 0} → Argument → Result T ParseFault → Type 0
IsWrong a (Ok x) = ⊥
IsWrong a (Err e) = IsFaultOf a e

-- where the value of the argument is in range, the answer is the next one; else that it is wrong
pub record IsChecked {T : Type 0} (InRange : Type 0) (a : Argument) (Next : Result T ParseFault → Type 0) (r : Result T ParseFault)
    : Type 0 where
  pub in_range : InRange → Next r
  pub wrong : ¬ InRange → IsWrong a r

-- what an argument's value has to be
pub record Check : Type 1 where
  pub InRange : Type 0
  pub argument : Argument

abbrev pub check : Type 0 → Argument → Check
check InRange a = record { InRange = InRange; argument = a }

-- the same of a value that may be left out
abbrev pub value_check : (Text → Type 0) → Argument → Option Text → Check
value_check InRange a text = check (ForSome text InRange) a

abbrev pub bus_check : Option Text → Check
bus_check bus = value_check IsBusName argument.Bus bus

-- values are checked one after the other: the first that is wrong is told; where none is, comes what is next
abbrev pub AreChecked : {T : Type 0} → List Check → (Result T ParseFault → Type 0) → Result T ParseFault → Type 0
AreChecked [] Next r = Next r
AreChecked (c ∷ cs) Next r = IsChecked c.InRange c.argument (AreChecked cs Next) r

-- ---- what is read of values, and of FILE

-- it is so, and nothing is wrong
abbrev pub IsRead : {T : Type 0} → (T → Type 0) → Result T ParseFault → Type 0
IsRead Is (Ok x) = Is x
IsRead Is (Err e) = ⊥

-- what is read of the values that are checked is so; it wants no memory
pub record IsReadAs {T : Type 0} (checks : List Check) (Is : T → Type 0) (r : Result T ParseFault) : Type 0 where
  pub read : AreChecked checks (IsRead Is) r
  pub memory : r ≢ Err fault.Memory

-- the log of the bus, and of each FILE; else memory to keep them was refused
abbrev pub IsInput : Option Text → List Text → Result LogInput ParseFault → Type 0
IsInput bus file (Ok input) = (input.bus ≡ bus) × (input.file ≡ file)
IsInput bus file (Err e) = (e ≡ fault.Memory) × (file ≢ [])
