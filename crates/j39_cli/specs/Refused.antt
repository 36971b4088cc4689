-- What is said of words that clap refuses.
use Rattle.std.specs.Prelude.{◌≡◌, ◌≢◌, ◌⊎◌}
use Rattle.clap.specs.Kinds.{IsAmong, Kinds}
use Rattle.clap.specs.declared.error.kind.ErrorKind.{ErrorKind}
use Rattle.clap.specs.declared.error.kind.ErrorKind.TheVariants as kind
use Rattle.j39_cli.specs.Refusal.{IsHelp}
use Rattle.j39_cli.specs.declared.task.Argument.{Argument}
use Rattle.j39_cli.specs.declared.task.ParseFault.{ParseFault}
use Rattle.j39_cli.specs.declared.task.ParseFault.TheVariants.{BadValue, Memory}

-- clap shows a text that was asked for
abbrev pub IsShownKind : ErrorKind → Type 0
IsShownKind k = (k ≡ kind.DisplayHelp) ⊎ (k ≡ kind.DisplayVersion)

-- of a refusal of this kind: the text that was asked for, or that the words are wrong, or that memory ran out
pub record IsSaid (k : ErrorKind) (fault : ParseFault) : Type 0 where
  pub memory : k ≡ kind.OutOfMemory → fault ≡ Memory
  pub help : IsHelp fault → IsShownKind k
  pub shown : IsShownKind k → IsHelp fault ⊎ (fault ≡ Memory)
  pub no_value : (a : Argument) → fault ≢ BadValue a

-- of a refusal of one of these kinds
pub record IsOfKinds (kinds : Kinds) (fault : ParseFault) : Type 0 where
  pub kind : ErrorKind
  pub among : IsAmong kind kinds
  pub said : IsSaid kind fault

-- words with faults of these kinds are refused so, if memory lasts
abbrev pub IsRefusal : Kinds → ParseFault → Type 0
IsRefusal kinds fault = (fault ≡ Memory) ⊎ IsOfKinds kinds fault
