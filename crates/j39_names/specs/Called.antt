-- What the numbers are called that are built in.
use Rattle.std.specs.Prelude.{ℕ, List, Option}
use Rattle.j39_names.specs.Names.{name_in}
use Rattle.j39_names.specs.declared.functions.TheConstants as functions
use Rattle.j39_names.specs.declared.groups.TheConstants as groups
use Rattle.j39_names.specs.declared.makers.TheConstants as makers
use Rattle.j39_names.specs.declared.parameters.TheConstants as parameters

-- a parameter
unfoldable pub parameter_called : ℕ → Option (List ℕ)
parameter_called spn = name_in (record { numbers = parameters.NUMBERS; starts = parameters.STARTS; text = parameters.NAMES.now }) spn

-- a group, by its short name
unfoldable pub group_called : ℕ → Option (List ℕ)
group_called pgn = name_in (record { numbers = groups.NUMBERS; starts = groups.STARTS; text = groups.NAMES.now }) pgn

-- a function of a NAME
unfoldable pub function_called : ℕ → Option (List ℕ)
function_called function = name_in (record { numbers = functions.NUMBERS; starts = functions.STARTS; text = functions.NAMES.now }) function

-- who has a manufacturer code
unfoldable pub maker_called : ℕ → Option (List ℕ)
maker_called code = name_in (record { numbers = makers.NUMBERS; starts = makers.STARTS; text = makers.NAMES.now }) code
