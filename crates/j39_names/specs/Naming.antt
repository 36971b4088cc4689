-- Names of one's own, and by which names numbers are called.
use Rattle.std.specs.Prelude.{◌==◌, ◌&&◌, ℕ, Bool, true, false, List, [], Option, find, option_map}
use Rattle.std.specs.Option.{option_or}
use Rattle.j39_groups.specs.Names.{group_name_in, parameter_name}
use Rattle.j39_groups.specs.Row.{RowRecord}
use Rattle.j39_names.specs.Called.{function_called, group_called, maker_called, parameter_called}
use Rattle.j39_names.specs.declared.naming.Kind.{Kind}
use Rattle.j39_names.specs.declared.naming.Kind.TheVariants.{Parameter, Group, Function, Maker}
use Rattle.j39_names.specs.declared.naming.Named.{Named}
use Rattle.j39_names.specs.declared.naming.Naming.{Naming}

abbrev pub is_same_kind : Kind → Kind → Bool
is_same_kind Parameter Parameter = true
is_same_kind Group Group = true
is_same_kind Function Function = true
is_same_kind Maker Maker = true
is_same_kind one other = false

-- it is this number of this kind
abbrev pub is_of : Kind → ℕ → Named → Bool
is_of kind number named = is_same_kind named.kind kind && named.number == number

-- what it is called by names of one's own, as by the first of them that is of it
abbrev pub own_name : List Named → Kind → ℕ → Option (List ℕ)
own_name own kind number = option_map (λ named. named.name.now) (find (is_of kind number) own)

-- names of one's own, and the rows of a table
pub record NamingRecord : Type 0 where
  pub own : List Named
  pub rows : List RowRecord

abbrev pub naming_of : Naming → NamingRecord
naming_of n = record { own = n.own.now; rows = n.groups.now }

abbrev pub by_table : List RowRecord → NamingRecord
by_table rows = record { own = []; rows = rows }

-- a parameter and a group are called by one's own name, or else by that of the table, or else by that which is built in
unfoldable pub parameter_by : NamingRecord → ℕ → Option (List ℕ)
parameter_by n spn = option_or (own_name n.own Parameter spn) (option_or (parameter_name n.rows spn) (parameter_called spn))

unfoldable pub group_by : NamingRecord → ℕ → Option (List ℕ)
group_by n pgn = option_or (own_name n.own Group pgn) (option_or (group_name_in n.rows pgn) (group_called pgn))

-- a function of a NAME, and who has a manufacturer code, by one's own name, or else by that which is built in
unfoldable pub function_by : List Named → ℕ → Option (List ℕ)
function_by own function = option_or (own_name own Function function) (function_called function)

unfoldable pub maker_by : List Named → ℕ → Option (List ℕ)
maker_by own code = option_or (own_name own Maker code) (maker_called code)
