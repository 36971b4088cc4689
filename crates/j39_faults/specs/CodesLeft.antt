-- The codes that are left to be told.
use Rattle.std.specs.Prelude.{◌-◌, List}
use Rattle.std.specs.List.{filter_map, range_with_len}
use Rattle.j39_faults.specs.declared.code.Code.{Code}
use Rattle.j39_faults.specs.declared.codes.Codes.{Codes}
use Rattle.j39_faults.specs.Codes.{code_at, places_of}

-- those from the next place on
unfoldable pub codes_left : Codes → List Code
codes_left codes = filter_map (code_at codes.payload.now)
    (range_with_len codes.place (places_of codes.payload.now - codes.place))
