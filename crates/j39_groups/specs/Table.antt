-- The table of parameters (J1939-71): what each row says, in the order in which a group's rows are read.
use Prim.Native.String.{String}
use Rattle.std.specs.Prelude.{ℕ, ℤ, pos, neg_ℤ, List, [], ◌∷◌}
use Rattle.j39_groups.specs.Row.{RowRecord, number_row, switch_row, text_row, texts_row}

infix 90 number◌of◌spn◌bytes◌to◌step◌offset◌places◌unit◌called◌
infix 90 switch◌of◌spn◌byte◌bits◌to◌called◌
infix 90 text◌of◌spn◌part◌called◌
infix 90 texts◌of◌spn◌byte◌parts◌called◌
-- a number in the bytes first to last: `raw * step + offset`, in units of the last printed place
abbrev pub number◌of◌spn◌bytes◌to◌step◌offset◌places◌unit◌called◌ : ℕ → String → ℕ → ℕ → ℕ → ℕ → ℤ → ℕ → String
    → String → RowRecord
number◌of◌spn◌bytes◌to◌step◌offset◌places◌unit◌called◌ = number_row

-- two bits of a byte
abbrev pub switch◌of◌spn◌byte◌bits◌to◌called◌ : ℕ → String → ℕ → ℕ → ℕ → ℕ → String → RowRecord
switch◌of◌spn◌byte◌bits◌to◌called◌ = switch_row

-- a part of the payload between the bytes `*`
abbrev pub text◌of◌spn◌part◌called◌ : ℕ → String → ℕ → ℕ → String → RowRecord
text◌of◌spn◌part◌called◌ = text_row

-- so many parts, at most, of the bytes from this one on
abbrev pub texts◌of◌spn◌byte◌parts◌called◌ : ℕ → String → ℕ → ℕ → ℕ → String → RowRecord
texts◌of◌spn◌byte◌parts◌called◌ = texts_row

abbrev plus : ℕ → ℤ
plus n = pos n

abbrev minus : ℕ → ℤ
minus n = neg_ℤ (pos n)

unfoldable pub the_table : List RowRecord
the_table =
    -- EEC2, electronic engine controller 2
    number 0xF003 of "EEC2" spn 91 bytes 2 to 2 step 4 offset plus 0 places 1 unit "%" called "accelerator pedal position 1" ∷
    number 0xF003 of "EEC2" spn 92 bytes 3 to 3 step 1 offset plus 0 places 0 unit "%" called "percent load at current speed" ∷
    -- EEC1, electronic engine controller 1
    number 0xF004 of "EEC1" spn 512 bytes 2 to 2 step 1 offset minus 125 places 0 unit "%" called "driver's demand percent torque" ∷
    number 0xF004 of "EEC1" spn 513 bytes 3 to 3 step 1 offset minus 125 places 0 unit "%" called "actual percent torque" ∷
    number 0xF004 of "EEC1" spn 190 bytes 4 to 5 step 125 offset plus 0 places 3 unit "rpm" called "engine speed" ∷
    -- VD, vehicle distance
    number 0xFEE0 of "VD" spn 244 bytes 1 to 4 step 125 offset plus 0 places 3 unit "km" called "trip distance" ∷
    number 0xFEE0 of "VD" spn 245 bytes 5 to 8 step 125 offset plus 0 places 3 unit "km" called "total distance" ∷
    -- HOURS, engine hours and revolutions
    number 0xFEE5 of "HOURS" spn 247 bytes 1 to 4 step 5 offset plus 0 places 2 unit "h" called "total engine hours" ∷
    number 0xFEE5 of "HOURS" spn 249 bytes 5 to 8 step 1000 offset plus 0 places 0 unit "r" called "total engine revolutions" ∷
    -- ET1, engine temperature 1
    number 0xFEEE of "ET1" spn 110 bytes 1 to 1 step 1 offset minus 40 places 0 unit "degC" called "coolant temperature" ∷
    number 0xFEEE of "ET1" spn 174 bytes 2 to 2 step 1 offset minus 40 places 0 unit "degC" called "fuel temperature" ∷
    number 0xFEEE of "ET1" spn 175 bytes 3 to 4 step 3125 offset minus 27300000 places 5 unit "degC" called "oil temperature" ∷
    number 0xFEEE of "ET1" spn 176 bytes 5 to 6 step 3125 offset minus 27300000 places 5 unit "degC" called "turbocharger oil temperature" ∷
    number 0xFEEE of "ET1" spn 52 bytes 7 to 7 step 1 offset minus 40 places 0 unit "degC" called "intercooler temperature" ∷
    -- EFL/P1, engine fluid level and pressure 1
    number 0xFEEF of "EFL/P1" spn 94 bytes 1 to 1 step 4 offset plus 0 places 0 unit "kPa" called "fuel delivery pressure" ∷
    number 0xFEEF of "EFL/P1" spn 98 bytes 3 to 3 step 4 offset plus 0 places 1 unit "%" called "oil level" ∷
    number 0xFEEF of "EFL/P1" spn 100 bytes 4 to 4 step 4 offset plus 0 places 0 unit "kPa" called "oil pressure" ∷
    number 0xFEEF of "EFL/P1" spn 109 bytes 7 to 7 step 2 offset plus 0 places 0 unit "kPa" called "coolant pressure" ∷
    number 0xFEEF of "EFL/P1" spn 111 bytes 8 to 8 step 4 offset plus 0 places 1 unit "%" called "coolant level" ∷
    -- CCVS, cruise control and vehicle speed
    switch 0xFEF1 of "CCVS" spn 70 byte 1 bits 3 to 4 called "parking brake switch" ∷
    number 0xFEF1 of "CCVS" spn 84 bytes 2 to 3 step 390625 offset plus 0 places 8 unit "km/h" called "wheel-based vehicle speed" ∷
    switch 0xFEF1 of "CCVS" spn 595 byte 4 bits 1 to 2 called "cruise control active" ∷
    switch 0xFEF1 of "CCVS" spn 597 byte 4 bits 5 to 6 called "brake switch" ∷
    switch 0xFEF1 of "CCVS" spn 598 byte 4 bits 7 to 8 called "clutch switch" ∷
    number 0xFEF1 of "CCVS" spn 86 bytes 6 to 6 step 1 offset plus 0 places 0 unit "km/h" called "cruise control set speed" ∷
    -- LFE, liquid fuel economy
    number 0xFEF2 of "LFE" spn 183 bytes 1 to 2 step 5 offset plus 0 places 2 unit "L/h" called "fuel rate" ∷
    number 0xFEF2 of "LFE" spn 184 bytes 3 to 4 step 1953125 offset plus 0 places 9 unit "km/L" called "instantaneous fuel economy" ∷
    -- AMB, ambient conditions
    number 0xFEF5 of "AMB" spn 108 bytes 1 to 1 step 5 offset plus 0 places 1 unit "kPa" called "barometric pressure" ∷
    number 0xFEF5 of "AMB" spn 171 bytes 4 to 5 step 3125 offset minus 27300000 places 5 unit "degC" called "ambient air temperature" ∷
    number 0xFEF5 of "AMB" spn 172 bytes 6 to 6 step 1 offset minus 40 places 0 unit "degC" called "air inlet temperature" ∷
    -- IC1, inlet and exhaust conditions 1
    number 0xFEF6 of "IC1" spn 102 bytes 2 to 2 step 2 offset plus 0 places 0 unit "kPa" called "boost pressure" ∷
    number 0xFEF6 of "IC1" spn 105 bytes 3 to 3 step 1 offset minus 40 places 0 unit "degC" called "intake manifold temperature" ∷
    number 0xFEF6 of "IC1" spn 173 bytes 6 to 7 step 3125 offset minus 27300000 places 5 unit "degC" called "exhaust gas temperature" ∷
    -- VEP1, vehicle electrical power 1
    number 0xFEF7 of "VEP1" spn 168 bytes 5 to 6 step 5 offset plus 0 places 2 unit "V" called "battery potential" ∷
    -- DD, dash display
    number 0xFEFC of "DD" spn 96 bytes 2 to 2 step 4 offset plus 0 places 1 unit "%" called "fuel level" ∷
    -- VI, vehicle identification
    text 0xFEEC of "VI" spn 237 part 1 called "vehicle identification number" ∷
    -- CI, component identification
    text 0xFEEB of "CI" spn 586 part 1 called "make" ∷
    text 0xFEEB of "CI" spn 587 part 2 called "model" ∷
    text 0xFEEB of "CI" spn 588 part 3 called "serial number" ∷
    text 0xFEEB of "CI" spn 233 part 4 called "unit number" ∷
    -- SOFT, software identification (J1939-71 names the parameters; this layout is the project's own)
    number 0xFEDA of "SOFT" spn 965 bytes 1 to 1 step 1 offset plus 0 places 0 unit "fields" called "number of software identification fields" ∷
    texts 0xFEDA of "SOFT" spn 234 byte 2 parts 31 called "software identification" ∷
    []
