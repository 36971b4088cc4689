-- Which groups tell faults, in the same layout, and which clear them (J1939-73, 5.7).
use Rattle.std.specs.Prelude.{◌==◌, ◌+◌, ◌*◌, ℕ, List, ◌∷◌, Option, Some, None, if◌then◌else◌}
use Rattle.j39_frame.specs.Network.{request_group}
use Rattle.j39_faults.specs.declared.kind.Kind.{Kind}
use Rattle.j39_faults.specs.declared.kind.Kind.TheVariants.{Active, Previous, EmissionPending, EmissionActive, EmissionPrevious, Pending, Permanent}

-- DM1, DM2, DM6, DM12, DM23, DM27 and DM28
abbrev pub kind_of : ℕ → Option Kind
kind_of pgn =
    if pgn == 65226 then Some Active else
    (if pgn == 65227 then Some Previous else
    (if pgn == 65231 then Some EmissionPending else
    (if pgn == 65236 then Some EmissionActive else
    (if pgn == 64949 then Some EmissionPrevious else
    (if pgn == 64898 then Some Pending else
    (if pgn == 64896 then Some Permanent else None))))))

-- who asks for DM3 asks to clear the previously active codes, and for DM11 the active ones
abbrev pub cleared_by : ℕ → Option Kind
cleared_by group = if group == 65228 then Some Previous else (if group == 65235 then Some Active else None)

-- the group that a request asks for, its low byte first (J1939-21, 5.4.2)
abbrev pub cleared_at : List ℕ → Option Kind
cleared_at (first ∷ second ∷ third ∷ more) = cleared_by (first + 256 * second + 65536 * third)
cleared_at _ = None

-- which codes a message asks to clear, if any
unfoldable pub cleared_in : ℕ → List ℕ → Option Kind
cleared_in pgn bytes = if pgn == request_group then cleared_at bytes else None
