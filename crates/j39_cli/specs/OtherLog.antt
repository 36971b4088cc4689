-- FILEs that are no log of candump, known by their first bytes, and what is told of them (own).
use Rattle.std.specs.Prelude.{◌∷◌, ℕ, List, [], Option, None, Some, codes, if◌then◌else◌, nat_eq}
use Rattle.std.specs.List.{starts_with}
use Rattle.j39_cli.specs.Refusal.{error_line}
use Rattle.j39_cli.specs.declared.other_log.OtherLog.{OtherLog}
use Rattle.j39_cli.specs.declared.other_log.OtherLog.TheVariants.{Asc, Blf, Gzip, Mdf, Pcap, SavvyCan, Trc, Xz, Zstandard}

-- gzip (RFC 1952), Zstandard (RFC 8878), xz; ASC and BLF of Vector, TRC of PEAK, MDF of ASAM, captures of packets with the number of a
-- file in either order of bytes or in blocks, and what SavvyCAN saves
abbrev pub other_log : List ℕ → Option OtherLog
other_log front =
    if starts_with nat_eq front (31 ∷ 139 ∷ []) then Some Gzip
    else if starts_with nat_eq front (40 ∷ 181 ∷ 47 ∷ 253 ∷ []) then Some Zstandard
    else if starts_with nat_eq front (253 ∷ 55 ∷ 122 ∷ 88 ∷ 90 ∷ 0 ∷ []) then Some Xz
    else if starts_with nat_eq front (codes "date ") then Some Asc
    else if starts_with nat_eq front (codes "LOGG") then Some Blf
    else if starts_with nat_eq front (codes ";$FILEVERSION=") then Some Trc
    else if starts_with nat_eq front (codes "MDF     ") then Some Mdf
    else if starts_with nat_eq front (codes "Time Stamp,ID,Extended,") then Some SavvyCan
    else if starts_with nat_eq front (212 ∷ 195 ∷ 178 ∷ 161 ∷ []) then Some Pcap
    else if starts_with nat_eq front (161 ∷ 178 ∷ 195 ∷ 212 ∷ []) then Some Pcap
    else if starts_with nat_eq front (10 ∷ 13 ∷ 13 ∷ 10 ∷ []) then Some Pcap
    else None

-- what it is, and how it becomes one
abbrev pub other_words : OtherLog → List ℕ
other_words Gzip = codes " is packed by gzip: zcat unpacks it"
other_words Zstandard = codes " is packed by zstd: zstdcat unpacks it"
other_words Xz = codes " is packed by xz: xzcat unpacks it"
other_words Asc = codes " is an ASC log: can_logconvert turns it into a .log"
other_words Blf = codes " is a BLF log: can_logconvert turns it into a .log"
other_words Trc = codes " is a TRC log: can_logconvert turns it into a .log"
other_words Mdf = codes " is an MDF log: can_logconvert turns it into a .log"
other_words SavvyCan = codes " is a CSV log: SavvyCAN saves it as one of candump"
other_words Pcap = codes " is a capture of packets: SavvyCAN saves it as a log of candump"

-- of a FILE
abbrev pub other_line : List ℕ → Option OtherLog → List ℕ
other_line file None = []
other_line file (Some kind) = error_line file (other_words kind)
