-- The interfaces of a log: which there are, and the frames and stamps of each.
use Rattle.std.specs.Prelude.{ℕ, ◌+◌, List, [], ◌∷◌, Bool, not, Option, Some, None, length, map, take, count_by, nat_lt, if◌then◌else◌}
use Rattle.std.specs.List.{filter_map, list_any}
use Rattle.std.specs.Str.{bytes_eq}
use Rattle.j39_listen.specs.Counting.{capped, one_if}
use Rattle.j39_survey.specs.Firsts.{firsts}
use Rattle.j39_survey.specs.LogLines.{Seen}

-- an interface: its frames, its first and its last stamp, and how many stamps are below the one before
pub record InterfaceRecord : Type 0 where
  pub name : List ℕ
  pub frames : ℕ
  pub first : ℕ
  pub last : ℕ
  pub back : ℕ

abbrev pub stamp_on : List ℕ → Seen → Option ℕ
stamp_on name s = if bytes_eq s.bus name then Some s.content.stamp else None

-- the stamps of an interface, in order
abbrev pub stamps_on : List ℕ → List Seen → List ℕ
stamps_on name seen = filter_map (stamp_on name) seen

-- the first of some stamps, and 0 of none
abbrev pub first_of : List ℕ → ℕ
first_of [] = 0
first_of (x ∷ xs) = x

-- the last of these stamps behind x
abbrev pub last_behind : ℕ → List ℕ → ℕ
last_behind x [] = x
last_behind x (y ∷ ys) = last_behind y ys

abbrev pub last_of : List ℕ → ℕ
last_of xs = last_behind 0 xs

-- how many of these stamps behind x are below the one before
abbrev pub falls_behind : ℕ → List ℕ → ℕ
falls_behind x [] = 0
falls_behind x (y ∷ ys) = one_if (nat_lt y x) + falls_behind y ys

abbrev pub falls_in : List ℕ → ℕ
falls_in [] = 0
falls_in (x ∷ xs) = falls_behind x xs

abbrev pub of_stamps : List ℕ → List ℕ → InterfaceRecord
of_stamps name stamps = record {
  name = name;
  frames = capped (length stamps);
  first = first_of stamps;
  last = last_of stamps;
  back = capped (falls_in stamps);
}

unfoldable pub interface_of : List Seen → List ℕ → InterfaceRecord
interface_of seen name = of_stamps name (stamps_on name seen)

-- the interfaces, in the order in which they come first
abbrev pub names_in : List Seen → List (List ℕ)
names_in seen = firsts bytes_eq (map (λ s. s.bus) seen)

-- the first sixteen of them are told (own)
unfoldable pub told_in : List Seen → List (List ℕ)
told_in seen = take 16 (names_in seen)

-- what is told of them
abbrev pub interfaces_of : List Seen → List InterfaceRecord
interfaces_of seen = map (interface_of seen) (told_in seen)

-- how many frames are of none of these interfaces
abbrev pub elsewhere : List (List ℕ) → List Seen → ℕ
elsewhere names seen = count_by (λ s. not (list_any (bytes_eq s.bus) names)) seen

-- how many are of an interface that is not told
abbrev pub untold_in : List Seen → ℕ
untold_in seen = elsewhere (told_in seen) seen
