-- What a watch shows (own): on each screen the faults that are there, and the last value of each parameter of each controller
-- that is on the bus, of what is asked for.
use Rattle.std.specs.Prelude.{◌≡◌, ◌==◌, ◌&&◌, ◌⊎◌, ◌++◌, ◌∷◌, ◌-◌, ◌/◌, ◌%◌, [], not, ℕ, zero, suc, Bool, true, false, List, Option, Some, None, if◌then◌else◌, codes, decimal, drop, filter, get_or, is_some, length, map, nat_le, replicate, reverse, take, unwrap_or}
use Rattle.std.specs.List.{flat_map, prefix_len}
use Rattle.std.specs.Option.{option_or}
use Rattle.hex.specs.Hex.{encode_upper}
use Rattle.j39_address.specs.Claim.{claims_of}
use Rattle.j39_address.specs.Holder.{IsHolderAfter}
use Rattle.j39_frame.specs.Frame.{FrameRecord}
use Rattle.j39_frame.specs.Origin.{is_same_or_none}
use Rattle.j39_groups.specs.Names.{name_in as parameter_in, state_in}
use Rattle.j39_groups.specs.Row.{RowRecord}
use Rattle.j39_groups.specs.Value as value
use Rattle.j39_groups.specs.Value.{ValueRecord}
use Rattle.j39_groups.specs.ValueText.{value_text}
use Rattle.j39_listen.specs.Asking.{AsksForBoxes, Wanting}
use Rattle.j39_listen.specs.Counting.{capped}
use Rattle.j39_listen.specs.Filter.{FilterRecord, first_stamp, in_time, messages_taken}
use Rattle.j39_listen.specs.Heard.{AreHeard, AreHeardWith, Hearing}
use Rattle.j39_listen.specs.Output.{Making}
use Rattle.j39_listen.specs.Report.{Entry, entries_of, name_text}
use Rattle.j39_names.specs.Naming.{NamingRecord, own_name}
use Rattle.j39_names.specs.declared.naming.Kind.TheVariants.{Parameter}
use Rattle.j39_fault_reports.specs.FaultRows.{saying_text}
use Rattle.j39_fault_reports.specs.Faults.{Saying, active_or_lights, clears, lights, says}
use Rattle.j39_fault_reports.specs.FaultsNow.{Told, lit, named, now_taken, told_now}
use Rattle.j39_fault_reports.specs.Spoken.{active_among}
use Rattle.j39_fault_reports.specs.FaultsNowRun.{IsFirstActive}
use Rattle.j39_fault_reports.specs.News.{is_fault_group}
use Rattle.j39_faults.specs.declared.lamps.Lamps.{Lamps}
use Rattle.j39_faults.specs.declared.lamps.LampState.{LampState}
use Rattle.j39_faults.specs.declared.lamps.LampState.TheVariants.{NotAvailable, Off, On, Reserved}
use Rattle.j39_listen.specs.declared.format.Clock.{Clock}
use Rattle.j39_rows.specs.Row.{moment_text as clock_text}
use Rattle.j39_watch.specs.declared.severity.Severity.{Severity}
use Rattle.j39_watch.specs.declared.severity.Severity.TheVariants.{Plain, Stop, Warning}
use Rattle.j39_reports.specs.Summary.{firsts, last_of, values_like}
use Rattle.j39_reports.specs.SummaryRun.{AsksForRow}

-- ---- who is there

-- each address is held by this NAME after F, or by nobody
abbrev pub AreHolders : List FrameRecord → (ℕ → Option ℕ) → Type 0
AreHolders F holder = (a : ℕ) → IsHolderAfter (claims_of F) a (holder a)

-- a controller is on the bus while its NAME holds its address; one without a NAME, while nobody does
abbrev pub is_there : (ℕ → Option ℕ) → ℕ → Option ℕ → Bool
is_there holder address name = is_same_or_none name (holder address)

-- ---- values

-- a second, and half a second, in microseconds
abbrev pub second : ℕ
second = 1000000

abbrev pub half : ℕ
half = 500000

abbrev pub is_in : ℕ → Entry → Bool
is_in s e = e.stamp / second == s

-- how many came in the second before this one: back from the last, behind those of this second, those of the one before
abbrev pub came : ℕ → List Entry → ℕ
came zero es = 0
came (suc s) es = prefix_len (is_in s) (drop (prefix_len (is_in (suc s)) (reverse es)) (reverse es))

-- the last value of a parameter of a controller, and how many came in the second before that of this moment (a count that would
-- pass 2^64 - 1 stays there)
pub record Latest : Type 0 where
  pub entry : Entry
  pub came : ℕ

abbrev pub latest_of : ℕ → List Entry → Entry → Latest
latest_of now entries first = record {
  entry = last_of first (values_like first entries);
  came = capped (came (now / second) (values_like first entries));
}

-- of the messages that are asked for
abbrev pub entries_asked : List RowRecord → FilterRecord → ℕ → List Hearing → List Entry
entries_asked groups which first heard = flat_map (entries_of groups) (messages_taken which first heard)

-- of the controllers that are there, in the order of their first values
abbrev pub latest_in : (ℕ → Option ℕ) → ℕ → List Entry → List Latest
latest_in holder now entries =
    map (latest_of now entries) (filter (λ e. is_there holder e.address e.name) (firsts entries))

-- ---- faults

-- what is asked for of them, as `faults --now` tells it
abbrev pub faults_asked : FilterRecord → ℕ → List Hearing → List Told
faults_asked which first heard = now_taken which first (told_now [] (in_time which first (active_among heard)))

-- the lamps and codes of the controllers that are there
abbrev pub is_shown : (ℕ → Option ℕ) → Told → Bool
is_shown holder (lit f) = is_there holder f.address f.name
is_shown holder (named n) = is_there holder n.address n.name && is_some n.code

abbrev pub faults_shown : (ℕ → Option ℕ) → List Told → List Told
faults_shown holder faults = filter (is_shown holder) faults

-- ---- lines

-- a text, and how grave it is
pub record Line : Type 0 where
  pub severity : Severity
  pub text : List ℕ

abbrev pub plain : List ℕ → Line
plain text = record { severity = Plain; text = text }

abbrev pub is_on : LampState → Bool
is_on On = true
is_on Off = false
is_on Reserved = false
is_on NotAvailable = false

-- the red lamp says stop, the amber one warns
abbrev pub severity_by : Lamps → Severity
severity_by lamps = if is_on lamps.red.state then Stop else (if is_on lamps.amber.state then Warning else Plain)

abbrev pub severity_of : Saying → Severity
severity_of (lights lamps) = severity_by lamps
severity_of (says how lamps code) = severity_by lamps
severity_of (clears kind) = Plain

-- an error warns
abbrev pub severity_in : ValueRecord → Severity
severity_in value.error = Warning
severity_in (value.number n slot) = Plain
severity_in value.on = Plain
severity_in value.off = Plain
severity_in value.reserved = Plain
severity_in value.indicator = Plain
severity_in (value.text bytes) = Plain

-- the destination behind the address, where there is one
abbrev pub destination_text : Option ℕ → List ℕ
destination_text None = []
destination_text (Some address) = codes ">" ++ encode_upper (address ∷ [])

-- what a parameter is called by one's own name, or else by the table; or a dash
abbrev pub called_in : NamingRecord → ℕ → ℕ → List ℕ
called_in naming pgn spn = unwrap_or (option_or (own_name naming.own Parameter spn) (parameter_in naming.rows pgn spn)) (codes "-")

-- behind it the name of a state, if it has one
abbrev pub state_behind : Option (List ℕ) → List ℕ
state_behind None = []
state_behind (Some words) = codes " = " ++ words

abbrev pub spaces : ℕ → List ℕ
spaces n = replicate n 0x20

-- a text in a column of this width, and a space
abbrev pub column : ℕ → List ℕ → List ℕ
column width text = text ++ (spaces (width - length text) ++ codes " ")

-- how old a value is at this moment, in tenths of a second
abbrev pub tenths : ℕ → ℕ → ℕ
tenths now stamp = (now - stamp) / 100000

abbrev pub age_text : ℕ → List ℕ
age_text n = decimal (n / 10) ++ codes "." ++ decimal (n % 10) ++ codes "s"

-- the address, with the destination, where there is one, and the NAME
unfoldable pub controller_columns : ℕ → Option ℕ → Option ℕ → List ℕ
controller_columns address destination name =
    column 5 (encode_upper (address ∷ []) ++ destination_text destination) ++ column 16 (name_text name)

-- the controller, PGN, SPN, the value, its age, how many came, what the parameter is called
unfoldable pub value_text_line : NamingRecord → ℕ → Latest → List ℕ
value_text_line naming now l =
    controller_columns l.entry.address l.entry.destination l.entry.name
    ++ column 6 (decimal l.entry.pgn) ++ column 6 (decimal l.entry.spn) ++ column 14 (value_text l.entry.value)
    ++ column 6 (age_text (tenths now l.entry.stamp)) ++ column 5 (decimal l.came ++ codes "/s")
    ++ called_in naming l.entry.pgn l.entry.spn ++ state_behind (state_in naming.rows l.entry.pgn l.entry.spn l.entry.value)

abbrev pub value_line : NamingRecord → ℕ → Latest → Line
value_line naming now l = record { severity = severity_in l.entry.value; text = value_text_line naming now l }

-- the controller, how long ago its last message came, and what a line of `faults` says of it
abbrev pub fault_line : NamingRecord → ℕ → ℕ → Option ℕ → ℕ → Saying → Line
fault_line naming now address name stamp saying = record {
  severity = severity_of saying;
  text = controller_columns address None name ++ column 5 (age_text (tenths now stamp)) ++ saying_text naming saying;
}

unfoldable pub fault_shown_line : NamingRecord → ℕ → Told → Line
fault_shown_line naming now (lit f) = fault_line naming now f.address f.name f.stamp f.saying
fault_shown_line naming now (named n) = fault_line naming now n.address n.name n.last (active_or_lights n.lamps n.code)

-- when the last frame came
abbrev pub moment_text : Clock → ℕ → List ℕ
moment_text clock now = codes "last frame at " ++ clock_text clock now

-- the moment, the faults, and the values
abbrev pub screen_lines : Clock → NamingRecord → (ℕ → Option ℕ) → ℕ → List Entry → List Told → List Line
screen_lines clock naming holder now entries faults =
    plain (moment_text clock now) ∷ (map (fault_shown_line naming now) (faults_shown holder faults)
    ++ map (value_line naming now) (latest_in holder now entries))

-- ---- a screen

-- how many lines it has, how many bytes a line at most, whether in colours, and how it tells the moment
pub record Size : Type 0 where
  pub rows : ℕ
  pub width : ℕ
  pub is_coloured : Bool
  pub clock : Clock

abbrev pub escape : ℕ
escape = 0x1B

-- the cursor goes to the first column of the first line (ECMA-48, CUP)
abbrev pub home : List ℕ
home = escape ∷ codes "[H"

-- yellow and red (SGR), and then no colour
abbrev pub colour_on : Severity → List ℕ
colour_on Plain = []
colour_on Warning = escape ∷ codes "[33m"
colour_on Stop = escape ∷ codes "[31m"

abbrev pub colour_off : Severity → List ℕ
colour_off Plain = []
colour_off Warning = escape ∷ codes "[0m"
colour_off Stop = escape ∷ codes "[0m"

-- what stands behind a line is erased (EL), and then what stands below the last (ED)
abbrev pub line_end : List ℕ
line_end = escape ∷ codes "[K\n"

abbrev pub below_end : List ℕ
below_end = escape ∷ codes "[J"

-- a byte of a letter that isn't its first (UTF-8: 80 to BF)
abbrev pub is_inside : ℕ → Bool
is_inside byte = byte / 64 == 2

-- where a line of at most so many bytes is cut: before a letter that doesn't fit whole
unfoldable pub letter_end : ℕ → List ℕ → ℕ
letter_end zero line = 0
letter_end (suc n) line = if is_inside (get_or line (suc n) 0) then letter_end n line else suc n

abbrev pub colour_of : Size → Line → Severity
colour_of size line = if size.is_coloured then line.severity else Plain

-- a line, cut, in its colour
abbrev pub row_shown : Size → Line → List ℕ
row_shown size line =
    colour_on (colour_of size line)
    ++ (take (letter_end size.width line.text) line.text ++ (colour_off (colour_of size line) ++ line_end))

abbrev pub more_text : ℕ → List ℕ
more_text n = decimal n ++ codes " more"

-- what stands on so many rows: all lines, or the first and how many more there are
abbrev pub fitted : ℕ → List Line → List Line
fitted rows lines =
    if nat_le (length lines) rows then lines
    else take rows (take (rows - 1) lines ++ plain (more_text (capped (length lines) - (rows - 1))) ∷ [])

abbrev pub rows_text : Size → List Line → List ℕ
rows_text size lines = flat_map (row_shown size) (fitted size.rows lines)

abbrev pub screen_text : Size → List Line → List ℕ
screen_text size lines = home ++ (rows_text size lines ++ below_end)

-- the stamp of the first of some frames, if there is one; frames that are turned round have their last first
abbrev pub newest : List FrameRecord → Option ℕ
newest [] = None
newest (f ∷ back) = Some f.stamp

-- the stamp of the last frame, or 0
abbrev pub last_stamp : List FrameRecord → ℕ
last_stamp F = unwrap_or (newest (reverse F)) 0

-- the screen behind the frames F of these groups, by these names, and how many messages were heard whose values may stand on it
pub record IsScreen (naming : NamingRecord) (groups : List RowRecord) (which : FilterRecord) (size : Size) (F : List FrameRecord) (text : List ℕ) (messages lines : ℕ) : Type 0 where
  pub heard : List Hearing
  pub are_heard : AreHeard groups F heard
  pub faults : List Hearing
  pub are_faults : AreHeardWith is_fault_group F faults
  pub holder : ℕ → Option ℕ
  pub are_holders : AreHolders F holder
  pub messages_are : messages ≡ length heard
  pub shown : List Line
  pub shown_are : shown ≡ screen_lines size.clock naming holder (last_stamp F) (entries_asked groups which (first_stamp F) heard)
      (faults_asked which (first_stamp F) faults)
  pub text_is : text ≡ screen_text size shown
  pub lines_are : lines ≡ length (fitted size.rows shown)

-- ---- when

-- behind a frame with the first stamp, if there is one, a frame with the second begins another half second
abbrev pub is_due : Option ℕ → ℕ → Bool
is_due None stamp = true
is_due (Some before) stamp = not (before / half == stamp / half)

abbrev pub is_due_at : List FrameRecord → Bool
is_due_at [] = false
is_due_at (f ∷ back) = is_due (newest back) f.stamp

-- the last frame of F is the first, or begins another half second than the one before it
abbrev pub begins_half : List FrameRecord → Bool
begins_half F = is_due_at (reverse F)

-- what is written behind the frames F: a screen, or nothing
abbrev pub IsDrawn : NamingRecord → List RowRecord → FilterRecord → Size → Bool → List FrameRecord → List ℕ → Type 0
IsDrawn naming groups which size false F text = text ≡ []
IsDrawn naming groups which size true F text = (messages : ℕ) × (lines : ℕ) × IsScreen naming groups which size F text messages lines

-- at the first n frames of F
abbrev pub AreDrawn : NamingRecord → List RowRecord → FilterRecord → Size → List FrameRecord → ℕ → List ℕ → Type 0
AreDrawn naming groups which size F zero text = text ≡ []
AreDrawn naming groups which size F (suc n) text =
    (before : List ℕ) × (now : List ℕ) × AreDrawn naming groups which size F n before
    × IsDrawn naming groups which size (begins_half (take (suc n) F)) (take (suc n) F) now × (text ≡ before ++ now)

-- a screen at each frame that begins half a second, and one at the end
abbrev pub MakesWatch : NamingRecord → List RowRecord → FilterRecord → Size → Making
MakesWatch naming groups which size bus F output =
    (before : List ℕ) × (last : List ℕ) × AreDrawn naming groups which size F (length F) before
    × IsScreen naming groups which size F last output.messages output.lines × (output.text ≡ before ++ last)

-- where it may want memory: for a message in packets, for a value that is asked for and is the first of its origin, or a text, and
-- for the first DM1 of an address
abbrev pub AsksForWatch : List RowRecord → FilterRecord → Wanting
AsksForWatch groups which F frame = AsksForBoxes F frame ⊎ (AsksForRow which groups F frame ⊎ IsFirstActive which F frame)
