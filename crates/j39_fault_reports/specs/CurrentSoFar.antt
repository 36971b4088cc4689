-- The steps of a run that tells which faults are there now: nothing is written before its end.
use Rattle.std.specs.Prelude.{◌≡◌, ◌+◌, ◌++◌, ◌∷◌, [], ◌<◌, ℕ, zero, suc, List, Option, Some, None, length, map, option_map}
use Rattle.j39_frame.specs.Frame.{FrameRecord}
use Rattle.j39_frame.specs.Stamp.{stamp_micros}
use Rattle.j39_faults.specs.LampBits.{lamps_of}
use Rattle.j39_faults.specs.declared.code.Code.{Code}
use Rattle.j39_faults.specs.declared.conversion.Conversion.{Conversion}
use Rattle.j39_faults.specs.declared.lamps.Lamps.{Lamps}
use Rattle.j39_listen.specs.Counting.{capped}
use Rattle.j39_listen.specs.Chooses.{Chooses}
use Rattle.j39_listen.specs.Filter.{FilterRecord, first_stamp as stamp_of_first, in_time}
use Rattle.j39_listen.specs.Heard.{AreHeardWith, Hearing, HeardAtWith, or_none}
use Rattle.j39_listen.specs.Listening.{Hears}
use Rattle.j39_listen.specs.Output.{Output, nothing}
use Rattle.j39_listen.specs.declared.format.Format.{Format}
use Rattle.j39_listen.specs.declared.listener.Listener.{Listener}
use Rattle.j39_fault_reports.specs.Faults.{Fault, Manner, Saying, codes_or_none, lights_since}
use Rattle.j39_fault_reports.specs.CurrentPlaces.{LastRecord, LastActives, StandingRecord, at, name_in}
use Rattle.j39_fault_reports.specs.Places.{IsKept}
use Rattle.j39_fault_reports.specs.FaultsNow.{Now, Told, codes_in, earliest, lit, named, naming, now_taken}
use Rattle.j39_fault_reports.specs.Silence.{last_stamp}
use Rattle.j39_fault_reports.specs.Spoken.{active_among, spoken_in}
use Rattle.j39_fault_reports.specs.FaultsSoFar.{IsBroken, announced_in, manner_of, with_either, with_frame}
use Rattle.j39_fault_reports.specs.News.{is_fault_group}
use Rattle.j39_fault_reports.specs.declared.fault_news.announced.Announced.{Announced}
use Rattle.j39_fault_reports.specs.declared.current_faults.account.FaultsNow.{FaultsNow}

-- ---- what it stands for

-- a code of a message, behind those of its controller before
abbrev pub standing_of : List Conversion → Hearing → List Hearing → Option Code → StandingRecord
standing_of conversions m before code = record {
  code = code;
  since = earliest m.stamp (naming conversions code before);
  often = capped (length (naming conversions code before) + 1);
}

-- of its last message
abbrev pub kept_of : List Conversion → Hearing → List Hearing → Lamps → LastRecord
kept_of conversions m before lamps = record {
  name = m.name;
  stamp = m.stamp;
  destination = m.destination;
  pgn = m.message.pgn;
  lamps = lamps;
  standings = map (standing_of conversions m before) (codes_or_none (codes_in conversions m));
}

abbrev pub IsLast : List Conversion → Hearing → List Hearing → LastRecord → Type 0
IsLast conversions m before last =
    (lamps : Lamps) × (lamps_of m.message.bytes ≡ Some lamps) × (last ≡ kept_of conversions m before lamps)

-- of these messages
pub record AreKept (conversions : List Conversion) (places : LastActives) (ms : List Hearing) : Type 0 where
  pub places_are : length places ≡ 256
  pub each : (a : ℕ) → a < 256 → IsKept name_in (IsLast conversions) (spoken_in ms a) (at places a)

-- ---- what is written of it

abbrev pub now_shown : ℕ → LastRecord → StandingRecord → Now
now_shown a last s = record {
  since = s.since;
  last = last.stamp;
  often = s.often;
  address = a;
  destination = last.destination;
  name = last.name;
  pgn = last.pgn;
  lamps = last.lamps;
  code = s.code;
}

abbrev pub nows_shown : ℕ → Option LastRecord → List Now
nows_shown a None = []
nows_shown a (Some last) = map (now_shown a last) last.standings

-- what its message says
abbrev pub said_here : ℕ → LastRecord → Saying → Fault
said_here a last saying = record {
  stamp = last.stamp;
  address = a;
  destination = last.destination;
  name = last.name;
  pgn = last.pgn;
  saying = saying;
}

abbrev pub lights_shown : ℕ → Option LastRecord → List Fault
lights_shown a None = []
lights_shown a (Some last) = lights_since [] last.lamps (said_here a last)

abbrev pub told_shown : ℕ → Option LastRecord → List Told
told_shown a place = map (λ f. lit f) (lights_shown a place) ++ map (λ n. named n) (nows_shown a place)

-- at the places below n
unfoldable pub told_so_far : LastActives → ℕ → List Told
told_so_far places zero = []
told_so_far places (suc n) = told_so_far places n ++ told_shown n (at places n)

-- those that are asked for
abbrev pub taken_below : FilterRecord → ℕ → LastActives → ℕ → List Told
taken_below which first places n = now_taken which first (told_so_far places n)

-- ---- one frame more

-- behind the frames F this is heard at the frame f, and between the moments taken to the messages before
pub record TakesFrame (which : FilterRecord) (conversions : List Conversion) (F : List FrameRecord) (f : FrameRecord) (l' : Listener)
    (places : LastActives) (a a' : Announced) (ms : List Hearing) (messages : ℕ) : Type 0 where
  pub heard : Option Hearing
  pub heard_at : HeardAtWith is_fault_group (F ++ f ∷ []) (length F) heard
  pub hears : Hears l' (F ++ f ∷ [])
  pub announced_is : a' ≡ with_either (with_frame a f) heard
  pub are_kept : AreKept conversions places (ms ++ in_time which (stamp_of_first (F ++ f ∷ [])) (active_among (or_none heard)))
  pub messages_are : messages ≡ length (active_among (or_none heard))

-- the table of parameters and those that are asked for, the versions of the conversion, and what is asked for
pub record NowSubject : Type 0 where
  pub manner : Manner
  pub conversions : List Conversion
  pub which : FilterRecord

-- the faults in F were kept, to be told in this form, by this table
pub record HasKept (form : Format) (s : NowSubject) (account : FaultsNow) (F : List FrameRecord) (output : Output) : Type 0 where
  pub form_is : account.writing.form ≡ form
  pub by : manner_of account.writing ≡ s.manner
  pub conversions_are : account.conversions.now ≡ s.conversions
  pub chooses : Chooses s.which account.chooser F
  pub heard : List Hearing
  pub are_heard : AreHeardWith is_fault_group F heard
  pub hears : Hears account.listener F
  pub are_kept : AreKept s.conversions account.places (in_time s.which (stamp_of_first F) (active_among heard))
  pub messages_are : account.messages ≡ capped (length (active_among heard))
  pub announced_is : account.announced ≡ announced_in F heard
  pub last_is : option_map stamp_micros account.last ≡ last_stamp s.which F
  pub nothing_yet : output ≡ nothing

-- so many messages of codes were broken in the frames whose faults are kept
abbrev pub KnowsBrokenNow : FaultsNow → ℕ → Type 0
KnowsBrokenNow account n = (form : Format) (s : NowSubject) (F : List FrameRecord) (output : Output)
    → HasKept form s account F output → IsBroken F n
